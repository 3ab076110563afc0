use Rattle.loader_cli.proofs.OneAnswer.{put_alike}
use Rattle.loader_cli.proofs.laws.two_calls_put_the_same.Goals as goal

pub returns : goal.returns
returns g c =
    λ one two first second words files image is so.
    put_alike c.a_run_is_fixed_by_its_script.ensures.whole c.a_run_is_fixed_by_its_script.ensures.active c.command_laws.ensures.images c.command_laws.ensures.formers c.command_laws.ensures.shows _ _ first second words files image is so
    (record { not_both = c.command_laws.ensures.images.not_both; reads_now = g.met.K.Disk.reads_now one.disk_after })
    (record { not_both = c.command_laws.ensures.images.not_both; reads_now = g.met.K.Disk.reads_now two.disk_after })
