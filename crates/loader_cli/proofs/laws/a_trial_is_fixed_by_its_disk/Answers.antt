use Rattle.loader_cli.specs.FixedOutputs.{GivesTrial}
use Rattle.loader_cli.proofs.OneOutput.{one_trial, put_the_same, trial_puts_only}
use Rattle.loader_cli.proofs.laws.a_trial_is_fixed_by_its_disk.Goals as goal

pub returns-clause-puts : goal.returns-clause-puts
returns-clause-puts g c =
    λ call ended number image is.
    trial_puts_only c.a_run_is_fixed_by_its_script.ensures.whole c.a_run_is_fixed_by_its_script.ensures.active _ ended number image is
    (record { not_both = c.an_image_holds_one_configuration.ensures.not_both; reads_now = g.met.K.Disk.reads_now call.disk_after })

pub returns-clause-one : goal.returns-clause-one
returns-clause-one g c =
    λ number image a b s t. one_trial (record {
      not_both = c.an_image_holds_one_configuration.ensures.not_both;
      one_standing = c.an_image_holds_one_configuration.ensures.one_standing;
      one_fault = c.an_image_holds_one_configuration.ensures.one_fault;
    }) number image a b s t

pub returns-clause-same : goal.returns-clause-same
returns-clause-same g c =
    λ one two first second number image is is_2.
    put_the_same (GivesTrial number image) (returns-clause-one g c number image) _ _ first second (returns-clause-puts g c one first number image is) (returns-clause-puts g c two second number image is_2)
