use Rattle.std.proofs.Common.{◌≡◌, subst}
use Rattle.session_rules.specs.Uploads.{OpenLoadView, next_number, next_with}
use Rattle.load_intake.specs.Places.{next_seen}
use Rattle.load_intake.specs.States.{upload_of}
use Rattle.load_intake.proofs.open_load.OpenLoad.next_in.Goals as goal

pub returns : goal.returns
returns c current =
    let h = rw c.len.ensures at c.next_after.ensures current in
    subst (λ (l : OpenLoadView). next_seen c.next_after.result ≡ next_with (upload_of c.args.whole.now current) l.header (next_number l)) c.self.view_is h
