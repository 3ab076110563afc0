use Rattle.std.proofs.Common.{◌≤◌, ap, subst}
use Rattle.session_rules.specs.Buffers.{buffer_size}
use Rattle.load_intake.specs.Places.{arriving_at, open_load}
use Rattle.load_intake.specs.States.{IntakeState}
use Rattle.load_intake.proofs.Held.{file_holds}
use Rattle.load_intake.proofs.intake.Intake.keeps_little.Goals as goal

pub returns-in-File-clause-held : goal.returns-in-File-clause-held
returns-in-File-clause-held c =
    let i = c.self.inside in
    subst (λ (st : IntakeState). st.held ≤ buffer_size) c.self.view_is
    (file_holds i.whole i.place c.in-File.field-0 c.in-File.field-1 _ (ap open_load c.in-File.is) (ap arriving_at c.in-File.is) c.self.invariant)
