use Rattle.std.proofs.Common.{◌≡◌, IfOk, sym, ap, subst, ◌∙◌}
use Rattle.session_rules.specs.TargetRows.{Reads_file, done_move, row_moved, view_moved}
use Rattle.load_intake.specs.Contents.{BringsRow, IsOf}
use Rattle.load_intake.specs.declared.place.Place.{Place}
use Rattle.load_intake.specs.Intakes.{row_seen}
use Rattle.load_intake.specs.Kept.{intake_at}
use Rattle.load_intake.specs.Places.{arriving_at, open_load}
use Rattle.load_intake.specs.States.{IntakeState}
use Rattle.load_intake.proofs.Held.{intake_is}
use Rattle.load_intake.proofs.intake.Intake.finish.Goals as goal

pub returns-in-Header-clause-row : goal.returns-in-Header-clause-row
returns-in-Header-clause-row g c accepts follows active has =
    let is = ap (λ (p : Place). intake_at c.self.inside.whole (open_load p) (arriving_at p)) (sym c.in-Header.is) ∙ (intake_is c.self.inside.whole c.self.inside.place _ c.self.invariant ∙ c.self.view_is) in
    subst (λ (st : IntakeState). IfOk c.header_arrived.result (λ f. row_seen f ≡ view_moved (Reads_file st.upload) st.arriving (done_move accepts active (Reads_file st.upload) st.arriving))) is
    (c.header_arrived.ensures.row accepts follows active has)

pub returns-in-File-clause-row : goal.returns-in-File-clause-row
returns-in-File-clause-row g c accepts follows active has =
    let is = ap (λ (p : Place). intake_at c.self.inside.whole (open_load p) (arriving_at p)) (sym c.in-File.is) ∙ (intake_is c.self.inside.whole c.self.inside.place _ c.self.invariant ∙ c.self.view_is) in
    subst (λ (st : IntakeState). IfOk c.file_arrived.result (λ f. row_seen f ≡ view_moved (Reads_file st.upload) st.arriving (done_move accepts active (Reads_file st.upload) st.arriving))) is
    (c.file_arrived.ensures.row accepts active)

pub returns-in-Header-clause-brings : goal.returns-in-Header-clause-brings
returns-in-Header-clause-brings g c = λ accepts follows active has s u arrived is installs.
    let same = ap (λ (p : Place). intake_at c.self.inside.whole (open_load p) (arriving_at p)) (sym c.in-Header.is) ∙ (intake_is c.self.inside.whole c.self.inside.place _ c.self.invariant ∙ c.self.view_is) in
    subst (λ (st : IntakeState). IsOf st u arrived → BringsRow (g.K.Disk.state c.args.disk.now) c.header_arrived.new.store (g.K.Disk.state c.header_arrived.new.disk) s (row_moved (Reads_file u) arrived (done_move accepts active (Reads_file st.upload) st.arriving)) c.header_arrived.result) same
    (λ of. c.header_arrived.ensures.brings accepts follows active has s u arrived of installs) is

pub returns-in-File-clause-brings : goal.returns-in-File-clause-brings
returns-in-File-clause-brings g c = λ accepts follows active has s u arrived is installs.
    let same = ap (λ (p : Place). intake_at c.self.inside.whole (open_load p) (arriving_at p)) (sym c.in-File.is) ∙ (intake_is c.self.inside.whole c.self.inside.place _ c.self.invariant ∙ c.self.view_is) in
    subst (λ (st : IntakeState). IsOf st u arrived → BringsRow (g.K.Disk.state c.args.disk.now) c.file_arrived.new.store (g.K.Disk.state c.file_arrived.new.disk) s (row_moved (Reads_file u) arrived (done_move accepts active (Reads_file st.upload) st.arriving)) c.file_arrived.result) same
    (λ of. c.file_arrived.ensures.brings accepts active s u arrived of installs) is
