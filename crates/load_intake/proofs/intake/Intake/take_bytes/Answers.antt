use Rattle.std.proofs.Common.{◌++◌, OnOk, ap, subst, sym, ◌∙◌}
use Rattle.session_rules.specs.Uploads.{UploadView}
use Rattle.load_intake.specs.Kept.{current_load, files_missing}
use Rattle.load_intake.specs.Places.{arriving_at, open_load}
use Rattle.load_intake.specs.States.{IntakeState}
use Rattle.load_intake.specs.Stores.{IsInStep, StaysInStep}
use Rattle.load_intake.proofs.Held.{empty_is, intake_is, intake_seen}
use Rattle.load_intake.proofs.Taking.{may_take, stays_more}
use Rattle.load_intake.proofs.intake.Intake.take_bytes.Goals as goal

pub add_bytes-requires-clause-may_take : goal.add_bytes-requires-clause-may_take
add_bytes-requires-clause-may_take g c =
    let i = c.self.inside in
    let step = subst (λ (st : IntakeState). IsInStep st c.args.store.now) (sym (intake_is i.whole i.place _ c.self.invariant ∙ c.self.view_is)) c.requires.in_step in
    may_take i.whole (open_load i.place) (arriving_at i.place) c.args.store.now (intake_seen i.whole i.place _ c.self.invariant) step

pub returns-clause-in_step : goal.returns-clause-in_step
returns-clause-in_step g c =
    let i = c.self.inside in
    let step = subst (λ (st : IntakeState). IsInStep st c.args.store.now) (sym (intake_is i.whole i.place _ c.self.invariant ∙ c.self.view_is)) c.requires.in_step in
    subst (λ (st : IntakeState). OnOk c.add_bytes.result (StaysInStep st c.args.store.now c.add_bytes.new.store (g.K.Disk.state c.args.disk.now) (g.K.Disk.state c.add_bytes.new.disk))) (empty_is i.whole c.add_bytes.new.self (c.add_bytes.ensures.place.waits c.self.invariant.holds))
    (stays_more c.add_bytes.result i.whole (open_load i.place) (open_load c.add_bytes.new.self) (arriving_at i.place) (arriving_at c.add_bytes.new.self) c.args.store.now c.add_bytes.new.store _ _ c.add_bytes.ensures.place.load step
    (c.add_bytes.ensures.has (i.whole.loads ++ current_load (open_load i.place)) (files_missing (open_load i.place)) step.has) c.add_bytes.ensures.goes_on)

pub returns-clause-brings : goal.returns-clause-brings
returns-clause-brings g c = λ s u arrived is installs.
    c.add_bytes.ensures.brings s u arrived
    (ap (λ (v : UploadView). v.current) (sym is.upload ∙ ap (λ (st : IntakeState). st.upload) (sym c.self.view_is)))
    (sym is.arriving ∙ ap (λ (st : IntakeState). st.arriving) (sym c.self.view_is))
    installs
