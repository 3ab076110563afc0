use Rattle.std.proofs.Common.{◌≡◌, List, length, ap, ◌∙◌}
use Rattle.accept_rules.specs.declared.kept.KeptLoad.{KeptLoad}
use Rattle.load_header.specs.Header.{header_view}
use Rattle.session_rules.specs.KeptLoads.{told_loads}
use Rattle.load_intake.specs.Keeping.{entries, kept_with}
use Rattle.load_intake.specs.States.{WholeView}
use Rattle.load_intake.proofs.Kept.{same_passes, same_refusal, told_length}
use Rattle.load_intake.proofs.whole.Whole.header_reason.Goals as goal

pub returns-clause-is : goal.returns-clause-is
returns-clause-is g c accepts follows =
    let A = entries c.args.active.now in
    let w = c.args.self.now in
    let h = header_view c.args.header.now in
    let told = c.as_slice-told.ensures.is ∙ (rw (c.as_slice.ensures, ap (λ (x : WholeView). x.loads) c.self.view_is) at c.kept_after-kept.ensures) in
    let many : length c.as_slice-told.result.now ≡ length (kept_with A w.loads h.type_id) = ap (λ (k : List KeptLoad). length k) told ∙ told_length _ A in
    same_refusal accepts c.args.identity.now c.args.wanted.now h c.as_slice-told.result.now (told_loads (kept_with A w.loads h.type_id)) _ _ _ _ c.header_reason.result told (c.count_with-loads.ensures A h many) (c.need_of_kept.ensures.is c.args.need)
    (c.header_reason.ensures.is accepts follows)

pub returns-clause-passed : goal.returns-clause-passed
returns-clause-passed g c none =
    let A = entries c.args.active.now in
    let w = c.args.self.now in
    let h = header_view c.args.header.now in
    let told = c.as_slice-told.ensures.is ∙ (rw (c.as_slice.ensures, ap (λ (x : WholeView). x.loads) c.self.view_is) at c.kept_after-kept.ensures) in
    let many : length c.as_slice-told.result.now ≡ length (kept_with A w.loads h.type_id) = ap (λ (k : List KeptLoad). length k) told ∙ told_length _ A in
    same_passes c.args.identity.now c.args.wanted.now h _ _ _ _ (c.count_with-loads.ensures A h many) (c.need_of_kept.ensures.is c.args.need) (c.header_reason.ensures.passed none)
