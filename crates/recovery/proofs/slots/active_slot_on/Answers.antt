use Rattle.std.proofs.Common.{refl, inr, ◌∙◌}
use Rattle.recovery.proofs.Rulings.{a_is_found, b_is_found, none_is_active, not_over}
use Rattle.recovery.proofs.slots.active_slot_on.Goals as goal

pub returns-then-is_active_over-clause-found : goal.returns-then-is_active_over-clause-found
returns-then-is_active_over-clause-found g c image told =
    let a = c.in_ok-a.ensures.found image told in
    let b = c.in_ok-b.ensures.found image (c.in_ok-a.ensures.reads_disk.ok.reads ∙ told) in
    a_is_found image c.in_ok-a.a c.in_ok-b.b a b (c.is_active_over.ensures.0 c.if-is_active_over.true)

pub returns-then-b-clause-found : goal.returns-then-b-clause-found
returns-then-b-clause-found g c image told =
    let a = c.in_ok-a.ensures.found image told in
    let b = c.in_ok-b.ensures.found image (c.in_ok-a.ensures.reads_disk.ok.reads ∙ told) in
    b_is_found image c.in_ok-a.a c.in_ok-b.b a b (not_over c.in_ok-a.a c.in_ok-b.b c.is_active_over.result c.is_active_over.ensures.1 c.if-is_active_over.false) c.if-b.true

pub returns-else-b-clause-refused : goal.returns-else-b-clause-refused
returns-else-b-clause-refused g c image told =
    let a = c.in_ok-a.ensures.found image told in
    let b = c.in_ok-b.ensures.found image (c.in_ok-a.ensures.reads_disk.ok.reads ∙ told) in
    let none = none_is_active image c.in_ok-a.a c.in_ok-b.b a b (not_over c.in_ok-a.a c.in_ok-b.b c.is_active_over.result c.is_active_over.ensures.1 c.if-is_active_over.false) c.if-b.false in
    inr (none.0, none.1, refl)
