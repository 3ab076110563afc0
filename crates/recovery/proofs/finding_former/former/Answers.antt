use Rattle.std.proofs.Common.{◌∙◌}
use Rattle.std.proofs.lemmas.Result.{err_from_is_err_and}
use Rattle.disk_layout.specs.Slots.{other_slot, slot_offset}
use Rattle.disk_layout.specs.Holds.{HoldsBy, standing_view}
use Rattle.recovery.specs.FormerParts.{IsSeen}
use Rattle.recovery.specs.Formers.{without_slot}
use Rattle.recovery.proofs.FormerFound.{former_found, former_refused, seen_without, slot_refused}
use Rattle.recovery.proofs.finding_former.former.Goals as goal

pub returns-in_err-says-clause-refused : goal.returns-in_err-says-clause-refused
returns-in_err-says-clause-refused g c =
    let p = err_from_is_err_and c.from_residual-in_err-says.result c.from_residual-in_err-says.ensures.1 in
    rw (p.1, p.2) (λ image told.
    slot_refused c.an_outline_is_filled.ensures image c.in_ok-identity.identity c.in_ok-identity.active (c.in_ok-identity.ensures.found image told) _
    (c.in_err-says.ensures.refused image (c.in_ok-identity.ensures.reads_disk.ok.reads ∙ told)))

pub returns-in-Ok-clause-found : goal.returns-in-Ok-clause-found
returns-in-Ok-clause-found g c image told =
    let id = c.in_ok-identity.identity in
    let active = c.in_ok-identity.active in
    let says = c.in_ok-says.says in
    let other = other_slot (slot_offset active.slot) in
    let seen = without_slot (slot_offset active.slot) image in
    let on = c.in_ok-identity.ensures.found image told in
    let told_then = c.in_ok-identity.ensures.reads_disk.ok.reads ∙ told in
    let is = c.in_ok-says.ensures.says image told_then in
    let sees : IsSeen image seen id (slot_offset c.other.result) says =
    rw c.other.ensures (seen_without c.an_outline_is_filled.ensures image id active on says is c.in_ok-says.ensures.older) in
    let held : HoldsBy seen other (standing_view c.in-Ok.standing) =
    rw c.other.ensures at (c.in-Ok.ensures.found image (c.in_ok-says.ensures.reads_disk.ok.reads ∙ told_then) seen sees) in
    let (former, at) = former_found c.an_outline_is_filled.ensures image id active on says is c.in_ok-says.ensures.older (standing_view c.in-Ok.standing) held in
    record { former = former; offset = rw at is.offset; length = rw at is.length }

pub returns-in-Err-clause-refused : goal.returns-in-Err-clause-refused
returns-in-Err-clause-refused g c image told =
    let id = c.in_ok-identity.identity in
    let active = c.in_ok-identity.active in
    let says = c.in_ok-says.says in
    let seen = without_slot (slot_offset active.slot) image in
    let on = c.in_ok-identity.ensures.found image told in
    let told_then = c.in_ok-identity.ensures.reads_disk.ok.reads ∙ told in
    let is = c.in_ok-says.ensures.says image told_then in
    let sees : IsSeen image seen id (slot_offset c.other.result) says =
    rw c.other.ensures (seen_without c.an_outline_is_filled.ensures image id active on says is c.in_ok-says.ensures.older) in
    rw c.other_fault.ensures.of (
    former_refused c.an_outline_is_filled.ensures image id active on says is c.in_ok-says.ensures.older c.in-Err.fault c.in-Err.ensures.of_slot
    (c.in-Err.ensures.refused image (c.in_ok-says.ensures.reads_disk.ok.reads ∙ told_then) seen sees))
