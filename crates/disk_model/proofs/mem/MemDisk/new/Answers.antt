use Rattle.disk_model.proofs.Replays.{first_same, first_settled}
use Rattle.disk_model.proofs.mem.MemDisk.new.Goals as goal

pub invariant_of-result : goal.invariant_of-result
invariant_of-result c = record { same = first_same c.in_ok-first.first.items c.extend_from_slice.new.self.items c.new.result.items (cc (c.in_ok-first.ensures, c.in_ok-extend_from_slice.ensures.items, c.new-held.ensures.items)) c.new.ensures }

pub returns-clause-only_image : goal.returns-clause-only_image
returns-clause-only_image c = first_settled c.in_ok-first.first.items c.extend_from_slice.new.self.items c.new.result.items _ _ _ (cc (c.in_ok-first.ensures, c.in_ok-extend_from_slice.ensures.items, c.new-held.ensures.items)) c.new.ensures
