use Rattle.std.proofs.Common.{◌≡◌, ◌≤◌, ℕ, List, length, drop}
use Rattle.std.specs.Map.{lookup}
use Rattle.load_base.specs.Bytes.{same_bytes}
use Rattle.media_check.specs.Batches.{entry_at, first_batch}
use Rattle.media_check.proofs.batches.first_entries.Given as goal

abbrev pub invariant-loop-left : goal.invariant-loop-left
invariant-loop-left l = record {
  within : l.left ≤ length l.entries;
  first : (part : List ℕ) → entry_at l.entries (lookup (same_bytes part) l.first.entries) ≡ first_batch part (drop l.left l.entries);
}

abbrev pub decreases-loop-left : goal.decreases-loop-left
decreases-loop-left l = l.left
