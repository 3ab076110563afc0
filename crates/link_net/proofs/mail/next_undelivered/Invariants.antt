use Rattle.std.proofs.Common.{ℕ, ◌≤◌, ◌<◌, ◌-◌, ◌≢◌, length}
use Rattle.std.specs.List.{slice_index_or}
use Rattle.link_net.specs.declared.mail.Fate.TheVariants.{Undelivered}
use Rattle.link_net.proofs.mail.next_undelivered.Given as goal

abbrev pub invariant-loop-at : goal.invariant-loop-at
invariant-loop-at l =
    record {
      later : l.from ≤ l.at;
      within : l.at ≤ length l.fates;
      passed : (k : ℕ) → l.from ≤ k → k < l.at → slice_index_or l.fates k Undelivered ≢ Undelivered;
    }

abbrev pub decreases-loop-at : goal.decreases-loop-at
decreases-loop-at l = length l.fates - l.at
