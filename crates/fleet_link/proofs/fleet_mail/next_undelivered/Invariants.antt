use Rattle.std.proofs.Common.{◌≡◌, ℕ, ◌≤◌, ◌<◌, ◌-◌, Some, false, length}
use Rattle.std.specs.Prelude.{slice_get}
use Rattle.fleet_link.specs.declared.fleet_mail.Place.{Place}
use Rattle.fleet_link.specs.FleetMail.{is_undelivered_in}
use Rattle.fleet_link.proofs.fleet_mail.next_undelivered.Given as goal

abbrev pub invariant-loop-at : goal.invariant-loop-at
invariant-loop-at l = record {
  later : l.from ≤ l.at;
  within : l.at ≤ length l.places;
  passed : (k : ℕ) (place : Place) → l.from ≤ k → k < l.at → slice_get l.places k ≡ Some place → is_undelivered_in l.mails place ≡ false;
}

abbrev pub decreases-loop-at : goal.decreases-loop-at
decreases-loop-at l = length l.places - l.at
