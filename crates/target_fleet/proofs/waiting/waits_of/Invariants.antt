use Rattle.std.proofs.Common.{◌≡◌, length}
use Rattle.target_fleet.specs.Waits.{TellWaits}
use Rattle.target_fleet.proofs.waiting.waits_of.Given as goal

abbrev pub invariant-units : goal.invariant-units
invariant-units g l = record {
  many : length l.waits ≡ 8;
  told : TellWaits l.index l.drivers l.waits;
}
