use Rattle.std.proofs.Common.{◌≡◌}
use Rattle.fleet_tests.proofs.tests.fleet_links.asked.Given as goal

abbrev pub invariant-loop-letter : goal.invariant-loop-letter
invariant-loop-letter l = l.link.units ≡ 2
