use Rattle.std.proofs.Common.{◌≡◌}
use Rattle.media_build.proofs.positions.Kinds.into_list.Given as goal

abbrev pub invariant-loop-kind : goal.invariant-loop-kind
invariant-loop-kind l = l.list.items ≡ l.yielded
