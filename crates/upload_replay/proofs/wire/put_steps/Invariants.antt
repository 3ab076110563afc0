use Rattle.std.proofs.Common.{◌≡◌, ◌+◌, ◌≤◌, ◌++◌, length}
use Rattle.upload_replay.specs.Texts.{wire_from}
use Rattle.upload_replay.proofs.wire.put_steps.Given as goal

-- what is left is put after what was put
abbrev pub invariant-loop-step : goal.invariant-loop-step
invariant-loop-step l =
    record {
      put : l.fn.out.items ++ wire_from 0 l.trace ≡ l.out.items ++ wire_from l.posted l.left;
      count : l.posted + length l.left ≤ length l.trace;
    }

abbrev pub decreases-loop-step : goal.decreases-loop-step
decreases-loop-step l = length l.left
