use Rattle.std.proofs.Common.{◌≡◌, ◌+◌, ◌++◌, length, map}
use Rattle.loader_machine.specs.Machine.{session_view}
use Rattle.upload_replay.specs.Texts.{sessions_from}
use Rattle.upload_replay.proofs.report.put_sessions.Given as goal

-- what is left is put after what was put
abbrev pub invariant-loop-session : goal.invariant-loop-session
invariant-loop-session l =
    record {
      put : l.fn.out.items ++ sessions_from 1 (map session_view l.sessions) ≡ l.out.items ++ sessions_from l.number (map session_view l.left);
      count : l.number + length l.left ≡ 1 + length l.sessions;
    }

abbrev pub decreases-loop-session : goal.decreases-loop-session
decreases-loop-session l = length l.left
