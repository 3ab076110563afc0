use Rattle.std.proofs.Common.{◌≡◌, ◌≤◌, ◌-◌, length, drop}
use Rattle.exchange_trace.specs.Following as following
use Rattle.link_net.specs.Lines.{line_views}
use Rattle.link_net.specs.Mail.{scene_in}
use Rattle.link_net.proofs.turn.from_lines.Given as goal

-- the lines so far gave nothing
abbrev pub invariant-loop-at : goal.invariant-loop-at
invariant-loop-at l =
    record {
      within : l.at ≤ length l.lines;
      left : following.from_lines (scene_in l.mail l.waiting.loader l.waiting.target) (line_views (drop l.initial.at l.lines))
          ≡ following.from_lines (scene_in l.mail l.waiting.loader l.waiting.target) (line_views (drop l.at l.lines));
    }

abbrev pub decreases-loop-at : goal.decreases-loop-at
decreases-loop-at l = length l.lines - l.at
