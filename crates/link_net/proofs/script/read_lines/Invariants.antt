use Rattle.std.proofs.Common.{◌≡◌, ◌+◌, ◌==◌, length, option_copied}
use Rattle.std.specs.List.{slice_split}
use Rattle.exchange_trace.specs.Scripts.{lines_said}
use Rattle.text_words.specs.Words.{pieces_left, written_lines}
use Rattle.link_net.specs.Lines.{line_views}
use Rattle.link_net.specs.Reading.{and_later, lines_left}
use Rattle.link_net.proofs.script.read_lines.Given as goal

-- the lines so far, and what the lines that are left say; the number of the next line
abbrev pub invariant-loop-left : goal.invariant-loop-left
invariant-loop-left l =
    record {
      said : lines_said (written_lines l.bytes) ≡ and_later (line_views l.lines.items) (lines_left l.number (option_copied l.left));
      count : l.number + length (pieces_left 10 (option_copied l.left)) ≡ length (slice_split (λ byte. byte == 10) l.bytes) + 1;
    }

abbrev pub decreases-loop-left : goal.decreases-loop-left
decreases-loop-left l = length (pieces_left 10 (option_copied l.left))
