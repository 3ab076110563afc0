use Rattle.std.proofs.Common.{◌≡◌, ◌+◌, ◌==◌, length, option_copied}
use Rattle.std.specs.List.{slice_split}
use Rattle.text_words.specs.Words.{pieces_left, written_lines}
use Rattle.link_net.specs.Reading.{and_later}
use Rattle.fleet_trace.specs.FleetScripts.{fleet_lines_said}
use Rattle.fleet_link.specs.Lines.{fleet_line_views}
use Rattle.fleet_link.specs.Reading.{fleet_lines_left}
use Rattle.fleet_link.proofs.fleet_script.read_lines.Given as goal

-- what the text says is what was read and then what is left of it says; the number of the next line
abbrev pub invariant-loop-left : goal.invariant-loop-left
invariant-loop-left l = record {
  said : fleet_lines_said l.units (written_lines l.bytes) ≡ and_later (fleet_line_views l.lines.items) (fleet_lines_left l.number l.units (option_copied l.left));
  count : l.number + length (pieces_left 10 (option_copied l.left)) ≡ length (slice_split (λ byte. byte == 10) l.bytes) + 1;
}

abbrev pub decreases-loop-left : goal.decreases-loop-left
decreases-loop-left l = length (pieces_left 10 (option_copied l.left))
