-- Lines of a script, as contracts see them.
use Rattle.std.specs.Prelude.{List, map}
use Rattle.exchange_trace.specs.Happenings.{datagram_view}
use Rattle.exchange_trace.specs.Lines as spec
use Rattle.link_net.specs.declared.line.Line.{Line}
use Rattle.link_net.specs.declared.line.Line.TheVariants as lines

abbrev pub line_view : Line → spec.Line
line_view (lines.Info hw pos) = spec.Info hw pos
line_view (lines.Upload hw pos parts) = spec.Upload hw pos parts.items
line_view (lines.Give number) = spec.Give number
line_view (lines.Lose number) = spec.Lose number
line_view (lines.Next count) = spec.Next count
line_view (lines.Tick side) = spec.Tick side
line_view (lines.Inject datagram) = spec.Inject (datagram_view datagram)
line_view (lines.Power calls pick) = spec.Power calls pick
line_view lines.Boot = spec.Boot
line_view (lines.Blksize size) = spec.Blksize size
line_view lines.Finish = spec.Finish

abbrev pub line_views : List Line → List spec.Line
line_views lines = map line_view lines
