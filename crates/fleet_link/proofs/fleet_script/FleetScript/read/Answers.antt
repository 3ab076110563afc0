use Rattle.text_words.specs.Words.{written_lines}
use Rattle.fleet_link.specs.Lines.{fleet_line_views}
use Rattle.fleet_link.proofs.UnitsSaid.{lines_at_units}
use Rattle.fleet_link.proofs.fleet_script.FleetScript.read.Goals as goal

pub invariant_of-result : goal.invariant_of-result
invariant_of-result c = lines_at_units c.args.units (written_lines c.args.bytes.now) (fleet_line_views c.in-Ok.lines.items) c.in-Ok.ensures.found
