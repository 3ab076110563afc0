use Rattle.std.proofs.Common.{length, option_map, refl, ap, ◌∙◌}
use Rattle.std.proofs.lemmas.Option.{slice_get-map, slice_get_read}
use Rattle.fleet_link.specs.Lines.{fleet_line_view}
use Rattle.fleet_link.proofs.fleet_turn.from_lines.Goals as goal

pub line_begins-requires-clause-unit : goal.line_begins-requires-clause-unit
line_begins-requires-clause-unit c =
    let lines = c.args.lines.now in
    let line = c.index-lines-at.result in
    c.requires.each c.loop-at.at (fleet_line_view line) (slice_get-map fleet_line_view lines c.loop-at.at ∙ ap (option_map fleet_line_view) (slice_get_read lines (length lines) c.loop-at.at line refl c.loop-at-test.true c.index-lines-at.is))
