use Rattle.std.proofs.Common.{◌==◌, ◌+◌, Some, length, ap, ◌∙◌, arith, option_copied}
use Rattle.std.proofs.lemmas.List.Splits.{length-slice_split}
use Rattle.std.proofs.lemmas.List.Sums.{count_by-le-length}
use Rattle.text_words.specs.Words.{written_lines}
use Rattle.link_net.specs.Reading.{and_later}
use Rattle.fleet_trace.specs.FleetScripts.{fleet_lines_said}
use Rattle.fleet_link.specs.Lines.{fleet_line_views}
use Rattle.fleet_link.specs.Reading.{fleet_lines_left}
use Rattle.fleet_link.proofs.Readings.{first_fault, none_before, said_line_by_line}
use Rattle.fleet_link.proofs.fleet_script.read_lines.Goals as goal

pub loop-left-init : goal.loop-left-init
unfolding written_lines
loop-left-init c =
    record {
      said = rw c.new-lines.ensures (none_before (fleet_lines_left 1 c.args.units (Some c.args.bytes.now)));
      count = omega arith;
    }

pub overflow_add-number : goal.overflow_add-number
overflow_add-number c =
    let now = rw c.in-Some.is at c.loop-left.invariant.count in
    let parts = ap length c.cut.ensures in
    let all = length-slice_split (λ byte. byte == 10) c.args.bytes.now in
    let few = count_by-le-length (λ byte. byte == 10) c.args.bytes.now in
    omega arith

pub loop-left-preserved : goal.loop-left-preserved
loop-left-preserved c =
    let so_far = rw c.in-Some.is at c.loop-left.invariant.said in
    let now = rw c.in-Some.is at c.loop-left.invariant.count in
    let parts = ap length c.cut.ensures in
    let one_more = said_line_by_line c.loop-left.number c.args.units c.in-Some.text.now c.cut.result.0.now (option_copied c.cut.result.1) c.cut.ensures in
    record {
      said = so_far ∙ (ap (and_later (fleet_line_views c.loop-left.lines.items)) one_more ∙ c.in_default-take_line.ensures.taken (fleet_lines_left (c.loop-left.number + 1) c.args.units (option_copied c.cut.result.1)));
      count = omega arith;
    }

pub returns-in-Err-clause-refused : goal.returns-in-Err-clause-refused
returns-in-Err-clause-refused c =
    let so_far = rw c.in-Some.is at c.loop-left.invariant.said in
    let one_more = said_line_by_line c.loop-left.number c.args.units c.in-Some.text.now c.cut.result.0.now (option_copied c.cut.result.1) c.cut.ensures in
    let before = fleet_line_views c.loop-left.lines.items in
    first_fault c.in-Err.fault (fleet_lines_said c.args.units (written_lines c.args.bytes.now)) (fleet_lines_left (c.loop-left.number + 1) c.args.units (option_copied c.cut.result.1)) before c.loop-left.number c.args.units c.cut.result.0.now
    (so_far ∙ ap (and_later before) one_more) c.in-Err.ensures.refused
