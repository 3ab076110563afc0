use Rattle.std.proofs.Common.{◌==◌, ◌+◌, Some, length, ap, ◌∙◌, arith, option_copied}
use Rattle.std.proofs.lemmas.List.Splits.{length-slice_split}
use Rattle.std.proofs.lemmas.List.Sums.{count_by-le-length}
use Rattle.exchange_trace.specs.Scripts.{lines_said}
use Rattle.text_words.specs.Words.{written_lines}
use Rattle.link_net.specs.Lines.{line_views}
use Rattle.link_net.specs.Reading.{and_later, lines_left}
use Rattle.link_net.proofs.Readings.{from_start, lines_cut, wrong_line}
use Rattle.link_net.proofs.script.read_lines.Goals as goal

pub loop-left-init : goal.loop-left-init
unfolding written_lines
loop-left-init c =
    record {
      said = rw c.new-lines.ensures (from_start (lines_left 1 (Some c.args.bytes.now)));
      count = omega arith;
    }

pub overflow_add-number : goal.overflow_add-number
overflow_add-number c =
    let here = rw c.in-Some.is at c.loop-left.invariant.count in
    let more = ap length c.cut.ensures in
    let all = length-slice_split (λ byte. byte == 10) c.args.bytes.now in
    let few = count_by-le-length (λ byte. byte == 10) c.args.bytes.now in
    omega arith

pub loop-left-preserved : goal.loop-left-preserved
loop-left-preserved c =
    let said = rw c.in-Some.is at c.loop-left.invariant.said in
    let here = rw c.in-Some.is at c.loop-left.invariant.count in
    let more = ap length c.cut.ensures in
    let cut = lines_cut c.loop-left.number c.in-Some.text.now c.cut.result.0.now (option_copied c.cut.result.1) c.cut.ensures in
    let later = lines_left (c.loop-left.number + 1) (option_copied c.cut.result.1) in
    record {
      said = said ∙ (ap (and_later (line_views c.loop-left.lines.items)) cut ∙ c.in_default-take_line.ensures.taken later);
      count = omega arith;
    }

pub returns-in-Err-clause-refused : goal.returns-in-Err-clause-refused
returns-in-Err-clause-refused c =
    let said = rw c.in-Some.is at c.loop-left.invariant.said in
    let cut = lines_cut c.loop-left.number c.in-Some.text.now c.cut.result.0.now (option_copied c.cut.result.1) c.cut.ensures in
    let later = lines_left (c.loop-left.number + 1) (option_copied c.cut.result.1) in
    let before = line_views c.loop-left.lines.items in
    wrong_line c.in-Err.fault (lines_said (written_lines c.args.bytes.now)) later before c.loop-left.number c.cut.result.0.now (said ∙ ap (and_later before) cut) c.in-Err.ensures.refused
