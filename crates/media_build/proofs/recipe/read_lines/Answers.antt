use Rattle.std.proofs.Common.{◌==◌, refl, arith}
use Rattle.std.proofs.lemmas.List.Splits.{length-slice_split}
use Rattle.std.proofs.lemmas.List.Sums.{count_by-le-length}
use Rattle.text_words.specs.Words.{written_lines}
use Rattle.media_build.proofs.recipe.read_lines.Goals as goal

pub loop-line-init : goal.loop-line-init
unfolding written_lines
loop-line-init c = record { said = rw (c.new-partial.ensures, c.new-lines.ensures) refl; count = rw c.new-lines.ensures (omega arith) }

pub overflow_add-number : goal.overflow_add-number
overflow_add-number c =
    let all = length-slice_split (λ byte. byte == 10) c.args.bytes.now in
    let few = count_by-le-length (λ byte. byte == 10) c.args.bytes.now in
    let here = c.loop-line.invariant.count in
    omega arith
