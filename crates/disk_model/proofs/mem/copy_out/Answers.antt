use Rattle.std.proofs.Common.{◌≡◌, ◌+◌, ◌-◌, ℕ, List, drop, length, ap, ◌∙◌, arith}
use Rattle.std.proofs.lemmas.List.{drop-replicate}
use Rattle.disk_model.proofs.RangeLemmas.{held_range}
use Rattle.disk_model.proofs.mem.copy_out.Goals as goal

pub returns : goal.returns
returns c =
    let begin = c.min-begin.result in
    let count = c.min-count.result in
    let n = length c.args.buf.now in
    let whole : begin + count - begin ≡ count = omega arith in
    let behind = ap (λ (l : List ℕ). drop count l) (c.fill.ensures.after (λ y e. e)) ∙ drop-replicate count n 0 in
    rw (c.copy_from_slice.ensures.after, behind, whole) (held_range c.args.bytes.now c.args.at n begin count c.min-begin.ensures c.min-count.ensures)
