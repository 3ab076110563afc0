use Rattle.std.proofs.Common.{ℕ, List, length, drop, ◌∙◌, arith, length-append, length-drop, length-take}
use Rattle.std.proofs.lemmas.List.{drop_at, drop-replicate, length-replicate}
use Rattle.std.specs.Prelude.{replicate}
use Rattle.load_base.proofs.padded.Padded.new.Goals as goal

pub invariant_of-result : goal.invariant_of-result
invariant_of-result g c =
    let text = c.args.text.now in
    let zeros : List ℕ = replicate g.row.N 0 in
    let copied = c.copy_from_slice.new.self in
    let n = length text in
    let same = c.copy_from_slice.ensures.after in
    let size = length-replicate {A = ℕ} g.row.N 0 in
    record {
      fits = c.requires.fits;
      whole = omega (arith, length-append copied (drop n zeros), length-drop n zeros, c.copy_from_slice.ensures.len, length-take n zeros, size);
      zeros = drop_at copied (drop n zeros) n (omega (arith, c.copy_from_slice.ensures.len, length-take n zeros, size)) ∙ drop-replicate n g.row.N 0;
    }
