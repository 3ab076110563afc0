use Rattle.std.proofs.Common.{◌≡◌, true, false, Result, Err}
use Rattle.media_lists.proofs.Texts.{path_is_text}
use Rattle.media_lists.proofs.paths.path_text.Goals as goal

abbrev the_err : {T E : Type 0} → E → Result T E
the_err e = Err e

fault_is : {T E : Type 0} (one other : E) → the_err {T = T} one ≡ Err other → one ≡ other
fault_is one other same = cc

not_ok : false ≡ true → ⊥
not_ok same = absurd cc

pub unreachable-requires : goal.unreachable-requires
unreachable-requires c = not_ok (c.in-Err.ensures.only (path_is_text c.args.bytes.now c.requires) (λ same. c.in_default.not-Memory (fault_is c.in-Err.fault _ same)))
