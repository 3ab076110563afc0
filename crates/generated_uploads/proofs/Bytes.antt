-- What a format spells is bytes.
use Rattle.std.proofs.Common.{◌≡◌, ℕ, zero, suc, ◌+◌, true, false, List, [], ◌∷◌, ◌++◌, length, sym, subst, arith}
use Rattle.std.specs.List.{concat}
use Rattle.std.proofs.lemmas.List.{append-nil}
use Rattle.std.proofs.lemmas.List.Folds.{concat-append}
use Rattle.field_grammar.specs.Grammar.{Follows, Grammar, IsBytes, Spelled, check, choose, field, give, judge, left, prefix, renamed, seq, zero_ended}

no_bytes : IsBytes []
no_bytes i = omega arith

pub bytes_more : (xs ys : List ℕ) → IsBytes xs → IsBytes ys → IsBytes (xs ++ ys)
bytes_more [] ys first second i = second i
bytes_more (x ∷ xs) ys first second zero = first 0
bytes_more (x ∷ xs) ys first second (suc i) = bytes_more xs ys (λ k. first (suc k)) second i

abbrev AreBytes : List (List ℕ) → Type 0
AreBytes fields = IsBytes (concat fields)

none_are : (fields : List (List ℕ)) → fields ≡ [] → AreBytes fields
none_are fields none = subst AreBytes (sym none) no_bytes

one_is : (fields : List (List ℕ)) (value : List ℕ) → fields ≡ value ∷ [] → IsBytes value → AreBytes fields
one_is fields value is bytes = subst AreBytes (sym is) (rw append-nil bytes)

last_zero : (value : List ℕ) → IsBytes value → IsBytes (value ++ 0 ∷ [])
last_zero value bytes = bytes_more value (0 ∷ []) bytes one
  where
    one : IsBytes (0 ∷ [])
    one zero = omega arith
    one (suc i) = no_bytes i

followed : {F A : Type 0} (g : Grammar F A) (before : List ℕ) (fields : List (List ℕ)) (after : ℕ) (value : A) → Follows g before fields after value → AreBytes fields
followed (give x) before fields after value h = none_are fields h.0
followed (judge r) before fields after value h = none_are fields h.0
followed (check b f) before fields after value h = none_are fields h.0
followed (choose true x y) before fields after value h = followed x before fields after value h
followed (choose false x y) before fields after value h = followed y before fields after value h
followed (field short n) before fields after value h = one_is fields value h.0 h.2
followed (zero_ended short) before fields after value h = one_is fields (value ++ 0 ∷ []) h.0 (last_zero value h.2)
followed prefix before fields after value h = none_are fields h.0
followed left before fields after value h = none_are fields h.0
followed (seq g k) before fields after value h =
    let (x, first, others, parts, follows, later) = h in
    let one = followed g before first (length (concat others) + after) x follows in
    let two = followed (k x) (before ++ concat first) others after value later in
    subst AreBytes (sym parts) (rw (concat-append first others) (bytes_more (concat first) (concat others) one two))
followed (renamed m g) before fields after value h = followed g before fields after value h

pub spelled_bytes : {F A : Type 0} (g : Grammar F A) (bytes : List ℕ) (value : A) → Spelled g bytes value → IsBytes bytes
spelled_bytes g bytes value spelled =
    let (fields, parts, follows) = spelled in
    subst IsBytes (sym parts) (followed g [] fields 0 value follows)
