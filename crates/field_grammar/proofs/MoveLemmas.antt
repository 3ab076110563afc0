-- Reading goes on in the same bytes, from left to right.
use Rattle.std.proofs.Common.{◌≡◌, ℕ, suc, ◌≤◌, true, false, ltb, Option, Some, None, List, [], ◌++◌, length, take, Ok, Err, refl, sym, ap, subst, ◌∙◌, append_assoc, arith}
use Rattle.std.proofs.lemmas.List.{append-nil, take-append-drop, length-append}
use Rattle.field_grammar.specs.Cursor.{Cursor, advanced}
use Rattle.field_grammar.specs.Grammar.{Grammar, give, judge, check, choose, field, zero_ended, prefix, left, seq, renamed, read, zero_ended_at, before_zero, MovesOn}
use Rattle.field_grammar.proofs.StepLemmas.{said, same_value, then_ok, guard_ok, renamed_ok}

stays_there : (c : Cursor) → MovesOn c c
stays_there c = record { passed = []; parts = refl; moved = sym (append-nil c.before) }

advances : (n : ℕ) (c : Cursor) → MovesOn c (advanced n c)
advances n c = record { passed = take n c.rest; parts = sym (take-append-drop n c.rest); moved = refl }

goes_further : (b c d : Cursor) → MovesOn b c → MovesOn c d → MovesOn b d
goes_further b c d one two = record {
  passed = one.passed ++ two.passed;
  parts = one.parts ∙ (ap (λ (l : List ℕ). one.passed ++ l) two.parts ∙ sym (append_assoc one.passed two.passed d.rest));
  moved = two.moved ∙ (ap (λ (l : List ℕ). l ++ two.passed) one.moved ∙ append_assoc b.before one.passed two.passed);
}

-- a step to this position
steps_to : {F A : Type 0} (b c d : Cursor) (x value : A) → MovesOn b c → said {A = A × Cursor} {F = F} (x, c) ≡ said (value, d) → MovesOn b d
steps_to {F = F} {A = A} b c d x value moves e = subst (λ (p : A × Cursor). MovesOn b p.1) (same_value {F = F} (x, c) (value, d) e) moves

zero_ended_moves : {F : Type 0} (short : ℕ → F) (c d : Cursor) (value : List ℕ) (o : Option ℕ) → zero_ended_at short c o ≡ Ok (value, d) → MovesOn c d
zero_ended_moves short c d value None e = absurd cc
zero_ended_moves {F = F} short c d value (Some n) e = steps_to {F = F} c (advanced (suc n) c) d (take n c.rest) value (advances (suc n) c) e

-- where a value is read, the position moves on
pub moves_on : {F A : Type 0} (g : Grammar F A) (c d : Cursor) (value : A) → read g c ≡ Ok (value, d) → MovesOn c d
moves_on {F = F} (give x) c d value e = steps_to {F = F} c c d x value (stays_there c) e
moves_on {F = F} (judge (Ok x)) c d value e = steps_to {F = F} c c d x value (stays_there c) e
moves_on (judge (Err f)) c d value e = absurd cc
moves_on {F = F} (check true f) c d value e = steps_to {F = F} c c d tt value (stays_there c) e
moves_on (check false f) c d value e = absurd cc
moves_on (choose true x y) c d value e = moves_on x c d value e
moves_on (choose false x y) c d value e = moves_on y c d value e
moves_on (field short n) c d value e =
    let fits = guard_ok (ltb (length c.rest) n) (short (length c.before)) (take n c.rest, advanced n c) (value, d) e in
    subst (λ (p : List ℕ × Cursor). MovesOn c p.1) fits.1 (advances n c)
moves_on (zero_ended short) c d value e = zero_ended_moves short c d value (before_zero c.rest) e
moves_on {F = F} prefix c d value e = steps_to {F = F} c c d c.before value (stays_there c) e
moves_on {F = F} left c d value e = steps_to {F = F} c c d (length c.rest) value (stays_there c) e
moves_on (seq g k) c d value e =
    let (x, first, second) = then_ok (read g c) (λ x. read (k x.0) x.1) (value, d) e in
    goes_further c x.1 d (moves_on g c x.1 x.0 first) (moves_on (k x.0) x.1 d value second)
moves_on (renamed m g) c d value e = moves_on g c d value (renamed_ok m (read g c) (value, d) e)

-- the position isn't before the one where the reading began
pub offset_goes_on : {F A : Type 0} (g : Grammar F A) (c d : Cursor) (value : A) → read g c ≡ Ok (value, d) → length c.before ≤ length d.before
offset_goes_on g c d value e =
    let moves = moves_on g c d value e in
    omega (arith, ap length moves.moved, length-append c.before moves.passed)

-- no more bytes are left than there were
pub fewer_left : {F A : Type 0} (g : Grammar F A) (c d : Cursor) (value : A) → read g c ≡ Ok (value, d) → length d.rest ≤ length c.rest
fewer_left g c d value e =
    let moves = moves_on g c d value e in
    omega (arith, ap length moves.parts, length-append moves.passed d.rest)

-- the bytes are the same
pub same_bytes : {F A : Type 0} (g : Grammar F A) (c d : Cursor) (value : A) → read g c ≡ Ok (value, d) → c.before ++ c.rest ≡ d.before ++ d.rest
same_bytes g c d value e =
    let moves = moves_on g c d value e in
    ap (λ (l : List ℕ). c.before ++ l) moves.parts ∙ (sym (append_assoc c.before moves.passed d.rest) ∙ ap (λ (l : List ℕ). l ++ d.rest) (sym moves.moved))
