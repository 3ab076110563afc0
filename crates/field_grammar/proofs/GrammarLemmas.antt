-- A format's reading gives a value exactly where fields follow the format, and a fault exactly where they
-- stop at it. Proved once for all formats.
use Rattle.std.proofs.Common.{◌≡◌, ℕ, suc, ◌+◌, ◌≤◌, true, false, ltb, Option, Some, None, List, [], ◌∷◌, ◌++◌, length, take, Ok, Err, refl, sym, ap, subst, ◌∙◌, append_assoc, arith, inl, inr}
use Rattle.std.specs.List.{concat}
use Rattle.std.proofs.lemmas.Bool.{ltb-false, ltb-true, lt-ltb}
use Rattle.std.proofs.lemmas.List.{append-nil, take-append-drop, length-append, length-take}
use Rattle.std.proofs.lemmas.List.Folds.{concat-append}
use Rattle.field_grammar.specs.Cursor.{Cursor, advanced, at, past}
use Rattle.field_grammar.specs.Grammar.{Grammar, give, judge, check, choose, field, zero_ended, prefix, left, seq, renamed, read, Follows, Stops, Took, Stopped, IsBytes, zero_ended_at, before_zero}
use Rattle.field_grammar.proofs.StepLemmas.{IsBytes-take, IsBytes-after, said, same_value, then_ok, then_err, guard_ok, guard_err, renamed_ok, renamed_err, field_at-append, zero_ended_at-append, split_at_zero}

-- ---- from fields to what is read

pub what_follows_is_read : {F A : Type 0} (g : Grammar F A) (before : List ℕ) (fields : List (List ℕ)) (rest : List ℕ) (value : A)
    → Follows g before fields (length rest) value → read g (at before fields rest) ≡ Ok (value, past before fields rest)
what_follows_is_read (give x) before fields rest value h = rw (h.0, h.1, append-nil) refl
what_follows_is_read (judge r) before fields rest value h = rw (h.0, h.1, append-nil) refl
what_follows_is_read (check b f) before fields rest tt h = rw (h.0, h.1, append-nil) refl
what_follows_is_read (choose true x y) before fields rest value h = what_follows_is_read x before fields rest value h
what_follows_is_read (choose false x y) before fields rest value h = what_follows_is_read y before fields rest value h
what_follows_is_read (field short n) before fields rest value h = rw (h.0, append-nil) (field_at-append short n before value rest h.1)
what_follows_is_read (zero_ended short) before fields rest value h = rw (h.0, append-nil) (zero_ended_at-append short before value rest h.1)
what_follows_is_read prefix before fields rest value h = rw (h.0, h.1, append-nil) refl
what_follows_is_read left before fields rest value h = rw (h.0, h.1, append-nil) refl
what_follows_is_read (seq g k) before fields rest value h =
    let (x, first, others, parts, follows, later) = h in
    let here : Follows g before first (length (concat others ++ rest)) x = rw (length-append (concat others) rest) follows in
    let one = what_follows_is_read g before first (concat others ++ rest) x here in
    let two = what_follows_is_read (k x) (before ++ concat first) others rest value later in
    rw (parts, concat-append first others, append_assoc (concat first) (concat others) rest, one) (two ∙ rw append_assoc refl)
what_follows_is_read (renamed m g) before fields rest value h = rw (what_follows_is_read g before fields rest value h) refl

pub what_stops_is_refused : {F A : Type 0} (g : Grammar F A) (before : List ℕ) (fields : List (List ℕ)) (rest : List ℕ) (fault : F)
    → Stops g before fields rest fault → read g (at before fields rest) ≡ Err fault
what_stops_is_refused (give x) before fields rest fault h = absurd h
what_stops_is_refused (judge r) before fields rest fault h = rw h.1 refl
what_stops_is_refused (check b f) before fields rest fault h = rw (h.0, h.1, h.2) refl
what_stops_is_refused (choose true x y) before fields rest fault h = what_stops_is_refused x before fields rest fault h
what_stops_is_refused (choose false x y) before fields rest fault h = what_stops_is_refused y before fields rest fault h
what_stops_is_refused (field short n) before fields rest fault h =
    let few : ltb (length rest) n ≡ true = lt-ltb _ _ h.1 in
    rw (h.0, few, h.2) refl
what_stops_is_refused (zero_ended short) before fields rest fault h = rw (h.0, h.1, h.2) refl
what_stops_is_refused prefix before fields rest fault h = absurd h
what_stops_is_refused left before fields rest fault h = absurd h
what_stops_is_refused (seq g k) before fields rest fault h =
    elim h [
      | inl stops ↦ rw (what_stops_is_refused g before fields rest fault stops) refl
      | inr later ↦
          let (x, first, others, parts, follows, stops) = later in
          let here : Follows g before first (length (concat others ++ rest)) x = rw (length-append (concat others) rest) follows in
          let one = what_follows_is_read g before first (concat others ++ rest) x here in
          let two = what_stops_is_refused (k x) (before ++ concat first) others rest fault stops in
          rw (parts, concat-append first others, append_assoc (concat first) (concat others) rest, one) two
    ]
what_stops_is_refused (renamed m g) before fields rest fault h =
    let (inner, stops, same) = h in
    rw (what_stops_is_refused g before fields rest inner stops, same) refl

-- ---- from what is read to fields

-- a step without a field
took_none : {F A : Type 0} (g : Grammar F A) (c d : Cursor) (x value : A) → Follows g c.before [] (length c.rest) x → said {A = A × Cursor} {F = F} (x, c) ≡ said (value, d) → Took g c d value
took_none {F = F} {A = A} g c d x value follows e =
    subst (λ (p : A × Cursor). Took g c p.1 p.0) (same_value {F = F} (x, c) (value, d) e) (record { fields = []; parts = refl; passed = sym (append-nil c.before); follows = follows })

took_zero_ended : {F : Type 0} (short : ℕ → F) (c d : Cursor) (value : List ℕ) (o : Option ℕ) → IsBytes c.rest → before_zero c.rest ≡ o → zero_ended_at short c o ≡ Ok (value, d) → Took (zero_ended short) c d value
took_zero_ended short c d value None fit found e = absurd cc
took_zero_ended {F = F} short c d value (Some n) fit found e =
    let split = split_at_zero c.rest n found in
    subst (λ (p : List ℕ × Cursor). Took (zero_ended short) c p.1 p.0) (same_value {F = F} (take n c.rest, advanced (suc n) c) (value, d) e) (record {
      fields = (take n c.rest ++ 0 ∷ []) ∷ [];
      parts = rw append-nil split.0;
      passed = rw (split.1, append-nil) refl;
      follows = (refl, split.2, IsBytes-take n c.rest fit);
    })

pub what_is_read_follows : {F A : Type 0} (g : Grammar F A) (c d : Cursor) (value : A) → IsBytes c.rest → read g c ≡ Ok (value, d) → Took g c d value
what_is_read_follows (give x) c d value fit e = took_none (give x) c d x value (refl, refl) e
what_is_read_follows (judge (Ok x)) c d value fit e = took_none (judge (Ok x)) c d x value (refl, refl) e
what_is_read_follows (judge (Err f)) c d value fit e = absurd cc
what_is_read_follows (check true f) c d value fit e = took_none (check true f) c d tt value (refl, refl) e
what_is_read_follows (check false f) c d value fit e = absurd cc
what_is_read_follows (choose true x y) c d value fit e =
    let t = what_is_read_follows x c d value fit e in
    record { fields = t.fields; parts = t.parts; passed = t.passed; follows = t.follows }
what_is_read_follows (choose false x y) c d value fit e =
    let t = what_is_read_follows y c d value fit e in
    record { fields = t.fields; parts = t.parts; passed = t.passed; follows = t.follows }
what_is_read_follows (field short n) c d value fit e =
    let fits = guard_ok (ltb (length c.rest) n) (short (length c.before)) (take n c.rest, advanced n c) (value, d) e in
    let enough : n ≤ length c.rest = ltb-false _ _ fits.0 in
    subst (λ (p : List ℕ × Cursor). Took (field short n) c p.1 p.0) fits.1 (record {
      fields = take n c.rest ∷ [];
      parts = rw append-nil (sym (take-append-drop n c.rest));
      passed = rw append-nil refl;
      follows = (refl, omega (arith, length-take n c.rest), IsBytes-take n c.rest fit);
    })
what_is_read_follows (zero_ended short) c d value fit e = took_zero_ended short c d value (before_zero c.rest) fit refl e
what_is_read_follows prefix c d value fit e = took_none prefix c d c.before value (refl, refl) e
what_is_read_follows left c d value fit e = took_none left c d (length c.rest) value (refl, refl) e
what_is_read_follows (seq g k) c d value fit e =
    let (x, first, second) = then_ok (read g c) (λ x. read (k x.0) x.1) (value, d) e in
    let one = what_is_read_follows g c x.1 x.0 fit first in
    let fit' : IsBytes x.1.rest = IsBytes-after (concat one.fields) x.1.rest (subst IsBytes one.parts fit) in
    let two = what_is_read_follows (k x.0) x.1 d value fit' second in
    let size : length x.1.rest ≡ length (concat two.fields) + length d.rest = ap length two.parts ∙ length-append (concat two.fields) d.rest in
    record {
      fields = one.fields ++ two.fields;
      parts = rw (concat-append one.fields two.fields, append_assoc (concat one.fields) (concat two.fields) d.rest, ← two.parts) one.parts;
      passed = rw (concat-append one.fields two.fields, ← append_assoc (c.before) (concat one.fields) (concat two.fields), ← one.passed) two.passed;
      follows = (x.0, one.fields, two.fields, refl, rw size at one.follows, rw one.passed at two.follows);
    }
what_is_read_follows (renamed m g) c d value fit e =
    let t = what_is_read_follows g c d value fit (renamed_ok m (read g c) (value, d) e) in
    record { fields = t.fields; parts = t.parts; passed = t.passed; follows = t.follows }

-- a test that fails at once
stopped_here : {F A : Type 0} (g : Grammar F A) (c : Cursor) (fault : F) → Stops g c.before [] c.rest fault → Stopped g c fault
stopped_here g c fault stops = record { fields = []; rest = c.rest; parts = refl; stops = stops }

stopped_zero_ended : {F : Type 0} (short : ℕ → F) (c : Cursor) (fault : F) (o : Option ℕ) → before_zero c.rest ≡ o → zero_ended_at short c o ≡ Err fault → Stopped (zero_ended short) c fault
stopped_zero_ended short c fault None none e = stopped_here (zero_ended short) c fault (refl, none, cc)
stopped_zero_ended short c fault (Some n) found e = absurd cc

pub what_is_refused_stops : {F A : Type 0} (g : Grammar F A) (c : Cursor) (fault : F) → IsBytes c.rest → read g c ≡ Err fault → Stopped g c fault
what_is_refused_stops (give x) c fault fit e = absurd cc
what_is_refused_stops (judge (Ok x)) c fault fit e = absurd cc
what_is_refused_stops (judge (Err f)) c fault fit e = stopped_here (judge (Err f)) c fault (refl, cc)
what_is_refused_stops (check true f) c fault fit e = absurd cc
what_is_refused_stops (check false f) c fault fit e = stopped_here (check false f) c fault (refl, refl, cc)
what_is_refused_stops (choose true x y) c fault fit e =
    let s = what_is_refused_stops x c fault fit e in
    record { fields = s.fields; rest = s.rest; parts = s.parts; stops = s.stops }
what_is_refused_stops (choose false x y) c fault fit e =
    let s = what_is_refused_stops y c fault fit e in
    record { fields = s.fields; rest = s.rest; parts = s.parts; stops = s.stops }
what_is_refused_stops (field short n) c fault fit e =
    let few = guard_err (ltb (length c.rest) n) (short (length c.before)) fault (take n c.rest, advanced n c) e in
    stopped_here (field short n) c fault (refl, ltb-true _ _ few.0, few.1)
what_is_refused_stops (zero_ended short) c fault fit e = stopped_zero_ended short c fault (before_zero c.rest) refl e
what_is_refused_stops prefix c fault fit e = absurd cc
what_is_refused_stops left c fault fit e = absurd cc
what_is_refused_stops (seq g k) c fault fit e =
    elim (then_err (read g c) (λ x. read (k x.0) x.1) fault e) [
      | inl first ↦
          let s = what_is_refused_stops g c fault fit first in
          record { fields = s.fields; rest = s.rest; parts = s.parts; stops = inl s.stops }
      | inr later ↦
          let (x, first, second) = later in
          let one = what_is_read_follows g c x.1 x.0 fit first in
          let fit' : IsBytes x.1.rest = IsBytes-after (concat one.fields) x.1.rest (subst IsBytes one.parts fit) in
          let two = what_is_refused_stops (k x.0) x.1 fault fit' second in
          let size : length x.1.rest ≡ length (concat two.fields) + length two.rest = ap length two.parts ∙ length-append (concat two.fields) two.rest in
          record {
            fields = one.fields ++ two.fields;
            rest = two.rest;
            parts = rw (concat-append one.fields two.fields, append_assoc (concat one.fields) (concat two.fields) two.rest, ← two.parts) one.parts;
            stops = inr (x.0, one.fields, two.fields, refl, rw size at one.follows, subst (λ (b : List ℕ). Stops (k x.0) b two.fields two.rest fault) one.passed two.stops);
          }
    ]
what_is_refused_stops (renamed m g) c fault fit e =
    let (inner, refused, same) = renamed_err m (read g c) fault e in
    let s = what_is_refused_stops g c inner fit refused in
    record { fields = s.fields; rest = s.rest; parts = s.parts; stops = (inner, s.stops, same) }
