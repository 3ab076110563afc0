-- Positions that are gathered by their hardware, one more at a time.
use Rattle.std.proofs.Common.{◌≡◌, ℕ, zero, suc, ◌<◌, ◌||◌, Bool, true, false, not, cond, List, [], ◌∷◌, ◌++◌, length, get_or, append-nil, append_assoc, refl, sym, ap, ◌∙◌, arith}
use Rattle.std.specs.Prelude.{map, filter, ⊤}
use Rattle.std.specs.Cmp.Lexicographic.{nat_list_eq_equiv}
use Rattle.std.specs.List.{list_any, position_or_len}
use Rattle.std.proofs.Math.ListN.{set}
use Rattle.std.proofs.lemmas.List.{map-append, length-map}
use Rattle.std.proofs.lemmas.List.Elements.{filter-append}
use Rattle.load_base.specs.Bytes.{same_bytes}
use Rattle.load_base.proofs.EqualityLemmas.{equal_bytes}
use Rattle.load_header.specs.Header.{HardwareAtView, hardware_at_view}
use Rattle.load_header.specs.declared.header.HardwareAt.{HardwareAt}
use Rattle.media_build.specs.Parts.{one_position, with_position, positioned, HasOneMore}
use Rattle.media_build.specs.RecipeSets.{distinct, positions_at, gathered}

-- a hardware and a position of it
abbrev Pair : Type 0
Pair = List ℕ × List ℕ

symmetric : (one other : List ℕ) → same_bytes one other ≡ same_bytes other one
symmetric one other = nat_list_eq_equiv.symm one other

-- ---- at most one passes

abbrev IsOnce : (List ℕ → Bool) → List (List ℕ) → Type 0
IsOnce test [] = ⊤
IsOnce test (x ∷ xs) = (test x ≡ true → list_any test xs ≡ false) × IsOnce test xs

none_filtered : (test keep : List ℕ → Bool) (xs : List (List ℕ)) → list_any test xs ≡ false → list_any test (filter keep xs) ≡ false
none_filtered test keep [] none = refl
none_filtered test keep (x ∷ xs) none = by (keep x) (test x) refl refl none (λ h. none_filtered test keep xs h)
  where
    by : (k t : Bool) → keep x ≡ k → test x ≡ t → (test x || list_any test xs) ≡ false → (list_any test xs ≡ false → list_any test (filter keep xs) ≡ false)
        → list_any test (filter keep (x ∷ xs)) ≡ false
    by k true ek et h rest = absurd (let no = rw et at h in cc)
    by true false ek et h rest = let later = rw et at h in rw (ek, et) (rest later)
    by false false ek et h rest = let later = rw et at h in rw ek (rest later)

once_filtered : (test keep : List ℕ → Bool) (xs : List (List ℕ)) → IsOnce test xs → IsOnce test (filter keep xs)
once_filtered test keep [] once = tt
once_filtered test keep (x ∷ xs) once = by (keep x) refl (once_filtered test keep xs once.1)
  where
    by : (k : Bool) → keep x ≡ k → IsOnce test (filter keep xs) → IsOnce test (filter keep (x ∷ xs))
    by true e rest = rw e ((λ passes. none_filtered test keep xs (once.0 passes)), rest)
    by false e rest = rw e rest

-- none is left that a text is the same as, where it is the same as another that was taken out
none_other : (text other : List ℕ) (xs : List (List ℕ)) → same_bytes text other ≡ true → list_any (same_bytes text) (filter (λ x. not (same_bytes other x)) xs) ≡ false
none_other text other [] same = refl
none_other text other (x ∷ xs) same = by (same_bytes other x) refl (none_other text other xs same)
  where
    is : text ≡ other
    is = (equal_bytes text other).0 same

    by : (b : Bool) → same_bytes other x ≡ b → list_any (same_bytes text) (filter (λ x. not (same_bytes other x)) xs) ≡ false
        → list_any (same_bytes text) (filter (λ x. not (same_bytes other x)) (x ∷ xs)) ≡ false
    by true e rest = rw e rest
    by false e rest =
        let here : same_bytes text x ≡ false = ap (λ (t : List ℕ). same_bytes t x) is ∙ e in
        rw (e, here) rest

once_distinct : (text : List ℕ) (texts : List (List ℕ)) → IsOnce (same_bytes text) (distinct texts)
once_distinct text [] = tt
once_distinct text (t ∷ texts) = (
  (λ same. none_other text t (distinct texts) same),
  once_filtered (same_bytes text) (λ other. not (same_bytes t other)) (distinct texts) (once_distinct text texts),
)

-- ---- one more text

-- whether it's another text
abbrev unlike : List ℕ → List ℕ → Bool
unlike text = λ other. not (same_bytes text other)

pub distinct_more : (texts : List (List ℕ)) (text : List ℕ)
    → distinct (texts ++ text ∷ []) ≡ cond (list_any (same_bytes text) texts) (distinct texts) (distinct texts ++ text ∷ [])
distinct_more [] text = refl
distinct_more (t ∷ texts) text = by (same_bytes text t) (list_any (same_bytes text) texts) refl refl (distinct_more texts text)
  where
    by : (here later : Bool) → same_bytes text t ≡ here → list_any (same_bytes text) texts ≡ later
        → distinct (texts ++ text ∷ []) ≡ cond (list_any (same_bytes text) texts) (distinct texts) (distinct texts ++ text ∷ [])
        → t ∷ filter (unlike t) (distinct (texts ++ text ∷ []))
        ≡ cond (same_bytes text t || list_any (same_bytes text) texts) (t ∷ filter (unlike t) (distinct texts)) ((t ∷ filter (unlike t) (distinct texts)) ++ text ∷ [])
    by true true h l more = let all = rw l at more in rw (all, h) refl
    by false true h l more = let all = rw l at more in rw (all, h, l) refl
    by true false h l more =
        let all = rw l at more in
        let kept : same_bytes t text ≡ true = symmetric t text ∙ h in
        rw (all, h) (ap (λ (xs : List (List ℕ)). t ∷ xs) (filter-append (unlike t) (distinct texts) (text ∷ []) ∙ rw kept (append-nil (filter (unlike t) (distinct texts)))))
    by false false h l more =
        let all = rw l at more in
        let kept : same_bytes t text ≡ false = symmetric t text ∙ h in
        rw (all, h, l) (ap (λ (xs : List (List ℕ)). t ∷ xs) (filter-append (unlike t) (distinct texts) (text ∷ []) ∙ rw kept refl))

any_filtered : (text other : List ℕ) (xs : List (List ℕ)) → same_bytes text other ≡ false
    → list_any (same_bytes text) (filter (λ x. not (same_bytes other x)) xs) ≡ list_any (same_bytes text) xs
any_filtered text other [] differ = refl
any_filtered text other (x ∷ xs) differ = by (same_bytes other x) refl (any_filtered text other xs differ)
  where
    by : (b : Bool) → same_bytes other x ≡ b → list_any (same_bytes text) (filter (λ x. not (same_bytes other x)) xs) ≡ list_any (same_bytes text) xs
        → list_any (same_bytes text) (filter (λ x. not (same_bytes other x)) (x ∷ xs)) ≡ (same_bytes text x || list_any (same_bytes text) xs)
    by true e rest =
        let is : other ≡ x = (equal_bytes other x).0 e in
        let here : same_bytes text x ≡ false = ap (λ (t : List ℕ). same_bytes text t) (sym is) ∙ differ in
        rw (e, here) rest
    by false e rest = rw e (ap (λ (b : Bool). same_bytes text x || b) rest)

-- the same texts are among those that were taken once
pub any_distinct : (text : List ℕ) (texts : List (List ℕ)) → list_any (same_bytes text) (distinct texts) ≡ list_any (same_bytes text) texts
any_distinct text [] = refl
any_distinct text (t ∷ texts) = by (same_bytes text t) refl (any_distinct text texts)
  where
    by : (b : Bool) → same_bytes text t ≡ b → list_any (same_bytes text) (distinct texts) ≡ list_any (same_bytes text) texts
        → (same_bytes text t || list_any (same_bytes text) (filter (λ other. not (same_bytes t other)) (distinct texts))) ≡ (same_bytes text t || list_any (same_bytes text) texts)
    by true e rest = rw e refl
    by false e rest = rw e (any_filtered text t (distinct texts) e ∙ rest)

-- ---- one more position

-- a kind with this position, if it is of this hardware
abbrev bumped : (hardware position : List ℕ) → HardwareAtView → HardwareAtView
bumped hardware position kind = cond (same_bytes hardware kind.hardware) (record { hardware = kind.hardware; positions = kind.positions ++ position ∷ [] }) kind

-- whether a position is one of this hardware
abbrev is_of : List ℕ → Pair → Bool
is_of at = λ pair. same_bytes at pair.0

positions_more : (pairs : List Pair) (hardware position at : List ℕ)
    → positions_at (pairs ++ (hardware, position) ∷ []) at ≡ bumped hardware position (positions_at pairs at)
positions_more pairs hardware position at = by (same_bytes hardware at) refl
  where
    split : map (λ (pair : Pair). pair.1) (filter (is_of at) (pairs ++ (hardware, position) ∷ []))
        ≡ map (λ (pair : Pair). pair.1) (filter (is_of at) pairs) ++ map (λ (pair : Pair). pair.1) (filter (is_of at) ((hardware, position) ∷ []))
    split =
        ap (λ (some : List Pair). map (λ (pair : Pair). pair.1) some) (filter-append (is_of at) pairs ((hardware, position) ∷ []))
        ∙ map-append (λ (pair : Pair). pair.1) (filter (is_of at) pairs) (filter (is_of at) ((hardware, position) ∷ []))

    by : (b : Bool) → same_bytes hardware at ≡ b → positions_at (pairs ++ (hardware, position) ∷ []) at ≡ bumped hardware position (positions_at pairs at)
    by true e =
        let kept : same_bytes at hardware ≡ true = symmetric at hardware ∙ e in
        let more : map (λ (pair : Pair). pair.1) (filter (is_of at) (pairs ++ (hardware, position) ∷ [])) ≡ map (λ (pair : Pair). pair.1) (filter (is_of at) pairs) ++ position ∷ [] = split ∙ rw kept refl in
        rw e (ap (λ (all : List (List ℕ)). let kind : HardwareAtView = record { hardware = at; positions = all } in kind) more)
    by false e =
        let kept : same_bytes at hardware ≡ false = symmetric at hardware ∙ e in
        let more : map (λ (pair : Pair). pair.1) (filter (is_of at) (pairs ++ (hardware, position) ∷ [])) ≡ map (λ (pair : Pair). pair.1) (filter (is_of at) pairs) =
        split ∙ rw kept (append-nil (map (λ (pair : Pair). pair.1) (filter (is_of at) pairs))) in
        rw e (ap (λ (all : List (List ℕ)). let kind : HardwareAtView = record { hardware = at; positions = all } in kind) more)

-- at kinds of which none is of this hardware
as_new : (pairs : List Pair) (hardware position : List ℕ) (texts : List (List ℕ)) → list_any (same_bytes hardware) texts ≡ false
    → map (positions_at (pairs ++ (hardware, position) ∷ [])) texts ≡ map (positions_at pairs) texts
as_new pairs hardware position [] none = refl
as_new pairs hardware position (t ∷ texts) none = by (same_bytes hardware t) refl none (λ n. as_new pairs hardware position texts n)
  where
    by : (b : Bool) → same_bytes hardware t ≡ b → (same_bytes hardware t || list_any (same_bytes hardware) texts) ≡ false
        → (list_any (same_bytes hardware) texts ≡ false → map (positions_at (pairs ++ (hardware, position) ∷ [])) texts ≡ map (positions_at pairs) texts)
        → positions_at (pairs ++ (hardware, position) ∷ []) t ∷ map (positions_at (pairs ++ (hardware, position) ∷ [])) texts ≡ positions_at pairs t ∷ map (positions_at pairs) texts
    by true e n rest = absurd (let no = rw e at n in cc)
    by false e n rest =
        let later = rw e at n in
        let same = rest later in
        let first : positions_at (pairs ++ (hardware, position) ∷ []) t ≡ positions_at pairs t = positions_more pairs hardware position t ∙ rw e refl in
        ap (λ (kind : HardwareAtView). kind ∷ map (positions_at (pairs ++ (hardware, position) ∷ [])) texts) first ∙ ap (λ (kinds : List HardwareAtView). positions_at pairs t ∷ kinds) same

-- at kinds of which one is
as_known : (pairs : List Pair) (hardware position : List ℕ) (texts : List (List ℕ)) → IsOnce (same_bytes hardware) texts → list_any (same_bytes hardware) texts ≡ true
    → map (positions_at (pairs ++ (hardware, position) ∷ [])) texts ≡ with_position hardware position (map (positions_at pairs) texts)
as_known pairs hardware position [] once some = absurd cc
as_known pairs hardware position (t ∷ texts) once some = by (same_bytes hardware t) refl some (λ s. as_known pairs hardware position texts once.1 s)
  where
    first : positions_at (pairs ++ (hardware, position) ∷ []) t ≡ bumped hardware position (positions_at pairs t)
    first = positions_more pairs hardware position t

    by : (b : Bool) → same_bytes hardware t ≡ b → (same_bytes hardware t || list_any (same_bytes hardware) texts) ≡ true
        → (list_any (same_bytes hardware) texts ≡ true → map (positions_at (pairs ++ (hardware, position) ∷ [])) texts ≡ with_position hardware position (map (positions_at pairs) texts))
        → positions_at (pairs ++ (hardware, position) ∷ []) t ∷ map (positions_at (pairs ++ (hardware, position) ∷ [])) texts
        ≡ with_position hardware position (positions_at pairs t ∷ map (positions_at pairs) texts)
    by true e s rest =
        let same = as_new pairs hardware position texts (once.0 e) in
        ap (λ (kind : HardwareAtView). kind ∷ map (positions_at (pairs ++ (hardware, position) ∷ [])) texts) first
        ∙ (ap (λ (kinds : List HardwareAtView). bumped hardware position (positions_at pairs t) ∷ kinds) same ∙ rw e refl)
    by false e s rest =
        let later = rw e at s in
        let same = rest later in
        ap (λ (kind : HardwareAtView). kind ∷ map (positions_at (pairs ++ (hardware, position) ∷ [])) texts) first
        ∙ (ap (λ (kinds : List HardwareAtView). bumped hardware position (positions_at pairs t) ∷ kinds) same ∙ rw e refl)

-- at none
as_last : (pairs : List Pair) (hardware position : List ℕ) (texts : List (List ℕ)) → list_any (same_bytes hardware) texts ≡ false
    → with_position hardware position (map (positions_at pairs) texts) ≡ map (positions_at pairs) texts ++ one_position hardware position ∷ []
as_last pairs hardware position [] none = refl
as_last pairs hardware position (t ∷ texts) none = by (same_bytes hardware t) refl none (λ n. as_last pairs hardware position texts n)
  where
    by : (b : Bool) → same_bytes hardware t ≡ b → (same_bytes hardware t || list_any (same_bytes hardware) texts) ≡ false
        → (list_any (same_bytes hardware) texts ≡ false → with_position hardware position (map (positions_at pairs) texts) ≡ map (positions_at pairs) texts ++ one_position hardware position ∷ [])
        → with_position hardware position (positions_at pairs t ∷ map (positions_at pairs) texts) ≡ positions_at pairs t ∷ (map (positions_at pairs) texts ++ one_position hardware position ∷ [])
    by true e n rest = absurd (let no = rw e at n in cc)
    by false e n rest =
        let later = rw e at n in
        let same = rest later in
        rw e (ap (λ (kinds : List HardwareAtView). positions_at pairs t ∷ kinds) same)

-- no position of a hardware that isn't named yet
none_of : (pairs : List Pair) (hardware : List ℕ) → list_any (same_bytes hardware) (map (λ pair. pair.0) pairs) ≡ false
    → filter (λ (pair : Pair). same_bytes hardware pair.0) pairs ≡ []
none_of [] hardware none = refl
none_of (pair ∷ pairs) hardware none = by (same_bytes hardware pair.0) refl none (λ n. none_of pairs hardware n)
  where
    by : (b : Bool) → same_bytes hardware pair.0 ≡ b → (same_bytes hardware pair.0 || list_any (same_bytes hardware) (map (λ pair. pair.0) pairs)) ≡ false
        → (list_any (same_bytes hardware) (map (λ pair. pair.0) pairs) ≡ false → filter (λ (other : Pair). same_bytes hardware other.0) pairs ≡ [])
        → filter (λ (other : Pair). same_bytes hardware other.0) (pair ∷ pairs) ≡ []
    by true e n rest = absurd (let no = rw e at n in cc)
    by false e n rest = let later = rw e at n in rw e (rest later)

pub gathered_more : (pairs : List Pair) (hardware position : List ℕ) → gathered (pairs ++ (hardware, position) ∷ []) ≡ with_position hardware position (gathered pairs)
gathered_more pairs hardware position = by (list_any (same_bytes hardware) (map (λ pair. pair.0) pairs)) refl
  where
    heads : map (λ (pair : Pair). pair.0) (pairs ++ (hardware, position) ∷ []) ≡ map (λ (pair : Pair). pair.0) pairs ++ hardware ∷ []
    heads = map-append (λ (pair : Pair). pair.0) pairs ((hardware, position) ∷ [])

    by : (b : Bool) → list_any (same_bytes hardware) (map (λ pair. pair.0) pairs) ≡ b → gathered (pairs ++ (hardware, position) ∷ []) ≡ with_position hardware position (gathered pairs)
    by true e =
        let same : distinct (map (λ (pair : Pair). pair.0) (pairs ++ (hardware, position) ∷ [])) ≡ distinct (map (λ (pair : Pair). pair.0) pairs) =
        ap (λ (texts : List (List ℕ)). distinct texts) heads ∙ (distinct_more (map (λ pair. pair.0) pairs) hardware ∙ rw e refl) in
        ap (λ (texts : List (List ℕ)). map (positions_at (pairs ++ (hardware, position) ∷ [])) texts) same
        ∙ as_known pairs hardware position (distinct (map (λ pair. pair.0) pairs)) (once_distinct hardware (map (λ pair. pair.0) pairs)) (any_distinct hardware (map (λ pair. pair.0) pairs) ∙ e)
    by false e =
        let more : distinct (map (λ (pair : Pair). pair.0) (pairs ++ (hardware, position) ∷ [])) ≡ distinct (map (λ (pair : Pair). pair.0) pairs) ++ hardware ∷ [] =
        ap (λ (texts : List (List ℕ)). distinct texts) heads ∙ (distinct_more (map (λ pair. pair.0) pairs) hardware ∙ rw e refl) in
        let none : list_any (same_bytes hardware) (distinct (map (λ pair. pair.0) pairs)) ≡ false = any_distinct hardware (map (λ pair. pair.0) pairs) ∙ e in
        let here : positions_at (pairs ++ (hardware, position) ∷ []) hardware ≡ one_position hardware position =
        positions_more pairs hardware position hardware ∙ rw ((equal_bytes hardware hardware).1 refl, none_of pairs hardware e) refl in
        ap (λ (texts : List (List ℕ)). map (positions_at (pairs ++ (hardware, position) ∷ [])) texts) more
        ∙ (map-append (positions_at (pairs ++ (hardware, position) ∷ [])) (distinct (map (λ pair. pair.0) pairs)) (hardware ∷ [])
        ∙ (rw (as_new pairs hardware position (distinct (map (λ pair. pair.0) pairs)) none, here) refl ∙ sym (as_last pairs hardware position (distinct (map (λ pair. pair.0) pairs)) none)))

-- the same of some
pub gathered_some : (pairs more : List Pair) → positioned (gathered pairs) more ≡ gathered (pairs ++ more)
gathered_some pairs [] = ap (λ (all : List Pair). gathered all) (sym (append-nil pairs))
gathered_some pairs (pair ∷ more) =
    ap (λ (kinds : List HardwareAtView). positioned kinds more) (sym (gathered_more pairs pair.0 pair.1))
    ∙ (gathered_some (pairs ++ pair ∷ []) more ∙ ap (λ (all : List Pair). gathered all) (append_assoc pairs (pair ∷ []) more))

-- ---- by the index of a hardware

-- where none is of this hardware, a position makes a new kind
pub new_kind : (hardware position : List ℕ) (kinds : List HardwareAtView) → list_any (same_bytes hardware) (map (λ kind. kind.hardware) kinds) ≡ false
    → with_position hardware position kinds ≡ kinds ++ one_position hardware position ∷ []
new_kind hardware position [] none = refl
new_kind hardware position (k ∷ kinds) none = by (same_bytes hardware k.hardware) refl none (λ n. new_kind hardware position kinds n)
  where
    by : (b : Bool) → same_bytes hardware k.hardware ≡ b → (same_bytes hardware k.hardware || list_any (same_bytes hardware) (map (λ kind. kind.hardware) kinds)) ≡ false
        → (list_any (same_bytes hardware) (map (λ kind. kind.hardware) kinds) ≡ false → with_position hardware position kinds ≡ kinds ++ one_position hardware position ∷ [])
        → with_position hardware position (k ∷ kinds) ≡ (k ∷ kinds) ++ one_position hardware position ∷ []
    by true e n rest = absurd (let no = rw e at n in cc)
    by false e n rest =
        let later = rw e at n in
        let same = rest later in
        rw e (ap (λ (all : List HardwareAtView). k ∷ all) same)

-- where the one at this index is the first, a position goes to it
pub known_kind : (hardware position : List ℕ) (kinds : List HardwareAtView) (i : ℕ) (kind : HardwareAtView) → i ≡ position_or_len (same_bytes hardware) (map (λ kind. kind.hardware) kinds)
    → i < length kinds → kind.hardware ≡ (get_or kinds i kind).hardware → kind.positions ≡ (get_or kinds i kind).positions ++ position ∷ []
    → with_position hardware position kinds ≡ set kinds i kind
known_kind hardware position [] i kind at within same more = absurd (omega arith)
known_kind hardware position (k ∷ kinds) i kind at within same more =
    by (same_bytes hardware k.hardware) i refl at within same more (λ j a w s m. known_kind hardware position kinds j kind a w s m)
  where
    by : (b : Bool) (i : ℕ) → same_bytes hardware k.hardware ≡ b → i ≡ position_or_len (same_bytes hardware) (map (λ kind. kind.hardware) (k ∷ kinds))
        → i < length (k ∷ kinds) → kind.hardware ≡ (get_or (k ∷ kinds) i kind).hardware → kind.positions ≡ (get_or (k ∷ kinds) i kind).positions ++ position ∷ []
        → ((j : ℕ) → j ≡ position_or_len (same_bytes hardware) (map (λ kind. kind.hardware) kinds) → j < length kinds → kind.hardware ≡ (get_or kinds j kind).hardware
        → kind.positions ≡ (get_or kinds j kind).positions ++ position ∷ [] → with_position hardware position kinds ≡ set kinds j kind)
        → with_position hardware position (k ∷ kinds) ≡ set (k ∷ kinds) i kind
    by true zero e a w s m rest =
        let whole : kind ≡ record { hardware = k.hardware; positions = k.positions ++ position ∷ [] } =
        ap (λ (h : List ℕ). let it : HardwareAtView = record { hardware = h; positions = kind.positions } in it) s
        ∙ ap (λ (p : List (List ℕ)). let it : HardwareAtView = record { hardware = k.hardware; positions = p } in it) m in
        rw e (ap (λ (first : HardwareAtView). first ∷ kinds) (sym whole))
    by true (suc i) e a w s m rest = absurd (let no = rw e at a in cc)
    by false zero e a w s m rest = absurd (let no = rw e at a in omega arith)
    by false (suc i) e a w s m rest =
        let here = rw e at a in
        let later : i ≡ position_or_len (same_bytes hardware) (map (λ kind. kind.hardware) kinds) = omega arith in
        let same = rest i later (omega (arith, w)) s m in
        rw e (ap (λ (all : List HardwareAtView). k ∷ all) same)

-- ---- by the names of the kinds

abbrev names_in : List HardwareAtView → List (List ℕ)
names_in kinds = map (λ kind. kind.hardware) kinds

found_within : (test : List ℕ → Bool) (names : List (List ℕ)) → list_any test names ≡ true → position_or_len test names < length names
found_within test [] some = absurd cc
found_within test (name ∷ names) some = by (test name) refl some (λ s. found_within test names s)
  where
    by : (b : Bool) → test name ≡ b → (test name || list_any test names) ≡ true → (list_any test names ≡ true → position_or_len test names < length names)
        → position_or_len test (name ∷ names) < length (name ∷ names)
    by true e s rest = rw e (omega arith)
    by false e s rest = let later = rest (rw e at s) in rw e (omega (arith, later))

was_false : (b : Bool) → not b ≡ true → b ≡ false
was_false true e = absurd cc
was_false false e = refl

was_true : (b : Bool) → not b ≡ false → b ≡ true
was_true true e = refl
was_true false e = absurd cc

-- the kinds as they are kept
seen : (kinds : List HardwareAt) → map (λ (kind : HardwareAt). kind.hardware) kinds ≡ names_in (map hardware_at_view kinds)
seen [] = refl
seen (kind ∷ kinds) = ap (λ (names : List (List ℕ)). kind.hardware ∷ names) (seen kinds)

pub names_seen : (kinds : List HardwareAt) (all : List HardwareAtView) (names : List (List ℕ)) → names ≡ map (λ (kind : HardwareAt). kind.hardware) kinds → map hardware_at_view kinds ≡ all
    → names ≡ names_in all
names_seen kinds all names named is = named ∙ (seen kinds ∙ ap (λ (some : List HardwareAtView). names_in some) is)

pub new_one : (hardware key position : List ℕ) (kinds : List HardwareAtView) (names : List (List ℕ)) (is_new : Bool) → key ≡ hardware → names ≡ names_in kinds
    → is_new ≡ not (list_any (same_bytes key) names) → is_new ≡ true → kinds ++ one_position hardware position ∷ [] ≡ with_position hardware position kinds
new_one hardware key position kinds names is_new same named added new =
    let test = rw (same, named) at added in
    let none : list_any (same_bytes hardware) (names_in kinds) ≡ false = was_false (list_any (same_bytes hardware) (names_in kinds)) (sym test ∙ new) in
    sym (new_kind hardware position kinds none)

pub known_one : (hardware key position : List ℕ) (kinds more : List HardwareAtView) (names : List (List ℕ)) (is_new : Bool) (index : ℕ) → key ≡ hardware → names ≡ names_in kinds
    → is_new ≡ not (list_any (same_bytes key) names) → is_new ≡ false → index ≡ position_or_len (same_bytes key) names → HasOneMore index position kinds more
    → more ≡ with_position hardware position kinds
known_one hardware key position kinds more names is_new index same named added known at one =
    let test = rw (same, named) at added in
    let some : list_any (same_bytes hardware) (names_in kinds) ≡ true = was_true (list_any (same_bytes hardware) (names_in kinds)) (sym test ∙ known) in
    let found = found_within (same_bytes hardware) (names_in kinds) some in
    let here : index ≡ position_or_len (same_bytes hardware) (names_in kinds) = rw (same, named) at at in
    let within : index < length kinds = omega (arith, here, found, length-map kinds (λ (kind : HardwareAtView). kind.hardware)) in
    one.is ∙ sym (known_kind hardware position kinds index one.kind here within one.hardware one.positions)
