-- A manifest that is read load by load.
use Rattle.std.proofs.Common.{◌≡◌, ℕ, suc, zero, List, [], ◌∷◌, length, Result, Ok, Err, OnOk, ◌⊎◌, inl, inr, refl, ap, ◌∙◌}
use Rattle.std.specs.Prelude.{IfErr, IsErrOf}
use Rattle.field_grammar.specs.Cursor.{Cursor, start}
use Rattle.field_grammar.specs.Grammar.{Grammar, read, times, ended, ◌then◌}
use Rattle.field_grammar.specs.Answers.{answer, Decodes}
use Rattle.field_grammar.proofs.StepLemmas.{then_ok}
use Rattle.disk_layout.specs.Manifest.{Head, LoadEntry, manifest_head, load_entry, loads_from, manifest, with_these}
use Rattle.disk_layout.specs.declared.manifest.Layout.{Layout}
use Rattle.disk_layout.specs.declared.manifest.ManifestFault.{ManifestFault}
use Rattle.disk_layout.specs.declared.manifest.ManifestFault.TheVariants.{Wrong, Memory}

-- a fault, or out of memory
abbrev Refused : {A : Type 0} → Result A ManifestFault → ManifestFault → Type 0
Refused r fault = (fault ≡ Memory) ⊎ (r ≡ Err fault)

instead : {A B : Type 0} (r : Result A ManifestFault) (s : Result B ManifestFault) (fault : ManifestFault) → (r ≡ Err fault → s ≡ Err fault) → Refused r fault → Refused s fault
instead r s fault then_so (inl wants) = inl wants
instead r s fault then_so (inr is) = inr (then_so is)

-- ---- the count

pub begun : (bytes : List ℕ) (head : Head) (c d : Cursor) → c ≡ start bytes → read manifest_head c ≡ Ok (head, d) → loads_from head.layout head.loads d ≡ answer manifest bytes
unfolding manifest
begun bytes head c d at here = let first : read manifest_head (start bytes) ≡ Ok (head, d) = rw (← at) here in rw first refl

not_begun : (bytes : List ℕ) (fault : ManifestFault) → read manifest_head (start bytes) ≡ Err fault → answer manifest bytes ≡ Err fault
unfolding manifest
not_begun bytes fault here = rw here refl

pub begin_refused : (bytes : List ℕ) (c : Cursor) (fault : ManifestFault) → c ≡ start bytes → ¬ (fault ≡ Memory) → Refused (read manifest_head c) fault → answer manifest bytes ≡ Err fault
begin_refused bytes c fault at other (inl wants) = absurd (other wants)
begin_refused bytes c fault at other (inr is) = not_begun bytes fault (rw (← at) is)

-- ---- one load

abbrev first_of : Result (List LoadEntry × Cursor) ManifestFault → Result (List LoadEntry) ManifestFault
first_of r = r then (λ z. Ok z.0)

abbrev ended_with : List LoadEntry → Result (Unit {0} × Cursor) ManifestFault → Result (List LoadEntry × Cursor) ManifestFault
ended_with xs k = k then (λ u. Ok (xs, u.1))

abbrev put_before : LoadEntry → Result (List LoadEntry × Cursor) ManifestFault → Result (List LoadEntry × Cursor) ManifestFault
put_before x r = r then (λ xs. Ok (x ∷ xs.0, xs.1))

abbrev then_end : Result (List LoadEntry × Cursor) ManifestFault → Result (List LoadEntry × Cursor) ManifestFault
then_end r = r then (λ y. ended_with y.0 (read (ended Wrong) y.1))

-- what an end makes of the loads before it
ends : (k : Result (Unit {0} × Cursor) ManifestFault) (x : LoadEntry) (xs : List LoadEntry) → first_of (ended_with (x ∷ xs) k) ≡ with_these (x ∷ []) (first_of (ended_with xs k))
ends (Ok u) x xs = refl
ends (Err f) x xs = refl

put_first : (r : Result (List LoadEntry × Cursor) ManifestFault) (x : LoadEntry) → first_of (then_end (put_before x r)) ≡ with_these (x ∷ []) (first_of (then_end r))
put_first (Ok y) x = ends (read (ended Wrong) y.1) x y.0
put_first (Err f) x = refl

one_load : (layout : Layout) (n : ℕ) (c d : Cursor) (x : LoadEntry) → read (load_entry layout) c ≡ Ok (x, d) → loads_from layout (suc n) c ≡ with_these (x ∷ []) (loads_from layout n d)
unfolding times
one_load layout n c d x here = rw here (put_first (read (times n (load_entry layout)) d) x)

no_load : (layout : Layout) (n : ℕ) (c : Cursor) (fault : ManifestFault) → read (load_entry layout) c ≡ Err fault → loads_from layout (suc n) c ≡ Err fault
unfolding times
no_load layout n c fault here = rw here refl

pub first_is : (layout : Layout) (n m : ℕ) (c d : Cursor) (x : LoadEntry) → n ≡ suc m → read (load_entry layout) c ≡ Ok (x, d) → loads_from layout n c ≡ with_these (x ∷ []) (loads_from layout m d)
first_is layout n m c d x more here = rw more (one_load layout m c d x here)

pub load_refused : (layout : Layout) (n m : ℕ) (c : Cursor) (fault : ManifestFault) → n ≡ suc m → Refused (read (load_entry layout) c) fault → Refused (loads_from layout n c) fault
load_refused layout n m c fault more refused = instead (read (load_entry layout) c) (loads_from layout n c) fault (λ is. rw more (no_load layout m c fault is)) refused

-- ---- the end

at_end : (layout : Layout) (c d : Cursor) (u : Unit {0}) → read (ended Wrong) c ≡ Ok (u, d) → loads_from layout 0 c ≡ Ok []
unfolding times
at_end layout c d u here = rw here refl

not_at_end : (layout : Layout) (c : Cursor) (fault : ManifestFault) → read (ended Wrong) c ≡ Err fault → loads_from layout 0 c ≡ Err fault
unfolding times
not_at_end layout c fault here = rw here refl

abbrev Ends : Cursor → Result (Unit {0}) ManifestFault → Cursor → Type 0
Ends c result d = Decodes Memory (λ (u : Unit {0}). u) (ended Wrong) c result d

pub end_is : (layout : Layout) (n : ℕ) (c d : Cursor) (result : Result (Unit {0}) ManifestFault) → n ≡ 0 → Ends c result d → OnOk result (loads_from layout n c ≡ Ok [])
end_is layout n c d (Ok u) none here = rw none (at_end layout c d u here)
end_is layout n c d (Err fault) none here = tt

pub end_refused : (layout : Layout) (n : ℕ) (c d : Cursor) (result : Result (Unit {0}) ManifestFault) → n ≡ 0 → Ends c result d → ¬ IsErrOf result Memory → IfErr result (λ fault. loads_from layout n c ≡ Err fault)
end_refused layout n c d (Ok u) none here other = tt
end_refused layout n c d (Err fault) none (inl wants) other = absurd (other (ap (λ (f : ManifestFault). Err f) wants))
end_refused layout n c d (Err fault) none (inr is) other = rw none (not_at_end layout c fault is)

-- ---- how many

abbrev Reads : Type 0 → Type 0
Reads A = Result (A × Cursor) ManifestFault

-- the first of two values that were read together
same_first : {A : Type 0} (x y : A × Cursor) (r : Reads A) → r ≡ Ok x → r ≡ Ok y → x.0 ≡ y.0
same_first {A} x y r e f = let same : x ≡ y = cc in ap (λ (z : A × Cursor). z.0) same

as_many : {A : Type 0} (g : Grammar ManifestFault A) (n : ℕ) (c : Cursor) (x : List A × Cursor) → read (times n g) c ≡ Ok x → length x.0 ≡ n
unfolding times
as_many g zero c x e = ap length (same_first x ([], c) (Ok ([], c)) e refl)
as_many {A} g (suc n) c x e =
    let (y, one, others) = then_ok (read g c) (λ (y : A × Cursor). read (times n g) y.1 then (λ (ys : List A × Cursor). Ok (y.0 ∷ ys.0, ys.1))) x e in
    let (ys, more, is) = then_ok (read (times n g) y.1) (λ (ys : List A × Cursor). Ok (y.0 ∷ ys.0, ys.1)) x others in
    ap length (same_first x (y.0 ∷ ys.0, ys.1) (Ok (y.0 ∷ ys.0, ys.1)) is refl) ∙ ap suc (as_many g n y.1 ys more)

pub counted : (layout : Layout) (n : ℕ) (c : Cursor) (loads : List LoadEntry) → loads_from layout n c ≡ Ok loads → length loads ≡ n
counted layout n c loads e =
    let (x, all, is) = then_ok (then_end (read (times n (load_entry layout)) c)) (λ (z : List LoadEntry × Cursor). Ok z.0) loads e in
    let (y, some, rest) = then_ok (read (times n (load_entry layout)) c) (λ (y : List LoadEntry × Cursor). ended_with y.0 (read (ended Wrong) y.1)) x all in
    let (u, end, whole) = then_ok (read (ended Wrong) y.1) (λ (u : Unit {0} × Cursor). Ok (y.0, u.1)) x rest in
    let last : loads ≡ x.0 = cc in
    ap length (last ∙ same_first x (y.0, u.1) (Ok (y.0, u.1)) whole refl) ∙ as_many (load_entry layout) n c y some
