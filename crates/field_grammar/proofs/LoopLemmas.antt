-- Loops over a count: what was read so far, and what is read yet.
use Rattle.std.proofs.Common.{◌≡◌, ℕ, ◌+◌, ◌-◌, ◌<◌, ◌≤◌, List, [], ◌∷◌, ◌++◌, Result, Ok, Err, refl, sym, ap, ◌∙◌, append_assoc, arith}
use Rattle.std.proofs.Common.{suc, length, take, get_or}
use Rattle.std.specs.Prelude.{map}
use Rattle.std.specs.List.{concat, flat_map}
use Rattle.std.proofs.lemmas.List.{append-nil, map_more, map_push}
use Rattle.std.proofs.lemmas.List.Concat.{flat_map-append, flat_map-cons}
use Rattle.std.proofs.lemmas.List.Folds.{concat-append}
use Rattle.field_grammar.specs.Cursor.{Cursor}
use Rattle.field_grammar.specs.Grammar.{Grammar, read, times, listed, ◌then◌}

-- ---- N values of one kind

-- the values that were read so far before those that are read yet
abbrev pub with_prefix : {F A : Type 0} → List A → Result (List A × Cursor) F → Result (List A × Cursor) F
with_prefix so_far r = r then (λ x. Ok (so_far ++ x.0, x.1))

regroup : {F A : Type 0} (so_far : List A) (x : A) (r : Result (List A × Cursor) F)
    → with_prefix so_far (r then (λ xs. Ok (x ∷ xs.0, xs.1))) ≡ with_prefix (so_far ++ x ∷ []) r
regroup so_far x (Ok xs) = ap (λ (l : List _). Ok (l, xs.1)) (sym (append_assoc so_far (x ∷ []) xs.0))
regroup so_far x (Err f) = refl

-- one more value
times_more : {F A : Type 0} (g : Grammar F A) (so_far : List A) (n : ℕ) (c d : Cursor) (x : A)
    → read g c ≡ Ok (x, d) → with_prefix so_far (read (times (suc n) g) c) ≡ with_prefix (so_far ++ x ∷ []) (read (times n g) d)
unfolding times
times_more g so_far n c d x here = rw here (regroup so_far x (read (times n g) d))

-- a fault in place of one more
times_stop : {F A : Type 0} (g : Grammar F A) (so_far : List A) (n : ℕ) (c : Cursor) (f : F) → read g c ≡ Err f → with_prefix so_far (read (times (suc n) g) c) ≡ Err f
unfolding times
times_stop g so_far n c f here = rw here refl

-- no more
times_none : {F A : Type 0} (g : Grammar F A) (so_far : List A) (c : Cursor) → with_prefix so_far (read (times 0 g) c) ≡ Ok (so_far, c)
unfolding times
times_none g so_far c = ap (λ (l : List _). Ok (l, c)) (append-nil so_far)

-- the loop goes on
pub goes_on : {F A : Type 0} (g : Grammar F A) (so_far : List A) (count i : ℕ) (c d : Cursor) (x : A) (total : Result (List A × Cursor) F)
    → i < count → read g c ≡ Ok (x, d) → with_prefix so_far (read (times (count - i) g) c) ≡ total → with_prefix (so_far ++ x ∷ []) (read (times (count - (i + 1)) g) d) ≡ total
goes_on g so_far count i c d x total lt here yet =
    let more : suc (count - (i + 1)) ≡ count - i = omega arith in
    sym (times_more g so_far (count - (i + 1)) c d x here) ∙ (ap (λ (n : ℕ). with_prefix so_far (read (times n g) c)) more ∙ yet)

-- the same where the values are seen by a view
pub goes_on_seen : {F A X : Type 0} (g : Grammar F A) (view : X → A) (items more : List X) (count i : ℕ) (c d : Cursor) (x : X) (total : Result (List A × Cursor) F)
    → more ≡ items ++ x ∷ [] → i < count → read g c ≡ Ok (view x, d) → with_prefix (map view items) (read (times (count - i) g) c) ≡ total
    → with_prefix (map view more) (read (times (count - (i + 1)) g) d) ≡ total
goes_on_seen g view items more count i c d x total pushed lt here yet =
    rw (pushed, map_push view items x) (goes_on g (map view items) count i c d (view x) total lt here yet)

-- the loop ends with a fault
pub ends : {F A : Type 0} (g : Grammar F A) (so_far : List A) (count i : ℕ) (c : Cursor) (f : F) (total : Result (List A × Cursor) F)
    → i < count → read g c ≡ Err f → with_prefix so_far (read (times (count - i) g) c) ≡ total → total ≡ Err f
ends g so_far count i c f total lt here yet =
    let more : count - i ≡ suc (count - (i + 1)) = omega arith in
    sym yet ∙ (ap (λ (n : ℕ). with_prefix so_far (read (times n g) c)) more ∙ times_stop g so_far (count - (i + 1)) c f here)

-- the loop is done
pub is_done : {F A : Type 0} (g : Grammar F A) (so_far : List A) (count i : ℕ) (c : Cursor) (total : Result (List A × Cursor) F)
    → count ≤ i → with_prefix so_far (read (times (count - i) g) c) ≡ total → total ≡ Ok (so_far, c)
is_done g so_far count i c total le yet =
    let none : count - i ≡ 0 = omega arith in
    sym yet ∙ (ap (λ (n : ℕ). with_prefix so_far (read (times n g) c)) none ∙ times_none g so_far c)

-- the loop begins with nothing read
pub begins : {F A : Type 0} (r : Result (List A × Cursor) F) → with_prefix [] r ≡ r
begins (Ok x) = refl
begins (Err f) = refl

-- ---- N values that may depend on those before them

item_more : {F A : Type 0} (item : List A → Grammar F A) (so_far : List A) (n : ℕ) (c d : Cursor) (x : A)
    → read (item so_far) c ≡ Ok (x, d) → read (listed (suc n) item so_far) c ≡ read (listed n item (so_far ++ x ∷ [])) d
unfolding listed
item_more item so_far n c d x here = rw here refl

item_stop : {F A : Type 0} (item : List A → Grammar F A) (so_far : List A) (n : ℕ) (c : Cursor) (f : F)
    → read (item so_far) c ≡ Err f → read (listed (suc n) item so_far) c ≡ Err f
unfolding listed
item_stop item so_far n c f here = rw here refl

item_none : {F A : Type 0} (item : List A → Grammar F A) (so_far : List A) (c : Cursor) → read (listed 0 item so_far) c ≡ Ok (so_far, c)
unfolding listed
item_none item so_far c = refl

-- the list goes on
pub list_goes_on : {F A : Type 0} (item : List A → Grammar F A) (so_far : List A) (count i : ℕ) (c d : Cursor) (x : A) (total : Result (List A × Cursor) F)
    → read (listed (count - i) item so_far) c ≡ total → i < count → read (item so_far) c ≡ Ok (x, d) → read (listed (count - (i + 1)) item (so_far ++ x ∷ [])) d ≡ total
list_goes_on item so_far count i c d x total yet lt here =
    let more : suc (count - (i + 1)) ≡ count - i = omega arith in
    sym (item_more item so_far (count - (i + 1)) c d x here) ∙ (ap (λ (n : ℕ). read (listed n item so_far) c) more ∙ yet)

-- the same where the values are seen by a view
pub list_goes_on_seen : {F A X : Type 0} (item : List A → Grammar F A) (view : X → A) (items more : List X) (count i : ℕ) (c d : Cursor) (x : X) (total : Result (List A × Cursor) F)
    → more ≡ items ++ x ∷ [] → read (listed (count - i) item (map view items)) c ≡ total → i < count → read (item (map view items)) c ≡ Ok (view x, d)
    → read (listed (count - (i + 1)) item (map view more)) d ≡ total
list_goes_on_seen item view items more count i c d x total pushed yet lt here =
    rw (pushed, map_push view items x) (list_goes_on item (map view items) count i c d (view x) total yet lt here)

-- the list ends with a fault
pub list_ends : {F A : Type 0} (item : List A → Grammar F A) (so_far : List A) (count i : ℕ) (c : Cursor) (f : F) (total : Result (List A × Cursor) F)
    → read (listed (count - i) item so_far) c ≡ total → i < count → read (item so_far) c ≡ Err f → total ≡ Err f
list_ends item so_far count i c f total yet lt here =
    let more : count - i ≡ suc (count - (i + 1)) = omega arith in
    sym yet ∙ (ap (λ (n : ℕ). read (listed n item so_far) c) more ∙ item_stop item so_far (count - (i + 1)) c f here)

-- the list is done
pub list_is_done : {F A : Type 0} (item : List A → Grammar F A) (so_far : List A) (count i : ℕ) (c : Cursor) (total : Result (List A × Cursor) F)
    → read (listed (count - i) item so_far) c ≡ total → count ≤ i → total ≡ Ok (so_far, c)
list_is_done item so_far count i c total yet le =
    let none : count - i ≡ 0 = omega arith in
    sym yet ∙ (ap (λ (n : ℕ). read (listed n item so_far) c) none ∙ item_none item so_far c)

-- ---- a loop that writes N values back to back

pub concat_more : {X Y : Type 0} (f : Y → List (List ℕ)) (v : X → Y) (xs : List X) (i : ℕ) (d : X) → i < length xs
    → concat (flat_map f (map v (take i xs))) ++ concat (f (v (get_or xs i d))) ≡ concat (flat_map f (map v (take (i + 1) xs)))
concat_more f v xs i d lt =
    let one : flat_map f (v (get_or xs i d) ∷ []) ≡ f (v (get_or xs i d)) = flat_map-cons f (v (get_or xs i d)) [] ∙ append-nil (f (v (get_or xs i d))) in
    rw (map_more v xs i d lt, flat_map-append f (map v (take i xs)) (v (get_or xs i d) ∷ []), one, concat-append) refl
