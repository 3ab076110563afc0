-- What it means for a list to fit.
use Rattle.std.proofs.Common.{◌≡◌, ℕ, zero, suc, ◌+◌, ◌<◌, ◌≤◌, List, [], ◌∷◌, ◌++◌, length, take, get_or, Bool, true, false, Some, None, refl, sym, ap, subst, ◌∙◌, arith, append_assoc}
use Rattle.std.specs.Prelude.{map, not, ⊤}
use Rattle.std.specs.List.{AllByRecursion, All}
use Rattle.std.proofs.lemmas.List.{append-nil, take_more, take-map, get_or-map, length-map}
use Rattle.std.proofs.lemmas.List.Elements.{All-nil, All-cons}
use Rattle.media_lists.specs.Entries.{is_listed}
use Rattle.header_sections.specs.SectionFields.{entry_size, HaveDistances}
use Rattle.media_lists.specs.ListFields.{AreNew}
use Rattle.media_lists.specs.Files.{file_body_fields, IsListedFile}
use Rattle.media_lists.specs.Loads.{load_entry_view, IsListedLoad}
use Rattle.media_lists.specs.declared.lists.ListedFile.{ListedFile}
use Rattle.media_lists.specs.declared.lists.LoadEntry.{LoadEntry}
use Rattle.media_lists.proofs.Sizes.{size_file}

pub few_hardware : (members : ℕ) (loads : List LoadEntry) → AllByRecursion (IsListedLoad members) (map load_entry_view loads) → All (λ load. length load.hardware.items ≤ 1024) loads
few_hardware members [] each = All-nil (λ load. length load.hardware.items ≤ 1024)
few_hardware members (load ∷ loads) each = All-cons (λ load. length load.hardware.items ≤ 1024) load loads each.0.few (few_hardware members loads each.1)

-- each file fits
pub all_fit : (files : List ListedFile) → All (λ file. ⊤) files
all_fit [] = All-nil (λ file. ⊤)
all_fit (file ∷ files) = All-cons (λ file. ⊤) file files tt (all_fit files)

-- ---- one of the entries

pub each_at : {E : Type 0} (P : E → Type 0) (es : List E) (i : ℕ) (d : E) → i < length es → d ≡ get_or es i d → AllByRecursion P es → P d
each_at P [] i d lt is all = absurd (omega arith)
each_at P (e ∷ es) zero d lt is all = subst P (sym is) all.0
each_at P (e ∷ es) (suc i) d lt is all = each_at P es i d (omega (arith, lt)) is all.1

-- ---- names of their own

pub new_at : {E : Type 0} (name_of : E → List ℕ) (so_far es : List E) (i : ℕ) (d : E) → i < length es → d ≡ get_or es i d → AreNew name_of so_far es → is_listed name_of (name_of d) (so_far ++ take i es) ≡ false
new_at name_of so_far [] i d lt is new = absurd (omega arith)
new_at name_of so_far (e ∷ es) zero d lt is new = rw (append-nil so_far, is) new.0
new_at name_of so_far (e ∷ es) (suc i) d lt is new =
    subst (λ (l : List _). is_listed name_of (name_of d) l ≡ false) (append_assoc so_far (e ∷ []) (take i es)) (new_at name_of (so_far ++ e ∷ []) es i d (omega (arith, lt)) is new.1)

new_append : {E : Type 0} (name_of : E → List ℕ) (so_far es : List E) (e : E) → AreNew name_of so_far es → is_listed name_of (name_of e) (so_far ++ es) ≡ false → AreNew name_of so_far (es ++ e ∷ [])
new_append name_of so_far [] e new one = (subst (λ (l : List _). is_listed name_of (name_of e) l ≡ false) (append-nil so_far) one, tt)
new_append name_of so_far (x ∷ es) e new one =
    (new.0, new_append name_of (so_far ++ x ∷ []) es e new.1 (subst (λ (l : List _). is_listed name_of (name_of e) l ≡ false) (sym (append_assoc so_far (x ∷ []) es)) one))

pub new_more : {E : Type 0} (name_of : E → List ℕ) (es : List E) (i : ℕ) (d : E) → i < length es → d ≡ get_or es i d → AreNew name_of [] (take i es) → is_listed name_of (name_of d) (take i es) ≡ false → AreNew name_of [] (take (i + 1) es)
new_more name_of es i d lt is new one =
    rw (take_more es i d lt) (new_append name_of [] (take i es) (get_or es i d) new (subst (λ (e : _). is_listed name_of (name_of e) (take i es) ≡ false) is one))

-- ---- files

pub files_short : (members : ℕ) (files : List ListedFile) → AllByRecursion (IsListedFile members) files → HaveDistances file_body_fields files
files_short members [] each = tt
files_short members (file ∷ []) each = tt
files_short members (file ∷ next ∷ files) each = (omega (arith, size_file file, each.0.name.size.1, each.0.path.size), files_short members (next ∷ files) each.1)

-- ---- loads

pub distances_from : {E : Type 0} (f : E → List (List ℕ)) (es : List E) → ((k : ℕ) (d : E) → k + 1 < length es → entry_size f (get_or es k d) ≤ 131070) → HaveDistances f es
distances_from f [] short = tt
distances_from f (x ∷ []) short = tt
distances_from f (x ∷ y ∷ es) short = (short 0 x (omega arith), distances_from f (y ∷ es) (λ k d lt. short (suc k) d (omega (arith, lt))))

-- ---- answers

pub some_or_none : {A : Type 0} (x : A) → Some x ≡ None → ⊥
some_or_none x same = absurd cc

pub true_or_false : (b : Bool) → b ≡ true → b ≡ false → ⊥
true_or_false true one other = absurd cc
true_or_false false one other = absurd cc

not_so : (b : Bool) → not b ≡ false → b ≡ true
not_so true same = refl
not_so false same = absurd cc

pub not_listed : (b listed : Bool) → b ≡ not listed → b ≡ true → listed ≡ false
not_listed b true is one = absurd (true_or_false b one is)
not_listed b false is one = refl

-- a name that is refused isn't new
pub new_refused : {E : Type 0} (name_of : E → List ℕ) (es : List E) (i : ℕ) (d : E) (b : Bool) → i < length es → d ≡ get_or es i d → b ≡ not (is_listed name_of (name_of d) (take i es)) → b ≡ false → AreNew name_of [] es → ⊥
new_refused name_of es i d b lt is tells refused all = true_or_false (is_listed name_of (name_of d) (take i es)) (not_so (is_listed name_of (name_of d) (take i es)) (sym tells ∙ refused)) (new_at name_of [] es i d lt is all)

-- and one that is taken is
pub new_kept : {E : Type 0} (name_of : E → List ℕ) (es : List E) (i : ℕ) (d : E) (b : Bool) → i < length es → d ≡ get_or es i d → b ≡ not (is_listed name_of (name_of d) (take i es)) → b ≡ true → AreNew name_of [] (take i es) → AreNew name_of [] (take (i + 1) es)
new_kept name_of es i d b lt is tells kept new = new_more name_of es i d lt is new (not_listed b (is_listed name_of (name_of d) (take i es)) tells kept)

-- the same of entries as they are kept
module _ {E V : Type 0} (name_of : V → List ℕ) (view : E → V) (es : List E) (i : ℕ) (d : E) (b : Bool) (lt : i < length es) (is : d ≡ get_or es i d) (tells : b ≡ not (is_listed name_of (name_of (view d)) (map view (take i es)))) where
  below : i < length (map view es)
  below = omega (arith, lt, length-map es view)

  seen : view d ≡ get_or (map view es) i (view d)
  seen = ap view is ∙ sym (get_or-map view es i d (view d) lt)

  tells_seen : b ≡ not (is_listed name_of (name_of (view d)) (take i (map view es)))
  tells_seen = tells ∙ ap (λ (l : List V). not (is_listed name_of (name_of (view d)) l)) (sym (take-map view i es))

  pub refused_seen : b ≡ false → AreNew name_of [] (map view es) → ⊥
  refused_seen = new_refused name_of (map view es) i (view d) b below seen tells_seen

  pub kept_seen : b ≡ true → AreNew name_of [] (map view (take i es)) → AreNew name_of [] (map view (take (i + 1) es))
  kept_seen kept new =
      subst (λ (l : List V). AreNew name_of [] l) (take-map view (i + 1) es)
      (new_kept name_of (map view es) i (view d) b below seen tells_seen kept (subst (λ (l : List V). AreNew name_of [] l) (sym (take-map view i es)) new))
