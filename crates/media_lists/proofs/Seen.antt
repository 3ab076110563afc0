-- Entries, whether or not the spare capacity of their lists is seen.
use Rattle.std.proofs.Common.{◌≡◌, ℕ, List, [], ◌∷◌, ◌++◌, length, Bool, refl, sym, ap, ◌∙◌}
use Rattle.std.specs.Prelude.{map, ◌||◌, ◌+◌, ◌==◌}
use Rattle.std.specs.List.{list_any, AllByRecursion}
use Rattle.std.proofs.lemmas.List.{length-map, map-append}
use Rattle.load_base.specs.Bytes.{same_bytes}
use Rattle.field_grammar.specs.Spelling.{listed_fields}
use Rattle.field_grammar.specs.Fields.{number_fields}
use Rattle.media_lists.specs.Entries.{is_listed}
use Rattle.header_sections.specs.SectionFields.{entry_fields, entry_fields_after, entries_fields, HaveDistances}

listed_seen_from : {E V : Type 0} (f : V → List (List ℕ)) (view : E → V) (n : ℕ) (so_far es : List E)
    → listed_fields (entry_fields_after f n) (map view so_far) (map view es) ≡ listed_fields (entry_fields_after (λ e. f (view e)) n) so_far es
unfolding listed_fields
listed_seen_from f view n so_far [] = refl
listed_seen_from f view n so_far (e ∷ es) =
    let here : entry_fields_after f n (map view so_far) (view e) ≡ entry_fields_after (λ e. f (view e)) n so_far e =
    ap (λ (k : ℕ). entry_fields f (k + 1 == n) (view e)) (length-map so_far view) in
    let one_more : map view so_far ++ view e ∷ [] ≡ map view (so_far ++ e ∷ []) = sym (map-append view so_far (e ∷ [])) in
    let there : listed_fields (entry_fields_after f n) (map view so_far ++ view e ∷ []) (map view es) ≡ listed_fields (entry_fields_after (λ e. f (view e)) n) (so_far ++ e ∷ []) es =
    ap (λ (l : List _). listed_fields (entry_fields_after f n) l (map view es)) one_more ∙ listed_seen_from f view n (so_far ++ e ∷ []) es in
    ap (λ (l : List (List ℕ)). l ++ listed_fields (entry_fields_after f n) (map view so_far ++ view e ∷ []) (map view es)) here ∙ ap (λ (l : List (List ℕ)). entry_fields_after (λ e. f (view e)) n so_far e ++ l) there

-- the section of entries
pub entries_seen : {E V : Type 0} (f : V → List (List ℕ)) (view : E → V) (es : List E) → entries_fields f (map view es) ≡ entries_fields (λ e. f (view e)) es
unfolding entries_fields
entries_seen f view es =
    ap (λ (n : ℕ). number_fields 2 n ++ listed_fields (entry_fields_after f n) [] (map view es)) (length-map es view)
    ∙ ap (λ (l : List (List ℕ)). number_fields 2 (length es) ++ l) (listed_seen_from f view (length es) [] es)

listed_seen : {E V : Type 0} (name_of : V → List ℕ) (view : E → V) (title : List ℕ) (es : List E)
    → list_any (λ e. same_bytes (name_of e) title) (map view es) ≡ list_any (λ e. same_bytes (name_of (view e)) title) es
listed_seen name_of view title [] = refl
listed_seen name_of view title (e ∷ es) = ap (λ (rest : Bool). same_bytes (name_of (view e)) title || rest) (listed_seen name_of view title es)

-- the names alone
names_seen : {E : Type 0} (name_of : E → List ℕ) (title : List ℕ) (es : List E) → list_any (λ e. same_bytes (name_of e) title) es ≡ list_any (λ other. same_bytes other title) (map name_of es)
names_seen name_of title [] = refl
names_seen name_of title (e ∷ es) = ap (λ (rest : Bool). same_bytes (name_of e) title || rest) (names_seen name_of title es)

pub listed_named : {E : Type 0} (name_of : E → List ℕ) (title : List ℕ) (es : List E) → is_listed name_of title es ≡ list_any (λ other. same_bytes other title) (map name_of es)
unfolding is_listed
listed_named name_of title es = names_seen name_of title es

pub listed_kept : {E V : Type 0} (name_of : V → List ℕ) (view : E → V) (title : List ℕ) (es : List E) → is_listed (λ e. name_of (view e)) title es ≡ is_listed name_of title (map view es)
unfolding is_listed
listed_kept name_of view title es = sym (listed_seen name_of view title es)

-- the names of entries as they are kept
pub names_kept : {E V : Type 0} (name_of : V → List ℕ) (view : E → V) (es : List E) → map name_of (map view es) ≡ map (λ e. name_of (view e)) es
names_kept name_of view [] = refl
names_kept name_of view (e ∷ es) = ap (λ (l : List (List ℕ)). name_of (view e) ∷ l) (names_kept name_of view es)

pub distances_seen : {E V : Type 0} (f : V → List (List ℕ)) (view : E → V) (es : List E) → HaveDistances f (map view es) → HaveDistances (λ e. f (view e)) es
distances_seen f view [] short = tt
distances_seen f view (x ∷ []) short = tt
distances_seen f view (x ∷ y ∷ es) short = (short.0, distances_seen f view (y ∷ es) short.1)

pub distances_unseen : {E V : Type 0} (f : V → List (List ℕ)) (view : E → V) (es : List E) → HaveDistances (λ e. f (view e)) es → HaveDistances f (map view es)
distances_unseen f view [] short = tt
distances_unseen f view (x ∷ []) short = tt
distances_unseen f view (x ∷ y ∷ es) short = (short.0, distances_unseen f view (y ∷ es) short.1)

pub each_seen : {E V : Type 0} (P : V → Type 0) (view : E → V) (es : List E) → AllByRecursion P (map view es) → AllByRecursion (λ e. P (view e)) es
each_seen P view [] all = tt
each_seen P view (e ∷ es) all = (all.0, each_seen P view es all.1)

pub each_unseen : {E V : Type 0} (P : V → Type 0) (view : E → V) (es : List E) → AllByRecursion (λ e. P (view e)) es → AllByRecursion P (map view es)
each_unseen P view [] all = tt
each_unseen P view (e ∷ es) all = (all.0, each_unseen P view es all.1)
