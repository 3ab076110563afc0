-- How the entries of a list are spelled, at their offsets.
use Rattle.std.proofs.Common.{◌≡◌, ℕ, ◌+◌, ◌/◌, ◌%◌, ◌<◌, ◌≤◌, ◌^◌, List, [], ◌∷◌, ◌++◌, length, Bool, true, false, refl, sym, subst, arith, length-append}
use Rattle.std.specs.Prelude.{◌==◌, not}
use Rattle.std.specs.List.{concat, AllByRecursion}
use Rattle.std.proofs.lemmas.Bool.{eq-eqb, ne_eqb}
use Rattle.std.proofs.lemmas.List.{append-nil}
use Rattle.field_grammar.specs.Grammar.{Grammar, listed}
use Rattle.field_grammar.specs.Spelling.{IsSpelledBy, IsPlacedBy, listed_fields, AllPlaced}
use Rattle.field_grammar.specs.Fields.{number_fields}
use Rattle.field_grammar.proofs.CombinedLemmas.{spelled-measured}
use Rattle.field_grammar.proofs.ListedLemmas.{placed-listed}
use Rattle.field_grammar.proofs.PlacedLemmas.{placed}
use Rattle.field_grammar.proofs.SectionLemmas.{size_number}
use Rattle.header_sections.specs.Sections.{distance_of}
use Rattle.header_sections.specs.SectionFields.{entry_size, entry_fields, entry_fields_after, entries_fields, HaveDistances}
use Rattle.media_lists.specs.Lists.{u16}
use Rattle.media_lists.specs.Entries.{numbered_entry, is_listed, new_entry, entry_after, entries}
use Rattle.media_lists.specs.ListFields.{AreNew, AreEntries}
use Rattle.media_lists.specs.declared.fault.ListFault.{ListFault}
use Rattle.media_lists.specs.declared.fault.ListFault.TheVariants as faults
use Rattle.media_lists.proofs.PieceLemmas.{spelled-u16, spelled-counted_few, placed-section}

spelled-entry : {E : Type 0} (body : Grammar ListFault E) (f : E → List (List ℕ)) (P : E → Type 0) (number : ℕ) (last : Bool) → IsSpelledBy body f P
    → IsSpelledBy (numbered_entry body number last) (entry_fields f last) (λ e. (distance_of last (entry_size f e) < 2 ^ 16) × P e)
unfolding numbered_entry
spelled-entry body f P number last one = spelled-measured u16 (distance_of last) (faults.Distance number) body 2 (number_fields 2) f (λ n. n < 2 ^ 16) P (size_number 2) spelled-u16 one

not_true : (b : Bool) → not b ≡ true → b ≡ false
not_true true e = absurd cc
not_true false e = refl

-- how an entry fits after those so far, in a list of this many
abbrev Fits : {E : Type 0} → (E → List ℕ) → (E → List (List ℕ)) → (E → Type 0) → ℕ → List E → List ℕ → ℕ → E → Type 0
Fits name_of f P count so_far before after e = ((distance_of (length so_far + 1 == count) (entry_size f e) < 2 ^ 16) × P e) × (is_listed name_of (name_of e) so_far ≡ false)

spelled-new_entry : {E : Type 0} (body : Grammar ListFault E) (name_of : E → List ℕ) (f : E → List (List ℕ)) (P : E → Type 0) (number : ℕ) (last : Bool) (so_far : List E) → IsSpelledBy body f P
    → IsSpelledBy (new_entry body name_of number last so_far) (entry_fields f last) (λ e. ((distance_of last (entry_size f e) < 2 ^ 16) × P e) × (is_listed name_of (name_of e) so_far ≡ false))
unfolding new_entry
spelled-new_entry {E = E} body name_of f P number last so_far one = record {
  to = λ before fields after value follows.
      let (this, f1, o1, e1, h1, (u, f2, o2, e2, h2, end)) = follows in
      let a1 = (spelled-entry body f P number last one).to before f1 (length (concat o1) + after) this h1 in
      let parts : fields ≡ entry_fields f last this = rw (e1, e2, h2.0, end.0, a1.0) (append-nil (entry_fields f last this)) in
      subst (λ (e : E). (fields ≡ entry_fields f last e) × (((distance_of last (entry_size f e) < 2 ^ 16) × P e) × (is_listed name_of (name_of e) so_far ≡ false))) end.1
      (parts, (a1.1, not_true (is_listed name_of (name_of this) so_far) h2.1));
  from = λ before after value fits. (
    value,
    entry_fields f last value,
    [],
    sym (append-nil (entry_fields f last value)),
    (spelled-entry body f P number last one).from _ _ value fits.0,
    (tt, [], [], refl, (refl, rw fits.1 refl), (refl, refl)),
  );
}

placed-entries_after : {E : Type 0} (body : Grammar ListFault E) (name_of : E → List ℕ) (f : E → List (List ℕ)) (P : E → Type 0) (count : ℕ) → IsSpelledBy body f P
    → IsPlacedBy (listed count (entry_after body name_of count) []) (λ before. listed_fields (entry_fields_after f count) [])
    (λ before after xs. (length xs ≡ count) × AllPlaced (entry_fields_after f count) (Fits name_of f P count) [] before after xs)
placed-entries_after body name_of f P count one =
    placed-listed (entry_after body name_of count) (entry_fields_after f count) (Fits name_of f P count) count
    (λ so_far. placed (entry_after body name_of count so_far) (entry_fields_after f count so_far)
    (λ e. ((distance_of (length so_far + 1 == count) (entry_size f e) < 2 ^ 16) × P e) × (is_listed name_of (name_of e) so_far ≡ false))
    (spelled-new_entry body name_of f P (length so_far + 1) (length so_far + 1 == count) so_far one))

-- ---- what the entries are together

short_enough : (last : Bool) (size : ℕ) → last ≡ false → size % 2 ≡ 0 → distance_of last size < 2 ^ 16 → size ≤ 131070
short_enough true size not_last even fits = absurd cc
short_enough false size not_last even fits = omega (arith, even, fits)

distance_fits : (last : Bool) (size : ℕ) → (last ≡ false → size ≤ 131070) → distance_of last size < 2 ^ 16
distance_fits true size short = omega arith
distance_fits false size short = omega (arith, short refl)

not_last : {E : Type 0} (so_far : List E) (x y : E) (xs : List E) (count : ℕ) → length so_far + length (x ∷ y ∷ xs) ≡ count → (length so_far + 1 == count) ≡ false
not_last so_far x y xs count whole = ne_eqb (length so_far + 1) count (λ same. omega (arith, whole, same))

one_more : {E : Type 0} (so_far : List E) (x : E) (xs : List E) (count : ℕ) → length so_far + length (x ∷ xs) ≡ count → length (so_far ++ x ∷ []) + length xs ≡ count
one_more so_far x xs count whole = omega (arith, whole, length-append so_far (x ∷ []))

both_tests : (b : Bool) → b ≡ true → b ≡ false → ⊥
both_tests true one other = absurd cc
both_tests false one other = absurd cc

is_last : {E : Type 0} (so_far : List E) (x : E) (count : ℕ) → length so_far + length (x ∷ []) ≡ count → (length so_far + 1 == count) ≡ false → ⊥
is_last so_far x count whole other = both_tests (length so_far + 1 == count) (eq-eqb (length so_far + 1) count (omega (arith, whole))) other

each_there : {E : Type 0} (name_of : E → List ℕ) (f : E → List (List ℕ)) (P : E → Type 0) (count : ℕ) (xs so_far : List E) (before : List ℕ) (after : ℕ)
    → AllPlaced (entry_fields_after f count) (Fits name_of f P count) so_far before after xs → AllByRecursion P xs × AreNew name_of so_far xs
each_there name_of f P count [] so_far before after all = (tt, tt)
each_there name_of f P count (x ∷ xs) so_far before after all =
    let later = each_there name_of f P count xs (so_far ++ x ∷ []) (before ++ concat (entry_fields_after f count so_far x)) after all.1 in
    ((all.0.0.1, later.0), (all.0.1, later.1))

distances_there : {E : Type 0} (name_of : E → List ℕ) (f : E → List (List ℕ)) (P : E → Type 0) (count : ℕ) → ((e : E) → entry_size f e % 2 ≡ 0) → (xs so_far : List E) (before : List ℕ) (after : ℕ)
    → length so_far + length xs ≡ count → AllPlaced (entry_fields_after f count) (Fits name_of f P count) so_far before after xs → HaveDistances f xs
distances_there name_of f P count even [] so_far before after whole all = tt
distances_there name_of f P count even (x ∷ []) so_far before after whole all = tt
distances_there name_of f P count even (x ∷ y ∷ xs) so_far before after whole all = (
  short_enough (length so_far + 1 == count) (entry_size f x) (not_last so_far x y xs count whole) (even x) all.0.0.0,
  distances_there name_of f P count even (y ∷ xs) (so_far ++ x ∷ []) (before ++ concat (entry_fields_after f count so_far x)) after (one_more so_far x (y ∷ xs) count whole) all.1,
)

all_again : {E : Type 0} (name_of : E → List ℕ) (f : E → List (List ℕ)) (P : E → Type 0) (count : ℕ) (xs so_far : List E) (before : List ℕ) (after : ℕ)
    → length so_far + length xs ≡ count → AllByRecursion P xs → HaveDistances f xs → AreNew name_of so_far xs → AllPlaced (entry_fields_after f count) (Fits name_of f P count) so_far before after xs
all_again name_of f P count [] so_far before after whole each short new = tt
all_again name_of f P count (x ∷ []) so_far before after whole each short new =
    (((distance_fits (length so_far + 1 == count) (entry_size f x) (λ other. absurd (is_last so_far x count whole other)), each.0), new.0), tt)
all_again name_of f P count (x ∷ y ∷ xs) so_far before after whole each short new = (
  ((distance_fits (length so_far + 1 == count) (entry_size f x) (λ other. short.0), each.0), new.0),
  all_again name_of f P count (y ∷ xs) (so_far ++ x ∷ []) (before ++ concat (entry_fields_after f count so_far x)) after (one_more so_far x (y ∷ xs) count whole) each.1 short.1 new.1,
)

-- the entries where their pointer says
pub placed-entries : {E : Type 0} (body : Grammar ListFault E) (name_of : E → List ℕ) (f : E → List (List ℕ)) (P : E → Type 0) → ((e : E) → entry_size f e % 2 ≡ 0) → IsSpelledBy body f P
    → (said : ℕ) → IsPlacedBy (entries body name_of said) (λ before. entries_fields f) (λ before after xs. (said ≡ length before / 2) × AreEntries P name_of f xs)
unfolding entries entries_fields
placed-entries {E = E} body name_of f P even one said = record {
  to = λ before fields after value follows.
      let (u0, f0, o0, e0, h0, (count, f1, o1, e1, h1, h3)) = follows in
      let s = (placed-section 2 said).to before f0 (length (concat o0) + after) u0 h0 in
      let a = spelled-counted_few.to (before ++ concat f0) f1 (length (concat o1) + after) count h1 in
      let there : List ℕ = (before ++ concat f0) ++ concat f1 in
      let b = (placed-entries_after body name_of f P count one).to there o1 after value h3 in
      let parts : fields ≡ number_fields 2 count ++ listed_fields (entry_fields_after f count) [] value = rw (e0, s.0, e1, a.0, b.0) refl in
      let whole : fields ≡ number_fields 2 (length value) ++ listed_fields (entry_fields_after f (length value)) [] value =
      subst (λ (n : ℕ). fields ≡ number_fields 2 n ++ listed_fields (entry_fields_after f n) [] value) (sym b.1.0) parts in
      let each = each_there name_of f P count value [] there after b.1.1 in
      let fits : AreEntries P name_of f value = record {
        count = omega (arith, a.1, b.1.0);
        each = each.0;
        distances = distances_there name_of f P count even value [] there after (omega (arith, b.1.0)) b.1.1;
        names = each.1;
      } in
      (whole, (s.1, fits));
  from = λ before after value fits.
      let count : ℕ = length value in
      let list : List (List ℕ) = listed_fields (entry_fields_after f count) [] value in
      let there : List ℕ = (before ++ []) ++ concat (number_fields 2 count) in (
        tt,
        [],
        number_fields 2 count ++ list,
        refl,
        (placed-section 2 said).from before _ tt fits.0,
        (
          count,
          number_fields 2 count,
          list,
          refl,
          spelled-counted_few.from _ _ count fits.1.count,
          (placed-entries_after body name_of f P count one).from there after value (refl, all_again name_of f P count value [] there after (omega arith) fits.1.each fits.1.distances fits.1.names),
        ),
      );
}
