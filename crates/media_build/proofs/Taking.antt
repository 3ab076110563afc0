-- Sources that are taken one after the other, and the first that is refused.
use Rattle.std.proofs.Common.{◌≡◌, ℕ, ◌+◌, ◌≤◌, ◌<◌, inl, inr, List, [], ◌∷◌, ◌++◌, length, Option, Some, None, Ok, Err, refl, subst, append_assoc, arith}
use Rattle.std.specs.Option.{ForSome}
use Rattle.std.proofs.lemmas.List.Elements.{All-nil, All-append, All-push}
use Rattle.std.proofs.lemmas.List.Sums.{sum_by-append}
use Rattle.load_base.specs.Host.{Files, ReadsFile, longest_file}
use Rattle.load_base.specs.Listed.{Listed}
use Rattle.load_base.specs.declared.host.ReadFault.TheVariants as reading
use Rattle.media_check.specs.Openings.{length_on_host, total_of, largest_set}
use Rattle.media_build.specs.Building.{IsThere, CanTake, IsSourceFault, IsFirstRefused, TakesSources}
use Rattle.media_build.specs.declared.building_fault.BuildFault.{BuildFault}
use Rattle.media_build.specs.declared.building_fault.BuildFault.TheVariants.{Absent, TooLong, TooLarge}

-- ---- where something is told

pub told_also : {A : Type 0} (o : Option A) (P Q : A → Type 0) → ForSome o P → ((x : A) → P x → Q x) → ForSome o Q
told_also o P Q p f = λ x told. f x (p x told)

pub told_both : {A : Type 0} (o : Option A) (P Q R : A → Type 0) → ForSome o P → ForSome o Q → ((x : A) → P x → Q x → R x) → ForSome o R
told_both o P Q R p q f = λ x told. f x (p x told) (q x told)

pub told_anyway : {A : Type 0} (o : Option A) (P : A → Type 0) → ((x : A) → P x) → ForSome o P
told_anyway o P f = λ x told. f x

-- ---- more sources

pub total_both : (files : Files) (before more : List (List ℕ)) → total_of files (before ++ more) ≡ total_of files before + total_of files more
total_both files before more = sum_by-append (length_on_host files) before more

pub take_none : (files : Files) (others : ℕ) → others ≤ largest_set → CanTake files others []
take_none files others small = record { there = All-nil (IsThere files); together = omega (arith, small) }

pub take_both : (files : Files) (others : ℕ) (before more : List (List ℕ)) → CanTake files others before → CanTake files (others + total_of files before) more
    → CanTake files others (before ++ more)
take_both files others before more one other = record {
  there = All-append (IsThere files) before more one.there other.there;
  together = omega (arith, total_both files before more, other.together);
}

refused_later : (files : Files) (others : ℕ) (before names after : List (List ℕ)) (fault : BuildFault) → CanTake files others before
    → IsFirstRefused files (others + total_of files before) names fault → IsFirstRefused files others (before ++ (names ++ after)) fault
refused_later files others before names after fault taken first =
    let sum : (others + total_of files before) + total_of files first.before ≡ others + total_of files (before ++ first.before) = omega (arith, total_both files before first.before) in
    record {
      before = before ++ first.before;
      name = first.name;
      after = first.after ++ after;
      stands = rw first.stands (simp append_assoc);
      taken = take_both files others before first.before taken first.taken;
      refused = subst (λ (n : ℕ). IsSourceFault files n first.name fault) sum first.refused;
    }

-- a refusal of some sources is one of all, if those before them were taken
pub takes_stop : {S T : Type 0} (files : Files) (others : ℕ) (before names after : List (List ℕ)) (P : Files → S → Type 0) (Q : Files → T → Type 0) (fault : BuildFault) → CanTake files others before
    → TakesSources (others + total_of files before) names P (Err fault) files → TakesSources others (before ++ (names ++ after)) Q (Err fault) files
takes_stop files others before names after P Q fault taken (inl failed) = inl failed
takes_stop files others before names after P Q fault taken (inr (inl memory)) = inr (inl memory)
takes_stop files others before names after P Q fault taken (inr (inr first)) = inr (inr (refused_later files others before names after fault taken first))

-- ---- one source

pub one_there : (o : Option Files) (others : ℕ) (name : List ℕ) (bytes : Listed ℕ) → ReadsFile o name (Ok bytes) → length bytes.items ≤ longest_file → others + length bytes.items ≤ largest_set
    → ForSome o (TakesSources others (name ∷ []) (λ files (read : Listed ℕ). files name ≡ Some read.items) (Ok bytes))
one_there o others name bytes reads short small files told =
    let has : files name ≡ Some bytes.items = subst (λ (f : Option Files). ReadsFile f name (Ok bytes)) told reads in
    let there : IsThere files name = record { some = λ none. let no = rw has at none in cc; short = rw has short } in
    let size : length_on_host files name ≡ length bytes.items = rw has refl in
    (record { there = All-push (IsThere files) [] name (All-nil (IsThere files)) there; together = omega (arith, size, small) }, has)

first_one : (files : Files) (others : ℕ) (name : List ℕ) (fault : BuildFault) → others ≤ largest_set → IsSourceFault files others name fault → IsFirstRefused files others (name ∷ []) fault
first_one files others name fault small refused =
    let same : others ≡ others + total_of files [] = omega arith in
    record {
      before = [];
      name = name;
      after = [];
      stands = refl;
      taken = take_none files others small;
      refused = subst (λ (n : ℕ). IsSourceFault files n name fault) same refused;
    }

pub one_large : {T : Type 0} (o : Option Files) (others : ℕ) (name : List ℕ) (bytes : Listed ℕ) (P : Files → T → Type 0) → ReadsFile o name (Ok bytes) → length bytes.items ≤ longest_file
    → others ≤ largest_set → largest_set < others + length bytes.items → ForSome o (TakesSources others (name ∷ []) P (Err TooLarge))
one_large o others name bytes P reads short small large files told =
    let has : files name ≡ Some bytes.items = subst (λ (f : Option Files). ReadsFile f name (Ok bytes)) told reads in
    let there : IsThere files name = record { some = λ none. let no = rw has at none in cc; short = rw has short } in
    let size : length_on_host files name ≡ length bytes.items = rw has refl in
    inr (inr (first_one files others name TooLarge small (there, omega (arith, size, large))))

pub one_absent : {T : Type 0} (o : Option Files) (others : ℕ) (name : List ℕ) (refused : Listed ℕ) (P : Files → T → Type 0) → ReadsFile o name (Err reading.Absent) → refused.items ≡ name
    → others ≤ largest_set → ForSome o (TakesSources others (name ∷ []) P (Err (Absent refused)))
one_absent o others name refused P reads same small files told =
    let has : files name ≡ None = subst (λ (f : Option Files). ReadsFile f name (Err reading.Absent)) told reads in
    inr (inr (first_one files others name (Absent refused) small (same, has)))

pub one_long : {T : Type 0} (o : Option Files) (others : ℕ) (name : List ℕ) (refused : Listed ℕ) (P : Files → T → Type 0) → ReadsFile o name (Err reading.TooLong) → refused.items ≡ name
    → others ≤ largest_set → ForSome o (TakesSources others (name ∷ []) P (Err (TooLong refused)))
one_long o others name refused P reads same small files told =
    let (bytes, is, long) = subst (λ (f : Option Files). ReadsFile f name (Err reading.TooLong)) told reads in
    inr (inr (first_one files others name (TooLong refused) small (same, rw is long)))
