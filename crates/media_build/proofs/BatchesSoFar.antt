-- The files of batches, one batch after the other.
use Rattle.std.proofs.Common.{◌≡◌, ℕ, ◌+◌, ◌≤◌, List, [], ◌∷◌, ◌++◌, length, append-nil, append_assoc, length-append, refl, sym, ap, subst, ◌∙◌, arith}
use Rattle.std.specs.Prelude.{map}
use Rattle.std.specs.List.{AllByRecursion, sum_by}
use Rattle.std.proofs.lemmas.List.{length-map, map-append}
use Rattle.std.proofs.lemmas.List.Sums.{sum_by-append}
use Rattle.batch_lists.specs.BatchFields.{IsBatch}
use Rattle.media_check.specs.declared.built.Placed.{Placed}
use Rattle.media_build.specs.Accepted.{IsRecipe}
use Rattle.media_build.specs.Building.{batch_length, batches_length}
use Rattle.media_build.specs.NoFindings.{body_view}
use Rattle.media_build.specs.RecipeSets.{BodyView, RecipeBatchView, batch_body, batch_of, batches_of}
use Rattle.media_build.specs.declared.statements.RecipeLine.{RecipeLine}
use Rattle.media_build.proofs.BuildAnswers.{batches_bound}
use Rattle.media_build.proofs.BuiltHeaders.{first_part, second_part}
use Rattle.media_build.proofs.BuiltLists.{each_batch}
use Rattle.media_build.proofs.BuiltNames.{batch_name_of, few_batches}

-- of the batches of these lines these are left, and those before them have these files, of so many bytes together
pub record BatchesSoFar (lines : List RecipeLine) (left : List RecipeBatchView) (files : List BodyView) (bytes : ℕ) : Type 0 where
  pub before : List RecipeBatchView
  pub stands : batches_of lines ≡ before ++ left
  pub files_are : files ≡ map batch_body before
  pub bytes_are : bytes ≡ batches_length before

pub no_files : (lines : List RecipeLine) (left : List RecipeBatchView) (files : List BodyView) → left ≡ batches_of lines → files ≡ [] → BatchesSoFar lines left files 0
no_files lines left files all none = record { before = []; stands = sym all; files_are = none; bytes_are = refl }

-- the next batch meets the limits of its format
pub next_batch : (lines : List RecipeLine) (left rest : List RecipeBatchView) (batch : RecipeBatchView) (files : List BodyView) (bytes : ℕ) → BatchesSoFar lines left files bytes → left ≡ batch ∷ rest
    → IsRecipe lines → IsBatch (batch_of batch)
next_batch lines left rest batch files bytes so_far is recipe =
    let split = so_far.stands ∙ ap (λ (l : List RecipeBatchView). so_far.before ++ l) is in
    (second_part _ so_far.before (batch ∷ rest) (subst (AllByRecursion (λ (b : RecipeBatchView). IsBatch (batch_of b))) split (each_batch lines recipe))).0

-- one batch more
pub batch_more : (lines : List RecipeLine) (left rest : List RecipeBatchView) (batch : RecipeBatchView) (file : Placed) (old : List Placed) (bytes more : ℕ) → BatchesSoFar lines left (map body_view old) bytes
    → left ≡ batch ∷ rest → body_view file ≡ batch_body batch → more ≡ batch_length batch → BatchesSoFar lines rest (map body_view (old ++ file ∷ [])) (bytes + more)
batch_more lines left rest batch file old bytes more so_far is made size = record {
  before = so_far.before ++ batch ∷ [];
  stands = so_far.stands ∙ (ap (λ (l : List RecipeBatchView). so_far.before ++ l) is ∙ sym (append_assoc so_far.before (batch ∷ []) rest));
  files_are =
      map-append body_view old (file ∷ []) ∙ (ap (λ (f : List BodyView). f ++ body_view file ∷ []) so_far.files_are
      ∙ (ap (λ (f : BodyView). map batch_body so_far.before ++ f ∷ []) made ∙ sym (map-append batch_body so_far.before (batch ∷ []))));
  bytes_are =
      let sum = sum_by-append batch_length so_far.before (batch ∷ []) in
      let one : sum_by batch_length (batch ∷ []) ≡ batch_length batch = omega arith in
      omega (arith, sum, one, size, so_far.bytes_are);
}

pub few_bytes : (lines : List RecipeLine) (left : List RecipeBatchView) (files : List BodyView) (bytes : ℕ) → IsRecipe lines → BatchesSoFar lines left files bytes → bytes ≤ 40794112
few_bytes lines left files bytes is so_far =
    let batches : length (batches_of lines) ≤ 1024 = omega (arith, few_batches lines is, length-map (batches_of lines) batch_name_of) in
    let before : length so_far.before ≤ 1024 = omega (arith, batches, ap length so_far.stands, length-append so_far.before left) in
    let fits = first_part (λ (b : RecipeBatchView). IsBatch (batch_of b)) so_far.before left (subst (AllByRecursion (λ (b : RecipeBatchView). IsBatch (batch_of b))) so_far.stands (each_batch lines is)) in
    omega (arith, before, batches_bound so_far.before fits, so_far.bytes_are)

-- none is left
pub all_files : (lines : List RecipeLine) (left : List RecipeBatchView) (files : List BodyView) (bytes : ℕ) → BatchesSoFar lines left files bytes → left ≡ []
    → (files ≡ map batch_body (batches_of lines)) × (bytes ≡ batches_length (batches_of lines))
all_files lines left files bytes so_far none =
    let all : so_far.before ≡ batches_of lines = sym (so_far.stands ∙ (ap (λ (l : List RecipeBatchView). so_far.before ++ l) none ∙ append-nil so_far.before)) in
    (so_far.files_are ∙ ap (λ (l : List RecipeBatchView). map batch_body l) all, so_far.bytes_are ∙ ap (λ (l : List RecipeBatchView). batches_length l) all)
