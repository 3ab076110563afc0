-- One more line of a recipe.
use Rattle.std.proofs.Common.{◌≡◌, ℕ, ◌+◌, ◌==◌, Bool, true, false, List, [], ◌∷◌, ◌++◌, Result, Ok, Err, refl, ap}
use Rattle.std.specs.List.{slice_split}
use Rattle.text_words.specs.Words.{WrittenLine, written_from, is_passed_over}
use Rattle.media_build.specs.Recipes.{words_said, line_said, lines_said}
use Rattle.media_build.specs.declared.fault.RecipeFault.{RecipeFault}
use Rattle.media_build.specs.declared.statements.RecipeLine.{RecipeLine}
use Rattle.media_build.specs.declared.statements.Statement.{Statement}

abbrev words_of : List ℕ → List (List ℕ)
words_of line = slice_split (λ byte. byte == 32) line

same_ok : {A F : Type 0} (a b : A) → ◌≡◌ {A = Result A F} (Ok a) (Ok b) → a ≡ b
same_ok a b e = cc

no_fault : {A F : Type 0} (a : A) (fault : F) → ◌≡◌ {A = Result A F} (Ok a) (Err fault) → ⊥
no_fault a fault e = cc

same_fault : {A F : Type 0} (a b : F) → ◌≡◌ {A = Result A F} (Err a) (Err b) → a ≡ b
same_fault a b e = cc

module _ (before : List RecipeLine) (number : ℕ) (line : List ℕ) (later : List (List ℕ)) where
  abbrev rest : List WrittenLine
  rest = written_from (number + 1) later

  pub line_is_read : (after : List RecipeLine) → line_said number before line ≡ Ok after
      → lines_said before (written_from number (line ∷ later)) ≡ lines_said after (written_from (number + 1) later)
  line_is_read after e = by (is_passed_over line) refl (words_said number before (words_of line)) refl
    where
      by : (b : Bool) → is_passed_over line ≡ b → (r : Result Statement RecipeFault) → words_said number before (words_of line) ≡ r
          → lines_said before (written_from number (line ∷ later)) ≡ lines_said after (written_from (number + 1) later)
      by true p r w = let same = same_ok {F = RecipeFault} before after (rw p at e) in rw p (ap (λ (a : List RecipeLine). lines_said a rest) same)
      by false p (Ok s) w =
          let known = rw p at e in
          let same = same_ok {F = RecipeFault} (before ++ record { number = number; statement = s } ∷ []) after (rw w at known) in
          rw p (rw w (ap (λ (a : List RecipeLine). lines_said a rest) same))
      by false p (Err fault) w = let known = rw p at e in absurd (let wrong = rw w at known in cc)

  pub line_is_refused : (fault : RecipeFault) → line_said number before line ≡ Err fault → lines_said before (written_from number (line ∷ later)) ≡ Err fault
  line_is_refused fault e = by (is_passed_over line) refl (words_said number before (words_of line)) refl
    where
      by : (b : Bool) → is_passed_over line ≡ b → (r : Result Statement RecipeFault) → words_said number before (words_of line) ≡ r
          → lines_said before (written_from number (line ∷ later)) ≡ Err fault
      by true p r w = absurd (no_fault before fault (rw p at e))
      by false p (Ok s) w = let known = rw p at e in absurd (let wrong = rw w at known in cc)
      by false p (Err other) w =
          let known = rw p at e in
          let same = same_fault {A = List RecipeLine} other fault (rw w at known) in
          rw p (rw w (ap (λ (f : RecipeFault). Err f) same))
