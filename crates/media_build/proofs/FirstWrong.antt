-- The fault of some lines is that of the first that is wrong.
use Rattle.std.proofs.Common.{◌≡◌, List, [], ◌∷◌, ◌++◌, Result, Ok, Err, refl, ◌∙◌, ap}
use Rattle.text_words.specs.Words.{WrittenLine}
use Rattle.media_build.specs.Recipes.{words_said, lines_said, IsFirstWrong}
use Rattle.media_build.specs.declared.fault.RecipeFault.{RecipeFault}
use Rattle.media_build.specs.declared.statements.RecipeLine.{RecipeLine}
use Rattle.media_build.specs.declared.statements.Statement.{Statement}

-- the same after some lines
record WrongAfter (start : List RecipeLine) (written : List WrittenLine) (fault : RecipeFault) : Type 0 where
  before : List WrittenLine
  line : WrittenLine
  after : List WrittenLine
  stands : written ≡ before ++ line ∷ after
  lines : List RecipeLine
  said : lines_said start before ≡ Ok lines
  wrong : words_said line.number lines line.words ≡ Err fault

same_fault : {A F : Type 0} (a b : F) → ◌≡◌ {A = Result A F} (Err a) (Err b) → a ≡ b
same_fault a b e = cc

found : (start : List RecipeLine) (written : List WrittenLine) (fault : RecipeFault) → lines_said start written ≡ Err fault → WrongAfter start written fault
found start [] fault e = absurd cc
found start (line ∷ later) fault e = by (λ (more : List RecipeLine). found more later fault) (words_said line.number start line.words) refl
  where
    by : ((more : List RecipeLine) → lines_said more later ≡ Err fault → WrongAfter more later fault)
        → (r : Result Statement RecipeFault) → words_said line.number start line.words ≡ r → WrongAfter start (line ∷ later) fault
    by next (Ok s) w =
        let rest = next (start ++ record { number = line.number; statement = s } ∷ []) (rw w at e) in
        record {
          before = line ∷ rest.before;
          line = rest.line;
          after = rest.after;
          stands = ap (λ (lines : List WrittenLine). line ∷ lines) rest.stands;
          lines = rest.lines;
          said = rw w rest.said;
          wrong = rest.wrong;
        }
    by next (Err other) w =
        let same = same_fault {A = List RecipeLine} other fault (rw w at e) in
        record { before = []; line = line; after = later; stands = refl; lines = start; said = refl; wrong = w ∙ ap (λ (f : RecipeFault). Err f) same }

pub first_wrong_is_found : (written : List WrittenLine) (fault : RecipeFault) → lines_said [] written ≡ Err fault → IsFirstWrong written fault
first_wrong_is_found written fault e =
    let here = found [] written fault e in
    record { before = here.before; line = here.line; after = here.after; stands = here.stands; lines = here.lines; said = here.said; wrong = here.wrong }

-- what stands after lines that say something
after_said : (start : List RecipeLine) (front later : List WrittenLine) (lines : List RecipeLine) → lines_said start front ≡ Ok lines
    → lines_said start (front ++ later) ≡ lines_said lines later
after_said start [] later lines e = let same : start ≡ lines = cc in ap (λ (l : List RecipeLine). lines_said l later) same
after_said start (line ∷ front) later lines e = by (λ (more : List RecipeLine). after_said more front later lines) (words_said line.number start line.words) refl
  where
    by : ((more : List RecipeLine) → lines_said more front ≡ Ok lines → lines_said more (front ++ later) ≡ lines_said lines later)
        → (r : Result Statement RecipeFault) → words_said line.number start line.words ≡ r → lines_said start ((line ∷ front) ++ later) ≡ lines_said lines later
    by next (Ok s) w = rw w (next (start ++ record { number = line.number; statement = s } ∷ []) (rw w at e))
    by next (Err other) w = absurd (let wrong = rw w at e in cc)

pub first_wrong_is_told : (written : List WrittenLine) (fault : RecipeFault) → IsFirstWrong written fault → lines_said [] written ≡ Err fault
first_wrong_is_told written fault is =
    rw is.stands (after_said [] is.before (is.line ∷ is.after) is.lines is.said ∙ rw is.wrong refl)
