-- Laws of the order of lines in a trace.
use Rattle.std.proofs.Common.{◌≡◌, ℕ, ◌+◌, List, [], ◌∷◌, ◌++◌, length, map, cond, refl, sym, ap, ◌∙◌, arith}
use Rattle.std.specs.List.{count_by}
use Rattle.std.proofs.lemmas.List.{length-append}
use Rattle.std.proofs.lemmas.List.Recursion.{is_count_by}
use Rattle.exchange_trace.specs.declared.trace.TraceStep.{TraceStep}
use Rattle.exchange_trace.specs.declared.trace.TraceStep.TheVariants as lines
use Rattle.exchange_trace.specs.Happenings.{DatagramView}
use Rattle.exchange_trace.specs.Posts.{posted_in}
use Rattle.exchange_trace.specs.Steps.{Note, Step, steps_of}
use Rattle.replay_turns.specs.Orders.{Happens, IsInOrder, Notes, Posts, SeenLine, lines_of, seen_line}
use Rattle.upload_replay.specs.Orders.{seen_from, seen_text, seen_with, wire_of_steps}
use Rattle.upload_replay.specs.Texts.{is_post, posted_with, step_line, wire, wire_from}

-- ---- the trace as text

same_line : (posted : ℕ) (step : TraceStep) → step_line posted step ≡ seen_text posted (seen_line step)
same_line posted (lines.Given h) = refl
same_line posted (lines.Posted d) = refl
same_line posted lines.Down = refl
same_line posted (lines.Up first_port sequence) = refl
same_line posted (lines.BootRefused fault) = refl

same_count : (posted : ℕ) (step : TraceStep) → posted_with posted step ≡ seen_with posted (seen_line step)
same_count posted (lines.Given h) = refl
same_count posted (lines.Posted d) = refl
same_count posted lines.Down = refl
same_count posted (lines.Up first_port sequence) = refl
same_count posted (lines.BootRefused fault) = refl

same_text : (posted : ℕ) (trace : List TraceStep) → wire_from posted trace ≡ seen_from posted (map seen_line trace)
same_text posted [] = refl
same_text posted (step ∷ later) =
    let next = seen_with posted (seen_line step) in
    ap (λ (n : ℕ). step_line n step ++ wire_from n later) (same_count posted step)
    ∙ (ap (λ (text : List ℕ). text ++ wire_from next later) (same_line next step)
    ∙ ap (λ (text : List ℕ). seen_text next (seen_line step) ++ text) (same_text next later))

-- what is printed of a trace is a function of its steps
pub wire_by_steps : (trace : List TraceStep) → IsInOrder trace → wire trace ≡ wire_of_steps (steps_of trace)
unfolding wire_of_steps
wire_by_steps trace order = same_text 0 trace ∙ ap (seen_from 0) order

-- ---- how many datagrams were posted

abbrev count_posts : List SeenLine → ℕ
count_posts [] = 0
count_posts (Posts d ∷ later) = 1 + count_posts later
count_posts (Happens h ∷ later) = count_posts later
count_posts (Notes n ∷ later) = count_posts later

count_more : (xs ys : List SeenLine) → count_posts (xs ++ ys) ≡ count_posts xs + count_posts ys
count_more [] ys = omega arith
count_more (Posts d ∷ later) ys = let rest = count_more later ys in omega (arith, rest)
count_more (Happens h ∷ later) ys = count_more later ys
count_more (Notes n ∷ later) ys = count_more later ys

count_all : (posts : List DatagramView) → count_posts (map (λ (d : DatagramView). Posts d) posts) ≡ length posts
count_all [] = refl
count_all (d ∷ posts) = let rest = count_all posts in omega (arith, rest)

count_none : (notes : List Note) → count_posts (map (λ (n : Note). Notes n) notes) ≡ 0
count_none [] = refl
count_none (n ∷ notes) = count_none notes

count_steps : (steps : List Step) → count_posts (lines_of steps) ≡ length (posted_in steps)
count_steps [] = refl
count_steps (s ∷ earlier) =
    let posts = map (λ (d : DatagramView). Posts d) s.posts in
    let notes = map (λ (n : Note). Notes n) s.notes in
    let all = count_more (lines_of earlier) (Happens s.given ∷ (posts ++ notes)) in
    let here = count_more posts notes in
    let before = count_steps earlier in
    let some = count_all s.posts in
    let none = count_none s.notes in
    let long = length-append (posted_in earlier) s.posts in
    omega (arith, all, here, before, some, none, long)

counted : (trace : List TraceStep) → count_posts (map seen_line trace) ≡ count_by is_post trace
counted trace = is_count_by (λ (t : List TraceStep). count_posts (map seen_line t)) is_post refl by trace
  where
    by : (step : TraceStep) (later : List TraceStep) → count_posts (map seen_line (step ∷ later)) ≡ cond (is_post step) (1 + count_posts (map seen_line later)) (count_posts (map seen_line later))
    by (lines.Given h) later = refl
    by (lines.Posted d) later = refl
    by lines.Down later = refl
    by (lines.Up first_port sequence) later = refl
    by (lines.BootRefused fault) later = refl

pub posts_by_steps : (trace : List TraceStep) → IsInOrder trace → count_by is_post trace ≡ length (posted_in (steps_of trace))
posts_by_steps trace order = sym (counted trace) ∙ (ap count_posts order ∙ count_steps (steps_of trace))
