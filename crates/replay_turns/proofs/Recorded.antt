-- A trace that is kept goes on.
use Rattle.std.proofs.Common.{◌≡◌, ℕ, zero, suc, ◌+◌, ◌<◌, ◌≤◌, List, [], ◌∷◌, ◌++◌, length, map, Option, Some, None, refl, sym, ap, ◌∙◌, arith}
use Rattle.std.specs.Prelude.{◌-◌, ◌==◌, false, slice_get, option_map}
use Rattle.std.proofs.lemmas.Bool.Decides.{nat_tests}
use Rattle.std.specs.List.{All}
use Rattle.std.proofs.lemmas.List.{append-nil, append_assoc, length-append, length-map, map-append}
use Rattle.std.proofs.lemmas.List.Elements.{All-append, All-cons, All-head, All-nil, All-tail, All-weaker}
use Rattle.std.proofs.lemmas.List.Sums.{fold-append}
use Rattle.std.proofs.lemmas.Option.{slice_get-map}
use Rattle.exchange_trace.specs.declared.trace.Datagram.{Datagram}
use Rattle.exchange_trace.specs.declared.trace.TraceStep.{TraceStep}
use Rattle.exchange_trace.specs.declared.trace.TraceStep.TheVariants as lines
use Rattle.exchange_trace.specs.Happenings.{DatagramView, HappeningView, datagram_view, happening_view}
use Rattle.exchange_trace.specs.Posts.{numbered, port_above, posted_in}
use Rattle.exchange_trace.specs.Steps.{Boot_refused, Came_up, Note, Step, Went_down, steps_of, with_given, with_line, with_note, with_post}
use Rattle.replay_turns.specs.Orders.{Happens, IsInOrder, Notes, Posts, SeenLine, lines_of, seen_line}
use Rattle.replay_turns.specs.Recordings.{StepHasBegun, HasPlace, IsRecorded, post_of}

-- ---- the steps

pub steps_more : (trace : List TraceStep) (line : TraceStep) → steps_of (trace ++ line ∷ []) ≡ with_line (steps_of trace) line
unfolding steps_of
steps_more trace line = fold-append with_line [] trace (line ∷ [])

posted_given : (steps : List Step) (h : HappeningView) → posted_in (with_given steps h) ≡ posted_in steps
posted_given steps h = append-nil (posted_in steps)

posted_noted : (steps : List Step) (note : Note) → posted_in (with_note steps note) ≡ posted_in steps
posted_noted [] note = refl
posted_noted (s ∷ earlier) note = refl

posted_post : (steps : List Step) (d : DatagramView) → StepHasBegun steps → posted_in (with_post steps d) ≡ posted_in steps ++ d ∷ []
posted_post [] d begun = absurd begun
posted_post (s ∷ earlier) d begun = sym (append_assoc (posted_in earlier) s.posts (d ∷ []))

pub still_begun : (steps : List Step) (d : DatagramView) → StepHasBegun steps → StepHasBegun (with_post steps d)
still_begun [] d begun = absurd begun
still_begun (s ∷ earlier) d begun = begun

-- ---- the order of the lines

module _ (before : List SeenLine) (given : HappeningView) where
  abbrev step_lines : List DatagramView → List Note → List SeenLine
  step_lines posts notes = before ++ Happens given ∷ (map (λ (d : DatagramView). Posts d) posts ++ map (λ (n : Note). Notes n) notes)

  lines_posted : (posts : List DatagramView) (notes : List Note) (d : DatagramView) → notes ≡ [] → step_lines (posts ++ d ∷ []) notes ≡ step_lines posts notes ++ Posts d ∷ []
  lines_posted posts notes d none =
      let sent = map (λ (x : DatagramView). Posts x) posts in
      ap (λ (m : List Note). step_lines (posts ++ d ∷ []) m) none
      ∙ (ap (λ (lines : List SeenLine). before ++ Happens given ∷ lines)
      (append-nil (map (λ (x : DatagramView). Posts x) (posts ++ d ∷ []))
      ∙ (map-append (λ (x : DatagramView). Posts x) posts (d ∷ []) ∙ ap (λ (lines : List SeenLine). lines ++ Posts d ∷ []) (sym (append-nil sent))))
      ∙ (sym (append_assoc before (Happens given ∷ (sent ++ [])) (Posts d ∷ []))
      ∙ ap (λ (m : List Note). step_lines posts m ++ Posts d ∷ []) (sym none)))

  lines_noted : (posts : List DatagramView) (notes : List Note) (n : Note) → step_lines posts (notes ++ n ∷ []) ≡ step_lines posts notes ++ Notes n ∷ []
  lines_noted posts notes n =
      let sent = map (λ (x : DatagramView). Posts x) posts in
      let told = map (λ (x : Note). Notes x) notes in
      ap (λ (lines : List SeenLine). before ++ Happens given ∷ (sent ++ lines)) (map-append (λ (x : Note). Notes x) notes (n ∷ []))
      ∙ (ap (λ (lines : List SeenLine). before ++ Happens given ∷ lines) (sym (append_assoc sent told (Notes n ∷ [])))
      ∙ sym (append_assoc before (Happens given ∷ (sent ++ told)) (Notes n ∷ [])))

note_in_order : (steps : List Step) (n : Note) → StepHasBegun steps → lines_of (with_note steps n) ≡ lines_of steps ++ Notes n ∷ []
note_in_order [] n begun = absurd begun
note_in_order (s ∷ earlier) n begun = lines_noted (lines_of earlier) s.given s.posts s.notes n

line_in_order : (steps : List Step) (line : TraceStep) → HasPlace steps line → lines_of (with_line steps line) ≡ lines_of steps ++ seen_line line ∷ []
line_in_order steps (lines.Given h) place = refl
line_in_order [] (lines.Posted d) place = absurd place
line_in_order (s ∷ earlier) (lines.Posted d) place = lines_posted (lines_of earlier) s.given s.posts s.notes (datagram_view d) place
line_in_order steps lines.Down place = note_in_order steps Went_down place
line_in_order steps (lines.Up first_port sequence) place = note_in_order steps (Came_up first_port sequence) place
line_in_order steps (lines.BootRefused fault) place = note_in_order steps (Boot_refused fault) place

stays_in_order : (trace : List TraceStep) (line : TraceStep) → HasPlace (steps_of trace) line → IsInOrder trace → IsInOrder (trace ++ line ∷ [])
stays_in_order trace line place order =
    map-append seen_line trace (line ∷ [])
    ∙ (ap (λ (seen : List SeenLine). seen ++ seen_line line ∷ []) order
    ∙ (sym (line_in_order (steps_of trace) line place) ∙ ap lines_of (sym (steps_more trace line))))

port_more : (posts : List DatagramView) (least : ℕ) (d : DatagramView) → port_above least (posts ++ d ∷ []) ≡ port_above (port_above least posts) (d ∷ [])
port_more [] least d = refl
port_more (p ∷ posts) least d = port_more posts (port_above least (p ∷ [])) d

-- a line that posts no datagram
posts_nothing : (line : TraceStep) (steps : List Step) → post_of (Some line) ≡ None → posted_in (with_line steps line) ≡ posted_in steps
posts_nothing (lines.Posted d) steps none = absurd cc
posts_nothing (lines.Given happening) steps none = posted_given steps (happening_view happening)
posts_nothing lines.Down steps none = posted_noted steps Went_down
posts_nothing (lines.Up first_port sequence) steps none = posted_noted steps (Came_up first_port sequence)
posts_nothing (lines.BootRefused fault) steps none = posted_noted steps (Boot_refused fault)

-- ---- where datagrams stand

get_first : {A : Type 0} (xs ys : List A) (i : ℕ) → i < length xs → slice_get (xs ++ ys) i ≡ slice_get xs i
get_first [] ys i within = absurd (omega arith)
get_first (x ∷ xs) ys zero within = refl
get_first (x ∷ xs) ys (suc i) within = get_first xs ys i (omega arith)

get_last : {A : Type 0} (xs : List A) (x : A) → slice_get (xs ++ x ∷ []) (length xs) ≡ Some x
get_last [] x = refl
get_last (y ∷ xs) x = get_last xs x

module _ (trace : List TraceStep) (line : TraceStep) where
  same_posts : (posts : List ℕ) → All (λ (i : ℕ). i < length trace) posts → map (λ (i : ℕ). post_of (slice_get (trace ++ line ∷ []) i)) posts ≡ map (λ (i : ℕ). post_of (slice_get trace i)) posts
  same_posts [] within = refl
  same_posts (i ∷ posts) within =
      let here : slice_get (trace ++ line ∷ []) i ≡ slice_get trace i = get_first trace (line ∷ []) i (All-head (λ (i : ℕ). i < length trace) i posts within) in
      let later : map (λ (i : ℕ). post_of (slice_get (trace ++ line ∷ []) i)) posts ≡ map (λ (i : ℕ). post_of (slice_get trace i)) posts = same_posts posts (All-tail (λ (i : ℕ). i < length trace) i posts within) in
      rw (here, later) refl

  longer : length (trace ++ line ∷ []) ≡ length trace + 1
  longer = length-append trace (line ∷ [])

  still_within : (posts : List ℕ) → All (λ (i : ℕ). i < length trace) posts → All (λ (i : ℕ). i < length (trace ++ line ∷ [])) posts
  still_within posts within = All-weaker (λ (i : ℕ). i < length trace) (λ (i : ℕ). i < length (trace ++ line ∷ [])) (λ i lt. omega (arith, longer, lt)) posts within

  -- a line that posts nothing
  pub unposted : (posts : List ℕ) (port : ℕ) → post_of (Some line) ≡ None → HasPlace (steps_of trace) line → IsRecorded trace posts port → IsRecorded (trace ++ line ∷ []) posts port
  unposted posts port none place r =
      let steps : posted_in (steps_of (trace ++ line ∷ [])) ≡ posted_in (steps_of trace) = ap posted_in (steps_more trace line) ∙ posts_nothing line (steps_of trace) none in
      record {
        found = same_posts posts r.within ∙ r.found ∙ ap (map (λ (d : DatagramView). Some d)) (sym steps);
        within = still_within posts r.within;
        port = r.port ∙ ap (port_above 1024) (sym steps);
        small = r.small;
        ordered = stays_in_order trace line place r.ordered;
      }

-- a datagram
pub posted_on : (trace : List TraceStep) (d : Datagram) (posts : List ℕ) (port next : ℕ) → StepHasBegun (steps_of trace) → next ≡ port_above port (datagram_view d ∷ []) → next ≤ 65536
    → IsRecorded trace posts port → IsRecorded (trace ++ lines.Posted d ∷ []) (posts ++ length trace ∷ []) next
posted_on trace d posts port next begun is small r =
    let line : TraceStep = lines.Posted d in
    let all : posted_in (steps_of (trace ++ line ∷ [])) ≡ posted_in (steps_of trace) ++ datagram_view d ∷ [] = ap posted_in (steps_more trace line) ∙ posted_post (steps_of trace) (datagram_view d) begun in
    let last : post_of (slice_get (trace ++ line ∷ []) (length trace)) ≡ Some (datagram_view d) = ap post_of (get_last trace line) in
    record {
      found = map-append (λ (i : ℕ). post_of (slice_get (trace ++ line ∷ []) i)) posts (length trace ∷ [])
          ∙ (ap (λ (front : List (Option DatagramView)). front ++ post_of (slice_get (trace ++ line ∷ []) (length trace)) ∷ []) (same_posts trace line posts r.within ∙ r.found)
          ∙ (ap (λ (one : Option DatagramView). map (λ (d : DatagramView). Some d) (posted_in (steps_of trace)) ++ one ∷ []) last
          ∙ (sym (map-append (λ (d : DatagramView). Some d) (posted_in (steps_of trace)) (datagram_view d ∷ [])) ∙ ap (map (λ (d : DatagramView). Some d)) (sym all))));
      within = All-append (λ (i : ℕ). i < length (trace ++ line ∷ [])) posts (length trace ∷ []) (still_within trace line posts r.within)
          (All-cons (λ (i : ℕ). i < length (trace ++ line ∷ [])) (length trace) [] (omega (arith, longer trace line)) (All-nil (λ (i : ℕ). i < length (trace ++ line ∷ []))));
      port = is ∙ (ap (λ (least : ℕ). port_above least (datagram_view d ∷ [])) r.port ∙ (sym (port_more (posted_in (steps_of trace)) 1024 (datagram_view d)) ∙ ap (port_above 1024) (sym all)));
      small = small;
      ordered = stays_in_order trace line begun r.ordered;
    }

-- ---- a datagram by its number

pub numbered_from_1 : (posted : List DatagramView) (n : ℕ) → 1 ≤ n → numbered posted n ≡ slice_get posted (n - 1)
numbered_from_1 posted n some = let e : (n == 0) ≡ false = grind (arith, nat_tests) in rw e refl

same_found : (x o : Option DatagramView) → Some x ≡ option_map (λ (d : DatagramView). Some d) o → x ≡ o
same_found x None e = absurd cc
same_found x (Some d) e = cc

same_none : (o : Option DatagramView) → ◌≡◌ {A = Option (Option DatagramView)} None (option_map (λ (d : DatagramView). Some d) o) → None ≡ o
same_none None e = refl
same_none (Some d) e = absurd cc

module _ (trace : List TraceStep) (posts : List ℕ) (port : ℕ) (r : IsRecorded trace posts port) where
  pub each_found : length posts ≡ length (posted_in (steps_of trace))
  each_found =
      sym (length-map posts (λ (at : ℕ). post_of (slice_get trace at)))
      ∙ (ap length r.found ∙ length-map (posted_in (steps_of trace)) (λ (d : DatagramView). Some d))

  found_at : (i : ℕ) → option_map (λ (at : ℕ). post_of (slice_get trace at)) (slice_get posts i) ≡ option_map (λ (d : DatagramView). Some d) (slice_get (posted_in (steps_of trace)) i)
  found_at i =
      sym (slice_get-map (λ (at : ℕ). post_of (slice_get trace at)) posts i)
      ∙ (ap (λ (list : List (Option DatagramView)). slice_get list i) r.found
      ∙ slice_get-map (λ (d : DatagramView). Some d) (posted_in (steps_of trace)) i)

  pub found_datagram : (n at : ℕ) → 1 ≤ n → slice_get posts (n - 1) ≡ Some at → post_of (slice_get trace at) ≡ numbered (posted_in (steps_of trace)) n
  found_datagram n at some is =
      same_found (post_of (slice_get trace at)) (slice_get (posted_in (steps_of trace)) (n - 1)) (ap (option_map (λ (i : ℕ). post_of (slice_get trace i))) (sym is) ∙ found_at (n - 1))
      ∙ sym (numbered_from_1 (posted_in (steps_of trace)) n some)

  pub no_datagram : (n : ℕ) → 1 ≤ n → slice_get posts (n - 1) ≡ None → None ≡ numbered (posted_in (steps_of trace)) n
  no_datagram n some is =
      same_none (slice_get (posted_in (steps_of trace)) (n - 1)) (ap (option_map (λ (i : ℕ). post_of (slice_get trace i))) (sym is) ∙ found_at (n - 1))
      ∙ sym (numbered_from_1 (posted_in (steps_of trace)) n some)
