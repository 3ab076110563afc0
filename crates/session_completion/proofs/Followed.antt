-- What a script's `finish` gives is how its world is finished.
use Rattle.std.proofs.Common.{◌≡◌, ℕ, zero, suc, ◌+◌, ◌<◌, ◌≤◌, Bool, true, false, cond, List, [], ◌∷◌, ◌++◌, length, Option, Some, None, refl, sym, ap, subst, ◌∙◌, arith, append-nil, append_assoc, length-append}
use Rattle.std.specs.Prelude.{is_some, slice_get, ◌==◌, filter, option_map}
use Rattle.std.specs.List.{AllByRecursion, AllZip, range_with_len}
use Rattle.std.proofs.lemmas.Bool.Decides.{nat_tests}
use Rattle.disk_layout.specs.Holds.{StandingView}
use Rattle.exchange_trace.specs.declared.trace.Side.{Side}
use Rattle.exchange_trace.specs.declared.trace.Side.TheVariants as sides
use Rattle.exchange_trace.specs.Happenings.{DatagramView, Delivered, Ended, HappeningView, Ticked, other}
use Rattle.exchange_trace.proofs.PostLemmas.{undelivered_grows, undelivered_shrinks}
use Rattle.exchange_trace.specs.Posts.{NamesOnlyPosted, happenings_of, is_undelivered, numbered, posted_in, undelivered, undelivered_after}
use Rattle.exchange_trace.specs.Steps.{Step}
use Rattle.session_completion.proofs.Queues.{numbered_is}
use Rattle.transfer_completion.proofs.BlockLemmas.{eq_false}
use Rattle.exchange_trace.specs.Following.{Finishing, Nothing_left, Turn, delivery_of_first, finishing, goes_on, least_delivery, next_turn, or_else, turn, finishing_tick, ticked_side}
use Rattle.exchange_trace.specs.Lines.{Line}
use Rattle.exchange_trace.specs.Logs.{Gets, Ticks, event_for, gets}
use Rattle.replay_rules.specs.BothEnds.{Setting, loader_at, loader_waits, target_at, target_waits}
use Rattle.replay_rules.specs.Histories.{setting_from}
use Rattle.replay_rules.specs.Due.{AllDue}
use Rattle.replay_rules.specs.Promises.{IsNoEnd, EndsOnce, NoneGoesDown}
use Rattle.replay_rules.specs.Runs.{plan_at, scene_at, TraceFollows}
use Rattle.replay_rules.specs.Ties.{StepKeepsTie}
use Rattle.session_completion.specs.FaultFreeRuns.{IsWorldOf}
use Rattle.session_completion.specs.Worlds.{World, delivered, delivered_to, ticked}
use Rattle.session_completion.proofs.FaultFreeRuns.{loader_alone, nothing_comes, step_tied, stepped, live_so, target_so}
use Rattle.session_completion.proofs.Finish.{same_left}
use Rattle.session_rules.specs.Loader.{LoaderView}
use Rattle.session_completion.specs.Finish.{WorldFinishes, delivers, done, tick_in, ticks}

-- ---- numbers of datagrams

abbrev pub Names : List DatagramView → ℕ → DatagramView → Type 0
Names posted n d = numbered posted n ≡ Some d

get_left : (xs ys : List DatagramView) (n : ℕ) (d : DatagramView) → slice_get xs n ≡ Some d → slice_get (xs ++ ys) n ≡ Some d
get_left [] ys n d e = absurd cc
get_left (x ∷ xs) ys zero d e = e
get_left (x ∷ xs) ys (suc n) d e = get_left xs ys n d e

get_right : (xs ys : List DatagramView) (k n : ℕ) → k ≡ length xs + n → slice_get (xs ++ ys) k ≡ slice_get ys n
get_right [] ys k n e = ap (λ (i : ℕ). slice_get ys i) (omega arith)
get_right (x ∷ xs) ys zero n e = absurd (omega arith)
get_right (x ∷ xs) ys (suc k) n e = get_right xs ys k n (omega arith)

get_within : (xs : List DatagramView) (n : ℕ) (d : DatagramView) → slice_get xs n ≡ Some d → n < length xs
get_within [] n d e = absurd cc
get_within (x ∷ xs) zero d e = omega arith
get_within (x ∷ xs) (suc n) d e = let h = get_within xs n d e in omega (arith, h)

plus_one : (k : ℕ) → suc k ≡ k + 1
plus_one k = omega arith

pub named_at : (posted : List DatagramView) (k : ℕ) → numbered posted (suc k) ≡ slice_get posted k
named_at posted k = ap (λ (i : ℕ). numbered posted i) (plus_one k) ∙ numbered_is posted k

named_left : (xs ys : List DatagramView) (n : ℕ) (d : DatagramView) → Names xs n d → Names (xs ++ ys) n d
named_left xs ys zero d e = absurd cc
named_left xs ys (suc k) d e = named_at (xs ++ ys) k ∙ get_left xs ys k d (sym (named_at xs k) ∙ e)

pub named_within : (xs : List DatagramView) (n : ℕ) (d : DatagramView) → Names xs n d → n ≤ length xs
named_within xs zero d e = omega arith
named_within xs (suc k) d e = let h = get_within xs k d (sym (named_at xs k) ∙ e) in omega (arith, h)

zip_append : {A B : Type 0} (R : A → B → Type 0) (xs : List A) (ys : List B) (us : List A) (vs : List B) → AllZip R xs ys → AllZip R us vs → AllZip R (xs ++ us) (ys ++ vs)
zip_append R [] [] us vs a b = b
zip_append R [] (y ∷ ys) us vs a b = absurd a
zip_append R (x ∷ xs) [] us vs a b = absurd a
zip_append R (x ∷ xs) (y ∷ ys) us vs a b = (a.0, zip_append R xs ys us vs a.1 b)

zip_left : (xs more : List DatagramView) (ns : List ℕ) (ds : List DatagramView) → AllZip (Names xs) ns ds → AllZip (Names (xs ++ more)) ns ds
zip_left xs more [] [] a = tt
zip_left xs more [] (d ∷ ds) a = absurd a
zip_left xs more (n ∷ ns) [] a = absurd a
zip_left xs more (n ∷ ns) (d ∷ ds) a = (named_left xs more n d a.0, zip_left xs more ns ds a.1)

zip_from : (all : List DatagramView) (k : ℕ) (ys : List DatagramView) → ((j : ℕ) → slice_get all (k + j) ≡ slice_get ys j) → AllZip (Names all) (range_with_len (k + 1) (length ys)) ys
zip_from all k [] h = tt
zip_from all k (y ∷ ys) h = (numbered_is all k ∙ ap (λ (i : ℕ). slice_get all i) (zero_more k) ∙ h 0, zip_from all (k + 1) ys (λ j. ap (λ (i : ℕ). slice_get all i) (one_more k j) ∙ h (suc j)))
  where
    zero_more : (k : ℕ) → k ≡ k + 0
    zero_more k = omega arith

    one_more : (k j : ℕ) → k + 1 + j ≡ k + suc j
    one_more k j = omega arith

zip_new : (xs ys : List DatagramView) → AllZip (Names (xs ++ ys)) (range_with_len (length xs + 1) (length ys)) ys
zip_new xs ys = zip_from (xs ++ ys) (length xs) ys (λ j. get_right xs ys (length xs + j) j refl)

-- ---- what is undelivered after a step

kept_all : (p : ℕ → Bool) (ns : List ℕ) → AllByRecursion (λ (n : ℕ). p n ≡ true) ns → filter p ns ≡ ns
kept_all p [] all = refl
kept_all p (n ∷ ns) all = rw (all.0) (ap (λ (xs : List ℕ). n ∷ xs) (kept_all p ns all.1))

after_step : (base : List Step) (s : Step) → NamesOnlyPosted (length (posted_in base)) (happenings_of base)
    → undelivered_after (s ∷ base) ≡ filter (is_undelivered (s.given ∷ [])) (undelivered_after base ++ range_with_len (length (posted_in base) + 1) (length s.posts))
after_step base s named =
    ap (λ (count : ℕ). undelivered count (s.given ∷ happenings_of base)) (length-append (posted_in base) s.posts)
    ∙ undelivered_shrinks (length (posted_in base) + length s.posts) s.given (happenings_of base)
    ∙ ap (λ (ns : List ℕ). filter (is_undelivered (s.given ∷ [])) ns) (undelivered_grows (length (posted_in base)) (length s.posts) (happenings_of base) named)

-- what is undelivered ascends
all_from : (p : ℕ → Bool) (a count : ℕ) → AllByRecursion (λ (m : ℕ). a ≤ m) (filter p (range_with_len a count))
all_from p a zero = tt
all_from p a (suc count) = by (p a) (lower (filter p (range_with_len (a + 1) count)) (all_from p (a + 1) count))
  where
    lower : (ms : List ℕ) → AllByRecursion (λ (m : ℕ). a + 1 ≤ m) ms → AllByRecursion (λ (m : ℕ). a ≤ m) ms
    lower [] h = tt
    lower (m ∷ ms) h = (let le = h.0 in omega (arith, le), lower ms h.1)

    by : (b : Bool) → AllByRecursion (λ (m : ℕ). a ≤ m) (filter p (range_with_len (a + 1) count)) → AllByRecursion (λ (m : ℕ). a ≤ m) (cond b (a ∷ filter p (range_with_len (a + 1) count)) (filter p (range_with_len (a + 1) count)))
    by true h = (omega arith, h)
    by false h = h

others_above : (p : ℕ → Bool) (a count n : ℕ) (ns : List ℕ) → filter p (range_with_len a count) ≡ n ∷ ns → AllByRecursion (λ (m : ℕ). n < m) ns
others_above p a zero n ns e = absurd cc
others_above p a (suc count) n ns e = by (p a) e (λ h. others_above p (a + 1) count n ns h)
  where
    above : (ms : List ℕ) → AllByRecursion (λ (m : ℕ). a + 1 ≤ m) ms → AllByRecursion (λ (m : ℕ). a < m) ms
    above [] h = tt
    above (m ∷ ms) h = (let le = h.0 in omega (arith, le), above ms h.1)

    by : (b : Bool) → cond b (a ∷ filter p (range_with_len (a + 1) count)) (filter p (range_with_len (a + 1) count)) ≡ n ∷ ns → (filter p (range_with_len (a + 1) count) ≡ n ∷ ns → AllByRecursion (λ (m : ℕ). n < m) ns) → AllByRecursion (λ (m : ℕ). n < m) ns
    by true is rest =
        let head : a ≡ n = cc in
        let tail : filter p (range_with_len (a + 1) count) ≡ ns = cc in
        subst (λ (k : ℕ). AllByRecursion (λ (m : ℕ). k < m) ns) head (subst (λ (ms : List ℕ). AllByRecursion (λ (m : ℕ). a < m) ms) tail (above (filter p (range_with_len (a + 1) count)) (all_from p (a + 1) count)))
    by false is rest = rest is

range_above : (n a count : ℕ) → n < a → AllByRecursion (λ (m : ℕ). n < m) (range_with_len a count)
range_above n a zero lt = tt
range_above n a (suc count) lt = (lt, range_above n (a + 1) count (omega (arith, lt)))

both_above : (n : ℕ) (xs ys : List ℕ) → AllByRecursion (λ (m : ℕ). n < m) xs → AllByRecursion (λ (m : ℕ). n < m) ys → AllByRecursion (λ (m : ℕ). n < m) (xs ++ ys)
both_above n [] ys a b = b
both_above n (x ∷ xs) ys a b = (a.0, both_above n xs ys a.1 b)

undelivered_others : (side : Side) (n m : ℕ) → n < m → is_undelivered (Delivered side n ∷ []) m ≡ true
undelivered_others side n m lt = rw (eq_false n m (λ e. absurd (omega arith))) refl

itself_delivered : (side : Side) (n : ℕ) → is_undelivered (Delivered side n ∷ []) n ≡ false
itself_delivered side n = rw (eq_true n) refl
  where
    eq_true : (n : ℕ) → (n == n) ≡ true
    eq_true n = grind (arith, nat_tests)

delivered_out : (side : Side) (n : ℕ) (ns : List ℕ) → AllByRecursion (λ (m : ℕ). n < m) ns → filter (is_undelivered (Delivered side n ∷ [])) (n ∷ ns) ≡ ns
delivered_out side n ns above = rw (itself_delivered side n) (kept_all (is_undelivered (Delivered side n ∷ [])) ns (stay ns above))
  where
    stay : (ms : List ℕ) → AllByRecursion (λ (m : ℕ). n < m) ms → AllByRecursion (λ (m : ℕ). is_undelivered (Delivered side n ∷ []) m ≡ true) ms
    stay [] h = tt
    stay (m ∷ ms) h = (undelivered_others side n m h.0, stay ms h.1)

none_out : (h : HappeningView) (ns : List ℕ) → ((m : ℕ) → is_undelivered (h ∷ []) m ≡ true) → filter (is_undelivered (h ∷ [])) ns ≡ ns
none_out h ns keeps = kept_all (is_undelivered (h ∷ [])) ns (all_of ns)
  where
    all_of : (ms : List ℕ) → AllByRecursion (λ (m : ℕ). is_undelivered (h ∷ []) m ≡ true) ms
    all_of [] = tt
    all_of (m ∷ ms) = (keeps m, all_of ms)

-- ---- where a run stands that is being finished

abbrev pub Gives : Setting → List Line → List Step → Turn → Type 0
Gives set script base t = next_turn (scene_at set base) (plan_at set script base) ≡ t

pub record At (set : Setting) (script : List Line) (before : List DatagramView) (base : List Step) (w : World) (queue : List DatagramView) (first : Side) : Type 0 where
  pub tied : IsWorldOf set base before w
  pub goes : Gives set script base (or_else (goes_on (scene_at set base) (Finishing first) []) (turn Ended Nothing_left []))
  pub named : NamesOnlyPosted (length (posted_in base)) (happenings_of base)
  pub zips : AllZip (Names (posted_in base)) (undelivered_after base) queue

posts_are : (before base_posts posts now new : List DatagramView) → before ++ posts ≡ base_posts → before ++ (posts ++ new) ≡ base_posts ++ now → new ≡ now
posts_are before base_posts posts now new was is = same_left base_posts new now (ap (λ (ds : List DatagramView). ds ++ new) (sym was) ∙ append_assoc before posts new ∙ is)

moved : StepKeepsTie → (set : Setting) (script : List Line) (before : List DatagramView) (base : List Step) (w now : World) (queue later new : List DatagramView) (first f : Side) (s : Step) (h : HappeningView) (ns : List ℕ)
    → At set script before base w queue first → Gives set script base (turn h (Finishing f) []) → s.given ≡ (next_turn (scene_at set base) (plan_at set script base)).given → AllDue set (s ∷ base) → s.notes ≡ []
    → stepped set w (event_for sides.Loader (posted_in base) h) (event_for sides.Target (posted_in base) h) ≡ now → now.posts ≡ w.posts ++ new → AllZip (Names (posted_in base)) ns later
    → ((m : ℕ) → length (posted_in base) < m → is_undelivered (h ∷ happenings_of base) m ≡ true)
    → ((more : ℕ) → filter (is_undelivered (h ∷ [])) (undelivered_after base ++ range_with_len (length (posted_in base) + 1) more) ≡ ns ++ range_with_len (length (posted_in base) + 1) more)
    → At set script before (s ∷ base) now (later ++ new) f
moved keeps set script before base w now queue later new first f s h ns at gives follows due notes stepped_is posts zips names left =
    let given : s.given ≡ h = follows ∙ ap (λ (t : Turn). t.given) gives in
    let tied : IsWorldOf set (s ∷ base) before now = subst (λ (x : World). IsWorldOf set (s ∷ base) before x)
    (ap (λ (x : HappeningView). stepped set w (event_for sides.Loader (posted_in base) x) (event_for sides.Target (posted_in base) x)) given ∙ stepped_is) (step_tied keeps set base before w s at.tied notes due) in
    let posted : new ≡ s.posts = posts_are before (posted_in base) w.posts s.posts new at.tied.posted_is (ap (λ (ds : List DatagramView). before ++ ds) (sym posts) ∙ tied.posted_is) in
    record {
      tied = tied;
      goes = ap (λ (t : Turn). next_turn (scene_at set (s ∷ base)) t.plan) gives;
      named = λ m lt. ap (λ (x : HappeningView). is_undelivered (x ∷ happenings_of base) m) given ∙ names m (above m lt);
      zips = subst (λ (ms : List ℕ). AllZip (Names (posted_in (s ∷ base))) ms (later ++ new))
          (sym (after_step base s at.named ∙ ap (λ (x : HappeningView). filter (is_undelivered (x ∷ [])) (undelivered_after base ++ range_with_len (length (posted_in base) + 1) (length s.posts))) given ∙ left (length s.posts)))
          (subst (λ (ds : List DatagramView). AllZip (Names (posted_in base ++ s.posts)) (ns ++ range_with_len (length (posted_in base) + 1) (length s.posts)) (later ++ ds)) (sym posted)
          (zip_append (Names (posted_in base ++ s.posts)) ns later (range_with_len (length (posted_in base) + 1) (length s.posts)) s.posts (zip_left (posted_in base) s.posts ns later zips) (zip_new (posted_in base) s.posts)));
    }
  where
    above : (m : ℕ) → length (posted_in base ++ s.posts) < m → length (posted_in base) < m
    above m lt = let e = length-append (posted_in base) s.posts in omega (arith, e, lt)

-- ---- a delivery

with_delivery : (side : Side) (n : ℕ) (hs : List HappeningView) (m : ℕ) → n < m → is_undelivered hs m ≡ true → is_undelivered (Delivered side n ∷ hs) m ≡ true
with_delivery side n hs m lt e = rw (eq_false n m (λ same. absurd (omega arith))) e

record FirstIs (set : Setting) (script : List Line) (base : List Step) (d : DatagramView) (queue : List DatagramView) (first : Side) : Type 0 where
  n : ℕ
  ns : List ℕ
  split : undelivered_after base ≡ n ∷ ns
  names : Names (posted_in base) n d
  zips : AllZip (Names (posted_in base)) ns queue
  gives : Gives set script base (turn (Delivered (other d.side) n) (Finishing first) [])

first_is : (set : Setting) (script : List Line) (before : List DatagramView) (base : List Step) (w : World) (d : DatagramView) (queue : List DatagramView) (first : Side) → At set script before base w (d ∷ queue) first → FirstIs set script base d queue first
first_is set script before base w d queue first at = by (undelivered_after base) refl at.zips
  where
    by : (ns : List ℕ) → undelivered_after base ≡ ns → AllZip (Names (posted_in base)) ns (d ∷ queue) → FirstIs set script base d queue first
    by [] e z = absurd z
    by (n ∷ ns) e z =
        let least : least_delivery (scene_at set base) ≡ Some (Delivered (other d.side) n)
        = ap (λ (ms : List ℕ). delivery_of_first (scene_at set base) ms) e ∙ ap (λ (x : Option DatagramView). option_map (λ (y : DatagramView). Delivered (other y.side) n) x) z.0 in
        record { n = n; ns = ns; split = e; names = z.0; zips = z.1; gives = at.goes ∙ ap (λ (x : Option HappeningView). or_else (finishing (scene_at set base) first [] x) (turn Ended Nothing_left [])) least }

delivery_is : (set : Setting) (w : World) (posted : List DatagramView) (d : DatagramView) (n : ℕ) → Names posted n d
    → stepped set w (event_for sides.Loader posted (Delivered (other d.side) n)) (event_for sides.Target posted (Delivered (other d.side) n)) ≡ delivered set w d
delivery_is set w posted d n names = by d.side refl
  where
    by : (side : Side) → d.side ≡ side → stepped set w (event_for sides.Loader posted (Delivered (other side) n)) (event_for sides.Target posted (Delivered (other side) n)) ≡ delivered_to set w side (Gets d.from d.to d.bytes)
    by sides.Target e = ap (λ (m : Option DatagramView). stepped set w (gets m) None) names ∙ loader_alone set w (Gets d.from d.to d.bytes)
    by sides.Loader e = ap (λ (m : Option DatagramView). stepped set w None (gets m)) names

delivers_so : StepKeepsTie → (set : Setting) (script : List Line) (before : List DatagramView) (base : List Step) (w : World) (d : DatagramView) (queue new : List DatagramView) (first : Side) (s : Step)
    → At set script before base w (d ∷ queue) first → s.given ≡ (next_turn (scene_at set base) (plan_at set script base)).given → AllDue set (s ∷ base) → s.notes ≡ [] → (delivered set w d).posts ≡ w.posts ++ new
    → At set script before (s ∷ base) (delivered set w d) (queue ++ new) first × IsNoEnd s.given
delivers_so keeps set script before base w d queue new first s at follows due notes posts =
    let f = first_is set script before base w d queue first at in
    let within = named_within (posted_in base) f.n d f.names in
    let above = others_above (is_undelivered (happenings_of base)) 1 (length (posted_in base)) f.n f.ns f.split in (
      moved keeps set script before base w (delivered set w d) (d ∷ queue) queue new first first s (Delivered (other d.side) f.n) f.ns at f.gives follows due notes (delivery_is set w (posted_in base) d f.n f.names) posts f.zips
          (λ m lt. with_delivery (other d.side) f.n (happenings_of base) m (omega (arith, within, lt)) (at.named m lt))
          (λ more. ap (λ (ms : List ℕ). filter (is_undelivered (Delivered (other d.side) f.n ∷ [])) (ms ++ range_with_len (length (posted_in base) + 1) more)) f.split
          ∙ delivered_out (other d.side) f.n (f.ns ++ range_with_len (length (posted_in base) + 1) more) (both_above f.n f.ns (range_with_len (length (posted_in base) + 1) more) above (range_above f.n (length (posted_in base) + 1) more (omega (arith, within))))),
      subst (λ (h : HappeningView). IsNoEnd h) (sym (follows ∙ ap (λ (t : Turn). t.given) f.gives)) tt,
    )

-- ---- a tick

no_more : (posted : List DatagramView) (ns : List ℕ) → AllZip (Names posted) ns [] → ns ≡ []
no_more posted [] z = refl
no_more posted (n ∷ ns) z = absurd z

scene_ticks : (set : Setting) (before : List DatagramView) (base : List Step) (w : World) (first : Side) → IsWorldOf set base before w → ticked_side (scene_at set base) first ≡ tick_in w first
scene_ticks set before base w first tied = by first
  where
    one : loader_waits set base ≡ is_some w.loader.live
    one = sym (live_so (loader_at set base).end (loader_at set base).live) ∙ sym (ap (λ (v : LoaderView). is_some v.live) tied.loader_is)

    two : target_waits set base ≡ is_some w.target.live
    two = sym (target_so set (target_at set base) w.target tied.target_is).0

    by : (f : Side) → ticked_side (scene_at set base) f ≡ tick_in w f
    by sides.Loader = rw (one, two) refl
    by sides.Target = rw (one, two) refl

tick_is : (set : Setting) (w : World) (posted : List DatagramView) (side : Side) → stepped set w (event_for sides.Loader posted (Ticked side)) (event_for sides.Target posted (Ticked side)) ≡ ticked set w side
tick_is set w posted sides.Loader = loader_alone set w Ticks
tick_is set w posted sides.Target = refl

-- nothing is left to deliver
ticks_next : (set : Setting) (script : List Line) (before : List DatagramView) (base : List Step) (w : World) (first : Side) → At set script before base w [] first
    → Gives set script base (or_else (finishing_tick [] (tick_in w first)) (turn Ended Nothing_left []))
ticks_next set script before base w first at =
    let none = no_more (posted_in base) (undelivered_after base) at.zips in
    at.goes ∙ ap (λ (ms : List ℕ). or_else (finishing (scene_at set base) first [] (delivery_of_first (scene_at set base) ms)) (turn Ended Nothing_left [])) none
    ∙ ap (λ (o : Option Side). or_else (finishing_tick [] o) (turn Ended Nothing_left [])) (scene_ticks set before base w first at.tied)

ticks_so : StepKeepsTie → (set : Setting) (script : List Line) (before : List DatagramView) (base : List Step) (w : World) (new : List DatagramView) (first side : Side) (s : Step)
    → At set script before base w [] first → tick_in w first ≡ Some side → s.given ≡ (next_turn (scene_at set base) (plan_at set script base)).given → AllDue set (s ∷ base) → s.notes ≡ [] → (ticked set w side).posts ≡ w.posts ++ new
    → At set script before (s ∷ base) (ticked set w side) new (other side) × IsNoEnd s.given
ticks_so keeps set script before base w new first side s at whose follows due notes posts =
    let none = no_more (posted_in base) (undelivered_after base) at.zips in
    let gives : Gives set script base (turn (Ticked side) (Finishing (other side)) [])
    = ticks_next set script before base w first at ∙ ap (λ (o : Option Side). or_else (finishing_tick [] o) (turn Ended Nothing_left [])) whose in (
      moved keeps set script before base w (ticked set w side) [] [] new first (other side) s (Ticked side) [] at gives follows due notes (tick_is set w (posted_in base) side) posts tt (λ m lt. at.named m lt)
          (λ more. none_out (Ticked side) (undelivered_after base ++ range_with_len (length (posted_in base) + 1) more) (λ m. refl) ∙ ap (λ (ms : List ℕ). ms ++ range_with_len (length (posted_in base) + 1) more) none),
      subst (λ (h : HappeningView). IsNoEnd h) (sym (follows ∙ ap (λ (t : Turn). t.given) gives)) tt,
    )

-- ---- the end

pub record LeftAt (set : Setting) (before : List DatagramView) (steps : List Step) (last : World) : Type 0 where
  pub tied : IsWorldOf set steps before last
  pub none : undelivered_after steps ≡ []

ends_so : StepKeepsTie → (set : Setting) (script : List Line) (before : List DatagramView) (base : List Step) (w : World) (first : Side) (s : Step) → At set script before base w [] first → tick_in w first ≡ None
    → s.given ≡ (next_turn (scene_at set base) (plan_at set script base)).given → AllDue set (s ∷ base) → s.notes ≡ [] → LeftAt set before (s ∷ base) w × (s.given ≡ Ended)
ends_so keeps set script before base w first s at whose follows due notes =
    let none = no_more (posted_in base) (undelivered_after base) at.zips in
    let given : s.given ≡ Ended = follows ∙ ap (λ (t : Turn). t.given) (ticks_next set script before base w first at ∙ ap (λ (o : Option Side). or_else (finishing_tick [] o) (turn Ended Nothing_left [])) whose) in
    let tied : IsWorldOf set (s ∷ base) before w = subst (λ (x : World). IsWorldOf set (s ∷ base) before x)
    (ap (λ (x : HappeningView). stepped set w (event_for sides.Loader (posted_in base) x) (event_for sides.Target (posted_in base) x)) given ∙ nothing_comes set w) (step_tied keeps set base before w s at.tied notes due) in
    let posted : [] ≡ s.posts = posts_are before (posted_in base) w.posts s.posts [] at.tied.posted_is (ap (λ (ds : List DatagramView). before ++ ds) (append-nil w.posts) ∙ tied.posted_is) in (
      record {
        tied = tied;
        none = after_step base s at.named ∙ ap (λ (ds : List DatagramView). filter (is_undelivered (s.given ∷ [])) (undelivered_after base ++ range_with_len (length (posted_in base) + 1) (length ds))) (sym posted)
            ∙ ap (λ (ms : List ℕ). filter (is_undelivered (s.given ∷ [])) (ms ++ [])) none;
      },
      given,
    )

-- ---- the steps that follow

abbrev pub NoEnds : List Step → Type 0
NoEnds steps = AllByRecursion (λ (s : Step). IsNoEnd s.given) steps

record Pushed (xs : List Step) : Type 0 where
  rest : List Step
  s : Step
  split : xs ≡ rest ++ s ∷ []

pushed : (x : Step) (xs : List Step) → Pushed (x ∷ xs)
pushed x [] = record { rest = []; s = x; split = refl }
pushed x (y ∷ ys) = let p = pushed y ys in record { rest = x ∷ p.rest; s = p.s; split = ap (λ (zs : List Step). x ∷ zs) p.split }

no_end_yet : (base : List Step) → EndsOnce base → NoEnds base → ⊥
no_end_yet [] ends none = ends
no_end_yet (s ∷ base) ends none = subst (λ (h : HappeningView). IsNoEnd h) ends.0 none.0

next_of : (more base : List Step) → EndsOnce (more ++ base) → NoEnds base → Pushed more
next_of [] base ends none = absurd (no_end_yet base ends none)
next_of (x ∷ xs) base ends none = pushed x xs

pub follows_before : (set : Setting) (script : List Line) (more base : List Step) → TraceFollows set script (more ++ base) → TraceFollows set script base
follows_before set script [] base follows = follows
follows_before set script (s ∷ more) base follows = follows_before set script more base follows.1

pub due_of_before : (set : Setting) (more base : List Step) → AllDue set (more ++ base) → AllDue set base
due_of_before set [] base due = due
due_of_before set (s ∷ more) base due = due_of_before set more base due.1

stays_up : (rest : List Step) (s : Step) → NoneGoesDown (rest ++ s ∷ []) → NoneGoesDown rest × (s.notes ≡ [])
stays_up [] s up = (tt, up.0)
stays_up (r ∷ rest) s up = let h = stays_up rest s up.1 in ((up.0, h.0), h.1)

within : (rest : List Step) (s : Step) (base : List Step) → NoEnds (rest ++ s ∷ base) → IsNoEnd s.given
within [] s base none = none.0
within (r ∷ rest) s base none = within rest s base none.1

last_one : (rest : List Step) (s : Step) (base : List Step) → EndsOnce (rest ++ s ∷ base) → s.given ≡ Ended → rest ≡ []
last_one [] s base ends is = refl
last_one (r ∷ rest) s base ends is = absurd (subst (λ (h : HappeningView). IsNoEnd h) is (within rest s base ends.1))

pub record Following (set : Setting) (script : List Line) (more base : List Step) : Type 0 where
  pub ends : EndsOnce (more ++ base)
  pub due : AllDue set (more ++ base)
  pub follows : TraceFollows set script (more ++ base)
  pub up : NoneGoesDown more

record Peeled (set : Setting) (script : List Line) (more base : List Step) : Type 0 where
  rest : List Step
  s : Step
  whole : more ++ base ≡ rest ++ s ∷ base
  later : Following set script rest (s ∷ base)
  notes : s.notes ≡ []

peeled : (set : Setting) (script : List Line) (more base : List Step) → Following set script more base → NoEnds base → Peeled set script more base
peeled set script more base f none =
    let p = next_of more base f.ends none in
    let whole : more ++ base ≡ p.rest ++ p.s ∷ base = ap (λ (xs : List Step). xs ++ base) p.split ∙ append_assoc p.rest (p.s ∷ []) base in
    let up = stays_up p.rest p.s (subst (λ (xs : List Step). NoneGoesDown xs) p.split f.up) in
    record {
      rest = p.rest;
      s = p.s;
      whole = whole;
      later = record { ends = subst (λ (xs : List Step). EndsOnce xs) whole f.ends; due = subst (λ (xs : List Step). AllDue set xs) whole f.due; follows = subst (λ (xs : List Step). TraceFollows set script xs) whole f.follows; up = up.0 };
      notes = up.1;
    }

pub finish_is : StepKeepsTie → (set : Setting) (active : StandingView) (script : List Line) (before : List DatagramView) (w last : World) (queue : List DatagramView) (first : Side) → WorldFinishes (setting_from set active) w queue first last → (more base : List Step)
    → At set script before base w queue first → NoEnds base → Following set script more base → LeftAt set before (more ++ base) last
finish_is keeps set active script before w last queue first (done v f whose) more base at none following =
    let p = peeled set script more base following none in
    let follows = follows_before set script p.rest (p.s ∷ base) p.later.follows in
    let (left, is_end) = ends_so keeps set script before base w first p.s at whose follows.0 (due_of_before set p.rest (p.s ∷ base) p.later.due) p.notes in
    let e = last_one p.rest p.s base p.later.ends is_end in
    subst (λ (xs : List Step). LeftAt set before xs w) (sym (p.whole ∙ ap (λ (xs : List Step). xs ++ p.s ∷ base) e)) left
finish_is keeps set active script before w last queue first (delivers v l d others new f posts goes) more base at none following =
    let p = peeled set script more base following none in
    let follows = follows_before set script p.rest (p.s ∷ base) p.later.follows in
    let (next, no_end) = delivers_so keeps set script before base w d others new first p.s at follows.0 (due_of_before set p.rest (p.s ∷ base) p.later.due) p.notes posts in
    subst (λ (xs : List Step). LeftAt set before xs last) (sym p.whole) (finish_is keeps set active script before (delivered set w d) last (others ++ new) first goes p.rest (p.s ∷ base) next (no_end, none) p.later)
finish_is keeps set active script before w last queue first (ticks v l side new f whose posts goes) more base at none following =
    let p = peeled set script more base following none in
    let follows = follows_before set script p.rest (p.s ∷ base) p.later.follows in
    let (next, no_end) = ticks_so keeps set script before base w new first side p.s at whose follows.0 (due_of_before set p.rest (p.s ∷ base) p.later.due) p.notes posts in
    subst (λ (xs : List Step). LeftAt set before xs last) (sym p.whole) (finish_is keeps set active script before (ticked set w side) last new (other side) goes p.rest (p.s ∷ base) next (no_end, none) p.later)
