-- Within the margin every world that stands where a clean upload stands comes to an end, done.
use Rattle.std.proofs.Common.{◌≡◌, ℕ, zero, suc, ◌+◌, ◌<◌, ◌≤◌, Bool, true, false, List, [], ◌∷◌, ◌++◌, length, drop, Some, None, refl, sym, ap, subst, ◌∙◌, arith, ◌⊎◌, inl, inr}
use Rattle.std.specs.Prelude.{Contains}
use Rattle.std.proofs.lemmas.List.{append-nil, drop_all, length-drop}
use Rattle.load_base.specs.Config.{LoadView}
use Rattle.exchange_trace.specs.declared.trace.Side.{Side}
use Rattle.exchange_trace.specs.declared.trace.Side.TheVariants as sides
use Rattle.exchange_trace.specs.Happenings.{DatagramView, other}
use Rattle.exchange_trace.specs.Posts.{numbered}
use Rattle.replay_rules.specs.BothEnds.{Setting}
use Rattle.session_completion.specs.Worlds.{World, delivered, ticked, retried, waits, last_of}
use Rattle.session_completion.specs.Clean.{Clean, goes, WorldStandsAt, AreAmong, IsNext}
use Rattle.session_completion.specs.Laws.{CleanLaws, ComesOut, retries_of_getter}
use Rattle.transfer_completion.specs.Replies.{IsOld, IsLighter}
use Rattle.session_completion.specs.Safety.{retries_of, ticked_at}
use Rattle.session_completion.specs.Finish.{tick_in, done, delivers, ticks, ComesToEnd, UploadFinishEnds}
use Rattle.session_completion.proofs.Equal.{next_or_not}
use Rattle.session_completion.proofs.Queues.{total, some_weight, falls, Queued, queued_behind, queued_wider, queued_right, queued_both, queued_past, next_drop, none_drop, first_or_none, drop_more}
use Rattle.session_completion.proofs.Safety.{stands, among_more, among_wider, among_right, among_itself, among_old, is_among, ticking_is_safe, tick_posts, waits_same}

pub same_left : (xs ys zs : List DatagramView) → xs ++ ys ≡ xs ++ zs → ys ≡ zs
same_left [] ys zs e = e
same_left (x ∷ xs) ys zs e = same_left xs ys zs cc

none_left : (xs ys : List DatagramView) → xs ≡ xs ++ ys → ys ≡ []
none_left xs ys e = same_left xs ys [] (sym e ∙ sym (append-nil xs))

module _ (set : Setting) (loads : List LoadView) (laws : CleanLaws) where
  -- ---- a datagram that is delivered

  data Delivery (n : ℕ) (c w : World) (d : DatagramView) (l t : ℕ) : Type 0 where
    old : (new : List DatagramView) → IsOld c.posts new → IsLighter d new → (delivered set w d).posts ≡ w.posts ++ new → WorldStandsAt set loads n c (delivered set w d) l t → (IsNext n c d → ⊥)
        → ((posts : List DatagramView) → (delivered set (retried c l t posts) d).posts ≡ posts ++ new) → Delivery n c w d l t
    next : (new : List DatagramView) → IsNext n c d → (delivered set w d).posts ≡ w.posts ++ new → (delivered set c d).posts ≡ c.posts ++ new
        → WorldStandsAt set loads (n + 1) (delivered set c d) (delivered set w d) (retries_of_getter d.side l) (retries_of_getter (other d.side) t) → Delivery n c w d l t

  given_is : (n : ℕ) (c w : World) (d : DatagramView) (l t : ℕ) → WorldStandsAt set loads n c w l t → Contains w.posts d → Delivery n c w d l t
  given_is n c w d l t at has = elim (next_or_not (numbered c.posts (n + 1)) d) [
    | inl is_next ↦
        (let (answer, posts, goes_so) = laws.moves set loads n c d l t at.clean is_next in
        let e = ap (λ (x : World). delivered set x d) at.same ∙ goes_so w.posts in
        next answer is_next (ap (λ (x : World). x.posts) e) posts
        (stands set loads (n + 1) (delivered set c d) (delivered set w d) (retries_of_getter d.side l) (retries_of_getter (other d.side) t) (w.posts ++ answer) (goes n c d at.clean is_next) e
        (subst (λ (ds : List DatagramView). AreAmong ds (w.posts ++ answer)) (sym posts) (among_more (c.posts ++ answer) w.posts answer (among_wider c.posts answer w.posts at.among) (among_right c.posts answer answer (among_itself answer))))))
    | inr differs ↦
        (let (answer, is_old, light, stays_so) = laws.old set loads n c d l t at.clean (is_among c.posts w.posts d at.among has) differs in
        let e = ap (λ (x : World). delivered set x d) at.same ∙ stays_so w.posts in
        old answer is_old light (ap (λ (x : World). x.posts) e)
        (stands set loads n c (delivered set w d) l t (w.posts ++ answer) at.clean e (among_more c.posts w.posts answer at.among (among_old c.posts answer is_old)))
        differs (λ posts. ap (λ (x : World). x.posts) (stays_so posts)))
  ]

  abbrev Ends : World → List DatagramView → Side → Type 0
  Ends w queue turn = ComesToEnd set loads w queue turn

  delivers_end : (w : World) (d : DatagramView) (queue new : List DatagramView) (turn : Side) → (delivered set w d).posts ≡ w.posts ++ new → Ends (delivered set w d) (queue ++ new) turn → Ends w (d ∷ queue) turn
  delivers_end w d queue new turn e end = record { last = end.last; finishes = delivers w end.last d queue new turn e end.finishes; n = end.n; c = end.c; loader = end.loader; target = end.target; stands = end.stands; none = end.none; is_done = end.is_done }

  ticks_end : (w : World) (side : Side) (new : List DatagramView) (turn : Side) → tick_in w turn ≡ Some side → (ticked set w side).posts ≡ w.posts ++ new → Ends (ticked set w side) new (other side) → Ends w [] turn
  ticks_end w side new turn e f end = record { last = end.last; finishes = ticks w end.last side new turn e f end.finishes; n = end.n; c = end.c; loader = end.loader; target = end.target; stands = end.stands; none = end.none; is_done = end.is_done }

  among_new : (w : World) (d : DatagramView) (queue new posts : List DatagramView) → posts ≡ w.posts ++ new → AreAmong w.posts (d ∷ queue) → AreAmong posts (queue ++ new)
  among_new w d queue new posts e among =
      subst (λ (ds : List DatagramView). AreAmong ds (queue ++ new)) (sym e) (among_more (w.posts ++ new) queue new (among_wider w.posts new queue among.1) (among_right w.posts new new (among_itself new)))

  -- ---- the queue, up to the datagram that is next

  module _ (n : ℕ) (c : World) (l t : ℕ) (turn : Side) (T : List DatagramView → Type 0)
      (keep : (d : DatagramView) (queue new : List DatagramView) → (IsNext n c d → ⊥) → ((posts : List DatagramView) → (delivered set (retried c l t posts) d).posts ≡ posts ++ new) → T (d ∷ queue) → T (queue ++ new))
      (on_next : (w : World) (d : DatagramView) (queue new : List DatagramView) → IsNext n c d → (delivered set w d).posts ≡ w.posts ++ new → (delivered set c d).posts ≡ c.posts ++ new
      → WorldStandsAt set loads (n + 1) (delivered set c d) (delivered set w d) (retries_of_getter d.side l) (retries_of_getter (other d.side) t) → AreAmong (delivered set w d).posts (queue ++ new) → T (d ∷ queue) → Ends (delivered set w d) (queue ++ new) turn)
      (on_empty : (w : World) → WorldStandsAt set loads n c w l t → T [] → Ends w [] turn) where
    drains : (fuel : ℕ) (w : World) (queue : List DatagramView) → total queue ≤ fuel → WorldStandsAt set loads n c w l t → AreAmong w.posts queue → T queue → Ends w queue turn
    drains fuel w [] le at among h = on_empty w at h
    drains zero w (d ∷ queue) le at among h = absurd (too_heavy d queue le)
      where
        too_heavy : (d : DatagramView) (queue : List DatagramView) → total (d ∷ queue) ≤ 0 → ⊥
        too_heavy d queue le = let s = some_weight d in absurd (omega arith)
    drains (suc fuel) w (d ∷ queue) le at among h = elim (given_is n c w d l t at among.0) [
      | old new is_old light posts still differs any ↦
          (let f = falls c.posts queue new d is_old light in
          delivers_end w d queue new turn posts (drains fuel (delivered set w d) (queue ++ new) (omega arith) still (among_new w d queue new (delivered set w d).posts posts among) (keep d queue new differs any h)))
      | next new is_next posts clean_posts still ↦
          delivers_end w d queue new turn posts (on_next w d queue new is_next posts clean_posts still (among_new w d queue new (delivered set w d).posts posts among) h)
    ]

  -- ---- what is left of the budget

  data Budget (n : ℕ) (c : World) (queue : List DatagramView) (l t : ℕ) : Type 0 where
    flows : Queued (drop n c.posts) queue → Budget n c queue l t
    rests : (x : DatagramView) (rest : List DatagramView) → drop n c.posts ≡ x ∷ rest → l + length rest ≤ 4 → t + length rest ≤ 4 → Budget n c queue l t

  -- every world with a budget that stands where a clean one stands after this many deliveries comes to its end
  abbrev AllEnd : ℕ → World → Type 0
  AllEnd n c = (w : World) (queue : List DatagramView) (l t : ℕ) (turn : Side) → WorldStandsAt set loads n c w l t → AreAmong w.posts queue → Budget n c queue l t → Ends w queue turn

  -- and so, once the next one is delivered
  abbrev NextEnd : ℕ → World → Type 0
  NextEnd n c = (d : DatagramView) → IsNext n c d → AllEnd (n + 1) (delivered set c d)

  -- all that is ahead is in the queue
  is_first : (n : ℕ) (c : World) (d x : DatagramView) (rest : List DatagramView) → drop n c.posts ≡ x ∷ rest → IsNext n c d → d ≡ x
  is_first n c d x rest e f = let h = next_drop c.posts n d f in cc

  first_is : (n : ℕ) (c : World) (x : DatagramView) (rest : List DatagramView) → drop n c.posts ≡ x ∷ rest → IsNext n c x
  first_is n c x rest e = elim (first_or_none c.posts n) [
    | inl (d, f) ↦ subst (λ (y : DatagramView). IsNext n c y) (is_first n c d x rest e f) f
    | inr none ↦ absurd (too_short c.posts n x rest (none_drop c.posts n none) e)
  ]
    where
      too_short : (ds : List DatagramView) (n : ℕ) (x : DatagramView) (rest : List DatagramView) → length ds ≤ n → drop n ds ≡ x ∷ rest → ⊥
      too_short ds n x rest le e = let f = ap length e in let g = length-drop n ds in absurd (omega arith)

  keeps_queued : (xs : List DatagramView) (d : DatagramView) (queue new : List DatagramView) → ((x : DatagramView) (rest : List DatagramView) → xs ≡ x ∷ rest → d ≡ x → ⊥) → Queued xs (d ∷ queue) → Queued xs (queue ++ new)
  keeps_queued [] d queue new differs h = tt
  keeps_queued (x ∷ rest) d queue new differs h = queued_past x d rest queue new (differs x rest refl) h

  ahead_more : (n : ℕ) (c : World) (d : DatagramView) (new : List DatagramView) → IsNext n c d → (delivered set c d).posts ≡ c.posts ++ new → drop (n + 1) (delivered set c d).posts ≡ drop (n + 1) c.posts ++ new
  ahead_more n c d new f e = ap (λ (ds : List DatagramView). drop (n + 1) ds) e ∙ drop_more c.posts new (n + 1) (next_drop c.posts n d f).1

  flows_on : (n : ℕ) (c : World) (d : DatagramView) (queue new : List DatagramView) → IsNext n c d → (delivered set c d).posts ≡ c.posts ++ new → Queued (drop n c.posts) (d ∷ queue) → Queued (drop (n + 1) (delivered set c d).posts) (queue ++ new)
  flows_on n c d queue new f e h =
      subst (λ (ds : List DatagramView). Queued ds (queue ++ new)) (sym (ahead_more n c d new f e))
      (queued_both (drop (n + 1) c.posts) queue new (queued_behind d d (drop (n + 1) c.posts) queue (subst (λ (ds : List DatagramView). Queued ds (d ∷ queue)) (next_drop c.posts n d f).0 h)))

  nobody_waits : (w : World) (turn : Side) → waits w sides.Loader ≡ false → waits w sides.Target ≡ false → tick_in w turn ≡ None
  nobody_waits w sides.Loader e f = rw (e, f) refl
  nobody_waits w sides.Target e f = rw (f, e) refl

  is_over : (n : ℕ) (c w : World) (l t : ℕ) (turn : Side) → WorldStandsAt set loads n c w l t → numbered c.posts (n + 1) ≡ None → Ends w [] turn
  is_over n c w l t turn at none =
      let over = laws.done set loads n c at.clean none in
      record { last = w; finishes = done w turn (nobody_waits w turn (waits_same set loads n c w sides.Loader l t at ∙ over.loader) (waits_same set loads n c w sides.Target l t at ∙ over.target)); n = n; c = c; loader = l; target = t; stands = at; none = none; is_done = over }

  flowing : (n : ℕ) (c : World) → NextEnd n c → (w : World) (queue : List DatagramView) (l t : ℕ) (turn : Side) → WorldStandsAt set loads n c w l t → AreAmong w.posts queue → Queued (drop n c.posts) queue → Ends w queue turn
  flowing n c rec w queue l t turn at among h =
      drains n c l t turn (λ q. Queued (drop n c.posts) q)
      (λ d q new differs any k. keeps_queued (drop n c.posts) d q new (λ x rest e f. differs (subst (λ (y : DatagramView). IsNext n c y) (sym f) (first_is n c x rest e))) k)
      (λ w' d q new f posts clean_posts still mong k. rec d f (delivered set w' d) (q ++ new) _ _ turn still mong (flows (flows_on n c d q new f clean_posts k)))
      (λ w' still k. elim (first_or_none c.posts n) [ inl (d, f) ↦ absurd (subst (λ (ds : List DatagramView). Queued ds []) (next_drop c.posts n d f).0 k) | inr none ↦ is_over n c w' l t turn still none ])
      (total queue) w queue (omega arith) at among h

  -- ---- what is ahead isn't in the queue

  getter_le : (side : Side) (r : ℕ) → retries_of_getter side r ≤ r
  getter_le sides.Target r = omega arith
  getter_le sides.Loader r = omega arith

  two_at_most : (n : ℕ) (c : World) → Clean set loads n c → length c.posts ≤ n + 2
  two_at_most n c clean = none_drop c.posts (n + 2) (subst (λ (k : ℕ). numbered c.posts k ≡ None) (three n) (laws.few set loads n c clean))
    where
      three : (n : ℕ) → n + 3 ≡ n + 2 + 1
      three n = omega arith

  second_is : (n : ℕ) (c : World) (x e : DatagramView) → drop (n + 1) c.posts ≡ e ∷ [] → numbered c.posts (n + 2) ≡ Some e
  second_is n c x e f = subst (λ (k : ℕ). numbered c.posts k ≡ Some e) (two n) (first_is (n + 1) c e [] f)
    where
      two : (n : ℕ) → n + 1 + 1 ≡ n + 2
      two n = omega arith

  tail_is : (n : ℕ) (c : World) (d x : DatagramView) (rest : List DatagramView) → drop n c.posts ≡ x ∷ rest → IsNext n c d → drop (n + 1) c.posts ≡ rest
  tail_is n c d x rest e f = let h = next_drop c.posts n d f in cc

  rest_short : (n : ℕ) (c : World) (x : DatagramView) (rest : List DatagramView) → Clean set loads n c → drop n c.posts ≡ x ∷ rest → length rest ≤ 1
  rest_short n c x rest clean e = let f = ap length e in let g = length-drop n c.posts in let h = two_at_most n c clean in omega arith

  -- the next one was delivered
  next_budget : (n : ℕ) (c : World) (d x : DatagramView) (rest queue new : List DatagramView) (l t : ℕ) → Clean set loads n c → drop n c.posts ≡ x ∷ rest → length rest ≤ 1 → l + length rest ≤ 5 → t + length rest ≤ 5
      → IsNext n c d → (delivered set c d).posts ≡ c.posts ++ new
      → Budget (n + 1) (delivered set c d) (queue ++ new) (retries_of_getter d.side l) (retries_of_getter (other d.side) t)
  next_budget n c d x [] queue new l t clean e short ll tt' f g =
      flows (subst (λ (ds : List DatagramView). Queued ds (queue ++ new)) (sym (ahead_more n c d new f g ∙ ap (λ (ds : List DatagramView). ds ++ new) (tail_is n c d x [] e f))) (queued_right queue new))
  next_budget n c d x (y ∷ []) queue new l t clean e short ll tt' f g =
      let tail = tail_is n c d x (y ∷ []) e f in
      let quiet = laws.two set loads n c d y clean f (second_is n c d y tail) in
      let none = none_left c.posts new (sym quiet ∙ g) in
      let a = getter_le d.side l in
      let b = getter_le (other d.side) t in
      rests y [] (ahead_more n c d new f g ∙ ap (λ (ds : List DatagramView). drop (n + 1) c.posts ++ ds) none ∙ append-nil (drop (n + 1) c.posts) ∙ tail) (omega arith) (omega arith)
  next_budget n c d x (y ∷ z ∷ more) queue new l t clean e short ll tt' f g = absurd (omega arith)

  -- what brings it again
  record Helps (n : ℕ) (c : World) (x : DatagramView) : Type 0 where
    side : Side
    sent : DatagramView
    waiting : waits c side ≡ true
    last : last_of c side ≡ Some sent
    brings : (sent ≡ x) ⊎ ((l t : ℕ) (posts : List DatagramView) → (delivered set (retried c l t posts) sent).posts ≡ posts ++ x ∷ [])

  helps : (n : ℕ) (c : World) (x : DatagramView) → Clean set loads n c → IsNext n c x → Helps n c x
  helps n c x clean f = elim (laws.again set loads n c x clean f) [
    | inl repeated ↦ record { side = x.side; sent = x; waiting = repeated.0; last = repeated.1; brings = inl refl }
    | inr answered ↦ record { side = other x.side; sent = answered.asked; waiting = answered.waiting; last = answered.last; brings = inr answered.answer }
  ]

  -- it is in the queue, or what brings it

  keeps_coming : (n : ℕ) (c : World) (l t : ℕ) (x a d : DatagramView) (queue new : List DatagramView) → IsNext n c x → ((a ≡ x) ⊎ ((l t : ℕ) (posts : List DatagramView) → (delivered set (retried c l t posts) a).posts ≡ posts ++ x ∷ []))
      → (IsNext n c d → ⊥) → ((posts : List DatagramView) → (delivered set (retried c l t posts) d).posts ≡ posts ++ new) → Queued (x ∷ []) (d ∷ queue) ⊎ Queued (a ∷ []) (d ∷ queue) → Queued (x ∷ []) (queue ++ new) ⊎ Queued (a ∷ []) (queue ++ new)
  keeps_coming n c l t x a d queue new f brings differs any (inl (inl h)) = absurd (differs (subst (λ (y : DatagramView). IsNext n c y) (sym h.0) f))
  keeps_coming n c l t x a d queue new f brings differs any (inl (inr h)) = inl (queued_wider (x ∷ []) queue new h)
  keeps_coming n c l t x a d queue new f (inl same) differs any (inr (inl h)) = absurd (differs (subst (λ (y : DatagramView). IsNext n c y) (sym (h.0 ∙ same)) f))
  keeps_coming n c l t x a d queue new f (inr answer) differs any (inr (inl h)) =
      let posts : new ≡ x ∷ [] = sym (any []) ∙ ap (λ (y : DatagramView). (delivered set (retried c l t []) y).posts) h.0 ∙ answer l t [] in
      inl (subst (λ (ds : List DatagramView). Queued (x ∷ []) (queue ++ ds)) (sym posts) (queued_right queue (x ∷ [])))
  keeps_coming n c l t x a d queue new f brings differs any (inr (inr h)) = inr (queued_wider (a ∷ []) queue new h)

  nothing_comes : (x a : DatagramView) → Queued (x ∷ []) [] ⊎ Queued (a ∷ []) [] → ⊥
  nothing_comes x a (inl h) = h
  nothing_comes x a (inr h) = h

  module _ (n : ℕ) (c : World) (rec : NextEnd n c) (clean : Clean set loads n c) (x : DatagramView) (rest : List DatagramView) (ahead : drop n c.posts ≡ x ∷ rest) (short : length rest ≤ 1) (is_next : IsNext n c x) (help : Helps n c x) where
    goes_next : (l t : ℕ) (turn : Side) → l + length rest ≤ 5 → t + length rest ≤ 5 → (w : World) (d : DatagramView) (queue new : List DatagramView) → IsNext n c d → (delivered set c d).posts ≡ c.posts ++ new
        → WorldStandsAt set loads (n + 1) (delivered set c d) (delivered set w d) (retries_of_getter d.side l) (retries_of_getter (other d.side) t) → AreAmong (delivered set w d).posts (queue ++ new) → Ends (delivered set w d) (queue ++ new) turn
    goes_next l t turn ll lt w d queue new f g at among = rec d f (delivered set w d) (queue ++ new) _ _ turn at among (next_budget n c d x rest queue new l t clean ahead short ll lt f g)

    coming : (w : World) (queue : List DatagramView) (l t : ℕ) (turn : Side) → l + length rest ≤ 5 → t + length rest ≤ 5 → WorldStandsAt set loads n c w l t → AreAmong w.posts queue
        → Queued (x ∷ []) queue ⊎ Queued (help.sent ∷ []) queue → Ends w queue turn
    coming w queue l t turn ll lt at among h =
        drains n c l t turn (λ q. Queued (x ∷ []) q ⊎ Queued (help.sent ∷ []) q)
        (λ d q new differs any k. keeps_coming n c l t x help.sent d q new is_next help.brings differs any k)
        (λ w' d q new f posts clean_posts still mong k. goes_next l t turn ll lt w' d q new f clean_posts still mong)
        (λ w' still k. absurd (nothing_comes x help.sent k))
        (total queue) w queue (omega arith) at among h

    abbrev Few : Side → (l t : ℕ) → Type 0
    Few side l t = (l + length rest ≤ 5) × (t + length rest ≤ 5) × (retries_of side l t + length rest ≤ 4)

    ticked_few : (side : Side) (l t : ℕ) → Few side l t → (retries_of side l t < 5) × (ticked_at side sides.Loader l + length rest ≤ 5) × (ticked_at side sides.Target t + length rest ≤ 5)
    ticked_few sides.Loader l t (a, b, k) = (omega arith, omega arith, omega arith)
    ticked_few sides.Target l t (a, b, k) = (omega arith, omega arith, omega arith)

    -- the end that helps is ticked
    helped : (w : World) (l t : ℕ) (turn : Side) → Few help.side l t → WorldStandsAt set loads n c w l t → tick_in w turn ≡ Some help.side → Ends w [] turn
    helped w l t turn few at e =
        let (left, ll, lt) = ticked_few help.side l t few in
        let posts = tick_posts set loads n c w help.side l t help.sent at help.waiting left help.last in
        ticks_end w help.side (help.sent ∷ []) turn e posts
        (coming (ticked set w help.side) (help.sent ∷ []) _ _ (other help.side) ll lt (ticking_is_safe laws.last set loads n c w help.side l t at help.waiting left)
        (subst (λ (ds : List DatagramView). AreAmong ds (help.sent ∷ [])) (sym posts) (among_right w.posts (help.sent ∷ []) (help.sent ∷ []) (among_itself (help.sent ∷ [])))) (inr (inl (refl, tt))))

    is_turn : (side : Side) (w : World) → waits w side ≡ true → tick_in w side ≡ Some side
    is_turn side w e = rw e refl

    -- it is that end's turn
    in_turn : (w : World) (queue : List DatagramView) (l t : ℕ) → Few help.side l t → WorldStandsAt set loads n c w l t → AreAmong w.posts queue → Ends w queue help.side
    in_turn w queue l t few at among =
        drains n c l t help.side (λ q. Unit {0})
        (λ d q new differs any k. tt)
        (λ w' d q new f posts clean_posts still mong k. goes_next l t help.side few.0 few.1 w' d q new f clean_posts still mong)
        (λ w' still k. helped w' l t help.side few still (is_turn help.side w' (waits_same set loads n c w' help.side l t still ∙ help.waiting)))
        (total queue) w queue (omega arith) at among tt

    -- whose turn it is
    abbrev Who : Side → World → Side → Type 0
    Who side w turn = (tick_in w turn ≡ Some side) ⊎ ((tick_in w turn ≡ Some (other side)) × (waits w (other side) ≡ true))

    in_the_end : (side first : Side) (w : World) (b : Bool) → waits w first ≡ b → waits w (other first) ≡ true → other first ≡ side → first ≡ other side → Who side w first
    in_the_end side first w true e f g h = inr (rw e (ap (λ (s : Side). Some s) h), sym (ap (λ (s : Side). waits w s) h) ∙ e)
    in_the_end side first w false e f g h = inl (rw (e, f) (ap (λ (s : Side). Some s) g))

    who : (side : Side) (w : World) (turn : Side) → waits w side ≡ true → Who side w turn
    who sides.Loader w sides.Loader e = inl (rw e refl)
    who sides.Loader w sides.Target e = in_the_end sides.Loader sides.Target w (waits w sides.Target) refl e refl refl
    who sides.Target w sides.Target e = inl (rw e refl)
    who sides.Target w sides.Loader e = in_the_end sides.Target sides.Loader w (waits w sides.Loader) refl e refl refl

    back : (side : Side) → other (other side) ≡ side
    back sides.Loader = refl
    back sides.Target = refl

    other_few : (side : Side) (l t : ℕ) → l + length rest ≤ 4 → t + length rest ≤ 4 → (retries_of (other side) l t < 5) × Few side (ticked_at (other side) sides.Loader l) (ticked_at (other side) sides.Target t)
    other_few sides.Loader l t a b = (omega arith, (omega arith, omega arith, omega arith))
    other_few sides.Target l t a b = (omega arith, (omega arith, omega arith, omega arith))

    same_few : (side : Side) (l t : ℕ) → l + length rest ≤ 4 → t + length rest ≤ 4 → Few side l t
    same_few sides.Loader l t a b = (omega arith, omega arith, omega arith)
    same_few sides.Target l t a b = (omega arith, omega arith, omega arith)

    -- the other end is ticked first
    not_helped : (w : World) (l t : ℕ) (turn : Side) → l + length rest ≤ 4 → t + length rest ≤ 4 → WorldStandsAt set loads n c w l t → tick_in w turn ≡ Some (other help.side) → waits w (other help.side) ≡ true → Ends w [] turn
    not_helped w l t turn ll lt at e waiting =
        let w_waits = sym (waits_same set loads n c w (other help.side) l t at) ∙ waiting in
        let (b, last, has) = laws.last set loads n c (other help.side) clean w_waits in
        let (left, few) = other_few help.side l t ll lt in
        let posts = tick_posts set loads n c w (other help.side) l t b at w_waits left last in
        ticks_end w (other help.side) (b ∷ []) turn e posts
        (subst (λ (s : Side). Ends (ticked set w (other help.side)) (b ∷ []) s) (sym (back help.side))
        (in_turn (ticked set w (other help.side)) (b ∷ []) _ _ few (ticking_is_safe laws.last set loads n c w (other help.side) l t at w_waits left)
        (subst (λ (ds : List DatagramView). AreAmong ds (b ∷ [])) (sym posts) (among_right w.posts (b ∷ []) (b ∷ []) (among_itself (b ∷ []))))))

    resting : (w : World) (queue : List DatagramView) (l t : ℕ) (turn : Side) → l + length rest ≤ 4 → t + length rest ≤ 4 → WorldStandsAt set loads n c w l t → AreAmong w.posts queue → Ends w queue turn
    resting w queue l t turn ll lt at among =
        drains n c l t turn (λ q. Unit {0})
        (λ d q new differs any k. tt)
        (λ w' d q new f posts clean_posts still mong k. goes_next l t turn (omega arith) (omega arith) w' d q new f clean_posts still mong)
        (λ w' still k. elim (who help.side w' turn (waits_same set loads n c w' help.side l t still ∙ help.waiting)) [
          | inl e ↦ helped w' l t turn (same_few help.side l t ll lt) still e
          | inr e ↦ not_helped w' l t turn ll lt still e.0 e.1
        ])
        (total queue) w queue (omega arith) at among tt

  -- ---- all of it

  by_budget : (n : ℕ) (c : World) → NextEnd n c → AllEnd n c
  by_budget n c rec w queue l t turn at among (flows h) = flowing n c rec w queue l t turn at among h
  by_budget n c rec w queue l t turn at among (rests x rest e ll lt) =
      let f = first_is n c x rest e in
      resting n c rec at.clean x rest e (rest_short n c x rest at.clean e) f (helps n c x at.clean f) w queue l t turn ll lt at among

  -- none is next any more
  nothing_next : (n : ℕ) (c : World) (d : DatagramView) → numbered c.posts (n + 1) ≡ None → IsNext n c d → ⊥
  nothing_next n c d none is = absurd cc

  all_end : (k n : ℕ) (c : World) → ComesOut set k n c → AllEnd n c
  all_end zero n c out = by_budget n c (λ d is. absurd (nothing_next n c d out is))
  all_end (suc k) n c out = by_budget n c (λ d is. all_end k (n + 1) (delivered set c d) (out d is))

  first_budget : (n : ℕ) (c : World) (queue : List DatagramView) (l t : ℕ) → Clean set loads n c → l ≤ 3 → t ≤ 3 → Budget n c queue l t
  first_budget n c queue l t clean ll lt = elim (first_or_none c.posts n) [
    | inl (d, f) ↦ (let e = (next_drop c.posts n d f).0 in let s = rest_short n c d (drop (n + 1) c.posts) clean e in rests d (drop (n + 1) c.posts) e (omega arith) (omega arith))
    | inr none ↦ flows (subst (λ (ds : List DatagramView). Queued ds queue) (sym (drop_all n c.posts (none_drop c.posts n none))) tt)
  ]

pub finish_ends : CleanLaws → UploadFinishEnds
finish_ends laws set loads n c w l t queue turn at among ll lt =
    let (k, out) = laws.come_out set loads n c at.clean in
    all_end set loads laws k n c out w queue l t turn at among (first_budget set loads laws n c queue l t at.clean (omega arith) (omega arith))
