-- What a delivery does to both ends, and what then holds at the next moment.
use Rattle.std.proofs.Common.{◌≡◌, ℕ, ◌+◌, ◌<◌, ◌≤◌, Bool, List, [], ◌∷◌, ◌++◌, refl, sym, ap, subst, ◌∙◌, arith, append_assoc, length-append, ◌⊎◌, inl, inr}
use Rattle.std.specs.Prelude.{Contains}
use Rattle.std.proofs.lemmas.List.Elements.{Contains-append_left, Contains-push_cases}
use Rattle.exchange_trace.specs.declared.trace.Side.{Side}
use Rattle.exchange_trace.specs.declared.trace.Side.TheVariants as sides
use Rattle.exchange_trace.specs.Happenings.{DatagramView}
use Rattle.exchange_trace.specs.Logs.{Event, Gets}
use Rattle.load_protocol_files.specs.declared.lur.Wanted.{Wanted}
use Rattle.tftp_packet.specs.Packets.{PacketView}
use Rattle.transfer_end.specs.Transfers.{LinkEnd}
use Rattle.session_rules.specs.TargetRows.{RowView}
use Rattle.replay_rules.specs.BothEnds.{Setting}
use Rattle.transfer_completion.proofs.MoveLemmas.{more_posts}
use Rattle.transfer_completion.specs.Positions.{HasAsked, IsBehind, IsBehindIn, IsIn, Position, Rests, StandsIn, heard}
use Rattle.transfer_end.specs.Transfers.{Role}
use Rattle.session_completion.specs.Retries.{loader_retries, target_retries}
use Rattle.session_completion.specs.Stages.{CameInCourse, InRow, IsPosted, Meets, Opposite, as_request, earlier, end_at, here, may_ask, to_loader, to_target}
use Rattle.session_completion.specs.Worlds.{World, delivered_to, last_of, waits}
use Rattle.session_completion.proofs.LoaderSteps.{LoaderReaches}
use Rattle.session_completion.proofs.TargetSteps.{TargetReaches}

-- the retries of the end that gets what this one posted
abbrev pub Resets : Setting → World → Side → Event → Type 0
Resets set c sides.Target e = (r : ℕ) → loader_retries set.media c.loader e r ≡ 0
Resets set c sides.Loader e = (r : ℕ) → target_retries set.accepts c.target e r ≡ 0

-- the end that gets the event stands so then, and posted these
pub record Reacts (set : Setting) (c : World) (getter poster : Side) (e : Event) (own peer i : ℕ) (position : Position) (new : List DatagramView) : Type 0 where
  pub stands : StandsIn getter (c.posts ++ new) own peer i position (end_at (delivered_to set c poster e) getter)
  pub posts : (delivered_to set c poster e).posts ≡ c.posts ++ new
  pub resets : Resets set c poster e
  pub last : IsPosted (c.posts ++ new) (last_of (delivered_to set c poster e) getter)

pub loader_reacts : (set : Setting) (c : World) (e : Event) (own peer i : ℕ) (position : Position) (new : List DatagramView) → LoaderReaches set.media c.loader e c.posts own peer i position new
    → Reacts set c sides.Loader sides.Target e own peer i position new
loader_reacts set c e own peer i position new r = record { stands = r.stands; posts = ap (λ (ds : List DatagramView). c.posts ++ ds) r.posted_is; resets = r.resets; last = r.last }

pub target_reacts : (set : Setting) (c : World) (e : Event) (own peer i : ℕ) (position : Position) (new : List DatagramView) → TargetReaches set.accepts c.target e c.posts own peer i position new
    → Reacts set c sides.Target sides.Loader e own peer i position new
target_reacts set c e own peer i position new r = record { stands = r.stands; posts = ap (λ (ds : List DatagramView). c.posts ++ ds) r.posted_is; resets = r.resets; last = r.last }

-- ---- what the other end keeps

pub flip : (getter poster : Side) → Opposite getter poster → Opposite poster getter
flip getter poster to_loader = to_target
flip getter poster to_target = to_loader

pub other_end : (set : Setting) (c : World) (getter poster : Side) (e : Event) → Opposite getter poster → end_at (delivered_to set c poster e) poster ≡ end_at c poster
other_end set c getter poster e to_loader = refl
other_end set c getter poster e to_target = refl

pub other_waits : (set : Setting) (c : World) (getter poster : Side) (e : Event) → Opposite getter poster → waits (delivered_to set c poster e) poster ≡ waits c poster
other_waits set c getter poster e to_loader = refl
other_waits set c getter poster e to_target = refl

pub other_last : (set : Setting) (c : World) (getter poster : Side) (e : Event) → Opposite getter poster → last_of (delivered_to set c poster e) poster ≡ last_of c poster
other_last set c getter poster e to_loader = refl
other_last set c getter poster e to_target = refl

pub other_row : (set : Setting) (wanted : List Wanted) (c : World) (getter poster : Side) (e : Event) (row : RowView) (arrived : List ℕ) → Opposite getter poster → InRow set wanted c poster row arrived
    → InRow set wanted (delivered_to set c poster e) poster row arrived
other_row set wanted c getter poster e row arrived to_loader h = h
other_row set wanted c getter poster e row arrived to_target h = h

-- ---- what came before is behind an end that went on

pub record IsAfter (i : ℕ) (position : Position) (i' : ℕ) (position' : Position) : Type 0 where
  pub index : i ≤ i'
  pub heard_by : heard position i ≤ heard position' i'
  pub behind : (p : PacketView) → IsBehindIn position p → ((i' ≡ i) × IsBehindIn position' p) ⊎ (i < i')

pub still_came : (may : PacketView → Bool) (own peer i i' : ℕ) (position position' : Position) (d : DatagramView) → IsAfter i position i' position' → CameInCourse may own peer i position d → CameInCourse may own peer i' position' d
still_came may own peer i i' position position' d after (as_request j p is ok lt from to) = let h = after.heard_by in as_request j p is ok (omega arith) from to
still_came may own peer i i' position position' d after (earlier j p is lt from to) = let h = after.index in earlier j p is (omega arith) from to
still_came may own peer i i' position position' d after (here p is behind from to) = elim (after.behind p behind) [
  | inl same ↦ here p is same.1 (from ∙ ap (λ (k : ℕ). peer + k) (sym same.0)) (to ∙ ap (λ (k : ℕ). own + k) (sym same.0))
  | inr lt ↦ earlier i p is lt from to
]

pub stays_at : (i : ℕ) (position : Position) → IsAfter i position i position
stays_at i position = record { index = omega arith; heard_by = omega arith; behind = λ p h. inl (refl, h) }

pub after_serving : (i : ℕ) (end : LinkEnd) → IsAfter i Rests i (IsIn end)
after_serving i end = record { index = omega arith; heard_by = omega arith; behind = λ p h. absurd h }

pub after_binding : (i : ℕ) (role : Role) (end : LinkEnd) → IsAfter i (HasAsked role) i (IsIn end)
after_binding i role end = record { index = omega arith; heard_by = omega arith; behind = λ p h. absurd h }

pub after_packet : (i : ℕ) (end end' : LinkEnd) → ((p : PacketView) → IsBehind end p → IsBehind end' p) → IsAfter i (IsIn end) i (IsIn end')
after_packet i end end' on = record { index = omega arith; heard_by = omega arith; behind = λ p h. inl (refl, on p h) }

heard_at_most : (position : Position) (i : ℕ) → heard position i ≤ i + 1
heard_at_most Rests i = omega arith
heard_at_most (HasAsked role) i = omega arith
heard_at_most (IsIn end) i = omega arith

pub after_end : (i : ℕ) (position : Position) → IsAfter i position (i + 1) Rests
after_end i position = let h = heard_at_most position i in record { index = omega arith; heard_by = omega arith; behind = λ p x. inr (omega arith) }

pub after_asking : (i : ℕ) (position : Position) (role : Role) → IsAfter i position (i + 1) (HasAsked role)
after_asking i position role = let h = heard_at_most position i in record { index = omega arith; heard_by = omega arith; behind = λ p x. inr (omega arith) }

-- ---- the next moment

not_same : (getter poster : Side) → Opposite getter poster → poster ≡ getter → ⊥
not_same getter poster to_loader e = absurd cc
not_same getter poster to_target e = absurd cc

abbrev sent_by : Side → (from to : ℕ) → List ℕ → DatagramView
sent_by side from to bytes = record { side = side; from = from; to = to; bytes = bytes }

pub meets_next : (set : Setting) (n : ℕ) (c : World) (getter poster : Side) (own peer i j i' : ℕ) (mine yours mine' : Position) (before rest new : List DatagramView) (from to : ℕ) (bytes : List ℕ)
    → Meets set n c getter poster own peer i j mine yours before (sent_by poster from to bytes ∷ rest) → IsAfter i mine i' mine' → CameInCourse (may_ask set getter) own peer i' mine' (sent_by poster from to bytes)
    → Reacts set c getter poster (Gets from to bytes) own peer i' mine' new → (delivered_to set c poster (Gets from to bytes)).target.active.identity ≡ set.start.identity
    → Meets set (n + 1) (delivered_to set c poster (Gets from to bytes)) getter poster own peer i' j mine' yours (before ++ sent_by poster from to bytes ∷ []) (rest ++ new)
meets_next set n c getter poster own peer i j i' mine yours mine' before rest new from to bytes m after now r id =
    let d = sent_by poster from to bytes in
    let e = Gets from to bytes in
    let c' = delivered_to set c poster e in
    record {
      opposite = m.opposite;
      own_low = m.own_low;
      peer_low = m.peer_low;
      me = subst (λ (ds : List DatagramView). StandsIn getter ds own peer i' mine' (end_at c' getter)) (sym r.posts) r.stands;
      you = rw (other_end set c getter poster e m.opposite, r.posts) (more_posts poster c.posts new peer own j yours (end_at c poster) m.you);
      posts = r.posts ∙ ap (λ (ds : List DatagramView). ds ++ new) m.posts ∙ joined before d rest new;
      count = length-append before (d ∷ []) ∙ ap (λ (k : ℕ). k + 1) m.count;
      to_me = λ x has side. elim (Contains-push_cases before d x has) [
        | inl old ↦ still_came (may_ask set getter) own peer i i' mine mine' x after (m.to_me x old side)
        | inr same ↦ subst (λ (y : DatagramView). CameInCourse (may_ask set getter) own peer i' mine' y) same now
      ];
      to_you = λ x has side. elim (Contains-push_cases before d x has) [
        | inl old ↦ m.to_you x old side
        | inr same ↦ absurd (not_same getter poster m.opposite (ap (λ (y : DatagramView). y.side) same ∙ side))
      ];
      i_posted = λ w. subst (λ (ds : List DatagramView). IsPosted ds (last_of c' getter)) (sym r.posts) r.last;
      you_posted = λ w. (let (x, is, has) = m.you_posted (sym (other_waits set c getter poster e m.opposite) ∙ w) in
          (x, other_last set c getter poster e m.opposite ∙ is, subst (λ (ds : List DatagramView). Contains ds x) (sym r.posts) (Contains-append_left c.posts new x has)));
      identity = id;
    }
  where
    joined : (before : List DatagramView) (d : DatagramView) (rest new : List DatagramView) → (before ++ d ∷ rest) ++ new ≡ (before ++ d ∷ []) ++ (rest ++ new)
    joined before d rest new = append_assoc before (d ∷ rest) new ∙ sym (append_assoc before (d ∷ []) (rest ++ new))

-- the other end gets the next datagram
pub meets_flipped : (set : Setting) (n : ℕ) (c : World) (getter poster : Side) (own peer i j : ℕ) (mine yours : Position) (before ahead : List DatagramView)
    → Meets set n c getter poster own peer i j mine yours before ahead → Meets set n c poster getter peer own j i yours mine before ahead
meets_flipped set n c getter poster own peer i j mine yours before ahead m = record {
  opposite = flip getter poster m.opposite;
  own_low = m.peer_low;
  peer_low = m.own_low;
  me = m.you;
  you = m.me;
  posts = m.posts;
  count = m.count;
  to_me = m.to_you;
  to_you = m.to_me;
  i_posted = m.you_posted;
  you_posted = m.i_posted;
  identity = m.identity;
}
