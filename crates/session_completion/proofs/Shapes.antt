-- Two laws of clean uploads follow from how their ends stand.
use Rattle.std.proofs.Common.{◌≡◌, ℕ, List, [], ◌∷◌, ◌++◌, refl, ap, ◌∙◌, ◌⊎◌, inl, inr, subst, sym, true, false}
use Rattle.std.specs.Prelude.{Contains}
use Rattle.exchange_trace.specs.declared.trace.Side.{Side}
use Rattle.exchange_trace.specs.declared.trace.Side.TheVariants as sides
use Rattle.exchange_trace.specs.Happenings.{DatagramView, other}
use Rattle.exchange_trace.specs.Logs.{Gets}
use Rattle.transfer_end.specs.Views.{EndView}
use Rattle.session_rules.specs.Loader.{LoaderView, loader_posts, loader_after}
use Rattle.session_rules.specs.Target.{TargetView, target_posts, target_after}
use Rattle.replay_rules.specs.BothEnds.{Setting}
use Rattle.transfer_completion.proofs.PastLemmas.{past_is_old, past_request_is_spent}
use Rattle.transfer_completion.specs.Positions.{Position, StandsIn, IsPast}
use Rattle.transfer_completion.specs.Replies.{IsOld, IsLighter, IsReplyTo, Replies}
use Rattle.transfer_completion.specs.Retries.{with_retries}
use Rattle.session_completion.specs.Clean.{IsNext}
use Rattle.session_completion.specs.Laws.{retries_of_getter, NextMoves, OldIsHarmless}
use Rattle.session_completion.specs.Requests.{is_there, is_own_file, is_write, SessionFits}
use Rattle.session_completion.specs.Shapes.{always, HasShape, ResetsAt, AllHaveShape, NextResets}
use Rattle.session_completion.specs.Worlds.{World, delivered_to, retried, retried_loader, retried_target}
use Rattle.session_completion.proofs.Fits.{clean_fits, no_more_sums}
use Rattle.session_completion.proofs.Old.{loader_old, target_old}
use Rattle.session_completion.proofs.Same.{loader_does_the_same, target_does_the_same}
use Rattle.disk_layout.specs.declared.identity.Identity.{Identity}
use Rattle.transfer_end.specs.Packets.{is_busy, is_fresh}

retried_end : (side : Side) (posts : List DatagramView) (own peer i : ℕ) (position : Position) (v : EndView) (r : ℕ) → StandsIn side posts own peer i position v → StandsIn side posts own peer i position (with_retries v r)
retried_end side posts own peer i position v r end = record { port = end.port; mark = end.mark; live = end.live; last = end.last; underway = end.underway; kept = end.kept }

replies_old : (posts : List DatagramView) (d : DatagramView) (answer : List DatagramView) → Replies (IsReplyTo posts d) answer → IsOld posts answer × IsLighter d answer
replies_old posts d [] h = (tt, tt)
replies_old posts d (e ∷ []) h = h
replies_old posts d (e ∷ f ∷ ds) h = absurd h

at_loader_old : (set : Setting) (n : ℕ) (c : World) (shape : HasShape set n c) (d : DatagramView) (l : ℕ) → IsPast (is_there set.media) always shape.loader_port shape.target_port shape.loader_at shape.loader_stands d
    → (loader_after set.media (retried_loader c.loader l) (Gets d.from d.to d.bytes) ≡ retried_loader c.loader l) × Replies (IsReplyTo c.posts d) (loader_posts set.media (retried_loader c.loader l) (Gets d.from d.to d.bytes))
at_loader_old set n c shape d l past =
    let end = retried_end sides.Loader c.posts shape.loader_port shape.target_port shape.loader_at shape.loader_stands c.loader.end l shape.loader in
    loader_old set.media (retried_loader c.loader l) (IsReplyTo c.posts d) d.from d.to d.bytes (λ p is. record {
      request = λ e. elim (past_request_is_spent (is_there set.media) always sides.Loader c.posts shape.loader_port shape.target_port shape.loader_at shape.loader_stands (with_retries c.loader.end l) d p end shape.loader_low is past e) [
        | inl spent ↦ inr spent
        | inr busy ↦ inl busy.0
      ];
      packet = λ e. past_is_old (is_there set.media) always sides.Loader c.posts shape.loader_port shape.target_port shape.loader_at shape.loader_stands (with_retries c.loader.end l) d p end is past e;
    })

at_target_old : (set : Setting) (n : ℕ) (c : World) (shape : HasShape set n c) (d : DatagramView) (t : ℕ) → SessionFits c.target.live → IsPast (is_own_file set.start.identity) is_write shape.target_port shape.loader_port shape.target_at shape.target_stands d
    → (target_after set.accepts (retried_target c.target t) (Gets d.from d.to d.bytes) ≡ retried_target c.target t) × Replies (IsReplyTo c.posts d) (target_posts set.accepts (retried_target c.target t) (Gets d.from d.to d.bytes))
at_target_old set n c shape d t fits past =
    let end = retried_end sides.Target c.posts shape.target_port shape.loader_port shape.target_at shape.target_stands c.target.end t shape.target in
    target_old no_more_sums set.accepts (retried_target c.target t) fits (IsReplyTo c.posts d) d.from d.to d.bytes (λ p is. record {
      asked = λ e. subst (λ (id : Identity). ((is_fresh (with_retries c.target.end t) d.from ≡ false) × (is_own_file id p ≡ true)) ⊎ ((is_busy (with_retries c.target.end t) ≡ true) × (is_write p ≡ true))) (sym shape.identity)
          (past_request_is_spent (is_own_file set.start.identity) is_write sides.Target c.posts shape.target_port shape.loader_port shape.target_at shape.target_stands (with_retries c.target.end t) d p end shape.target_low is past e);
      packet = λ e. past_is_old (is_own_file set.start.identity) is_write sides.Target c.posts shape.target_port shape.loader_port shape.target_at shape.target_stands (with_retries c.target.end t) d p end is past e;
    })

pub same_world : (l l' : LoaderView) (t t' : TargetView) (ds ds' : List DatagramView) → l ≡ l' → t ≡ t' → ds ≡ ds' → (let w : World = record { loader = l; target = t; posts = ds } in w) ≡ record { loader = l'; target = t'; posts = ds' }
same_world l l' t t' ds ds' a b e = cc

abbrev made : Side → (from to : ℕ) → List ℕ → DatagramView
made side from to bytes = record { side = side; from = from; to = to; bytes = bytes }

past_if : (set : Setting) (n : ℕ) (c : World) (d : DatagramView) (P : Type 0) → (IsNext n c d → ⊥) → IsNext n c d ⊎ P → P
past_if set n c d P differs (inl next) = absurd (differs next)
past_if set n c d P differs (inr p) = p

harmless : (set : Setting) (n : ℕ) (c : World) (side : Side) (from to : ℕ) (bytes : List ℕ) (l t : ℕ) → SessionFits c.target.live → HasShape set n c → Contains c.posts (made side from to bytes) → (IsNext n c (made side from to bytes) → ⊥)
    → (answer : List DatagramView) × IsOld c.posts answer × IsLighter (made side from to bytes) answer
    × ((posts : List DatagramView) → delivered_to set (retried c l t posts) side (Gets from to bytes) ≡ retried c l t (posts ++ answer))
harmless set n c sides.Target from to bytes l t fits shape has differs =
    let d = made sides.Target from to bytes in
    let (same, replies) = at_loader_old set n c shape d l (past_if set n c d _ differs (shape.to_loader d has refl)) in
    let (old, light) = replies_old c.posts d (loader_posts set.media (retried_loader c.loader l) (Gets from to bytes)) replies in
    (loader_posts set.media (retried_loader c.loader l) (Gets from to bytes), old, light, λ posts. same_world _ _ _ _ _ _ same refl refl)
harmless set n c sides.Loader from to bytes l t fits shape has differs =
    let d = made sides.Loader from to bytes in
    let (same, replies) = at_target_old set n c shape d t fits (past_if set n c d _ differs (shape.to_target d has refl)) in
    let (old, light) = replies_old c.posts d (target_posts set.accepts (retried_target c.target t) (Gets from to bytes)) replies in
    (target_posts set.accepts (retried_target c.target t) (Gets from to bytes), old, light, λ posts. same_world _ _ _ _ _ _ refl same refl)

-- only the next datagram moves an end
pub old_is_harmless : AllHaveShape → OldIsHarmless
old_is_harmless shapes set loads n c d l t clean has differs = harmless set n c d.side d.from d.to d.bytes l t (clean_fits set loads n c clean) (shapes set loads n c clean) has differs

-- ---- the next datagram

moves_by : (set : Setting) (c : World) (side : Side) (from to : ℕ) (bytes : List ℕ) (l t : ℕ) → ResetsAt set c (made side from to bytes) side
    → (answer : List DatagramView) × ((delivered_to set c side (Gets from to bytes)).posts ≡ c.posts ++ answer)
    × ((posts : List DatagramView) → delivered_to set (retried c l t posts) side (Gets from to bytes)
    ≡ retried (delivered_to set c side (Gets from to bytes)) (retries_of_getter side l) (retries_of_getter (other side) t) (posts ++ answer))
moves_by set c sides.Target from to bytes l t resets =
    let (same, posts) = loader_does_the_same set.media c.loader l (Gets from to bytes) tt in (
      loader_posts set.media c.loader (Gets from to bytes),
      refl,
      λ ds.
          same_world _ _ _ _ _ _ (same ∙ ap (λ (r : ℕ). retried_loader (loader_after set.media c.loader (Gets from to bytes)) r) (resets l)) refl (ap (λ (new : List DatagramView). ds ++ new) posts),
    )
moves_by set c sides.Loader from to bytes l t resets =
    let (same, posts) = target_does_the_same set.accepts c.target t (Gets from to bytes) tt in (
      target_posts set.accepts c.target (Gets from to bytes),
      refl,
      λ ds.
          same_world _ _ _ _ _ _ refl (same ∙ ap (λ (r : ℕ). retried_target (target_after set.accepts c.target (Gets from to bytes)) r) (resets t)) (ap (λ (new : List DatagramView). ds ++ new) posts),
    )

-- the next datagram sets the retries of the end that gets it to 0
pub next_moves : NextResets → NextMoves
next_moves resets set loads n c d l t clean next = moves_by set c d.side d.from d.to d.bytes l t (resets set loads n c d clean next)
