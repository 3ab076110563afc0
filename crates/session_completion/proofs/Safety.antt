-- Whatever is delivered, told or ticked, a world stands where a clean one stands, by the laws of clean uploads.
use Rattle.std.proofs.Common.{◌≡◌, ℕ, ◌+◌, ◌<◌, true, List, [], ◌∷◌, ◌++◌, Option, Some, None, refl, sym, ap, subst, ◌∙◌, inl, inr}
use Rattle.std.specs.Prelude.{Contains, is_some}
use Rattle.std.proofs.lemmas.List.{append-nil}
use Rattle.std.proofs.lemmas.List.Elements.{Contains-append_left, Contains-append_right, All-from_recursion, All-contains, recursion_from_All, All-contains_itself}
use Rattle.load_base.specs.Config.{LoadView}
use Rattle.exchange_trace.specs.declared.trace.Side.{Side}
use Rattle.exchange_trace.specs.declared.trace.Side.TheVariants as sides
use Rattle.exchange_trace.specs.Happenings.{DatagramView, other}
use Rattle.exchange_trace.specs.Logs.{Ticks}
use Rattle.exchange_trace.specs.Posts.{numbered}
use Rattle.accept_rules.specs.Permissions.{Accepts}
use Rattle.replay_rules.specs.BothEnds.{Setting}
use Rattle.transfer_completion.specs.Replies.{IsOld}
use Rattle.transfer_completion.specs.Retries.{with_retries}
use Rattle.session_completion.specs.Requests.{SessionFits}
use Rattle.session_completion.specs.Worlds.{World, delivered, told, ticked, retried, waits, last_of, retried_loader, retried_target}
use Rattle.session_completion.specs.Clean.{Clean, learns, goes, WorldStandsAt, AreAmong}
use Rattle.session_completion.specs.Laws.{retries_of_getter, LastWasPosted, NextMoves, OldIsHarmless}
use Rattle.session_completion.specs.Safety.{was_old, was_next, DeliveringIsSafe, TickingIsSafe, TellingIsSafe, retries_of}
use Rattle.transfer_completion.proofs.BlockLemmas.{lt_true}
use Rattle.transfer_end.specs.Views.{EndView}
use Rattle.disk_layout.specs.Holds.{Outline}
use Rattle.session_rules.specs.declared.reason.Reason.{Reason}
use Rattle.session_rules.specs.Loader.{LoaderView, LoaderSession, EndedSession, loader_posts, loader_after}
use Rattle.session_rules.specs.Target.{TargetSession, target_posts, target_after}
use Rattle.session_rules.specs.MediaFiles.{Media}
use Rattle.session_completion.proofs.Old.{loader_same, target_same, target_view}
use Rattle.session_completion.proofs.Fits.{clean_fits, no_more_sums}
use Rattle.session_completion.proofs.Equal.{next_or_not}
use Rattle.session_completion.proofs.Shapes.{same_world}

pub among_more : (all ds es : List DatagramView) → AreAmong all ds → AreAmong all es → AreAmong all (ds ++ es)
among_more all [] es a b = b
among_more all (d ∷ ds) es a b = (a.0, among_more all ds es a.1 b)

pub among_wider : (all more ds : List DatagramView) → AreAmong all ds → AreAmong (all ++ more) ds
among_wider all more [] a = tt
among_wider all more (d ∷ ds) a = (Contains-append_left all more d a.0, among_wider all more ds a.1)

pub among_right : (all more ds : List DatagramView) → AreAmong more ds → AreAmong (all ++ more) ds
among_right all more [] a = tt
among_right all more (d ∷ ds) a = (Contains-append_right all more d a.0, among_right all more ds a.1)

pub among_itself : (ds : List DatagramView) → AreAmong ds ds
among_itself ds = recursion_from_All (λ (d : DatagramView). Contains ds d) ds (All-contains_itself ds)

pub among_old : (all answer : List DatagramView) → IsOld all answer → AreAmong all answer
among_old all [] old = tt
among_old all (d ∷ []) old = (old, tt)
among_old all (d ∷ e ∷ ds) old = absurd old

pub is_among : (all ds : List DatagramView) (d : DatagramView) → AreAmong all ds → Contains ds d → Contains all d
is_among all ds d a has = All-contains (λ (x : DatagramView). Contains all x) ds d (All-from_recursion (λ (x : DatagramView). Contains all x) ds a) has

-- the posts of a world that is delivered so
posts_as : (w c : World) (l t : ℕ) (posts : List DatagramView) → w ≡ retried c l t posts → w.posts ≡ posts
posts_as w c l t posts e = ap (λ (x : World). x.posts) e

pub stands : (set : Setting) (loads : List LoadView) (n : ℕ) (c w : World) (l t : ℕ) (posts : List DatagramView) → Clean set loads n c → w ≡ retried c l t posts → AreAmong c.posts posts → WorldStandsAt set loads n c w l t
stands set loads n c w l t posts clean e among =
    let p : posts ≡ w.posts = sym (posts_as w c l t posts e) in
    record { clean = clean; same = e ∙ ap (λ (ds : List DatagramView). retried c l t ds) p; among = subst (λ (ds : List DatagramView). AreAmong c.posts ds) p among }

pub delivering_is_safe : OldIsHarmless → NextMoves → DeliveringIsSafe
delivering_is_safe harmless moves set loads n c w d l t at has = elim (next_or_not (numbered c.posts (n + 1)) d) [
  | inl next ↦
      (let (answer, posts, goes_so) = moves set loads n c d l t at.clean next in
      was_next next (stands set loads (n + 1) (delivered set c d) (delivered set w d) (retries_of_getter d.side l) (retries_of_getter (other d.side) t) (w.posts ++ answer) (goes n c d at.clean next)
      (ap (λ (x : World). delivered set x d) at.same ∙ goes_so w.posts)
      (subst (λ (ds : List DatagramView). AreAmong ds (w.posts ++ answer)) (sym posts) (among_more (c.posts ++ answer) w.posts answer (among_wider c.posts answer w.posts at.among) (among_right c.posts answer answer (among_itself answer))))))
  | inr not ↦
      (let (answer, old, light, stays_so) = harmless set loads n c d l t at.clean (is_among c.posts w.posts d at.among has) not in
      was_old (stands set loads n c (delivered set w d) l t (w.posts ++ answer) at.clean
      (ap (λ (x : World). delivered set x d) at.same ∙ stays_so w.posts)
      (among_more c.posts w.posts answer at.among (among_old c.posts answer old))))
]

pub telling_is_safe : TellingIsSafe
telling_is_safe set loads n c w size l t at = record {
  clean = learns n c size at.clean;
  same = ap (λ (x : World). told set x size) at.same;
  among = rw (append-nil c.posts, append-nil w.posts) (rw (append-nil c.posts, append-nil w.posts) at.among);
}

abbrev loader_view : EndView → Option LoaderSession → List EndedSession → LoaderView
loader_view end live ended = record { end = end; live = live; ended = ended }

loader_ticks : (media : Media) (end : EndView) (live : Option LoaderSession) (ended : List EndedSession) (n : ℕ) (d : DatagramView) → is_some live ≡ true → n < 5 → end.last ≡ Some d
    → (loader_after media (retried_loader (loader_view end live ended) n) Ticks ≡ retried_loader (loader_view end live ended) (n + 1)) × (loader_posts media (retried_loader (loader_view end live ended) n) Ticks ≡ d ∷ [])
loader_ticks media end None ended n d waiting left last = absurd cc
loader_ticks media end (Some s) ended n d waiting left last = rw (lt_true n 5 left) (ap (λ (x : Option LoaderSession). loader_view (with_retries end (n + 1)) x ended) (loader_same (Some s)), rw last refl)

target_ticks : (accepts : Accepts) (end : EndView) (live : Option TargetSession) (active : Outline) (reason : Option Reason) (n : ℕ) (d : DatagramView) → SessionFits live → is_some live ≡ true → n < 5 → end.last ≡ Some d
    → (target_after accepts (retried_target (target_view end live active reason) n) Ticks ≡ retried_target (target_view end live active reason) (n + 1)) × (target_posts accepts (retried_target (target_view end live active reason) n) Ticks ≡ d ∷ [])
target_ticks accepts end None active reason n d fits waiting left last = absurd cc
target_ticks accepts end (Some s) active reason n d fits waiting left last = rw (lt_true n 5 left) (ap (λ (x : Option TargetSession). target_view (with_retries end (n + 1)) x active reason) (target_same no_more_sums (Some s) fits), rw last refl)

pub ticking_is_safe : LastWasPosted → TickingIsSafe
ticking_is_safe posted set loads n c w sides.Loader l t at waiting left =
    let (d, last, has) = posted set loads n c sides.Loader at.clean waiting in
    let (same, post) = loader_ticks set.media c.loader.end c.loader.live c.loader.ended l d waiting left last in
    stands set loads n c (ticked set w sides.Loader) (l + 1) t (w.posts ++ d ∷ []) at.clean
    (ap (λ (x : World). ticked set x sides.Loader) at.same ∙ same_world _ _ _ _ _ _ same refl (ap (λ (ds : List DatagramView). w.posts ++ ds) post))
    (among_more c.posts w.posts (d ∷ []) at.among (has, tt))
ticking_is_safe posted set loads n c w sides.Target l t at waiting left =
    let (d, last, has) = posted set loads n c sides.Target at.clean waiting in
    let (same, post) = target_ticks set.accepts c.target.end c.target.live c.target.active c.target.reason t d (clean_fits set loads n c at.clean) waiting left last in
    stands set loads n c (ticked set w sides.Target) l (t + 1) (w.posts ++ d ∷ []) at.clean
    (ap (λ (x : World). ticked set x sides.Target) at.same ∙ same_world _ _ _ _ _ _ refl same (ap (λ (ds : List DatagramView). w.posts ++ ds) post))
    (among_more c.posts w.posts (d ∷ []) at.among (has, tt))

-- what a tick posts
pub tick_posts : (set : Setting) (loads : List LoadView) (n : ℕ) (c w : World) (side : Side) (l t : ℕ) (d : DatagramView) → WorldStandsAt set loads n c w l t → waits c side ≡ true → retries_of side l t < 5
    → last_of c side ≡ Some d → (ticked set w side).posts ≡ w.posts ++ d ∷ []
tick_posts set loads n c w sides.Loader l t d at waiting left last =
    ap (λ (x : World). (ticked set x sides.Loader).posts) at.same ∙ ap (λ (ds : List DatagramView). w.posts ++ ds) (loader_ticks set.media c.loader.end c.loader.live c.loader.ended l d waiting left last).1
tick_posts set loads n c w sides.Target l t d at waiting left last =
    ap (λ (x : World). (ticked set x sides.Target).posts) at.same ∙ ap (λ (ds : List DatagramView). w.posts ++ ds) (target_ticks set.accepts c.target.end c.target.live c.target.active c.target.reason t d (clean_fits set loads n c at.clean) waiting left last).1

waits_as : (c : World) (l t : ℕ) (posts : List DatagramView) (side : Side) → waits (retried c l t posts) side ≡ waits c side
waits_as c l t posts sides.Loader = refl
waits_as c l t posts sides.Target = refl

pub waits_same : (set : Setting) (loads : List LoadView) (n : ℕ) (c w : World) (side : Side) (l t : ℕ) → WorldStandsAt set loads n c w l t → waits w side ≡ waits c side
waits_same set loads n c w side l t at = ap (λ (x : World). waits x side) at.same ∙ waits_as c l t w.posts side
