-- Proofs that both sides first post blocks in their order.
use Rattle.std.proofs.Common.{◌≡◌, ℕ, ◌<◌, Bool, true, false, cond, List, [], ◌∷◌, ◌++◌, Option, Some, None, refl, sym, subst, append-nil}
use Rattle.std.specs.List.{AllByRecursion}
use Rattle.disk_layout.specs.Holds.{StandingView}
use Rattle.exchange_trace.specs.declared.trace.Side.{Side}
use Rattle.exchange_trace.specs.declared.trace.Side.TheVariants as sides
use Rattle.exchange_trace.specs.Happenings.{DatagramView}
use Rattle.exchange_trace.specs.Logs.{Event, Gets, Learns, Starts_info, Starts_upload, Ticks}
use Rattle.transfer_end.specs.FirstPosts.{AllInOrder, MovesPostInOrder}
use Rattle.transfer_end.proofs.FirstPostLemmas.{stopped_in_order}
use Rattle.transfer_end.specs.Laws.{IsLive}
use Rattle.transfer_end.specs.Moves.{Move, Repeats, Stops, all_posts, last_post, readings_after}
use Rattle.transfer_end.specs.OtherEnds.{IsNoTick, PortsFit}
use Rattle.transfer_end.specs.Packets.{may_repeat}
use Rattle.transfer_end.specs.Readings.{Reading}
use Rattle.transfer_end.specs.Transfers.{Transfer}
use Rattle.transfer_end.specs.Views.{EndView}
use Rattle.accept_rules.specs.Permissions.{Accepts}
use Rattle.session_rules.specs.declared.outcome.Outcome.TheVariants.{GaveUp}
use Rattle.session_rules.specs.declared.reason.Reason.TheVariants as reasons
use Rattle.session_rules.proofs.BufferLemmas.{SumsJoin}
use Rattle.session_rules.proofs.FairLemmas.{loader_moves_fit, loader_ports_stay, target_moves_fit, target_ports_stay}
use Rattle.session_rules.specs.FirstPosts.{LoaderBlocksInOrder, TargetBlocksInOrder, TicksRepeat, loader_first_posts, target_first_posts, unless_tick}
use Rattle.session_rules.specs.Loader as loader
use Rattle.session_rules.proofs.LoaderLemmas.{end_stays as loader_end_stays}
use Rattle.session_rules.specs.LoaderLog.{LoaderReading, loader_due, loader_extended, loader_reading, loader_view}
use Rattle.session_rules.specs.MediaFiles.{Media}
use Rattle.session_rules.specs.Target as target
use Rattle.session_rules.proofs.TargetLemmas.{end_stays as target_end_stays}
use Rattle.session_rules.specs.TargetLog.{TargetReading, target_due, target_extended, target_reading, target_view}
use Rattle.session_rules.proofs.ViewLemmas.{loader_live, target_live}

-- ---- ticks

-- the moves of a tick
pub data AtTick : List Move → Type 0 where
  none_made : AtTick []
  repeats : AtTick (Repeats ∷ [])
  stops : AtTick (Stops ∷ [])

tick_if : (b : Bool) → AtTick (cond b (Repeats ∷ []) (Stops ∷ []))
tick_if true = repeats
tick_if false = stops

loader_at_tick : (v : EndView) (live : Option loader.LoaderSession) → AtTick (loader.tick_decision v live).moves
loader_at_tick v None = none_made
loader_at_tick v (Some s) = by (may_repeat v)
  where
    by : (b : Bool) → AtTick (cond b (loader.doing (Repeats ∷ [])) (loader.ending GaveUp)).moves
    by true = repeats
    by false = stops

target_at_tick : (v : EndView) (live : Option target.TargetSession) → AtTick (target.tick_decision v live).moves
target_at_tick v None = none_made
target_at_tick v (Some s) = by (may_repeat v)
  where
    by : (b : Bool) → AtTick (cond b (target.doing (Repeats ∷ [])) (target.ending (Some reasons.GaveUp))).moves
    by true = repeats
    by false = stops

last_repeats : (last : Option DatagramView) → AllByRecursion (λ (d : DatagramView). last ≡ Some d) (last_post last ++ [])
last_repeats None = tt
last_repeats (Some d) = (refl, tt)

tick_repeats : (side : Side) (v : EndView) (moves : List Move) → AtTick moves → AllByRecursion (λ (d : DatagramView). v.last ≡ Some d) (all_posts side v moves)
tick_repeats side v moves none_made = tt
tick_repeats side v moves repeats = last_repeats v.last
tick_repeats side v moves stops = tt

pub ticks_repeat : TicksRepeat
ticks_repeat = (
  λ media v. tick_repeats sides.Loader v.end (loader.tick_decision v.end v.live).moves (loader_at_tick v.end v.live),
  λ accepts v. tick_repeats sides.Target v.end (target.tick_decision v.end v.live).moves (target_at_tick v.end v.live),
)

tick_in_order : (side : Side) (r : Reading) (moves : List Move) (posts : List DatagramView) → AtTick moves → AllInOrder r posts → AllInOrder (readings_after side r moves) (posts ++ [])
tick_in_order side r moves posts none_made h = subst (λ (all : List DatagramView). AllInOrder r all) (sym (append-nil posts)) h
tick_in_order side r moves posts repeats h = subst (λ (all : List DatagramView). AllInOrder (readings_after side r (Repeats ∷ [])) all) (sym (append-nil posts)) (record { each = h.each; below = h.below })
tick_in_order side r moves posts stops h = subst (λ (all : List DatagramView). AllInOrder (readings_after side r (Stops ∷ [])) all) (sym (append-nil posts)) (stopped_in_order side r posts h)

-- ---- logs

loader_moves_in_order : MovesPostInOrder → (media : Media) (log : List Event) (e : Event) → AllInOrder (loader_reading media log).end (loader_first_posts media log)
    → AllInOrder (readings_after sides.Loader (loader_reading media log).end (loader.loader_decision media (loader_view (loader_reading media log)) e).moves) (loader_first_posts media log ++ unless_tick e (loader_due media (loader_reading media log) e))
loader_moves_in_order moves_post_in_order media log e h = by e
  where
    r : LoaderReading
    r = loader_reading media log

    other : (e : Event) → IsNoTick e → AllInOrder (readings_after sides.Loader r.end (loader.loader_decision media (loader_view r) e).moves) (loader_first_posts media log ++ loader_due media r e)
    other e none =
        moves_post_in_order sides.Loader e r.end (loader.loader_decision media (loader_view r) e).moves (loader_first_posts media log) none (loader_moves_fit media (loader_view r) e).0 (loader_live media log) (loader_ports_stay media log).counts (loader_ports_stay media log).first h

    by : (e : Event) → AllInOrder (readings_after sides.Loader r.end (loader.loader_decision media (loader_view r) e).moves) (loader_first_posts media log ++ unless_tick e (loader_due media r e))
    by Ticks = tick_in_order sides.Loader r.end (loader.loader_decision media (loader_view r) Ticks).moves (loader_first_posts media log) (loader_at_tick (loader_view r).end (loader_view r).live) h
    by (Gets from to bytes) = other (Gets from to bytes) tt
    by (Learns size) = other (Learns size) tt
    by (Starts_info hw pos) = other (Starts_info hw pos) tt
    by (Starts_upload hw pos parts) = other (Starts_upload hw pos parts) tt

loader_in_order : MovesPostInOrder → (media : Media) (log : List Event) → AllInOrder (loader_reading media log).end (loader_first_posts media log)
loader_in_order in_order media [] = record { each = λ t a. absurd a; below = tt }
loader_in_order in_order media (e ∷ log) =
    let r = loader_reading media log in
    let d = loader.loader_decision media (loader_view r) e in
    subst (λ (x : Reading). AllInOrder x (loader_first_posts media (e ∷ log))) (sym (loader_end_stays (readings_after sides.Loader r.end d.moves) r d.change)) (loader_moves_in_order in_order media log e (loader_in_order in_order media log))

-- which transfer_end promises of all moves (`blocks_are_first_posted_in_order`)
pub loader_blocks_in_order : MovesPostInOrder → LoaderBlocksInOrder
loader_blocks_in_order in_order media log = (loader_in_order in_order media log).each

module _ (joins : SumsJoin) (moves_post_in_order : MovesPostInOrder) (accepts : Accepts) (first_port : ℕ) (active : StandingView) (above : 59 < first_port) where
  ports_fit : (log : List Event) → PortsFit (target_reading accepts first_port active log).end []
  ports_fit [] = record { counts = tt; first = above; below = tt; rise = tt }
  ports_fit (e ∷ log) = target_ports_stay accepts (target_reading accepts first_port active log) e [] (ports_fit log)

  target_moves_in_order : (log : List Event) (e : Event) → AllInOrder (target_reading accepts first_port active log).end (target_first_posts accepts first_port active log)
      → AllInOrder (readings_after sides.Target (target_reading accepts first_port active log).end (target.target_decision accepts (target_view (target_reading accepts first_port active log)) e).moves)
      (target_first_posts accepts first_port active log ++ unless_tick e (target_due accepts (target_reading accepts first_port active log) e))
  target_moves_in_order log e h = by e
    where
      r : TargetReading
      r = target_reading accepts first_port active log

      posts : List DatagramView
      posts = target_first_posts accepts first_port active log

      other : (e : Event) → IsNoTick e → AllInOrder (readings_after sides.Target r.end (target.target_decision accepts (target_view r) e).moves) (posts ++ target_due accepts r e)
      other e none =
          moves_post_in_order sides.Target e r.end (target.target_decision accepts (target_view r) e).moves posts none (target_moves_fit accepts (target_view r) e).0 (target_live joins accepts first_port active log) (ports_fit log).counts (ports_fit log).first h

      by : (e : Event) → AllInOrder (readings_after sides.Target r.end (target.target_decision accepts (target_view r) e).moves) (posts ++ unless_tick e (target_due accepts r e))
      by Ticks = tick_in_order sides.Target r.end (target.target_decision accepts (target_view r) Ticks).moves posts (target_at_tick (target_view r).end (target_view r).live) h
      by (Gets from to bytes) = other (Gets from to bytes) tt
      by (Learns size) = other (Learns size) tt
      by (Starts_info hw pos) = other (Starts_info hw pos) tt
      by (Starts_upload hw pos parts) = other (Starts_upload hw pos parts) tt

  target_in_order : (log : List Event) → AllInOrder (target_reading accepts first_port active log).end (target_first_posts accepts first_port active log)
  target_in_order [] = record { each = λ t a. absurd a; below = tt }
  target_in_order (e ∷ log) =
      let r = target_reading accepts first_port active log in
      let d = target.target_decision accepts (target_view r) e in
      subst (λ (x : Reading). AllInOrder x (target_first_posts accepts first_port active (e ∷ log))) (sym (target_end_stays accepts (readings_after sides.Target r.end d.moves) r d.change)) (target_moves_in_order log e (target_in_order log))

pub target_blocks_in_order : SumsJoin → MovesPostInOrder → TargetBlocksInOrder
target_blocks_in_order joins in_order accepts first_port active log above = (target_in_order joins in_order accepts first_port active above log).each

-- ---- one event more, after any posts

pub loader_step_in_order : MovesPostInOrder → (media : Media) (r : LoaderReading) (e : Event) (posts : List DatagramView) → IsLive r.end.live → PortsFit r.end [] → AllInOrder r.end posts
    → AllInOrder (loader_extended media r e).end (posts ++ unless_tick e (loader_due media r e))
loader_step_in_order in_order media r e posts live ports h =
    subst (λ (x : Reading). AllInOrder x (posts ++ unless_tick e (loader_due media r e))) (sym (loader_end_stays (readings_after sides.Loader r.end (loader.loader_decision media (loader_view r) e).moves) r (loader.loader_decision media (loader_view r) e).change)) (by e)
  where
    other : (e : Event) → IsNoTick e → AllInOrder (readings_after sides.Loader r.end (loader.loader_decision media (loader_view r) e).moves) (posts ++ loader_due media r e)
    other e none = in_order sides.Loader e r.end (loader.loader_decision media (loader_view r) e).moves posts none (loader_moves_fit media (loader_view r) e).0 live ports.counts ports.first h

    by : (e : Event) → AllInOrder (readings_after sides.Loader r.end (loader.loader_decision media (loader_view r) e).moves) (posts ++ unless_tick e (loader_due media r e))
    by Ticks = tick_in_order sides.Loader r.end (loader.loader_decision media (loader_view r) Ticks).moves posts (loader_at_tick (loader_view r).end (loader_view r).live) h
    by (Gets from to bytes) = other (Gets from to bytes) tt
    by (Learns size) = other (Learns size) tt
    by (Starts_info hw pos) = other (Starts_info hw pos) tt
    by (Starts_upload hw pos parts) = other (Starts_upload hw pos parts) tt

pub target_step_in_order : MovesPostInOrder → (accepts : Accepts) (r : TargetReading) (e : Event) (posts : List DatagramView) (former : List Transfer) → IsLive r.end.live → PortsFit r.end former → AllInOrder r.end posts
    → AllInOrder (target_extended accepts r e).end (posts ++ unless_tick e (target_due accepts r e))
target_step_in_order in_order accepts r e posts former live ports h =
    subst (λ (x : Reading). AllInOrder x (posts ++ unless_tick e (target_due accepts r e))) (sym (target_end_stays accepts (readings_after sides.Target r.end (target.target_decision accepts (target_view r) e).moves) r (target.target_decision accepts (target_view r) e).change)) (by e)
  where
    other : (e : Event) → IsNoTick e → AllInOrder (readings_after sides.Target r.end (target.target_decision accepts (target_view r) e).moves) (posts ++ target_due accepts r e)
    other e none = in_order sides.Target e r.end (target.target_decision accepts (target_view r) e).moves posts none (target_moves_fit accepts (target_view r) e).0 live ports.counts ports.first h

    by : (e : Event) → AllInOrder (readings_after sides.Target r.end (target.target_decision accepts (target_view r) e).moves) (posts ++ unless_tick e (target_due accepts r e))
    by Ticks = tick_in_order sides.Target r.end (target.target_decision accepts (target_view r) Ticks).moves posts (target_at_tick (target_view r).end (target_view r).live) h
    by (Gets from to bytes) = other (Gets from to bytes) tt
    by (Learns size) = other (Learns size) tt
    by (Starts_info hw pos) = other (Starts_info hw pos) tt
    by (Starts_upload hw pos parts) = other (Starts_upload hw pos parts) tt
