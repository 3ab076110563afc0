-- A quiet run leaves both ends idle.
use Rattle.std.proofs.Common.{◌≡◌, ℕ, false, List, [], ◌∷◌, Option, Some, None, refl, sym, ap, subst}
use Rattle.std.specs.Prelude.{is_some}
use Rattle.exchange_trace.specs.declared.trace.Side.TheVariants as sides
use Rattle.exchange_trace.specs.Happenings.{DatagramView}
use Rattle.exchange_trace.specs.Logs.{Event, event_for, loader_log}
use Rattle.exchange_trace.specs.Posts.{posted_in}
use Rattle.exchange_trace.specs.Steps.{Boot_refused, Came_up, Note, Step, Went_down}
use Rattle.transfer_end.specs.Readings.{Reading, kept_in}
use Rattle.transfer_end.specs.Transfers.{Transfer}
use Rattle.transfer_end.specs.Views.{seen}
use Rattle.session_rules.proofs.BufferLemmas.{SumsJoin}
use Rattle.session_rules.specs.Loader.{LoaderView}
use Rattle.session_rules.specs.LoaderLog.{LoaderReading, SessionLog, loader_reading, loader_view, session_view}
use Rattle.session_rules.specs.MediaFiles.{Media}
use Rattle.session_rules.specs.Target.{TargetView}
use Rattle.session_rules.proofs.TargetLemmas.{target_follows}
use Rattle.session_rules.specs.TargetLog.{TargetReading, TargetSessionLog, session_view as target_session_view, target_view}
use Rattle.session_rules.proofs.ViewLemmas.{loaders_follow}
use Rattle.replay_rules.specs.BothEnds.{Is_down, Is_up, Setting, TargetStanding, come_up, gone_down, loader_at, noted, reached, target_at, waits_in}
use Rattle.replay_rules.specs.FaultFree.{HasPorts, IsReadyFor}
use Rattle.replay_rules.specs.Histories.{active_in, setting_after, setting_from}
use Rattle.replay_rules.specs.PortTraces.{IsDrawnBefore, PortsStayApart, TargetIsApart}
use Rattle.replay_rules.proofs.TieLemmas.{HasLive, target_is_live}
use Rattle.replay_rules.specs.Ties.{kept_by}
use Rattle.session_completion.specs.Clean.{IsBelow, AreEndsIdle}
use Rattle.session_completion.specs.FaultFreeRuns.{QuietIsIdle}
use Rattle.session_completion.specs.Worlds.{World}
use Rattle.session_completion.proofs.Frees.{LoaderIsFree, TargetIsFree, loader_stays_free, target_stays_free}

-- ---- no transfer without a session, in a trace

log_is_free : (media : Media) (log : List Event) → LoaderIsFree (loader_view (loader_reading media log))
log_is_free media [] = λ e. refl
log_is_free media (e ∷ log) = subst (λ (v : LoaderView). LoaderIsFree v) (loaders_follow media log e) (loader_stays_free media (loader_view (loader_reading media log)) e (log_is_free media log))

abbrev StateIsFree : TargetStanding → Type 0
StateIsFree (Is_up r) = TargetIsFree (target_view r)
StateIsFree (Is_down active interrupted) = Unit {0}

module _ (joins : SumsJoin) (set : Setting) where
  reached_free : (e : Option Event) (state : TargetStanding) → HasLive state → StateIsFree state → StateIsFree (reached set e state)
  reached_free None (Is_up r) live free = free
  reached_free (Some e) (Is_up r) live free = subst (λ (v : TargetView). TargetIsFree v) (target_follows joins set.accepts r e live).0 (target_stays_free set.accepts (target_view r) e free)
  reached_free None (Is_down active interrupted) live free = tt
  reached_free (Some e) (Is_down active interrupted) live free = tt

  gone_free : (before after : TargetStanding) → StateIsFree (gone_down before after)
  gone_free (Is_up r) (Is_up s) = tt
  gone_free (Is_up r) (Is_down active interrupted) = tt
  gone_free (Is_down active interrupted) after = tt

  come_free : (port sequence : ℕ) (state : TargetStanding) → StateIsFree state → StateIsFree (come_up port sequence state)
  come_free port sequence (Is_up r) free = free
  come_free port sequence (Is_down active interrupted) free = λ e. refl

  noted_free : (notes : List Note) (before after : TargetStanding) → StateIsFree after → StateIsFree (noted notes before after)
  noted_free [] before after free = free
  noted_free (Went_down ∷ notes) before after free = noted_free notes (gone_down before after) (gone_down before after) (gone_free before after)
  noted_free (Came_up port sequence ∷ notes) before after free =
      noted_free notes (come_up port sequence (gone_down before after)) (come_up port sequence (gone_down before after)) (come_free port sequence (gone_down before after) (gone_free before after))
  noted_free (Boot_refused fault ∷ notes) before after free = noted_free notes (gone_down before after) (gone_down before after) (gone_free before after)

  trace_is_free : (steps : List Step) → StateIsFree (target_at set steps)
  trace_is_free [] = λ e. refl
  trace_is_free (s ∷ earlier) =
      noted_free s.notes (target_at set earlier) (reached set (event_for sides.Target (posted_in earlier) s.given) (target_at set earlier))
      (reached_free (event_for sides.Target (posted_in earlier) s.given) (target_at set earlier) (target_is_live joins set earlier) (trace_is_free earlier))

-- ---- both ends idle

none_so : {A : Type 0} (x : Option A) → is_some x ≡ false → x ≡ None
none_so None e = refl
none_so (Some x) e = absurd cc

no_session : (r : Reading) (live : Option SessionLog) → is_some live ≡ false → session_view r live ≡ None
no_session r live e = ap (λ (x : Option SessionLog). session_view r x) (none_so live e)

no_target_session : (r : TargetReading) (live : Option TargetSessionLog) → is_some live ≡ false → target_session_view r.end live ≡ None
no_target_session r live e = ap (λ (x : Option TargetSessionLog). target_session_view r.end x) (none_so live e)

kept_below : (port : ℕ) (kept : Option Transfer) → IsDrawnBefore port kept → IsBelow port (seen kept)
kept_below port None h = tt
kept_below port (Some t) h = h

abbrev world : LoaderView → TargetView → List DatagramView → World
world loader target posts = record { loader = loader; target = target; posts = posts }

idle_world : (set : Setting) (loader : LoaderReading) (state : TargetStanding) (ports : ℕ) (target : TargetView) → LoaderIsFree (loader_view loader) → StateIsFree state → TargetIsApart loader.end state
    → is_some loader.live ≡ false → waits_in state ≡ false → HasPorts loader.end ports → IsReadyFor state ports → Some target ≡ kept_by state → AreEndsIdle (setting_from set (active_in state)) ports (world (loader_view loader) target [])
idle_world set loader (Is_down active interrupted) ports target free state_free apart quiet target_quiet has ready is = absurd ready
idle_world set loader (Is_up r) ports target free state_free apart quiet target_quiet has ready is =
    subst (λ (v : TargetView). AreEndsIdle (setting_from set r.active) ports (world (loader_view loader) v [])) (sym view) (record {
      loader = no_session loader.end loader.live quiet;
      loader_free = free (no_session loader.end loader.live quiet);
      target = no_target_session r r.live target_quiet;
      target_free = state_free (no_target_session r r.live target_quiet);
      posts = refl;
      sequence = ready.0;
      loader_ports = has;
      target_ports = ready.1;
      loader_below = apart.loader_below;
      target_below = apart.target_below;
      loader_low = apart.loader_low;
      target_low = apart.target_low;
      loader_kept = kept_below _ (kept_in loader.end.past) apart.loader_kept;
      target_kept = kept_below _ (kept_in r.end.past) apart.target_kept;
      active = refl;
    })
  where
    view : target ≡ target_view r
    view = cc

pub quiet_is_idle : SumsJoin → PortsStayApart → QuietIsIdle
quiet_is_idle joins apart set steps ports w is quiet has ready none tied =
    let idle = idle_world set (loader_at set steps) (target_at set steps) ports w.target (log_is_free set.media (loader_log steps)) (trace_is_free joins set steps) (apart set steps is) quiet.loader quiet.target has ready tied.target_is in
    subst (λ (v : LoaderView). AreEndsIdle (setting_after set steps) ports (world v w.target w.posts)) (sym tied.loader_is)
    (subst (λ (ds : List DatagramView). AreEndsIdle (setting_after set steps) ports (world (loader_view (loader_at set steps)) w.target ds)) (sym none) idle)
