-- Proofs that each session whose outcome comes from a file ended in a step of its run, once those before it had.
use Rattle.std.proofs.Common.{◌≡◌, ◌⊎◌, inl, inr, List, [], ◌∷◌, ◌++◌, Option, Some, None, refl, sym, ap, subst}
use Rattle.exchange_trace.specs.declared.trace.Side.TheVariants as sides
use Rattle.exchange_trace.specs.Logs.{Event, event_for, logged, loader_log}
use Rattle.exchange_trace.specs.Posts.{posted_in}
use Rattle.exchange_trace.specs.Steps.{Step}
use Rattle.transfer_end.specs.Moves.{Move, readings_after}
use Rattle.transfer_end.specs.Readings.{Reading}
use Rattle.session_rules.specs.Loader.{Advances, Begins, Begins_over, Continues, EndedSession, Ends, LoaderChange, loader_decision}
use Rattle.session_rules.specs.LoaderLog.{LoaderReading, SessionLog, loader_reading, loader_reading_changed, loader_view}
use Rattle.session_rules.specs.MediaFiles.{Media}
use Rattle.replay_rules.specs.BothEnds.{Setting, loader_at}
use Rattle.replay_rules.specs.Causes.{EndedInStep, IsOutcomeOfFile, SessionsEndInSteps}
use Rattle.replay_rules.proofs.FileEnds.{FitsFile, decision_fits}

-- ---- what an event ends

module _ (session : EndedSession) (of_file : IsOutcomeOfFile session.outcome) where
  -- a session whose outcome comes from no file is another
  other : (A : Type 0) (x : EndedSession) → (IsOutcomeOfFile x.outcome → ⊥) → x ≡ session → A
  other A x not is = absurd (not (subst (λ (y : EndedSession). IsOutcomeOfFile y.outcome) (sym is) of_file))

  -- it stands here among those that ended, the newest first
  abbrev StandsIn : (older ended : List EndedSession) → Type 0
  StandsIn older ended = (newer : List EndedSession) × (ended ≡ newer ++ session ∷ older)

  -- so it did before, or it ended now, when the older ones had
  abbrev EndsNow : (older ended then : List EndedSession) → Type 0
  EndsNow older ended then = StandsIn older ended ⊎ ((ended ≡ older) × (then ≡ session ∷ older))

  one_more : (older ended : List EndedSession) (x : EndedSession) (newer : List EndedSession) → x ∷ ended ≡ newer ++ session ∷ older → StandsIn older ended ⊎ ((x ≡ session) × (ended ≡ older))
  one_more older ended x [] is = inr (cc, cc)
  one_more older ended x (y ∷ newer) is = inl (newer, cc)

  by_change : (end : Reading) (r : LoaderReading) (moves : List Move) (change : LoaderChange) (older : List EndedSession) → FitsFile r.end r.live moves change → StandsIn older (loader_reading_changed end r change).ended
      → EndsNow older r.ended (loader_reading_changed end r change).ended
  by_change end r moves change older fits stands = cases r.live change fits stands
    where
      replaced : (s : SessionLog) (x : EndedSession) → (IsOutcomeOfFile x.outcome → ⊥) → StandsIn older (x ∷ r.ended) → StandsIn older r.ended
      replaced s x not (newer, is) = elim (one_more older r.ended x newer is) [ inl before ↦ before | inr now ↦ other (StandsIn older r.ended) x not now.0 ]

      cases : (live : Option SessionLog) (change : LoaderChange) → FitsFile r.end live moves change → StandsIn older (loader_reading_changed end (record { end = r.end; live = live; ended = r.ended }) change).ended
          → EndsNow older r.ended (loader_reading_changed end (record { end = r.end; live = live; ended = r.ended }) change).ended
      cases live (Continues more) fits stands = inl stands
      cases live Advances fits stands = inl stands
      cases None (Ends outcome more) fits stands = inl stands
      cases (Some s) (Ends outcome more) fits (newer, is) = elim (one_more older r.ended _ newer is) [
        | inl before ↦ inl before
        | inr now ↦ inr (now.1, rw (now.0, now.1) refl)
      ]
      cases None (Begins start) fits stands = inl stands
      cases (Some s) (Begins start) fits stands = inl (replaced s _ (λ f. f) stands)
      cases None (Begins_over kind outcome) fits (newer, is) = elim (one_more older r.ended _ newer is) [ inl before ↦ inl before | inr now ↦ other (EndsNow older r.ended _) _ fits now.0 ]
      cases (Some s) (Begins_over kind outcome) fits (newer, is) = elim (one_more older (_ ∷ r.ended) _ newer is) [
        | inl before ↦ inl (replaced s _ (λ f. f) before)
        | inr now ↦ other (EndsNow older r.ended _) _ fits now.0
      ]

  by_event : (media : Media) (log : List Event) (e : Event) (older : List EndedSession) → StandsIn older (loader_reading media (e ∷ log)).ended → EndsNow older (loader_reading media log).ended (loader_reading media (e ∷ log)).ended
  by_event media log e older stands =
      let r = loader_reading media log in
      let d = loader_decision media (loader_view r) e in
      by_change (readings_after sides.Loader r.end d.moves) r d.moves d.change older (decision_fits media r.end r.live r.ended e) stands

  by_logged : (media : Media) (log : List Event) (e : Option Event) (older : List EndedSession) → StandsIn older (loader_reading media (logged e log)).ended
      → EndsNow older (loader_reading media log).ended (loader_reading media (logged e log)).ended
  by_logged media log None older stands = inl stands
  by_logged media log (Some e) older stands = by_event media log e older stands

  -- ---- in which step it ended

  none_yet : (older newer : List EndedSession) → [] ≡ newer ++ session ∷ older → ⊥
  none_yet older [] is = absurd cc
  none_yet older (x ∷ newer) is = absurd cc

  ended_in : (set : Setting) (steps : List Step) (older : List EndedSession) → StandsIn older (loader_at set steps).ended → EndedInStep set steps session older
  ended_in set [] older (newer, is) = absurd (none_yet older newer is)
  ended_in set (s ∷ earlier) older stands = by (ended_in set earlier older) (by_logged set.media (loader_log earlier) (event_for sides.Loader (posted_in earlier) s.given) older stands)
    where
      by : (StandsIn older (loader_at set earlier).ended → EndedInStep set earlier session older) → EndsNow older (loader_at set earlier).ended (loader_at set (s ∷ earlier)).ended → EndedInStep set (s ∷ earlier) session older
      by before (inl then) =
          let e = before then in
          record { since = s ∷ e.since; step = e.step; earlier = e.earlier; split = ap (λ (list : List Step). s ∷ list) e.split; others = e.others; ends = e.ends }
      by before (inr now) = record { since = []; step = s; earlier = earlier; split = refl; others = now.0; ends = now.1 }

pub sessions_end_in_steps : SessionsEndInSteps
sessions_end_in_steps set steps newer session before is of_file = ended_in session of_file set steps before (newer, is)
