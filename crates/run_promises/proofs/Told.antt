-- Proofs that each session of a run whose outcome comes from a file ended in one of its steps, once those before it had.
use Rattle.std.proofs.Common.{◌≡◌, ◌⊎◌, inl, inr, List, [], ◌∷◌, ◌++◌, Option, Some, None, sym, ap, subst, ◌∙◌, append_assoc}
use Rattle.std.specs.Prelude.{reverse}
use Rattle.std.proofs.lemmas.List.{reverse-append, reverse-reverse}
use Rattle.exchange_trace.specs.Steps.{Step}
use Rattle.session_rules.specs.Loader.{EndedSession, LoaderSession}
use Rattle.session_rules.specs.LoaderLog.{loader_view}
use Rattle.loader_machine.specs.Machine.{all_sessions, open_session, open_sessions}
use Rattle.replay_rules.specs.BothEnds.{Setting, loader_at}
use Rattle.replay_rules.specs.Causes.{IsOutcomeOfFile, SessionsEndInSteps}
use Rattle.run_promises.specs.Promises.{EndsIn}

module _ (session : EndedSession) (of_file : IsOutcomeOfFile session.outcome) where
  none_yet : (older newer : List EndedSession) → [] ≡ newer ++ session ∷ older → ⊥
  none_yet older [] is = absurd cc
  none_yet older (x ∷ newer) is = absurd cc

  -- ---- among all sessions

  -- it stands among the first of these, or among the others
  abbrev StandsEither : (before xs ys : List EndedSession) → Type 0
  StandsEither before xs ys = ((later : List EndedSession) × (xs ≡ before ++ session ∷ later)) ⊎ ((more later : List EndedSession) × (ys ≡ more ++ session ∷ later))

  in_either : (before xs ys after : List EndedSession) → xs ++ ys ≡ before ++ session ∷ after → StandsEither before xs ys
  in_either before [] ys after is = inr (before, after, is)
  in_either [] (x ∷ xs) ys after is = let same : x ≡ session = cc in inl (xs, ap (λ (y : EndedSession). y ∷ xs) same)
  in_either (b ∷ before) (x ∷ xs) ys after is =
      let same : x ≡ b = cc in
      let rest : xs ++ ys ≡ before ++ session ∷ after = cc in
      elim (in_either before xs ys after rest) [
        | inl first ↦ inl (first.0, rw same (ap (λ (list : List EndedSession). b ∷ list) first.1))
        | inr second ↦ inr second
      ]

  not_open : (live : Option LoaderSession) (more later : List EndedSession) → open_sessions live ≡ more ++ session ∷ later → ⊥
  not_open None more later is = none_yet later more is
  not_open (Some s) [] later is =
      let same : open_session s ≡ session = cc in subst (λ (x : EndedSession). IsOutcomeOfFile x.outcome) (sym same) of_file
  not_open (Some s) (x ∷ more) later is = none_yet later more (cc)

  turned : (ended before later : List EndedSession) → reverse ended ≡ before ++ session ∷ later → (newer : List EndedSession) × (ended ≡ newer ++ session ∷ reverse before)
  turned ended before later is = (
    reverse later,
    sym (reverse-reverse ended) ∙ (ap reverse is ∙ (reverse-append before (session ∷ later) ∙ (ap (λ (list : List EndedSession). list ++ reverse before) (reverse-append (session ∷ []) later) ∙ append_assoc (reverse later) (session ∷ []) (reverse before)))),
  )

  -- each session of a run whose outcome comes from a file ended in one of its steps
  pub told_ended : SessionsEndInSteps → (set : Setting) (steps : List Step) (before after : List EndedSession) → all_sessions (loader_view (loader_at set steps)) ≡ before ++ session ∷ after → EndsIn set steps before session
  told_ended ends set steps before after place = by (in_either before (reverse (loader_at set steps).ended) (open_sessions (loader_view (loader_at set steps)).live) after place)
    where
      by : StandsEither before (reverse (loader_at set steps).ended) (open_sessions (loader_view (loader_at set steps)).live) → EndsIn set steps before session
      by (inl first) =
          let (newer, is) = turned (loader_at set steps).ended before first.0 first.1 in
          let e = ends set steps newer session (reverse before) is of_file in
          record { since = e.since; step = e.step; earlier = e.earlier; split = e.split; others = e.others; ends = e.ends }
      by (inr second) = absurd (not_open (loader_view (loader_at set steps)).live second.0 second.1 second.2)
