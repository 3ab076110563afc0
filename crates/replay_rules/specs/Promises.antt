-- What is to be promised of a run, part by part (docs/PROMISES.md). These are statements; a promise is kept once a public
-- call has it as a clause.
use Rattle.std.specs.Prelude.{◌≡◌, ◌⊎◌, ℕ, List, [], ◌∷◌, ◌++◌, map, Option, Some, None, ⊤}
use Rattle.std.specs.List.{AllByRecursion}
use Rattle.load_base.specs.Config.{LoadView}
use Rattle.disk_model.specs.Image.{Image}
use Rattle.disk_layout.specs.Holds.{StandingView, HoldsConfig}
use Rattle.exchange_trace.specs.Happenings.{HappeningView, Ended}
use Rattle.exchange_trace.specs.Following.{Turn, goes_on}
use Rattle.exchange_trace.specs.Lines.{Line, Finish}
use Rattle.exchange_trace.specs.Steps.{Step}
use Rattle.session_rules.specs.declared.outcome.Outcome.TheVariants.{Completed}
use Rattle.session_rules.specs.declared.outcome.SessionKind.{SessionKind}
use Rattle.session_rules.specs.Loader.{EndedSession}
use Rattle.session_rules.specs.NewConfigs.{AreOfMedia}
use Rattle.session_rules.specs.TargetRows.{WholeRow, Writes_lcl}
use Rattle.session_rules.specs.TargetLog.{TargetSessionLog}
use Rattle.replay_rules.specs.BothEnds.{Setting, TargetStanding, Is_up, Is_down, loader_at, target_at}
use Rattle.replay_rules.specs.Due.{AllDue, AllNoted}
use Rattle.replay_rules.specs.FaultFree.{NothingInjected}
use Rattle.replay_rules.specs.Histories.{IsMadeOf, brings, may_be_active}
use Rattle.replay_rules.specs.Runs.{plan_at, scene_at}

-- ---- the trace is what happened, and each end posts exactly what is due

abbrev pub IsNoEnd : HappeningView → Type 0
IsNoEnd Ended = ⊥
IsNoEnd h = ⊤

-- the end comes last, and once
abbrev pub EndsOnce : List Step → Type 0
EndsOnce [] = ⊥
EndsOnce (s ∷ earlier) = (s.given ≡ Ended) × AllByRecursion (λ (e : Step). IsNoEnd e.given) earlier

pub record IsTrace (set : Setting) (steps : List Step) : Type 0 where
  pub ends : EndsOnce steps
  pub due : AllDue set steps
  pub noted : AllNoted set steps

-- ---- what is installed are the media set's files

abbrev pub BroughtIsOfMedia : Setting → (before : TargetStanding) → Option StandingView → List Step → Type 0
BroughtIsOfMedia set before None steps = ⊤
BroughtIsOfMedia set before (Some s) steps = NothingInjected steps → IsMadeOf before (AreOfMedia set.media) s

-- what a step brings, but for the loads that are kept, where nothing was injected
abbrev pub AllOfMedia : Setting → List Step → Type 0
AllOfMedia set [] = ⊤
AllOfMedia set (s ∷ earlier) = BroughtIsOfMedia set (target_at set earlier) (brings set s earlier) (s ∷ earlier) × AllOfMedia set earlier

-- ---- a list is due

abbrev pub WritesList : WholeRow → Type 0
WritesList Writes_lcl = ⊤
WritesList row = ⊥

abbrev pub SessionWritesList : Option TargetSessionLog → Type 0
SessionWritesList None = ⊥
SessionWritesList (Some s) = WritesList s.row

abbrev pub ListIsDue : TargetStanding → Type 0
ListIsDue (Is_up r) = SessionWritesList r.live
ListIsDue (Is_down active interrupted) = ⊥

-- ---- completed means installed

-- these loads have the parts that were asked for, in their order
abbrev pub HavePartsAsked : List (List ℕ) → List LoadView → Type 0
HavePartsAsked parts loads = map (λ (load : LoadView). load.part) loads ≡ parts

-- the newest session that ended is a completed one of this kind
abbrev pub HasCompleted : SessionKind → List EndedSession → Type 0
HasCompleted kind [] = ⊥
HasCompleted kind (s ∷ earlier) = (s.kind ≡ kind) × (s.outcome ≡ Completed)

-- a session ended in the newest step
abbrev pub HasEnded : Setting → Step → List Step → Type 0
HasEnded set s earlier = (e : EndedSession) × ((loader_at set (s ∷ earlier)).ended ≡ e ∷ (loader_at set earlier).ended)

-- ---- at every moment the old configuration or the complete new one

-- the image holds one of these
abbrev pub HoldsOneOf : List StandingView → Image → Type 0
HoldsOneOf [] image = ⊥
HoldsOneOf (s ∷ others) image = HoldsConfig image s ⊎ HoldsOneOf others image

-- Each image of the moments of a step, from the disk's clock at which it began to the one at which the next step began,
-- holds what may be active before the step or after it, and at its last clock what may be active after it. The clocks are
-- those of the steps, the newest first; that of the trace's end stands before them.
abbrev pub AllMoments : (between : ℕ → ℕ → Image → Type 0) → Setting → (end : ℕ) → (clocks : List ℕ) → List Step → Type 0
AllMoments between set end clocks [] = ⊤
AllMoments between set end [] (s ∷ earlier) = ⊥
AllMoments between set end (clock ∷ clocks) (s ∷ earlier) =
    ((image : Image) → between clock end image → HoldsOneOf (may_be_active (target_at set earlier) ++ may_be_active (target_at set (s ∷ earlier))) image)
    × ((image : Image) → between end end image → HoldsOneOf (may_be_active (target_at set (s ∷ earlier))) image)
    × AllMoments between set clock clocks earlier

-- ---- a run that is left to `finish`

abbrev pub NoneGoesDown : List Step → Type 0
NoneGoesDown steps = AllByRecursion (λ (s : Step). s.notes ≡ []) steps

-- only the line `finish` is left of the script
abbrev pub OnlyFinishIsLeft : Setting → List Line → List Step → Type 0
OnlyFinishIsLeft set script steps =
    ((plan_at set script steps).lines ≡ Finish ∷ [])
    × (◌≡◌ {A = Option Turn} (goes_on (scene_at set steps) (plan_at set script steps).rest (plan_at set script steps).lines) None)
