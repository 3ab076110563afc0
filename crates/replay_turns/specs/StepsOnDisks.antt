-- What the disk of a target holds in a step, and what a power loss may leave of it (docs/EXCHANGE.md, "Runs"; docs/DISK.md).
use Rattle.std.specs.Prelude.{◌≡◌, ◌⊎◌, ℕ, ◌<◌, ◌≤◌, List, [], ◌∷◌, ◌++◌, Bool, true, false, ◌==◌, is_some, Option, Some, None, Result, IfOk, ⊤}
use Rattle.disk_model.specs.Image.{Image}
use Rattle.disk_model.specs.State.{DiskState, IsSettled}
use Rattle.disk_layout.specs.Holds.{HoldsConfig, StandingView}
use Rattle.disk_layout.specs.declared.fault.RecoverFault.TheVariants.{DiskFailed}
use Rattle.load_header.specs.declared.header.LoadHeader.{LoadHeader}
use Rattle.accept_rules.specs.declared.kept.KeptLoad.{KeptLoad}
use Rattle.exchange_trace.specs.Logs.{Event}
use Rattle.exchange_trace.specs.Steps.{Boot_refused, Came_up, Note}
use Rattle.accept_rules.specs.Permissions.{Accepts}
use Rattle.session_rules.specs.Contents.{AreKept, TargetContents, contents_after, contents_of}
use Rattle.session_rules.specs.Target.{TargetView}
use Rattle.load_intake.specs.Contents.{AddsAtFirst}
use Rattle.replay_rules.specs.BothEnds.{Is_down, Is_up, Setting, TargetStanding, noted, reached}
use Rattle.replay_rules.specs.ContentTraces.{ContentsFollowAt}
use Rattle.replay_rules.specs.Histories.{active_in, may_be_active}
use Rattle.replay_rules.specs.Promises.{HoldsOneOf}
use Rattle.replay_rules.specs.Ties.{kept_by}
use Rattle.target_machine.specs.Decisions as machine
use Rattle.target_machine.specs.Disks.{HoldsContents}
use Rattle.replay_turns.specs.Turns.{RuleFollows, target_kept}

-- ---- what the disk holds between two steps

-- what an installation that was interrupted would make active has another sequence number
abbrev pub AreApart : TargetStanding → Type 0
AreApart (Is_down active (Some new)) = (active.sequence == new.sequence) ≡ false
AreApart state = ⊤

-- a target that is up works on a disk that holds what its log says
abbrev pub WorksOn : {R : Type 0} → Setting → TargetStanding → Option (machine.TargetState R) → DiskState → Type 0
WorksOn set (Is_up r) (Some t) disk = HoldsContents t.store disk (contents_of r)
WorksOn set state target disk = ⊤

-- The target keeps what its log says, and its disk tells its content: a power loss leaves a configuration that may be active,
-- and a target that is up works on it.
pub record HoldsRun {R : Type 0} (set : Setting) (state : TargetStanding) (target : Option (machine.TargetState R)) (disk : DiskState) : Type 0 where
  pub kept : target_kept target ≡ kept_by state
  pub tells : is_some disk.reads ≡ true
  pub leaves : (image : Image) → disk.now image → HoldsOneOf (may_be_active state) image
  pub works : WorksOn set state target disk
  pub apart : AreApart state

-- a target keeps these contents, its disk holds them, and a power loss leaves what is active
pub record HasContents {R : Type 0} (target : machine.TargetState R) (disk : DiskState) (c : TargetContents) : Type 0 where
  pub kept : AreKept c target.view
  pub holds : HoldsContents target.store disk c
  pub alone : (left : Image) → disk.now left → HoldsConfig left c.active

-- ---- what is noted of a boot

-- A target that comes up tells the sequence number of what is active then, and a boot is refused only where the disk failed.
abbrev pub BootIsTold : TargetStanding → List Note → Type 0
BootIsTold state (Came_up first_port sequence ∷ []) = sequence ≡ (active_in state).sequence
BootIsTold state (Boot_refused fault ∷ []) = fault ≡ DiskFailed
BootIsTold state notes = ⊤

-- the disk holds the run after a boot, of which this is noted
pub record HasBooted {R : Type 0} (set : Setting) (state : TargetStanding) (notes : List Note) (target : Option (machine.TargetState R)) (disk : DiskState) : Type 0 where
  pub holds : HoldsRun set state target disk
  pub boots : BootIsTold state notes

-- ---- what a step adds

-- what there is at the target then, by what reaches it, if anything does
abbrev pub contents_then : Accepts → TargetView → Option Event → TargetContents → TargetContents
contents_then accepts v None c = c
contents_then accepts v (Some e) c = contents_after accepts v e c

-- the image holds the same configuration as one that a power loss might leave before
pub record HoldsAsBefore (disk : DiskState) (image : Image) : Type 0 where
  pub before : Image
  pub left : disk.now before
  pub active : StandingView
  pub held : HoldsConfig before active
  pub holds : HoldsConfig image active

-- Time goes on over a step. It adds only images that hold what may be active before it, or once this reached the target; and
-- at the clock at which it began only such as hold what a power loss might leave before.
pub record AddsInStep (set : Setting) (e : Option Event) (state : TargetStanding) (old new : DiskState) : Type 0 where
  pub tells : is_some new.reads ≡ is_some old.reads
  pub later : old.clock ≤ new.clock
  pub each : (t u : ℕ) (image : Image) → new.between t u image → old.between t u image ⊎ HoldsOneOf (may_be_active state ++ may_be_active (reached set e state)) image
  pub here : (image : Image) → new.now image → HoldsOneOf (may_be_active state ++ may_be_active (reached set e state)) image
  pub first : AddsAtFirst old new (HoldsAsBefore old)
  pub earlier : (t u : ℕ) (image : Image) → u < old.clock → new.between t u image → old.between t u image

-- a step begins, in which the interlock accepts the loads of the setting
pub record BeginsStep {R : Type 0} (may_say : R → LoadHeader → List KeptLoad → Bool → Type 0) (set : Setting) (state : TargetStanding) (target : Option (machine.TargetState R)) (disk : DiskState) : Type 0 where
  pub rule : RuleFollows may_say set.accepts target
  pub follow : ContentsFollowAt set state
  pub holds : HoldsRun set state target disk

-- What a step in which this reaches the target adds, whatever is answered; and with Ok, where this was noted of it, the disk
-- holds the run as it is then.
pub record StepsOn {R T E : Type 0} (set : Setting) (e : Option Event) (state : TargetStanding) (target : Option (machine.TargetState R)) (notes : T → List Note) (old new : DiskState) (result : Result T E) : Type 0 where
  pub adds : AddsInStep set e state old new
  pub holds : IfOk result (λ x. HoldsRun set (noted (notes x) state (reached set e state)) target new)
  pub boots : IfOk result (λ x. BootIsTold (noted (notes x) state (reached set e state)) (notes x))

-- ---- a target that is switched off and on

-- Time goes on, and a power loss leaves nothing that it couldn't have left before.
pub record LeavesNoMore (old new : DiskState) : Type 0 where
  pub tells : is_some new.reads ≡ is_some old.reads
  pub later : old.clock ≤ new.clock
  pub each : (t u : ℕ) (image : Image) → new.between t u image → old.between t u image ⊎ old.now image
  pub now : (image : Image) → new.now image → old.now image
  pub earlier : (t u : ℕ) (image : Image) → u < old.clock → new.between t u image → old.between t u image

-- Switched off and on, a disk is restarted and then read, and nothing else: a power loss leaves nothing that it couldn't have
-- left before, and where the disk runs then, one image alone. So a boot neither finishes an installation that was interrupted
-- nor takes one back.
pub record Reboots (old new : DiskState) : Type 0 where
  pub no_more : LeavesNoMore old new
  pub settles : (new.stopped ≡ true) ⊎ IsSettled new
