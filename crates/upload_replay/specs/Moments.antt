-- What the disk of a run holds, and what a power loss may leave of it at each moment (docs/EXCHANGE.md, "Runs"; docs/DISK.md).
use Rattle.std.specs.Prelude.{◌≡◌, ℕ, ◌≤◌, List, [], ◌∷◌, true, is_some, Option, Some, None, option_map, ⊤}
use Rattle.std.specs.Option.{ForSome}
use Rattle.bank_store.specs.Fits.{LosesOnlyWork}
use Rattle.disk_model.specs.Image.{Image}
use Rattle.disk_model.specs.Moments.{LeavesOnly}
use Rattle.disk_model.specs.State.{DiskState}
use Rattle.disk_layout.specs.Holds.{HoldsConfig, StandingView, standing_view}
use Rattle.disk_layout.specs.declared.standing.Standing.{Standing}
use Rattle.exchange_trace.specs.Steps.{Step}
use Rattle.replay_rules.specs.BothEnds.{Setting, TargetStanding, target_at}
use Rattle.replay_rules.specs.Histories.{active_by, may_be_active}
use Rattle.replay_rules.specs.Promises.{AllMoments, HoldsOneOf}
use Rattle.run_promises.specs.Promises.{HoldsFirstOrGood}
use Rattle.target_machine.specs.Decisions as machine
use Rattle.replay_turns.specs.StepsOnDisks.{BootIsTold, HoldsRun}

-- ---- what is noted of a boot

abbrev pub AllBootsAreTold : Setting → List Step → Type 0
AllBootsAreTold set [] = ⊤
AllBootsAreTold set (s ∷ earlier) = BootIsTold (target_at set (s ∷ earlier)) s.notes × AllBootsAreTold set earlier

-- The disk tells its content, and each image that a power loss may leave now, or might have left since, holds what was active
-- at the start, or a configuration of which each load was active then or is checked, and one is checked.
pub record LeavesGood (set : Setting) (since : ℕ) (disk : DiskState) : Type 0 where
  pub tells : is_some disk.reads ≡ true
  pub only : LeavesOnly since (HoldsFirstOrGood set) disk

-- ---- step by step

-- clocks of a disk at which steps began, the newest first
abbrev pub Clocks : Type 0
Clocks = List ℕ

-- These are the clocks of the disk at which the steps began, the newest first, for steps that began at one clock and ended at
-- another.
abbrev pub AreClocks : (since end : ℕ) → (clocks : List ℕ) → List Step → Type 0
AreClocks since end clocks [] = end ≡ since
AreClocks since end [] (s ∷ earlier) = ⊥
AreClocks since end (clock ∷ clocks) (s ∷ earlier) = (clock ≤ end) × AreClocks since clock clocks earlier

-- Steps that began at these clocks, on a disk that holds what they say, and held at each moment what was active then.
pub record HeldSoFar {R : Type 0} (set : Setting) (since : ℕ) (clocks : List ℕ) (steps : List Step) (target : Option (machine.TargetState R)) (disk : DiskState) : Type 0 where
  pub holds : HoldsRun set (target_at set steps) target disk
  pub timed : AreClocks since disk.clock clocks steps
  pub boots : AllBootsAreTold set steps
  pub moments : AllMoments disk.between set disk.clock clocks steps

-- ---- a whole run

-- Where a configuration was recovered at the end, the disk holds nothing else; otherwise one that may be active then.
abbrev pub LeftAtEnd : TargetStanding → Option StandingView → Image → Type 0
LeftAtEnd state None image = HoldsOneOf (may_be_active state) image
LeftAtEnd state (Some standing) image = HoldsConfig image standing

-- From this clock on, each image that a power loss might have left at a moment holds the configuration that was active then:
-- step by step, by the clocks at which the steps began, and from the end of the last step on. What is noted of a boot is true
-- of the disk, and what is recovered at the end was active.
pub record HoldsThroughout (set : Setting) (steps : List Step) (standing : Option StandingView) (since : ℕ) (clocks : List ℕ) (new : DiskState) : Type 0 where
  pub end : ℕ
  pub timed : AreClocks since end clocks steps
  pub boots : AllBootsAreTold set steps
  pub moments : AllMoments new.between set end clocks steps
  pub after : (u : ℕ) (image : Image) → new.between end u image → HoldsOneOf (may_be_active (target_at set steps)) image
  pub left : (image : Image) → new.now image → LeftAtEnd (target_at set steps) standing image
  pub active : ForSome standing (λ s. active_by (target_at set steps) (Some s) ≡ s)

-- The disk of a unit that came to its end so held at each moment what was active then, and is at rest where it is known what was
-- recovered.
pub record HoldsToEnd (set : Setting) (steps : List Step) (standing : Option Standing) (since : ℕ) (clocks : Clocks) (new : DiskState) : Type 0 where
  pub moments : HoldsThroughout set steps (option_map standing_view standing) since clocks new
  pub rests : is_some standing ≡ true → LosesOnlyWork new

-- so it is from the start of a call to its return, by the clocks at which its steps began
abbrev pub HoldsAllAlong : Setting → List Step → Option StandingView → (old new : DiskState) → Type 0
HoldsAllAlong set steps standing old new = (clocks : List ℕ) × HoldsThroughout set steps standing old.clock clocks new
