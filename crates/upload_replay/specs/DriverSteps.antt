-- One step of a driver, and what it does to its disk (docs/EXCHANGE.md, "Runs").
use Rattle.std.specs.Prelude.{◌≡◌, ℕ, ◌∷◌, Bool, List}
use Rattle.accept_rules.specs.Permissions.{Accepts}
use Rattle.accept_rules.specs.declared.kept.KeptLoad.{KeptLoad}
use Rattle.disk_model.specs.State.{DiskState}
use Rattle.exchange_trace.specs.declared.trace.Side.TheVariants as sides
use Rattle.exchange_trace.specs.Happenings.{Booted, DatagramView, HappeningView}
use Rattle.exchange_trace.specs.Logs.{event_for}
use Rattle.exchange_trace.specs.Posts.{IsHonest, posted_in}
use Rattle.load_header.specs.declared.header.LoadHeader.{LoadHeader}
use Rattle.replay_rules.specs.BothEnds.{Setting, target_at}
use Rattle.replay_rules.specs.Changes.{InjectsBytes}
use Rattle.replay_rules.specs.Promises.{IsNoEnd}
use Rattle.replay_turns.specs.Powers.{ArmsBy}
use Rattle.replay_turns.specs.StepsOnDisks.{AddsInStep, HoldsRun, Reboots}
use Rattle.replay_turns.specs.Turns.{RunsWhileUp}
use Rattle.upload_replay.specs.Drivers.{DriverState, GoesOn, HoldsUnit, IsTiedTo, StandsOn, StepsUnit}
use Rattle.upload_replay.specs.Drives.{NeverBoots}
use Rattle.upload_replay.specs.Lives.{LivesOn}
use Rattle.upload_replay.specs.Moments.{Clocks}

-- A unit may step: it goes on, its disk runs while its target is up, and what happens can happen there.
pub record CanStep {R : Type 0} (h : HappeningView) (d : DriverState R) (disk : DiskState) : Type 0 where
  pub goes_on : GoesOn d
  pub running : RunsWhileUp d.target disk
  pub no_end : IsNoEnd h
  pub honest : IsHonest (posted_in d.steps) h

-- A unit stepped, and all that held of it and of its disk holds with one step more.
pub record TakesStep {R : Type 0} (may_say : R → LoadHeader → List KeptLoad → Bool → Type 0) (h : HappeningView) (posts : List DatagramView) (before after : DriverState R) (old new : DiskState) : Type 0 where
  pub stepped : StepsUnit h posts before after old new
  pub lives : (accepts : Accepts) → LivesOn may_say accepts before → LivesOn may_say accepts after
  pub stands : (set : Setting) → StandsOn may_say set before → StandsOn may_say set after
  pub tied : (set : Setting) → StandsOn may_say set before → (NeverBoots before.steps → IsTiedTo set before) → NeverBoots after.steps → IsTiedTo set after
  pub held : (set : Setting) (since : ℕ) (clocks : Clocks) → StandsOn may_say set before → HoldsUnit set since clocks before old
      → HoldsUnit set since (old.clock ∷ clocks) after new

-- What a step does to its unit's disk, whatever it answers.
pub record ActsOnDisk {R : Type 0} (may_say : R → LoadHeader → List KeptLoad → Bool → Type 0) (h : HappeningView) (before : DriverState R) (old new : DiskState) : Type 0 where
  pub arms : ArmsBy h old new
  pub reboots : h ≡ Booted → Reboots old new
  pub injects : InjectsBytes h
  pub adds : (set : Setting) → StandsOn may_say set before → HoldsRun set (target_at set before.steps) before.target old
      → AddsInStep set (event_for sides.Target (posted_in before.steps) h) (target_at set before.steps) old new
