-- What a step does to both ends (docs/EXCHANGE.md, "Runs").
use Rattle.std.specs.Prelude.{◌≡◌, ◌⊎◌, ℕ, ◌≤◌, List, [], ◌∷◌, ◌++◌, Bool, is_some, length, Option}
use Rattle.std.specs.List.{AllByRecursion}
use Rattle.disk_model.specs.State.{DiskState}
use Rattle.exchange_trace.specs.declared.trace.Side.TheVariants as sides
use Rattle.exchange_trace.specs.Happenings.{Booted, DatagramView, HappeningView}
use Rattle.exchange_trace.specs.Logs.{event_for}
use Rattle.exchange_trace.specs.Posts.{first_port_after, posted_in}
use Rattle.exchange_trace.specs.Steps.{Note, Step}
use Rattle.load_header.specs.declared.header.LoadHeader.{LoadHeader}
use Rattle.accept_rules.specs.declared.kept.KeptLoad.{KeptLoad}
use Rattle.loader_machine.specs.Machine.{LoaderState}
use Rattle.replay_rules.specs.BothEnds.{Setting, TargetStanding, noted, reached}
use Rattle.replay_rules.specs.Changes.{CarriesBytes, InjectsBytes}
use Rattle.replay_rules.specs.Due.{IsBooted, LeavesPower, MayBeNoted}
use Rattle.target_machine.specs.Decisions as machine
use Rattle.replay_turns.specs.Powers.{ArmsBy, RoseBy, stops_in, stops_noted}
use Rattle.replay_turns.specs.StepsOnDisks.{BeginsStep, BootIsTold, HoldsRun, Reboots}
use Rattle.replay_turns.specs.Targets.{ComesOutOfBoot, IsNoBoot, TargetLives, TargetSpeaks, TargetTurns}
use Rattle.replay_turns.specs.Turns.{LoaderTakes, RunsWhileUp, target_kept}

-- ---- the target in a step

-- A happening may reach a target: it leaves its power, and its disk runs while it is up.
pub record CanReach {R : Type 0} (h : HappeningView) (target : Option (machine.TargetState R)) (disk : DiskState) : Type 0 where
  pub power : LeavesPower h
  pub running : RunsWhileUp target disk

-- What a target posts in a step, and what is noted of it, whatever is known of its disk: it is silent where nothing reaches it;
-- only that is noted which may be; its disk runs while it is up, and counted a fault where it stopped.
pub record TurnsTarget {R : Type 0} (h : HappeningView) (first_port : ℕ) (posts : List DatagramView) (notes : List Note) (target target_then : Option (machine.TargetState R)) (old new : DiskState) : Type 0 where
  pub silent : (TargetSpeaks h → ⊥) → posts ≡ []
  pub noted : MayBeNoted (is_some target) first_port h notes
  pub running : RunsWhileUp target_then new
  pub stops : RoseBy (stops_in h notes) old.faults new.faults

-- What is noted of a boot at this port, and the target that came out of it, whatever is known of its disk.
pub record BootsTarget {R : Type 0} (first_port : ℕ) (notes : List Note) (target_then : Option (machine.TargetState R)) (old new : DiskState) : Type 0 where
  pub noted : IsBooted first_port notes
  pub boots : ComesOutOfBoot (target_kept target_then) notes
  pub running : RunsWhileUp target_then new
  pub stops : RoseBy (stops_noted notes) old.faults new.faults

-- What a step does to the power of the target's disk, whatever it answers: it arms it where this is a loss of power, and
-- restarts it where this is a boot.
pub record ActsInStep (h : HappeningView) (old new : DiskState) : Type 0 where
  pub arms : ArmsBy h old new
  pub reboots : h ≡ Booted → Reboots old new

-- ---- both ends

-- Both ends took what happened, and it is recorded as the newest step, with the loader's datagrams before the target's: what
-- the loader did, what may be noted of the target, that what is carried is bytes, and how often the disk stopped in it. One end
-- posts at most, and two datagrams at most.
pub record HasStepped {R : Type 0} (h : HappeningView) (posts : List DatagramView) (steps steps_then : List Step) (loader loader_then : LoaderState) (target target_then : Option (machine.TargetState R)) (old new : DiskState) : Type 0 where
  pub notes : List Note
  pub recorded : steps_then ≡ record { given = h; posts = posts; notes = notes } ∷ steps
  pub loader_posts : List DatagramView
  pub target_posts : List DatagramView
  pub both_post : posts ≡ loader_posts ++ target_posts
  pub few : length posts ≤ 2
  pub takes : LoaderTakes (event_for sides.Loader (posted_in steps) h) loader loader_then loader_posts
  pub noted : MayBeNoted (is_some target) (first_port_after steps) h notes
  pub carries : AllByRecursion CarriesBytes posts
  pub injects : InjectsBytes h
  pub stops : RoseBy (stops_in h notes) old.faults new.faults
  pub running : RunsWhileUp target_then new

-- And what the target did, whatever is known of its disk; by what its log says, where that is known; with what its disk holds
-- then, where the disk held it before.
pub record StepsAsSaid {R : Type 0} (may_say : R → LoadHeader → List KeptLoad → Bool → Type 0) (set : Setting) (state : TargetStanding) (h : HappeningView) (posts : List DatagramView) (steps steps_then : List Step) (loader loader_then : LoaderState) (target target_then : Option (machine.TargetState R)) (old new : DiskState) : Type 0 where
  pub stepped : HasStepped h posts steps steps_then loader loader_then target target_then old new
  pub lives : TargetLives set.accepts (event_for sides.Target (posted_in steps) h) (target_kept target) (target_kept target_then) stepped.target_posts stepped.notes
  pub turns : IsNoBoot h ⊎ BeginsStep may_say set state target old
      → TargetTurns set (event_for sides.Target (posted_in steps) h) state (target_kept target) (target_kept target_then) stepped.target_posts stepped.notes
  pub holds : BeginsStep may_say set state target old
      → HoldsRun set (noted stepped.notes state (reached set (event_for sides.Target (posted_in steps) h) state)) target_then new
      × BootIsTold (noted stepped.notes state (reached set (event_for sides.Target (posted_in steps) h) state)) stepped.notes
