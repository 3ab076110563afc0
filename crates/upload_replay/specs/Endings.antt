-- How a run ends, and why there is none (docs/EXCHANGE.md, "Runs").
use Rattle.std.specs.Prelude.{◌≡◌, ℕ, ◌+◌, ◌≤◌, true, false, is_some, ◌⊎◌, List, ◌∷◌, map, option_map, Option, Some, None, Result, Ok, Err, IfErr, IsErrOf, ⊤}
use Rattle.std.specs.Option.{ForSome}
use Rattle.bank_store.specs.Fits.{LosesOnlyWork}
use Rattle.load_base.specs.Counts.{Rose}
use Rattle.disk_layout.specs.DiskReads.{IsOfDisk, RunsOn, RunsOnAfter}
use Rattle.disk_layout.specs.Holds.{HasDiskFault, HoldsConfig, StandingView, standing_view}
use Rattle.disk_layout.specs.declared.fault.RecoverFault.{RecoverFault}
use Rattle.disk_layout.specs.declared.fault.RecoverFault.TheVariants as recovers
use Rattle.disk_layout.specs.declared.standing.Standing.{Standing}
use Rattle.disk_model.specs.Image.{Image}
use Rattle.disk_model.specs.State.{DiskState, KeepsPower, OnlyReads}
use Rattle.exchange_trace.specs.Steps.{Step}
use Rattle.link_net.specs.Links.{LinkState}
use Rattle.replay_rules.specs.BothEnds.{Setting}
use Rattle.target_machine.specs.declared.boot.BootFault.{BootFault}
use Rattle.target_machine.specs.declared.boot.BootFault.TheVariants as boots
use Rattle.upload_replay.specs.declared.outcome.DriveFault.{DriveFault}
use Rattle.upload_replay.specs.declared.outcome.DriveFault.TheVariants as faults
use Rattle.replay_turns.specs.Powers.{RoseBy, disk_stops}
use Rattle.replay_turns.specs.Orders.{IsInOrder}
use Rattle.replay_turns.specs.StepsOnDisks.{LeavesNoMore, Reboots}
use Rattle.replay_turns.specs.Turns.{RunsOut}
use Rattle.exchange_trace.specs.Steps.{steps_of}
use Rattle.loader_machine.specs.Machine.{media_of, session_view}
use Rattle.session_rules.specs.MediaFiles.{Media}
use Rattle.upload_replay.specs.Drivers.{DriverState, end_step}
use Rattle.upload_replay.specs.Drives.{IsDrivenRun, IsLoadersRun, NeverBoots, TellsLink}
use Rattle.upload_replay.specs.Moments.{HoldsAllAlong}
use Rattle.upload_replay.specs.declared.outcome.Drive.{Drive}
use Rattle.upload_replay.specs.Turns.{HasDriveCause}

-- why there is no run where the target doesn't come up at first
abbrev pub first_fault_of : BootFault → DriveFault
first_fault_of (boots.Recover recovers.DiskFailed) = faults.Disk
first_fault_of (boots.Recover recovers.Memory) = faults.Memory
first_fault_of (boots.Recover fault) = faults.NoConfig fault
first_fault_of boots.Memory = faults.Memory

-- what a refusal of the last recovery comes to: where the disk failed nothing is known of what it holds
abbrev pub last_refusal_of : RecoverFault → Result (Option Standing) DriveFault
last_refusal_of recovers.DiskFailed = Ok None
last_refusal_of recovers.Memory = Err faults.Memory
last_refusal_of fault = Err (faults.NoConfig fault)

-- the disk holds a configuration, where it tells its content
abbrev pub HoldsSome : DiskState → Type 0
HoldsSome disk = ForSome disk.reads (λ image. (s : StandingView) × HoldsConfig image s)

-- what was recovered at the end is the configuration that the disk holds, where it tells its content
abbrev pub HoldsStanding : Option Standing → DiskState → Type 0
HoldsStanding None disk = ⊤
HoldsStanding (Some standing) disk = ForSome disk.reads (λ image. HoldsConfig image (standing_view standing))

-- where nothing is known of what the disk holds, it failed once more than this often, and is stopped
abbrev pub FailedIfUnknown : Option Standing → (began stops : ℕ) → DiskState → Type 0
FailedIfUnknown None began stops disk = RoseBy (stops + 1) began disk.faults × (disk.stopped ≡ true)
FailedIfUnknown (Some standing) began stops disk = ⊤

-- The disk's count of faults rose at least by the number of times that the trace says that the disk stopped, and once more
-- where nothing is known of what it holds.
pub record CountsStops (steps : List Step) (standing : Option Standing) (old new : DiskState) : Type 0 where
  pub stops : RoseBy (disk_stops steps) old.faults new.faults
  pub unknown : FailedIfUnknown standing old.faults (disk_stops steps) new

-- There is no run for the disk's failure only where the target didn't come up at first: the disk failed and is stopped,
-- nothing was written, and nothing happened.
pub record FailsAtFirst {T : Type 0} (old new : DiskState) (link link_then : LinkState) (result : Result T DriveFault) : Type 0 where
  pub failed : IsErrOf result faults.Disk → Rose old.faults new.faults × (new.stopped ≡ true)
  pub only_reads : IsErrOf result faults.Disk → OnlyReads old new
  pub untouched : IsErrOf result faults.Disk → link_then ≡ link

-- the disk holds no configuration, and this is the first fault
abbrev pub HoldsNone : RecoverFault → DiskState → Type 0
HoldsNone fault disk = ForSome disk.reads (λ image. HasDiskFault image fault)

-- the disk is as it was
pub record StaysAsItWas (old new : DiskState) : Type 0 where
  pub only_reads : OnlyReads old new
  pub reads : new.reads ≡ old.reads
  pub left : (image : Image) → old.now image → new.now image
  pub faults : new.faults ≡ old.faults
  pub refusals : new.refusals ≡ old.refusals
  pub stopped : new.stopped ≡ old.stopped

-- a refusal of the last recovery
abbrev pub IsLastFault : DriveFault → (old new : DiskState) → Type 0
IsLastFault (faults.NoConfig fault) old new = ¬ IsOfDisk fault × HoldsNone fault new
IsLastFault faults.Memory old new = RunsOut old new
IsLastFault fault old new = ⊥

-- a refusal at the end of a driver: memory may also run out before the disk is touched
abbrev pub IsEndFault : DriveFault → (old new : DiskState) → Type 0
IsEndFault faults.Memory old new = RunsOut old new ⊎ StaysAsItWas old new
IsEndFault fault old new = IsLastFault fault old new

-- The link failed only in a run, and there is one only where the disk held a configuration at first.
pub record FailsInRun {T : Type 0} (before now : ℕ) (first : DiskState) (result : Result T DriveFault) : Type 0 where
  pub cause : HasDriveCause before now result
  pub began : IsErrOf result faults.Link → HoldsSome first

-- The disk held no configuration at first, for this fault: nothing was written, and it runs on.
pub record HeldNone (fault : RecoverFault) (first last : DiskState) : Type 0 where
  pub none : HoldsNone fault first
  pub only_reads : OnlyReads first last
  pub running : RunsOn first last

-- So there was no run: nothing happened either.
pub record NeverBegan (fault : RecoverFault) (first last : DiskState) (link link_then : LinkState) : Type 0 where
  pub held : HeldNone fault first last
  pub untouched : link_then ≡ link

-- A refusal for no configuration is one of what the disk held at first; or it held one then, and this is the fault of what it
-- holds at the end.
abbrev pub IsNoConfig : DriveFault → (first last : DiskState) (link link_then : LinkState) → Type 0
IsNoConfig (faults.NoConfig fault) first last link link_then =
    ¬ IsOfDisk fault × (NeverBegan fault first last link link_then ⊎ (HoldsSome first × HoldsNone fault last))
IsNoConfig fault first last link link_then = ⊤

-- why a driver doesn't begin: the disk failed, and is stopped; or it held no configuration; or memory was out, and the disk
-- runs on, or was itself out of memory
abbrev pub FailsToBegin : DriveFault → (old new : DiskState) → Type 0
FailsToBegin faults.Link old new = ⊥
FailsToBegin faults.Disk old new = Rose old.faults new.faults × (new.stopped ≡ true)
FailsToBegin (faults.NoConfig fault) old new = ¬ IsOfDisk fault × HeldNone fault old new
FailsToBegin faults.Memory old new = RunsOnAfter old new recovers.Memory

-- Memory ran out before anything happened: nothing was written, and the disk runs on, or was itself out of memory.
pub record RunsOutAtFirst (old new : DiskState) (link link_then : LinkState) : Type 0 where
  pub only_reads : OnlyReads old new
  pub runs : RunsOnAfter old new recovers.Memory
  pub untouched : link_then ≡ link

-- There is no run, and why: the link failed in one, the disk at first, or it held no configuration; or memory ran out at
-- first, or in a run, on a disk that held one.
pub record IsRefused {T : Type 0} (before now : ℕ) (old new : DiskState) (link link_then : LinkState) (result : Result T DriveFault) : Type 0 where
  pub link_failed : FailsInRun before now old result
  pub disk_failed : FailsAtFirst old new link link_then result
  pub no_config : IfErr result (λ fault. IsNoConfig fault old new link link_then)
  pub no_memory : IsErrOf result faults.Memory → RunsOutAtFirst old new link link_then ⊎ HoldsSome old

-- ---- how a run ends

-- A driver came to its end: it is one step more, after which the lines of the trace stand in their order. The loader did what
-- its rules say, whatever is known of the disk; what was recovered stands there; and where the target was down the disk was
-- restarted first.
pub record EndsUnit {R : Type 0} (d : DriverState R) (drive : Drive) (old new : DiskState) : Type 0 where
  pub ended : steps_of drive.trace.items ≡ end_step ∷ d.steps
  pub ordered : IsInOrder drive.trace.items
  pub ran : IsLoadersRun (media_of d.loader.set) (steps_of drive.trace.items) (map session_view drive.sessions.items)
  pub standing : HoldsStanding drive.standing new
  pub reboots : is_some d.target ≡ false → Reboots old new

-- At the end of a driver no loss of power is armed, and no image comes that a power loss couldn't leave before.
pub record LeavesUnit (old new : DiskState) : Type 0 where
  pub power : KeepsPower old new
  pub faults : old.faults ≤ new.faults
  pub no_more : LeavesNoMore old new

-- A run came to its end, whatever is known of its disk: the disk held a configuration at first; the loader did what its rules
-- say; the link gave exactly what happened and was posted exactly what both ends posted; the lines of the trace stand in their
-- order; the disk failed as often as it stopped; and what was recovered stands there.
pub record EndsRun (media : Media) (began ended : LinkState) (drive : Drive) (old new : DiskState) : Type 0 where
  pub stood : HoldsSome old
  pub loader : IsLoadersRun media (steps_of drive.trace.items) (map session_view drive.sessions.items)
  pub told : TellsLink began ended (steps_of drive.trace.items)
  pub ordered : IsInOrder drive.trace.items
  pub stops : CountsStops (steps_of drive.trace.items) drive.standing old new
  pub standing : HoldsStanding drive.standing new

-- A run came to its end on a disk that held what this setting starts on: it is a run of the setting, if no boot came in it or a
-- power loss could take only work from the disk at first; if that is so, the disk held at each moment what was active then, and is
-- at rest again where it is known what was recovered.
pub record EndsOnSetting (set : Setting) (began ended : LinkState) (drive : Drive) (old new : DiskState) : Type 0 where
  pub run : NeverBoots (steps_of drive.trace.items) ⊎ LosesOnlyWork old
      → IsDrivenRun set began ended (steps_of drive.trace.items) (map session_view drive.sessions.items) (option_map standing_view drive.standing)
  pub moments : LosesOnlyWork old → HoldsAllAlong set (steps_of drive.trace.items) (option_map standing_view drive.standing) old new
  pub rests : LosesOnlyWork old → is_some drive.standing ≡ true → LosesOnlyWork new
