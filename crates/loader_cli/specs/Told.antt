-- What the program's arguments are answered, on a host and on the disks of all units (docs/PROMISES.md).
use Rattle.std.specs.Prelude.{◌≡◌, ℕ, List, take, Option, None, Result, IfOk, OnErr, option_map}
use Rattle.load_base.specs.Host.{Files}
use Rattle.load_base.specs.declared.list.NoMemory.{NoMemory}
use Rattle.disk_model.specs.State.{DiskState}
use Rattle.loader_cli.specs.Answers.{status_of, text_of}
use Rattle.loader_cli.specs.Commands.{IsCommand}
use Rattle.loader_cli.specs.Commands.CommandView.{fleet as fleet_command}
use Rattle.loader_cli.specs.FleetReplays.{fleet_seen}
use Rattle.loader_cli.specs.FleetRuns.{FleetRunsOut, FleetTellsAll, FleetWork, LeavesFleet}
use Rattle.loader_cli.specs.Replays.{RunSeen, run_seen}
use Rattle.loader_cli.specs.Runs.{RunsOutInCommand, TellsAll, Work}
use Rattle.loader_cli.specs.Touches.{HandsOutByCommand, KeepsOthers, LeavesByCommand, OnNamed, TouchesDisk, TouchesHost}
use Rattle.loader_cli.specs.declared.answer.Answered.{Answered}

-- what the arguments work on, where they name this disk
abbrev pub work_on : {H K : Type 0} → (files : H → Option Files) → (faults : H → ℕ) → (state : K → DiskState) → (words : List (List ℕ)) → (host host_after : H) → (before after : K) → (handed : Option RunSeen) → Work
work_on files faults state words host host_after before after handed = record {
  words = words;
  disk = state before;
  disk_after = state after;
  files = files host;
  files_after = files host_after;
  host_faults = faults host;
  host_faults_after = faults host_after;
  handed = handed;
}

-- and where they name these disks of a fleet
abbrev pub fleet_work_on : {H K : Type 0} → (files : H → Option Files) → (faults : H → ℕ) → (folder script : List ℕ) → (host host_after : H) → (disks disks_after : List K) → FleetWork K
fleet_work_on files faults folder script host host_after disks disks_after = record {
  folder = folder;
  script = script;
  disks = disks;
  disks_after = disks_after;
  files = files host;
  host_faults = faults host;
  host_faults_after = faults host_after;
  handed = None;
}

-- What a command of one unit is answered, on the disk of that unit: what there is to say, or that memory ran out; what it touches
-- of the disk and of the host; and what a power loss leaves.
pub record AnswersUnit {H K : Type 0} (files : H → Option Files) (faults : H → ℕ) (state : K → DiskState) (words : List (List ℕ)) (host_old host_new : H) (before after : K) (result : Result Answered NoMemory) : Type 0 where
  pub tells : IfOk result (λ said. TellsAll (work_on files faults state words host_old host_new before after (option_map run_seen said.drive)) (status_of said.answer) (text_of said.answer))
  pub no_memory : OnErr result (RunsOutInCommand (work_on files faults state words host_old host_new before after None))
  pub disk : TouchesDisk words before after (state before) (state after)
  pub host : TouchesHost words host_old host_new (files host_old) (files host_new)
  pub leaves : LeavesByCommand words (state before) (state after)

-- What a fleet on these disks is answered: what there is to say, or that memory ran out, which hides no failure of the host or
-- of a disk; and what becomes of the disks.
pub record AnswersFleet {K : Type 0} (state : K → DiskState) (work : FleetWork K) (result : Result Answered NoMemory) : Type 0 where
  pub tells : IfOk result (λ said. FleetTellsAll state work (option_map fleet_seen said.fleet) (status_of said.answer) (text_of said.answer))
  pub no_memory : OnErr result ((work.host_faults_after ≡ work.host_faults) × FleetRunsOut state work.disks work.disks_after)
  pub left : LeavesFleet state work.disks work.disks_after

-- What the arguments are answered, of the disk that they name, or of the disks of a fleet; and of all other disks, and of the
-- host, that they aren't touched.
pub record AnswersAsAsked {H K : Type 0} (files : H → Option Files) (faults : H → ℕ) (state : K → DiskState) (words : List (List ℕ)) (host_old host_new : H) (disks disks_after : List K) (result : Result Answered NoMemory) : Type 0 where
  pub unit : OnNamed words disks disks_after (λ before after. AnswersUnit files faults state words host_old host_new before after result)
  pub fleet : (count : ℕ) (folder script : List ℕ) → IsCommand words (fleet_command count folder script)
      → AnswersFleet state (fleet_work_on files faults folder script host_old host_new (take count disks) (take count disks_after)) result
  pub others : KeepsOthers words disks disks_after
  pub host : TouchesHost words host_old host_new (files host_old) (files host_new)
  pub hands_out : IfOk result (λ said. HandsOutByCommand words said.drive said.fleet)
