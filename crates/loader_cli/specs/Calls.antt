-- Calls of `run`, and what it promises of each (docs/PROMISES.md).
use Rattle.std.specs.Prelude.{ℕ, List, Option}
use Rattle.load_base.specs.Host.{Files}
use Rattle.disk_model.specs.State.{DiskState}
use Rattle.loader_cli.specs.Commands.{IsNo, CommandWritesDisk}
use Rattle.loader_cli.specs.Replays.{RunSeen}
use Rattle.loader_cli.specs.Runs.{EndsAsPromised, Run}
use Rattle.loader_cli.specs.Touches.{LeavesByCommand, OnlyLooks}
use Rattle.loader_cli.specs.declared.top_call.Ended.{Ended}

-- What `run` promises of a call: how it ends; that a command that doesn't write the disk only looks at it; and what a power loss
-- leaves, by the command.
pub record IsPromised (run : Run) (ended : Ended) : Type 0 where
  pub ends : EndsAsPromised run ended
  pub looks : IsNo CommandWritesDisk run.work.words → OnlyLooks run.work.disk run.work.disk_after
  pub leaves : LeavesByCommand run.work.words run.work.disk run.work.disk_after

-- A call of `run`: its arguments, the run that it handed out, if one, and host, sink and the disk that the arguments name,
-- before and after.
pub record Call (H O K : Type 0) : Type 0 where
  pub words : List (List ℕ)
  pub handed : Option RunSeen
  pub host : H
  pub host_after : H
  pub out : O
  pub out_after : O
  pub disk : K
  pub disk_after : K

-- as contracts see it
abbrev pub run_of : {H O K : Type 0} → (files : H → Option Files) → (host_faults : H → ℕ) → (content : O → Option (List ℕ)) → (sink_faults : O → ℕ) → (state : K → DiskState) → Call H O K → Run
run_of files host_faults content sink_faults state call = record {
  work = record {
    words = call.words;
    disk = state call.disk;
    disk_after = state call.disk_after;
    files = files call.host;
    files_after = files call.host_after;
    host_faults = host_faults call.host;
    host_faults_after = host_faults call.host_after;
    handed = call.handed;
  };
  output = content call.out;
  output_after = content call.out_after;
  sink_faults = sink_faults call.out;
  sink_faults_after = sink_faults call.out_after;
}
