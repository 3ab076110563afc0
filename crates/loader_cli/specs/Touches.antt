-- What a command touches, and what a power loss leaves of the disk, whatever it answers (docs/PROMISES.md).
use Rattle.std.specs.Prelude.{◌≡◌, ◌≢◌, ℕ, ◌<◌, ◌≤◌, List, length, slice_get, Option, Some, None, false}
use Rattle.std.specs.Option.{ForSome}
use Rattle.load_base.specs.Host.{Files}
use Rattle.disk_model.specs.Image.{Image}
use Rattle.disk_model.specs.State.{DiskState, KeepsPower, OnlyReads}
use Rattle.disk_layout.specs.Holds.{HasDiskFault}
use Rattle.disk_layout.specs.declared.fault.RecoverFault.{RecoverFault}
use Rattle.disk_layout.specs.declared.identity.Identity.{Identity}
use Rattle.bank_store.specs.Formatting.{LeavesOldOrFormatted}
use Rattle.media_build.specs.WrittenFolders.{KeepsAllBut}
use Rattle.loader_cli.specs.Commands.{FormatsDisk, FormatsOrRollsBack, IsCommand, IsNo, UsesDisk, UsesHost, UsesScript, CommandWritesDisk, WritesHost, IsOfFleet, disk_named}
use Rattle.loader_cli.specs.Commands.CommandView.{fleet, format, rollback}
use Rattle.loader_cli.specs.Replays.{LeavesFirstOrGood}
use Rattle.loader_cli.specs.Rollbacks.{LeavesRollback}
use Rattle.loader_cli.specs.Runs.{IsWrittenName}

-- this holds of the disk that the arguments name, as it was and as it is, where they run no fleet
abbrev pub OnNamed : {K : Type 0} → List (List ℕ) → (old new : List K) → (Holds : (before after : K) → Type 0) → Type 0
OnNamed {K} words old new Holds = IsNo IsOfFleet words → (before after : K) → slice_get old (disk_named words) ≡ Some before → slice_get new (disk_named words) ≡ Some after → Holds before after

-- the arguments don't use the disk at this place: neither do they name it, nor is it one of a fleet's, which has the first ones
pub record IsUnused (words : List (List ℕ)) (place : ℕ) : Type 0 where
  pub unnamed : IsNo IsOfFleet words → place ≢ disk_named words
  pub beyond : (count : ℕ) (folder script : List ℕ) → IsCommand words (fleet count folder script) → count ≤ place

-- The disk that the arguments name is there, there are as many as there were, and each that they don't use is as it was.
pub record KeepsOthers {K : Type 0} (words : List (List ℕ)) (old new : List K) : Type 0 where
  pub named : disk_named words < length old
  pub as_many : length new ≡ length old
  pub others : (place : ℕ) → IsUnused words place → slice_get new place ≡ slice_get old place

-- Nothing is written; and where the disk runs, it reads what it read.
pub record OnlyLooks (old new : DiskState) : Type 0 where
  pub only_reads : OnlyReads old new
  pub same : new.stopped ≡ false → new.reads ≡ old.reads

-- a disk that holds no configuration is only read
abbrev pub ReadsWhereNoneIs : (old new : DiskState) → Type 0
ReadsWhereNoneIs old new = (image : Image) (fault : RecoverFault) → old.reads ≡ Some image → HasDiskFault image fault → OnlyReads old new

-- The disk is touched by no command but those that use it, only read by those that don't write it, and, where it holds no
-- configuration, by each but `format`. No loss of power is armed but in a run of a script.
pub record TouchesDisk {K : Type 0} (words : List (List ℕ)) (before after : K) (old new : DiskState) : Type 0 where
  pub untouched : IsNo UsesDisk words → after ≡ before
  pub looks : IsNo CommandWritesDisk words → OnlyLooks old new
  pub none_held : IsNo FormatsDisk words → ReadsWhereNoneIs old new
  pub never_armed : IsNo UsesScript words → KeepsPower old new

-- The host is touched by no command but those that use it, and its files stay as they are but for those of the set that
-- `build` or `make` writes.
pub record TouchesHost {H : Type 0} (words : List (List ℕ)) (before after : H) (old new : Option Files) : Type 0 where
  pub untouched : IsNo UsesHost words → after ≡ before
  pub kept : IsNo WritesHost words → new ≡ old
  pub others : ForSome old (λ told. KeepsAllBut (IsWrittenName words told) told new)

-- What a power loss leaves: of `format` the old configuration whole, nothing, or the formatted disk; of `rollback` what was
-- active at first, or what the rollback brings; of each other command what was active at first, or loads of which each was
-- active then or is checked, and one is checked.
pub record LeavesByCommand (words : List (List ℕ)) (old new : DiskState) : Type 0 where
  pub while_formatting : (id : Identity) → IsCommand words (format id) → LeavesOldOrFormatted id old new
  pub while_rolling_back : IsCommand words rollback → LeavesRollback old new
  pub while_running : IsNo FormatsOrRollsBack words → LeavesFirstOrGood old new

-- A run is handed out of no command but those that run a script: of one unit, or of a fleet by `fleet` alone.
pub record HandsOutByCommand {D F : Type 0} (words : List (List ℕ)) (drive : Option D) (of_fleet : Option F) : Type 0 where
  pub no_run : IsNo UsesScript words → drive ≡ None
  pub no_fleet : IsNo IsOfFleet words → of_fleet ≡ None
  pub none_beside : (count : ℕ) (folder script : List ℕ) → IsCommand words (fleet count folder script) → drive ≡ None

-- What the arguments touch, whatever they are answered, is what they use: the disk that they name, no other disk but a fleet's,
-- the host; and the run that they hand out is one that they asked for.
pub record TouchesOnly {H K D F : Type 0} (files : H → Option Files) (state : K → DiskState) (words : List (List ℕ)) (host_old host_new : H) (disks disks_after : List K) (drive : Option D) (of_fleet : Option F) : Type 0 where
  pub disk : OnNamed words disks disks_after (λ before after. TouchesDisk words before after (state before) (state after))
  pub others : KeepsOthers words disks disks_after
  pub host : TouchesHost words host_old host_new (files host_old) (files host_new)
  pub hands_out : HandsOutByCommand words drive of_fleet
