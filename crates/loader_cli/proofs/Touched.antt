-- What commands touch.
use Rattle.std.proofs.Common.{◌≡◌, ◌⊎◌, inl, inr, ℕ, List, Option, refl, subst, arith}
use Rattle.std.specs.Option.{ForSome}
use Rattle.load_base.specs.Host.{Files}
use Rattle.disk_model.specs.Image.{Image}
use Rattle.disk_model.specs.State.{DiskState, KeepsPower, OnlyReads}
use Rattle.disk_layout.specs.Holds.{HasDiskFault, HoldsConfig, StandingView}
use Rattle.disk_layout.specs.declared.fault.RecoverFault.{RecoverFault}
use Rattle.disk_layout.specs.declared.identity.Identity.{Identity}
use Rattle.bank_store.specs.Formatting.{LeavesOldOrFormatted}
use Rattle.media_build.specs.WrittenFolders.{KeepsAllBut}
use Rattle.upload_replay.specs.Endings.{HoldsSome, StaysAsItWas}
use Rattle.loader_cli.specs.Commands.{CommandView, FormatsOrRollsBack, IsAny, IsCommand, IsNo, UsesDisk, UsesHost, UsesScript, CommandWritesDisk, WritesHost}
use Rattle.loader_cli.specs.Commands.CommandView.{format, list, rollback}
use Rattle.loader_cli.specs.Replays.{LeavesFirstOrGood}
use Rattle.loader_cli.specs.Rollbacks.{LeavesRollback}
use Rattle.loader_cli.specs.Runs.{IsWrittenName}
use Rattle.loader_cli.specs.Touches.{LeavesByCommand, OnlyLooks, TouchesDisk, TouchesHost}
use Rattle.loader_cli.proofs.Asked.{formats_no, not_both_asked, one_target, rolls_no}
use Rattle.loader_cli.proofs.OtherFiles.{nothing_set}

-- ---- the disk

reads_nothing : (disk : DiskState) → OnlyReads disk disk
reads_nothing disk = record {
  tells = refl;
  power = record { steady = refl; armings = refl; armed = refl };
  faults = omega arith;
  refusals = omega arith;
  clock = refl;
  now = λ image may. may;
  between = λ t u image may. may;
  keeps = λ t u image may. may;
  closed = λ steady at n closed. closed;
}

-- a disk that isn't touched is as it was
pub stays : (disk : DiskState) → StaysAsItWas disk disk
stays disk = record { only_reads = reads_nothing disk; reads = refl; left = λ image may. may; faults = refl; refusals = refl; stopped = refl }

pub disk_unused : {K : Type 0} (words : List (List ℕ)) (disk : K) (state : DiskState) → TouchesDisk words disk disk state state
disk_unused words disk state = record {
  untouched = λ none. refl;
  looks = λ none. record { only_reads = reads_nothing state; same = λ running. refl };
  none_held = λ none image fault read has. reads_nothing state;
  never_armed = λ none. record { steady = refl; armings = refl; armed = refl };
}

pub disk_listed : {K : Type 0} (words : List (List ℕ)) (before after : K) (old new : DiskState) → IsCommand words list → OnlyLooks old new → TouchesDisk words before after old new
disk_listed words before after old new asked looked = record {
  untouched = λ none. absurd (none list asked tt);
  looks = λ none. looked;
  none_held = λ none image fault read has. looked.only_reads;
  never_armed = λ none. looked.only_reads.power;
}

pub disk_formatted : {K : Type 0} (words : List (List ℕ)) (before after : K) (old new : DiskState) (id : Identity) → IsCommand words (format id) → KeepsPower old new → TouchesDisk words before after old new
disk_formatted words before after old new id asked power = record {
  untouched = λ none. absurd (none (format id) asked tt);
  looks = λ none. absurd (none (format id) asked tt);
  none_held = λ none. absurd (none (format id) asked tt);
  never_armed = λ none. power;
}

-- a script is run on a disk that held a configuration, or that is only read
pub disk_run : {K : Type 0} (words : List (List ℕ)) (before after : K) (old new : DiskState) (command : CommandView) → IsCommand words command → UsesDisk command → CommandWritesDisk command → UsesScript command
    → ((image : Image) (s : StandingView) (f : RecoverFault) → HoldsConfig image s → HasDiskFault image f → ⊥) → OnlyReads old new ⊎ HoldsSome old → TouchesDisk words before after old new
disk_run words before after old new command asked uses writes runs not_both held = record {
  untouched = λ none. absurd (none command asked uses);
  looks = λ none. absurd (none command asked writes);
  none_held = λ none image fault read has. elim held [ inl reads ↦ reads | inr some ↦ absurd (let (s, holds) = some image read in not_both image s fault holds has) ];
  never_armed = λ none. absurd (none command asked runs);
}

-- a disk is rolled back that holds a former configuration, and any other is only read
pub disk_rolled_back : {K : Type 0} (words : List (List ℕ)) (before after : K) (old new : DiskState) → IsCommand words rollback
    → ((image : Image) (s : StandingView) (f : RecoverFault) → HoldsConfig image s → HasDiskFault image f → ⊥) → KeepsPower old new → LeavesRollback old new → TouchesDisk words before after old new
disk_rolled_back words before after old new asked not_both power left = record {
  untouched = λ none. absurd (none rollback asked tt);
  looks = λ none. absurd (none rollback asked tt);
  none_held = λ none image fault read has. elim left.writes [ inl reads ↦ reads | inr some ↦ absurd (let (brought, brings) = some image read in not_both image brings.active fault brings.holds has) ];
  never_armed = λ none. power;
}

-- ---- the host

pub host_unused : {H : Type 0} (words : List (List ℕ)) (host : H) (files : Option Files) → TouchesHost words host host files files
host_unused words host files = record { untouched = λ none. refl; kept = λ none. refl; others = nothing_set (λ told. IsWrittenName words told) files files refl }

pub host_read : {H : Type 0} (words : List (List ℕ)) (before after : H) (old new : Option Files) (command : CommandView) → IsCommand words command → UsesHost command → new ≡ old → TouchesHost words before after old new
host_read words before after old new command asked uses same = record { untouched = λ none. absurd (none command asked uses); kept = λ none. same; others = nothing_set (λ told. IsWrittenName words told) old new same }

pub host_written : {H : Type 0} (words : List (List ℕ)) (before after : H) (old new : Option Files) (command : CommandView) → IsCommand words command → UsesHost command → WritesHost command
    → ForSome old (λ told. KeepsAllBut (IsWrittenName words told) told new) → TouchesHost words before after old new
host_written words before after old new command asked uses writes others = record { untouched = λ none. absurd (none command asked uses); kept = λ none. absurd (none command asked writes); others = others }

-- ---- a power loss

pub leaves_running : (words : List (List ℕ)) (old new : DiskState) (command : CommandView) → IsCommand words command → ¬ FormatsOrRollsBack command → LeavesFirstOrGood old new → LeavesByCommand words old new
leaves_running words old new command asked other left = record {
  while_formatting = λ id so. absurd (formats_no words command id asked other so);
  while_rolling_back = λ so. absurd (rolls_no words command asked other so);
  while_running = λ none. left;
}

pub leaves_alone : (words : List (List ℕ)) (old new : DiskState) → IsNo IsAny words → LeavesFirstOrGood old new → LeavesByCommand words old new
leaves_alone words old new none left = record { while_formatting = λ id so. absurd (none (format id) so tt); while_rolling_back = λ so. absurd (none rollback so tt); while_running = λ any. left }

pub leaves_formatting : (words : List (List ℕ)) (old new : DiskState) (id : Identity) → IsCommand words (format id) → LeavesOldOrFormatted id old new → LeavesByCommand words old new
leaves_formatting words old new id asked left = record {
  while_formatting = λ other so. subst (λ (i : Identity). LeavesOldOrFormatted i old new) (one_target words id other asked so) left;
  while_rolling_back = λ so. absurd (not_both_asked words id asked so);
  while_running = λ none. absurd (none (format id) asked tt);
}

pub leaves_rolled_back : (words : List (List ℕ)) (old new : DiskState) → IsCommand words rollback → LeavesRollback old new → LeavesByCommand words old new
leaves_rolled_back words old new asked left = record {
  while_formatting = λ id so. absurd (not_both_asked words id so asked);
  while_rolling_back = λ is. left;
  while_running = λ none. absurd (none rollback asked tt);
}
