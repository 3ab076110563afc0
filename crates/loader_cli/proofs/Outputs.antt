-- What a recovery's refusal says of an image.
use Rattle.std.proofs.Common.{◌≡◌, ◌≢◌, inl, inr, ℕ, List, Option, Some, None, Result, Ok, Err, true, false, refl, sym, ◌∙◌}
use Rattle.load_base.specs.Listed.{Listed}
use Rattle.replay_turns.specs.Turns.{RunsOut}
use Rattle.loader_cli.specs.Touches.{OnlyLooks}
use Rattle.load_base.specs.Host.{Files, ReadsFile}
use Rattle.load_base.specs.declared.host.ReadFault.TheVariants as reading
use Rattle.loader_cli.specs.HostFiles.{HostHas, HasTooMany}
use Rattle.disk_model.specs.Image.{Image}
use Rattle.disk_model.specs.State.{DiskState, OnlyReads}
use Rattle.disk_layout.specs.DiskReads.{HasDiskCause, IsOfDisk, RunsOn, RunsOnAfter}
use Rattle.disk_layout.specs.Holds.{HasDiskFault, Refuses}
use Rattle.disk_layout.specs.declared.fault.RecoverFault.{RecoverFault}
use Rattle.disk_layout.specs.declared.fault.RecoverFault.TheVariants.{NotFormatted, NoOpenSlot, BadSlot, BadManifest, DiskFailed, Memory}

pub not_of_disk : (fault : RecoverFault) → fault ≢ DiskFailed → fault ≢ Memory → ¬ IsOfDisk fault
not_of_disk DiskFailed disk memory is = disk refl
not_of_disk Memory disk memory is = memory refl
not_of_disk (NotFormatted offset) disk memory is = is
not_of_disk NoOpenSlot disk memory is = is
not_of_disk (BadSlot offset) disk memory is = is
not_of_disk (BadManifest offset) disk memory is = is

-- a refusal that isn't of the disk or of memory names the condition that fails
pub names_the_condition : (image : Image) (fault : RecoverFault) → ¬ IsOfDisk fault → Refuses image fault → HasDiskFault image fault
names_the_condition image (NotFormatted offset) other refuses = refuses
names_the_condition image NoOpenSlot other refuses = refuses
names_the_condition image (BadSlot offset) other refuses = refuses
names_the_condition image (BadManifest offset) other refuses = refuses
names_the_condition image DiskFailed other refuses = absurd (other tt)
names_the_condition image Memory other refuses = absurd (other tt)

-- and leaves the disk running
pub leaves_running : (old new : DiskState) (fault : RecoverFault) → ¬ IsOfDisk fault → RunsOnAfter old new fault → RunsOn old new
leaves_running old new (NotFormatted offset) other runs = runs
leaves_running old new NoOpenSlot other runs = runs
leaves_running old new (BadSlot offset) other runs = runs
leaves_running old new (BadManifest offset) other runs = runs
leaves_running old new DiskFailed other runs = absurd (other tt)
leaves_running old new Memory other runs = absurd (other tt)

-- where it was out of memory, the disk runs, or counts that itself
pub memory_out : (old new : DiskState) (fault : RecoverFault) → fault ≡ Memory → RunsOnAfter old new fault → RunsOut old new
memory_out old new Memory is runs = elim runs [ inl on ↦ inl on.running | inr out ↦ inr out ]
memory_out old new DiskFailed is runs = absurd cc
memory_out old new (NotFormatted offset) is runs = absurd cc
memory_out old new NoOpenSlot is runs = absurd cc
memory_out old new (BadSlot offset) is runs = absurd cc
memory_out old new (BadManifest offset) is runs = absurd cc

stopped_not : {P : Type 0} (disk : DiskState) → disk.stopped ≡ true → disk.stopped ≡ false → P
stopped_not disk stopped running = absurd (let wrong : true ≡ false = sym stopped ∙ running in cc)

-- and where it runs, it reads what it read
pub looks_on : {T : Type 0} (old new : DiskState) (fault : RecoverFault) (result : Result T RecoverFault) → OnlyReads old new → result ≡ Err fault → RunsOnAfter old new fault → HasDiskCause DiskFailed old new result → OnlyLooks old new
looks_on {T} old new fault result reads is runs cause = record { only_reads = reads; same = λ running. by fault is runs running }
  where
    by : (f : RecoverFault) → result ≡ Err f → RunsOnAfter old new f → new.stopped ≡ false → new.reads ≡ old.reads
    by DiskFailed is runs running = stopped_not new (cause.failed is).1 running
    by Memory is runs running = elim runs [ inl on ↦ on.reads | inr out ↦ stopped_not new out.stopped running ]
    by (NotFormatted offset) is runs running = runs.reads
    by NoOpenSlot is runs running = runs.reads
    by (BadSlot offset) is runs running = runs.reads
    by (BadManifest offset) is runs running = runs.reads

-- what the host has under a name, from what it answered
pub has_bytes : (files : Option Files) (name : List ℕ) (bytes : Listed ℕ) → ReadsFile files name (Ok bytes) → HostHas files name (Some bytes.items)
has_bytes None name bytes reads = tt
has_bytes (Some files) name bytes reads = reads

pub has_none : (files : Option Files) (name : List ℕ) → ReadsFile files name (Err reading.Absent) → HostHas files name None
has_none None name reads = tt
has_none (Some files) name reads = reads

pub has_too_many : (files : Option Files) (name : List ℕ) → ReadsFile files name (Err reading.TooLong) → HasTooMany files name
has_too_many None name reads = tt
has_too_many (Some files) name reads = reads
