-- What a disk in memory shows, and what its calls do to it (docs/DISK.md).
use Rattle.std.specs.Prelude.{◌≡◌, ℕ, List, [], ◌∷◌, ◌++◌, true, false, Result, OnOk, OnErr, IsErrOf}
use Rattle.load_base.specs.Failing.{CallNumbers, IsSetToFail}
use Rattle.load_base.specs.Failing as Failing
use Rattle.disk_model.specs.State.{DiskState}
use Rattle.disk_model.specs.Replay.{recorded, AddsWrite}
use Rattle.disk_model.specs.declared.disk.DiskFault.{DiskFault}
use Rattle.disk_model.specs.declared.disk.DiskFault.TheVariants.{Failed, Memory}
use Rattle.disk_model.specs.declared.note.Call.{Call}
use Rattle.disk_model.specs.declared.note.Note.{Note}
use Rattle.disk_model.specs.declared.mem.MemDisk.{MemDisk}

-- the bytes that it holds, from offset 0 on; after them it reads as zero
abbrev pub disk_bytes : MemDisk → List ℕ
disk_bytes disk = disk.bytes.items

-- the bytes that it was made with
abbrev pub first_of : MemDisk → List ℕ
first_of disk = disk.first.items

-- its record
abbrev pub notes_of : MemDisk → List Note
notes_of disk = disk.notes.items

-- its calls, reads too, that are set to fail, and the number of the next one
abbrev pub calls_of : MemDisk → CallNumbers
calls_of disk = disk.calls

-- what contracts see of it, by its record
abbrev pub state_of : MemDisk → DiskState
state_of disk = recorded disk.first.items disk.notes.items disk.bytes.items disk.faults disk.refusals disk.stopped

-- a call is counted, and fails where it is set to
pub record CountsDiskCall (old new : MemDisk) (result : Result Unit DiskFault) : Type 0 where
  pub counts : Failing.CountsCall (calls_of old) (calls_of new)
  pub ok : OnOk result (¬ IsSetToFail (calls_of old))
  pub failed : IsErrOf result Failed → IsSetToFail (calls_of old)

-- it holds what it held, and has the same record
pub record IsUnchanged (old new : MemDisk) : Type 0 where
  pub first : first_of new ≡ first_of old
  pub contents : disk_bytes new ≡ disk_bytes old
  pub notes : notes_of new ≡ notes_of old

-- A read: the call is counted, and nothing changes.
pub record CountsRead (old new : MemDisk) (result : Result Unit DiskFault) : Type 0 where
  pub counts : CountsDiskCall old new result
  pub unchanged : IsUnchanged old new

-- A sync or a restart: the call is counted, and it holds what it held. A note came, but where it was out of memory.
pub record NotesCall (call : Call) (old new : MemDisk) (result : Result Unit DiskFault) : Type 0 where
  pub counts : CountsDiskCall old new result
  pub first : first_of new ≡ first_of old
  pub contents : disk_bytes new ≡ disk_bytes old
  pub done : OnOk result (notes_of new ≡ notes_of old ++ record { call = call; done = true } ∷ [])
  pub failed : IsErrOf result Failed → notes_of new ≡ notes_of old ++ record { call = call; done = false } ∷ []
  pub refused : IsErrOf result Memory → notes_of new ≡ notes_of old

-- A write: the call is counted, and where it is refused, it holds what it held. A note came, but where it was out of
-- memory.
pub record NotesWrite (at : ℕ) (bytes : List ℕ) (old new : MemDisk) (result : Result Unit DiskFault) : Type 0 where
  pub counts : CountsDiskCall old new result
  pub first : first_of new ≡ first_of old
  pub contents : OnErr result (disk_bytes new ≡ disk_bytes old)
  pub done : OnOk result (AddsWrite (notes_of old) (notes_of new) at bytes true)
  pub failed : IsErrOf result Failed → AddsWrite (notes_of old) (notes_of new) at bytes false
  pub refused : IsErrOf result Memory → notes_of new ≡ notes_of old
