-- What a host keeps, and what reading and writing does to it.
use Rattle.std.specs.Prelude.{◌≡◌, ◌≢◌, ℕ, ◌+◌, ◌<◌, ◌≤◌, List, length, Result, Ok, Err, Option, Some, None, IfErr, IsErrOf, OnOk}
use Rattle.load_base.specs.Counts.{Rose}
use Rattle.load_base.specs.Listed.{Listed}
use Rattle.load_base.specs.declared.host.ReadFault.{ReadFault}
use Rattle.load_base.specs.declared.host.ReadFault.TheVariants as reading
use Rattle.load_base.specs.declared.sink.WriteFault.{WriteFault}
use Rattle.load_base.specs.declared.sink.WriteFault.TheVariants as writing

-- what each name has: the bytes of its file, or nothing
abbrev pub Files : Type 0
Files = List ℕ → Option (List ℕ)

-- the most bytes of a file that is read
abbrev pub longest_file : ℕ
longest_file = 16777215

-- Reading answers what the name has: its bytes, that it has none, or that they are too many. Failed and Memory
-- say nothing of it.
abbrev pub FileIs : Option (List ℕ) → Result (Listed ℕ) ReadFault → Type 0
FileIs file (Ok bytes) = file ≡ Some bytes.items
FileIs file (Err reading.Absent) = file ≡ None
FileIs file (Err reading.TooLong) = (bytes : List ℕ) × (file ≡ Some bytes) × (longest_file < length bytes)
FileIs file (Err reading.Failed) = Unit {0}
FileIs file (Err reading.Memory) = Unit {0}

abbrev pub ReadsFile : Option Files → List ℕ → Result (Listed ℕ) ReadFault → Type 0
ReadsFile None name result = Unit {0}
ReadsFile (Some files) name result = FileIs (files name) result

-- each other name has what it had
abbrev pub SameBut : List ℕ → Files → Files → Type 0
SameBut name old new = (other : List ℕ) → other ≢ name → new other ≡ old other

-- the host goes on telling its files, and these are the new ones
abbrev pub WritesFiles : Files → Files → List ℕ → List ℕ → Result (Unit {0}) WriteFault → Type 0
WritesFiles old new name bytes (Ok x) = SameBut name old new × (new name ≡ Some bytes)
WritesFiles old new name bytes (Err writing.Failed) = SameBut name old new
WritesFiles old new name bytes (Err writing.Memory) = SameBut name old new × (new name ≡ old name)

abbrev pub WritesFile : Option Files → Option Files → List ℕ → List ℕ → Result (Unit {0}) WriteFault → Type 0
WritesFile None new name bytes result = Unit {0}
WritesFile (Some old) new name bytes result = (files : Files) × (new ≡ Some files) × WritesFiles old files name bytes result

-- The count of faults hasn't fallen. A call that failed raised it, by one, and no other did.
pub record HasReadCause {T : Type 0} (before now : ℕ) (result : Result T ReadFault) : Type 0 where
  pub later : before ≤ now
  pub failed : IsErrOf result reading.Failed → Rose before now
  pub once : now ≤ before + 1
  pub ok : OnOk result (now ≡ before)
  pub others : IfErr result (λ fault. fault ≢ reading.Failed → now ≡ before)
