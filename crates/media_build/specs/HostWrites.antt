-- The files of a built set in a folder of the host, and what writing files one after the other leaves
-- (docs/FORMATS.md, "Media sets").
use Rattle.std.specs.Prelude.{◌≡◌, ◌≢◌, ℕ, List, [], ◌∷◌, ◌++◌, length, map, filter, codes, ◌==◌, Result, Ok, Err, Option, Some, None, Bool, if◌then◌else◌}
use Rattle.std.specs.List.{flat_map, range_with_len}
use Rattle.load_base.specs.Bytes.{same_bytes}
use Rattle.load_base.specs.Host.{Files}
use Rattle.load_base.specs.declared.sink.WriteFault.{WriteFault}
use Rattle.load_base.specs.declared.sink.WriteFault.TheVariants as writing
use Rattle.media_check.specs.BuiltSets.{member_list}
use Rattle.media_check.specs.HostNames.{host_name, loads_name, files_name, batches_name}
use Rattle.media_check.specs.declared.built.Built.{Built}
use Rattle.media_check.specs.declared.built.Placed.{Placed}

-- a name of the host and the bytes that are written under it
abbrev pub Written : Type 0
Written = List ℕ × List ℕ

-- ---- the files of a built set

-- a list of a member, where there is one
abbrev pub written_list : (name : List ℕ) → Option (List ℕ) → List Written
written_list name None = []
written_list name (Some bytes) = (name, bytes) ∷ []

-- a file lies in its member's own folder
abbrev pub written_body : (folder : List ℕ) → Placed → Written
written_body folder body = (host_name folder body.member (codes "\\") body.name, body.bytes.items)

abbrev pub is_of : (member : ℕ) → Placed → Bool
is_of member body = body.member == member

-- the files of a member, in the order of its list
abbrev pub written_bodies : (folder : List ℕ) (member : ℕ) → List Placed → List Written
written_bodies folder member bodies = map (written_body folder) (filter (is_of member) bodies)

-- the lists of a member, and its files
unfoldable pub written_member : (folder : List ℕ) → Built → (member : ℕ) → List Written
written_member folder built member =
    written_list (loads_name folder member) (member_list built.loads.items member)
    ++ (written_list (files_name folder member) (member_list built.files.items member)
    ++ (written_list (batches_name folder member) (member_list built.batches.items member)
    ++ written_bodies folder member built.bodies.items))

-- What is written of a built set, member by member.
unfoldable pub written_files : (folder : List ℕ) → Built → List Written
written_files folder built = flat_map (written_member folder built) (range_with_len 1 (length built.loads.items))

-- ---- what writing leaves

-- what each name has after these files were written in their order
abbrev pub after_writes : List Written → Files → Files
after_writes [] files = files
after_writes (this ∷ later) files = after_writes later (λ name. if same_bytes name this.0 then Some this.1 else files name)

-- The host failed at one of the files: those before it were written, it may have anything, and each other name has what it
-- had.
pub record IsCutShort (written : List Written) (old new : Files) : Type 0 where
  pub before : List Written
  pub this : Written
  pub after : List Written
  pub stands : written ≡ before ++ this ∷ after
  pub others : (name : List ℕ) → name ≢ this.0 → new name ≡ after_writes before old name

-- The first of the files were written, and nothing of the others.
pub record IsPrefixWritten (written : List Written) (old new : Files) : Type 0 where
  pub before : List Written
  pub after : List Written
  pub stands : written ≡ before ++ after
  pub have : (name : List ℕ) → new name ≡ after_writes before old name

-- All were written in their order, or the host failed at one of them, or memory ran out before one of them.
abbrev pub WritesAllFiles : List Written → Files → Files → Result (Unit {0}) WriteFault → Type 0
WritesAllFiles written old new (Ok x) = (name : List ℕ) → new name ≡ after_writes written old name
WritesAllFiles written old new (Err writing.Failed) = IsCutShort written old new
WritesAllFiles written old new (Err writing.Memory) = IsPrefixWritten written old new

-- The same of a host that may not tell its files; it goes on telling them.
abbrev pub WritesTold : List Written → Option Files → Option Files → Result (Unit {0}) WriteFault → Type 0
WritesTold written None new result = Unit {0}
WritesTold written (Some old) new result = (files : Files) × (new ≡ Some files) × WritesAllFiles written old files result

pub record WritesToHost (written : List Written) (old new : Option Files) (result : Result (Unit {0}) WriteFault) : Type 0 where
  pub told : WritesTold written old new result
