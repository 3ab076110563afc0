-- What was given to a store of a configuration that is being installed (docs/DISK.md).
use Rattle.std.specs.Prelude.{◌≡◌, ℕ, ◌+◌, ◌≤◌, Option, Some, List, [], ◌∷◌, ◌++◌, length, map}
use Rattle.std.specs.List.{All, concat, flat_map}
use Rattle.load_base.specs.Config.{FileView, LoadView}
use Rattle.load_base.specs.Host.{longest_file}
use Rattle.load_base.specs.Name.{IsName}
use Rattle.load_base.specs.PartText.{IsPartText}
use Rattle.field_grammar.specs.Fields.{number_fields}
use Rattle.disk_model.specs.Image.{Image, range}
use Rattle.disk_layout.specs.Offsets.{most_loads, most_files}
use Rattle.disk_layout.specs.Manifest.{HasTypeOf, file_entry_fields, type_fields}
use Rattle.disk_layout.specs.declared.manifest.Layout.TheVariants as layouts
use Rattle.disk_layout.specs.Contents.{file_entry_of, bytes_of, first_name}
use Rattle.disk_layout.specs.Holds.{StandingView}
use Rattle.disk_layout.specs.Slots.{other_bank}
use Rattle.bank_store.specs.Store.{IsFilling, work_at}
use Rattle.bank_store.specs.declared.store.Store.{Store}
use Rattle.bank_store.specs.declared.stage.Filling.{Filling}

-- a load with its type id, with how many files it is to have, and those that have ended
pub record GivenLoad : Type 0 where
  pub part : List ℕ
  pub type_id : Option ℕ
  pub announced : ℕ
  pub files : List FileView

-- the loads in their order, and the bytes so far of the file that ends next
pub record Given : Type 0 where
  pub loads : List GivenLoad
  pub bytes : List ℕ

-- ---- giving more

abbrev pub nothing_given : Given
nothing_given = record { loads = []; bytes = [] }

-- a load of this type and of this many files begins
abbrev pub with_load : (part : List ℕ) (type_id announced : ℕ) → Given → Given
with_load part type_id announced g = record { loads = g.loads ++ record { part = part; type_id = Some type_id; announced = announced; files = [] } ∷ []; bytes = g.bytes }

-- more bytes come of the file that ends next
abbrev pub with_bytes : List ℕ → Given → Given
with_bytes more g = record { loads = g.loads; bytes = g.bytes ++ more }

-- the last load has one file more
abbrev pub file_to_last : FileView → List GivenLoad → List GivenLoad
file_to_last file [] = []
file_to_last file (load ∷ []) = record { part = load.part; type_id = load.type_id; announced = load.announced; files = load.files ++ file ∷ [] } ∷ []
file_to_last file (load ∷ next ∷ loads) = load ∷ file_to_last file (next ∷ loads)

-- a file of this name ends, with the bytes that came
abbrev pub with_file : (name : List ℕ) → Given → Given
with_file name g = record { loads = file_to_last (record { name = name; bytes = g.bytes }) g.loads; bytes = [] }

-- a load is given with all its files
abbrev pub whole_given : LoadView → GivenLoad
whole_given load = record { part = load.part; type_id = load.type_id; announced = length load.files; files = load.files }

abbrev pub with_whole : LoadView → Given → Given
with_whole load g = record { loads = g.loads ++ whole_given load ∷ []; bytes = g.bytes }

-- ---- what it comes to

-- a load whose files are all there
abbrev pub IsWholeLoad : GivenLoad → Type 0
IsWholeLoad load = length load.files ≡ load.announced

-- each load has all its files, but the last, of which this many are still to end
abbrev pub Misses : ℕ → List GivenLoad → Type 0
Misses missing [] = missing ≡ 0
Misses missing (load ∷ []) = length load.files + missing ≡ load.announced
Misses missing (load ∷ next ∷ loads) = IsWholeLoad load × Misses missing (next ∷ loads)

-- the header of a load is its first file
abbrev pub load_of : GivenLoad → LoadView
load_of load = record { part = load.part; type_id = load.type_id; header_name = first_name load.files; files = load.files }

-- the bytes of all files that have ended, and of the one that ends next
abbrev pub bytes_given : Given → List ℕ
bytes_given g = bytes_of (flat_map (λ (l : GivenLoad). l.files) g.loads) ++ g.bytes

-- a load as it is written in the manifest, as far as its files have ended
abbrev pub given_fields : GivenLoad → List (List ℕ)
given_fields load = (load.part ∷ []) ++ (type_fields layouts.Two load.type_id ++ (number_fields 2 load.announced ++ flat_map file_entry_fields (map file_entry_of load.files)))

-- a file that a manifest can name
pub record IsFile (file : FileView) : Type 0 where
  pub name : IsName file.name
  pub short : length file.bytes ≤ longest_file

-- a load that a manifest can name
pub record IsLoad (load : GivenLoad) : Type 0 where
  pub part : IsPartText load.part
  pub type_id : HasTypeOf layouts.Two load.type_id
  pub some : 1 ≤ load.announced
  pub few : load.announced ≤ most_files
  pub files : All (λ (f : FileView). IsFile f) load.files

-- ---- what the store and the disk hold of it

-- the other bank begins with the bytes that were given, and the manifest has their loads
pub record HasGiven (store : Store) (image : Image) (g : Given) : Type 0 where
  pub progress : Filling
  pub stage : IsFilling store progress
  pub loads : length g.loads ≡ progress.loads
  pub few : progress.loads ≤ most_loads
  pub missing : Misses progress.missing g.loads
  pub each : All (λ (l : GivenLoad). IsLoad l) g.loads
  pub body : store.body.items ≡ concat (flat_map given_fields g.loads)
  pub end : length (bytes_given g) ≡ progress.end
  pub start : progress.start + length g.bytes ≡ progress.end
  pub written : range image (work_at store) progress.end ≡ bytes_given g

-- the configuration with these loads that follows one on its target: in the other bank, with the next sequence number
abbrev pub configured : StandingView → List LoadView → StandingView
configured s loads = record { identity = s.identity; bank = other_bank s.bank; sequence = s.sequence + 1; loads = loads }

-- the loads that were given
abbrev pub loads_of : Given → List LoadView
loads_of g = map load_of g.loads
