-- What an opening of a media set answers: the set, or the first refusal in reading order.
use Rattle.std.specs.Prelude.{◌≡◌, ◌≢◌, ℕ, ◌+◌, ◌<◌, ◌≤◌, ◌⊎◌, List, [], ◌∷◌, ◌++◌, All, length, map, Result, Ok, Err, IsErrOf, IfErr, OnOk}
use Rattle.std.specs.List.{sum_by}
use Rattle.load_base.specs.Counts.{Rose}
use Rattle.load_base.specs.Host.{Files, longest_file}
use Rattle.field_grammar.specs.Grammar.{Grammar}
use Rattle.media_check.specs.Kept.{IsShortFile, contents}
use Rattle.media_check.specs.Sets.{MemberView, SetView, found_in, found_view, lists_in, file_in, files_view, set_with, set_in, set_view}
use Rattle.media_lists.specs.declared.lists.ListedFile.{ListedFile}
use Rattle.media_check.specs.HostNames.{host_media, listed_name, ReadingOrder, further_reading, whole_reading}
use Rattle.media_check.specs.declared.fault.OpenFault.{OpenFault}
use Rattle.media_check.specs.declared.fault.OpenFault.TheVariants.{TooLong, TooLarge, Failed, Memory}
use Rattle.media_check.specs.declared.found.Found.{Found}
use Rattle.media_check.specs.declared.set.KeptFile.{KeptFile}
use Rattle.media_check.specs.declared.set.MediaSet.{MediaSet}

-- the most bytes of the listed files of a set, together
abbrev pub largest_set : ℕ
largest_set = 268435456

-- Of the files that are kept none is too long, and they have so many bytes together, which aren't too many for a set.
pub record AreKeptInRange (files : List KeptFile) (total : ℕ) : Type 0 where
  pub short : All IsShortFile files
  pub together : total ≤ largest_set

-- how many bytes the host has under this name
abbrev pub length_on_host : Files → List ℕ → ℕ
length_on_host files name = length (contents (files name))

-- there is no file of this name, or it has at most 16,777,215 bytes
abbrev pub IsShortOnHost : Files → List ℕ → Type 0
IsShortOnHost files name = length_on_host files name ≤ longest_file

-- how many bytes the files of these names have together
abbrev pub total_of : Files → List (List ℕ) → ℕ
total_of files names = sum_by (length_on_host files) names

-- No file is too long, and the listed files aren't too large together.
pub record CanRead (files : Files) (reading : ReadingOrder) : Type 0 where
  pub lists : All (IsShortOnHost files) reading.lists
  pub listed : All (IsShortOnHost files) reading.files
  pub together : total_of files reading.files ≤ largest_set

-- This is the first of these names whose file is too long.
pub record IsFirstLong (files : Files) (names : List (List ℕ)) (name : List ℕ) : Type 0 where
  pub before : List (List ℕ)
  pub after : List (List ℕ)
  pub stands : names ≡ before ++ name ∷ after
  pub others : All (IsShortOnHost files) before
  pub long : longest_file < length_on_host files name

-- This is the first of these names whose file is too long, and those before it aren't too large together.
pub record IsLongBeforeLarge (files : Files) (names : List (List ℕ)) (name : List ℕ) : Type 0 where
  pub first : IsFirstLong files names name
  pub together : total_of files first.before ≤ largest_set

-- With one of these names the files are too large together, and none so far was too long.
pub record IsFirstLarge (files : Files) (names : List (List ℕ)) : Type 0 where
  pub before : List (List ℕ)
  pub name : List ℕ
  pub after : List (List ℕ)
  pub stands : names ≡ before ++ name ∷ after
  pub others : All (IsShortOnHost files) before
  pub this : IsShortOnHost files name
  pub together : total_of files before ≤ largest_set
  pub passes : largest_set < total_of files before + length_on_host files name

-- This name is what an opening refuses as too long: of a list, or of a listed file once all lists were read.
abbrev pub IsTooLong : Files → ReadingOrder → List ℕ → Type 0
IsTooLong files reading name =
    IsFirstLong files reading.lists name ⊎ (All (IsShortOnHost files) reading.lists × IsLongBeforeLarge files reading.files name)

-- An opening refuses the set as too large.
abbrev pub IsTooLarge : Files → ReadingOrder → Type 0
IsTooLarge files reading = All (IsShortOnHost files) reading.lists × IsFirstLarge files reading.files

-- What is read in this order is the set, or refused where it is the first that can't be read. Failed and Memory say
-- nothing of the host's files.
abbrev pub ReadsSet : Files → ReadingOrder → SetView → Result MediaSet OpenFault → Type 0
ReadsSet files reading set (Ok opened) = CanRead files reading × (set_view opened ≡ set)
ReadsSet files reading set (Err (TooLong name)) = IsTooLong files reading name.items
ReadsSet files reading set (Err TooLarge) = IsTooLarge files reading
ReadsSet files reading set (Err Failed) = Unit {0}
ReadsSet files reading set (Err Memory) = Unit {0}

-- opening a set in a folder
abbrev pub Opens : (folder : List ℕ) → Result MediaSet OpenFault → Files → Type 0
Opens folder result files =
    ReadsSet files (whole_reading folder (lists_in (host_media files folder) 1)) (set_in (host_media files folder)) result

-- the same once the lists of member 1 were read
abbrev pub OpensRest : (folder : List ℕ) → MemberView → Result MediaSet OpenFault → Files → Type 0
OpensRest folder first result files = ReadsSet files (further_reading folder first) (set_with (host_media files folder) first) result

-- Reading the files of these names gives what is to be had of them, or refuses the first that is too long.
abbrev pub ReadsNames : {T : Type 0} → (names : List (List ℕ)) → (IsRead : Files → T → Type 0) → Result T OpenFault → Files → Type 0
ReadsNames names IsRead (Ok x) files = All (IsShortOnHost files) names × IsRead files x
ReadsNames names IsRead (Err (TooLong name)) files = IsFirstLong files names name.items
ReadsNames names IsRead (Err TooLarge) files = ⊥
ReadsNames names IsRead (Err Failed) files = Unit {0}
ReadsNames names IsRead (Err Memory) files = Unit {0}

-- a list is what is found under the name
abbrev pub ReadsList : {L V F : Type 0} → (L → V) → Grammar F V → (name : List ℕ) → Result (Found L F) OpenFault → Files → Type 0
ReadsList view format name result files =
    ReadsNames (name ∷ []) (λ files found. found_view view found ≡ found_in format (files name)) result files

-- The host's count of faults hasn't fallen. An opening that fails raised it, by one, and no other did: it stops at the first
-- call that fails.
pub record HasOpenCause {T : Type 0} (before now : ℕ) (result : Result T OpenFault) : Type 0 where
  pub later : before ≤ now
  pub failed : IsErrOf result Failed → Rose before now
  pub once : now ≤ before + 1
  pub ok : OnOk result (now ≡ before)
  pub others : IfErr result (λ fault. fault ≢ Failed → now ≡ before)

-- ---- the listed files

-- The next listed file was read, and is kept with those before it, which have `total` bytes together; or it is refused.
abbrev pub KeepsNext : (folder : List ℕ) → ListedFile → (total : ℕ) → (old new : List (List ℕ × KeptFile)) → Result ℕ OpenFault → Files → Type 0
KeepsNext folder entry total old new (Ok sum) files =
    IsShortOnHost files (listed_name folder entry) × (sum ≡ total + length_on_host files (listed_name folder entry))
    × (files_view new ≡ files_view old ++ file_in (host_media files folder) entry ∷ [])
KeepsNext folder entry total old new (Err (TooLong name)) files =
    (name.items ≡ listed_name folder entry) × (longest_file < length_on_host files (listed_name folder entry))
KeepsNext folder entry total old new (Err TooLarge) files =
    IsShortOnHost files (listed_name folder entry) × (largest_set < total + length_on_host files (listed_name folder entry))
KeepsNext folder entry total old new (Err Failed) files = Unit {0}
KeepsNext folder entry total old new (Err Memory) files = Unit {0}

-- All the listed files were read and are kept in their order; or the first that can't be is refused.
abbrev pub KeepsListed : {M : Type 0} → (M → List (List ℕ × KeptFile)) → (folder : List ℕ) → List ListedFile → Result M OpenFault → Files → Type 0
KeepsListed entries_in folder entries (Ok kept) files =
    All (IsShortOnHost files) (map (listed_name folder) entries) × (total_of files (map (listed_name folder) entries) ≤ largest_set)
    × (files_view (entries_in kept) ≡ map (file_in (host_media files folder)) entries)
KeepsListed entries_in folder entries (Err (TooLong name)) files = IsLongBeforeLarge files (map (listed_name folder) entries) name.items
KeepsListed entries_in folder entries (Err TooLarge) files = IsFirstLarge files (map (listed_name folder) entries)
KeepsListed entries_in folder entries (Err Failed) files = Unit {0}
KeepsListed entries_in folder entries (Err Memory) files = Unit {0}
