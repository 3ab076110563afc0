-- What a host has under a name, and what a command does to a host, where that tells its files.
use Rattle.std.specs.Prelude.{◌≡◌, ℕ, ◌<◌, List, length, Option, Some, None}
use Rattle.load_base.specs.Host.{Files, longest_file}

-- the host has this under the name, where it tells its files
abbrev pub HostHas : Option Files → List ℕ → Option (List ℕ) → Type 0
HostHas None name file = Unit {0}
HostHas (Some files) name file = files name ≡ file

-- the host has more bytes under the name than it reads, where it tells its files
abbrev pub HasTooMany : Option Files → List ℕ → Type 0
HasTooMany None name = Unit {0}
HasTooMany (Some files) name = (bytes : List ℕ) × (files name ≡ Some bytes) × (longest_file < length bytes)

-- A host's files and faults before and after a command.
pub record HostWork : Type 0 where
  pub files : Option Files
  pub files_after : Option Files
  pub faults : ℕ
  pub faults_after : ℕ

-- its files are those that it had
abbrev pub KeepsFiles : HostWork → Type 0
KeepsFiles host = host.files_after ≡ host.files
