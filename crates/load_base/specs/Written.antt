-- Files that were written one after the other.
use Rattle.std.specs.Prelude.{◌≡◌, ℕ, List, [], ◌∷◌, ◌++◌, fold, if◌then◌else◌, Some, None}
use Rattle.load_base.specs.Bytes.{same_bytes}
use Rattle.load_base.specs.Host.{Files}
use Rattle.load_base.specs.declared.mem_host.Written.{Written}

abbrev pub no_files : Files
no_files name = None

-- the files after one more was written
abbrev pub with_file : Files → Written → Files
with_file files written name = if same_bytes written.name.items name then Some written.bytes.items else files name

-- the files after all these were written, in this order
unfoldable pub written_files : List Written → Files
written_files written = fold with_file no_files written

-- one more was written, with this name and these bytes
pub record IsAppended (old new : List Written) (name bytes : List ℕ) : Type 0 where
  pub file : Written
  pub named : file.name.items ≡ name
  pub has : file.bytes.items ≡ bytes
  pub appended : new ≡ old ++ file ∷ []
