use Rattle.std.proofs.Common.{◌≡◌, ℕ, List, take, map, false}
use Rattle.std.specs.HashMap.{keys, values}
use Rattle.std.specs.Map.{lookup}
use Rattle.std.specs.Prelude.{All}
use Rattle.load_base.specs.Bytes.{same_bytes}
use Rattle.media_lists.specs.Entries.{is_listed}
use Rattle.media_lists.specs.Files.{file_name}
use Rattle.media_check.specs.BuiltSets.{file_with}
use Rattle.media_check.specs.Kept.{IsShortFile}
use Rattle.media_check.specs.Sets.{files_view}
use Rattle.media_check.proofs.built.bodies_of.Given as goal

abbrev pub invariant-loop-entry : goal.invariant-loop-entry
invariant-loop-entry l = record {
  rest : (name : List ℕ) → is_listed file_name name (take l.entry-index l.entries) ≡ false → lookup (same_bytes name) l.loose.entries ≡ lookup (same_bytes name) l.initial.loose.entries;
  names : keys l.kept ≡ map file_name (take l.entry-index l.entries);
  files : files_view l.kept.entries ≡ map (file_with l.initial.loose.entries) (take l.entry-index l.entries);
  short : All IsShortFile (values l.kept);
}
