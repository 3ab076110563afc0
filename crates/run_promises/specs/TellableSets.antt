-- A media set that was read can be told: its entries in requests, and its files in transfers (docs/FORMATS.md, "Media sets";
-- docs/EXCHANGE.md, "Operations").
use Rattle.std.specs.Prelude.{◌≡◌, ℕ, ◌≤◌, List, length, Some}
use Rattle.std.specs.List.{AllByRecursion}
use Rattle.load_base.specs.Host.{longest_file}
use Rattle.field_grammar.specs.Grammar.{IsBytes}
use Rattle.load_protocol_files.specs.Lur.{WantedFits}
use Rattle.media_lists.specs.Loads.{load_entry_view}
use Rattle.media_lists.specs.declared.lists.ListedFile.{ListedFile}
use Rattle.media_lists.specs.declared.lists.LoadEntry.{LoadEntry}
use Rattle.media_check.specs.Sets.{MediaBytes, entries_of, lists_in, set_in}
use Rattle.loader_machine.specs.Machine.{media_of, wanted_entry}
use Rattle.run_promises.specs.Promises.{CanBeTold}

-- what the media have of a listed file, if it is there, is bytes, and at most 16,777,215 of them
abbrev pub IsTellableFile : MediaBytes → ListedFile → Type 0
IsTellableFile media entry = (bytes : List ℕ) → media.listed entry ≡ Some bytes → IsBytes bytes × (length bytes ≤ longest_file)

-- What media have of member 1's LOADS.LUM, if it is there, is bytes, and each file that member 1's FILES.LUM lists is such a
-- file.
pub record AreTellable (media : MediaBytes) : Type 0 where
  pub loads : (bytes : List ℕ) → media.loads_list 1 ≡ Some bytes → IsBytes bytes
  pub files : AllByRecursion (IsTellableFile media) (entries_of (lists_in media 1).files)

-- The set of such media can be told: the entries of a list that was read have names and part numbers.
abbrev pub SetsCanBeTold : Type 0
SetsCanBeTold = (media : MediaBytes) → AreTellable media → CanBeTold (media_of (set_in media))

-- An entry of the list of loads has a name and a part number.
abbrev pub IsTellableLoad : LoadEntry → Type 0
IsTellableLoad entry = WantedFits (wanted_entry (load_entry_view entry))
