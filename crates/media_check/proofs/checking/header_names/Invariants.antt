use Rattle.std.proofs.Common.{◌≡◌, ℕ, List, take}
use Rattle.std.specs.Prelude.{map}
use Rattle.indexmap.specs.IndexSet.{contains}
use Rattle.load_base.specs.Bytes.{same_bytes}
use Rattle.media_lists.specs.Entries.{is_listed}
use Rattle.media_lists.specs.Loads.{load_entry_view, load_name}
use Rattle.media_check.proofs.checking.header_names.Given as goal

abbrev pub invariant-loop-load : goal.invariant-loop-load
invariant-loop-load l =
    (name : List ℕ) → contains same_bytes l.names name ≡ is_listed load_name name (map load_entry_view (take l.load-index l.loads))
