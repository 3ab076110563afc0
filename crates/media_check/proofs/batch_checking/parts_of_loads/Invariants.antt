use Rattle.std.proofs.Common.{◌≡◌, ℕ, List, take}
use Rattle.std.specs.Prelude.{map}
use Rattle.indexmap.specs.IndexSet.{contains}
use Rattle.load_base.specs.Bytes.{same_bytes}
use Rattle.media_lists.specs.Loads.{load_entry_view}
use Rattle.media_check.specs.Findings.{is_part_of}
use Rattle.media_check.proofs.batch_checking.parts_of_loads.Given as goal

abbrev pub invariant-loop-load : goal.invariant-loop-load
invariant-loop-load l =
    (part : List ℕ) → contains same_bytes l.parts part ≡ is_part_of (map load_entry_view (take l.load-index l.loads)) part
