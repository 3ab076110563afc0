use Rattle.std.proofs.Common.{◌≡◌, drop}
use Rattle.std.specs.Prelude.{map}
use Rattle.std.specs.Cmp.Lexicographic.{pointwise}
use Rattle.media_lists.specs.Loads.{load_entry_view}
use Rattle.media_check.specs.Findings.{same_load as same_load_of}
use Rattle.media_check.proofs.comparing.same_loads.Given as goal

abbrev pub invariant-loop-index : goal.invariant-loop-index
invariant-loop-index l =
    pointwise same_load_of (map load_entry_view l.one) (map load_entry_view l.other)
    ≡ pointwise same_load_of (drop l.index (map load_entry_view l.one)) (drop l.index (map load_entry_view l.other))
