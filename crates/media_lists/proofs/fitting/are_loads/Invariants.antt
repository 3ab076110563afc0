use Rattle.std.proofs.Common.{◌+◌, ◌<◌, ◌≤◌, ℕ, take, get_or, length}
use Rattle.std.specs.List.{AllByRecursion}
use Rattle.header_sections.specs.SectionFields.{entry_size}
use Rattle.media_lists.specs.Loads.{load_entry_view, kept_fields, IsListedLoad}
use Rattle.media_lists.specs.declared.lists.LoadEntry.{LoadEntry}
use Rattle.media_lists.proofs.fitting.are_loads.Given as goal

abbrev pub invariant-loop-index : goal.invariant-loop-index
invariant-loop-index l = record {
  each : AllByRecursion (λ load. IsListedLoad l.members (load_entry_view load)) (take l.index l.loads);
  short : (k : ℕ) (d : LoadEntry) → k < l.index → k + 1 < length l.loads → entry_size kept_fields (get_or l.loads k d) ≤ 131070;
}
