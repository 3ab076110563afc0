use Rattle.std.proofs.Common.{◌≡◌, ◌+◌, ◌*◌, ◌≤◌, ◌^◌, take}
use Rattle.header_sections.proofs.SizeLemmas.{total_of}
use Rattle.header_sections.proofs.entries.entries_size.Given as goal

abbrev pub invariant-loop-entry : goal.invariant-loop-entry
invariant-loop-entry g l = record {
  so_far : l.size ≡ 2 + total_of g.E.Entry.body_fields (take l.entry-index l.entries);
  small : l.size ≤ 2 + 2 ^ 33 * l.entry-index;
}
