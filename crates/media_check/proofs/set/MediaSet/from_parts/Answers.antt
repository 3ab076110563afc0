use Rattle.std.proofs.Common.{◌≤◌, ℕ, List, Option, length, map, ap, sym, subst, ◌∙◌}
use Rattle.load_base.specs.Host.{longest_file}
use Rattle.media_check.specs.BuiltSets.{built_lists}
use Rattle.media_check.specs.Kept.{contents}
use Rattle.media_check.specs.Sets.{lists_view, files_view, entries_of}
use Rattle.media_check.proofs.Bodies.{short_body, files_same, parts_joined}
use Rattle.media_check.proofs.set.MediaSet.from_parts.Goals as goal

pub listed_bodies-requires-clause-short : goal.listed_bodies-requires-clause-short
listed_bodies-requires-clause-short c =
    λ name.
    subst (λ (b : Option (List ℕ)). length (contents b) ≤ longest_file) (sym (c.in_ok-bodies.ensures name)) (short_body c.args.built.bodies.items name c.requires)

pub returns : goal.returns
returns c =
    let built = c.args.built in
    let first = rw (c.as_slice-loads.ensures, c.as_slice-files.ensures, c.as_slice-batches.ensures) at c.in_ok-first.ensures.lists in
    let further = rw (c.as_slice-loads.ensures, c.as_slice-files.ensures, c.as_slice-batches.ensures) at c.in_ok-further.ensures.lists in
    parts_joined built (lists_view c.in_ok-first.first) (map lists_view c.in_ok-further.further.items) (files_view c.in_ok-files.files.entries) first
    (further ∙ ap (map (built_lists built.loads.items built.files.items built.batches.items)) c.count_further-count.ensures.members)
    (c.in_ok-files.ensures.files ∙ files_same built c.in_ok-bodies.bodies.entries c.in_ok-bodies.ensures (entries_of (lists_view c.in_ok-first.first).files))
