use Rattle.std.proofs.Common.{rules, arith}
use Rattle.media_lists.specs.Loads.{load_entry_view, load_body_fields, kept_fields, IsListedLoad}
use Rattle.header_sections.proofs.SizeLemmas.{short_at}
use Rattle.media_lists.proofs.Seen.{each_seen, each_unseen, distances_seen, distances_unseen}
use Rattle.field_grammar.proofs.WrittenLemmas.{all_taken}
use Rattle.media_lists.proofs.Fits.{true_or_false, each_at, distances_from}
use Rattle.media_lists.proofs.fitting.are_loads.Goals as goal

pub returns-then-not-is_load : goal.returns-then-not-is_load
returns-then-not-is_load c = (
  λ not_so. search rules,
  λ all. absurd (true_or_false c.is_load.result
      (c.is_load.ensures.1 (
        each_at (λ load. IsListedLoad c.args.members (load_entry_view load)) c.args.loads.now c.loop-index.index c.index-loads-index.result c.loop-index-test.true c.index-loads-index.is (each_seen (IsListedLoad c.args.members) load_entry_view c.args.loads.now all.0),
        λ other. short_at kept_fields c.args.loads.now c.loop-index.index c.index-loads-index.result (distances_seen load_body_fields load_entry_view c.args.loads.now all.1) c.loop-index-test.true c.index-loads-index.is other,
      )) c.if-not-is_load.true),
)

pub returns : goal.returns
returns c = (
  λ so. (
    each_unseen (IsListedLoad c.args.members) load_entry_view c.args.loads.now (all_taken (λ load. IsListedLoad c.args.members (load_entry_view load)) c.args.loads.now c.loop-index.index c.loop-index-test.false c.loop-index.invariant.each),
    distances_unseen load_body_fields load_entry_view c.args.loads.now (distances_from kept_fields c.args.loads.now (λ k d lt. c.loop-index.invariant.short k d (omega (arith, lt, c.loop-index-test.false)) lt)),
  ),
  λ all. search rules,
)
