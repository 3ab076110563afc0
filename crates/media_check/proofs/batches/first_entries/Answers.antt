use Rattle.std.proofs.Common.{◌≡◌, ◌+◌, ◌-◌, ◌<◌, ℕ, List, Some, cond, length, drop, ap, sym, subst, ◌∙◌, arith}
use Rattle.std.specs.Map.{lookup}
use Rattle.batch_lists.specs.declared.batches.BatchEntry.{BatchEntry}
use Rattle.load_base.specs.Bytes.{same_bytes}
use Rattle.media_check.specs.Batches.{entry_at, first_batch}
use Rattle.media_check.proofs.KeptBatches.{first_more}
use Rattle.media_check.proofs.batches.first_entries.Goals as goal

pub loop-left-preserved : goal.loop-left-preserved
loop-left-preserved c =
    let entries = c.args.entries.now in
    let i = c.loop-left.left - 1 in
    let next : c.loop-left.left ≡ i + 1 = omega (arith, c.loop-left-test.true) in
    let within : i < length entries = omega (arith, c.loop-left-test.true, c.loop-left.invariant.within) in
    record {
      within = omega (arith, c.loop-left.invariant.within);
      first =
          λ part.
          let old = lookup (same_bytes part) c.loop-left.first.entries in
          first_more entries i c.index-entries-left.result part old (lookup (same_bytes part) c.insert.new.self.entries) within c.index-entries-left.is
          (c.in_ok-insert.ensures.updates.0 part ∙ ap (λ (key : List ℕ). cond (same_bytes key part) (Some i) old) (c.text.ensures ∙ ap (λ (e : BatchEntry). e.part) (sym c.index-entries-left.is)))
          (subst (λ (n : ℕ). entry_at entries old ≡ first_batch part (drop n entries)) next (c.loop-left.invariant.first part));
    }
