use Rattle.std.proofs.Common.{◌≤◌, length, sym, subst}
use Rattle.std.proofs.lemmas.List.Elements.{All-get_or}
use Rattle.field_grammar.proofs.WrittenLemmas.{written_more_seen}
use Rattle.batch_lists.specs.Batch.{batch_target_view}
use Rattle.batch_lists.specs.BatchFields.{batch_target_fields}
use Rattle.batch_lists.specs.declared.batch.BatchTarget.{BatchTarget}
use Rattle.batch_lists.proofs.batch_writing.put_targets.Goals as goal

pub put_target-requires : goal.put_target-requires
put_target-requires c =
    subst (λ (t : BatchTarget). length t.parts.items ≤ 32) (sym c.target-item.is) (All-get_or (λ (t : BatchTarget). length t.parts.items ≤ 32) c.args.targets.now c.loop-target.target-index c.target-item.result c.loop-target-test.true c.requires)

pub loop-target-preserved : goal.loop-target-preserved
loop-target-preserved c =
    written_more_seen batch_target_fields batch_target_view c.args.out.now c.loop-target.out c.put_target.new.out c.args.targets.now c.loop-target.target-index c.target-item.result c.loop-target-test.true c.target-item.is c.loop-target.invariant c.in_ok-put_target.ensures
