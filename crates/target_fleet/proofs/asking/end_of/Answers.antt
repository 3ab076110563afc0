use Rattle.std.proofs.Common.{◌≤◌, ℕ, sym, subst}
use Rattle.std.proofs.lemmas.List.{length-map}
use Rattle.batch_lists.specs.Batch.{batch_target_view, batch_view}
use Rattle.target_fleet.proofs.asking.end_of.Goals as goal

pub end_in_batch-requires-clause-within : goal.end_in_batch-requires-clause-within
end_in_batch-requires-clause-within g c =
    subst (λ (n : ℕ). c.args.running.asked ≤ n) (length-map c.in-Some.batch.now.targets.items batch_target_view) (c.requires.within (batch_view c.in-Some.batch.now) (sym c.in-Some.ensures))

pub end_in_batch-requires-clause-few : goal.end_in_batch-requires-clause-few
end_in_batch-requires-clause-few g c =
    subst (λ (n : ℕ). n ≤ 64) (length-map c.in-Some.batch.now.targets.items batch_target_view) (c.requires.few c.args.running.part (batch_view c.in-Some.batch.now) (sym c.in-Some.ensures))
