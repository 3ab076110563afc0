use Rattle.std.proofs.Common.{◌≡◌, ℕ, Option, Some, inr, subst, arith, rules}
use Rattle.recovery.specs.Outlines.{LeftAfterLoads}
use Rattle.recovery.proofs.Outlined.{other_lengths, tells}
use Rattle.recovery.proofs.manifests.check_manifest.Goals as goal

pub returns-in-Ok-clause-tells : goal.returns-in-Ok-clause-tells
returns-in-Ok-clause-tells c =
    let same : c.in-Ok.left ≡ Some 0 = search rules in
    tells c.args.bytes.now c.args.contents (λ i. omega (arith, c.type_inv.bytes i)) (subst (λ (left : Option ℕ). LeftAfterLoads c.args.bytes.now c.args.contents left) same c.in-Ok.ensures.space)

pub returns-in-Ok-2-clause-refused : goal.returns-in-Ok-2-clause-refused
returns-in-Ok-2-clause-refused c =
    let other : ¬ (c.in-Ok-2.field-0 ≡ Some 0) = search rules in
    inr (other_lengths c.args.bytes.now c.args.start c.args.contents c.in-Ok-2.field-0 _ (λ i. omega (arith, c.type_inv.bytes i)) c.in-Ok-2.ensures.space other (search rules))
