use Rattle.std.proofs.Common.{refl, arith}
use Rattle.bank_store.specs.Given.{with_load}
use Rattle.bank_store.proofs.Continuing.{continues_filling}
use Rattle.bank_store.proofs.Giving.{given_load}
use Rattle.bank_store.proofs.store.Store.start_load.Goals as goal

pub returns-clause-continues : goal.returns-clause-continues
returns-clause-continues c =
    continues_filling c.args.self.now _ c.in-Filling.progress _ (with_load c.args.part c.args.type_id c.args.files) (record { size = refl; active = refl; known = refl }) refl c.in-Filling.is refl
    (λ image g was. grind (arith, given_load))
