use Rattle.std.proofs.Common.{refl, arith}
use Rattle.bank_store.specs.Given.{with_file}
use Rattle.bank_store.proofs.Continuing.{continues_filling}
use Rattle.bank_store.proofs.Giving.{given_file}
use Rattle.bank_store.proofs.store.Store.end_file.Goals as goal

pub returns-clause-continues : goal.returns-clause-continues
returns-clause-continues c =
    continues_filling c.args.self.now _ c.in-Filling.progress _ (with_file c.args.name) (record { size = refl; active = refl; known = refl }) refl c.in-Filling.is refl
    (λ image g was. grind (arith, given_file))
