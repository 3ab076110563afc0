use Rattle.std.proofs.Common.{refl}
use Rattle.bank_store.proofs.Continuing.{continues_same}
use Rattle.bank_store.proofs.store.Store.prepare.Goals as goal

pub returns-clause-continues : goal.returns-clause-continues
returns-clause-continues c = continues_same c.args.self.now _ (record { size = refl; active = refl; known = c.reserve-2.ensures.items }) refl refl c.reserve.ensures.items
