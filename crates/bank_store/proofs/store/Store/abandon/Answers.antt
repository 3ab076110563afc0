use Rattle.std.proofs.Common.{arith}
use Rattle.bank_store.proofs.store.Store.abandon.Goals as goal

pub returns-then-not-matches-clause-prepared : goal.returns-then-not-matches-clause-prepared
returns-then-not-matches-clause-prepared c begun =
    let has = c.args.self.now.keeps.begun begun in
    record {
      idle = c.forget.ensures.idle;
      spare = omega (arith, has.spare, c.forget.ensures.spare);
      known = rw c.forget.ensures.known has.known_spare;
    }
