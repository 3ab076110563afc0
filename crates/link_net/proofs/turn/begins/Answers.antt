use Rattle.link_net.proofs.Turns.{once_is}
use Rattle.link_net.proofs.turn.begins.Goals as goal

pub returns-in-Give-clause-turn : goal.returns-in-Give-clause-turn
returns-in-Give-clause-turn c =
    let said = rw c.from.ensures at (c.delivery.ensures.value c.args.waiting.loader c.args.waiting.target) in
    rw c.in-Give.is (once_is _ _ _ _ c.once-in-Give.ensures said c.delivery.ensures.named)

pub returns-in-Lose-clause-turn : goal.returns-in-Lose-clause-turn
returns-in-Lose-clause-turn c =
    let said = rw c.from-in-Lose.ensures at (c.loss.ensures.value c.args.waiting.loader c.args.waiting.target) in
    rw c.in-Lose.is (once_is _ _ _ _ c.once-in-Lose.ensures said c.loss.ensures.named)
