use Rattle.std.proofs.Common.{◌<◌, length, arith}
use Rattle.link_net.specs.Mail.{scene_in}
use Rattle.link_net.proofs.Turns.{lines_take, on_err}
use Rattle.link_net.proofs.turn.from_lines.Goals as goal

pub returns-in_err-begun-clause-memory : goal.returns-in_err-begun-clause-memory
returns-in_err-begun-clause-memory c =
    let within : c.loop-at.at < length c.args.lines.now = omega (arith, c.loop-at-test.true) in
    let takes = lines_take (scene_in c.args.mail.now c.args.waiting.loader c.args.waiting.target) c.args.lines.now c.loop-at.at c.index-lines-at.result within c.index-lines-at.is c.in_err-begun.ensures.memory in
    on_err c.from_residual.result _ (rw c.loop-at.invariant.left takes)
