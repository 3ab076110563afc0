use Rattle.transfer_end.specs.Calls.{posts_view}
use Rattle.transfer_end.specs.Transfers.{ServesWrite}
use Rattle.loader_machine.proofs.Serving.{makes_so, not_taken, serves, writes}
use Rattle.loader_machine.proofs.loader.Loader.receive_file.Goals as goal

pub returns-then-not-branch : goal.returns-then-not-branch
returns-then-not-branch c = λ x live.
    writes c.args.self.now c.may_serve.new.self x c.args.from c.args.name.now c.args.options (posts_view c.none-then-not-branch.result) c.awaits.result (c.awaits.ensures x live) c.if-not-awaits.false
    (not_taken c.args.self.now c.may_serve.new.self c.args.from (ServesWrite c.args.name.now c.args.options) c.in_ok-may_serve.field-0 (posts_view c.none-then-not-branch.result)
    c.in_ok-may_serve.ensures c.if-not-branch.true c.none-then-not-branch.ensures)

pub returns : goal.returns
returns c = λ x live.
    writes c.args.self.now _ x c.args.from c.args.name.now c.args.options (posts_view c.of.result) c.awaits.result (c.awaits.ensures x live) c.if-not-awaits.false
    (serves _ c.may_serve.new.self c.args.self.now c.serve_write.new.self c.args.from (ServesWrite c.args.name.now c.args.options) (posts_view c.of.result) c.in_ok-may_serve.field-0
    c.self.view_is c.in_ok-may_serve.ensures c.if-not-branch.false (makes_so _ _ _ _ _ c.of.ensures (c.in_ok-post.ensures c.args.name.now)))
