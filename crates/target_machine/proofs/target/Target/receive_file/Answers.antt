use Rattle.std.proofs.Common.{[], ◌∷◌, ◌∙◌, refl, sym, ap}
use Rattle.transfer_end.specs.Calls.{posts_view}
use Rattle.transfer_end.specs.Moves.{Serves}
use Rattle.transfer_end.specs.Packets.{is_busy}
use Rattle.transfer_end.specs.Transfers.{ServesWrite}
use Rattle.session_rules.specs.Target.{doing}
use Rattle.target_machine.specs.Decisions.{TargetState}
use Rattle.target_machine.proofs.Calm.{calm}
use Rattle.target_machine.proofs.Following.{does_so}
use Rattle.target_machine.proofs.Serving.{makes_so, not_taken, serves, writes}
use Rattle.target_machine.proofs.target.Target.receive_file.Goals as goal

pub returns-then-not-may_serve-clause-does : goal.returns-then-not-may_serve-clause-does
returns-then-not-may_serve-clause-does g c =
    writes c.args.self.now c.may_serve.new.self c.args.from c.args.name.now c.args.options (posts_view c.none-then-not-may_serve.result)
    (ap (λ (x : TargetState g.row.R.Denot). is_busy x.view.end) (sym c.self.view_is) ∙ sym c.is_busy.ensures ∙ c.if-is_busy.false) (sym c.awaits.ensures ∙ c.if-not-awaits.false)
    (not_taken c.args.self.now c.may_serve.new.self c.args.from (doing (Serves c.args.from (ServesWrite c.args.name.now c.args.options) ∷ [])) c.may_serve.result (posts_view c.none-then-not-may_serve.result) c.may_serve.ensures.serves c.if-not-may_serve.true c.none-then-not-may_serve.ensures)

pub returns-clause-does : goal.returns-clause-does
returns-clause-does g c =
    writes c.args.self.now _ c.args.from c.args.name.now c.args.options (posts_view c.of.result)
    (ap (λ (x : TargetState g.row.R.Denot). is_busy x.view.end) (sym c.self.view_is) ∙ sym c.is_busy.ensures ∙ c.if-is_busy.false) (sym c.awaits.ensures ∙ c.if-not-awaits.false)
    (serves c.args.self.now c.may_serve.new.self _ c.args.from (doing (Serves c.args.from (ServesWrite c.args.name.now c.args.options) ∷ [])) (posts_view c.of.result) c.may_serve.result c.may_serve.ensures.serves c.if-not-may_serve.false
    (λ same. does_so _ c.args.self.now _ (Serves c.args.from (ServesWrite c.args.name.now c.args.options) ∷ []) c.serve_write.new.self (posts_view c.of.result) (c.self-2.view_is ∙ same)
    (calm c.self-2.inside.installed.active.loads c.self-2.inside.live c.self-2.inside.installed.store c.self-2.invariant)
    (makes_so _ _ _ _ _ c.of.ensures (c.in_ok-post.ensures c.args.name.now)) refl refl))
