use Rattle.std.proofs.Common.{[], ◌∷◌, None, Some, refl, sym, ap, subst, ◌∙◌}
use Rattle.transfer_end.specs.Calls.{posts_view}
use Rattle.transfer_end.specs.Moves.{Serves, Stops, view_after}
use Rattle.transfer_end.specs.Transfers.{ServesRead}
use Rattle.exchange_trace.specs.declared.trace.Side.TheVariants as sides
use Rattle.session_rules.specs.Target.{Begins, TargetView, in_row, later_reason, own_file, reason_in}
use Rattle.session_rules.specs.TargetRows.{RowView}
use Rattle.target_machine.specs.Decisions.{TargetKeeps, TargetState, end_with, kind_given, with_live}
use Rattle.target_machine.proofs.Calm.{begins_in, idle_stage}
use Rattle.target_machine.proofs.Serving.{begins_session, makes_so, not_taken, serves}
use Rattle.target_machine.proofs.target.Target.begin.Goals as goal

pub returns-then-not-may_serve-clause-does : goal.returns-then-not-may_serve-clause-does
returns-then-not-may_serve-clause-does g c = λ name.
    not_taken c.args.self.now c.may_serve.new.self c.args.from
    (record { moves = Stops ∷ Serves c.args.from (ServesRead name c.args.options (own_file (kind_given c.args.kind) c.args.self.now.view.active.sequence)) ∷ []; change = Begins (kind_given c.args.kind) })
    c.may_serve.result (posts_view c.none.result) c.may_serve.ensures.serves c.if-not-may_serve.true c.none.ensures

pub invariant_of-self-in-Err-1 : goal.invariant_of-self-in-Err-1
invariant_of-self-in-Err-1 g c =
    idle_stage c.self.inside.installed.active.loads c.self.inside.live c.first_row.new.self.store (ap (λ (y : TargetState g.row.R.Denot). y.view.live) c.self.view_is ∙ ap (λ (v : TargetView). v.live) c.close.ensures.closes.view_is) c.first_row.ensures.idle

pub returns-in-Ok-clause-does : goal.returns-in-Ok-clause-does
returns-in-Ok-clause-does g c = λ name.
    let i = c.self.inside in
    let row = c.in_ok-row.row in
    serves c.args.self.now c.may_serve.new.self _ c.args.from
    (record { moves = Stops ∷ Serves c.args.from (ServesRead name c.args.options (own_file (kind_given c.args.kind) c.args.self.now.view.active.sequence)) ∷ []; change = Begins (kind_given c.args.kind) })
    (posts_view c.of.result) c.may_serve.result c.may_serve.ensures.serves c.if-not-may_serve.false
    (λ same. begins_session c.args.self.now c.may_serve.new.self _ _ c.args.from c.args.kind name c.args.options (own_file (kind_given c.args.kind) i.installed.active.sequence) (posts_view c.of.result) same
    (subst (λ (y : TargetState g.row.R.Denot). TargetKeeps c.may_serve.new.self y (with_live (end_with c.may_serve.new.self.view (view_after sides.Target c.may_serve.new.self.view.end Stops)) None)) (sym c.self.view_is) c.close.ensures.closes)
    refl
    (makes_so _ _ _ _ _ c.of.ensures (c.in-Ok.ensures c.args.kind i.installed.active.sequence name (c.in_ok-row.ensures.row []))) refl
    (begins_in c.first_row.new.self.active.loads c.replace.new.self c.in_row.result row c.replace.ensures.after c.in_row.ensures.row c.in_row.ensures.nothing c.in_ok-row.ensures.fresh
    ∙ ap (λ (r : RowView). Some (in_row r)) (c.in_ok-row.ensures.row c.first_row.new.self.active.loads))
    c.first_row.ensures.active
    (c.later-self-inside.ensures ∙ ap (later_reason i.reason) (c.reason.ensures [] ∙ ap (λ (r : RowView). reason_in r) (c.in_ok-row.ensures.row []))))
