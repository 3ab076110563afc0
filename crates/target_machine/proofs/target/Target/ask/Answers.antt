use Rattle.std.proofs.Common.{option_map, refl, ap, sym, ◌∙◌}
use Rattle.exchange_trace.specs.declared.trace.Side.TheVariants as sides
use Rattle.transfer_end.specs.Packets.{has_port}
use Rattle.target_machine.specs.Decisions.{TargetState}
use Rattle.target_machine.specs.Machine.{session_seen}
use Rattle.target_machine.proofs.Calm.{none_by}
use Rattle.target_machine.proofs.Entering.{asks_now_ok, ends_transfer}
use Rattle.target_machine.proofs.target.Target.ask.Goals as goal

pub returns-in_default-clause-enters : goal.returns-in_default-clause-enters
returns-in_default-clause-enters g c =
    ends_transfer _ c.args.self.now _ c.self.view_is (ap (option_map (session_seen c.self.inside.installed.active.loads)) (none_by c.self.inside.live c.in_default.not-Some)) refl refl (c.stop.ensures sides.Target)

pub returns-clause-enters : goal.returns-clause-enters
returns-clause-enters g c =
    let loads = c.self.inside.installed.active.loads in
    let s = session_seen loads c.in-Some.session in
    let live = ap (λ (y : TargetState g.row.R.Denot). y.view.live) (sym c.self.view_is) ∙ ap (option_map (session_seen loads)) c.in-Some.is in
    asks_now_ok c.args.self.now c.ask_now.new.self s c.ask_now.result live (sym (c.is_asking.ensures loads) ∙ c.if-not-is_asking.false)
    (ap (λ (y : TargetState g.row.R.Denot). has_port y.view.end) (sym c.self.view_is) ∙ sym c.has_port.ensures ∙ c.if-not-has_port.false) (c.ask_now.ensures.makes s live) c.ask_now.ensures.rest
