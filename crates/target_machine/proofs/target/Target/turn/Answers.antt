use Rattle.std.proofs.Common.{◌≡◌, true, false, refl, rules, is_none, sym, ◌∙◌}
use Rattle.transfer_end.specs.Calls.{posted}
use Rattle.target_machine.specs.Decisions.{TargetState}
use Rattle.target_machine.proofs.Calm.{calm_now, none_seen}
use Rattle.target_machine.proofs.Following.{turns}
use Rattle.target_machine.proofs.Turning.{stays_too}
use Rattle.std.proofs.Common.{ap}
use Rattle.session_rules.specs.Contents.{session_kept}
use Rattle.session_rules.specs.Target.{TargetView}
use Rattle.target_machine.proofs.Bringing.{turn_err, turn_ok}
use Rattle.target_machine.proofs.target.Target.turn.Goals as goal

pub returns-clause-session : goal.returns-clause-session
returns-clause-session g c = λ accepts follows x live.
    turns accepts c.args.self.now c.turn_row.new.self c.ask.new.self x c.args.error (posted c.in_ok-ask.field-0) live (calm_now _ c.args.self.now c.self.inside.installed.active.loads c.self.inside.live c.self.inside.installed.store c.self.view_is refl c.self.invariant)
    (c.in_ok-turn_row.ensures.session accepts follows x live) c.in_ok-ask.ensures.enters

pub returns-clause-stays_on : goal.returns-clause-stays_on
returns-clause-stays_on g c =
    stays_too c.args.self.now.store c.turn_row.new.self.store c.ask.new.self.store (g.K.Disk.state c.args.disk.now) (g.K.Disk.state c.turn_row.new.disk) c.in_ok-turn_row.ensures.stays_on
    (c.a_store_goes_on_fitting.ensures.continued_fits c.turn_row.new.self.store c.ask.new.self.store c.turn_row.new.disk c.in_ok-ask.ensures.store)
    (c.a_store_goes_on_fitting.ensures.continued_works c.turn_row.new.self.store c.ask.new.self.store c.turn_row.new.disk c.in_ok-ask.ensures.store)

pub returns-in_err-turn_row-clause-brings : goal.returns-in_err-turn_row-clause-brings
returns-in_err-turn_row-clause-brings g c = λ accepts follows x kept holds.
    turn_err c.contents_follow_their_log.ensures.kept accepts c.args.self.now.view c.args.error x c.args.self.now.store (g.K.Disk.state c.args.disk.now) c.turn_row.new.self.store c.turn_row.new.self.store (g.K.Disk.state c.turn_row.new.disk) c.turn_row.result c.from_residual.result c.from_residual.ensures.0 kept (sym (ap (λ (y : TargetState g.row.R.Denot). is_none y.view.live) c.self.view_is) ∙ none_seen c.self.inside.installed.active.loads c.self.inside.live (search rules)) holds
    (λ z live installs. c.turn_row.ensures.brings accepts follows x.active z live installs)

pub returns-in_err-ask-clause-brings : goal.returns-in_err-ask-clause-brings
returns-in_err-ask-clause-brings g c = λ accepts follows x kept holds.
    turn_err c.contents_follow_their_log.ensures.kept accepts c.args.self.now.view c.args.error x c.args.self.now.store (g.K.Disk.state c.args.disk.now) c.turn_row.new.self.store c.ask.new.self.store (g.K.Disk.state c.turn_row.new.disk) _ c.from_residual-in_err-ask.result c.from_residual-in_err-ask.ensures.0 kept (sym (ap (λ (y : TargetState g.row.R.Denot). is_none y.view.live) c.self.view_is) ∙ none_seen c.self.inside.installed.active.loads c.self.inside.live (search rules)) holds
    (λ z live installs. c.in_ok-turn_row.ensures.brings accepts follows x.active z live installs)

pub returns-clause-brings : goal.returns-clause-brings
returns-clause-brings g c = λ accepts follows x kept holds.
    turn_ok c.contents_follow_their_log.ensures.kept accepts c.args.self.now.view c.args.error x c.args.self.now.store (g.K.Disk.state c.args.disk.now) c.turn_row.new.self.store c.ask.new.self.store (g.K.Disk.state c.turn_row.new.disk) c.ask.new.self.view.live _ _ kept (sym (ap (λ (y : TargetState g.row.R.Denot). is_none y.view.live) c.self.view_is) ∙ none_seen c.self.inside.installed.active.loads c.self.inside.live (search rules)) holds
    (λ z live installs. c.in_ok-turn_row.ensures.brings accepts follows x.active z live installs) c.in_ok-ask.ensures.store c.in_ok-ask.ensures.work
    (λ z live. (_, ap (λ (v : TargetView). v.live) (returns-clause-session g c accepts follows (session_kept z) live).keeps))

pub returns-clause-idle : goal.returns-clause-idle
returns-clause-idle g c = λ none. absurd (let wrong : true ≡ false = sym (ap is_none none) ∙ (sym (ap (λ (y : TargetState g.row.R.Denot). is_none y.view.live) c.self.view_is) ∙ none_seen c.self.inside.installed.active.loads c.self.inside.live (search rules)) in cc)
