use Rattle.std.proofs.Common.{Option, option_map, refl, sym, ap, subst, ◌∙◌}
use Rattle.std.specs.Prelude.{⊤}
use Rattle.accept_rules.specs.Interlocks.{FollowsAccepts}
use Rattle.session_rules.specs.Target.{later_reason}
use Rattle.target_machine.specs.Decisions.{TargetState, row_then}
use Rattle.target_machine.specs.Machine.{session_seen}
use Rattle.target_machine.specs.Stages.{TurnsTo}
use Rattle.target_machine.specs.declared.row.Row.{Row}
use Rattle.target_machine.proofs.Calm.{begins_in}
use Rattle.target_machine.proofs.Entering.{ends_row, turns_row}
use Rattle.std.proofs.Common.{[], Err, Ok}
use Rattle.load_intake.specs.declared.down.Down.{Down}
use Rattle.load_intake.specs.Contents.{BringsRow, InstallsRow}
use Rattle.session_rules.specs.Contents.{session_kept}
use Rattle.target_machine.specs.Disks.{whole_row_then}
use Rattle.target_machine.proofs.Calm.{session_is}
use Rattle.target_machine.proofs.Holding.{answers_so, fails_so}
use Rattle.target_machine.proofs.target.Target.turn_row.Goals as goal

pub returns-in-Ok-Some-clause-session : goal.returns-in-Ok-Some-clause-session
returns-in-Ok-Some-clause-session g c = λ accepts follows x live.
    let loads = c.self.inside.installed.active.loads in
    let row = c.in-Ok-Some.row in
    let follows_inside = subst (λ (y : TargetState g.row.R.Denot). FollowsAccepts g.R.Rule.may_say y.rule accepts) (sym c.self.view_is) follows in
    let turns = subst (λ (y : Option Row). TurnsTo y (row_then accepts c.self.inside.installed.active (session_seen loads c.in-Some.session) c.args.error) c.self.inside.installed c.turn-next.new.self) c.in-Ok-Some.field-0-is (c.in-Ok-Some.ensures.row accepts follows_inside) in
    turns_row accepts _ c.args.self.now _ c.args.error x (session_seen loads c.in-Some.session) c.self.inside.installed c.turn-next.new.self c.self.view_is live
    (ap (option_map (session_seen loads)) (sym c.take.ensures.value ∙ c.in-Some.is)) refl refl refl refl row turns
    (begins_in c.turn-next.new.self.active.loads c.replace.new.self c.in_row.result row c.replace.ensures.after c.in_row.ensures.row c.in_row.ensures.nothing turns.fresh)
    (c.later-self-inside.ensures ∙ ap (later_reason c.self.inside.reason) (c.reason.ensures c.turn-next.new.self.active.loads))

pub returns-in-Ok-None-clause-session : goal.returns-in-Ok-None-clause-session
returns-in-Ok-None-clause-session g c = λ accepts follows x live.
    let loads = c.self.inside.installed.active.loads in
    let follows_inside = subst (λ (y : TargetState g.row.R.Denot). FollowsAccepts g.R.Rule.may_say y.rule accepts) (sym c.self.view_is) follows in
    let turns = subst (λ (y : Option Row). TurnsTo y (row_then accepts c.self.inside.installed.active (session_seen loads c.in-Some.session) c.args.error) c.self.inside.installed c.turn-next.new.self) c.in-Ok-None.field-0-is (c.in-Ok-None.ensures.row accepts follows_inside) in
    ends_row accepts _ c.args.self.now _ c.args.error x (session_seen loads c.in-Some.session) c.self.inside.installed c.turn-next.new.self c.self.view_is live
    (ap (option_map (session_seen loads)) (sym c.take.ensures.value ∙ c.in-Some.is)) refl refl refl refl turns
    (ap (option_map (session_seen c.turn-next.new.self.active.loads)) c.take.ensures.after) refl

pub returns-in-Ok-Some-clause-brings : goal.returns-in-Ok-Some-clause-brings
returns-in-Ok-Some-clause-brings g c = λ accepts follows s x live installs.
    let loads = c.self.inside.installed.active.loads in
    let follows_inside = subst (λ (y : TargetState g.row.R.Denot). FollowsAccepts g.R.Rule.may_say y.rule accepts) (sym c.self.view_is) follows in
    let seen = sym (session_is loads c.self.inside.live c.in-Some.session (session_kept x) (sym c.take.ensures.value ∙ c.in-Some.is) (ap (λ (y : TargetState g.row.R.Denot). y.view.live) c.self.view_is ∙ live)) in
    let inside = subst (λ (y : TargetState g.row.R.Denot). InstallsRow y.store (g.K.Disk.state c.args.disk.now) s x.row x.arrived) (sym c.self.view_is) installs in
    subst (λ (y : TargetState g.row.R.Denot). BringsRow {E = Down} (g.K.Disk.state c.args.disk.now) c.turn-next.new.self.store (g.K.Disk.state c.turn-next.new.disk) s (whole_row_then accepts y.view.active x c.args.error) (Ok tt)) c.self.view_is
    (answers_so (g.K.Disk.state c.args.disk.now) c.turn-next.new.self.store (g.K.Disk.state c.turn-next.new.disk) s _ _ [] _ tt (c.in-Ok-Some.ensures.brings accepts follows_inside s x seen inside))

pub returns-in-Ok-None-clause-brings : goal.returns-in-Ok-None-clause-brings
returns-in-Ok-None-clause-brings g c = λ accepts follows s x live installs.
    let loads = c.self.inside.installed.active.loads in
    let follows_inside = subst (λ (y : TargetState g.row.R.Denot). FollowsAccepts g.R.Rule.may_say y.rule accepts) (sym c.self.view_is) follows in
    let seen = sym (session_is loads c.self.inside.live c.in-Some.session (session_kept x) (sym c.take.ensures.value ∙ c.in-Some.is) (ap (λ (y : TargetState g.row.R.Denot). y.view.live) c.self.view_is ∙ live)) in
    let inside = subst (λ (y : TargetState g.row.R.Denot). InstallsRow y.store (g.K.Disk.state c.args.disk.now) s x.row x.arrived) (sym c.self.view_is) installs in
    subst (λ (y : TargetState g.row.R.Denot). BringsRow {E = Down} (g.K.Disk.state c.args.disk.now) c.turn-next.new.self.store (g.K.Disk.state c.turn-next.new.disk) s (whole_row_then accepts y.view.active x c.args.error) (Ok tt)) c.self.view_is
    (answers_so (g.K.Disk.state c.args.disk.now) c.turn-next.new.self.store (g.K.Disk.state c.turn-next.new.disk) s _ _ [] _ tt (c.in-Ok-None.ensures.brings accepts follows_inside s x seen inside))

pub returns-in-Err-clause-brings : goal.returns-in-Err-clause-brings
returns-in-Err-clause-brings g c = λ accepts follows s x live installs.
    let loads = c.self.inside.installed.active.loads in
    let follows_inside = subst (λ (y : TargetState g.row.R.Denot). FollowsAccepts g.R.Rule.may_say y.rule accepts) (sym c.self.view_is) follows in
    let seen = sym (session_is loads c.self.inside.live c.in-Some.session (session_kept x) (sym c.take.ensures.value ∙ c.in-Some.is) (ap (λ (y : TargetState g.row.R.Denot). y.view.live) c.self.view_is ∙ live)) in
    let inside = subst (λ (y : TargetState g.row.R.Denot). InstallsRow y.store (g.K.Disk.state c.args.disk.now) s x.row x.arrived) (sym c.self.view_is) installs in
    subst (λ (y : TargetState g.row.R.Denot). BringsRow {T = ⊤} (g.K.Disk.state c.args.disk.now) c.turn-next.new.self.store (g.K.Disk.state c.turn-next.new.disk) s (whole_row_then accepts y.view.active x c.args.error) (Err c.in-Err.down)) c.self.view_is
    (fails_so (g.K.Disk.state c.args.disk.now) c.turn-next.new.self.store c.turn-next.new.self.store (g.K.Disk.state c.turn-next.new.disk) s _ _ [] c.turn-next.result (Err c.in-Err.down) refl (c.turn-next.ensures.brings accepts follows_inside s x seen inside))
