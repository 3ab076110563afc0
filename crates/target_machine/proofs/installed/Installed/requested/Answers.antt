use Rattle.std.proofs.Common.{List, Result, ap, sym, subst, ◌∙◌}
use Rattle.bank_store.specs.Fits.{InstallsBeside}
use Rattle.load_protocol_files.specs.declared.lur.Wanted.{Wanted}
use Rattle.session_rules.specs.declared.reason.RequestFault.{RequestFault}
use Rattle.session_rules.specs.TargetRows.{Awaits_lur, new_upload, request_move, row_moved}
use Rattle.load_intake.specs.Intakes.{request_seen}
use Rattle.target_machine.specs.Stages.{InstalledState}
use Rattle.target_machine.proofs.Holding.{begin_fails, begins_of}
use Rattle.target_machine.proofs.installed.Installed.requested.Goals as goal

pub returns-in_ok-intake-in-Loads-clause-brings : goal.returns-in_ok-intake-in-Loads-clause-brings
returns-in_ok-intake-in-Loads-clause-brings g c = λ accepts s arrived beside.
    let inside = subst (λ (x : InstalledState). InstallsBeside x.store (g.K.Disk.state c.args.disk.now) s) (sym c.self.view_is) beside in
    begins_of (g.K.Disk.state c.args.disk.now) c.begin.new.store (g.K.Disk.state c.begin.new.disk) s _ (new_upload c.in-Loads.loads.items) _ _
    (ap (λ (found : Result (List Wanted) RequestFault). row_moved Awaits_lur arrived (request_move found)) (sym c.in_ok-loads.ensures.judged ∙ ap request_seen c.in-Loads.is)) (c.in_ok-intake-in-Loads.ensures.brings s inside)

pub returns-in_err-intake-in-Loads-clause-brings : goal.returns-in_err-intake-in-Loads-clause-brings
returns-in_err-intake-in-Loads-clause-brings g c = λ accepts s arrived beside.
    let inside = subst (λ (x : InstalledState). InstallsBeside x.store (g.K.Disk.state c.args.disk.now) s) (sym c.self.view_is) beside in
    begin_fails (g.K.Disk.state c.args.disk.now) c.begin.new.store c.begin.new.store (g.K.Disk.state c.begin.new.disk) s _ (new_upload c.in-Loads.loads.items) c.begin.result c.from_residual-in_err-intake-in-Loads.result
    c.from_residual-in_err-intake-in-Loads.ensures.0 (c.begin.ensures.brings s inside)
