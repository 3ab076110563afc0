use Rattle.std.proofs.Common.{rules, Some, refl}
use Rattle.target_machine.specs.declared.row.Row.TheVariants as rows
use Rattle.target_machine.proofs.Turning.{decides, passes}
use Rattle.std.proofs.Common.{◌≡◌, ap, sym, ◌∙◌}
use Rattle.session_rules.specs.Target.{TargetSession}
use Rattle.session_rules.specs.TargetRows.{Awaits_lur, Reads_file, RowView, row_after, row_view}
use Rattle.session_rules.specs.Uploads.{UploadView}
use Rattle.target_machine.specs.Machine.{arriving_in, next_seen, row_seen}
use Rattle.target_machine.specs.declared.row.Row.{Row}
use Rattle.target_machine.proofs.Holding.{awaits_brings, not_awaiting, not_reading, passed_brings, passed_rests, reads_brings, turns_fail, turns_with}
use Rattle.target_machine.proofs.installed.Installed.done.Goals as goal

pub returns-in_ok-finish-in-ReadsFile-clause-row : goal.returns-in_ok-finish-in-ReadsFile-clause-row
returns-in_ok-finish-in-ReadsFile-clause-row g c = λ accepts follows.
    decides accepts c.args.self.now c.finish.new.self c.args.row (rows.ReadsFile c.in-ReadsFile.intake) c.args.arriving.now (Some c.in_ok-finish-in-ReadsFile.field-0) c.in-ReadsFile.is
    (c.in_ok-finish-in-ReadsFile.ensures.row accepts follows)

pub returns-in_ok-requested-in-AwaitsLur-clause-row : goal.returns-in_ok-requested-in-AwaitsLur-clause-row
returns-in_ok-requested-in-AwaitsLur-clause-row g c = λ accepts follows.
    decides accepts c.args.self.now c.requested.new.self c.args.row rows.AwaitsLur c.args.arriving.now (Some c.in_ok-requested-in-AwaitsLur.field-0) c.in-AwaitsLur.is
    (c.in_ok-requested-in-AwaitsLur.ensures.row accepts)

pub returns-in_default : goal.returns-in_default
returns-in_default g c = record {
  row = λ accepts follows. passes accepts c.args.self.now c.args.row c.args.row c.args.arriving.now c.passed.result refl c.in_default.not-ReadsFile c.in_default.not-AwaitsLur (c.passed.ensures.row c.args.self.now.active.loads) (c.passed.ensures.fresh c.args.self.now.store c.requires.stage);
  stage = c.passed.ensures.stage c.args.self.now.store c.requires.stage;
  goes_on = record { running = c.requires.running; fits = λ x. x; works = λ x. x };
  brings = λ accepts follows s x kept installs.
      let loads = c.args.self.now.active.loads in
      let row : row_seen loads c.args.row ≡ row_view x.row = ap (λ (y : TargetSession). y.row) kept in
      let reads = λ (u : UploadView) (is : row_view x.row ≡ Reads_file u). not_reading loads c.args.row c.in_default.not-ReadsFile u (row ∙ is) in
      let awaits = λ (is : row_view x.row ≡ Awaits_lur). not_awaiting loads c.args.row c.in_default.not-AwaitsLur (row ∙ is) in
      record {
        brings = passed_brings accepts c.args.self.now.active c.args.self.now.store (g.K.Disk.state c.args.disk.now) s x.row x.arrived _ reads awaits installs;
        rests = λ none. passed_rests accepts c.args.self.now.active x.row x.arrived reads awaits (ap (λ (y : RowView). row_after y) (sym row) ∙ (sym (c.passed.ensures.row loads) ∙ ap (next_seen loads) none));
      };
  writes = search rules;
}

pub returns-in_ok-finish-in-ReadsFile-clause-brings : goal.returns-in_ok-finish-in-ReadsFile-clause-brings
returns-in_ok-finish-in-ReadsFile-clause-brings g c = λ accepts follows s x kept installs.
    turns_with (g.K.Disk.state c.args.disk.now) c.finish.new.self.store (g.K.Disk.state c.finish.new.disk) s _ _ c.in_ok-finish-in-ReadsFile.field-0
    (reads_brings accepts c.args.self.now.active (g.K.Disk.state c.args.disk.now) c.finish.new.self.store (g.K.Disk.state c.finish.new.disk) s x.row x.arrived c.in-ReadsFile.intake _ (sym (ap (λ (y : TargetSession). y.row) kept) ∙ ap (row_seen c.args.self.now.active.loads) c.in-ReadsFile.is) (sym (ap (λ (y : TargetSession). y.arriving) kept) ∙ ap (λ (row : Row). arriving_in row c.args.arriving.now) c.in-ReadsFile.is) c.args.self.now.store installs
    (λ u is begun. c.in_ok-finish-in-ReadsFile.ensures.brings accepts follows s u x.arrived is begun))

pub returns-in_err-finish-in-ReadsFile-clause-brings : goal.returns-in_err-finish-in-ReadsFile-clause-brings
returns-in_err-finish-in-ReadsFile-clause-brings g c = λ accepts follows s x kept installs.
    turns_fail (g.K.Disk.state c.args.disk.now) c.finish.new.self.store c.finish.new.self.store (g.K.Disk.state c.finish.new.disk) s _ c.finish.result c.from_residual.result c.from_residual.ensures.0
    (reads_brings accepts c.args.self.now.active (g.K.Disk.state c.args.disk.now) c.finish.new.self.store (g.K.Disk.state c.finish.new.disk) s x.row x.arrived c.in-ReadsFile.intake c.finish.result (sym (ap (λ (y : TargetSession). y.row) kept) ∙ ap (row_seen c.args.self.now.active.loads) c.in-ReadsFile.is) (sym (ap (λ (y : TargetSession). y.arriving) kept) ∙ ap (λ (row : Row). arriving_in row c.args.arriving.now) c.in-ReadsFile.is) c.args.self.now.store installs
    (λ u is begun. c.finish.ensures.brings accepts follows s u x.arrived is begun))

pub returns-in_ok-requested-in-AwaitsLur-clause-brings : goal.returns-in_ok-requested-in-AwaitsLur-clause-brings
returns-in_ok-requested-in-AwaitsLur-clause-brings g c = λ accepts follows s x kept installs.
    turns_with (g.K.Disk.state c.args.disk.now) c.requested.new.self.store (g.K.Disk.state c.requested.new.disk) s _ _ c.in_ok-requested-in-AwaitsLur.field-0
    (awaits_brings accepts c.args.self.now.active (g.K.Disk.state c.args.disk.now) c.requested.new.self.store (g.K.Disk.state c.requested.new.disk) s x.row x.arrived c.args.arriving.now _ (sym (ap (λ (y : TargetSession). y.row) kept) ∙ ap (row_seen c.args.self.now.active.loads) c.in-AwaitsLur.is) (sym (ap (λ (y : TargetSession). y.arriving) kept) ∙ ap (λ (row : Row). arriving_in row c.args.arriving.now) c.in-AwaitsLur.is)
    (c.in_ok-requested-in-AwaitsLur.ensures.brings accepts s x.arrived installs.beside))

pub returns-in_err-requested-in-AwaitsLur-clause-brings : goal.returns-in_err-requested-in-AwaitsLur-clause-brings
returns-in_err-requested-in-AwaitsLur-clause-brings g c = λ accepts follows s x kept installs.
    turns_fail (g.K.Disk.state c.args.disk.now) c.requested.new.self.store c.requested.new.self.store (g.K.Disk.state c.requested.new.disk) s _ c.requested.result c.from_residual-in_err-requested-in-AwaitsLur.result c.from_residual-in_err-requested-in-AwaitsLur.ensures.0
    (awaits_brings accepts c.args.self.now.active (g.K.Disk.state c.args.disk.now) c.requested.new.self.store (g.K.Disk.state c.requested.new.disk) s x.row x.arrived c.args.arriving.now c.requested.result (sym (ap (λ (y : TargetSession). y.row) kept) ∙ ap (row_seen c.args.self.now.active.loads) c.in-AwaitsLur.is) (sym (ap (λ (y : TargetSession). y.arriving) kept) ∙ ap (λ (row : Row). arriving_in row c.args.arriving.now) c.in-AwaitsLur.is)
    (c.requested.ensures.brings accepts s x.arrived installs.beside))
