use Rattle.std.proofs.Common.{rules, Ok, ap, refl, sym, ◌∙◌}
use Rattle.session_rules.specs.Target.{TargetSession}
use Rattle.target_machine.specs.Machine.{arriving_in, row_seen}
use Rattle.target_machine.specs.declared.row.Row.{Row}
use Rattle.target_machine.proofs.Holding.{fails_so, not_reading, passes_takes, reads_takes, row_takes}
use Rattle.target_machine.proofs.session.LiveSession.add_payload.Goals as goal

pub returns-in_err-take_bytes-in-ReadsFile-clause-brings : goal.returns-in_err-take_bytes-in-ReadsFile-clause-brings
returns-in_err-take_bytes-in-ReadsFile-clause-brings g c = λ active s x kept installs.
    fails_so (g.K.Disk.state c.args.disk.now) c.take_bytes.new.store c.take_bytes.new.store (g.K.Disk.state c.take_bytes.new.disk) s s x.row _ c.take_bytes.result c.from_residual.result c.from_residual.ensures.0
    (reads_takes c.args.store.now (g.K.Disk.state c.args.disk.now) c.take_bytes.new.store (g.K.Disk.state c.take_bytes.new.disk) s x.row x.arrived c.args.payload.now c.in-ReadsFile.intake c.take_bytes.result
    (sym (ap (λ (y : TargetSession). y.row) kept) ∙ ap (row_seen active) c.in-ReadsFile.is) (sym (ap (λ (y : TargetSession). y.arriving) kept) ∙ ap (λ (row : Row). arriving_in row c.args.self.now.arriving) c.in-ReadsFile.is) installs
    (λ u is begun. c.take_bytes.ensures.brings s u x.arrived is begun))

pub returns-in_ok-take_bytes-in-ReadsFile-clause-brings : goal.returns-in_ok-take_bytes-in-ReadsFile-clause-brings
returns-in_ok-take_bytes-in-ReadsFile-clause-brings g c = λ active s x kept installs.
    reads_takes c.args.store.now (g.K.Disk.state c.args.disk.now) c.take_bytes.new.store (g.K.Disk.state c.take_bytes.new.disk) s x.row x.arrived c.args.payload.now c.in-ReadsFile.intake (Ok tt)
    (sym (ap (λ (y : TargetSession). y.row) kept) ∙ ap (row_seen active) c.in-ReadsFile.is) (sym (ap (λ (y : TargetSession). y.arriving) kept) ∙ ap (λ (row : Row). arriving_in row c.args.self.now.arriving) c.in-ReadsFile.is) installs
    (λ u is begun. c.in_ok-take_bytes-in-ReadsFile.ensures.brings s u x.arrived is begun)

pub returns-in_ok-take-in_default : goal.returns-in_ok-take-in_default
returns-in_ok-take-in_default g c = record {
  takes = λ active. row_takes active c.args.self.now.row c.args.self.now.arriving c.take.new.self c.args.payload.now c.in_default.not-ReadsFile c.in_ok-take-in_default.ensures.takes;
  stage = c.requires.stage;
  brings = λ active s x kept installs.
      passes_takes c.args.store.now (g.K.Disk.state c.args.disk.now) s x.row x.arrived c.args.payload.now (Ok tt) (λ u is. not_reading active c.args.self.now.row c.in_default.not-ReadsFile u (ap (λ (y : TargetSession). y.row) kept ∙ is)) installs;
  goes_on = record { active = record { size = refl; active = refl; known = refl }; running = c.requires.running; fits = λ f. f; works = λ w. w };
  keeps = record { size = refl; known = tt; writes = search rules };
}
