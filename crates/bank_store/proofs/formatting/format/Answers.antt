use Rattle.std.proofs.Common.{sym, ap, subst, ◌∙◌}
use Rattle.disk_model.specs.Image.{Image}
use Rattle.disk_layout.specs.Holds.{HoldsConfig}
use Rattle.bank_store.specs.Formatting.{formatted}
use Rattle.bank_store.proofs.Formatted.{told_after, while_shutting, while_laying_out, while_opening}
use Rattle.bank_store.proofs.Gates.{same_image, opened_is}
use Rattle.bank_store.proofs.Images.{told_before}
use Rattle.bank_store.proofs.Layouts.{rest_stays}
use Rattle.bank_store.proofs.formatting.format.Goals as goal

pub returns-in_err-shut_gates-clause-any_moment : goal.returns-in_err-shut_gates-clause-any_moment
returns-in_err-shut_gates-clause-any_moment g c =
    while_shutting c.args.identity.now (g.K.Disk.state c.args.disk.now) (g.K.Disk.state c.shut_gates.new.disk) _ (g.met.K.Disk.only_now c.args.disk.now) c.shut_gates.ensures.shuts

pub returns-in_err-lay_out-clause-any_moment : goal.returns-in_err-lay_out-clause-any_moment
returns-in_err-lay_out-clause-any_moment g c =
    while_laying_out c.args.identity.now (g.K.Disk.state c.args.disk.now) (g.K.Disk.state c.shut_gates.new.disk) (g.K.Disk.state c.lay_out.new.disk) _
    (g.met.K.Disk.only_now c.args.disk.now) c.shut_gates.ensures.shuts (c.lay_out.ensures.any_moment c.in_ok-shut_gates.ensures.shuts.shut)

pub returns-in_err-write_gate-clause-any_moment : goal.returns-in_err-write_gate-clause-any_moment
returns-in_err-write_gate-clause-any_moment g c =
    while_opening c.args.identity.now (g.K.Disk.state c.args.disk.now) (g.K.Disk.state c.shut_gates.new.disk) (g.K.Disk.state c.lay_out.new.disk) (g.K.Disk.state c.write_gate.new.disk) _
    c.requires.bank_size (g.met.K.Disk.only_now c.args.disk.now) c.shut_gates.ensures.shuts (c.lay_out.ensures.any_moment c.in_ok-shut_gates.ensures.shuts.shut)
    (c.in_ok-lay_out.ensures.laid_out c.in_ok-shut_gates.ensures.shuts.shut) c.write_gate.ensures.any_moment

pub returns-clause-any_moment : goal.returns-clause-any_moment
returns-clause-any_moment g c =
    while_opening c.args.identity.now (g.K.Disk.state c.args.disk.now) (g.K.Disk.state c.shut_gates.new.disk) (g.K.Disk.state c.lay_out.new.disk) (g.K.Disk.state c.write_gate.new.disk) _
    c.requires.bank_size (g.met.K.Disk.only_now c.args.disk.now) c.shut_gates.ensures.shuts (c.lay_out.ensures.any_moment c.in_ok-shut_gates.ensures.shuts.shut)
    (c.in_ok-lay_out.ensures.laid_out c.in_ok-shut_gates.ensures.shuts.shut) c.write_gate.ensures.any_moment

pub returns-clause-formatted : goal.returns-clause-formatted
returns-clause-formatted g c image told =
    let laid = told_before (g.K.Disk.state c.lay_out.new.disk).reads _ image c.write_gate.ensures.writes_disk.goes_on.tells told in
    let is = same_image image _ (sym told ∙ c.in_ok-write_gate.ensures.reads laid.0 laid.1) in
    let stands = c.in_ok-lay_out.ensures.laid_out c.in_ok-shut_gates.ensures.shuts.shut laid.0 (g.met.K.Disk.reads_now c.lay_out.new.disk laid.0 laid.1) in
    subst (λ (i : Image). HoldsConfig i (formatted c.args.identity.now)) (sym is) (opened_is c.args.identity.now laid.0 c.requires.bank_size stands)

pub returns-clause-rest : goal.returns-clause-rest
returns-clause-rest g c before after told later offset untouched =
    let shut = told_after (g.K.Disk.state c.args.disk.now).reads (g.K.Disk.state c.shut_gates.new.disk).reads before c.shut_gates.ensures.writes_disk.goes_on.tells told in
    let same = c.in_ok-shut_gates.ensures.shuts.rest before told shut.0 shut.1 in
    let laid = c.in_ok-lay_out.ensures.reads shut.0 shut.1 in
    let is = same_image after _ (sym later ∙ c.in_ok-write_gate.ensures.reads _ laid) in
    ap (λ (i : Image). i offset) is ∙ rest_stays c.args.identity.now before shut.0 offset same untouched
