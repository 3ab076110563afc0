use Rattle.std.proofs.Common.{refl, sym, ◌∙◌, subst}
use Rattle.disk_model.specs.Image.{Image}
use Rattle.bank_store.specs.Keeps.{IsShutFor}
use Rattle.bank_store.proofs.Begun.{on_ok_by, shut_gate, while_shutting}
use Rattle.bank_store.proofs.Gates.{same_image}
use Rattle.bank_store.proofs.Keeping.{leaves_same}
use Rattle.bank_store.proofs.Rests.{rest_unread, rest_gate}
use Rattle.bank_store.proofs.Written.{shut_written, shut_kept}
use Rattle.bank_store.proofs.store.Store.shut_other.Goals as goal

pub returns-then-not-self-clause-leaves : goal.returns-then-not-self-clause-leaves
returns-then-not-self-clause-leaves g c = leaves_same c.args.self.now (g.K.Disk.state c.args.disk.now)

pub returns-clause-leaves : goal.returns-clause-leaves
returns-clause-leaves g c s beside =
    while_shutting c.args.self.now (g.K.Disk.state c.args.disk.now) _ c.other.result s _ c.other.ensures c.if-not-self.false beside c.write.ensures.elapses

pub returns-clause-shut : goal.returns-clause-shut
returns-clause-shut g c =
    on_ok_by c.write.result
    (λ bytes image told now later s was.
    subst (λ (i : Image). IsShutFor c.args.self.now i s) (sym (same_image now _ (sym later ∙ bytes image told))) (shut_gate c.args.self.now image s c.other.result c.other.ensures was))
    c.write.ensures.bytes

pub returns-then-not-self-clause-rest : goal.returns-then-not-self-clause-rest
returns-then-not-self-clause-rest g c = rest_unread c.args.self.now (g.K.Disk.state c.args.disk.now) (g.K.Disk.state c.args.disk.now) refl

pub returns-clause-rest : goal.returns-clause-rest
returns-clause-rest g c =
    on_ok_by c.write.result
    (λ bytes image told now later offset out. rest_gate c.args.self.now image now c.other.result _ offset c.other.ensures (same_image now _ (sym later ∙ bytes image told)) out)
    c.write.ensures.bytes

pub returns-then-not-self-clause-written : goal.returns-then-not-self-clause-written
returns-then-not-self-clause-written g c image told = told ∙ shut_kept c.args.self.now image c.if-not-self.true

pub returns-clause-written : goal.returns-clause-written
returns-clause-written g c =
    on_ok_by c.write.result (λ bytes image told. bytes image told ∙ shut_written c.args.self.now image c.other.result c.if-not-self.false c.other.ensures) c.write.ensures.bytes
