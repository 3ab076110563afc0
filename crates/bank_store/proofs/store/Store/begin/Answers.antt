use Rattle.std.proofs.Common.{refl, sym, ◌∙◌, rules}
use Rattle.std.proofs.lemmas.Result.{err_from_is_err_and}
use Rattle.disk_layout.specs.Holds.{HoldsConfig}
use Rattle.bank_store.proofs.Begun.{begun_keeps}
use Rattle.bank_store.proofs.Giving.{given_nothing}
use Rattle.bank_store.proofs.Keeping.{keeps_same, keeps_failed}
use Rattle.bank_store.proofs.Moments.{adds_sync}
use Rattle.bank_store.proofs.store.Store.begin.Goals as goal

pub returns-then-self-clause-keeps : goal.returns-then-self-clause-keeps
returns-then-self-clause-keeps g c = keeps_same c.args.self.now (g.K.Disk.state c.args.disk.now) _ c.requires.running

pub returns-in_err-shut_other-clause-keeps : goal.returns-in_err-shut_other-clause-keeps
returns-in_err-shut_other-clause-keeps g c =
    let p = err_from_is_err_and c.from_residual.result c.from_residual.ensures.1 in rw (p.1, p.2)
    (keeps_failed c.args.self.now (g.K.Disk.state c.args.disk.now) _ _ c.shut_other.ensures.leaves)

pub returns-in_err-sync-clause-keeps : goal.returns-in_err-sync-clause-keeps
returns-in_err-sync-clause-keeps g c =
    let p = err_from_is_err_and c.from_residual-in_err-sync.result c.from_residual-in_err-sync.ensures.1 in rw (p.1, p.2)
    (keeps_failed c.args.self.now (g.K.Disk.state c.args.disk.now) _ _
    (λ s beside. adds_sync (g.K.Disk.state c.args.disk.now) _ _ (λ left. HoldsConfig left s) _ (c.shut_other.ensures.leaves s beside) c.sync.ensures.elapses))

pub returns-clause-begins : goal.returns-clause-begins
returns-clause-begins g c = record {
  filling = refl;
  manifest = search rules;
  written = λ image told. c.in_ok-sync.ensures.kept ∙ c.in_ok-shut_other.ensures.written image told;
  given = λ image told. given_nothing _ image refl (c.args.self.now.keeps.idle c.requires.prepared.idle);
  settled = c.in_ok-sync.ensures.settled;
}

pub returns-clause-keeps : goal.returns-clause-keeps
returns-clause-keeps g c =
    let store = c.args.self.now in
    let disk = g.K.Disk.state c.args.disk.now in
    begun_keeps store _ disk _ _ (search rules) (record { size = refl; active = refl; known = refl }) refl refl (store.keeps.idle c.requires.prepared.idle)
    (c.sync.ensures.elapses.tells ∙ c.shut_other.ensures.goes_on.tells)
    (λ image now s told later was. c.in_ok-shut_other.ensures.shut image told now (sym c.in_ok-sync.ensures.kept ∙ later) s was) c.in_ok-sync.ensures.settled
    (λ s beside. adds_sync disk _ _ (λ left. HoldsConfig left s) _ (c.shut_other.ensures.leaves s beside) c.sync.ensures.elapses)
    (λ image told now later offset out. c.in_ok-shut_other.ensures.rest image told now (sym c.in_ok-sync.ensures.kept ∙ later) offset out)
