use Rattle.std.proofs.Common.{ℕ, inl, refl, ap, ◌∙◌, rules}
use Rattle.load_base.specs.Listed.{Listed}
use Rattle.bank_store.specs.Given.{configured}
use Rattle.bank_store.specs.Keeps.{IsOldOrNew}
use Rattle.bank_store.proofs.Activated.{while_opening, activated}
use Rattle.bank_store.proofs.Moments.{adds_sync, leaves_only}
use Rattle.bank_store.proofs.Premises.{stands_now}
use Rattle.bank_store.proofs.store.Store.activate.Goals as goal

pub returns-in_err-write-clause-adds : goal.returns-in_err-write-clause-adds
returns-in_err-write-clause-adds g c s loads can =
    while_opening c.args.self.now (g.K.Disk.state c.args.disk.now) _ c.other-slot.result s loads _ c.other-slot.ensures can c.write.ensures.elapses

pub returns-in_err-sync-clause-adds : goal.returns-in_err-sync-clause-adds
returns-in_err-sync-clause-adds g c s loads can =
    adds_sync (g.K.Disk.state c.args.disk.now) _ _ (IsOldOrNew s (configured s loads)) _
    (while_opening c.args.self.now (g.K.Disk.state c.args.disk.now) _ c.other-slot.result s loads _ c.other-slot.ensures can c.write.ensures.elapses) c.sync.ensures.elapses

pub returns-clause-adds : goal.returns-clause-adds
returns-clause-adds g c s loads can =
    adds_sync (g.K.Disk.state c.args.disk.now) _ _ (IsOldOrNew s (configured s loads)) _
    (while_opening c.args.self.now (g.K.Disk.state c.args.disk.now) _ c.other-slot.result s loads _ c.other-slot.ensures can c.write.ensures.elapses) c.sync.ensures.elapses

pub returns-in_err-write-clause-any_moment : goal.returns-in_err-write-clause-any_moment
returns-in_err-write-clause-any_moment g c s loads can =
    let disk = g.K.Disk.state c.args.disk.now in
    leaves_only disk _ (IsOldOrNew s (configured s loads)) (g.met.K.Disk.only_now c.args.disk.now) (λ left may. inl (stands_now c.args.self.now disk s can.beside left may))
    (while_opening c.args.self.now disk _ c.other-slot.result s loads _ c.other-slot.ensures can c.write.ensures.elapses)

pub returns-in_err-sync-clause-any_moment : goal.returns-in_err-sync-clause-any_moment
returns-in_err-sync-clause-any_moment g c s loads can =
    let disk = g.K.Disk.state c.args.disk.now in
    leaves_only disk _ (IsOldOrNew s (configured s loads)) (g.met.K.Disk.only_now c.args.disk.now) (λ left may. inl (stands_now c.args.self.now disk s can.beside left may))
    (adds_sync disk _ _ (IsOldOrNew s (configured s loads)) _
    (while_opening c.args.self.now disk _ c.other-slot.result s loads _ c.other-slot.ensures can c.write.ensures.elapses) c.sync.ensures.elapses)

pub returns-clause-any_moment : goal.returns-clause-any_moment
returns-clause-any_moment g c s loads can =
    let disk = g.K.Disk.state c.args.disk.now in
    leaves_only disk _ (IsOldOrNew s (configured s loads)) (g.met.K.Disk.only_now c.args.disk.now) (λ left may. inl (stands_now c.args.self.now disk s can.beside left may))
    (adds_sync disk _ _ (IsOldOrNew s (configured s loads)) _
    (while_opening c.args.self.now disk _ c.other-slot.result s loads _ c.other-slot.ensures can c.write.ensures.elapses) c.sync.ensures.elapses)

pub returns-clause-activates : goal.returns-clause-activates
returns-clause-activates g c =
    activated c.args.self.now c.forget.new.self _ (g.K.Disk.state c.args.disk.now) _ c.other-slot.result c.in-Sealed.manifest c.forget.ensures.active.size c.forget.ensures.active.active c.other-slot.ensures refl c.other.ensures
    c.other-2.ensures refl refl (ap (λ (l : Listed ℕ). l.items) (c.forget.ensures.known ∙ c.swap.ensures.x_after)) refl (search rules) c.in-Sealed.is (c.sync.ensures.elapses.tells ∙ c.write.ensures.elapses.tells)
    (λ image told. c.in_ok-sync.ensures.kept ∙ c.in_ok-write.ensures.bytes image told) c.in_ok-sync.ensures.settled (search rules)
