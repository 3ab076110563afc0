use Rattle.std.proofs.Common.{◌≡◌, Some, ◌+◌, ◌≤◌, ℕ, refl, sym, ◌∙◌, ap, subst, arith, rules}
use Rattle.std.proofs.lemmas.Result.{err_from_is_err_and}
use Rattle.disk_model.specs.Image.{Image}
use Rattle.bank_store.specs.Store.{manifest_length, with_manifest, with_slot}
use Rattle.bank_store.specs.Fits.{SameButForWork}
use Rattle.bank_store.proofs.Continuing.{given_of, missing_none, begun_shut}
use Rattle.bank_store.proofs.Gates.{same_image}
use Rattle.bank_store.proofs.Keeping.{keeps_same, keeps_failed}
use Rattle.bank_store.proofs.Moments.{adds_sync}
use Rattle.bank_store.proofs.Ready.{sealed_image, near_sealed, stands_sealed, is_ready, sealed_work}
use Rattle.bank_store.proofs.Working.{near_start, near_then, holds_still, keeps_written}
use Rattle.bank_store.proofs.Written.{seal_written}
use Rattle.bank_store.proofs.store.Store.seal.Goals as goal

pub returns-then-need-from-clause-keeps : goal.returns-then-need-from-clause-keeps
returns-then-need-from-clause-keeps g c = keeps_same c.args.self.now (g.K.Disk.state c.args.disk.now) _ c.requires.running

pub returns-in_err-write_manifest-clause-keeps : goal.returns-in_err-write_manifest-clause-keeps
returns-in_err-write_manifest-clause-keeps g c =
    let store = c.args.self.now in
    let disk = g.K.Disk.state c.args.disk.now in
    let p = err_from_is_err_and c.from_residual.result c.from_residual.ensures.1 in rw (p.1, p.2)
    (keeps_failed store disk _ _
    (λ s beside. holds_still store disk _ beside.image s beside.holds
    (near_then store disk disk _ beside.image (near_start store disk beside.image beside.works beside.told) c.write_manifest.ensures.near)))

pub returns-in_err-write_slot-clause-keeps : goal.returns-in_err-write_slot-clause-keeps
returns-in_err-write_slot-clause-keeps g c =
    let store = c.args.self.now in
    let disk = g.K.Disk.state c.args.disk.now in
    let p = err_from_is_err_and c.from_residual-in_err-write_slot.result c.from_residual-in_err-write_slot.ensures.1 in rw (p.1, p.2)
    (keeps_failed store disk _ _
    (λ s beside. holds_still store disk _ beside.image s beside.holds
    (near_then store disk _ _ beside.image (near_then store disk disk _ beside.image (near_start store disk beside.image beside.works beside.told) c.write_manifest.ensures.near) c.write_slot.ensures.near)))

pub returns-in_err-sync-clause-keeps : goal.returns-in_err-sync-clause-keeps
returns-in_err-sync-clause-keeps g c =
    let store = c.args.self.now in
    let disk = g.K.Disk.state c.args.disk.now in
    let p = err_from_is_err_and c.from_residual-in_err-sync.result c.from_residual-in_err-sync.ensures.1 in rw (p.1, p.2)
    (keeps_failed store disk _ _
    (λ s beside. holds_still store disk _ beside.image s beside.holds (adds_sync disk _ _ (SameButForWork store beside.image) _
    (near_then store disk _ _ beside.image (near_then store disk disk _ beside.image (near_start store disk beside.image beside.works beside.told) c.write_manifest.ensures.near) c.write_slot.ensures.near)
    c.sync.ensures.elapses)))

pub returns-clause-seals : goal.returns-clause-seals
returns-clause-seals g c =
    let store = c.args.self.now in
    let progress = c.in-Filling.progress in
    let fits : progress.end + manifest_length store ≤ store.size = omega (arith, c.if-need-from.false, c.from.ensures, c.from-2.ensures, c.len-length.ensures) in
    record {
      sealed = search rules;
      manifest = refl;
      written = λ image told other filling.
          c.in_ok-sync.ensures.kept ∙ c.in_ok-write_slot.ensures.written _ (c.in_ok-write_manifest.ensures.written image told)
          ∙ seal_written store progress other image _ (ap (λ (n : ℕ). n + 4) c.len-length.ensures) c.in-Filling.is filling;
      ready = λ image told now later s given was has.
          let is : now ≡ sealed_image store progress image =
          same_image now _ (sym later ∙ c.in_ok-sync.ensures.kept ∙ c.in_ok-write_slot.ensures.written _ (c.in_ok-write_manifest.ensures.written image told))
          ∙ ap (λ (n : ℕ). with_slot store progress.end (n + 4) (with_manifest store progress image)) c.len-length.ensures in
          is_ready store _ progress image now s given (record { offset = progress.end; length = c.len-length.result + 4 }) (record { size = refl; active = refl; known = refl }) refl refl refl
          (ap (λ (n : ℕ). n + 4) c.len-length.ensures) c.in-Filling.is
          (missing_none store progress c.requires.filling.0 c.in-Filling.is c.requires.filling.1 c.requires.filling.2) fits is was has;
      settled = c.in_ok-sync.ensures.settled;
    }

pub returns-clause-keeps : goal.returns-clause-keeps
returns-clause-keeps g c =
    let store = c.args.self.now in
    let progress = c.in-Filling.progress in
    let disk = g.K.Disk.state c.args.disk.now in
    let fits : progress.end + manifest_length store ≤ store.size = omega (arith, c.if-need-from.false, c.from.ensures, c.from-2.ensures, c.len-length.ensures) in
    let shut = begun_shut store progress c.in-Filling.is in
    let is : (image now : Image) → disk.reads ≡ Some image → (g.K.Disk.state c.sync.new.self).reads ≡ Some now → now ≡ sealed_image store progress image =
    λ image now told later.
    same_image now _ (sym later ∙ c.in_ok-sync.ensures.kept ∙ c.in_ok-write_slot.ensures.written _ (c.in_ok-write_manifest.ensures.written image told))
    ∙ ap (λ (n : ℕ). with_slot store progress.end (n + 4) (with_manifest store progress image)) c.len-length.ensures in
    keeps_written store _ disk _ _ (record { size = refl; active = refl; known = refl }) refl (search rules)
    (c.sync.ensures.elapses.tells ∙ c.write_slot.ensures.goes_on.tells ∙ c.write_manifest.ensures.goes_on.tells) (g.met.K.Disk.reads_now c.sync.new.self)
    (λ image works told. adds_sync disk _ _ (SameButForWork store image) _
    (near_then store disk _ _ image (near_then store disk disk _ image (near_start store disk image works told) c.write_manifest.ensures.near) c.write_slot.ensures.near) c.sync.ensures.elapses)
    (λ image now told later. subst (λ (i : Image). SameButForWork store image i) (sym (is image now told later)) (near_sealed store progress image shut fits))
    (λ image now s told later was work.
    let given = given_of store image progress c.in-Filling.is work in
    sealed_work _ now _ s given.0 refl
    (stands_sealed store _ progress image now s (record { size = refl; active = refl; known = refl }) refl shut fits (is image now told later) was)
    (is_ready store _ progress image now s given.0 (record { offset = progress.end; length = c.len-length.result + 4 }) (record { size = refl; active = refl; known = refl }) refl refl refl
    (ap (λ (n : ℕ). n + 4) c.len-length.ensures) c.in-Filling.is
    (missing_none store progress c.requires.filling.0 c.in-Filling.is c.requires.filling.1 c.requires.filling.2) fits (is image now told later) was given.1))
    (λ sealed. c.in_ok-sync.ensures.settled)
