use Rattle.std.proofs.Common.{◌≡◌, Some, refl, sym, ◌∙◌, subst, rules}
use Rattle.std.proofs.lemmas.Result.{err_from_is_err_and}
use Rattle.disk_model.specs.Image.{Image}
use Rattle.disk_layout.specs.Contents.{entries_of}
use Rattle.bank_store.specs.Fits.{SameButForWork}
use Rattle.bank_store.specs.Store.{with_slot}
use Rattle.bank_store.proofs.Continuing.{begun_shut}
use Rattle.bank_store.proofs.Gates.{same_image}
use Rattle.bank_store.proofs.Keeping.{keeps_active, keeps_failed}
use Rattle.bank_store.proofs.Moments.{adds_read, adds_sync}
use Rattle.bank_store.proofs.Readopted.{counts_on, manifest_stays, near_slot, ready_again, sealed_again, settled_on}
use Rattle.bank_store.proofs.Working.{holds_still, keeps_written, near_start, near_then}
use Rattle.bank_store.proofs.store.Store.readopt.Goals as goal

pub returns-in_err-write_slot-clause-keeps : goal.returns-in_err-write_slot-clause-keeps
returns-in_err-write_slot-clause-keeps g c =
    let store = c.args.self.now in
    let disk = g.K.Disk.state c.args.disk.now in
    let p = err_from_is_err_and c.from_residual.result c.from_residual.ensures.1 in rw (p.1, p.2)
    (keeps_failed store disk _ _
    (λ s beside. holds_still store disk _ beside.image s beside.holds
    (near_then store disk disk _ beside.image (near_start store disk beside.image beside.works beside.told) c.write_slot.ensures.near)))

pub returns-in_err-sync-clause-keeps : goal.returns-in_err-sync-clause-keeps
returns-in_err-sync-clause-keeps g c =
    let store = c.args.self.now in
    let disk = g.K.Disk.state c.args.disk.now in
    let p = err_from_is_err_and c.from_residual-in_err-sync.result c.from_residual-in_err-sync.ensures.1 in rw (p.1, p.2)
    (keeps_failed store disk _ _
    (λ s beside. holds_still store disk _ beside.image s beside.holds (adds_sync disk _ _ (SameButForWork store beside.image) _
    (near_then store disk disk _ beside.image (near_start store disk beside.image beside.works beside.told) c.write_slot.ensures.near) c.sync.ensures.elapses)))

pub returns-in_err-read_entries-clause-keeps : goal.returns-in_err-read_entries-clause-keeps
returns-in_err-read_entries-clause-keeps g c =
    let store = c.args.self.now in
    let disk = g.K.Disk.state c.args.disk.now in
    let p = err_from_is_err_and c.from_residual-in_err-read_entries.result c.from_residual-in_err-read_entries.ensures.1 in rw (p.1, p.2)
    (keeps_active store _ disk _ _ (record { size = refl; active = refl; known = refl })
    (λ s beside. holds_still store disk _ beside.image s beside.holds (adds_read disk _ _ (SameButForWork store beside.image) (adds_sync disk _ _ (SameButForWork store beside.image) _
    (near_then store disk disk _ beside.image (near_start store disk beside.image beside.works beside.told) c.write_slot.ensures.near) c.sync.ensures.elapses) c.read_entries.ensures.reads.only_reads)))

pub returns-clause-readopts : goal.returns-clause-readopts
returns-clause-readopts g c =
    let store = c.args.self.now in record {
      sealed = refl;
      written = λ image told. c.in_ok-read_entries.ensures.reads.kept ∙ c.in_ok-sync.ensures.kept ∙ c.in_ok-write_slot.ensures.written image told;
      ready = λ image told now later s loads was has.
          let there = c.in_ok-sync.ensures.kept ∙ c.in_ok-write_slot.ensures.written image told in
          ready_again store _ c.args.place c.args.length image now s loads (record { size = refl; active = refl; known = refl }) refl (same_image now _ (sym later ∙ c.in_ok-read_entries.ensures.reads.kept ∙ there))
          (counts_on store c.requires.filling) was has
          (c.in_ok-read_entries.ensures.said (with_slot store c.args.place c.args.length image) there (entries_of loads) (manifest_stays store c.args.place c.args.length image loads _ c.work.ensures.offset has));
      settled = settled_on _ _ c.in_ok-sync.ensures.settled c.read_entries.ensures.reads.only_reads c.in_ok-read_entries.ensures.reads.kept;
    }

pub returns-clause-keeps : goal.returns-clause-keeps
returns-clause-keeps g c =
    let store = c.args.self.now in
    let disk = g.K.Disk.state c.args.disk.now in
    let readopts = returns-clause-readopts g c in
    let shut = begun_shut store _ c.requires.filling in
    let is : (image now : Image) → disk.reads ≡ Some image → (g.K.Disk.state c.read_entries.new.disk).reads ≡ Some now → now ≡ with_slot store c.args.place c.args.length image =
    λ image now told later. same_image now _ (sym later ∙ readopts.written image told) in
    keeps_written store _ disk _ _ (record { size = refl; active = refl; known = refl }) refl (search rules)
    (c.read_entries.ensures.reads.only_reads.tells ∙ c.sync.ensures.elapses.tells ∙ c.write_slot.ensures.goes_on.tells) (g.met.K.Disk.reads_now c.read_entries.new.disk)
    (λ image works told. adds_read disk _ _ (SameButForWork store image) (adds_sync disk _ _ (SameButForWork store image) _
    (near_then store disk disk _ image (near_start store disk image works told) c.write_slot.ensures.near) c.sync.ensures.elapses) c.read_entries.ensures.reads.only_reads)
    (λ image now told later. subst (λ (i : Image). SameButForWork store image i) (sym (is image now told later)) (near_slot store c.args.place c.args.length image shut))
    (λ image now s told later was work.
    let (loads, has) = c.requires.manifest.manifest image told in
    sealed_again store _ c.args.place c.args.length image now s loads (record { size = refl; active = refl; known = refl }) refl shut refl (is image now told later) was (readopts.ready image told now later s loads was has))
    (λ sealed. readopts.settled)
