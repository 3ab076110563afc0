use Rattle.std.proofs.Common.{◌≡◌, ◌+◌, length, ap, ◌∙◌, arith}
use Rattle.bank_store.specs.Fits.{SameButForWork}
use Rattle.bank_store.proofs.Moments.{adds_none}
use Rattle.bank_store.proofs.Near.{IsWork}
use Rattle.bank_store.proofs.Opened.{slot_body_length}
use Rattle.bank_store.proofs.Working.{slot_is_work, near_write}
use Rattle.bank_store.proofs.store.Store.write_slot.Goals as goal

pub returns-clause-near : goal.returns-clause-near
returns-clause-near g c image was =
    let disk = g.K.Disk.state c.args.disk.now in
    let store = c.args.self.now in
    let size : length c.slot_bytes.result ≡ 13 = ap length c.slot_bytes.ensures ∙ slot_body_length store c.args.offset c.args.length in
    let work : IsWork store (c.other-at.result + 16) (length c.slot_bytes.result) =
    slot_is_work store _ _ c.requires.shut (omega (arith, c.other-at.ensures)) (omega (arith, c.other-at.ensures, size)) in
    near_write store disk image disk _ _ _ _ work (adds_none disk (SameButForWork store image) was) c.write.ensures.elapses
