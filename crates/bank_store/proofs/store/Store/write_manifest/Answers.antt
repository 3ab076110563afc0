use Rattle.std.proofs.Common.{◌≡◌, ◌+◌, length, ap, ◌∙◌, arith}
use Rattle.bank_store.specs.Fits.{SameButForWork}
use Rattle.bank_store.proofs.Moments.{adds_none}
use Rattle.bank_store.proofs.Near.{IsWork}
use Rattle.bank_store.proofs.Opened.{head_length}
use Rattle.bank_store.proofs.Working.{bank_is_work, near_write}
use Rattle.bank_store.proofs.store.Store.write_manifest.Goals as goal

pub returns-in_err-write-clause-near : goal.returns-in_err-write-clause-near
returns-in_err-write-clause-near g c image was =
    let disk = g.K.Disk.state c.args.disk.now in
    let store = c.args.self.now in
    let size : length c.head_of.result ≡ 4 = ap length c.head_of.ensures ∙ head_length c.args.progress.loads in
    let work : IsWork store (c.work.result + c.args.progress.end) (length c.head_of.result) =
    bank_is_work store _ _ (omega (arith, c.work.ensures.offset)) (omega (arith, c.work.ensures.offset, c.requires.within, size)) in
    near_write store disk image disk _ _ _ _ work (adds_none disk (SameButForWork store image) was) c.write.ensures.elapses

pub returns-clause-near : goal.returns-clause-near
returns-clause-near g c image was =
    let disk = g.K.Disk.state c.args.disk.now in
    let store = c.args.self.now in
    let size : length c.head_of.result ≡ 4 = ap length c.head_of.ensures ∙ head_length c.args.progress.loads in
    let rest : length c.as_slice.result.now ≡ length store.body.items = ap length c.as_slice.ensures in
    let work : IsWork store (c.work.result + c.args.progress.end) (length c.head_of.result) =
    bank_is_work store _ _ (omega (arith, c.work.ensures.offset)) (omega (arith, c.work.ensures.offset, c.requires.within, size)) in
    let behind : IsWork store (c.work.result + c.args.progress.end + 4) (length c.as_slice.result.now) =
    bank_is_work store _ _ (omega (arith, c.work.ensures.offset)) (omega (arith, c.work.ensures.offset, c.requires.within, rest)) in
    near_write store disk image _ _ _ _ _ behind (near_write store disk image disk _ _ _ _ work (adds_none disk (SameButForWork store image) was) c.write.ensures.elapses) c.write-2.ensures.elapses
