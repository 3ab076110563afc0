use Rattle.std.proofs.Common.{◌≡◌, ◌+◌, ℕ, length, refl, sym, ◌∙◌, ap, subst, arith, rules}
use Rattle.std.proofs.lemmas.Bool.{eqb-true}
use Rattle.std.proofs.lemmas.Result.{err_from_is_err_and}
use Rattle.disk_model.specs.Image.{Image, overlay}
use Rattle.bank_store.specs.Fits.{SameButForWork}
use Rattle.bank_store.specs.Store.{work_at}
use Rattle.bank_store.proofs.Continuing.{given_of, has_work, filling_not_sealed}
use Rattle.bank_store.proofs.Gates.{same_image}
use Rattle.bank_store.proofs.Giving.{given_bytes, given_none}
use Rattle.bank_store.proofs.Keeping.{keeps_same, keeps_failed}
use Rattle.bank_store.proofs.Near.{IsWork}
use Rattle.bank_store.proofs.Working.{bank_is_work, near_start, near_write, holds_still, near_overlay, keeps_written}
use Rattle.bank_store.proofs.Written.{piece_written, no_piece}
use Rattle.bank_store.proofs.store.Store.append.Goals as goal

pub returns-then-need-from-clause-keeps : goal.returns-then-need-from-clause-keeps
returns-then-need-from-clause-keeps g c = keeps_same c.args.self.now (g.K.Disk.state c.args.disk.now) _ c.requires.running

pub returns-then-is_empty-clause-keeps : goal.returns-then-is_empty-clause-keeps
returns-then-is_empty-clause-keeps g c = keeps_same c.args.self.now (g.K.Disk.state c.args.disk.now) _ c.requires.running

pub returns-in_err-write-clause-keeps : goal.returns-in_err-write-clause-keeps
returns-in_err-write-clause-keeps g c =
    let store = c.args.self.now in
    let disk = g.K.Disk.state c.args.disk.now in
    let work : IsWork store (c.work.result + c.in-Filling.progress.end) (length c.args.bytes.now) =
    bank_is_work store _ _ (omega (arith, c.work.ensures.offset)) (omega (arith, c.work.ensures.offset, c.if-need-from.false, c.from.ensures, c.from-2.ensures)) in
    let p = err_from_is_err_and c.from_residual.result c.from_residual.ensures.1 in rw (p.1, p.2)
    (keeps_failed store disk _ _
    (λ s beside. holds_still store disk _ beside.image s beside.holds
    (near_write store disk beside.image disk _ _ _ _ work (near_start store disk beside.image beside.works beside.told) c.write.ensures.elapses)))

pub returns-then-is_empty-clause-appends : goal.returns-then-is_empty-clause-appends
returns-then-is_empty-clause-appends g c =
    let none = eqb-true (length c.args.bytes.now) 0 (sym c.is_empty.ensures ∙ c.if-is_empty.true) in
    record {
      filling = search rules;
      manifest = refl;
      written = λ image told progress filling. told ∙ no_piece c.args.self.now progress image c.args.bytes.now none;
      given = λ image told now later g was. given_none c.args.self.now image now c.args.bytes.now g none (same_image image now (sym told ∙ later)) was;
    }

pub returns-clause-appends : goal.returns-clause-appends
returns-clause-appends g c =
    let store = c.args.self.now in
    record {
      filling = search rules;
      manifest = refl;
      written = λ image told progress filling.
          c.in_ok-write.ensures.bytes image told ∙ piece_written store c.in-Filling.progress progress image c.args.bytes.now c.work.result c.work.ensures.offset c.in-Filling.is filling;
      given = λ image told now later given was.
          let is : now ≡ overlay image (work_at store + c.in-Filling.progress.end) c.args.bytes.now =
          same_image now _ (sym later ∙ c.in_ok-write.ensures.bytes image told) ∙ ap (λ (at : ℕ). overlay image (at + c.in-Filling.progress.end) c.args.bytes.now) c.work.ensures.offset in
          given_bytes store _ image now c.args.bytes.now c.in-Filling.progress given (record { size = refl; active = refl; known = refl }) c.in-Filling.is refl refl is was;
    }

pub returns-clause-keeps : goal.returns-clause-keeps
returns-clause-keeps g c =
    let store = c.args.self.now in
    let disk = g.K.Disk.state c.args.disk.now in
    let work : IsWork store (c.work.result + c.in-Filling.progress.end) (length c.args.bytes.now) =
    bank_is_work store _ _ (omega (arith, c.work.ensures.offset)) (omega (arith, c.work.ensures.offset, c.if-need-from.false, c.from.ensures, c.from-2.ensures)) in
    keeps_written store _ disk _ _ (record { size = refl; active = refl; known = refl }) refl (search rules) c.write.ensures.elapses.tells (g.met.K.Disk.reads_now c.write.new.self)
    (λ image works told. near_write store disk image disk _ _ _ _ work (near_start store disk image works told) c.write.ensures.elapses)
    (λ image now told later.
    subst (λ (i : Image). SameButForWork store image i) (sym (same_image now _ (sym later ∙ c.in_ok-write.ensures.bytes image told))) (near_overlay store image _ c.args.bytes.now work))
    (λ image now s told later was work.
    let given = given_of store image c.in-Filling.progress c.in-Filling.is work in
    let is : now ≡ overlay image (work_at store + c.in-Filling.progress.end) c.args.bytes.now =
    same_image now _ (sym later ∙ c.in_ok-write.ensures.bytes image told) ∙ ap (λ (at : ℕ). overlay image (at + c.in-Filling.progress.end) c.args.bytes.now) c.work.ensures.offset in
    has_work _ now _ _ refl
    (given_bytes store _ image now c.args.bytes.now c.in-Filling.progress given.0 (record { size = refl; active = refl; known = refl }) c.in-Filling.is refl refl is given.1))
    (λ sealed. absurd (filling_not_sealed _ sealed.0 sealed.1))
