use Rattle.std.proofs.Common.{◌+◌, ◌++◌, ℕ, List, refl, sym, ◌∙◌, ap, ap₂, subst, arith, rules}
use Rattle.std.proofs.lemmas.Result.{err_from_is_err_and}
use Rattle.disk_model.specs.Image.{Image, overlay, range}
use Rattle.disk_model.proofs.RangeLemmas.{length_range}
use Rattle.bank_store.specs.Fits.{SameButForWork}
use Rattle.bank_store.proofs.KnownLemmas.{says_one}
use Rattle.bank_store.proofs.Continuing.{filling_not_sealed, given_of, has_work, missing_none}
use Rattle.bank_store.proofs.Gates.{same_image}
use Rattle.bank_store.proofs.Keeping.{keeps_same, keeps_failed}
use Rattle.bank_store.proofs.KeptLoads.{IsPlaceOf, given_kept, knows_all, part_of, passes_by, place_copied, place_kept, place_says, place_short, place_within, still_few}
use Rattle.bank_store.proofs.Near.{IsWork}
use Rattle.bank_store.proofs.Working.{bank_is_work, holds_still, keeps_written, near_overlay, near_start, near_then}
use Rattle.bank_store.proofs.store.Store.keep.Goals as goal

pub returns-then-need-from-clause-keeps : goal.returns-then-need-from-clause-keeps
returns-then-need-from-clause-keeps g c = keeps_same c.args.self.now (g.K.Disk.state c.args.disk.now) _ c.requires.running

pub returns-in_err-copy-clause-keeps : goal.returns-in_err-copy-clause-keeps
returns-in_err-copy-clause-keeps g c =
    let store = c.args.self.now in
    let disk = g.K.Disk.state c.args.disk.now in
    let p = err_from_is_err_and c.from_residual.result c.from_residual.ensures.1 in rw (p.1, p.2)
    (keeps_failed store disk _ _
    (λ s beside. holds_still store disk _ beside.image s beside.holds
    (near_then store disk disk _ beside.image (near_start store disk beside.image beside.works beside.told) c.copy.ensures.near)))

pub returns-then-need-from-clause-refuses : goal.returns-then-need-from-clause-refuses
returns-then-need-from-clause-refuses g c =
    let stands : IsPlaceOf c.args.self.now c.args.load c.find_load-place.result =
    λ before behind entry says at. c.find_load-place.ensures.place before behind entry (rw c.as_slice.ensures says) (omega (arith, at)) in
    record {
      full = λ need have.
          passes_by c.args.self.now c.args.load c.find_load-place.result c.in-Filling.progress _ _ c.requires.known stands c.in-Filling.is (ap (λ (n : ℕ). n + c.find_load-place.result.files_length) c.from.ensures)
          refl (omega (arith, c.if-need-from.true, c.from-2.ensures)) need have;
      untouched = λ need have is. refl;
      not_spent = search rules;
      unchanged = refl;
    }

pub add_entry-requires-clause-entry : goal.add_entry-requires-clause-entry
add_entry-requires-clause-entry g c =
    let stands : IsPlaceOf c.args.self.now c.args.load c.find_load-place.result =
    λ before behind entry says at. c.find_load-place.ensures.place before behind entry (rw c.as_slice.ensures says) (omega (arith, at)) in
    record {
      within = place_within c.args.self.now c.args.load c.find_load-place.result c.requires.known stands;
      short = place_short c.args.self.now c.args.load c.find_load-place.result c.requires.known stands;
    }

pub returns-clause-keeps_load : goal.returns-clause-keeps_load
returns-clause-keeps_load g c =
    let store = c.args.self.now in
    let place = c.find_load-place.result in
    let progress = c.in-Filling.progress in
    let stands : IsPlaceOf store c.args.load place = λ before behind entry says at. c.find_load-place.ensures.place before behind entry (rw c.as_slice.ensures says) (omega (arith, at)) in
    record {
      filling = λ is other filling. c.add_entry.ensures.filling ∙ place_kept store c.args.load _ place progress other is stands refl c.in-Filling.is filling;
      manifest = λ is. c.add_entry.ensures.body ∙ ap (λ (l : List ℕ). store.body.items ++ l) (place_says store c.args.load place is stands);
      written = λ image told is other filling.
          c.in_ok-copy.ensures.written image told
          ∙ place_copied store c.args.load _ place progress other is image _ _ stands refl (ap (λ (n : ℕ). n + place.files) c.bank_at.ensures.offset)
          (ap (λ (n : ℕ). n + progress.end) c.work.ensures.offset) c.in-Filling.is filling;
      given = λ image told now later s given holds was front back kept are at.
          given_kept store c.add_entry.new.self image now s given c.args.load c.requires.known place progress _ front back kept stands c.add_entry.ensures.active c.in-Filling.is
          (missing_none store progress c.requires.filling.0 c.in-Filling.is c.requires.filling.1 c.requires.filling.3)
          (still_few store progress c.requires.filling.0 c.in-Filling.is c.requires.filling.1 c.requires.filling.2) c.add_entry.ensures.filling refl c.add_entry.ensures.body
          (same_image now _ (sym later ∙ c.in_ok-copy.ensures.written image told)
          ∙ ap₂ (λ (b : ℕ) (w : ℕ). overlay image (w + progress.end) (range image (b + place.files) place.files_length)) c.bank_at.ensures.offset c.work.ensures.offset) holds was are at;
    }

pub returns-clause-keeps : goal.returns-clause-keeps
returns-clause-keeps g c =
    let store = c.args.self.now in
    let new = c.add_entry.new.self in
    let disk = g.K.Disk.state c.args.disk.now in
    let load = returns-clause-keeps_load g c in
    let progress = c.in-Filling.progress in
    let work : IsWork store (c.work.result + progress.end) c.find_load-place.result.files_length =
    bank_is_work store _ _ (omega (arith, c.work.ensures.offset)) (omega (arith, c.work.ensures.offset, c.if-need-from.false, c.from.ensures, c.from-2.ensures)) in
    keeps_written store new disk _ _ c.add_entry.ensures.active c.add_entry.ensures.gate (search rules) c.copy.ensures.goes_on.tells (g.met.K.Disk.reads_now c.copy.new.disk)
    (λ image works told. near_then store disk disk _ image (near_start store disk image works told) c.copy.ensures.near)
    (λ image now told later.
    subst (λ (i : Image). SameButForWork store image i) (sym (same_image now _ (sym later ∙ c.in_ok-copy.ensures.written image told)))
    (near_overlay store image _ _ (subst (λ (n : ℕ). IsWork store (c.work.result + progress.end) n) (sym (length_range image _ _)) work)))
    (λ image now s told later was has.
    let given = given_of store image progress c.in-Filling.is has in
    let is = c.requires.known in
    let part = part_of s.loads is.before is.behind is.kept (says_one _ _ _ is.says (knows_all store image s c.args.load was is)) in
    has_work new now _ _ c.add_entry.ensures.filling (load.given image told now later s given.0 was given.1 part.front part.back part.load part.are (ap (λ (n : ℕ). n + 1) part.is_at ∙ is.is_at)))
    (λ sealed. absurd (filling_not_sealed _ sealed.0 (sym c.add_entry.ensures.filling ∙ sealed.1)))
