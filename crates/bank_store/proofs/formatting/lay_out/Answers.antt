use Rattle.std.proofs.Common.{Some, List, ℕ, ◌∙◌, sym, ap, subst}
use Rattle.disk_model.specs.Image.{Image}
use Rattle.bank_store.specs.Formatting.{IsLaidOut}
use Rattle.bank_store.proofs.Gates.{same_image}
use Rattle.bank_store.proofs.Images.{told_before}
use Rattle.bank_store.proofs.Layouts.{laid, is_laid_out}
use Rattle.bank_store.proofs.formatting.lay_out.Goals as goal

pub returns-clause-laid_out : goal.returns-clause-laid_out
returns-clause-laid_out g c shut image may =
    let told = c.in_ok-sync.ensures.settled.only image may in
    let before = told_before _ _ image (c.sync.ensures.elapses.tells ∙ c.write-3.ensures.elapses.tells ∙ c.write-2.ensures.elapses.tells ∙ c.write.ensures.elapses.tells) told in
    let first = c.in_ok-write.ensures.bytes before.0 before.1 in
    let second = c.in_ok-write-2.ensures.bytes _ first in
    let third = c.in_ok-write-3.ensures.bytes _ second in
    let is = same_image image _ (sym told ∙ c.in_ok-sync.ensures.kept ∙ third) in
    let id = c.args.identity.now in
    let text = c.as_slice.ensures ∙ c.encode-prefix.ensures.text in
    let fits = c.encode-prefix.ensures.fits in
    subst (λ (i : Image). IsLaidOut id i) (sym (is ∙ ap (λ (prefix : List ℕ). laid before.0 prefix) text))
    (is_laid_out before.0 id (shut before.0 (g.met.K.Disk.reads_now c.args.disk.now before.0 before.1)) (c.an_identity_is_read_again.ensures.short id fits)
    (λ i. c.an_identity_is_read_again.ensures.read i id fits))

pub returns-clause-reads : goal.returns-clause-reads
returns-clause-reads g c image told =
    let written = c.in_ok-write-3.ensures.bytes _ (c.in_ok-write-2.ensures.bytes _ (c.in_ok-write.ensures.bytes image told)) in
    c.in_ok-sync.ensures.kept ∙ written ∙ ap (λ (prefix : List ℕ). Some (laid image prefix)) (c.as_slice.ensures ∙ c.encode-prefix.ensures.text)
