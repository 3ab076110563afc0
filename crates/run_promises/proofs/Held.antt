-- Proofs that what an image holds is what a disk can hold.
use Rattle.std.proofs.Common.{◌≡◌, ℕ, ◌<◌, ◌≤◌, ◌^◌, List, [], length, true, arith, subst}
use Rattle.std.specs.Prelude.{is_none}
use Rattle.std.proofs.lemmas.Bool.Decides.{nat_tests}
use Rattle.load_base.specs.Ident.{IsIdent}
use Rattle.load_base.specs.Verdicts.{ident_fault_of}
use Rattle.load_base.proofs.VerdictLemmas.{ident_faults}
use Rattle.disk_model.specs.Image.{Image}
use Rattle.field_grammar.specs.Fields.{number, number_fields, short, short_fields}
use Rattle.field_grammar.specs.Grammar.{Follows}
use Rattle.field_grammar.proofs.NumberLemmas.{spelled-number, wide4}
use Rattle.field_grammar.proofs.TextLemmas.{IsShortText, spelled-short}
use Rattle.disk_layout.specs.declared.identity.Identity.{Identity}
use Rattle.disk_layout.specs.Contents.{entries_of}
use Rattle.disk_layout.proofs.FieldLemmas.{nothing_wrong, spelled-sound}
use Rattle.disk_layout.specs.Holds.{manifest_of}
use Rattle.disk_layout.specs.Identity.{HasIdentity, IsIdentity, bank_size, ident, identity}
use Rattle.disk_layout.proofs.ManifestSpelling.{manifest_spelling}
use Rattle.disk_layout.specs.Offsets.{IsBankSize, is_bank_size}
use Rattle.run_promises.specs.Listing.{WhatIsHeldFits}

-- ---- the fields of an identity

bank_is : (before : List ℕ) (fields : List (List ℕ)) (after size : ℕ) → Follows bank_size before fields after size → IsBankSize size
unfolding bank_size
bank_is before fields after size follows =
    let passes : is_bank_size size ≡ true = ((spelled-sound (λ offset. offset) (number 4) is_bank_size (number_fields 4) (λ n. n < 256 ^ 4) (spelled-number 4 wide4)).to before fields after size follows).1.1 in
    (least size passes, most size passes)
  where
    least : (n : ℕ) → is_bank_size n ≡ true → 4096 ≤ n
    least n e = grind (arith, nat_tests)

    most : (n : ℕ) → is_bank_size n ≡ true → n ≤ 67108864
    most n e = grind (arith, nat_tests)

ident_is : (before : List ℕ) (fields : List (List ℕ)) (after : ℕ) (text : List ℕ) → Follows ident before fields after text → IsIdent text
unfolding ident
ident_is before fields after text follows =
    let passes : is_none (ident_fault_of text) ≡ true = ((spelled-sound (λ offset. offset) short (λ t. is_none (ident_fault_of t)) short_fields IsShortText spelled-short).to before fields after text follows).1.1 in
    (ident_faults.right text).1 (nothing_wrong (ident_fault_of text) passes)

identity_is : (fields : List (List ℕ)) (after : ℕ) (id : Identity) → Follows identity [] fields after id → IsIdentity id
unfolding identity
identity_is fields after id follows =
    let (u, f0, o0, p0, h0, (bank, f1, o1, p1, h1, (hw, f2, o2, p2, h2, (pos, f3, o3, p3, h3, (serial, f4, o4, p4, h4, (v, f5, o5, p5, h5, last)))))) = follows in
    subst (λ (i : Identity). IsIdentity i) last.1 (record { bank = bank_is _ f1 _ bank h1; hw = ident_is _ f2 _ hw h2; pos = ident_is _ f3 _ pos h3; serial = ident_is _ f4 _ serial h4 })

-- ---- the whole

identity_of : (image : Image) (id : Identity) → HasIdentity image id → IsIdentity id
identity_of image id (fields, rest, parts, follows) = identity_is fields (length rest) id follows

pub held_fits : WhatIsHeldFits
held_fits image s held =
    let (layout, fits, is) = (manifest_spelling (manifest_of image s.identity held.slot) (entries_of s.loads)).0 held.by.outline.manifest in
    record { identity = identity_of image s.identity held.by.outline.has_active.identity; loads = record { layout = layout; fits = fits } }
