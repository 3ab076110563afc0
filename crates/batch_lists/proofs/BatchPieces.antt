-- How the pieces of a batch are spelled that stand anywhere.
use Rattle.std.proofs.Common.{◌≡◌, ℕ, ◌+◌, ◌<◌, ◌^◌, [], ◌++◌, length, refl, sym, subst, arith, leb}
use Rattle.std.specs.List.{concat, All}
use Rattle.std.proofs.lemmas.Bool.{leb-true, le-leb, and_from}
use Rattle.std.proofs.lemmas.List.{append-nil}
use Rattle.load_base.specs.Ident.{IsIdent, IsIdentFault}
use Rattle.load_base.specs.Verdicts.{ident_fault_of}
use Rattle.load_base.proofs.VerdictLemmas.{ident_faults}
use Rattle.part_number.specs.PartNumber.{IsPartNumberText}
use Rattle.field_grammar.specs.Grammar.{expected}
use Rattle.field_grammar.specs.Spelling.{IsSpelledBy}
use Rattle.field_grammar.specs.Fields.{number, number_fields, padded_fields}
use Rattle.field_grammar.proofs.CombinedLemmas.{spelled-renamed, spelled-expected, spelled-counted_all}
use Rattle.field_grammar.proofs.JudgedLemmas.{spelled-right_padded}
use Rattle.field_grammar.proofs.NumberLemmas.{wide2, spelled-number}
use Rattle.header_sections.specs.Sections.{part}
use Rattle.header_sections.specs.SectionFields.{texts_fields}
use Rattle.header_sections.proofs.SectionLemmas as sections
use Rattle.media_lists.proofs.PieceLemmas.{both}
use Rattle.batch_lists.specs.BatchFaults.{named, refused}
use Rattle.batch_lists.specs.Batch.{u16, shared, ident, counted, batch_parts, batch_target, batch_targets, contents, one_part, BatchTargetView, BatchView}
use Rattle.batch_lists.specs.BatchFields.{batch_target_fields, batch_targets_fields, contents_fields, IsCount, IsBatchTarget, AreContents}
use Rattle.batch_lists.specs.declared.fault.BatchFault.TheVariants as faults
use Rattle.batch_lists.specs.declared.fault.BatchWordFault.TheVariants as words

pub spelled-u16 : IsSpelledBy u16 (number_fields 2) (λ n. n < 2 ^ 16)
spelled-u16 = spelled-renamed named (number 2) (number_fields 2) (λ n. n < 2 ^ 16) (spelled-number 2 wide2)

spelled-ident : IsSpelledBy ident padded_fields IsIdent
unfolding ident
spelled-ident = spelled-right_padded named (λ offset fault. faults.Word offset (words.Ident fault)) ident_fault_of IsIdent IsIdentFault ident_faults (λ t is. omega (arith, is.size.1))

spelled-part : IsSpelledBy (shared part) padded_fields (λ t. IsPartNumberText t)
spelled-part = spelled-renamed refused part padded_fields (λ t. IsPartNumberText t) sections.spelled-part

spelled-counted : (most : ℕ) → most < 2 ^ 16 → IsSpelledBy (counted most) (number_fields 2) (IsCount most)
unfolding counted
spelled-counted most few = record {
  to = λ before fields after value follows.
      let (b, f0, o0, e0, h0, (count, f1, o1, e1, h1, (u, f2, o2, e2, h2, last))) = follows in
      let a1 = spelled-u16.to (before ++ concat f0) f1 (length (concat o1) + after) count h1 in
      let is = both (leb 1 count) (leb count most) h2.1 in
      let parts : fields ≡ number_fields 2 count = rw (e0, h0.0, e1, e2, h2.0, last.0, a1.0) refl in
      subst (λ (n : ℕ). (fields ≡ number_fields 2 n) × IsCount most n) last.1 (parts, (leb-true 1 count is.0, leb-true count most is.1));
  from = λ before after value fits. (
    before,
    [],
    number_fields 2 value,
    refl,
    (refl, refl),
    (value, number_fields 2 value, [], refl, spelled-u16.from _ _ value (omega (arith, few, fits.1)), (tt, [], [], refl, (refl, and_from (leb 1 value) (leb value most) (le-leb 1 value fits.0) (le-leb value most fits.1)), (refl, refl))),
  );
}

-- ---- targets

spelled-one_part : IsSpelledBy one_part padded_fields (λ t. IsPartNumberText t)
unfolding one_part
spelled-one_part = spelled-part

spelled-parts : IsSpelledBy batch_parts texts_fields (λ l. IsCount 32 (length l) × All (λ t. IsPartNumberText t) l)
unfolding batch_parts texts_fields
spelled-parts = spelled-counted_all (counted 32) one_part (number_fields 2) padded_fields (IsCount 32) (λ t. IsPartNumberText t) (spelled-counted 32 (omega arith)) spelled-one_part

spelled-target : IsSpelledBy batch_target batch_target_fields (λ t. IsBatchTarget t)
unfolding batch_target
spelled-target = record {
  to = λ before fields after value follows.
      let (hw, f1, o1, e1, h1, (pos, f2, o2, e2, h2, (parts, f3, o3, e3, h3, last))) = follows in
      let a = spelled-ident.to before f1 (length (concat o1) + after) hw h1 in
      let b = spelled-ident.to (before ++ concat f1) f2 (length (concat o2) + after) pos h2 in
      let c = spelled-parts.to ((before ++ concat f1) ++ concat f2) f3 (length (concat o3) + after) parts h3 in
      let is : BatchTargetView = record { hw = hw; pos = pos; parts = parts } in
      let whole : fields ≡ batch_target_fields is = rw (e1, e2, e3, last.0, a.0, b.0, c.0, append-nil) refl in
      let fits : IsBatchTarget is = record { hw = a.1; pos = b.1; count = c.1.0; parts = c.1.1 } in
      subst (λ (v : BatchTargetView). (fields ≡ batch_target_fields v) × IsBatchTarget v) last.1 (whole, fits);
  from = λ before after value fits. (
    value.hw,
    padded_fields value.hw,
    padded_fields value.pos ++ texts_fields value.parts,
    refl,
    spelled-ident.from _ _ value.hw fits.hw,
    (
      value.pos,
      padded_fields value.pos,
      texts_fields value.parts,
      refl,
      spelled-ident.from _ _ value.pos fits.pos,
      (value.parts, texts_fields value.parts, [], sym (append-nil (texts_fields value.parts)), spelled-parts.from _ _ value.parts (fits.count, fits.parts), (refl, refl)),
    ),
  );
}

spelled-targets : IsSpelledBy batch_targets batch_targets_fields (λ l. IsCount 64 (length l) × All (λ t. IsBatchTarget t) l)
unfolding batch_targets batch_targets_fields
spelled-targets = spelled-counted_all (counted 64) batch_target (number_fields 2) batch_target_fields (IsCount 64) (λ t. IsBatchTarget t) (spelled-counted 64 (omega arith)) spelled-target

-- ---- the contents

spelled-spare : IsSpelledBy (expected u16 0 faults.Spare) (λ u. number_fields 2 0) (λ u. Unit {0})
spelled-spare = spelled-expected u16 0 faults.Spare (number_fields 2) (λ n. n < 2 ^ 16) spelled-u16 (omega arith)

pub spelled-contents : IsSpelledBy contents contents_fields (λ v. AreContents v)
unfolding contents contents_fields
spelled-contents = record {
  to = λ before fields after value follows.
      let (u, f1, o1, e1, h1, (number, f2, o2, e2, h2, (targets, f3, o3, e3, h3, last))) = follows in
      let a = spelled-spare.to before f1 (length (concat o1) + after) u h1 in
      let b = spelled-part.to (before ++ concat f1) f2 (length (concat o2) + after) number h2 in
      let c = spelled-targets.to ((before ++ concat f1) ++ concat f2) f3 (length (concat o3) + after) targets h3 in
      let is : BatchView = record { part = number; targets = targets } in
      let whole : fields ≡ contents_fields is = rw (e1, e2, e3, last.0, a.0, b.0, c.0, append-nil) refl in
      let fits : AreContents is = record { part = b.1; count = c.1.0; targets = c.1.1 } in
      subst (λ (v : BatchView). (fields ≡ contents_fields v) × AreContents v) last.1 (whole, fits);
  from = λ before after value fits. (
    tt,
    number_fields 2 0,
    padded_fields value.part ++ batch_targets_fields value.targets,
    refl,
    spelled-spare.from _ _ tt tt,
    (
      value.part,
      padded_fields value.part,
      batch_targets_fields value.targets,
      refl,
      spelled-part.from _ _ value.part fits.part,
      (value.targets, batch_targets_fields value.targets, [], sym (append-nil (batch_targets_fields value.targets)), spelled-targets.from _ _ value.targets (fits.count, fits.targets), (refl, refl)),
    ),
  );
}
