-- A batch is spelled by its fields, and by no others, and nothing stands after it.
use Rattle.std.proofs.Common.{◌≡◌, ℕ, ◌+◌, ◌*◌, ◌/◌, ◌%◌, ◌<◌, ◌≤◌, ◌^◌, List, [], ◌++◌, length, refl, sym, ap, subst, ◌∙◌, arith, append_assoc}
use Rattle.std.specs.List.{concat}
use Rattle.std.proofs.lemmas.Bool.{leb-true, le-leb}
use Rattle.std.proofs.lemmas.List.{append-nil}
use Rattle.std.proofs.lemmas.List.Folds.{concat-append}
use Rattle.crc_fields.specs.CheckSums.{crc16_of}
use Rattle.crc_fields.proofs.WidthLemmas.{crc16_fits}
use Rattle.field_grammar.specs.Grammar.{Follows, EndsTheBytes}
use Rattle.field_grammar.proofs.ExactLemmas.{ends_renamed, ends_last, ends_before}
use Rattle.field_grammar.specs.Spelling.{IsPlacedBy, SpellsWhole, spelled_length}
use Rattle.field_grammar.specs.Fields.{number_fields}
use Rattle.field_grammar.proofs.PlacedLemmas.{placed-renamed}
use Rattle.field_grammar.proofs.SectionLemmas.{size_more, size_number}
use Rattle.header_sections.specs.Sections.{start, end}
use Rattle.header_sections.proofs.SectionLemmas.{placed-start, placed-end, ends-end}
use Rattle.batch_lists.specs.BatchFaults.{refused}
use Rattle.batch_lists.specs.Batch.{shared, check_sum, limit, batch, BatchView}
use Rattle.batch_lists.specs.BatchFields.{contents_fields, start_fields, batch_size, covered_fields, batch_fields, IsBatch}
use Rattle.batch_lists.proofs.BatchPieces.{spelled-u16, spelled-contents}
use Rattle.batch_lists.proofs.BatchSizes.{even_batch_size}

placed-limit : IsPlacedBy limit (λ before u. []) (λ before after u. after ≤ 131072)
unfolding limit
placed-limit = record {
  to = λ before fields after value follows.
      let (size, f1, o1, e1, h1, h2) = follows in
      let few : size ≤ 131072 = leb-true size 131072 h2.1 in
      let none : length (concat o1) ≡ 0 = rw h2.0 refl in
      (rw (e1, h1.0, h2.0) refl, omega (arith, few, h1.1, none));
  from = λ before after value fits. (after, [], [], refl, (refl, omega arith), (refl, le-leb after 131072 fits));
}

placed-beginning : IsPlacedBy (shared (start 0xC004)) (λ before words. number_fields 4 words ++ number_fields 2 0xC004) (λ before after words. (words < 2 ^ 32) × (2 * words ≡ 6 + after))
placed-beginning =
    placed-renamed refused (start 0xC004) (λ before words. number_fields 4 words ++ number_fields 2 0xC004) (λ before after words. (words < 2 ^ 32) × (2 * words ≡ 6 + after)) (placed-start 0xC004 (omega arith))

placed-check_sum : IsPlacedBy check_sum (λ before u. number_fields 2 (crc16_of before)) (λ before after u. after ≡ 0)
unfolding check_sum
placed-check_sum = record {
  to = λ before fields after value follows.
      let (b, f0, o0, e0, h0, (said, f1, o1, e1, h1, h2)) = follows in
      let a1 = spelled-u16.to (before ++ concat f0) f1 (length (concat o1) + after) said h1 in
      let a2 = (placed-end said (crc16_of b)).to ((before ++ concat f0) ++ concat f1) o1 after value h2 in
      let is : said ≡ crc16_of before = a2.1.1 ∙ ap crc16_of (sym h0.1) in
      let parts : fields ≡ number_fields 2 said = rw (e0, h0.0, e1, a2.0, a1.0) refl in
      (subst (λ (n : ℕ). fields ≡ number_fields 2 n) is parts, a2.1.0);
  from = λ before after value fits.
      let said : ℕ = crc16_of before in
      (before, [], number_fields 2 said, refl, (refl, refl), (said, number_fields 2 said, [], refl, spelled-u16.from _ _ said (crc16_fits before), (placed-end said said).from _ _ tt (fits, refl)));
}

-- ---- the whole

abbrev end_of : List ℕ → List (List ℕ)
end_of before = number_fields 2 (crc16_of before)

-- what stands before the check sum
all_before : (s c : List (List ℕ)) → (([] ++ concat []) ++ concat s) ++ concat c ≡ concat (s ++ c)
all_before s c = sym (concat-append s c)

batch_to : (fields : List (List ℕ)) (after : ℕ) (value : BatchView) → Follows batch [] fields after value → (fields ≡ batch_fields value) × IsBatch value × (after ≡ 0)
unfolding batch batch_fields covered_fields start_fields batch_size
batch_to fields after value follows =
    let (u0, f0, o0, e0, h0, (words, f1, o1, e1, h1, (v, f2, o2, e2, h2, (u3, f3, o3, e3, h3, last)))) = follows in
    let b0 : List ℕ = [] ++ concat f0 in
    let b1 : List ℕ = b0 ++ concat f1 in
    let b2 : List ℕ = b1 ++ concat f2 in
    let a0 = placed-limit.to [] f0 (length (concat o0) + after) u0 h0 in
    let a1 = placed-beginning.to b0 f1 (length (concat o1) + after) words h1 in
    let a2 = spelled-contents.to b1 f2 (length (concat o2) + after) v h2 in
    let a3 = placed-check_sum.to b2 f3 (length (concat o3) + after) u3 h3 in
    let c : List (List ℕ) = contents_fields v in
    let done : after ≡ 0 = omega (arith, a3.1) in
    let others : o1 ≡ c ++ end_of b2 =
    e2 ∙ (ap (λ (f : List (List ℕ)). f ++ o2) a2.0 ∙ ap (λ (o : List (List ℕ)). c ++ o) (e3 ∙ (ap (λ (o : List (List ℕ)). f3 ++ o) last.0 ∙ (append-nil f3 ∙ a3.0)))) in
    let rest : length (concat o1) ≡ spelled_length c + 2 =
    ap (λ (o : List (List ℕ)). spelled_length o) others ∙ omega (arith, size_more c (end_of b2), size_number 2 (crc16_of b2)) in
    let half : words ≡ (6 + spelled_length c + 2) / 2 = omega (arith, a1.1.1, rest, done) in
    let s : List (List ℕ) = number_fields 4 ((6 + spelled_length c + 2) / 2) ++ number_fields 2 0xC004 in
    let start_is : f1 ≡ s = a1.0 ∙ ap (λ (n : ℕ). number_fields 4 n ++ number_fields 2 0xC004) half in
    let before_is : b2 ≡ concat (s ++ c) = rw (a0.0, start_is, a2.0) (all_before s c) in
    let parts : fields ≡ s ++ (c ++ end_of b2) = e0 ∙ (ap (λ (f : List (List ℕ)). f ++ o0) a0.0 ∙ (e1 ∙ (ap (λ (f : List (List ℕ)). f ++ o1) start_is ∙ ap (λ (o : List (List ℕ)). s ++ o) others))) in
    let whole : fields ≡ batch_fields v = parts ∙ (ap (λ (b : List ℕ). s ++ (c ++ end_of b)) before_is ∙ sym (append_assoc s c (end_of (concat (s ++ c))))) in
    let gone : length (concat o0) ≡ 6 + spelled_length c + 2 =
    ap (λ (o : List (List ℕ)). spelled_length o) e1 ∙ omega (arith, size_more f1 o1, ap (λ (f : List (List ℕ)). spelled_length f) a1.0, size_more (number_fields 4 words) (number_fields 2 0xC004), size_number 4 words, size_number 2 0xC004, rest) in
    let fits : IsBatch v = record { contents = a2.1; size = omega (arith, a0.1, gone, done) } in
    subst (λ (x : BatchView). (fields ≡ batch_fields x) × IsBatch x × (after ≡ 0)) last.1 (whole, fits, done)

batch_from : (v : BatchView) → IsBatch v → Follows batch [] (batch_fields v) 0 v
unfolding batch batch_fields covered_fields start_fields batch_size
batch_from v fits =
    let c : List (List ℕ) = contents_fields v in
    let size : ℕ = 6 + spelled_length c + 2 in
    let words : ℕ = size / 2 in
    let s : List (List ℕ) = number_fields 4 words ++ number_fields 2 0xC004 in
    let b0 : List ℕ = [] ++ concat [] in
    let b1 : List ℕ = b0 ++ concat s in
    let b2 : List ℕ = b1 ++ concat c in
    let rest : List (List ℕ) = c ++ end_of b2 in
    let behind : length (concat rest) ≡ spelled_length c + 2 = omega (arith, size_more c (end_of b2), size_number 2 (crc16_of b2)) in
    let even : size % 2 ≡ 0 = even_batch_size v in
    let whole : spelled_length (s ++ rest) ≡ size =
    omega (arith, size_more s rest, size_more (number_fields 4 words) (number_fields 2 0xC004), size_number 4 words, size_number 2 0xC004, behind) in
    let fields_are : s ++ rest ≡ batch_fields v = ap (λ (b : List ℕ). s ++ (c ++ end_of b)) (all_before s c) ∙ sym (append_assoc s c (end_of (concat (s ++ c)))) in
    subst (λ (f : List (List ℕ)). Follows batch [] f 0 v) fields_are (
      tt,
      [],
      s ++ rest,
      refl,
      placed-limit.from [] (length (concat (s ++ rest)) + 0) tt (omega (arith, whole, fits.size)),
      (
        words,
        s,
        rest,
        refl,
        placed-beginning.from b0 (length (concat rest) + 0) words (omega (arith, fits.size), omega (arith, even, behind)),
        (
          v,
          c,
          end_of b2,
          refl,
          spelled-contents.from b1 _ v fits.contents,
          (tt, end_of b2, [], sym (append-nil (end_of b2)), placed-check_sum.from b2 (0 + 0) tt refl, (refl, refl)),
        ),
      ),
    )

pub spells-batch : SpellsWhole batch batch_fields (λ v. IsBatch v)
spells-batch = record { to = batch_to; from = batch_from }

-- ---- nothing stands after it

ends-check_sum : EndsTheBytes check_sum
unfolding check_sum
ends-check_sum = ends_last _ _ (λ before. ends_last _ _ (λ said. ends_renamed refused (end said (crc16_of before)) (ends-end said (crc16_of before))))

pub ends-batch : EndsTheBytes batch
unfolding batch
ends-batch = ends_last _ _ (λ limit. ends_last _ _ (λ words. ends_last _ _ (λ value. ends_before _ _ ends-check_sum)))
