-- Where bytes can't go on as a path: what stands before is a prefix of one, and no longer prefix of the bytes is.
use Rattle.std.proofs.Common.{◌≡◌, ◌≢◌, ℕ, zero, suc, ◌+◌, ◌≤◌, ◌<◌, List, [], ◌∷◌, ◌++◌, length, take, Some, None, refl, sym, ap, subst, ◌∙◌, inl, inr, arith}
use Rattle.std.specs.Prelude.{◌==◌}
use Rattle.std.proofs.lemmas.Bool.{ne_eqb, eqb-true, eqb-false}
use Rattle.media_lists.specs.Paths.{path_end, path_fault_of, name_goes_on, IsPath, IsPathPrefix, IsLongestPrefix}
use Rattle.media_lists.proofs.PathEnds.{one_backslash, one_empty_name, one_name_byte, one_other_byte, none_more, within_name}
use Rattle.media_lists.proofs.PathLemmas.{is_either, is_path, has_no_fault, begins_so}

record Stop (offset names size : ℕ) (bytes : List ℕ) (end : ℕ) : Type 0 where
  count : ℕ
  there : end ≡ offset + count
  within : count ≤ length bytes
  rest : List ℕ
  goes : path_end offset names size (take count bytes ++ rest) ≡ None
  fails : (m : ℕ) (more : List ℕ) → count < m → m ≤ length bytes → path_end offset names size (take m bytes ++ more) ≡ Some end

same_offset : (p q : ℕ) → Some p ≡ Some q → q ≡ p
same_offset p q e = cc

-- a path begins here, or a name ends
closing : (size offset names : ℕ) → (rest : List ℕ) × (path_end offset names size rest ≡ None)
closing zero offset names = ([], none_more offset names 0 refl)
closing (suc size) offset names =
    (0x5C ∷ [], one_backslash offset names (suc size) 0x5C [] refl (λ (z : suc size ≡ 0). absurd (omega (arith, z))) ∙ none_more (offset + 1) (names + 1) 0 refl)

-- the first byte is wrong
stops_here : (offset names size byte : ℕ) (rest : List ℕ) (end : ℕ) → ((more : List ℕ) → path_end offset names size (byte ∷ more) ≡ Some offset) → end ≡ offset → Stop offset names size (byte ∷ rest) end
stops_here offset names size byte rest end wrong is =
    let c = closing size offset names in
    record { count = 0; there = omega (arith, is); within = omega arith; rest = c.0; goes = c.1; fails = fails }
  where
    fails : (m : ℕ) (more : List ℕ) → 0 < m → m ≤ length (byte ∷ rest) → path_end offset names size (take m (byte ∷ rest) ++ more) ≡ Some end
    fails zero more some few = absurd (omega (arith, some))
    fails (suc m) more some few = wrong (take m rest ++ more) ∙ ap (λ (n : ℕ). Some n) (sym is)

-- the first byte is right
stops_later : (offset names size byte : ℕ) (rest : List ℕ) (end names2 size2 : ℕ) → ((more : List ℕ) → path_end offset names size (byte ∷ more) ≡ path_end (offset + 1) names2 size2 more)
    → Stop (offset + 1) names2 size2 rest end → Stop offset names size (byte ∷ rest) end
stops_later offset names size byte rest end names2 size2 right s =
    record { count = suc s.count; there = omega (arith, s.there); within = omega (arith, s.within); rest = s.rest; goes = right (take s.count rest ++ s.rest) ∙ s.goes; fails = fails }
  where
    fails : (m : ℕ) (more : List ℕ) → suc s.count < m → m ≤ length (byte ∷ rest) → path_end offset names size (take m (byte ∷ rest) ++ more) ≡ Some end
    fails zero more some few = absurd (omega (arith, some))
    fails (suc m) more some few = right (take m rest ++ more) ∙ s.fails m more (omega (arith, some)) (omega (arith, few))

stops : (bytes : List ℕ) (offset names size end : ℕ) → path_end offset names size bytes ≡ Some end → Stop offset names size bytes end
stops [] offset names zero end e = absurd (cc (none_more offset names 0 refl, e))
stops [] offset names (suc size) end e =
    let c = closing (suc size) offset names in
    let is = same_offset offset end (sym (within_name offset names (suc size) (λ (z : suc size ≡ 0). absurd (omega (arith, z)))) ∙ e) in
    record { count = 0; there = omega (arith, is); within = omega arith; rest = c.0; goes = c.1; fails = λ m more some few. absurd (omega (arith, some, few)) }
stops (byte ∷ rest) offset names size end e =
    elim (is_either (byte == 0x5C)) [
      | inl slash ↦
          let is = eqb-true byte 0x5C slash in
          elim (is_either (size == 0)) [
            | inl none ↦
                let wrong = λ (more : List ℕ). one_empty_name offset names size byte more is (eqb-true size 0 none) in
                stops_here offset names size byte rest end wrong (same_offset offset end (sym (wrong rest) ∙ e))
            | inr some ↦
                let right = λ (more : List ℕ). one_backslash offset names size byte more is (eqb-false size 0 some) in
                stops_later offset names size byte rest end (names + 1) 0 right (stops rest (offset + 1) (names + 1) 0 end (sym (right rest) ∙ e))
          ]
      | inr other ↦
          let isnt = eqb-false byte 0x5C other in
          elim (is_either (name_goes_on offset names size byte)) [
            | inl good ↦
                let right = λ (more : List ℕ). one_name_byte offset names size byte more isnt good in
                stops_later offset names size byte rest end names (size + 1) right (stops rest (offset + 1) names (size + 1) end (sym (right rest) ∙ e))
            | inr bad ↦
                let wrong = λ (more : List ℕ). one_other_byte offset names size byte more isnt bad in
                stops_here offset names size byte rest end wrong (same_offset offset end (sym (wrong rest) ∙ e))
          ]
    ]

-- ---- whole bytes

own_folder : IsPath (0x5C ∷ [])
own_folder = is_path (0x5C ∷ []) (begins_so [] ∙ none_more 1 0 0 refl)

wrong_first : (byte : ℕ) (rest : List ℕ) → byte ≢ 0x5C → path_fault_of (byte ∷ rest) ≡ Some 0
unfolding path_fault_of
wrong_first byte rest other = rw (ne_eqb byte 0x5C other) refl

none_first : path_fault_of [] ≡ Some 0
unfolding path_fault_of
none_first = refl

no_prefix : (bytes : List ℕ) (n : ℕ) → ((more : List ℕ) → path_fault_of (bytes ++ more) ≡ Some n) → IsPathPrefix bytes → ⊥
no_prefix bytes n fault prefix = absurd (cc (has_no_fault (bytes ++ prefix.rest) prefix.whole, fault prefix.rest))

pub is_longest_prefix : (bytes : List ℕ) (n : ℕ) → path_fault_of bytes ≡ Some n → IsLongestPrefix bytes n
is_longest_prefix [] n e =
    subst (λ (k : ℕ). IsLongestPrefix [] k) (sym (same_offset 0 n (sym none_first ∙ e)))
    (record { within = omega arith; prefix = record { rest = 0x5C ∷ []; whole = own_folder }; longest = λ m some few prefix. absurd (omega (arith, some, few)) })
is_longest_prefix (byte ∷ rest) n e =
    elim (is_either (byte == 0x5C)) [
      | inl slash ↦
          let is = eqb-true byte 0x5C slash in
          let first = λ (more : List ℕ). ap (λ (b : ℕ). path_fault_of (b ∷ more)) is ∙ begins_so more in
          let s = stops rest 1 0 0 n (sym (first rest) ∙ e) in
          subst (λ (k : ℕ). IsLongestPrefix (byte ∷ rest) k) (sym (s.there ∙ omega arith))
          (record {
            within = omega (arith, s.within);
            prefix = record { rest = s.rest; whole = is_path (byte ∷ (take s.count rest ++ s.rest)) (first (take s.count rest ++ s.rest) ∙ s.goes) };
            longest = longer byte rest n s.count (λ m more some few. first (take m rest ++ more) ∙ s.fails m more some few);
          })
      | inr other ↦
          let isnt = eqb-false byte 0x5C other in
          subst (λ (k : ℕ). IsLongestPrefix (byte ∷ rest) k) (sym (same_offset 0 n (sym (wrong_first byte rest isnt) ∙ e)))
          (record {
            within = omega arith;
            prefix = record { rest = 0x5C ∷ []; whole = own_folder };
            longest = any byte rest isnt;
          })
    ]
  where
    longer : (byte : ℕ) (rest : List ℕ) (n count : ℕ) → ((m : ℕ) (more : List ℕ) → count < m → m ≤ length rest → path_fault_of (byte ∷ (take m rest ++ more)) ≡ Some n)
        → (m : ℕ) → suc count < m → m ≤ length (byte ∷ rest) → IsPathPrefix (take m (byte ∷ rest)) → ⊥
    longer byte rest n count fails zero some few prefix = absurd (omega (arith, some))
    longer byte rest n count fails (suc m) some few prefix = no_prefix (byte ∷ take m rest) n (λ more. fails m more (omega (arith, some)) (omega (arith, few))) prefix

    any : (byte : ℕ) (rest : List ℕ) → byte ≢ 0x5C → (m : ℕ) → 0 < m → m ≤ length (byte ∷ rest) → IsPathPrefix (take m (byte ∷ rest)) → ⊥
    any byte rest isnt zero some few prefix = absurd (omega (arith, some))
    any byte rest isnt (suc m) some few prefix = no_prefix (byte ∷ take m rest) 0 (λ more. wrong_first byte (take m rest ++ more) isnt) prefix
