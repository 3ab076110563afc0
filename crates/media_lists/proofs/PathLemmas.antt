-- What it means that bytes are a path, as a function and as a relation.
use Rattle.std.proofs.Common.{◌≡◌, ◌≢◌, ℕ, zero, suc, ◌+◌, ◌≤◌, ◌<◌, List, [], ◌∷◌, ◌++◌, length, Bool, true, false, Option, Some, None, refl, sym, ap, subst, ◌∙◌, ◌⊎◌, inl, inr, arith, ◌&&◌, length-append, append_assoc}
use Rattle.std.specs.Prelude.{slice_index, ◌==◌, nat_lt, not, if◌then◌else◌}
use Rattle.std.specs.List.{flat_map, AllByRecursion}
use Rattle.std.proofs.lemmas.Bool.{ne_eqb, eqb-true, eqb-false, ltb-true, lt-ltb, and_from}
use Rattle.std.proofs.lemmas.Bool.Decides.{nat_tests}
use Rattle.std.proofs.lemmas.List.Concat.{flat_map-cons}
use Rattle.load_base.specs.Bytes.{AllGood}
use Rattle.load_base.specs.Name.{IsName, is_name_byte}
use Rattle.media_lists.specs.Paths.{path_end, path_fault_of, name_goes_on, closed, IsPath}
use Rattle.media_lists.proofs.PathEnds.{one_backslash, one_empty_name, one_name_byte, one_other_byte, none_more, within_name}

-- ---- a byte of a name

both : (a b : Bool) → (a && b) ≡ true → (a ≡ true) × (b ≡ true)
both true b e = (refl, e)
both false b e = absurd cc

pub is_either : (b : Bool) → (b ≡ true) ⊎ (b ≡ false)
is_either true = inl refl
is_either false = inr refl

not_hidden : (size byte : ℕ) → not (size == 0 && byte == 0x2E) ≡ true → size ≡ 0 → byte ≢ 0x2E
not_hidden size byte test none hidden = absurd (grind (arith, nat_tests, test, none, hidden))

-- what lets a name go on
goes_on : (offset names size byte : ℕ) → name_goes_on offset names size byte ≡ true → (is_name_byte byte ≡ true) × (names < 4) × (offset < 63) × (size ≡ 0 → byte ≢ 0x2E)
unfolding name_goes_on
goes_on offset names size byte e =
    let a = both (is_name_byte byte && nat_lt names 4 && nat_lt offset 63) (not (size == 0 && byte == 0x2E)) e in
    let b = both (is_name_byte byte && nat_lt names 4) (nat_lt offset 63) a.0 in
    let c = both (is_name_byte byte) (nat_lt names 4) b.0 in
    (c.0, ltb-true names 4 c.1, ltb-true offset 63 b.1, not_hidden size byte a.1)

opens : (size byte : ℕ) → (size ≡ 0 → byte ≢ 0x2E) → not (size == 0 && byte == 0x2E) ≡ true
opens zero byte other = rw (ne_eqb byte 0x2E (other refl)) refl
opens (suc size) byte other = rw (ne_eqb (suc size) 0 (λ (e : suc size ≡ 0). absurd (omega (arith, e)))) refl

may_go_on : (offset names size byte : ℕ) → is_name_byte byte ≡ true → names < 4 → offset < 63 → (size ≡ 0 → byte ≢ 0x2E) → name_goes_on offset names size byte ≡ true
unfolding name_goes_on
may_go_on offset names size byte good few room other =
    and_from _ _ (and_from _ _ (and_from _ _ good (lt-ltb names 4 few)) (lt-ltb offset 63 room)) (opens size byte other)

no_backslash : (byte : ℕ) → is_name_byte byte ≡ true → byte ≢ 0x5C
no_backslash byte good is = absurd (grind (arith, nat_tests, good, is))

more_good : (byte : ℕ) (word : List ℕ) → is_name_byte byte ≡ true → AllGood is_name_byte word → AllGood is_name_byte (byte ∷ word)
more_good byte word good all zero within = good
more_good byte word good all (suc k) within = all k (omega (arith, within))

fewer_good : (byte : ℕ) (word : List ℕ) → AllGood is_name_byte (byte ∷ word) → (is_name_byte byte ≡ true) × AllGood is_name_byte word
fewer_good byte word all = (all 0 (omega arith), λ k within. all (suc k) (omega (arith, within)))

-- ---- what ends without a fault is a path

record AtName (names : ℕ) (rest : List ℕ) : Type 0 where
  more : List (List ℕ)
  few : length more + names ≤ 4
  good : AllByRecursion IsName more
  written : rest ≡ flat_map closed more

record InName (names : ℕ) (rest : List ℕ) : Type 0 where
  word : List ℕ
  more : List (List ℕ)
  few : length more + names < 4
  word_good : AllGood is_name_byte word
  good : AllByRecursion IsName more
  written : rest ≡ closed word ++ flat_map closed more

abbrev Ends : ℕ → ℕ → List ℕ → Type 0
Ends zero names rest = AtName names rest
Ends (suc size) names rest = InName names rest

abbrev May : ℕ → ℕ → ℕ → Type 0
May zero offset names = (names ≤ 4) × (offset ≤ 64)
May (suc size) offset names = (names < 4) × (offset ≤ 63)

-- one more byte of a name, whether it is its first
grown : (size offset names byte : ℕ) (rest : List ℕ) → is_name_byte byte ≡ true → (size ≡ 0 → byte ≢ 0x2E) → (offset + 1) + length rest ≤ 64 → InName names rest → Ends size names (byte ∷ rest)
grown zero offset names byte rest good other room r = record {
  more = (byte ∷ r.word) ∷ r.more;
  few = omega (arith, r.few);
  good = (record { size = (omega arith, omega (arith, room, ap length r.written, length-append (closed r.word) (flat_map closed r.more), length-append r.word (0x5C ∷ []))); visible = other refl; good = more_good byte r.word good r.word_good }, r.good);
  written = ap (λ (l : List ℕ). byte ∷ l) r.written ∙ sym (flat_map-cons closed (byte ∷ r.word) r.more);
}
grown (suc size) offset names byte rest good other room r = record {
  word = byte ∷ r.word;
  more = r.more;
  few = r.few;
  word_good = more_good byte r.word good r.word_good;
  good = r.good;
  written = ap (λ (l : List ℕ). byte ∷ l) r.written;
}

-- a backslash
at_close : (size offset names : ℕ) (rest : List ℕ) → size ≢ 0 → AtName (names + 1) rest → Ends size names (0x5C ∷ rest)
at_close zero offset names rest some r = absurd (some refl)
at_close (suc size) offset names rest some r = record {
  word = [];
  more = r.more;
  few = omega (arith, r.few);
  word_good = λ k within. absurd (omega (arith, within));
  good = r.good;
  written = ap (λ (l : List ℕ). 0x5C ∷ l) r.written;
}

may_close : (size offset names : ℕ) → size ≢ 0 → May size offset names → May 0 (offset + 1) (names + 1)
may_close zero offset names some may = absurd (some refl)
may_close (suc size) offset names some may = (omega (arith, may.0), omega (arith, may.1))

ends : (rest : List ℕ) (size offset names : ℕ) → May size offset names → path_end offset names size rest ≡ None → Ends size names rest × (offset + length rest ≤ 64)
ends [] zero offset names may e = (record { more = []; few = omega (arith, may.0); good = tt; written = refl }, omega (arith, may.1))
ends [] (suc size) offset names may e = absurd (cc (within_name offset names (suc size) (λ (z : suc size ≡ 0). absurd (omega (arith, z))), e))
ends (byte ∷ rest) size offset names may e =
    elim (is_either (byte == 0x5C)) [
      | inl slash ↦
          let is = eqb-true byte 0x5C slash in
          elim (is_either (size == 0)) [
            | inl none ↦ absurd (cc (one_empty_name offset names size byte rest is (eqb-true size 0 none), e))
            | inr some ↦
                let there = eqb-false size 0 some in
                let r = ends rest 0 (offset + 1) (names + 1) (may_close size offset names there may) (sym (one_backslash offset names size byte rest is there) ∙ e) in
                (subst (λ (b : ℕ). Ends size names (b ∷ rest)) (sym is) (at_close size offset names rest there r.0), omega (arith, r.1))
          ]
      | inr other ↦
          let isnt = eqb-false byte 0x5C other in
          elim (is_either (name_goes_on offset names size byte)) [
            | inl good ↦
                let a = goes_on offset names size byte good in
                let one : size + 1 ≡ suc size = omega arith in
                let next : path_end (offset + 1) names (suc size) rest ≡ None = subst (λ (n : ℕ). path_end (offset + 1) names n rest ≡ None) one (sym (one_name_byte offset names size byte rest isnt good) ∙ e) in
                let r = ends rest (suc size) (offset + 1) names (a.1, omega (arith, a.2)) next in
                (grown size offset names byte rest a.0 a.3 r.1 r.0, omega (arith, r.1))
            | inr bad ↦ absurd (cc (one_other_byte offset names size byte rest isnt bad, e))
          ]
    ]

first_is : (test : Bool) (end : Option ℕ) → (if test then end else Some 0) ≡ None → (test ≡ true) × (end ≡ None)
first_is true end e = (refl, e)
first_is false end e = absurd cc

pub is_path : (bytes : List ℕ) → path_fault_of bytes ≡ None → IsPath bytes
unfolding path_fault_of
is_path [] e = absurd cc
is_path (byte ∷ rest) e =
    let a = first_is (byte == 0x5C) (path_end 1 0 0 rest) e in
    let r = ends rest 0 1 0 (omega arith, omega arith) a.1 in
    record {
      names = r.0.more;
      few = omega (arith, r.0.few);
      good = r.0.good;
      size = omega (arith, r.1);
      written = ap (λ (b : ℕ). b ∷ rest) (eqb-true byte 0x5C a.0) ∙ ap (λ (l : List ℕ). 0x5C ∷ l) r.0.written;
    }

-- ---- a path ends without a fault

walks : (word tail : List ℕ) (size offset names : ℕ) → AllGood is_name_byte word → names < 4 → offset + length word < 64 → (size ≡ 0 → slice_index word 0 ≢ 0x2E) → 1 ≤ size + length word
    → path_end offset names size (word ++ 0x5C ∷ tail) ≡ path_end (offset + length word + 1) (names + 1) 0 tail
walks [] tail size offset names good few room other some =
    let there : size ≢ 0 = λ (z : size ≡ 0). absurd (omega (arith, z, some)) in
    one_backslash offset names size 0x5C tail refl there ∙ ap (λ (n : ℕ). path_end n (names + 1) 0 tail) (omega arith)
walks (byte ∷ word) tail size offset names good few room other some =
    let a = fewer_good byte word good in
    let step = one_name_byte offset names size byte (word ++ 0x5C ∷ tail) (no_backslash byte a.0) (may_go_on offset names size byte a.0 few (omega (arith, room)) other) in
    let later = walks word tail (size + 1) (offset + 1) names a.1 few (omega (arith, room)) (λ (z : size + 1 ≡ 0). absurd (omega (arith, z))) (omega arith) in
    step ∙ (later ∙ ap (λ (n : ℕ). path_end n (names + 1) 0 tail) (omega arith))

walks_all : (more : List (List ℕ)) (offset names : ℕ) → AllByRecursion IsName more → length more + names ≤ 4 → offset + length (flat_map closed more) ≤ 64 → path_end offset names 0 (flat_map closed more) ≡ None
walks_all [] offset names good few room = none_more offset names 0 refl
walks_all (word ∷ more) offset names good few room =
    let parts : flat_map closed (word ∷ more) ≡ word ++ 0x5C ∷ flat_map closed more = flat_map-cons closed word more ∙ append_assoc word (0x5C ∷ []) (flat_map closed more) in
    let size : length (flat_map closed (word ∷ more)) ≡ length word + suc (length (flat_map closed more)) = ap length parts ∙ length-append word (0x5C ∷ flat_map closed more) in
    ap (λ (l : List ℕ). path_end offset names 0 l) parts
    ∙ (walks word (flat_map closed more) 0 offset names good.0.good (omega (arith, few)) (omega (arith, room, size)) (λ _. good.0.visible) (omega (arith, good.0.size.0))
    ∙ walks_all more (offset + length word + 1) (names + 1) good.1 (omega (arith, few)) (omega (arith, room, size)))

pub begins_so : (rest : List ℕ) → path_fault_of (0x5C ∷ rest) ≡ path_end 1 0 0 rest
unfolding path_fault_of
begins_so rest = refl

pub has_no_fault : (bytes : List ℕ) → IsPath bytes → path_fault_of bytes ≡ None
has_no_fault bytes is =
    ap path_fault_of is.written
    ∙ (begins_so (flat_map closed is.names) ∙ walks_all is.names 1 0 is.good (omega (arith, is.few)) (omega (arith, is.size, ap length is.written)))
