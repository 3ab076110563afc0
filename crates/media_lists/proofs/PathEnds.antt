-- Where a path ends, one byte further on.
use Rattle.std.proofs.Common.{◌≡◌, ◌≢◌, ℕ, zero, suc, ◌+◌, ◌≤◌, ◌<◌, List, [], ◌∷◌, length, drop, Bool, true, false, Option, Some, None, refl, sym, ◌∙◌, arith}
use Rattle.std.specs.Prelude.{slice_index, ◌==◌}
use Rattle.std.proofs.lemmas.Bool.{ne_eqb, eq-eqb}
use Rattle.std.proofs.lemmas.List.{at_drop_more, at_drop_all}
use Rattle.media_lists.specs.Paths.{path_end, path_fault_of, name_goes_on}

-- a backslash after a name
pub one_backslash : (offset names size byte : ℕ) (rest : List ℕ) → byte ≡ 0x5C → size ≢ 0 → path_end offset names size (byte ∷ rest) ≡ path_end (offset + 1) (names + 1) 0 rest
unfolding path_end
one_backslash offset names size byte rest is some = rw (eq-eqb byte 0x5C is, ne_eqb size 0 some) refl

-- a backslash in the offset of a name
pub one_empty_name : (offset names size byte : ℕ) (rest : List ℕ) → byte ≡ 0x5C → size ≡ 0 → path_end offset names size (byte ∷ rest) ≡ Some offset
unfolding path_end
one_empty_name offset names size byte rest is none = rw (eq-eqb byte 0x5C is, eq-eqb size 0 none) refl

-- a byte of a name
pub one_name_byte : (offset names size byte : ℕ) (rest : List ℕ) → byte ≢ 0x5C → name_goes_on offset names size byte ≡ true
    → path_end offset names size (byte ∷ rest) ≡ path_end (offset + 1) names (size + 1) rest
unfolding path_end
one_name_byte offset names size byte rest other good = rw (ne_eqb byte 0x5C other, good) refl

-- another byte
pub one_other_byte : (offset names size byte : ℕ) (rest : List ℕ) → byte ≢ 0x5C → name_goes_on offset names size byte ≡ false → path_end offset names size (byte ∷ rest) ≡ Some offset
unfolding path_end
one_other_byte offset names size byte rest other bad = rw (ne_eqb byte 0x5C other, bad) refl

-- no byte
pub none_more : (offset names size : ℕ) → size ≡ 0 → path_end offset names size [] ≡ None
unfolding path_end
none_more offset names size none = rw (eq-eqb size 0 none) refl

pub within_name : (offset names size : ℕ) → size ≢ 0 → path_end offset names size [] ≡ Some offset
unfolding path_end
within_name offset names size some = rw (ne_eqb size 0 some) refl

next : (bytes : List ℕ) (offset names size : ℕ) → offset < length bytes
    → path_end offset names size (drop offset bytes) ≡ path_end offset names size (slice_index bytes offset ∷ drop (offset + 1) bytes)
next bytes offset names size within = at_drop_more (λ (rest : List ℕ). path_end offset names size rest) bytes offset 0 within

last : (bytes : List ℕ) (offset names size : ℕ) → length bytes ≤ offset → path_end offset names size (drop offset bytes) ≡ path_end offset names size []
last bytes offset names size over = at_drop_all (λ (rest : List ℕ). path_end offset names size rest) bytes offset over

-- ---- a loop over the bytes after the first

pub begins : (bytes : List ℕ) → length bytes ≢ 0 → slice_index bytes 0 ≡ 0x5C → path_end 1 0 0 (drop 1 bytes) ≡ path_fault_of bytes
unfolding path_fault_of
begins [] some is = absurd (some refl)
begins (byte ∷ rest) some is = rw (eq-eqb byte 0x5C is) refl

pub begins_empty : (bytes : List ℕ) → length bytes ≡ 0 → path_fault_of bytes ≡ Some 0
unfolding path_fault_of
begins_empty [] none = refl
begins_empty (byte ∷ rest) none = absurd (omega (arith, none))

pub begins_wrong : (bytes : List ℕ) → slice_index bytes 0 ≢ 0x5C → path_fault_of bytes ≡ Some 0
unfolding path_fault_of
begins_wrong [] other = refl
begins_wrong (byte ∷ rest) other = rw (ne_eqb byte 0x5C other) refl

pub at_backslash : (bytes : List ℕ) (offset names size : ℕ) (total : Option ℕ) → path_end offset names size (drop offset bytes) ≡ total → offset < length bytes
    → slice_index bytes offset ≡ 0x5C → size ≢ 0 → path_end (offset + 1) (names + 1) 0 (drop (offset + 1) bytes) ≡ total
at_backslash bytes offset names size total yet within is some =
    sym (one_backslash offset names size (slice_index bytes offset) (drop (offset + 1) bytes) is some) ∙ (sym (next bytes offset names size within) ∙ yet)

pub at_empty_name : (bytes : List ℕ) (offset names size : ℕ) (total : Option ℕ) → path_end offset names size (drop offset bytes) ≡ total → offset < length bytes
    → slice_index bytes offset ≡ 0x5C → size ≡ 0 → Some offset ≡ total
at_empty_name bytes offset names size total yet within is none =
    sym (one_empty_name offset names size (slice_index bytes offset) (drop (offset + 1) bytes) is none) ∙ (sym (next bytes offset names size within) ∙ yet)

pub at_name_byte : (bytes : List ℕ) (offset names size : ℕ) (total : Option ℕ) → path_end offset names size (drop offset bytes) ≡ total → offset < length bytes
    → slice_index bytes offset ≢ 0x5C → name_goes_on offset names size (slice_index bytes offset) ≡ true → path_end (offset + 1) names (size + 1) (drop (offset + 1) bytes) ≡ total
at_name_byte bytes offset names size total yet within other good =
    sym (one_name_byte offset names size (slice_index bytes offset) (drop (offset + 1) bytes) other good) ∙ (sym (next bytes offset names size within) ∙ yet)

pub at_other_byte : (bytes : List ℕ) (offset names size : ℕ) (total : Option ℕ) → path_end offset names size (drop offset bytes) ≡ total → offset < length bytes
    → slice_index bytes offset ≢ 0x5C → name_goes_on offset names size (slice_index bytes offset) ≡ false → Some offset ≡ total
at_other_byte bytes offset names size total yet within other bad =
    sym (one_other_byte offset names size (slice_index bytes offset) (drop (offset + 1) bytes) other bad) ∙ (sym (next bytes offset names size within) ∙ yet)

pub at_end : (bytes : List ℕ) (offset names size : ℕ) (total : Option ℕ) → path_end offset names size (drop offset bytes) ≡ total → length bytes ≤ offset → size ≡ 0 → None ≡ total
at_end bytes offset names size total yet over none = sym (none_more offset names size none) ∙ (sym (last bytes offset names size over) ∙ yet)

pub ends_in_name : (bytes : List ℕ) (offset names size : ℕ) (total : Option ℕ) → path_end offset names size (drop offset bytes) ≡ total → length bytes ≤ offset → offset ≤ length bytes
    → size ≢ 0 → Some (length bytes) ≡ total
ends_in_name bytes offset names size total yet over under some =
    let here : length bytes ≡ offset = omega (arith, over, under) in
    rw here (sym (within_name offset names size some) ∙ (sym (last bytes offset names size over) ∙ yet))

-- there are bytes where a test has found some
pub are_some : (n : ℕ) (test : Bool) → test ≡ (n == 0) → test ≡ false → 1 ≤ n
are_some zero test same fails = absurd cc
are_some (suc n) test same fails = omega arith

pub are_not_none : (n : ℕ) → 1 ≤ n → n ≢ 0
are_not_none n some none = absurd (omega (arith, some, none))
