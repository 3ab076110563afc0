-- What a slot says whose body was written.
use Rattle.std.proofs.Common.{◌≡◌, ℕ, ◌+◌, ◌<◌, ◌≤◌, ◌^◌, List, [], ◌∷◌, ◌++◌, length, take, drop, get_or, refl, sym, ◌∙◌, ap, arith, append_assoc, length-append}
use Rattle.std.proofs.Math.Seq.{get_or-append_seam}
use Rattle.std.proofs.lemmas.List.{append-nil, take_at, drop_at}
use Rattle.byteorder.specs.Endian.{big_number}
use Rattle.field_grammar.specs.Fields.{number_bytes, number_in}
use Rattle.field_grammar.proofs.NumberLemmas.{length_number_bytes, wide4}
use Rattle.disk_model.specs.Image.{Image, range}
use Rattle.disk_model.proofs.RangeLemmas.{byte_of_range, take_range, drop_range}
use Rattle.disk_layout.specs.Offsets.{number_at}
use Rattle.disk_layout.specs.Slots.{HasBody, slot_body_bytes, sequence_of, bank_of, manifest_offset_of, manifest_length_of}
use Rattle.disk_layout.specs.declared.active.ManifestRange.{ManifestRange}

-- a part of what stands there
pub part_is : (image : Image) (at n k m : ℕ) (bytes : List ℕ) → range image at n ≡ bytes → k + m ≤ n → range image (at + k) m ≡ take m (drop k bytes)
part_is image at n k m bytes is within =
    sym (ap (λ (l : List ℕ). take m (drop k l)) (sym is) ∙ ap (take m) (drop_range image at n k) ∙ take_range image (at + k) _ m (omega (arith, within)))

-- a number among other bytes
number_part : (image : Image) (at n k value : ℕ) (prefix rest bytes : List ℕ) → range image at n ≡ bytes → bytes ≡ prefix ++ (number_bytes 4 value ++ rest) → length prefix ≡ k → k + 4 ≤ n → value < 2 ^ 32
    → number_at 4 image (at + k) ≡ value
unfolding number_at number_in
number_part image at n k value prefix rest bytes is parts long within small =
    let four = number_bytes 4 value in
    let dropped : drop k bytes ≡ four ++ rest = ap (drop k) parts ∙ drop_at prefix (four ++ rest) k long in
    let taken : take 4 (four ++ rest) ≡ four = take_at four rest 4 (length_number_bytes 4 value) in
    ap (big_number 4) (part_is image at n k 4 bytes is within ∙ ap (take 4) dropped ∙ taken) ∙ wide4.again value small

-- a byte among other bytes
byte_part : (image : Image) (at n k value : ℕ) (prefix rest bytes : List ℕ) → range image at n ≡ bytes → bytes ≡ prefix ++ value ∷ rest → length prefix ≡ k → k < n → image (at + k) ≡ value
byte_part image at n k value prefix rest bytes is parts long within =
    sym (byte_of_range image at n k within) ∙ ap (λ (l : List ℕ). get_or l k 0) (is ∙ parts) ∙ ap (λ (m : ℕ). get_or (prefix ++ value ∷ rest) m 0) (sym long) ∙ get_or-append_seam prefix value rest 0

pub body_length : (sequence bank : ℕ) (manifest : ManifestRange) → length (slot_body_bytes sequence bank manifest) ≡ 13
body_length sequence bank manifest =
    omega (
      arith,
      length-append ((number_bytes 4 sequence ++ (bank ∷ [])) ++ number_bytes 4 manifest.offset) (number_bytes 4 manifest.length),
      length-append (number_bytes 4 sequence ++ (bank ∷ [])) (number_bytes 4 manifest.offset),
      length-append (number_bytes 4 sequence) (bank ∷ []),
      length_number_bytes 4 sequence,
      length_number_bytes 4 manifest.offset,
      length_number_bytes 4 manifest.length,
    )

module _ (image : Image) (at sequence bank : ℕ) (manifest : ManifestRange) (there : HasBody image at sequence bank manifest) where
  abbrev one : List ℕ
  one = number_bytes 4 sequence

  abbrev two : List ℕ
  two = number_bytes 4 manifest.offset

  abbrev three : List ℕ
  three = number_bytes 4 manifest.length

  abbrev body : List ℕ
  body = slot_body_bytes sequence bank manifest

  pub says_sequence : sequence < 2 ^ 32 → sequence_of image at ≡ sequence
  says_sequence small =
      ap (λ (n : ℕ). number_at 4 image n) (omega arith)
      ∙ number_part image (at + 16) 13 0 sequence [] ((bank ∷ []) ++ (two ++ three)) body there (simp append_assoc) refl (omega arith) small

  pub says_bank : bank_of image at ≡ bank
  says_bank = ap image (omega arith) ∙ byte_part image (at + 16) 13 4 bank one (two ++ three) body there (simp append_assoc) (length_number_bytes 4 sequence) (omega arith)

  pub says_offset : manifest.offset < 2 ^ 32 → manifest_offset_of image at ≡ manifest.offset
  says_offset small =
      ap (λ (n : ℕ). number_at 4 image n) (omega arith)
      ∙ number_part image (at + 16) 13 5 manifest.offset (one ++ (bank ∷ [])) three body there (simp append_assoc)
      (omega (arith, length-append one (bank ∷ []), length_number_bytes 4 sequence)) (omega arith) small

  pub says_length : manifest.length < 2 ^ 32 → manifest_length_of image at ≡ manifest.length
  says_length small =
      ap (λ (n : ℕ). number_at 4 image n) (omega arith)
      ∙ number_part image (at + 16) 13 9 manifest.length ((one ++ (bank ∷ [])) ++ two) [] body there (ap (λ (l : List ℕ). ((one ++ (bank ∷ [])) ++ two) ++ l) (sym (append-nil three)))
      (omega (arith, length-append (one ++ (bank ∷ [])) two, length-append one (bank ∷ []), length_number_bytes 4 sequence, length_number_bytes 4 manifest.offset)) (omega arith) small
