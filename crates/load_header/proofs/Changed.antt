-- What stays of a header where its numbers change.
use Rattle.std.proofs.Common.{◌≡◌, ℕ, ◌+◌, ◌-◌, ◌%◌, ◌<◌, ◌^◌, List, [], ◌∷◌, ◌++◌, length, take, refl, sym, ap, subst, ◌∙◌, arith, append_assoc, length-append}
use Rattle.std.specs.Prelude.{map}
use Rattle.std.specs.List.{concat, AllByRecursion}
use Rattle.std.proofs.Math.Seq.{take-append_seam}
use Rattle.std.proofs.lemmas.List.{append-nil, length-map}
use Rattle.std.proofs.lemmas.List.Folds.{concat-append}
use Rattle.crc_fields.specs.CheckSums.{crc16_of}
use Rattle.load_base.specs.Name.{IsName}
use Rattle.load_base.specs.Text.{IsText}
use Rattle.part_number.specs.PartNumber.{IsPartNumberText}
use Rattle.field_grammar.specs.Grammar.{IsBytes}
use Rattle.field_grammar.specs.Spelling.{spelled_length}
use Rattle.field_grammar.specs.Fields.{number_bytes, number_fields, padded_fields}
use Rattle.field_grammar.proofs.NumberLemmas.{length_number_bytes}
use Rattle.field_grammar.proofs.SectionLemmas.{size_more, size_number}
use Rattle.header_sections.specs.SectionFields.{texts_fields, user_fields}
use Rattle.header_sections.proofs.SizeLemmas.{size_entries, total_of}
use Rattle.load_header.specs.Header.{HeaderView, HardwareAtView}
use Rattle.load_header.specs.HeaderFields.{positions_fields, file_body_fields, files_fields, type_fields, pointers_of, head_fields, identity_fields, targets_fields, all_files_fields, sections_fields, covered_fields, header_fields, header_size, AreTexts, IsHardwareAt, IsHeaderFile, IsHeader, HeaderSpells}
use Rattle.load_header.specs.HeaderChanges.{file_texts, HaveSameTexts, HasFileNumbers, HasNumbers, with_load_crc}
use Rattle.load_header.specs.declared.header.FileEntry.{FileEntry}
use Rattle.load_header.proofs.Heads.{size_head}
use Rattle.load_header.proofs.Limits.{size_type}
use Rattle.load_header.proofs.Sizes.{size_body}

-- ---- how many bytes its spelling has

size_sections : (h : HeaderView) → spelled_length (sections_fields h) + 46 ≡ header_size h
unfolding sections_fields identity_fields targets_fields all_files_fields header_size
size_sections h =
    let a : List (List ℕ) = padded_fields h.part ++ type_fields h in
    let b : List (List ℕ) = texts_fields h.hardware ++ positions_fields h.positions in
    let c : List (List ℕ) = files_fields h.data_files ++ files_fields h.support_files in
    let d : List (List ℕ) = user_fields h.user ++ number_fields 2 0 in
    omega (
      arith,
      size_more a (b ++ (c ++ d)),
      size_more b (c ++ d),
      size_more c d,
      size_more (padded_fields h.part) (type_fields h),
      size_more (texts_fields h.hardware) (positions_fields h.positions),
      size_more (files_fields h.data_files) (files_fields h.support_files),
      size_more (user_fields h.user) (number_fields 2 0),
      size_number 2 0,
    )

size_covered : (h : HeaderView) → spelled_length (covered_fields h) + 6 ≡ header_size h
unfolding covered_fields
size_covered h =
    let head : List (List ℕ) = head_fields (header_size h) h.flags (pointers_of h) in
    omega (arith, size_more head (sections_fields h), size_head (header_size h) h.flags (pointers_of h), size_sections h)

-- all but the load CRC
abbrev before_load_crc : HeaderView → List ℕ
before_load_crc h = concat (covered_fields h) ++ number_bytes 2 (crc16_of (concat (covered_fields h)))

whole : (h : HeaderView) → concat (header_fields h) ≡ before_load_crc h ++ number_bytes 4 h.load_crc
unfolding header_fields
whole h =
    let c : List (List ℕ) = covered_fields h in
    let sum : List ℕ = number_bytes 2 (crc16_of (concat c)) in
    concat-append c (number_fields 2 (crc16_of (concat c)) ++ number_fields 4 h.load_crc)
    ∙ (ap (λ (l : List ℕ). concat c ++ (sum ++ l)) (append-nil (number_bytes 4 h.load_crc)) ∙ sym (append_assoc (concat c) sum (number_bytes 4 h.load_crc)))

pub spelled_size : (h : HeaderView) (bytes : List ℕ) → HeaderSpells h bytes → length bytes ≡ header_size h
spelled_size h bytes spells =
    let sum : List ℕ = number_bytes 2 (crc16_of (concat (covered_fields h))) in
    ap (λ (l : List ℕ). length l) (spells.1 ∙ whole h)
    ∙ omega (
      arith,
      length-append (before_load_crc h) (number_bytes 4 h.load_crc),
      length-append (concat (covered_fields h)) sum,
      length_number_bytes 2 (crc16_of (concat (covered_fields h))),
      length_number_bytes 4 h.load_crc,
      size_covered h,
    )

-- ---- another load CRC

prefix_is : (h : HeaderView) (bytes : List ℕ) → HeaderSpells h bytes → take (length bytes - 4) bytes ≡ before_load_crc h
prefix_is h bytes spells =
    let is : bytes ≡ before_load_crc h ++ number_bytes 4 h.load_crc = spells.1 ∙ whole h in
    let size : length bytes - 4 ≡ length (before_load_crc h) =
    omega (arith, ap (λ (l : List ℕ). length l) is, length-append (before_load_crc h) (number_bytes 4 h.load_crc), length_number_bytes 4 h.load_crc) in
    ap (λ (n : ℕ). take n bytes) size ∙ (ap (λ (l : List ℕ). take (length (before_load_crc h)) l) is ∙ take-append_seam (before_load_crc h) (number_bytes 4 h.load_crc))

pub ends_in_load_crc : (h : HeaderView) (bytes : List ℕ) → HeaderSpells h bytes → bytes ≡ take (length bytes - 4) bytes ++ number_bytes 4 h.load_crc
ends_in_load_crc h bytes spells =
    let is : bytes ≡ before_load_crc h ++ number_bytes 4 h.load_crc = spells.1 ∙ whole h in
    is ∙ ap (λ (l : List ℕ). l ++ number_bytes 4 h.load_crc) (sym (prefix_is h bytes spells))

same_covered : (h : HeaderView) (crc : ℕ) → covered_fields (with_load_crc h crc) ≡ covered_fields h
unfolding covered_fields sections_fields identity_fields targets_fields all_files_fields type_fields header_size pointers_of
same_covered h crc = refl

pub same_before_load_crc : (h : HeaderView) (crc : ℕ) (bytes others : List ℕ) → HeaderSpells h bytes → HeaderSpells (with_load_crc h crc) others → take (length bytes - 4) bytes ≡ take (length others - 4) others
same_before_load_crc h crc bytes others one other =
    prefix_is h bytes one
    ∙ (ap (λ (c : List (List ℕ)). concat c ++ number_bytes 2 (crc16_of (concat c))) (sym (same_covered h crc)) ∙ sym (prefix_is (with_load_crc h crc) others other))

-- ---- other numbers

same_entries : (xs ys : List FileEntry) → map file_texts xs ≡ map file_texts ys → total_of file_body_fields xs ≡ total_of file_body_fields ys
same_entries [] [] same = refl
same_entries [] (y ∷ ys) same = absurd cc
same_entries (x ∷ xs) [] same = absurd cc
same_entries (x ∷ xs) (y ∷ ys) same =
    let first : file_texts x ≡ file_texts y = cc in
    let others : map file_texts xs ≡ map file_texts ys = cc in
    let names : length x.name ≡ length y.name = ap (λ (t : List ℕ × List ℕ). length t.0) first in
    let parts : length x.part ≡ length y.part = ap (λ (t : List ℕ × List ℕ). length t.1) first in
    omega (arith, size_body x, size_body y, names, parts, same_entries xs ys others)

same_files : (xs ys : List FileEntry) → map file_texts xs ≡ map file_texts ys → spelled_length (files_fields xs) ≡ spelled_length (files_fields ys)
same_files xs ys same = omega (arith, size_entries file_body_fields xs, size_entries file_body_fields ys, same_entries xs ys same)

pub same_size : (one other : HeaderView) → HaveSameTexts one other → header_size one ≡ header_size other
unfolding header_size
same_size one other same =
    omega (
      arith,
      ap (λ (t : List ℕ). spelled_length (padded_fields t)) same.part,
      size_type one,
      size_type other,
      ap (λ (t : List ℕ). length t) same.type_name,
      ap (λ (t : List (List ℕ)). spelled_length (texts_fields t)) same.hardware,
      ap (λ (t : List HardwareAtView). spelled_length (positions_fields t)) same.positions,
      same_files one.data_files other.data_files same.data_files,
      same_files one.support_files other.support_files same.support_files,
      ap (λ (u : List ℕ). spelled_length (user_fields u)) same.user,
    )

files_again : (xs ys : List FileEntry) → map file_texts xs ≡ map file_texts ys → AllByRecursion IsHeaderFile xs → AllByRecursion HasFileNumbers ys → AllByRecursion IsHeaderFile ys
files_again [] [] same all numbers = tt
files_again [] (y ∷ ys) same all numbers = absurd cc
files_again (x ∷ xs) [] same all numbers = tt
files_again (x ∷ xs) (y ∷ ys) same all numbers =
    let first : file_texts x ≡ file_texts y = cc in
    let others : map file_texts xs ≡ map file_texts ys = cc in
    let is : IsHeaderFile y = record {
      name = subst IsName (ap (λ (t : List ℕ × List ℕ). t.0) first) all.0.name;
      part = subst IsText (ap (λ (t : List ℕ × List ℕ). t.1) first) all.0.part;
      size = numbers.0.0;
      sum = numbers.0.1;
    } in
    (is, files_again xs ys others all.1 numbers.1)

count_of : (xs ys : List FileEntry) → map file_texts xs ≡ map file_texts ys → length ys ≡ length xs
count_of xs ys same = omega (arith, length-map xs file_texts, length-map ys file_texts, ap (λ (l : List (List ℕ × List ℕ)). length l) same)

pub still_header : (one other : HeaderView) → IsHeader one → HaveSameTexts one other → HasNumbers other → IsHeader other
still_header one other is same numbers = record {
  flags = numbers.flags;
  part = subst IsPartNumberText same.part is.part;
  type_name = subst IsText same.type_name is.type_name;
  type_id = numbers.type_id;
  hardware = subst AreTexts same.hardware is.hardware;
  positions_count = subst (λ (l : List HardwareAtView). length l < 2 ^ 16) same.positions is.positions_count;
  positions = subst (λ (l : List HardwareAtView). AllByRecursion IsHardwareAt l) same.positions is.positions;
  data_files = files_again one.data_files other.data_files same.data_files is.data_files numbers.data_files;
  support_files = files_again one.support_files other.support_files same.support_files is.support_files numbers.support_files;
  files = omega (arith, is.files, count_of one.data_files other.data_files same.data_files, count_of one.support_files other.support_files same.support_files);
  user = subst IsBytes same.user is.user;
  user_even = subst (λ (u : List ℕ). length u % 2 ≡ 0) same.user is.user_even;
  load_crc = numbers.load_crc;
  size = omega (arith, same_size one other same, is.size);
}
