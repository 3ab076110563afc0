-- What the encoder has written, member by member.
use Rattle.std.proofs.Common.{◌≡◌, ℕ, List, ◌++◌, length, refl, sym, ap, ◌∙◌, append_assoc}
use Rattle.std.specs.Prelude.{map}
use Rattle.std.specs.List.{concat, flat_map}
use Rattle.std.proofs.lemmas.List.{append-nil, length-map}
use Rattle.std.proofs.lemmas.List.Folds.{concat-append}
use Rattle.crc_fields.specs.CheckSums.{crc16_of}
use Rattle.field_grammar.specs.Fields.{number_bytes, number_fields}
use Rattle.load_header.specs.Header.{HeaderView, hardware_at_view}
use Rattle.load_header.specs.HeaderFields.{hardware_at_fields, positions_fields, files_fields, identity_fields, targets_fields, all_files_fields, sections_fields, head_fields, covered_fields, header_fields, header_size, pointers_of}
use Rattle.header_sections.specs.SectionFields.{texts_fields, user_fields}
use Rattle.load_header.specs.Encoding.{pointers_by, whole_size, AreSizes, kind_fields}
use Rattle.load_header.specs.declared.header.HardwareAt.{HardwareAt}
use Rattle.load_header.specs.declared.measuring.Sizes.{Sizes}
use Rattle.load_header.specs.declared.reading.Pointers.{Pointers}
use Rattle.load_header.proofs.Limits.{kinds_viewed, total_size, pointers_are}

pub kinds_written : (list : List HardwareAt) → concat (flat_map kind_fields list) ≡ concat (flat_map hardware_at_fields (map hardware_at_view list))
kinds_written list = ap (λ (l : List (List ℕ)). concat l) (kinds_viewed list)

pub positions_written : (list : List HardwareAt) (before middle now : List ℕ) → middle ≡ before ++ number_bytes 2 (length list) → now ≡ middle ++ concat (flat_map kind_fields list)
    → now ≡ before ++ concat (positions_fields (map hardware_at_view list))
unfolding positions_fields
positions_written list before middle now first second =
    let size : length list ≡ length (map hardware_at_view list) = sym (length-map list hardware_at_view) in
    let counted : middle ≡ before ++ number_bytes 2 (length (map hardware_at_view list)) = first ∙ ap (λ (n : ℕ). before ++ number_bytes 2 n) size in
    rw (second, counted, kinds_written list, append_assoc) refl

pub sections_written : (h : HeaderView) (o0 o1 o2 o3 o4 o5 o6 o7 : List ℕ) → o1 ≡ o0 ++ concat (identity_fields h) → o2 ≡ o1 ++ concat (texts_fields h.hardware) → o3 ≡ o2 ++ concat (positions_fields h.positions)
    → o4 ≡ o3 ++ concat (files_fields h.data_files) → o5 ≡ o4 ++ concat (files_fields h.support_files) → o6 ≡ o5 ++ concat (user_fields h.user) → o7 ≡ o6 ++ number_bytes 2 0
    → o7 ≡ o0 ++ concat (sections_fields h)
unfolding sections_fields targets_fields all_files_fields number_bytes
sections_written h o0 o1 o2 o3 o4 o5 o6 o7 e1 e2 e3 e4 e5 e6 e7 =
    e7 ∙ (ap (λ (o : List ℕ). o ++ number_bytes 2 0) (e6 ∙ ap (λ (o : List ℕ). o ++ concat (user_fields h.user)) (e5 ∙ ap (λ (o : List ℕ). o ++ concat (files_fields h.support_files)) (e4
    ∙ ap (λ (o : List ℕ). o ++ concat (files_fields h.data_files)) (e3 ∙ ap (λ (o : List ℕ). o ++ concat (positions_fields h.positions)) (e2 ∙ ap (λ (o : List ℕ). o ++ concat (texts_fields h.hardware)) e1)))))
    ∙ groups (concat (identity_fields h)) (concat (texts_fields h.hardware)) (concat (positions_fields h.positions)) (concat (files_fields h.data_files)) (concat (files_fields h.support_files)) (concat (user_fields h.user)) (number_bytes 2 0)
    ∙ ap (λ (o : List ℕ). o0 ++ o) (sym (parts (identity_fields h) (texts_fields h.hardware) (positions_fields h.positions) (files_fields h.data_files) (files_fields h.support_files) (user_fields h.user) (number_fields 2 0))))
  where
    groups : (a b c d e f g : List ℕ) → ((((((o0 ++ a) ++ b) ++ c) ++ d) ++ e) ++ f) ++ g ≡ o0 ++ (a ++ ((b ++ c) ++ ((d ++ e) ++ (f ++ g))))
    groups a b c d e f g = simp append_assoc refl

    parts : (a b c d e f g : List (List ℕ)) → concat (a ++ ((b ++ c) ++ ((d ++ e) ++ (f ++ g)))) ≡ concat a ++ ((concat b ++ concat c) ++ ((concat d ++ concat e) ++ (concat f ++ concat g)))
    parts a b c d e f g = simp concat-append refl

-- the whole that the header's check sum covers
pub covered_written : (h : HeaderView) (s : Sizes) (o1 o2 : List ℕ) → AreSizes h s → o1 ≡ concat (head_fields (whole_size s) h.flags (pointers_by s)) → o2 ≡ o1 ++ concat (sections_fields h) → o2 ≡ concat (covered_fields h)
unfolding covered_fields
covered_written h s o1 o2 are one two =
    let size : whole_size s ≡ header_size h = total_size h s (whole_size s) are refl in
    let head : o1 ≡ concat (head_fields (header_size h) h.flags (pointers_of h)) =
    one ∙ (ap (λ (n : ℕ). concat (head_fields n h.flags (pointers_by s))) size ∙ ap (λ (p : Pointers). concat (head_fields (header_size h) h.flags p)) (pointers_are h s are)) in
    two ∙ (ap (λ (o : List ℕ). o ++ concat (sections_fields h)) head ∙ sym (concat-append (head_fields (header_size h) h.flags (pointers_of h)) (sections_fields h)))

pub header_written : (h : HeaderView) (covered whole : List ℕ) → covered ≡ concat (covered_fields h) → whole ≡ (covered ++ number_bytes 2 (crc16_of covered)) ++ number_bytes 4 h.load_crc → whole ≡ concat (header_fields h)
unfolding header_fields
header_written h covered whole one two =
    let c : List (List ℕ) = covered_fields h in
    let end : List (List ℕ) = number_fields 2 (crc16_of (concat c)) ++ number_fields 4 h.load_crc in
    let ended : concat end ≡ number_bytes 2 (crc16_of (concat c)) ++ number_bytes 4 h.load_crc = simp append-nil refl in
    two ∙ (append_assoc covered (number_bytes 2 (crc16_of covered)) (number_bytes 4 h.load_crc) ∙ ap (λ (l : List ℕ). l ++ (number_bytes 2 (crc16_of l) ++ number_bytes 4 h.load_crc)) one ∙ (ap (λ (l : List ℕ). concat c ++ l) (sym ended) ∙ sym (concat-append c end)))
