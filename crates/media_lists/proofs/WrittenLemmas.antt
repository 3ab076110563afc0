-- What an encoder has written, section by section.
use Rattle.std.proofs.Common.{◌≡◌, ℕ, ◌+◌, ◌/◌, List, [], ◌++◌, length, refl, sym, ap, ◌∙◌, arith, append_assoc}
use Rattle.std.specs.List.{concat}
use Rattle.std.proofs.lemmas.List.{append-nil}
use Rattle.std.proofs.lemmas.List.Folds.{concat-append}
use Rattle.crc_fields.specs.CheckSums.{crc16_of}
use Rattle.field_grammar.specs.Spelling.{spelled_length}
use Rattle.field_grammar.specs.Fields.{number_bytes, number_fields}
use Rattle.media_lists.specs.Lists.{ListView}
use Rattle.header_sections.specs.SectionFields.{entries_fields, user_fields}
use Rattle.media_lists.specs.ListFields.{head_fields, identity_fields, entries_offset, list_size, pointers_of, sections_fields, covered_fields, list_fields}
use Rattle.media_lists.specs.declared.reading.Pointers.{Pointers}
use Rattle.media_lists.proofs.SizeLemmas.{size_identity, whole_size}

pub sections_written : {E : Type 0} (f : E → List (List ℕ)) (v : ListView E) (o0 o1 o2 o3 : List ℕ) → o1 ≡ o0 ++ concat (identity_fields v.set v.member v.members) → o2 ≡ o1 ++ concat (entries_fields f v.entries)
    → o3 ≡ o2 ++ concat (user_fields v.user) → o3 ≡ o0 ++ concat (sections_fields f v)
unfolding sections_fields
sections_written f v o0 o1 o2 o3 e1 e2 e3 =
    let w : List (List ℕ) = identity_fields v.set v.member v.members in
    let l : List (List ℕ) = entries_fields f v.entries in
    let u : List (List ℕ) = user_fields v.user in
    let parts : concat (w ++ (l ++ u)) ≡ concat w ++ (concat l ++ concat u) = concat-append w (l ++ u) ∙ ap (λ (x : List ℕ). concat w ++ x) (concat-append l u) in
    e3 ∙ (ap (λ (o : List ℕ). o ++ concat u) (e2 ∙ ap (λ (o : List ℕ). o ++ concat l) e1)
    ∙ (grouped (concat w) (concat l) (concat u) ∙ ap (λ (x : List ℕ). o0 ++ x) (sym parts)))
  where
    grouped : (a b c : List ℕ) → ((o0 ++ a) ++ b) ++ c ≡ o0 ++ (a ++ (b ++ c))
    grouped a b c = simp append_assoc refl

-- all that the check sum covers
pub covered_written : {E : Type 0} (version : ℕ) (f : E → List (List ℕ)) (v : ListView E) (size entries : ℕ) (o0 o1 o2 : List ℕ) → length v.set ≡ 15 → entries ≡ spelled_length (entries_fields f v.entries)
    → size ≡ 44 + entries + length v.user → o0 ≡ [] → o1 ≡ o0 ++ concat (head_fields version size (record { set = 10; entries = 20; user = (40 + entries) / 2 })) → o2 ≡ o1 ++ concat (sections_fields f v)
    → o2 ≡ concat (covered_fields version f v)
unfolding covered_fields pointers_of
covered_written version f v size entries o0 o1 o2 fifteen is total none one two =
    let whole : size ≡ list_size f v = total ∙ sym (whole_size f v entries fifteen is) in
    let first : entries_offset v ≡ 40 = omega (arith, size_identity v.set v.member v.members, fifteen) in
    let offsets : record { set = 10; entries = 20; user = (40 + entries) / 2 } ≡ pointers_of f v =
    ap (λ (n : ℕ). record { set = 10; entries = n / 2; user = (40 + entries) / 2 }) (sym first) ∙ ap (λ (n : ℕ). record { set = 10; entries = entries_offset v / 2; user = n / 2 }) (ap (λ (n : ℕ). n + entries) (sym first) ∙ ap (λ (n : ℕ). entries_offset v + n) is) in
    let head : o1 ≡ concat (head_fields version (list_size f v) (pointers_of f v)) =
    one ∙ (ap (λ (o : List ℕ). o ++ concat (head_fields version size (record { set = 10; entries = 20; user = (40 + entries) / 2 }))) none
    ∙ (ap (λ (n : ℕ). concat (head_fields version n (record { set = 10; entries = 20; user = (40 + entries) / 2 }))) whole ∙ ap (λ (p : Pointers). concat (head_fields version (list_size f v) p)) offsets)) in
    two ∙ (ap (λ (o : List ℕ). o ++ concat (sections_fields f v)) head ∙ sym (concat-append (head_fields version (list_size f v) (pointers_of f v)) (sections_fields f v)))

pub list_written : {E : Type 0} (version : ℕ) (f : E → List (List ℕ)) (v : ListView E) (covered whole : List ℕ) → covered ≡ concat (covered_fields version f v) → whole ≡ covered ++ number_bytes 2 (crc16_of covered)
    → whole ≡ concat (list_fields version f v)
unfolding list_fields
list_written version f v covered whole one two =
    let c : List (List ℕ) = covered_fields version f v in
    let end : List (List ℕ) = number_fields 2 (crc16_of (concat c)) in
    let ended : concat end ≡ number_bytes 2 (crc16_of (concat c)) = append-nil (number_bytes 2 (crc16_of (concat c))) in
    two ∙ (ap (λ (l : List ℕ). l ++ number_bytes 2 (crc16_of l)) one ∙ (ap (λ (l : List ℕ). concat c ++ l) (sym ended) ∙ sym (concat-append c end)))
