-- Each fault of a header is printed as a short text.
use Rattle.std.proofs.Common.{◌≡◌, ℕ, ◌+◌, ◌*◌, ◌/◌, ◌%◌, ◌≤◌, ◌^◌, Bool, true, List, [], ◌∷◌, length, Option, Some, None, Result, Err, refl, arith}
use Rattle.std.specs.Prelude.{codes, nat_le, ◌==◌}
use Rattle.std.specs.List.{list_all}
use Rattle.crc_fields.specs.CheckSums.{crc16_of}
use Rattle.crc_fields.proofs.WidthLemmas.{crc16_fits}
use Rattle.field_grammar.specs.Answers.{answer}
use Rattle.field_grammar.specs.declared.fault.FieldFault.{FieldFault}
use Rattle.field_grammar.specs.declared.fault.FieldFault.TheVariants as fields
use Rattle.field_grammar.specs.Fields.{judged_padded, number, number_in, pad, raw, section}
use Rattle.field_grammar.specs.Grammar.{Grammar, IsBytes, check, ended, expected, judged, left, listed, prefix, renamed, seq, sized}
use Rattle.field_grammar.proofs.NumberLemmas.{IsWide, wide2, wide4, wide8}
use Rattle.header_sections.specs.Sections as pieces
use Rattle.header_sections.specs.Sections.{end, name_verdict, part_verdict, section_at, start, text_verdict, user_data}
use Rattle.header_sections.specs.declared.fault.SectionFault.{SectionFault}
use Rattle.header_sections.specs.declared.fault.SectionFault.TheVariants as sections
use Rattle.load_base.specs.declared.name.NameFault.{NameFault}
use Rattle.load_base.specs.declared.text.TextFault.{TextFault}
use Rattle.load_base.specs.Text.{is_printable}
use Rattle.load_base.specs.Verdicts.{name_fault_of, text_fault_of, verdict}
use Rattle.load_header.specs.declared.fault.HeaderFault.{HeaderFault}
use Rattle.load_header.specs.declared.fault.HeaderFault.TheVariants as faults
use Rattle.load_header.specs.declared.header.FileEntry.{FileEntry}
use Rattle.load_header.specs.Header.{HardwareAtView, HeaderView, all_files, check_sums, counted_texts, entry_after, file_body, file_entry, file_size, files, four, hardware_at, head, header, identity, is_size, limit, named, no_check_value, pointers, positions, refused, shared, tail, targets, u16, u32}
use Rattle.load_header.specs.HeaderFaultText.{header_fault_text}
use Rattle.part_number.specs.declared.PartFault.{PartFault}
use Rattle.part_number.specs.FaultText.{part_fault_text}
use Rattle.part_number.specs.Verdicts.{part_fault_of}
use Rattle.printed_text.specs.FaultTexts.{coded, name_fault_text, text_fault_text}
use Rattle.replay_rules.proofs.ShortTexts.{IsLittle, IsTextOf, coded_text, nested_text}
use Rattle.replay_rules.proofs.SmallFaults.{JudgedSo, ReadsSo, answered_so, so_check, so_field, so_give, so_judge, so_left, so_listed, so_prefix, so_renamed, so_seq, so_times, so_weaker}
use Rattle.replay_rules.proofs.TextFaults.{IfSuch, name_fault_short, part_fault_short, text_fault_short}

-- what the parts of a header are read by: the pointers to its sections
abbrev Domain : {A : Type 0} {B : Type 1} → (A → B) → Type 0
Domain {A = A} f = A

abbrev Pointers : Type 0
Pointers = Domain identity

-- ---- fields

-- a header is read within this many bytes
abbrev pub most : ℕ
most = 65536

abbrev pub FieldOk : FieldFault → Type 0
FieldOk (fields.Short offset) = offset ≤ 65536
FieldOk (fields.BadPad offset) = offset ≤ 65536

pub so_raw : (n : ℕ) → ReadsSo most FieldOk (λ (v : List ℕ). IsBytes v × (length v ≤ most)) (raw n)
unfolding raw
so_raw n = so_field most FieldOk fields.Short n (λ o le. le)

pub so_number : (n : ℕ) → IsWide n → 256 ^ n ≤ 2 ^ 64 → ReadsSo most FieldOk IsLittle (number n)
unfolding number
so_number n wide le = so_seq most FieldOk (λ (v : List ℕ). IsBytes v × (length v ≤ most)) IsLittle (raw n) _ (so_raw n) (λ v h. so_give most FieldOk IsLittle (number_in n v) (let below = wide.below v h.0 in omega (arith, below, le)))

so_pad : (n : ℕ) → ReadsSo most FieldOk (λ (u : Unit {0}). Unit {0}) (pad n)
unfolding pad
so_pad n =
    so_seq most FieldOk (λ (v : List ℕ). IsBytes v × (length v ≤ most)) (λ (u : Unit {0}). Unit {0}) prefix _ (so_prefix most FieldOk)
    (λ before h. so_seq most FieldOk (λ (v : List ℕ). IsBytes v × (length v ≤ most)) (λ (u : Unit {0}). Unit {0}) (raw (n % 2)) _ (so_raw (n % 2)) (λ v g. so_check most FieldOk _ (fields.BadPad (length before)) h.1))

-- ---- faults

abbrev pub HeaderOk : HeaderFault → Type 0
HeaderOk fault = IsTextOf 100 (header_fault_text fault)

abbrev SectionOk : SectionFault → Type 0
SectionOk fault = HeaderOk (refused fault)

pub one : (code : List ℕ) (a : ℕ) → list_all is_printable code ≡ true → length code ≤ 3 → IsLittle a → IsTextOf 100 (coded code (a ∷ []))
one code a good short la = coded_text 100 code (a ∷ []) good (la, tt) (omega (arith, short))

pub two : (code : List ℕ) (a b : ℕ) → list_all is_printable code ≡ true → length code ≤ 3 → IsLittle a → IsLittle b → IsTextOf 100 (coded code (a ∷ b ∷ []))
two code a b good short la lb = coded_text 100 code (a ∷ b ∷ []) good (la, (lb, tt)) (omega (arith, short))

three : (code : List ℕ) (a b c : ℕ) → list_all is_printable code ≡ true → length code ≤ 3 → IsLittle a → IsLittle b → IsLittle c → IsTextOf 100 (coded code (a ∷ b ∷ c ∷ []))
three code a b c good short la lb lc = coded_text 100 code (a ∷ b ∷ c ∷ []) good (la, (lb, (lc, tt))) (omega (arith, short))

pub small : (n : ℕ) → n ≤ 65536 → IsLittle n
small n le = omega (arith, le)

field_header : (fault : FieldFault) → FieldOk fault → HeaderOk (named fault)
field_header (fields.Short o) le = one (codes "H1") o refl (omega arith) (small o le)
field_header (fields.BadPad o) le = one (codes "H5") o refl (omega arith) (small o le)

field_section : (fault : FieldFault) → FieldOk fault → SectionOk (pieces.named fault)
field_section (fields.Short o) le = one (codes "H1") o refl (omega arith) (small o le)
field_section (fields.BadPad o) le = one (codes "H5") o refl (omega arith) (small o le)

-- ---- shared pieces

so_s16 : ReadsSo most SectionOk IsLittle pieces.u16
so_s16 = so_renamed most FieldOk SectionOk IsLittle pieces.named (number 2) (so_number 2 wide2 (omega arith)) field_section

so_s32 : ReadsSo most SectionOk IsLittle pieces.u32
so_s32 = so_renamed most FieldOk SectionOk IsLittle pieces.named (number 4) (so_number 4 wide4 (omega arith)) field_section

so_bytes : (n : ℕ) → ReadsSo most SectionOk (λ (v : List ℕ). IsBytes v × (length v ≤ most)) (renamed pieces.named (raw n))
so_bytes n = so_renamed most FieldOk SectionOk (λ (v : List ℕ). IsBytes v × (length v ≤ most)) pieces.named (raw n) (so_raw n) field_section

-- a padded text that a verdict judges
so_judged : (wrong : ℕ → List ℕ → Result (List ℕ) SectionFault) → ((o : ℕ) (v : List ℕ) → o ≤ most → length v ≤ most → IsBytes v → JudgedSo most SectionOk (λ (x : List ℕ). Unit {0}) (wrong o v))
    → ReadsSo most SectionOk (λ (v : List ℕ). Unit {0}) (judged_padded pieces.named wrong)
so_judged wrong so =
    so_seq most SectionOk IsLittle (λ (v : List ℕ). Unit {0}) pieces.u16 _ so_s16
    (λ n h. so_seq most SectionOk (λ (v : List ℕ). Unit {0}) (λ (v : List ℕ). Unit {0}) (judged (renamed pieces.named (raw n)) wrong) _
    (so_seq most SectionOk (λ (v : List ℕ). IsBytes v × (length v ≤ most)) (λ (v : List ℕ). Unit {0}) prefix _ (so_prefix most SectionOk)
    (λ before b. so_seq most SectionOk (λ (v : List ℕ). IsBytes v × (length v ≤ most)) (λ (v : List ℕ). Unit {0}) (renamed pieces.named (raw n)) _ (so_bytes n)
    (λ v g. so_judge most SectionOk (λ (x : List ℕ). Unit {0}) (wrong (length before) v) (so (length before) v b.1 g.1 g.0))))
    (λ text u. so_seq most SectionOk (λ (v : Unit {0}). Unit {0}) (λ (v : List ℕ). Unit {0}) (renamed pieces.named (pad n)) _
    (so_renamed most FieldOk SectionOk (λ (v : Unit {0}). Unit {0}) pieces.named (pad n) (so_pad n) field_section) (λ x w. so_give most SectionOk (λ (v : List ℕ). Unit {0}) text tt)))

so_text : ReadsSo most SectionOk (λ (v : List ℕ). Unit {0}) pieces.text
unfolding pieces.text
so_text = so_judged text_verdict (λ o v le few fit. by o le (text_fault_of v) (text_fault_short v (omega (arith, few))) v)
  where
    by : (o : ℕ) → o ≤ most → (found : Option TextFault) → IfSuch (λ (fault : TextFault). IsTextOf 23 (text_fault_text fault)) found → (v : List ℕ) → JudgedSo most SectionOk (λ (x : List ℕ). Unit {0}) (verdict (sections.Text o) found v)
    by o le None such v = tt
    by o le (Some fault) such v = nested_text 24 23 100 _ _ (coded_text 24 (codes "H13") (o ∷ []) refl (small o le, tt) (omega arith)) such (omega arith)

so_name : ReadsSo most SectionOk (λ (v : List ℕ). Unit {0}) pieces.name
unfolding pieces.name
so_name = so_judged name_verdict (λ o v le few fit. by o le (name_fault_of v) (name_fault_short v (omega (arith, few))) v)
  where
    by : (o : ℕ) → o ≤ most → (found : Option NameFault) → IfSuch (λ (fault : NameFault). IsTextOf 23 (name_fault_text fault)) found → (v : List ℕ) → JudgedSo most SectionOk (λ (x : List ℕ). Unit {0}) (verdict (sections.Name o) found v)
    by o le None such v = tt
    by o le (Some fault) such v = nested_text 24 23 100 _ _ (coded_text 24 (codes "H12") (o ∷ []) refl (small o le, tt) (omega arith)) such (omega arith)

so_part : ReadsSo most SectionOk (λ (v : List ℕ). Unit {0}) pieces.part
unfolding pieces.part
so_part = so_judged part_verdict (λ o v le few fit. by o (part_fault_of v) (part_fault_short v (omega (arith, few)) fit) v)
  where
    by : (o : ℕ) (found : Option PartFault) → IfSuch (λ (fault : PartFault). IsTextOf 44 (part_fault_text fault)) found → (v : List ℕ) → JudgedSo most SectionOk (λ (x : List ℕ). Unit {0}) (verdict (sections.Part o) found v)
    by o None such v = tt
    by o (Some fault) such v = nested_text 2 44 100 _ _ (coded_text 2 (codes "H6") [] refl tt (omega arith)) such (omega arith)

so_start : (version : ℕ) → ReadsSo most SectionOk (λ (v : ℕ). Unit {0}) (start version)
unfolding start
so_start version =
    so_seq most SectionOk (λ (v : ℕ). Unit {0}) (λ (v : ℕ). Unit {0}) (sized pieces.u32 (λ (words : ℕ). 2 * words) sections.Length) _
    (so_seq most SectionOk (λ (n : ℕ). n ≤ most) (λ (v : ℕ). Unit {0}) left _ (so_left most SectionOk)
    (λ size h. so_seq most SectionOk IsLittle (λ (v : ℕ). Unit {0}) pieces.u32 _ so_s32
    (λ said g. so_seq most SectionOk (λ (u : Unit {0}). Unit {0}) (λ (v : ℕ). Unit {0}) (check (2 * said == size) (sections.Length said size)) _
    (so_check most SectionOk (2 * said == size) (sections.Length said size) (two (codes "H2") said size refl (omega arith) g (small size h))) (λ u w. so_give most SectionOk (λ (v : ℕ). Unit {0}) said tt))))
    (λ words u. so_seq most SectionOk (λ (v : Unit {0}). Unit {0}) (λ (v : ℕ). Unit {0}) (expected pieces.u16 version sections.Version) _
    (so_seq most SectionOk IsLittle (λ (v : Unit {0}). Unit {0}) pieces.u16 _ so_s16 (λ found h. so_check most SectionOk (found == version) (sections.Version found) (one (codes "H3") found refl (omega arith) h)))
    (λ x w. so_give most SectionOk (λ (v : ℕ). Unit {0}) words tt))

so_section_at : (which said : ℕ) → IsLittle which → IsLittle said → ReadsSo most SectionOk (λ (u : Unit {0}). Unit {0}) (section_at which said)
unfolding section_at section
so_section_at which said lw ls =
    so_seq most SectionOk (λ (v : List ℕ). IsBytes v × (length v ≤ most)) (λ (u : Unit {0}). Unit {0}) prefix _ (so_prefix most SectionOk)
    (λ before h. so_check most SectionOk (said == length before / 2) (sections.Pointer which said (length before / 2)) (three (codes "H4") which said (length before / 2) refl (omega arith) lw ls (let le = h.1 in omega (arith, le))))

so_user : (which said : ℕ) → IsLittle which → IsLittle said → ReadsSo most SectionOk (λ (v : List ℕ). Unit {0}) (user_data which said)
unfolding user_data
so_user which said lw ls =
    so_seq most SectionOk (λ (u : Unit {0}). Unit {0}) (λ (v : List ℕ). Unit {0}) (section_at which said) _ (so_section_at which said lw ls)
    (λ x u. so_seq most SectionOk IsLittle (λ (v : List ℕ). Unit {0}) pieces.u16 _ so_s16
    (λ words h. so_weaker most SectionOk (λ (v : List ℕ). IsBytes v × (length v ≤ most)) (λ (v : List ℕ). Unit {0}) (renamed pieces.named (raw (2 * words))) (λ v g. tt) (so_bytes (2 * words))))

so_end : (said found : ℕ) → IsLittle said → IsLittle found → ReadsSo most SectionOk (λ (u : Unit {0}). Unit {0}) (end said found)
unfolding end
so_end said found ls lf =
    so_seq most SectionOk (λ (u : Unit {0}). Unit {0}) (λ (u : Unit {0}). Unit {0}) (ended sections.Rest) _
    (so_seq most SectionOk (λ (v : List ℕ). IsBytes v × (length v ≤ most)) (λ (u : Unit {0}). Unit {0}) prefix _ (so_prefix most SectionOk)
    (λ before h. so_seq most SectionOk (λ (n : ℕ). n ≤ most) (λ (u : Unit {0}). Unit {0}) left _ (so_left most SectionOk)
    (λ size g. so_check most SectionOk (size == 0) (sections.Rest (length before)) (one (codes "H15") (length before) refl (omega arith) (small (length before) h.1)))))
    (λ x u. so_check most SectionOk (said == found) (sections.Sum said found) (two (codes "H10") said found refl (omega arith) ls lf))

-- ---- a header's own fields

pub so_two : ReadsSo most FieldOk (λ (n : ℕ). n ≤ 65535) (number 2)
unfolding number
so_two = so_seq most FieldOk (λ (v : List ℕ). IsBytes v × (length v ≤ most)) (λ (n : ℕ). n ≤ 65535) (raw 2) _ (so_raw 2) (λ v h. so_give most FieldOk (λ (n : ℕ). n ≤ 65535) (number_in 2 v) (let below = wide2.below v h.0 in omega (arith, below)))

so_count : ReadsSo most HeaderOk (λ (n : ℕ). n ≤ 65535) u16
so_count = so_renamed most FieldOk HeaderOk (λ (n : ℕ). n ≤ 65535) named (number 2) so_two field_header

so_h32 : ReadsSo most HeaderOk IsLittle u32
so_h32 = so_renamed most FieldOk HeaderOk IsLittle named (number 4) (so_number 4 wide4 (omega arith)) field_header

so_shared : {A : Type 0} (Q : A → Type 0) (piece : Grammar SectionFault A) → ReadsSo most SectionOk Q piece → ReadsSo most HeaderOk Q (shared piece)
so_shared Q piece h = so_renamed most SectionOk HeaderOk Q refused piece h (λ fault p. p)

so_counted_texts : ReadsSo most HeaderOk (λ (v : List (List ℕ)). Unit {0}) counted_texts
unfolding counted_texts
so_counted_texts =
    so_seq most HeaderOk (λ (n : ℕ). n ≤ 65535) (λ (v : List (List ℕ)). Unit {0}) u16 _ so_count
    (λ count h. so_shared (λ (v : List (List ℕ)). Unit {0}) (pieces.texts count) (so_times most SectionOk (λ (v : List ℕ). Unit {0}) count pieces.text so_text))

abbrev FourOk : ℕ × ℕ × ℕ × ℕ → Type 0
FourOk p = IsLittle p.0 × IsLittle p.1 × IsLittle p.2 × IsLittle p.3

so_four : ReadsSo most HeaderOk FourOk four
unfolding four
so_four =
    so_seq most HeaderOk IsLittle FourOk u32 _ so_h32
    (λ a ha. so_seq most HeaderOk IsLittle FourOk u32 _ so_h32
    (λ b hb. so_seq most HeaderOk IsLittle FourOk u32 _ so_h32 (λ c hc. so_seq most HeaderOk IsLittle FourOk u32 _ so_h32 (λ d hd. so_give most HeaderOk FourOk (a, b, c, d) (ha, hb, hc, hd)))))

abbrev PointersOk : Pointers → Type 0
PointersOk p =
    IsLittle p.part × IsLittle p.type_name × IsLittle p.hardware × IsLittle p.positions × IsLittle p.data_files × IsLittle p.support_files × IsLittle p.user × IsLittle p.check_value

so_pointers : ReadsSo most HeaderOk PointersOk pointers
unfolding pointers
so_pointers =
    so_seq most HeaderOk FourOk PointersOk four _ so_four
    (λ a ha. so_seq most HeaderOk FourOk PointersOk four _ so_four (λ b hb. so_give most HeaderOk PointersOk _ (ha.0, ha.1, ha.2, ha.3, hb.0, hb.1, hb.2, hb.3)))

abbrev HeadOk : ℕ × Pointers → Type 0
HeadOk p = PointersOk p.1

so_head : ReadsSo most HeaderOk HeadOk head
unfolding head
so_head =
    so_seq most HeaderOk (λ (v : ℕ). Unit {0}) HeadOk (shared (start 0x8004)) _ (so_shared (λ (v : ℕ). Unit {0}) (start 0x8004) (so_start 0x8004))
    (λ x u. so_seq most HeaderOk (λ (n : ℕ). n ≤ 65535) HeadOk u16 _ so_count
    (λ flags h. so_seq most HeaderOk PointersOk HeadOk pointers _ so_pointers (λ offsets g. so_give most HeaderOk HeadOk (flags, offsets) g)))

so_section : {A : Type 0} (which said : ℕ) (next : Grammar HeaderFault A) → IsLittle which → IsLittle said → ReadsSo most HeaderOk (λ (v : A). Unit {0}) next → ReadsSo most HeaderOk (λ (v : A). Unit {0}) (seq (shared (section_at which said)) (λ u. next))
so_section {A = A} which said next lw ls h =
    so_seq most HeaderOk (λ (u : Unit {0}). Unit {0}) (λ (v : A). Unit {0}) (shared (section_at which said)) (λ (u : Unit {0}). next) (so_shared (λ (u : Unit {0}). Unit {0}) (section_at which said) (so_section_at which said lw ls)) (λ u w. h)

so_identity : (offsets : Pointers) → PointersOk offsets → ReadsSo most HeaderOk (λ (v : List ℕ × List ℕ × ℕ). Unit {0}) (identity offsets)
unfolding identity
so_identity offsets ok =
    so_section 1 offsets.part _ (omega arith) ok.0
    (so_seq most HeaderOk (λ (v : List ℕ). Unit {0}) (λ (v : List ℕ × List ℕ × ℕ). Unit {0}) (shared pieces.part) _ (so_shared (λ (v : List ℕ). Unit {0}) pieces.part so_part)
    (λ number u. so_section 2 offsets.type_name _ (omega arith) ok.1
    (so_seq most HeaderOk (λ (v : List ℕ). Unit {0}) (λ (v : List ℕ × List ℕ × ℕ). Unit {0}) (shared pieces.text) _ (so_shared (λ (v : List ℕ). Unit {0}) pieces.text so_text)
    (λ type_name w. so_seq most HeaderOk (λ (n : ℕ). n ≤ 65535) (λ (v : List ℕ × List ℕ × ℕ). Unit {0}) u16 _ so_count (λ id h. so_give most HeaderOk (λ (v : List ℕ × List ℕ × ℕ). Unit {0}) (number, type_name, id) tt)))))

so_hardware_at : ReadsSo most HeaderOk (λ (v : HardwareAtView). Unit {0}) hardware_at
unfolding hardware_at
so_hardware_at =
    so_seq most HeaderOk (λ (v : List ℕ). Unit {0}) (λ (v : HardwareAtView). Unit {0}) (shared pieces.text) _ (so_shared (λ (v : List ℕ). Unit {0}) pieces.text so_text)
    (λ hardware u. so_seq most HeaderOk (λ (v : List (List ℕ)). Unit {0}) (λ (v : HardwareAtView). Unit {0}) counted_texts _ so_counted_texts (λ at w. so_give most HeaderOk (λ (v : HardwareAtView). Unit {0}) _ tt))

so_positions : ReadsSo most HeaderOk (λ (v : List HardwareAtView). Unit {0}) positions
unfolding positions
so_positions = so_seq most HeaderOk (λ (n : ℕ). n ≤ 65535) (λ (v : List HardwareAtView). Unit {0}) u16 _ so_count (λ count h. so_times most HeaderOk (λ (v : HardwareAtView). Unit {0}) count hardware_at so_hardware_at)

so_targets : (offsets : Pointers) → PointersOk offsets → ReadsSo most HeaderOk (λ (v : List (List ℕ) × List HardwareAtView). Unit {0}) (targets offsets)
unfolding targets
so_targets offsets ok =
    so_section 3 offsets.hardware _ (omega arith) ok.2
    (so_seq most HeaderOk (λ (v : List (List ℕ)). Unit {0}) (λ (v : List (List ℕ) × List HardwareAtView). Unit {0}) counted_texts _ so_counted_texts
    (λ hardware u. so_section 4 offsets.positions _ (omega arith) ok.3
    (so_seq most HeaderOk (λ (v : List HardwareAtView). Unit {0}) (λ (v : List (List ℕ) × List HardwareAtView). Unit {0}) positions _ so_positions (λ at w. so_give most HeaderOk (λ (v : List (List ℕ) × List HardwareAtView). Unit {0}) (hardware, at) tt))))

-- ---- its files

so_file_size : (file : ℕ) → IsLittle file → ReadsSo most HeaderOk IsLittle (file_size file)
unfolding file_size
so_file_size file lf =
    so_seq most HeaderOk IsLittle IsLittle u32 _ so_h32
    (λ words hw. so_seq most HeaderOk IsLittle IsLittle (renamed named (number 8)) _ (so_renamed most FieldOk HeaderOk IsLittle named (number 8) (so_number 8 wide8 (omega arith)) field_header)
    (λ bytes hb. so_seq most HeaderOk (λ (u : Unit {0}). Unit {0}) IsLittle (check (is_size words bytes) (faults.Sizes file)) _ (so_check most HeaderOk (is_size words bytes) (faults.Sizes file) (one (codes "H9") file refl (omega arith) lf)) (λ u w. so_give most HeaderOk IsLittle bytes hb)))

so_file_body : (file : ℕ) → IsLittle file → ReadsSo most HeaderOk (λ (v : FileEntry). Unit {0}) (file_body file)
unfolding file_body
so_file_body file lf =
    so_seq most HeaderOk (λ (v : List ℕ). Unit {0}) (λ (v : FileEntry). Unit {0}) (shared pieces.name) _ (so_shared (λ (v : List ℕ). Unit {0}) pieces.name so_name)
    (λ title u. so_seq most HeaderOk (λ (v : List ℕ). Unit {0}) (λ (v : FileEntry). Unit {0}) (shared pieces.text) _ (so_shared (λ (v : List ℕ). Unit {0}) pieces.text so_text)
    (λ number w. so_seq most HeaderOk IsLittle (λ (v : FileEntry). Unit {0}) (file_size file) _ (so_file_size file lf)
    (λ size h. so_seq most HeaderOk (λ (n : ℕ). n ≤ 65535) (λ (v : FileEntry). Unit {0}) u16 _ so_count (λ sum g. so_give most HeaderOk (λ (v : FileEntry). Unit {0}) _ tt))))

so_file_entry : (file : ℕ) (last : Bool) → IsLittle file → ReadsSo most HeaderOk (λ (v : FileEntry). Unit {0}) (file_entry file last)
unfolding file_entry
so_file_entry file last lf =
    so_seq most HeaderOk (λ (v : List ℕ). IsBytes v × (length v ≤ most)) (λ (v : FileEntry). Unit {0}) prefix _ (so_prefix most HeaderOk)
    (λ first a. so_seq most HeaderOk (λ (n : ℕ). n ≤ 65535) (λ (v : FileEntry). Unit {0}) u16 _ so_count
    (λ said b. so_seq most HeaderOk (λ (v : FileEntry). Unit {0}) (λ (v : FileEntry). Unit {0}) (file_body file) _ (so_file_body file lf)
    (λ x c. so_seq most HeaderOk (λ (v : List ℕ). IsBytes v × (length v ≤ most)) (λ (v : FileEntry). Unit {0}) prefix _ (so_prefix most HeaderOk)
    (λ stop d. so_seq most HeaderOk (λ (u : Unit {0}). Unit {0}) (λ (v : FileEntry). Unit {0}) (check _ (faults.Distance file)) _ (so_check most HeaderOk _ (faults.Distance file) (one (codes "H8") file refl (omega arith) lf)) (λ u w. so_give most HeaderOk (λ (v : FileEntry). Unit {0}) x tt)))))

abbrev FilesOk : List FileEntry → Type 0
FilesOk xs = length xs ≤ 65535

so_files : (which said others : ℕ) → IsLittle which → IsLittle said → others ≤ 65535 → ReadsSo most HeaderOk FilesOk (files which said others)
unfolding files
so_files which said others lw ls lo =
    so_seq most HeaderOk (λ (u : Unit {0}). Unit {0}) FilesOk (shared (section_at which said)) _ (so_shared (λ (u : Unit {0}). Unit {0}) (section_at which said) (so_section_at which said lw ls))
    (λ x u. so_seq most HeaderOk (λ (n : ℕ). n ≤ 65535) FilesOk u16 _ so_count
    (λ count h. so_seq most HeaderOk (λ (u : Unit {0}). Unit {0}) FilesOk (check (nat_le (others + count) 255) (faults.TooMany (others + count))) _ (so_check most HeaderOk (nat_le (others + count) 255) (faults.TooMany (others + count)) (one (codes "H14") (others + count) refl (omega arith) (omega (arith, lo, h))))
    (λ y w. so_weaker most HeaderOk (λ (xs : List FileEntry). length xs ≡ count) FilesOk (listed count (entry_after others count) []) (λ xs e. omega (arith, e, h))
    (so_listed most HeaderOk count count (entry_after others count) [] (λ xs less. so_file_entry (others + length xs + 1) (length xs + 1 == count) (omega (arith, lo, h, less))) (omega arith)))))

abbrev BothOk : List FileEntry × List FileEntry → Type 0
BothOk p = Unit {0}

so_all_files : (offsets : Pointers) → PointersOk offsets → ReadsSo most HeaderOk BothOk (all_files offsets)
unfolding all_files
so_all_files offsets ok =
    so_seq most HeaderOk FilesOk BothOk (files 5 offsets.data_files 0) _ (so_files 5 offsets.data_files 0 (omega arith) ok.4 (omega arith))
    (λ data_files h. so_seq most HeaderOk FilesOk BothOk (files 6 offsets.support_files (length data_files)) _ (so_files 6 offsets.support_files (length data_files) (omega arith) ok.5 h)
    (λ support_files g. so_give most HeaderOk BothOk (data_files, support_files) tt))

-- ---- its end

so_no_check_value : (said : ℕ) → IsLittle said → ReadsSo most HeaderOk (λ (u : Unit {0}). Unit {0}) (no_check_value said)
unfolding no_check_value
so_no_check_value said ls =
    so_section 8 said _ (omega arith) ls
    (so_seq most HeaderOk (λ (n : ℕ). n ≤ 65535) (λ (u : Unit {0}). Unit {0}) u16 _ so_count (λ size h. so_check most HeaderOk (size == 0) faults.CheckValuePresent (coded_text 100 (codes "H7") [] refl tt (omega arith))))

so_check_sums : ReadsSo most HeaderOk (λ (n : ℕ). Unit {0}) check_sums
unfolding check_sums
so_check_sums =
    so_seq most HeaderOk (λ (v : List ℕ). IsBytes v × (length v ≤ most)) (λ (n : ℕ). Unit {0}) prefix _ (so_prefix most HeaderOk)
    (λ before a. so_seq most HeaderOk (λ (n : ℕ). n ≤ 65535) (λ (n : ℕ). Unit {0}) u16 _ so_count
    (λ said h. so_seq most HeaderOk IsLittle (λ (n : ℕ). Unit {0}) u32 _ so_h32
    (λ load_crc g. so_seq most HeaderOk (λ (u : Unit {0}). Unit {0}) (λ (n : ℕ). Unit {0}) (shared (end said (crc16_of before))) _
    (so_shared (λ (u : Unit {0}). Unit {0}) (end said (crc16_of before)) (so_end said (crc16_of before) (omega (arith, h)) (let fits = crc16_fits before in omega (arith, fits)))) (λ u w. so_give most HeaderOk (λ (n : ℕ). Unit {0}) load_crc tt))))

so_tail : (offsets : Pointers) → PointersOk offsets → ReadsSo most HeaderOk (λ (v : List ℕ × ℕ). Unit {0}) (tail offsets)
unfolding tail
so_tail offsets ok =
    so_seq most HeaderOk (λ (v : List ℕ). Unit {0}) (λ (v : List ℕ × ℕ). Unit {0}) (shared (user_data 7 offsets.user)) _ (so_shared (λ (v : List ℕ). Unit {0}) (user_data 7 offsets.user) (so_user 7 offsets.user (omega arith) ok.6))
    (λ user u. so_seq most HeaderOk (λ (u : Unit {0}). Unit {0}) (λ (v : List ℕ × ℕ). Unit {0}) (no_check_value offsets.check_value) _ (so_no_check_value offsets.check_value ok.7)
    (λ x w. so_seq most HeaderOk (λ (n : ℕ). Unit {0}) (λ (v : List ℕ × ℕ). Unit {0}) check_sums _ so_check_sums (λ load_crc y. so_give most HeaderOk (λ (v : List ℕ × ℕ). Unit {0}) (user, load_crc) tt)))

so_limit : ReadsSo most HeaderOk (λ (u : Unit {0}). Unit {0}) limit
unfolding limit
so_limit = so_seq most HeaderOk (λ (n : ℕ). n ≤ most) (λ (u : Unit {0}). Unit {0}) left _ (so_left most HeaderOk) (λ size h. so_check most HeaderOk (nat_le size 65536) faults.TooLong (coded_text 100 (codes "H11") [] refl tt (omega arith)))

abbrev AnyHeader : HeaderView → Type 0
AnyHeader v = Unit {0}

so_header : ReadsSo most HeaderOk AnyHeader header
unfolding header
so_header =
    so_seq most HeaderOk (λ (u : Unit {0}). Unit {0}) AnyHeader limit _ so_limit
    (λ x u. so_seq most HeaderOk HeadOk AnyHeader head _ so_head
    (λ first ok. so_seq most HeaderOk (λ (v : List ℕ × List ℕ × ℕ). Unit {0}) AnyHeader (identity first.1) _ (so_identity first.1 ok)
    (λ what a. so_seq most HeaderOk (λ (v : List (List ℕ) × List HardwareAtView). Unit {0}) AnyHeader (targets first.1) _ (so_targets first.1 ok)
    (λ whom b. so_seq most HeaderOk BothOk AnyHeader (all_files first.1) _ (so_all_files first.1 ok)
    (λ parts c. so_seq most HeaderOk (λ (v : List ℕ × ℕ). Unit {0}) AnyHeader (tail first.1) _ (so_tail first.1 ok) (λ stop d. so_give most HeaderOk AnyHeader _ tt))))))

-- the fault of a header of at most 65,536 bytes
pub header_fault_short : (bytes : List ℕ) (fault : HeaderFault) → length bytes ≤ 65536 → IsBytes bytes → answer header bytes ≡ Err fault → IsTextOf 100 (header_fault_text fault)
header_fault_short bytes fault le fit e = answered_so most HeaderOk AnyHeader header bytes fault so_header le fit e
