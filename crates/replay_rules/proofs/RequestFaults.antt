-- Each fault of a request is printed as a short text.
use Rattle.std.proofs.Common.{◌≡◌, ℕ, ◌≤◌, List, [], ◌∷◌, length, Option, Some, None, Result, Err, refl, arith}
use Rattle.std.specs.Prelude.{codes, ◌==◌}
use Rattle.field_grammar.specs.Answers.{answer}
use Rattle.field_grammar.specs.declared.fault.FieldFault.{FieldFault}
use Rattle.field_grammar.specs.declared.fault.FieldFault.TheVariants as fields
use Rattle.field_grammar.specs.Fields.{judged_short, number, raw}
use Rattle.field_grammar.specs.Grammar.{IsBytes, check, expected, left, pair, prefix, renamed, sized}
use Rattle.field_grammar.proofs.NumberLemmas.{wide1, wide4}
use Rattle.load_base.specs.declared.name.NameFault.{NameFault}
use Rattle.load_base.specs.Verdicts.{name_fault_of, verdict}
use Rattle.load_protocol_files.specs.declared.fault.FileFault.{FileFault}
use Rattle.load_protocol_files.specs.declared.fault.FileFault.TheVariants as faults
use Rattle.load_protocol_files.specs.declared.lur.Wanted.{Wanted}
use Rattle.load_protocol_files.specs.Faults.{named}
use Rattle.load_protocol_files.specs.FaultTexts.{file_fault_text}
use Rattle.load_protocol_files.specs.Files.{head, tail}
use Rattle.load_protocol_files.specs.Lur.{LurView, lur, lur_body, to_lur, wanted}
use Rattle.load_protocol_files.specs.Pieces.{name, name_verdict, part, part_verdict, u16}
use Rattle.part_number.specs.declared.PartFault.{PartFault}
use Rattle.part_number.specs.FaultText.{part_fault_text}
use Rattle.part_number.specs.Verdicts.{part_fault_of}
use Rattle.printed_text.specs.FaultTexts.{name_fault_text}
use Rattle.replay_rules.proofs.HeaderFaults.{FieldOk, most, one, small, so_number, so_raw, so_two, two}
use Rattle.replay_rules.proofs.ShortTexts.{IsLittle, IsTextOf, coded_text, nested_text}
use Rattle.replay_rules.proofs.SmallFaults.{JudgedSo, ReadsSo, answered_so, so_check, so_give, so_judge, so_left, so_prefix, so_renamed, so_seq, so_times}
use Rattle.replay_rules.proofs.TextFaults.{IfSuch, name_fault_short, part_fault_short}

abbrev FileOk : FileFault → Type 0
FileOk fault = IsTextOf 100 (file_fault_text fault)

field_file : (fault : FieldFault) → FieldOk fault → FileOk (named fault)
field_file (fields.Short o) le = one (codes "U1") o refl (omega arith) (small o le)
field_file (fields.BadPad o) le = one (codes "U1") o refl (omega arith) (small o le)

abbrev BytesOk : List ℕ → Type 0
BytesOk v = IsBytes v × (length v ≤ most)

abbrev Texts : List ℕ → Type 0
Texts v = Unit {0}

so_u16 : ReadsSo most FileOk (λ (n : ℕ). n ≤ 65535) u16
so_u16 = so_renamed most FieldOk FileOk (λ (n : ℕ). n ≤ 65535) named (number 2) so_two field_file

-- a short text that a verdict judges
so_judged : (wrong : ℕ → List ℕ → Result (List ℕ) FileFault) → ((o : ℕ) (v : List ℕ) → o ≤ most → length v ≤ most → IsBytes v → JudgedSo most FileOk Texts (wrong o v)) → ReadsSo most FileOk Texts (judged_short named wrong)
so_judged wrong so =
    so_seq most FileOk IsLittle Texts (renamed named (number 1)) _ (so_renamed most FieldOk FileOk IsLittle named (number 1) (so_number 1 wide1 (omega arith)) field_file)
    (λ n h. so_seq most FileOk BytesOk Texts prefix _ (so_prefix most FileOk)
    (λ before b. so_seq most FileOk BytesOk Texts (renamed named (raw n)) _ (so_renamed most FieldOk FileOk BytesOk named (raw n) (so_raw n) field_file)
    (λ v g. so_judge most FileOk Texts (wrong (length before) v) (so (length before) v b.1 g.1 g.0))))

so_name : ReadsSo most FileOk Texts name
unfolding name
so_name = so_judged name_verdict (λ o v le few fit. by o le (name_fault_of v) (name_fault_short v (omega (arith, few))) v)
  where
    by : (o : ℕ) → o ≤ most → (found : Option NameFault) → IfSuch (λ (fault : NameFault). IsTextOf 23 (name_fault_text fault)) found → (v : List ℕ) → JudgedSo most FileOk Texts (verdict (faults.Name o) found v)
    by o le None such v = tt
    by o le (Some fault) such v = nested_text 23 23 100 _ _ (coded_text 23 (codes "U6") (o ∷ []) refl (small o le, tt) (omega arith)) such (omega arith)

so_part : ReadsSo most FileOk Texts part
unfolding part
so_part = so_judged part_verdict (λ o v le few fit. by o le (part_fault_of v) (part_fault_short v (omega (arith, few)) fit) v)
  where
    by : (o : ℕ) → o ≤ most → (found : Option PartFault) → IfSuch (λ (fault : PartFault). IsTextOf 44 (part_fault_text fault)) found → (v : List ℕ) → JudgedSo most FileOk Texts (verdict (faults.Part o) found v)
    by o le None such v = tt
    by o le (Some fault) such v = nested_text 23 44 100 _ _ (coded_text 23 (codes "U7") (o ∷ []) refl (small o le, tt) (omega arith)) such (omega arith)

abbrev AnyWanted : Wanted → Type 0
AnyWanted w = Unit {0}

abbrev AnyPair : List ℕ × List ℕ → Type 0
AnyPair w = Unit {0}

so_wanted : ReadsSo most FileOk AnyWanted wanted
unfolding wanted
so_wanted =
    so_seq most FileOk AnyPair AnyWanted (pair name part) _ (so_seq most FileOk Texts AnyPair name _ so_name (λ x u. so_seq most FileOk Texts AnyPair part _ so_part (λ y w. so_give most FileOk AnyPair (x, y) tt)))
    (λ p u. so_give most FileOk AnyWanted _ tt)

abbrev AnyLoads : List Wanted → Type 0
AnyLoads loads = Unit {0}

abbrev AnyLur : LurView → Type 0
AnyLur v = Unit {0}

so_body : ReadsSo most FileOk AnyLur lur_body
unfolding lur_body
so_body =
    so_seq most FileOk AnyLoads AnyLur _ _ (so_seq most FileOk (λ (n : ℕ). n ≤ 65535) AnyLoads u16 _ so_u16 (λ count h. so_times most FileOk AnyWanted count wanted so_wanted)) (λ loads u. so_give most FileOk AnyLur (to_lur loads) tt)

abbrev AnyNumber : ℕ → Type 0
AnyNumber n = Unit {0}

abbrev AnyUnit : Unit {0} → Type 0
AnyUnit u = Unit {0}

so_head : ReadsSo most FileOk AnyNumber head
unfolding head
so_head =
    so_seq most FileOk AnyNumber AnyNumber (sized (renamed named (number 4)) (λ (n : ℕ). n) faults.Length) _
    (so_seq most FileOk (λ (n : ℕ). n ≤ most) AnyNumber left _ (so_left most FileOk)
    (λ size h. so_seq most FileOk IsLittle AnyNumber (renamed named (number 4)) _ (so_renamed most FieldOk FileOk IsLittle named (number 4) (so_number 4 wide4 (omega arith)) field_file)
    (λ said g. so_seq most FileOk AnyUnit AnyNumber (check (said == size) (faults.Length said size)) _ (so_check most FileOk (said == size) (faults.Length said size) (two (codes "U2") said size refl (omega arith) g (small size h))) (λ u w. so_give most FileOk AnyNumber said tt))))
    (λ said u. so_seq most FileOk AnyUnit AnyNumber (expected u16 0x4133 faults.Version) _
    (so_seq most FileOk (λ (n : ℕ). n ≤ 65535) AnyUnit u16 _ so_u16 (λ found h. so_check most FileOk (found == 0x4133) (faults.Version found) (one (codes "U3") found refl (omega arith) (omega (arith, h)))))
    (λ x w. so_give most FileOk AnyNumber said tt))

so_tail : ReadsSo most FileOk AnyUnit tail
unfolding tail
so_tail =
    so_seq most FileOk BytesOk AnyUnit prefix _ (so_prefix most FileOk)
    (λ before h. so_seq most FileOk (λ (n : ℕ). n ≤ most) AnyUnit left _ (so_left most FileOk) (λ size g. so_check most FileOk (size == 0) (faults.Rest (length before)) (one (codes "U5") (length before) refl (omega arith) (small (length before) h.1))))

so_lur : ReadsSo most FileOk AnyLur lur
so_lur =
    so_seq most FileOk AnyNumber AnyLur head _ so_head
    (λ said u. so_seq most FileOk AnyLur AnyLur lur_body _ so_body (λ v w. so_seq most FileOk AnyUnit AnyLur tail _ so_tail (λ x y. so_give most FileOk AnyLur v tt)))

-- the fault of a request of at most 65,536 bytes
pub request_fault_short : (bytes : List ℕ) (fault : FileFault) → length bytes ≤ 65536 → IsBytes bytes → answer lur bytes ≡ Err fault → IsTextOf 100 (file_fault_text fault)
request_fault_short bytes fault le fit e = answered_so most FileOk AnyLur lur bytes fault so_lur le fit e
