-- One text is shown of a file, by its name and its bytes.
use Rattle.std.proofs.Common.{◌≡◌, ℕ, ◌+◌, ◌-◌, ◌≤◌, List, length, refl, sym, ap, ◌∙◌, arith}
use Rattle.std.specs.Prelude.{codes, drop, if◌then◌else◌}
use Rattle.std.proofs.lemmas.List.{drop-drop}
use Rattle.batch_lists.specs.Batch.{batch}
use Rattle.batch_lists.specs.BatchFields.{BatchSpells}
use Rattle.batch_lists.specs.Batches.{BatchesSpells, batches_list}
use Rattle.batch_lists.specs.FaultTexts.{batch_fault_text, batches_fault_text}
use Rattle.batch_lists.specs.declared.fault.BatchFault.TheVariants as batches
use Rattle.batch_lists.specs.declared.fault.BatchesFault.TheVariants as batches_lists
use Rattle.load_base.specs.Bytes.{same_bytes}
use Rattle.field_grammar.proofs.ExactLemmas.{not_both, one_fault, one_value, spelled_at_start}
use Rattle.field_grammar.specs.Grammar.{Fault, Grammar}
use Rattle.load_header.specs.Header.{header}
use Rattle.load_header.specs.HeaderFaultText.{header_fault_text}
use Rattle.load_header.specs.HeaderFields.{HeaderSpells}
use Rattle.load_header.specs.declared.fault.HeaderFault.TheVariants as headers
use Rattle.load_protocol_files.specs.FaultTexts.{file_fault_text}
use Rattle.load_protocol_files.specs.Lci.{LciSpells, lci}
use Rattle.load_protocol_files.specs.Lcl.{LclSpells, lcl}
use Rattle.load_protocol_files.specs.Lcs.{LcsSpells, lcs}
use Rattle.load_protocol_files.specs.Lui.{LuiSpells, lui}
use Rattle.load_protocol_files.specs.Lur.{LurSpells, lur}
use Rattle.load_protocol_files.specs.Lus.{LusSpells, lus}
use Rattle.load_protocol_files.specs.declared.fault.FileFault.TheVariants as files
use Rattle.media_lists.specs.Files.{FilesSpells, files_list}
use Rattle.media_lists.specs.ListFaultText.{list_fault_text}
use Rattle.media_lists.specs.Loads.{LoadsSpells, loads_list}
use Rattle.media_lists.specs.declared.fault.ListFault.TheVariants as lists
use Rattle.shown_files.specs.BatchText.{shown_batch, shown_batches_list}
use Rattle.shown_files.specs.HeaderText.{shown_header}
use Rattle.shown_files.specs.Kinds.{IsNameOf}
use Rattle.shown_files.specs.ListText.{shown_files_list, shown_loads_list}
use Rattle.shown_files.specs.ProtocolText.{shown_lci, shown_lcl, shown_lcs, shown_lui, shown_lur, shown_lus}
use Rattle.shown_files.specs.Shown.{HasFault, HasFields, IsTextOfFault, IsTextOfValue}
use Rattle.shown_files.specs.declared.kind.ShownKind.{ShownKind}
use Rattle.shown_files.specs.declared.kind.ShownKind.TheVariants as kinds
use Rattle.loader_cli.specs.CommandLaws.{ShownLaws, TellsSpelled}

-- ---- by the bytes

-- one text has the fields, or one has the fault
pub record IsOnce (Fields Faulty : List ℕ → Type 0) : Type 0 where
  pub fields : (s t : List ℕ) → Fields s → Fields t → s ≡ t
  pub faults : (s t : List ℕ) → Faulty s → Faulty t → s ≡ t
  pub apart : (s t : List ℕ) → Fields s → Faulty t → ⊥

once : {F V : Type 0} (g : Grammar F V) (Spells : V → List ℕ → Type 0) (text_of : V → List ℕ) (memory : F) (fault_text : F → List ℕ) → TellsSpelled g Spells → (bytes : List ℕ)
    → IsOnce (IsTextOfValue Spells text_of bytes) (IsTextOfFault memory (Fault g) fault_text bytes)
once g Spells text_of memory fault_text tells bytes = record {
  fields = λ s t one two.
      one.2
      ∙ (ap text_of (one_value g bytes one.0 two.0 (spelled_at_start g bytes one.0 (tells one.0 bytes one.1)) (spelled_at_start g bytes two.0 (tells two.0 bytes two.1)))
      ∙ sym two.2);
  faults = λ s t one two. one.3 ∙ (ap fault_text (one_fault g bytes one.0 two.0 one.1 two.1) ∙ sym two.3);
  apart = λ s t one two. not_both g bytes one.0 two.0 (spelled_at_start g bytes one.0 (tells one.0 bytes one.1)) two.1;
}

pub shown_once : ShownLaws → (kind : ShownKind) (bytes : List ℕ) → IsOnce (HasFields kind bytes) (HasFault kind bytes)
shown_once laws kinds.Header bytes = once header HeaderSpells (shown_header bytes) headers.Memory header_fault_text laws.of_header bytes
shown_once laws kinds.LoadsList bytes = once loads_list LoadsSpells (shown_loads_list bytes) lists.Memory list_fault_text laws.of_loads bytes
shown_once laws kinds.FilesList bytes = once files_list FilesSpells (shown_files_list bytes) lists.Memory list_fault_text laws.of_files bytes
shown_once laws kinds.BatchesList bytes = once batches_list BatchesSpells (shown_batches_list bytes) batches_lists.Memory batches_fault_text laws.of_batches bytes
shown_once laws kinds.Batch bytes = once batch BatchSpells (shown_batch bytes) batches.Memory batch_fault_text laws.of_batch bytes
shown_once laws kinds.Lci bytes = once lci LciSpells shown_lci files.Memory file_fault_text laws.of_lci bytes
shown_once laws kinds.Lcl bytes = once lcl LclSpells shown_lcl files.Memory file_fault_text laws.of_lcl bytes
shown_once laws kinds.Lcs bytes = once lcs LcsSpells shown_lcs files.Memory file_fault_text laws.of_lcs bytes
shown_once laws kinds.Lui bytes = once lui LuiSpells shown_lui files.Memory file_fault_text laws.of_lui bytes
shown_once laws kinds.Lur bytes = once lur LurSpells shown_lur files.Memory file_fault_text laws.of_lur bytes
shown_once laws kinds.Lus bytes = once lus LusSpells shown_lus files.Memory file_fault_text laws.of_lus bytes

-- ---- by the name

abbrev last_bytes : (n : ℕ) → List ℕ → List ℕ
last_bytes n word = drop (length word - n) word

-- the kind of a list whose name has these last nine bytes
abbrev list_by : (nine : List ℕ) → ShownKind
list_by nine =
    if same_bytes nine (codes "LOADS.LUM") then kinds.LoadsList
    else if same_bytes nine (codes "FILES.LUM") then kinds.FilesList
    else kinds.BatchesList

-- the kind of a name with these last four and last nine bytes
abbrev kind_by : (four nine : List ℕ) → ShownKind
kind_by four nine =
    if same_bytes four (codes ".LUH") then kinds.Header
    else if same_bytes four (codes ".LUM") then list_by nine
    else if same_bytes four (codes ".LUB") then kinds.Batch
    else if same_bytes four (codes ".LCI") then kinds.Lci
    else if same_bytes four (codes ".LCL") then kinds.Lcl
    else if same_bytes four (codes ".LCS") then kinds.Lcs
    else if same_bytes four (codes ".LUI") then kinds.Lui
    else if same_bytes four (codes ".LUR") then kinds.Lur
    else kinds.Lus

-- the end of an end
nearer : (word end : List ℕ) (n less : ℕ) → less ≤ n → n ≤ length word → last_bytes n word ≡ end → last_bytes less word ≡ drop (n - less) end
nearer word end n less within long is =
    let same : (length word - n) + (n - less) ≡ length word - less = omega (arith, within, long) in
    ap (λ (k : ℕ). drop k word) (sym same) ∙ (sym (drop-drop (n - less) (length word - n) word) ∙ ap (drop (n - less)) is)

by_four : (word end : List ℕ) (kind : ShownKind) → ((nine : List ℕ) → kind ≡ kind_by end nine) → last_bytes 4 word ≡ end → kind ≡ kind_by (last_bytes 4 word) (last_bytes 9 word)
by_four word end kind computes is = computes (last_bytes 9 word) ∙ ap (λ (four : List ℕ). kind_by four (last_bytes 9 word)) (sym is)

by_both : (word end : List ℕ) (kind : ShownKind) → kind ≡ kind_by (drop 5 end) end → 9 ≤ length word → last_bytes 9 word ≡ end → kind ≡ kind_by (last_bytes 4 word) (last_bytes 9 word)
by_both word end kind computes long is =
    computes ∙ (ap (λ (four : List ℕ). kind_by four end) (sym (nearer word end 9 4 (omega arith) long is)) ∙ ap (λ (nine : List ℕ). kind_by (last_bytes 4 word) nine) (sym is))

kind_is : (kind : ShownKind) (word : List ℕ) → IsNameOf kind word → kind ≡ kind_by (last_bytes 4 word) (last_bytes 9 word)
kind_is kinds.Header word is = by_four word (codes ".LUH") kinds.Header (λ nine. refl) is.1
kind_is kinds.LoadsList word is = by_both word (codes "LOADS.LUM") kinds.LoadsList refl is.0 is.1
kind_is kinds.FilesList word is = by_both word (codes "FILES.LUM") kinds.FilesList refl is.0 is.1
kind_is kinds.BatchesList word is =
    by_both word (codes "TCHES.LUM") kinds.BatchesList refl (omega (arith, is.0)) (nearer word (codes "BATCHES.LUM") 11 9 (omega arith) is.0 is.1)
kind_is kinds.Batch word is = by_four word (codes ".LUB") kinds.Batch (λ nine. refl) is.1
kind_is kinds.Lci word is = by_four word (codes ".LCI") kinds.Lci (λ nine. refl) is.1
kind_is kinds.Lcl word is = by_four word (codes ".LCL") kinds.Lcl (λ nine. refl) is.1
kind_is kinds.Lcs word is = by_four word (codes ".LCS") kinds.Lcs (λ nine. refl) is.1
kind_is kinds.Lui word is = by_four word (codes ".LUI") kinds.Lui (λ nine. refl) is.1
kind_is kinds.Lur word is = by_four word (codes ".LUR") kinds.Lur (λ nine. refl) is.1
kind_is kinds.Lus word is = by_four word (codes ".LUS") kinds.Lus (λ nine. refl) is.1

-- a name has one kind
pub one_kind : (one other : ShownKind) (word : List ℕ) → IsNameOf one word → IsNameOf other word → other ≡ one
one_kind one other word first second = kind_is other word second ∙ sym (kind_is one word first)
