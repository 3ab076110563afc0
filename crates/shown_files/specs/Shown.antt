-- What is shown of the bytes of a file, by its kind: its fields, or its first fault (docs/FORMATS.md).
use Rattle.std.specs.Prelude.{◌≡◌, ◌≢◌, List, ℕ}
use Rattle.field_grammar.specs.Grammar.{Fault}
use Rattle.batch_lists.specs.Batch.{batch}
use Rattle.batch_lists.specs.BatchFields.{BatchSpells}
use Rattle.batch_lists.specs.Batches.{batches_list, BatchesSpells}
use Rattle.batch_lists.specs.FaultTexts.{batch_fault_text, batches_fault_text}
use Rattle.batch_lists.specs.declared.fault.BatchFault.TheVariants as batches
use Rattle.batch_lists.specs.declared.fault.BatchesFault.TheVariants as batches_lists
use Rattle.load_header.specs.Header.{header}
use Rattle.load_header.specs.HeaderFields.{HeaderSpells}
use Rattle.load_header.specs.HeaderFaultText.{header_fault_text}
use Rattle.load_header.specs.declared.fault.HeaderFault.TheVariants as headers
use Rattle.load_protocol_files.specs.Lci.{lci, LciSpells}
use Rattle.load_protocol_files.specs.Lcl.{lcl, LclSpells}
use Rattle.load_protocol_files.specs.Lcs.{lcs, LcsSpells}
use Rattle.load_protocol_files.specs.Lui.{lui, LuiSpells}
use Rattle.load_protocol_files.specs.Lur.{lur, LurSpells}
use Rattle.load_protocol_files.specs.Lus.{lus, LusSpells}
use Rattle.load_protocol_files.specs.FaultTexts.{file_fault_text}
use Rattle.load_protocol_files.specs.declared.fault.FileFault.{FileFault}
use Rattle.load_protocol_files.specs.declared.fault.FileFault.TheVariants as files
use Rattle.media_lists.specs.Files.{files_list, FilesSpells}
use Rattle.media_lists.specs.Loads.{loads_list, LoadsSpells}
use Rattle.media_lists.specs.ListFaultText.{list_fault_text}
use Rattle.media_lists.specs.declared.fault.ListFault.TheVariants as lists
use Rattle.shown_files.specs.BatchText.{shown_batch, shown_batches_list}
use Rattle.shown_files.specs.HeaderText.{shown_header}
use Rattle.shown_files.specs.ListText.{shown_files_list, shown_loads_list}
use Rattle.shown_files.specs.ProtocolText.{shown_lci, shown_lcl, shown_lcs, shown_lui, shown_lur, shown_lus}
use Rattle.shown_files.specs.declared.kind.ShownKind.{ShownKind}
use Rattle.shown_files.specs.declared.kind.ShownKind.TheVariants as kinds
use Rattle.shown_files.specs.declared.shown.Shown.{Shown}
use Rattle.shown_files.specs.declared.shown.Shown.TheVariants as texts

-- the text is that of a value which the bytes spell
abbrev pub IsTextOfValue : {V : Type 0} → (V → List ℕ → Type 0) → (V → List ℕ) → (bytes text : List ℕ) → Type 0
IsTextOfValue {V} Spells text_of bytes text = (value : V) × Spells value bytes × (text ≡ text_of value)

-- the text is that of the first fault of the bytes, which is never Memory
abbrev pub IsTextOfFault : {F : Type 0} → F → (List ℕ → F → Type 0) → (F → List ℕ) → (bytes text : List ℕ) → Type 0
IsTextOfFault {F} memory IsFirst text_of bytes text = (fault : F) × IsFirst bytes fault × (fault ≢ memory) × (text ≡ text_of fault)

-- the text has the fields of a file of this kind that the bytes spell
abbrev pub HasFields : ShownKind → (bytes text : List ℕ) → Type 0
HasFields kinds.Header bytes text = IsTextOfValue HeaderSpells (shown_header bytes) bytes text
HasFields kinds.LoadsList bytes text = IsTextOfValue LoadsSpells (shown_loads_list bytes) bytes text
HasFields kinds.FilesList bytes text = IsTextOfValue FilesSpells (shown_files_list bytes) bytes text
HasFields kinds.BatchesList bytes text = IsTextOfValue BatchesSpells (shown_batches_list bytes) bytes text
HasFields kinds.Batch bytes text = IsTextOfValue BatchSpells (shown_batch bytes) bytes text
HasFields kinds.Lci bytes text = IsTextOfValue LciSpells shown_lci bytes text
HasFields kinds.Lcl bytes text = IsTextOfValue LclSpells shown_lcl bytes text
HasFields kinds.Lcs bytes text = IsTextOfValue LcsSpells shown_lcs bytes text
HasFields kinds.Lui bytes text = IsTextOfValue LuiSpells shown_lui bytes text
HasFields kinds.Lur bytes text = IsTextOfValue LurSpells shown_lur bytes text
HasFields kinds.Lus bytes text = IsTextOfValue LusSpells shown_lus bytes text

-- the text is the fault of a protocol file
abbrev pub IsFileFault : (List ℕ → FileFault → Type 0) → (bytes text : List ℕ) → Type 0
IsFileFault IsFirst bytes text = IsTextOfFault files.Memory IsFirst file_fault_text bytes text

-- the text is the first fault of the bytes as a file of this kind
abbrev pub HasFault : ShownKind → (bytes text : List ℕ) → Type 0
HasFault kinds.Header bytes text = IsTextOfFault headers.Memory (Fault header) header_fault_text bytes text
HasFault kinds.LoadsList bytes text = IsTextOfFault lists.Memory (Fault loads_list) list_fault_text bytes text
HasFault kinds.FilesList bytes text = IsTextOfFault lists.Memory (Fault files_list) list_fault_text bytes text
HasFault kinds.BatchesList bytes text = IsTextOfFault batches_lists.Memory (Fault batches_list) batches_fault_text bytes text
HasFault kinds.Batch bytes text = IsTextOfFault batches.Memory (Fault batch) batch_fault_text bytes text
HasFault kinds.Lci bytes text = IsFileFault (Fault lci) bytes text
HasFault kinds.Lcl bytes text = IsFileFault (Fault lcl) bytes text
HasFault kinds.Lcs bytes text = IsFileFault (Fault lcs) bytes text
HasFault kinds.Lui bytes text = IsFileFault (Fault lui) bytes text
HasFault kinds.Lur bytes text = IsFileFault (Fault lur) bytes text
HasFault kinds.Lus bytes text = IsFileFault (Fault lus) bytes text

-- this is shown of bytes of this kind
abbrev pub IsShown : ShownKind → (bytes : List ℕ) → Shown → Type 0
IsShown kind bytes (texts.Fields text) = HasFields kind bytes text.items
IsShown kind bytes (texts.Fault text) = HasFault kind bytes text
