-- Configuration initialization files (docs/FORMATS.md).
use Rattle.std.specs.Prelude.{ℕ, List}
use Rattle.field_grammar.specs.Grammar.{Grammar, mapped}
use Rattle.load_protocol_files.specs.declared.fault.FileFault.{FileFault}
use Rattle.load_protocol_files.specs.declared.lci.Lci.{Lci}
use Rattle.load_protocol_files.specs.Reply.{reply, reply_fields, ReplyFits}
use Rattle.load_protocol_files.specs.Files.{file, FileSpells}

abbrev pub to_lci : ℕ × List ℕ → Lci
to_lci p = record { status = p.0; description = p.1 }

unfoldable pub lci_body : Grammar FileFault Lci
lci_body = mapped to_lci reply

-- status and description
abbrev pub lci : Grammar FileFault Lci
lci = file lci_body

abbrev pub lci_fields : Lci → List (List ℕ)
lci_fields v = reply_fields v.status v.description

abbrev pub LciFits : Lci → Type 0
LciFits v = ReplyFits v.status v.description

-- the bytes are the file of this value
abbrev pub LciSpells : Lci → List ℕ → Type 0
LciSpells v bytes = FileSpells lci_fields LciFits v bytes
