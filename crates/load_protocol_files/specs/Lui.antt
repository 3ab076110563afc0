-- Upload initialization files (docs/FORMATS.md).
use Rattle.std.specs.Prelude.{ℕ, List}
use Rattle.field_grammar.specs.Grammar.{Grammar, mapped}
use Rattle.load_protocol_files.specs.declared.fault.FileFault.{FileFault}
use Rattle.load_protocol_files.specs.declared.lui.Lui.{Lui}
use Rattle.load_protocol_files.specs.Reply.{reply, reply_fields, ReplyFits}
use Rattle.load_protocol_files.specs.Files.{file, FileSpells}

abbrev pub to_lui : ℕ × List ℕ → Lui
to_lui p = record { status = p.0; description = p.1 }

unfoldable pub lui_body : Grammar FileFault Lui
lui_body = mapped to_lui reply

-- status and description
abbrev pub lui : Grammar FileFault Lui
lui = file lui_body

abbrev pub lui_fields : Lui → List (List ℕ)
lui_fields v = reply_fields v.status v.description

abbrev pub LuiFits : Lui → Type 0
LuiFits v = ReplyFits v.status v.description

-- the bytes are the file of this value
abbrev pub LuiSpells : Lui → List ℕ → Type 0
LuiSpells v bytes = FileSpells lui_fields LuiFits v bytes
