-- What an LCI and an LUI say: a status and a description (docs/FORMATS.md).
use Rattle.std.specs.Prelude.{ℕ, ◌<◌, ◌^◌, List, ◌++◌}
use Rattle.field_grammar.specs.Grammar.{Grammar, pair}
use Rattle.field_grammar.specs.Fields.{short_fields}
use Rattle.load_base.specs.Text.{IsText}
use Rattle.load_protocol_files.specs.declared.fault.FileFault.{FileFault}
use Rattle.load_protocol_files.specs.Pieces.{u16, text, u16_fields}

unfoldable pub reply : Grammar FileFault (ℕ × List ℕ)
reply = pair u16 text

abbrev pub reply_fields : ℕ → List ℕ → List (List ℕ)
reply_fields status description = u16_fields status ++ short_fields description

pub record ReplyFits (status : ℕ) (description : List ℕ) : Type 0 where
  pub small : status < 2 ^ 16
  pub is_text : IsText description
