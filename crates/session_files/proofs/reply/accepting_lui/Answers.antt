use Rattle.std.proofs.Common.{List, ℕ, ap, ◌∙◌}
use Rattle.std.proofs.lemmas.Result.{IfOk-weaker}
use Rattle.load_protocol_files.specs.declared.lui.Lui.{Lui}
use Rattle.load_protocol_files.specs.Lui.{lui_fields}
use Rattle.session_rules.specs.Reports.{accepting_lui, file_of}
use Rattle.session_files.proofs.WrittenFiles.{is_lui, short_lui}
use Rattle.session_files.proofs.reply.accepting_lui.Goals as goal

abbrev told : List ℕ → Lui
told text = record { status = 0x0001; description = text }

pub returns-clause-is : goal.returns-clause-is
unfolding accepting_lui
returns-clause-is c =
    IfOk-weaker c.encode.result _ _
    (λ bytes spells. is_lui (told c.empty.result) bytes.items spells ∙ ap (λ text. file_of (lui_fields (told text))) c.empty.ensures)
    c.encode.ensures

pub returns-clause-short : goal.returns-clause-short
returns-clause-short c = IfOk-weaker c.encode.result _ _ (λ bytes spells. short_lui (told c.empty.result) bytes.items spells) c.encode.ensures
