use Rattle.std.proofs.Common.{List, ℕ, ap, ◌∙◌}
use Rattle.std.proofs.lemmas.Result.{IfOk-weaker}
use Rattle.load_protocol_files.specs.declared.lui.Lui.{Lui}
use Rattle.load_protocol_files.specs.Lui.{lui_fields}
use Rattle.session_rules.specs.Reports.{denying_lui, file_of}
use Rattle.session_files.proofs.WrittenFiles.{is_lui, short_lui}
use Rattle.session_files.proofs.reply.denying_lui.Goals as goal

abbrev told : List ℕ → Lui
told text = record { status = 0x1000; description = text }

pub returns-clause-is : goal.returns-clause-is
unfolding denying_lui
returns-clause-is c =
    IfOk-weaker c.encode.result _ _
    (λ bytes spells. is_lui (told c.in_ok-reason_text.field-0) bytes.items spells ∙ ap (λ text. file_of (lui_fields (told text))) c.in_ok-reason_text.ensures)
    c.encode.ensures

pub returns-clause-short : goal.returns-clause-short
returns-clause-short c = IfOk-weaker c.encode.result _ _ (λ bytes spells. short_lui (told c.in_ok-reason_text.field-0) bytes.items spells) c.encode.ensures
