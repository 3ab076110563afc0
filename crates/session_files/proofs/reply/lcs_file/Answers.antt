use Rattle.std.proofs.Common.{List, ℕ, ap, ◌∙◌}
use Rattle.std.proofs.lemmas.Result.{IfOk-weaker}
use Rattle.load_protocol_files.specs.declared.lcs.Lcs.{Lcs}
use Rattle.load_protocol_files.specs.Lcs.{lcs_fields}
use Rattle.session_rules.specs.Reports.{lcs_file, file_of}
use Rattle.session_files.proofs.WrittenFiles.{is_lcs, short_lcs}
use Rattle.session_files.proofs.reply.lcs_file.Goals as goal

abbrev told : List ℕ → Lcs
told text = record { counter = 1; status = 0x0002; exception = 0; estimated = 0; description = text }

pub returns-clause-is : goal.returns-clause-is
unfolding lcs_file
returns-clause-is c =
    IfOk-weaker c.encode.result _ _
    (λ bytes spells. is_lcs (told c.empty.result) bytes.items spells ∙ ap (λ text. file_of (lcs_fields (told text))) c.empty.ensures)
    c.encode.ensures

pub returns-clause-short : goal.returns-clause-short
returns-clause-short c = IfOk-weaker c.encode.result _ _ (λ bytes spells. short_lcs (told c.empty.result) bytes.items spells) c.encode.ensures
