use Rattle.std.proofs.Common.{List, ℕ, ap, ◌∙◌}
use Rattle.std.proofs.lemmas.Result.{IfOk-weaker}
use Rattle.load_protocol_files.specs.declared.lci.Lci.{Lci}
use Rattle.load_protocol_files.specs.Lci.{lci_fields}
use Rattle.session_rules.specs.Reports.{lci_file, file_of}
use Rattle.session_files.proofs.WrittenFiles.{is_lci, short_lci}
use Rattle.session_files.proofs.reply.lci_file.Goals as goal

abbrev told : List ℕ → Lci
told text = record { status = 0x0001; description = text }

pub returns-clause-is : goal.returns-clause-is
unfolding lci_file
returns-clause-is c =
    IfOk-weaker c.encode.result _ _
    (λ bytes spells. is_lci (told c.empty.result) bytes.items spells ∙ ap (λ text. file_of (lci_fields (told text))) c.empty.ensures)
    c.encode.ensures

pub returns-clause-short : goal.returns-clause-short
returns-clause-short c = IfOk-weaker c.encode.result _ _ (λ bytes spells. short_lci (told c.empty.result) bytes.items spells) c.encode.ensures
