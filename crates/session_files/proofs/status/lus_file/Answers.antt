use Rattle.std.proofs.lemmas.Result.{IfOk-weaker}
use Rattle.session_rules.specs.Reports.{lus_view_of}
use Rattle.session_files.proofs.WrittenFiles.{is_lus, short_lus}
use Rattle.session_files.proofs.status.lus_file.Goals as goal

pub returns-clause-is : goal.returns-clause-is
returns-clause-is c =
    IfOk-weaker c.encode.result _ _
    (λ bytes spells. is_lus (lus_view_of c.args.status c.args.description c.args.counter c.args.ratio c.args.loads.items) bytes.items spells)
    c.encode.ensures

pub returns-clause-short : goal.returns-clause-short
returns-clause-short c =
    IfOk-weaker c.encode.result _ _
    (λ bytes spells. short_lus (lus_view_of c.args.status c.args.description c.args.counter c.args.ratio c.args.loads.items) bytes.items spells c.requires.few)
    c.encode.ensures
