use Rattle.std.proofs.Common.{sym, ◌∙◌, arith}
use Rattle.std.proofs.lemmas.Result.{on_ok_weaker}
use Rattle.bank_store.proofs.KnownRead.{is_marked, is_unmarked, marked_says_all, short_says_nothing, unmarked_says_nothing}
use Rattle.bank_store.proofs.known.read_entries.Goals as goal

pub returns-then-length-clause-said : goal.returns-then-length-clause-said
returns-then-length-clause-said g c image told loads spelled =
    c.requires.empty ∙ sym (short_says_nothing image c.args.at c.args.length loads spelled c.if-length.true)

pub returns-then-not-is_layout_2-clause-said : goal.returns-then-not-is_layout_2-clause-said
returns-then-not-is_layout_2-clause-said g c image told loads spelled =
    c.requires.empty
    ∙ sym (unmarked_says_nothing image c.args.at c.args.length loads spelled (omega (arith, c.if-length.false))
    (is_unmarked image c.args.at _ c.is_layout_2.result c.is_layout_2.ensures c.if-not-is_layout_2.true (c.in_ok-read.ensures.bytes image told)))

pub returns-clause-said : goal.returns-clause-said
returns-clause-said g c =
    on_ok_weaker c.read_all.result (λ all image told loads spelled.
    all image (c.in_ok-read.ensures.kept ∙ told)
    ∙ marked_says_all image c.args.at c.args.length loads spelled (omega (arith, c.if-length.false))
    (is_marked image c.args.at _ c.is_layout_2.result c.is_layout_2.ensures c.if-not-is_layout_2.false (c.in_ok-read.ensures.bytes image told))) c.read_all.ensures.bytes
