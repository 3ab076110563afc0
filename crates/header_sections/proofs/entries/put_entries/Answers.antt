use Rattle.std.proofs.Common.{◌++◌, length, ◌∙◌}
use Rattle.field_grammar.specs.Fields.{number_bytes}
use Rattle.field_grammar.proofs.WrittenLemmas.{entries_more}
use Rattle.header_sections.specs.SectionFields.{entry_fields}
use Rattle.header_sections.proofs.SizeLemmas.{short_at}
use Rattle.header_sections.proofs.WrittenLemmas.{begins, all_written}
use Rattle.header_sections.proofs.entries.put_entries.Goals as goal

pub loop-index-init : goal.loop-index-init
loop-index-init g c = c.in_ok-put_u16.ensures.ok ∙ begins g.E.Entry.body_fields c.args.entries.now (c.args.out.now ++ number_bytes 2 (length c.args.entries.now))

pub loop-index-preserved : goal.loop-index-preserved
loop-index-preserved g c =
    entries_more (entry_fields g.E.Entry.body_fields) (c.args.out.now ++ number_bytes 2 (length c.args.entries.now)) c.loop-index.out c.put_entry.new.out c.args.entries.now c.loop-index.index c.index-entries-index.result
    c.loop-index-test.true c.index-entries-index.is c.loop-index.invariant c.in_ok-put_entry.ensures

pub returns : goal.returns
returns g c = all_written g.E.Entry.body_fields c.args.entries.now c.loop-index.index c.args.out.now c.loop-index.out c.loop-index-test.false c.loop-index.invariant

pub put_entry-requires-clause-short : goal.put_entry-requires-clause-short
put_entry-requires-clause-short g c = λ other.
    short_at g.E.Entry.body_fields c.args.entries.now c.loop-index.index c.index-entries-index.result c.requires.distances c.loop-index-test.true c.index-entries-index.is other
