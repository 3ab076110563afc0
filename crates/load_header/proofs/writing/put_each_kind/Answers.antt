use Rattle.load_header.specs.Encoding.{kind_fields}
use Rattle.field_grammar.proofs.WrittenLemmas.{written_more}
use Rattle.load_header.proofs.Limits.{few_at}
use Rattle.load_header.proofs.writing.put_each_kind.Goals as goal

pub loop-at-preserved : goal.loop-at-preserved
loop-at-preserved c =
    written_more kind_fields c.args.out.now c.loop-at.out c.put_kind.new.out c.args.list.now c.loop-at.at-index c.at-item.result c.loop-at-test.true c.at-item.is c.loop-at.invariant c.in_ok-put_kind.ensures

pub put_kind-requires : goal.put_kind-requires
put_kind-requires c = rw c.at-item.is (few_at c.args.list.now c.loop-at.at-index c.at-item.result c.loop-at-test.true c.requires)
