use Rattle.std.proofs.Common.{◌≤◌, sym, subst}
use Rattle.std.proofs.lemmas.List.Elements.{All-more, All-get_or}
use Rattle.load_protocol_files.specs.declared.lus.LoadStatus.{LoadStatus}
use Rattle.load_protocol_files.specs.Lus.{load_status_fields, LoadStatusFits}
use Rattle.field_grammar.proofs.WrittenLemmas.{written_more}
use Rattle.load_protocol_files.proofs.lus.put_loads.Goals as goal

pub loop-load-preserved : goal.loop-load-preserved
loop-load-preserved c = record {
  written = written_more load_status_fields c.args.out.now c.loop-load.out c.put_load_status.new.out c.args.loads.now c.loop-load.load-index c.load-item.result c.loop-load-test.true c.load-item.is c.loop-load.invariant.written c.in_ok-put_load_status.ensures.ok;
  fit = All-more (λ w. LoadStatusFits w) c.args.loads.now c.loop-load.load-index c.load-item.result c.loop-load-test.true c.loop-load.invariant.fit (subst (λ (w : LoadStatus). LoadStatusFits w) c.load-item.is c.in_ok-put_load_status.ensures.fits);
}

pub put_load_status-requires : goal.put_load_status-requires
put_load_status-requires c =
    subst (λ (l : LoadStatus). l.ratio ≤ 100) (sym c.load-item.is) (All-get_or (λ (l : LoadStatus). l.ratio ≤ 100) c.args.loads.now c.loop-load.load-index c.load-item.result c.loop-load-test.true c.requires)
