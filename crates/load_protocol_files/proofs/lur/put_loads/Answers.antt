use Rattle.std.proofs.Common.{subst}
use Rattle.std.proofs.lemmas.List.Elements.{All-more}
use Rattle.load_protocol_files.specs.declared.lur.Wanted.{Wanted}
use Rattle.load_protocol_files.specs.Lur.{wanted_fields, WantedFits}
use Rattle.field_grammar.proofs.WrittenLemmas.{written_more}
use Rattle.load_protocol_files.proofs.lur.put_loads.Goals as goal

pub loop-load-preserved : goal.loop-load-preserved
loop-load-preserved c = record {
  written = written_more wanted_fields c.args.out.now c.loop-load.out c.put_wanted.new.out c.args.loads.now c.loop-load.load-index c.load-item.result c.loop-load-test.true c.load-item.is c.loop-load.invariant.written c.in_ok-put_wanted.ensures.ok;
  fit = All-more (λ w. WantedFits w) c.args.loads.now c.loop-load.load-index c.load-item.result c.loop-load-test.true c.loop-load.invariant.fit (subst (λ (w : Wanted). WantedFits w) c.load-item.is c.in_ok-put_wanted.ensures.fits);
}
