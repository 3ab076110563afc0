use Rattle.std.proofs.Common.{subst}
use Rattle.std.proofs.lemmas.List.Elements.{All-more}
use Rattle.load_protocol_files.specs.declared.lcl.Part.{Part}
use Rattle.load_protocol_files.specs.Lcl.{installed_fields, InstalledFits}
use Rattle.field_grammar.proofs.WrittenLemmas.{written_more}
use Rattle.load_protocol_files.proofs.lcl.put_parts.Goals as goal

pub loop-part-preserved : goal.loop-part-preserved
loop-part-preserved c = record {
  written = written_more installed_fields c.args.out.now c.loop-part.out c.put_installed.new.out c.args.parts.now c.loop-part.part-index c.part-item.result c.loop-part-test.true c.part-item.is c.loop-part.invariant.written c.in_ok-put_installed.ensures.ok;
  fit = All-more (λ w. InstalledFits w) c.args.parts.now c.loop-part.part-index c.part-item.result c.loop-part-test.true c.loop-part.invariant.fit (subst (λ (w : Part). InstalledFits w) c.part-item.is c.in_ok-put_installed.ensures.fits);
}
