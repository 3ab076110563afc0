use Rattle.std.proofs.Common.{◌≤◌, length, sym, subst}
use Rattle.std.proofs.lemmas.List.Elements.{All-more, All-get_or}
use Rattle.load_protocol_files.specs.declared.lcl.Hardware.{Hardware}
use Rattle.load_protocol_files.specs.Lcl.{hardware_fields, hardware_view, HardwareFits}
use Rattle.field_grammar.proofs.WrittenLemmas.{written_more_seen}
use Rattle.load_protocol_files.proofs.lcl.put_hardware_list.Goals as goal

pub put_hardware-requires : goal.put_hardware-requires
put_hardware-requires c =
    subst (λ (h : Hardware). length h.parts.items ≤ 65535) (sym c.hardware-item.is) (All-get_or (λ (h : Hardware). length h.parts.items ≤ 65535) c.args.list.now c.loop-hardware.hardware-index c.hardware-item.result c.loop-hardware-test.true c.requires)

pub loop-hardware-preserved : goal.loop-hardware-preserved
loop-hardware-preserved c = record {
  written = written_more_seen hardware_fields hardware_view c.args.out.now c.loop-hardware.out c.put_hardware.new.out c.args.list.now c.loop-hardware.hardware-index c.hardware-item.result c.loop-hardware-test.true c.hardware-item.is c.loop-hardware.invariant.written c.in_ok-put_hardware.ensures.ok;
  fit = All-more (λ h. HardwareFits (hardware_view h)) c.args.list.now c.loop-hardware.hardware-index c.hardware-item.result c.loop-hardware-test.true c.loop-hardware.invariant.fit (subst (λ (h : Hardware). HardwareFits (hardware_view h)) c.hardware-item.is c.in_ok-put_hardware.ensures.fits);
}
