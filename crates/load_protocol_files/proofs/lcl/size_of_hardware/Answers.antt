use Rattle.std.proofs.Common.{List, length, ap, arith}
use Rattle.std.specs.List.{concat, flat_map}
use Rattle.load_protocol_files.specs.declared.lcl.Part.{Part}
use Rattle.load_protocol_files.specs.Lcl.{hardware_view, installed_fields}
use Rattle.load_protocol_files.specs.Laws.Lcl.{hardware_size}
use Rattle.load_protocol_files.proofs.lcl.size_of_hardware.Goals as goal

pub returns : goal.returns
returns c =
    let parts = ap (λ (l : List Part). length (concat (flat_map installed_fields l))) c.as_slice-3.ensures in
    let name = ap length c.as_slice.ensures.bytes in
    let serial = ap length c.as_slice-2.ensures.bytes in
    rw (hardware_size (hardware_view c.args.hardware.now)) (omega (arith, c.saturating_add.ensures, c.size_of_parts.ensures, parts, name, serial))
