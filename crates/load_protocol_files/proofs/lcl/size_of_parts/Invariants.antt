use Rattle.std.proofs.Common.{◌≡◌, ◌-◌, ◌^◌, take, length}
use Rattle.std.specs.Prelude.{min}
use Rattle.std.specs.List.{concat, flat_map}
use Rattle.load_protocol_files.specs.Lcl.{installed_fields}
use Rattle.load_protocol_files.proofs.lcl.size_of_parts.Given as goal

abbrev pub invariant-loop-part : goal.invariant-loop-part
invariant-loop-part l = l.size ≡ min (length (concat (flat_map installed_fields (take l.part-index l.parts)))) (2 ^ 64 - 1)
