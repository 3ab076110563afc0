use Rattle.std.proofs.Common.{◌≡◌, ◌++◌, take}
use Rattle.std.specs.List.{concat, flat_map, All}
use Rattle.load_protocol_files.specs.Lcl.{installed_fields, InstalledFits}
use Rattle.load_protocol_files.proofs.lcl.put_parts.Given as goal

abbrev pub invariant-loop-part : goal.invariant-loop-part
invariant-loop-part l = record {
  written : l.out ≡ l.fn.out ++ concat (flat_map installed_fields (take l.part-index l.parts));
  fit : All (λ p. InstalledFits p) (take l.part-index l.parts);
}
