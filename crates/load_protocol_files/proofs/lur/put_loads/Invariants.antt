use Rattle.std.proofs.Common.{◌≡◌, ◌++◌, take}
use Rattle.std.specs.List.{concat, flat_map, All}
use Rattle.load_protocol_files.specs.Lur.{wanted_fields, WantedFits}
use Rattle.load_protocol_files.proofs.lur.put_loads.Given as goal

abbrev pub invariant-loop-load : goal.invariant-loop-load
invariant-loop-load l = record {
  written : l.out ≡ l.fn.out ++ concat (flat_map wanted_fields (take l.load-index l.loads));
  fit : All (λ w. WantedFits w) (take l.load-index l.loads);
}
