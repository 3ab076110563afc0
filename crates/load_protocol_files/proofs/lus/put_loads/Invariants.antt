use Rattle.std.proofs.Common.{◌≡◌, ◌++◌, take}
use Rattle.std.specs.List.{concat, flat_map, All}
use Rattle.load_protocol_files.specs.Lus.{load_status_fields, LoadStatusFits}
use Rattle.load_protocol_files.proofs.lus.put_loads.Given as goal

abbrev pub invariant-loop-load : goal.invariant-loop-load
invariant-loop-load l = record {
  written : l.out ≡ l.fn.out ++ concat (flat_map load_status_fields (take l.load-index l.loads));
  fit : All (λ w. LoadStatusFits w) (take l.load-index l.loads);
}
