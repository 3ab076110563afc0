use Rattle.std.proofs.Common.{◌≡◌, ◌++◌, map, take}
use Rattle.session_rules.specs.Reports.{load_status}
use Rattle.session_files.proofs.status.push_statuses.Given as goal

abbrev pub invariant-loop-load : goal.invariant-loop-load
invariant-loop-load l = l.out.items ≡ l.initial.out.items ++ map (load_status l.ratio l.status) (take l.load-index l.loads)
