use Rattle.field_grammar.specs.Answers.{answer}
use Rattle.disk_layout.specs.Manifest.{manifest}
use Rattle.recovery.proofs.Outlined.{LeftSoFar}
use Rattle.recovery.proofs.manifests.left_after_loads.Given as goal

abbrev pub invariant-loop : goal.invariant-loop
invariant-loop l = LeftSoFar (answer manifest l.bytes) l.count l.counter l.space l.loads l.left
