use Rattle.std.proofs.Common.{◌≡◌}
use Rattle.media_build.specs.Generator.{generated, state_at}
use Rattle.media_build.proofs.generated.generated_bytes.Given as goal

abbrev pub invariant-loop-index : goal.invariant-loop-index
invariant-loop-index l = record { state : l.state ≡ state_at l.number l._index; bytes : l.bytes.items ≡ generated l.number l._index }
