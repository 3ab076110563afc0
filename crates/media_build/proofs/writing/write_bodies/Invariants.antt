use Rattle.std.proofs.Common.{◌≡◌, Option, Result, drop}
use Rattle.load_base.specs.Host.{Files}
use Rattle.load_base.specs.declared.sink.WriteFault.{WriteFault}
use Rattle.media_build.specs.HostWrites.{WritesToHost, written_bodies}
use Rattle.media_build.proofs.writing.write_bodies.Given as goal

-- who writes what is left writes all
abbrev pub invariant-loop-body : goal.invariant-loop-body
invariant-loop-body g l = record {
  kept : g.H.Host.faults l.host ≡ g.H.Host.faults l.fn.host;
  rest : (end : Option Files) (result : Result (Unit {0}) WriteFault) → WritesToHost (written_bodies l.folder l.member (drop l.body-index l.bodies)) (g.H.Host.files l.host) end result
      → WritesToHost (written_bodies l.folder l.member l.bodies) (g.H.Host.files l.fn.host) end result;
}
