use Rattle.std.proofs.Common.{◌≡◌, ◌+◌, ◌-◌, Option, Result}
use Rattle.std.specs.List.{flat_map, range_with_len}
use Rattle.load_base.specs.Host.{Files}
use Rattle.load_base.specs.declared.sink.WriteFault.{WriteFault}
use Rattle.media_build.specs.HostWrites.{WritesToHost, written_member, written_files}
use Rattle.media_build.proofs.writing.write.Given as goal

-- who writes what is left writes all
abbrev pub invariant-loop-index : goal.invariant-loop-index
invariant-loop-index g l = record {
  kept : g.H.Host.faults l.host ≡ g.H.Host.faults l.fn.host;
  rest : (end : Option Files) (result : Result (Unit {0}) WriteFault)
      → WritesToHost (flat_map (written_member l.folder l.built) (range_with_len (1 + l.index) (l.count - l.index))) (g.H.Host.files l.host) end result
      → WritesToHost (written_files l.folder l.built) (g.H.Host.files l.fn.host) end result;
}
