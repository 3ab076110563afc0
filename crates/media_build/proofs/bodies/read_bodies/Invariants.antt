use Rattle.std.proofs.Common.{◌≡◌, length}
use Rattle.std.specs.Prelude.{map}
use Rattle.media_build.specs.NoFindings.{body_view}
use Rattle.media_build.proofs.AddedBodies.{BodiesSoFar}
use Rattle.media_build.proofs.bodies.read_bodies.Given as goal

abbrev pub invariant-loop-load : goal.invariant-loop-load
invariant-loop-load g l = record {
  files : g.H.Host.files l.host ≡ g.H.Host.files l.fn.host;
  same : g.H.Host.faults l.host ≡ g.H.Host.faults l.fn.host;
  so_far : BodiesSoFar (g.H.Host.files l.fn.host) l.lines l.loads l.others l.total (map body_view l.bodies.items);
}

abbrev pub decreases-loop-load : goal.decreases-loop-load
decreases-loop-load g l = length l.loads
