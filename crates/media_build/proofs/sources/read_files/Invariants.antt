use Rattle.std.proofs.Common.{◌≡◌, take}
use Rattle.std.specs.Option.{ForSome}
use Rattle.media_build.specs.Building.{ReadsFiles}
use Rattle.media_build.specs.Parts.{statements}
use Rattle.media_build.proofs.ReadLines.{SourcesSoFar}
use Rattle.media_build.proofs.sources.read_files.Given as goal

abbrev pub invariant-loop-line : goal.invariant-loop-line
invariant-loop-line g l = record {
  files : g.H.Host.files l.host ≡ g.H.Host.files l.fn.host;
  same : g.H.Host.faults l.host ≡ g.H.Host.faults l.fn.host;
  reads : ReadsFiles (statements (take l.line-index l.own)) l.fn.others l.files l.total;
  so_far : ForSome (g.H.Host.files l.fn.host) (SourcesSoFar (statements (take l.line-index l.own)) l.fn.others l.files l.total);
}
