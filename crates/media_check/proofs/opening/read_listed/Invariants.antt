use Rattle.std.proofs.Common.{◌≡◌, ◌≤◌, take, map}
use Rattle.std.specs.HashMap.{keys, values}
use Rattle.std.specs.Option.{ForSome}
use Rattle.std.specs.Prelude.{All}
use Rattle.media_lists.specs.Files.{file_name}
use Rattle.media_check.specs.Kept.{IsShortFile}
use Rattle.media_check.specs.Openings.{largest_set}
use Rattle.media_check.proofs.KeptFiles.{KeptSoFar}
use Rattle.media_check.proofs.opening.read_listed.Given as goal

abbrev pub invariant-loop-entry : goal.invariant-loop-entry
invariant-loop-entry g l = record {
  files : g.H.Host.files l.host ≡ g.H.Host.files l.fn.host;
  same : g.H.Host.faults l.host ≡ g.H.Host.faults l.fn.host;
  small : l.total ≤ largest_set;
  short : All IsShortFile (values l.kept);
  names : keys l.kept ≡ map file_name (take l.entry-index l.entries);
  so_far : ForSome (g.H.Host.files l.fn.host) (KeptSoFar l.folder (take l.entry-index l.entries) l.total l.kept.entries);
}
