use Rattle.std.proofs.Common.{◌≡◌, length, Ok}
use Rattle.std.specs.List.{range_with_len}
use Rattle.std.specs.Option.{ForSome}
use Rattle.media_check.proofs.HostReads.{ReadsMembers}
use Rattle.media_check.proofs.opening.read_further.Given as goal

abbrev pub invariant-loop-index : goal.invariant-loop-index
invariant-loop-index g l = record {
  kept : g.H.Host.files l.host ≡ g.H.Host.files l.fn.host;
  same : g.H.Host.faults l.host ≡ g.H.Host.faults l.fn.host;
  few : length l.further.items ≡ l.index;
  read : ForSome (g.H.Host.files l.fn.host) (ReadsMembers l.folder (range_with_len 2 l.index) (Ok l.further));
}
