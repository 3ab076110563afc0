use Rattle.std.proofs.Common.{◌≡◌, length}
use Rattle.target_fleet.specs.Runs.{CountsPostsAt}
use Rattle.target_fleet.proofs.posting.posted_counts.Given as goal

abbrev pub invariant-units : goal.invariant-units
invariant-units l = record {
  many : length l.counts ≡ 8;
  counted : CountsPostsAt l.index l.fn.link l.counts;
}
