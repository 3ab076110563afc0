use Rattle.std.proofs.Common.{◌≡◌, ◌+◌, ◌≤◌, length, drop}
use Rattle.media_build.specs.RecipeSets.{loads_of}
use Rattle.loader_cli.proofs.build.load_count.Given as goal

-- the loads so far and those that are left are all of them
abbrev pub invariant-loop-line : goal.invariant-loop-line
invariant-loop-line l = record {
  sum : l.count + length (loads_of (drop l.line-index l.lines)) ≡ length (loads_of l.lines);
  few : l.count ≤ l.line-index;
}
