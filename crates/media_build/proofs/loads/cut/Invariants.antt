use Rattle.std.proofs.Common.{◌≡◌, ◌++◌, not, take, drop}
use Rattle.std.specs.List.{take_while}
use Rattle.media_build.specs.Lines.{ends_load}
use Rattle.media_build.specs.RecipeSets.{loads_of}
use Rattle.media_build.proofs.loads.cut.Given as goal

-- at no line so far a load ends
abbrev pub invariant-loop-index : goal.invariant-loop-index
invariant-loop-index l = record {
  own : take_while (λ line. not (ends_load line.statement)) l.lines
      ≡ take l.index l.lines ++ take_while (λ line. not (ends_load line.statement)) (drop l.index l.lines);
  rest : loads_of (drop l.index l.lines) ≡ loads_of l.lines;
}
