use Rattle.std.proofs.Common.{◌≡◌, ◌++◌, take, drop}
use Rattle.std.specs.List.{take_while}
use Rattle.media_build.specs.Lines.{is_target}
use Rattle.media_build.proofs.batches.targets_before.Given as goal

-- each line so far is a target
abbrev pub invariant-loop-index : goal.invariant-loop-index
invariant-loop-index l =
    take_while (λ line. is_target line.statement) l.lines
    ≡ take l.index l.lines ++ take_while (λ line. is_target line.statement) (drop l.index l.lines)
