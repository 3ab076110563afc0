use Rattle.std.proofs.Common.{◌≡◌, ◌∷◌, take}
use Rattle.load_intake.proofs.open_load.OpenLoad.listed.Given as goal

abbrev pub invariant-loop-file : goal.invariant-loop-file
invariant-loop-file l = l.files.items ≡ record { name = l.self-inside.wanted.header; length = l.self-inside.size } ∷ take l.file-index l.self-inside.files.items
