use Rattle.std.proofs.Common.{◌≡◌, ◌++◌, List, ℕ, take}
use Rattle.std.specs.List.{flat_map}
use Rattle.crc_fields.specs.CheckSums.{crc32_of}
use Rattle.media_build.proofs.bodies.add_files.Given as goal

abbrev pub invariant-loop-file : goal.invariant-loop-file
invariant-loop-file l = (given : List ℕ) → l.fn.sum ≡ crc32_of given → l.sum ≡ crc32_of (given ++ flat_map (λ file. file.bytes) (take l.file-index l.files))
