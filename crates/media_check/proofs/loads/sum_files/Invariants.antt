use Rattle.std.proofs.Common.{◌≡◌, ◌++◌, ℕ, List, take}
use Rattle.std.specs.List.{flat_map}
use Rattle.crc_fields.specs.CheckSums.{crc32_of}
use Rattle.media_check.specs.Kept.{contents}
use Rattle.media_check.specs.Sets.{set_view, bytes_of}
use Rattle.media_check.proofs.loads.sum_files.Given as goal

abbrev pub invariant-loop-file : goal.invariant-loop-file
invariant-loop-file l =
    (given : List ℕ) → l.fn.sum ≡ crc32_of given
    → l.sum ≡ crc32_of (given ++ flat_map (λ file. contents (bytes_of (set_view l.set) file.name)) (take l.file-index l.files))
