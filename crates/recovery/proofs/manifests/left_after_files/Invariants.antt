use Rattle.std.proofs.Common.{◌≡◌, ◌+◌, take}
use Rattle.disk_layout.specs.Manifest.{entries_length}
use Rattle.recovery.proofs.manifests.left_after_files.Given as goal

abbrev pub invariant-loop-file : goal.invariant-loop-file
invariant-loop-file l = entries_length (take l.file-index l.files) + l.rest ≡ l.bytes
