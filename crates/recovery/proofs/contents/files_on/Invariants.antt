use Rattle.std.proofs.Common.{◌≡◌, ◌+◌, take}
use Rattle.std.specs.Prelude.{Some, map}
use Rattle.load_base.specs.Config.{file_view}
use Rattle.disk_model.specs.Image.{Image, range}
use Rattle.disk_layout.specs.Manifest.{entries_length}
use Rattle.disk_layout.specs.Contents.{file_entry_of, bytes_of}
use Rattle.recovery.proofs.DiskReads.{Looked}
use Rattle.recovery.proofs.contents.files_on.Given as goal

abbrev pub invariant-loop-file : goal.invariant-loop-file
invariant-loop-file g l = record {
  looked : Looked (g.K.Disk.state l.fn.disk) (g.K.Disk.state l.disk);
  offset : l.at ≡ l.start + entries_length (take l.file-index l.files);
  entries : map file_entry_of (map file_view l.stored.items) ≡ take l.file-index l.files;
  bytes : (image : Image) → (g.K.Disk.state l.fn.disk).reads ≡ Some image → bytes_of (map file_view l.stored.items) ≡ range image l.start (entries_length (take l.file-index l.files));
}
