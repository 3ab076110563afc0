use Rattle.std.proofs.Common.{◌≡◌, ◌+◌, ◌≤◌, length, take}
use Rattle.disk_layout.specs.Manifest.{entries_length}
use Rattle.recovery.specs.Listings.{ListsFiles}
use Rattle.recovery.proofs.DiskReads.{Looked}
use Rattle.recovery.proofs.listed.put_files.Given as goal

abbrev pub invariant-loop-file : goal.invariant-loop-file
invariant-loop-file g l = record {
  looked : Looked (g.K.Disk.state l.fn.disk) (g.K.Disk.state l.disk);
  offset : l.at ≡ l.start + entries_length (take l.file-index l.files);
  buffer : 1 ≤ length l.buffer;
  listed : ListsFiles (g.K.Disk.state l.fn.disk).reads l.start (take l.file-index l.files) l.fn.out.items l.out.items;
}
