use Rattle.std.proofs.Common.{◌≡◌, ◌+◌, take}
use Rattle.std.specs.Prelude.{Some, map}
use Rattle.load_base.specs.Config.{load_view}
use Rattle.disk_model.specs.Image.{Image, range}
use Rattle.disk_layout.specs.Manifest.{entry_view, total_length}
use Rattle.disk_layout.specs.Contents.{entries_of, contents_of_loads, HeadersAreFirst}
use Rattle.recovery.proofs.DiskReads.{Looked}
use Rattle.recovery.proofs.contents.loads_on.Given as goal

abbrev pub invariant-loop-entry : goal.invariant-loop-entry
invariant-loop-entry g l = record {
  looked : Looked (g.K.Disk.state l.fn.disk) (g.K.Disk.state l.disk);
  offset : l.at ≡ l.start + total_length (map entry_view (take l.entry-index l.entries));
  named : entries_of (map load_view l.loads.items) ≡ map entry_view (take l.entry-index l.entries);
  headers : HeadersAreFirst (map load_view l.loads.items);
  bytes : (image : Image) → (g.K.Disk.state l.fn.disk).reads ≡ Some image
      → contents_of_loads (map load_view l.loads.items) ≡ range image l.start (total_length (map entry_view (take l.entry-index l.entries)));
}
