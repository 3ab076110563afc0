use Rattle.std.proofs.Common.{List, take, ap, ◌∙◌, arith, ℕ}
use Rattle.std.specs.Prelude.{map}
use Rattle.load_base.specs.Config.{file_view}
use Rattle.load_base.specs.declared.config.StoredFile.{StoredFile}
use Rattle.disk_layout.specs.Manifest.{entries_length}
use Rattle.disk_layout.specs.Contents.{file_entry_of}
use Rattle.disk_layout.specs.declared.manifest.ManifestFile.{ManifestFile}
use Rattle.recovery.proofs.Files.{size_more, entries_more, bytes_more, nothing_stored}
use Rattle.recovery.proofs.DiskReads.{not_yet, look_more}
use Rattle.recovery.proofs.contents.files_on.Goals as goal

pub loop-file-init : goal.loop-file-init
loop-file-init g c = record {
  looked = not_yet (g.K.Disk.state c.args.disk.now) c.requires.running;
  offset = omega arith;
  entries = ap (λ (l : List StoredFile). map file_entry_of (map file_view l)) c.new-stored.ensures;
  bytes = λ image told. nothing_stored image c.args.start c.new-stored.result.items c.new-stored.ensures;
}

pub loop-file-preserved : goal.loop-file-preserved
loop-file-preserved g c =
    let files = c.args.files.now in
    let i = c.loop-file.file-index in
    let f = c.file-item.result in
    let longer = size_more files i f c.loop-file-test.true c.file-item.is in
    record {
      looked = look_more _ _ _ c.in_ok-bytes.bytes c.loop-file.invariant.looked c.in_ok-bytes.ensures.reads_disk;
      offset = omega (arith, longer, c.loop-file.invariant.offset);
      entries = entries_more c.loop-file.stored.items c.push.new.self.items _ files i f c.loop-file-test.true c.file-item.is c.in_ok-push.ensures.ok
          (ap (λ (n : ℕ). made f.name n) c.in_ok-bytes.ensures.size) c.loop-file.invariant.entries;
      bytes = λ image told. rw longer (
          bytes_more image c.args.start c.loop-file.at (entries_length (take i files)) f.length c.loop-file.stored.items c.push.new.self.items _ c.loop-file.invariant.offset c.in_ok-push.ensures.ok
          (c.loop-file.invariant.bytes image told) (c.in_ok-bytes.ensures.bytes image (c.loop-file.invariant.looked.runs.reads ∙ told)));
    }
  where
    made : List ℕ → ℕ → ManifestFile
    made name length = record { name = name; length = length }
