use Rattle.std.proofs.Common.{Option, subst, arith}
use Rattle.disk_model.specs.Image.{Image}
use Rattle.recovery.specs.Listings.{ListsFile}
use Rattle.recovery.proofs.DiskReads.{not_yet, look_more}
use Rattle.recovery.proofs.Files.{size_more}
use Rattle.recovery.proofs.Lines.{no_files, one_more_file}
use Rattle.recovery.proofs.listed.put_files.Goals as goal

pub loop-file-init : goal.loop-file-init
loop-file-init g c = record {
  looked = not_yet (g.K.Disk.state c.args.disk.now) c.requires.running;
  offset = omega arith;
  buffer = c.requires.buffer;
  listed = no_files (g.K.Disk.state c.args.disk.now).reads c.args.start c.args.out.now.items;
}

pub loop-file-preserved : goal.loop-file-preserved
loop-file-preserved g c =
    let files = c.args.files.now in
    let i = c.loop-file.file-index in
    let f = c.file-item.result in
    let was = c.loop-file.invariant in
    let longer = size_more files i f c.loop-file-test.true c.file-item.is in
    let reads = (g.K.Disk.state c.args.disk.now).reads in
    let now : ListsFile reads c.loop-file.at f c.loop-file.out.items c.put_file.new.out.items =
    subst (λ (r : Option Image). ListsFile r c.loop-file.at f c.loop-file.out.items c.put_file.new.out.items) was.looked.runs.reads c.in_ok-put_file.ensures.listed in
    record {
      looked = look_more _ _ _ c.in_ok-put_file.field-0 was.looked c.in_ok-put_file.ensures.reads_disk;
      offset = omega (arith, longer, was.offset);
      buffer = omega (arith, was.buffer, c.put_file.auto.buffer);
      listed = one_more_file reads c.args.start c.loop-file.at files i f c.args.out.now.items c.loop-file.out.items c.put_file.new.out.items c.loop-file-test.true c.file-item.is was.offset was.listed now;
    }
