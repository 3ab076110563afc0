use Rattle.std.proofs.Common.{Option, subst, ◌∙◌, arith}
use Rattle.disk_model.specs.Image.{Image}
use Rattle.disk_layout.specs.Manifest.{entry_view, left_in}
use Rattle.recovery.specs.Listings.{ListsLoad}
use Rattle.recovery.proofs.DiskReads.{not_yet, look_more}
use Rattle.recovery.proofs.Outlined.{after_one, has_files_of, within_all, no_lines, lines_more}
use Rattle.recovery.proofs.listed.put_loads.Goals as goal

pub loop-init : goal.loop-init
loop-init g c = record {
  looked = not_yet (g.K.Disk.state c.args.disk.now) c.requires.running;
  buffer = c.requires.buffer;
  lines = no_lines (g.K.Disk.state c.args.disk.now).reads c.args.start c.args.out.now.items c.left-count.result c.args.loads.now c.left-count.ensures.is;
}

pub put_load-requires-clause-files : goal.put_load-requires-clause-files
put_load-requires-clause-files g c =
    let was = c.loop.invariant.lines in
    let all = c.requires.loads in
    let e = entry_view c.in-Ok.load in
    let (rest, are) = after_one was.seen e (left_in c.loop.loads) (left_in c.next_load.new.self) all.loads c.in-Ok.ensures.first (was.yet ∙ all.are) in
    has_files_of was.seen e rest all.loads are all.files

pub put_load-requires-clause-within : goal.put_load-requires-clause-within
put_load-requires-clause-within g c =
    let was = c.loop.invariant.lines in
    let all = c.requires.loads in
    let e = entry_view c.in-Ok.load in
    let (rest, are) = after_one was.seen e (left_in c.loop.loads) (left_in c.next_load.new.self) all.loads c.in-Ok.ensures.first (was.yet ∙ all.are) in
    omega (arith, within_all was.seen e rest all.loads are, was.offset, all.within)

pub loop-preserved : goal.loop-preserved
loop-preserved g c =
    let was = c.loop.invariant in
    let e = entry_view c.in-Ok.load in
    let reads = (g.K.Disk.state c.args.disk.now).reads in
    let now : ListsLoad reads c.loop.at e c.loop.out.items c.put_load.new.out.items =
    subst (λ (r : Option Image). ListsLoad r c.loop.at e c.loop.out.items c.put_load.new.out.items) was.looked.runs.reads c.in_ok-at.ensures.listed in
    record {
      looked = look_more _ _ _ c.in_ok-at.at was.looked c.in_ok-at.ensures.reads_disk;
      buffer = omega (arith, was.buffer, c.put_load.auto.buffer);
      lines =
          lines_more reads c.args.start (left_in c.args.loads.now) c.args.out.now.items c.left-count.result c.loop.counter c.loop.loads c.next_load.new.self c.loop.at c.in_ok-at.at c.loop.out.items c.put_load.new.out.items e
          c.loop-test.true c.in-Ok.ensures.first c.in-Ok.ensures.left c.in_ok-at.ensures.end now was.lines;
    }
