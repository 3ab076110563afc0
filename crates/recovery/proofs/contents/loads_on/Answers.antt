use Rattle.std.proofs.Common.{List, ◌+◌, take, ap, ◌∙◌, arith}
use Rattle.std.specs.Prelude.{map}
use Rattle.load_base.specs.Config.{load_view}
use Rattle.load_base.specs.declared.config.Load.{Load}
use Rattle.disk_layout.specs.Manifest.{entry_view, total_length, entries_length}
use Rattle.disk_layout.specs.Contents.{entries_of}
use Rattle.recovery.proofs.Loads.{total_more, total_within, load_entries_more, contents_more, headers_more, nothing_listed, no_headers, has_files}
use Rattle.recovery.proofs.DiskReads.{not_yet, look_more}
use Rattle.recovery.proofs.contents.loads_on.Goals as goal

pub loop-entry-init : goal.loop-entry-init
loop-entry-init g c = record {
  looked = not_yet (g.K.Disk.state c.args.disk.now) c.requires.running;
  offset = omega arith;
  named = ap (λ (l : List Load). entries_of (map load_view l)) c.new-loads.ensures;
  headers = no_headers c.new-loads.result.items c.new-loads.ensures;
  bytes = λ image told. nothing_listed image c.args.start c.new-loads.result.items c.new-loads.ensures;
}

pub load_on-requires-clause-within : goal.load_on-requires-clause-within
load_on-requires-clause-within g c =
    let entries = c.args.entries.now in
    let i = c.loop-entry.entry-index in
    let longer = total_more entries i c.entry-item.result c.loop-entry-test.true c.entry-item.is in
    omega (arith, longer, total_within entries (i + 1), c.loop-entry.invariant.offset, c.requires.within)

pub load_on-requires-clause-files : goal.load_on-requires-clause-files
load_on-requires-clause-files g c = has_files c.args.entries.now c.loop-entry.entry-index c.entry-item.result c.loop-entry-test.true c.entry-item.is c.requires.files

pub loop-entry-preserved : goal.loop-entry-preserved
loop-entry-preserved g c =
    let entries = c.args.entries.now in
    let i = c.loop-entry.entry-index in
    let e = c.entry-item.result in
    let was = c.loop-entry.invariant in
    let now = c.in_ok-load.ensures in
    let longer = total_more entries i e c.loop-entry-test.true c.entry-item.is in
    record {
      looked = look_more _ _ _ (c.in_ok-load.load, c.in_ok-load.end) was.looked now.reads_disk;
      offset = omega (arith, longer, was.offset, now.end);
      named = load_entries_more c.loop-entry.loads.items c.push.new.self.items c.in_ok-load.load entries i e c.loop-entry-test.true c.entry-item.is c.in_ok-push.ensures.ok now.of_entry.entry was.named;
      headers = headers_more c.loop-entry.loads.items c.push.new.self.items c.in_ok-load.load c.in_ok-push.ensures.ok was.headers now.of_entry.header;
      bytes = λ image told. rw longer (
          contents_more image c.args.start c.loop-entry.at (total_length (map entry_view (take i entries))) (entries_length e.files.items) c.loop-entry.loads.items c.push.new.self.items
          c.in_ok-load.load was.offset c.in_ok-push.ensures.ok (was.bytes image told) (now.bytes image (was.looked.runs.reads ∙ told)));
    }
