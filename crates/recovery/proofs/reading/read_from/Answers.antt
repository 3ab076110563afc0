use Rattle.std.proofs.Common.{rules, ◌≡◌, ◌+◌, ◌-◌, ◌≤◌, length, refl, arith, ◌∙◌}
use Rattle.recovery.proofs.DiskReads.{not_yet, look_more}
use Rattle.recovery.proofs.Ranges.{nothing_filled, filled_more}
use Rattle.recovery.proofs.reading.read_from.Goals as goal

pub loop-done-init : goal.loop-done-init
loop-done-init g c = record {
  looked = not_yet (g.K.Disk.state c.args.disk.now) c.requires.running;
  within = omega arith;
  bytes = nothing_filled (g.K.Disk.state c.args.disk.now).reads c.args.at;
}

pub loop-done-preserved : goal.loop-done-preserved
loop-done-preserved g c =
    let was = c.loop-done.invariant in
    let more : length c.read_piece.new.buf ≡ c.min-end.result - c.loop-done.done = search rules in
    let within : c.min-end.result ≤ length c.args.buf.now = search rules in
    let after : c.loop-done.done ≤ c.min-end.result = search rules in
    let short : c.loop-done.done ≤ length c.loop-done.buf = search rules in
    let size = c.read_piece.auto.buf in
    record {
      looked = look_more _ _ _ c.in_ok-read_piece.field-0 was.looked c.in_ok-read_piece.ensures.reads_disk;
      within = within;
      bytes = filled_more (g.K.Disk.state c.args.disk.now).reads c.args.at (c.args.at + c.loop-done.done) c.loop-done.done _ c.min-end.result _ c.loop-done.buf c.read_piece.new.buf refl
          (omega (arith, size, more, after)) short size was.bytes (λ image told. c.in_ok-read_piece.ensures.bytes image (was.looked.runs.reads ∙ told));
    }
