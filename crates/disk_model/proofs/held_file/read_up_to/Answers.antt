use Rattle.std.proofs.Common.{length, take, ◌-◌, subst, List, ℕ, sym}
use Rattle.std.specs.Io.KnownBytes.{Consumes}
use Rattle.disk_model.proofs.Filled.{consumed_more, piece_taken, piece_within}
use Rattle.disk_model.proofs.held_file.read_up_to.Goals as goal

pub loop-filled-preserved : goal.loop-filled-preserved
loop-filled-preserved g c =
    let buf = c.loop-filled.buf in
    let filled = c.loop-filled.filled in
    let piece = c.read_some.new.buf in
    let n = c.in_ok-count.count in
    record {
      within = piece_within filled (length buf - filled) n buf piece c.in_ok-count.ensures.bound.0 c.loop-filled.invariant.within;
      taken = subst (λ (l : List ℕ). Consumes (g.F.Read.remaining c.args.file.now) (g.F.Read.remaining c.read_some.new.file) l) (sym (piece_taken filled (length buf - filled) n buf piece c.in_ok-count.ensures.bound.0 c.loop-filled.invariant.within))
          (consumed_more (g.F.Read.remaining c.args.file.now) (g.F.Read.remaining c.loop-filled.file) (g.F.Read.remaining c.read_some.new.file) (take filled buf) (take n piece) c.loop-filled.invariant.taken c.in_ok-count.ensures.bytes.0);
    }
