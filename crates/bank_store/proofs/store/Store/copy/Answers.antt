use Rattle.std.proofs.Common.{◌≤◌, length, refl, arith, rules}
use Rattle.std.proofs.lemmas.List.{length-take-le}
use Rattle.bank_store.proofs.Copying.{more_copied, near_joined, nothing_copied, nothing_near}
use Rattle.bank_store.proofs.store.Store.copy.Goals as goal

pub loop-done-init : goal.loop-done-init
loop-done-init g c =
    let disk = g.K.Disk.state c.args.disk.now in
    record {
      copied = record {
        goes_on = search rules;
        counts = record { faults = refl; refusals = refl };
        running = c.requires.running;
        near = nothing_near c.args.self.now disk;
        bytes = nothing_copied disk c.args.from c.args.to;
      };
      within = omega arith;
    }

pub returns-in_err-copy_piece-clause-near : goal.returns-in_err-copy_piece-clause-near
returns-in_err-copy_piece-clause-near g c =
    near_joined c.args.self.now (g.K.Disk.state c.args.disk.now) _ _ c.loop-done.invariant.copied.near c.in_err-copy_piece.ensures.near

pub loop-done-preserved : goal.loop-done-preserved
loop-done-preserved g c =
    let was = c.loop-done.invariant.copied in
    let short : c.min-length.result ≤ length c.loop-done.piece = search rules in
    record {
      copied = record {
        goes_on = search rules;
        counts = search rules;
        running = search rules;
        near = near_joined c.args.self.now (g.K.Disk.state c.args.disk.now) _ _ was.near c.in_ok-copy_piece.ensures.near;
        bytes = more_copied c.args.self.now (g.K.Disk.state c.args.disk.now) (g.K.Disk.state c.loop-done.disk) (g.K.Disk.state c.copy_piece.new.disk) c.args.from c.args.to c.args.count c.loop-done.done _ c.min-length.result
            (record { from_low = c.requires.source.0; from_high = c.requires.source.1; to_low = c.requires.target.0; to_high = c.requires.target.1 }) (search rules) (length-take-le c.min-length.result c.loop-done.piece short) was.bytes c.in_ok-copy_piece.ensures.written;
      };
      within = search rules;
    }
