use Rattle.std.proofs.Common.{◌+◌, ◌≤◌, ℕ, length, ◌∙◌, ap, arith, rules}
use Rattle.std.proofs.lemmas.List.{length-take-le}
use Rattle.disk_model.specs.Image.{range}
use Rattle.bank_store.proofs.Reading.{more_read, nothing_read}
use Rattle.bank_store.proofs.known.read_all.Goals as goal

pub loop-done-init : goal.loop-done-init
loop-done-init g c = record {
  read = nothing_read (g.K.Disk.state c.args.disk.now) c.args.at c.args.bytes.now c.requires.running (search rules) c.requires.empty c.requires.capacity;
  within = omega arith;
}

pub loop-done-preserved : goal.loop-done-preserved
loop-done-preserved g c =
    let short : c.min-length.result ≤ length c.loop-done.piece = search rules in
    let size = length-take-le c.min-length.result c.loop-done.piece short in
    record {
      read = more_read _ _ _ c.args.at c.loop-done.done c.min-length.result c.loop-done.bytes c.extend.new.self _ c.loop-done.invariant.read c.in_default.ensures.only_reads c.in_default.ensures.kept (search rules) (search rules)
          (λ image told. c.in_default.ensures.bytes image told ∙ ap (λ (n : ℕ). range image (c.args.at + c.loop-done.done) n) size) (search rules) c.in-Ok.ensures.ok c.in-Ok.ensures.spare;
      within = search rules;
    }
