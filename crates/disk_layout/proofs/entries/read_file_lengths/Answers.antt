use Rattle.std.proofs.Common.{arith, ◌≤◌}
use Rattle.std.proofs.lemmas.Result.{err_from_is_err_and}
use Rattle.disk_layout.proofs.EntryReads.{sum_goes_on, sum_is_done, sum_stops}
use Rattle.disk_layout.proofs.entries.read_file_lengths.Goals as goal

pub returns-in_err-read_file-clause-reads : goal.returns-in_err-read_file-clause-reads
returns-in_err-read_file-clause-reads c =
    let p = err_from_is_err_and c.from_residual.result c.from_residual.ensures.1 in
    rw (p.1, p.2) (sum_stops c.loop.files c.args.count c.loop.counter c.loop.reader c.args.reader.now _ c.loop-test.true c.loop.invariant c.in_err-read_file.ensures.reads)

pub loop-preserved : goal.loop-preserved
loop-preserved c =
    let short : c.in_ok-read_file.field-0.length ≤ 4294967295 = search arith in
    rw c.from.ensures
    (sum_goes_on c.loop.files c.args.count c.loop.counter c.loop.reader c.read_file.new.reader c.args.reader.now c.in_ok-read_file.field-0 c.loop-test.true c.in_ok-read_file.ensures.reads short c.loop.invariant)

pub returns-clause-reads : goal.returns-clause-reads
returns-clause-reads c = sum_is_done c.loop.files c.args.count c.loop.counter c.loop.reader c.args.reader.now c.loop-test.false c.loop.invariant
