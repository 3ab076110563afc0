use Rattle.std.proofs.Common.{◌≡◌, arith}
use Rattle.disk_layout.proofs.EntryReads.{goes_on, load_begins, next_begins, one_passed, stands_there}
use Rattle.disk_layout.proofs.entries.find_load.Goals as goal

pub pass_load-files-requires : goal.pass_load-files-requires
pass_load-files-requires c = record { stands = next_begins c.args.entries.now c.args.number c.loop.counter c.loop.reader c.loop.files c.loop-test.true c.loop.invariant c.requires.said }

pub loop-preserved : goal.loop-preserved
loop-preserved c =
    one_passed c.args.entries.now c.args.number c.loop.counter c.loop.reader c.pass_load-files.new.reader c.loop.files c.pass_load-files.result c.loop-test.true c.loop.invariant c.pass_load-files.ensures.passes c.pass_load-files.ensures.small

pub pass_load-files_length-requires : goal.pass_load-files_length-requires
pass_load-files_length-requires c =
    let end : c.loop.counter ≡ c.args.number = omega (arith, c.loop-test.false, c.loop.auto.counter-end) in
    record { stands = load_begins c.args.entries.now c.args.number c.loop.counter c.loop.reader c.loop.files end c.loop.invariant c.requires.said }

pub overflow_sub-result : goal.overflow_sub-result
overflow_sub-result c =
    let end : c.loop.counter ≡ c.args.number = omega (arith, c.loop-test.false, c.loop.auto.counter-end) in
    rw (c.place-entry.ensures, c.place.ensures)
    (goes_on c.loop.reader c.pass_load-files_length.new.reader c.pass_load-files_length.result
    (load_begins c.args.entries.now c.args.number c.loop.counter c.loop.reader c.loop.files end c.loop.invariant c.requires.said) c.pass_load-files_length.ensures.passes)

pub returns : goal.returns
returns c = record {
  place = λ before behind load says is.
      let end : c.loop.counter ≡ c.args.number = omega (arith, c.loop-test.false, c.loop.auto.counter-end) in
      let there = stands_there c.args.entries.now c.args.number c.loop.counter c.loop.reader c.pass_load-files_length.new.reader c.loop.files c.pass_load-files_length.result end c.loop.invariant c.pass_load-files_length.ensures.passes before behind load says is in
      record {
        entry = rw c.place-entry.ensures there.0;
        entry_length = rw (c.place-entry.ensures, c.place.ensures) there.1;
        files = there.2;
        files_length = there.3;
      };
}
