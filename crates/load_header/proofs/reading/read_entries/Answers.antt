use Rattle.std.proofs.Common.{◌≡◌, Ok, arith, length-append}
use Rattle.field_grammar.specs.Grammar.{read}
use Rattle.field_grammar.proofs.LoopLemmas.{list_goes_on}
use Rattle.load_header.specs.Header.{entry_after}
use Rattle.load_header.proofs.reading.read_entries.Goals as goal

pub loop-index-preserved : goal.loop-index-preserved
loop-index-preserved c =
    let others = c.args.others in
    let count = c.args.count in
    let items = c.loop-index.files.items in
    let entry = c.in_ok-read_entry.field-0 in
    let here : read (entry_after others count items) c.loop-index.reader ≡ Ok (entry, c.read_entry.new.reader) = rw c.loop-index.invariant.so_many c.in_ok-read_entry.ensures in
    record {
      so_many = rw (c.in_ok-push.ensures.ok, length-append) (omega (arith, c.loop-index.invariant.so_many));
      yet = rw c.in_ok-push.ensures.ok
          (list_goes_on (entry_after others count) items count c.loop-index.index c.loop-index.reader c.read_entry.new.reader entry _ c.loop-index.invariant.yet c.loop-index-test.true here);
    }
