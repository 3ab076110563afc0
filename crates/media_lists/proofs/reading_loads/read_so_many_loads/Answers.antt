use Rattle.std.proofs.Common.{List, [], ◌∷◌, ap, ◌∙◌, arith, length-append}
use Rattle.std.specs.Prelude.{map}
use Rattle.std.proofs.lemmas.List.{map-append}
use Rattle.field_grammar.proofs.LoopLemmas.{list_goes_on_seen}
use Rattle.media_lists.specs.Entries.{entry_after}
use Rattle.media_lists.specs.Loads.{load_body, load_name, load_entry_view}
use Rattle.media_lists.proofs.FitLemmas.{order_pushed}
use Rattle.media_lists.proofs.reading_loads.read_so_many_loads.Goals as goal

pub loop-preserved : goal.loop-preserved
loop-preserved c = record {
  so_many = rw (c.in_ok-push.ensures.ok, length-append) (omega (arith, c.loop.invariant.so_many));
  order = order_pushed load_name (map load_entry_view c.loop.loads.items) (map load_entry_view c.push.new.self.items) (load_entry_view c.in_ok-load.load) c.read_new_load.new.order.items
      (ap (λ (l : List _). map load_entry_view l) c.in_ok-push.ensures.ok ∙ map-append load_entry_view c.loop.loads.items (c.in_ok-load.load ∷ [])) c.in_ok-load.ensures.order;
  yet = list_goes_on_seen (entry_after (load_body c.args.members) load_name c.args.count) load_entry_view c.loop.loads.items c.push.new.self.items c.args.count c.loop.counter c.loop.reader c.read_new_load.new.reader
      c.in_ok-load.load _ c.in_ok-push.ensures.ok c.loop.invariant.yet c.loop-test.true c.in_ok-load.ensures.read;
}
