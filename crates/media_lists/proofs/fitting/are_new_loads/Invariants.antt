use Rattle.std.proofs.Common.{[], take}
use Rattle.std.specs.Prelude.{map}
use Rattle.media_lists.specs.ListFields.{AreNew}
use Rattle.media_lists.specs.Loads.{load_entry_view, load_name}
use Rattle.media_lists.specs.NameOrder.{IsOrder}
use Rattle.media_lists.proofs.fitting.are_new_loads.Given as goal

abbrev pub invariant-loop-index : goal.invariant-loop-index
invariant-loop-index l = record {
  new : AreNew load_name [] (map load_entry_view (take l.index l.loads));
  order : IsOrder (map load_name (map load_entry_view (take l.index l.loads))) l.order.items;
}
