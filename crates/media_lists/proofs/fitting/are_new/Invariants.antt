use Rattle.std.proofs.Common.{[], take}
use Rattle.std.specs.Prelude.{map}
use Rattle.media_lists.specs.ListFields.{AreNew}
use Rattle.media_lists.specs.NameOrder.{IsOrder}
use Rattle.media_lists.proofs.fitting.are_new.Given as goal

abbrev pub invariant-loop-index : goal.invariant-loop-index
invariant-loop-index g l = record {
  new : AreNew g.E.Named.name_of [] (take l.index l.entries);
  order : IsOrder (map g.E.Named.name_of (take l.index l.entries)) l.order.items;
}
