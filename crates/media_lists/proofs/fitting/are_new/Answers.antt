use Rattle.std.proofs.Common.{rules, take, ap, sym, ◌∙◌, ◌++◌, ◌∷◌, []}
use Rattle.std.proofs.lemmas.List.{take_more}
use Rattle.media_lists.proofs.FitLemmas.{order_pushed}
use Rattle.media_lists.proofs.Fits.{new_refused, new_kept}
use Rattle.media_lists.proofs.fitting.are_new.Goals as goal

pub returns-then-not-is_new : goal.returns-then-not-is_new
returns-then-not-is_new g c =
    let tells = rw c.name.ensures at c.is_new.ensures.new in (
      λ never. search rules,
      λ all. absurd (new_refused g.E.Named.name_of c.args.entries.now c.loop-index.index c.index-entries-index.result c.is_new.result c.loop-index-test.true c.index-entries-index.is tells c.if-not-is_new.true all),
    )

pub loop-index-preserved : goal.loop-index-preserved
loop-index-preserved g c =
    let tells = rw c.name.ensures at c.is_new.ensures.new in
    let order = rw c.name.ensures at (c.is_new.ensures.order c.if-not-is_new.false) in
    let d = c.index-entries-index.result in
    let more = take_more c.args.entries.now c.loop-index.index d c.loop-index-test.true ∙ ap (λ (e : _). take c.loop-index.index c.args.entries.now ++ e ∷ []) (sym c.index-entries-index.is) in
    record {
      new = new_kept g.E.Named.name_of c.args.entries.now c.loop-index.index d c.is_new.result c.loop-index-test.true c.index-entries-index.is tells c.if-not-is_new.false c.loop-index.invariant.new;
      order = order_pushed g.E.Named.name_of (take c.loop-index.index c.args.entries.now) _ d c.is_new.new.order.items more order;
    }
