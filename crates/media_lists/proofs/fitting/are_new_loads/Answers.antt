use Rattle.std.proofs.Common.{rules, take, ap, sym, ◌∙◌, ◌++◌, ◌∷◌, [], List}
use Rattle.std.specs.Prelude.{map}
use Rattle.std.proofs.lemmas.List.{take_more, map-append}
use Rattle.media_lists.specs.Loads.{load_entry_view, load_name}
use Rattle.media_lists.specs.declared.lists.LoadEntry.{LoadEntry}
use Rattle.media_lists.proofs.Fits.{refused_seen, kept_seen}
use Rattle.media_lists.proofs.FitLemmas.{order_pushed}
use Rattle.media_lists.proofs.fitting.are_new_loads.Goals as goal

pub returns-then-not-is_new_load : goal.returns-then-not-is_new_load
returns-then-not-is_new_load c =
    let tells = rw c.as_slice.ensures.bytes at c.is_new_load.ensures.new in (
      λ never. search rules,
      λ all. absurd (refused_seen load_name load_entry_view c.args.loads.now c.loop-index.index c.index-loads-index.result c.is_new_load.result c.loop-index-test.true c.index-loads-index.is tells c.if-not-is_new_load.true all),
    )

pub loop-index-preserved : goal.loop-index-preserved
loop-index-preserved c =
    let tells = rw c.as_slice.ensures.bytes at c.is_new_load.ensures.new in
    let order = rw c.as_slice.ensures.bytes at (c.is_new_load.ensures.order c.if-not-is_new_load.false) in
    let d = c.index-loads-index.result in
    let so_far = take c.loop-index.index c.args.loads.now in
    let more = take_more c.args.loads.now c.loop-index.index d c.loop-index-test.true ∙ ap (λ (e : LoadEntry). take c.loop-index.index c.args.loads.now ++ e ∷ []) (sym c.index-loads-index.is) in
    record {
      new = kept_seen load_name load_entry_view c.args.loads.now c.loop-index.index d c.is_new_load.result c.loop-index-test.true c.index-loads-index.is tells c.if-not-is_new_load.false c.loop-index.invariant.new;
      order = order_pushed load_name (map load_entry_view so_far) _ (load_entry_view d) c.is_new_load.new.order.items (ap (λ (l : List LoadEntry). map load_entry_view l) more ∙ map-append load_entry_view so_far (d ∷ [])) order;
    }
