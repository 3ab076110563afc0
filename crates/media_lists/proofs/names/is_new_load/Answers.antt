use Rattle.std.proofs.Common.{sym, ap, ◌∙◌, subst, List, ℕ, ◌++◌, ◌∷◌, []}
use Rattle.std.specs.Prelude.{not}
use Rattle.media_lists.specs.Loads.{load_entry_view, load_name}
use Rattle.media_lists.specs.NameOrder.{IsOrder}
use Rattle.media_lists.proofs.Seen.{listed_kept, names_kept}
use Rattle.media_lists.proofs.names.is_new_load.Goals as goal

pub is_new-requires-clause-order : goal.is_new-requires-clause-order
is_new-requires-clause-order c = subst (λ (names : List (List ℕ)). IsOrder names c.args.order.now.items) (names_kept load_name load_entry_view c.args.loads.now) c.requires.order

pub returns-clause-new : goal.returns-clause-new
returns-clause-new c = c.is_new.ensures.new ∙ ap not (listed_kept load_name load_entry_view c.args.name.now c.args.loads.now)

pub returns-clause-order : goal.returns-clause-order
returns-clause-order c = λ new. subst (λ (names : List (List ℕ)). IsOrder (names ++ c.args.name.now ∷ []) c.is_new.new.order.items) (sym (names_kept load_name load_entry_view c.args.loads.now)) (c.is_new.ensures.order new)
