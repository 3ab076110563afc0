use Rattle.std.proofs.Common.{◌≡◌, ◌<◌, ℕ, List, length, ap, sym, subst, ◌∙◌, arith, ◌++◌, ◌∷◌, []}
use Rattle.std.specs.Prelude.{map, not}
use Rattle.std.specs.List.{insert}
use Rattle.std.proofs.lemmas.List.{length-map}
use Rattle.media_lists.specs.NameOrder.{IsOrder}
use Rattle.media_lists.proofs.NameOrder.{so_many, absent, one_more_name}
use Rattle.media_lists.proofs.Seen.{listed_named}
use Rattle.media_lists.proofs.names.is_new.Goals as goal

pub insert-requires : goal.insert-requires
insert-requires g c =
    let names : List (List ℕ) = map g.E.Named.name_of c.args.entries.now in
    let few : length c.args.order.now.items < 1024 = omega (arith, c.requires.few, so_many names c.args.order.now.items c.requires.order, length-map c.args.entries.now g.E.Named.name_of) in
    (omega arith, ((rw c.as_slice.ensures.value at c.in-Err.ensures.within), few))

pub returns-in-Err-clause-new : goal.returns-in-Err-clause-new
returns-in-Err-clause-new g c =
    let names : List (List ℕ) = map g.E.Named.name_of c.args.entries.now in
    sym (ap not (listed_named g.E.Named.name_of c.args.name.now c.args.entries.now ∙ absent names c.args.order.now.items c.args.name.now c.in-Err.at c.requires.order (rw c.as_slice.ensures.value at c.in-Err.ensures.between)))

pub returns-in-Err-clause-order : goal.returns-in-Err-clause-order
returns-in-Err-clause-order g c = λ new.
    let names : List (List ℕ) = map g.E.Named.name_of c.args.entries.now in
    let next = one_more_name names c.args.order.now.items c.args.name.now c.in-Err.at c.requires.order (rw c.as_slice.ensures.value at c.in-Err.ensures.within) (rw c.as_slice.ensures.value at c.in-Err.ensures.between) in
    let same : insert c.args.order.now.items c.in-Err.at (length names) ≡ c.insert.new.self.items =
    ap (λ (n : ℕ). insert c.args.order.now.items c.in-Err.at n) (length-map c.args.entries.now g.E.Named.name_of) ∙ sym c.insert.ensures.items in
    subst (λ (l : List ℕ). IsOrder (names ++ c.args.name.now ∷ []) l) same next

pub returns-in-Ok-clause-new : goal.returns-in-Ok-clause-new
returns-in-Ok-clause-new g c = sym (ap not (listed_named g.E.Named.name_of c.args.name.now c.args.entries.now ∙ c.in-Ok.ensures.found))
