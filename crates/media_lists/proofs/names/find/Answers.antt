use Rattle.std.proofs.Common.{rules}
use Rattle.std.specs.Prelude.{map}
use Rattle.std.proofs.lemmas.Fn.{always_returns_same}
use Rattle.media_lists.specs.NameOrder.{name_at, by_bytes}
use Rattle.media_lists.proofs.NameOrder.{searched}
use Rattle.media_lists.proofs.names.find.Goals as goal

pub returns : goal.returns
returns g c =
    let names = map g.E.Named.name_of c.args.entries.now in
    let facts = c.binary_search_by.ensures in
    let by_name = facts.position (λ offset. by_bytes (name_at names offset) c.args.name.now) (always_returns_same _ _ _ (λ a r f k. search rules)) in
    let all = searched names c.args.order.now c.args.name.now c.binary_search_by.result c.requires facts.bound by_name in
    record { found = all.0; within = all.1; between = all.2 }
