use Rattle.std.proofs.Common.{◌≡◌, ◌++◌, ℕ, List, length, ap, arith, ◌∙◌}
use Rattle.bank_store.specs.Store.{knows_entry}
use Rattle.bank_store.proofs.Kept.{kept_in_range, length_part, same_part}
use Rattle.bank_store.proofs.store.Store.add_entry.Goals as goal

pub invariant_of-self : goal.invariant_of-self
invariant_of-self c =
    let store = c.args.self.now in
    let part = same_part c.as_slice.result.now store.known.items c.args.place.entry c.args.place.entry_length c.as_slice.ensures in
    let size : length (knows_entry store c.args.place) ≡ c.args.place.entry_length = length_part store.known.items c.args.place.entry c.args.place.entry_length c.requires.entry.within in
    record {
      keeps = kept_in_range store.size store.active store.known store.other_is_open store.body c.extend.new.self c.args.progress store.stage (knows_entry store c.args.place) c.args.count c.requires.filling store.keeps
          c.requires.between.0 c.requires.between.1 c.requires.room (omega (arith, size, c.requires.entry.short)) (c.in-Ok.ensures.ok ∙ ap (λ (l : List ℕ). store.body.items ++ l) part)
          (omega (arith, c.extend.ensures.spare, ap length part));
    }

pub returns-clause-body : goal.returns-clause-body
returns-clause-body c =
    c.in-Ok.ensures.ok ∙ ap (λ (l : List ℕ). c.args.self.now.body.items ++ l) (same_part c.as_slice.result.now c.args.self.now.known.items c.args.place.entry c.args.place.entry_length c.as_slice.ensures)
