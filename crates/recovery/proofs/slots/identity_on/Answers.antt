use Rattle.std.proofs.Common.{ℕ, List, refl, subst}
use Rattle.field_grammar.specs.Grammar.{Fault}
use Rattle.disk_layout.specs.Identity.{identity}
use Rattle.disk_layout.specs.Holds.HasDiskFault.{not_formatted}
use Rattle.recovery.proofs.slots.identity_on.Goals as goal

pub returns-in-Err-clause-refused : goal.returns-in-Err-clause-refused
returns-in-Err-clause-refused g c image told =
    not_formatted c.in-Err.offset (subst (λ (prefix : List ℕ). Fault identity prefix c.in-Err.offset) (c.in_ok-read_from.ensures.bytes image told) c.in-Err.ensures.refused) refl
