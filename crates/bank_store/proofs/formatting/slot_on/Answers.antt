use Rattle.std.proofs.Common.{ℕ, ap, ◌∙◌}
use Rattle.disk_model.specs.Image.{range}
use Rattle.bank_store.proofs.formatting.slot_on.Goals as goal

pub returns-clause-found : goal.returns-clause-found
returns-clause-found g c image told = c.decode.ensures image _ (c.in_ok-read.ensures.bytes image told ∙ ap (λ (at : ℕ). range image at 29) c.offset.ensures)
