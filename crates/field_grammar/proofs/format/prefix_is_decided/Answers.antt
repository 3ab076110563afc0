use Rattle.field_grammar.proofs.ExactLemmas.{decided_at_start}
use Rattle.field_grammar.proofs.format.prefix_is_decided.Goals as goal

pub returns : goal.returns
returns g c = decided_at_start g.G.Format.grammar
