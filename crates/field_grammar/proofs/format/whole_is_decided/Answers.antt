use Rattle.field_grammar.proofs.ExactLemmas.{decided}
use Rattle.field_grammar.proofs.format.whole_is_decided.Goals as goal

pub returns : goal.returns
returns g c bytes = decided g.G.Format.grammar bytes c.requires
