use Rattle.field_grammar.proofs.GrammarLemmas.{what_follows_is_read, what_is_read_follows, what_stops_is_refused, what_is_refused_stops}
use Rattle.field_grammar.proofs.MoveLemmas.{moves_on}
use Rattle.field_grammar.proofs.format.reading_is_exact.Goals as goal

pub returns-clause-follows : goal.returns-clause-follows
returns-clause-follows g c = what_follows_is_read g.G.Format.grammar

pub returns-clause-read : goal.returns-clause-read
returns-clause-read g c = what_is_read_follows g.G.Format.grammar

pub returns-clause-stops : goal.returns-clause-stops
returns-clause-stops g c = what_stops_is_refused g.G.Format.grammar

pub returns-clause-refused : goal.returns-clause-refused
returns-clause-refused g c = what_is_refused_stops g.G.Format.grammar

pub returns-clause-moves : goal.returns-clause-moves
returns-clause-moves g c = moves_on g.G.Format.grammar
