use Rattle.field_grammar.specs.Fields.{raw, number, pad, padded_parts, padded, short_parts, short}
use Rattle.field_grammar.proofs.ExactLemmas.{decided_at_start}
use Rattle.field_grammar.proofs.fields.fields_are_decided.Goals as goal

pub returns-clause-raw : goal.returns-clause-raw
returns-clause-raw c n = decided_at_start (raw n)

pub returns-clause-number : goal.returns-clause-number
returns-clause-number c n = decided_at_start (number n)

pub returns-clause-pad : goal.returns-clause-pad
returns-clause-pad c n = decided_at_start (pad n)

pub returns-clause-padded_parts : goal.returns-clause-padded_parts
returns-clause-padded_parts c = decided_at_start padded_parts

pub returns-clause-padded : goal.returns-clause-padded
returns-clause-padded c = decided_at_start padded

pub returns-clause-short_parts : goal.returns-clause-short_parts
returns-clause-short_parts c = decided_at_start short_parts

pub returns-clause-short : goal.returns-clause-short
returns-clause-short c = decided_at_start short
