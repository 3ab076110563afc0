use Rattle.std.proofs.Common.{arith}
use Rattle.field_grammar.specs.declared.fault.FieldFault.TheVariants.{Short}
use Rattle.field_codec.proofs.Zeros.{text_is_within, text_is_read, text_is_refused, text_passes, no_zero_left}
use Rattle.field_codec.proofs.reader.zero_ended_at.Goals as goal

pub returns-in-Some-clause-ok : goal.returns-in-Some-clause-ok
returns-in-Some-clause-ok c =
    text_passes c.args.bytes.now c.args.offset _ _ (λ i. omega (arith, c.type_inv.bytes i)) (text_is_read Short c.args.bytes.now c.args.offset c.in-Some.size c.in-Some.ensures)

pub returns-in-Some-clause-reads : goal.returns-in-Some-clause-reads
returns-in-Some-clause-reads c = (
  text_is_within c.args.bytes.now c.args.offset c.in-Some.size c.in-Some.ensures,
  text_is_read Short c.args.bytes.now c.args.offset c.in-Some.size c.in-Some.ensures,
)

pub returns-in-None-clause-err : goal.returns-in-None-clause-err
returns-in-None-clause-err c = no_zero_left c.args.bytes.now c.args.offset c.requires c.in-None.ensures

pub returns-in-None-clause-reads : goal.returns-in-None-clause-reads
returns-in-None-clause-reads c = text_is_refused Short c.args.bytes.now c.args.offset c.requires c.in-None.ensures
