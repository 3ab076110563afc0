use Rattle.std.proofs.Common.{arith}
use Rattle.field_grammar.proofs.DecoderLemmas.{found_spelling, only_spelling, refused, faulty}
use Rattle.media_lists.specs.ListFields.{list_fields}
use Rattle.media_lists.specs.Loads.{loads_list, loads_list_view, load_body_fields, IsLoadsList}
use Rattle.media_lists.specs.declared.fault.ListFault.TheVariants.{Memory}
use Rattle.media_lists.proofs.Whole.{spells-loads_list}
use Rattle.media_lists.proofs.lists.LoadsList.decode.Goals as goal

pub returns-clause-found : goal.returns-clause-found
returns-clause-found c =
    found_spelling Memory loads_list_view loads_list (list_fields 0x9004 load_body_fields) IsLoadsList c.args.bytes.now c.loads_of.result spells-loads_list (λ i. omega (arith, c.type_inv.bytes i)) c.loads_of.ensures

pub returns-clause-only : goal.returns-clause-only
returns-clause-only c = only_spelling Memory loads_list_view loads_list (list_fields 0x9004 load_body_fields) IsLoadsList c.args.bytes.now c.loads_of.result spells-loads_list c.loads_of.ensures

pub returns-clause-refused : goal.returns-clause-refused
returns-clause-refused c = refused Memory loads_list_view loads_list c.args.bytes.now c.loads_of.result (λ i. omega (arith, c.type_inv.bytes i)) c.loads_of.ensures

pub returns-clause-faulty : goal.returns-clause-faulty
returns-clause-faulty c = faulty Memory loads_list_view loads_list c.args.bytes.now c.loads_of.result c.loads_of.ensures
