use Rattle.std.proofs.Common.{refl}
use Rattle.field_grammar.specs.Answers.{answer}
use Rattle.load_protocol_files.specs.Lcl.{lcl}
use Rattle.session_rules.specs.declared.outcome.FileKind.TheVariants.{Lcl}
use Rattle.session_rules.specs.LoaderRows.{lcl_turn}
use Rattle.loader_machine.proofs.Turning.{lists_none, unread_is}
use Rattle.loader_machine.proofs.turn.Turn.of_lcl.Goals as goal

pub returns-in-Err-clause-is : goal.returns-in-Err-clause-is
returns-in-Err-clause-is c = unread_is lcl_turn (answer lcl c.args.bytes.now) c.in-Err.fault Lcl c.unread.result (λ f. refl) c.in-Err.ensures.answers c.unread.ensures.is c.unread.ensures.memory

pub returns-in-Err-clause-listed : goal.returns-in-Err-clause-listed
returns-in-Err-clause-listed c = lists_none c.args.bytes.now c.unread.result c.unread.ensures.listed
