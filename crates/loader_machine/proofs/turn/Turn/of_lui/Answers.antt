use Rattle.std.proofs.Common.{refl}
use Rattle.field_grammar.specs.Answers.{answer}
use Rattle.load_protocol_files.specs.Lui.{lui}
use Rattle.session_rules.specs.declared.outcome.FileKind.TheVariants.{Lui}
use Rattle.session_rules.specs.LoaderRows.{lui_turn}
use Rattle.loader_machine.proofs.Turning.{unread_is}
use Rattle.loader_machine.proofs.turn.Turn.of_lui.Goals as goal

pub returns-in-Err-clause-is : goal.returns-in-Err-clause-is
returns-in-Err-clause-is c = unread_is lui_turn (answer lui c.args.bytes.now) c.in-Err.fault Lui c.unread.result (λ f. refl) c.in-Err.ensures.answers c.unread.ensures.is c.unread.ensures.memory
