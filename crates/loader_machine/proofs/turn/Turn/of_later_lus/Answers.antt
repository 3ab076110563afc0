use Rattle.std.proofs.Common.{refl}
use Rattle.field_grammar.specs.Answers.{answer}
use Rattle.load_protocol_files.specs.Lus.{lus}
use Rattle.session_rules.specs.declared.outcome.FileKind.TheVariants.{Lus}
use Rattle.session_rules.specs.LoaderRows.{later_lus_turn}
use Rattle.loader_machine.proofs.Turning.{unread_is}
use Rattle.loader_machine.proofs.turn.Turn.of_later_lus.Goals as goal

pub returns-in-Err-clause-is : goal.returns-in-Err-clause-is
returns-in-Err-clause-is c = unread_is later_lus_turn (answer lus c.args.bytes.now) c.in-Err.fault Lus c.unread.result (λ f. refl) c.in-Err.ensures.answers c.unread.ensures.is c.unread.ensures.memory
