-- What a session's own buffer keeps to (docs/EXCHANGE.md, "The target").
use Rattle.std.specs.Prelude.{◌≡◌, length}
use Rattle.session_rules.specs.Buffers.{Buffer}
use Rattle.load_intake.specs.States.{IntakeState}
use Rattle.target_machine.specs.declared.row.Row.{Row}
use Rattle.target_machine.specs.declared.row.Row.TheVariants as rows

-- while a load's file is read it is empty
abbrev pub OwnIsEmpty : Row → Buffer → Type 0
OwnIsEmpty row buffer = (intake : IntakeState) → row ≡ rows.ReadsFile intake → length buffer.prefix ≡ 0
