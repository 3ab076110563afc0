-- The text of a script is run, or refused for its fault.
use Rattle.std.proofs.Common.{◌≡◌, ◌⊎◌, inl, inr, ℕ, List, Option, None, Err, refl}
use Rattle.load_base.specs.Host.{Files}
use Rattle.disk_model.specs.State.{DiskState}
use Rattle.media_check.specs.Sets.{SetView}
use Rattle.exchange_trace.specs.Scripts.{script_said}
use Rattle.exchange_trace.specs.declared.fault.ScriptFault.{ScriptFault}
use Rattle.exchange_trace.specs.declared.fault.ScriptFault.TheVariants.{Memory}
use Rattle.loader_cli.specs.Answers.{status_of, text_of}
use Rattle.loader_cli.specs.Inputs.{TellsScriptFault}
use Rattle.loader_cli.specs.Replays.{HasText, Replays, RunSeen, RunsText}
use Rattle.loader_cli.specs.Replays.RefusesInputs.{no_script}
use Rattle.loader_cli.specs.Replays.Replays.{ran, unread}
use Rattle.loader_cli.specs.Replays.RunsText.{says, says_none}
use Rattle.loader_cli.specs.declared.answer.Answer.{Answer}
use Rattle.loader_cli.specs.declared.replay.Telling.{Telling}
use Rattle.loader_cli.proofs.Touched.{stays}

pub says_no_script : (told : Telling) (name bytes : List ℕ) (set : SetView) (disk : DiskState) (fault : ScriptFault) (answer : Answer) → (fault ≡ Memory) ⊎ (script_said bytes ≡ Err fault)
    → TellsScriptFault name fault answer → RunsText told name bytes set disk disk None (status_of answer) (text_of answer)
says_no_script told name bytes set disk fault answer (inl memory) tells = absurd (tells.0 memory)
says_no_script told name bytes set disk fault answer (inr wrong) tells = says_none fault wrong (stays disk) refl tells.1 tells.2

pub ran_text : (told : Telling) (folder name bytes : List ℕ) (files : Option Files) (before after : ℕ) (set : SetView) (old new : DiskState) (handed : Option RunSeen) (status : ℕ) (text : List ℕ) → HasText folder name files set bytes
    → RunsText told name bytes set old new handed status text → Replays told folder name files before after old new handed status text
ran_text told folder name bytes files before after set old new handed status text has (says script is runs) = ran set script (record { text = bytes; has_text = has; says = is }) runs
ran_text told folder name bytes files before after set old new handed status text has (says_none fault is same none status_is text_is) = unread (no_script set bytes fault has is status_is text_is) same none
