-- The text of a fleet's script is run, or refused for its fault; where it is refused, no disk is touched.
use Rattle.std.proofs.Common.{◌≡◌, ◌⊎◌, ◌≤◌, inl, inr, ℕ, List, length, Option, None, Some, Err, refl, subst}
use Rattle.load_base.specs.Host.{Files}
use Rattle.bank_store.specs.Fits.{LosesOnlyWork}
use Rattle.disk_layout.specs.Holds.{HoldsConfig, StandingView}
use Rattle.disk_model.specs.Image.{Image}
use Rattle.disk_model.specs.State.{DiskState}
use Rattle.media_check.specs.Sets.{SetView}
use Rattle.exchange_trace.specs.declared.fault.ScriptFault.{ScriptFault}
use Rattle.exchange_trace.specs.declared.fault.ScriptFault.TheVariants.{Memory}
use Rattle.fleet_trace.specs.FleetScripts.{fleet_script_said}
use Rattle.loader_cli.specs.Answers.{status_of, text_of}
use Rattle.loader_cli.specs.FleetReplays.{FleetRunsText, FleetSeen, ReplaysFleet}
use Rattle.loader_cli.specs.FleetReplays.FleetRunsText.{says, says_none}
use Rattle.loader_cli.specs.FleetReplays.ReplaysFleet.{ran, unread}
use Rattle.loader_cli.specs.FleetRuns.{AllLeaveFirstOrGood}
use Rattle.loader_cli.specs.Inputs.{TellsScriptFault}
use Rattle.loader_cli.specs.Replays.{HasText, LeavesFirstOrGood}
use Rattle.loader_cli.specs.Replays.RefusesInputs.{no_script}
use Rattle.loader_cli.specs.declared.answer.Answer.{Answer}
use Rattle.loader_cli.proofs.Left.{untouched_leaves}
use Rattle.loader_cli.proofs.OneDisk.{one_disk}

module _ {K : Type 0} (state : K → DiskState) where
  pub says_no_fleet_script : (name bytes : List ℕ) (set : SetView) (disks : List K) (fault : ScriptFault) (answer : Answer) → (fault ≡ Memory) ⊎ (fleet_script_said (length disks) bytes ≡ Err fault)
      → TellsScriptFault name fault answer → FleetRunsText state name bytes set disks disks None (status_of answer) (text_of answer)
  says_no_fleet_script name bytes set disks fault answer (inl memory) tells = absurd (tells.0 memory)
  says_no_fleet_script name bytes set disks fault answer (inr wrong) tells = says_none fault wrong refl refl tells.1 tells.2

  pub ran_fleet_text : (folder name bytes : List ℕ) (files : Option Files) (before after : ℕ) (set : SetView) (old new : List K) (handed : Option FleetSeen) (status : ℕ) (text : List ℕ) → HasText folder name files set bytes
      → FleetRunsText state name bytes set old new handed status text → ReplaysFleet state folder name files before after old new handed status text
  ran_fleet_text folder name bytes files before after set old new handed status text has (says script is runs) = ran set script (record { text = bytes; has_text = has; says = is }) runs
  ran_fleet_text folder name bytes files before after set old new handed status text has (says_none fault is same none status_is text_is) = unread (no_script set bytes fault has is status_is text_is) same none

  pub untouched_fleet : ((k : K) (t u : ℕ) (left : Image) → (state k).clock ≤ t → (state k).between t u left → (state k).now left)
      → ((k : K) (image : Image) (s : StandingView) → LosesOnlyWork (state k) → (state k).reads ≡ Some image → HoldsConfig image s → (left : Image) → (state k).now left → HoldsConfig left s)
      → (disks : List K) → AllLeaveFirstOrGood state disks disks
  untouched_fleet only alone disks i before after was is =
      subst (λ (k : K). LeavesFirstOrGood (state before) (state k)) (one_disk disks i before after was is) (untouched_leaves (state before) (only before) (alone before))
