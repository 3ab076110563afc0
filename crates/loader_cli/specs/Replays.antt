-- What `replay` and `wire` print, their status, and the cause of each (docs/PROMISES.md).
use Rattle.std.specs.Prelude.{◌≡◌, ℕ, ◌+◌, ◌≤◌, ◌⊎◌, List, [], ◌∷◌, All, length, map, codes, Option, Some, None, option_map, is_some, Result, Ok, Err, true, ⊤}
use Rattle.std.specs.Option.{ForSome}
use Rattle.load_base.specs.Counts.{Rose}
use Rattle.load_base.specs.Host.{Files, longest_file}
use Rattle.disk_model.specs.Image.{Image}
use Rattle.disk_model.specs.State.{DiskState, OnlyReads}
use Rattle.bank_store.specs.Fits.{LosesOnlyWork}
use Rattle.disk_layout.specs.DiskReads.{IsOfDisk}
use Rattle.disk_layout.specs.Holds.{HoldsConfig, StandingView, standing_view}
use Rattle.disk_layout.specs.declared.fault.RecoverFault.{RecoverFault}
use Rattle.field_grammar.specs.Grammar.{Grammar}
use Rattle.media_lists.specs.Files.{files_list}
use Rattle.media_lists.specs.Loads.{loads_list}
use Rattle.media_lists.specs.ListFaultText.{list_fault_text}
use Rattle.media_lists.specs.declared.fault.ListFault.{ListFault}
use Rattle.media_check.specs.HostNames.{ReadingOrder, batches_name, files_name, further_reading, host_media, loads_name}
use Rattle.media_check.specs.Openings.{CanRead, IsShortOnHost, IsTooLarge, IsTooLong, IsFirstLong}
use Rattle.media_check.specs.Sets.{SetView, found_in, lists_in, set_in}
use Rattle.media_check.specs.declared.found.Found.{Found}
use Rattle.media_check.specs.declared.found.Found.TheVariants.{Missing, Refused, Read}
use Rattle.exchange_trace.specs.FaultTexts.{script_fault_text}
use Rattle.exchange_trace.specs.Following.{plan_of}
use Rattle.exchange_trace.specs.Lines.{Line}
use Rattle.exchange_trace.specs.Scripts.{script_said}
use Rattle.exchange_trace.specs.Posts.{happenings_of}
use Rattle.exchange_trace.specs.Steps.{Step, steps_of}
use Rattle.exchange_trace.specs.declared.fault.ScriptFault.{ScriptFault}
use Rattle.exchange_trace.specs.declared.trace.TraceStep.{TraceStep}
use Rattle.link_net.specs.Links.{LinkState}
use Rattle.accept_rules.specs.Permissions.{permits}
use Rattle.session_rules.specs.Loader.{EndedSession}
use Rattle.session_rules.specs.declared.outcome.Outcome.TheVariants.{Completed}
use Rattle.loader_machine.specs.Machine.{media_of, session_view}
use Rattle.replay_rules.specs.BothEnds.{Setting}
use Rattle.replay_rules.specs.FaultFree.{NothingInjected}
use Rattle.finish_ends.specs.Scripts.{most_of_lines}
use Rattle.session_completion.specs.FinishedRuns.{IsComplete}
use Rattle.run_promises.specs.Reports.{AllReportsAreTrue}
use Rattle.run_promises.specs.Promises.{ChangesByGoodLoads, IsLeftToLastFinish, TellsTrue}
use Rattle.upload_replay.specs.declared.outcome.Drive.{Drive}
use Rattle.upload_replay.specs.Drives.{IsLoadersRun, IsDrivenRun, NeverBoots}
use Rattle.upload_replay.specs.Endings.{HeldNone, HoldsNone, HoldsSome, StaysAsItWas}
use Rattle.replay_turns.specs.Orders.{IsInOrder}
use Rattle.replay_turns.specs.Powers.{RoseBy, disk_stops}
use Rattle.upload_replay.specs.Armings.{armed_after, armings_after}
use Rattle.upload_replay.specs.Lives.{LivesThrough}
use Rattle.upload_replay.specs.Moments.{HoldsAllAlong, LeavesGood}
use Rattle.upload_replay.specs.Texts.{report, wire}
use Rattle.loader_cli.specs.Commands.{CommandView}
use Rattle.loader_cli.specs.Commands.CommandView.{replay as replay_command, wire as wire_command}
use Rattle.loader_cli.specs.HostFiles.{HostHas, HasTooMany}
use Rattle.loader_cli.specs.Texts.{disk_fault, host_fault, no_configuration, refused_input}
use Rattle.loader_cli.specs.declared.replay.Telling.{Telling}
use Rattle.loader_cli.specs.declared.replay.Telling.TheVariants as telling

-- ---- a run of a script

-- what a run stands on: this media set, a target that accepts each load that it may, and what its disk holds at first
abbrev pub setting_of : SetView → StandingView → Setting
setting_of set start = record { media = media_of set; accepts = permits; start = start }

-- a link that begins this script
abbrev pub link_of : List Line → LinkState
link_of script = record { posted = []; given = []; plan = Some (plan_of script) }

-- a run that came to its end: what happened, the sessions, and what the disk holds then, where that is known
pub record RunSeen : Type 0 where
  pub trace : List TraceStep
  pub sessions : List EndedSession
  pub standing : Option StandingView

abbrev pub run_seen : Drive → RunSeen
run_seen drive = record { trace = drive.trace.items; sessions = map session_view drive.sessions.items; standing = option_map standing_view drive.standing }

-- The trace and the sessions are those of a run of this script on this media set. What is promised of it is said again without
-- the premises that this target and this disk meet: what becomes active is good; where nothing was injected, what is told is
-- true; the trace is no longer than the script allows; and its lines stand in order.
pub record IsScriptRun (set : SetView) (script : List Line) (start : StandingView) (run : RunSeen) : Type 0 where
  pub ended : LinkState
  pub is : IsDrivenRun (setting_of set start) (link_of script) ended (steps_of run.trace) run.sessions run.standing
  pub good : ChangesByGoodLoads (setting_of set start) (steps_of run.trace)
  pub reports : AllReportsAreTrue (setting_of set start) (steps_of run.trace)
  pub tells : NothingInjected (steps_of run.trace) → TellsTrue (setting_of set start) (steps_of run.trace) run.sessions run.standing
  pub bounded : length (steps_of run.trace) ≤ most_of_lines 0 script + 1
  pub ordered : IsInOrder run.trace

-- Each image that a power loss might have left since holds what was active at its moment; where it is known what stands then, a
-- power loss may take nothing but work of an installation, as at first; and a fault-free run that was left to the script's last
-- `finish` is complete, where the disk failed no more often than the trace says that it stopped before that.
pub record HoldsScriptRun (set : SetView) (script : List Line) (start : StandingView) (old new : DiskState) (run : RunSeen) : Type 0 where
  pub moments : HoldsAllAlong (setting_of set start) (steps_of run.trace) run.standing old new
  pub rests : is_some run.standing ≡ true → LosesOnlyWork new
  pub completes : (left : IsLeftToLastFinish (setting_of set start) script (steps_of run.trace)) → ¬ RoseBy (disk_stops left.before + 1) old.faults new.faults
      → (last : StandingView) → run.standing ≡ Some last → IsComplete (setting_of set start) left.before left.free (steps_of run.trace) last

-- On a disk that tells its content, and of which a power loss could take only work of an installation at first, it is a run of
-- this script on this media set, which its disk holds moment by moment. Where no boot came, it is such a run also where a power
-- loss could have taken more.
abbrev pub RunsScript : SetView → List Line → (old new : DiskState) → RunSeen → Type 0
RunsScript set script old new run =
    (start : StandingView) (image : Image) → old.reads ≡ Some image → HoldsConfig image start
    → (NeverBoots (steps_of run.trace) ⊎ LosesOnlyWork old → IsScriptRun set script start run)
    × (LosesOnlyWork old → HoldsScriptRun set script start old new run)

-- Such a disk goes on telling its content, and each image that a power loss may leave now, or might have left since, holds what
-- was active at first, or a configuration of which each load was active then or is checked, and one is checked.
abbrev pub LeavesFirstOrGood : (old new : DiskState) → Type 0
LeavesFirstOrGood old new =
    (set : SetView) (start : StandingView) (image : Image) → old.reads ≡ Some image → HoldsConfig image start → LosesOnlyWork old
    → LeavesGood (setting_of set start) old.clock new

-- The disk failed at least as often as the trace says that it stopped, and was armed once for each loss of power in it, with
-- its numbers, and not else.
pub record CountsPower (steps : List Step) (old new : DiskState) : Type 0 where
  pub stops : RoseBy (disk_stops steps) old.faults new.faults
  pub armings : new.armings ≡ armings_after (happenings_of steps) old.armings
  pub armed : new.armed ≡ armed_after (happenings_of steps) old.armed

-- What is promised of each run that comes to its end, whatever its disk tells, and whatever a power loss could have left of it
-- at first: how often it failed and was armed; what the loader did, and its sessions; what the target did in each of its lives;
-- and the order of the trace's lines.
pub record IsAnyRun (set : SetView) (old new : DiskState) (run : RunSeen) : Type 0 where
  pub counts : CountsPower (steps_of run.trace) old new
  pub loader : IsLoadersRun (media_of set) (steps_of run.trace) run.sessions
  pub lives : LivesThrough (media_of set) permits (steps_of run.trace)
  pub ordered : IsInOrder run.trace

abbrev pub IsCompleted : EndedSession → Type 0
IsCompleted session = session.outcome ≡ Completed

-- the status: 0 where every session was completed, and 1 elsewhere
pub data StatusOfRun (sessions : List EndedSession) (status : ℕ) : Type 0 where
  all_completed : All IsCompleted sessions → status ≡ 0 → StatusOfRun sessions status
  not_completed : ¬ All IsCompleted sessions → status ≡ 1 → StatusOfRun sessions status

-- how often the disk stopped in a run that is handed out
abbrev pub stops_of : Option RunSeen → ℕ
stops_of None = 0
stops_of (Some run) = disk_stops (steps_of run.trace)

-- the command that prints this of a run
abbrev pub run_command : Telling → (folder name : List ℕ) → CommandView
run_command telling.Report folder name = replay_command folder name
run_command telling.Trace folder name = wire_command folder name

-- what is printed of a run, after which this stands on the disk
abbrev pub told_as : Telling → List EndedSession → List TraceStep → StandingView → List ℕ
told_as telling.Report sessions trace standing = report sessions trace standing
told_as telling.Trace sessions trace standing = wire trace

-- the status and the text of a run with this standing at the end; without one the disk failed
abbrev pub Tells : Telling → RunSeen → Option StandingView → (status : ℕ) (text : List ℕ) → Type 0
Tells told run None status text = (status ≡ 5) × (text ≡ disk_fault)
Tells told run (Some standing) status text = StatusOfRun run.sessions status × (text ≡ told_as told run.sessions run.trace standing)

-- The status, the text, the run that is handed out, and what they say of the disk, for this media set and script.
pub data RunsTo (told : Telling) (set : SetView) (script : List Line) (old new : DiskState) (handed : Option RunSeen) (status : ℕ) (text : List ℕ) : Type 0 where
  -- 0 or 1: the run came to its end, on a disk that held a configuration, and holds this one then
  ended : (run : RunSeen) (standing : StandingView) → HoldsSome old → handed ≡ Some run → run.standing ≡ Some standing → RunsScript set script old new run
      → ForSome new.reads (λ image. HoldsConfig image standing) → IsAnyRun set old new run → StatusOfRun run.sessions status
      → text ≡ told_as told run.sessions run.trace standing → RunsTo told set script old new handed status text
  -- 5: the run came to its end, but the disk failed once more as it was recovered
  unknown : (run : RunSeen) → HoldsSome old → handed ≡ Some run → run.standing ≡ None → RunsScript set script old new run → IsAnyRun set old new run
      → RoseBy (disk_stops (steps_of run.trace) + 1) old.faults new.faults → new.stopped ≡ true → status ≡ 5 → text ≡ disk_fault
      → RunsTo told set script old new handed status text
  -- 5: the disk failed before anything happened, and nothing was written
  disk_failed : handed ≡ None → Rose old.faults new.faults → new.stopped ≡ true → OnlyReads old new → status ≡ 5 → text ≡ disk_fault
      → RunsTo told set script old new handed status text
  -- 8: the disk held no configuration at first, for this fault, is as it was, and runs on; or it held one, and holds none at the
  -- end, for this fault
  no_config : (fault : RecoverFault) → handed ≡ None → ¬ IsOfDisk fault → HeldNone fault old new ⊎ (HoldsSome old × HoldsNone fault new) → status ≡ 8 → text ≡ no_configuration fault
      → RunsTo told set script old new handed status text

-- ---- the inputs, in reading order

-- the list was found
abbrev pub IsRead : {V F : Type 0} → Found V F → Type 0
IsRead (Read list) = ⊤
IsRead Missing = ⊥
IsRead (Refused fault) = ⊥

-- the host has a list of this format under the name
abbrev pub HasList : {V : Type 0} → Grammar ListFault V → Option Files → (name : List ℕ) → Type 0
HasList format files name = ForSome files (λ told. IsShortOnHost told name × IsRead (found_in format (told name)))

-- both lists of member 1
abbrev pub HostHasLists : (folder : List ℕ) → Option Files → Type 0
HostHasLists folder files = HasList loads_list files (loads_name folder 1) × HasList files_list files (files_name folder 1)

-- there is no such list, or it has this fault; so much is told of it
pub data RefusesList {V : Type 0} (format : Grammar ListFault V) (files : Option Files) (name told_fault : List ℕ) : Type 0 where
  list_absent : ForSome files (λ told. told name ≡ None) → told_fault ≡ codes "absent" → RefusesList format files name told_fault
  list_faulty : (fault : ListFault) → ForSome files (λ told. IsShortOnHost told name × (found_in format (told name) ≡ Refused fault))
      → told_fault ≡ list_fault_text fault → RefusesList format files name told_fault

-- member 1's BATCHES.LUM, and what is read after it
abbrev pub from_batches : (folder : List ℕ) → ReadingOrder → ReadingOrder
from_batches folder further = record { lists = batches_name folder 1 ∷ further.lists; files = further.files }

-- what is read of a set once LOADS.LUM and FILES.LUM of member 1 were
abbrev pub rest_of : (folder : List ℕ) → Files → ReadingOrder
rest_of folder files = from_batches folder (further_reading folder (lists_in (host_media files folder) 1))

-- The folder has this set, and all of it can be read.
pub record HasSet (folder : List ℕ) (files : Option Files) (set : SetView) : Type 0 where
  pub lists : HostHasLists folder files
  pub rest : ForSome files (λ told. CanRead told (rest_of folder told) × (set ≡ set_in (host_media told folder)))

-- The folder has this set, and the file of this name, which isn't too long, this text.
pub record HasText (folder name : List ℕ) (files : Option Files) (set : SetView) (text : List ℕ) : Type 0 where
  pub has_set : HasSet folder files set
  pub there : HostHas files name (Some text)
  pub short : length text ≤ longest_file

-- The folder has this set, and the file of this name says this script, as such texts are read.
pub record HasInputs {S : Type 0} (said : List ℕ → Result S ScriptFault) (folder name : List ℕ) (files : Option Files) (set : SetView) (script : S) : Type 0 where
  pub text : List ℕ
  pub has_text : HasText folder name files set text
  pub says : said text ≡ Ok script

-- The first input that is refused before the script is read, with the status and the text, and the host's faults before and
-- after.
pub data RefusesText (folder name : List ℕ) (files : Option Files) (before after : ℕ) (status : ℕ) (text : List ℕ) : Type 0 where
  -- 3: member 1's LOADS.LUM
  loads_refused : (fault : List ℕ) → RefusesList loads_list files (loads_name folder 1) fault
      → status ≡ 3 → text ≡ refused_input (loads_name folder 1) fault → RefusesText folder name files before after status text
  loads_too_long : (file : List ℕ) → ForSome files (λ told. IsFirstLong told (loads_name folder 1 ∷ []) file)
      → status ≡ 3 → text ≡ refused_input file (codes "toolong") → RefusesText folder name files before after status text
  -- 3: its FILES.LUM
  files_refused : (fault : List ℕ) → HasList loads_list files (loads_name folder 1) → RefusesList files_list files (files_name folder 1) fault
      → status ≡ 3 → text ≡ refused_input (files_name folder 1) fault → RefusesText folder name files before after status text
  files_too_long : (file : List ℕ) → HasList loads_list files (loads_name folder 1) → ForSome files (λ told. IsFirstLong told (files_name folder 1 ∷ []) file)
      → status ≡ 3 → text ≡ refused_input file (codes "toolong") → RefusesText folder name files before after status text
  -- 3: a further list or a listed file is too long
  long_file : (file : List ℕ) → HostHasLists folder files → ForSome files (λ told. IsTooLong told (rest_of folder told) file)
      → status ≡ 3 → text ≡ refused_input file (codes "toolong") → RefusesText folder name files before after status text
  -- 3: the listed files are too large together, before one is too long
  large_set : HostHasLists folder files → ForSome files (λ told. IsTooLarge told (rest_of folder told))
      → status ≡ 3 → text ≡ refused_input folder (codes "toolarge") → RefusesText folder name files before after status text
  -- 3: the folder has a set, and there is no script of this name
  script_absent : (set : SetView) → HasSet folder files set → HostHas files name None
      → status ≡ 3 → text ≡ refused_input name (codes "absent") → RefusesText folder name files before after status text
  -- 3: it has more than 16,777,215 bytes
  script_too_long : (set : SetView) → HasSet folder files set → HasTooMany files name
      → status ≡ 3 → text ≡ refused_input name (codes "toolong") → RefusesText folder name files before after status text
  -- 4: the host failed in this call
  host_failed : Rose before after → status ≡ 4 → text ≡ host_fault → RefusesText folder name files before after status text

-- The first input that is refused, where texts are read so.
pub data RefusesInputs {S : Type 0} (said : List ℕ → Result S ScriptFault) (folder name : List ℕ) (files : Option Files) (before after : ℕ) (status : ℕ) (text : List ℕ) : Type 0 where
  no_text : RefusesText folder name files before after status text → RefusesInputs said folder name files before after status text
  -- 3: the text is no script, for this first fault
  no_script : (set : SetView) (bytes : List ℕ) (fault : ScriptFault) → HasText folder name files set bytes → said bytes ≡ Err fault
      → status ≡ 3 → text ≡ refused_input name (script_fault_text fault) → RefusesInputs said folder name files before after status text

-- ---- `replay FOLDER SCRIPT` and `wire FOLDER SCRIPT`

-- The same for this media set and the text of a script of this name.
pub data RunsText (told : Telling) (name bytes : List ℕ) (set : SetView) (old new : DiskState) (handed : Option RunSeen) (status : ℕ) (text : List ℕ) : Type 0 where
  says : (script : List Line) → script_said bytes ≡ Ok script → RunsTo told set script old new handed status text → RunsText told name bytes set old new handed status text
  -- 3: it is no script, for this first fault, and the disk isn't touched
  says_none : (fault : ScriptFault) → script_said bytes ≡ Err fault → StaysAsItWas old new → handed ≡ None → status ≡ 3 → text ≡ refused_input name (script_fault_text fault)
      → RunsText told name bytes set old new handed status text

-- The status, the text, the run that is handed out, and what they say of the host and of the disk.
pub data Replays (told : Telling) (folder name : List ℕ) (files : Option Files) (before after : ℕ) (old new : DiskState) (handed : Option RunSeen) (status : ℕ) (text : List ℕ) : Type 0 where
  -- the script is run on the set
  ran : (set : SetView) (script : List Line) → HasInputs script_said folder name files set script → RunsTo told set script old new handed status text
      → Replays told folder name files before after old new handed status text
  -- 3 or 4: an input is refused, and the disk isn't touched
  unread : RefusesInputs script_said folder name files before after status text → StaysAsItWas old new → handed ≡ None → Replays told folder name files before after old new handed status text
