-- What `replay`, `wire` and `trial` put, as a function of their inputs (docs/PROMISES.md).
use Rattle.std.specs.Prelude.{◌≡◌, ℕ, ◌⊎◌, List, ◌++◌, length, Some, ⊤}
use Rattle.std.specs.List.{AllByRecursion}
use Rattle.std.specs.Option.{ForSome}
use Rattle.load_base.specs.Counts.{Rose}
use Rattle.load_base.specs.Host.{Files}
use Rattle.load_base.specs.Sink.{IsExtended}
use Rattle.disk_model.specs.Image.{Image}
use Rattle.bank_store.specs.Fits.{LosesOnlyWork}
use Rattle.disk_layout.specs.Holds.{HasDiskFault, HoldsConfig, StandingView}
use Rattle.disk_layout.specs.Identity.{HasIdentity}
use Rattle.disk_layout.specs.declared.identity.Identity.{Identity}
use Rattle.disk_layout.specs.declared.fault.RecoverFault.{RecoverFault}
use Rattle.listing.specs.Listing.{listing}
use Rattle.exchange_trace.specs.Lines.{Line}
use Rattle.exchange_trace.specs.Posts.{posted_in}
use Rattle.exchange_trace.specs.Steps.{Note, Step, Went_down, steps_of}
use Rattle.media_check.specs.Sets.{SetView}
use Rattle.session_rules.specs.Loader.{EndedSession}
use Rattle.session_rules.specs.LoaderLog.{loader_view}
use Rattle.loader_machine.specs.Machine.{all_sessions}
use Rattle.replay_rules.specs.BothEnds.{Setting, loader_at}
use Rattle.replay_rules.specs.Histories.{active_at}
use Rattle.fixed_runs.specs.FixedRuns.{whole_run}
use Rattle.generated_uploads.specs.GeneratedMedia.{IsGeneratedSet}
use Rattle.generated_uploads.specs.GeneratedUploads.{trial_script}
use Rattle.upload_replay.specs.Orders.{wire_of_steps}
use Rattle.upload_replay.specs.Texts.{datagrams_line, sessions_from}
use Rattle.loader_cli.specs.Calls.{IsPromised}
use Rattle.loader_cli.specs.Commands.{IsCommand}
use Rattle.loader_cli.specs.Commands.CommandView.{trial}
use Rattle.exchange_trace.specs.Scripts.{script_said}
use Rattle.loader_cli.specs.Replays.{HasInputs, RefusesInputs, StatusOfRun, run_command, setting_of}
use Rattle.loader_cli.specs.Runs.{NothingFails, Run}
use Rattle.loader_cli.specs.Texts.{no_configuration}
use Rattle.loader_cli.specs.declared.replay.Telling.{Telling}
use Rattle.loader_cli.specs.declared.replay.Telling.TheVariants as telling
use Rattle.loader_cli.specs.declared.top_call.Ended.{Ended}

-- ---- what is printed of a run, by its steps alone

-- the loader's sessions
abbrev pub sessions_by : Setting → List Step → List EndedSession
sessions_by set steps = all_sessions (loader_view (loader_at set steps))

-- the report or the trace
abbrev pub text_by : Telling → Setting → List Step → List ℕ
text_by telling.Report set steps = sessions_from 1 (sessions_by set steps) ++ datagrams_line (length (posted_in steps)) ++ listing (active_at set steps)
text_by telling.Trace set steps = wire_of_steps steps

-- ---- what is printed for inputs

-- The status and the text for this media set and script, on a disk that reads this image.
pub data GivesRun (told : Telling) (set : SetView) (script : List Line) (image : Image) (status : ℕ) (text : List ℕ) : Type 0 where
  -- 0 or 1: the image holds this configuration, and of the script's whole run so much is told
  held : (start : StandingView) → HoldsConfig image start → StatusOfRun (sessions_by (setting_of set start) (whole_run (setting_of set start) script)) status
      → text ≡ text_by told (setting_of set start) (whole_run (setting_of set start) script) → GivesRun told set script image status text
  -- 8: the image fails at this fault
  unheld : (fault : RecoverFault) → HasDiskFault image fault → status ≡ 8 → text ≡ no_configuration fault → GivesRun told set script image status text

-- The same for a folder and a script among these files of the host.
pub data ReplayGives (told : Telling) (folder name : List ℕ) (files : Files) (image : Image) (status : ℕ) (text : List ℕ) : Type 0 where
  runs : (set : SetView) (script : List Line) → HasInputs script_said folder name (Some files) set script → GivesRun told set script image status text → ReplayGives told folder name files image status text
  -- 3: an input is refused, and the host doesn't fail
  refuses : (before after : ℕ) → ¬ Rose before after → RefusesInputs script_said folder name (Some files) before after status text → ReplayGives told folder name files image status text

-- The same for the generated set of this number, and the script for the target that the image names.
pub data GivesTrial (number : ℕ) (image : Image) (status : ℕ) (text : List ℕ) : Type 0 where
  tries : (id : Identity) (set : SetView) → HasIdentity image id → IsGeneratedSet number set → GivesRun telling.Report set (trial_script id) image status text → GivesTrial number image status text
  -- 8: the image fails at this fault
  untried : (fault : RecoverFault) → HasDiskFault image fault → status ≡ 8 → text ≡ no_configuration fault → GivesTrial number image status text

-- ---- runs in which nothing fails

abbrev pub IsNoLoss : Note → Type 0
IsNoLoss Went_down = ⊥
IsNoLoss note = ⊤

-- the target never goes down, by loss of power or a failure of its disk
abbrev pub NeverGoesDown : List Step → Type 0
NeverGoesDown steps = AllByRecursion (λ (s : Step). AllByRecursion IsNoLoss s.notes) steps

-- The disk reads this image, and a power loss can leave nothing else of it. Neither host nor sink nor disk fails in the run,
-- and the target doesn't go down in it.
pub record RunsSteadily (run : Run) (image : Image) : Type 0 where
  pub reads : run.work.disk.reads ≡ Some image
  pub rests : LosesOnlyWork run.work.disk
  pub answers : NothingFails run
  pub disk_answers : ¬ Rose run.work.disk.faults run.work.disk_after.faults
  pub stays_up : ForSome run.work.handed (λ seen. NeverGoesDown (steps_of seen.trace))

-- exactly a text was put, with a status, of which this holds; or the run is out of memory
abbrev pub PutsOnly : Run → Ended → (status_and_text : ℕ → List ℕ → Type 0) → Type 0
PutsOnly run ended Says = (ended.status ≡ 6) ⊎ ((text : List ℕ) × Says ended.status text × IsExtended run.output run.output_after text)

-- two runs put the same text, with the same status
pub record PutTheSame (one two : Run) (first second : Ended) : Type 0 where
  pub status : first.status ≡ second.status
  pub text : List ℕ
  pub one_puts : IsExtended one.output one.output_after text
  pub two_puts : IsExtended two.output two.output_after text

-- ---- calls of `run` in which nothing fails

-- a call of `replay` or `wire` in which nothing fails, of a host that tells these files
pub record ReplaysSteadily (run : Run) (ended : Ended) (told : Telling) (folder name : List ℕ) (known : Files) (image : Image) : Type 0 where
  pub asked : IsCommand run.work.words (run_command told folder name)
  pub files : run.work.files ≡ Some known
  pub steady : RunsSteadily run image
  pub promised : IsPromised run ended

-- a call of `trial` in which nothing fails
pub record TriesSteadily (run : Run) (ended : Ended) (number : ℕ) (image : Image) : Type 0 where
  pub asked : IsCommand run.work.words (trial number)
  pub steady : RunsSteadily run image
  pub promised : IsPromised run ended

-- a call on these arguments in which nothing fails, of a host that tells these files
pub record CallsSteadily (run : Run) (ended : Ended) (words : List (List ℕ)) (known : Files) (image : Image) : Type 0 where
  pub asked : run.work.words ≡ words
  pub files : run.work.files ≡ Some known
  pub steady : RunsSteadily run image
  pub promised : IsPromised run ended
