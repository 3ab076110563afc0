-- What a run of the program prints, its status, and the cause of each (docs/PROMISES.md).
use Rattle.std.specs.Prelude.{◌≡◌, ◌≢◌, ℕ, ◌<◌, ◌≤◌, List, [], ◌∷◌, ◌+◌, length, true, false, Option, Some, None, Ok, take, codes, is_some, ◌⊎◌}
use Rattle.std.specs.Option.{ForSome}
use Rattle.load_base.specs.Counts.{Rose}
use Rattle.load_base.specs.Host.{Files, longest_file}
use Rattle.load_base.specs.Sink.{IsExtended}
use Rattle.media_check.specs.Findings.{findings_of}
use Rattle.media_check.specs.HostNames.{host_media, ReadingOrder, whole_reading}
use Rattle.media_check.specs.Openings.{CanRead, IsTooLong, IsTooLarge}
use Rattle.media_check.specs.Sets.{SetView, lists_in, set_in}
use Rattle.media_build.specs.Building.{CanTake, HaveSizes, fixed_length, source_names, sources_in}
use Rattle.media_build.specs.GeneratedSet.{generated_lines, generated_sources}
use Rattle.media_build.specs.RecipeSets.{Sources, loads_of, recipe_bodies}
use Rattle.media_build.specs.Recipes.{recipe_said}
use Rattle.media_build.specs.WrittenFolders.{HoldsWritten, IsCleanFolder}
use Rattle.media_build.specs.declared.statements.RecipeLine.{RecipeLine}
use Rattle.shown_files.specs.Shown.{HasFields, HasFault}
use Rattle.shown_files.specs.declared.kind.ShownKind.{ShownKind}
use Rattle.disk_model.specs.Image.{Image}
use Rattle.disk_model.specs.State.{DiskState, IsSettled}
use Rattle.bank_store.specs.Fits.{LosesOnlyWork}
use Rattle.bank_store.specs.Formatting.{formatted, KeepsRest}
use Rattle.bank_store.specs.Given.{configured}
use Rattle.disk_layout.specs.declared.identity.Identity.{Identity}
use Rattle.disk_layout.specs.Offsets.{IsBankSize}
use Rattle.disk_layout.specs.DiskReads.{IsOfDisk, IsOutOfMemory, RunsOn}
use Rattle.disk_layout.specs.Holds.{StandingView, HoldsConfig, HasDiskFault}
use Rattle.disk_layout.specs.declared.fault.RecoverFault.{RecoverFault}
use Rattle.recovery.specs.Formers.{HoldsFormer}
use Rattle.listing.specs.Listing.{listing}
use Rattle.exchange_trace.specs.Lines.{Line}
use Rattle.exchange_trace.specs.Scripts.{script_said}
use Rattle.generated_uploads.specs.GeneratedMedia.{uploaded_load}
use Rattle.generated_uploads.specs.GeneratedUploads.{CanTakeGeneratedSet, IsOneUpload}
use Rattle.replay_turns.specs.Powers.{RoseBy}
use Rattle.upload_replay.specs.Endings.{HoldsSome}
use Rattle.loader_cli.specs.Commands.{CommandView, IsAny, IsCommand, IsNo, UsesScript}
use Rattle.loader_cli.specs.Commands.CommandView.{list, format, show, check, build, make, replay, wire, trial, rollback}
use Rattle.loader_cli.specs.Builds.{BuildsFolder, MakesFolder, IsNameBuilt, IsNameMade}
use Rattle.loader_cli.specs.Replays.{HasInputs, Replays, RunSeen, RunsScript, StatusOfRun, run_command, stops_of, told_as}
use Rattle.loader_cli.specs.Rollbacks.{RollsBackAs}
use Rattle.loader_cli.specs.Trials.{Trials}
use Rattle.loader_cli.specs.declared.replay.Telling.{Telling}
use Rattle.loader_cli.specs.declared.replay.Telling.TheVariants.{Report, Trace}
use Rattle.loader_cli.specs.HostFiles.{HostHas, HasTooMany, HostWork}
use Rattle.loader_cli.specs.Texts.{formatted_line, built_line, findings_text, refused_words, refused_input, disk_fault, host_fault, no_configuration}
use Rattle.loader_cli.specs.declared.top_call.Ended.{Ended}

-- ---- `list`

-- the status, the text, and what it says of the disk, where the disk tells its content
pub data Lists (old new : DiskState) (status : ℕ) (text : List ℕ) : Type 0 where
  -- 0: the disk holds this configuration, and runs on
  listed : (s : StandingView) → ForSome old.reads (λ image. HoldsConfig image s) → IsBankSize s.identity.bank → s.bank < 2 → RunsOn old new
      → status ≡ 0 → text ≡ listing s → Lists old new status text
  -- 5: the disk failed in this call
  failed : Rose old.faults new.faults → new.stopped ≡ true → status ≡ 5 → text ≡ disk_fault → Lists old new status text
  -- 8: the disk holds no configuration, at this fault, and runs on
  no_listing : (fault : RecoverFault) → ForSome old.reads (λ image. HasDiskFault image fault) → ¬ IsOfDisk fault → RunsOn old new
      → status ≡ 8 → text ≡ no_configuration fault → Lists old new status text

-- ---- `format HW POS SERIAL BANK`

-- the status, the text, and what it says of the disk, where the disk tells its content
pub data Formats (old new : DiskState) (id : Identity) (status : ℕ) (text : List ℕ) : Type 0 where
  -- 0: a power loss leaves nothing but the disk as it reads, it holds this target without loads and has all other bytes
  -- that it had, and it runs on, telling its content as before
  formatted_it : is_some new.reads ≡ is_some old.reads → ForSome new.reads (λ image. HoldsConfig image (formatted id))
      → ((before after : Image) → old.reads ≡ Some before → new.reads ≡ Some after → KeepsRest id before after) → IsSettled new → new.stopped ≡ false
      → status ≡ 0 → text ≡ formatted_line id → Formats old new id status text
  -- 5: the disk failed in this call
  formatting_failed : Rose old.faults new.faults → new.stopped ≡ true → status ≡ 5 → text ≡ disk_fault → Formats old new id status text

-- ---- `show FILE`

-- the status and the text for a file of this kind, of this name and with these bytes
pub data ShowsBytes (kind : ShownKind) (name bytes : List ℕ) (status : ℕ) (text : List ℕ) : Type 0 where
  -- 0: the bytes spell a file with these fields
  shown : HasFields kind bytes text → status ≡ 0 → ShowsBytes kind name bytes status text
  -- 3: they fail at this fault
  faulty : (fault : List ℕ) → HasFault kind bytes fault → status ≡ 3 → text ≡ refused_input name fault → ShowsBytes kind name bytes status text

-- the status, the text, and what it says of the host's files and of its faults before and after
pub data Shows (kind : ShownKind) (files : Option Files) (before after : ℕ) (name : List ℕ) (status : ℕ) (text : List ℕ) : Type 0 where
  -- it has these bytes, at most 16,777,215
  read : (bytes : List ℕ) → HostHas files name (Some bytes) → length bytes ≤ longest_file → ShowsBytes kind name bytes status text
      → Shows kind files before after name status text
  -- 3: there is no such file
  absent : HostHas files name None → status ≡ 3 → text ≡ refused_input name (codes "absent") → Shows kind files before after name status text
  -- 3: it has more than 16,777,215 bytes
  too_long : HasTooMany files name → status ≡ 3 → text ≡ refused_input name (codes "toolong") → Shows kind files before after name status text
  -- 4: the host failed in this call
  host_failed : Rose before after → status ≡ 4 → text ≡ host_fault → Shows kind files before after name status text

-- ---- `check FOLDER`

-- the status and the text for this set
pub data Finds (set : SetView) (status : ℕ) (text : List ℕ) : Type 0 where
  -- 0: it has no finding
  clean : findings_of set ≡ [] → status ≡ 0 → text ≡ findings_text [] → Finds set status text
  -- 1: it has these
  faulty_set : findings_of set ≢ [] → status ≡ 1 → text ≡ findings_text (findings_of set) → Finds set status text

-- what is read of the set in a folder of a host with these files
abbrev pub reading_of : (folder : List ℕ) → Files → ReadingOrder
reading_of folder files = whole_reading folder (lists_in (host_media files folder) 1)

-- the status, the text, and what it says of the host's files and of its faults before and after
pub data Checks (folder : List ℕ) (files : Option Files) (before after : ℕ) (status : ℕ) (text : List ℕ) : Type 0 where
  -- the folder has this set, which can be read
  opened : (set : SetView) → ForSome files (λ told. CanRead told (reading_of folder told) × (set ≡ set_in (host_media told folder))) → Finds set status text
      → Checks folder files before after status text
  -- 3: this is the first file that is too long
  long_file : (name : List ℕ) → ForSome files (λ told. IsTooLong told (reading_of folder told) name) → status ≡ 3 → text ≡ refused_input name (codes "toolong")
      → Checks folder files before after status text
  -- 3: the listed files are too large together, before one is too long
  large_set : ForSome files (λ told. IsTooLarge told (reading_of folder told)) → status ≡ 3 → text ≡ refused_input folder (codes "toolarge")
      → Checks folder files before after status text
  -- 4: the host failed in this call
  set_unread : Rose before after → status ≡ 4 → text ≡ host_fault → Checks folder files before after status text

-- ---- a run

-- What a command works on: its arguments, the disk, and the host's files and faults, before and after; and the run that it
-- hands out, if it is of a script.
pub record Work : Type 1 where
  pub words : List (List ℕ)
  pub disk : DiskState
  pub disk_after : DiskState
  pub files : Option Files
  pub files_after : Option Files
  pub host_faults : ℕ
  pub host_faults_after : ℕ
  pub handed : Option RunSeen

-- what it does to the host
abbrev pub host_work : Work → HostWork
host_work work = record { files = work.files; files_after = work.files_after; faults = work.host_faults; faults_after = work.host_faults_after }

-- What a run is given and what it leaves: the command's work, and the sink's output and faults before and after.
pub record Run : Type 1 where
  pub work : Work
  pub output : Option (List ℕ)
  pub output_after : Option (List ℕ)
  pub sink_faults : ℕ
  pub sink_faults_after : ℕ

-- the status and the text of a run whose output goes through
pub data Says (work : Work) (status : ℕ) (text : List ℕ) : Type 0 where
  -- 2: the arguments are no command
  refused : IsNo IsAny work.words → status ≡ 2 → text ≡ refused_words → Says work status text
  lists : IsCommand work.words list → Lists work.disk work.disk_after status text → Says work status text
  formats : (id : Identity) → IsCommand work.words (format id) → Formats work.disk work.disk_after id status text → Says work status text
  shows : (kind : ShownKind) (file : List ℕ) → IsCommand work.words (show kind file)
      → Shows kind work.files work.host_faults work.host_faults_after file status text → Says work status text
  checks : (folder : List ℕ) → IsCommand work.words (check folder)
      → Checks folder work.files work.host_faults work.host_faults_after status text → Says work status text
  builds : (recipe folder : List ℕ) → IsCommand work.words (build recipe folder) → BuildsFolder recipe folder (host_work work) status text → Says work status text
  makes : (number : ℕ) (folder : List ℕ) → IsCommand work.words (make number folder) → MakesFolder number folder (host_work work) status text → Says work status text
  replays : (folder script : List ℕ) → IsCommand work.words (replay folder script)
      → Replays Report folder script work.files work.host_faults work.host_faults_after work.disk work.disk_after work.handed status text → Says work status text
  traces : (folder script : List ℕ) → IsCommand work.words (wire folder script)
      → Replays Trace folder script work.files work.host_faults work.host_faults_after work.disk work.disk_after work.handed status text → Says work status text
  tries : (number : ℕ) → IsCommand work.words (trial number) → Trials number work.disk work.disk_after work.handed status text → Says work status text
  rolls_back : IsCommand work.words rollback → RollsBackAs work.disk work.disk_after status text → Says work status text

-- What a command has to say, in which no failure is hidden: unless it says that the host failed, no call of it did; and unless
-- it says that the disk failed, the disk runs on, where no script was run.
pub record TellsAll (work : Work) (status : ℕ) (text : List ℕ) : Type 0 where
  pub says : Says work status text
  pub host : status ≢ 4 → work.host_faults_after ≡ work.host_faults
  pub disk : status ≢ 5 → IsNo UsesScript work.words → work.disk_after.stopped ≡ false

-- the same work, with this run to hand out
abbrev pub handing : Option RunSeen → Work → Work
handing handed work = record {
  words = work.words;
  disk = work.disk;
  disk_after = work.disk_after;
  files = work.files;
  files_after = work.files_after;
  host_faults = work.host_faults;
  host_faults_after = work.host_faults_after;
  handed = handed;
}

-- where a command runs out of memory, no failure of the disk is told so: it runs on, or was itself out of memory, which it
-- counts; or a script was run, on a disk that held a configuration
pub data DiskRunsOut (work : Work) : Type 0 where
  runs : work.disk_after.stopped ≡ false → DiskRunsOut work
  refused_memory : IsOutOfMemory work.disk work.disk_after → DiskRunsOut work
  in_run : (command : CommandView) → IsCommand work.words command → UsesScript command → HoldsSome work.disk → DiskRunsOut work

-- it ran out in the command, which hides no failure of the host or of the disk
pub record RunsOutInCommand (work : Work) : Type 0 where
  pub host : work.host_faults_after ≡ work.host_faults
  pub disk : DiskRunsOut work

-- why memory is out: the command had this to say, and it ran out as that was put; or it ran out in the command
pub data CommandRunsOut (work : Work) : Type 0 where
  as_it_was_put : (handed : Option RunSeen) (status : ℕ) (text : List ℕ) → TellsAll (handing handed work) status text → CommandRunsOut work
  in_command : RunsOutInCommand work → CommandRunsOut work

-- how a run ends
pub data Ends (run : Run) (ended : Ended) : Type 0 where
  -- exactly the text goes out
  told : (text : List ℕ) → TellsAll run.work ended.status text → IsExtended run.output run.output_after text → Ends run ended
  -- 7: the sink failed in this call, and a prefix of the text went out
  sink_failed : (status : ℕ) (text : List ℕ) (n : ℕ) → TellsAll run.work status text → IsExtended run.output run.output_after (take n text)
      → Rose run.sink_faults run.sink_faults_after → ended.status ≡ 7 → Ends run ended
  -- 6: out of memory
  no_memory : ended.status ≡ 6 → run.work.handed ≡ None → CommandRunsOut run.work → Ends run ended

-- ---- where a run can't but succeed

-- exactly this text went out, with status 0, or it is out of memory
abbrev pub Succeeds : Run → Ended → (text : List ℕ) → Type 0
Succeeds run ended text = (ended.status ≡ 6) ⊎ ((ended.status ≡ 0) × IsExtended run.output run.output_after text)

-- Neither the host nor the sink fails in the run.
pub record NothingFails (run : Run) : Type 0 where
  pub host_answers : ¬ Rose run.work.host_faults run.work.host_faults_after
  pub sink_answers : ¬ Rose run.sink_faults run.sink_faults_after

-- The arguments list a disk that tells its content and holds this configuration; and neither disk nor sink fails in the run.
pub record ListsSound (run : Run) (s : StandingView) : Type 0 where
  pub asked : IsCommand run.work.words list
  pub image : Image
  pub reads : run.work.disk.reads ≡ Some image
  pub holds : HoldsConfig image s
  pub disk_answers : ¬ Rose run.work.disk.faults run.work.disk_after.faults
  pub sink_answers : ¬ Rose run.sink_faults run.sink_faults_after

-- The arguments format the disk for this target; and neither disk nor sink fails in the run.
pub record FormatsSound (run : Run) (id : Identity) : Type 0 where
  pub asked : IsCommand run.work.words (format id)
  pub disk_answers : ¬ Rose run.work.disk.faults run.work.disk_after.faults
  pub sink_answers : ¬ Rose run.sink_faults run.sink_faults_after

-- The arguments roll back a disk that tells its content, and holds this active configuration, which hasn't the last sequence
-- number, and this former one; and neither disk nor sink fails in the run.
pub record RollsBackSound (run : Run) (active former : StandingView) : Type 0 where
  pub asked : IsCommand run.work.words rollback
  pub image : Image
  pub reads : run.work.disk.reads ≡ Some image
  pub holds : HoldsConfig image active
  pub holds_former : HoldsFormer image former
  pub goes_on : active.sequence < 4294967295
  pub disk_answers : ¬ Rose run.work.disk.faults run.work.disk_after.faults
  pub sink_answers : ¬ Rose run.sink_faults run.sink_faults_after

-- The arguments show this file, of at most 16,777,215 bytes, which the host has among these files, and whose bytes spell these
-- fields.
pub record ShowsSound (run : Run) (kind : ShownKind) (file : List ℕ) (told : Files) (fields : List ℕ) : Type 0 where
  pub asked : IsCommand run.work.words (show kind file)
  pub files : run.work.files ≡ Some told
  pub bytes : List ℕ
  pub there : told file ≡ Some bytes
  pub short : length bytes ≤ longest_file
  pub spells : HasFields kind bytes fields
  pub answers : NothingFails run

-- The arguments check the set in this folder, which the host has with these files, which can be read and has no finding.
pub record ChecksCleanSet (run : Run) (folder : List ℕ) (told : Files) : Type 0 where
  pub asked : IsCommand run.work.words (check folder)
  pub files : run.work.files ≡ Some told
  pub sound : IsCleanFolder folder told
  pub answers : NothingFails run

-- The arguments build the set of this recipe, which the host has among these files, and which says these lines. Their
-- sizes are right, and each of their sources is there, short enough and not too large beside the others.
pub record BuildsRightSet (run : Run) (recipe folder : List ℕ) (told : Files) (lines : List RecipeLine) : Type 0 where
  pub asked : IsCommand run.work.words (build recipe folder)
  pub files : run.work.files ≡ Some told
  pub text : List ℕ
  pub there : told recipe ≡ Some text
  pub said : recipe_said text ≡ Ok lines
  pub sizes : HaveSizes lines
  pub sources : CanTake told (fixed_length lines) (source_names lines)
  pub answers : NothingFails run

-- The arguments make the generated set of this number.
pub record MakesSet (run : Run) (number : ℕ) (folder : List ℕ) : Type 0 where
  pub asked : IsCommand run.work.words (make number folder)
  pub answers : NothingFails run

-- The arguments run this script on the set in this folder, and print this of it: the host has both, and all of the set can be
-- read. The disk tells its content, holds this configuration, and a power loss can leave nothing else; and it fails in the run
-- no more often than the trace says that it stops.
pub record ReplaysSound (run : Run) (telling : Telling) (folder name : List ℕ) (told : Files) (set : SetView) (script : List Line) : Type 0 where
  pub asked : IsCommand run.work.words (run_command telling folder name)
  pub files : run.work.files ≡ Some told
  pub inputs : HasInputs script_said folder name (Some told) set script
  pub start : StandingView
  pub image : Image
  pub reads : run.work.disk.reads ≡ Some image
  pub holds : HoldsConfig image start
  pub rests : LosesOnlyWork run.work.disk
  pub answers : NothingFails run
  pub stops : ¬ RoseBy (stops_of run.work.handed + 1) run.work.disk.faults run.work.disk_after.faults

-- The script was run to its end on this set, and exactly the report or the trace of this run went out, with its status.
pub record TellsRun (run : Run) (ended : Ended) (telling : Telling) (set : SetView) (script : List Line) : Type 0 where
  pub seen : RunSeen
  pub last : StandingView
  pub handed : run.work.handed ≡ Some seen
  pub standing : seen.standing ≡ Some last
  pub runs : RunsScript set script run.work.disk run.work.disk_after seen
  pub status : StatusOfRun seen.sessions ended.status
  pub text : IsExtended run.output run.output_after (told_as telling seen.sessions seen.trace last)

-- The arguments upload the generated set of this number to a target that can take it: the disk tells its content, holds such a
-- configuration, and a power loss can leave nothing else; and neither disk nor sink fails in the run.
pub record TriesSound (run : Run) (number : ℕ) : Type 0 where
  pub asked : IsCommand run.work.words (trial number)
  pub start : StandingView
  pub image : Image
  pub reads : run.work.disk.reads ≡ Some image
  pub holds : HoldsConfig image start
  pub can_take : CanTakeGeneratedSet start
  pub rests : LosesOnlyWork run.work.disk
  pub disk_answers : ¬ Rose run.work.disk.faults run.work.disk_after.faults
  pub sink_answers : ¬ Rose run.sink_faults run.sink_faults_after

-- The upload was completed, and the target has exactly the generated load: the report of this run went out, with status 0.
pub record TellsUpload (run : Run) (ended : Ended) (number : ℕ) : Type 0 where
  pub seen : RunSeen
  pub last : StandingView
  pub handed : run.work.handed ≡ Some seen
  pub standing : seen.standing ≡ Some last
  pub sessions : IsOneUpload seen.sessions
  pub loads : last.loads ≡ uploaded_load number ∷ []
  pub status : ended.status ≡ 0
  pub text : IsExtended run.output run.output_after (told_as Report seen.sessions seen.trace last)

-- ---- what becomes of the host's files

-- the arguments write a set into this folder
pub data WritesInto (words : List (List ℕ)) (folder : List ℕ) : Type 0 where
  of_recipe : (recipe : List ℕ) → IsCommand words (build recipe folder) → WritesInto words folder
  of_number : (number : ℕ) → IsCommand words (make number folder) → WritesInto words folder

-- The host tells its files after the run, and has in this folder what was written of the set of a recipe.
pub record LeavesFolder (folder : List ℕ) (before : Files) (after : Option Files) (sources : Sources) (lines : List RecipeLine) : Type 0 where
  pub files : Files
  pub told : after ≡ Some files
  pub holds : HoldsWritten folder before files sources lines

-- After the run the host has in this folder the set that the arguments name, of the recipe and the sources that it had.
pub data LeavesSet (words : List (List ℕ)) (told : Files) (folder : List ℕ) (after : Option Files) : Type 0 where
  has_built : (recipe text : List ℕ) (lines : List RecipeLine) → IsCommand words (build recipe folder) → told recipe ≡ Some text → recipe_said text ≡ Ok lines
      → LeavesFolder folder told after (sources_in told) lines → LeavesSet words told folder after
  has_made : (number : ℕ) → IsCommand words (make number folder) → LeavesFolder folder told after (generated_sources number) generated_lines
      → LeavesSet words told folder after

-- A name under which the arguments write: the set that they build or make has a list or a file there.
pub data IsWrittenName (words : List (List ℕ)) (told : Files) (name : List ℕ) : Type 0 where
  built : (recipe folder : List ℕ) → IsCommand words (build recipe folder) → IsNameBuilt recipe folder told name → IsWrittenName words told name
  made : (number : ℕ) (folder : List ℕ) → IsCommand words (make number folder) → IsNameMade number folder name → IsWrittenName words told name

-- ---- the whole

-- How a run ends, and that a failure of the sink is told; where it can't but succeed; and what it leaves where it says that it
-- built or made a set.
pub record EndsAsPromised (run : Run) (ended : Ended) : Type 0 where
  pub ends : Ends run ended
  pub sink_told : ended.status ≢ 7 → run.sink_faults_after ≡ run.sink_faults
  pub lists_it : (s : StandingView) → ListsSound run s → Succeeds run ended (listing s)
  pub formats_it : (id : Identity) → FormatsSound run id → Succeeds run ended (formatted_line id)
  pub rolls_it_back : (active former : StandingView) → RollsBackSound run active former → Succeeds run ended (listing (configured active former.loads))
  pub shows_it : (kind : ShownKind) (file : List ℕ) (told : Files) (fields : List ℕ) → ShowsSound run kind file told fields → Succeeds run ended fields
  pub finds_nothing : (folder : List ℕ) (told : Files) → ChecksCleanSet run folder told → Succeeds run ended (findings_text [])
  pub builds_it : (recipe folder : List ℕ) (told : Files) (lines : List RecipeLine) → BuildsRightSet run recipe folder told lines
      → Succeeds run ended (built_line (length (loads_of lines)) (length (recipe_bodies (sources_in told) lines)))
  pub makes_it : (number : ℕ) (folder : List ℕ) → MakesSet run number folder → Succeeds run ended (built_line 1 2)
  pub replays_it : (telling : Telling) (folder name : List ℕ) (told : Files) (set : SetView) (script : List Line) → ReplaysSound run telling folder name told set script
      → (ended.status ≡ 6) ⊎ TellsRun run ended telling set script
  pub tries_it : (number : ℕ) → TriesSound run number → (ended.status ≡ 6) ⊎ TellsUpload run ended number
  pub leaves_set : (folder : List ℕ) (told : Files) → WritesInto run.work.words folder → run.work.files ≡ Some told → ended.status ≡ 0
      → LeavesSet run.work.words told folder run.work.files_after
