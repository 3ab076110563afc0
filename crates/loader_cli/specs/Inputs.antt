-- What is read for `replay`, `wire` and `fleet` before a run, as the code keeps it.
use Rattle.std.specs.Prelude.{◌≡◌, ◌≢◌, ℕ, List, Option, codes}
use Rattle.std.specs.Option.{ForSome}
use Rattle.load_base.specs.Host.{Files}
use Rattle.batch_lists.specs.Batches.{BatchesListView, batches_list}
use Rattle.batch_lists.specs.declared.fault.BatchesFault.{BatchesFault}
use Rattle.media_check.specs.HostNames.{batches_name, files_name, host_name, loads_name}
use Rattle.media_check.specs.Openings.{IsShortOnHost}
use Rattle.media_check.specs.Sets.{found_in, set_view}
use Rattle.media_check.specs.declared.found.Found.{Found}
use Rattle.media_check.specs.declared.found.Found.TheVariants.{Read}
use Rattle.media_lists.specs.Files.{FilesListView, files_list}
use Rattle.media_lists.specs.Loads.{LoadsListView, loads_list}
use Rattle.exchange_trace.specs.FaultTexts.{script_fault_text}
use Rattle.exchange_trace.specs.declared.fault.ScriptFault.{ScriptFault}
use Rattle.exchange_trace.specs.declared.fault.ScriptFault.TheVariants.{Memory}
use Rattle.loader_cli.specs.Texts.{refused_input}
use Rattle.loader_cli.specs.Answers.{status_of, text_of}
use Rattle.loader_cli.specs.Replays.{HasText, RefusesText}
use Rattle.loader_cli.specs.declared.answer.Answer.{Answer}
use Rattle.loader_cli.specs.declared.inputs.Inputs.{Inputs}
use Rattle.loader_cli.specs.declared.inputs.Inputs.TheVariants.{Ready, Refused}

-- member 1's LOADS.LUM was read, and is this
abbrev pub HasLoads : (folder : List ℕ) → LoadsListView → Option Files → Type 0
HasLoads folder list files = ForSome files (λ told. IsShortOnHost told (loads_name folder 1) × (found_in loads_list (told (loads_name folder 1)) ≡ Read list))

-- its FILES.LUM was
abbrev pub HasListed : (folder : List ℕ) → FilesListView → Option Files → Type 0
HasListed folder list files = ForSome files (λ told. IsShortOnHost told (files_name folder 1) × (found_in files_list (told (files_name folder 1)) ≡ Read list))

-- what is found of its BATCHES.LUM, whether or not it is there or refused, is this
abbrev pub HasBatches : (folder : List ℕ) → Found BatchesListView BatchesFault → Option Files → Type 0
HasBatches folder found files = ForSome files (λ told. IsShortOnHost told (batches_name folder 1) × (found_in batches_list (told (batches_name folder 1)) ≡ found))

-- the set and the script's text, or the first input that is refused, where the host's faults were this many at first
abbrev pub ReadsInputs : (folder name : List ℕ) → Option Files → (before after : ℕ) → Inputs → Type 0
ReadsInputs folder name files before after (Ready set text) = HasText folder name files (set_view set) text.items
ReadsInputs folder name files before after (Refused answer) = RefusesText folder name files before after (status_of answer) (text_of answer)

-- the status of the answer of a run whose inputs are refused
abbrev pub inputs_status : Inputs → ℕ
inputs_status (Ready set text) = 0
inputs_status (Refused answer) = status_of answer

-- the host's name of a list of member 1
abbrev pub list_name : (folder list : List ℕ) → List ℕ
list_name folder list = host_name folder 1 (codes "\\") list

-- it is a refusal of an input, with this text
abbrev pub IsRefusal : Inputs → (text : List ℕ) → Type 0
IsRefusal (Ready set script) text = ⊥
IsRefusal (Refused answer) text = (status_of answer ≡ 3) × (text_of answer ≡ text)

-- it is what is told of a script of this name with this fault, which isn't want of memory
abbrev pub TellsScriptFault : (name : List ℕ) → ScriptFault → Answer → Type 0
TellsScriptFault name fault answer = (fault ≢ Memory) × (status_of answer ≡ 3) × (text_of answer ≡ refused_input name (script_fault_text fault))
