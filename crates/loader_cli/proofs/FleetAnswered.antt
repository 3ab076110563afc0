-- Arguments are answered, of one unit or of a fleet.
use Rattle.std.proofs.Common.{◌≡◌, ℕ, zero, suc, List, [], ◌∷◌, length, take, Option, None, Result, Ok, Err, IfOk, refl, sym, ap, subst, ◌∙◌, arith}
use Rattle.std.specs.Prelude.{OnErr, codes, option_map}
use Rattle.std.specs.Fmt.{decimal}
use Rattle.std.proofs.lemmas.Fmt.{decimal_injective}
use Rattle.disk_model.specs.State.{DiskState}
use Rattle.load_base.specs.Host.{Files}
use Rattle.load_base.specs.declared.list.NoMemory.{NoMemory}
use Rattle.loader_cli.specs.Answers.{HidesNoFault, answered_status, status_of, text_of}
use Rattle.loader_cli.specs.Commands.{IsCommand, IsNo, IsOfFleet, IsPlain, UsesScript, command_view}
use Rattle.loader_cli.specs.Commands.CommandView.{build, check, fleet, format, list, make, replay, rollback, show, trial, wire}
use Rattle.loader_cli.specs.Commands.IsCommand.{on, plain}
use Rattle.loader_cli.specs.FleetReplays.{FleetSeen, fleet_seen}
use Rattle.loader_cli.specs.FleetRuns.{FleetRunsOut, FleetSays, FleetTellsAll, FleetWork, LeavesFleet, fleet_handing}
use Rattle.loader_cli.specs.Told.{AnswersAsAsked, AnswersFleet}
use Rattle.loader_cli.specs.Touches.{HandsOutByCommand, TouchesOnly}
use Rattle.loader_cli.specs.declared.answer.Answered.{Answered}
use Rattle.loader_cli.specs.declared.command.Command.{Command}
use Rattle.loader_cli.proofs.Named.{fleet_alone, fleet_no_on, never_fleet}

-- ---- one unit

-- arguments that are a command of one unit ask for no fleet
pub never_both : (words : List (List ℕ)) (command : Command) → IsCommand words (command_view command) → (count : ℕ) (folder script : List ℕ) → IsCommand words (fleet count folder script) → ⊥
never_both words command (plain is) count folder script (plain of) =
    never_fleet command (fleet_alone (decimal count ∷ folder ∷ script ∷ []) (command_view command) (subst (λ (list : List (List ℕ)). IsPlain list (command_view command)) of.0 is))
never_both words command (on n own low high is asked looks) count folder script (plain of) = fleet_no_on (decimal count ∷ folder ∷ script ∷ []) own (decimal n) (sym of.0 ∙ is)
never_both words command asked count folder script (on n own low high is of looks) = absurd looks

pub single : (words : List (List ℕ)) (command : Command) → IsCommand words (command_view command) → IsNo IsOfFleet words
single words command asked (fleet count folder script) is of = never_both words command asked count folder script is
single words command asked list is of = of
single words command asked (format id) is of = of
single words command asked (show kind file) is of = of
single words command asked (check folder) is of = of
single words command asked (build recipe folder) is of = of
single words command asked (make number folder) is of = of
single words command asked (replay folder script) is of = of
single words command asked (wire folder script) is of = of
single words command asked (trial number) is of = of
single words command asked rollback is of = of

pub hands_of_unit : (words : List (List ℕ)) (command : Command) → IsCommand words (command_view command) → (result : Result Answered NoMemory)
    → (¬ UsesScript (command_view command) → IfOk result (λ said. said.drive ≡ None)) → IfOk result (λ said. said.fleet ≡ None) → IfOk result (λ said. HandsOutByCommand words said.drive said.fleet)
hands_of_unit words command asked (Err fault) alone none = tt
hands_of_unit words command asked (Ok said) alone none = record {
  no_run = λ no. alone (no (command_view command) asked);
  no_fleet = λ no. none;
  none_beside = λ count folder script is. absurd (never_both words command asked count folder script is);
}

-- ---- a fleet

-- which arguments say whole
pub one_fleet : (words : List (List ℕ)) (count count_2 : ℕ) (folder folder_2 script script_2 : List ℕ) → IsCommand words (fleet count folder script) → IsCommand words (fleet count_2 folder_2 script_2)
    → (count ≡ count_2) × (folder ≡ folder_2) × (script ≡ script_2)
one_fleet words count count_2 folder folder_2 script script_2 (plain one) (plain other) =
    let both : codes "fleet" ∷ decimal count ∷ folder ∷ script ∷ [] ≡ codes "fleet" ∷ decimal count_2 ∷ folder_2 ∷ script_2 ∷ [] = sym one.0 ∙ other.0 in
    let counts : decimal count ≡ decimal count_2 = cc in
    (decimal_injective count count_2 (omega (arith, one.2)) (omega (arith, other.2)) counts, cc, cc)
one_fleet words count count_2 folder folder_2 script script_2 (on n own low high is of looks) other = absurd looks
one_fleet words count count_2 folder folder_2 script script_2 one (on n own low high is of looks) = absurd looks

-- what holds of them as they are asked for holds of whatever fleet the arguments ask for
pub as_asked : (words : List (List ℕ)) (count : ℕ) (folder script : List ℕ) → IsCommand words (fleet count folder script) → (Holds : (count : ℕ) (folder script : List ℕ) → Type 0) → Holds count folder script
    → (count_2 : ℕ) (folder_2 script_2 : List ℕ) → IsCommand words (fleet count_2 folder_2 script_2) → Holds count_2 folder_2 script_2
as_asked words count folder script asked Holds holds count_2 folder_2 script_2 is =
    let same = one_fleet words count count_2 folder folder_2 script script_2 asked is in
    subst (λ (n : ℕ). Holds n folder_2 script_2) same.0 (subst (λ (f : List ℕ). Holds count f script_2) same.1 (subst (λ (s : List ℕ). Holds count folder s) same.2 holds))

pub fleet_answered : {K : Type 0} (state : K → DiskState) (work : FleetWork K) (result : Result Answered NoMemory)
    → IfOk result (λ said. FleetSays state work (option_map fleet_seen said.fleet) (status_of said.answer) (text_of said.answer)) → HidesNoFault answered_status work.host_faults work.host_faults_after result
    → OnErr result (FleetRunsOut state work.disks work.disks_after) → LeavesFleet state work.disks work.disks_after → AnswersFleet state work result
fleet_answered state work (Ok said) says hides memory left = record { tells = record { says = says; host = hides.answered }; no_memory = tt; left = left }
fleet_answered state work (Err fault) says hides memory left = record { tells = tt; no_memory = (hides.no_memory, memory); left = left }

pub hands_of_fleet : (words : List (List ℕ)) (count : ℕ) (folder script : List ℕ) → IsCommand words (fleet count folder script) → (result : Result Answered NoMemory) → IfOk result (λ said. said.drive ≡ None)
    → IfOk result (λ said. HandsOutByCommand words said.drive said.fleet)
hands_of_fleet words count folder script asked (Err fault) none = tt
hands_of_fleet words count folder script asked (Ok said) none = record {
  no_run = λ no. none;
  no_fleet = λ no. absurd (no (fleet count folder script) asked tt);
  none_beside = λ n other name is. none;
}

-- what there is to say, whatever run is handed out
pub with_run : {K : Type 0} {state : K → DiskState} {work : FleetWork K} {handed : Option FleetSeen} {status : ℕ} {text : List ℕ} (run : Option FleetSeen) → FleetTellsAll state work handed status text
    → FleetTellsAll state (fleet_handing run work) handed status text
with_run run tells = record { says = tells.says; host = tells.host }

pub same_taken : {A : Type 0} (n : ℕ) (xs ys : List A) → length ys ≡ length xs → length (take n ys) ≡ length (take n xs)
same_taken zero xs ys same = refl
same_taken (suc n) [] [] same = refl
same_taken (suc n) [] (y ∷ ys) same = absurd (omega (arith, same))
same_taken (suc n) (x ∷ xs) [] same = absurd (omega (arith, same))
same_taken (suc n) (x ∷ xs) (y ∷ ys) same = ap suc (same_taken n xs ys (omega (arith, same)))

pub nothing_handed : {D F : Type 0} (words : List (List ℕ)) → HandsOutByCommand {D = D} {F = F} words None None
nothing_handed words = record { no_run = λ no. refl; no_fleet = λ no. refl; none_beside = λ count folder script is. refl }

-- ---- either

-- what was answered touched what the arguments use, whatever becomes of its run
pub touched_only : {H K D F : Type 0} {files : H → Option Files} {faults : H → ℕ} {state : K → DiskState} {words : List (List ℕ)} {host host_after : H} {disks disks_after : List K} {result : Result Answered NoMemory}
    (drive : Option D) (of_fleet : Option F) → AnswersAsAsked files faults state words host host_after disks disks_after result → HandsOutByCommand words drive of_fleet
    → TouchesOnly files state words host host_after disks disks_after drive of_fleet
touched_only drive of_fleet answers hands = record {
  disk = λ alone before after there still. (answers.unit alone before after there still).disk;
  others = answers.others;
  host = answers.host;
  hands_out = hands;
}
