-- What arguments ask for, they ask for alone.
use Rattle.std.proofs.Common.{◌≡◌, ◌⊎◌, inl, inr, ℕ, ◌+◌, List, [], ◌∷◌, Bool, true, false, refl, sym, ap, subst, ◌∙◌, arith}
use Rattle.std.specs.Fmt.{decimal}
use Rattle.std.specs.Prelude.{codes}
use Rattle.std.specs.Bool.{Decides}
use Rattle.std.specs.Cmp.Lexicographic.{pointwise, pointwise_decides}
use Rattle.std.proofs.lemmas.Fmt.{decimal_injective}
use Rattle.load_base.specs.Bytes.{same_bytes}
use Rattle.load_base.proofs.EqualityLemmas.{equal_bytes}
use Rattle.loader_cli.specs.Builds.{BuildsFolder, MakesFolder}
use Rattle.loader_cli.specs.Commands.{CommandView, FormatsOrRollsBack, IsCommand, IsNo, IsPlain, disk_named}
use Rattle.loader_cli.specs.Commands.IsCommand.{on, plain}
use Rattle.loader_cli.specs.Commands.CommandView.{list, format, show, check, build, make, replay, wire, trial, rollback, fleet}
use Rattle.loader_cli.specs.Replays.{Replays, run_command}
use Rattle.shown_files.specs.Kinds.{IsNameOf}
use Rattle.shown_files.specs.declared.kind.ShownKind.{ShownKind}
use Rattle.disk_layout.specs.declared.identity.Identity.{Identity}
use Rattle.loader_cli.specs.Runs.{Work, host_work, Says, Checks, Formats, Lists, Shows}
use Rattle.loader_cli.specs.Rollbacks.{RollsBackAs}
use Rattle.loader_cli.specs.Trials.{Trials}
use Rattle.loader_cli.specs.declared.replay.Telling.{Telling}
use Rattle.loader_cli.specs.declared.replay.Telling.TheVariants.{Report, Trace}
use Rattle.loader_cli.proofs.Named.{begins_with_no_on, named_below, names}
use Rattle.loader_cli.proofs.ShownOnce.{one_kind}
use Rattle.loader_cli.proofs.Targets.{one_plain_target}
use Rattle.loader_cli.specs.Runs.Says.{refused, lists, formats, shows, checks, builds, makes, replays, traces, tries, rolls_back}

-- ---- the first argument

verb : CommandView → List ℕ
verb list = codes "list"
verb (format id) = codes "format"
verb (show kind file) = codes "show"
verb (check folder) = codes "check"
verb (build recipe folder) = codes "build"
verb (make number folder) = codes "make"
verb (replay folder script) = codes "replay"
verb (wire folder script) = codes "wire"
verb (trial number) = codes "trial"
verb rollback = codes "rollback"
verb (fleet count folder script) = codes "fleet"

first : List (List ℕ) → List ℕ
first [] = []
first (word ∷ words) = word

begins : (words : List (List ℕ)) (command : CommandView) → IsPlain words command → first words ≡ verb command
unfolding verb first
begins words list is = ap first is
begins words (format id) is = ap first is.0
begins words (show kind file) is = ap first is.0
begins words (check folder) is = ap first is.0
begins words (build recipe folder) is = ap first is.0
begins words (make number folder) is = ap first is.0
begins words (replay folder script) is = ap first is.0
begins words (wire folder script) is = ap first is.0
begins words (trial number) is = ap first is.0
begins words rollback is = ap first is
begins words (fleet count folder script) is = ap first is.0

-- arguments that are two commands are both in the same words
same_asked : (words : List (List ℕ)) (one other : CommandView) → IsCommand words one → IsCommand words other → (own : List (List ℕ)) × IsPlain own one × IsPlain own other
same_asked words one other (plain first) (plain second) = (words, first, second)
same_asked words one other (on n own _ _ is first _) (on m own_2 _ _ is_2 second _) =
    let same : codes "on" ∷ decimal n ∷ own ≡ codes "on" ∷ decimal m ∷ own_2 = sym is ∙ is_2 in
    let after : own_2 ≡ own = cc in
    (own, first, subst (λ (w : List (List ℕ)). IsPlain w other) after second)
same_asked words one other (plain first) (on n own _ _ is second _) = absurd (begins_with_no_on (decimal n) own one (subst (λ (w : List (List ℕ)). IsPlain w one) is first))
same_asked words one other (on n own _ _ is first _) (plain second) = absurd (begins_with_no_on (decimal n) own other (subst (λ (w : List (List ℕ)). IsPlain w other) is second))

-- arguments aren't two commands with other first words
same_verb : (words : List (List ℕ)) (one other : CommandView) → IsCommand words one → IsCommand words other → verb one ≡ verb other
same_verb words one other first second = let (own, one_is, other_is) = same_asked words one other first second in sym (begins own one one_is) ∙ begins own other other_is

apart_verbs : {one other : List ℕ} → one ≡ other → same_bytes one other ≡ false → ⊥
apart_verbs {one} {other} same apart = let both : true ≡ false = sym ((equal_bytes one other).1 same) ∙ apart in absurd cc

-- and not two that format for other targets
pub one_target : (words : List (List ℕ)) (id other : Identity) → IsCommand words (format id) → IsCommand words (format other) → id ≡ other
one_target words id other one two = let (own, first, second) = same_asked words (format id) (format other) one two in one_plain_target own id other first second

-- ---- the others

one_folder : (words : List (List ℕ)) (folder other : List ℕ) → IsCommand words (check folder) → IsCommand words (check other) → other ≡ folder
one_folder words folder other one two =
    let (own, first, second) = same_asked words (check folder) (check other) one two in
    let same : codes "check" ∷ other ∷ [] ≡ codes "check" ∷ folder ∷ [] = sym second.0 ∙ first.0 in cc

pub one_build : (words : List (List ℕ)) (recipe folder recipe_2 folder_2 : List ℕ) → IsCommand words (build recipe folder) → IsCommand words (build recipe_2 folder_2)
    → (recipe_2 ≡ recipe) × (folder_2 ≡ folder)
one_build words recipe folder recipe_2 folder_2 one two =
    let (own, first, second) = same_asked words (build recipe folder) (build recipe_2 folder_2) one two in
    let same : codes "build" ∷ recipe_2 ∷ folder_2 ∷ [] ≡ codes "build" ∷ recipe ∷ folder ∷ [] = sym second.0 ∙ first.0 in (cc, cc)

pub one_make : (words : List (List ℕ)) (number number_2 : ℕ) (folder folder_2 : List ℕ) → IsCommand words (make number folder) → IsCommand words (make number_2 folder_2)
    → (number_2 ≡ number) × (folder_2 ≡ folder)
one_make words number number_2 folder folder_2 one two =
    let (own, first, second) = same_asked words (make number folder) (make number_2 folder_2) one two in
    let same : codes "make" ∷ decimal number_2 ∷ folder_2 ∷ [] ≡ codes "make" ∷ decimal number ∷ folder ∷ [] = sym second.0 ∙ first.0 in
    let digits : decimal number_2 ≡ decimal number = cc in
    (decimal_injective number_2 number (omega (arith, second.1)) (omega (arith, first.1)) digits, cc)

-- ---- what is said of a command

pub says_of_check : (work : Work) (folder : List ℕ) (status : ℕ) (text : List ℕ) → IsCommand work.words (check folder) → Says work status text
    → Checks folder work.files work.host_faults work.host_faults_after status text
unfolding verb
says_of_check work folder status text asked (refused none _ _) = absurd (none (check folder) asked tt)
says_of_check work folder status text asked (rolls_back is _) = absurd (apart_verbs (same_verb work.words (check folder) rollback asked is) refl)
says_of_check work folder status text asked (replays other script is _) = absurd (apart_verbs (same_verb work.words (check folder) (replay other script) asked is) refl)
says_of_check work folder status text asked (traces other script is _) = absurd (apart_verbs (same_verb work.words (check folder) (wire other script) asked is) refl)
says_of_check work folder status text asked (tries number is _) = absurd (apart_verbs (same_verb work.words (check folder) (trial number) asked is) refl)
says_of_check work folder status text asked (lists is _) = absurd (apart_verbs (same_verb work.words (check folder) list asked is) refl)
says_of_check work folder status text asked (formats id is _) = absurd (apart_verbs (same_verb work.words (check folder) (format id) asked is) refl)
says_of_check work folder status text asked (shows kind file is _) = absurd (apart_verbs (same_verb work.words (check folder) (show kind file) asked is) refl)
says_of_check work folder status text asked (builds recipe other is _) = absurd (apart_verbs (same_verb work.words (check folder) (build recipe other) asked is) refl)
says_of_check work folder status text asked (makes number other is _) = absurd (apart_verbs (same_verb work.words (check folder) (make number other) asked is) refl)
says_of_check work folder status text asked (checks other is found) =
    subst (λ (f : List ℕ). Checks f work.files work.host_faults work.host_faults_after status text) (one_folder work.words folder other asked is) found

pub says_of_build : (work : Work) (recipe folder : List ℕ) (status : ℕ) (text : List ℕ) → IsCommand work.words (build recipe folder) → Says work status text
    → BuildsFolder recipe folder (host_work work) status text
unfolding verb
says_of_build work recipe folder status text asked (refused none _ _) = absurd (none (build recipe folder) asked tt)
says_of_build work recipe folder status text asked (rolls_back is _) = absurd (apart_verbs (same_verb work.words (build recipe folder) rollback asked is) refl)
says_of_build work recipe folder status text asked (replays other script is _) = absurd (apart_verbs (same_verb work.words (build recipe folder) (replay other script) asked is) refl)
says_of_build work recipe folder status text asked (traces other script is _) = absurd (apart_verbs (same_verb work.words (build recipe folder) (wire other script) asked is) refl)
says_of_build work recipe folder status text asked (tries number is _) = absurd (apart_verbs (same_verb work.words (build recipe folder) (trial number) asked is) refl)
says_of_build work recipe folder status text asked (lists is _) = absurd (apart_verbs (same_verb work.words (build recipe folder) list asked is) refl)
says_of_build work recipe folder status text asked (formats id is _) = absurd (apart_verbs (same_verb work.words (build recipe folder) (format id) asked is) refl)
says_of_build work recipe folder status text asked (shows kind file is _) = absurd (apart_verbs (same_verb work.words (build recipe folder) (show kind file) asked is) refl)
says_of_build work recipe folder status text asked (checks other is _) = absurd (apart_verbs (same_verb work.words (build recipe folder) (check other) asked is) refl)
says_of_build work recipe folder status text asked (makes number other is _) = absurd (apart_verbs (same_verb work.words (build recipe folder) (make number other) asked is) refl)
says_of_build work recipe folder status text asked (builds recipe_2 folder_2 is found) =
    let same = one_build work.words recipe folder recipe_2 folder_2 asked is in
    subst (λ (r : List ℕ). BuildsFolder r folder (host_work work) status text) same.0 (subst (λ (f : List ℕ). BuildsFolder recipe_2 f (host_work work) status text) same.1 found)

pub says_of_make : (work : Work) (number : ℕ) (folder : List ℕ) (status : ℕ) (text : List ℕ) → IsCommand work.words (make number folder) → Says work status text
    → MakesFolder number folder (host_work work) status text
unfolding verb
says_of_make work number folder status text asked (refused none _ _) = absurd (none (make number folder) asked tt)
says_of_make work number folder status text asked (rolls_back is _) = absurd (apart_verbs (same_verb work.words (make number folder) rollback asked is) refl)
says_of_make work number folder status text asked (replays other script is _) = absurd (apart_verbs (same_verb work.words (make number folder) (replay other script) asked is) refl)
says_of_make work number folder status text asked (traces other script is _) = absurd (apart_verbs (same_verb work.words (make number folder) (wire other script) asked is) refl)
says_of_make work number folder status text asked (tries other is _) = absurd (apart_verbs (same_verb work.words (make number folder) (trial other) asked is) refl)
says_of_make work number folder status text asked (lists is _) = absurd (apart_verbs (same_verb work.words (make number folder) list asked is) refl)
says_of_make work number folder status text asked (formats id is _) = absurd (apart_verbs (same_verb work.words (make number folder) (format id) asked is) refl)
says_of_make work number folder status text asked (shows kind file is _) = absurd (apart_verbs (same_verb work.words (make number folder) (show kind file) asked is) refl)
says_of_make work number folder status text asked (checks other is _) = absurd (apart_verbs (same_verb work.words (make number folder) (check other) asked is) refl)
says_of_make work number folder status text asked (builds recipe other is _) = absurd (apart_verbs (same_verb work.words (make number folder) (build recipe other) asked is) refl)
says_of_make work number folder status text asked (makes number_2 folder_2 is found) =
    let same = one_make work.words number number_2 folder folder_2 asked is in
    subst (λ (n : ℕ). MakesFolder n folder (host_work work) status text) same.0 (subst (λ (f : List ℕ). MakesFolder number_2 f (host_work work) status text) same.1 found)

-- what is said of a trial
pub one_trial : (words : List (List ℕ)) (number number_2 : ℕ) → IsCommand words (trial number) → IsCommand words (trial number_2) → number_2 ≡ number
one_trial words number number_2 one two =
    let (own, first, second) = same_asked words (trial number) (trial number_2) one two in
    let same : codes "trial" ∷ decimal number_2 ∷ [] ≡ codes "trial" ∷ decimal number ∷ [] = sym second.0 ∙ first.0 in
    let digits : decimal number_2 ≡ decimal number = cc in
    decimal_injective number_2 number (omega (arith, second.1)) (omega (arith, first.1)) digits

pub says_of_trial : (work : Work) (number : ℕ) (status : ℕ) (text : List ℕ) → IsCommand work.words (trial number) → Says work status text
    → Trials number work.disk work.disk_after work.handed status text
unfolding verb
says_of_trial work number status text asked (refused none _ _) = absurd (none (trial number) asked tt)
says_of_trial work number status text asked (rolls_back is _) = absurd (apart_verbs (same_verb work.words (trial number) rollback asked is) refl)
says_of_trial work number status text asked (replays other script is _) = absurd (apart_verbs (same_verb work.words (trial number) (replay other script) asked is) refl)
says_of_trial work number status text asked (traces other script is _) = absurd (apart_verbs (same_verb work.words (trial number) (wire other script) asked is) refl)
says_of_trial work number status text asked (lists is _) = absurd (apart_verbs (same_verb work.words (trial number) list asked is) refl)
says_of_trial work number status text asked (formats id is _) = absurd (apart_verbs (same_verb work.words (trial number) (format id) asked is) refl)
says_of_trial work number status text asked (shows kind file is _) = absurd (apart_verbs (same_verb work.words (trial number) (show kind file) asked is) refl)
says_of_trial work number status text asked (checks other is _) = absurd (apart_verbs (same_verb work.words (check other) (trial number) is asked) refl)
says_of_trial work number status text asked (builds recipe other is _) = absurd (apart_verbs (same_verb work.words (build recipe other) (trial number) is asked) refl)
says_of_trial work number status text asked (makes other folder is _) = absurd (apart_verbs (same_verb work.words (trial number) (make other folder) asked is) refl)
says_of_trial work number status text asked (tries other is found) =
    subst (λ (n : ℕ). Trials n work.disk work.disk_after work.handed status text) (one_trial work.words number other asked is) found

-- which formats no disk, and rolls none back
pub trial_formats_none : (words : List (List ℕ)) (number : ℕ) → IsCommand words (trial number) → IsNo FormatsOrRollsBack words
unfolding verb
trial_formats_none words number asked (format id) is writes = absurd (apart_verbs (same_verb words (trial number) (format id) asked is) refl)
trial_formats_none words number asked rollback is writes = absurd (apart_verbs (same_verb words (trial number) rollback asked is) refl)
trial_formats_none words number asked list is writes = writes
trial_formats_none words number asked (show kind file) is writes = writes
trial_formats_none words number asked (check other) is writes = writes
trial_formats_none words number asked (build recipe other) is writes = writes
trial_formats_none words number asked (make other folder) is writes = writes
trial_formats_none words number asked (replay other name) is writes = writes
trial_formats_none words number asked (wire other name) is writes = writes
trial_formats_none words number asked (trial other) is writes = writes
trial_formats_none words number asked (fleet count folder script) is writes = writes

-- what is said of a run of a script
one_replay : (words : List (List ℕ)) (folder script folder_2 script_2 : List ℕ) → IsCommand words (replay folder script) → IsCommand words (replay folder_2 script_2) → (folder_2 ≡ folder) × (script_2 ≡ script)
one_replay words folder script folder_2 script_2 one two =
    let (own, first, second) = same_asked words (replay folder script) (replay folder_2 script_2) one two in
    let same : codes "replay" ∷ folder_2 ∷ script_2 ∷ [] ≡ codes "replay" ∷ folder ∷ script ∷ [] = sym second.0 ∙ first.0 in (cc, cc)

one_wire : (words : List (List ℕ)) (folder script folder_2 script_2 : List ℕ) → IsCommand words (wire folder script) → IsCommand words (wire folder_2 script_2) → (folder_2 ≡ folder) × (script_2 ≡ script)
one_wire words folder script folder_2 script_2 one two =
    let (own, first, second) = same_asked words (wire folder script) (wire folder_2 script_2) one two in
    let same : codes "wire" ∷ folder_2 ∷ script_2 ∷ [] ≡ codes "wire" ∷ folder ∷ script ∷ [] = sym second.0 ∙ first.0 in (cc, cc)

abbrev ReplaysIt : Work → Telling → (folder script : List ℕ) (status : ℕ) (text : List ℕ) → Type 0
ReplaysIt work telling folder script status text = Replays telling folder script work.files work.host_faults work.host_faults_after work.disk work.disk_after work.handed status text

says_of_replay : (work : Work) (folder script : List ℕ) (status : ℕ) (text : List ℕ) → IsCommand work.words (replay folder script) → Says work status text → ReplaysIt work Report folder script status text
unfolding verb
says_of_replay work folder script status text asked (refused none _ _) = absurd (none (replay folder script) asked tt)
says_of_replay work folder script status text asked (rolls_back is _) = absurd (apart_verbs (same_verb work.words (replay folder script) rollback asked is) refl)
says_of_replay work folder script status text asked (lists is _) = absurd (apart_verbs (same_verb work.words (replay folder script) list asked is) refl)
says_of_replay work folder script status text asked (formats id is _) = absurd (apart_verbs (same_verb work.words (replay folder script) (format id) asked is) refl)
says_of_replay work folder script status text asked (shows kind file is _) = absurd (apart_verbs (same_verb work.words (replay folder script) (show kind file) asked is) refl)
says_of_replay work folder script status text asked (checks other is _) = absurd (apart_verbs (same_verb work.words (replay folder script) (check other) asked is) refl)
says_of_replay work folder script status text asked (builds recipe other is _) = absurd (apart_verbs (same_verb work.words (replay folder script) (build recipe other) asked is) refl)
says_of_replay work folder script status text asked (makes number other is _) = absurd (apart_verbs (same_verb work.words (replay folder script) (make number other) asked is) refl)
says_of_replay work folder script status text asked (traces other script_2 is _) = absurd (apart_verbs (same_verb work.words (replay folder script) (wire other script_2) asked is) refl)
says_of_replay work folder script status text asked (tries number is _) = absurd (apart_verbs (same_verb work.words (replay folder script) (trial number) asked is) refl)
says_of_replay work folder script status text asked (replays folder_2 script_2 is found) =
    let same = one_replay work.words folder script folder_2 script_2 asked is in
    subst (λ (f : List ℕ). ReplaysIt work Report f script status text) same.0 (subst (λ (s : List ℕ). ReplaysIt work Report folder_2 s status text) same.1 found)

says_of_wire : (work : Work) (folder script : List ℕ) (status : ℕ) (text : List ℕ) → IsCommand work.words (wire folder script) → Says work status text → ReplaysIt work Trace folder script status text
unfolding verb
says_of_wire work folder script status text asked (refused none _ _) = absurd (none (wire folder script) asked tt)
says_of_wire work folder script status text asked (rolls_back is _) = absurd (apart_verbs (same_verb work.words (wire folder script) rollback asked is) refl)
says_of_wire work folder script status text asked (lists is _) = absurd (apart_verbs (same_verb work.words (wire folder script) list asked is) refl)
says_of_wire work folder script status text asked (formats id is _) = absurd (apart_verbs (same_verb work.words (wire folder script) (format id) asked is) refl)
says_of_wire work folder script status text asked (shows kind file is _) = absurd (apart_verbs (same_verb work.words (wire folder script) (show kind file) asked is) refl)
says_of_wire work folder script status text asked (checks other is _) = absurd (apart_verbs (same_verb work.words (wire folder script) (check other) asked is) refl)
says_of_wire work folder script status text asked (builds recipe other is _) = absurd (apart_verbs (same_verb work.words (wire folder script) (build recipe other) asked is) refl)
says_of_wire work folder script status text asked (makes number other is _) = absurd (apart_verbs (same_verb work.words (wire folder script) (make number other) asked is) refl)
says_of_wire work folder script status text asked (replays other script_2 is _) = absurd (apart_verbs (same_verb work.words (wire folder script) (replay other script_2) asked is) refl)
says_of_wire work folder script status text asked (tries number is _) = absurd (apart_verbs (same_verb work.words (wire folder script) (trial number) asked is) refl)
says_of_wire work folder script status text asked (traces folder_2 script_2 is found) =
    let same = one_wire work.words folder script folder_2 script_2 asked is in
    subst (λ (f : List ℕ). ReplaysIt work Trace f script status text) same.0 (subst (λ (s : List ℕ). ReplaysIt work Trace folder_2 s status text) same.1 found)

pub says_of_run : (telling : Telling) (work : Work) (folder script : List ℕ) (status : ℕ) (text : List ℕ) → IsCommand work.words (run_command telling folder script) → Says work status text
    → ReplaysIt work telling folder script status text
says_of_run Report work folder script status text asked says = says_of_replay work folder script status text asked says
says_of_run Trace work folder script status text asked says = says_of_wire work folder script status text asked says

-- and such a run formats no disk, and rolls none back
pub formats_none : (telling : Telling) (words : List (List ℕ)) (folder script : List ℕ) → IsCommand words (run_command telling folder script) → IsNo FormatsOrRollsBack words
unfolding verb
formats_none Report words folder script asked (format id) is writes = apart_verbs (same_verb words (replay folder script) (format id) asked is) refl
formats_none Trace words folder script asked (format id) is writes = absurd (apart_verbs (same_verb words (wire folder script) (format id) asked is) refl)
formats_none Report words folder script asked rollback is writes = absurd (apart_verbs (same_verb words (replay folder script) rollback asked is) refl)
formats_none Report words folder script asked (fleet count folder_2 script_2) is writes = writes
formats_none Trace words folder script asked rollback is writes = absurd (apart_verbs (same_verb words (wire folder script) rollback asked is) refl)
formats_none Trace words folder script asked (fleet count folder_2 script_2) is writes = writes
formats_none telling words folder script asked list is writes = writes
formats_none telling words folder script asked (show kind file) is writes = writes
formats_none telling words folder script asked (check other) is writes = writes
formats_none telling words folder script asked (build recipe other) is writes = writes
formats_none telling words folder script asked (make number other) is writes = writes
formats_none telling words folder script asked (replay other name) is writes = writes
formats_none telling words folder script asked (wire other name) is writes = writes
formats_none telling words folder script asked (trial number) is writes = writes

-- ---- `list`, `format`, `show`

pub says_of_list : (work : Work) (status : ℕ) (text : List ℕ) → IsCommand work.words list → Says work status text → Lists work.disk work.disk_after status text
unfolding verb
says_of_list work status text asked (refused none _ _) = absurd (none list asked tt)
says_of_list work status text asked (rolls_back is _) = absurd (apart_verbs (same_verb work.words list rollback asked is) refl)
says_of_list work status text asked (formats id_2 is _) = absurd (apart_verbs (same_verb work.words list (format id_2) asked is) refl)
says_of_list work status text asked (shows kind_2 file_2 is _) = absurd (apart_verbs (same_verb work.words list (show kind_2 file_2) asked is) refl)
says_of_list work status text asked (checks other is _) = absurd (apart_verbs (same_verb work.words list (check other) asked is) refl)
says_of_list work status text asked (builds recipe other is _) = absurd (apart_verbs (same_verb work.words list (build recipe other) asked is) refl)
says_of_list work status text asked (makes number other is _) = absurd (apart_verbs (same_verb work.words list (make number other) asked is) refl)
says_of_list work status text asked (replays other script is _) = absurd (apart_verbs (same_verb work.words list (replay other script) asked is) refl)
says_of_list work status text asked (traces other script is _) = absurd (apart_verbs (same_verb work.words list (wire other script) asked is) refl)
says_of_list work status text asked (tries number is _) = absurd (apart_verbs (same_verb work.words list (trial number) asked is) refl)
says_of_list work status text asked (lists is found) = found

-- of the same target, perhaps with other spare capacity of its names
pub says_of_format : (work : Work) (id : Identity) (status : ℕ) (text : List ℕ) → IsCommand work.words (format id) → Says work status text
    → (other : Identity) × IsCommand work.words (format other) × Formats work.disk work.disk_after other status text
unfolding verb
says_of_format work id status text asked (refused none _ _) = absurd (none (format id) asked tt)
says_of_format work id status text asked (rolls_back is _) = absurd (apart_verbs (same_verb work.words (format id) rollback asked is) refl)
says_of_format work id status text asked (lists is _) = absurd (apart_verbs (same_verb work.words (format id) list asked is) refl)
says_of_format work id status text asked (shows kind_2 file_2 is _) = absurd (apart_verbs (same_verb work.words (format id) (show kind_2 file_2) asked is) refl)
says_of_format work id status text asked (checks other is _) = absurd (apart_verbs (same_verb work.words (format id) (check other) asked is) refl)
says_of_format work id status text asked (builds recipe other is _) = absurd (apart_verbs (same_verb work.words (format id) (build recipe other) asked is) refl)
says_of_format work id status text asked (makes number other is _) = absurd (apart_verbs (same_verb work.words (format id) (make number other) asked is) refl)
says_of_format work id status text asked (replays other script is _) = absurd (apart_verbs (same_verb work.words (format id) (replay other script) asked is) refl)
says_of_format work id status text asked (traces other script is _) = absurd (apart_verbs (same_verb work.words (format id) (wire other script) asked is) refl)
says_of_format work id status text asked (tries number is _) = absurd (apart_verbs (same_verb work.words (format id) (trial number) asked is) refl)
says_of_format work id status text asked (formats other is found) = (other, is, found)

pub says_of_show : (work : Work) (kind : ShownKind) (file : List ℕ) (status : ℕ) (text : List ℕ) → IsCommand work.words (show kind file) → Says work status text
    → Shows kind work.files work.host_faults work.host_faults_after file status text
unfolding verb
says_of_show work kind file status text asked (refused none _ _) = absurd (none (show kind file) asked tt)
says_of_show work kind file status text asked (rolls_back is _) = absurd (apart_verbs (same_verb work.words (show kind file) rollback asked is) refl)
says_of_show work kind file status text asked (lists is _) = absurd (apart_verbs (same_verb work.words (show kind file) list asked is) refl)
says_of_show work kind file status text asked (formats id_2 is _) = absurd (apart_verbs (same_verb work.words (show kind file) (format id_2) asked is) refl)
says_of_show work kind file status text asked (checks other is _) = absurd (apart_verbs (same_verb work.words (show kind file) (check other) asked is) refl)
says_of_show work kind file status text asked (builds recipe other is _) = absurd (apart_verbs (same_verb work.words (show kind file) (build recipe other) asked is) refl)
says_of_show work kind file status text asked (makes number other is _) = absurd (apart_verbs (same_verb work.words (show kind file) (make number other) asked is) refl)
says_of_show work kind file status text asked (replays other script is _) = absurd (apart_verbs (same_verb work.words (show kind file) (replay other script) asked is) refl)
says_of_show work kind file status text asked (traces other script is _) = absurd (apart_verbs (same_verb work.words (show kind file) (wire other script) asked is) refl)
says_of_show work kind file status text asked (tries number is _) = absurd (apart_verbs (same_verb work.words (show kind file) (trial number) asked is) refl)
says_of_show work kind file status text asked (shows kind_2 file_2 is found) =
    let (own, first, second) = same_asked work.words (show kind file) (show kind_2 file_2) asked is in
    let same : codes "show" ∷ file_2 ∷ [] ≡ codes "show" ∷ file ∷ [] = sym second.0 ∙ first.0 in
    let name : file_2 ≡ file = cc in
    let shown : kind_2 ≡ kind = one_kind kind kind_2 file first.2 (subst (λ (f : List ℕ). IsNameOf kind_2 f) name second.2) in
    subst (λ (k : ShownKind). Shows k work.files work.host_faults work.host_faults_after file status text) shown
    (subst (λ (f : List ℕ). Shows kind_2 work.files work.host_faults work.host_faults_after f status text) name found)

-- ---- `format` and `rollback`

-- another command formats nothing, and rolls nothing back
pub formats_no : (words : List (List ℕ)) (command : CommandView) (id : Identity) → IsCommand words command → ¬ FormatsOrRollsBack command → IsCommand words (format id) → ⊥
unfolding verb
formats_no words list id asked other is = absurd (apart_verbs (same_verb words (format id) list is asked) refl)
formats_no words (format target) id asked other is = other tt
formats_no words (show kind file) id asked other is = absurd (apart_verbs (same_verb words (format id) (show kind file) is asked) refl)
formats_no words (check folder) id asked other is = absurd (apart_verbs (same_verb words (format id) (check folder) is asked) refl)
formats_no words (build recipe folder) id asked other is = absurd (apart_verbs (same_verb words (format id) (build recipe folder) is asked) refl)
formats_no words (make number folder) id asked other is = absurd (apart_verbs (same_verb words (format id) (make number folder) is asked) refl)
formats_no words (replay folder script) id asked other is = apart_verbs (same_verb words (format id) (replay folder script) is asked) refl
formats_no words (wire folder script) id asked other is = absurd (apart_verbs (same_verb words (format id) (wire folder script) is asked) refl)
formats_no words (trial number) id asked other is = absurd (apart_verbs (same_verb words (format id) (trial number) is asked) refl)
formats_no words rollback id asked other is = other tt
formats_no words (fleet count folder script) id asked other is = absurd (apart_verbs (same_verb words (format id) (fleet count folder script) is asked) refl)

pub rolls_no : (words : List (List ℕ)) (command : CommandView) → IsCommand words command → ¬ FormatsOrRollsBack command → IsCommand words rollback → ⊥
unfolding verb
rolls_no words list asked other is = absurd (apart_verbs (same_verb words rollback list is asked) refl)
rolls_no words (format target) asked other is = other tt
rolls_no words (show kind file) asked other is = absurd (apart_verbs (same_verb words rollback (show kind file) is asked) refl)
rolls_no words (check folder) asked other is = absurd (apart_verbs (same_verb words rollback (check folder) is asked) refl)
rolls_no words (build recipe folder) asked other is = absurd (apart_verbs (same_verb words rollback (build recipe folder) is asked) refl)
rolls_no words (make number folder) asked other is = absurd (apart_verbs (same_verb words rollback (make number folder) is asked) refl)
rolls_no words (replay folder script) asked other is = absurd (apart_verbs (same_verb words rollback (replay folder script) is asked) refl)
rolls_no words (wire folder script) asked other is = absurd (apart_verbs (same_verb words rollback (wire folder script) is asked) refl)
rolls_no words (trial number) asked other is = absurd (apart_verbs (same_verb words rollback (trial number) is asked) refl)
rolls_no words rollback asked other is = other tt
rolls_no words (fleet count folder script) asked other is = absurd (apart_verbs (same_verb words rollback (fleet count folder script) is asked) refl)

-- arguments that format roll nothing back
pub not_both_asked : (words : List (List ℕ)) (id : Identity) → IsCommand words (format id) → IsCommand words rollback → ⊥
unfolding verb
not_both_asked words id asked is = absurd (apart_verbs (same_verb words (format id) rollback asked is) refl)

pub says_of_rollback : (work : Work) (status : ℕ) (text : List ℕ) → IsCommand work.words rollback → Says work status text → RollsBackAs work.disk work.disk_after status text
unfolding verb
says_of_rollback work status text asked (refused none _ _) = absurd (none rollback asked tt)
says_of_rollback work status text asked (lists is _) = absurd (apart_verbs (same_verb work.words rollback list asked is) refl)
says_of_rollback work status text asked (formats id is _) = absurd (apart_verbs (same_verb work.words rollback (format id) asked is) refl)
says_of_rollback work status text asked (shows kind file is _) = absurd (apart_verbs (same_verb work.words rollback (show kind file) asked is) refl)
says_of_rollback work status text asked (checks folder is _) = absurd (apart_verbs (same_verb work.words rollback (check folder) asked is) refl)
says_of_rollback work status text asked (builds recipe folder is _) = absurd (apart_verbs (same_verb work.words rollback (build recipe folder) asked is) refl)
says_of_rollback work status text asked (makes number folder is _) = absurd (apart_verbs (same_verb work.words rollback (make number folder) asked is) refl)
says_of_rollback work status text asked (replays folder script is _) = absurd (apart_verbs (same_verb work.words rollback (replay folder script) asked is) refl)
says_of_rollback work status text asked (traces folder script is _) = absurd (apart_verbs (same_verb work.words rollback (wire folder script) asked is) refl)
says_of_rollback work status text asked (tries number is _) = absurd (apart_verbs (same_verb work.words rollback (trial number) asked is) refl)
says_of_rollback work status text asked (rolls_back is found) = found

are_words : (words own : List (List ℕ)) → (words ≡ own) ⊎ (words ≡ own → ⊥)
are_words words own = by (pointwise same_bytes words own) refl
  where
    decides : Decides (pointwise same_bytes words own) (words ≡ own)
    decides = pointwise_decides equal_bytes words own

    by : (is : Bool) → pointwise same_bytes words own ≡ is → (words ≡ own) ⊎ (words ≡ own → ⊥)
    by true same = inl (decides.0 same)
    by false other = inr (λ same. let both : true ≡ false = sym (decides.1 same) ∙ other in cc)

-- arguments roll back, or they don't
pub is_rollback : (words : List (List ℕ)) → IsCommand words rollback ⊎ (IsCommand words rollback → ⊥)
is_rollback words = by (are_words words (codes "rollback" ∷ [])) (are_words words (on_it (disk_named words + 1)))
  where
    on_it : ℕ → List (List ℕ)
    on_it n = codes "on" ∷ decimal n ∷ codes "rollback" ∷ []

    never : (words ≡ codes "rollback" ∷ [] → ⊥) → (words ≡ on_it (disk_named words + 1) → ⊥) → IsCommand words rollback → ⊥
    never other none (plain is) = other is
    never other none (on n own low high is own_is looks) = none (is ∙ (ap (λ (w : List (List ℕ)). codes "on" ∷ decimal n ∷ w) own_is ∙ ap on_it (sym (names words own n low high is))))

    by : (words ≡ codes "rollback" ∷ []) ⊎ (words ≡ codes "rollback" ∷ [] → ⊥) → (words ≡ on_it (disk_named words + 1)) ⊎ (words ≡ on_it (disk_named words + 1) → ⊥)
        → IsCommand words rollback ⊎ (IsCommand words rollback → ⊥)
    by (inl is) one = inl (plain is)
    by (inr other) (inl is) = inl (on (disk_named words + 1) (codes "rollback" ∷ []) (omega arith) (omega (arith, named_below words)) is refl tt)
    by (inr other) (inr none) = inr (never other none)

-- ---- `fleet`

-- what is said of one disk is said of no fleet
pub says_of_no_fleet : (work : Work) (count : ℕ) (folder script : List ℕ) (status : ℕ) (text : List ℕ) → IsCommand work.words (fleet count folder script) → Says work status text → ⊥
unfolding verb
says_of_no_fleet work count folder script status text asked (refused none _ _) = absurd (none (fleet count folder script) asked tt)
says_of_no_fleet work count folder script status text asked (lists is _) = absurd (apart_verbs (same_verb work.words (fleet count folder script) list asked is) refl)
says_of_no_fleet work count folder script status text asked (formats id is _) = absurd (apart_verbs (same_verb work.words (fleet count folder script) (format id) asked is) refl)
says_of_no_fleet work count folder script status text asked (shows kind file is _) = absurd (apart_verbs (same_verb work.words (fleet count folder script) (show kind file) asked is) refl)
says_of_no_fleet work count folder script status text asked (checks other is _) = absurd (apart_verbs (same_verb work.words (fleet count folder script) (check other) asked is) refl)
says_of_no_fleet work count folder script status text asked (builds recipe other is _) = absurd (apart_verbs (same_verb work.words (fleet count folder script) (build recipe other) asked is) refl)
says_of_no_fleet work count folder script status text asked (makes number other is _) = absurd (apart_verbs (same_verb work.words (fleet count folder script) (make number other) asked is) refl)
says_of_no_fleet work count folder script status text asked (replays other name is _) = absurd (apart_verbs (same_verb work.words (fleet count folder script) (replay other name) asked is) refl)
says_of_no_fleet work count folder script status text asked (traces other name is _) = absurd (apart_verbs (same_verb work.words (fleet count folder script) (wire other name) asked is) refl)
says_of_no_fleet work count folder script status text asked (tries number is _) = absurd (apart_verbs (same_verb work.words (fleet count folder script) (trial number) asked is) refl)
says_of_no_fleet work count folder script status text asked (rolls_back is _) = absurd (apart_verbs (same_verb work.words (fleet count folder script) rollback asked is) refl)
