-- How a run ends that builds or makes a set.
use Rattle.std.proofs.Common.{◌≡◌, ℕ, suc, ◌≤◌, Bool, true, false, cond, List, length, Option, Some, None, Result, Ok, Err, inl, inr, refl, sym, ap, subst, ◌∙◌, arith}
use Rattle.std.specs.Prelude.{nat_lt}
use Rattle.std.proofs.lemmas.Bool.{ltb-false}
use Rattle.std.proofs.lemmas.List.{length-map}
use Rattle.load_base.specs.Counts.{Rose}
use Rattle.load_base.specs.Host.{Files}
use Rattle.media_check.specs.declared.built.Built.{Built}
use Rattle.media_build.specs.Building.{AnswersSizes, Builds as BuildsOf, CanTake, HaveSizes, fixed_length, source_names, sources_in}
use Rattle.media_build.specs.GeneratedSet.{generated_lines, generated_sources}
use Rattle.media_build.specs.HostWrites.{WritesAllFiles, WritesTold, written_files}
use Rattle.media_build.specs.NoFindings.{body_view, built_view}
use Rattle.media_build.specs.RecipeSets.{BuiltView, Sources, loads_of, load_bodies, recipe_bodies, recipe_set}
use Rattle.media_build.specs.Recipes.{recipe_said}
use Rattle.media_build.specs.WrittenFolders.{HoldsWritten}
use Rattle.media_build.specs.declared.building_fault.BuildFault.{BuildFault}
use Rattle.media_build.specs.declared.building_fault.BuildFault.TheVariants.{Absent, TooLong, TooLarge, HeaderTooLong, ListTooLong, Failed, Memory}
use Rattle.media_build.specs.declared.fault.RecipeFault.{RecipeFault}
use Rattle.media_build.specs.declared.fault.RecipeFault.TheVariants.{Limit}
use Rattle.media_build.specs.declared.statements.RecipeLine.{RecipeLine}
use Rattle.loader_cli.specs.Builds.{BuildsFolder, BuildsBytes, BuildsLines, IsOfInput, MakesFolder, WritesSet}
use Rattle.loader_cli.specs.Builds.WritesSet.{written, unwritten}
use Rattle.loader_cli.specs.Builds.BuildsLines.{set_built, set_refused, sources_unread}
use Rattle.loader_cli.specs.Builds.BuildsBytes.{said, no_recipe}
use Rattle.loader_cli.specs.Builds.BuildsFolder.{recipe_read, recipe_absent, recipe_too_long, recipe_unread}
use Rattle.loader_cli.specs.Builds.MakesFolder.{set_made}
use Rattle.loader_cli.specs.Commands.{IsCommand}
use Rattle.loader_cli.specs.Commands.CommandView.{build, make}
use Rattle.loader_cli.specs.HostFiles.{HostHas, HasTooMany, HostWork}
use Rattle.loader_cli.specs.Runs.{Run, Says, host_work, BuildsRightSet, MakesSet, WritesInto, LeavesFolder, LeavesSet}
use Rattle.loader_cli.specs.Runs.WritesInto.{of_recipe, of_number}
use Rattle.loader_cli.specs.Runs.LeavesSet.{has_built, has_made}
use Rattle.loader_cli.specs.Texts.{built_line}
use Rattle.loader_cli.specs.CommandLaws.{BuildingLaws}
use Rattle.loader_cli.proofs.Asked.{says_of_build, says_of_make}

-- ---- what the host has

some_of : {A : Type 0} {a b : A} → Some a ≡ Some b → a ≡ b
some_of same = cc

not_none : {A : Type 0} {a : A} → None ≡ Some a → ⊥
not_none same = absurd cc

ok_of : (r : Result (List RecipeLine) RecipeFault) (a b : List RecipeLine) → r ≡ Ok a → r ≡ Ok b → a ≡ b
ok_of r a b one two = let same = sym one ∙ two in cc

not_both : (r : Result (List RecipeLine) RecipeFault) (a : List RecipeLine) (fault : RecipeFault) → r ≡ Ok a → r ≡ Err fault → ⊥
not_both r a fault one two = let same = sym one ∙ two in absurd cc

pub apart : (status n : ℕ) → status ≡ 0 → status ≡ suc n → ⊥
apart status n zero is = let same = sym zero ∙ is in absurd cc

pub has_told : (files : Option Files) (told : Files) (name : List ℕ) (file : Option (List ℕ)) → files ≡ Some told → HostHas files name file → told name ≡ file
has_told None told name file is has = absurd cc
has_told (Some other) told name file is has = let same : other ≡ told = some_of is in subst (λ (f : Files). f name ≡ file) same has

not_longer : (b : Bool) (n : ℕ) (rest : Result (List RecipeLine) RecipeFault) (lines : List RecipeLine) → nat_lt 1000000 n ≡ b → cond b (Err (Limit 0)) rest ≡ Ok lines → n ≤ 1000000
not_longer true n rest lines test is = absurd (not_both _ lines (Limit 0) is refl)
not_longer false n rest lines test is = ltb-false 1000000 n test

-- a recipe has at most 1,000,000 bytes
short_recipe : (text : List ℕ) (lines : List RecipeLine) → recipe_said text ≡ Ok lines → length text ≤ 1000000
unfolding recipe_said
short_recipe text lines says = not_longer (nat_lt 1000000 (length text)) (length text) _ lines refl says

not_too_many : (files : Option Files) (told : Files) (name text : List ℕ) (lines : List RecipeLine) → files ≡ Some told → told name ≡ Some text → recipe_said text ≡ Ok lines → ¬ HasTooMany files name
not_too_many None told name text lines is there says long = absurd cc
not_too_many (Some other) told name text lines is there says long =
    let same : other ≡ told = some_of is in
    let file : other name ≡ Some text = subst (λ (f : Files). f name ≡ Some text) (sym same) there in
    let this : long.0 ≡ text = some_of (sym long.1 ∙ file) in
    let short = short_recipe text lines says in
    omega (arith, ap length this, short, long.2)

-- ---- nothing is refused

not_refused : (laws : BuildingLaws) (told : Files) (lines : List RecipeLine) (fault : BuildFault) → HaveSizes lines → CanTake told (fixed_length lines) (source_names lines)
    → AnswersSizes lines (Err fault) → BuildsOf lines (Err fault) told → ¬ IsOfInput fault
not_refused laws told lines fault sizes sources (inl wrong) builds input = let memory = laws.sizes lines fault sizes wrong in subst IsOfInput memory input
not_refused laws told lines (Absent name) sizes sources (inr right) builds input = laws.sources told _ _ _ sources builds
not_refused laws told lines (TooLong name) sizes sources (inr right) builds input = laws.sources told _ _ _ sources builds
not_refused laws told lines TooLarge sizes sources (inr right) builds input = laws.sources told _ _ _ sources builds
not_refused laws told lines (HeaderTooLong line) sizes sources (inr right) builds input = right.1
not_refused laws told lines ListTooLong sizes sources (inr right) builds input = right.1
not_refused laws told lines Failed sizes sources (inr right) builds input = input
not_refused laws told lines Memory sizes sources (inr right) builds input = input

-- ---- where nothing is wrong

-- all is done, and this line is printed
abbrev IsDone : (status : ℕ) (text line : List ℕ) → Type 0
IsDone status text line = (status ≡ 0) × (text ≡ line)

writes_right : (folder : List ℕ) (set : Built) (loads count : ℕ) (host : HostWork) (status : ℕ) (text : List ℕ) → length set.bodies.items ≡ count → ¬ Rose host.faults host.faults_after
    → WritesSet folder set loads host status text → IsDone status text (built_line loads count)
writes_right folder set loads count host status text files answers (written wrote is told) = (is, told ∙ ap (λ (n : ℕ). built_line loads n) files)
writes_right folder set loads count host status text files answers (unwritten wrote rose is told) = absurd (answers rose)

count_files : (set : Built) (sources : Sources) (lines : List RecipeLine) → built_view set ≡ recipe_set sources lines → length set.bodies.items ≡ length (recipe_bodies sources lines)
unfolding recipe_set
count_files set sources lines same = sym (length-map set.bodies.items body_view) ∙ ap (λ (v : BuiltView). length v.bodies) same

lines_right : (laws : BuildingLaws) (told : Files) (recipe folder : List ℕ) (lines : List RecipeLine) (host : HostWork) (status : ℕ) (text : List ℕ) → host.files ≡ Some told → HaveSizes lines
    → CanTake told (fixed_length lines) (source_names lines) → ¬ Rose host.faults host.faults_after → BuildsLines recipe folder lines host status text
    → IsDone status text (built_line (length (loads_of lines)) (length (recipe_bodies (sources_in told) lines)))
lines_right laws told recipe folder lines host status text files sizes sources answers (set_built set is writes) =
    writes_right folder set (length (loads_of lines)) (length (recipe_bodies (sources_in told) lines)) host status text (count_files set (sources_in told) lines (is.builds told files).1) answers writes
lines_right laws told recipe folder lines host status text files sizes sources answers (set_refused fault is input _ _ _) =
    absurd (not_refused laws told lines fault sizes sources is.sizes (is.builds told files) input)
lines_right laws told recipe folder lines host status text files sizes sources answers (sources_unread rose _ _ _) = absurd (answers rose)

bytes_right : (laws : BuildingLaws) (told : Files) (recipe folder bytes : List ℕ) (lines : List RecipeLine) (host : HostWork) (status : ℕ) (text : List ℕ) → host.files ≡ Some told
    → recipe_said bytes ≡ Ok lines → HaveSizes lines → CanTake told (fixed_length lines) (source_names lines) → ¬ Rose host.faults host.faults_after
    → BuildsBytes recipe folder bytes host status text → IsDone status text (built_line (length (loads_of lines)) (length (recipe_bodies (sources_in told) lines)))
bytes_right laws told recipe folder bytes lines host status text files says sizes sources answers (said other is builds) =
    let same : other ≡ lines = ok_of (recipe_said bytes) other lines is says in
    lines_right laws told recipe folder lines host status text files sizes sources answers (subst (λ (l : List RecipeLine). BuildsLines recipe folder l host status text) same builds)
bytes_right laws told recipe folder bytes lines host status text files says sizes sources answers (no_recipe fault wrong _ _ _) = absurd (not_both (recipe_said bytes) lines fault says wrong)

build_right : (laws : BuildingLaws) (told : Files) (recipe folder contents : List ℕ) (lines : List RecipeLine) (host : HostWork) (status : ℕ) (text : List ℕ) → host.files ≡ Some told
    → told recipe ≡ Some contents → recipe_said contents ≡ Ok lines → HaveSizes lines → CanTake told (fixed_length lines) (source_names lines)
    → ¬ Rose host.faults host.faults_after → BuildsFolder recipe folder host status text
    → IsDone status text (built_line (length (loads_of lines)) (length (recipe_bodies (sources_in told) lines)))
build_right laws told recipe folder contents lines host status text files there says sizes sources answers (recipe_read bytes has short builds) =
    let same : bytes ≡ contents = some_of (sym (has_told host.files told recipe (Some bytes) files has) ∙ there) in
    bytes_right laws told recipe folder contents lines host status text files says sizes sources answers (subst (λ (b : List ℕ). BuildsBytes recipe folder b host status text) same builds)
build_right laws told recipe folder contents lines host status text files there says sizes sources answers (recipe_absent has _ _ _) =
    absurd (not_none (sym (has_told host.files told recipe None files has) ∙ there))
build_right laws told recipe folder contents lines host status text files there says sizes sources answers (recipe_too_long long _ _ _) =
    absurd (not_too_many host.files told recipe contents lines files there says long)
build_right laws told recipe folder contents lines host status text files there says sizes sources answers (recipe_unread rose _ _ _) = absurd (answers rose)

pub build_said : (laws : BuildingLaws) (run : Run) (recipe folder : List ℕ) (told : Files) (lines : List RecipeLine) (status : ℕ) (text : List ℕ) → BuildsRightSet run recipe folder told lines
    → Says run.work status text → IsDone status text (built_line (length (loads_of lines)) (length (recipe_bodies (sources_in told) lines)))
build_said laws run recipe folder told lines status text premise says =
    build_right laws told recipe folder premise.text lines (host_work run.work) status text premise.files premise.there premise.said premise.sizes premise.sources premise.answers.host_answers
    (says_of_build run.work recipe folder status text premise.asked says)

two_files : (set : Built) (number : ℕ) → built_view set ≡ recipe_set (generated_sources number) generated_lines → length set.bodies.items ≡ 2
unfolding recipe_bodies load_bodies
two_files set number same = count_files set (generated_sources number) generated_lines same

make_right : (number : ℕ) (folder : List ℕ) (host : HostWork) (status : ℕ) (text : List ℕ) → ¬ Rose host.faults host.faults_after → MakesFolder number folder host status text
    → IsDone status text (built_line 1 2)
make_right number folder host status text answers (set_made set is small writes) = writes_right folder set 1 2 host status text (two_files set number is) answers writes

pub make_said : (run : Run) (number : ℕ) (folder : List ℕ) (status : ℕ) (text : List ℕ) → MakesSet run number folder → Says run.work status text → IsDone status text (built_line 1 2)
make_said run number folder status text premise says =
    make_right number folder (host_work run.work) status text premise.answers.host_answers (says_of_make run.work number folder status text premise.asked says)

-- ---- what status 0 leaves

-- a host that tells its files has the files of the set, and goes on telling them
leaves : (folder : List ℕ) (set : Built) (old new : Option Files) (told : Files) (sources : Sources) (lines : List RecipeLine) → old ≡ Some told
    → ((after : Files) → WritesAllFiles (written_files folder set) told after (Ok tt) → HoldsWritten folder told after sources lines) → WritesTold (written_files folder set) old new (Ok tt)
    → LeavesFolder folder told new sources lines
leaves folder set None new told sources lines is holds wrote = absurd cc
leaves folder set (Some was) new told sources lines is holds wrote =
    let same : was ≡ told = some_of is in
    let here = subst (λ (f : Files). WritesAllFiles (written_files folder set) f wrote.0 (Ok tt)) same wrote.2 in
    record { files = wrote.0; told = wrote.1; holds = holds wrote.0 here }

set_leaves : (folder : List ℕ) (set : Built) (loads : ℕ) (host : HostWork) (status : ℕ) (text : List ℕ) (told : Files) (sources : Sources) (lines : List RecipeLine) → host.files ≡ Some told → status ≡ 0
    → ((after : Files) → WritesAllFiles (written_files folder set) told after (Ok tt) → HoldsWritten folder told after sources lines) → WritesSet folder set loads host status text
    → LeavesFolder folder told host.files_after sources lines
set_leaves folder set loads host status text told sources lines files zero holds (written wrote _ _) = leaves folder set host.files host.files_after told sources lines files holds wrote.told
set_leaves folder set loads host status text told sources lines files zero holds (unwritten _ _ is _) = absurd (apart status 3 zero is)

lines_leave : (laws : BuildingLaws) (recipe folder bytes : List ℕ) (lines : List RecipeLine) (host : HostWork) (status : ℕ) (text : List ℕ) (told : Files) → host.files ≡ Some told → status ≡ 0
    → recipe_said bytes ≡ Ok lines → BuildsLines recipe folder lines host status text → LeavesFolder folder told host.files_after (sources_in told) lines
lines_leave laws recipe folder bytes lines host status text told files zero says (set_built set is writes) =
    set_leaves folder set (length (loads_of lines)) host status text told (sources_in told) lines files zero
    (λ after wrote. laws.built folder bytes lines set told told after says is.sizes (is.builds told files) is.small wrote) writes
lines_leave laws recipe folder bytes lines host status text told files zero says (set_refused _ _ _ _ is _) = absurd (apart status 2 zero is)
lines_leave laws recipe folder bytes lines host status text told files zero says (sources_unread _ _ is _) = absurd (apart status 3 zero is)

bytes_leave : (laws : BuildingLaws) (words : List (List ℕ)) (recipe folder bytes : List ℕ) (host : HostWork) (status : ℕ) (text : List ℕ) (told : Files) → host.files ≡ Some told → status ≡ 0
    → IsCommand words (build recipe folder) → told recipe ≡ Some bytes → BuildsBytes recipe folder bytes host status text → LeavesSet words told folder host.files_after
bytes_leave laws words recipe folder bytes host status text told files zero asked there (said lines is builds) =
    has_built recipe bytes lines asked there is (lines_leave laws recipe folder bytes lines host status text told files zero is builds)
bytes_leave laws words recipe folder bytes host status text told files zero asked there (no_recipe _ _ _ is _) = absurd (apart status 2 zero is)

build_leaves : (laws : BuildingLaws) (words : List (List ℕ)) (recipe folder : List ℕ) (host : HostWork) (status : ℕ) (text : List ℕ) (told : Files) → host.files ≡ Some told → status ≡ 0
    → IsCommand words (build recipe folder) → BuildsFolder recipe folder host status text → LeavesSet words told folder host.files_after
build_leaves laws words recipe folder host status text told files zero asked (recipe_read bytes has _ builds) =
    bytes_leave laws words recipe folder bytes host status text told files zero asked (has_told host.files told recipe (Some bytes) files has) builds
build_leaves laws words recipe folder host status text told files zero asked (recipe_absent _ _ is _) = absurd (apart status 2 zero is)
build_leaves laws words recipe folder host status text told files zero asked (recipe_too_long _ _ is _) = absurd (apart status 2 zero is)
build_leaves laws words recipe folder host status text told files zero asked (recipe_unread _ _ is _) = absurd (apart status 3 zero is)

make_leaves : (laws : BuildingLaws) (words : List (List ℕ)) (number : ℕ) (folder : List ℕ) (host : HostWork) (status : ℕ) (text : List ℕ) (told : Files) → host.files ≡ Some told → status ≡ 0
    → IsCommand words (make number folder) → MakesFolder number folder host status text → LeavesSet words told folder host.files_after
make_leaves laws words number folder host status text told files zero asked (set_made set is small writes) =
    has_made number asked
    (set_leaves folder set 1 host status text told (generated_sources number) generated_lines files zero (λ after wrote. laws.made folder number set told after is small wrote) writes)

pub run_leaves : (laws : BuildingLaws) (run : Run) (folder : List ℕ) (told : Files) (status : ℕ) (text : List ℕ) → WritesInto run.work.words folder → run.work.files ≡ Some told → status ≡ 0
    → Says run.work status text → LeavesSet run.work.words told folder run.work.files_after
run_leaves laws run folder told status text (of_recipe recipe asked) files zero says =
    build_leaves laws run.work.words recipe folder (host_work run.work) status text told files zero asked (says_of_build run.work recipe folder status text asked says)
run_leaves laws run folder told status text (of_number number asked) files zero says =
    make_leaves laws run.work.words number folder (host_work run.work) status text told files zero asked (says_of_make run.work number folder status text asked says)
