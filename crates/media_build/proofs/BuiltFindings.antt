-- The set of a recipe has no finding.
use Rattle.std.proofs.Common.{◌≡◌, ℕ, zero, suc, ◌+◌, ◌-◌, ◌&&◌, ◌||◌, Bool, true, false, not, cond, List, [], ◌∷◌, ◌++◌, length, Some, refl, sym, ap, subst, ◌∙◌}
use Rattle.std.specs.Prelude.{map, codes, drop, ◌==◌}
use Rattle.std.specs.Cmp.Lexicographic.{pointwise}
use Rattle.std.specs.List.{AllByRecursion, flat_map, list_any, range_with_len}
use Rattle.std.proofs.lemmas.Cmp.{nat_list_eq_equiv}
use Rattle.batch_lists.specs.Batch.{BatchTargetView}
use Rattle.batch_lists.specs.BatchFields.{IsBatch, batch_fields}
use Rattle.batch_lists.specs.declared.batches.BatchEntry.{BatchEntry}
use Rattle.batch_lists.specs.declared.fault.BatchesFault.{BatchesFault}
use Rattle.std.specs.List.{concat}
use Rattle.std.proofs.lemmas.Bool.{eq-eqb}
use Rattle.std.proofs.lemmas.List.{map-append}
use Rattle.crc_fields.specs.CheckSums.{crc16_of}
use Rattle.load_base.specs.Bytes.{same_bytes}
use Rattle.load_base.proofs.EqualityLemmas.{equal_bytes}
use Rattle.load_header.specs.Header.{header}
use Rattle.load_header.specs.declared.header.FileEntry.{FileEntry}
use Rattle.media_lists.specs.Entries.{is_listed}
use Rattle.media_lists.specs.Loads.{LoadEntryView, load_name}
use Rattle.media_lists.specs.declared.fault.ListFault.{ListFault}
use Rattle.media_lists.specs.declared.lists.ListedFile.{ListedFile}
use Rattle.media_check.specs.Findings.{plain, detailed, where_it_holds, same_load, same_file, same_batch, same_but_member, is_members_list, list_findings, member_findings, of_members, body_findings, entry_findings, is_file, file_findings, load_findings, header_findings, has_other_crc, batches_list_findings, parts_of, part_findings, read_batch_findings, batch_findings, is_part_of, has_batches, all_batches_findings, batches_findings, findings_of}
use Rattle.media_check.specs.Findings as findings
use Rattle.media_check.specs.Sets as sets
use Rattle.media_check.specs.Kept.{contents, entries_of}
use Rattle.media_check.specs.Sets.{SetView, MemberView, MediaBytes, find, set_in}
use Rattle.media_check.specs.declared.finding.Finding.{Finding}
use Rattle.media_check.specs.declared.found.Found.TheVariants.{Read}
use Rattle.media_build.specs.Accepted.{IsFileLine, HasItsLoads, IsRecipe}
use Rattle.media_build.specs.Lines.{members_of, parts_in, is_loaded}
use Rattle.media_build.specs.NoFindings.{SizesFit, HaveSet}
use Rattle.media_build.specs.Recipes.{ends_with, is_body_name}
use Rattle.media_build.specs.RecipeSets.{Sources, RecipeLoadView, RecipeBatchView, BodyView, load_at, batches_of, batch_of, batch_target, batch_body, batch_entry, targets_in, recipe_batches, set_of, loads_of, hardware_of, data_of, support_of, files_of, bytes_of, file_entry, header_start, header_bytes, load_crc_of, header_of, file_body, load_bodies, recipe_bodies, load_entry, recipe_loads, listed_body, recipe_files}
use Rattle.media_build.specs.declared.statements.FileLine.{FileLine}
use Rattle.media_build.specs.declared.statements.RecipeLine.{RecipeLine}
use Rattle.media_build.specs.declared.statements.Statement.{Statement}
use Rattle.media_build.specs.declared.statements.Statement.TheVariants.{Set, Members, Load, Hardware, Position, Data, Support, User, Batch, Target}
use Rattle.media_build.specs.declared.statements.TargetLine.{TargetLine}
use Rattle.media_build.proofs.BuiltHeaders.{first_part, second_part, IsGoodLoad, start_spells, header_spells, good_loads}
use Rattle.media_build.proofs.BuiltLists.{all_append, all_map, all_same, all_both, data_files, support_files, IsSoundBatch, sound_batches, targets_are, each_batch}
use Rattle.media_build.proofs.BuiltNames.{body_name, itself, bodies_are_distinct, each_is_found}
use Rattle.media_build.proofs.BuiltSet.{FormatLaws, answer_is, lists_of_member, file_there, read_set, set_is_read}

-- ---- nothing is found

none_where : (condition : Bool) (finding : Finding) → condition ≡ true → where_it_holds (not condition) finding ≡ []
none_where true finding e = refl
none_where false finding e = absurd cc

none_both : (a b : List Finding) → a ≡ [] → b ≡ [] → a ++ b ≡ []
none_both a b e f = rw (e, f) refl

none_of : {A : Type 0} (f : A → List Finding) (xs : List A) → AllByRecursion (λ x. f x ≡ []) xs → flat_map f xs ≡ []
none_of f [] all = refl
none_of f (x ∷ xs) all = none_both (f x) (flat_map f xs) all.0 (none_of f xs all.1)

pub all_of_map : {A B : Type 0} (P : B → Type 0) (f : A → B) (xs : List A) → AllByRecursion P (map f xs) → AllByRecursion (λ x. P (f x)) xs
all_of_map P f [] all = tt
all_of_map P f (x ∷ xs) all = (all.0, all_of_map P f xs all.1)

-- ---- what is the same

both_true : (a b : Bool) → a ≡ true → b ≡ true → (a && b) ≡ true
both_true a b e f = rw (e, f) refl

alike : {A : Type 0} (same : A → A → Bool) (xs : List A) → ((x : A) → same x x ≡ true) → pointwise same xs xs ≡ true
alike same [] each = refl
alike same (x ∷ xs) each = both_true (same x x) (pointwise same xs xs) (each x) (alike same xs each)

number_itself : (n : ℕ) → (n == n) ≡ true
number_itself n = eq-eqb n n refl

load_itself : (load : LoadEntryView) → same_load load load ≡ true
load_itself load = rw (itself load.part, itself load.header_name, number_itself load.member, alike same_bytes load.hardware itself) refl

file_itself : (file : ListedFile) → same_file file file ≡ true
file_itself file = rw (itself file.name, itself file.path, number_itself file.member, number_itself file.crc16) refl

-- ---- the lists

loads_agree : (lines : List RecipeLine) (first member : ℕ) → is_members_list {F = ListFault} same_load member (Read (recipe_loads lines first)) (recipe_loads lines member) ≡ true
unfolding is_members_list same_but_member recipe_loads
loads_agree lines first member = rw (number_itself member, itself (set_of lines), number_itself (members_of lines), alike same_load (map load_entry (loads_of lines)) load_itself) refl

files_agree : (sources : Sources) (lines : List RecipeLine) (first member : ℕ)
    → is_members_list {F = ListFault} same_file member (Read (recipe_files sources lines first)) (recipe_files sources lines member) ≡ true
unfolding is_members_list same_but_member recipe_files
files_agree sources lines first member =
    rw (number_itself member, itself (set_of lines), number_itself (members_of lines), alike same_file (map listed_body (recipe_bodies sources lines)) file_itself) refl

no_member_finding : (sources : Sources) (lines : List RecipeLine) (first member : ℕ)
    → member_findings (lists_of_member sources lines first) member (lists_of_member sources lines member) ≡ []
unfolding member_findings list_findings
no_member_finding sources lines first member =
    none_both _ _ (none_where _ (plain 3 member (codes "LOADS.LUM")) (loads_agree lines first member)) (none_where _ (plain 3 member (codes "FILES.LUM")) (files_agree sources lines first member))

-- what isn't found of one member isn't of any
no_findings_of : (sources : Sources) (lines : List RecipeLine) (what : ℕ → MemberView → List Finding) (from count : ℕ) → ((member : ℕ) → what member (lists_of_member sources lines member) ≡ [])
    → of_members what from (map (lists_of_member sources lines) (range_with_len from count)) ≡ []
unfolding of_members
no_findings_of sources lines what from zero none = refl
no_findings_of sources lines what from (suc count) none = none_both (what from (lists_of_member sources lines from)) _ (none from) (no_findings_of sources lines what (from + 1) count none)

-- ---- files

-- a file is found under its name
abbrev IsFound : SetView → BodyView → Type 0
IsFound set body = find set body.name ≡ Some (file_there body)

no_body_finding : (set : SetView) (body : BodyView) → IsFound set body → body_findings (listed_body body) (sets.bytes_of set body.name) ≡ []
unfolding body_findings
no_body_finding set body found = rw found (none_where (crc16_of body.bytes == crc16_of body.bytes) (plain 6 body.member body.name) (number_itself (crc16_of body.bytes)))

-- the name of a header is that of a load, and no other file has such a name
abbrev IsNamed : List LoadEntryView → BodyView → Type 0
IsNamed loads body = (findings.is_header_name body.name && not (is_listed load_name body.name loads)) ≡ false

no_entry_finding : (set : SetView) (loads : List LoadEntryView) (body : BodyView) → IsFound set body × IsNamed loads body → entry_findings set loads (listed_body body) ≡ []
unfolding entry_findings
no_entry_finding set loads body is = none_both _ _ (no_body_finding set body is.0) (rw is.1 refl)

was_not : (a b : Bool) → (not a && b) ≡ true → a ≡ false
was_not true b e = absurd cc
was_not false b e = refl

is_no_header : (name : List ℕ) → is_body_name name ≡ true → findings.is_header_name name ≡ false
unfolding findings.is_header_name ends_with
is_no_header name is = was_not (ends_with (codes ".LUH") name) _ is

file_is_named : (sources : Sources) (members : ℕ) (loads : List LoadEntryView) (file : FileLine) → IsFileLine members file → IsNamed loads (file_body sources file)
file_is_named sources members loads file is = rw (is_no_header file.name is.body) refl

header_is_named : (loads : List LoadEntryView) (body : BodyView) → is_listed load_name body.name loads ≡ true → IsNamed loads body
header_is_named loads body e = rw e (by (findings.is_header_name body.name))
  where
    by : (b : Bool) → (b && false) ≡ false
    by true = refl
    by false = refl

or_true : (a b : Bool) → b ≡ true → (a || b) ≡ true
or_true true b e = refl
or_true false b e = e

listed_behind : (first : LoadEntryView) (name : List ℕ) (loads : List LoadEntryView) → is_listed load_name name loads ≡ true → is_listed load_name name (first ∷ loads) ≡ true
unfolding is_listed
listed_behind first name loads e = or_true (same_bytes first.header_name name) (is_listed load_name name loads) e

abbrev AreListed : List LoadEntryView → List RecipeLoadView → Type 0
AreListed entries loads = AllByRecursion (λ load. is_listed load_name load.load.name entries ≡ true) loads

all_listed : (loads : List RecipeLoadView) → AreListed (map load_entry loads) loads
unfolding is_listed
all_listed [] = tt
all_listed (load ∷ loads) =
    let here : is_listed load_name load.load.name (map load_entry (load ∷ loads)) ≡ true = rw (itself load.load.name) refl in
    (here, all_same _ _ (λ (other : RecipeLoadView) listed. listed_behind (load_entry load) other.load.name (map load_entry loads) listed) loads (all_listed loads))

bodies_are_named : (sources : Sources) (members : ℕ) (entries : List LoadEntryView) (load : RecipeLoadView) → IsGoodLoad sources members load → is_listed load_name load.load.name entries ≡ true
    → AllByRecursion (IsNamed entries) (load_bodies sources load)
unfolding load_bodies
bodies_are_named sources members entries load is listed =
    let files = all_append (IsFileLine members) (data_of load) (support_of load) (data_files members load is.sound) (support_files members load is.sound) in
    let head : BodyView = record { name = load.load.name; member = load.load.member; bytes = header_bytes (header_of sources load) } in
    (header_is_named entries head listed, all_map (IsFileLine members) (IsNamed entries) (file_body sources) (file_is_named sources members entries) (files_of load) files)

-- the name of a batch's file is that of no header
batch_is_named : (members : ℕ) (loads : List LoadEntryView) (batch : RecipeBatchView) → IsSoundBatch members batch → IsNamed loads (batch_body batch)
unfolding findings.is_header_name ends_with
batch_is_named members loads batch is =
    let end : List ℕ = drop (length batch.batch.name - 4) batch.batch.name in
    rw (other_end end is.line.file) refl
  where
    other_end : (end : List ℕ) → same_bytes end (codes ".LUB") ≡ true → same_bytes end (codes ".LUH") ≡ false
    other_end end e = let same : end ≡ codes ".LUB" = (equal_bytes end (codes ".LUB")).0 e in rw same refl

all_named : (sources : Sources) (members : ℕ) (entries : List LoadEntryView) (loads : List RecipeLoadView) → AllByRecursion (IsGoodLoad sources members) loads → AreListed entries loads
    → AllByRecursion (IsNamed entries) (flat_map (load_bodies sources) loads)
all_named sources members entries [] good listed = tt
all_named sources members entries (load ∷ loads) good listed =
    all_append (IsNamed entries) (load_bodies sources load) (flat_map (load_bodies sources) loads) (bodies_are_named sources members entries load good.0 listed.0)
    (all_named sources members entries loads good.1 listed.1)

-- ---- loads

-- a source is found under the name of its file
abbrev HasSource : Sources → SetView → FileLine → Type 0
HasSource sources set file = IsFound set (file_body sources file)

no_file_finding : (sources : Sources) (set : SetView) (file : FileLine) → HasSource sources set file → file_findings set (file_entry sources file) ≡ []
unfolding file_findings is_file
no_file_finding sources set file found =
    rw (found, number_itself (length (bytes_of sources file)), number_itself (crc16_of (bytes_of sources file))) refl

source_is : (sources : Sources) (set : SetView) (file : FileLine) → HasSource sources set file → contents (sets.bytes_of set file.name) ≡ bytes_of sources file
source_is sources set file found = rw found refl

same_sources : (sources : Sources) (set : SetView) (files : List FileLine) → AllByRecursion (HasSource sources set) files
    → flat_map (λ file. contents (sets.bytes_of set file.name)) (map (file_entry sources) files) ≡ flat_map (bytes_of sources) files
same_sources sources set [] all = refl
same_sources sources set (file ∷ files) all = rw (source_is sources set file all.0, same_sources sources set files all.1) refl

same_crc : (there : Bool) (a b : ℕ) → a ≡ b → (there && not (a == b)) ≡ false
same_crc there a b e = rw (eq-eqb a b e) (by there)
  where
    by : (t : Bool) → (t && false) ≡ false
    by true = refl
    by false = refl

-- what a load has in the set: its header, and its files
record IsThere (sources : Sources) (set : SetView) (load : RecipeLoadView) : Type 0 where
  header : find set load.load.name ≡ Some (record { member = load.load.member; bytes = Some (header_bytes (header_of sources load)) })
  files : AllByRecursion (HasSource sources set) (files_of load)

entries_are : (sources : Sources) (load : RecipeLoadView) → findings.files_of (header_of sources load) ≡ map (file_entry sources) (files_of load)
unfolding header_of header_start
entries_are sources load = sym (map-append (file_entry sources) (data_of load) (support_of load))

crc_agrees : (sources : Sources) (members : ℕ) (set : SetView) (load : RecipeLoadView) → FormatLaws → IsGoodLoad sources members load → AllByRecursion (HasSource sources set) (files_of load)
    → findings.load_crc_of set (header_bytes (header_of sources load)) (findings.files_of (header_of sources load)) ≡ load_crc_of sources load
unfolding findings.load_crc_of load_crc_of header_of
crc_agrees sources members set load laws good files =
    let start = start_spells sources members load good in
    let whole = header_spells sources members load good in
    let before = laws.before_load_crc (header_start sources load) (load_crc_of sources load) (header_bytes (header_start sources load)) (header_bytes (header_of sources load)) start whole in
    let entries = entries_are sources load in
    let contents_are = same_sources sources set (files_of load) files in
    rw (entries, contents_are, ← before) refl

same_part : (sources : Sources) (load : RecipeLoadView) → same_bytes (header_of sources load).part load.load.part ≡ true
unfolding header_of header_start
same_part sources load = itself load.load.part

same_hardware : (sources : Sources) (load : RecipeLoadView) → pointwise same_bytes (header_of sources load).hardware (hardware_of load) ≡ true
unfolding header_of header_start
same_hardware sources load = alike same_bytes (hardware_of load) itself

no_file_findings : (sources : Sources) (set : SetView) (files : List FileLine) → AllByRecursion (HasSource sources set) files → flat_map (file_findings set) (map (file_entry sources) files) ≡ []
no_file_findings sources set files all =
    none_of (file_findings set) (map (file_entry sources) files)
    (all_map (HasSource sources set) (λ entry. file_findings set entry ≡ []) (file_entry sources) (no_file_finding sources set) files all)

none_at : (condition : Bool) (finding : Finding) → condition ≡ false → where_it_holds condition finding ≡ []
none_at true finding e = absurd cc
none_at false finding e = refl

crc_of_header : (sources : Sources) (load : RecipeLoadView) → load_crc_of sources load ≡ (header_of sources load).load_crc
unfolding header_of
crc_of_header sources load = refl

crc_is_right : (sources : Sources) (members : ℕ) (set : SetView) (load : RecipeLoadView) → FormatLaws → IsGoodLoad sources members load → AllByRecursion (HasSource sources set) (files_of load)
    → has_other_crc set (header_bytes (header_of sources load)) (header_of sources load) ≡ false
unfolding has_other_crc
crc_is_right sources members set load laws good files =
    same_crc _ _ _ (crc_agrees sources members set load laws good files ∙ crc_of_header sources load)

no_header_finding : (sources : Sources) (members : ℕ) (set : SetView) (load : RecipeLoadView) → FormatLaws → IsGoodLoad sources members load → AllByRecursion (HasSource sources set) (files_of load)
    → header_findings set (load_entry load) load.load.member (header_bytes (header_of sources load)) (header_of sources load) ≡ []
unfolding header_findings
no_header_finding sources members set load laws good files =
    none_both _ _ (none_where _ (plain 9 load.load.member load.load.name) (same_part sources load))
    (none_both _ _ (none_where _ (plain 10 load.load.member load.load.name) (same_hardware sources load))
    (none_both _ _ (subst (λ (l : List FileEntry). flat_map (file_findings set) l ≡ []) (sym (entries_are sources load)) (no_file_findings sources set (files_of load) files))
    (none_at _ (plain 12 load.load.member load.load.name) (crc_is_right sources members set load laws good files))))

no_load_finding : (sources : Sources) (members : ℕ) (set : SetView) (load : RecipeLoadView) → FormatLaws → IsGoodLoad sources members load → IsThere sources set load
    → load_findings set (load_entry load) ≡ []
unfolding load_findings
no_load_finding sources members set load laws good there =
    let bytes : List ℕ = header_bytes (header_of sources load) in
    let read = answer_is header bytes (header_of sources load) (laws.headers (header_of sources load) bytes (header_spells sources members load good)) in
    rw (there.header, read) (no_header_finding sources members set load laws good there.files)

-- ---- batches

batches_agree : (lines : List RecipeLine) (first member : ℕ) → is_members_list {F = BatchesFault} same_batch member (Read (recipe_batches lines first)) (recipe_batches lines member) ≡ true
unfolding is_members_list same_but_member recipe_batches
batches_agree lines first member = rw (number_itself member, itself (set_of lines), number_itself (members_of lines), alike same_batch (map batch_entry (batches_of lines)) batch_itself) refl
  where
    batch_itself : (batch : BatchEntry) → same_batch batch batch ≡ true
    batch_itself batch = rw (itself batch.part, itself batch.file, number_itself batch.member) refl

-- each list of batches is that of member 1
no_batches_list_finding : (sources : Sources) (lines : List RecipeLine) (member : ℕ) (first : RecipeBatchView) (others : List RecipeBatchView) → batches_of lines ≡ first ∷ others
    → batches_list_findings (lists_of_member sources lines 1) member (lists_of_member sources lines member) ≡ []
unfolding list_findings
no_batches_list_finding sources lines member first others some =
    rw some (none_where _ (plain 15 member (codes "BATCHES.LUM")) (batches_agree lines 1 member))

-- a part number of a load is that of an entry of LOADS.LUM
is_listed_part : (part : List ℕ) (lines : List RecipeLine) → list_any (same_bytes part) (flat_map (λ line. parts_in line.statement) lines) ≡ is_part_of (map load_entry (loads_of lines)) part
unfolding is_listed
is_listed_part part [] = refl
is_listed_part part (line ∷ later) = by line.statement (is_listed_part part later)
  where
    by : (s : Statement) → list_any (same_bytes part) (flat_map (λ (l : RecipeLine). parts_in l.statement) later) ≡ is_part_of (map load_entry (loads_of later)) part
        → list_any (same_bytes part) (parts_in s ++ flat_map (λ (l : RecipeLine). parts_in l.statement) later) ≡ is_part_of (map load_entry (load_at line.number s later ++ loads_of later)) part
    by (Set number) e = e
    by (Members count) e = e
    by (Load load) e = rw (nat_list_eq_equiv.symm part load.part, e) refl
    by (Hardware id) e = e
    by (Position id place) e = e
    by (Data file) e = e
    by (Support file) e = e
    by (User bytes) e = e
    by (Batch batch) e = e
    by (Target target) e = e

-- each load that a target gets is in the list
abbrev HasListedLoads : List RecipeLine → TargetLine → Type 0
HasListedLoads lines target = AllByRecursion (λ part. is_part_of (map load_entry (loads_of lines)) part ≡ true) target.parts

listed_loads : (lines : List RecipeLine) (s : Statement) → HasItsLoads lines s → AllByRecursion (HasListedLoads lines) (targets_in s)
unfolding is_loaded
listed_loads lines (Set part) have = tt
listed_loads lines (Members count) have = tt
listed_loads lines (Load load) have = tt
listed_loads lines (Hardware id) have = tt
listed_loads lines (Position id place) have = tt
listed_loads lines (Data file) have = tt
listed_loads lines (Support file) have = tt
listed_loads lines (User bytes) have = tt
listed_loads lines (Batch batch) have = tt
listed_loads lines (Target target) have = (all_same _ _ (λ part loaded. sym (is_listed_part part lines) ∙ loaded) target.parts have, tt)

each_has_loads : (lines : List RecipeLine) → IsRecipe lines → AllByRecursion (λ batch. AllByRecursion (HasListedLoads lines) batch.targets) (batches_of lines)
each_has_loads lines is = targets_are (HasListedLoads lines) lines (all_same _ _ (λ line have. listed_loads lines line.statement have) lines is.targets)

parts_listed : (is_loads : List ℕ → Bool) (targets : List TargetLine) → AllByRecursion (λ target. AllByRecursion (λ part. is_loads part ≡ true) target.parts) targets
    → AllByRecursion (λ part. is_loads part ≡ true) (flat_map (λ (target : BatchTargetView). target.parts) (map batch_target targets))
parts_listed is_loads [] all = tt
parts_listed is_loads (target ∷ targets) all =
    all_append (λ part. is_loads part ≡ true) target.parts (flat_map (λ (t : BatchTargetView). t.parts) (map batch_target targets)) all.0 (parts_listed is_loads targets all.1)

no_part_finding : (is_loads : List ℕ → Bool) (member : ℕ) (file part : List ℕ) → is_loads part ≡ true → part_findings is_loads member file part ≡ []
unfolding part_findings
no_part_finding is_loads member file part e = none_where (is_loads part) (detailed 19 member file part) e

no_read_batch_finding : (is_loads : List ℕ → Bool) (batch : RecipeBatchView) → AllByRecursion (λ target. AllByRecursion (λ part. is_loads part ≡ true) target.parts) batch.targets
    → read_batch_findings is_loads (batch_entry batch) batch.batch.member (batch_of batch) ≡ []
unfolding read_batch_findings
no_read_batch_finding is_loads batch all =
    none_both _ _ (none_where (same_bytes batch.batch.part batch.batch.part) (plain 18 batch.batch.member batch.batch.name) (itself batch.batch.part))
    (none_of (part_findings is_loads batch.batch.member batch.batch.name) (parts_of (batch_of batch))
    (all_same _ _ (λ part e. no_part_finding is_loads batch.batch.member batch.batch.name part e) (parts_of (batch_of batch)) (parts_listed is_loads batch.targets all)))

no_batch_finding : (set : SetView) (is_loads : List ℕ → Bool) (batch : RecipeBatchView) → FormatLaws → IsBatch (batch_of batch) → IsFound set (batch_body batch)
    → AllByRecursion (λ target. AllByRecursion (λ part. is_loads part ≡ true) target.parts) batch.targets → batch_findings set is_loads (batch_entry batch) ≡ []
unfolding batch_findings
no_batch_finding set is_loads batch laws is found all =
    let bytes : List ℕ = concat (batch_fields (batch_of batch)) in
    let read = laws.batch (batch_of batch) bytes (is, refl) in
    rw (found, read) (no_read_batch_finding is_loads batch all)

-- ---- the whole

each_load_is_there : (sources : Sources) (set : SetView) (loads : List RecipeLoadView) → AllByRecursion (IsFound set) (flat_map (load_bodies sources) loads) → AllByRecursion (IsThere sources set) loads
unfolding load_bodies
each_load_is_there sources set [] found = tt
each_load_is_there sources set (load ∷ loads) found =
    let mine = first_part (IsFound set) (load_bodies sources load) (flat_map (load_bodies sources) loads) found in
    let others = second_part (IsFound set) (load_bodies sources load) (flat_map (load_bodies sources) loads) found in
    (record { header = mine.0; files = all_of_map (IsFound set) (file_body sources) (files_of load) mine.1 }, each_load_is_there sources set loads others)

module _ (sources : Sources) (lines : List RecipeLine) (is : IsRecipe lines) (fits : SizesFit sources lines) (laws : FormatLaws) where
  abbrev set : SetView
  set = read_set sources lines

  abbrev entries : List LoadEntryView
  entries = map load_entry (loads_of lines)

  abbrev of_loads : List BodyView
  of_loads = flat_map (load_bodies sources) (loads_of lines)

  abbrev of_batches : List BodyView
  of_batches = map batch_body (batches_of lines)

  good : AllByRecursion (IsGoodLoad sources (members_of lines)) (loads_of lines)
  good = good_loads sources lines is fits

  found : AllByRecursion (IsFound set) (recipe_bodies sources lines)
  found = each_is_found body_name file_there (recipe_bodies sources lines) (bodies_are_distinct sources lines is)

  named_bodies : AllByRecursion (IsNamed entries) (recipe_bodies sources lines)
  unfolding recipe_bodies
  named_bodies =
      all_append (IsNamed entries) of_loads of_batches (all_named sources (members_of lines) entries (loads_of lines) good (all_listed (loads_of lines)))
      (all_map _ (IsNamed entries) batch_body (batch_is_named (members_of lines) entries) (batches_of lines) (sound_batches lines is))

  no_entry_findings : flat_map (entry_findings set entries) (map listed_body (recipe_bodies sources lines)) ≡ []
  no_entry_findings =
      none_of (entry_findings set entries) (map listed_body (recipe_bodies sources lines))
      (all_map _ (λ entry. entry_findings set entries entry ≡ []) listed_body (no_entry_finding set entries) (recipe_bodies sources lines) (all_both _ _ (recipe_bodies sources lines) found named_bodies))

  loads_there : AllByRecursion (IsThere sources set) (loads_of lines)
  unfolding recipe_bodies
  loads_there = each_load_is_there sources set (loads_of lines) (first_part (IsFound set) of_loads of_batches found)

  batches_there : AllByRecursion (λ batch. IsFound set (batch_body batch)) (batches_of lines)
  unfolding recipe_bodies
  batches_there = all_of_map (IsFound set) batch_body (batches_of lines) (second_part (IsFound set) of_loads of_batches found)

  no_load_findings : flat_map (load_findings set) entries ≡ []
  no_load_findings =
      none_of (load_findings set) entries
      (all_map _ (λ entry. load_findings set entry ≡ []) load_entry (λ load both. no_load_finding sources (members_of lines) set load laws both.0 both.1) (loads_of lines)
      (all_both _ _ (loads_of lines) good loads_there))

  no_list_findings : of_members (member_findings set.first) 1 (set.first ∷ set.further) ≡ []
  no_list_findings = no_findings_of sources lines (member_findings set.first) 1 (suc (members_of lines - 1)) (no_member_finding sources lines 1)

  no_batch_findings : flat_map (batch_findings set (is_part_of entries)) (map batch_entry (batches_of lines)) ≡ []
  no_batch_findings =
      none_of (batch_findings set (is_part_of entries)) (map batch_entry (batches_of lines))
      (all_map _ (λ entry. batch_findings set (is_part_of entries) entry ≡ []) batch_entry (λ batch all. no_batch_finding set (is_part_of entries) batch laws all.0.0 all.0.1 all.1) (batches_of lines)
      (all_both _ _ (batches_of lines) (all_both _ _ (batches_of lines) (each_batch lines is) batches_there) (each_has_loads lines is)))

  either_has : (a b : Bool) → a ≡ false → b ≡ false → (a || b) ≡ false
  either_has true b e f = absurd cc
  either_has false b e f = f

  -- no member has a list of batches where there are none
  none_has : (from count : ℕ) → batches_of lines ≡ [] → list_any has_batches (map (lists_of_member sources lines) (range_with_len from count)) ≡ false
  none_has from zero none = refl
  none_has from (suc count) none =
      either_has (has_batches (lists_of_member sources lines from)) _ (rw none refl) (none_has (from + 1) count none)

  entries_found : (first : RecipeBatchView) (others : List RecipeBatchView) → batches_of lines ≡ first ∷ others → entries_of set.first.batches ≡ map batch_entry (batches_of lines)
  unfolding recipe_batches
  entries_found first others some = rw some refl

  no_batches_findings : batches_findings set set.first.loads set.first.files ≡ []
  unfolding recipe_loads recipe_files all_batches_findings
  no_batches_findings = by (batches_of lines) refl
    where
      none_then : (has : Bool) (all : List Finding) → all ≡ [] → cond has all [] ≡ []
      none_then true all e = e
      none_then false all e = refl

      not_then : (has : Bool) (all : List Finding) → has ≡ false → cond has all [] ≡ []
      not_then true all e = absurd cc
      not_then false all e = refl

      by : (batches : List RecipeBatchView) → batches_of lines ≡ batches → cond (list_any has_batches (set.first ∷ set.further)) (all_batches_findings set entries) [] ≡ []
      by [] none = not_then _ _ (none_has 1 (suc (members_of lines - 1)) none)
      by (first ∷ others) some =
          none_then _ _ (none_both _ _
          (no_findings_of sources lines (batches_list_findings set.first) 1 (suc (members_of lines - 1)) (λ member. no_batches_list_finding sources lines member first others some))
          (ap (flat_map (batch_findings set (is_part_of entries))) (entries_found first others some) ∙ no_batch_findings))

  no_finding_in_set : findings_of set ≡ []
  unfolding findings_of recipe_loads recipe_files
  no_finding_in_set = none_both _ _ no_list_findings (none_both _ _ (none_both _ _ no_entry_findings no_load_findings) no_batches_findings)

  -- media that have the set of a recipe whose sizes fit have no finding
  pub nothing_is_found : (media : MediaBytes) → HaveSet media sources lines → findings_of (set_in media) ≡ []
  nothing_is_found media has = ap findings_of (set_is_read media sources lines has is fits laws) ∙ no_finding_in_set
