-- The lists of a recipe's set meet the limits of their formats.
use Rattle.std.proofs.Common.{◌≡◌, ℕ, ◌+◌, ◌*◌, ◌%◌, ◌≤◌, Bool, true, false, cond, not, List, [], ◌∷◌, ◌++◌, length, refl, sym, ap, subst, ◌∙◌, arith, length-append}
use Rattle.std.specs.Prelude.{map, codes, slice_index}
use Rattle.std.specs.List.{All, AllByRecursion, flat_map, concat, IsDistinct}
use Rattle.std.proofs.lemmas.List.Elements.{All-nil, All-cons}
use Rattle.std.proofs.lemmas.List.{append-nil, length-map}
use Rattle.crc_fields.proofs.WidthLemmas.{crc16_fits}
use Rattle.load_base.specs.Name.{IsName}
use Rattle.load_base.specs.Text.{IsText}
use Rattle.part_number.specs.PartNumber.{IsPartNumberText}
use Rattle.part_number.proofs.VerdictLemmas.{part_size}
use Rattle.field_grammar.specs.Fields.{number_fields, padded_fields}
use Rattle.field_grammar.proofs.NumberLemmas.{length_number_bytes}
use Rattle.field_grammar.proofs.TextLemmas.{length_pad_bytes}
use Rattle.field_grammar.proofs.SectionLemmas.{size_more, size_number, size_padded}
use Rattle.field_grammar.specs.Spelling.{spelled_length}
use Rattle.header_sections.specs.SectionFields.{texts_fields, user_fields, entry_size, entries_fields, HaveDistances}
use Rattle.header_sections.proofs.SizeLemmas.{size_texts, size_user, size_entries, total_of}
use Rattle.load_base.specs.Bytes.{same_bytes}
use Rattle.batch_lists.specs.BatchFields.{IsBatchTarget, AreContents, IsBatch}
use Rattle.batch_lists.specs.Batches.{batch_body_fields, batch_file, IsListedBatch, IsBatchesList}
use Rattle.batch_lists.proofs.BatchSizes.{small_batch}
use Rattle.batch_lists.proofs.BatchesFit.{batches_short}
use Rattle.batch_lists.proofs.BatchesSizes.{size_batch_parts}
use Rattle.media_lists.specs.Files.{FilesListView, file_body_fields, file_name, IsListedFile, IsFilesList}
use Rattle.media_lists.specs.Lists.{ListView}
use Rattle.media_lists.specs.ListFields.{IsMember, identity_fields, list_size}
use Rattle.media_lists.specs.Loads.{LoadEntryView, load_body_fields, load_name, IsListedLoad, IsLoadsList}
use Rattle.media_lists.specs.Paths.{IsPath}
use Rattle.media_lists.specs.declared.lists.ListedFile.{ListedFile}
use Rattle.media_build.specs.Accepted.{IsRecipeWord, IsMemberOf, IsLoadLine, IsFileLine, IsBatchLine, IsTargetLine, IsSoundLine, IsSmallBatch, IsRecipe, is_of_loads, is_of_batches}
use Rattle.media_build.specs.Lines.{ends_load, is_target, members_of}
use Rattle.media_build.specs.NoFindings.{IsShortLoad, SizesFit}
use Rattle.media_build.specs.RecipeSets.{Sources, RecipeLoadView, RecipeBatchView, BodyView, set_in, set_of, hardware_in, data_in, support_in, targets_in, load_at, loads_of, batch_at, batches_of, batch_target, batch_of, batch_body, batch_entry, recipe_batches, hardware_of, data_of, support_of, files_of, file_body, load_bodies, recipe_bodies, load_entry, recipe_loads, listed_body, recipe_files}
use Rattle.media_build.specs.declared.statements.FileLine.{FileLine}
use Rattle.media_build.specs.declared.statements.RecipeLine.{RecipeLine}
use Rattle.media_build.specs.declared.statements.Statement.{Statement}
use Rattle.media_build.specs.declared.statements.Statement.TheVariants.{Set, Members, Load, Hardware, Position, Data, Support, User, Batch, Target}
use Rattle.media_build.specs.declared.statements.TargetLine.{TargetLine}
use Rattle.media_build.proofs.AcceptedRecipes.{own, own_more, own_targets, own_targets_more, is_further, members_stay}
use Rattle.media_build.proofs.BuiltNames.{body_name, header_name_of, batch_name_of, few_bodies, bodies_are_distinct, few_loads, headers_are_distinct, few_batches, batches_are_distinct, names_are_new}
use Rattle.media_build.proofs.Texts.{graphic_is_printable}

-- ---- what holds of each of joined lists

pub all_append : {A : Type 0} (P : A → Type 0) (xs ys : List A) → AllByRecursion P xs → AllByRecursion P ys → AllByRecursion P (xs ++ ys)
all_append P [] ys some more = more
all_append P (x ∷ xs) ys some more = (some.0, all_append P xs ys some.1 more)

pub all_flat : {A B : Type 0} (P : A → Type 0) (Q : B → Type 0) (f : A → List B) → ((x : A) → P x → AllByRecursion Q (f x)) → (xs : List A) → AllByRecursion P xs
    → AllByRecursion Q (flat_map f xs)
all_flat P Q f each [] all = tt
all_flat P Q f each (x ∷ xs) all = all_append Q (f x) (flat_map f xs) (each x all.0) (all_flat P Q f each xs all.1)

pub all_map : {A B : Type 0} (P : A → Type 0) (Q : B → Type 0) (f : A → B) → ((x : A) → P x → Q (f x)) → (xs : List A) → AllByRecursion P xs → AllByRecursion Q (map f xs)
all_map P Q f each [] all = tt
all_map P Q f each (x ∷ xs) all = (each x all.0, all_map P Q f each xs all.1)

pub all_same : {A : Type 0} (P Q : A → Type 0) → ((x : A) → P x → Q x) → (xs : List A) → AllByRecursion P xs → AllByRecursion Q xs
all_same P Q each [] all = tt
all_same P Q each (x ∷ xs) all = (each x all.0, all_same P Q each xs all.1)

pub all_both : {A : Type 0} (P Q : A → Type 0) (xs : List A) → AllByRecursion P xs → AllByRecursion Q xs → AllByRecursion (λ x. P x × Q x) xs
all_both P Q [] ps qs = tt
all_both P Q (x ∷ xs) ps qs = ((ps.0, qs.0), all_both P Q xs ps.1 qs.1)

pub map_map : {A B C : Type 0} (g : B → C) (f : A → B) (xs : List A) → map g (map f xs) ≡ map (λ x. g (f x)) xs
map_map g f [] = refl
map_map g f (x ∷ xs) = ap (λ (l : List _). g (f x) ∷ l) (map_map g f xs)

-- ---- words

pub word_is_text : (most : ℕ) (word : List ℕ) → most ≤ 255 → IsRecipeWord most word → IsText word
word_is_text most word small is = record { size = omega (arith, is.few); good = λ k lt. graphic_is_printable (slice_index word k) (is.graphic k lt) }

pub words_are_texts : (words : List (List ℕ)) → AllByRecursion (IsRecipeWord 64) words → AllByRecursion IsText words
words_are_texts [] all = tt
words_are_texts (word ∷ words) all = (word_is_text 64 word (omega arith) all.0, words_are_texts words all.1)

-- ---- loads of which each line is sound

pub record IsSoundLoad (members : ℕ) (load : RecipeLoadView) : Type 0 where
  pub line : IsLoadLine members load.load
  pub own : AllByRecursion (IsSoundLine members) load.own

abbrev AreSound : (members : ℕ) → List RecipeLine → Type 0
AreSound members lines = AllByRecursion (λ line. IsSoundLine members line.statement) lines

own_are_sound : (members : ℕ) (lines : List RecipeLine) → AreSound members lines → AllByRecursion (IsSoundLine members) (own lines)
own_are_sound members [] all = tt
own_are_sound members (line ∷ later) all =
    subst (AllByRecursion (IsSoundLine members)) (sym (own_more line later)) (by (ends_load line.statement) (own_are_sound members later all.1))
  where
    by : (b : Bool) → AllByRecursion (IsSoundLine members) (own later) → AllByRecursion (IsSoundLine members) (cond (not b) (line.statement ∷ own later) [])
    by true rest = tt
    by false rest = (all.0, rest)

loads_are_sound : (members : ℕ) (lines : List RecipeLine) → AreSound members lines → AllByRecursion (IsSoundLoad members) (loads_of lines)
loads_are_sound members [] all = tt
loads_are_sound members (line ∷ later) all = by line.statement all.0 (own_are_sound members later all.1) (loads_are_sound members later all.1)
  where
    by : (s : Statement) → IsSoundLine members s → AllByRecursion (IsSoundLine members) (own later) → AllByRecursion (IsSoundLoad members) (loads_of later)
        → AllByRecursion (IsSoundLoad members) (load_at line.number s later ++ loads_of later)
    by (Set part) this mine rest = rest
    by (Members count) this mine rest = rest
    by (Load load) this mine rest = (record { line = this; own = mine }, rest)
    by (Hardware id) this mine rest = rest
    by (Position id place) this mine rest = rest
    by (Data file) this mine rest = rest
    by (Support file) this mine rest = rest
    by (User bytes) this mine rest = rest
    by (Batch batch) this mine rest = rest
    by (Target target) this mine rest = rest

pub sound_loads : (lines : List RecipeLine) → IsRecipe lines → AllByRecursion (IsSoundLoad (members_of lines)) (loads_of lines)
sound_loads lines is = loads_are_sound (members_of lines) lines is.each

hardware_word : (members : ℕ) (s : Statement) → IsSoundLine members s → AllByRecursion (IsRecipeWord 64) (hardware_in s)
hardware_word members (Set part) is = tt
hardware_word members (Members count) is = tt
hardware_word members (Load load) is = tt
hardware_word members (Hardware id) is = (is, tt)
hardware_word members (Position id place) is = tt
hardware_word members (Data file) is = tt
hardware_word members (Support file) is = tt
hardware_word members (User bytes) is = tt
hardware_word members (Batch batch) is = tt
hardware_word members (Target target) is = tt

data_file : (members : ℕ) (s : Statement) → IsSoundLine members s → AllByRecursion (IsFileLine members) (data_in s)
data_file members (Set part) is = tt
data_file members (Members count) is = tt
data_file members (Load load) is = tt
data_file members (Hardware id) is = tt
data_file members (Position id place) is = tt
data_file members (Data file) is = (is, tt)
data_file members (Support file) is = tt
data_file members (User bytes) is = tt
data_file members (Batch batch) is = tt
data_file members (Target target) is = tt

support_file : (members : ℕ) (s : Statement) → IsSoundLine members s → AllByRecursion (IsFileLine members) (support_in s)
support_file members (Set part) is = tt
support_file members (Members count) is = tt
support_file members (Load load) is = tt
support_file members (Hardware id) is = tt
support_file members (Position id place) is = tt
support_file members (Data file) is = tt
support_file members (Support file) is = (is, tt)
support_file members (User bytes) is = tt
support_file members (Batch batch) is = tt
support_file members (Target target) is = tt

pub hardware_words : (members : ℕ) (load : RecipeLoadView) → IsSoundLoad members load → AllByRecursion (IsRecipeWord 64) (hardware_of load)
hardware_words members load is = all_flat (IsSoundLine members) (IsRecipeWord 64) hardware_in (hardware_word members) load.own is.own

pub data_files : (members : ℕ) (load : RecipeLoadView) → IsSoundLoad members load → AllByRecursion (IsFileLine members) (data_of load)
data_files members load is = all_flat (IsSoundLine members) (IsFileLine members) data_in (data_file members) load.own is.own

pub support_files : (members : ℕ) (load : RecipeLoadView) → IsSoundLoad members load → AllByRecursion (IsFileLine members) (support_of load)
support_files members load is = all_flat (IsSoundLine members) (IsFileLine members) support_in (support_file members) load.own is.own

-- ---- the set

pub record HasStart (lines : List RecipeLine) : Type 0 where
  pub set : IsPartNumberText (set_of lines)
  pub members : IsMemberOf 255 (members_of lines)

no_sets : (lines : List RecipeLine) → AllByRecursion (λ line. is_further line.statement ≡ true) lines → flat_map (λ line. set_in line.statement) lines ≡ []
no_sets [] all = refl
no_sets (line ∷ lines) all = by line.statement all.0 (no_sets lines all.1)
  where
    by : (s : Statement) → is_further s ≡ true → flat_map (λ (l : RecipeLine). set_in l.statement) lines ≡ [] → set_in s ++ flat_map (λ (l : RecipeLine). set_in l.statement) lines ≡ []
    by (Set part) e rest = absurd cc
    by (Members count) e rest = absurd cc
    by (Load load) e rest = rest
    by (Hardware id) e rest = rest
    by (Position id place) e rest = rest
    by (Data file) e rest = rest
    by (Support file) e rest = rest
    by (User bytes) e rest = rest
    by (Batch batch) e rest = rest
    by (Target target) e rest = rest

further_load : (s : Statement) → is_of_loads s ≡ true → is_further s ≡ true
further_load (Set part) e = absurd cc
further_load (Members count) e = absurd cc
further_load (Load load) e = refl
further_load (Hardware id) e = refl
further_load (Position id place) e = refl
further_load (Data file) e = refl
further_load (Support file) e = refl
further_load (User bytes) e = refl
further_load (Batch batch) e = refl
further_load (Target target) e = refl

further_batch : (s : Statement) → is_of_batches s ≡ true → is_further s ≡ true
further_batch (Set part) e = absurd cc
further_batch (Members count) e = absurd cc
further_batch (Load load) e = refl
further_batch (Hardware id) e = refl
further_batch (Position id place) e = refl
further_batch (Data file) e = refl
further_batch (Support file) e = refl
further_batch (User bytes) e = refl
further_batch (Batch batch) e = refl
further_batch (Target target) e = refl

module _ (lines : List RecipeLine) (is : IsRecipe lines) where
  abbrev a : RecipeLine
  a = record { number = is.order.numbers.0; statement = Set is.order.set }

  abbrev b : RecipeLine
  b = record { number = is.order.numbers.1; statement = Members is.order.members }

  abbrev c : RecipeLine
  c = record { number = is.order.numbers.2; statement = Load is.order.load }

  abbrev rest : List RecipeLine
  rest = is.order.later ++ is.order.batches

  abbrev whole : List RecipeLine
  whole = a ∷ b ∷ c ∷ rest

  all_further : AllByRecursion (λ line. is_further line.statement ≡ true) rest
  all_further =
      all_append _ is.order.later is.order.batches (all_same _ _ (λ line. further_load line.statement) is.order.later is.order.others)
      (all_same _ _ (λ line. further_batch line.statement) is.order.batches is.order.last.each)

  set_is : set_of whole ≡ is.order.set
  set_is = ap (λ (l : List (List ℕ)). concat (is.order.set ∷ l)) (no_sets rest all_further) ∙ append-nil is.order.set

  two_members : members_of (a ∷ b ∷ []) ≡ is.order.members
  unfolding members_of
  two_members = refl

  members_are : members_of whole ≡ is.order.members
  members_are = members_stay (a ∷ b ∷ []) (c ∷ rest) (refl, all_further) ∙ two_members

  pub set_of_is : set_of lines ≡ is.order.set
  set_of_is = ap set_of is.order.stands ∙ set_is

  pub members_of_is : members_of lines ≡ is.order.members
  members_of_is = ap members_of is.order.stands ∙ members_are

  pub has_start : HasStart lines
  has_start =
      let same : lines ≡ whole = is.order.stands in
      let sound = subst (AreSound (members_of lines)) same is.each in
      record {
        set = rw (ap set_of same ∙ set_is) sound.0;
        members = rw (ap members_of same ∙ members_are) sound.1.0;
      }

-- ---- batches of which each line is sound

pub record IsSoundBatch (members : ℕ) (batch : RecipeBatchView) : Type 0 where
  pub line : IsBatchLine members batch.batch
  pub targets : AllByRecursion IsTargetLine batch.targets

-- what holds of the target of each line holds of those of the batch before these lines
own_targets_are : (P : TargetLine → Type 0) (lines : List RecipeLine) → AllByRecursion (λ line. AllByRecursion P (targets_in line.statement)) lines → AllByRecursion P (own_targets lines)
own_targets_are P [] all = tt
own_targets_are P (line ∷ later) all =
    subst (AllByRecursion P) (sym (own_targets_more line later)) (by (is_target line.statement) (all_append P (targets_in line.statement) (own_targets later) all.0 (own_targets_are P later all.1)))
  where
    by : (b : Bool) → AllByRecursion P (targets_in line.statement ++ own_targets later) → AllByRecursion P (cond b (targets_in line.statement ++ own_targets later) [])
    by true some = some
    by false some = tt

pub targets_are : (P : TargetLine → Type 0) (lines : List RecipeLine) → AllByRecursion (λ line. AllByRecursion P (targets_in line.statement)) lines
    → AllByRecursion (λ batch. AllByRecursion P batch.targets) (batches_of lines)
targets_are P [] all = tt
targets_are P (line ∷ later) all = by line.statement (own_targets_are P later all.1) (targets_are P later all.1)
  where
    by : (s : Statement) → AllByRecursion P (own_targets later) → AllByRecursion (λ batch. AllByRecursion P batch.targets) (batches_of later)
        → AllByRecursion (λ batch. AllByRecursion P batch.targets) (batch_at s later ++ batches_of later)
    by (Set part) mine rest = rest
    by (Members count) mine rest = rest
    by (Load load) mine rest = rest
    by (Hardware id) mine rest = rest
    by (Position id place) mine rest = rest
    by (Data file) mine rest = rest
    by (Support file) mine rest = rest
    by (User bytes) mine rest = rest
    by (Batch batch) mine rest = (mine, rest)
    by (Target target) mine rest = rest

batch_lines : (members : ℕ) (lines : List RecipeLine) → AreSound members lines → AllByRecursion (λ batch. IsBatchLine members batch.batch) (batches_of lines)
batch_lines members [] all = tt
batch_lines members (line ∷ later) all = by line.statement all.0 (batch_lines members later all.1)
  where
    by : (s : Statement) → IsSoundLine members s → AllByRecursion (λ batch. IsBatchLine members batch.batch) (batches_of later)
        → AllByRecursion (λ batch. IsBatchLine members batch.batch) (batch_at s later ++ batches_of later)
    by (Set part) this rest = rest
    by (Members count) this rest = rest
    by (Load load) this rest = rest
    by (Hardware id) this rest = rest
    by (Position id place) this rest = rest
    by (Data file) this rest = rest
    by (Support file) this rest = rest
    by (User bytes) this rest = rest
    by (Batch batch) this rest = (this, rest)
    by (Target target) this rest = rest

target_lines : (members : ℕ) (s : Statement) → IsSoundLine members s → AllByRecursion IsTargetLine (targets_in s)
target_lines members (Set part) is = tt
target_lines members (Members count) is = tt
target_lines members (Load load) is = tt
target_lines members (Hardware id) is = tt
target_lines members (Position id place) is = tt
target_lines members (Data file) is = tt
target_lines members (Support file) is = tt
target_lines members (User bytes) is = tt
target_lines members (Batch batch) is = tt
target_lines members (Target target) is = (is, tt)

pub sound_batches : (lines : List RecipeLine) → IsRecipe lines → AllByRecursion (IsSoundBatch (members_of lines)) (batches_of lines)
sound_batches lines is =
    let targets = targets_are IsTargetLine lines (all_same _ _ (λ line sound. target_lines (members_of lines) line.statement sound) lines is.each) in
    all_same _ _ (λ batch both. record { line = both.0; targets = both.1 }) (batches_of lines) (all_both _ _ (batches_of lines) (batch_lines (members_of lines) lines is.each) targets)

-- ---- batches as their files have them

by_index : {A : Type 0} (P : A → Type 0) (xs : List A) → AllByRecursion P xs → All P xs
by_index P [] all = All-nil P
by_index P (x ∷ xs) all = All-cons P x xs all.0 (by_index P xs all.1)

is_batch_target : (target : TargetLine) → IsTargetLine target → IsBatchTarget (batch_target target)
is_batch_target target is = record { hw = is.hw; pos = is.pos; count = (is.some, is.few); parts = by_index IsPartNumberText target.parts is.parts }

pub is_batch_of : (members : ℕ) (batch : RecipeBatchView) → IsSoundBatch members batch → IsSmallBatch batch → IsBatch (batch_of batch)
is_batch_of members batch sound small =
    let count = length-map batch.targets batch_target in
    let are : AreContents (batch_of batch) = record {
      part = sound.line.part;
      count = (omega (arith, small.some, count), omega (arith, small.few, count));
      targets = by_index IsBatchTarget (map batch_target batch.targets) (all_map IsTargetLine IsBatchTarget batch_target is_batch_target batch.targets sound.targets);
    } in
    record { contents = are; size = omega (arith, small_batch (batch_of batch) are) }

pub each_batch : (lines : List RecipeLine) → IsRecipe lines → AllByRecursion (λ batch. IsBatch (batch_of batch)) (batches_of lines)
each_batch lines is =
    all_same _ _ (λ batch both. is_batch_of (members_of lines) batch both.0 both.1) (batches_of lines) (all_both _ _ (batches_of lines) (sound_batches lines is) is.batches)

-- ---- LOADS.LUM

abbrev load_limit : ℕ
load_limit = 131070

size_words : (words : List (List ℕ)) → AllByRecursion (IsRecipeWord 64) words → spelled_length (flat_map padded_fields words) ≤ 66 * length words
size_words [] all = omega arith
size_words (word ∷ words) all =
    omega (arith, size_more (padded_fields word) (flat_map padded_fields words), size_padded word, all.0.few, size_words words all.1)

size_load : (l : LoadEntryView) → spelled_length (load_body_fields l) ≡ spelled_length (padded_fields l.part) + spelled_length (padded_fields l.header_name) + 2 + spelled_length (texts_fields l.hardware)
unfolding load_body_fields
size_load l =
    omega (
      arith,
      size_more (padded_fields l.part) (padded_fields l.header_name ++ (number_fields 2 l.member ++ texts_fields l.hardware)),
      size_more (padded_fields l.header_name) (number_fields 2 l.member ++ texts_fields l.hardware),
      size_more (number_fields 2 l.member) (texts_fields l.hardware),
      size_number 2 l.member,
    )

short_entry : (members : ℕ) (load : RecipeLoadView) → IsSoundLoad members load → length (hardware_of load) ≤ 1024 → entry_size load_body_fields (load_entry load) ≤ load_limit
short_entry members load is few =
    omega (
      arith,
      size_load (load_entry load),
      size_padded load.load.part,
      size_padded load.load.name,
      part_size load.load.part is.line.part,
      is.line.name.size.1,
      size_texts (hardware_of load),
      size_words (hardware_of load) (hardware_words members load is),
      few,
    )

distances : {E X : Type 0} (f : E → List (List ℕ)) (view : X → E) (xs : List X) → AllByRecursion (λ x. entry_size f (view x) ≤ 131070) xs → HaveDistances f (map view xs)
distances f view [] all = tt
distances f view (x ∷ []) all = tt
distances f view (x ∷ y ∷ xs) all = (all.0, distances f view (y ∷ xs) all.1)

member_is : (members member : ℕ) → members ≤ 255 → IsMemberOf members member → IsMember members member
member_is members member few is = (is.first, is.last, omega (arith, is.last))

listed_load : (sources : Sources) (members : ℕ) (load : RecipeLoadView) → members ≤ 255 → IsSoundLoad members load × IsShortLoad sources load → IsListedLoad members (load_entry load)
listed_load sources members load few is = record {
  part = is.0.line.part;
  header_name = is.0.line.name;
  member = member_is members load.load.member few is.0.line.member;
  few = is.1.hardware;
  hardware = words_are_texts (hardware_of load) (hardware_words members load is.0);
}

size_identity : (set : List ℕ) (member members : ℕ) → spelled_length (identity_fields set member members) ≡ 4 + length set + length set % 2
unfolding identity_fields
size_identity set member members =
    omega (arith, size_more (padded_fields set) (number_fields 1 member ++ number_fields 1 members), size_more (number_fields 1 member) (number_fields 1 members), size_number 1 member, size_number 1 members, size_padded set)

whole_size : {E : Type 0} (f : E → List (List ℕ)) (v : ListView E) → list_size f v ≡ 26 + length v.set + length v.set % 2 + spelled_length (entries_fields f v.entries) + spelled_length (user_fields v.user)
unfolding list_size
whole_size f v = omega (arith, size_identity v.set v.member v.members)

pub loads_fit : (sources : Sources) (lines : List RecipeLine) (member : ℕ) → IsRecipe lines → SizesFit sources lines → IsMemberOf (members_of lines) member
    → IsLoadsList (recipe_loads lines member)
unfolding recipe_loads
loads_fit sources lines member is fits in_set =
    let start = has_start lines is in
    let few : members_of lines ≤ 255 = start.members.last in
    let each = all_both (IsSoundLoad (members_of lines)) (IsShortLoad sources) (loads_of lines) (sound_loads lines is) fits.loads in
    let names = map_map load_name load_entry (loads_of lines) in
    record {
      set = start.set;
      member = member_is (members_of lines) member few in_set;
      members = omega (arith, few);
      entries = record {
        count = omega (arith, few_loads lines is, length-map (loads_of lines) load_entry, length-map (loads_of lines) header_name_of);
        each = all_map _ (IsListedLoad (members_of lines)) load_entry (λ load. listed_load sources (members_of lines) load few) (loads_of lines) each;
        distances = distances load_body_fields load_entry (loads_of lines)
            (all_same _ _ (λ load both. short_entry (members_of lines) load both.0 both.1.hardware) (loads_of lines) each);
        names = names_are_new load_name (map load_entry (loads_of lines)) (rw names (headers_are_distinct lines is));
      };
      user = λ i. omega arith;
      user_even = refl;
      user_size = omega arith;
      size = omega (arith, whole_size load_body_fields (recipe_loads lines member), whole_size load_body_fields (recipe_loads lines 1), fits.list);
    }

-- ---- FILES.LUM

root : IsPath (codes "\\")
root = record { names = []; few = omega arith; good = tt; size = omega arith; written = refl }

-- a file of the set: its name and its member
pub record IsSoundBody (members : ℕ) (body : BodyView) : Type 0 where
  pub name : IsName body.name
  pub member : IsMemberOf members body.member

body_of_file : (sources : Sources) (members : ℕ) (file : FileLine) → IsFileLine members file → IsSoundBody members (file_body sources file)
body_of_file sources members file is = record { name = is.name; member = is.member }

bodies_of_load : (sources : Sources) (members : ℕ) (load : RecipeLoadView) → IsSoundLoad members load → AllByRecursion (IsSoundBody members) (load_bodies sources load)
unfolding load_bodies
bodies_of_load sources members load is =
    let files = all_append (IsFileLine members) (data_of load) (support_of load) (data_files members load is) (support_files members load is) in
    (record { name = is.line.name; member = is.line.member }, all_map (IsFileLine members) (IsSoundBody members) (file_body sources) (body_of_file sources members) (files_of load) files)

pub sound_bodies : (sources : Sources) (lines : List RecipeLine) → IsRecipe lines → AllByRecursion (IsSoundBody (members_of lines)) (recipe_bodies sources lines)
unfolding recipe_bodies
sound_bodies sources lines is =
    all_append (IsSoundBody (members_of lines)) (flat_map (load_bodies sources) (loads_of lines)) (map batch_body (batches_of lines))
    (all_flat (IsSoundLoad (members_of lines)) (IsSoundBody (members_of lines)) (load_bodies sources) (bodies_of_load sources (members_of lines)) (loads_of lines) (sound_loads lines is))
    (all_map (IsSoundBatch (members_of lines)) (IsSoundBody (members_of lines)) batch_body (λ batch sound. record { name = sound.line.name; member = sound.line.member }) (batches_of lines) (sound_batches lines is))

listed_file : (members : ℕ) (body : BodyView) → members ≤ 255 → IsSoundBody members body → IsListedFile members (listed_body body)
listed_file members body few is = record { name = is.name; path = root; member = member_is members body.member few is.member; sum = crc16_fits body.bytes }

size_file : (f : ListedFile) → spelled_length (file_body_fields f) ≡ (2 + length f.name + length f.name % 2) + (2 + length f.path + length f.path % 2) + 4
unfolding file_body_fields
size_file f = simp (length-append, length_number_bytes, length_pad_bytes) (omega arith)

short_file : (members : ℕ) (body : BodyView) → IsSoundBody members body → entry_size file_body_fields (listed_body body) ≤ 88
short_file members body is = omega (arith, size_file (listed_body body), is.name.size.1)

short_enough : {A : Type 0} (size : A → ℕ) (xs : List A) → AllByRecursion (λ x. size x ≤ 88) xs → AllByRecursion (λ x. size x ≤ 131070) xs
short_enough size [] all = tt
short_enough size (x ∷ xs) all = (omega (arith, all.0), short_enough size xs all.1)

-- entries of at most this many bytes
total_bound : {E X : Type 0} (f : E → List (List ℕ)) (view : X → E) (xs : List X) → AllByRecursion (λ x. entry_size f (view x) ≤ 88) xs → total_of f (map view xs) ≤ 88 * length xs
total_bound f view [] all = omega arith
total_bound f view (x ∷ xs) all = omega (arith, all.0, total_bound f view xs all.1)

-- FILES.LUM of a member, of these files
abbrev pub files_with : List RecipeLine → List BodyView → ℕ → FilesListView
files_with lines bodies member = record { set = set_of lines; member = member; members = members_of lines; entries = map listed_body bodies; user = [] }

-- a list of files whose names and members are those of the set's
pub bodies_fit : (lines : List RecipeLine) (bodies : List BodyView) (member : ℕ) → IsRecipe lines → IsMemberOf (members_of lines) member
    → AllByRecursion (IsSoundBody (members_of lines)) bodies → IsDistinct same_bytes (map body_name bodies) → length bodies ≤ 1024 → IsFilesList (files_with lines bodies member)
bodies_fit lines bodies member is in_set each new count =
    let start = has_start lines is in
    let few : members_of lines ≤ 255 = start.members.last in
    let names = map_map file_name listed_body bodies in
    let sizes = all_same _ (λ body. entry_size file_body_fields (listed_body body) ≤ 88) (short_file (members_of lines)) bodies each in
    record {
      set = start.set;
      member = member_is (members_of lines) member few in_set;
      members = omega (arith, few);
      entries = record {
        count = omega (arith, count, length-map bodies listed_body);
        each = all_map _ (IsListedFile (members_of lines)) listed_body (λ body. listed_file (members_of lines) body few) bodies each;
        distances = distances file_body_fields listed_body bodies (short_enough (λ body. entry_size file_body_fields (listed_body body)) bodies sizes);
        names = names_are_new file_name (map listed_body bodies) (rw names new);
      };
      user = λ i. omega arith;
      user_even = refl;
      user_size = omega arith;
      size = omega (
        arith,
        whole_size file_body_fields (files_with lines bodies member),
        part_size (set_of lines) start.set,
        size_entries file_body_fields (map listed_body bodies),
        total_bound file_body_fields listed_body bodies sizes,
        count,
        size_user [],
      );
    }

pub files_fit : (sources : Sources) (lines : List RecipeLine) (member : ℕ) → IsRecipe lines → IsMemberOf (members_of lines) member
    → IsFilesList (recipe_files sources lines member)
unfolding recipe_files
files_fit sources lines member is in_set =
    bodies_fit lines (recipe_bodies sources lines) member is in_set (sound_bodies sources lines is) (bodies_are_distinct sources lines is)
    (omega (arith, few_bodies sources lines is, length-map (recipe_bodies sources lines) body_name))

-- ---- BATCHES.LUM

listed_batch : (members : ℕ) (batch : RecipeBatchView) → members ≤ 255 → IsSoundBatch members batch → IsListedBatch members (batch_entry batch)
listed_batch members batch few is = record { part = is.line.part; file = is.line.name; member = member_is members batch.batch.member few is.line.member }

short_batch : (members : ℕ) (batch : RecipeBatchView) → IsSoundBatch members batch → entry_size batch_body_fields (batch_entry batch) ≤ 88
short_batch members batch is =
    omega (arith, size_batch_parts (batch_entry batch), size_padded batch.batch.part, size_padded batch.batch.name, part_size batch.batch.part is.line.part, is.line.name.size.1)

pub batches_fit : (lines : List RecipeLine) (member : ℕ) → IsRecipe lines → IsMemberOf (members_of lines) member → IsBatchesList (recipe_batches lines member)
unfolding recipe_batches
batches_fit lines member is in_set =
    let start = has_start lines is in
    let few : members_of lines ≤ 255 = start.members.last in
    let names = map_map batch_file batch_entry (batches_of lines) in
    let listed = all_map _ (IsListedBatch (members_of lines)) batch_entry (λ batch. listed_batch (members_of lines) batch few) (batches_of lines) (sound_batches lines is) in
    let sizes = all_same _ _ (λ batch. short_batch (members_of lines) batch) (batches_of lines) (sound_batches lines is) in
    let count : length (batches_of lines) ≤ 1024 = omega (arith, few_batches lines is, length-map (batches_of lines) batch_name_of) in
    record {
      set = start.set;
      member = member_is (members_of lines) member few in_set;
      members = omega (arith, few);
      entries = record {
        count = omega (arith, count, length-map (batches_of lines) batch_entry);
        each = listed;
        distances = batches_short (members_of lines) (map batch_entry (batches_of lines)) listed;
        names = names_are_new batch_file (map batch_entry (batches_of lines)) (rw names (batches_are_distinct lines is));
      };
      user = λ i. omega arith;
      user_even = refl;
      user_size = omega arith;
      size = omega (
        arith,
        whole_size batch_body_fields (recipe_batches lines member),
        part_size (set_of lines) start.set,
        size_entries batch_body_fields (map batch_entry (batches_of lines)),
        total_bound batch_body_fields batch_entry (batches_of lines) sizes,
        count,
        size_user [],
      );
    }
