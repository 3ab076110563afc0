-- A folder that has the set of a recipe can be read.
use Rattle.std.proofs.Common.{◌≡◌, ℕ, zero, suc, ◌+◌, ◌-◌, ◌≤◌, List, [], ◌∷◌, ◌++◌, length, Some, refl, sym, ap, subst, ◌∙◌, arith, length-append}
use Rattle.std.specs.Prelude.{All, map}
use Rattle.std.specs.List.{AllByRecursion, concat, flat_map, range_with_len, sum_by}
use Rattle.std.proofs.lemmas.List.Elements.{All-nil, All-cons}
use Rattle.std.proofs.lemmas.List.Sums.{sum_by-cons}
use Rattle.crc_fields.specs.CheckSums.{crc16_of}
use Rattle.field_grammar.specs.Fields.{number_fields}
use Rattle.field_grammar.proofs.NumberLemmas.{length_number_bytes}
use Rattle.field_grammar.proofs.SectionLemmas.{size_more, size_number}
use Rattle.field_grammar.specs.Spelling.{spelled_length}
use Rattle.header_sections.specs.SectionFields.{user_fields, entries_fields}
use Rattle.load_base.specs.Host.{Files, longest_file}
use Rattle.load_header.specs.HeaderFields.{header_size}
use Rattle.batch_lists.specs.BatchFields.{IsBatch}
use Rattle.batch_lists.specs.Batches.{batch_body_fields}
use Rattle.batch_lists.proofs.BatchSizes.{size_batch, small_batch}
use Rattle.media_lists.specs.Files.{file_body_fields}
use Rattle.media_lists.specs.Lists.{ListView}
use Rattle.media_lists.specs.ListFields.{head_fields, identity_fields, list_size, pointers_of, sections_fields, covered_fields, list_fields}
use Rattle.media_lists.specs.Loads.{load_body_fields}
use Rattle.media_check.specs.HostNames.{host_media, list_names, listed_name, batches_name, whole_reading}
use Rattle.media_check.specs.Openings as openings
use Rattle.media_check.specs.Openings.{IsShortOnHost, total_of, largest_set, CanRead}
use Rattle.media_check.specs.Sets.{MemberView, lists_in}
use Rattle.media_check.specs.declared.built.Built.{Built}
use Rattle.media_check.specs.declared.built.Placed.{Placed}
use Rattle.media_build.specs.Accepted.{IsMemberOf, IsRecipe}
use Rattle.media_build.specs.Lines.{members_of}
use Rattle.media_build.specs.NoFindings.{SizesFit, body_view, built_view, HaveSet}
use Rattle.media_build.specs.RecipeSets.{Sources, RecipeLoadView, RecipeBatchView, BodyView, batches_of, batch_of, batch_body, recipe_batches, batches_list_bytes, where_some, BuiltView, loads_of, files_of, header_bytes, header_of, file_body, load_bodies, recipe_bodies, recipe_loads, recipe_files, listed_body, loads_list_bytes, files_list_bytes, recipe_set}
use Rattle.media_build.specs.declared.statements.RecipeLine.{RecipeLine}
use Rattle.media_build.proofs.BuiltHeaders.{IsGoodLoad, header_spells, good_loads}
use Rattle.media_build.proofs.BuiltLists.{all_append, all_flat, all_map, all_both, has_start, loads_fit, files_fit, batches_fit, each_batch}
use Rattle.media_build.proofs.BuiltSet.{FormatLaws, lists_of_member, member_found}

by_index : {A : Type 0} (P : A → Type 0) (xs : List A) → AllByRecursion P xs → All P xs
by_index P [] all = All-nil P
by_index P (x ∷ xs) all = All-cons P x xs all.0 (by_index P xs all.1)

-- ---- lengths

size_head : {E : Type 0} (version size : ℕ) (f : E → List (List ℕ)) (v : ListView E) → spelled_length (head_fields version size (pointers_of f v)) ≡ 20
unfolding head_fields
size_head version size f v = simp (length-append, length_number_bytes) refl

list_length : {E : Type 0} (version : ℕ) (f : E → List (List ℕ)) (v : ListView E) → length (concat (list_fields version f v)) ≡ list_size f v
unfolding list_fields covered_fields sections_fields list_size
list_length version f v =
    let identity : List (List ℕ) = identity_fields v.set v.member v.members in
    let entries : List (List ℕ) = entries_fields f v.entries in
    let user : List (List ℕ) = user_fields v.user in
    let head : List (List ℕ) = head_fields version (list_size f v) (pointers_of f v) in
    let sum : ℕ = crc16_of (concat (covered_fields version f v)) in
    omega (
      arith,
      size_more (head ++ (identity ++ (entries ++ user))) (number_fields 2 sum),
      size_number 2 sum,
      size_more head (identity ++ (entries ++ user)),
      size_head version (list_size f v) f v,
      size_more identity (entries ++ user),
      size_more entries user,
    )

short_loads_list : (sources : Sources) (lines : List RecipeLine) (member : ℕ) → IsRecipe lines → SizesFit sources lines → IsMemberOf (members_of lines) member
    → length (loads_list_bytes lines member) ≤ longest_file
unfolding loads_list_bytes
short_loads_list sources lines member is fits in_set =
    let size = (loads_fit sources lines member is fits in_set).size in
    omega (arith, size, list_length 0x9004 load_body_fields (recipe_loads lines member))

short_files_list : (sources : Sources) (lines : List RecipeLine) (member : ℕ) → IsRecipe lines → IsMemberOf (members_of lines) member
    → length (files_list_bytes sources lines member) ≤ longest_file
unfolding files_list_bytes
short_files_list sources lines member is in_set =
    let size = (files_fit sources lines member is in_set).size in
    omega (arith, size, list_length 0xA004 file_body_fields (recipe_files sources lines member))

short_batches_list : (lines : List RecipeLine) (member : ℕ) → IsRecipe lines → IsMemberOf (members_of lines) member → length (batches_list_bytes lines member) ≤ longest_file
unfolding batches_list_bytes
short_batches_list lines member is in_set =
    let size = (batches_fit lines member is in_set).size in
    omega (arith, size, list_length 0xB004 batch_body_fields (recipe_batches lines member))

-- a list of batches that may be there
short_where_some : (files : Files) (name : List ℕ) (batches : List RecipeBatchView) (bytes : List ℕ) → files name ≡ where_some batches bytes → length bytes ≤ longest_file → IsShortOnHost files name
short_where_some files name [] bytes has short = rw has (omega arith)
short_where_some files name (batch ∷ batches) bytes has short = rw has short

abbrev IsShortFile : BodyView → Type 0
IsShortFile body = length body.bytes ≤ longest_file

short_of_load : (sources : Sources) (members : ℕ) (load : RecipeLoadView) → FormatLaws → IsGoodLoad sources members load → AllByRecursion IsShortFile (load_bodies sources load)
unfolding load_bodies
short_of_load sources members load laws good =
    let spells = header_spells sources members load good in
    let size : header_size (header_of sources load) ≤ 65536 = spells.0.size in
    (omega (arith, size, laws.header_length (header_of sources load) (header_bytes (header_of sources load)) spells), all_map _ IsShortFile (file_body sources) (λ file short. short) (files_of load) good.files)

pub short_bodies : (sources : Sources) (lines : List RecipeLine) → FormatLaws → IsRecipe lines → SizesFit sources lines → AllByRecursion IsShortFile (recipe_bodies sources lines)
unfolding recipe_bodies
short_bodies sources lines laws is fits =
    all_append IsShortFile (flat_map (load_bodies sources) (loads_of lines)) (map batch_body (batches_of lines))
    (all_flat (IsGoodLoad sources (members_of lines)) IsShortFile (load_bodies sources) (λ load. short_of_load sources (members_of lines) load laws) (loads_of lines) (good_loads sources lines is fits))
    (all_map (λ (batch : RecipeBatchView). IsBatch (batch_of batch)) IsShortFile batch_body
    (λ batch fits. omega (arith, size_batch (batch_of batch), small_batch (batch_of batch) fits.contents)) (batches_of lines) (each_batch lines is))

-- ---- what is read

abbrev IsThere : (folder : List ℕ) → Files → BodyView → Type 0
IsThere folder files body = files (listed_name folder (listed_body body)) ≡ Some body.bytes

module _ (folder : List ℕ) (files : Files) (sources : Sources) (lines : List RecipeLine) (has : HaveSet (host_media files folder) sources lines) (is : IsRecipe lines) (fits : SizesFit sources lines) (laws : FormatLaws) where
  short_lists_of : (member : ℕ) → IsMemberOf (members_of lines) member → AllByRecursion (IsShortOnHost files) (list_names folder member)
  short_lists_of member in_set =
      let loads = short_loads_list sources lines member is fits in_set in
      let listed = short_files_list sources lines member is in_set in
      let batches = short_batches_list lines member is in_set in (
        rw (has.has.loads member in_set) loads,
        (rw (has.has.files member in_set) listed, (short_where_some files (batches_name folder member) (batches_of lines) (batches_list_bytes lines member) (has.batches member in_set) batches, tt)),
      )

  short_lists : (from count : ℕ) → 1 ≤ from → from + count ≤ members_of lines + 1 → AllByRecursion (IsShortOnHost files) (flat_map (list_names folder) (range_with_len from count))
  short_lists from zero low high = tt
  short_lists from (suc count) low high =
      let in_set : IsMemberOf (members_of lines) from = record { first = low; last = omega (arith, high) } in
      all_append (IsShortOnHost files) (list_names folder from) (flat_map (list_names folder) (range_with_len (from + 1) count)) (short_lists_of from in_set)
      (short_lists (from + 1) count (omega arith) (omega (arith, high)))

  short_listed : (bodies : List BodyView) → AllByRecursion (λ body. IsThere folder files body × IsShortFile body) bodies → AllByRecursion (IsShortOnHost files) (map (listed_name folder) (map listed_body bodies))
  short_listed [] all = tt
  short_listed (body ∷ bodies) all = let short = all.0.1 in (rw all.0.0 short, short_listed bodies all.1)

  total_listed : (bodies : List BodyView) → AllByRecursion (IsThere folder files) bodies → total_of files (map (listed_name folder) (map listed_body bodies)) ≡ sum_by (λ body. length body.bytes) bodies
  total_listed [] all = refl
  total_listed (body ∷ bodies) all =
      sum_by-cons (openings.length_on_host files) (listed_name folder (listed_body body)) (map (listed_name folder) (map listed_body bodies))
      ∙ (rw (all.0, total_listed bodies all.1) refl ∙ sym (sum_by-cons (λ (b : BodyView). length b.bytes) body bodies))

  can_read_rest : sum_by (λ body. length body.bytes) (recipe_bodies sources lines) ≤ largest_set → CanRead files (whole_reading folder (lists_of_member sources lines 1))
  unfolding recipe_loads recipe_files
  can_read_rest small =
      let start = has_start lines is in
      let bodies : List BodyView = recipe_bodies sources lines in
      let first : IsMemberOf (members_of lines) 1 = record { first = omega arith; last = start.members.first } in
      let rest : 2 + (members_of lines - 1) ≤ members_of lines + 1 = omega (arith, start.members.first) in
      let lists = all_append (IsShortOnHost files) (list_names folder 1) (flat_map (list_names folder) (range_with_len 2 (members_of lines - 1))) (short_lists_of 1 first)
      (short_lists 2 (members_of lines - 1) (omega arith) rest) in
      let listed = short_listed bodies (all_both (IsThere folder files) IsShortFile bodies has.has.bodies (short_bodies sources lines laws is fits)) in
      record {
        lists = by_index (IsShortOnHost files) (list_names folder 1 ++ flat_map (list_names folder) (range_with_len 2 (members_of lines - 1))) lists;
        listed = by_index (IsShortOnHost files) (map (listed_name folder) (map listed_body bodies)) listed;
        together = omega (arith, small, total_listed bodies has.has.bodies);
      }

  -- nothing of it is refused as too long or too large
  pub can_be_read : sum_by (λ body. length body.bytes) (recipe_bodies sources lines) ≤ largest_set → CanRead files (whole_reading folder (lists_in (host_media files folder) 1))
  can_be_read small =
      let start = has_start lines is in
      let first : IsMemberOf (members_of lines) 1 = record { first = omega arith; last = start.members.first } in
      subst (λ (m : MemberView). CanRead files (whole_reading folder m)) (sym (member_found (host_media files folder) sources lines has is fits laws 1 first)) (can_read_rest small)

pub total_built : (bodies : List Placed) → sum_by (λ body. length body.bytes.items) bodies ≡ sum_by (λ body. length body.bytes) (map body_view bodies)
total_built [] = refl
total_built (body ∷ bodies) =
    sum_by-cons (λ (b : Placed). length b.bytes.items) body bodies
    ∙ (ap (λ (n : ℕ). length body.bytes.items + n) (total_built bodies) ∙ sym (sum_by-cons (λ (b : BodyView). length b.bytes) (body_view body) (map body_view bodies)))

-- the files of a set that was built have as many bytes as those of the set that the recipe names
pub same_total : (sources : Sources) (lines : List RecipeLine) (built : Built) → built_view built ≡ recipe_set sources lines
    → sum_by (λ body. length body.bytes.items) built.bodies.items ≡ sum_by (λ body. length body.bytes) (recipe_bodies sources lines)
unfolding recipe_set
same_total sources lines built same = total_built built.bodies.items ∙ ap (λ (set : BuiltView). sum_by (λ body. length body.bytes) set.bodies) same
