-- The set that the media of a recipe's set tell.
use Rattle.std.proofs.Common.{◌≡◌, ℕ, zero, suc, ◌+◌, ◌-◌, ◌<◌, ◌≤◌, List, [], ◌∷◌, length, take, Option, Some, Ok, refl, sym, ap, ◌∙◌, arith}
use Rattle.std.specs.Prelude.{map, slice_get}
use Rattle.std.specs.List.{AllByRecursion, range_with_len}
use Rattle.std.specs.Map.{lookup}
use Rattle.std.proofs.lemmas.List.FromFn.{length-map-range_with_len, get_or-map-range_with_len}
use Rattle.std.proofs.lemmas.Option.{slice_get-get_or, slice_get-map}
use Rattle.load_base.specs.Bytes.{same_bytes}
use Rattle.load_base.specs.Listed.{Listed}
use Rattle.batch_lists.specs.Batch.{BatchView, batch}
use Rattle.batch_lists.specs.BatchFields.{BatchSpells}
use Rattle.batch_lists.specs.Batches.{BatchesListView, batches_list, BatchesSpells}
use Rattle.batch_lists.specs.declared.fault.BatchesFault.{BatchesFault}
use Rattle.media_lists.specs.declared.fault.ListFault.{ListFault}
use Rattle.field_grammar.specs.Answers.{answer}
use Rattle.field_grammar.proofs.ExactLemmas.{answer-spelled, spelled_at_start}
use Rattle.field_grammar.specs.Grammar.{Grammar, Spelled}
use Rattle.load_header.specs.Header.{header, HeaderView}
use Rattle.load_header.specs.HeaderChanges.{with_load_crc}
use Rattle.load_header.specs.HeaderFields.{header_size, HeaderSpells}
use Rattle.media_lists.specs.Files.{FilesListView, files_list, FilesSpells}
use Rattle.media_lists.specs.Loads.{LoadsListView, loads_list, LoadsSpells}
use Rattle.media_check.specs.BuiltSets.{member_list, body_of, built_media}
use Rattle.media_check.specs.Sets.{MediaBytes, MemberView, ListedFileView, SetView, found_as, found_in, lists_in, file_in, set_with, set_in}
use Rattle.media_check.specs.declared.built.Built.{Built}
use Rattle.media_check.specs.declared.built.Placed.{Placed}
use Rattle.media_check.specs.declared.found.Found.{Found}
use Rattle.media_check.specs.declared.found.Found.TheVariants.{Missing, Read}
use Rattle.media_build.specs.Accepted.{IsMemberOf, IsRecipe}
use Rattle.media_build.specs.Lines.{members_of}
use Rattle.media_build.specs.NoFindings.{SizesFit, body_view, built_view, HaveSet}
use Rattle.media_build.specs.RecipeSets.{Sources, RecipeBatchView, BodyView, BuiltView, batches_of, recipe_bodies, recipe_loads, listed_body, recipe_files, recipe_batches, loads_list_bytes, files_list_bytes, batches_list_bytes, where_some, all_where_some, recipe_set}
use Rattle.media_build.specs.declared.statements.RecipeLine.{RecipeLine}
use Rattle.media_build.proofs.BuiltLists.{all_same, map_map, has_start, loads_fit, files_fit, batches_fit}
use Rattle.media_build.proofs.BuiltNames.{body_name, named, bodies_are_distinct, each_is_found}

-- what the laws of the formats say
pub record FormatLaws : Type 0 where
  pub loads : (v : LoadsListView) (bytes : List ℕ) → LoadsSpells v bytes → Spelled loads_list bytes v
  pub files : (v : FilesListView) (bytes : List ℕ) → FilesSpells v bytes → Spelled files_list bytes v
  pub batches : (v : BatchesListView) (bytes : List ℕ) → BatchesSpells v bytes → answer batches_list bytes ≡ Ok v
  pub batch : (v : BatchView) (bytes : List ℕ) → BatchSpells v bytes → answer batch bytes ≡ Ok v
  pub headers : (h : HeaderView) (bytes : List ℕ) → HeaderSpells h bytes → Spelled header bytes h
  pub header_length : (h : HeaderView) (bytes : List ℕ) → HeaderSpells h bytes → length bytes ≡ header_size h
  pub before_load_crc : (h : HeaderView) (crc : ℕ) (bytes others : List ℕ) → HeaderSpells h bytes → HeaderSpells (with_load_crc h crc) others
      → take (length bytes - 4) bytes ≡ take (length others - 4) others

pub answer_is : {F A : Type 0} (g : Grammar F A) (bytes : List ℕ) (value : A) → Spelled g bytes value → answer g bytes ≡ Ok value
answer_is g bytes value s = answer-spelled g bytes value (spelled_at_start g bytes value s)

-- the one of a member, among those of all members from 1 on
nth : {A : Type 0} (f : ℕ → A) (members member : ℕ) → IsMemberOf members member → slice_get (map f (range_with_len 1 members)) (member - 1) ≡ Some (f member)
nth f members member is =
    let within : member - 1 < length (map f (range_with_len 1 members)) = omega (arith, is.first, is.last, length-map-range_with_len f 1 members) in
    slice_get-get_or (map f (range_with_len 1 members)) (member - 1) (f member) within
    ∙ ap (λ (x : _). Some x) (get_or-map-range_with_len f 1 members (member - 1) member (f member) (omega (arith, is.first, is.last)) (omega (arith, is.first)))

-- ---- the set as it is read

-- a list of batches, where there are some
abbrev pub found_where : List RecipeBatchView → BatchesListView → Found BatchesListView BatchesFault
found_where [] list = Missing
found_where (first ∷ others) list = Read list

-- the lists of a member
abbrev pub lists_of_member : Sources → List RecipeLine → ℕ → MemberView
lists_of_member sources lines member = record {
  loads = Read (recipe_loads lines member);
  files = Read (recipe_files sources lines member);
  batches = found_where (batches_of lines) (recipe_batches lines member);
}

abbrev pub file_there : BodyView → ListedFileView
file_there body = record { member = body.member; bytes = Some body.bytes }

abbrev pub read_set : Sources → List RecipeLine → SetView
read_set sources lines = record {
  first = lists_of_member sources lines 1;
  further = map (lists_of_member sources lines) (range_with_len 2 (members_of lines - 1));
  files = map (named body_name file_there) (recipe_bodies sources lines);
}

same_lists : (a b : Found LoadsListView ListFault) (c d : Found FilesListView ListFault) (x y : Found BatchesListView BatchesFault) → a ≡ b → c ≡ d → x ≡ y
    → (let one : MemberView = record { loads = a; files = c; batches = x } in one) ≡ record { loads = b; files = d; batches = y }
same_lists a b c d x y e f g = rw (e, f, g) refl

same_set : (first : MemberView) (a b : List MemberView) (c d : List (List ℕ × ListedFileView)) → a ≡ b → c ≡ d
    → (let one : SetView = record { first = first; further = a; files = c } in one) ≡ record { first = first; further = b; files = d }
same_set first a b c d e f = rw (e, f) refl

module _ (media : MediaBytes) (sources : Sources) (lines : List RecipeLine) (has : HaveSet media sources lines) (is : IsRecipe lines) (fits : SizesFit sources lines) (laws : FormatLaws) where
  loads_found : (member : ℕ) → IsMemberOf (members_of lines) member → found_in loads_list (media.loads_list member) ≡ Read (recipe_loads lines member)
  unfolding loads_list_bytes
  loads_found member in_set =
      let spells : LoadsSpells (recipe_loads lines member) (loads_list_bytes lines member) = (loads_fit sources lines member is fits in_set, refl) in
      ap (λ (bytes : Option (List ℕ)). found_in loads_list bytes) (has.has.loads member in_set)
      ∙ ap (λ (r : _). found_as r) (answer_is loads_list (loads_list_bytes lines member) (recipe_loads lines member) (laws.loads (recipe_loads lines member) (loads_list_bytes lines member) spells))

  files_found : (member : ℕ) → IsMemberOf (members_of lines) member → found_in files_list (media.files_list member) ≡ Read (recipe_files sources lines member)
  unfolding files_list_bytes
  files_found member in_set =
      let spells : FilesSpells (recipe_files sources lines member) (files_list_bytes sources lines member) = (files_fit sources lines member is in_set, refl) in
      ap (λ (bytes : Option (List ℕ)). found_in files_list bytes) (has.has.files member in_set)
      ∙ ap (λ (r : _). found_as r) (answer_is files_list (files_list_bytes sources lines member) (recipe_files sources lines member) (laws.files (recipe_files sources lines member) (files_list_bytes sources lines member) spells))

  batches_found : (member : ℕ) → IsMemberOf (members_of lines) member → found_in batches_list (media.batches_list member) ≡ found_where (batches_of lines) (recipe_batches lines member)
  unfolding batches_list_bytes
  batches_found member in_set =
      let spells : BatchesSpells (recipe_batches lines member) (batches_list_bytes lines member) = (batches_fit lines member is in_set, refl) in
      let read = laws.batches (recipe_batches lines member) (batches_list_bytes lines member) spells in
      ap (λ (bytes : Option (List ℕ)). found_in batches_list bytes) (has.batches member in_set) ∙ by (batches_of lines) (ap (λ (r : _). found_as r) read)
    where
      by : (batches : List RecipeBatchView) → found_as (answer batches_list (batches_list_bytes lines member)) ≡ Read (recipe_batches lines member)
          → found_in batches_list (where_some batches (batches_list_bytes lines member)) ≡ found_where batches (recipe_batches lines member)
      by [] read = refl
      by (first ∷ others) read = read

  pub member_found : (member : ℕ) → IsMemberOf (members_of lines) member → lists_in media member ≡ lists_of_member sources lines member
  member_found member in_set = same_lists _ _ _ _ _ _ (loads_found member in_set) (files_found member in_set) (batches_found member in_set)

  members_found : (from count : ℕ) → 1 ≤ from → from + count ≤ members_of lines + 1
      → map (lists_in media) (range_with_len from count) ≡ map (lists_of_member sources lines) (range_with_len from count)
  members_found from zero low high = refl
  members_found from (suc count) low high =
      let here : IsMemberOf (members_of lines) from = record { first = low; last = omega (arith, high) } in
      let rest = members_found (from + 1) count (omega arith) (omega (arith, high)) in
      rw (member_found from here, rest) refl

  file_found : (body : BodyView) → media.listed (listed_body body) ≡ Some body.bytes → file_in media (listed_body body) ≡ named body_name file_there body
  file_found body found = ap (λ (bytes : Option (List ℕ)). let file : List ℕ × ListedFileView = (body.name, record { member = body.member; bytes = bytes }) in file) found

  files_there : (bodies : List BodyView) → AllByRecursion (λ body. media.listed (listed_body body) ≡ Some body.bytes) bodies
      → map (file_in media) (map listed_body bodies) ≡ map (named body_name file_there) bodies
  files_there [] found = refl
  files_there (body ∷ bodies) found = rw (file_found body found.0, files_there bodies found.1) refl

  first_read : set_with media (lists_of_member sources lines 1) ≡ read_set sources lines
  unfolding recipe_loads recipe_files
  first_read =
      let start = has_start lines is in
      let count : 2 + (members_of lines - 1) ≤ members_of lines + 1 = omega (arith, start.members.first) in
      same_set (lists_of_member sources lines 1) _ _ _ _ (members_found 2 (members_of lines - 1) (omega arith) count)
      (files_there (recipe_bodies sources lines) has.has.bodies)

  -- the media tell this set
  pub set_is_read : set_in media ≡ read_set sources lines
  set_is_read =
      let start = has_start lines is in
      ap (set_with media) (member_found 1 (record { first = omega arith; last = start.members.first })) ∙ first_read

-- ---- as it is built

lists_are : (lists : List (Listed ℕ)) (member : ℕ) → member_list lists member ≡ slice_get (map (λ list. list.items) lists) (member - 1)
lists_are lists member = sym (slice_get-map (λ (list : Listed ℕ). list.items) lists (member - 1))

bodies_are : (bodies : List Placed) (name : List ℕ) → body_of bodies name ≡ lookup (same_bytes name) (map (named body_name (λ body. body.bytes)) (map body_view bodies))
bodies_are bodies name = ap (lookup (same_bytes name)) (sym (map_map (named body_name (λ (body : BodyView). body.bytes)) body_view bodies))

pub list_there : (f : ℕ → List ℕ) (lists : List (Listed ℕ)) (members member : ℕ) → map (λ list. list.items) lists ≡ map f (range_with_len 1 members) → IsMemberOf members member
    → member_list lists member ≡ Some (f member)
list_there f lists members member same in_set = lists_are lists member ∙ (ap (λ (l : List (List ℕ)). slice_get l (member - 1)) same ∙ nth f members member in_set)

pub list_where_some : (batches : List RecipeBatchView) (f : ℕ → List ℕ) (lists : List (Listed ℕ)) (members member : ℕ)
    → map (λ list. list.items) lists ≡ all_where_some batches (map f (range_with_len 1 members)) → IsMemberOf members member
    → member_list lists member ≡ where_some batches (f member)
list_where_some [] f lists members member same in_set = lists_are lists member ∙ ap (λ (l : List (List ℕ)). slice_get l (member - 1)) same
list_where_some (first ∷ others) f lists members member same in_set = list_there f lists members member same in_set

pub built_media_have : (sources : Sources) (lines : List RecipeLine) (built : Built) → IsRecipe lines → built_view built ≡ recipe_set sources lines → HaveSet (built_media built) sources lines
unfolding recipe_set
built_media_have sources lines built is same = record {
  has = record {
    loads = λ member. list_there (loads_list_bytes lines) built.loads.items (members_of lines) member (ap (λ (set : BuiltView). set.loads) same);
    files = λ member. list_there (files_list_bytes sources lines) built.files.items (members_of lines) member (ap (λ (set : BuiltView). set.files) same);
    bodies = all_same _ _ body_there (recipe_bodies sources lines) (each_is_found body_name (λ b. b.bytes) (recipe_bodies sources lines) (bodies_are_distinct sources lines is));
  };
  batches = λ member. list_where_some (batches_of lines) (batches_list_bytes lines) built.batches.items (members_of lines) member (ap (λ (set : BuiltView). set.batches) same);
}
  where
    body_there : (body : BodyView) → lookup (same_bytes body.name) (map (named body_name (λ b. b.bytes)) (recipe_bodies sources lines)) ≡ Some body.bytes
        → body_of built.bodies.items body.name ≡ Some body.bytes
    body_there body found =
        bodies_are built.bodies.items body.name ∙ (ap (λ (set : BuiltView). lookup (same_bytes body.name) (map (named body_name (λ b. b.bytes)) set.bodies)) same ∙ found)
