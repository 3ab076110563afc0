-- What building answers, put together.
use Rattle.std.proofs.Common.{◌≡◌, ◌⊎◌, ℕ, ◌+◌, ◌*◌, ◌<◌, ◌≤◌, inl, inr, List, [], ◌∷◌, ◌++◌, length, Option, Ok, Err, refl, sym, ap, subst, ◌∙◌, arith}
use Rattle.std.specs.Prelude.{All, map}
use Rattle.std.specs.List.{AllByRecursion, IsDistinct, flat_map, range_with_len, sum_by}
use Rattle.std.specs.Option.{ForSome}
use Rattle.std.proofs.lemmas.List.{length-map, get_or-map, map-append}
use Rattle.std.proofs.lemmas.List.Elements.{All-nil, All-cons, All-append}
use Rattle.std.proofs.lemmas.List.Sums.{sum_by-append, sum_by-cons}
use Rattle.load_base.specs.Bytes.{same_bytes}
use Rattle.load_base.specs.Host.{Files}
use Rattle.load_base.specs.Name.{IsName}
use Rattle.batch_lists.specs.BatchFields.{IsBatch}
use Rattle.batch_lists.specs.Batches.{BatchesListView, IsBatchesList}
use Rattle.batch_lists.proofs.BatchSizes.{size_batch, small_batch}
use Rattle.media_check.specs.Openings.{largest_set}
use Rattle.media_lists.specs.Files.{IsFilesList}
use Rattle.media_lists.specs.Loads.{IsListedLoad, LoadsListView, IsLoadsList}
use Rattle.media_check.specs.BuiltSets.{IsShortBody}
use Rattle.media_check.specs.declared.built.Built.{Built}
use Rattle.media_check.specs.declared.built.Placed.{Placed}
use Rattle.media_build.specs.Accepted.{IsMemberOf, IsRecipe}
use Rattle.media_build.specs.Building.{AnswersSizes, AreBodies, AreLoadBodies, Builds, CanTake, HasLists, IsFirstRefused, HasShortHeader, HaveShortHeaders, HaveSizes, IsAfterSizes, IsShortView, IsSmallSet, body_place, bodies_length, files_beside, files_bytes, batch_length, batches_length, batches_beside, batches_bytes, fixed_length, headers_length, loads_bytes, of_member, source_names, sources_in, unread}
use Rattle.media_build.specs.Lines.{members_of}
use Rattle.media_build.specs.NoFindings.{HasShortSources, IsShortLoad, SizesFit, body_view, built_view}
use Rattle.media_build.specs.RecipeSets.{BodyView, BuiltView, RecipeLoadView, RecipeBatchView, Sources, all_where_some, batch_body, batch_entry, batch_of, batches_list_bytes, batches_of, load_bodies, recipe_batches, files_list_bytes, files_of, listed_body, load_entry, loads_list_bytes, loads_of, recipe_bodies, recipe_files, recipe_loads, recipe_set, set_of}
use Rattle.media_build.specs.declared.building_fault.BuildFault.{BuildFault}
use Rattle.media_build.specs.declared.building_fault.BuildFault.TheVariants.{Absent, TooLong, TooLarge, HeaderTooLong, ListTooLong, Failed, Memory}
use Rattle.media_build.specs.declared.statements.RecipeLine.{RecipeLine}
use Rattle.media_build.proofs.BuiltLists.{IsSoundBody, batches_fit, bodies_fit, each_batch, files_fit, files_with, has_start, loads_fit, map_map, sound_bodies}
use Rattle.media_build.proofs.BuiltNames.{batch_name_of, bodies_are_distinct, body_name, few_batches, few_bodies, few_loads, header_name_of}
use Rattle.media_build.proofs.HeaderLimits.{headers_bound, no_bytes_short}

-- ---- the sizes

few_hardware : (members : ℕ) (loads : List RecipeLoadView) → AllByRecursion HasShortHeader loads → AllByRecursion (IsListedLoad members) (map load_entry loads)
    → AllByRecursion (IsShortLoad unread) loads
few_hardware members [] short listed = tt
few_hardware members (load ∷ loads) short listed = (record { header = short.0; hardware = listed.0.few }, few_hardware members loads short.1 listed.1)

no_sources : (loads : List RecipeLoadView) → AllByRecursion (HasShortSources unread) loads
no_sources [] = tt
no_sources (load ∷ loads) = (no_bytes_short (files_of load), no_sources loads)

pub unread_sizes : (lines : List RecipeLine) → HaveShortHeaders lines → IsLoadsList (recipe_loads lines 1) → SizesFit unread lines
unfolding recipe_loads
unread_sizes lines short is = record {
  loads = few_hardware (members_of lines) (loads_of lines) short is.entries.each;
  list = is.size;
  files = no_sources (loads_of lines);
}

first_member : (lines : List RecipeLine) → IsRecipe lines → IsMemberOf (members_of lines) 1
first_member lines is = let start = has_start lines is in record { first = omega arith; last = start.members.first }

pub sizes_are_right : (lines : List RecipeLine) → IsRecipe lines → HaveShortHeaders lines → IsLoadsList (recipe_loads lines 1) → HaveSizes lines
sizes_are_right lines is short loads = record {
  headers = short;
  lists = record { loads = loads; files = files_fit unread lines 1 is (first_member lines is); batches = batches_fit lines 1 is (first_member lines is) };
}

pub later_fault : (lines : List RecipeLine) (fault : BuildFault) → HaveSizes lines → IsAfterSizes fault → AnswersSizes lines (Err fault)
later_fault lines fault sizes after = inr (sizes, after)

-- ---- the files of batches

pub length_of_batch : (batch : RecipeBatchView) → length (batch_body batch).bytes ≡ batch_length batch
length_of_batch batch = size_batch (batch_of batch)

lengths_of_batches : (batches : List RecipeBatchView) → bodies_length (map batch_body batches) ≡ batches_length batches
lengths_of_batches [] = refl
lengths_of_batches (batch ∷ batches) =
    omega (arith, sum_by-cons (λ (b : BodyView). length b.bytes) (batch_body batch) (map batch_body batches), sum_by-cons batch_length batch batches, length_of_batch batch, lengths_of_batches batches)

-- how many bytes the files of some batches have at most
pub batches_bound : (batches : List RecipeBatchView) → AllByRecursion (λ batch. IsBatch (batch_of batch)) batches → batches_length batches ≤ 39838 * length batches
batches_bound [] all = omega arith
batches_bound (batch ∷ batches) all = omega (arith, sum_by-cons batch_length batch batches, small_batch (batch_of batch) all.0.contents, batches_bound batches all.1)

short_batches : (batches : List RecipeBatchView) → AllByRecursion (λ batch. IsBatch (batch_of batch)) batches → All IsShortView (map batch_body batches)
short_batches [] all = All-nil IsShortView
short_batches (batch ∷ batches) all =
    All-cons IsShortView (batch_body batch) (map batch_body batches) (omega (arith, length_of_batch batch, small_batch (batch_of batch) all.0.contents)) (short_batches batches all.1)

-- all headers and batches are few enough beside which sources are taken
pub fixed_small : (lines : List RecipeLine) (headers batches : ℕ) → IsRecipe lines → HaveShortHeaders lines → headers ≡ headers_length (loads_of lines) → batches ≡ batches_length (batches_of lines)
    → headers + batches ≤ largest_set
fixed_small lines headers batches is short first second =
    let loads : length (loads_of lines) ≤ 1024 = omega (arith, few_loads lines is, length-map (loads_of lines) header_name_of) in
    let files : length (batches_of lines) ≤ 1024 = omega (arith, few_batches lines is, length-map (batches_of lines) batch_name_of) in
    omega (arith, loads, files, first, second, headers_bound (loads_of lines) short, batches_bound (batches_of lines) (each_batch lines is))

-- the files of loads, and then those of batches
pub joined_are : (lines : List RecipeLine) (others : ℕ) (bodies files : List BodyView) → IsRecipe lines → others ≡ fixed_length lines → AreLoadBodies lines others bodies → files ≡ map batch_body (batches_of lines)
    → AreBodies lines (bodies ++ files)
unfolding recipe_bodies
joined_are lines others bodies files is size are same = record {
  places =
      map-append body_place bodies files
      ∙ (ap (λ (p : List (List ℕ × ℕ)). p ++ map body_place files) are.places ∙ (ap (λ (f : List BodyView). map body_place (flat_map (load_bodies unread) (loads_of lines)) ++ map body_place f) same
      ∙ sym (map-append body_place (flat_map (load_bodies unread) (loads_of lines)) (map batch_body (batches_of lines)))));
  short = All-append IsShortView bodies files are.short (subst (All IsShortView) (sym same) (short_batches (batches_of lines) (each_batch lines is)));
  together = omega (
    arith,
    sum_by-append (λ (b : BodyView). length b.bytes) bodies files,
    ap (λ (f : List BodyView). bodies_length f) same,
    lengths_of_batches (batches_of lines),
    are.together,
    size,
  );
}

pub fixed_is : (lines : List RecipeLine) (others headers batches : ℕ) → others ≡ headers + batches → headers ≡ headers_length (loads_of lines) → batches ≡ batches_length (batches_of lines)
    → others ≡ fixed_length lines
fixed_is lines others headers batches sum first second = omega (arith, sum, first, second)

-- the same of files that were built
pub all_are : (lines : List RecipeLine) (others headers batches : ℕ) (bodies files all : List Placed) → IsRecipe lines → others ≡ headers + batches → headers ≡ headers_length (loads_of lines)
    → batches ≡ batches_length (batches_of lines) → all ≡ bodies ++ files → AreLoadBodies lines others (map body_view bodies) → map body_view files ≡ map batch_body (batches_of lines)
    → AreBodies lines (map body_view all)
all_are lines others headers batches bodies files all is sum first second joined are of_batches =
    subst (AreBodies lines) (sym (ap (λ (b : List Placed). map body_view b) joined ∙ map-append body_view bodies files))
    (joined_are lines others (map body_view bodies) (map body_view files) is (fixed_is lines others headers batches sum first second) are of_batches)

-- what refuses a source beside so many other bytes
abbrev IsRefusal : (others : ℕ) → List RecipeLine → BuildFault → Files → Type 0
IsRefusal others lines fault told = (fault ≡ Failed) ⊎ ((fault ≡ Memory) ⊎ IsFirstRefused told others (source_names lines) fault)

refused : (told : Files) (lines : List RecipeLine) (fault : BuildFault) → IsRefusal (fixed_length lines) lines fault told → Builds lines (Err fault) told
refused told lines (Absent name) (inl failed) = absurd cc
refused told lines (Absent name) (inr (inl memory)) = absurd cc
refused told lines (Absent name) (inr (inr first)) = first
refused told lines (TooLong name) (inl failed) = absurd cc
refused told lines (TooLong name) (inr (inl memory)) = absurd cc
refused told lines (TooLong name) (inr (inr first)) = first
refused told lines TooLarge (inl failed) = absurd cc
refused told lines TooLarge (inr (inl memory)) = absurd cc
refused told lines TooLarge (inr (inr first)) = first
refused told lines (HeaderTooLong line) is = tt
refused told lines ListTooLong is = tt
refused told lines Failed is = tt
refused told lines Memory is = tt

-- the first source that is refused
pub source_refused : (o : Option Files) (lines : List RecipeLine) (others : ℕ) (fault : BuildFault) → others ≡ fixed_length lines
    → ForSome o (IsRefusal others lines fault) → ForSome o (Builds lines (Err fault))
source_refused o lines others fault size takes =
    λ told known. refused told lines fault (subst (λ (n : ℕ). IsRefusal n lines fault told) size (takes told known))

-- ---- lists of the members

members_are : (lines : List RecipeLine) (list : LoadsListView) → list ≡ recipe_loads lines 1 → list.members ≡ members_of lines
unfolding recipe_loads
members_are lines list is = ap (λ (l : LoadsListView). l.members) is

sets_are : (lines : List RecipeLine) (list : LoadsListView) → list ≡ recipe_loads lines 1 → list.set ≡ set_of lines
unfolding recipe_loads
sets_are lines list is = ap (λ (l : LoadsListView). l.set) is

member_of : (lines : List RecipeLine) (list : LoadsListView) (member : ℕ) → list ≡ recipe_loads lines 1 → 1 ≤ member → member ≤ list.members → IsMemberOf (members_of lines) member
member_of lines list member is first last = let all = members_are lines list is in record { first = first; last = omega (arith, all, last) }

of_recipe : (lines : List RecipeLine) (list : LoadsListView) (member : ℕ) → list ≡ recipe_loads lines 1 → of_member list member ≡ recipe_loads lines member
unfolding recipe_loads
of_recipe lines list member is = ap (λ (l : LoadsListView). of_member l member) is

pub each_loads_list : (lines : List RecipeLine) (list : LoadsListView) → IsRecipe lines → HaveShortHeaders lines → list ≡ recipe_loads lines 1 → IsLoadsList (recipe_loads lines 1)
    → (member : ℕ) → 1 ≤ member → member ≤ list.members → IsLoadsList (of_member list member)
each_loads_list lines list recipe short is fits member first last =
    subst IsLoadsList (sym (of_recipe lines list member is)) (loads_fit unread lines member recipe (unread_sizes lines short fits) (member_of lines list member is first last))

-- ---- files with the names and members of the set's

abbrev IsSoundPlace : ℕ → List ℕ × ℕ → Type 0
IsSoundPlace members place = IsName place.0 × IsMemberOf members place.1

places_sound : (members : ℕ) (bodies : List BodyView) → AllByRecursion (IsSoundBody members) bodies → AllByRecursion (IsSoundPlace members) (map body_place bodies)
places_sound members [] all = tt
places_sound members (body ∷ bodies) all = ((all.0.name, all.0.member), places_sound members bodies all.1)

sound_places : (members : ℕ) (bodies : List BodyView) → AllByRecursion (IsSoundPlace members) (map body_place bodies) → AllByRecursion (IsSoundBody members) bodies
sound_places members [] all = tt
sound_places members (body ∷ bodies) all = (record { name = all.0.0; member = all.0.1 }, sound_places members bodies all.1)

names_are : (bodies : List BodyView) → map body_name bodies ≡ map (λ (place : List ℕ × ℕ). place.0) (map body_place bodies)
names_are [] = refl
names_are (body ∷ bodies) = ap (λ (l : List (List ℕ)). body.name ∷ l) (names_are bodies)

placed_fit : (lines : List RecipeLine) (bodies : List BodyView) (member : ℕ) → IsRecipe lines → IsMemberOf (members_of lines) member → AreBodies lines bodies → IsFilesList (files_with lines bodies member)
placed_fit lines bodies member is in_set are =
    let known = recipe_bodies unread lines in
    let names : map body_name bodies ≡ map body_name known = names_are bodies ∙ (ap (λ (p : List (List ℕ × ℕ)). map (λ (place : List ℕ × ℕ). place.0) p) are.places ∙ sym (names_are known)) in
    bodies_fit lines bodies member is in_set
    (sound_places (members_of lines) bodies (subst (AllByRecursion (IsSoundPlace (members_of lines))) (sym are.places) (places_sound (members_of lines) known (sound_bodies unread lines is))))
    (subst (IsDistinct same_bytes) (sym names) (bodies_are_distinct unread lines is))
    (omega (arith, few_bodies unread lines is, ap length names, length-map bodies body_name))

beside_is : (lines : List RecipeLine) (list : LoadsListView) (bodies : List Placed) (member : ℕ) → list ≡ recipe_loads lines 1 → files_beside list bodies member ≡ files_with lines (map body_view bodies) member
beside_is lines list bodies member is =
    rw (sets_are lines list is, members_are lines list is, map_map listed_body body_view bodies) refl

pub each_files_list : (lines : List RecipeLine) (list : LoadsListView) (bodies : List Placed) → IsRecipe lines → list ≡ recipe_loads lines 1 → AreBodies lines (map body_view bodies)
    → (member : ℕ) → 1 ≤ member → member ≤ list.members → IsFilesList (files_beside list bodies member)
each_files_list lines list bodies recipe is are member first last =
    subst IsFilesList (sym (beside_is lines list bodies member is)) (placed_fit lines (map body_view bodies) member recipe (member_of lines list member is first last) are)

batches_beside_is : (lines : List RecipeLine) (list : LoadsListView) (member : ℕ) → list ≡ recipe_loads lines 1 → batches_beside list (batches_of lines) member ≡ recipe_batches lines member
unfolding recipe_batches
batches_beside_is lines list member is = rw (sets_are lines list is, members_are lines list is) refl

pub each_batches_list : (lines : List RecipeLine) (list : LoadsListView) → IsRecipe lines → list ≡ recipe_loads lines 1
    → (member : ℕ) → 1 ≤ member → member ≤ list.members → IsBatchesList (batches_beside list (batches_of lines) member)
each_batches_list lines list recipe is member first last =
    subst IsBatchesList (sym (batches_beside_is lines list member is)) (batches_fit lines member recipe (member_of lines list member is first last))

-- whether there are batches says the list too
pub where_entries : {A B : Type 0} (f : A → B) (xs : List A) (ys : List B) (values : List (List ℕ)) → ys ≡ map f xs → all_where_some ys values ≡ all_where_some xs values
where_entries f [] ys values same = rw same refl
where_entries f (x ∷ xs) ys values same = rw same refl

-- the lists of batches of all members, beside this list of loads
pub lists_beside : (loads : LoadsListView) (batches : List RecipeBatchView) (list : BatchesListView) (lists : List (List ℕ)) → list ≡ batches_beside loads batches 1
    → lists ≡ all_where_some list.entries (map (λ member. batches_bytes (of_member list member)) (range_with_len 1 list.members))
    → lists ≡ all_where_some batches (map (λ member. batches_bytes (batches_beside loads batches member)) (range_with_len 1 loads.members))
lists_beside loads batches list lists is are =
    are ∙ (ap (λ (l : BatchesListView). all_where_some l.entries (map (λ member. batches_bytes (of_member l member)) (range_with_len 1 l.members))) is
    ∙ where_entries batch_entry batches (map batch_entry batches) (map (λ member. batches_bytes (batches_beside loads batches member)) (range_with_len 1 loads.members)) refl)

-- ---- the set

loads_named : (lines : List RecipeLine) (list : LoadsListView) → list ≡ recipe_loads lines 1
    → map (λ member. loads_bytes (of_member list member)) (range_with_len 1 list.members) ≡ map (loads_list_bytes lines) (range_with_len 1 (members_of lines))
unfolding recipe_loads loads_list_bytes
loads_named lines list is = ap (λ (l : LoadsListView). map (λ member. loads_bytes (of_member l member)) (range_with_len 1 l.members)) is

files_named : (sources : Sources) (lines : List RecipeLine) (list : LoadsListView) (bodies : List Placed) → list ≡ recipe_loads lines 1 → map body_view bodies ≡ recipe_bodies sources lines
    → map (λ member. files_bytes (files_beside list bodies member)) (range_with_len 1 list.members) ≡ map (files_list_bytes sources lines) (range_with_len 1 (members_of lines))
unfolding recipe_loads recipe_files files_list_bytes
files_named sources lines list bodies is named =
    ap (λ (l : LoadsListView). map (λ member. files_bytes (files_beside l bodies member)) (range_with_len 1 l.members)) is
    ∙ (ap (λ (entries : List _). map (λ member. files_bytes (record { set = set_of lines; member = member; members = members_of lines; entries = entries; user = [] })) (range_with_len 1 (members_of lines)))
    (sym (map_map listed_body body_view bodies) ∙ ap (λ (b : List BodyView). map listed_body b) named))

batches_named : (lines : List RecipeLine) (list : LoadsListView) → list ≡ recipe_loads lines 1
    → all_where_some (batches_of lines) (map (λ member. batches_bytes (batches_beside list (batches_of lines) member)) (range_with_len 1 list.members))
    ≡ all_where_some (batches_of lines) (map (batches_list_bytes lines) (range_with_len 1 (members_of lines)))
unfolding recipe_loads recipe_batches batches_list_bytes
batches_named lines list is =
    ap (λ (l : LoadsListView). all_where_some (batches_of lines) (map (λ member. batches_bytes (batches_beside l (batches_of lines) member)) (range_with_len 1 l.members))) is

pub named_set : (sources : Sources) (lines : List RecipeLine) (list : LoadsListView) (bodies : List Placed) (built : Built) → list ≡ recipe_loads lines 1
    → map body_view bodies ≡ recipe_bodies sources lines → HasLists list bodies (batches_of lines) built → built_view built ≡ recipe_set sources lines
unfolding recipe_set
named_set sources lines list bodies built is named has =
    let view : List (List ℕ) → List (List ℕ) → List (List ℕ) → List BodyView → BuiltView = λ l f b bodies. record { loads = l; files = f; batches = b; bodies = bodies } in
    let loads = has.loads_are ∙ loads_named lines list is in
    let files = has.files_are ∙ files_named sources lines list bodies is named in
    let batches = has.batches_are ∙ batches_named lines list is in
    let all = ap (λ (b : List Placed). map body_view b) has.bodies_are ∙ named in
    ap (λ (l : List (List ℕ)). view l (map (λ list. list.items) built.files.items) (map (λ list. list.items) built.batches.items) (map body_view built.bodies.items)) loads
    ∙ (ap (λ (f : List (List ℕ)). view (map (loads_list_bytes lines) (range_with_len 1 (members_of lines))) f (map (λ list. list.items) built.batches.items) (map body_view built.bodies.items)) files
    ∙ (ap (λ (b : List (List ℕ)). view (map (loads_list_bytes lines) (range_with_len 1 (members_of lines))) (map (files_list_bytes sources lines) (range_with_len 1 (members_of lines))) b (map body_view built.bodies.items)) batches
    ∙ ap (λ (b : List BodyView). view (map (loads_list_bytes lines) (range_with_len 1 (members_of lines))) (map (files_list_bytes sources lines) (range_with_len 1 (members_of lines)))
    (all_where_some (batches_of lines) (map (batches_list_bytes lines) (range_with_len 1 (members_of lines)))) b) all))

pub set_built : (o : Option Files) (lines : List RecipeLine) (others : ℕ) (list : LoadsListView) (bodies files all : List Placed) (built : Built) → list ≡ recipe_loads lines 1
    → others ≡ fixed_length lines → all ≡ bodies ++ files → map body_view files ≡ map batch_body (batches_of lines) → HasLists list all (batches_of lines) built
    → ForSome o (λ told. CanTake told others (source_names lines) × (map body_view bodies ≡ flat_map (load_bodies (sources_in told)) (loads_of lines))) → ForSome o (Builds lines (Ok built))
unfolding recipe_bodies
set_built o lines others list bodies files all built is size joined of_batches has takes =
    λ told known.
    let taken = takes told known in
    let named : map body_view all ≡ recipe_bodies (sources_in told) lines =
    ap (λ (b : List Placed). map body_view b) joined ∙ (map-append body_view bodies files
    ∙ (ap (λ (b : List BodyView). b ++ map body_view files) taken.1 ∙ ap (λ (b : List BodyView). flat_map (load_bodies (sources_in told)) (loads_of lines) ++ b) of_batches)) in
    (subst (λ (n : ℕ). CanTake told n (source_names lines)) size taken.0, named_set (sources_in told) lines list all built is named has)

-- ---- how large it is

lengths : (bodies : List Placed) → sum_by (λ (body : Placed). length body.bytes.items) bodies ≡ bodies_length (map body_view bodies)
lengths [] = refl
lengths (body ∷ bodies) =
    omega (arith, sum_by-cons (λ (b : Placed). length b.bytes.items) body bodies, sum_by-cons (λ (b : BodyView). length b.bytes) (body_view body) (map body_view bodies), lengths bodies)

short_bodies : (bodies : List Placed) → All IsShortView (map body_view bodies) → All IsShortBody bodies
short_bodies bodies short =
    λ k d within.
    let at = get_or-map body_view bodies k d (body_view d) within in
    let here : k < length (map body_view bodies) = omega (arith, within, length-map bodies body_view) in
    subst IsShortView at (short k (body_view d) here)

pub built_is_small : (lines : List RecipeLine) (list : LoadsListView) (bodies : List Placed) (built : Built) → AreBodies lines (map body_view bodies) → HasLists list bodies (batches_of lines) built → IsSmallSet built
built_is_small lines list bodies built are has =
    record {
      bodies = subst (All IsShortBody) (sym has.bodies_are) (short_bodies bodies are.short);
      together = omega (arith, ap (λ (b : List Placed). sum_by (λ (body : Placed). length body.bytes.items) b) has.bodies_are, lengths bodies, are.together);
    }
