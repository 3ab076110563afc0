-- The files of the set, load by load.
use Rattle.std.proofs.Common.{◌≡◌, ℕ, ◌+◌, ◌≤◌, List, [], ◌∷◌, ◌++◌, length, append-nil, append_assoc, Option, Ok, Err, refl, sym, ap, subst, ◌∙◌, arith}
use Rattle.std.specs.Prelude.{All, map}
use Rattle.std.specs.List.{flat_map, sum_by, AllByRecursion}
use Rattle.std.specs.Option.{ForSome}
use Rattle.std.proofs.lemmas.List.{map-append, length-map}
use Rattle.std.proofs.lemmas.List.Elements.{All-nil, All-append}
use Rattle.std.proofs.lemmas.List.Sums.{sum_by-append}
use Rattle.std.proofs.lemmas.Grind.{flat_map-append}
use Rattle.load_base.specs.Host.{Files}
use Rattle.load_base.specs.Listed.{Listed}
use Rattle.load_header.specs.HeaderFields.{IsHeader}
use Rattle.media_check.specs.declared.built.Placed.{Placed}
use Rattle.media_check.specs.Openings.{total_of, largest_set}
use Rattle.media_build.specs.Accepted.{IsRecipe}
use Rattle.media_build.specs.Building.{AddsLoad, AreLoadBodies, CanTake, HasShortHeader, HaveShortHeaders, IsHeaderIfShort, IsShortView, TakesLoad, TakesSources, body_place, bodies_length, header_length, headers_length, source_names, sources_in, sources_of, unread}
use Rattle.media_build.specs.NoFindings.{body_view}
use Rattle.media_build.specs.RecipeSets.{BodyView, RecipeLoadView, Sources, header_start, load_bodies, loads_of}
use Rattle.media_build.specs.declared.building_fault.BuildFault.{BuildFault}
use Rattle.media_build.specs.declared.statements.RecipeLine.{RecipeLine}
use Rattle.media_build.proofs.BuiltHeaders.{second_part}
use Rattle.media_build.proofs.BuiltNames.{few_loads, header_name_of}
use Rattle.media_build.proofs.HeaderLimits.{each_fits, headers_bound}
use Rattle.media_build.proofs.Taking.{told_also, told_both, told_anyway, take_none, take_both, takes_stop, total_both}

-- ---- some loads

-- the names of the sources of loads
abbrev names_of : List RecipeLoadView → List (List ℕ)
names_of loads = flat_map sources_of loads

abbrev bodies_of : Sources → List RecipeLoadView → List BodyView
bodies_of sources loads = flat_map (load_bodies sources) loads

-- one more
flat_more : {A B : Type 0} (f : A → List B) (xs : List A) (x : A) → flat_map f (xs ++ x ∷ []) ≡ flat_map f xs ++ f x
flat_more f xs x = flat_map-append f xs (x ∷ []) ∙ ap (λ (l : List _). flat_map f xs ++ l) (append-nil (f x))

-- all headers are few enough beside which sources are taken
pub headers_small : (lines : List RecipeLine) → IsRecipe lines → HaveShortHeaders lines → headers_length (loads_of lines) ≤ largest_set
headers_small lines is short =
    let loads : length (loads_of lines) ≤ 1024 = omega (arith, few_loads lines is, length-map (loads_of lines) header_name_of) in
    omega (arith, loads, headers_bound (loads_of lines) short)

-- what the host tells of the sources of these loads
pub record ToldSoFar (before : List RecipeLoadView) (headers total : ℕ) (bodies : List BodyView) (told : Files) : Type 0 where
  pub taken : CanTake told headers (names_of before)
  pub are : bodies ≡ bodies_of (sources_in told) before
  pub total_is : total ≡ headers + total_of told (names_of before)

-- of the loads of these lines these are left, and those before them have these files
pub record BodiesSoFar (o : Option Files) (lines : List RecipeLine) (left : List RecipeLoadView) (headers total : ℕ) (bodies : List BodyView) : Type 0 where
  pub before : List RecipeLoadView
  pub stands : loads_of lines ≡ before ++ left
  pub places : map body_place bodies ≡ map body_place (bodies_of unread before)
  pub short : All IsShortView bodies
  pub together : headers + bodies_length bodies ≡ headers_length before + total
  pub small : total ≤ largest_set
  pub told : ForSome o (ToldSoFar before headers total bodies)

pub no_bodies : (o : Option Files) (lines : List RecipeLine) (left : List RecipeLoadView) (headers : ℕ) (bodies : List BodyView) → left ≡ loads_of lines → bodies ≡ [] → headers ≤ largest_set
    → BodiesSoFar o lines left headers headers bodies
no_bodies o lines left headers bodies all none small = record {
  before = [];
  stands = sym all;
  places = rw none refl;
  short = rw none (All-nil IsShortView);
  together = rw none (omega arith);
  small = small;
  told = told_anyway o _ (λ told. record { taken = take_none told headers small; are = none; total_is = omega arith });
}

pub bodies_more : (o : Option Files) (lines : List RecipeLine) (left rest : List RecipeLoadView) (load : RecipeLoadView) (headers total sum : ℕ) (old : List BodyView) (new : Listed Placed)
    → BodiesSoFar o lines left headers total old → left ≡ load ∷ rest → AddsLoad load total old (map body_view new.items) sum
    → ForSome o (TakesSources total (sources_of load) (TakesLoad load total old) (Ok (new, sum))) → BodiesSoFar o lines rest headers sum (map body_view new.items)
bodies_more o lines left rest load headers total sum old new so_far is adds takes =
    let before = so_far.before in
    let names = flat_more sources_of before load in
    let lengths = sum_by-append header_length before (load ∷ []) in
    let one : sum_by header_length (load ∷ []) ≡ header_length load = omega arith in
    let size : BodyView → ℕ = λ body. length body.bytes in
    let bytes : bodies_length (map body_view new.items) ≡ bodies_length old + bodies_length adds.bodies = ap (λ (b : List BodyView). bodies_length b) adds.new_are ∙ sum_by-append size old adds.bodies in
    record {
      before = before ++ load ∷ [];
      stands = so_far.stands ∙ (ap (λ (l : List RecipeLoadView). before ++ l) is ∙ sym (append_assoc before (load ∷ []) rest));
      places =
          ap (λ (b : List BodyView). map body_place b) adds.new_are ∙ (map-append body_place old adds.bodies
          ∙ (ap (λ (p : List (List ℕ × ℕ)). p ++ map body_place adds.bodies) so_far.places ∙ (ap (λ (p : List (List ℕ × ℕ)). map body_place (bodies_of unread before) ++ p) adds.places
          ∙ (sym (map-append body_place (bodies_of unread before) (load_bodies unread load)) ∙ sym (ap (λ (b : List BodyView). map body_place b) (flat_more (load_bodies unread) before load))))));
      short = subst (All IsShortView) (sym adds.new_are) (All-append IsShortView old adds.bodies so_far.short adds.short);
      together = omega (arith, lengths, one, bytes, adds.together, so_far.together);
      small = adds.small;
      told = told_both o _ _ _ so_far.told takes (λ told first here.
          let more : CanTake told (headers + total_of told (names_of before)) (sources_of load) = subst (λ (n : ℕ). CanTake told n (sources_of load)) first.total_is here.0 in
          record {
            taken = subst (CanTake told headers) (sym names) (take_both told headers (names_of before) (sources_of load) first.taken more);
            are = here.1.new ∙ (ap (λ (b : List BodyView). b ++ load_bodies (sources_in told) load) first.are ∙ sym (flat_more (load_bodies (sources_in told)) before load));
            total_is = omega (arith, ap (total_of told) names, total_both told (names_of before) (sources_of load), first.total_is, here.1.total);
          });
    }

-- ---- the whole

abbrev NamesBodies : List RecipeLine → Files → Listed Placed → Type 0
NamesBodies lines files bodies = map body_view bodies.items ≡ bodies_of (sources_in files) (loads_of lines)

pub bodies_stop : {T : Type 0} (o : Option Files) (lines : List RecipeLine) (left rest : List RecipeLoadView) (load : RecipeLoadView) (headers total : ℕ) (old : List BodyView) (P : Files → T → Type 0) (fault : BuildFault)
    → BodiesSoFar o lines left headers total old → left ≡ load ∷ rest → ForSome o (TakesSources total (sources_of load) (TakesLoad load total old) (Err fault))
    → ForSome o (TakesSources headers (source_names lines) P (Err fault))
bodies_stop {T = T} o lines left rest load headers total old P fault so_far is stop =
    told_both o _ _ _ so_far.told stop (λ told first refused.
    let names : source_names lines ≡ names_of so_far.before ++ (sources_of load ++ names_of rest) =
    ap (λ (l : List RecipeLoadView). names_of l) (so_far.stands ∙ ap (λ (l : List RecipeLoadView). so_far.before ++ l) is) ∙ flat_map-append sources_of so_far.before (load ∷ rest) in
    let here = subst (λ (n : ℕ). TakesSources n (sources_of load) (TakesLoad load total old) (Err fault) told) first.total_is refused in
    subst (λ (n : List (List ℕ)). TakesSources headers n P (Err fault) told) (sym names)
    (takes_stop {S = Listed Placed × ℕ} {T = T} told headers (names_of so_far.before) (sources_of load) (names_of rest) (TakesLoad load total old) P fault first.taken here))

all_before : (o : Option Files) (lines : List RecipeLine) (left : List RecipeLoadView) (headers total : ℕ) (bodies : List BodyView) (so_far : BodiesSoFar o lines left headers total bodies) → left ≡ []
    → so_far.before ≡ loads_of lines
all_before o lines left headers total bodies so_far none = sym (so_far.stands ∙ (ap (λ (l : List RecipeLoadView). so_far.before ++ l) none ∙ append-nil so_far.before))

pub bodies_taken : (o : Option Files) (lines : List RecipeLine) (left : List RecipeLoadView) (headers total : ℕ) (bodies : Listed Placed) → BodiesSoFar o lines left headers total (map body_view bodies.items)
    → left ≡ [] → ForSome o (TakesSources headers (source_names lines) (NamesBodies lines) (Ok bodies))
bodies_taken o lines left headers total bodies so_far none =
    let all = all_before o lines left headers total (map body_view bodies.items) so_far none in
    told_also o _ _ so_far.told (λ told first. (
      subst (λ (l : List RecipeLoadView). CanTake told headers (names_of l)) all first.taken,
      first.are ∙ ap (λ (l : List RecipeLoadView). bodies_of (sources_in told) l) all,
    ))

pub bodies_are : (o : Option Files) (lines : List RecipeLine) (left : List RecipeLoadView) (headers total : ℕ) (bodies : List BodyView) → BodiesSoFar o lines left headers total bodies → left ≡ []
    → AreLoadBodies lines headers bodies
bodies_are o lines left headers total bodies so_far none =
    let all = all_before o lines left headers total bodies so_far none in
    record {
      places = so_far.places ∙ ap (λ (l : List RecipeLoadView). map body_place (bodies_of unread l)) all;
      short = so_far.short;
      together = omega (arith, so_far.together, so_far.small, ap (λ (l : List RecipeLoadView). headers_length l) all);
    }

-- the header of the next load meets the limits of its format
pub next_header : (o : Option Files) (lines : List RecipeLine) (left rest : List RecipeLoadView) (load : RecipeLoadView) (headers total : ℕ) (bodies : List BodyView) → BodiesSoFar o lines left headers total bodies
    → left ≡ load ∷ rest → IsRecipe lines → HaveShortHeaders lines → IsHeader (header_start unread load)
next_header o lines left rest load headers total bodies so_far is recipe short =
    let split = so_far.stands ∙ ap (λ (l : List RecipeLoadView). so_far.before ++ l) is in
    let fits = second_part IsHeaderIfShort so_far.before (load ∷ rest) (subst (AllByRecursion IsHeaderIfShort) split (each_fits lines recipe)) in
    let small = second_part HasShortHeader so_far.before (load ∷ rest) (subst (AllByRecursion HasShortHeader) split short) in
    fits.0 small.0
