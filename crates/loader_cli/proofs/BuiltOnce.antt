-- One answer is given for a recipe: the set's counts, or the first refusal.
use Rattle.std.proofs.Common.{◌≡◌, inl, inr, ℕ, ◌+◌, ◌<◌, ◌≤◌, List, [], ◌∷◌, ◌++◌, length, Option, Some, None, Result, Ok, Err, refl, sym, ap, subst, ◌∙◌, arith}
use Rattle.std.specs.Prelude.{All, codes, if◌then◌else◌, nat_lt}
use Rattle.std.specs.List.{AllByRecursion}
use Rattle.std.proofs.lemmas.List.{length-map}
use Rattle.std.proofs.lemmas.List.Elements.{All-head, All-tail}
use Rattle.load_base.specs.Counts.{Rose}
use Rattle.load_base.specs.Host.{Files, longest_file}
use Rattle.printed_text.specs.FaultTexts.{coded}
use Rattle.media_build.specs.Building.{AnswersSizes, Builds as BuildsOf, CanTake, HasShortHeader, HaveLists, HaveShortHeaders, HaveSizes, IsFirstLongHeader, IsFirstRefused, IsSourceFault, IsThere, header_length, fixed_length, source_names}
use Rattle.media_build.specs.FaultTexts.{recipe_fault_text}
use Rattle.media_build.specs.NoFindings.{body_view, built_view}
use Rattle.media_build.specs.RecipeSets.{BuiltView, RecipeLoadView, loads_of}
use Rattle.media_build.specs.Recipes.{recipe_said}
use Rattle.media_build.specs.declared.building_fault.BuildFault.{BuildFault}
use Rattle.media_build.specs.declared.building_fault.BuildFault.TheVariants.{Absent, Failed, HeaderTooLong, ListTooLong, Memory, TooLarge, TooLong}
use Rattle.media_build.specs.declared.fault.RecipeFault.{RecipeFault}
use Rattle.media_build.specs.declared.statements.RecipeLine.{RecipeLine}
use Rattle.media_check.specs.Kept.{contents}
use Rattle.media_check.specs.Openings.{largest_set, length_on_host, total_of}
use Rattle.media_check.specs.declared.built.Built.{Built}
use Rattle.loader_cli.specs.Builds.{AnswersBuild, BuildsFolder, BuildsBytes, BuildsLines, IsOfInput, MakesFolder, WritesSet}
use Rattle.loader_cli.specs.Builds.BuildsFolder.{recipe_absent, recipe_read, recipe_too_long, recipe_unread}
use Rattle.loader_cli.specs.Builds.BuildsBytes.{no_recipe, said}
use Rattle.loader_cli.specs.Builds.BuildsLines.{set_built, set_refused, sources_unread}
use Rattle.loader_cli.specs.Builds.MakesFolder.{set_made}
use Rattle.loader_cli.specs.Builds.WritesSet.{unwritten, written}
use Rattle.loader_cli.specs.HostFiles.{HostHas, HasTooMany, HostWork}
use Rattle.loader_cli.specs.Texts.{built_line, refused_build, refused_input}
use Rattle.loader_cli.proofs.Refusals.{else_so, is_large, is_long, is_short, is_small, large_or, long_or, lower, not_lower, one_more, then_so}

pub some_same : {A : Type 0} {a b : A} → Some a ≡ Some b → a ≡ b
some_same same = cc

pub some_none : {A : Type 0} {a : A} → Some a ≡ None → ⊥
some_none same = absurd cc

ok_same : {A E : Type 0} (r : Result A E) (x y : A) → r ≡ Ok x → r ≡ Ok y → x ≡ y
ok_same r x y one two = let same = sym one ∙ two in cc

err_same : {A E : Type 0} (r : Result A E) (x y : E) → r ≡ Err x → r ≡ Err y → x ≡ y
err_same r x y one two = let same = sym one ∙ two in cc

not_both_said : {A E : Type 0} (r : Result A E) (x : A) (e : E) → r ≡ Ok x → r ≡ Err e → ⊥
not_both_said r x e one two = let same = sym one ∙ two in absurd cc

-- ---- writing the set

same_count : (one two : Built) → built_view one ≡ built_view two → length one.bodies.items ≡ length two.bodies.items
same_count one two same =
    sym (length-map one.bodies.items body_view)
    ∙ (ap (λ (b : BuiltView). length b.bodies) same ∙ length-map two.bodies.items body_view)

written_is : (folder : List ℕ) (set : Built) (loads : ℕ) (host : HostWork) (status : ℕ) (text : List ℕ) → ¬ Rose host.faults host.faults_after → WritesSet folder set loads host status text
    → (status ≡ 0) × (text ≡ built_line loads (length set.bodies.items))
written_is folder set loads host status text answers (written writes is tells) = (is, tells)
written_is folder set loads host status text answers (unwritten writes rose is tells) = absurd (answers rose)

same_written : (folder : List ℕ) (one two : Built) (loads : ℕ) (host other : HostWork) (a b : ℕ) (s t : List ℕ) → ¬ Rose host.faults host.faults_after → ¬ Rose other.faults other.faults_after
    → built_view one ≡ built_view two → WritesSet folder one loads host a s → WritesSet folder two loads other b t → (a ≡ b) × (s ≡ t)
same_written folder one two loads host other a b s t answers answers_2 same writes writes_2 =
    let first = written_is folder one loads host a s answers writes in
    let second = written_is folder two loads other b t answers_2 writes_2 in
    (first.0 ∙ sym second.0, first.1 ∙ (ap (built_line loads) (same_count one two same) ∙ sym second.1))

pub one_make : (number : ℕ) (folder : List ℕ) (host other : HostWork) (a b : ℕ) (s t : List ℕ) → ¬ Rose host.faults host.faults_after → ¬ Rose other.faults other.faults_after
    → MakesFolder number folder host a s → MakesFolder number folder other b t → (a ≡ b) × (s ≡ t)
one_make number folder host other a b s t answers answers_2 (set_made set made small writes) (set_made set_2 made_2 small_2 writes_2) =
    same_written folder set set_2 1 host other a b s t answers answers_2 (made ∙ sym made_2) writes writes_2

-- ---- which size or source is refused

abbrev header_refusal : (recipe : List ℕ) → List RecipeLoadView → Option (List ℕ)
header_refusal recipe [] = None
header_refusal recipe (load ∷ loads) =
    if nat_lt 65536 (header_length load) then Some (refused_input recipe (coded (codes "headertoolong") (load.number ∷ []))) else header_refusal recipe loads

headers_pass : (recipe : List ℕ) (loads : List RecipeLoadView) → AllByRecursion HasShortHeader loads → header_refusal recipe loads ≡ None
headers_pass recipe [] short = refl
headers_pass recipe (load ∷ loads) short =
    else_so (nat_lt 65536 (header_length load)) (Some (refused_input recipe (coded (codes "headertoolong") (load.number ∷ [])))) (header_refusal recipe loads) (not_lower 65536 (header_length load) short.0)
    ∙ headers_pass recipe loads short.1

header_is_long : (recipe : List ℕ) (before after : List RecipeLoadView) (load : RecipeLoadView) → AllByRecursion HasShortHeader before → 65536 < header_length load
    → header_refusal recipe (before ++ load ∷ after) ≡ Some (refused_input recipe (coded (codes "headertoolong") (load.number ∷ [])))
header_is_long recipe [] after load short long =
    then_so (nat_lt 65536 (header_length load)) (Some (refused_input recipe (coded (codes "headertoolong") (load.number ∷ [])))) (header_refusal recipe after) (lower 65536 (header_length load) long)
header_is_long recipe (x ∷ before) after load short long =
    else_so (nat_lt 65536 (header_length x)) (Some (refused_input recipe (coded (codes "headertoolong") (x.number ∷ [])))) (header_refusal recipe (before ++ load ∷ after)) (not_lower 65536 (header_length x) short.0)
    ∙ header_is_long recipe before after load short.1 long

first_header : (recipe : List ℕ) (lines : List RecipeLine) (line : ℕ) → IsFirstLongHeader lines line
    → header_refusal recipe (loads_of lines) ≡ Some (refused_input recipe (coded (codes "headertoolong") (line ∷ [])))
first_header recipe lines line first =
    ap (header_refusal recipe) first.stands
    ∙ (header_is_long recipe first.before first.after first.load first.others first.long
    ∙ ap (λ (n : ℕ). Some (refused_input recipe (coded (codes "headertoolong") (n ∷ [])))) first.number)

abbrev absent_or : (name : List ℕ) → Option (List ℕ) → Option (List ℕ) → Option (List ℕ)
absent_or name None later = Some (refused_input name (codes "absent"))
absent_or name (Some bytes) later = later

abbrev source_refusal : (recipe : List ℕ) → Files → (others : ℕ) → List (List ℕ) → Option (List ℕ)
source_refusal recipe told others [] = None
source_refusal recipe told others (name ∷ names) =
    absent_or name (told name) (long_or name (length_on_host told name) (large_or recipe (others + length_on_host told name) (source_refusal recipe told (others + length_on_host told name) names)))

is_there : (name : List ℕ) (file : Option (List ℕ)) (later : Option (List ℕ)) → (file ≡ None → ⊥) → absent_or name file later ≡ later
is_there name None later some = absurd (some refl)
is_there name (Some bytes) later some = refl

module _ (recipe : List ℕ) (told : Files) where
  goes_by : (others : ℕ) (name : List ℕ) (names : List (List ℕ)) → IsThere told name → others + length_on_host told name ≤ largest_set
      → source_refusal recipe told others (name ∷ names) ≡ source_refusal recipe told (others + length_on_host told name) names
  goes_by others name names there small =
      let later = source_refusal recipe told (others + length_on_host told name) names in
      is_there name (told name) (long_or name (length_on_host told name) (large_or recipe (others + length_on_host told name) later)) there.some
      ∙ (is_short name (length_on_host told name) (large_or recipe (others + length_on_host told name) later) there.short ∙ is_small recipe (others + length_on_host told name) later small)

  passes_by : (others : ℕ) (before rest : List (List ℕ)) → All (IsThere told) before → others + total_of told before ≤ largest_set
      → source_refusal recipe told others (before ++ rest) ≡ source_refusal recipe told (others + total_of told before) rest
  passes_by others [] rest there small = let same : others ≡ others + total_of told [] = omega arith in ap (λ (n : ℕ). source_refusal recipe told n rest) same
  passes_by others (x ∷ before) rest there small =
      let more = one_more told x before in
      let same : (others + length_on_host told x) + total_of told before ≡ others + total_of told (x ∷ before) = omega (arith, more) in
      goes_by others x (before ++ rest) (All-head (IsThere told) x before there) (omega (arith, small, more))
      ∙ (passes_by (others + length_on_host told x) before rest (All-tail (IsThere told) x before there) (omega (arith, small, more))
      ∙ ap (λ (n : ℕ). source_refusal recipe told n rest) same)

  sources_pass : (others : ℕ) (names : List (List ℕ)) → CanTake told others names → source_refusal recipe told others names ≡ None
  sources_pass others [] can = refl
  sources_pass others (name ∷ names) can =
      let more = one_more told name names in
      let small = can.together in
      goes_by others name names (All-head (IsThere told) name names can.there) (omega (arith, small, more))
      ∙ sources_pass (others + length_on_host told name) names (record { there = All-tail (IsThere told) name names can.there; together = omega (arith, small, more) })

  source_is_refused : (others : ℕ) (name : List ℕ) (after : List (List ℕ)) (fault : BuildFault) → IsSourceFault told others name fault
      → source_refusal recipe told others (name ∷ after) ≡ Some (refused_build recipe fault)
  source_is_refused others name after (Absent source) is =
      ap (λ (file : Option (List ℕ)). absent_or name file (long_or name (length_on_host told name) (large_or recipe (others + length_on_host told name) (source_refusal recipe told (others + length_on_host told name) after)))) is.1
      ∙ ap (λ (n : List ℕ). Some (refused_input n (codes "absent"))) (sym is.0)
  source_is_refused others name after (TooLong source) is =
      let later = large_or recipe (others + length_on_host told name) (source_refusal recipe told (others + length_on_host told name) after) in
      is_there name (told name) (long_or name (length_on_host told name) later) (not_absent (told name) is.1)
      ∙ (is_long name (length_on_host told name) later is.1 ∙ ap (λ (n : List ℕ). Some (refused_input n (codes "toolong"))) (sym is.0))
    where
      not_absent : (file : Option (List ℕ)) → longest_file < length (contents file) → file ≡ None → ⊥
      not_absent file long none = let short : longest_file < 0 = subst (λ (f : Option (List ℕ)). longest_file < length (contents f)) none long in absurd (omega (arith, short))
  source_is_refused others name after TooLarge is =
      let later = source_refusal recipe told (others + length_on_host told name) after in
      is_there name (told name) (long_or name (length_on_host told name) (large_or recipe (others + length_on_host told name) later)) is.0.some
      ∙ (is_short name (length_on_host told name) (large_or recipe (others + length_on_host told name) later) is.0.short ∙ is_large recipe (others + length_on_host told name) later is.1)
  source_is_refused others name after (HeaderTooLong line) is = absurd is
  source_is_refused others name after ListTooLong is = absurd is
  source_is_refused others name after Failed is = absurd is
  source_is_refused others name after Memory is = absurd is

  first_source : (others : ℕ) (names : List (List ℕ)) (fault : BuildFault) → IsFirstRefused told others names fault → source_refusal recipe told others names ≡ Some (refused_build recipe fault)
  first_source others names fault first =
      ap (source_refusal recipe told others) first.stands
      ∙ (passes_by others first.before (first.name ∷ first.after) first.taken.there first.taken.together
      ∙ source_is_refused (others + total_of told first.before) first.name first.after fault first.refused)

-- why the set of a recipe isn't built
data Refusal (recipe : List ℕ) (told : Files) (lines : List RecipeLine) (text : List ℕ) : Type 0 where
  by_header : header_refusal recipe (loads_of lines) ≡ Some text → Refusal recipe told lines text
  by_list : HaveShortHeaders lines → ¬ HaveLists lines → text ≡ refused_input recipe (coded (codes "listtoolong") []) → Refusal recipe told lines text
  by_source : HaveSizes lines → source_refusal recipe told (fixed_length lines) (source_names lines) ≡ Some text → Refusal recipe told lines text

module _ (recipe : List ℕ) (told : Files) (lines : List RecipeLine) where
  by_fault : (fault : BuildFault) → AnswersSizes lines (Err fault) → BuildsOf lines (Err fault) told → IsOfInput fault → Refusal recipe told lines (refused_build recipe fault)
  by_fault (Absent name) (inl size) builds input = absurd size
  by_fault (Absent name) (inr sizes) builds input = by_source sizes.0 (first_source recipe told (fixed_length lines) (source_names lines) (Absent name) builds)
  by_fault (TooLong name) (inl size) builds input = absurd size
  by_fault (TooLong name) (inr sizes) builds input = by_source sizes.0 (first_source recipe told (fixed_length lines) (source_names lines) (TooLong name) builds)
  by_fault TooLarge (inl size) builds input = absurd size
  by_fault TooLarge (inr sizes) builds input = by_source sizes.0 (first_source recipe told (fixed_length lines) (source_names lines) TooLarge builds)
  by_fault (HeaderTooLong line) (inl size) builds input = by_header (first_header recipe lines line size)
  by_fault (HeaderTooLong line) (inr sizes) builds input = absurd sizes.1
  by_fault ListTooLong (inl size) builds input = by_list size.0 size.1 refl
  by_fault ListTooLong (inr sizes) builds input = absurd sizes.1
  by_fault Failed sizes builds input = absurd input
  by_fault Memory sizes builds input = absurd input

  one_refusal : (s t : List ℕ) → Refusal recipe told lines s → Refusal recipe told lines t → s ≡ t
  one_refusal s t (by_header is) (by_header so) = some_same (sym is ∙ so)
  one_refusal s t (by_header is) (by_list short no_lists so) = absurd (some_none (sym is ∙ headers_pass recipe (loads_of lines) short))
  one_refusal s t (by_header is) (by_source sizes so) = absurd (some_none (sym is ∙ headers_pass recipe (loads_of lines) sizes.headers))
  one_refusal s t (by_list short no_lists is) (by_header so) = absurd (some_none (sym so ∙ headers_pass recipe (loads_of lines) short))
  one_refusal s t (by_list short no_lists is) (by_list short_2 no_lists_2 so) = is ∙ sym so
  one_refusal s t (by_list short no_lists is) (by_source sizes so) = absurd (no_lists sizes.lists)
  one_refusal s t (by_source sizes is) (by_header so) = absurd (some_none (sym so ∙ headers_pass recipe (loads_of lines) sizes.headers))
  one_refusal s t (by_source sizes is) (by_list short no_lists so) = absurd (no_lists sizes.lists)
  one_refusal s t (by_source sizes is) (by_source sizes_2 so) = some_same (sym is ∙ so)

  none_refused : (s : List ℕ) → HaveSizes lines → CanTake told (fixed_length lines) (source_names lines) → Refusal recipe told lines s → ⊥
  none_refused s sizes can (by_header is) = some_none (sym is ∙ headers_pass recipe (loads_of lines) sizes.headers)
  none_refused s sizes can (by_list short no_lists is) = no_lists sizes.lists
  none_refused s sizes can (by_source sizes_2 is) = some_none (sym is ∙ sources_pass recipe told (fixed_length lines) (source_names lines) can)

-- ---- `build`

module _ (recipe folder : List ℕ) (told : Files) (host other : HostWork) (is : host.files ≡ Some told) (so : other.files ≡ Some told) (answers : ¬ Rose host.faults host.faults_after)
    (answers_2 : ¬ Rose other.faults other.faults_after) where
  module _ (lines : List RecipeLine) where
    refused_by : (work : HostWork) → work.files ≡ Some told → (fault : BuildFault) → AnswersBuild work.files lines (Err fault) → IsOfInput fault → Refusal recipe told lines (refused_build recipe fault)
    refused_by work known fault built input = by_fault recipe told lines fault built.sizes (built.builds told known) input

    one_of_lines : (a b : ℕ) (s t : List ℕ) → BuildsLines recipe folder lines host a s → BuildsLines recipe folder lines other b t → (a ≡ b) × (s ≡ t)
    one_of_lines a b s t (set_built set built writes) (set_built set_2 built_2 writes_2) =
        same_written folder set set_2 (length (loads_of lines)) host other a b s t answers answers_2 ((built.builds told is).1 ∙ sym (built_2.builds told so).1) writes writes_2
    one_of_lines a b s t (set_built set built writes) (set_refused fault built_2 input kept _ _) =
        absurd (none_refused recipe told lines (refused_build recipe fault) built.sizes (built.builds told is).0 (refused_by other so fault built_2 input))
    one_of_lines a b s t (set_refused fault built input kept _ _) (set_built set built_2 writes) =
        absurd (none_refused recipe told lines (refused_build recipe fault) built_2.sizes (built_2.builds told so).0 (refused_by host is fault built input))
    one_of_lines a b s t (set_refused fault built input kept status text) (set_refused fault_2 built_2 input_2 kept_2 status_2 text_2) = (
      status ∙ sym status_2,
      text ∙ (one_refusal recipe told lines (refused_build recipe fault) (refused_build recipe fault_2) (refused_by host is fault built input) (refused_by other so fault_2 built_2 input_2) ∙ sym text_2),
    )
    one_of_lines a b s t (sources_unread rose _ _ _) two = absurd (answers rose)
    one_of_lines a b s t (set_built set built writes) (sources_unread rose _ _ _) = absurd (answers_2 rose)
    one_of_lines a b s t (set_refused fault built input kept _ _) (sources_unread rose _ _ _) = absurd (answers_2 rose)

  one_of_bytes : (bytes : List ℕ) (a b : ℕ) (s t : List ℕ) → BuildsBytes recipe folder bytes host a s → BuildsBytes recipe folder bytes other b t → (a ≡ b) × (s ≡ t)
  one_of_bytes bytes a b s t (said lines says builds) (said lines_2 says_2 builds_2) =
      let same : lines_2 ≡ lines = ok_same (recipe_said bytes) lines_2 lines says_2 says in
      one_of_lines lines a b s t builds (subst (λ (l : List RecipeLine). BuildsLines recipe folder l other b t) same builds_2)
  one_of_bytes bytes a b s t (said lines says builds) (no_recipe fault wrong kept _ _) = absurd (not_both_said (recipe_said bytes) lines fault says wrong)
  one_of_bytes bytes a b s t (no_recipe fault wrong kept _ _) (said lines says builds) = absurd (not_both_said (recipe_said bytes) lines fault says wrong)
  one_of_bytes bytes a b s t (no_recipe fault wrong kept status text) (no_recipe fault_2 wrong_2 kept_2 status_2 text_2) =
      (status ∙ sym status_2, text ∙ (ap (λ (f : RecipeFault). refused_input recipe (recipe_fault_text f)) (err_same (recipe_said bytes) fault fault_2 wrong wrong_2) ∙ sym text_2))

  -- what the host has under the recipe's name
  has_is : (work : HostWork) → work.files ≡ Some told → (file : Option (List ℕ)) → HostHas work.files recipe file → told recipe ≡ file
  has_is work known file has = subst (λ (f : Option Files). HostHas f recipe file) known has

  too_many_is : (work : HostWork) → work.files ≡ Some told → HasTooMany work.files recipe → (bytes : List ℕ) × (told recipe ≡ Some bytes) × (longest_file < length bytes)
  too_many_is work known has = subst (λ (f : Option Files). HasTooMany f recipe) known has

  not_short : (bytes : List ℕ) → told recipe ≡ Some bytes → length bytes ≤ longest_file → (bytes : List ℕ) × (told recipe ≡ Some bytes) × (longest_file < length bytes) → ⊥
  not_short bytes there short long =
      let same : bytes ≡ long.0 = some_same (sym there ∙ long.1) in
      let size : length bytes ≡ length long.0 = ap length same in
      let more = long.2 in
      absurd (omega (arith, size, short, more))

  pub one_build : (a b : ℕ) (s t : List ℕ) → BuildsFolder recipe folder host a s → BuildsFolder recipe folder other b t → (a ≡ b) × (s ≡ t)
  one_build a b s t (recipe_read bytes has short builds) (recipe_read bytes_2 has_2 short_2 builds_2) =
      let same : bytes_2 ≡ bytes = some_same (sym (has_is other so (Some bytes_2) has_2) ∙ has_is host is (Some bytes) has) in
      one_of_bytes bytes a b s t builds (subst (λ (l : List ℕ). BuildsBytes recipe folder l other b t) same builds_2)
  one_build a b s t (recipe_read bytes has short builds) (recipe_absent has_2 kept _ _) = absurd (some_none (sym (has_is host is (Some bytes) has) ∙ has_is other so None has_2))
  one_build a b s t (recipe_read bytes has short builds) (recipe_too_long has_2 kept _ _) = absurd (not_short bytes (has_is host is (Some bytes) has) short (too_many_is other so has_2))
  one_build a b s t (recipe_absent has kept status text) (recipe_absent has_2 kept_2 status_2 text_2) = (status ∙ sym status_2, text ∙ sym text_2)
  one_build a b s t (recipe_absent has kept _ _) (recipe_read bytes has_2 short builds) = absurd (some_none (sym (has_is other so (Some bytes) has_2) ∙ has_is host is None has))
  one_build a b s t (recipe_absent has kept _ _) (recipe_too_long has_2 kept_2 _ _) =
      let long = too_many_is other so has_2 in absurd (some_none (sym long.1 ∙ has_is host is None has))
  one_build a b s t (recipe_too_long has kept status text) (recipe_too_long has_2 kept_2 status_2 text_2) = (status ∙ sym status_2, text ∙ sym text_2)
  one_build a b s t (recipe_too_long has kept _ _) (recipe_read bytes has_2 short builds) = absurd (not_short bytes (has_is other so (Some bytes) has_2) short (too_many_is host is has))
  one_build a b s t (recipe_too_long has kept _ _) (recipe_absent has_2 kept_2 _ _) =
      let long = too_many_is host is has in absurd (some_none (sym long.1 ∙ has_is other so None has_2))
  one_build a b s t (recipe_unread rose _ _ _) two = absurd (answers rose)
  one_build a b s t (recipe_read bytes has short builds) (recipe_unread rose _ _ _) = absurd (answers_2 rose)
  one_build a b s t (recipe_absent has kept _ _) (recipe_unread rose _ _ _) = absurd (answers_2 rose)
  one_build a b s t (recipe_too_long has kept _ _) (recipe_unread rose _ _ _) = absurd (answers_2 rose)
