-- What is built has no finding.
use Rattle.std.proofs.Common.{◌≡◌, List, [], ◌∷◌, Ok, refl, subst}
use Rattle.std.specs.Prelude.{All}
use Rattle.std.specs.List.{AllByRecursion, flat_map}
use Rattle.std.proofs.lemmas.List.Elements.{All-head, All-tail}
use Rattle.load_base.specs.Host.{Files}
use Rattle.load_header.specs.Header.{HeaderView}
use Rattle.load_header.specs.HeaderChanges.{HaveSameTexts}
use Rattle.load_header.specs.HeaderFields.{header_size}
use Rattle.media_check.specs.declared.built.Built.{Built}
use Rattle.media_build.specs.Building.{unread, HaveSizes, IsThere, Builds, source_in, sources_of, source_names, sources_in}
use Rattle.media_build.specs.NoFindings.{SizesFit}
use Rattle.media_build.specs.RecipeSets.{RecipeLoadView, loads_of}
use Rattle.media_build.specs.declared.statements.RecipeLine.{RecipeLine}
use Rattle.media_build.specs.declared.statements.Statement.{Statement}
use Rattle.media_build.specs.declared.statements.Statement.TheVariants.{Set, Members, Load, Hardware, Position, Data, Support, User, Batch, Target}
use Rattle.media_build.proofs.BuiltSizes.{source_named, sources_named, short_sources, sizes_fit_with}

same_source : (s : Statement) → source_in s ≡ source_named s
same_source (Set part) = refl
same_source (Members count) = refl
same_source (Load load) = refl
same_source (Hardware id) = refl
same_source (Position id place) = refl
same_source (Data file) = refl
same_source (Support file) = refl
same_source (User bytes) = refl
same_source (Batch batch) = refl
same_source (Target target) = refl

same_sources : (own : List Statement) → flat_map source_in own ≡ flat_map source_named own
same_sources [] = refl
same_sources (s ∷ own) = rw (same_source s, same_sources own) refl

same_names : (loads : List RecipeLoadView) → flat_map sources_of loads ≡ sources_named loads
same_names [] = refl
same_names (load ∷ loads) = rw (same_sources load.own, same_names loads) refl

each_of : {A : Type 0} (P Q : A → Type 0) → ((x : A) → P x → Q x) → (xs : List A) → All P xs → AllByRecursion Q xs
each_of P Q tells [] all = tt
each_of P Q tells (x ∷ xs) all = (tells x (All-head P x xs all), each_of P Q tells xs (All-tail P x xs all))

-- the sizes fit of what is built
pub built_sizes_fit : (lines : List RecipeLine) (built : Built) (files : Files) → ((g h : HeaderView) → HaveSameTexts g h → header_size g ≡ header_size h) → HaveSizes lines → Builds lines (Ok built) files
    → SizesFit (sources_in files) lines
built_sizes_fit lines built files same sizes builds =
    let there = each_of (IsThere files) _ (λ name is. is.short) (source_names lines) builds.0.there in
    sizes_fit_with (sources_in files) unread lines same sizes.headers sizes.lists.loads
    (short_sources (sources_in files) (loads_of lines) (subst (AllByRecursion _) (same_names (loads_of lines)) there))
