-- Which loads of a survey can be kept.
use Rattle.std.proofs.Common.{◌≡◌, ◌≢◌, ℕ, suc, ◌<◌, ◌+◌, List, ◌∷◌, ◌++◌, length, map, take, drop, get_or, true, false, Option, Some, None, sym, ap, subst, ◌∙◌, arith}
use Rattle.std.specs.Prelude.{is_some}
use Rattle.std.proofs.Math.Seq.{split_at}
use Rattle.std.proofs.lemmas.List.{length-map, length-take-le, map-append}
use Rattle.disk_layout.specs.Entries.{SaysLoad, SaysLoads, typed_loads}
use Rattle.disk_layout.proofs.EntriesLemmas.{all_are_typed, one_type_tells}
use Rattle.disk_layout.specs.Manifest.{FitsALayout, LoadEntry, entry_view, manifest_view}
use Rattle.disk_layout.specs.declared.manifest.ManifestLoad.{ManifestLoad}
use Rattle.bank_store.specs.Known.{KnowsActive}
use Rattle.bank_store.proofs.KnownLemmas.{can_keep}
use Rattle.bank_store.specs.Store.{IsKeptLoad, SameActive}
use Rattle.bank_store.specs.declared.store.Store.{Store}
use Rattle.recovery.specs.Surveys.{IsSurveyInRange}
use Rattle.recovery.specs.declared.surveying.Surveyed.{Surveyed}

-- a load, those before it and those behind it
pub parts_at : (slice loads : List ManifestLoad) (i : ℕ) (load : ManifestLoad) → slice ≡ loads → i < length slice → load ≡ get_or slice i load
    → (map entry_view loads ≡ map entry_view (take i loads) ++ entry_view load ∷ map entry_view (drop (suc i) loads)) × (length (map entry_view (take i loads)) ≡ i)
parts_at slice loads i load same within is = rw (sym same) (
  ap (map entry_view) (split_at slice i load within) ∙ map-append entry_view (take i slice) (get_or slice i load ∷ drop (suc i) slice)
      ∙ ap (λ (l : ManifestLoad). map entry_view (take i slice) ++ entry_view l ∷ map entry_view (drop (suc i) slice)) (sym is),
  omega (arith, length-map (take i slice) entry_view, length-take-le i slice (omega (arith, within))),
)

pub typed_so : (t : Option ℕ) → is_some t ≡ true → t ≢ None
typed_so None is e = let wrong : false ≡ true = is in cc
typed_so (Some id) is e = cc

-- bytes that say the typed loads of a manifest say this one
pub load_is_said : (bytes : List ℕ) (loads before behind : List LoadEntry) (load : LoadEntry) (number : ℕ) → loads ≡ before ++ load ∷ behind → length before ≡ number → load.type_id ≢ None
    → FitsALayout loads → SaysLoads bytes (typed_loads loads) → SaysLoad bytes number
load_is_said bytes loads before behind load number parts at typed fits says =
    let fit : FitsALayout (before ++ load ∷ behind) = subst (λ (l : List LoadEntry). FitsALayout l) parts fits in
    let two = one_type_tells before behind load fit typed in
    let same : typed_loads loads ≡ before ++ load ∷ behind = ap typed_loads parts ∙ all_are_typed (before ++ load ∷ behind) two.each in
    record { before = before; load = load; behind = behind; says = subst (λ (l : List LoadEntry). SaysLoads bytes l) same says; is_at = at }

-- the store of a survey can keep it
pub is_kept : (surveyed : Surveyed) (before behind : List LoadEntry) (load : LoadEntry) (number : ℕ) → manifest_view surveyed.manifest ≡ before ++ load ∷ behind → length before ≡ number
    → load.type_id ≢ None → IsSurveyInRange surveyed → IsKeptLoad surveyed.store (number + 1)
is_kept surveyed before behind load number parts at typed found =
    let knows : KnowsActive surveyed.store (manifest_view surveyed.manifest) = record { fits = found.0.manifest; known = found.2; within = omega (arith, found.0.within, found.1) } in
    (can_keep surveyed.store before behind load (number + 1) (omega (arith, at)) (subst (λ (l : List LoadEntry). KnowsActive surveyed.store l) parts knows) typed).0

-- as long as the same is active
pub kept_on : (old new : Store) (number : ℕ) → SameActive old new → IsKeptLoad old number → IsKeptLoad new number
kept_on old new number same is = record {
  before = is.before;
  kept = is.kept;
  behind = is.behind;
  says = subst (λ (bytes : List ℕ). SaysLoads bytes (is.before ++ is.kept ∷ is.behind)) (sym same.known) is.says;
  is_at = is.is_at;
  within = omega (arith, same.size, is.within);
}

pub same_then : (one two three : Store) → SameActive one two → SameActive two three → SameActive one three
same_then one two three first then_on = record { size = then_on.size ∙ first.size; active = then_on.active ∙ first.active; known = then_on.known ∙ first.known }
