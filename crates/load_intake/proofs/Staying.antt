-- Which active loads a store knows, and that there is room for those that stay.
use Rattle.std.proofs.Common.{◌≡◌, ℕ, List, [], ◌∷◌, cond, Bool, true, false, Option, Some, None, refl, sym, ap, ◌∙◌, arith}
use Rattle.std.specs.List.{AllByRecursion}
use Rattle.std.proofs.lemmas.List.Elements.{recursion_from_All}
use Rattle.disk_layout.specs.Entries.{typed_loads}
use Rattle.disk_layout.specs.Manifest.{FitsALayout, LoadEntry, LoadFits}
use Rattle.disk_layout.specs.declared.manifest.Layout.{Layout}
use Rattle.bank_store.specs.declared.store.Store.{Store}
use Rattle.bank_store.specs.Known.{KnowsActive}
use Rattle.bank_store.proofs.KnownLemmas.{knows_one}
use Rattle.bank_store.specs.Store.{SameActive}
use Rattle.session_rules.specs.KeptLoads.{has_other_type, kept_entries}
use Rattle.load_intake.specs.Stores.{HasRoomToKeep}
use Rattle.load_intake.proofs.Sizes.{IsListed}

-- ---- a store that goes on

pub knows_back : (old new : Store) (active : List LoadEntry) → SameActive old new → KnowsActive new active → KnowsActive old active
knows_back old new active same knows = record { fits = knows.fits; known = sym same.known ∙ knows.known; within = omega (arith, same.size, knows.within) }

pub room_on : (old new : Store) (requested : ℕ) (planned kept : List LoadEntry) → SameActive old new → HasRoomToKeep old requested planned kept → HasRoomToKeep new requested planned kept
room_on old new requested planned kept same room = record { few = room.few; fits = omega (arith, same.size, room.fits) }

-- ---- the loads that are kept stand in a manifest

pub kept_listed : (layout : Layout) (types : List ℕ) (loads : List LoadEntry) → AllByRecursion (λ (l : LoadEntry). LoadFits layout l) loads → AllByRecursion (λ (l : LoadEntry). IsListed l) (kept_entries types loads)
kept_listed layout types [] fits = tt
kept_listed layout types (l ∷ ls) fits = by_type (kept_listed layout types ls fits.1) l.type_id refl
  where
    by_test : AllByRecursion (λ (x : LoadEntry). IsListed x) (kept_entries types ls) → (b : Bool) (id : ℕ) → l.type_id ≡ Some id → AllByRecursion (λ (x : LoadEntry). IsListed x) (cond b (l ∷ kept_entries types ls) (kept_entries types ls))
    by_test rest true id e = (record { part = fits.0.part.size; typed = (id, e) }, rest)
    by_test rest false id e = rest

    by_type : AllByRecursion (λ (x : LoadEntry). IsListed x) (kept_entries types ls) → (t : Option ℕ) → l.type_id ≡ t → AllByRecursion (λ (x : LoadEntry). IsListed x) (cond (has_other_type types t) (l ∷ kept_entries types ls) (kept_entries types ls))
    by_type rest None e = rest
    by_type rest (Some id) e = by_test rest (has_other_type types (Some id)) id e

pub all_listed : (types : List ℕ) (loads : List LoadEntry) → FitsALayout loads → AllByRecursion (λ (l : LoadEntry). IsListed l) (kept_entries types loads)
all_listed types loads fits = kept_listed fits.layout types loads (recursion_from_All (λ (l : LoadEntry). LoadFits fits.layout l) loads fits.fits.each)

-- ---- a store knows one list of loads with type ids

kept_typed : (types : List ℕ) (loads : List LoadEntry) → kept_entries types loads ≡ kept_entries types (typed_loads loads)
kept_typed types [] = refl
kept_typed types (l ∷ ls) = by_type (kept_typed types ls) l.type_id refl
  where
    by_type : kept_entries types ls ≡ kept_entries types (typed_loads ls) → (t : Option ℕ) → l.type_id ≡ t → kept_entries types (l ∷ ls) ≡ kept_entries types (typed_loads (l ∷ ls))
    by_type rest None e = rw e rest
    by_type rest (Some id) e = rw e (ap (λ (more : List LoadEntry). cond (has_other_type types (Some id)) (record { part = l.part; type_id = Some id; files = l.files } ∷ more) more) rest)

pub knows_same : (store : Store) (one two : List LoadEntry) (types : List ℕ) → KnowsActive store one → KnowsActive store two → kept_entries types one ≡ kept_entries types two
knows_same store one two types a b = kept_typed types one ∙ (ap (λ (l : List LoadEntry). kept_entries types l) (knows_one store one two a b) ∙ sym (kept_typed types two))
