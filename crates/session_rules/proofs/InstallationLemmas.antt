-- Proofs of what holds of all that is active after an installation.
use Rattle.std.proofs.Common.{◌≡◌, ℕ, Bool, true, false, cond, List, [], ◌∷◌, ◌++◌, Option, Some, None, refl}
use Rattle.std.specs.List.{AllByRecursion}
use Rattle.load_base.specs.Config.{LoadView}
use Rattle.load_header.specs.Header.{HeaderView}
use Rattle.disk_layout.specs.declared.identity.Identity.{Identity}
use Rattle.disk_layout.specs.Contents.{entries_of}
use Rattle.disk_layout.specs.Manifest.{LoadEntry}
use Rattle.accept_rules.specs.declared.kept.KeptLoad.{KeptLoad}
use Rattle.session_rules.specs.Installations.{HasType, InstalledAreChecked, InstalledHaveTypes}
use Rattle.session_rules.specs.KeptLoads.{has_other_type, kept_loads, types_in, with_kept}
use Rattle.session_rules.specs.NewConfigs.{AreGoodAfter, IsChecked, IsGoodLoad, kept_beside}

module _ (P : LoadView → Type 0) where
  all_if : (stays : Bool) (l : LoadView) (ls : List LoadView) → P l → AllByRecursion P ls → AllByRecursion P (cond stays (l ∷ ls) ls)
  all_if true l ls one all = (one, all)
  all_if false l ls one all = all

  all_kept : (types : List ℕ) (loads : List LoadView) → AllByRecursion P loads → AllByRecursion P (kept_loads types loads)
  all_kept types [] all = tt
  all_kept types (l ∷ ls) (one, all) = all_if (has_other_type types l.type_id) l (kept_loads types ls) one (all_kept types ls all)

  all_joined : (xs ys : List LoadView) → AllByRecursion P xs → AllByRecursion P ys → AllByRecursion P (xs ++ ys)
  all_joined [] ys some others = others
  all_joined (x ∷ xs) ys (one, some) others = (one, all_joined xs ys some others)

  -- what holds of all new loads and of all that were active holds of all that are active then
  pub all_then : (new active : List LoadView) → AllByRecursion P new → AllByRecursion P active → AllByRecursion P (with_kept new active)
  all_then new active brought were = all_joined new (kept_loads (types_in new) active) brought (all_kept (types_in new) active were)

module _ (Accepted : HeaderView → List KeptLoad → Type 0) (id : Identity) where
  pub good_is_checked : (kept : List KeptLoad) (l : LoadView) → IsGoodLoad Accepted id kept l → IsChecked id l
  good_is_checked kept l good = record {
    header = good.header;
    bytes = good.bytes;
    files = good.files;
    spelled = good.spelled;
    part = good.part;
    type_id = good.type_id;
    suits = good.suits;
    accepted = tt;
    permitted = record { type_id = good.permitted.type_id; part = refl };
    whole = good.whole;
    each = good.each;
    crc = good.crc;
  }

  pub good_are_checked : (active : List LoadEntry) (before new : List LoadView) → AreGoodAfter Accepted id active before new → AllByRecursion (IsChecked id) new
  good_are_checked active before [] good = tt
  good_are_checked active before (l ∷ ls) (one, good) = (good_is_checked (kept_beside active (before ++ l ∷ [])) l one, good_are_checked active (before ++ l ∷ []) ls good)

  new_have_types : (active : List LoadEntry) (before new : List LoadView) → AreGoodAfter Accepted id active before new → AllByRecursion HasType new
  new_have_types active before [] good = tt
  new_have_types active before (l ∷ ls) (one, good) = ((one.header.type_id, one.type_id), new_have_types active (before ++ l ∷ []) ls good)

type_if : (types : List ℕ) (said : Option ℕ) (l : LoadView) (ls : List LoadView) → l.type_id ≡ said → AllByRecursion HasType ls → AllByRecursion HasType (cond (has_other_type types said) (l ∷ ls) ls)
type_if types None l ls is all = all
type_if types (Some id) l ls is all = all_if HasType (has_other_type types (Some id)) l ls (id, is) all

kept_have_types : (types : List ℕ) (loads : List LoadView) → AllByRecursion HasType (kept_loads types loads)
kept_have_types types [] = tt
kept_have_types types (l ∷ ls) = type_if types l.type_id l (kept_loads types ls) refl (kept_have_types types ls)

pub installed_are_checked : InstalledAreChecked
installed_are_checked accepts active new good were =
    all_then (IsChecked active.identity) new active.loads (good_are_checked (λ h kept. accepts h kept ≡ true) active.identity (entries_of active.loads) [] new good) were

pub installed_have_types : InstalledHaveTypes
installed_have_types accepts active new good =
    all_joined HasType new (kept_loads (types_in new) active.loads)
    (new_have_types (λ h kept. accepts h kept ≡ true) active.identity (entries_of active.loads) [] new good) (kept_have_types (types_in new) active.loads)
