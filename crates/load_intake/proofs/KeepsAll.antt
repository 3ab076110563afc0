-- All loads that are kept, one after the other.
use Rattle.std.proofs.Common.{◌≡◌, ◌≢◌, ◌⊎◌, inl, inr, ℕ, zero, suc, ◌+◌, ◌<◌, ◌≤◌, Bool, true, false, cond, List, [], ◌∷◌, ◌++◌, get_or, take, drop, Result, Ok, Option, Some, None, length, map, refl, sym, ap, subst, ◌∙◌, arith, append-nil, append_assoc, length-append}
use Rattle.std.specs.Prelude.{is_some}
use Rattle.std.proofs.Math.Seq.{split_at}
use Rattle.std.proofs.lemmas.List.{length-map, length-take-le, get_or-map, take_all, map-append, take_more}
use Rattle.std.proofs.lemmas.List.Elements.{filter-append}
use Rattle.load_base.specs.Config.{LoadView}
use Rattle.disk_model.specs.State.{DiskState}
use Rattle.disk_layout.specs.Contents.{entries_of, entry_of}
use Rattle.disk_layout.specs.Entries.{typed_loads}
use Rattle.disk_layout.proofs.EntriesLemmas.{total_length_join, total_length_first}
use Rattle.disk_layout.specs.Holds.{StandingView}
use Rattle.disk_layout.specs.Manifest.{LoadEntry, entries_length, entry_view, total_length}
use Rattle.disk_layout.specs.declared.manifest.ManifestLoad.{ManifestLoad}
use Rattle.bank_store.specs.declared.store.Store.{Store}
use Rattle.bank_store.specs.Given.{Given, GivenLoad, whole_given}
use Rattle.bank_store.specs.Known.{KnowsActive}
use Rattle.bank_store.proofs.KnownLemmas.{can_keep, knows_one, knows_standing, same_or_untyped}
use Rattle.session_rules.specs.KeptLoads.{has_other_type, kept_entries, kept_loads, types_of}
use Rattle.load_intake.specs.declared.down.Down.{Down}
use Rattle.load_intake.specs.Contents.{GivesContents, IsGiven, with_whole_loads}
use Rattle.load_intake.specs.Keeping.{entries, kept_beside}
use Rattle.load_intake.specs.Stores.{CanKeepLoad, StoreHas, HasRoomToKeep}
use Rattle.load_intake.proofs.Filling.{gives_then}
use Rattle.load_intake.proofs.Sizes.{total_within}
use Rattle.load_intake.proofs.Steps.{awaits_load, room}

-- ---- the loads before and behind one

pub active_parts : (active : List ManifestLoad) (i : ℕ) (load : ManifestLoad) → i < length active → load ≡ get_or active i load
    → entries active ≡ entries (take i active) ++ entry_view load ∷ entries (drop (suc i) active)
active_parts active i load within is =
    ap entries (split_at active i load within) ∙ map-append entry_view (take i active) (get_or active i load ∷ drop (suc i) active)
    ∙ ap (λ (l : ManifestLoad). entries (take i active) ++ entry_view l ∷ entries (drop (suc i) active)) (sym is)

pub active_more : (active : List ManifestLoad) (i : ℕ) (load : ManifestLoad) → i < length active → load ≡ get_or active i load → entries (take (i + 1) active) ≡ entries (take i active) ++ entry_view load ∷ []
active_more active i load within is =
    ap entries (take_more active i load within) ∙ map-append entry_view (take i active) (get_or active i load ∷ [])
    ∙ ap (λ (l : ManifestLoad). entries (take i active) ++ entry_view l ∷ []) (sym is)

kept_parts : (types : List ℕ) (xs ys : List LoadEntry) → kept_entries types (xs ++ ys) ≡ kept_entries types xs ++ kept_entries types ys
kept_parts types xs ys = filter-append (λ (l : LoadEntry). has_other_type types l.type_id) xs ys

kept_first : (types : List ℕ) (load : LoadEntry) (loads : List LoadEntry) → has_other_type types load.type_id ≡ true → kept_entries types (load ∷ loads) ≡ load ∷ kept_entries types loads
kept_first types load loads is = ap (λ (b : Bool). cond b (load ∷ kept_entries types loads) (kept_entries types loads)) is

-- ---- what the store has

pub none_has : (store : Store) (given : List LoadEntry) (active : List ManifestLoad) (new : List LoadEntry) → StoreHas store given 0 0 → StoreHas store (given ++ kept_beside (entries (take 0 active)) new) 0 0
none_has store given active new has = subst (λ (l : List LoadEntry). StoreHas store l 0 0) (sym (append-nil given)) has

pub more_has : (store : Store) (new : List LoadEntry) (active : List ManifestLoad) (i : ℕ) (load : ManifestLoad) → i < length active → load ≡ get_or active i load
    → StoreHas store ((new ++ kept_beside (entries (take i active)) new) ++ kept_entries (types_of new) (entry_view load ∷ [])) 0 0
    → StoreHas store (new ++ kept_beside (entries (take (i + 1) active)) new) 0 0
more_has store new active i load within is has =
    let before = kept_entries (types_of new) (entries (take i active)) in
    let one = kept_entries (types_of new) (entry_view load ∷ []) in
    let same : (new ++ before) ++ one ≡ new ++ kept_entries (types_of new) (entries (take (i + 1) active)) =
    append_assoc new before one ∙ ap (λ (l : List LoadEntry). new ++ l) (sym (ap (kept_entries (types_of new)) (active_more active i load within is) ∙ kept_parts (types_of new) (entries (take i active)) (entry_view load ∷ []))) in
    subst (λ (l : List LoadEntry). StoreHas store l 0 0) same has

typed_so : (types : List ℕ) (t : Option ℕ) → has_other_type types t ≡ true → t ≢ None
typed_so types None is e = let wrong : false ≡ true = is in cc
typed_so types (Some id) is e = cc

-- there is room for the next one
pub can_keep_load : (store : Store) (new : List LoadEntry) (active : List ManifestLoad) (i : ℕ) (load : ManifestLoad) (number : ℕ) → i < length active → load ≡ get_or active i load → number ≡ i + 1
    → KnowsActive store (entries active) → HasRoomToKeep store (length new) new (kept_beside (entries active) new) → StoreHas store (new ++ kept_beside (entries (take i active)) new) 0 0
    → has_other_type (types_of new) load.type_id ≡ true → CanKeepLoad store number (entry_view load)
can_keep_load store new active i load number within is at knows free has stays =
    let types = types_of new in
    let front = entries (take i active) in
    let back = entries (drop (suc i) active) in
    let parts = active_parts active i load within is in
    let count : length front + 1 ≡ number = omega (arith, at, length-map (take i active) entry_view, length-take-le i active (omega (arith, within))) in
    let kept : kept_entries types (entries active) ≡ kept_entries types front ++ entry_view load ∷ kept_entries types back =
    ap (kept_entries types) parts ∙ kept_parts types front (entry_view load ∷ back) ∙ ap (λ (l : List LoadEntry). kept_entries types front ++ l) (kept_first types (entry_view load) back stays) in
    let many = ap (λ (l : List LoadEntry). length l) kept ∙ length-append (kept_entries types front) (entry_view load ∷ kept_entries types back) in
    let size = ap total_length kept ∙ total_length_join (kept_entries types front) (entry_view load ∷ kept_entries types back) in
    let kept_there = can_keep store front back (entry_view load) number count (subst (λ (l : List LoadEntry). KnowsActive store l) parts knows) (typed_so types load.type_id stays) in
    record {
      is = kept_there.0;
      same = kept_there.1;
      awaits = awaits_load store (new ++ kept_entries types front) has (omega (arith, many, free.few, length-append new (kept_entries types front)));
      room = room store (new ++ kept_entries types front) 0 0 (entries_length load.files.items) has
          (omega (
            arith,
            size,
            total_length_first (entry_view load) (kept_entries types back),
            total_length_join new (kept_entries types front),
            total_length_join new (kept_entries types (entries active)),
            total_within (new ++ kept_entries types (entries active)),
            free.fits,
          ));
    }

-- ---- what was given

with_more_wholes : (g : Given) (xs ys : List LoadView) → with_whole_loads (xs ++ ys) g ≡ with_whole_loads ys (with_whole_loads xs g)
with_more_wholes g xs ys = ap (λ (loads : List GivenLoad). given loads) (ap (λ (l : List GivenLoad). g.loads ++ l) (map-append whole_given xs ys) ∙ sym (append_assoc g.loads (map whole_given xs) (map whole_given ys)))
  where
    given : List GivenLoad → Given
    given loads = record { loads = loads; bytes = g.bytes }

no_load : LoadView
no_load = record { part = []; type_id = None; header_name = []; files = [] }

-- of a load of the configuration that stands where an active one does
standing_is : (loads : List LoadView) (active : List ManifestLoad) (i : ℕ) (load : ManifestLoad) → entries_of loads ≡ entries active → i < length active → load ≡ get_or active i load
    → (get_or loads i no_load).type_id ≡ load.type_id
standing_is loads active i load same within is =
    let size : length loads ≡ length active = sym (length-map loads entry_of) ∙ ap (λ (l : List LoadEntry). length l) same ∙ length-map active entry_view in
    ap (λ (l : LoadEntry). l.type_id)
    (sym (get_or-map entry_of loads i no_load (entry_view load) (omega (arith, within, size)))
    ∙ ap (λ (l : List LoadEntry). get_or l i (entry_view load)) same
    ∙ get_or-map entry_view active i load (entry_view load) within ∙ ap entry_view (sym is))

-- none of loads without type ids is kept
one_untyped : (types : List ℕ) (t : Option ℕ) → is_some t ≡ false → has_other_type types t ≡ false
one_untyped types None is = refl
one_untyped types (Some id) is = absurd cc

first_untyped : (b : Bool) (load : LoadEntry) (loads : List LoadEntry) → cond b (load ∷ loads) loads ≡ [] → (b ≡ false) × (loads ≡ [])
first_untyped true load loads none = absurd cc
first_untyped false load loads none = (refl, none)

pub untyped_at : (types : List ℕ) (loads : List LoadEntry) (i : ℕ) (load : LoadEntry) → typed_loads loads ≡ [] → i < length loads → load ≡ get_or loads i load → has_other_type types load.type_id ≡ false
untyped_at types [] i load none within is = absurd (omega (arith, within))
untyped_at types (first ∷ loads) zero load none within is =
    ap (λ (l : LoadEntry). has_other_type types l.type_id) is ∙ one_untyped types first.type_id (first_untyped (is_some first.type_id) first (typed_loads loads) none).0
untyped_at types (first ∷ loads) (suc i) load none within is = untyped_at types loads i load (first_untyped (is_some first.type_id) first (typed_loads loads) none).1 (omega (arith, within)) is

pub kept_untyped : (types : List ℕ) (loads : List LoadView) (n : ℕ) → typed_loads (entries_of loads) ≡ [] → kept_loads types (take n loads) ≡ []
kept_untyped types [] zero none = refl
kept_untyped types [] (suc n) none = refl
kept_untyped types (load ∷ loads) zero none = refl
kept_untyped types (load ∷ loads) (suc n) none =
    let rest = first_untyped (is_some load.type_id) (entry_of load) (typed_loads (entries_of loads)) none in
    ap (λ (b : Bool). cond b (load ∷ kept_loads types (take n loads)) (kept_loads types (take n loads))) (one_untyped types load.type_id rest.0) ∙ kept_untyped types loads n rest.1

-- the configuration has the active loads, or none of either has a type id
abbrev Aligned : StandingView → List LoadEntry → Type 0
Aligned s active = (entries_of s.loads ≡ active) ⊎ ((typed_loads (entries_of s.loads) ≡ []) × (typed_loads active ≡ []))

aligned : (store : Store) (disk : DiskState) (s : StandingView) (g : Given) (active : List LoadEntry) → KnowsActive store active → IsGiven store disk s g → Aligned s active
aligned store disk s g active knows is =
    let standing = knows_standing store is.beside.image s is.beside.holds in
    same_or_untyped (entries_of s.loads) active standing.fits knows.fits (knows_one store (entries_of s.loads) active standing knows)

abbrev So : Given → List ℕ → StandingView → ℕ → Given
So g types s n = with_whole_loads (kept_loads types (take n s.loads)) g

-- one more
pub step_gives : {S T : Type 0} (first mid after : Store) (start old new : DiskState) (s : StandingView) (g : Given) (types : List ℕ) (active : List ManifestLoad) (i number : ℕ) (load : ManifestLoad) (x : S) (r : Result T Down)
    → KnowsActive first (entries active) → i < length active → load ≡ get_or active i load → number ≡ i + 1
    → ((g : Given) → IsGiven mid old s g → (front back : List LoadView) (one : LoadView) → s.loads ≡ front ++ one ∷ back → length front + 1 ≡ number → one.type_id ≡ load.type_id
    → GivesContents old after new s (with_whole_loads (kept_loads types (one ∷ [])) g) r)
    → (has_other_type types load.type_id ≡ false → (g : Given) → IsGiven mid old s g → GivesContents old after new s g r)
    → IsGiven first start s g → GivesContents {E = Down} start mid old s (So g types s i) (Ok x) → GivesContents start after new s (So g types s (i + 1)) r
step_gives first mid after start old new s g types active i number load x r knows within is at keeps none given was = by_case (aligned first start s g (entries active) knows given)
  where
    more : (next : Given) → So g types s (i + 1) ≡ next → (IsGiven mid old s (So g types s i) → GivesContents old after new s next r) → GivesContents start after new s (So g types s (i + 1)) r
    more next same gives =
        gives_then start old mid new after s (So g types s i) (So g types s (i + 1)) x r was (λ here. subst (λ (y : Given). GivesContents old after new s y r) (sym same) (gives here))

    by_case : Aligned s (entries active) → GivesContents start after new s (So g types s (i + 1)) r
    by_case (inl same) =
        let size : length s.loads ≡ length active = sym (length-map s.loads entry_of) ∙ ap (λ (l : List LoadEntry). length l) same ∙ length-map active entry_view in
        let inside : i < length s.loads = omega (arith, within, size) in
        let one = get_or s.loads i no_load in
        let grown : So g types s (i + 1) ≡ with_whole_loads (kept_loads types (one ∷ [])) (So g types s i) =
        ap (λ (l : List LoadView). with_whole_loads l g) (ap (kept_loads types) (take_more s.loads i no_load inside) ∙ filter-append (λ (l : LoadView). has_other_type types l.type_id) (take i s.loads) (one ∷ []))
        ∙ with_more_wholes g (kept_loads types (take i s.loads)) (kept_loads types (one ∷ [])) in
        more (with_whole_loads (kept_loads types (one ∷ [])) (So g types s i)) grown
        (λ here. keeps (So g types s i) here (take i s.loads) (drop (suc i) s.loads) one (split_at s.loads i no_load inside) (omega (arith, at, length-take-le i s.loads (omega (arith, inside))))
        (standing_is s.loads active i load same within is))
    by_case (inr untyped) =
        let still : So g types s (i + 1) ≡ So g types s i = ap (λ (l : List LoadView). with_whole_loads l g) (kept_untyped types s.loads (i + 1) untyped.0 ∙ sym (kept_untyped types s.loads i untyped.0)) in
        let inside : i < length (entries active) = omega (arith, within, length-map active entry_view) in
        let there : entry_view load ≡ get_or (entries active) i (entry_view load) = ap entry_view is ∙ sym (get_or-map entry_view active i load (entry_view load) within) in
        more (So g types s i) still (λ here. none (untyped_at types (entries active) i (entry_view load) untyped.1 inside there) (So g types s i) here)

-- and all
pub all_given : (store : Store) (disk : DiskState) (s : StandingView) (g : Given) (types : List ℕ) (active : List ManifestLoad) (n : ℕ) → KnowsActive store (entries active) → length active ≤ n → IsGiven store disk s g
    → So g types s n ≡ with_whole_loads (kept_loads types s.loads) g
all_given store disk s g types active n knows all given = by_case (aligned store disk s g (entries active) knows given)
  where
    by_case : Aligned s (entries active) → So g types s n ≡ with_whole_loads (kept_loads types s.loads) g
    by_case (inl same) =
        let size : length s.loads ≡ length active = sym (length-map s.loads entry_of) ∙ ap (λ (l : List LoadEntry). length l) same ∙ length-map active entry_view in
        ap (λ (l : List LoadView). with_whole_loads (kept_loads types l) g) (take_all n s.loads (omega (arith, all, size)))
    by_case (inr untyped) =
        ap (λ (l : List LoadView). with_whole_loads l g)
        (kept_untyped types s.loads n untyped.0
        ∙ sym (ap (kept_loads types) (sym (take_all (length s.loads) s.loads (omega arith))) ∙ kept_untyped types s.loads (length s.loads) untyped.0))

pub kept_entries_untyped : (types : List ℕ) (loads : List LoadEntry) → typed_loads loads ≡ [] → kept_entries types loads ≡ []
kept_entries_untyped types [] none = refl
kept_entries_untyped types (load ∷ loads) none =
    let rest = first_untyped (is_some load.type_id) load (typed_loads loads) none in
    ap (λ (b : Bool). cond b (load ∷ kept_entries types loads) (kept_entries types loads)) (one_untyped types load.type_id rest.0) ∙ kept_entries_untyped types loads rest.1
