-- What an installation leaves that keeps loads.
use Rattle.std.proofs.Common.{◌≡◌, ◌⊎◌, inl, inr, ℕ, ◌≤◌, Bool, true, false, cond, List, [], ◌∷◌, ◌++◌, Result, Ok, Err, length, map, refl, sym, ap, ap₂, subst, ◌∙◌, arith, length-append}
use Rattle.std.specs.List.{AllByRecursion}
use Rattle.std.proofs.lemmas.List.{map-append}
use Rattle.std.proofs.lemmas.List.Elements.{recursion_from_All}
use Rattle.load_base.specs.Config.{LoadView}
use Rattle.disk_model.specs.State.{DiskState}
use Rattle.disk_layout.specs.Contents.{HeaderIsFirst, HeadersAreFirst}
use Rattle.disk_layout.specs.Entries.{entry_bytes, typed_loads}
use Rattle.disk_layout.proofs.EntriesLemmas.{all_are_typed}
use Rattle.disk_layout.specs.Holds.{HoldsConfig, StandingView}
use Rattle.disk_layout.specs.Manifest.{LoadEntry, ManifestFits}
use Rattle.disk_layout.specs.declared.manifest.Layout.TheVariants as layouts
use Rattle.bank_store.specs.declared.store.Store.{Store}
use Rattle.bank_store.specs.Given.{Given, configured, load_of, loads_of, whole_given}
use Rattle.bank_store.specs.Known.{KnowsActive}
use Rattle.bank_store.proofs.KnownLemmas.{knows_one, same_or_untyped}
use Rattle.bank_store.specs.Store.{bank_size_of, body_of, known_of, manifest_length}
use Rattle.session_rules.specs.Uploads.{need_of}
use Rattle.session_rules.specs.KeptLoads.{has_other_type, kept_entries, kept_loads, types_in, types_of, with_kept, with_kept_entries}
use Rattle.session_rules.specs.TargetLog.{standing_after}
use Rattle.load_intake.specs.declared.down.Down.{Down}
use Rattle.load_intake.specs.Contents.{GivesContents, IsGiven, LeavesSealed, with_whole_loads}
use Rattle.load_intake.proofs.ContentLemmas.{adds_both}
use Rattle.load_intake.specs.Stores.{StoreHas, HasRoomFor, HasRoomToKeep}
use Rattle.load_intake.proofs.Entries.{whole_entries}
use Rattle.load_intake.proofs.Fits.{all_fit_whole}
use Rattle.load_intake.proofs.KeepsAll.{kept_entries_untyped}
use Rattle.load_intake.proofs.Sizes.{need_is, total_within}
use Rattle.load_intake.proofs.Steps.{room}

-- ---- what is sealed after loads that are kept

pub sealed_after : {S T : Type 0} (a b : DiskState) (mid : Store) (c : DiskState) (after : Store) (s : StandingView) (g : Given) (loads : List LoadView) (x : S) (r : Result T Down) → GivesContents {E = Down} a mid b s g (Ok x)
    → (IsGiven mid b s g → LeavesSealed b after c s loads r) → LeavesSealed a after c s loads r
sealed_after a b mid c after s g loads x (Ok y) one other =
    let next = other one.ok in
    record { adds = adds_both a b c (λ left. HoldsConfig left s) one.adds next.adds; rises = omega (arith, one.adds.later, next.rises); ok = next.ok }
sealed_after a b mid c after s g loads x (Err e) one other =
    let next = other one.ok in
    record { adds = adds_both a b c (λ left. HoldsConfig left s) one.adds next.adds; rises = tt; ok = tt }

-- there is room for the manifest
pub may_seal_all : (before mid : Store) (all : List LoadEntry) → bank_size_of mid ≡ bank_size_of before → need_of all ≤ bank_size_of before → StoreHas mid all 0 0 → HasRoomFor (manifest_length mid) mid
may_seal_all before mid all size fits has = room mid all 0 0 (manifest_length mid) has (omega (arith, has.manifest, need_is all, fits, size))

-- ---- the configuration that is made

kept_headers : (b : Bool) (load : LoadView) (loads : List LoadView) → HeaderIsFirst load → AllByRecursion (λ l. HeaderIsFirst l) loads → AllByRecursion (λ l. HeaderIsFirst l) (cond b (load ∷ loads) loads)
kept_headers true load loads first all = (first, all)
kept_headers false load loads first all = all

headers_kept : (types : List ℕ) (loads : List LoadView) → AllByRecursion (λ l. HeaderIsFirst l) loads → AllByRecursion (λ l. HeaderIsFirst l) (kept_loads types loads)
headers_kept types [] all = tt
headers_kept types (load ∷ loads) all = kept_headers (has_other_type types load.type_id) load (kept_loads types loads) all.0 (headers_kept types loads all.1)

as_they_were : (loads : List LoadView) → AllByRecursion (λ l. HeaderIsFirst l) loads → map load_of (map whole_given loads) ≡ loads
as_they_were [] all = refl
as_they_were (load ∷ loads) all =
    ap₂ (λ (name : List ℕ) (ls : List LoadView). record { part = load.part; type_id = load.type_id; header_name = name; files = load.files } ∷ ls) (sym all.0) (as_they_were loads all.1)

pub made_is : (s : StandingView) (g : Given) (types : List ℕ) → HeadersAreFirst s.loads → types_in (loads_of g) ≡ types → configured s (loads_of (with_whole_loads (kept_loads types s.loads) g)) ≡ standing_after s (loads_of g)
made_is s g types headers same =
    let kept = kept_loads types s.loads in
    let all : loads_of (with_whole_loads kept g) ≡ with_kept (loads_of g) s.loads =
    map-append load_of g.loads (map whole_given kept)
    ∙ ap (λ (l : List LoadView). loads_of g ++ l) (as_they_were kept (headers_kept types s.loads (recursion_from_All (λ (l : LoadView). HeaderIsFirst l) s.loads headers)))
    ∙ ap (λ (t : List ℕ). loads_of g ++ kept_loads t s.loads) (sym same) in
    ap (configured s) all

-- ---- what the store knows then

-- other loads that it knew keep the same
pub kept_same : (store : Store) (types : List ℕ) (one other : List LoadEntry) → KnowsActive store one → KnowsActive store other → kept_entries types one ≡ kept_entries types other
kept_same store types one other a b = by_case (same_or_untyped one other a.fits b.fits (knows_one store one other a b))
  where
    by_case : (one ≡ other) ⊎ ((typed_loads one ≡ []) × (typed_loads other ≡ [])) → kept_entries types one ≡ kept_entries types other
    by_case (inl same) = ap (kept_entries types) same
    by_case (inr untyped) = kept_entries_untyped types one untyped.0 ∙ sym (kept_entries_untyped types other untyped.1)

pub knows_new : (before mid after : Store) (new active other : List LoadEntry) → KnowsActive before active → KnowsActive before other → HasRoomToKeep before (length new) new (kept_entries (types_of new) active)
    → StoreHas mid (new ++ kept_entries (types_of new) active) 0 0 → known_of after ≡ body_of mid → bank_size_of after ≡ bank_size_of before → KnowsActive after (with_kept_entries new other)
knows_new before mid after new active other knows too free has known size =
    let all = new ++ kept_entries (types_of new) active in
    let fits : ManifestFits layouts.Two all = record { count = omega (arith, free.few, length-append new (kept_entries (types_of new) active)); each = all_fit_whole all has.fit } in
    subst (λ (l : List LoadEntry). KnowsActive after (new ++ l)) (kept_same before (types_of new) active other knows too)
    (record {
      fits = record { layout = layouts.Two; fits = fits };
      known = known ∙ has.body ∙ whole_entries all ∙ ap entry_bytes (sym (all_are_typed all fits.each));
      within = omega (arith, total_within all, free.fits, size);
    })
