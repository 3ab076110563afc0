-- What keeping loads gives and leaves.
use Rattle.std.proofs.Common.{◌≡◌, ℕ, ◌+◌, ◌≤◌, Bool, true, false, cond, List, [], ◌∷◌, ◌++◌, Ok, Some, Option, length, inl, sym, ap, subst, ◌∙◌, arith, append-nil, length-append}
use Rattle.std.specs.List.{concat, flat_map}
use Rattle.std.proofs.lemmas.List.Folds.{concat-append}
use Rattle.load_base.specs.Config.{LoadView}
use Rattle.disk_model.specs.Image.{range}
use Rattle.disk_model.specs.State.{DiskState}
use Rattle.disk_layout.specs.Entries.{entry_bytes}
use Rattle.disk_layout.specs.Holds.{HoldsConfig, StandingView}
use Rattle.disk_layout.proofs.EntriesLemmas.{load_fits}
use Rattle.load_intake.proofs.Fits.{begun_fit, load_fits_begun}
use Rattle.disk_layout.specs.Manifest.{LoadEntry, LoadFits, entries_length, head_fields, load_entry_fields, manifest_fields, total_length}
use Rattle.disk_layout.specs.declared.manifest.Layout.TheVariants as layouts
use Rattle.bank_store.specs.declared.store.Store.{Store}
use Rattle.bank_store.specs.Given.{Given, GivenLoad, with_whole}
use Rattle.bank_store.specs.Keeps.{FitsOn, KeepsLoad, LeavesActive}
use Rattle.bank_store.proofs.KnownLemmas.{kept_one}
use Rattle.bank_store.specs.Store.{IsKeptLoad, PassesBank, PassesByKept, active_at, body_of, load_kept, manifest_length, with_piece}
use Rattle.session_rules.specs.KeptLoads.{has_other_type, kept_entries, kept_loads}
use Rattle.load_intake.specs.declared.down.Down.{Down}
use Rattle.load_intake.specs.Contents.{AddsAtMost, GivesContents, IsGiven, with_whole_loads}
use Rattle.load_intake.specs.Stores.{CanKeepLoad, StoreHas, entries_begun}
use Rattle.load_intake.proofs.Entries.{entries_with_kept, whole_entries}
use Rattle.load_intake.proofs.Filling.{beside_on, leaves_old}
use Rattle.load_intake.proofs.Sizes.{head_size, total_more}
use Rattle.load_intake.proofs.Steps.{within}

-- ---- whether a load is kept

pub is_kept : (types : List ℕ) (load : LoadEntry) → has_other_type types load.type_id ≡ true → kept_entries types (load ∷ []) ≡ load ∷ []
is_kept types load is = ap (λ (b : Bool). cond b (load ∷ []) []) is

pub not_kept : (types : List ℕ) (load : LoadEntry) → has_other_type types load.type_id ≡ false → kept_entries types (load ∷ []) ≡ []
not_kept types load is = ap (λ (b : Bool). cond b (load ∷ []) []) is

pub is_kept_whole : (types : List ℕ) (load : LoadView) → has_other_type types load.type_id ≡ true → kept_loads types (load ∷ []) ≡ load ∷ []
is_kept_whole types load is = ap (λ (b : Bool). cond b (load ∷ []) []) is

pub not_kept_whole : (types : List ℕ) (load : LoadView) → has_other_type types load.type_id ≡ false → kept_loads types (load ∷ []) ≡ []
not_kept_whole types load is = ap (λ (b : Bool). cond b (load ∷ []) []) is

abbrev given_with : Given → List LoadView → Given
given_with g loads = with_whole_loads loads g

-- ---- one that isn't

adds_none : (disk : DiskState) (s : StandingView) → AddsAtMost disk disk (λ left. HoldsConfig left s)
adds_none disk s = record { later = omega arith; each = λ t u image might. inl might; here = λ image may. inl may }

nothing_more : (g : Given) → g ≡ with_whole_loads [] g
nothing_more g = ap (λ (loads : List GivenLoad). given loads g.bytes) (sym (append-nil g.loads))
  where
    given : List GivenLoad → List ℕ → Given
    given loads bytes = record { loads = loads; bytes = bytes }

pub gives_none : {T : Type 0} (store : Store) (disk : DiskState) (s : StandingView) (g : Given) (types : List ℕ) (one : LoadView) (t : Option ℕ) (x : T) → one.type_id ≡ t → has_other_type types t ≡ false → IsGiven store disk s g
    → GivesContents {E = Down} disk store disk s (with_whole_loads (kept_loads types (one ∷ [])) g) (Ok x)
gives_none store disk s g types one t x same not is =
    let all : g ≡ with_whole_loads (kept_loads types (one ∷ [])) g = nothing_more g ∙ ap (given_with g) (sym (not_kept_whole types one (ap (has_other_type types) same ∙ not))) in
    record { adds = adds_none disk s; ok = subst (λ (y : Given). IsGiven store disk s y) all is }

pub has_none : (store : Store) (given : List LoadEntry) (types : List ℕ) (load : LoadEntry) → has_other_type types load.type_id ≡ false → StoreHas store given 0 0 → StoreHas store (given ++ kept_entries types (load ∷ [])) 0 0
has_none store given types load not has =
    subst (λ (l : List LoadEntry). StoreHas store l 0 0) (sym (append-nil given) ∙ ap (λ (l : List LoadEntry). given ++ l) (sym (not_kept types load not))) has

-- ---- one that is

pub keep_gives : {T : Type 0} (before after : Store) (old new : DiskState) (s : StandingView) (g : Given) (load : ℕ) (types : List ℕ) (t : Option ℕ) (front back : List LoadView) (one : LoadView) (x : T) → IsKeptLoad before load
    → KeepsLoad before after old new load → old.clock ≤ new.clock → LeavesActive before old new → FitsOn before after old new → s.loads ≡ front ++ one ∷ back → length front + 1 ≡ load
    → one.type_id ≡ t → has_other_type types t ≡ true → IsGiven before old s g → GivesContents {E = Down} old after new s (with_whole_loads (kept_loads types (one ∷ [])) g) (Ok x)
keep_gives before after old new s g load types t front back one x kept keeps later leaves on are at same stays is =
    let image = is.beside.image in
    let now = with_piece before is.given.progress (range image (active_at before + total_length kept.before) (entries_length kept.kept.files)) image in
    let told : new.reads ≡ Some now = keeps.written image is.beside.told kept is.given.progress is.given.stage in
    let more : IsGiven after new s (with_whole one g) = record {
      beside = beside_on before after old new s now on is.beside told;
      given = keeps.given image is.beside.told now told s g is.beside.holds is.given front back one are at;
    } in
    record {
      adds = leaves_old before old new s later leaves is.beside;
      ok = subst (λ (loads : List LoadView). IsGiven after new s (with_whole_loads loads g)) (sym (is_kept_whole types one (ap (has_other_type types) same ∙ stays))) more;
    }

-- how long a manifest is of loads that are whole
manifest_whole : (store : Store) (loads : List LoadEntry) → body_of store ≡ entries_begun 0 loads → manifest_length store ≡ length (concat (manifest_fields layouts.Two loads))
manifest_whole store loads body =
    omega (
      arith,
      ap length (body ∙ whole_entries loads),
      head_size (length loads),
      ap length (concat-append (head_fields layouts.Two (length loads)) (flat_map (load_entry_fields layouts.Two) loads)),
      length-append (concat (head_fields layouts.Two (length loads))) (entry_bytes loads),
    )

pub keep_has : (before after : Store) (old new : DiskState) (load : ℕ) (types : List ℕ) (entry : LoadEntry) (given : List LoadEntry) → CanKeepLoad before load entry → KeepsLoad before after old new load
    → has_other_type types entry.type_id ≡ true → StoreHas before given 0 0 → StoreHas after (given ++ kept_entries types (entry ∷ [])) 0 0
keep_has before after old new load types entry given can keeps stays has =
    let n = entries_length can.is.kept.files in
    let size : n ≡ entries_length entry.files = ap (λ (l : LoadEntry). entries_length l.files) can.same in
    let body : body_of after ≡ entries_begun 0 (given ++ entry ∷ []) =
    entries_with_kept (body_of after) (body_of before) given (entry ∷ []) has.body (keeps.manifest can.is ∙ ap (λ (l : LoadEntry). body_of before ++ entry_bytes (l ∷ [])) can.same) in
    let more : StoreHas after (given ++ entry ∷ []) 0 0 = record {
      progress = load_kept n has.progress;
      filling = keeps.filling can.is has.progress has.filling;
      loads = omega (arith, has.loads, length-append given (entry ∷ []));
      missing = has.missing;
      start = omega (arith, has.start, has.end, size, total_more given entry);
      end = omega arith;
      manifest = manifest_whole after (given ++ entry ∷ []) body;
      body = body;
      fit = begun_fit 0 given entry has.fit (load_fits_begun entry (subst (λ (l : LoadEntry). LoadFits layouts.Two l) can.same (load_fits layouts.Two can.is.before can.is.behind can.is.kept can.is.says.fits)));
    } in
    subst (λ (l : List LoadEntry). StoreHas after (given ++ l) 0 0) (sym (is_kept types entry stays)) more

-- there is room for it
pub keeps_within : (store : Store) (load : ℕ) (entry : LoadEntry) → CanKeepLoad store load entry → (need have : ℕ) → PassesByKept store load need have → ⊥
keeps_within store load entry can need have passes =
    let same : entries_length passes.0.kept.files ≡ entries_length entry.files = ap (λ (l : LoadEntry). entries_length l.files) (kept_one store load passes.0 can.is ∙ can.same) in
    within store (entries_length entry.files) can.room need have (subst (λ (n : ℕ). PassesBank store n need have) same passes.1)

-- where nothing is done
pub gives_same : {T : Type 0} (store : Store) (disk : DiskState) (s : StandingView) (g : Given) (x : T) → IsGiven store disk s g → GivesContents {E = Down} disk store disk s g (Ok x)
gives_same store disk s g x is = record { adds = adds_none disk s; ok = is }
