-- A file was accepted, and an intake goes on or the loads are installed.
use Rattle.std.proofs.Common.{◌≡◌, ℕ, ◌+◌, ◌-◌, ◌≤◌, List, [], ◌∷◌, ◌++◌, length, Bool, true, if◌then◌else◌, Some, None, sym, ap, subst, ◌∙◌, arith, append-nil, length-append}
use Rattle.std.proofs.lemmas.Bool.Decides.{nat_tests}
use Rattle.std.proofs.lemmas.Grind.{flat_map-append}
use Rattle.std.proofs.lemmas.List.{length-map, take_all}
use Rattle.bank_store.specs.declared.store.Store.{Store}
use Rattle.bank_store.specs.Known.{KnowsActive}
use Rattle.bank_store.specs.Store.{IsBetweenLoads, bank_size_of, manifest_length}
use Rattle.disk_layout.specs.declared.manifest.ManifestFile.{ManifestFile}
use Rattle.disk_layout.specs.Manifest.{LoadEntry}
use Rattle.session_rules.specs.Buffers.{Buffer}
use Rattle.session_rules.specs.TargetRows.{Kept_bytes, load_entry_of}
use Rattle.session_rules.specs.KeptLoads.{kept_entries, said_type, types_of}
use Rattle.session_rules.specs.Uploads.{OpenLoadView, files_of, is_last, need_of, planned_load}
use Rattle.load_intake.specs.Kept.{IsAccepted, intake_at, named_file, named_files}
use Rattle.load_intake.specs.Keeping.{kept_beside, kept_with}
use Rattle.load_intake.specs.States.{WholeView, upload_of, with_whole}
use Rattle.load_intake.specs.Stores.{StoreHas, HasAccepted, HasRoomFor, HasRoomToKeep, IsInStep}
use Rattle.load_intake.proofs.Sizes.{need_is}
use Rattle.load_intake.proofs.Steps.{between, room}

-- a load with all its files stands as it was planned
files_planned : (w : WholeView) (l : OpenLoadView) → IsAccepted w l → length l.files ≡ length (files_of l.header) → l.files ≡ named_files l.header
files_planned w l a all = a.planned ∙ take_all (length l.files) (named_files l.header) (omega (arith, all, length-map (files_of l.header) named_file))

pub whole_is_planned : (w : WholeView) (l : OpenLoadView) → IsAccepted w l → length l.files ≡ length (files_of l.header) → load_entry_of l ≡ planned_load l.wanted l.header l.size
whole_is_planned w l a all =
    let first : ManifestFile = record { name = l.wanted.header; length = l.size } in
    let parts : List ℕ → List ManifestFile → LoadEntry = λ part files. record { part = part; type_id = Some l.header.type_id; files = first ∷ files } in
    ap (λ (files : List ManifestFile). parts l.wanted.part files) (files_planned w l a all) ∙ ap (λ (part : List ℕ). parts part (named_files l.header)) (sym a.part)

none_left : (w : WholeView) (l : OpenLoadView) (store : Store) → length l.files ≡ length (files_of l.header) → HasAccepted w l store → StoreHas store (w.loads ++ load_entry_of l ∷ []) 0 0
none_left w l store all h =
    let none : length (files_of l.header) - length l.files ≡ 0 = omega (arith, all) in
    subst (λ (n : ℕ). StoreHas store (w.loads ++ load_entry_of l ∷ []) n 0) none h.has

fits_whole : (w : WholeView) (l : OpenLoadView) (store : Store) → IsAccepted w l → length l.files ≡ length (files_of l.header) → HasAccepted w l store → need_of (w.loads ++ load_entry_of l ∷ []) ≤ bank_size_of store
fits_whole w l store a all h = rw (whole_is_planned w l a all) h.fits

pub next_in_step : (w : WholeView) (l : OpenLoadView) (b : Buffer) (store : Store) → IsAccepted w l → length l.files ≡ length (files_of l.header) → HasAccepted w l store → IsInStep (intake_at (with_whole w l) None (Kept_bytes b)) store
next_in_step w l b store a all h =
    let same = sym (append-nil (w.loads ++ load_entry_of l ∷ [])) in
    record {
      has = subst (λ (x : List LoadEntry). StoreHas store x 0 0) same (none_left w l store all h);
      fits = subst (λ (x : List LoadEntry). need_of x ≤ bank_size_of store) same (fits_whole w l store a all h);
      keeps = λ active knows. record {
        few = omega (arith, a.few);
        fits = subst (λ (x : List LoadEntry). need_of x ≤ bank_size_of store) (same ∙ sym (append-nil ((w.loads ++ load_entry_of l ∷ []) ++ []))) (fits_whole w l store a all h);
      };
    }

-- ---- the last of all

last_is : (w : WholeView) → length w.loads + 1 ≡ length w.request → is_last (upload_of w None) ≡ true
last_is w last = grind (arith, nat_tests)

types_more : (loads : List LoadEntry) (l : OpenLoadView) → types_of (loads ++ load_entry_of l ∷ []) ≡ types_of loads ++ l.header.type_id ∷ []
types_more loads l = flat_map-append (λ (x : LoadEntry). said_type x.type_id) loads (load_entry_of l ∷ [])

-- there is room for the loads that are kept
pub may_keep : (w : WholeView) (l : OpenLoadView) (store : Store) (active : List LoadEntry) → IsAccepted w l → length l.files ≡ length (files_of l.header) → length w.loads + 1 ≡ length w.request → HasAccepted w l store
    → KnowsActive store active → HasRoomToKeep store (length (w.loads ++ load_entry_of l ∷ [])) (w.loads ++ load_entry_of l ∷ []) (kept_beside active (w.loads ++ load_entry_of l ∷ []))
may_keep w l store active a all last h knows =
    let planned = planned_load l.wanted l.header l.size in
    let kept = kept_with active w.loads l.header.type_id in
    let found : HasRoomToKeep store (length w.request) (w.loads ++ planned ∷ []) kept =
    subst (λ (b : Bool). HasRoomToKeep store (length w.request) (w.loads ++ planned ∷ []) (if b then kept else [])) (last_is w last) (h.keeps active knows) in
    let whole = whole_is_planned w l a all in
    subst (λ (types : List ℕ). HasRoomToKeep store (length (w.loads ++ load_entry_of l ∷ [])) (w.loads ++ load_entry_of l ∷ []) (kept_entries types active)) (sym (types_more w.loads l))
    (record {
      few = omega (arith, found.few, last, length-append w.loads (load_entry_of l ∷ []));
      fits = subst (λ (e : LoadEntry). need_of ((w.loads ++ e ∷ []) ++ kept) ≤ bank_size_of store) (sym whole) found.fits;
    })

pub may_seal : (w : WholeView) (l : OpenLoadView) (store : Store) → IsAccepted w l → length l.files ≡ length (files_of l.header) → HasAccepted w l store → HasRoomFor (manifest_length store) store
may_seal w l store a all h =
    let has = none_left w l store all h in
    room store _ 0 0 (manifest_length store) has (omega (arith, has.manifest, need_is (w.loads ++ load_entry_of l ∷ []), fits_whole w l store a all h))

pub is_between : (w : WholeView) (l : OpenLoadView) (store : Store) → length l.files ≡ length (files_of l.header) → HasAccepted w l store → IsBetweenLoads store
is_between w l store all h = between store _ (none_left w l store all h)
