-- A data or support file is whole.
use Rattle.std.proofs.Common.{◌≡◌, ℕ, zero, suc, ◌+◌, ◌-◌, ◌<◌, ◌≤◌, ◌==◌, min, List, [], ◌∷◌, ◌++◌, length, take, get_or, Bool, true, false, Option, Some, None, refl, sym, ap, subst, ◌∙◌, arith, length-append}
use Rattle.std.specs.List.{AllByRecursion}
use Rattle.std.proofs.lemmas.Bool.{eqb-true}
use Rattle.std.proofs.lemmas.List.{get_or-map, length-map, take_more}
use Rattle.std.proofs.lemmas.Option.{slice_get-get_or}
use Rattle.bank_store.specs.declared.store.Store.{Store}
use Rattle.bank_store.specs.Store.{AwaitsEnd, bank_size_of}
use Rattle.load_header.specs.declared.header.FileEntry.{FileEntry}
use Rattle.load_header.specs.Header.{HeaderView}
use Rattle.load_header.specs.HeaderFields.{IsHeader, IsHeaderFile}
use Rattle.disk_layout.specs.declared.manifest.ManifestFile.{ManifestFile}
use Rattle.disk_layout.specs.Manifest.{LoadEntry}
use Rattle.session_rules.specs.declared.reason.Reason.{Reason}
use Rattle.session_rules.specs.Buffers.{Sums}
use Rattle.session_rules.specs.TargetRows.{Kept_sums, load_entry_of, said_length}
use Rattle.session_rules.specs.Uploads.{Next, OpenLoadView, file_reason, files_of, need_of, next_entry, next_number, next_with, or_else, planned_load, unless}
use Rattle.load_intake.specs.Kept.{IsAccepted, IsIntake, IsOpenLoad, intake_at, named_file, named_files}
use Rattle.load_intake.specs.States.{WholeView, upload_of, with_one}
use Rattle.load_intake.specs.Keeping.{kept_at}
use Rattle.bank_store.specs.Known.{KnowsActive}
use Rattle.load_intake.specs.Stores.{StoreHas, HasAccepted, HasRoomToKeep, IsInStep, with_entry}
use Rattle.load_intake.proofs.Steps.{awaits_end}

no_entry : FileEntry
no_entry = record { name = []; part = []; length = 0; crc16 = 0 }

-- a file of this name with this many bytes
abbrev pub file_of : FileEntry → ℕ → ManifestFile
file_of e size = record { name = e.name; length = size }

-- ---- the next file

pub entry_after : OpenLoadView → FileEntry
entry_after l = get_or (files_of l.header) (length l.files) no_entry

pub next_is : (l : OpenLoadView) → length l.files < length (files_of l.header) → next_entry l ≡ Some (entry_after l)
unfolding entry_after
next_is l left = slice_get-get_or (files_of l.header) (length l.files) no_entry left

pub few_files : (h : HeaderView) → IsHeader h → length (files_of h) ≤ 255
few_files h is = omega (arith, is.files, length-append h.data_files h.support_files)

each_short : (es : List FileEntry) → AllByRecursion IsHeaderFile es → (n : ℕ) → (get_or es n no_entry).length ≤ 16777215
unfolding no_entry
each_short [] all n = omega arith
each_short (e ∷ es) all zero = all.0.size
each_short (e ∷ es) all (suc n) = each_short es all.1 n

both : (one other : List FileEntry) → AllByRecursion IsHeaderFile one → AllByRecursion IsHeaderFile other → AllByRecursion IsHeaderFile (one ++ other)
both [] other a b = b
both (e ∷ es) other a b = (a.0, both es other a.1 b)

pub entry_short : (l : OpenLoadView) → IsHeader l.header → (entry_after l).length ≤ 16777215
unfolding entry_after
entry_short l is = each_short (files_of l.header) (both l.header.data_files l.header.support_files is.data_files is.support_files) (length l.files)

-- what is said of it
pub said_is : (l : OpenLoadView) (s : Sums) → IsOpenLoad l s → s.said ≡ (entry_after l).length
said_is l s o = o.said ∙ ap said_length (next_is l o.left)

-- ---- it has the length that was said

by_test : (right : Bool) (reason : Reason) (x y : Option Reason) → None ≡ or_else (or_else (unless right reason) x) y → right ≡ true
by_test true reason x y none = refl
by_test false reason x y none = absurd cc

pub count_right : (n : ℕ) (e : FileEntry) (s : Sums) (y : Option Reason) → None ≡ or_else (file_reason n e s) y → s.count ≡ e.length
count_right n e s y none = eqb-true s.count e.length (by_test (s.count == e.length) _ _ y none)

-- ---- the store

pub ends_next : (w : WholeView) (l : OpenLoadView) (s : Sums) (store : Store) → IsOpenLoad l s → IsInStep (intake_at w (Some l) (Kept_sums s)) store → AwaitsEnd store
ends_next w l s store o step =
    awaits_end store _ _ _ step.has (omega (arith, o.left)) (omega (arith, said_is l s o, entry_short l o.header))

one_less : (store : Store) (loads : List LoadEntry) (n m taken : ℕ) → m < n → StoreHas store loads (n - m) taken → StoreHas store loads (n - (m + 1) + 1) taken
one_less store loads n m taken less has =
    let same : n - m ≡ n - (m + 1) + 1 = omega (arith, less) in
    subst (λ (k : ℕ). StoreHas store loads k taken) same has

-- what the store has before the file ends
pub before_end : (w : WholeView) (l : OpenLoadView) (s : Sums) (store : Store) → IsOpenLoad l s → s.count ≡ (entry_after l).length → IsInStep (intake_at w (Some l) (Kept_sums s)) store
    → StoreHas store (w.loads ++ load_entry_of l ∷ []) (length (files_of l.header) - (length l.files + 1) + 1) s.count
before_end w l s store o right step =
    let all : min s.count s.said ≡ s.count = omega (arith, right, said_is l s o) in
    subst (λ (n : ℕ). StoreHas store (w.loads ++ load_entry_of l ∷ []) (length (files_of l.header) - (length l.files + 1) + 1) n) all
    (one_less store (w.loads ++ load_entry_of l ∷ []) (length (files_of l.header)) (length l.files) (min s.count s.said) o.left step.has)

pub has_one : (w : WholeView) (l one : OpenLoadView) (file : ManifestFile) (crc size : ℕ) (store : Store) → one ≡ with_one l file crc → file.length ≡ size
    → StoreHas store (w.loads ++ with_entry (load_entry_of l) file.name size ∷ []) (length (files_of l.header) - (length l.files + 1)) 0
    → need_of (w.loads ++ planned_load l.wanted l.header l.size ∷ []) ≤ bank_size_of store
    → ((active : List LoadEntry) → KnowsActive store active → HasRoomToKeep store (length w.request) (w.loads ++ planned_load l.wanted l.header l.size ∷ []) (kept_at active (upload_of w None) l.header)) → HasAccepted w one store
has_one w l one file crc size store is same has fits keeps =
    let more : length l.files + 1 ≡ length (l.files ++ file ∷ []) = sym (length-append l.files (file ∷ [])) in
    rw is (record {
      has =
          subst (λ (n : ℕ). StoreHas store (w.loads ++ load_entry_of (with_one l file crc) ∷ []) (length (files_of l.header) - n) 0) more
          (subst (λ (n : ℕ). StoreHas store (w.loads ++ with_entry (load_entry_of l) file.name n ∷ []) (length (files_of l.header) - (length l.files + 1)) 0) (sym same) has);
      fits = fits;
      keeps = keeps;
    })

-- ---- the load with the file

next_planned : (l : OpenLoadView) → length l.files < length (files_of l.header) → get_or (named_files l.header) (length l.files) (named_file no_entry) ≡ named_file (entry_after l)
unfolding entry_after
next_planned l left = get_or-map named_file (files_of l.header) (length l.files) no_entry (named_file no_entry) left

planned_more : (l : OpenLoadView) (s : Sums) (file : ManifestFile) → IsOpenLoad l s → file ≡ named_file (entry_after l) → l.files ++ file ∷ [] ≡ take (length (l.files ++ file ∷ [])) (named_files l.header)
planned_more l s file o is =
    let n = length l.files in
    let within : n < length (named_files l.header) = subst (λ (k : ℕ). n < k) (sym (length-map (files_of l.header) named_file)) o.left in
    let longer : length (l.files ++ file ∷ []) ≡ n + 1 = length-append l.files (file ∷ []) in
    let whole : take (n + 1) (named_files l.header) ≡ take n (named_files l.header) ++ file ∷ [] =
    take_more (named_files l.header) n (named_file no_entry) within ∙ ap (λ (f : ManifestFile). take n (named_files l.header) ++ f ∷ []) (next_planned l o.left ∙ sym is) in
    ap (λ (fs : List ManifestFile). fs ++ file ∷ []) o.planned ∙ (sym whole ∙ ap (λ (k : ℕ). take k (named_files l.header)) (sym longer))

pub accepts_one : (w : WholeView) (l one : OpenLoadView) (s : Sums) (file : ManifestFile) (crc : ℕ) → IsIntake (intake_at w (Some l) (Kept_sums s)) w.need → one ≡ with_one l file crc → file ≡ named_file (entry_after l) → IsAccepted w one
accepts_one w l one s file crc i is named =
    let o : IsOpenLoad l s = i.next in
    rw is (record {
      few = i.few;
      left = i.left;
      need = i.need;
      header = o.header;
      part = o.part;
      within = omega (arith, o.left, length-append l.files (file ∷ []));
      planned = planned_more l s file o named;
    })

pub next_after_one : (w : WholeView) (l one : OpenLoadView) (file : ManifestFile) (crc : ℕ) (next : Next) → one ≡ with_one l file crc → next ≡ next_with (upload_of w None) l.header (next_number l) → next ≡ next_with (upload_of w None) one.header (length one.files)
next_after_one w l one file crc next is e =
    rw is (e ∙ ap (λ (n : ℕ). next_with (upload_of w None) l.header n) (sym (length-append l.files (file ∷ []))))
