-- The reasons that a session of the target tells have texts, since their numbers are those of files.
use Rattle.std.proofs.Common.{◌≡◌, ℕ, zero, suc, ◌+◌, ◌*◌, ◌<◌, ◌≤◌, Bool, true, false, cond, List, [], ◌∷◌, ◌++◌, length, length-append, map, take, Option, Some, None, Result, Ok, Err, refl, sym, ap, subst, ◌∙◌, arith}
use Rattle.std.specs.Prelude.{bytes_eq, codes, nat_le, not, slice_get, ◌==◌, ◌||◌}
use Rattle.std.specs.List.{AllByRecursion, concat, flat_map, sum_by}
use Rattle.std.proofs.lemmas.Bool.{eqb-true, ltb-false}
use Rattle.std.proofs.lemmas.List.{length-map, length-take}
use Rattle.std.proofs.lemmas.List.Concat.{flat_map-cons}
use Rattle.std.proofs.lemmas.List.Elements.{All-from_recursion, recursion_from_All}
use Rattle.std.proofs.lemmas.List.Sums.{sum_by-append, sum_by-cons}
use Rattle.std.proofs.lemmas.Option.{slice_get_within}
use Rattle.std.proofs.Math.Nat.{min-le_left}
use Rattle.crc_fields.specs.CheckSums.{crc32_after, crc32_of}
use Rattle.crc_fields.proofs.WidthLemmas.{crc16_fits, crc32_fits}
use Rattle.field_grammar.specs.Answers.{answer}
use Rattle.field_grammar.specs.Fields.{number_fields}
use Rattle.field_grammar.specs.Grammar.{IsBytes}
use Rattle.field_grammar.proofs.NumberLemmas.{length_number_bytes}
use Rattle.field_grammar.proofs.WrittenLemmas.{at_most_each}
use Rattle.load_base.specs.Text.{IsText}
use Rattle.load_header.specs.declared.fault.HeaderFault.{HeaderFault}
use Rattle.load_header.specs.declared.fault.HeaderFault.TheVariants as headers
use Rattle.load_header.specs.declared.header.FileEntry.{FileEntry}
use Rattle.load_header.specs.Header.{HeaderView, header}
use Rattle.load_header.specs.HeaderFaultText.{header_fault_text}
use Rattle.load_header.specs.HeaderFields.{IsHeader, IsHeaderFile}
use Rattle.load_protocol_files.specs.declared.fault.FileFault.{FileFault}
use Rattle.load_protocol_files.specs.declared.lur.Wanted.{Wanted}
use Rattle.load_protocol_files.specs.Lur.{LurSpells, LurView, WantedFits, lur}
use Rattle.disk_layout.specs.declared.manifest.ManifestFile.{ManifestFile}
use Rattle.disk_layout.specs.declared.manifest.Layout.TheVariants as layouts
use Rattle.disk_layout.specs.Manifest.{LoadEntry, file_entry_fields, load_entry_fields, manifest_fields, total_length, type_fields}
use Rattle.disk_layout.specs.Holds.{Outline}
use Rattle.part_number.proofs.VerdictLemmas.{part_size}
use Rattle.accept_rules.specs.Permissions.{Accepts}
use Rattle.session_rules.specs.declared.reason.Reason.{Reason}
use Rattle.session_rules.specs.declared.reason.Reason.TheVariants as reasons
use Rattle.session_rules.specs.declared.reason.RequestFault.{RequestFault}
use Rattle.session_rules.specs.declared.reason.RequestFault.TheVariants as requests
use Rattle.session_rules.specs.Buffers.{Sums, buffer_size, buffered, is_too_long, summed}
use Rattle.session_rules.specs.KeptLoads.{has_other_type, kept_entries, told_loads, types_of}
use Rattle.session_rules.proofs.ReadFileLemmas.{RequestsAreSpelled}
use Rattle.session_rules.specs.Reports.{reason_text, request_fault_text}
use Rattle.session_rules.proofs.SoundnessLemmas.{HeadersAreSpelled}
use Rattle.session_rules.specs.TargetRows.{Arriving, Awaits_lur, Gives_denial, Gives_lci, Gives_lui, Kept_bytes, Kept_sums, Over, Reads_file, RowMove, RowView, Writes_completion, Writes_lcl, Writes_lcs, Writes_progress, Writes_ready, Writes_stop, arriving_load, arriving_of, error_move, file_move, header_move, load_entry_of, read_move, request_move, row_move_by, said_length, with_file_view, with_header_view}
use Rattle.session_rules.specs.Uploads.{Accepts_file, Accepts_header, Judgement, More_files, Next, OpenLoadView, Stops_for, UploadView, arrived_with, covered_header, entry_name, files_of, header_reason, is_for, is_last, is_load_count, judge_file, judge_header, judge_read_header, judge_request, judged, kept_after, kept_at_last, load_reason, load_total, loads_at, need_of, next_entry, next_name, next_name_in, next_number, next_wanted, next_with, or_else, planned_load, request_read, unless}
use Rattle.replay_rules.proofs.PlacedTraceLemmas.{all_append}
use Rattle.replay_rules.proofs.HeaderFaults.{header_fault_short}
use Rattle.replay_rules.proofs.RequestFaults.{request_fault_short}
use Rattle.replay_rules.proofs.RowsFit.{Brings, BringsJudged, RowFits, SoundPlaced, ToldIf, UploadFits}
use Rattle.replay_rules.proofs.ShortTexts.{IsLittle, IsTextOf, coded_text, is_text, nested_text, plain_text}
use Rattle.replay_rules.proofs.SmallFaults.{take_bytes}
use Rattle.replay_rules.proofs.StatusFiles.{AllWanted}

abbrev pub HasText : Reason → Type 0
HasText reason = IsText (reason_text reason)

-- ---- what is small

pub record FileSmall (f : ManifestFile) : Type 0 where
  pub name : length f.name ≤ 255
  pub size : f.length ≤ 4294967295

pub record LoadSmall (l : LoadEntry) : Type 0 where
  pub part : length l.part ≤ 255
  pub count : length l.files ≤ 256
  pub files : AllByRecursion FileSmall l.files

pub record HeaderSmall (h : HeaderView) : Type 0 where
  pub part : length h.part ≤ 255
  pub count : length (files_of h) ≤ 255
  pub files : AllByRecursion IsHeaderFile (files_of h)
  pub load_crc : h.load_crc ≤ 4294967295

pub record OpenSmall (l : OpenLoadView) : Type 0 where
  pub part : length l.wanted.part ≤ 255
  pub name : length l.wanted.header ≤ 255
  pub header : HeaderSmall l.header
  pub size : l.size ≤ 4294967295
  pub count : length l.files ≤ 255
  pub files : AllByRecursion FileSmall l.files

abbrev pub CurrentSmall : Option OpenLoadView → Type 0
CurrentSmall None = Unit {0}
CurrentSmall (Some l) = OpenSmall l

-- the loads that are whole, and the one that isn't
pub record UploadSmall (u : UploadView) : Type 0 where
  pub loads : AllByRecursion LoadSmall u.loads
  pub current : CurrentSmall u.current

all_more : {A : Type 0} (P : A → Type 0) (xs : List A) (x : A) → AllByRecursion P xs → P x → AllByRecursion P (xs ++ x ∷ [])
all_more P xs x all one = all_append P xs (x ∷ []) all (one, tt)

all_mapped : {A B : Type 0} (P : A → Type 0) (Q : B → Type 0) (f : A → B) → ((x : A) → P x → Q (f x)) → (xs : List A) → AllByRecursion P xs → AllByRecursion Q (map f xs)
all_mapped P Q f g [] all = tt
all_mapped P Q f g (x ∷ xs) (one, all) = (g x one, all_mapped P Q f g xs all)

member : {A : Type 0} (P : A → Type 0) (xs : List A) (i : ℕ) (x : A) → AllByRecursion P xs → slice_get xs i ≡ Some x → P x
member P [] i x all e = absurd cc
member P (y ∷ xs) zero x (one, all) e = let same : y ≡ x = cc in subst P same one
member P (y ∷ xs) (suc i) x (one, all) e = member P xs i x all e

-- ---- loads that are kept

one_kept : (P : LoadEntry → Type 0) (stays : Bool) (l : LoadEntry) (ls : List LoadEntry) → P l → AllByRecursion P ls → AllByRecursion P (cond stays (l ∷ ls) ls)
one_kept P true l ls one all = (one, all)
one_kept P false l ls one all = all

pub all_kept : (P : LoadEntry → Type 0) (types : List ℕ) (loads : List LoadEntry) → AllByRecursion P loads → AllByRecursion P (kept_entries types loads)
all_kept P types [] all = tt
all_kept P types (l ∷ ls) (one, all) = one_kept P (has_other_type types l.type_id) l (kept_entries types ls) one (all_kept P types ls all)

one_longer : (stays : Bool) (l : LoadEntry) (ls : List LoadEntry) (n : ℕ) → length ls ≤ n → length (cond stays (l ∷ ls) ls) ≤ suc n
one_longer true l ls n le = omega (arith, le)
one_longer false l ls n le = omega (arith, le)

kept_length : (types : List ℕ) (loads : List LoadEntry) → length (kept_entries types loads) ≤ length loads
kept_length types [] = omega arith
kept_length types (l ∷ ls) = one_longer (has_other_type types l.type_id) l (kept_entries types ls) (length ls) (kept_length types ls)

-- ---- how many bytes loads need

files_length : (files : List ManifestFile) → AllByRecursion FileSmall files → sum_by (λ (f : ManifestFile). f.length) files ≤ length files * 4294967295
files_length [] all = omega arith
files_length (f ∷ files) (one, all) = let size = one.size in omega (arith, sum_by-cons (λ (g : ManifestFile). g.length) f files, size, files_length files all)

loads_length : (loads : List LoadEntry) → AllByRecursion LoadSmall loads → total_length loads ≤ length loads * (256 * 4294967295)
loads_length [] all = omega arith
loads_length (l ∷ loads) (one, all) =
    let parts : total_length (l ∷ loads) ≡ sum_by (λ (f : ManifestFile). f.length) l.files + total_length loads =
    ap (λ (fs : List ManifestFile). sum_by (λ (f : ManifestFile). f.length) fs) (flat_map-cons (λ (x : LoadEntry). x.files) l loads) ∙ sum_by-append (λ (f : ManifestFile). f.length) l.files (flat_map (λ (x : LoadEntry). x.files) loads) in
    let count = one.count in
    omega (arith, parts, files_length l.files one.files, count, loads_length loads all)

file_fields : (f : ManifestFile) → FileSmall f → length (concat (file_entry_fields f)) ≤ 300
file_fields f small = let name = small.name in simp (length-append, length_number_bytes) (omega (arith, name))

load_fields : (l : LoadEntry) → LoadSmall l → length (concat (load_entry_fields layouts.Two l)) ≤ 80000
load_fields l small =
    by_type l.type_id small.part small.count
    (at_most_each file_entry_fields (λ f. FileSmall f) 300 file_fields l.files (All-from_recursion (λ (f : ManifestFile). FileSmall f) l.files small.files))
  where
    by_type : (t : Option ℕ) → length l.part ≤ 255 → length l.files ≤ 256 → length (concat (flat_map file_entry_fields l.files)) ≤ length l.files * 300
        → length (concat ((l.part ∷ []) ++ (type_fields layouts.Two t ++ (number_fields 2 (length l.files) ++ flat_map file_entry_fields l.files)))) ≤ 80000
    by_type None part count each = simp (length-append, length_number_bytes) (omega (arith, part, count, each))
    by_type (Some n) part count each = simp (length-append, length_number_bytes) (omega (arith, part, count, each))

-- at most 33 that were asked for, and 32 that are kept
needs_little : (loads : List LoadEntry) → length loads ≤ 65 → AllByRecursion LoadSmall loads → IsLittle (need_of loads)
unfolding need_of
needs_little loads few all =
    let each : length (concat (flat_map (load_entry_fields layouts.Two) loads)) ≤ length loads * 80000
    = at_most_each (load_entry_fields layouts.Two) (λ l. LoadSmall l) 80000 load_fields loads (All-from_recursion (λ (l : LoadEntry). LoadSmall l) loads all) in
    let size : length (concat (manifest_fields layouts.Two loads)) ≤ 4 + length loads * 80000 = simp (length-append, length_number_bytes) (omega (arith, each)) in
    omega (arith, loads_length loads all, size, few)

-- ---- headers

header_small : (h : HeaderView) → IsHeader h → HeaderSmall h
header_small h is =
    let files = is.files in
    let crc = is.load_crc in
    let part = part_size h.part is.part in
    record { part = omega (arith, part); count = omega (arith, files, length-append h.data_files h.support_files); files = all_append IsHeaderFile h.data_files h.support_files is.data_files is.support_files; load_crc = omega (arith, crc) }

entry_small : (entry : FileEntry) → IsHeaderFile entry → FileSmall (record { name = entry.name; length = entry.length })
entry_small entry is = let name = is.name.size.1 in let size = is.size in record { name = omega (arith, name); size = omega (arith, size) }

abbrev planned_file : FileEntry → ManifestFile
planned_file entry = record { name = entry.name; length = entry.length }

planned_small : (w : Wanted) (h : HeaderView) (size : ℕ) → WantedFits w → HeaderSmall h → size ≤ 4294967295 → LoadSmall (planned_load w h size)
planned_small w h size fits small le =
    let count : length (map planned_file (files_of h)) ≡ length (files_of h) = length-map (files_of h) planned_file in
    let name = fits.header.size.1 in
    let few = small.count in
    record { part = small.part; count = omega (arith, count, few); files = (record { name = omega (arith, name); size = le }, all_mapped IsHeaderFile FileSmall planned_file entry_small (files_of h) small.files) }

-- ---- a load that is placed

opened_small : (u : UploadView) (l : OpenLoadView) → UploadSmall u → OpenSmall l → SoundPlaced AllWanted UploadSmall HasText u (Some l)
opened_small u l small open_is =
    let count = open_is.count in
    let whole : LoadSmall (load_entry_of l) = record { part = open_is.part; count = omega (arith, count); files = (record { name = open_is.name; size = open_is.size }, open_is.files) } in
    (record { loads = small.loads; current = open_is }, record { loads = all_more LoadSmall u.loads (load_entry_of l) small.loads whole; current = tt })

-- ---- reasons

short_reason : (reason : Reason) → IsTextOf 255 (reason_text reason) → HasText reason
short_reason reason h = is_text (reason_text reason) h

or_told : (a b : Option Reason) → ToldIf HasText a → ToldIf HasText b → ToldIf HasText (or_else a b)
or_told None b h g = g
or_told (Some reason) b h g = h

unless_told : (b : Bool) (reason : Reason) → HasText reason → ToldIf HasText (unless b reason)
unless_told true reason h = tt
unless_told false reason h = h

judged_brings : (u : UploadView) (arriving : Arriving) (reason : Option Reason) (arrived : ℕ) (judgement : Judgement) → ToldIf HasText reason → BringsJudged AllWanted UploadSmall HasText u arriving judgement → BringsJudged AllWanted UploadSmall HasText u arriving (judged reason arrived judgement)
judged_brings u arriving None arrived judgement told h = h
judged_brings u arriving (Some reason) arrived judgement told h = told

load_told : (h : HeaderView) (next : Next) (crc : ℕ) → h.load_crc ≤ 4294967295 → crc ≤ 4294967295 → ToldIf HasText (load_reason h next crc)
load_told h More_files crc a b = tt
load_told h next crc a b = unless_told (h.load_crc == crc) (reasons.LoadCrc h.load_crc crc) (short_reason (reasons.LoadCrc h.load_crc crc) (coded_text 255 (codes "A8") (h.load_crc ∷ crc ∷ []) refl (omega (arith, a), (omega (arith, b), tt)) (omega arith)))

refused_header : (fault : HeaderFault) → IsTextOf 100 (header_fault_text fault) → HasText (reasons.HeaderRefused fault)
refused_header fault is = short_reason (reasons.HeaderRefused fault) (nested_text 2 100 255 (codes "A2") (header_fault_text fault) (plain_text 2 (codes "A2") refl (omega arith)) is (omega arith))

short_prefix : (bytes : List ℕ) → length (take buffer_size bytes) ≤ 65536
short_prefix bytes = rw (length-take buffer_size bytes) (min-le_left buffer_size (length bytes))

-- ---- a header that was read

module _ (spells : HeadersAreSpelled) (accepts : Accepts) (active : Outline) (bank : IsLittle active.identity.bank) (small_loads : AllByRecursion LoadSmall active.loads) (few_loads : length active.loads ≤ 32)
    (u : UploadView) (fits : UploadFits AllWanted UploadSmall u) where
  module _ (w : Wanted) (found : next_wanted u ≡ Some w) (bytes : List ℕ) (fit : IsBytes bytes) where
    abbrev arriving : Arriving
    arriving = Kept_bytes (buffered bytes)

    abbrev BringsSo : Judgement → Type 0
    BringsSo judgement = BringsJudged AllWanted UploadSmall HasText u arriving judgement

    wanted_fits : WantedFits w
    wanted_fits = member (λ (x : Wanted). WantedFits x) u.request (length u.loads) w fits.asked found

    kept_few : (h : HeaderView) → length (kept_after active u h) ≤ 32
    kept_few h = let le = kept_length (types_of u.loads ++ h.type_id ∷ []) active.loads in omega (arith, le, few_loads)

    kept_at_last_is : (h : HeaderView) → (length (kept_at_last active u h) ≤ 32) × AllByRecursion LoadSmall (kept_at_last active u h)
    kept_at_last_is h = by (is_last u)
      where
        by : (last : Bool) → (length (cond last (kept_after active u h) []) ≤ 32) × AllByRecursion LoadSmall (cond last (kept_after active u h) [])
        by true = (kept_few h, all_kept LoadSmall (types_of u.loads ++ h.type_id ∷ []) active.loads small_loads)
        by false = (omega arith, tt)

    need_told : (h : HeaderView) → HeaderSmall h → length bytes ≤ 65536 → IsLittle (need_of (loads_at active u w h (length bytes)))
    need_told h small le =
        let here : List LoadEntry = u.loads ++ planned_load w h (length bytes) ∷ [] in
        let one : length (u.loads ++ planned_load w h (length bytes) ∷ []) ≡ length u.loads + 1 = length-append u.loads (planned_load w h (length bytes) ∷ []) in
        let all : length (loads_at active u w h (length bytes)) ≡ length (u.loads ++ planned_load w h (length bytes) ∷ []) + length (kept_at_last active u h)
        = length-append (u.loads ++ planned_load w h (length bytes) ∷ []) (kept_at_last active u h) in
        let (few_kept, small_kept) = kept_at_last_is h in
        let few = fits.few in
        let more = fits.more in
        needs_little (loads_at active u w h (length bytes)) (omega (arith, one, all, few, more, few_kept))
        (all_append LoadSmall here (kept_at_last active u h) (all_more LoadSmall u.loads (planned_load w h (length bytes)) fits.sound.loads (planned_small w h (length bytes) wanted_fits small (omega (arith, le)))) small_kept)

    total_told : (h : HeaderView) → HasText (reasons.TooManyLoads (load_total active u h))
    total_told h =
        let few = fits.few in
        short_reason (reasons.TooManyLoads (load_total active u h)) (coded_text 255 (codes "A14") (load_total active u h ∷ []) refl (omega (arith, few, kept_few h), tt) (omega arith))

    header_told : (h : HeaderView) → HeaderSmall h → length bytes ≤ 65536 → ToldIf HasText (header_reason accepts active u w h (length bytes))
    header_told h small le =
        or_told (unless (bytes_eq h.part w.part) reasons.PartDiffers) _ (unless_told (bytes_eq h.part w.part) reasons.PartDiffers (short_reason reasons.PartDiffers (plain_text 255 (codes "A3") refl (omega arith))))
        (or_told (unless (is_for active.identity.hw active.identity.pos h) reasons.NotThisHardware) _ (unless_told (is_for active.identity.hw active.identity.pos h) reasons.NotThisHardware (short_reason reasons.NotThisHardware (plain_text 255 (codes "A4") refl (omega arith))))
        (or_told (unless (accepts h (told_loads (kept_after active u h))) reasons.RuleRefused) _
        (unless_told (accepts h (told_loads (kept_after active u h))) reasons.RuleRefused (short_reason reasons.RuleRefused (plain_text 255 (codes "A5") refl (omega arith))))
        (or_told (unless (not (is_last u) || nat_le (load_total active u h) 32) (reasons.TooManyLoads (load_total active u h))) _
        (unless_told (not (is_last u) || nat_le (load_total active u h) 32) (reasons.TooManyLoads (load_total active u h)) (total_told h))
        (unless_told (nat_le (need_of (loads_at active u w h (length bytes))) active.identity.bank) (reasons.BankFull (need_of (loads_at active u w h (length bytes))) active.identity.bank)
        (short_reason (reasons.BankFull (need_of (loads_at active u w h (length bytes))) active.identity.bank)
        (coded_text 255 (codes "A9") (need_of (loads_at active u w h (length bytes)) ∷ active.identity.bank ∷ []) refl (need_told h small le, (bank, tt)) (omega arith)))))))

    accepted_brings : (h : HeaderView) → HeaderSmall h → length bytes ≤ 65536 → SoundPlaced AllWanted UploadSmall HasText u (with_header_view (next_wanted u) h arriving)
    accepted_brings h small le =
        let name = wanted_fits.header.size.1 in
        let part = part_size w.part wanted_fits.part in
        subst (λ (x : Option Wanted). SoundPlaced AllWanted UploadSmall HasText u (with_header_view x h arriving)) (sym found)
        (opened_small u _ fits.sound (record { part = omega (arith, part); name = omega (arith, name); header = small; size = omega (arith, le); count = omega arith; files = tt }))

    read_brings : (found_header : Result HeaderView HeaderFault) → length bytes ≤ 65536 → answer header (take buffer_size bytes) ≡ found_header → BringsSo (judge_read_header accepts active u w (buffered bytes) found_header)
    read_brings (Err fault) le e = refused_header fault (header_fault_short (take buffer_size bytes) fault (short_prefix bytes) (take_bytes buffer_size bytes fit) e)
    read_brings (Ok h) le e =
        let small : HeaderSmall h = header_small h (spells (take buffer_size bytes) h (take_bytes buffer_size bytes fit) e).0 in
        judged_brings u arriving _ (arrived_with u h 0) (Accepts_header h (next_with u h 0))
        (or_told (header_reason accepts active u w h (length bytes)) _ (header_told h small le) (load_told h (next_with u h 0) (crc32_of (covered_header (take buffer_size bytes))) small.load_crc (let crc = crc32_fits (covered_header (take buffer_size bytes)) in omega (arith, crc))))
        (accepted_brings h small le)

    header_brings : BringsSo (judge_header accepts active u w (buffered bytes))
    unfolding judge_header
    header_brings = by (is_too_long (buffered bytes)) refl
      where
        by : (long : Bool) → is_too_long (buffered bytes) ≡ long → BringsSo (cond long (Stops_for (reasons.HeaderRefused headers.TooLong) (length u.loads)) (judge_read_header accepts active u w (buffered bytes) (answer header (take buffer_size bytes))))
        by true e = refused_header headers.TooLong (coded_text 100 (codes "H11") [] refl tt (omega arith))
        by false e = read_brings (answer header (take buffer_size bytes)) (ltb-false buffer_size (length bytes) e) refl

  -- ---- a data or support file that was read

  module _ (l : OpenLoadView) (current : u.current ≡ Some l) (entry : FileEntry) (next : next_entry l ≡ Some entry) (s : Sums) (count : IsLittle s.count) (crc16 : IsLittle s.crc16) (crc32 : s.load_crc ≤ 4294967295) where
    open_is : OpenSmall l
    open_is = subst CurrentSmall current fits.sound.current

    entry_is : IsHeaderFile entry
    entry_is = member IsHeaderFile (files_of l.header) (length l.files) entry open_is.header.files next

    less : length l.files < 255
    less = let within = slice_get_within (files_of l.header) (length l.files) entry next in let few = open_is.header.count in omega (arith, within, few)

    abbrev FileBrings : Judgement → Type 0
    FileBrings judgement = BringsJudged AllWanted UploadSmall HasText u (Kept_sums s) judgement

    file_accepted : s.count ≡ entry.length → SoundPlaced AllWanted UploadSmall HasText u (with_file_view u.current (next_name u) (Kept_sums s))
    file_accepted same =
        subst (λ (x : Option OpenLoadView). SoundPlaced AllWanted UploadSmall HasText u (with_file_view x (next_name_in u x) (Kept_sums s))) (sym current)
        (opened_small u _ fits.sound (record {
          part = open_is.part;
          name = open_is.name;
          header = open_is.header;
          size = open_is.size;
          count = omega (arith, less, length-append l.files (record { name = entry_name (next_entry l); length = s.count } ∷ []));
          files = all_more FileSmall l.files (record { name = entry_name (next_entry l); length = s.count }) open_is.files file_is;
        }))
      where
        file_is : FileSmall (record { name = entry_name (next_entry l); length = s.count })
        file_is =
            let name = entry_is.name.size.1 in
            let size = entry_is.size in
            record { name = subst (λ (x : Option FileEntry). length (entry_name x) ≤ 255) (sym next) (omega (arith, name)); size = omega (arith, same, size) }

    file_brings : FileBrings (judge_file u l entry s)
    unfolding judge_file
    file_brings = by (s.count == entry.length) refl
      where
        length_told : HasText (reasons.FileLength (next_number l) entry.length s.count)
        length_told =
            let size = entry_is.size in
            short_reason (reasons.FileLength (next_number l) entry.length s.count) (coded_text 255 (codes "A6") (next_number l ∷ entry.length ∷ s.count ∷ []) refl (omega (arith, less), (omega (arith, size), (count, tt))) (omega arith))

        crc_told : HasText (reasons.FileCrc (next_number l) entry.crc16 s.crc16)
        crc_told =
            let sum = entry_is.sum in
            short_reason (reasons.FileCrc (next_number l) entry.crc16 s.crc16) (coded_text 255 (codes "A7") (next_number l ∷ entry.crc16 ∷ s.crc16 ∷ []) refl (omega (arith, less), (omega (arith, sum), (crc16, tt))) (omega arith))

        by : (b : Bool) → (s.count == entry.length) ≡ b
            → FileBrings (judged (or_else (or_else (unless b (reasons.FileLength (next_number l) entry.length s.count)) (unless (s.crc16 == entry.crc16) (reasons.FileCrc (next_number l) entry.crc16 s.crc16))) (load_reason l.header (next_with u l.header (next_number l)) s.load_crc))
            (arrived_with u l.header (next_number l)) (Accepts_file (next_with u l.header (next_number l))))
        by false e = length_told
        by true e =
            judged_brings u (Kept_sums s) (or_else (unless (s.crc16 == entry.crc16) (reasons.FileCrc (next_number l) entry.crc16 s.crc16)) (load_reason l.header (next_with u l.header (next_number l)) s.load_crc)) (arrived_with u l.header (next_number l))
            (Accepts_file (next_with u l.header (next_number l)))
            (or_told (unless (s.crc16 == entry.crc16) (reasons.FileCrc (next_number l) entry.crc16 s.crc16)) (load_reason l.header (next_with u l.header (next_number l)) s.load_crc) (unless_told (s.crc16 == entry.crc16) (reasons.FileCrc (next_number l) entry.crc16 s.crc16) crc_told)
            (load_told l.header (next_with u l.header (next_number l)) s.load_crc open_is.header.load_crc crc32))
            (file_accepted (eqb-true s.count entry.length e))

-- ---- a request

refused_request : (fault : RequestFault) → IsTextOf 100 (request_fault_text fault) → HasText (reasons.RequestRefused fault)
refused_request fault is = short_reason (reasons.RequestRefused fault) (nested_text 3 100 255 (codes "A11") (request_fault_text fault) (plain_text 3 (codes "A11") refl (omega arith)) is (omega arith))

abbrev MoveBrings : RowView → Arriving → RowMove → Type 0
MoveBrings row arriving move = Brings AllWanted UploadSmall HasText row arriving move

module _ (reads : RequestsAreSpelled) (bytes : List ℕ) (fit : IsBytes bytes) where
  request_brings : (found : Result LurView FileFault) → answer lur (take buffer_size bytes) ≡ found → MoveBrings Awaits_lur (Kept_bytes (buffered bytes)) (request_move (request_read found))
  request_brings (Err fault) e = refused_request (requests.Spelling fault) (request_fault_short (take buffer_size bytes) fault (short_prefix bytes) (take_bytes buffer_size bytes fit) e)
  request_brings (Ok v) e = by (is_load_count (length v.loads))
    where
      spelled : LurSpells v (take buffer_size bytes)
      spelled = reads v (take buffer_size bytes) (take_bytes buffer_size bytes fit) e

      by : (b : Bool) → MoveBrings Awaits_lur (Kept_bytes (buffered bytes)) (request_move (cond b (Ok v.loads) (Err (requests.Loads (length v.loads)))))
      by true = (recursion_from_All (λ (w : Wanted). WantedFits w) v.loads spelled.0.loads, record { loads = tt; current = tt })
      by false = let count = spelled.0.count in refused_request (requests.Loads (length v.loads)) (coded_text 100 (codes "L") (length v.loads ∷ []) refl (omega (arith, count), tt) (omega arith))

  lur_brings : MoveBrings Awaits_lur (Kept_bytes (buffered bytes)) (request_move (judge_request (buffered bytes)))
  unfolding judge_request
  lur_brings = by (is_too_long (buffered bytes))
    where
      by : (long : Bool) → MoveBrings Awaits_lur (Kept_bytes (buffered bytes)) (request_move (cond long (Err requests.TooLong) (request_read (answer lur (take buffer_size bytes)))))
      by true = refused_request requests.TooLong (plain_text 100 (codes "T") refl (omega arith))
      by false = request_brings (answer lur (take buffer_size bytes)) refl

-- ---- each row

served_not_told : (code : ℕ) → IsLittle code → HasText (reasons.FileNotServed code)
served_not_told code little = short_reason (reasons.FileNotServed code) (coded_text 255 (codes "A1") (code ∷ []) refl (little, tt) (omega arith))

crc32_little : (sum : ℕ) (bytes : List ℕ) → crc32_after sum bytes ≤ 4294967295
unfolding crc32_after
crc32_little sum bytes = omega arith

-- where a file of a load is read, its length is small
abbrev pub ReadsLittle : List ℕ → RowView → Type 0
ReadsLittle bytes (Reads_file u) = IsLittle (length bytes)
ReadsLittle bytes row = Unit {0}

module _ (spells : HeadersAreSpelled) (reads : RequestsAreSpelled) (accepts : Accepts) (active : Outline) (bank : IsLittle active.identity.bank) (small_loads : AllByRecursion LoadSmall active.loads) (few_loads : length active.loads ≤ 32)
    (bytes : List ℕ) (fit : IsBytes bytes) where
  abbrev MovesSo : RowView → Option ℕ → Type 0
  MovesSo row error = MoveBrings row (arriving_of row bytes) (row_move_by accepts active row (arriving_of row bytes) error)

  header_moves : (u : UploadView) → UploadFits AllWanted UploadSmall u → (wanted : Option Wanted) → next_wanted u ≡ wanted → MoveBrings (Reads_file u) (Kept_bytes (buffered bytes)) (header_move accepts active u wanted (Kept_bytes (buffered bytes)))
  header_moves u fits None found = tt
  header_moves u fits (Some w) found = header_brings spells accepts active bank small_loads few_loads u fits w found bytes fit

  file_moves : (u : UploadView) → UploadFits AllWanted UploadSmall u → IsLittle (length bytes) → (l : OpenLoadView) → u.current ≡ Some l → (entry : Option FileEntry) → next_entry l ≡ entry → (s : Sums) → s.count ≡ length bytes → IsLittle s.crc16 → s.load_crc ≤ 4294967295
      → MoveBrings (Reads_file u) (Kept_sums s) (file_move u l entry (Kept_sums s))
  file_moves u fits little l current None next s count crc16 crc32 = tt
  file_moves u fits little l current (Some entry) next s count crc16 crc32 = file_brings spells accepts active bank small_loads few_loads u fits l current entry next s (omega (arith, count, little)) crc16 crc32

  read_moves : (u : UploadView) → UploadFits AllWanted UploadSmall u → IsLittle (length bytes) → (current : Option OpenLoadView) → u.current ≡ current → MoveBrings (Reads_file u) (arriving_load current bytes) (read_move accepts active u current (arriving_load current bytes))
  read_moves u fits little None e = header_moves u fits (next_wanted u) refl
  read_moves u fits little (Some l) e =
      let said : ℕ = said_length (next_entry l) in
      file_moves u fits little l e (next_entry l) refl (summed said l.crc bytes) refl (let crc = crc16_fits (take said bytes) in omega (arith, crc)) (crc32_little l.crc (take said bytes))

  error_moves : (row : RowView) (code : ℕ) (kept : Arriving) → IsLittle code → MoveBrings row kept (error_move row code)
  error_moves (Reads_file u) code kept little = served_not_told code little
  error_moves Gives_lci code kept little = tt
  error_moves Writes_lcs code kept little = tt
  error_moves Writes_lcl code kept little = tt
  error_moves Gives_lui code kept little = tt
  error_moves Gives_denial code kept little = tt
  error_moves Writes_ready code kept little = tt
  error_moves Awaits_lur code kept little = tt
  error_moves (Writes_progress u) code kept little = tt
  error_moves (Writes_stop e) code kept little = tt
  error_moves (Writes_completion e loads) code kept little = tt
  error_moves Over code kept little = tt

  -- what a transfer that is over brings, where its numbers are small
  pub row_brings : (row : RowView) (error : Option ℕ) → ((code : ℕ) → error ≡ Some code → IsLittle code) → (error ≡ None → ReadsLittle bytes row) → RowFits AllWanted UploadSmall HasText row → MovesSo row error
  row_brings row (Some code) codes_little little fits = error_moves row code (arriving_of row bytes) (codes_little code refl)
  row_brings (Reads_file u) None codes_little little fits = read_moves u fits (little refl) u.current refl
  row_brings Awaits_lur None codes_little little fits = lur_brings reads bytes fit
  row_brings Gives_lci None codes_little little fits = tt
  row_brings Writes_lcs None codes_little little fits = tt
  row_brings Writes_lcl None codes_little little fits = tt
  row_brings Gives_lui None codes_little little fits = tt
  row_brings Gives_denial None codes_little little fits = tt
  row_brings Writes_ready None codes_little little fits = tt
  row_brings (Writes_progress u) None codes_little little fits = tt
  row_brings (Writes_stop e) None codes_little little fits = tt
  row_brings (Writes_completion e loads) None codes_little little fits = tt
  row_brings Over None codes_little little fits = tt
