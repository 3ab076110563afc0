-- Good loads lead from row to row.
use Rattle.std.proofs.Common.{◌≡◌, ℕ, zero, suc, ◌+◌, ◌<◌, ◌≤◌, Bool, true, false, cond, List, [], ◌∷◌, ◌++◌, length, map, take, Option, Some, None, Ok, refl, sym, ap, ap₂, subst, ◌∙◌, arith, append-nil, append_assoc, length-append}
use Rattle.std.specs.Prelude.{not, ◌||◌, slice_get, nat_lt, nat_le, unwrap_or, ◌↔◌}
use Rattle.std.specs.List.{AllByRecursion, AllZip, flat_map, concat, sum_by}
use Rattle.std.proofs.lemmas.List.{length-map, take_all}
use Rattle.std.proofs.lemmas.List.Sums.{sum_by-append}
use Rattle.std.proofs.lemmas.List.Concat.{flat_map-append, flat_map-cons}
use Rattle.std.proofs.lemmas.Bool.Decides.{nat_tests}
use Rattle.crc_fields.specs.CheckSums.{crc16_of, crc32_after, crc32_of}
use Rattle.disk_layout.specs.Contents.{bytes_of, entries_of, entry_of, file_entry_of}
use Rattle.disk_layout.specs.declared.identity.Identity.{Identity}
use Rattle.disk_layout.specs.declared.manifest.ManifestFile.{ManifestFile}
use Rattle.disk_layout.specs.declared.manifest.Layout.TheVariants as layouts
use Rattle.disk_layout.specs.Manifest.{LoadEntry, head_fields, load_entry_fields, manifest_fields, total_length}
use Rattle.disk_layout.specs.Holds.{outline_of}
use Rattle.disk_layout.specs.Offsets.{layout_mark}
use Rattle.field_grammar.specs.Answers.{answer}
use Rattle.field_grammar.specs.Grammar.{IsBytes, Spelled}
use Rattle.load_base.specs.Config.{FileView, LoadView}
use Rattle.load_base.specs.Name.{IsName}
use Rattle.load_header.specs.declared.header.FileEntry.{FileEntry}
use Rattle.load_header.specs.Header.{HeaderView, header}
use Rattle.load_header.specs.HeaderFields.{HeaderSpells, IsHeaderFile, header_size}
use Rattle.load_protocol_files.specs.declared.lur.Wanted.{Wanted}
use Rattle.session_rules.specs.Buffers.{Sums, buffer_size, buffered, summed}
use Rattle.session_rules.proofs.BufferLemmas.{SumsJoin}
use Rattle.accept_rules.specs.declared.kept.KeptLoad.{KeptLoad}
use Rattle.session_rules.proofs.KeptLemmas.{kept_same, types_same}
use Rattle.session_rules.specs.KeptLoads.{kept_entries, kept_loads, said_type, told_loads, types_in, types_of, with_kept}
use Rattle.session_rules.specs.NewConfigs.{AreGoodAfter, IsAsSaid, IsGoodLoad, IsWanted, files_in, kept_beside}
use Rattle.session_rules.specs.TargetRows.{RowView, Gives_lui, Writes_ready, Awaits_lur, Reads_file, Writes_progress, Kept_bytes, Kept_sums, load_entry_of, file_move, placed_view, said_length, view_judged_in, view_moved, header_move, placed_view_if, with_header_view, new_upload_view, request_move}
use Rattle.session_rules.specs.Uploads.{OpenLoadView, UploadView, Judgement, Accepts_file, Accepts_header, More_files, Next_load, Complete, Next, covered, covered_header, files_of, judge_file, judge_header, next_entry, next_name, next_with, entry_name, load_reason, next_number, is_for, need_of, next_wanted, planned_load, is_last, kept_after, kept_at_last, load_total, loads_at}
use Rattle.replay_rules.specs.BothEnds.{Setting}
use Rattle.transfer_completion.proofs.BlockLemmas.{eq_true, lt_true, lt_false}
use Rattle.session_completion.specs.Course.{Course, IsFine, IsStep, next_row, file_in, IsLater, IsAfterRequest}
use Rattle.std.proofs.lemmas.Slice.Eq.{bytes_eq-Decides}
use Rattle.transfer_completion.specs.Talks.{FitsBlocks}
use Rattle.exchange_trace.specs.declared.trace.Side.{Side}
use Rattle.exchange_trace.specs.declared.trace.Side.TheVariants as sides
use Rattle.session_rules.specs.declared.outcome.FileKind.TheVariants.{Lui, Lur, Lus}
use Rattle.session_completion.specs.GoodRequests.{HaveNamedFiles, FilesAreRead, GoodLoadsLeadOn}
use Rattle.replay_rules.specs.ListTraces.{OwnFilesAreNamed}
use Rattle.session_rules.specs.Reports.{lur_file}
use Rattle.field_grammar.proofs.ExactLemmas.{answer-spelled, spelled_at_start}
use Rattle.replay_rules.specs.FaultFree.{AreServed, IsGranted}
use Rattle.std.proofs.lemmas.List.Folds.{concat-append}
use Rattle.field_grammar.specs.Fields.{number_bytes}
use Rattle.field_grammar.proofs.NumberLemmas.{length_number_bytes}

-- ---- lists

get_at : {A : Type 0} (xs : List A) (x : A) (ys : List A) → slice_get (xs ++ x ∷ ys) (length xs) ≡ Some x
get_at [] x ys = refl
get_at (z ∷ xs) x ys = get_at xs x ys

zip_at : {A B : Type 0} (R : A → B → Type 0) (xs : List A) (done : List B) (y : B) (rest : List B) → AllZip R xs (done ++ y ∷ rest) → (x : A) × (slice_get xs (length done) ≡ Some x) × R x y
zip_at R [] [] y rest h = absurd h
zip_at R (x ∷ xs) [] y rest h = (x, refl, h.0)
zip_at R [] (d ∷ done) y rest h = absurd h
zip_at R (x ∷ xs) (d ∷ done) y rest h = zip_at R xs done y rest h.1

zip_length : {A B : Type 0} (R : A → B → Type 0) (xs : List A) (ys : List B) → AllZip R xs ys → length xs ≡ length ys
zip_length R [] [] h = refl
zip_length R [] (y ∷ ys) h = absurd h
zip_length R (x ∷ xs) [] h = absurd h
zip_length R (x ∷ xs) (y ∷ ys) h = ap (λ (n : ℕ). suc n) (zip_length R xs ys h.1)

length_map : (files : List FileView) → length (map file_entry_of files) ≡ length files
length_map [] = refl
length_map (f ∷ files) = ap (λ (n : ℕ). suc n) (length_map files)

le_true : (a b : ℕ) → a ≤ b → nat_le a b ≡ true
le_true a b h = grind (arith, nat_tests)

-- ---- a data or support file

-- an open load of which these files came
abbrev pub open_load : Wanted → HeaderView → List ℕ → List FileView → OpenLoadView
open_load w h bytes files = record { wanted = w; header = h; size = length bytes; files = map file_entry_of files; crc = crc32_of (covered bytes files) }

abbrev pub upload : List Wanted → List LoadEntry → Option OpenLoadView → ℕ → UploadView
upload wanted loads current reports = record { request = wanted; loads = loads; current = current; reports = reports }

abbrev sums_of : FileEntry → ℕ → List ℕ → Sums
sums_of entry crc bytes = record { said = entry.length; count = length bytes; crc16 = crc16_of (take entry.length bytes); load_crc = crc32_after crc (take entry.length bytes) }

-- the load CRC, where no file is left
abbrev LastCrc : HeaderView → Next → ℕ → Type 0
LastCrc h More_files crc = Unit {0}
LastCrc h Next_load crc = h.load_crc ≡ crc
LastCrc h Complete crc = h.load_crc ≡ crc

no_reason : (h : HeaderView) (n : Next) (crc : ℕ) → LastCrc h n crc → load_reason h n crc ≡ None
no_reason h More_files crc e = refl
no_reason h Next_load crc e = rw (eq_true h.load_crc crc e) refl
no_reason h Complete crc e = rw (eq_true h.load_crc crc e) refl

accepts_file : (u : UploadView) (l : OpenLoadView) (entry : FileEntry) (bytes : List ℕ) → length bytes ≡ entry.length → crc16_of bytes ≡ entry.crc16
    → LastCrc l.header (next_with u l.header (next_number l)) (crc32_after l.crc (take entry.length bytes)) → judge_file u l entry (sums_of entry l.crc bytes) ≡ Accepts_file (next_with u l.header (next_number l))
unfolding judge_file
accepts_file u l entry bytes size crc last =
    let all : take entry.length bytes ≡ bytes = take_all entry.length bytes (omega arith) in
    let sum : crc16_of (take entry.length bytes) ≡ entry.crc16 = ap (λ (x : List ℕ). crc16_of x) all ∙ crc in
    rw (eq_true (length bytes) entry.length size, eq_true (crc16_of (take entry.length bytes)) entry.crc16 sum, no_reason l.header (next_with u l.header (next_number l)) (crc32_after l.crc (take entry.length bytes)) last) refl

-- the row after a file that is as its header says
abbrev file_row : UploadView → OpenLoadView → Option FileEntry → List ℕ → RowView
file_row u l entry file = view_moved (Reads_file u) (Kept_sums (summed (said_length entry) l.crc file)) (file_move u l entry (Kept_sums (summed (said_length entry) l.crc file)))

same_load : (w : Wanted) (h : HeaderView) (size : ℕ) (files files' : List ManifestFile) (crc crc' : ℕ) → files ≡ files' → crc ≡ crc'
    → ◌≡◌ {A = OpenLoadView} (record { wanted = w; header = h; size = size; files = files; crc = crc }) (record { wanted = w; header = h; size = size; files = files'; crc = crc' })
same_load w h size files files' crc crc' a b = cc

map_more : (done : List FileView) (f : FileView) → map file_entry_of done ++ file_entry_of f ∷ [] ≡ map file_entry_of (done ++ f ∷ [])
map_more [] f = refl
map_more (d ∷ done) f = ap (λ (xs : List ManifestFile). file_entry_of d ∷ xs) (map_more done f)

covers_more : (bytes : List ℕ) (done : List FileView) (f : FileView) → covered bytes done ++ f.bytes ≡ covered bytes (done ++ f ∷ [])
covers_more bytes done f =
    append_assoc (covered_header bytes) (bytes_of done) f.bytes
    ∙ ap (λ (x : List ℕ). covered_header bytes ++ (bytes_of done ++ x)) (sym (append-nil f.bytes))
    ∙ ap (λ (x : List ℕ). covered_header bytes ++ x) (sym (flat_map-append (λ (x : FileView). x.bytes) done (f ∷ [])))

module _ (joins : SumsJoin) (set : Setting) (wanted : List Wanted) where
  after_file : (loads : List LoadEntry) (reports : ℕ) (w : Wanted) (h : HeaderView) (bytes : List ℕ) (done : List FileView) (f : FileView) (entry : FileEntry) → slice_get (files_of h) (length done) ≡ Some entry → IsAsSaid entry f
      → set.media.file f.name ≡ Some f.bytes
      → LastCrc h (next_with (upload wanted loads (Some (open_load w h bytes done)) reports) h (length done + 1)) (crc32_of (covered bytes (done ++ f ∷ [])))
      → next_row set wanted (Reads_file (upload wanted loads (Some (open_load w h bytes done)) reports))
      ≡ placed_view (upload wanted loads (Some (open_load w h bytes done)) reports) (open_load w h bytes (done ++ f ∷ [])) (next_with (upload wanted loads (Some (open_load w h bytes done)) reports) h (length done + 1))
  after_file loads reports w h bytes done f entry at said there last =
      let l = open_load w h bytes done in
      let u = upload wanted loads (Some l) reports in
      let next_is : next_entry l ≡ Some entry = ap (λ (n : ℕ). slice_get (files_of h) n) (length_map done) ∙ at in
      let named : next_name u ≡ f.name = ap (λ (e : Option FileEntry). entry_name e) next_is ∙ sym said.name in
      let file : file_in set wanted (Reads_file u) ≡ f.bytes = ap (λ (n : List ℕ). unwrap_or (set.media.file n) []) named ∙ ap (λ (b : Option (List ℕ)). unwrap_or b []) there in
      let all : take entry.length f.bytes ≡ f.bytes = (let size = said.size in take_all entry.length f.bytes (omega arith)) in
      let crc : crc32_after l.crc (take entry.length f.bytes) ≡ crc32_of (covered bytes (done ++ f ∷ [])) =
      ap (λ (x : List ℕ). crc32_after l.crc x) all ∙ joins.crc32 (covered bytes done) f.bytes ∙ ap (λ (x : List ℕ). crc32_of x) (covers_more bytes done f) in
      let n = next_with u h (next_number l) in
      let number : next_number l ≡ length done + 1 = ap (λ (k : ℕ). k + 1) (length_map done) in
      let last_so : LastCrc h n (crc32_after l.crc (take entry.length f.bytes)) =
      subst (λ (k : ℕ). LastCrc h (next_with u h k) (crc32_after l.crc (take entry.length f.bytes))) (sym number) (subst (λ (k : ℕ). LastCrc h (next_with u h (length done + 1)) k) (sym crc) last) in
      ap (λ (b : List ℕ). file_row u l (next_entry l) b) file
      ∙ ap (λ (e : Option FileEntry). file_row u l e f.bytes) next_is
      ∙ ap (λ (j : Judgement). view_judged_in (Reads_file u) (Kept_sums (sums_of entry l.crc f.bytes)) j) (accepts_file u l entry f.bytes said.size said.crc last_so)
      ∙ ap (λ (x : OpenLoadView). placed_view u x n) (same_load w h (length bytes) (map file_entry_of done ++ record { name = next_name u; length = length f.bytes } ∷ []) (map file_entry_of (done ++ f ∷ [])) (crc32_after l.crc (take entry.length f.bytes)) (crc32_of (covered bytes (done ++ f ∷ [])))
      (ap (λ (x : List ℕ). map file_entry_of done ++ record { name = x; length = length f.bytes } ∷ []) named ∙ map_more done f) crc)
      ∙ ap (λ (k : ℕ). placed_view u (open_load w h bytes (done ++ f ∷ [])) (next_with u h k)) number

  -- ---- a header

  abbrev header_row : UploadView → Option Wanted → List ℕ → RowView
  header_row u found file = view_moved (Reads_file u) (Kept_bytes (buffered file)) (header_move set.accepts (outline_of set.start) u found (Kept_bytes (buffered file)))

  -- what the tests ask of a header beside what is kept: the interlock accepts it, where it is the last the loads are few, and
  -- there is room for them
  pub record PassesBeside (u : UploadView) (w : Wanted) (h : HeaderView) (size : ℕ) : Type 0 where
    pub accepted : set.accepts h (told_loads (kept_after (outline_of set.start) u h)) ≡ true
    pub few : (not (is_last u) || nat_le (load_total (outline_of set.start) u h) 32) ≡ true
    pub fit : need_of (loads_at (outline_of set.start) u w h size) ≤ set.start.identity.bank

  accepts_header : (u : UploadView) (w : Wanted) (h : HeaderView) (bytes : List ℕ) → length bytes ≤ 65536 → answer header bytes ≡ Ok h → h.part ≡ w.part → is_for set.start.identity.hw set.start.identity.pos h ≡ true
      → PassesBeside u w h (length bytes) → LastCrc h (next_with u h 0) (crc32_of (covered_header bytes))
      → judge_header set.accepts (outline_of set.start) u w (buffered bytes) ≡ Accepts_header h (next_with u h 0)
  unfolding judge_header
  accepts_header u w h bytes small read part suits passes last =
      let all : take buffer_size bytes ≡ bytes = take_all buffer_size bytes small in
      let found : answer header (take buffer_size bytes) ≡ Ok h = ap (λ (x : List ℕ). answer header x) all ∙ read in
      let sum : LastCrc h (next_with u h 0) (crc32_of (covered_header (take buffer_size bytes))) = subst (λ (x : List ℕ). LastCrc h (next_with u h 0) (crc32_of (covered_header x))) (sym all) last in
      rw (
        lt_false 65536 (length bytes) small,
        found,
        (bytes_eq-Decides h.part w.part).1 part,
        suits,
        passes.accepted,
        passes.few,
        le_true (need_of (loads_at (outline_of set.start) u w h (length bytes))) set.start.identity.bank passes.fit,
        no_reason h (next_with u h 0) (crc32_of (covered_header (take buffer_size bytes))) sum,
      ) refl

  after_header : (loads : List LoadEntry) (reports : ℕ) (w : Wanted) (h : HeaderView) (bytes : List ℕ) → slice_get wanted (length loads) ≡ Some w → set.media.file w.header ≡ Some bytes
      → length bytes ≤ 65536 → answer header bytes ≡ Ok h → h.part ≡ w.part → is_for set.start.identity.hw set.start.identity.pos h ≡ true
      → PassesBeside (upload wanted loads None reports) w h (length bytes) → LastCrc h (next_with (upload wanted loads None reports) h 0) (crc32_of (covered_header bytes))
      → next_row set wanted (Reads_file (upload wanted loads None reports)) ≡ placed_view (upload wanted loads None reports) (open_load w h bytes []) (next_with (upload wanted loads None reports) h 0)
  after_header loads reports w h bytes at there small read part suits passes last =
      let u = upload wanted loads None reports in
      let n = next_with u h 0 in
      let named : next_name u ≡ w.header = ap (λ (o : Option Wanted). Rattle.session_rules.specs.Uploads.header_name o) at in
      let file : file_in set wanted (Reads_file u) ≡ bytes = ap (λ (x : List ℕ). unwrap_or (set.media.file x) []) named ∙ ap (λ (b : Option (List ℕ)). unwrap_or b []) there in
      let all : take buffer_size bytes ≡ bytes = take_all buffer_size bytes small in
      let crc : crc32_of (covered_header (take buffer_size bytes)) ≡ crc32_of (covered bytes []) = ap (λ (x : List ℕ). crc32_of (covered_header x)) all ∙ ap (λ (x : List ℕ). crc32_of x) (sym (append-nil (covered_header bytes))) in
      ap (λ (b : List ℕ). header_row u (next_wanted u) b) file
      ∙ ap (λ (o : Option Wanted). header_row u o bytes) at
      ∙ ap (λ (j : Judgement). view_judged_in (Reads_file u) (Kept_bytes (buffered bytes)) j) (accepts_header u w h bytes small read part suits passes last)
      ∙ ap (λ (o : Option Wanted). placed_view_if u (with_header_view o h (Kept_bytes (buffered bytes))) n) at
      ∙ ap (λ (x : OpenLoadView). placed_view u x n) (same_load w h (length bytes) [] [] (crc32_of (covered_header (take buffer_size bytes))) (crc32_of (covered bytes [])) refl crc)

  -- ---- the files of a load

  -- a file that is as its entry says, and that can be exchanged
  pub record IsReady (entry : FileEntry) (f : FileView) : Type 0 where
    pub said : IsAsSaid entry f
    pub entry_fits : IsHeaderFile entry
    pub there : set.media.file f.name ≡ Some f.bytes
    pub bytes : IsBytes f.bytes

  short_file : (file : List ℕ) → length file ≤ 16777215 → FitsBlocks file 512
  short_file file small = record { some = omega arith; most = omega arith; few = omega arith }

  module _ (loads : List LoadView) where
    -- this many transfers lead from here to the end
    abbrev pub LeadsTo : ℕ → RowView → Type 0
    LeadsTo n row = (more : ℕ) × (more + 1 ≡ n) × Course set wanted loads more row

    one_more : (n : ℕ) (row : RowView) → IsStep set wanted row → LeadsTo n (next_row set wanted row) → LeadsTo (n + 1) row
    one_more n row step (more, e, course) = (suc more, ap (λ (k : ℕ). k + 1) (as_sum more) ∙ ap (λ (k : ℕ). k + 1) e, (step, course))
      where
        as_sum : (more : ℕ) → suc more ≡ more + 1
        as_sum more = omega arith

    -- what comes after this many files
    abbrev end_of_load : List LoadEntry → Next
    end_of_load done = cond (nat_lt (length done + 1) (length wanted)) Next_load Complete

    abbrev kind_of : List LoadEntry → List FileView → Next
    kind_of done [] = end_of_load done
    kind_of done (f ∷ rest) = More_files

    kind_is : (done : List LoadEntry) (current : Option OpenLoadView) (reports : ℕ) (h : HeaderView) (k : ℕ) (rest : List FileView) → length (files_of h) ≡ k + length rest → next_with (upload wanted done current reports) h k ≡ kind_of done rest
    kind_is done current reports h k [] e = rw (lt_false k (length (files_of h)) (omega arith)) refl
    kind_is done current reports h k (f ∷ rest) e = rw (lt_true k (length (files_of h)) (shorter k (length rest) (length (files_of h)) e)) refl
      where
        shorter : (k n m : ℕ) → m ≡ k + suc n → k < m
        shorter k n m e = omega (arith, e)

    placed_later : (u : UploadView) (l : OpenLoadView) (n : Next) → IsLater (placed_view u l n) × IsAfterRequest (placed_view u l n)
    placed_later u l More_files = (tt, tt)
    placed_later u l Next_load = (tt, tt)
    placed_later u l Complete = (tt, tt)

    placed_same : (done : List LoadEntry) (current : Option OpenLoadView) (reports : ℕ) (l : OpenLoadView) (n : Next) → placed_view (upload wanted done current reports) l n ≡ placed_view (upload wanted done None reports) l n
    placed_same done current reports l More_files = refl
    placed_same done current reports l Next_load = refl
    placed_same done current reports l Complete = refl

    reads_step : (u : UploadView) (l : OpenLoadView) (n : Next) → IsFine set wanted (Reads_file u) → next_row set wanted (Reads_file u) ≡ placed_view u l n → IsStep set wanted (Reads_file u)
    reads_step u l n fine e = record {
      fine = fine;
      goes_on = tt;
      later = subst (λ (r : RowView). IsLater r) (sym e) (placed_later u l n).0;
      asks = λ sends. subst (λ (r : RowView). IsAfterRequest r) (sym e) (placed_later u l n).1;
    }

    module _ (done : List LoadEntry) (reports : ℕ) (w : Wanted) (h : HeaderView) (bytes : List ℕ) (all : List FileView) (crc : crc32_of (covered bytes all) ≡ h.load_crc) (each : AllZip IsReady (files_of h) all) where
      last_of : (before rest : List FileView) → before ++ rest ≡ all → LastCrc h (kind_of done rest) (crc32_of (covered bytes before))
      last_of before (f ∷ rest) e = tt
      last_of before [] e = at_end (nat_lt (length done + 1) (length wanted)) (sym crc ∙ ap (λ (xs : List FileView). crc32_of (covered bytes xs)) (sym e ∙ append-nil before))
        where
          at_end : (b : Bool) → h.load_crc ≡ crc32_of (covered bytes before) → LastCrc h (cond b Next_load Complete) (crc32_of (covered bytes before))
          at_end true e = e
          at_end false e = e

      files_lead : (n : ℕ) (rest before : List FileView) → before ++ rest ≡ all → LeadsTo n (placed_view (upload wanted done None reports) (open_load w h bytes all) (end_of_load done))
          → LeadsTo (n + length rest) (placed_view (upload wanted done None reports) (open_load w h bytes before) (kind_of done rest))
      files_lead n [] before e leads =
          let same : all ≡ before = sym e ∙ append-nil before in
          subst (λ (k : ℕ). LeadsTo k (placed_view (upload wanted done None reports) (open_load w h bytes before) (end_of_load done))) (none n)
          (subst (λ (xs : List FileView). LeadsTo n (placed_view (upload wanted done None reports) (open_load w h bytes xs) (end_of_load done))) same leads)
        where
          none : (n : ℕ) → n ≡ n + 0
          none n = omega arith
      files_lead n (f ∷ rest) before e leads =
          let l = open_load w h bytes before in
          let u = upload wanted done (Some l) reports in
          let now = before ++ f ∷ [] in
          let same : now ++ rest ≡ all = append_assoc before (f ∷ []) rest ∙ e in
          let (entry, at, ready) = zip_at IsReady (files_of h) before f rest (subst (λ (xs : List FileView). AllZip IsReady (files_of h) xs) (sym e) each) in
          let count : length (files_of h) ≡ length before + 1 + length rest =
          zip_length IsReady (files_of h) all each ∙ ap length (sym same) ∙ length-append now rest ∙ ap (λ (k : ℕ). k + length rest) (length-append before (f ∷ [])) in
          let kind = kind_is done (Some l) reports h (length before + 1) rest count in
          let last : LastCrc h (next_with u h (length before + 1)) (crc32_of (covered bytes now)) = subst (λ (k : Next). LastCrc h k (crc32_of (covered bytes now))) (sym kind) (last_of now rest same) in
          let said = ready.said in
          let after = after_file done reports w h bytes before f entry at said ready.there last ∙ ap (λ (k : Next). placed_view u (open_load w h bytes now) k) kind in
          let named : next_name u ≡ f.name = ap (λ (x : Option FileEntry). entry_name x) (ap (λ (k : ℕ). slice_get (files_of h) k) (length_map before) ∙ at) ∙ sym said.name in
          let file : file_in set wanted (Reads_file u) ≡ f.bytes = ap (λ (x : List ℕ). unwrap_or (set.media.file x) []) named ∙ ap (λ (b : Option (List ℕ)). unwrap_or b []) ready.there in
          let small : length f.bytes ≤ 16777215 = (let a = said.size in let b = ready.entry_fits.size in omega arith) in
          let fine : IsFine set wanted (Reads_file u) = record {
            fits = subst (λ (x : List ℕ). FitsBlocks x 512) (sym file) (short_file f.bytes small);
            bytes = subst (λ (x : List ℕ). IsBytes x) (sym file) ready.bytes;
            named = subst (λ (x : List ℕ). IsName x) (sym named ∙ sym refl) (subst (λ (x : List ℕ). IsName x) (sym said.name) ready.entry_fits.name);
            served = ap (λ (x : List ℕ). set.media.file x) named ∙ ready.there ∙ ap (λ (x : List ℕ). Some x) (sym file);
            summed = (covered bytes before, refl);
          } in
          let step = reads_step u (open_load w h bytes now) (kind_of done rest) fine after in
          let later = files_lead n rest now same leads in
          let row_is = after ∙ placed_same done (Some l) reports (open_load w h bytes now) (kind_of done rest) in
          subst (λ (k : ℕ). LeadsTo k (Reads_file u)) (more_files n (length rest)) (one_more (n + length rest) (Reads_file u) step (subst (λ (r : RowView). LeadsTo (n + length rest) r) (sym row_is) later))
        where
          more_files : (n k : ℕ) → n + k + 1 ≡ n + suc k
          more_files n k = omega arith

    -- ---- the loads

    -- a load that leads on from its header, where these loads are whole before it
    pub record IsReadyLoad (done : List LoadView) (w : Wanted) (load : LoadView) : Type 0 where
      pub h : HeaderView
      pub bytes : List ℕ
      pub files : List FileView
      pub small : length bytes ≤ 65536
      pub read : answer header bytes ≡ Ok h
      pub part : h.part ≡ w.part
      pub suits : is_for set.start.identity.hw set.start.identity.pos h ≡ true
      pub passes : PassesBeside (upload wanted (entries_of done) None (length done + 1)) w h (length bytes)
      pub named : IsName w.header
      pub there : set.media.file w.header ≡ Some bytes
      pub are_bytes : IsBytes bytes
      pub each : AllZip IsReady (files_of h) files
      pub crc : crc32_of (covered bytes files) ≡ h.load_crc
      pub entry : load_entry_of (open_load w h bytes files) ≡ entry_of load
      pub count : length load.files ≡ length files + 1

    -- how many transfers the loads from here on take
    abbrev pub transfers_for : List LoadView → ℕ
    transfers_for [] = 0
    transfers_for (load ∷ rest) = length load.files + 1 + transfers_for rest

    pub transfers_are : (rest : List LoadView) → sum_by (λ (load : LoadView). length load.files + 1) rest ≡ transfers_for rest
    transfers_are [] = refl
    transfers_are (load ∷ rest) =
        sum_by-append (λ (l : LoadView). length l.files + 1) (load ∷ []) rest
        ∙ ap (λ (k : ℕ). k + sum_by (λ (l : LoadView). length l.files + 1) rest) (none (length load.files + 1))
        ∙ ap (λ (n : ℕ). length load.files + 1 + n) (transfers_are rest)
      where
        none : (n : ℕ) → 0 + n ≡ n
        none n = omega arith

    -- so each of them is, where it comes
    abbrev pub AreReadyLoads : Type 0
    AreReadyLoads = (done : List LoadView) (load : LoadView) (rest : List LoadView) → done ++ load ∷ rest ≡ loads → (w : Wanted) × (slice_get wanted (length done) ≡ Some w) × IsReadyLoad done w load

    module _ (protocol : FilesAreRead wanted) (own : OwnFilesAreNamed set) (ready : AreReadyLoads) (same_count : length wanted ≡ length loads) where
      entries_more : (done : List LoadView) (load : LoadView) → entries_of done ++ entry_of load ∷ [] ≡ entries_of (done ++ load ∷ [])
      entries_more [] load = refl
      entries_more (d ∷ done) load = ap (λ (xs : List LoadEntry). entry_of d ∷ xs) (entries_more done load)

      -- the row at which the next header is read
      abbrev at_header : List LoadView → RowView
      at_header done = Reads_file (upload wanted (entries_of done) None (length done + 1))

      -- from a header, where what comes behind the load leads on
      header_leads : (load : LoadView) (rest done : List LoadView) (w : Wanted) (r : IsReadyLoad done w load) → slice_get wanted (length done) ≡ Some w → done ++ load ∷ rest ≡ loads
          → LeadsTo (transfers_for rest + 1) (placed_view (upload wanted (entries_of done) None (length done + 1)) (open_load w r.h r.bytes r.files) (end_of_load (entries_of done)))
          → LeadsTo (transfers_for (load ∷ rest)) (at_header done)
      header_leads load rest done w r at e ends =
          let entries = entries_of done in
          let reports = length done + 1 in
          let l = open_load w r.h r.bytes [] in
          let found : slice_get wanted (length entries) ≡ Some w = ap (λ (k : ℕ). slice_get wanted k) (length-map done entry_of) ∙ at in
          let count : length (files_of r.h) ≡ 0 + length r.files = zip_length IsReady (files_of r.h) r.files r.each ∙ nothing_more (length r.files) in
          let kind = kind_is entries None reports r.h 0 r.files count in
          let covers : crc32_of (covered_header r.bytes) ≡ crc32_of (covered r.bytes []) = ap (λ (x : List ℕ). crc32_of x) (sym (append-nil (covered_header r.bytes))) in
          let last : LastCrc r.h (next_with (upload wanted entries None reports) r.h 0) (crc32_of (covered_header r.bytes)) =
          subst (λ (k : Next). LastCrc r.h k (crc32_of (covered_header r.bytes))) (sym kind)
          (subst (λ (x : ℕ). LastCrc r.h (kind_of entries r.files) x) (sym covers) (last_of entries reports w r.h r.bytes r.files r.crc r.each [] r.files refl)) in
          let after = after_header entries reports w r.h r.bytes found r.there r.small r.read r.part r.suits r.passes last ∙ ap (λ (k : Next). placed_view (upload wanted entries None reports) l k) kind in
          let named : next_name (upload wanted entries None reports) ≡ w.header = ap (λ (o : Option Wanted). Rattle.session_rules.specs.Uploads.header_name o) found in
          let file : file_in set wanted (at_header done) ≡ r.bytes = ap (λ (x : List ℕ). unwrap_or (set.media.file x) []) named ∙ ap (λ (b : Option (List ℕ)). unwrap_or b []) r.there in
          let short = r.small in
          let fine : IsFine set wanted (at_header done) = record {
            fits = subst (λ (x : List ℕ). FitsBlocks x 512) (sym file) (short_file r.bytes (omega arith));
            bytes = subst (λ (x : List ℕ). IsBytes x) (sym file) r.are_bytes;
            named = subst (λ (x : List ℕ). IsName x) (sym named) r.named;
            served = ap (λ (x : List ℕ). set.media.file x) named ∙ r.there ∙ ap (λ (x : List ℕ). Some x) (sym file);
            summed = tt;
          } in
          let step = reads_step (upload wanted entries None reports) l (kind_of entries r.files) fine after in
          let later = files_lead entries reports w r.h r.bytes r.files r.crc r.each (transfers_for rest + 1) r.files [] refl ends in
          subst (λ (k : ℕ). LeadsTo k (at_header done)) (counted (transfers_for rest) (length r.files) (length load.files) r.count)
          (one_more (transfers_for rest + 1 + length r.files) (at_header done) step (subst (λ (x : RowView). LeadsTo (transfers_for rest + 1 + length r.files) x) (sym after) later))
        where
          nothing_more : (n : ℕ) → n ≡ 0 + n
          nothing_more n = omega arith

          counted : (n files all : ℕ) → all ≡ files + 1 → n + 1 + files + 1 ≡ all + 1 + n
          counted n files all e = omega (arith, e)

      -- the last load: the installation
      last_ends : (load : LoadView) (done : List LoadView) (w : Wanted) (r : IsReadyLoad done w load) → done ++ load ∷ [] ≡ loads
          → LeadsTo 1 (placed_view (upload wanted (entries_of done) None (length done + 1)) (open_load w r.h r.bytes r.files) (end_of_load (entries_of done)))
      last_ends load done w r e =
          let entries = entries_of done in
          let reports = length done + 1 in
          let l = open_load w r.h r.bytes r.files in
          let all : length wanted ≡ length done + 1 = same_count ∙ ap length (sym e) ∙ length-append done (load ∷ []) in
          let size = length-map done entry_of in
          let read = protocol.completion (reports + 1) (omega arith) in
          rw (lt_false (length entries + 1) (length wanted) (omega arith)) (
            0,
            refl,
            (
              record { fits = read.0.0; bytes = read.0.1; named = own Lus; served = tt; summed = tt },
              read.1,
              ap (λ (x : LoadEntry). entries ++ x ∷ []) r.entry ∙ entries_more done load ∙ ap (λ (xs : List LoadView). entries_of xs) e,
            ),
          )

      -- another load comes: how far the upload has come is told
      next_leads : (load next : LoadView) (later done : List LoadView) (w : Wanted) (r : IsReadyLoad done w load) → done ++ load ∷ next ∷ later ≡ loads → LeadsTo (transfers_for (next ∷ later)) (at_header (done ++ load ∷ []))
          → LeadsTo (transfers_for (next ∷ later) + 1) (placed_view (upload wanted (entries_of done) None (length done + 1)) (open_load w r.h r.bytes r.files) (end_of_load (entries_of done)))
      next_leads load next later done w r e leads =
          let entries = entries_of done in
          let reports = length done + 1 in
          let l = open_load w r.h r.bytes r.files in
          let more = entries ++ load_entry_of l ∷ [] in
          let u = upload wanted more None (reports + 1) in
          let all : length wanted ≡ length done + suc (suc (length later)) = same_count ∙ ap length (sym e) ∙ length-append done (load ∷ next ∷ later) in
          let size = length-map done entry_of in
          let arrived : length more ≡ length entries + 1 = length-append entries (load_entry_of l ∷ []) in
          let read = protocol.progress (length more) (reports + 1) (omega arith) (omega arith) in
          let step : IsStep set wanted (Writes_progress u) = record {
            fine = record { fits = read.0.0; bytes = read.0.1; named = own Lus; served = tt; summed = tt };
            goes_on = read.1;
            later = tt;
            asks = λ sends. absurd (target_sends sends);
          } in
          let same_u : at_header (done ++ load ∷ []) ≡ Reads_file u =
          ap (λ (xs : List LoadEntry). Reads_file (upload wanted xs None (length (done ++ load ∷ []) + 1))) (sym (ap (λ (x : LoadEntry). entries ++ x ∷ []) r.entry ∙ entries_more done load))
          ∙ ap (λ (k : ℕ). Reads_file (upload wanted more None (k + 1))) (length-append done (load ∷ [])) in
          rw (lt_true (length entries + 1) (length wanted) (omega arith)) (one_more (transfers_for (next ∷ later)) (Writes_progress u) step (subst (λ (x : RowView). LeadsTo (transfers_for (next ∷ later)) x) same_u leads))
        where
          target_sends : ◌≡◌ {A = Side} sides.Target sides.Loader → ⊥
          target_sends e = absurd cc

      loads_lead : (load : LoadView) (rest done : List LoadView) → done ++ load ∷ rest ≡ loads → LeadsTo (transfers_for (load ∷ rest)) (at_header done)
      loads_lead load [] done e =
          let (w, at, r) = ready done load [] e in
          header_leads load [] done w r at e (last_ends load done w r e)
      loads_lead load (next ∷ later) done e =
          let (w, at, r) = ready done load (next ∷ later) e in
          header_leads load (next ∷ later) done w r at e (next_leads load next later done w r e (loads_lead next later (done ++ load ∷ []) (append_assoc done (load ∷ []) (next ∷ later) ∙ e)))

      -- ---- the rows before the loads

      requests_so : next_row set wanted Awaits_lur ≡ Reads_file (new_upload_view wanted)
      requests_so = ap (λ (x : Rattle.std.specs.Prelude.Result (List Wanted) Rattle.session_rules.specs.declared.reason.RequestFault.RequestFault). view_moved Awaits_lur (Kept_bytes (buffered (lur_file wanted))) (request_move x)) protocol.request.1

      request_leads : (load : LoadView) (rest : List LoadView) → load ∷ rest ≡ loads → LeadsTo (transfers_for (load ∷ rest) + 1) Awaits_lur
      request_leads load rest e =
          let step : IsStep set wanted Awaits_lur = record {
            fine = record { fits = protocol.request.0.0; bytes = protocol.request.0.1; named = own Lur; served = tt; summed = tt };
            goes_on = tt;
            later = subst (λ (r : RowView). IsLater r) (sym requests_so) tt;
            asks = λ sends. subst (λ (r : RowView). IsAfterRequest r) (sym requests_so) tt;
          } in
          one_more (transfers_for (load ∷ rest)) Awaits_lur step (subst (λ (r : RowView). LeadsTo (transfers_for (load ∷ rest)) r) (sym requests_so) (loads_lead load rest [] e))

      target_sends_not : ◌≡◌ {A = Side} sides.Target sides.Loader → ⊥
      target_sends_not e = absurd cc

      pub all_lead : (load : LoadView) (rest : List LoadView) → load ∷ rest ≡ loads → LeadsTo (transfers_for (load ∷ rest) + 1 + 1 + 1) Gives_lui
      all_lead load rest e =
          let ready_step : IsStep set wanted Writes_ready = record {
            fine = record { fits = protocol.ready.0.0; bytes = protocol.ready.0.1; named = own Lus; served = tt; summed = tt };
            goes_on = protocol.ready.1;
            later = tt;
            asks = λ sends. absurd (target_sends_not sends);
          } in
          let lui_step : IsStep set wanted Gives_lui = record {
            fine = record { fits = protocol.lui.0.0; bytes = protocol.lui.0.1; named = own Lui; served = tt; summed = tt };
            goes_on = protocol.lui.1;
            later = tt;
            asks = λ sends. absurd (target_sends_not sends);
          } in
          one_more (transfers_for (load ∷ rest) + 1 + 1) Gives_lui lui_step (one_more (transfers_for (load ∷ rest) + 1) Writes_ready ready_step (request_leads load rest e))

-- ---- good loads are ready

-- headers are read as they are spelled, which load_header promises of its format (`header_laws`)
pub record HeadersAreRead : Type 0 where
  pub read : (h : HeaderView) (bytes : List ℕ) → HeaderSpells h bytes → answer header bytes ≡ Ok h
  pub size : (h : HeaderView) (bytes : List ℕ) → HeaderSpells h bytes → length bytes ≡ header_size h

pub headers_are_read : ((h : HeaderView) (bytes : List ℕ) → Spelled header bytes h ↔ HeaderSpells h bytes) → ((h : HeaderView) (bytes : List ℕ) → HeaderSpells h bytes → length bytes ≡ header_size h) → HeadersAreRead
headers_are_read spells size = record { read = λ h bytes is. answer-spelled header bytes h (spelled_at_start header bytes h ((spells h bytes).1 is)); size = size }

all_split : {A : Type 0} (P : A → Type 0) (xs ys : List A) → AllByRecursion P (xs ++ ys) → AllByRecursion P xs × AllByRecursion P ys
all_split P [] ys h = (tt, h)
all_split P (x ∷ xs) ys h = let (a, b) = all_split P xs ys h.1 in ((h.0, a), b)

all_joined : {A : Type 0} (P : A → Type 0) (xs ys : List A) → AllByRecursion P xs → AllByRecursion P ys → AllByRecursion P (xs ++ ys)
all_joined P [] ys a b = b
all_joined P (x ∷ xs) ys a b = (a.0, all_joined P xs ys a.1 b)

entry_file : FileEntry → ManifestFile
entry_file entry = record { name = entry.name; length = entry.length }

same_file : (name name' : List ℕ) (size size' : ℕ) → name ≡ name' → size ≡ size' → ◌≡◌ {A = ManifestFile} (record { name = name; length = size }) (record { name = name'; length = size' })
same_file name name' size size' a b = cc

entries_are : (entries : List FileEntry) (files : List FileView) → AllZip IsAsSaid entries files → map (λ (entry : FileEntry). let m : ManifestFile = record { name = entry.name; length = entry.length } in m) entries ≡ map file_entry_of files
entries_are [] [] h = refl
entries_are [] (f ∷ files) h = absurd h
entries_are (e ∷ entries) [] h = absurd h
entries_are (e ∷ entries) (f ∷ files) h =
    ap (λ (m : ManifestFile). m ∷ map (λ (entry : FileEntry). let x : ManifestFile = record { name = entry.name; length = entry.length } in x) entries) (same_file e.name f.name e.length (length f.bytes) (sym h.0.name) (sym h.0.size))
    ∙ ap (λ (xs : List ManifestFile). file_entry_of f ∷ xs) (entries_are entries files h.1)

same_entry : (part part' : List ℕ) (type_id type_id' : Option ℕ) (files files' : List ManifestFile) → part ≡ part' → type_id ≡ type_id' → files ≡ files'
    → ◌≡◌ {A = LoadEntry} (record { part = part; type_id = type_id; files = files }) (record { part = part'; type_id = type_id'; files = files' })
same_entry part part' type_id type_id' files files' a b c = cc

module _ (joins : SumsJoin) (set : Setting) (wanted : List Wanted) (read : HeadersAreRead) where
  files_ready : (entries : List FileEntry) (files : List FileView) → AllZip IsAsSaid entries files → AllByRecursion IsHeaderFile entries → AllByRecursion (λ (f : FileView). set.media.file f.name ≡ Some f.bytes) files
      → AllByRecursion (λ (f : FileView). IsBytes f.bytes) files → AllZip (IsReady joins set wanted) entries files
  files_ready [] [] said fits there bytes = tt
  files_ready [] (f ∷ files) said fits there bytes = absurd said
  files_ready (e ∷ entries) [] said fits there bytes = absurd said
  files_ready (e ∷ entries) (f ∷ files) said fits there bytes = (record { said = said.0; entry_fits = fits.0; there = there.0; bytes = bytes.0 }, files_ready entries files said.1 fits.1 there.1 bytes.1)

  load_ready : (loads done : List LoadView) (w : Wanted) (load : LoadView) (kept : List KeptLoad) → IsWanted w load → IsName w.header → (good : IsGoodLoad (IsGranted set) set.start.identity kept load)
      → AllByRecursion (λ (f : FileView). set.media.file f.name ≡ Some f.bytes) load.files → AllByRecursion (λ (f : FileView). IsBytes f.bytes) load.files
      → (planned_load w good.header (length good.bytes) ≡ entry_of load → PassesBeside joins set wanted (upload wanted (entries_of done) None (length done + 1)) w good.header (length good.bytes)) → IsReadyLoad joins set wanted loads done w load
  load_ready loads done w load kept is named good there bytes passes =
      let all_there = subst (λ (xs : List FileView). AllByRecursion (λ (f : FileView). set.media.file f.name ≡ Some f.bytes) xs) good.whole there in
      let all_bytes = subst (λ (xs : List FileView). AllByRecursion (λ (f : FileView). IsBytes f.bytes) xs) good.whole bytes in
      let fits = all_joined IsHeaderFile good.header.data_files good.header.support_files good.spelled.0.data_files good.spelled.0.support_files in
      let size = read.size good.header good.bytes good.spelled in
      let most = good.spelled.0.size in
      let part : good.header.part ≡ w.part = sym good.part ∙ is.part in
      let files_are : record { name = w.header; length = length good.bytes } ∷ map file_entry_of good.files ≡ map file_entry_of load.files =
      ap (λ (x : List ℕ). let m : ManifestFile = record { name = x; length = length good.bytes } in m ∷ map file_entry_of good.files) (sym is.header) ∙ ap (λ (xs : List FileView). map file_entry_of xs) (sym good.whole) in
      let planned : planned_load w good.header (length good.bytes) ≡ entry_of load = same_entry good.header.part load.part (Some good.header.type_id) load.type_id _ _ (sym good.part) (sym good.type_id)
      (ap (λ (xs : List ManifestFile). let m : ManifestFile = record { name = w.header; length = length good.bytes } in m ∷ xs) (entries_are (files_of good.header) good.files good.each) ∙ files_are) in
      record {
        h = good.header;
        bytes = good.bytes;
        files = good.files;
        small = omega arith;
        read = read.read good.header good.bytes good.spelled;
        part = part;
        suits = good.suits;
        passes = passes planned;
        named = named;
        there = ap (λ (x : List ℕ). set.media.file x) (sym is.header) ∙ all_there.0;
        are_bytes = all_bytes.0;
        each = files_ready (files_of good.header) good.files good.each fits all_there.1 all_bytes.1;
        crc = good.crc;
        entry = same_entry w.part load.part (Some good.header.type_id) load.type_id _ _ (sym is.part) (sym good.type_id) files_are;
        count = ap length good.whole ∙ as_sum (length good.files);
      }
    where
      as_sum : (n : ℕ) → suc n ≡ n + 1
      as_sum n = omega arith

-- ---- they fit the bank one by one

entries_joined : (done rest : List LoadView) → entries_of (done ++ rest) ≡ entries_of done ++ entries_of rest
entries_joined [] rest = refl
entries_joined (d ∷ done) rest = ap (λ (xs : List LoadEntry). entry_of d ∷ xs) (entries_joined done rest)

abbrev fields : LoadEntry → List (List ℕ)
fields l = load_entry_fields layouts.Two l

need_more : (xs ys : List LoadEntry) → need_of xs ≤ need_of (xs ++ ys)
unfolding need_of
need_more xs ys =
    let files = flat_map-append (λ (l : LoadEntry). l.files) xs ys in
    let total : total_length (xs ++ ys) ≡ total_length xs + total_length ys =
    ap (λ (fs : List ManifestFile). Rattle.disk_layout.specs.Manifest.entries_length fs) files ∙ sum_by-append (λ (f : ManifestFile). f.length) (flat_map (λ (l : LoadEntry). l.files) xs) (flat_map (λ (l : LoadEntry). l.files) ys) in
    let body : length (concat (flat_map fields (xs ++ ys))) ≡ length (concat (flat_map fields xs)) + length (concat (flat_map fields ys)) =
    ap (λ (fs : List (List ℕ)). length (concat fs)) (flat_map-append fields xs ys) ∙ ap length (concat-append (flat_map fields xs) (flat_map fields ys)) ∙ length-append (concat (flat_map fields xs)) (concat (flat_map fields ys)) in
    let one = manifest_size xs in
    let two = manifest_size (xs ++ ys) in
    omega arith
  where
    -- a manifest begins with two numbers, the mark of its layout and how many loads it has
    head_size : (n : ℕ) → length (concat (head_fields layouts.Two n)) ≡ 4
    head_size n =
        length-append (number_bytes 2 layout_mark) (number_bytes 2 n ++ [])
        ∙ ap₂ (λ (a : ℕ) (b : ℕ). a + b) (length_number_bytes 2 layout_mark) (ap length (append-nil (number_bytes 2 n)) ∙ length_number_bytes 2 n)

    manifest_size : (zs : List LoadEntry) → length (concat (manifest_fields layouts.Two zs)) ≡ 4 + length (concat (flat_map fields zs))
    manifest_size zs =
        ap length (concat-append (head_fields layouts.Two (length zs)) (flat_map fields zs)) ∙ length-append (concat (head_fields layouts.Two (length zs))) (concat (flat_map fields zs))
        ∙ ap (λ (k : ℕ). k + length (concat (flat_map fields zs))) (head_size (length zs))

-- ---- and beside what is kept

-- the type ids of the headers so far are those of their loads
types_with : (done : List LoadView) (load : LoadView) (h : HeaderView) → load.type_id ≡ Some h.type_id → types_of (entries_of done) ++ h.type_id ∷ [] ≡ types_in (done ++ load ∷ [])
types_with done load h is =
    ap (λ (types : List ℕ). types ++ said_type (Some h.type_id)) (sym (types_same done))
    ∙ ap (λ (id : Option ℕ). types_in done ++ said_type id) (sym is)
    ∙ ap (λ (types : List ℕ). types_in done ++ types) (sym (flat_map-cons (λ (l : LoadView). said_type l.type_id) load [] ∙ append-nil (said_type load.type_id)))
    ∙ sym (flat_map-append (λ (l : LoadView). said_type l.type_id) done (load ∷ []))

abbrev is_none_left : List LoadView → Bool
is_none_left [] = true
is_none_left (l ∷ ls) = false

module _ (joins : SumsJoin) (set : Setting) (wanted : List Wanted) (loads : List LoadView) (count : length wanted ≡ length loads) (few : length (with_kept loads set.start.loads) ≤ 32)
    (fit : need_of (entries_of (with_kept loads set.start.loads)) ≤ set.start.identity.bank) where
  abbrev before : List LoadEntry
  before = entries_of set.start.loads

  abbrev upload_at : List LoadView → UploadView
  upload_at done = upload wanted (entries_of done) None (length done + 1)

  passes : (done : List LoadView) (load : LoadView) (rest : List LoadView) → done ++ load ∷ rest ≡ loads → (w : Wanted) (h : HeaderView) (size : ℕ) → load.type_id ≡ Some h.type_id → planned_load w h size ≡ entry_of load
      → set.accepts h (kept_beside before (done ++ load ∷ [])) ≡ true → PassesBeside joins set wanted (upload_at done) w h size
  passes done load rest e w h size is planned accepted = record {
    accepted = ap (λ (types : List ℕ). set.accepts h (told_loads (kept_entries types before))) types ∙ accepted;
    few = few_at rest e;
    fit = subst (λ (x : LoadEntry). need_of ((entries_of done ++ x ∷ []) ++ kept_at_last (outline_of set.start) (upload_at done) h) ≤ set.start.identity.bank) (sym planned)
        (subst (λ (xs : List LoadEntry). need_of (xs ++ kept_at_last (outline_of set.start) (upload_at done) h) ≤ set.start.identity.bank) (entries_joined done (load ∷ [])) (fit_at rest e));
  }
    where
      types : types_of (entries_of done) ++ h.type_id ∷ [] ≡ types_in (done ++ load ∷ [])
      types = types_with done load h is

      kept : kept_after (outline_of set.start) (upload_at done) h ≡ entries_of (kept_loads (types_in (done ++ load ∷ [])) set.start.loads)
      kept = ap (λ (ids : List ℕ). kept_entries ids before) types ∙ sym (kept_same (types_in (done ++ load ∷ [])) set.start.loads)

      kept_in : done ++ load ∷ [] ≡ loads → kept_after (outline_of set.start) (upload_at done) h ≡ entries_of (kept_loads (types_in loads) set.start.loads)
      kept_in f = kept ∙ ap (λ (ls : List LoadView). entries_of (kept_loads (types_in ls) set.start.loads)) f

      last : (rest : List LoadView) → done ++ load ∷ rest ≡ loads → is_last (upload_at done) ≡ is_none_left rest
      last [] f = let size = length-map done entry_of in let all = ap length (sym f) ∙ length-append done (load ∷ []) in rw (lt_false (length (entries_of done) + 1) (length wanted) (omega (arith, size, all, count))) refl
      last (next ∷ later) f =
          let size = length-map done entry_of in
          let all = ap length (sym f) ∙ length-append done (load ∷ next ∷ later) in
          rw (lt_true (length (entries_of done) + 1) (length wanted) (more (length (entries_of done)) (length done) (length later) (length wanted) size (count ∙ all))) refl
        where
          more : (n d l w : ℕ) → n ≡ d → w ≡ d + suc (suc l) → n + 1 < w
          more n d l w a b = omega (arith, a, b)

      passed : (b x : Bool) → x ≡ true → (b || x) ≡ true
      passed true x e = refl
      passed false x e = e

      few_at : (rest : List LoadView) → done ++ load ∷ rest ≡ loads → (not (is_last (upload_at done)) || nat_le (load_total (outline_of set.start) (upload_at done) h) 32) ≡ true
      few_at (next ∷ later) f = ap (λ (b : Bool). not b || nat_le (load_total (outline_of set.start) (upload_at done) h) 32) (last (next ∷ later) f)
      few_at [] f =
          let size : length (kept_after (outline_of set.start) (upload_at done) h) ≡ length (kept_loads (types_in loads) set.start.loads) = ap length (kept_in f) ∙ length-map (kept_loads (types_in loads) set.start.loads) entry_of in
          passed (not (is_last (upload_at done))) (nat_le (load_total (outline_of set.start) (upload_at done) h) 32)
          (le_true (load_total (outline_of set.start) (upload_at done) h) 32 (omega (arith, size, count, few, length-append loads (kept_loads (types_in loads) set.start.loads))))

      at_most : (xs ys : List LoadEntry) (bank : ℕ) → need_of (xs ++ ys) ≤ bank → need_of xs ≤ bank
      at_most xs ys bank le = let h = need_more xs ys in omega arith

      fit_at : (rest : List LoadView) → done ++ load ∷ rest ≡ loads → need_of (entries_of (done ++ load ∷ []) ++ kept_at_last (outline_of set.start) (upload_at done) h) ≤ set.start.identity.bank
      fit_at [] f =
          let with : entries_of (done ++ load ∷ []) ++ kept_at_last (outline_of set.start) (upload_at done) h ≡ entries_of (with_kept loads set.start.loads) =
          ap (λ (b : Bool). entries_of (done ++ load ∷ []) ++ cond b (kept_after (outline_of set.start) (upload_at done) h) []) (last [] f)
          ∙ ap (λ (xs : List LoadEntry). entries_of (done ++ load ∷ []) ++ xs) (kept_in f)
          ∙ ap (λ (ls : List LoadView). entries_of ls ++ entries_of (kept_loads (types_in loads) set.start.loads)) f
          ∙ sym (entries_joined loads (kept_loads (types_in loads) set.start.loads)) in
          subst (λ (xs : List LoadEntry). need_of xs ≤ set.start.identity.bank) (sym with) fit
      fit_at (next ∷ later) f =
          let none : entries_of (done ++ load ∷ []) ++ kept_at_last (outline_of set.start) (upload_at done) h ≡ entries_of (done ++ load ∷ []) =
          ap (λ (b : Bool). entries_of (done ++ load ∷ []) ++ cond b (kept_after (outline_of set.start) (upload_at done) h) []) (last (next ∷ later) f)
          ∙ append-nil (entries_of (done ++ load ∷ [])) in
          let others = (next ∷ later) ++ kept_loads (types_in loads) set.start.loads in
          let whole : with_kept loads set.start.loads ≡ (done ++ load ∷ []) ++ others =
          ap (λ (ls : List LoadView). ls ++ kept_loads (types_in loads) set.start.loads) (sym f ∙ sym (append_assoc done (load ∷ []) (next ∷ later)))
          ∙ append_assoc (done ++ load ∷ []) (next ∷ later) (kept_loads (types_in loads) set.start.loads) in
          subst (λ (xs : List LoadEntry). need_of xs ≤ set.start.identity.bank) (sym none)
          (at_most (entries_of (done ++ load ∷ [])) (entries_of others) set.start.identity.bank
          (subst (λ (xs : List LoadEntry). need_of xs ≤ set.start.identity.bank) (ap (λ (ls : List LoadView). entries_of ls) whole ∙ entries_joined (done ++ load ∷ []) others) fit))

-- ---- the whole

all_at : {A : Type 0} (P : A → Type 0) (xs : List A) (n : ℕ) (x : A) → AllByRecursion P xs → slice_get xs n ≡ Some x → P x
all_at P [] n x all e = absurd cc
all_at P (y ∷ ys) zero x all e = let same : y ≡ x = cc in subst P same all.0
all_at P (y ∷ ys) (suc n) x all e = all_at P ys n x all.1 e

-- a load that comes after these is good beside what is kept after its header
good_at : (Accepted : HeaderView → List KeptLoad → Type 0) (id : Identity) (active : List LoadEntry) (before done : List LoadView) (load : LoadView) (rest : List LoadView) → AreGoodAfter Accepted id active before (done ++ load ∷ rest)
    → IsGoodLoad Accepted id (kept_beside active ((before ++ done) ++ load ∷ [])) load
good_at Accepted id active before [] load rest good = subst (λ (ls : List LoadView). IsGoodLoad Accepted id (kept_beside active (ls ++ load ∷ [])) load) (sym (append-nil before)) good.0
good_at Accepted id active before (d ∷ done) load rest good =
    subst (λ (ls : List LoadView). IsGoodLoad Accepted id (kept_beside active (ls ++ load ∷ [])) load) (append_assoc before (d ∷ []) done) (good_at Accepted id active (before ++ d ∷ []) done load rest good.1)

files_at : (P : FileView → Type 0) (done : List LoadView) (load : LoadView) (rest : List LoadView) → AllByRecursion P (files_in (done ++ load ∷ rest)) → AllByRecursion P load.files
files_at P [] load rest all = (all_split P load.files (files_in rest) all).0
files_at P (d ∷ done) load rest all = files_at P done load rest (all_split P d.files (files_in (done ++ load ∷ rest)) all).1

all_ready : (joins : SumsJoin) → HeadersAreRead → (set : Setting) (wanted : List Wanted) (loads : List LoadView) → AreServed set wanted loads → HaveNamedFiles wanted loads → AreReadyLoads joins set wanted loads
all_ready joins read set wanted loads served files done load rest e =
    let (w, at, is) = zip_at IsWanted wanted done load rest (subst (λ (xs : List LoadView). AllZip IsWanted wanted xs) (sym e) served.each) in
    let kept = kept_beside (entries_of set.start.loads) (done ++ load ∷ []) in
    let good : IsGoodLoad (IsGranted set) set.start.identity kept load = good_at (IsGranted set) set.start.identity (entries_of set.start.loads) [] done load rest
    (subst (λ (xs : List LoadView). AreGoodAfter (IsGranted set) set.start.identity (entries_of set.start.loads) [] xs) (sym e) served.good) in
    let there = files_at (λ (f : FileView). set.media.file f.name ≡ Some f.bytes) done load rest (subst (λ (xs : List LoadView). AllByRecursion (λ (f : FileView). set.media.file f.name ≡ Some f.bytes) (files_in xs)) (sym e) served.media) in
    let bytes = files_at (λ (f : FileView). IsBytes f.bytes) done load rest (subst (λ (xs : List LoadView). AllByRecursion (λ (f : FileView). IsBytes f.bytes) (files_in xs)) (sym e) files.bytes) in
    let named = all_at (λ (x : Wanted). IsName x.header) wanted (length done) w files.named at in (
      w,
      at,
      load_ready joins set wanted read loads done w load kept is named good there bytes
          (λ planned. passes joins set wanted loads (zip_length IsWanted wanted loads served.each) served.few served.fit done load rest e w good.header (length good.bytes) good.type_id planned good.accepted.0),
    )

pub good_loads_lead_on : SumsJoin → HeadersAreRead → GoodLoadsLeadOn
good_loads_lead_on joins read set wanted [] served some own protocol files = absurd (omega arith)
good_loads_lead_on joins read set wanted (first ∷ others) served some own protocol files =
    let loads = first ∷ others in
    let (more, e, course) = all_lead joins set wanted loads protocol own (all_ready joins read set wanted loads served files) (zip_length IsWanted wanted loads served.each) first others refl in
    (more, e ∙ three (transfers_for joins set wanted loads loads) ∙ ap (λ (n : ℕ). 3 + n) (sym (transfers_are joins set wanted loads loads)), course)
  where
    three : (n : ℕ) → n + 1 + 1 + 1 ≡ 3 + n
    three n = omega arith
