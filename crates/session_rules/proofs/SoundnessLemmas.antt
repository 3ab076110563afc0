-- Proofs that what is installed is new: made of what was asked for and read, and good.
use Rattle.std.proofs.Common.{◌≡◌, ℕ, suc, ◌+◌, ◌≤◌, nat_lt, nat_le, bytes_eq, Bool, true, false, cond, ltb, List, [], ◌∷◌, ◌++◌, length, take, map, Option, Some, None, Result, Ok, Err, refl, sym, ap, subst, ◌∙◌, append-nil, append_assoc, length-append, arith, inl, inr, ◌⊎◌, ◌↔◌}
use Rattle.std.specs.Prelude.{slice_get, filter, not, ◌||◌}
use Rattle.std.specs.List.{AllZip}
use Rattle.std.proofs.lemmas.Bool.{eqb-true, ltb-false}
use Rattle.std.proofs.lemmas.Bool.Decides.{nat_tests}
use Rattle.std.proofs.lemmas.List.{take_all, map-append, length-map}
use Rattle.std.proofs.lemmas.List.Elements.{filter-append}
use Rattle.std.proofs.lemmas.Grind.{flat_map-append}
use Rattle.std.proofs.lemmas.Slice.Eq.{bytes_eq-Decides}
use Rattle.crc_fields.specs.CheckSums.{crc16_of, crc32_of, crc32_after}
use Rattle.field_grammar.specs.Answers.{answer}
use Rattle.field_grammar.proofs.ExactLemmas.{answer-fault, answer-spelled, spelled_at_start}
use Rattle.field_grammar.specs.Grammar.{Fault, Grammar, IsBytes, IsDecided, Spelled}
use Rattle.load_base.specs.Config.{FileView, LoadView}
use Rattle.load_header.specs.declared.fault.HeaderFault.{HeaderFault}
use Rattle.load_header.specs.declared.header.FileEntry.{FileEntry}
use Rattle.load_header.specs.Header.{HeaderView, header}
use Rattle.load_header.specs.HeaderFields.{HeaderSpells}
use Rattle.load_protocol_files.specs.declared.lur.Wanted.{Wanted}
use Rattle.disk_layout.specs.Contents.{entry_of, entries_of, bytes_of, file_entry_of}
use Rattle.disk_layout.specs.Holds.{Outline, StandingView, outline_of}
use Rattle.tftp_packet.specs.Packets.{PacketView}
use Rattle.transfer_end.specs.Transfers.{Reads, Role, ServesRead, ServesWrite, Transfer, Writes, arrived_of, is_reading}
use Rattle.accept_rules.specs.declared.kept.KeptLoad.{KeptLoad}
use Rattle.accept_rules.specs.Permissions.{Accepts, AcceptsPermitted}
use Rattle.session_rules.specs.declared.reason.Reason.{Reason}
use Rattle.session_rules.specs.declared.reason.Reason.TheVariants as reasons
use Rattle.session_rules.specs.declared.reason.RequestFault.{RequestFault}
use Rattle.session_rules.specs.Buffers.{Buffer, Sums, buffered, buffer_size, is_too_long, summed}
use Rattle.session_rules.proofs.BufferLemmas.{SumsJoin}
use Rattle.session_rules.proofs.KeptLemmas.{kept_same, types_same}
use Rattle.session_rules.specs.KeptLoads.{kept_entries, kept_loads, said_type, told_loads, types_in, types_of, with_kept}
use Rattle.session_rules.specs.NewConfigs.{AreGoodAfter, IsAsSaid, IsGoodLoad, IsWanted, file_read, files_in, kept_beside, reads_in}
use Rattle.session_rules.proofs.RowLemmas.{bytes_more, file_no_header, header_no_file}
use Rattle.session_rules.specs.Roles.{IsOfRow, RoleReads, ReadsNothing, RoleWrites}
use Rattle.session_rules.specs.Soundness.{AreFew, AreGoodLoads, IsGoodSoFar, IsNextWanted, IsSoundRow, IsSoundUpload, VerdictIsSound, files_of_open, told_at}
use Rattle.session_rules.specs.TargetRows.{Awaits_lur, Gives_denial, Gives_lci, Gives_lui, Kept_bytes, Kept_sums, Over, Reads_file, WholeRow, Writes_completion, Writes_lcl, Writes_lcs, Writes_progress, Writes_ready, Writes_stop, arriving_of, file_move, header_move, load_of, placed, placed_if, request_move, row_judged, row_move, row_moved, row_view, said_length, with_header}
use Rattle.session_rules.specs.Uploads.{Accepts_file, Accepts_header, Complete, Judgement, More_files, Next, Next_load, OpenLoad, OpenLoadView, Stops_for, Upload, UploadView, covered, covered_header, entry_name, files_of, header_name, header_reason, is_for, is_last, judge_file, judge_header, judge_read_header, judged, kept_after, load_reason, load_total, loads_at, need_of, next_entry, next_name, next_number, next_wanted, next_with, open_load_view, or_else, unless, upload_view}

-- Bytes that are read as a header spell it, which load_header promises of its format (`header_laws`).
abbrev pub HeadersAreSpelled : Type 0
HeadersAreSpelled = (bytes : List ℕ) (h : HeaderView) → IsBytes bytes → answer header bytes ≡ Ok h → HeaderSpells h bytes

-- ---- lists

zip_more : {A B : Type 0} (R : A → B → Type 0) (xs : List A) (ys : List B) (x : A) (y : B) → AllZip R xs ys → R x y → AllZip R (xs ++ x ∷ []) (ys ++ y ∷ [])
zip_more R [] [] x y all one = (one, tt)
zip_more R [] (b ∷ ys) x y all one = absurd all
zip_more R (a ∷ xs) [] x y all one = absurd all
zip_more R (a ∷ xs) (b ∷ ys) x y (first, rest) one = (first, zip_more R xs ys x y rest one)

zip_length : {A B : Type 0} (R : A → B → Type 0) (xs : List A) (ys : List B) → AllZip R xs ys → length xs ≡ length ys
zip_length R [] [] all = refl
zip_length R [] (b ∷ ys) all = absurd all
zip_length R (a ∷ xs) [] all = absurd all
zip_length R (a ∷ xs) (b ∷ ys) (first, rest) = ap suc (zip_length R xs ys rest)

empty_if : {A : Type 0} (xs : List A) → length xs ≤ 0 → xs ≡ []
empty_if [] le = refl
empty_if (x ∷ xs) le = absurd (omega arith)

abbrev some_or : {A : Type 0} → A → Option A → A
some_or d None = d
some_or d (Some x) = x

-- the member after those that were had is the first that is left
first_left : {A : Type 0} (had left : List A) (n : ℕ) (x : A) → length had ≡ n → slice_get (had ++ left) n ≡ Some x → (rest : List A) × (left ≡ x ∷ rest)
first_left {A} had left n x e found = by had (subst (λ (k : ℕ). slice_get (had ++ left) k ≡ Some x) (sym e) found)
  where
    ends : (left : List A) → slice_get left 0 ≡ Some x → (rest : List A) × (left ≡ x ∷ rest)
    ends [] f = absurd cc
    ends (y ∷ left) f = (left, ap (λ (z : A). z ∷ left) (ap (some_or x) f))

    by : (had : List A) → slice_get (had ++ left) (length had) ≡ Some x → (rest : List A) × (left ≡ x ∷ rest)
    by [] f = ends left f
    by (y ∷ had) f = by had f

-- ---- tests that were passed

both_none : (a b : Option Reason) → or_else a b ≡ None → (a ≡ None) × (b ≡ None)
both_none None b e = (refl, e)
both_none (Some r) b e = absurd cc

passes : (b : Bool) (r : Reason) → unless b r ≡ None → b ≡ true
passes true r e = refl
passes false r e = absurd cc

abbrev header_in : HeaderView → Judgement → HeaderView
header_in d (Accepts_header h next) = h
header_in d judgement = d

abbrev next_in : Judgement → Next
next_in (Accepts_header h next) = next
next_in (Accepts_file next) = next
next_in (Stops_for reason n) = More_files

-- what it means that this comes next, where the load has `files` of `all` files and `loads` of `request` loads are whole
abbrev NextMeans : (files all loads request : ℕ) → Next → Type 0
NextMeans files all loads request More_files = Unit {0}
NextMeans files all loads request Next_load = all ≤ files
NextMeans files all loads request Complete = (all ≤ files) × (request ≤ loads + 1)

next_means : (files all loads request : ℕ) (a b : Bool) (next : Next) → ltb files all ≡ a → ltb (loads + 1) request ≡ b → cond a More_files (cond b Next_load Complete) ≡ next → NextMeans files all loads request next
next_means files all loads request true b More_files f g e = tt
next_means files all loads request true b Next_load f g e = absurd cc
next_means files all loads request true b Complete f g e = absurd cc
next_means files all loads request false true More_files f g e = tt
next_means files all loads request false true Next_load f g e = ltb-false files all f
next_means files all loads request false true Complete f g e = absurd cc
next_means files all loads request false false More_files f g e = tt
next_means files all loads request false false Next_load f g e = absurd cc
next_means files all loads request false false Complete f g e = (ltb-false files all f, ltb-false (loads + 1) request g)

-- a load that is whole has the CRC-32 that its header says
abbrev HasLoadCrc : HeaderView → ℕ → Next → Type 0
HasLoadCrc h crc More_files = Unit {0}
HasLoadCrc h crc next = h.load_crc ≡ crc

has_load_crc : (h : HeaderView) (next : Next) (crc : ℕ) → load_reason h next crc ≡ None → HasLoadCrc h crc next
has_load_crc h More_files crc e = tt
has_load_crc h Next_load crc e = eqb-true h.load_crc crc (passes _ _ e)
has_load_crc h Complete crc e = eqb-true h.load_crc crc (passes _ _ e)

-- ---- loads

abbrev upload : List Wanted → List LoadView → Option OpenLoad → ℕ → Upload
upload request loads current reports = record { request = request; loads = loads; current = current; reports = reports }

abbrev open_load : Wanted → HeaderView → List ℕ → List FileView → OpenLoad
open_load wanted h bytes files = record { wanted = wanted; header = h; bytes = bytes; files = files }

abbrev file : (name bytes : List ℕ) → FileView
file name bytes = record { name = name; bytes = bytes }

-- the type ids with one load more
types_more : (loads : List LoadView) (l : OpenLoad) → types_in (loads ++ load_of l ∷ []) ≡ types_in loads ++ l.header.type_id ∷ []
types_more loads l = flat_map-append (λ (x : LoadView). said_type x.type_id) loads (load_of l ∷ [])

good_more : (A : HeaderView → List KeptLoad → Type 0) (active : StandingView) (before loads : List LoadView) (x : LoadView) → AreGoodAfter A active.identity (entries_of active.loads) before loads
    → IsGoodLoad A active.identity (kept_beside (entries_of active.loads) ((before ++ loads) ++ x ∷ [])) x → AreGoodAfter A active.identity (entries_of active.loads) before (loads ++ x ∷ [])
good_more A active before [] x all one =
    (subst (λ (ls : List LoadView). IsGoodLoad A active.identity (kept_beside (entries_of active.loads) (ls ++ x ∷ [])) x) (append-nil before) one, tt)
good_more A active before (l ∷ ls) x (first, rest) one = (
  first,
  good_more A active (before ++ l ∷ []) ls x rest
      (subst (λ (all : List LoadView). IsGoodLoad A active.identity (kept_beside (entries_of active.loads) (all ++ x ∷ [])) x) (sym (append_assoc before (l ∷ []) ls)) one),
)

-- a load that is whole is good beside what is kept after its header
whole_is_good : (accepts : Accepts) (active : StandingView) (loads : List LoadView) (l : OpenLoad) → AcceptsPermitted accepts → IsGoodSoFar accepts active loads l
    → length (files_of l.header) ≤ length l.files → l.header.load_crc ≡ crc32_of (covered l.bytes l.files)
    → IsGoodLoad (λ h kept. accepts h kept ≡ true) active.identity (kept_beside (entries_of active.loads) (loads ++ load_of l ∷ [])) (load_of l)
whole_is_good accepts active loads l permits g few crc =
    let sizes : length g.came ≡ length l.files = zip_length IsAsSaid g.came l.files g.each in
    let both : length (files_of l.header) ≡ length g.came + length g.left = ap length g.entries ∙ length-append g.came g.left in
    let none : g.left ≡ [] = empty_if g.left (omega arith) in
    let all : files_of l.header ≡ g.came = g.entries ∙ (ap (λ (x : List FileEntry). g.came ++ x) none ∙ append-nil g.came) in
    let told : told_at active loads l.header ≡ kept_beside (entries_of active.loads) (loads ++ load_of l ∷ []) =
    ap (λ (types : List ℕ). told_loads (kept_entries types (entries_of active.loads))) (sym (types_more loads l)) in
    let accepted : accepts l.header (kept_beside (entries_of active.loads) (loads ++ load_of l ∷ [])) ≡ true = subst (λ (kept : List KeptLoad). accepts l.header kept ≡ true) told g.accepted in
    record {
      header = l.header;
      bytes = l.bytes;
      files = l.files;
      spelled = g.spelled;
      part = sym g.part;
      type_id = refl;
      suits = g.suits;
      accepted = accepted;
      permitted = permits l.header (kept_beside (entries_of active.loads) (loads ++ load_of l ∷ [])) accepted;
      whole = refl;
      each = subst (λ (x : List FileEntry). AllZip IsAsSaid x l.files) (sym all) g.each;
      crc = sym crc;
    }

is_wanted : (l : OpenLoad) (wanted : Wanted) → l.wanted ≡ wanted → IsWanted wanted (load_of l)
is_wanted l wanted e = record { part = ap (λ (x : Wanted). x.part) e; header = ap (λ (x : Wanted). x.header) e }

files_more : (loads : List LoadView) (l : OpenLoad) → files_in (loads ++ load_of l ∷ []) ≡ files_in loads ++ files_of_open (Some l)
files_more loads l = flat_map-append (λ (x : LoadView). x.files) loads (load_of l ∷ []) ∙ ap (λ (x : List FileView). files_in loads ++ x) (append-nil (load_of l).files)

-- what is active then has 32 loads at most
few_then : (active : StandingView) (loads : List LoadView) (l : OpenLoad) (n : ℕ) → length loads + 1 ≤ n → n + length (kept_loads (types_in loads ++ l.header.type_id ∷ []) active.loads) ≤ 32
    → length (with_kept (loads ++ load_of l ∷ []) active.loads) ≤ 32
few_then active loads l n more total =
    let kept : kept_loads (types_in (loads ++ load_of l ∷ [])) active.loads ≡ kept_loads (types_in loads ++ l.header.type_id ∷ []) active.loads =
    ap (λ (types : List ℕ). kept_loads types active.loads) (types_more loads l) in
    omega (arith, more, total, ap length kept, length-append (loads ++ load_of l ∷ []) (kept_loads (types_in (loads ++ load_of l ∷ [])) active.loads), length-append loads (load_of l ∷ []))

placed_sound : (accepts : Accepts) (active : StandingView) (reads : List FileView) (u : Upload) (l : OpenLoad) (had left : List Wanted) (wanted : Wanted) → AcceptsPermitted accepts
    → u.request ≡ had ++ wanted ∷ left → AllZip IsWanted had u.loads → AreGoodLoads accepts active u.loads → l.wanted ≡ wanted → IsGoodSoFar accepts active u.loads l → AreFew active u.request u.loads (Some l)
    → files_in u.loads ++ files_of_open (Some l) ≡ reads
    → (next : Next) → HasLoadCrc l.header (crc32_of (covered l.bytes l.files)) next → NextMeans (length l.files) (length (files_of l.header)) (length u.loads) (length u.request) next
    → IsSoundRow accepts active reads (placed u l next)
placed_sound accepts active reads u l had left wanted permits request each good is so_far few files More_files crc means =
    record { had = had; left = wanted ∷ left; request = request; each = each; good = good; next = (is, so_far); few = few; files = files }
placed_sound accepts active reads u l had left wanted permits request each good is so_far few files Next_load crc came =
    record {
      had = had ++ wanted ∷ [];
      left = left;
      request = request ∙ sym (append_assoc had (wanted ∷ []) left);
      each = zip_more IsWanted had u.loads wanted (load_of l) each (is_wanted l wanted is);
      good = good_more (λ h kept. accepts h kept ≡ true) active [] u.loads (load_of l) good (whole_is_good accepts active u.loads l permits so_far came crc);
      next = tt;
      few = tt;
      files = append-nil _ ∙ (files_more u.loads l ∙ files);
    }
placed_sound accepts active reads u l had left wanted permits request each good is so_far few files Complete crc (came, last) =
    let sizes : length had ≡ length u.loads = zip_length IsWanted had u.loads each in
    let both : length u.request ≡ length had + suc (length left) = ap length request ∙ length-append had (wanted ∷ left) in
    let none : left ≡ [] = empty_if left (omega arith) in
    let asked : u.request ≡ had ++ wanted ∷ [] = request ∙ ap (λ (x : List Wanted). had ++ wanted ∷ x) none in
    record {
      each = subst (λ (x : List Wanted). AllZip IsWanted x (u.loads ++ load_of l ∷ [])) (sym asked) (zip_more IsWanted had u.loads wanted (load_of l) each (is_wanted l wanted is));
      files = files_more u.loads l ∙ files;
      good = good_more (λ h kept. accepts h kept ≡ true) active [] u.loads (load_of l) good (whole_is_good accepts active u.loads l permits so_far came crc);
      few = few_then active u.loads l (length u.request) (omega (arith, sizes, both)) (few last);
    }

-- ---- a header that was accepted

accepted_header : (reason : Option Reason) (n : ℕ) (g : HeaderView) (m : Next) (h : HeaderView) (next : Next) → judged reason n (Accepts_header g m) ≡ Accepts_header h next → (reason ≡ None) × (g ≡ h) × (m ≡ next)
accepted_header None n g m h next e = (refl, ap (header_in g) e, ap next_in e)
accepted_header (Some r) n g m h next e = absurd cc

-- what was tested of it
pub record HeaderTested (accepts : Accepts) (active : Outline) (u : UploadView) (wanted : Wanted) (b : Buffer) (h : HeaderView) (next : Next) : Type 0 where
  pub tests : header_reason accepts active u wanted h b.count ≡ None
  pub load : load_reason h (next_with u h 0) (crc32_of (covered_header b.prefix)) ≡ None
  pub next_is : next_with u h 0 ≡ next

read_tested : (accepts : Accepts) (active : Outline) (u : UploadView) (wanted : Wanted) (b : Buffer) (found : Result HeaderView HeaderFault) (h : HeaderView) (next : Next) → judge_read_header accepts active u wanted b found ≡ Accepts_header h next
    → (found ≡ Ok h) × HeaderTested accepts active u wanted b h next
read_tested accepts active u wanted b (Err fault) h next e = absurd cc
read_tested accepts active u wanted b (Ok g) h next e =
    let (passed, same, follows) = accepted_header _ _ g _ h next e in
    let both = both_none _ _ passed in
    (ap Ok same, subst (λ (x : HeaderView). HeaderTested accepts active u wanted b x next) same (record { tests = both.0; load = both.1; next_is = follows }))

short_read : (b : Bool) (reason : Reason) (n : ℕ) (other : Judgement) (h : HeaderView) (next : Next) → cond b (Stops_for reason n) other ≡ Accepts_header h next → (b ≡ false) × (other ≡ Accepts_header h next)
short_read true reason n other h next e = absurd cc
short_read false reason n other h next e = (refl, e)

header_tested : (accepts : Accepts) (active : Outline) (u : UploadView) (wanted : Wanted) (b : Buffer) (h : HeaderView) (next : Next) → judge_header accepts active u wanted b ≡ Accepts_header h next
    → (is_too_long b ≡ false) × (answer header b.prefix ≡ Ok h) × HeaderTested accepts active u wanted b h next
unfolding judge_header
header_tested accepts active u wanted b h next e =
    let (short, read) = short_read (is_too_long b) _ _ _ h next e in
    let (spelled, tests) = read_tested accepts active u wanted b (answer header b.prefix) h next read in
    (short, spelled, tests)

-- what is kept after a header, with and without contents
kept_is : (active : StandingView) (loads : List LoadView) (h : HeaderView)
    → kept_entries (types_of (entries_of loads) ++ h.type_id ∷ []) (entries_of active.loads) ≡ entries_of (kept_loads (types_in loads ++ h.type_id ∷ []) active.loads)
kept_is active loads h =
    ap (λ (types : List ℕ). kept_entries (types ++ h.type_id ∷ []) (entries_of active.loads)) (sym (types_same loads)) ∙ sym (kept_same (types_in loads ++ h.type_id ∷ []) active.loads)

header_is_good : (accepts : Accepts) (active : StandingView) (request : List Wanted) (loads : List LoadView) (reports : ℕ) (wanted : Wanted) (h : HeaderView) (bytes : List ℕ) (size : ℕ) → HeaderSpells h bytes
    → header_reason accepts (outline_of active) (upload_view (upload request loads None reports)) wanted h size ≡ None → IsGoodSoFar accepts active loads (open_load wanted h bytes [])
header_is_good accepts active request loads reports wanted h bytes size spelled e =
    let (part, rest) = both_none _ _ e in
    let (suits, later) = both_none _ _ rest in
    let (accepted, others) = both_none _ _ later in
    record {
      spelled = spelled;
      part = (bytes_eq-Decides h.part wanted.part).0 (passes _ _ part);
      suits = passes _ _ suits;
      accepted = subst (λ (types : List ℕ). accepts h (told_loads (kept_entries (types ++ h.type_id ∷ []) (entries_of active.loads))) ≡ true) (sym (types_same loads)) (passes _ _ accepted);
      came = [];
      left = files_of h;
      entries = refl;
      each = tt;
    }

few_by : (n m total : ℕ) → (not (not (nat_lt (n + 1) m)) || nat_le total 32) ≡ true → m ≤ n + 1 → total ≤ 32
few_by n m total tested last = grind (arith, nat_tests)

-- the test on the number of loads is the fourth of five
count_passed : (a b c d e : Option Reason) → or_else a (or_else b (or_else c (or_else d e))) ≡ None → d ≡ None
count_passed None None None None e passed = refl
count_passed None None None (Some r) e passed = absurd cc
count_passed None None (Some r) d e passed = absurd cc
count_passed None (Some r) c d e passed = absurd cc
count_passed (Some r) b c d e passed = absurd cc

header_is_few : (accepts : Accepts) (active : StandingView) (request : List Wanted) (loads : List LoadView) (reports : ℕ) (wanted : Wanted) (h : HeaderView) (bytes : List ℕ) (size : ℕ)
    → header_reason accepts (outline_of active) (upload_view (upload request loads None reports)) wanted h size ≡ None → AreFew active request loads (Some (open_load wanted h bytes []))
header_is_few accepts active request loads reports wanted h bytes size e last =
    let u = upload_view (upload request loads None reports) in
    let o = outline_of active in
    let kept = kept_entries (types_of (entries_of loads) ++ h.type_id ∷ []) (entries_of active.loads) in
    let count : unless (not (is_last u) || nat_le (load_total o u h) 32) (reasons.TooManyLoads (load_total o u h)) ≡ None = count_passed
    (unless (bytes_eq h.part wanted.part) reasons.PartDiffers)
    (unless (is_for active.identity.hw active.identity.pos h) reasons.NotThisHardware)
    (unless (accepts h (told_loads (kept_after o u h))) reasons.RuleRefused)
    (unless (not (is_last u) || nat_le (load_total o u h) 32) (reasons.TooManyLoads (load_total o u h)))
    (unless (nat_le (need_of (loads_at o u wanted h size)) active.identity.bank) (reasons.BankFull (need_of (loads_at o u wanted h size)) active.identity.bank)) e in
    let few : length request + length kept ≤ 32 = few_by (length (entries_of loads)) (length request) (length request + length kept)
    (passes (not (is_last u) || nat_le (load_total o u h) 32) (reasons.TooManyLoads (load_total o u h)) count) (omega (arith, last, length-map loads entry_of)) in
    omega (arith, few, ap length (kept_is active loads h), length-map (kept_loads (types_in loads ++ h.type_id ∷ []) active.loads) entry_of)

header_sound : HeadersAreSpelled → (accepts : Accepts) (active : StandingView) (reads : List FileView) (request : List Wanted) (loads : List LoadView) (reports : ℕ) (wanted : Wanted) (h : HeaderView) (name bytes : List ℕ) (next : Next)
    → AcceptsPermitted accepts → IsBytes bytes → name ≡ wanted.header → next_wanted (upload_view (upload request loads None reports)) ≡ Some wanted
    → judge_header accepts (outline_of active) (upload_view (upload request loads None reports)) wanted (buffered bytes) ≡ Accepts_header h next → IsSoundUpload accepts active reads (upload request loads None reports)
    → IsSoundRow accepts active (reads ++ file name bytes ∷ []) (placed (upload request loads None reports) (open_load wanted h bytes []) next)
header_sound spells accepts active reads request loads reports wanted h name bytes next permits fit named found judgement s =
    let u = upload_view (upload request loads None reports) in
    let (short, spelled, tests) = header_tested accepts (outline_of active) u wanted (buffered bytes) h next judgement in
    let whole : take buffer_size bytes ≡ bytes = take_all buffer_size bytes (ltb-false buffer_size (length bytes) short) in
    let sizes : length s.had ≡ length (entries_of loads) = zip_length IsWanted s.had loads s.each ∙ sym (length-map loads entry_of) in
    let (left, is) = first_left s.had s.left (length (entries_of loads)) wanted sizes (subst (λ (x : List Wanted). slice_get x (length (entries_of loads)) ≡ Some wanted) s.request found) in
    let spelling : HeaderSpells h bytes = spells bytes h fit (subst (λ (x : List ℕ). answer header x ≡ Ok h) whole spelled) in
    let crc : crc32_of (covered_header (take buffer_size bytes)) ≡ crc32_of (covered bytes []) = ap (λ (x : List ℕ). crc32_of (covered_header x)) whole ∙ ap crc32_of (sym (append-nil (covered_header bytes))) in
    let means : NextMeans 0 (length (files_of h)) (length (entries_of loads)) (length request) next = next_means 0 (length (files_of h)) (length (entries_of loads)) (length request) _ _ next refl refl tests.next_is in
    let files : files_in loads ++ file wanted.header bytes ∷ [] ≡ reads ++ file name bytes ∷ [] =
    ap (λ (x : List FileView). x ++ file wanted.header bytes ∷ []) (sym (append-nil (files_in loads)) ∙ s.files) ∙ ap (λ (x : List ℕ). reads ++ file x bytes ∷ []) (sym named) in
    placed_sound accepts active (reads ++ file name bytes ∷ []) (upload request loads None reports) (open_load wanted h bytes []) s.had left wanted permits (s.request ∙ ap (λ (x : List Wanted). s.had ++ x) is) s.each s.good refl
    (header_is_good accepts active request loads reports wanted h bytes (length bytes) spelling tests.tests) (header_is_few accepts active request loads reports wanted h bytes (length bytes) tests.tests) files next
    (subst (λ (x : Next). HasLoadCrc h (crc32_of (covered bytes [])) x) tests.next_is (subst (λ (x : ℕ). HasLoadCrc h x (next_with u h 0)) crc (has_load_crc h (next_with u h 0) _ tests.load)))
    (subst (λ (x : ℕ). NextMeans 0 (length (files_of h)) x (length request) next) (length-map loads entry_of) means)

-- ---- a data or support file that was accepted

accepted_file : (reason : Option Reason) (n : ℕ) (m next : Next) → judged reason n (Accepts_file m) ≡ Accepts_file next → (reason ≡ None) × (m ≡ next)
accepted_file None n m next e = (refl, ap next_in e)
accepted_file (Some r) n m next e = absurd cc

-- what was tested of it
pub record FileTested (u : UploadView) (l : OpenLoadView) (entry : FileEntry) (s : Sums) (next : Next) : Type 0 where
  pub size : s.count ≡ entry.length
  pub crc : s.crc16 ≡ entry.crc16
  pub load : load_reason l.header (next_with u l.header (next_number l)) s.load_crc ≡ None
  pub next_is : next_with u l.header (next_number l) ≡ next

file_tested : (u : UploadView) (l : OpenLoadView) (entry : FileEntry) (s : Sums) (next : Next) → judge_file u l entry s ≡ Accepts_file next → FileTested u l entry s next
unfolding judge_file
file_tested u l entry s next e =
    let (passed, follows) = accepted_file _ _ _ next e in
    let (tests, load) = both_none _ _ passed in
    let (size, crc) = both_none _ _ tests in
    record { size = eqb-true s.count entry.length (passes _ _ size); crc = eqb-true s.crc16 entry.crc16 (passes _ _ crc); load = load; next_is = follows }

covered_more : SumsJoin → (head : List ℕ) (files : List FileView) (name bytes : List ℕ) → crc32_after (crc32_of (covered head files)) bytes ≡ crc32_of (covered head (files ++ file name bytes ∷ []))
covered_more joins head files name bytes =
    joins.crc32 (covered head files) bytes ∙ ap crc32_of (append_assoc (covered_header head) (bytes_of files) bytes ∙ ap (λ (x : List ℕ). covered_header head ++ x) (sym (bytes_more files name bytes)))

file_is_good : (accepts : Accepts) (active : StandingView) (loads : List LoadView) (wanted : Wanted) (h : HeaderView) (head : List ℕ) (files : List FileView) (entry : FileEntry) (left : List FileEntry) (name bytes : List ℕ) (g : IsGoodSoFar accepts active loads (open_load wanted h head files))
    → g.left ≡ entry ∷ left → name ≡ entry.name → length bytes ≡ entry.length → crc16_of bytes ≡ entry.crc16 → IsGoodSoFar accepts active loads (open_load wanted h head (files ++ file name bytes ∷ []))
file_is_good accepts active loads wanted h head files entry left name bytes g is named size crc = record {
  spelled = g.spelled;
  part = g.part;
  suits = g.suits;
  accepted = g.accepted;
  came = g.came ++ entry ∷ [];
  left = left;
  entries = g.entries ∙ (ap (λ (x : List FileEntry). g.came ++ x) is ∙ sym (append_assoc g.came (entry ∷ []) left));
  each = zip_more IsAsSaid g.came files entry (file name bytes) g.each (record { name = named; size = size; crc = crc });
}

file_sound : SumsJoin → (accepts : Accepts) (active : StandingView) (reads : List FileView) (request : List Wanted) (loads : List LoadView) (reports : ℕ) (wanted : Wanted) (h : HeaderView) (head : List ℕ) (files : List FileView) (entry : FileEntry) (read name bytes : List ℕ) (next : Next) (had left : List Wanted)
    → AcceptsPermitted accepts → read ≡ name → name ≡ entry.name → next_entry (open_load_view (open_load wanted h head files)) ≡ Some entry
    → judge_file (upload_view (upload request loads (Some (open_load wanted h head files)) reports)) (open_load_view (open_load wanted h head files)) entry (summed entry.length (crc32_of (covered head files)) bytes) ≡ Accepts_file next
    → request ≡ had ++ wanted ∷ left → AllZip IsWanted had loads → AreGoodLoads accepts active loads → IsGoodSoFar accepts active loads (open_load wanted h head files)
    → AreFew active request loads (Some (open_load wanted h head files)) → files_in loads ++ files_of_open (Some (open_load wanted h head files)) ≡ reads
    → IsSoundRow accepts active (reads ++ file read bytes ∷ []) (placed (upload request loads (Some (open_load wanted h head files)) reports) (open_load wanted h head (files ++ file name bytes ∷ [])) next)
file_sound joins accepts active reads request loads reports wanted h head files entry read name bytes next had left permits same named found judgement asked each good g few all =
    let u = upload_view (upload request loads (Some (open_load wanted h head files)) reports) in
    let tests = file_tested u (open_load_view (open_load wanted h head files)) entry (summed entry.length (crc32_of (covered head files)) bytes) next judgement in
    let whole : take entry.length bytes ≡ bytes = take_all entry.length bytes (let size : length bytes ≡ entry.length = tests.size in omega arith) in
    let sizes : length g.came ≡ length (map file_entry_of files) = zip_length IsAsSaid g.came files g.each ∙ sym (length-map files file_entry_of) in
    let (rest, is) = first_left g.came g.left (length (map file_entry_of files)) entry sizes (subst (λ (x : List FileEntry). slice_get x (length (map file_entry_of files)) ≡ Some entry) g.entries found) in
    let now = file_is_good accepts active loads wanted h head files entry rest name bytes g is named tests.size (ap crc16_of (sym whole) ∙ tests.crc) in
    let crc : crc32_after (crc32_of (covered head files)) (take entry.length bytes) ≡ crc32_of (covered head (files ++ file name bytes ∷ [])) =
    ap (λ (x : List ℕ). crc32_after (crc32_of (covered head files)) x) whole ∙ covered_more joins head files name bytes in
    let count : length (map file_entry_of files) + 1 ≡ length (files ++ file name bytes ∷ []) = ap (λ (n : ℕ). n + 1) (length-map files file_entry_of) ∙ sym (length-append files (file name bytes ∷ [])) in
    let means : NextMeans (length (map file_entry_of files) + 1) (length (files_of h)) (length (entries_of loads)) (length request) next =
    next_means (length (map file_entry_of files) + 1) (length (files_of h)) (length (entries_of loads)) (length request) _ _ next refl refl tests.next_is in
    let read_all : files_in loads ++ files_of_open (Some (open_load wanted h head (files ++ file name bytes ∷ []))) ≡ reads ++ file read bytes ∷ [] =
    sym (append_assoc (files_in loads) (files_of_open (Some (open_load wanted h head files))) (file name bytes ∷ [])) ∙ (ap (λ (x : List FileView). x ++ file name bytes ∷ []) all ∙ ap (λ (x : List ℕ). reads ++ file x bytes ∷ []) (sym same)) in
    placed_sound accepts active (reads ++ file read bytes ∷ []) (upload request loads (Some (open_load wanted h head files)) reports) (open_load wanted h head (files ++ file name bytes ∷ [])) had left wanted permits asked each good refl now few read_all next
    (subst (λ (x : Next). HasLoadCrc h (crc32_of (covered head (files ++ file name bytes ∷ []))) x) tests.next_is
    (subst (λ (x : ℕ). HasLoadCrc h x (next_with u h (length (map file_entry_of files) + 1))) crc (has_load_crc h (next_with u h (length (map file_entry_of files) + 1)) _ tests.load)))
    (subst (λ (x : ℕ). NextMeans (length (files ++ file name bytes ∷ [])) (length (files_of h)) x (length request) next) (length-map loads entry_of)
    (subst (λ (x : ℕ). NextMeans x (length (files_of h)) (length (entries_of loads)) (length request) next) count means))

-- ---- what was read

abbrev is_read : Transfer → Bool
is_read t = is_reading t.role

reads_same : (done : List Transfer) (t : Transfer) → is_reading t.role ≡ false → reads_in (done ++ t ∷ []) ≡ reads_in done
reads_same done t e = ap (map file_read) (filter-append is_read done (t ∷ [])) ∙ (map-append file_read (filter is_read done) (filter is_read (t ∷ [])) ∙ rw e (append-nil (reads_in done)))

reads_more : (done : List Transfer) (t : Transfer) → is_reading t.role ≡ true → reads_in (done ++ t ∷ []) ≡ reads_in done ++ file_read t ∷ []
reads_more done t e = ap (map file_read) (filter-append is_read done (t ∷ [])) ∙ (map-append file_read (filter is_read done) (filter is_read (t ∷ [])) ∙ rw e refl)

no_read : (role : Role) → ReadsNothing role → is_reading role ≡ false
no_read (Reads name o) h = absurd h
no_read (Writes name o f) h = refl
no_read (ServesRead name o f) h = refl
no_read (ServesWrite name o) h = refl

written_no_read : (role : Role) → RoleWrites role → is_reading role ≡ false
written_no_read (Writes name o f) h = refl
written_no_read (Reads name o) h = absurd h
written_no_read (ServesRead name o f) h = absurd h
written_no_read (ServesWrite name o) h = absurd h

-- ---- row by row

asked_sound : (accepts : Accepts) (active : StandingView) (reads : List FileView) (bytes : List ℕ) (found : Result (List Wanted) RequestFault) → reads ≡ [] → IsSoundRow accepts active reads (row_moved Awaits_lur bytes (request_move found))
asked_sound accepts active reads bytes (Ok loads) none = record { had = []; left = loads; request = refl; each = tt; good = tt; next = tt; few = tt; files = sym none }
asked_sound accepts active reads bytes (Err fault) none = tt

header_by : HeadersAreSpelled → (accepts : Accepts) (active : StandingView) (reads : List FileView) (request : List Wanted) (loads : List LoadView) (reports : ℕ) (wanted : Wanted) (name bytes : List ℕ) (judgement : Judgement)
    → AcceptsPermitted accepts → IsBytes bytes → name ≡ wanted.header → next_wanted (upload_view (upload request loads None reports)) ≡ Some wanted
    → judge_header accepts (outline_of active) (upload_view (upload request loads None reports)) wanted (buffered bytes) ≡ judgement → IsSoundUpload accepts active reads (upload request loads None reports)
    → IsSoundRow accepts active (reads ++ file name bytes ∷ []) (row_judged (upload request loads None reports) bytes judgement)
header_by spells accepts active reads request loads reports wanted name bytes (Stops_for r n) permits fit named found e s = tt
header_by spells accepts active reads request loads reports wanted name bytes (Accepts_header h next) permits fit named found e s =
    subst (λ (x : Option Wanted). IsSoundRow accepts active (reads ++ file name bytes ∷ []) (placed_if (upload request loads None reports) (with_header x h bytes) next)) (sym found)
    (header_sound spells accepts active reads request loads reports wanted h name bytes next permits fit named found e s)
header_by spells accepts active reads request loads reports wanted name bytes (Accepts_file next) permits fit named found e s =
    absurd (header_no_file accepts (outline_of active) (upload_view (upload request loads None reports)) wanted (buffered bytes) next e)

header_row : HeadersAreSpelled → (accepts : Accepts) (active : StandingView) (reads : List FileView) (request : List Wanted) (loads : List LoadView) (reports : ℕ) (name bytes : List ℕ) (found : Option Wanted)
    → AcceptsPermitted accepts → IsBytes bytes → name ≡ next_name (upload_view (upload request loads None reports)) → next_wanted (upload_view (upload request loads None reports)) ≡ found → IsSoundUpload accepts active reads (upload request loads None reports)
    → IsSoundRow accepts active (reads ++ file name bytes ∷ []) (row_moved (Reads_file (upload request loads None reports)) bytes (header_move accepts (outline_of active) (upload_view (upload request loads None reports)) found (Kept_bytes (buffered bytes))))
header_row spells accepts active reads request loads reports name bytes None permits fit named e s = tt
header_row spells accepts active reads request loads reports name bytes (Some wanted) permits fit named e s =
    header_by spells accepts active reads request loads reports wanted name bytes _ permits fit (named ∙ ap header_name e) e refl s

file_by : SumsJoin → (accepts : Accepts) (active : StandingView) (reads : List FileView) (request : List Wanted) (loads : List LoadView) (l : OpenLoad) (reports : ℕ) (entry : FileEntry) (name bytes : List ℕ) (judgement : Judgement) (had left : List Wanted)
    → AcceptsPermitted accepts → name ≡ next_name (upload_view (upload request loads (Some l) reports)) → next_entry (open_load_view l) ≡ Some entry
    → judge_file (upload_view (upload request loads (Some l) reports)) (open_load_view l) entry (summed entry.length (open_load_view l).crc bytes) ≡ judgement
    → request ≡ had ++ left → AllZip IsWanted had loads → AreGoodLoads accepts active loads → IsNextWanted accepts active loads left (Some l) → AreFew active request loads (Some l) → files_in loads ++ files_of_open (Some l) ≡ reads
    → IsSoundRow accepts active (reads ++ file name bytes ∷ []) (row_judged (upload request loads (Some l) reports) bytes judgement)
file_by joins accepts active reads request loads l reports entry name bytes (Stops_for r n) had left permits named found e asked each good next few all = tt
file_by joins accepts active reads request loads l reports entry name bytes (Accepts_header h m) had left permits named found e asked each good next few all = absurd (file_no_header _ _ entry _ h m e)
file_by joins accepts active reads request loads l reports entry name bytes (Accepts_file m) had [] permits named found e asked each good next few all = absurd next
file_by joins accepts active reads request loads l reports entry name bytes (Accepts_file m) had (wanted ∷ left) permits named found e asked each good (is, so_far) few all =
    file_sound joins accepts active reads request loads reports l.wanted l.header l.bytes l.files entry name (next_name (upload_view (upload request loads (Some l) reports))) bytes m had left permits named (ap entry_name found) found e
    (asked ∙ ap (λ (x : Wanted). had ++ x ∷ left) (sym is)) each good so_far few all

file_row : SumsJoin → (accepts : Accepts) (active : StandingView) (reads : List FileView) (request : List Wanted) (loads : List LoadView) (l : OpenLoad) (reports : ℕ) (name bytes : List ℕ) (found : Option FileEntry)
    → AcceptsPermitted accepts → name ≡ next_name (upload_view (upload request loads (Some l) reports)) → next_entry (open_load_view l) ≡ found → IsSoundUpload accepts active reads (upload request loads (Some l) reports)
    → IsSoundRow accepts active (reads ++ file name bytes ∷ [])
    (row_moved (Reads_file (upload request loads (Some l) reports)) bytes (file_move (upload_view (upload request loads (Some l) reports)) (open_load_view l) found (Kept_sums (summed (said_length found) (open_load_view l).crc bytes))))
file_row joins accepts active reads request loads l reports name bytes None permits named e s = tt
file_row joins accepts active reads request loads l reports name bytes (Some f) permits named e s =
    file_by joins accepts active reads request loads l reports f name bytes _ s.had s.left permits named e refl s.request s.each s.good s.next s.few s.files

abbrev Moved : Accepts → (active : StandingView) → WholeRow → List FileView → List ℕ → Option ℕ → Type 0
Moved accepts active row reads bytes error = IsSoundRow accepts active reads (row_moved row bytes (row_move accepts (outline_of active) (row_view row) (record { error = error; arriving = arriving_of (row_view row) bytes })))

read_row : SumsJoin → HeadersAreSpelled → (accepts : Accepts) (active : StandingView) (reads : List FileView) (request : List Wanted) (loads : List LoadView) (current : Option OpenLoad) (reports : ℕ) (name bytes : List ℕ)
    → AcceptsPermitted accepts → IsBytes bytes → name ≡ next_name (upload_view (upload request loads current reports)) → IsSoundUpload accepts active reads (upload request loads current reports)
    → Moved accepts active (Reads_file (upload request loads current reports)) (reads ++ file name bytes ∷ []) bytes None
read_row joins spells accepts active reads request loads None reports name bytes permits fit named s =
    header_row spells accepts active reads request loads reports name bytes (next_wanted (upload_view (upload request loads None reports))) permits fit named refl s
read_row joins spells accepts active reads request loads (Some l) reports name bytes permits fit named s =
    file_row joins accepts active reads request loads l reports name bytes (next_entry (open_load_view l)) permits named refl s

abbrev transfer : Role → ℕ → Option ℕ → List PacketView → Transfer
transfer role own peer got = record { role = role; own = own; peer = peer; got = got }

role_row : SumsJoin → HeadersAreSpelled → (accepts : Accepts) (active : StandingView) (u : Upload) (done : List Transfer) (role : Role) (own : ℕ) (peer : Option ℕ) (got : List PacketView)
    → AcceptsPermitted accepts → IsBytes (arrived_of (transfer role own peer got)) → RoleReads (next_name (upload_view u)) role → IsSoundUpload accepts active (reads_in done) u
    → Moved accepts active (Reads_file u) (reads_in (done ++ transfer role own peer got ∷ [])) (arrived_of (transfer role own peer got)) None
role_row joins spells accepts active u done (Reads name o) own peer got permits fit named s =
    subst (λ (x : List FileView). Moved accepts active (Reads_file u) x (arrived_of (transfer (Reads name o) own peer got)) None) (sym (reads_more done (transfer (Reads name o) own peer got) refl))
    (read_row joins spells accepts active (reads_in done) u.request u.loads u.current u.reports name (arrived_of (transfer (Reads name o) own peer got)) permits fit named s)
role_row joins spells accepts active u done (Writes name o f) own peer got permits fit named s = absurd named
role_row joins spells accepts active u done (ServesRead name o f) own peer got permits fit named s = absurd named
role_row joins spells accepts active u done (ServesWrite name o) own peer got permits fit named s = absurd named

row_sound : SumsJoin → HeadersAreSpelled → (accepts : Accepts) (active : StandingView) (row : WholeRow) (done : List Transfer) (t : Transfer)
    → AcceptsPermitted accepts → IsBytes (arrived_of t) → IsOfRow row t.role → IsSoundRow accepts active (reads_in done) row → Moved accepts active row (reads_in (done ++ t ∷ [])) (arrived_of t) None
row_sound joins spells accepts active (Reads_file u) done t permits fit of_row s = role_row joins spells accepts active u done t.role t.own t.peer t.got permits fit of_row s
row_sound joins spells accepts active Awaits_lur done t permits fit of_row s = asked_sound accepts active (reads_in (done ++ t ∷ [])) (arrived_of t) _ (reads_same done t (no_read t.role of_row) ∙ s)
row_sound joins spells accepts active Gives_lci done t permits fit of_row s = reads_same done t (no_read t.role of_row) ∙ s
row_sound joins spells accepts active Writes_lcs done t permits fit of_row s = reads_same done t (no_read t.role of_row) ∙ s
row_sound joins spells accepts active Writes_lcl done t permits fit of_row s = tt
row_sound joins spells accepts active Gives_lui done t permits fit of_row s = reads_same done t (no_read t.role of_row) ∙ s
row_sound joins spells accepts active Gives_denial done t permits fit of_row s = tt
row_sound joins spells accepts active Writes_ready done t permits fit of_row s = reads_same done t (no_read t.role of_row) ∙ s
row_sound joins spells accepts active (Writes_progress u) done t permits fit of_row s = subst (λ (x : List FileView). IsSoundUpload accepts active x u) (sym (reads_same done t (written_no_read t.role of_row))) s
row_sound joins spells accepts active (Writes_stop e) done t permits fit of_row s = tt
row_sound joins spells accepts active (Writes_completion e loads) done t permits fit of_row s = tt
row_sound joins spells accepts active Over done t permits fit of_row s = tt

pub verdict_is_sound : SumsJoin → HeadersAreSpelled → VerdictIsSound
verdict_is_sound joins spells accepts active row done t permits fit none of_row s =
    subst (λ (x : Option ℕ). Moved accepts active row (reads_in (done ++ t ∷ [])) (arrived_of t) x) (sym none) (row_sound joins spells accepts active row done t permits fit of_row s)

-- ---- headers that are read

module _ {F A : Type 0} (g : Grammar F A) (bytes : List ℕ) where
  value_is : (x y : A) (r : Result A F) → r ≡ Ok x → r ≡ Ok y → x ≡ y
  value_is x y r e d = cc

  value_or_fault : (x : A) (f : F) → ◌≡◌ {A = Result A F} (Ok x) (Err f) → ⊥
  value_or_fault x f e = cc

  -- bytes that are read as a value spell it
  pub read_is_spelled : (x : A) → ((v : A) × Spelled g bytes v) ⊎ ((fault : F) × Fault g bytes fault) → answer g bytes ≡ Ok x → Spelled g bytes x
  read_is_spelled x (inl (v, spelled)) e =
      subst (λ (y : A). Spelled g bytes y) (value_is v x (answer g bytes) (answer-spelled g bytes v (spelled_at_start g bytes v spelled)) e) spelled
  read_is_spelled x (inr (fault, faulty)) e = absurd (value_or_fault x fault (sym e ∙ answer-fault g bytes fault faulty))

pub headers_are_spelled : ((bytes : List ℕ) → IsBytes bytes → IsDecided header bytes) → ((h : HeaderView) (bytes : List ℕ) → Spelled header bytes h ↔ HeaderSpells h bytes) → HeadersAreSpelled
headers_are_spelled decided spells bytes h fit e = (spells h bytes).0 (read_is_spelled header bytes h (decided bytes fit).one_or_other e)
