-- What the end of a file leaves of an upload with all contents.
use Rattle.std.proofs.Common.{◌≡◌, ℕ, ◌+◌, ◌≤◌, List, [], ◌∷◌, ◌++◌, Bool, true, false, nat_lt, length, map, take, Option, Some, None, Result, Ok, Err, OnOk, refl, sym, ap, subst, ◌∙◌, arith, append-nil, if◌then◌else◌}
use Rattle.std.proofs.lemmas.Bool.{ltb-false}
use Rattle.std.proofs.lemmas.List.{map-append}
use Rattle.std.proofs.lemmas.List.Concat.{flat_map-append}
use Rattle.std.proofs.lemmas.List.Elements.{All-append, All-cons, All-head, All-nil, All-tail}
use Rattle.std.proofs.Math.Seq.{take-nil}
use Rattle.load_base.specs.Config.{FileView, LoadView}
use Rattle.disk_model.specs.State.{DiskState}
use Rattle.disk_layout.specs.Contents.{HeaderIsFirst, HeadersAreFirst, entries_of}
use Rattle.disk_layout.specs.Manifest.{LoadEntry}
use Rattle.session_rules.proofs.KeptLemmas.{types_same}
use Rattle.session_rules.specs.KeptLoads.{said_type, types_in, types_of}
use Rattle.disk_layout.specs.Holds.{StandingView}
use Rattle.load_header.specs.Header.{HeaderView}
use Rattle.load_protocol_files.specs.declared.lur.Wanted.{Wanted}
use Rattle.bank_store.specs.declared.store.Store.{Store}
use Rattle.bank_store.specs.Given.{Given, GivenLoad, HasGiven, file_to_last, loads_of, with_bytes, with_file, with_load}
use Rattle.bank_store.specs.Given as Given
use Rattle.bank_store.specs.Keeps.{Continues}
use Rattle.session_rules.specs.TargetLog.{standing_after}
use Rattle.session_rules.specs.TargetRows.{Arriving, Over, Reads_file, RowMove, WholeRow, Writes_stop, Passes, Requests, Refuses_request, Judges, Breaks_off, UploadEnd, load_entry_of, load_of, placed, placed_view, placed_view_if, row_judged, row_moved, said_length, view_judged, view_moved, with_file_view, with_header_view}
use Rattle.session_rules.specs.Uploads.{Accepts_file, Accepts_header, Complete, Judgement, More_files, Next, Next_load, OpenLoad, OpenLoadView, Stops_for, Upload, UploadView, files_of, next_entry, next_name, next_wanted, next_with, open_load_view}
use Rattle.load_intake.specs.declared.down.Down.{Down}
use Rattle.load_intake.specs.Contents.{BringsRow, BringsTo, GivesContents, GoesTo, InstallsRow, IsGiven, active_next, given_load, given_of, given_open}
use Rattle.load_intake.proofs.ContentLemmas.{adds_nothing, adds_old, beside_continued, both_add}

-- ---- a file is refused

placed_goes_on : (u : UploadView) (l : OpenLoadView) (next : Next) (e : UploadEnd) → Writes_stop e ≡ placed_view u l next → ⊥
placed_goes_on u l More_files e is = cc
placed_goes_on u l Next_load e is = cc
placed_goes_on u l Complete e is = cc

placed_if_goes_on : (u : UploadView) (l : Option OpenLoadView) (next : Next) (e : UploadEnd) → Writes_stop e ≡ placed_view_if u l next → ⊥
placed_if_goes_on u None next e is = cc
placed_if_goes_on u (Some l) next e is = placed_goes_on u l next e is

-- where the row that is kept stops, so does the whole one
pub judged_stops : (u : Upload) (v : UploadView) (bytes : List ℕ) (arriving : Arriving) (j : Judgement) (e : UploadEnd) → Writes_stop e ≡ view_judged v arriving j → (x : UploadEnd) × (row_judged u bytes j ≡ Writes_stop x)
judged_stops u v bytes arriving (Stops_for reason n) e is = (_, refl)
judged_stops u v bytes arriving (Accepts_header h next) e is = absurd (placed_if_goes_on v (with_header_view (next_wanted v) h arriving) next e is)
judged_stops u v bytes arriving (Accepts_file next) e is = absurd (placed_if_goes_on v (with_file_view v.current (next_name v) arriving) next e is)

pub stops : (u : Upload) (v : UploadView) (arrived : List ℕ) (arriving : Arriving) (m : RowMove) (e : UploadEnd) → Writes_stop e ≡ view_moved (Reads_file v) arriving m → (x : UploadEnd) × (row_moved (Reads_file u) arrived m ≡ Writes_stop x)
stops u v arrived arriving Passes e is = absurd cc
stops u v arrived arriving (Requests loads) e is = absurd cc
stops u v arrived arriving (Refuses_request fault) e is = (_, refl)
stops u v arrived arriving (Judges j) e is = judged_stops u v arrived arriving j e is
stops u v arrived arriving Breaks_off e is = absurd cc

pub brings_stop : {T : Type 0} (before after : Store) (disk : DiskState) (s : StandingView) (u : Upload) (arrived : List ℕ) (row : WholeRow) (f : T) → (x : UploadEnd) × (row ≡ Writes_stop x) → Continues before after → InstallsRow before disk s (Reads_file u) arrived
    → BringsRow {E = Down} disk after disk s row (Ok f)
brings_stop before after disk s u arrived row f (x, is) c installs = rw is (record { adds = adds_nothing disk _ _; ok = record { beside = beside_continued before after disk s c installs.beside; holds = tt } })

-- or only after a call that was answered
pub brings_stop_after : {S T : Type 0} (old : DiskState) (mid after : Store) (new : DiskState) (s : StandingView) (g : Given) (row : WholeRow) (x : S) (f : T) → (e : UploadEnd) × (row ≡ Writes_stop e) → GivesContents {E = Down} old mid new s g (Ok x) → Continues mid after
    → BringsRow {E = Down} old after new s row (Ok f)
brings_stop_after old mid after new s g row x f (e, is) gives c = rw is (record { adds = adds_old old new s s gives.adds; ok = record { beside = beside_continued mid after new s c gives.ok.beside; holds = tt } })

-- or memory failed before a call of the disk
pub brings_nothing : {T : Type 0} (after : Store) (disk : DiskState) (s : StandingView) (row : WholeRow) (e : Down) → BringsRow {T = T} disk after disk s row (Err e)
brings_nothing after disk s row e = record { adds = adds_nothing disk _ _; ok = tt }

-- ---- a file is accepted

-- an upload in which this load is open
abbrev pub with_open : Upload → OpenLoad → Upload
with_open u l = record { request = u.request; loads = u.loads; current = Some l; reports = u.reports }

file_to_end : (loads : List GivenLoad) (l : GivenLoad) (file : FileView) → file_to_last file (loads ++ l ∷ []) ≡ loads ++ record { part = l.part; type_id = l.type_id; announced = l.announced; files = l.files ++ file ∷ [] } ∷ []
file_to_end [] l file = refl
file_to_end (x ∷ []) l file = refl
file_to_end (x ∷ y ∷ loads) l file = ap (λ (ls : List GivenLoad). x ∷ ls) (file_to_end (y ∷ loads) l file)

abbrev given : List GivenLoad → List ℕ → Given
given loads bytes = record { loads = loads; bytes = bytes }

-- a load with its header
abbrev pub header_open : Wanted → HeaderView → List ℕ → OpenLoad
header_open wanted h bytes = record { wanted = wanted; header = h; bytes = bytes; files = [] }

-- and with one file more
abbrev pub file_open : OpenLoad → (name bytes : List ℕ) → OpenLoad
file_open l name bytes = record { wanted = l.wanted; header = l.header; bytes = l.bytes; files = l.files ++ record { name = name; bytes = bytes } ∷ [] }

pub given_header : (request : List Wanted) (loads : List LoadView) (reports : ℕ) (wanted : Wanted) (h : HeaderView) (bytes arrived : List ℕ)
    → with_file wanted.header (with_bytes bytes (with_load wanted.part h.type_id (length (files_of h) + 1) (given_of (record { request = request; loads = loads; current = None; reports = reports }) arrived)))
    ≡ given_of (record { request = request; loads = loads; current = Some (header_open wanted h bytes); reports = reports }) []
given_header request loads reports wanted h bytes arrived =
    let l = header_open wanted h bytes in
    ap (λ (ls : List GivenLoad). given ls []) (
    file_to_end (map given_load loads ++ []) (record { part = wanted.part; type_id = Some h.type_id; announced = length (files_of h) + 1; files = [] }) (record { name = wanted.header; bytes = bytes })
    ∙ ap (λ (ls : List GivenLoad). ls ++ given_open l ∷ []) (append-nil (map given_load loads))
    )
    ∙ ap (λ (bytes : List ℕ). given (map given_load loads ++ given_open l ∷ []) bytes) (sym (take-nil (said_length (next_entry (open_load_view l)))))

pub given_file : (request : List Wanted) (loads : List LoadView) (l : OpenLoad) (reports : ℕ) (name bytes : List ℕ) → take (said_length (next_entry (open_load_view l))) bytes ≡ bytes
    → with_file name (given_of (record { request = request; loads = loads; current = Some l; reports = reports }) bytes) ≡ given_of (record { request = request; loads = loads; current = Some (file_open l name bytes); reports = reports }) []
given_file request loads l reports name bytes whole =
    let one = file_open l name bytes in
    ap (λ (ls : List GivenLoad). given ls []) (
    file_to_end (map given_load loads) (given_open l) (record { name = name; bytes = take (said_length (next_entry (open_load_view l))) bytes })
    ∙ ap (λ (b : List ℕ). map given_load loads ++ record { part = l.wanted.part; type_id = Some l.header.type_id; announced = length (files_of l.header) + 1; files = (record { name = l.wanted.header; bytes = l.bytes } ∷ l.files) ++ record { name = name; bytes = b } ∷ [] } ∷ []) whole
    )
    ∙ ap (λ (b : List ℕ). given (map given_load loads ++ given_open one ∷ []) b) (sym (take-nil (said_length (next_entry (open_load_view one)))))

-- ---- and the upload goes on, or is installed

-- the load is whole, or has more files
abbrev pub IsWholeIn : OpenLoad → Next → Type 0
IsWholeIn l More_files = Unit {0}
IsWholeIn l next = length l.files ≡ length (files_of l.header)

pub whole_in : (u : UploadView) (h : HeaderView) (l : OpenLoad) (n : ℕ) (next : Next) → next ≡ next_with u h n → h ≡ l.header → n ≡ length l.files → n ≤ length (files_of h) → IsWholeIn l next
whole_in u h l n next is same count within = rw is (by_more (nat_lt n (length (files_of h))) (nat_lt (length u.loads + 1) (length u.request)) refl)
  where
    by_more : (more another : Bool) → nat_lt n (length (files_of h)) ≡ more → IsWholeIn l (if more then More_files else if another then Next_load else Complete)
    by_more true another e = tt
    by_more false true e = omega (arith, ltb-false n (length (files_of h)) e, within, count, ap (λ (x : HeaderView). length (files_of x)) same)
    by_more false false e = omega (arith, ltb-false n (length (files_of h)) e, within, count, ap (λ (x : HeaderView). length (files_of x)) same)

abbrev announcing : OpenLoad → ℕ → GivenLoad
announcing l n = record { part = l.wanted.part; type_id = Some l.header.type_id; announced = n; files = record { name = l.wanted.header; bytes = l.bytes } ∷ l.files }

given_whole : (l : OpenLoad) → length l.files ≡ length (files_of l.header) → given_open l ≡ given_load (load_of l)
given_whole l all =
    let same : length (files_of l.header) + 1 ≡ length (load_of l).files = omega (arith, all) in
    ap (announcing l) same

given_between : (u : Upload) (l : OpenLoad) → length l.files ≡ length (files_of l.header)
    → given_of (with_open u l) [] ≡ given_of (record { request = u.request; loads = u.loads ++ load_of l ∷ []; current = None; reports = u.reports + 1 }) []
given_between u l all =
    ap (λ (b : List ℕ). given (map given_load u.loads ++ given_open l ∷ []) b) (take-nil (said_length (next_entry (open_load_view l))))
    ∙ ap (λ (ls : List GivenLoad). given ls []) (
    ap (λ (x : GivenLoad). map given_load u.loads ++ x ∷ []) (given_whole l all)
    ∙ (sym (map-append given_load u.loads (load_of l ∷ [])) ∙ sym (append-nil (map given_load (u.loads ++ load_of l ∷ []))))
    )

abbrev named : LoadView → List ℕ → LoadView
named load name = record { part = load.part; type_id = load.type_id; header_name = name; files = load.files }

loads_given : (loads : List LoadView) → HeadersAreFirst loads → map Given.load_of (map given_load loads) ≡ loads
loads_given [] all = refl
loads_given (load ∷ loads) all =
    let first : HeaderIsFirst load = All-head (λ (x : LoadView). HeaderIsFirst x) load loads all in
    ap (λ (name : List ℕ). named load name ∷ map Given.load_of (map given_load loads)) (sym first)
    ∙ ap (λ (ls : List LoadView). load ∷ ls) (loads_given loads (All-tail (λ (x : LoadView). HeaderIsFirst x) load loads all))

loads_whole : (u : Upload) (l : OpenLoad) → HeadersAreFirst u.loads → loads_of (given_of (with_open u l) []) ≡ u.loads ++ load_of l ∷ []
loads_whole u l headers =
    map-append Given.load_of (map given_load u.loads) (given_open l ∷ []) ∙ ap (λ (ls : List LoadView). ls ++ load_of l ∷ []) (loads_given u.loads headers)

headers_more : (loads : List LoadView) (l : OpenLoad) → HeadersAreFirst loads → HeadersAreFirst (loads ++ load_of l ∷ [])
headers_more loads l headers =
    All-append (λ (x : LoadView). HeaderIsFirst x) loads (load_of l ∷ []) headers (All-cons (λ (x : LoadView). HeaderIsFirst x) (load_of l) [] refl (All-nil (λ (x : LoadView). HeaderIsFirst x)))

-- ---- the type ids of what is given

types_whole : (loads : List LoadView) → types_in (map Given.load_of (map given_load loads)) ≡ types_in loads
types_whole [] = refl
types_whole (l ∷ ls) = ap (λ (types : List ℕ). said_type l.type_id ++ types) (types_whole ls)

-- those of the loads that are whole and of the open one
pub types_given : (u : Upload) (l : OpenLoad) (loads : List LoadEntry) → entries_of u.loads ≡ loads → types_in (loads_of (given_of (with_open u l) [])) ≡ types_of loads ++ l.header.type_id ∷ []
types_given u l loads same =
    ap types_in (map-append Given.load_of (map given_load u.loads) (given_open l ∷ []))
    ∙ (flat_map-append (λ (x : LoadView). said_type x.type_id) (map Given.load_of (map given_load u.loads)) (Given.load_of (given_open l) ∷ [])
    ∙ ap (λ (types : List ℕ). types ++ l.header.type_id ∷ []) (types_whole u.loads ∙ (types_same u.loads ∙ ap types_of same)))

-- as a manifest lists them
pub types_listed : (loads more : List LoadEntry) (h : HeaderView) (l : OpenLoadView) → more ≡ loads → l.header ≡ h → types_of loads ++ h.type_id ∷ [] ≡ types_of (more ++ load_entry_of l ∷ [])
types_listed loads more h l same is =
    ap (λ (x : HeaderView). types_of loads ++ x.type_id ∷ []) (sym is)
    ∙ sym (flat_map-append (λ (x : LoadEntry). said_type x.type_id) more (load_entry_of l ∷ []) ∙ ap (λ (xs : List LoadEntry). types_of xs ++ l.header.type_id ∷ []) same)

on_ok : {T E : Type 0} (r : Result T E) {P Q : Type 0} → OnOk r P → (P → Q) → OnOk r Q
on_ok (Ok x) p more = more p
on_ok (Err e) p more = tt

pub next_brings : {T : Type 0} (u : Upload) (l : OpenLoad) (next : Next) (old : DiskState) (after : Store) (new : DiskState) (s : StandingView) (g : Given) (r : Result T Down) → HeadersAreFirst u.loads → IsWholeIn l next → g ≡ given_of (with_open u l) []
    → GoesTo next old after new s g r → BringsRow old after new s (placed u l next) r
next_brings u l More_files old after new s g r headers whole is goes = record {
  adds = goes.adds;
  ok = on_ok r goes.ok (λ given. record { beside = given.beside; holds = record { given = subst (λ (x : Given). HasGiven after given.beside.image x) is given.given; headers = headers } });
}
next_brings u l Next_load old after new s g r headers whole is goes = record {
  adds = goes.adds;
  ok = on_ok r goes.ok (λ given. record { beside = given.beside; holds = record { given = subst (λ (x : Given). HasGiven after given.beside.image x) (is ∙ given_between u l whole) given.given; headers = headers_more u.loads l headers } });
}
next_brings u l Complete old after new s g r headers whole is goes =
    let loads : loads_of g ≡ u.loads ++ load_of l ∷ [] = ap loads_of is ∙ loads_whole u l headers in
    let turned : standing_after s (loads_of g) ≡ standing_after s (u.loads ++ load_of l ∷ []) = ap (standing_after s) loads in
    subst (λ (x : StandingView). BringsTo old after new s x (placed u l Complete) [] r) turned (record { adds = goes.adds; ok = on_ok r goes.ok (λ beside. record { beside = beside; holds = tt }) })

-- ---- where a file was accepted

pub goes_more : {T : Type 0} (next : Next) (store : Store) (disk : DiskState) (s : StandingView) (g : Given) (x : T) → next ≡ More_files → IsGiven store disk s g → GoesTo {E = Down} next disk store disk s g (Ok x)
goes_more next store disk s g x is given = rw is (record { adds = adds_nothing disk _ _; ok = given })

pub goes_next : {T : Type 0} (next : Next) (store : Store) (disk : DiskState) (s : StandingView) (g : Given) (x : T) → next ≡ Next_load → IsGiven store disk s g → GoesTo {E = Down} next disk store disk s g (Ok x)
goes_next next store disk s g x is given = rw is (record { adds = adds_nothing disk _ _; ok = given })

pub goes_complete : {T : Type 0} (next : Next) (old : DiskState) (after : Store) (new : DiskState) (s : StandingView) (g : Given) (r : Result T Down) → next ≡ Complete → BringsTo old after new s (standing_after s (loads_of g)) Over [] r → GoesTo next old after new s g r
goes_complete next old after new s g r is brings = rw is (record { adds = brings.adds; ok = on_ok r brings.ok (λ installs. installs.beside) })

pub goes_then : {S T : Type 0} (next : Next) (old : DiskState) (mid : Store) (there : DiskState) (after : Store) (new : DiskState) (s : StandingView) (g : Given) (x : S) (r : Result T Down) → GivesContents {E = Down} old mid there s g (Ok x)
    → (IsGiven mid there s g → GoesTo next there after new s g r) → GoesTo next old after new s g r
goes_then next old mid there after new s g x r gives other =
    let goes = other gives.ok in
    record { adds = both_add old there new s (active_next next s g) (adds_old old there s (active_next next s g) gives.adds) goes.adds; ok = goes.ok }
