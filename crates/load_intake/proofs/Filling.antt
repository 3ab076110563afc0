-- What the store's calls give and leave of an upload.
use Rattle.std.proofs.Common.{◌≡◌, true, false, ℕ, ◌-◌, ◌<◌, ◌≤◌, arith, List, [], ◌++◌, Result, Ok, Err, IsErr, Option, Some, None, length, map, take, refl, sym, ap, subst, ◌∙◌}
use Rattle.std.proofs.lemmas.List.Elements.{All-nil}
use Rattle.disk_layout.specs.Contents.{HeaderIsFirst, HeadersAreFirst}
use Rattle.load_protocol_files.specs.declared.lur.Wanted.{Wanted}
use Rattle.session_rules.proofs.BufferLemmas.{taken}
use Rattle.session_rules.specs.Buffers.{Sums, buffered, summed}
use Rattle.session_rules.specs.Uploads.{OpenLoad, Upload, current_view, next_entry, open_load_view}
use Rattle.load_base.specs.Config.{LoadView}
use Rattle.disk_model.specs.Image.{Image}
use Rattle.disk_model.specs.State.{DiskState}
use Rattle.disk_layout.specs.Holds.{HoldsConfig, StandingView}
use Rattle.bank_store.specs.declared.store.Store.{Store}
use Rattle.bank_store.specs.DiskWrites.{AddsOnly, TimeGoesOn}
use Rattle.bank_store.specs.Fits.{CanActivate, InstallsBeside}
use Rattle.bank_store.specs.Given.{Given, GivenLoad, HasGiven, configured, loads_of, nothing_given, with_bytes}
use Rattle.bank_store.specs.Keeps.{Activates, Appends, Begins, Continues, FitsOn, IsOldOrNew, LeavesActive, Seals}
use Rattle.bank_store.specs.Store.{with_gate_open, with_gate_shut, with_manifest, with_piece, with_slot, manifest_length}
use Rattle.session_rules.specs.TargetRows.{Kept_bytes, Kept_sums, Over, Reads_file, WholeRow, arriving_load, new_upload, said_length}
use Rattle.load_intake.specs.declared.down.Down.{Down}
use Rattle.load_intake.specs.Contents.{AddsAtMost, BringsTo, GivesContents, InstallsRow, IsGiven, LeavesSealed, OpensGate, given_current, given_load, given_of}
use Rattle.load_intake.proofs.ContentLemmas.{adds_both, adds_nothing, adds_old, adds_only, adds_then, beside_continued}

-- ---- the old configuration alone

pub leaves_old : (store : Store) (old new : DiskState) (s : StandingView) → old.clock ≤ new.clock → LeavesActive store old new → InstallsBeside store old s → AddsAtMost old new (λ left. HoldsConfig left s)
leaves_old store old new s later leaves beside = adds_only old new (λ left. HoldsConfig left s) later (leaves s beside)

abbrev pub beside_on : (before after : Store) (old new : DiskState) (s : StandingView) (now : Image) → FitsOn before after old new → (beside : InstallsBeside before old s) → new.reads ≡ Some now → InstallsBeside after new s
beside_on before after old new s now on beside told = record {
  works = on.works beside.works;
  image = now;
  told = told;
  holds = on.holds beside.image beside.told now told s beside.holds;
}

-- ---- what calls give

-- where the disk or memory failed
pub gives_failed : {T : Type 0} (before after : Store) (old new : DiskState) (s : StandingView) (g : Given) (e : Down) → old.clock ≤ new.clock → LeavesActive before old new → InstallsBeside before old s → GivesContents {T = T} old after new s g (Err e)
gives_failed before after old new s g e later leaves beside = record { adds = leaves_old before old new s later leaves beside; ok = tt }

pub begin_gives : {T : Type 0} (before after : Store) (old new : DiskState) (s : StandingView) (x : T) → Begins before after old new → old.clock ≤ new.clock → LeavesActive before old new → FitsOn before after old new → InstallsBeside before old s
    → GivesContents {E = Down} old after new s nothing_given (Ok x)
begin_gives before after old new s x begins later leaves on beside =
    let told = begins.written beside.image beside.told in
    record {
      adds = leaves_old before old new s later leaves beside;
      ok = record { beside = beside_on before after old new s (with_gate_shut before beside.image) on beside told; given = begins.given (with_gate_shut before beside.image) told };
    }

pub append_gives : {T : Type 0} (before after : Store) (old new : DiskState) (s : StandingView) (g : Given) (bytes : List ℕ) (x : T) → Appends before after old new bytes → old.clock ≤ new.clock → LeavesActive before old new → FitsOn before after old new
    → IsGiven before old s g → GivesContents {E = Down} old after new s (with_bytes bytes g) (Ok x)
append_gives before after old new s g bytes x appends later leaves on is =
    let image = is.beside.image in
    let now = with_piece before is.given.progress bytes image in
    let told : new.reads ≡ Some now = appends.written image is.beside.told is.given.progress is.given.stage in
    record {
      adds = leaves_old before old new s later leaves is.beside;
      ok = record { beside = beside_on before after old new s now on is.beside told; given = appends.given image is.beside.told now told g is.given };
    }

-- no call of the disk
pub gives_more : (before after : Store) (disk : DiskState) (s : StandingView) (g more : Given) → Continues before after → ((image : Image) → HasGiven before image g → HasGiven after image more) → IsGiven before disk s g → IsGiven after disk s more
gives_more before after disk s g more c given is = record { beside = beside_continued before after disk s c is.beside; given = given is.beside.image is.given }

-- before a call there is one that makes none of the disk, or one that is answered
pub gives_then : {S T : Type 0} (a b : DiskState) (mid : Store) (c : DiskState) (after : Store) (s : StandingView) (g more : Given) (x : S) (r : Result T Down) → GivesContents {E = Down} a mid b s g (Ok x) → (IsGiven mid b s g → GivesContents b after c s more r) → GivesContents a after c s more r
gives_then a b mid c after s g more x r one other =
    let next = other one.ok in
    record { adds = adds_both a b c (λ left. HoldsConfig left s) one.adds next.adds; ok = next.ok }

-- ---- sealing and activating

pub seal_leaves : {T : Type 0} (before after : Store) (old new : DiskState) (s : StandingView) (g : Given) (x : T) → Seals before after old new → old.clock < new.clock → LeavesActive before old new → FitsOn before after old new → IsGiven before old s g
    → LeavesSealed {E = Down} old after new s (loads_of g) (Ok x)
seal_leaves before after old new s g x seals rises leaves on is =
    let image = is.beside.image in
    let p = is.given.progress in
    let now = with_slot before p.end (manifest_length before) (with_manifest before p image) in
    let told : new.reads ≡ Some now = seals.written image is.beside.told p is.given.stage in
    record {
      adds = leaves_old before old new s (omega (arith, rises)) leaves is.beside;
      rises = rises;
      ok = record { beside = beside_on before after old new s now on is.beside told; ready = seals.ready image is.beside.told now told s g is.beside.holds is.given };
    }

pub seal_failed : {T : Type 0} (before after : Store) (old new : DiskState) (s : StandingView) (g : Given) (e : Down) → old.clock ≤ new.clock → LeavesActive before old new → IsGiven before old s g → LeavesSealed {T = T} old after new s (loads_of g) (Err e)
seal_failed before after old new s g e later leaves is = record { adds = leaves_old before old new s later leaves is.beside; rises = tt; ok = tt }

pub activate_brings : {T : Type 0} (before after : Store) (old new : DiskState) (s : StandingView) (loads : List LoadView) (x : T) → Activates before after old new → TimeGoesOn old new → AddsOnly old new (IsOldOrNew s (configured s loads)) → CanActivate before old s loads
    → OpensGate {E = Down} old after new s (configured s loads) (Ok x)
activate_brings before after old new s loads x activates goes adds can =
    let image = can.beside.image in
    let told = activates.written image can.beside.told in
    record {
      adds = adds_only old new (IsOldOrNew s (configured s loads)) goes.later adds;
      earlier = goes.earlier;
      ok = record {
        beside = record {
          works = activates.works can.beside.works;
          image = with_gate_open before image;
          told = told;
          holds = activates.holds image can.beside.told (with_gate_open before image) told s loads can.beside.holds can.ready;
        };
        holds = tt;
      };
    }

pub activate_failed : {T : Type 0} (after : Store) (old new : DiskState) (s : StandingView) (loads : List LoadView) (e : Down) → TimeGoesOn old new → AddsOnly old new (IsOldOrNew s (configured s loads)) → OpensGate {T = T} old after new s (configured s loads) (Err e)
activate_failed after old new s loads e goes adds = record { adds = adds_only old new (IsOldOrNew s (configured s loads)) goes.later adds; earlier = goes.earlier; ok = tt }

-- once it is sealed
pub installs_then : {S T : Type 0} (a b : DiskState) (mid : Store) (c : DiskState) (after : Store) (s : StandingView) (loads : List LoadView) (x : S) (r : Result T Down) → LeavesSealed {E = Down} a mid b s loads (Ok x)
    → (CanActivate mid b s loads → OpensGate b after c s (configured s loads) r) → BringsTo a after c s (configured s loads) Over [] r
installs_then a b mid c after s loads x r sealed other =
    let next = other sealed.ok in
    record { adds = adds_then a b c s (configured s loads) sealed.adds sealed.rises next.adds next.earlier; ok = next.ok }

-- or couldn't be
pub installs_failed : {S T : Type 0} (a b : DiskState) (mid after : Store) (s : StandingView) (loads : List LoadView) (r : Result S Down) (x : Result T Down) → IsErr x → LeavesSealed a mid b s loads r → BringsTo a after b s (configured s loads) Over [] x
installs_failed a b mid after s loads r (Ok x) err sealed = absurd (let wrong : false ≡ true = err in cc)
installs_failed a b mid after s loads r (Err e) err sealed = record { adds = adds_old a b s (configured s loads) sealed.adds; ok = tt }

-- ---- the same with another answer

pub gives_fails : {S T : Type 0} (old : DiskState) (after other : Store) (new : DiskState) (s : StandingView) (g more : Given) (one : Result S Down) (r : Result T Down) → IsErr r → GivesContents old after new s g one → GivesContents old other new s more r
gives_fails old after other new s g more one (Ok x) err gives = absurd (let wrong : false ≡ true = err in cc)
gives_fails old after other new s g more one (Err e) err gives = record { adds = gives.adds; ok = tt }

pub gives_so : {S T : Type 0} (old : DiskState) (after : Store) (new : DiskState) (s : StandingView) (g more : Given) (x : S) (y : T) → g ≡ more → GivesContents {E = Down} old after new s g (Ok x) → GivesContents {E = Down} old after new s more (Ok y)
gives_so old after new s g more x y is gives = rw (sym is) (record { adds = gives.adds; ok = gives.ok })

pub brings_fails : {S T : Type 0} (old : DiskState) (after other : Store) (new : DiskState) (s next : StandingView) (row : WholeRow) (arrived : List ℕ) (one : Result S Down) (r : Result T Down) → IsErr r → BringsTo old after new s next row arrived one
    → BringsTo old other new s next row arrived r
brings_fails old after other new s next row arrived one (Ok x) err brings = absurd (let wrong : false ≡ true = err in cc)
brings_fails old after other new s next row arrived one (Err e) err brings = record { adds = brings.adds; ok = tt }

pub brings_so : {S T : Type 0} (old : DiskState) (after : Store) (new : DiskState) (s next : StandingView) (row : WholeRow) (arrived : List ℕ) (x : S) (y : T) → BringsTo {E = Down} old after new s next row arrived (Ok x) → BringsTo {E = Down} old after new s next row arrived (Ok y)
brings_so old after new s next row arrived x y brings = record { adds = brings.adds; ok = brings.ok }

-- ---- an upload begins

pub begins_upload : {S T : Type 0} (old : DiskState) (after : Store) (new : DiskState) (s : StandingView) (request : List Wanted) (x : S) (y : T) → GivesContents {E = Down} old after new s nothing_given (Ok x)
    → BringsTo {E = Down} old after new s s (Reads_file (new_upload request)) [] (Ok y)
begins_upload old after new s request x y gives = record {
  adds = adds_old old new s s gives.adds;
  ok = record { beside = gives.ok.beside; holds = record { given = gives.ok.given; headers = All-nil (λ (l : LoadView). HeaderIsFirst l) } };
}

pub begin_fails : {S T : Type 0} (old : DiskState) (after other : Store) (new : DiskState) (s next : StandingView) (g : Given) (row : WholeRow) (arrived : List ℕ) (one : Result S Down) (r : Result T Down) → IsErr r → GivesContents old after new s g one → BringsTo old other new s next row arrived r
begin_fails old after other new s next g row arrived one (Ok x) err gives = absurd (let wrong : false ≡ true = err in cc)
begin_fails old after other new s next g row arrived one (Err e) err gives = record { adds = adds_old old new s next gives.adds; ok = tt }

-- ---- more of a file arrives

-- of a header
pub header_takes : (store : Store) (disk : DiskState) (s : StandingView) (u : Upload) (arrived more : List ℕ) → current_view u.current ≡ None → InstallsRow store disk s (Reads_file u) arrived
    → InstallsRow store disk s (Reads_file u) more
header_takes store disk s u arrived more is installs = record { beside = installs.beside; holds = record { given = same u.current refl is; headers = installs.holds.headers } }
  where
    same : (current : Option OpenLoad) → u.current ≡ current → current_view u.current ≡ None → HasGiven store installs.beside.image (given_of u more)
    same None e is = rw e (rw e at installs.holds.given)
    same (Some l) e is = absurd (let wrong : Some (open_load_view l) ≡ None = sym (ap current_view e) ∙ is in cc)

pub header_brings_more : {T : Type 0} (store : Store) (disk : DiskState) (s : StandingView) (u : Upload) (arrived more : List ℕ) (x : T) → current_view u.current ≡ None → InstallsRow store disk s (Reads_file u) arrived
    → BringsTo {E = Down} disk store disk s s (Reads_file u) (arrived ++ more) (Ok x)
header_brings_more store disk s u arrived more x is installs = record { adds = adds_nothing disk _ _; ok = header_takes store disk s u arrived (arrived ++ more) is installs }

-- of another file
given_more : (loads : List GivenLoad) (said : ℕ) (arrived more : List ℕ) → with_bytes (take (said - length arrived) more) (record { loads = loads; bytes = take said arrived }) ≡ record { loads = loads; bytes = take said (arrived ++ more) }
given_more loads said arrived more = ap (λ (bytes : List ℕ). given loads bytes) (sym (taken said arrived more))
  where
    given : List GivenLoad → List ℕ → Given
    given loads bytes = record { loads = loads; bytes = bytes }

file_adds : {T : Type 0} (old : DiskState) (after : Store) (new : DiskState) (s : StandingView) (u : Upload) (arrived : List ℕ) (g : Given) (r : Result T Down) → HeadersAreFirst u.loads → g ≡ given_of u arrived → GivesContents old after new s g r
    → BringsTo old after new s s (Reads_file u) arrived r
file_adds old after new s u arrived g (Ok x) headers is gives = record {
  adds = adds_old old new s s gives.adds;
  ok = record { beside = gives.ok.beside; holds = record { given = subst (λ (y : Given). HasGiven after gives.ok.beside.image y) is gives.ok.given; headers = headers } };
}
file_adds old after new s u arrived g (Err e) headers is gives = record { adds = adds_old old new s s gives.adds; ok = tt }

pub file_brings_more : {T : Type 0} (before : Store) (old : DiskState) (after : Store) (new : DiskState) (s : StandingView) (u : Upload) (arrived more : List ℕ) (sums : Sums) (r : Result T Down) → arriving_load (current_view u.current) arrived ≡ Kept_sums sums
    → InstallsRow before old s (Reads_file u) arrived → ((g : Given) → IsGiven before old s g → GivesContents old after new s (with_bytes (take (sums.said - sums.count) more) g) r) → BringsTo old after new s s (Reads_file u) (arrived ++ more) r
file_brings_more before old after new s u arrived more sums r kept installs gives =
    file_adds old after new s u (arrived ++ more) (with_bytes (take (sums.said - sums.count) more) (given_of u arrived)) r installs.holds.headers (same u.current refl kept)
    (gives (given_of u arrived) (record { beside = installs.beside; given = installs.holds.given }))
  where
    same : (current : Option OpenLoad) → u.current ≡ current → arriving_load (current_view u.current) arrived ≡ Kept_sums sums → with_bytes (take (sums.said - sums.count) more) (given_of u arrived) ≡ given_of u (arrived ++ more)
    same None e is = absurd (let wrong : Kept_bytes (buffered arrived) ≡ Kept_sums sums = sym (ap (λ (c : Option OpenLoad). arriving_load (current_view c) arrived) e) ∙ is in cc)
    same (Some l) e is =
        let said = said_length (next_entry (open_load_view l)) in
        let seen : Kept_sums (summed said (open_load_view l).crc arrived) ≡ Kept_sums sums = sym (ap (λ (c : Option OpenLoad). arriving_load (current_view c) arrived) e) ∙ is in
        let which : summed said (open_load_view l).crc arrived ≡ sums = cc in
        rw (sym which, e) (given_more (map given_load u.loads ++ given_current (Some l)) said arrived more)
