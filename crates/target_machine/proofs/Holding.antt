-- What calls of the target leave on its disk.
use Rattle.std.proofs.Common.{◌≡◌, ℕ, List, [], ◌++◌, true, false, Option, Some, None, Result, Ok, Err, IsErr, refl, sym, subst}
use Rattle.disk_model.specs.Image.{Image}
use Rattle.disk_model.specs.State.{DiskState}
use Rattle.disk_layout.specs.Holds.{Outline, StandingView}
use Rattle.accept_rules.specs.Permissions.{Accepts}
use Rattle.bank_store.specs.declared.store.Store.{Store}
use Rattle.bank_store.specs.Fits.{InstallsBeside}
use Rattle.bank_store.specs.Keeps.{Continues}
use Rattle.session_rules.specs.Buffers.{Buffer, buffered_more}
use Rattle.session_rules.specs.TargetLog.{standing_in}
use Rattle.session_rules.specs.TargetRows.{Arriving, Awaits_lur, Gives_denial, Gives_lci, Gives_lui, Kept_bytes, Over, Reads_file, UploadEnd, WholeRow, Writes_completion, Writes_lcl, Writes_lcs, Writes_progress, Writes_ready, Writes_stop, arriving_of, done_move, error_move, row_after, row_moved, row_view}
use Rattle.session_rules.specs.Uploads.{Upload, UploadView, upload_view}
use Rattle.load_intake.specs.declared.down.Down.{Down}
use Rattle.load_intake.specs.Contents.{BringsRow, BringsTo, HoldsRow, InstallsRow, IsOf}
use Rattle.load_intake.proofs.ContentLemmas.{adds_nothing, adds_same, beside_continued}
use Rattle.load_intake.specs.States.{IntakeState}
use Rattle.disk_layout.specs.Manifest.{LoadEntry}
use Rattle.target_machine.specs.Disks.{IsResting, TurnsDisk}
use Rattle.target_machine.specs.Machine.{row_seen, seen_at, session_with}
use Rattle.target_machine.specs.declared.row.Row.{Row}
use Rattle.target_machine.specs.declared.row.Row.TheVariants as rows

-- ---- rows in which no file of a load is awaited

pub resting_holds : (store : Store) (image : Image) (row : WholeRow) (arrived : List ℕ) → IsResting (row_view row) → HoldsRow store image row arrived
resting_holds store image Gives_lci arrived rests = tt
resting_holds store image Writes_lcs arrived rests = tt
resting_holds store image Writes_lcl arrived rests = tt
resting_holds store image Gives_lui arrived rests = tt
resting_holds store image Gives_denial arrived rests = tt
resting_holds store image Writes_ready arrived rests = tt
resting_holds store image Awaits_lur arrived rests = tt
resting_holds store image (Reads_file u) arrived rests = absurd rests
resting_holds store image (Writes_progress u) arrived rests = absurd rests
resting_holds store image (Writes_stop e) arrived rests = tt
resting_holds store image (Writes_completion e loads) arrived rests = tt
resting_holds store image Over arrived rests = tt

-- ---- the same with another answer

pub answers_so : {S T : Type 0} (old : DiskState) (after : Store) (new : DiskState) (s next : StandingView) (row : WholeRow) (arrived : List ℕ) (x : S) (y : T) → BringsTo {E = Down} old after new s next row arrived (Ok x)
    → BringsTo {E = Down} old after new s next row arrived (Ok y)
answers_so old after new s next row arrived x y brings = record { adds = brings.adds; ok = brings.ok }

pub fails_so : {S T : Type 0} (old : DiskState) (after other : Store) (new : DiskState) (s next : StandingView) (row : WholeRow) (arrived : List ℕ) (one : Result S Down) (r : Result T Down) → IsErr r → BringsTo old after new s next row arrived one
    → BringsTo old other new s next row arrived r
fails_so old after other new s next row arrived one (Ok x) err brings = absurd (let wrong : false ≡ true = err in cc)
fails_so old after other new s next row arrived one (Err e) err brings = record { adds = brings.adds; ok = tt }

-- nothing was written, and memory failed
pub fails_here : {T : Type 0} (after : Store) (disk : DiskState) (s next : StandingView) (row : WholeRow) (arrived : List ℕ) (r : Result T Down) → IsErr r → BringsTo disk after disk s next row arrived r
fails_here after disk s next row arrived (Ok x) err = absurd (let wrong : false ≡ true = err in cc)
fails_here after disk s next row arrived (Err e) err = record { adds = adds_nothing disk _ _; ok = tt }

-- ---- the end of a transfer

-- nothing was written, in a row that doesn't make another configuration active
pub rests_at : {T : Type 0} (before after : Store) (disk : DiskState) (s : StandingView) (row : WholeRow) (f : T) → standing_in s row ≡ s → IsResting (row_view row) → Continues before after → InstallsBeside before disk s
    → BringsRow {E = Down} disk after disk s row (Ok f)
rests_at before after disk s row f same rests c beside =
    let there = beside_continued before after disk s c beside in
    subst (λ (x : StandingView). BringsTo {E = Down} disk after disk s x row [] (Ok f)) (sym same) (record { adds = adds_nothing disk _ _; ok = record { beside = there; holds = resting_holds after there.image row [] rests } })

error_stays : (s : StandingView) (row : WholeRow) (arrived : List ℕ) (code : ℕ) → standing_in s (row_moved row arrived (error_move (row_view row) code)) ≡ s
error_stays s Gives_lci arrived code = refl
error_stays s Writes_lcs arrived code = refl
error_stays s Writes_lcl arrived code = refl
error_stays s Gives_lui arrived code = refl
error_stays s Gives_denial arrived code = refl
error_stays s Writes_ready arrived code = refl
error_stays s Awaits_lur arrived code = refl
error_stays s (Reads_file u) arrived code = refl
error_stays s (Writes_progress u) arrived code = refl
error_stays s (Writes_stop e) arrived code = refl
error_stays s (Writes_completion e loads) arrived code = refl
error_stays s Over arrived code = refl

pub error_rests : (row : WholeRow) (arrived : List ℕ) (code : ℕ) → IsResting (row_view (row_moved row arrived (error_move (row_view row) code)))
error_rests Gives_lci arrived code = tt
error_rests Writes_lcs arrived code = tt
error_rests Writes_lcl arrived code = tt
error_rests Gives_lui arrived code = tt
error_rests Gives_denial arrived code = tt
error_rests Writes_ready arrived code = tt
error_rests Awaits_lur arrived code = tt
error_rests (Reads_file u) arrived code = tt
error_rests (Writes_progress u) arrived code = tt
error_rests (Writes_stop e) arrived code = tt
error_rests (Writes_completion e loads) arrived code = tt
error_rests Over arrived code = tt

-- an ERROR stops an upload that reads a file, and ends every other session
pub error_brings : {T : Type 0} (before after : Store) (disk : DiskState) (s : StandingView) (row : WholeRow) (arrived : List ℕ) (code : ℕ) (f : T) → Continues before after → InstallsRow before disk s row arrived
    → BringsRow {E = Down} disk after disk s (row_moved row arrived (error_move (row_view row) code)) (Ok f)
error_brings before after disk s row arrived code f c installs =
    rests_at before after disk s (row_moved row arrived (error_move (row_view row) code)) f (error_stays s row arrived code) (error_rests row arrived code) c installs.beside

module _ (accepts : Accepts) (active : Outline) where
  -- the row after a transfer that no ERROR ended
  abbrev pub moved_to : (row : WholeRow) (arrived : List ℕ) → WholeRow
  moved_to row arrived = row_moved row arrived (done_move accepts active (row_view row) (arriving_of (row_view row) arrived))

  -- a row that no file decides
  pub passed_brings : {T : Type 0} (store : Store) (disk : DiskState) (s : StandingView) (row : WholeRow) (arrived : List ℕ) (f : T) → ((u : UploadView) → row_view row ≡ Reads_file u → ⊥) → (row_view row ≡ Awaits_lur → ⊥) → InstallsRow store disk s row arrived
      → BringsRow {E = Down} disk store disk s (moved_to row arrived) (Ok f)
  passed_brings store disk s Gives_lci arrived f reads awaits installs = record { adds = adds_nothing disk _ _; ok = record { beside = installs.beside; holds = tt } }
  passed_brings store disk s Writes_lcs arrived f reads awaits installs = record { adds = adds_nothing disk _ _; ok = record { beside = installs.beside; holds = tt } }
  passed_brings store disk s Writes_lcl arrived f reads awaits installs = record { adds = adds_nothing disk _ _; ok = record { beside = installs.beside; holds = tt } }
  passed_brings store disk s Gives_lui arrived f reads awaits installs = record { adds = adds_nothing disk _ _; ok = record { beside = installs.beside; holds = tt } }
  passed_brings store disk s Gives_denial arrived f reads awaits installs = record { adds = adds_nothing disk _ _; ok = record { beside = installs.beside; holds = tt } }
  passed_brings store disk s Writes_ready arrived f reads awaits installs = record { adds = adds_nothing disk _ _; ok = record { beside = installs.beside; holds = tt } }
  passed_brings store disk s Awaits_lur arrived f reads awaits installs = absurd (awaits refl)
  passed_brings store disk s (Reads_file u) arrived f reads awaits installs = absurd (reads (upload_view u) refl)
  passed_brings store disk s (Writes_progress u) arrived f reads awaits installs = record { adds = adds_nothing disk _ _; ok = record { beside = installs.beside; holds = installs.holds } }
  passed_brings store disk s (Writes_stop e) arrived f reads awaits installs = record { adds = adds_nothing disk _ _; ok = record { beside = installs.beside; holds = tt } }
  passed_brings store disk s (Writes_completion e loads) arrived f reads awaits installs = record { adds = adds_nothing disk _ _; ok = record { beside = installs.beside; holds = tt } }
  passed_brings store disk s Over arrived f reads awaits installs = record { adds = adds_nothing disk _ _; ok = record { beside = installs.beside; holds = tt } }

  -- and after which the session is over
  pub passed_rests : (row : WholeRow) (arrived : List ℕ) → ((u : UploadView) → row_view row ≡ Reads_file u → ⊥) → (row_view row ≡ Awaits_lur → ⊥) → row_after (row_view row) ≡ Over → IsResting (row_view (moved_to row arrived))
  passed_rests Gives_lci arrived reads awaits over = tt
  passed_rests Writes_lcs arrived reads awaits over = tt
  passed_rests Writes_lcl arrived reads awaits over = tt
  passed_rests Gives_lui arrived reads awaits over = tt
  passed_rests Gives_denial arrived reads awaits over = tt
  passed_rests Writes_ready arrived reads awaits over = tt
  passed_rests Awaits_lur arrived reads awaits over = absurd (awaits refl)
  passed_rests (Reads_file u) arrived reads awaits over = absurd (reads (upload_view u) refl)
  passed_rests (Writes_progress u) arrived reads awaits over = absurd cc
  passed_rests (Writes_stop e) arrived reads awaits over = tt
  passed_rests (Writes_completion e loads) arrived reads awaits over = tt
  passed_rests Over arrived reads awaits over = tt

  -- a file of a load
  pub reads_brings : {T : Type 0} (old : DiskState) (after : Store) (new : DiskState) (s : StandingView) (row : WholeRow) (arrived : List ℕ) (intake : IntakeState) (r : Result T Down) → row_view row ≡ Reads_file intake.upload → arriving_of (row_view row) arrived ≡ intake.arriving
      → (before : Store) → InstallsRow before old s row arrived
      → ((u : Upload) → IsOf intake u arrived → InstallsRow before old s (Reads_file u) arrived → BringsRow old after new s (row_moved (Reads_file u) arrived (done_move accepts active (Reads_file intake.upload) intake.arriving)) r)
      → BringsRow old after new s (moved_to row arrived) r
  reads_brings old after new s (Reads_file u) arrived intake r is kept before installs brings =
      let same : intake.upload ≡ upload_view u = cc in
      subst (λ (a : Arriving). BringsRow old after new s (row_moved (Reads_file u) arrived (done_move accepts active (Reads_file (upload_view u)) a)) r) (sym kept)
      (subst (λ (v : UploadView). BringsRow old after new s (row_moved (Reads_file u) arrived (done_move accepts active (Reads_file v) intake.arriving)) r) same (brings u (record { upload = same; arriving = sym kept }) installs))
  reads_brings old after new s Gives_lci arrived intake r is kept before installs brings = absurd cc
  reads_brings old after new s Writes_lcs arrived intake r is kept before installs brings = absurd cc
  reads_brings old after new s Writes_lcl arrived intake r is kept before installs brings = absurd cc
  reads_brings old after new s Gives_lui arrived intake r is kept before installs brings = absurd cc
  reads_brings old after new s Gives_denial arrived intake r is kept before installs brings = absurd cc
  reads_brings old after new s Writes_ready arrived intake r is kept before installs brings = absurd cc
  reads_brings old after new s Awaits_lur arrived intake r is kept before installs brings = absurd cc
  reads_brings old after new s (Writes_progress u) arrived intake r is kept before installs brings = absurd cc
  reads_brings old after new s (Writes_stop e) arrived intake r is kept before installs brings = absurd cc
  reads_brings old after new s (Writes_completion e loads) arrived intake r is kept before installs brings = absurd cc
  reads_brings old after new s Over arrived intake r is kept before installs brings = absurd cc

  -- the request
  pub awaits_brings : {T : Type 0} (old : DiskState) (after : Store) (new : DiskState) (s : StandingView) (row : WholeRow) (arrived : List ℕ) (file : Buffer) (r : Result T Down) → row_view row ≡ Awaits_lur → arriving_of (row_view row) arrived ≡ Kept_bytes file
      → BringsRow old after new s (row_moved Awaits_lur arrived (done_move accepts active Awaits_lur (Kept_bytes file))) r → BringsRow old after new s (moved_to row arrived) r
  awaits_brings old after new s Awaits_lur arrived file r is kept brings = subst (λ (a : Arriving). BringsRow old after new s (row_moved Awaits_lur arrived (done_move accepts active Awaits_lur a)) r) (sym kept) brings
  awaits_brings old after new s Gives_lci arrived file r is kept brings = absurd cc
  awaits_brings old after new s Writes_lcs arrived file r is kept brings = absurd cc
  awaits_brings old after new s Writes_lcl arrived file r is kept brings = absurd cc
  awaits_brings old after new s Gives_lui arrived file r is kept brings = absurd cc
  awaits_brings old after new s Gives_denial arrived file r is kept brings = absurd cc
  awaits_brings old after new s Writes_ready arrived file r is kept brings = absurd cc
  awaits_brings old after new s (Reads_file u) arrived file r is kept brings = absurd cc
  awaits_brings old after new s (Writes_progress u) arrived file r is kept brings = absurd cc
  awaits_brings old after new s (Writes_stop e) arrived file r is kept brings = absurd cc
  awaits_brings old after new s (Writes_completion e loads) arrived file r is kept brings = absurd cc
  awaits_brings old after new s Over arrived file r is kept brings = absurd cc

-- ---- more of a file arrives

-- of a load
pub reads_takes : {T : Type 0} (before : Store) (old : DiskState) (after : Store) (new : DiskState) (s : StandingView) (row : WholeRow) (arrived more : List ℕ) (intake : IntakeState) (r : Result T Down) → row_view row ≡ Reads_file intake.upload → arriving_of (row_view row) arrived ≡ intake.arriving
    → InstallsRow before old s row arrived → ((u : Upload) → IsOf intake u arrived → InstallsRow before old s (Reads_file u) arrived → BringsTo old after new s s (Reads_file u) (arrived ++ more) r) → BringsTo old after new s s row (arrived ++ more) r
reads_takes before old after new s (Reads_file u) arrived more intake r is kept installs brings =
    let same : intake.upload ≡ upload_view u = cc in
    brings u (record { upload = same; arriving = sym kept }) installs
reads_takes before old after new s Gives_lci arrived more intake r is kept installs brings = absurd cc
reads_takes before old after new s Writes_lcs arrived more intake r is kept installs brings = absurd cc
reads_takes before old after new s Writes_lcl arrived more intake r is kept installs brings = absurd cc
reads_takes before old after new s Gives_lui arrived more intake r is kept installs brings = absurd cc
reads_takes before old after new s Gives_denial arrived more intake r is kept installs brings = absurd cc
reads_takes before old after new s Writes_ready arrived more intake r is kept installs brings = absurd cc
reads_takes before old after new s Awaits_lur arrived more intake r is kept installs brings = absurd cc
reads_takes before old after new s (Writes_progress u) arrived more intake r is kept installs brings = absurd cc
reads_takes before old after new s (Writes_stop e) arrived more intake r is kept installs brings = absurd cc
reads_takes before old after new s (Writes_completion e loads) arrived more intake r is kept installs brings = absurd cc
reads_takes before old after new s Over arrived more intake r is kept installs brings = absurd cc

-- of any other
still_there : (store : Store) (disk : DiskState) (s : StandingView) (row : WholeRow) (arrived more : List ℕ) → ((u : UploadView) → row_view row ≡ Reads_file u → ⊥) → InstallsRow store disk s row arrived → InstallsRow store disk s row (arrived ++ more)
still_there store disk s Gives_lci arrived more reads installs = record { beside = installs.beside; holds = tt }
still_there store disk s Writes_lcs arrived more reads installs = record { beside = installs.beside; holds = tt }
still_there store disk s Writes_lcl arrived more reads installs = record { beside = installs.beside; holds = tt }
still_there store disk s Gives_lui arrived more reads installs = record { beside = installs.beside; holds = tt }
still_there store disk s Gives_denial arrived more reads installs = record { beside = installs.beside; holds = tt }
still_there store disk s Writes_ready arrived more reads installs = record { beside = installs.beside; holds = tt }
still_there store disk s Awaits_lur arrived more reads installs = record { beside = installs.beside; holds = tt }
still_there store disk s (Reads_file u) arrived more reads installs = absurd (reads (upload_view u) refl)
still_there store disk s (Writes_progress u) arrived more reads installs = record { beside = installs.beside; holds = installs.holds }
still_there store disk s (Writes_stop e) arrived more reads installs = record { beside = installs.beside; holds = tt }
still_there store disk s (Writes_completion e loads) arrived more reads installs = record { beside = installs.beside; holds = tt }
still_there store disk s Over arrived more reads installs = record { beside = installs.beside; holds = tt }

pub passes_takes : {T : Type 0} (store : Store) (disk : DiskState) (s : StandingView) (row : WholeRow) (arrived more : List ℕ) (r : Result T Down) → ((u : UploadView) → row_view row ≡ Reads_file u → ⊥) → InstallsRow store disk s row arrived
    → BringsTo disk store disk s s row (arrived ++ more) r
passes_takes store disk s row arrived more (Ok x) reads installs = record { adds = adds_nothing disk _ _; ok = still_there store disk s row arrived more reads installs }
passes_takes store disk s row arrived more (Err e) reads installs = record { adds = adds_nothing disk _ _; ok = tt }

-- ---- a row of the code

pub not_reading : (active : List LoadEntry) (row : Row) → ((intake : IntakeState) → row ≡ rows.ReadsFile intake → ⊥) → (u : UploadView) → row_seen active row ≡ Reads_file u → ⊥
not_reading active rows.GivesLci reads u is = cc
not_reading active rows.WritesLcs reads u is = cc
not_reading active rows.WritesLcl reads u is = cc
not_reading active rows.GivesLui reads u is = cc
not_reading active rows.GivesDenial reads u is = cc
not_reading active rows.WritesReady reads u is = cc
not_reading active rows.AwaitsLur reads u is = cc
not_reading active (rows.ReadsFile intake) reads u is = reads intake refl
not_reading active (rows.WritesProgress intake) reads u is = cc
not_reading active (rows.WritesStop end) reads u is = cc
not_reading active (rows.WritesCompletion end) reads u is = cc

pub not_awaiting : (active : List LoadEntry) (row : Row) → (row ≡ rows.AwaitsLur → ⊥) → row_seen active row ≡ Awaits_lur → ⊥
not_awaiting active rows.GivesLci awaits is = cc
not_awaiting active rows.WritesLcs awaits is = cc
not_awaiting active rows.WritesLcl awaits is = cc
not_awaiting active rows.GivesLui awaits is = cc
not_awaiting active rows.GivesDenial awaits is = cc
not_awaiting active rows.WritesReady awaits is = cc
not_awaiting active rows.AwaitsLur awaits is = awaits refl
not_awaiting active (rows.ReadsFile intake) awaits is = cc
not_awaiting active (rows.WritesProgress intake) awaits is = cc
not_awaiting active (rows.WritesStop end) awaits is = cc
not_awaiting active (rows.WritesCompletion end) awaits is = cc

-- ---- an installation is given up where the session is over

pub turn_abandons : (old : DiskState) (mid after : Store) (new : DiskState) (s : StandingView) (row : WholeRow) (r : Result (Option Row) Down) → ((next : Row) → r ≡ Ok (Some next) → ⊥) → Continues mid after → TurnsDisk old mid new s row r → BringsRow old after new s row r
turn_abandons old mid after new s row (Err e) not c t = record { adds = t.brings.adds; ok = tt }
turn_abandons old mid after new s row (Ok None) not c t =
    let there = beside_continued mid after new (standing_in s row) c t.brings.ok.beside in
    record { adds = t.brings.adds; ok = record { beside = there; holds = resting_holds after there.image row [] (t.rests refl) } }
turn_abandons old mid after new s row (Ok (Some next)) not c t = absurd (not next refl)

-- the row that is turned to has a file of its own, or the session is over
pub turns_with : {T : Type 0} (old : DiskState) (after : Store) (new : DiskState) (s : StandingView) (row : WholeRow) (x : T) (next : Row) → BringsRow {E = Down} old after new s row (Ok x) → TurnsDisk old after new s row (Ok (Some next))
turns_with old after new s row x next brings = record { brings = answers_so old after new s (standing_in s row) row [] x (Some next) brings; rests = λ none. absurd (let wrong : Some next ≡ None = none in cc) }

pub turns_fail : {T : Type 0} (old : DiskState) (after other : Store) (new : DiskState) (s : StandingView) (row : WholeRow) (one : Result T Down) (r : Result (Option Row) Down) → IsErr r → BringsRow old after new s row one → TurnsDisk old other new s row r
turns_fail old after other new s row one (Ok x) err brings = absurd (let wrong : false ≡ true = err in cc)
turns_fail old after other new s row one (Err e) err brings = record { brings = record { adds = brings.adds; ok = tt }; rests = tt }

-- the request is refused, or can't be read
pub rests_of : {T : Type 0} (store : Store) (disk : DiskState) (s : StandingView) (row : WholeRow) (x : T) (e : UploadEnd) → row ≡ Writes_stop e → InstallsBeside store disk s → BringsRow {E = Down} disk store disk s row (Ok x)
rests_of store disk s row x e is beside = rw is (record { adds = adds_nothing disk _ _; ok = record { beside = beside; holds = tt } })

pub begins_of : {S T : Type 0} (old : DiskState) (after : Store) (new : DiskState) (s : StandingView) (row : WholeRow) (u : Upload) (x : S) (y : T) → row ≡ Reads_file u → BringsTo {E = Down} old after new s s (Reads_file u) [] (Ok x) → BringsRow {E = Down} old after new s row (Ok y)
begins_of old after new s row u x y is brings = rw is (record { adds = brings.adds; ok = brings.ok })

-- a failure, where the row that was to come makes nothing active
pub begin_fails : {S T : Type 0} (old : DiskState) (after other : Store) (new : DiskState) (s : StandingView) (row : WholeRow) (u : Upload) (one : Result S Down) (r : Result T Down) → IsErr r → BringsTo old after new s s (Reads_file u) [] one → BringsRow old other new s row r
begin_fails old after other new s row u one (Ok x) err brings = absurd (let wrong : false ≡ true = err in cc)
begin_fails old after other new s row u one (Err e) err brings = record {
  adds = adds_same old new s (standing_in s row) brings.adds;
  ok = tt;
}

-- ---- more arrives of a file that isn't one of a load

pub row_takes : (active : List LoadEntry) (row : Row) (buffer more : Buffer) (payload : List ℕ) → ((intake : IntakeState) → row ≡ rows.ReadsFile intake → ⊥) → more ≡ buffered_more buffer payload
    → seen_at active row more ≡ session_with (seen_at active row buffer) payload
row_takes active rows.GivesLci buffer more payload reads is = rw is refl
row_takes active rows.WritesLcs buffer more payload reads is = rw is refl
row_takes active rows.WritesLcl buffer more payload reads is = rw is refl
row_takes active rows.GivesLui buffer more payload reads is = rw is refl
row_takes active rows.GivesDenial buffer more payload reads is = rw is refl
row_takes active rows.WritesReady buffer more payload reads is = rw is refl
row_takes active rows.AwaitsLur buffer more payload reads is = rw is refl
row_takes active (rows.ReadsFile intake) buffer more payload reads is = absurd (reads intake refl)
row_takes active (rows.WritesProgress intake) buffer more payload reads is = rw is refl
row_takes active (rows.WritesStop end) buffer more payload reads is = rw is refl
row_takes active (rows.WritesCompletion end) buffer more payload reads is = rw is refl

pub no_more : (next : Row) (found : Option Row) → found ≡ None → ◌≡◌ {A = Result (Option Row) Down} (Ok found) (Ok (Some next)) → ⊥
no_more next None none is = cc
no_more next (Some row) none is = cc

pub no_failure : (next : Row) (down : Down) → ◌≡◌ {A = Result (Option Row) Down} (Err down) (Ok (Some next)) → ⊥
no_failure next down is = cc
