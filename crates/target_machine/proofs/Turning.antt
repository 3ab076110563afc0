-- What the end of a transfer comes to, of what is installed.
use Rattle.std.proofs.Common.{◌≡◌, List, length, take, Option, Some, Result, Ok, Err, IfOk, OnOk, refl, sym, ap, subst, ◌∙◌, arith}
use Rattle.std.proofs.lemmas.List.{take_at}
use Rattle.disk_model.specs.State.{DiskState}
use Rattle.disk_layout.specs.Holds.{Outline}
use Rattle.disk_layout.specs.Manifest.{LoadEntry, manifest_view}
use Rattle.disk_layout.specs.Slots.{bank_number}
use Rattle.disk_layout.specs.declared.active.Active.{Active}
use Rattle.disk_layout.specs.declared.identity.Identity.{Identity}
use Rattle.disk_layout.specs.declared.manifest.Manifest.{Manifest}
use Rattle.accept_rules.specs.Permissions.{Accepts}
use Rattle.bank_store.specs.Fits.{Fits, Works}
use Rattle.bank_store.specs.Known.{KnowsActive}
use Rattle.bank_store.specs.Store.{SameActive, active_bank, active_sequence, bank_size_of, known_of}
use Rattle.session_rules.specs.KeptLoads.{kept_entries, types_of, with_kept_entries}
use Rattle.bank_store.specs.declared.store.Store.{Store}
use Rattle.session_rules.specs.Target.{active_in, outline_after}
use Rattle.session_rules.specs.TargetRows.{RowView, Writes_completion, done_move, row_after, view_moved}
use Rattle.session_rules.specs.Buffers.{Buffer}
use Rattle.load_intake.specs.declared.down.Down.{Down}
use Rattle.load_intake.specs.declared.ended.UploadEnd.{UploadEnd}
use Rattle.load_intake.specs.Intakes.{end_view}
use Rattle.load_intake.specs.States.{IntakeState}
use Rattle.load_intake.specs.Stores.{InstallsAll}
use Rattle.target_machine.specs.Machine.{arriving_in, next_seen, row_seen}
use Rattle.target_machine.specs.Stages.{InstalledState, IsInstalled, StartsFresh, StaysOn, TurnsTo, outline_kept}
use Rattle.target_machine.specs.declared.row.Row.{Row}
use Rattle.target_machine.specs.declared.row.Row.TheVariants as rows

abbrev outline_with : Identity → Store → List LoadEntry → Outline
outline_with id store loads = record { identity = id; bank = active_bank store; sequence = active_sequence store; loads = loads }

abbrev pub state : Identity → Manifest → Store → InstalledState
state id m store = record { active = outline_kept id m store; store = store }

same_outline : (id : Identity) (m : Manifest) (before after : Store) → SameActive before after → outline_kept id m after ≡ outline_kept id m before
same_outline id m before after same = ap (λ (a : Active). record { identity = id; bank = bank_number a.bank; sequence = a.sequence; loads = manifest_view m }) same.active

pub still_active : (now : InstalledState) (id : Identity) (m : Manifest) (before after : Store) → state id m before ≡ now → SameActive before after → outline_kept id m after ≡ now.active
still_active now id m before after e same = same_outline id m before after same ∙ ap (λ (x : InstalledState). x.active) e

-- the store is still that of the target
pub still_installed : (id : Identity) (m : Manifest) (before after : Store) → bank_size_of after ≡ bank_size_of before → known_of after ≡ known_of before → IsInstalled id m before → IsInstalled id m after
still_installed id m before after size known is = record {
  size = size ∙ is.size;
  few = is.few;
  knows = record { fits = is.knows.fits; known = known ∙ is.knows.known; within = omega (arith, size, is.knows.within) };
}

-- or knows the loads that are installed
pub newly_installed : (id : Identity) (m : Manifest) (before after : Store) (loads : List LoadEntry) → bank_size_of after ≡ bank_size_of before → bank_size_of before ≡ id.bank → manifest_view m ≡ loads → KnowsActive after loads
    → IsInstalled id m after
newly_installed id m before after loads size bank is knows =
    let here : KnowsActive after (manifest_view m) = subst (λ (l : List LoadEntry). KnowsActive after l) (sym is) knows in
    record { size = size ∙ bank; few = here.fits.fits.count; knows = here }

-- a row in which what is active stays
pub turns_same : (now : InstalledState) (id : Identity) (m : Manifest) (before after : Store) (next : Row) (row : Outline → RowView) (kept : RowView) → state id m before ≡ now → SameActive before after
    → row_seen (manifest_view m) next ≡ kept → ((o : Outline) → active_in o kept ≡ o) → StartsFresh (Some next) → kept ≡ row (outline_kept id m before) → TurnsTo (Some next) (row now.active) now (state id m after)
turns_same now id m before after next row kept e same seen stays fresh is =
    subst (λ (x : InstalledState). TurnsTo (Some next) (row x.active) x (state id m after)) e
    (record {
      active = same_outline id m before after same ∙ sym (stays (outline_kept id m before)) ∙ ap (active_in (outline_kept id m before)) is;
      is = seen ∙ is;
      fresh = fresh;
    })

-- the row in which a new configuration is installed
pub turns_new : (now : InstalledState) (id : Identity) (m all : Manifest) (loads : List LoadEntry) (before after : Store) (old new : DiskState) (end : UploadEnd) (row : Outline → RowView) → state id m before ≡ now
    → InstallsAll end loads before after old new → manifest_view all ≡ with_kept_entries loads (manifest_view m) → Writes_completion (end_view end) loads ≡ row (outline_kept id m before)
    → TurnsTo (Some (rows.WritesCompletion end)) (row now.active) now (state id all after)
turns_new now id m all loads before after old new end row e installs made is =
    subst (λ (x : InstalledState). TurnsTo (Some (rows.WritesCompletion end)) (row x.active) x (state id all after)) e
    (record {
      active = new_outline ∙ ap (active_in (outline_kept id m before)) is;
      is = ap (λ (l : List LoadEntry). Writes_completion (end_view end) l) asked ∙ is;
      fresh = tt;
    })
  where
    new_outline : outline_kept id all after ≡ outline_after (outline_kept id m before) loads
    new_outline =
        ap (λ (l : List LoadEntry). outline_with id after l) made ∙ rw (installs.loads_are.installs.bank, installs.loads_are.installs.sequence) refl

    asked : take (length end.request.items) (manifest_view all) ≡ loads
    asked =
        ap (λ (l : List LoadEntry). take (length end.request.items) l) made
        ∙ take_at loads (kept_entries (types_of loads) (manifest_view m)) (length end.request.items) (sym installs.all)

-- an installation is given up beside
pub turns_too : (now mid : InstalledState) (id : Identity) (m : Manifest) (before after : Store) (next : Option Row) (row : RowView) → state id m before ≡ mid → SameActive before after → TurnsTo next row now mid
    → TurnsTo next row now (state id m after)
turns_too now mid id m before after next row e same turns =
    let first : TurnsTo next row now (state id m before) = subst (λ (x : InstalledState). TurnsTo next row now x) (sym e) turns in
    record { active = same_outline id m before after same ∙ first.active; is = first.is; fresh = first.fresh }

pub turns_too_ok : (now mid : InstalledState) (id : Identity) (m : Manifest) (before after : Store) (row : RowView) (result : Result (Option Row) Down) → state id m before ≡ mid → SameActive before after
    → IfOk result (λ next. TurnsTo next row now mid) → IfOk result (λ next. TurnsTo next row now (state id m after))
turns_too_ok now mid id m before after row (Err down) e same turns = tt
turns_too_ok now mid id m before after row (Ok next) e same turns = turns_too now mid id m before after next row e same turns

pub stays_too : (before mid after : Store) (old new : DiskState) → StaysOn before mid old new → (Fits mid new → Fits after new) → (Works mid new → Works after new) → StaysOn before after old new
stays_too before mid after old new stays fits works = record { running = stays.running; fits = λ x. fits (stays.fits x); works = λ x. works (stays.works x) }

pub stays_too_ok : {T : Type 0} (before mid after : Store) (old new : DiskState) (result : Result T Down) → OnOk result (StaysOn before mid old new) → (Fits mid new → Fits after new) → (Works mid new → Works after new)
    → OnOk result (StaysOn before after old new)
stays_too_ok before mid after old new (Err down) stays fits works = tt
stays_too_ok before mid after old new (Ok x) stays fits works = stays_too before mid after old new stays fits works

-- ---- rows that no file decides

module _ (accepts : Accepts) (o : Outline) (active : List LoadEntry) where
  passed_so : (row : Row) (buffer : Buffer) → ((intake : IntakeState) → row ≡ rows.ReadsFile intake → ⊥) → (row ≡ rows.AwaitsLur → ⊥)
      → row_after (row_seen active row) ≡ view_moved (row_seen active row) (arriving_in row buffer) (done_move accepts o (row_seen active row) (arriving_in row buffer))
  passed_so rows.GivesLci buffer reads awaits = refl
  passed_so rows.WritesLcs buffer reads awaits = refl
  passed_so rows.WritesLcl buffer reads awaits = refl
  passed_so rows.GivesLui buffer reads awaits = refl
  passed_so rows.GivesDenial buffer reads awaits = refl
  passed_so rows.WritesReady buffer reads awaits = refl
  passed_so rows.AwaitsLur buffer reads awaits = absurd (awaits refl)
  passed_so (rows.ReadsFile intake) buffer reads awaits = absurd (reads intake refl)
  passed_so (rows.WritesProgress intake) buffer reads awaits = refl
  passed_so (rows.WritesStop end) buffer reads awaits = refl
  passed_so (rows.WritesCompletion end) buffer reads awaits = refl

passed_stays : (o : Outline) (active : List LoadEntry) (row : Row) → active_in o (row_after (row_seen active row)) ≡ o
passed_stays o active rows.GivesLci = refl
passed_stays o active rows.WritesLcs = refl
passed_stays o active rows.WritesLcl = refl
passed_stays o active rows.GivesLui = refl
passed_stays o active rows.GivesDenial = refl
passed_stays o active rows.WritesReady = refl
passed_stays o active rows.AwaitsLur = refl
passed_stays o active (rows.ReadsFile intake) = refl
passed_stays o active (rows.WritesProgress intake) = refl
passed_stays o active (rows.WritesStop end) = refl
passed_stays o active (rows.WritesCompletion end) = refl

-- the row is finished
pub passes : (accepts : Accepts) (now : InstalledState) (session row : Row) (buffer : Buffer) (next : Option Row) → session ≡ row → ((intake : IntakeState) → row ≡ rows.ReadsFile intake → ⊥) → (row ≡ rows.AwaitsLur → ⊥)
    → next_seen now.active.loads next ≡ row_after (row_seen now.active.loads row) → StartsFresh next
    → TurnsTo next (view_moved (row_seen now.active.loads session) (arriving_in session buffer) (done_move accepts now.active (row_seen now.active.loads session) (arriving_in session buffer))) now now
passes accepts now session row buffer next e reads awaits seen fresh =
    subst (λ (x : Row). TurnsTo next (view_moved (row_seen now.active.loads x) (arriving_in x buffer) (done_move accepts now.active (row_seen now.active.loads x) (arriving_in x buffer))) now now) (sym e)
    (subst (λ (x : RowView). TurnsTo next x now now) (passed_so accepts now.active now.active.loads row buffer reads awaits)
    (record { active = sym (passed_stays now.active now.active.loads row); is = seen; fresh = fresh }))

-- a row that a file decides
pub decides : (accepts : Accepts) (now after : InstalledState) (session row : Row) (buffer : Buffer) (next : Option Row) → session ≡ row
    → TurnsTo next (view_moved (row_seen now.active.loads row) (arriving_in row buffer) (done_move accepts now.active (row_seen now.active.loads row) (arriving_in row buffer))) now after
    → TurnsTo next (view_moved (row_seen now.active.loads session) (arriving_in session buffer) (done_move accepts now.active (row_seen now.active.loads session) (arriving_in session buffer))) now after
decides accepts now after session row buffer next e turns =
    subst (λ (x : Row). TurnsTo next (view_moved (row_seen now.active.loads x) (arriving_in x buffer) (done_move accepts now.active (row_seen now.active.loads x) (arriving_in x buffer))) now after) (sym e) turns

pub stays_on_ok : {T : Type 0} (before mid after : Store) (old between new : DiskState) (result : Result T Down) → StaysOn before mid old between → OnOk result (StaysOn mid after between new) → OnOk result (StaysOn before after old new)
stays_on_ok before mid after old between new (Err down) first later = tt
stays_on_ok before mid after old between new (Ok x) first later = record { running = later.running; fits = λ f. later.fits (first.fits f); works = λ w. later.works (first.works w) }
