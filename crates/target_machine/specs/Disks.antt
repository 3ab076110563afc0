-- What the target's disk has, and what a power loss may leave on it (docs/EXCHANGE.md, "The target"; docs/DISK.md).
use Rattle.std.specs.Prelude.{◌≡◌, ◌⊎◌, ℕ, List, [], Option, Some, None, Result, IfOk, OnOk}
use Rattle.disk_model.specs.Image.{Image}
use Rattle.disk_model.specs.State.{DiskState}
use Rattle.disk_layout.specs.Holds.{HoldsConfig, Outline, StandingView}
use Rattle.accept_rules.specs.Permissions.{Accepts}
use Rattle.bank_store.specs.DiskWrites.{AddsOnly}
use Rattle.bank_store.specs.Keeps.{IsOldOrNew}
use Rattle.bank_store.specs.declared.store.Store.{Store}
use Rattle.session_rules.specs.Contents.{AreKept, SessionContents, TargetContents, session_kept}
use Rattle.session_rules.specs.Target.{Continues, TargetChange, TargetSession, TargetView, turn_decision}
use Rattle.session_rules.specs.TargetRows.{Over, Reads_file, RowView, WholeRow, Writes_progress, row_move, row_moved, row_view}
use Rattle.load_intake.specs.Contents.{AddsAtFirst, BringsRow, BringsTo, InstallsRow}
use Rattle.load_intake.specs.declared.down.Down.{Down}
use Rattle.target_machine.specs.declared.row.Row.{Row}
use Rattle.tftp_link.specs.Answers.{NewsView}
use Rattle.target_machine.specs.Decisions.{TargetState, following}

-- ---- what the disk has

abbrev pub live_row : Option SessionContents → WholeRow
live_row None = Over
live_row (Some x) = x.row

abbrev pub live_arrived : Option SessionContents → List ℕ
live_arrived None = []
live_arrived (Some x) = x.arrived

-- The disk tells its content and holds the active configuration, the store works beside it, and both have what arrived in
-- the live session: from its start on the other bank has each header that was accepted and each other file, whole, and what
-- arrived so far of the next, up to the length that is said of it.
abbrev pub HoldsContents : Store → DiskState → TargetContents → Type 0
HoldsContents store disk c = InstallsRow store disk c.active (live_row c.live) (live_arrived c.live)

-- ---- what a call leaves

-- Whatever a call answers that takes these contents to the next, each image that it adds to what a power loss might leave
-- holds the configuration that was active or the one that is then, and this one only once the clock went on. With Ok the
-- disk holds the next contents, and nothing else may be left than what is active then.
pub record KeepsDisk {T E : Type 0} (old : DiskState) (after : Store) (new : DiskState) (c next : TargetContents) (result : Result T E) : Type 0 where
  pub adds : AddsOnly old new (IsOldOrNew c.active next.active)
  pub first : AddsAtFirst old new (λ left. HoldsConfig left c.active)
  pub holds : OnOk result (HoldsContents after new next)
  pub alone : OnOk result ((left : Image) → new.now left → HoldsConfig left next.active)

-- A target came up on the configuration that the image holds.
pub record StartsOn (v : TargetView) (store : Store) (image : Image) (disk : DiskState) : Type 0 where
  pub active : StandingView
  pub held : HoldsConfig image active
  pub kept : AreKept (record { active = active; live = None }) v
  pub holds : HoldsContents store disk (record { active = active; live = None })

-- ---- how it does so, piece by piece

abbrev pub BringsContents : {T E : Type 0} → DiskState → Store → DiskState → (c next : TargetContents) → Result T E → Type 0
BringsContents old after new c next result = BringsTo old after new c.active next.active (live_row next.live) (live_arrived next.live) result

-- the row that a session comes to, once a transfer of it is over, perhaps by an ERROR
abbrev pub whole_row_then : Accepts → (active : Outline) → SessionContents → (error : Option ℕ) → WholeRow
whole_row_then accepts active x error = row_moved x.row x.arrived (row_move accepts active (row_view x.row) (record { error = error; arriving = (session_kept x).arriving }))

-- the row reads no file of a load, and none is next
abbrev pub IsResting : RowView → Type 0
IsResting (Reads_file u) = ⊥
IsResting (Writes_progress u) = ⊥
IsResting row = Unit {0}

abbrev pub IsAtRest : Option TargetSession → Type 0
IsAtRest None = Unit {0}
IsAtRest (Some s) = IsResting s.row

-- What the end of a transfer leaves of a session that comes to this row. Where the session is over, no file of a load is
-- awaited.
pub record TurnsDisk (old : DiskState) (after : Store) (new : DiskState) (s : StandingView) (row : WholeRow) (result : Result (Option Row) Down) : Type 0 where
  pub brings : BringsRow old after new s row result
  pub rests : IfOk result (λ next. next ≡ None → IsResting (row_view row))

-- A call that makes none of the disk leaves the store as it is, or no file of a load is awaited any more.
abbrev pub KeepsWork : {R : Type 0} → (before after : TargetState R) → Type 0
KeepsWork before after = (after.store ≡ before.store) ⊎ IsAtRest after.view.live

-- what a transfer of the live session that is over changes, perhaps by an ERROR
abbrev pub change_turned : Accepts → TargetView → Option TargetSession → (error : Option ℕ) → TargetChange
change_turned accepts v None error = Continues []
change_turned accepts v (Some s) error = (turn_decision accepts v s [] [] error).change

-- what the news of a transfer change
abbrev pub change_heard : Accepts → TargetView → Option TargetSession → NewsView → TargetChange
change_heard accepts v None news = Continues []
change_heard accepts v (Some s) news = (following accepts v s news).change
