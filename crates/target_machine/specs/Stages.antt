-- How far an installation is in each row, and what is installed (docs/EXCHANGE.md, "The target").
use Rattle.std.specs.Prelude.{◌≡◌, ◌≤◌, [], length, Option, Some, None}
use Rattle.disk_model.specs.State.{DiskState}
use Rattle.disk_layout.specs.Holds.{Outline}
use Rattle.disk_layout.specs.Manifest.{manifest_view}
use Rattle.disk_layout.specs.declared.identity.Identity.{Identity}
use Rattle.disk_layout.specs.declared.manifest.Manifest.{Manifest}
use Rattle.bank_store.specs.DiskWrites.{IsRunning}
use Rattle.bank_store.specs.Fits.{Fits, Works}
use Rattle.bank_store.specs.Known.{KnowsActive}
use Rattle.bank_store.specs.Store.{IsIdle, IsPrepared, IsSpent, active_bank, active_sequence, bank_size_of}
use Rattle.bank_store.specs.declared.store.Store.{Store}
use Rattle.session_rules.specs.Target.{active_in}
use Rattle.session_rules.specs.TargetRows.{RowView}
use Rattle.load_intake.specs.Intakes.{IsFresh, with_more}
use Rattle.load_intake.specs.States.{IntakeState}
use Rattle.load_intake.specs.Stores.{IsInStep}
use Rattle.target_machine.specs.Machine.{next_seen}
use Rattle.target_machine.specs.declared.row.Row.{Row}
use Rattle.target_machine.specs.declared.row.Row.TheVariants as rows
use Rattle.target_machine.specs.declared.session.LiveSession.{LiveSession}

-- ---- what is installed

-- the active configuration, without its contents, and the store
pub record InstalledState : Type 0 where
  pub active : Outline
  pub store : Store

abbrev pub outline_kept : Identity → Manifest → Store → Outline
outline_kept id m store = record { identity = id; bank = active_bank store; sequence = active_sequence store; loads = manifest_view m }

-- the store has banks of the target's size, and knows the loads, at most 32
pub record IsInstalled (id : Identity) (m : Manifest) (store : Store) : Type 0 where
  pub size : bank_size_of store ≡ id.bank
  pub few : length (manifest_view m) ≤ 32
  pub knows : KnowsActive store (manifest_view m)

-- ---- how far an installation is

-- one can begin
pub record CanBegin (store : Store) : Type 0 where
  pub prepared : IsPrepared store
  pub goes_on : ¬ IsSpent store

-- a file of a load arrives
pub record IsReading (intake : IntakeState) (store : Store) : Type 0 where
  pub step : IsInStep intake store
  pub calm : with_more intake [] ≡ intake

-- an upload between two loads: its intake holds no bytes
pub record IsBetween (intake : IntakeState) (store : Store) : Type 0 where
  pub reads : IsReading intake store
  pub fresh : IsFresh intake
  pub empty : intake.held ≡ 0

-- how far it is in a row
abbrev pub IsRowStage : Row → Store → Type 0
IsRowStage rows.GivesLui store = CanBegin store
IsRowStage rows.WritesReady store = CanBegin store
IsRowStage rows.AwaitsLur store = CanBegin store
IsRowStage (rows.ReadsFile intake) store = IsReading intake store
IsRowStage (rows.WritesProgress intake) store = IsBetween intake store
IsRowStage row store = IsIdle store

-- in the next row, or where the session is over
abbrev pub IsNextStage : Option Row → Store → Type 0
IsNextStage None store = IsIdle store
IsNextStage (Some row) store = IsRowStage row store

-- no installation is begun but in a row of an upload
abbrev pub IsInStage : Option LiveSession → Store → Type 0
IsInStage None store = IsIdle store
IsInStage (Some s) store = IsRowStage s.row store

-- nothing has arrived in the next row
abbrev pub StartsFresh : Option Row → Type 0
StartsFresh (Some (rows.ReadsFile intake)) = IsFresh intake
StartsFresh next = Unit {0}

-- ---- what calls do

-- The row is this one, in which nothing has arrived, and with it this is active.
pub record TurnsTo (next : Option Row) (row : RowView) (before after : InstalledState) : Type 0 where
  pub active : after.active ≡ active_in before.active row
  pub is : next_seen after.active.loads next ≡ row
  pub fresh : StartsFresh next

-- The store goes on as that of the disk, which runs.
pub record StaysOn (before after : Store) (old new : DiskState) : Type 0 where
  pub running : IsRunning new
  pub fits : Fits before old → Fits after new
  pub works : Works before old → Works after new
