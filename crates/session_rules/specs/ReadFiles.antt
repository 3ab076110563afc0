-- What a session of the target read, whole and by names (docs/EXCHANGE.md, "Upload").
use Rattle.std.specs.Prelude.{◌≡◌, List, [], ◌∷◌, ◌++◌, Bool, true, false, Option, Some, None, ⊤}
use Rattle.std.specs.List.{AllByRecursion}
use Rattle.load_base.specs.Name.{IsName}
use Rattle.load_protocol_files.specs.declared.lur.Wanted.{Wanted}
use Rattle.transfer_end.specs.OtherEnds.{Among}
use Rattle.transfer_end.specs.Readings.{Reading}
use Rattle.transfer_end.specs.Transfers.{Transfer, end_in, is_reading, is_received}
use Rattle.accept_rules.specs.Permissions.{Accepts}
use Rattle.session_rules.specs.NewConfigs.{request_in}
use Rattle.session_rules.specs.SoundLogs.{IsNewAt}
use Rattle.session_rules.specs.TargetLog.{TargetReading, TargetSessionLog}
use Rattle.session_rules.specs.TargetRows.{Over, WholeRow, Writes_stop}

-- the upload was stopped, or the session is over
abbrev pub is_stopped : WholeRow → Bool
is_stopped (Writes_stop e) = true
is_stopped Over = true
is_stopped row = false

-- each file that was read arrived whole
abbrev pub AreReadWhole : List Transfer → Type 0
AreReadWhole done = (t : Transfer) → Among t done → is_reading t.role ≡ true → is_received (end_in t) ≡ true

-- the headers that are asked for are named
abbrev pub AreNamed : List Wanted → Type 0
AreNamed wanted = AllByRecursion (λ (w : Wanted). IsName w.header) wanted

-- The transfers of a session are over and, unless it was stopped, what it read arrived whole, and what it was asked for has
-- names.
pub record IsReadBy (row : WholeRow) (end : Reading) (done : List Transfer) : Type 0 where
  pub past : (t : Transfer) → Among t done → Among t end.past
  pub whole : is_stopped row ≡ false → AreReadWhole done
  pub named : AreNamed (request_in row)

abbrev pub ReadsIn : Reading → Option TargetSessionLog → Type 0
ReadsIn end None = ⊤
ReadsIn end (Some s) = IsReadBy s.row end s.done

abbrev pub SessionReads : TargetReading → Type 0
SessionReads r = ReadsIn r.end r.live

-- What makes a new configuration are transfers that are over, each file of which arrived whole, for a request with names.
pub record InstallsWhatWasRead (accepts : Accepts) (before after : TargetReading) (new : IsNewAt accepts before after) : Type 0 where
  pub past : (t : Transfer) → Among t (new.session.done ++ new.ended ∷ []) → Among t after.end.past
  pub whole : AreReadWhole (new.session.done ++ new.ended ∷ [])
  pub named : AreNamed new.upload.request
