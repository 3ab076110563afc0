-- How each log of a target keeps its session sound, so that the configuration changes only by a good verdict
-- (docs/EXCHANGE.md, "Upload").
use Rattle.std.specs.Prelude.{◌≡◌, ◌⊎◌, ℕ, List, [], ◌∷◌, ◌++◌, true, Option, Some, None, ⊤}
use Rattle.std.specs.List.{AllByRecursion}
use Rattle.field_grammar.specs.Grammar.{IsBytes}
use Rattle.load_base.specs.Config.{FileView, LoadView}
use Rattle.disk_layout.specs.Holds.{StandingView}
use Rattle.exchange_trace.specs.Logs.{Event, Gets}
use Rattle.transfer_end.specs.Transfers.{Transfer}
use Rattle.accept_rules.specs.Permissions.{Accepts, AcceptsPermitted}
use Rattle.session_rules.specs.LoaderLog.{newest}
use Rattle.session_rules.specs.NewConfigs.{IsNewConfig, reads_in}
use Rattle.session_rules.specs.Roles.{LiveFits}
use Rattle.session_rules.specs.Soundness.{IsSoundRow}
use Rattle.session_rules.specs.TargetLog.{TargetReading, TargetSessionLog, standing_after, target_reading, with_done}
use Rattle.session_rules.specs.TargetRows.{UploadEnd, WholeRow, Writes_completion, row_view}

-- what comes in datagrams are bytes
abbrev pub EventIsBytes : Event → Type 0
EventIsBytes (Gets from to bytes) = IsBytes bytes
EventIsBytes event = ⊤

abbrev pub LogIsBytes : List Event → Type 0
LogIsBytes log = AllByRecursion EventIsBytes log

-- A row beside what is active now. Once its configuration is installed, another is active than it was judged beside, and nothing
-- more is said of it: what was said of it is said of that moment (`IsNewAt`).
abbrev pub IsSoundOrInstalled : Accepts → (active : StandingView) → List FileView → WholeRow → Type 0
IsSoundOrInstalled accepts active reads (Writes_completion e loads) = ⊤
IsSoundOrInstalled accepts active reads row = IsSoundRow accepts active reads row

-- The row of a session is made of exactly what was asked for and read, and the transfer that is live is the one that the
-- row asks for.
pub record IsSoundSession (accepts : Accepts) (active : StandingView) (live : Option Transfer) (s : TargetSessionLog) : Type 0 where
  pub row : IsSoundOrInstalled accepts active (reads_in s.done) s.row
  pub role : LiveFits (row_view s.row) live

abbrev pub SoundIn : Accepts → (active : StandingView) → Option Transfer → Option TargetSessionLog → Type 0
SoundIn accepts active live None = ⊤
SoundIn accepts active live (Some s) = IsSoundSession accepts active live s

abbrev pub SessionIsSound : Accepts → TargetReading → Type 0
SessionIsSound accepts r = SoundIn accepts r.active r.end.live r.live

-- The transfer that ended now makes the verdict good, and what is active then is what follows from what the session asked for and
-- read: the loads of these, and then those that are kept.
pub record IsNewAt (accepts : Accepts) (before after : TargetReading) : Type 0 where
  pub session : TargetSessionLog
  pub live : before.live ≡ Some session
  pub ended : Transfer
  pub is_newest : newest after.end.past ≡ ended ∷ []
  pub upload : UploadEnd
  pub loads : List LoadView
  pub good : (with_done accepts before.active session (ended ∷ [])).row ≡ Writes_completion upload loads
  pub new : IsNewConfig (λ h kept. accepts h kept ≡ true) before.active upload.request (reads_in (session.done ++ ended ∷ [])) loads
  pub next : after.active ≡ standing_after before.active loads

abbrev pub StaysOrIsNew : Accepts → (before after : TargetReading) → Type 0
StaysOrIsNew accepts before after = (after.active ≡ before.active) ⊎ IsNewAt accepts before after

-- Whatever comes to a target since it came up, what is active stays, or becomes the new configuration of a good verdict.
abbrev pub ChangesByVerdict : Type 0
ChangesByVerdict = (accepts : Accepts) (first_port : ℕ) (active : StandingView) (log : List Event) (e : Event)
    → AcceptsPermitted accepts → LogIsBytes (e ∷ log)
    → StaysOrIsNew accepts (target_reading accepts first_port active log) (target_reading accepts first_port active (e ∷ log))
