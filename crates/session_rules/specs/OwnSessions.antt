-- The loader's live session is that of the newest start, and its request asks for that start's loads (docs/EXCHANGE.md, "The
-- loader").
use Rattle.std.specs.Prelude.{◌≡◌, ◌≤◌, List, [], ◌∷◌, ◌++◌, length, true, false, Option, Some, None, Ok, ⊤}
use Rattle.std.specs.List.{AllByRecursion}
use Rattle.tftp_packet.specs.Packets.{PacketView}
use Rattle.exchange_trace.specs.Logs.{Event, Starts_info, Starts_upload}
use Rattle.transfer_end.specs.Moves.{past_with}
use Rattle.transfer_end.specs.OtherEnds.{Among, is_asking}
use Rattle.transfer_end.specs.Transfers.{Transfer}
use Rattle.session_rules.specs.declared.outcome.SessionKind.TheVariants.{Info, Upload}
use Rattle.session_rules.specs.Loader.{Start}
use Rattle.session_rules.specs.LoaderLog.{SessionLog, loader_reading}
use Rattle.session_rules.specs.LoaderRoles.{IsNoError, WritesLur, loader_row}
use Rattle.session_rules.specs.LoaderRows.{LoaderRow, Serves_files, Takes_lcl, Takes_lcs}
use Rattle.session_rules.specs.MediaFiles.{Media, wanted_of}
use Rattle.session_rules.specs.Sessions.{started_by}

-- ---- the request

-- One of these transfers, the newest first, wrote the request for the loads of a start, and got an answer that is no ERROR; the
-- loader served all since.
pub record RequestWritten (start : Start) (mine : List Transfer) : Type 0 where
  pub since : List Transfer
  pub request : Transfer
  pub before : List Transfer
  pub split : mine ≡ since ++ request ∷ before
  pub serves : AllByRecursion (λ (t : Transfer). is_asking t.role ≡ false) since
  pub writes : WritesLur start request.role
  pub packet : PacketView
  pub heard : Among packet request.got
  pub no_error : IsNoError packet

-- In one of these transfers the loader asked, and got an answer that is no ERROR.
pub record WasAnswered (mine : List Transfer) : Type 0 where
  pub request : Transfer
  pub among : Among request mine
  pub asks : is_asking request.role ≡ true
  pub packet : PacketView
  pub heard : Among packet request.got
  pub no_error : IsNoError packet

-- what the transfers of a session have come to by its row: the target answered once it may tell what is installed, and the
-- request is written once files are served
abbrev pub HasComeTo : Start → LoaderRow → List Transfer → Type 0
HasComeTo start Takes_lcs mine = WasAnswered mine
HasComeTo start Takes_lcl mine = WasAnswered mine
HasComeTo start Serves_files mine = RequestWritten start mine
HasComeTo start row mine = ⊤

-- ---- the start

-- an event starts a session so: an upload asks for the media set's entries of its parts, 32 at most
abbrev pub IsStartedBy : Media → Event → Start → Type 0
IsStartedBy media (Starts_info hw pos) start = start.kind ≡ Info
IsStartedBy media (Starts_upload hw pos parts) start = (start.kind ≡ Upload) × (length parts ≤ 32) × (wanted_of media.loads parts ≡ Ok start.loads)
IsStartedBy media event start = ⊥

-- none of these events starts a session
abbrev pub HasNoStart : List Event → Type 0
HasNoStart events = AllByRecursion (λ (e : Event). started_by e ≡ []) events

-- The session is that of the newest start of the log. None has ended since, and what is over since are its own transfers.
pub record IsOfNewestStart (media : Media) (log : List Event) (s : SessionLog) : Type 0 where
  pub since : List Event
  pub event : Event
  pub before : List Event
  pub split : log ≡ since ++ event ∷ before
  pub newest : HasNoStart since
  pub started : IsStartedBy media event s.start
  pub ended : (loader_reading media log).ended ≡ (loader_reading media (event ∷ before)).ended
  pub mine : List Transfer
  pub past : (loader_reading media log).end.past ≡ mine ++ past_with (loader_reading media before).end.live (loader_reading media before).end.past
  pub come_to : HasComeTo s.start (loader_row s) mine

abbrev pub LiveIsOfNewestStart : Media → List Event → Option SessionLog → Type 0
LiveIsOfNewestStart media log None = ⊤
LiveIsOfNewestStart media log (Some s) = IsOfNewestStart media log s

-- So it is of the live session of each log of the loader.
abbrev pub SessionsAreOfNewestStarts : Type 0
SessionsAreOfNewestStarts = (media : Media) (log : List Event) → LiveIsOfNewestStart media log (loader_reading media log).live
