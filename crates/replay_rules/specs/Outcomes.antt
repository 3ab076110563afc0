-- By what each session of a run comes to its outcome, whatever comes (docs/EXCHANGE.md, "The loader").
use Rattle.std.specs.Prelude.{◌≡◌, ℕ, ◌<◌, ◌≤◌, List, [], ◌∷◌, ◌++◌, length, Some, Err, ⊤}
use Rattle.std.specs.List.{AllByRecursion}
use Rattle.tftp_packet.specs.Packets.{PacketView}
use Rattle.tftp_link.specs.Answers.{Fails, TakesLast}
use Rattle.exchange_trace.specs.declared.trace.Side.TheVariants as sides
use Rattle.exchange_trace.specs.Logs.{Event, Gets, Starts_info, Starts_upload, Ticks, event_for}
use Rattle.exchange_trace.specs.Posts.{posted_in}
use Rattle.exchange_trace.specs.Steps.{Step}
use Rattle.transfer_end.specs.Packets.{packet_in}
use Rattle.transfer_end.specs.Readings.{next_port_of}
use Rattle.transfer_end.specs.Transfers.{Transfer, arrived_of, end_answer, end_in}
use Rattle.session_rules.specs.declared.outcome.Outcome.{Outcome}
use Rattle.session_rules.specs.declared.outcome.Outcome.TheVariants.{GaveUp, NotOnMedia, PeerError, PortsSpent, Replaced, TooMany}
use Rattle.session_rules.specs.Buffers.{buffered}
use Rattle.session_rules.specs.Loader.{EndedSession}
use Rattle.session_rules.specs.LoaderLog.{LoaderReading, SessionLog}
use Rattle.session_rules.specs.LoaderRoles.{loader_row}
use Rattle.session_rules.specs.LoaderRows.{Comes_to, file_turn}
use Rattle.session_rules.specs.MediaFiles.{Media, wanted_of}
use Rattle.replay_rules.specs.BothEnds.{Setting, loader_at}

-- A file arrived whole: with this packet the live transfer took its last block, and in the session's row the file comes to this
-- outcome.
pub record ComesOfFile (r : LoaderReading) (e : Event) (outcome : Outcome) : Type 0 where
  pub session : SessionLog
  pub live : r.live ≡ Some session
  pub transfer : Transfer
  pub going : r.end.live ≡ Some transfer
  pub from : ℕ
  pub to : ℕ
  pub bytes : List ℕ
  pub packet : PacketView
  pub block : List ℕ
  pub gets : e ≡ Gets from to bytes
  pub spells : packet_in bytes ≡ Some packet
  pub last : end_answer (end_in transfer) packet ≡ TakesLast block
  pub comes_to : file_turn (loader_row session) (buffered (arrived_of transfer ++ block)) ≡ Comes_to outcome

-- an ERROR with this code ended the live transfer
pub record ComesOfError (r : LoaderReading) (e : Event) (code : ℕ) : Type 0 where
  pub transfer : Transfer
  pub going : r.end.live ≡ Some transfer
  pub from : ℕ
  pub to : ℕ
  pub bytes : List ℕ
  pub packet : PacketView
  pub gets : e ≡ Gets from to bytes
  pub spells : packet_in bytes ≡ Some packet
  pub fails : end_answer (end_in transfer) packet ≡ Fails code

-- a session is started
abbrev pub IsStart : Event → Type 0
IsStart (Starts_info hw pos) = ⊤
IsStart (Starts_upload hw pos parts) = ⊤
IsStart event = ⊥

-- By what a session comes to its outcome, where this reaches the loader.
pub data OutcomeHasCause (media : Media) (r : LoaderReading) (e : Event) : Outcome → Type 0 where
  -- completed, denied or stopped, or a bad file
  of_file : (outcome : Outcome) → ComesOfFile r e outcome → OutcomeHasCause media r e outcome
  of_error : (code : ℕ) → ComesOfError r e code → OutcomeHasCause media r e (PeerError code)
  -- a tick after five retries
  gave_up : e ≡ Ticks → 5 ≤ r.end.ticks → OutcomeHasCause media r e GaveUp
  was_replaced : IsStart e → OutcomeHasCause media r e Replaced
  -- no port is left to draw
  no_port : 65536 ≤ next_port_of r.end → OutcomeHasCause media r e PortsSpent
  too_many : (hw pos : List ℕ) (parts : List (List ℕ)) → e ≡ Starts_upload hw pos parts → 32 < length parts → OutcomeHasCause media r e TooMany
  not_on_media : (hw pos : List ℕ) (parts : List (List ℕ)) (part : List ℕ) → e ≡ Starts_upload hw pos parts → wanted_of media.loads parts ≡ Err part → OutcomeHasCause media r e (NotOnMedia part)

-- a session that ends in a step comes so to its outcome, by what reaches the loader in it
pub record EndsByCause (set : Setting) (s : Step) (earlier : List Step) (session : EndedSession) : Type 0 where
  pub event : Event
  pub reaches : event_for sides.Loader (posted_in earlier) s.given ≡ Some event
  pub cause : OutcomeHasCause set.media (loader_at set earlier) event session.outcome

-- so it is of all sessions that end in these steps
abbrev pub AllEndByCause : Setting → List Step → Type 0
AllEndByCause set [] = ⊤
AllEndByCause set (s ∷ earlier) =
    ((ends : List EndedSession) × ((loader_at set (s ∷ earlier)).ended ≡ ends ++ (loader_at set earlier).ended) × AllByRecursion (EndsByCause set s earlier) ends)
    × AllEndByCause set earlier

-- In every run, whatever comes.
abbrev pub OutcomesHaveCauses : Type 0
OutcomesHaveCauses = (set : Setting) (steps : List Step) → AllEndByCause set steps
