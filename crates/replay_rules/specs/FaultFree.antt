-- Runs of which the last upload may be expected to complete (docs/EXCHANGE.md, "Runs").
use Rattle.std.specs.Prelude.{◌≡◌, ℕ, ◌+◌, ◌<◌, ◌≤◌, List, [], ◌∷◌, ◌++◌, length, true, Option, Some, None, Ok, ⊤}
use Rattle.std.specs.List.{AllByRecursion, AllZip, sum_by}
use Rattle.accept_rules.specs.declared.kept.KeptLoad.{KeptLoad}
use Rattle.accept_rules.specs.Permissions.{Grants}
use Rattle.disk_layout.specs.Contents.{entries_of}
use Rattle.load_base.specs.Config.{LoadView}
use Rattle.load_header.specs.Header.{HeaderView}
use Rattle.load_protocol_files.specs.declared.lur.Wanted.{Wanted}
use Rattle.tftp_packet.specs.Packets.{PacketView}
use Rattle.tftp_link.specs.Answers.{Completes}
use Rattle.exchange_trace.specs.declared.trace.Side.TheVariants as sides
use Rattle.exchange_trace.specs.Happenings.{HappeningView, Delivered, Injected, Power_cut, Booted, Info_started, Upload_started}
use Rattle.exchange_trace.specs.Logs.{Event, Gets, event_for}
use Rattle.exchange_trace.specs.Posts.{posted_in}
use Rattle.exchange_trace.specs.Steps.{Step}
use Rattle.transfer_end.specs.Packets.{heard_answer, packet_in}
use Rattle.transfer_end.specs.Readings.{Reading, next_port_of}
use Rattle.transfer_end.specs.Views.{end_view}
use Rattle.session_rules.specs.declared.outcome.Outcome.TheVariants.{Completed}
use Rattle.session_rules.specs.Loader.{EndedSession}
use Rattle.session_rules.specs.KeptLoads.{with_kept}
use Rattle.session_rules.specs.MediaFiles.{wanted_of}
use Rattle.session_rules.specs.NewConfigs.{AreGoodBeside, AreOfMedia, IsWanted}
use Rattle.session_rules.specs.Uploads.{need_of}
use Rattle.session_rules.specs.TargetRows.{Writes_completion, WholeRow}
use Rattle.session_rules.specs.TargetLog.{TargetReading, TargetSessionLog}
use Rattle.replay_rules.specs.BothEnds.{Setting, TargetStanding, Is_up, Is_down, loader_at, target_at}
use Rattle.replay_rules.specs.Histories.{setting_after}
use Rattle.replay_rules.specs.Runs.{IsQuiet}

-- ---- what must not happen

abbrev pub IsNoInjection : HappeningView → Type 0
IsNoInjection (Injected d) = ⊥
IsNoInjection h = ⊤

abbrev pub NothingInjected : List Step → Type 0
NothingInjected steps = AllByRecursion (λ (s : Step). IsNoInjection s.given) steps

abbrev pub IsNoStart : HappeningView → Type 0
IsNoStart (Info_started hw pos) = ⊥
IsNoStart (Upload_started hw pos parts) = ⊥
IsNoStart h = ⊤

-- no loss of power and no boot, and none of the first datagrams, as many as were posted before, is delivered
abbrev pub IsUndisturbed : (before : ℕ) → HappeningView → Type 0
IsUndisturbed before (Delivered side n) = before < n
IsUndisturbed before (Power_cut calls pick) = ⊥
IsUndisturbed before Booted = ⊥
IsUndisturbed before h = ⊤

-- a step since the start of the upload, before which this many datagrams were posted
pub record IsSmooth (before : ℕ) (s : Step) : Type 0 where
  pub no_start : IsNoStart s.given
  pub undisturbed : IsUndisturbed before s.given
  pub stays_up : s.notes ≡ []

-- ---- how sessions may end

-- the sessions that ended at the loader since these are completed
abbrev pub NewAreCompleted : (before now : List EndedSession) → Type 0
NewAreCompleted before now = (new : List EndedSession) × (now ≡ new ++ before) × AllByRecursion (λ (s : EndedSession). s.outcome ≡ Completed) new

abbrev pub IsInstalledRow : WholeRow → Type 0
IsInstalledRow (Writes_completion e loads) = ⊤
IsInstalledRow row = ⊥

-- what reaches the target is the acknowledgement of the last block of the file that it sends
abbrev pub IsLastAcknowledgement : TargetReading → Option Event → Type 0
IsLastAcknowledgement r (Some (Gets from to bytes)) = (packet : PacketView) × (packet_in bytes ≡ Some packet) × (heard_answer (end_view r.end) from to packet ≡ Completes)
IsLastAcknowledgement r e = ⊥

-- a session of the target goes on, or ends with the acknowledgement of its last LUS, once all is installed
abbrev pub EndsInstalled : TargetReading → Option Event → (before after : Option TargetSessionLog) → Type 0
EndsInstalled r e None after = ⊤
EndsInstalled r e (Some s) (Some next) = ⊤
EndsInstalled r e (Some s) None = IsInstalledRow s.row × IsLastAcknowledgement r e

-- so it is where this reaches the target
abbrev pub EndsWell : (before : TargetStanding) → Option Event → (after : TargetStanding) → Type 0
EndsWell (Is_up r) e (Is_up after) = EndsInstalled r e r.live after.live
EndsWell before e after = ⊥

-- so it is in each of these steps, which follow others
abbrev pub AllEndWell : Setting → (since before : List Step) → Type 0
AllEndWell set [] before = ⊤
AllEndWell set (s ∷ since) before =
    EndsWell (target_at set (since ++ before)) (event_for sides.Target (posted_in (since ++ before)) s.given) (target_at set (s ∷ since ++ before))
    × AllEndWell set since before

-- ---- what is asked for

-- the ports that an upload of these loads takes at either end: three, and for each load one more than it has files, the
-- header among them
abbrev pub ports_for : List LoadView → ℕ
ports_for loads = 3 + sum_by (λ (load : LoadView). length load.files + 1) loads

-- every interlock accepts the header beside these loads, and this one does
abbrev pub IsGranted : Setting → HeaderView → List KeptLoad → Type 0
IsGranted set h kept = (set.accepts h kept ≡ true) × Grants h kept

-- The media set has these loads, each of them good for the target beside what is active at the start. With those that are kept of
-- it they are 32 at most, and together fit the target's bank.
pub record AreServed (set : Setting) (wanted : List Wanted) (loads : List LoadView) : Type 0 where
  pub each : AllZip IsWanted wanted loads
  pub good : AreGoodBeside (IsGranted set) set.start loads
  pub media : AreOfMedia set.media loads
  pub few : length (with_kept loads set.start.loads) ≤ 32
  pub fit : need_of (entries_of (with_kept loads set.start.loads)) ≤ set.start.identity.bank

abbrev pub HasPorts : Reading → (ports : ℕ) → Type 0
HasPorts r ports = next_port_of r + ports ≤ 65536

-- the target is up, with a sequence number that isn't the last, and with this many ports left
abbrev pub IsReadyFor : TargetStanding → (ports : ℕ) → Type 0
IsReadyFor (Is_up r) ports = (r.active.sequence < 4294967295) × HasPorts r.end ports
IsReadyFor (Is_down active interrupted) ports = ⊥

-- The last start is that of an upload to the target, of 1 to 32 parts that the media set has. It began in quiet, and
-- nothing disturbed it since; its loads are good beside what was active then, and enough ports are left.
pub record IsFaultFree (set : Setting) (steps : List Step) : Type 0 where
  pub since : List Step
  pub start : Step
  pub before : List Step
  pub parts : List (List ℕ)
  pub wanted : List Wanted
  pub loads : List LoadView
  pub split : steps ≡ since ++ start ∷ before
  pub injected : NothingInjected steps
  pub starts : start.given ≡ Upload_started set.start.identity.hw set.start.identity.pos parts
  pub some : 1 ≤ length parts
  pub few : length parts ≤ 32
  pub on_media : wanted_of set.media.loads parts ≡ Ok wanted
  pub quiet : IsQuiet set before
  pub smooth : AllByRecursion (IsSmooth (length (posted_in before))) since
  pub stays_up : start.notes ≡ []
  pub loader_ends : NewAreCompleted (loader_at set (start ∷ before)).ended (loader_at set steps).ended
  pub target_ends : AllEndWell set since (start ∷ before)
  pub served : AreServed (setting_after set before) wanted loads
  pub loader_ports : HasPorts (loader_at set before).end (ports_for loads)
  pub target_ready : IsReadyFor (target_at set before) (ports_for loads)
