-- Where a clean upload stands, transfer by transfer: its two ends, what was posted, and the datagrams that are next
-- (docs/EXCHANGE.md, "A fault-free run completes").
use Rattle.std.specs.Prelude.{◌≡◌, ◌⊎◌, ℕ, ◌+◌, ◌<◌, ◌≤◌, List, [], ◌∷◌, ◌++◌, length, Bool, true, Option, Some, None, Contains, false}
use Rattle.disk_layout.specs.Holds.{outline_of}
use Rattle.load_base.specs.Config.{LoadView}
use Rattle.load_protocol_files.specs.declared.lur.Wanted.{Wanted}
use Rattle.exchange_trace.specs.declared.trace.Side.{Side}
use Rattle.exchange_trace.specs.declared.trace.Side.TheVariants as sides
use Rattle.exchange_trace.specs.Happenings.{DatagramView}
use Rattle.tftp_packet.specs.declared.options.Options.{Options}
use Rattle.tftp_packet.specs.Packets.{PacketView, Ack}
use Rattle.tftp_link.specs.declared.phase.Phase.TheVariants.{Finished}
use Rattle.tftp_link.specs.Receiver.{Receiver, receiver_asking, receiver_packet}
use Rattle.tftp_link.specs.Sender.{Sender, sender_asking, sender_packet}
use Rattle.transfer_end.specs.Moves.{datagram, request}
use Rattle.transfer_end.specs.Packets.{packet_in}
use Rattle.transfer_end.specs.Transfers.{Reads, Writes, Receives, Sends}
use Rattle.transfer_end.specs.Views.{EndView}
use Rattle.session_rules.specs.declared.outcome.SessionKind.TheVariants.{Upload}
use Rattle.session_rules.specs.Buffers.{buffered}
use Rattle.session_rules.specs.Loader.{LoaderSession, LoaderView, Start}
use Rattle.session_rules.specs.Target.{TargetSession, TargetView, active_in}
use Rattle.session_rules.specs.TargetLog.{standing_after}
use Rattle.session_rules.specs.TargetRows.{RowView, Gives_lui, arriving_of}
use Rattle.replay_rules.specs.BothEnds.{Setting}
use Rattle.replay_rules.specs.Promises.{HasCompleted}
use Rattle.transfer_completion.specs.Laws.{TookLastBlock}
use Rattle.transfer_completion.specs.Positions.{Position, Rests, HasAsked, IsIn, IsBehindIn, StandsIn, heard}
use Rattle.transfer_completion.specs.Talks.{Talk, left_down, left_up, taken_of}
use Rattle.session_completion.specs.Course.{Course, IsStep, asker, cost, cost_behind, file_in, loader_row, next_row, role_in, sender_in}
use Rattle.session_completion.specs.Requests.{is_there, is_own_file}
use Rattle.session_completion.specs.Worlds.{World, last_of, waits}

-- ---- the two ends

-- the end that gets the next datagram, and the one that posted it
pub data Opposite : Side → Side → Type 0 where
  to_loader : Opposite sides.Loader sides.Target
  to_target : Opposite sides.Target sides.Loader

abbrev pub end_at : World → Side → EndView
end_at w sides.Loader = w.loader.end
end_at w sides.Target = w.target.end

-- a request that an end may get
abbrev pub may_ask : Setting → Side → PacketView → Bool
may_ask set sides.Loader = is_there set.media
may_ask set sides.Target = is_own_file set.start.identity

-- A datagram came to an end that stands so: the request of a transfer that it took up, a packet of an earlier transfer, or one
-- of this transfer.
pub data CameInCourse (may : PacketView → Bool) (own peer i : ℕ) (position : Position) (d : DatagramView) : Type 0 where
  as_request : (j : ℕ) (p : PacketView) → packet_in d.bytes ≡ Some p → may p ≡ true → j < heard position i → d.from ≡ peer + j → d.to ≡ 59 → CameInCourse may own peer i position d
  earlier : (j : ℕ) (p : PacketView) → packet_in d.bytes ≡ Some p → j < i → d.from ≡ peer + j → d.to ≡ own + j → CameInCourse may own peer i position d
  here : (p : PacketView) → packet_in d.bytes ≡ Some p → IsBehindIn position p → d.from ≡ peer + i → d.to ≡ own + i → CameInCourse may own peer i position d

abbrev pub IsPosted : List DatagramView → Option DatagramView → Type 0
IsPosted posts last = (d : DatagramView) × (last ≡ Some d) × Contains posts d

-- What holds at each moment: the end that gets the next datagram, in or before transfer i, and the one that posted it, in or
-- before transfer j; what was delivered, and what is ahead.
pub record Meets (set : Setting) (n : ℕ) (c : World) (getter poster : Side) (own peer i j : ℕ) (mine yours : Position) (before ahead : List DatagramView) : Type 0 where
  pub opposite : Opposite getter poster
  pub own_low : 59 < own
  pub peer_low : 59 < peer
  pub me : StandsIn getter c.posts own peer i mine (end_at c getter)
  pub you : StandsIn poster c.posts peer own j yours (end_at c poster)
  pub posts : c.posts ≡ before ++ ahead
  pub count : length before ≡ n
  pub to_me : (d : DatagramView) → Contains before d → d.side ≡ poster → CameInCourse (may_ask set getter) own peer i mine d
  pub to_you : (d : DatagramView) → Contains before d → d.side ≡ getter → CameInCourse (may_ask set poster) peer own j yours d
  pub i_posted : waits c getter ≡ true → IsPosted c.posts (last_of c getter)
  pub you_posted : waits c poster ≡ true → IsPosted c.posts (last_of c poster)
  pub identity : c.target.active.identity ≡ set.start.identity

-- this many ports are left from transfer i on
pub record HasRoom (own peer i ports : ℕ) : Type 0 where
  pub own_ports : own + i + ports ≤ 65536
  pub peer_ports : peer + i + ports ≤ 65536

-- ---- the sessions

abbrev pub starting : Setting → List Wanted → Start
starting set wanted = record { kind = Upload; hw = set.start.identity.hw; pos = set.start.identity.pos; loads = wanted }

abbrev pub loader_session : Setting → List Wanted → RowView → (arrived : List ℕ) → LoaderSession
loader_session set wanted row arrived = record { start = starting set wanted; row = loader_row row; arriving = buffered arrived }

abbrev pub target_session : RowView → (arrived : List ℕ) → TargetSession
target_session row arrived = record { row = row; arriving = arriving_of row arrived }

-- an end's session is in a row of which so much of a file has arrived there
abbrev pub InRow : Setting → List Wanted → World → Side → RowView → (arrived : List ℕ) → Type 0
InRow set wanted c sides.Loader row arrived = c.loader.live ≡ Some (loader_session set wanted row arrived)
InRow set wanted c sides.Target row arrived = (c.target.live ≡ Some (target_session row arrived)) × (c.target.active ≡ active_in (outline_of set.start) row)

-- the target's session before a row: with the first one it begins
abbrev pub TargetBefore : Setting → TargetView → RowView → Type 0
TargetBefore set v Gives_lui = (v.live ≡ None) × (v.active ≡ outline_of set.start)
TargetBefore set v row = (v.live ≡ Some (target_session row [])) × (v.active ≡ active_in (outline_of set.start) row)

abbrev pub LoaderIsDone : LoaderView → Type 0
LoaderIsDone v = (v.live ≡ None) × HasCompleted Upload v.ended

-- ---- the ends of the transfer

abbrev pub HoldsReceiver : Position → Receiver → Type 0
HoldsReceiver position r = (position ≡ IsIn (Receives r)) ⊎ ((name : List ℕ) × (options : Options) × (position ≡ HasAsked (Reads name options)) × (r ≡ receiver_asking name options))

abbrev pub HoldsSender : Position → Sender → Type 0
HoldsSender position s =
    (position ≡ IsIn (Sends s)) ⊎ ((name : List ℕ) × (options : Options) × (file : List ℕ) × (position ≡ HasAsked (Writes name options file)) × (s ≡ sender_asking name file options))

-- the receiving end keeps the transfer whole
pub record KeepsWhole (c : World) (poster : Side) (own peer i : ℕ) (file : List ℕ) (s : Sender) (r : Receiver) : Type 0 where
  pub kept : (end_at c poster).kept ≡ Some (record { own = peer + i; peer = Some (own + i); end = Receives r })
  pub phase : r.phase ≡ Finished
  pub whole : TookLastBlock file s r (Ack s.sent)

-- the transfer of a row leads to another one, for which this end asks
abbrev pub IsStepTo : Setting → List Wanted → List LoadView → (more : ℕ) → RowView → Side → Type 0
IsStepTo set wanted loads more row side = IsStep set wanted row × Course set wanted loads more (next_row set wanted row) × (asker (next_row set wanted row) ≡ side)

-- ---- all stages

-- Where a clean upload stands after n deliveries. This many datagrams more are delivered at most.
pub data Where (set : Setting) (wanted : List Wanted) (loads : List LoadView) (n : ℕ) (c : World) : (budget : ℕ) → Type 0 where
  -- a request is next
  asked : (getter poster : Side) (own peer i : ℕ) (before : List DatagramView) (more : ℕ) (row : RowView) (told : Option ℕ)
      → Meets set n c getter poster own peer i i Rests (HasAsked (role_in set wanted row told)) before (request poster (peer + i) (role_in set wanted row told) ∷ []) → HasRoom own peer i (more + 1)
      → Course set wanted loads more row → asker row ≡ poster → InRow set wanted c sides.Loader row [] → TargetBefore set c.target row
      → Where set wanted loads n c (cost set wanted more row)
  -- a packet to the receiving end is next
  down : (getter poster : Side) (own peer i : ℕ) (mine yours : Position) (before : List DatagramView) (more : ℕ) (row : RowView) (s : Sender) (r : Receiver) (p : PacketView)
      → Meets set n c getter poster own peer i i mine yours before (datagram poster (peer + i) (own + i) p ∷ []) → HasRoom own peer i (more + 1)
      → Course set wanted loads more row → sender_in row ≡ poster → Talk (file_in set wanted row) s r true p → HoldsReceiver mine r → (yours ≡ IsIn (Sends s)) × (p ≡ sender_packet s)
      → InRow set wanted c getter row (taken_of (file_in set wanted row) r) → InRow set wanted c poster row []
      → Where set wanted loads n c (cost_behind set wanted more row + left_down (file_in set wanted row) r p + 1)
  -- a packet to the sending end is next
  up : (getter poster : Side) (own peer i : ℕ) (mine yours : Position) (before : List DatagramView) (more : ℕ) (row : RowView) (s : Sender) (r : Receiver) (p : PacketView)
      → Meets set n c getter poster own peer i i mine yours before (datagram poster (peer + i) (own + i) p ∷ []) → HasRoom own peer i (more + 1)
      → Course set wanted loads more row → sender_in row ≡ getter → Talk (file_in set wanted row) s r false p → HoldsSender mine s → (yours ≡ IsIn (Receives r)) × (p ≡ receiver_packet r)
      → InRow set wanted c getter row [] → InRow set wanted c poster row (taken_of (file_in set wanted row) r)
      → Where set wanted loads n c (cost_behind set wanted more row + left_up (file_in set wanted row) r + 1)
  -- the acknowledgement of the last block is next, and then the sending end asks
  closing : (getter poster : Side) (own peer i : ℕ) (before : List DatagramView) (more : ℕ) (row : RowView) (s : Sender) (r : Receiver)
      → Meets set n c getter poster own peer i (i + 1) (IsIn (Sends s)) Rests before (datagram poster (peer + i) (own + i) (Ack s.sent) ∷ []) → HasRoom own peer i (more + 2)
      → sender_in row ≡ getter → IsStepTo set wanted loads more row getter → KeepsWhole c poster own peer i (file_in set wanted row) s r
      → InRow set wanted c getter row [] → InRow set wanted c poster (next_row set wanted row) []
      → Where set wanted loads n c (cost set wanted more (next_row set wanted row) + 1)
  -- the same, where the receiving end has asked already
  early : (getter poster : Side) (own peer i : ℕ) (before : List DatagramView) (more : ℕ) (row : RowView) (s : Sender) (r : Receiver) (told : Option ℕ)
      → Meets set n c getter poster own peer i (i + 1) (IsIn (Sends s)) (HasAsked (role_in set wanted (next_row set wanted row) told)) before
      (datagram poster (peer + i) (own + i) (Ack s.sent) ∷ request poster (peer + (i + 1)) (role_in set wanted (next_row set wanted row) told) ∷ []) → HasRoom own peer i (more + 2)
      → sender_in row ≡ getter → IsStepTo set wanted loads more row poster → KeepsWhole c poster own peer i (file_in set wanted row) s r
      → InRow set wanted c getter row [] → InRow set wanted c poster (next_row set wanted row) []
      → Where set wanted loads n c (cost set wanted more (next_row set wanted row) + 1)
  -- the last acknowledgement of all is next
  ending : (own peer i : ℕ) (before : List DatagramView) (row : RowView) (s : Sender) (r : Receiver)
      → Meets set n c sides.Target sides.Loader own peer i (i + 1) (IsIn (Sends s)) Rests before (datagram sides.Loader (peer + i) (own + i) (Ack s.sent) ∷ []) → HasRoom own peer i 1
      → Course set wanted loads 0 row → KeepsWhole c sides.Loader own peer i (file_in set wanted row) s r → InRow set wanted c sides.Target row [] → LoaderIsDone c.loader
      → Where set wanted loads n c 1
  -- nothing is next
  over : (own peer i : ℕ) (before : List DatagramView)
      → Meets set n c sides.Target sides.Loader own peer (i + 1) (i + 1) Rests Rests before []
      → LoaderIsDone c.loader → c.target.live ≡ None → c.target.active ≡ outline_of (standing_after set.start loads)
      → Where set wanted loads n c 0
