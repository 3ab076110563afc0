-- An upload in which nothing is lost, repeated or late: datagrams are delivered in the order in which they were posted, each
-- once. Every fault-free run stands, but for its retries, where such an upload stands (docs/EXCHANGE.md, "A fault-free run
-- completes").
use Rattle.std.specs.Prelude.{◌≡◌, ℕ, ◌+◌, ◌<◌, ◌≤◌, List, [], ◌∷◌, ◌++◌, length, true, false, Option, Some, None, Ok, Contains}
use Rattle.std.specs.List.{AllByRecursion}
use Rattle.load_base.specs.Config.{LoadView}
use Rattle.load_protocol_files.specs.declared.lur.Wanted.{Wanted}
use Rattle.disk_layout.specs.Holds.{outline_of}
use Rattle.exchange_trace.specs.declared.trace.Side.TheVariants as sides
use Rattle.exchange_trace.specs.Happenings.{DatagramView, other}
use Rattle.exchange_trace.specs.Logs.{Starts_upload}
use Rattle.exchange_trace.specs.Posts.{numbered}
use Rattle.transfer_end.specs.Views.{TransferView}
use Rattle.session_rules.specs.declared.outcome.SessionKind.TheVariants.{Upload}
use Rattle.session_rules.specs.MediaFiles.{wanted_of}
use Rattle.session_rules.specs.TargetLog.{standing_after}
use Rattle.replay_rules.specs.BothEnds.{Setting}
use Rattle.replay_rules.specs.Promises.{HasCompleted}
use Rattle.session_rules.specs.TargetRows.{Gives_lui}
use Rattle.session_completion.specs.Course.{Course}
use Rattle.session_completion.specs.Worlds.{World, at_loader, delivered, told, retried, waits, last_of}

-- a kept transfer has a port that was drawn before
abbrev pub IsBelow : ℕ → Option TransferView → Type 0
IsBelow port None = Unit {0}
IsBelow port (Some t) = t.own < port

-- Both ends before the start: neither waits, this many ports are left, and the ports that each draws from now on are above
-- the other's mark. What is active at the target is what the setting begins with.
pub record AreEndsIdle (set : Setting) (ports : ℕ) (w : World) : Type 0 where
  pub loader : w.loader.live ≡ None
  pub loader_free : w.loader.end.live ≡ None
  pub target : w.target.live ≡ None
  pub target_free : w.target.end.live ≡ None
  pub posts : w.posts ≡ []
  pub sequence : w.target.active.sequence < 4294967295
  pub loader_ports : w.loader.end.next_port + ports ≤ 65536
  pub target_ports : w.target.end.next_port + ports ≤ 65536
  pub loader_below : w.loader.end.mark < w.target.end.next_port
  pub target_below : w.target.end.mark < w.loader.end.next_port
  pub loader_low : 59 < w.loader.end.next_port
  pub target_low : 59 < w.target.end.next_port
  pub loader_kept : IsBelow w.loader.end.next_port w.loader.end.kept
  pub target_kept : IsBelow w.target.end.next_port w.target.end.kept
  pub active : w.target.active ≡ outline_of set.start

-- This many datagrams were delivered, in the order of their posts. The upload's rows go well, and there are ports for them.
pub data Clean (set : Setting) (loads : List LoadView) : ℕ → World → Type 0 where
  starts : (w : World) (parts : List (List ℕ)) (wanted : List Wanted) (more : ℕ) → AreEndsIdle set (more + 1) w → Course set wanted loads more Gives_lui
      → length parts ≤ 32 → wanted_of set.media.loads parts ≡ Ok wanted
      → Clean set loads 0 (at_loader set w (Starts_upload set.start.identity.hw set.start.identity.pos parts))
  learns : (n : ℕ) (w : World) (size : Option ℕ) → Clean set loads n w → Clean set loads n (told set w size)
  goes : (n : ℕ) (w : World) (d : DatagramView) → Clean set loads n w → numbered w.posts (n + 1) ≡ Some d → Clean set loads (n + 1) (delivered set w d)

-- each of these datagrams is one of those
abbrev pub AreAmong : List DatagramView → List DatagramView → Type 0
AreAmong all ds = AllByRecursion (λ (d : DatagramView). Contains all d) ds

-- A world stands where a clean upload stands after this many deliveries, with this many retries at its ends; whatever was posted
-- in it was posted there.
pub record WorldStandsAt (set : Setting) (loads : List LoadView) (n : ℕ) (c w : World) (loader target : ℕ) : Type 0 where
  pub clean : Clean set loads n c
  pub same : w ≡ retried c loader target w.posts
  pub among : AreAmong c.posts w.posts

-- ---- what brings an upload on

-- the datagram that is next
abbrev pub IsNext : ℕ → World → DatagramView → Type 0
IsNext n c d = numbered c.posts (n + 1) ≡ Some d

-- a tick at its poster posts it again
abbrev pub IsRepeated : World → DatagramView → Type 0
IsRepeated c d = (waits c d.side ≡ true) × (last_of c d.side ≡ Some d)

-- or a tick at the other end posts what its poster answers with it again
pub record IsAnsweredAgain (set : Setting) (c : World) (d : DatagramView) : Type 0 where
  pub asked : DatagramView
  pub waiting : waits c (other d.side) ≡ true
  pub last : last_of c (other d.side) ≡ Some asked
  pub answer : (loader target : ℕ) (posts : List DatagramView) → (delivered set (retried c loader target posts) asked).posts ≡ posts ++ d ∷ []

-- Nothing is next: neither end waits, the loader's upload is completed, and what is active at the target are these loads, and
-- then those that are kept of what was active before.
pub record IsDone (set : Setting) (loads : List LoadView) (c : World) : Type 0 where
  pub loader : waits c sides.Loader ≡ false
  pub target : waits c sides.Target ≡ false
  pub completed : HasCompleted Upload c.loader.ended
  pub active : c.target.active ≡ outline_of (standing_after set.start loads)
