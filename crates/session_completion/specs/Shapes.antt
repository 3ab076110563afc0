-- How the two ends of a clean upload stand, and of what kind each datagram is that was posted (docs/EXCHANGE.md, "A
-- fault-free run completes").
use Rattle.std.specs.Prelude.{◌≡◌, ◌⊎◌, ℕ, ◌<◌, List, Bool, true, Contains}
use Rattle.load_base.specs.Config.{LoadView}
use Rattle.exchange_trace.specs.declared.trace.Side.{Side}
use Rattle.exchange_trace.specs.declared.trace.Side.TheVariants as sides
use Rattle.exchange_trace.specs.Happenings.{DatagramView}
use Rattle.exchange_trace.specs.Logs.{Gets}
use Rattle.tftp_packet.specs.Packets.{PacketView}
use Rattle.replay_rules.specs.BothEnds.{Setting}
use Rattle.transfer_completion.specs.Positions.{Position, StandsIn, IsPast}
use Rattle.session_completion.specs.Clean.{Clean, IsNext}
use Rattle.session_completion.specs.Requests.{is_there, is_own_file, is_write}
use Rattle.session_completion.specs.Retries.{loader_retries, target_retries}
use Rattle.session_completion.specs.Worlds.{World}

abbrev pub always : PacketView → Bool
always p = true

-- Each end stands in a transfer, or between two; each datagram that was posted to it is the next one, or behind it.
pub record HasShape (set : Setting) (n : ℕ) (c : World) : Type 0 where
  pub loader_port : ℕ
  pub target_port : ℕ
  pub loader_low : 59 < loader_port
  pub target_low : 59 < target_port
  pub loader_at : ℕ
  pub target_at : ℕ
  pub loader_stands : Position
  pub target_stands : Position
  pub identity : c.target.active.identity ≡ set.start.identity
  pub loader : StandsIn sides.Loader c.posts loader_port target_port loader_at loader_stands c.loader.end
  pub target : StandsIn sides.Target c.posts target_port loader_port target_at target_stands c.target.end
  pub to_loader : (d : DatagramView) → Contains c.posts d → d.side ≡ sides.Target
      → IsNext n c d ⊎ IsPast (is_there set.media) always loader_port target_port loader_at loader_stands d
  pub to_target : (d : DatagramView) → Contains c.posts d → d.side ≡ sides.Loader
      → IsNext n c d ⊎ IsPast (is_own_file set.start.identity) is_write target_port loader_port target_at target_stands d

abbrev pub AllHaveShape : Type 0
AllHaveShape = (set : Setting) (loads : List LoadView) (n : ℕ) (c : World) → Clean set loads n c → HasShape set n c

-- The datagram was awaited, so that it sets the retries to 0.
abbrev pub ResetsAt : Setting → World → DatagramView → Side → Type 0
ResetsAt set c d sides.Target = (r : ℕ) → loader_retries set.media c.loader (Gets d.from d.to d.bytes) r ≡ 0
ResetsAt set c d sides.Loader = (r : ℕ) → target_retries set.accepts c.target (Gets d.from d.to d.bytes) r ≡ 0

abbrev pub NextResets : Type 0
NextResets = (set : Setting) (loads : List LoadView) (n : ℕ) (c : World) (d : DatagramView) → Clean set loads n c → IsNext n c d → ResetsAt set c d d.side
