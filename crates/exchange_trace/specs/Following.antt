-- What following a script means (docs/FORMATS.md, "Script").
use Rattle.std.specs.Prelude.{◌≡◌, ℕ, zero, suc, List, [], ◌∷◌, length, Bool, Option, Some, None, option_map, if◌then◌else◌, ⊤}
use Rattle.exchange_trace.specs.declared.trace.Side.{Side}
use Rattle.exchange_trace.specs.declared.trace.Side.TheVariants as sides
use Rattle.exchange_trace.specs.Happenings.{DatagramView, HappeningView, Delivered, Lost, Injected, Ticked, Size_told, Power_cut, Booted, Info_started, Upload_started, Ended, other}
use Rattle.exchange_trace.specs.Steps.{Step}
use Rattle.exchange_trace.specs.Posts.{posted_in, happenings_of, numbered, undelivered, was_delivered}
use Rattle.exchange_trace.specs.Lines.{Line, Info, Upload, Give, Lose, Next, Tick, Inject, Power, Boot, Blksize, Finish}

-- what is left of the line that is being followed
pub data Rest : Type 0 where
  Nothing_left : Rest
  Deliveries : ℕ → Rest  -- of `next`: this many more
  Finishing : (first : Side) → Rest  -- of `finish`: whose turn it is to be ticked

-- what is left of a script
pub record Plan : Type 0 where
  pub rest : Rest
  pub lines : List Line

abbrev pub plan_of : List Line → Plan
plan_of lines = record { rest = Nothing_left; lines = lines }

-- what decides how a script goes on: what was posted, what happened, and which sides have a live session
pub record Scene : Type 0 where
  pub posted : List DatagramView
  pub happenings : List HappeningView
  pub loader_waits : Bool
  pub target_waits : Bool

-- what happens, and what is left of the script then
pub record Turn : Type 0 where
  pub given : HappeningView
  pub plan : Plan

abbrev pub turn : HappeningView → Rest → List Line → Turn
turn h rest lines = record { given = h; plan = record { rest = rest; lines = lines } }

-- a datagram is delivered to the side that didn't post it
abbrev pub delivery : Scene → ℕ → Option HappeningView
delivery s n = option_map (λ d. Delivered (other d.side) n) (numbered s.posted n)

-- a datagram that was posted and never delivered may be lost, also for a second time
abbrev pub loss : Scene → ℕ → Option HappeningView
loss s n = if was_delivered n s.happenings then None else option_map (λ d. Lost n) (numbered s.posted n)

abbrev pub delivery_of_first : Scene → List ℕ → Option HappeningView
delivery_of_first s [] = None
delivery_of_first s (n ∷ numbers) = delivery s n

-- the undelivered datagram with the least number is delivered, if there is one
abbrev pub least_delivery : Scene → Option HappeningView
least_delivery s = delivery_of_first s (undelivered (length s.posted) s.happenings)

abbrev pub waits : Scene → Side → Bool
waits s sides.Loader = s.loader_waits
waits s sides.Target = s.target_waits

-- the side that is ticked: the one whose turn it is, or else the other, if it waits
abbrev pub ticked_side : Scene → Side → Option Side
ticked_side s first =
    if waits s first then Some first
    else if waits s (other first) then Some (other first)
    else None

-- ---- a line goes on

abbrev pub delivered_next : ℕ → List Line → Option HappeningView → Option Turn
delivered_next k lines happening = option_map (λ h. turn h (Deliveries k) lines) happening

-- the turn passes to the side that wasn't ticked
abbrev pub finishing_tick : List Line → Option Side → Option Turn
finishing_tick lines side = option_map (λ whose. turn (Ticked whose) (Finishing (other whose)) lines) side

abbrev pub finishing : Scene → Side → List Line → Option HappeningView → Option Turn
finishing s first lines (Some h) = Some (turn h (Finishing first) lines)
finishing s first lines None = finishing_tick lines (ticked_side s first)

-- what is left of a line gives something, or the line is done
abbrev pub goes_on : Scene → Rest → List Line → Option Turn
goes_on s Nothing_left lines = None
goes_on s (Deliveries zero) lines = None
goes_on s (Deliveries (suc k)) lines = delivered_next k lines (least_delivery s)
goes_on s (Finishing first) lines = finishing s first lines (least_delivery s)

-- ---- a line begins

abbrev pub once : List Line → Option HappeningView → Option Turn
once lines happening = option_map (λ h. turn h Nothing_left lines) happening

-- the first that a line gives; some lines give nothing
abbrev pub begins : Scene → Line → List Line → Option Turn
begins s (Info hw pos) lines = once lines (Some (Info_started hw pos))
begins s (Upload hw pos parts) lines = once lines (Some (Upload_started hw pos parts))
begins s (Give n) lines = once lines (delivery s n)
begins s (Lose n) lines = once lines (loss s n)
begins s (Next k) lines = goes_on s (Deliveries k) lines
begins s (Tick side) lines = once lines (Some (Ticked side))
begins s (Inject d) lines = once lines (Some (Injected d))
begins s (Power calls pick) lines = once lines (Some (Power_cut calls pick))
begins s Boot lines = once lines (Some Booted)
begins s (Blksize size) lines = once lines (Some (Size_told size))
begins s Finish lines = goes_on s (Finishing sides.Loader) lines

abbrev pub or_else : Option Turn → Turn → Turn
or_else (Some t) later = t
or_else None later = later

-- the lines in their order, and after the last one the end
abbrev pub from_lines : Scene → List Line → Turn
from_lines s [] = turn Ended Nothing_left []
from_lines s (line ∷ lines) = or_else (begins s line lines) (from_lines s lines)

-- what happens next
abbrev pub next_turn : Scene → Plan → Turn
next_turn s p = or_else (goes_on s p.rest p.lines) (from_lines s p.lines)

-- ---- a whole trace

-- the scene after steps, where `waiting` says which sides have a live session then
abbrev pub scene_after : (waiting : Side → List Step → Bool) → List Step → Scene
scene_after waiting steps = record { posted = posted_in steps; happenings = happenings_of steps; loader_waits = waiting sides.Loader steps; target_waits = waiting sides.Target steps }

-- what is left of the script after steps
abbrev pub plan_after : (waiting : Side → List Step → Bool) → List Line → List Step → Plan
plan_after waiting script [] = plan_of script
plan_after waiting script (s ∷ earlier) = (next_turn (scene_after waiting earlier) (plan_after waiting script earlier)).plan

-- Each happening is the one that the script gives there.
abbrev pub FollowsScript : (waiting : Side → List Step → Bool) → List Line → List Step → Type 0
FollowsScript waiting script [] = ⊤
FollowsScript waiting script (s ∷ earlier) =
    (s.given ≡ (next_turn (scene_after waiting earlier) (plan_after waiting script earlier)).given) × FollowsScript waiting script earlier
