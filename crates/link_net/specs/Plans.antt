-- A script that is being followed, as the code keeps it.
use Rattle.std.specs.Prelude.{◌≡◌, ℕ, List, length, Option, Some, None, option_map, drop, IfSome, ⊤}
use Rattle.exchange_trace.specs.Happenings as happenings
use Rattle.exchange_trace.specs.Happenings.{HappeningView, happening_view}
use Rattle.exchange_trace.specs.Lines as spec
use Rattle.exchange_trace.specs.Following as following
use Rattle.exchange_trace.specs.Following.{Plan}
use Rattle.link_net.specs.declared.line.Line.{Line}
use Rattle.link_net.specs.declared.turn.Rest.{Rest}
use Rattle.link_net.specs.declared.turn.Rest.TheVariants as rests
use Rattle.link_net.specs.declared.turn.Turn.{Turn}
use Rattle.link_net.specs.Lines.{line_views}
use Rattle.link_net.specs.Mail.{MailView, NamesPosted}

abbrev pub rest_view : Rest → following.Rest
rest_view rests.Nothing = following.Nothing_left
rest_view (rests.Deliveries left) = following.Deliveries left
rest_view (rests.Finishing first) = following.Finishing first

-- what is left of a script, of which the line at this offset comes next
abbrev pub plan_at : Rest → List Line → ℕ → Plan
plan_at rest lines next = record { rest = rest_view rest; lines = line_views (drop next lines) }

-- the turn, where these lines come later
abbrev pub turn_view : List spec.Line → Turn → following.Turn
turn_view later t = following.turn (happening_view t.given) (rest_view t.rest) later

-- What was found is the turn that is said, whatever lines come later, and names only what was posted.
pub record IsTurn (mail : MailView) (found : Option Turn) (said : List spec.Line → Option following.Turn) : Type 0 where
  pub turn : (later : List spec.Line) → option_map (turn_view later) found ≡ said later
  pub named : IfSome found (λ t. NamesPosted (length mail.posted) (happening_view t.given))

-- Giving it takes memory, since it has a copy of what its line carries.
abbrev pub TakesMemory : HappeningView → Type 0
TakesMemory (happenings.Injected d) = ⊤
TakesMemory (happenings.Upload_started hw pos parts) = ⊤
TakesMemory h = ⊥

-- A turn with such a happening was found.
abbrev pub TurnTakesMemory : Option following.Turn → Type 0
TurnTakesMemory None = ⊥
TurnTakesMemory (Some t) = TakesMemory t.given

-- The line gives such a happening, whatever lines come later.
abbrev pub LineTakesMemory : (List spec.Line → Option following.Turn) → Type 0
LineTakesMemory said = (later : List spec.Line) → TurnTakesMemory (said later)
