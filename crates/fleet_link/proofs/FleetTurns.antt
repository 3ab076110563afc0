-- What lines of a fleet's script give.
use Rattle.std.proofs.Common.{◌≡◌, ℕ, suc, ◌+◌, ◌-◌, ◌<◌, ◌≤◌, ◌==◌, Bool, true, false, cond, List, [], length, Option, Some, None, option_map, eqb-true, ne_eqb, arith, refl, ap, ◌∙◌}
use Rattle.std.specs.Prelude.{slice_get}
use Rattle.std.specs.List.{range_with_len, slice_index_or}
use Rattle.exchange_trace.specs.declared.trace.Side.{Side}
use Rattle.exchange_trace.specs.declared.trace.Side.TheVariants as sides
use Rattle.exchange_trace.specs.Following as following
use Rattle.exchange_trace.specs.Following.{Scene, begins, ticked_side}
use Rattle.exchange_trace.specs.Lines.{Line}
use Rattle.fleet_trace.specs.FleetTraces.{At_unit}
use Rattle.fleet_trace.specs.FleetFollowing.{Batch_finishes, FleetScene, Line_is_done, TickTurns, UnitTick, batch_asking, first_tick, fleet_goes_on, fleet_tick, or_asking, tick_or_later, turn_leaving, unit_scene}
use Rattle.link_net.specs.Mail.{MailView, scene_in}
use Rattle.fleet_trace.specs.declared.trace.FleetHappening.TheVariants as given
use Rattle.link_net.specs.Plans.{IsTurn, turn_view}
use Rattle.link_net.specs.declared.link.Waits.{Waits}
use Rattle.link_net.specs.declared.turn.Turn.{Turn}
use Rattle.link_net.specs.declared.turn.Waiting.{Waiting}
use Rattle.fleet_link.specs.declared.fleet_turn.FinishOf.TheVariants as finishes
use Rattle.fleet_link.specs.declared.fleet_turn.FleetRest.TheVariants as rests
use Rattle.fleet_link.specs.declared.fleet_turn.FleetTurn.{FleetTurn}
use Rattle.fleet_link.specs.FleetMail.{FleetMailView, fleet_scene_in, mail_of}
use Rattle.fleet_link.specs.FleetPlans.{IsFleetTurn, gives_at_unit, gives_of_finish, seen_with, turns_in, waits_in}

-- ---- ticks

-- no side of the unit has a live session
abbrev pub nobody : Waits
nobody = record { loader = false; target = false }

module _ (mail : FleetMailView) (may_ask : Bool) (waits : List Waits) (firsts : List Side) where
  scene : FleetScene
  scene = fleet_scene_in mail (length waits) (waits_in waits) may_ask

  -- the units from the one of this index on
  pub ticked_from : (at : ℕ) → Option UnitTick
  ticked_from at = first_tick scene (turns_in firsts) (range_with_len (1 + at) (length waits - at))

  pub from_first : fleet_tick (fleet_scene_in mail (length waits) (waits_in waits) may_ask) (turns_in firsts) ≡ ticked_from 0
  unfolding ticked_from scene
  from_first = let all : length waits - 0 ≡ length waits = omega arith in rw all refl

  pub none_after : (at : ℕ) → length waits ≤ at → ticked_from at ≡ None
  unfolding ticked_from scene
  none_after at past = let none : length waits - at ≡ 0 = omega (arith, past) in rw none refl

  turn_at : (at : ℕ) → turns_in firsts (at + 1) ≡ slice_index_or firsts at sides.Loader
  turn_at at = by ((at + 1) == 0) refl
    where
      back : at + 1 - 1 ≡ at
      back = omega arith

      by : (b : Bool) → ((at + 1) == 0) ≡ b → cond b sides.Loader (slice_index_or firsts (at + 1 - 1) sides.Loader) ≡ slice_index_or firsts at sides.Loader
      by true e = absurd (omega (arith, eqb-true (at + 1) 0 e))
      by false e = ap (λ i. slice_index_or firsts i sides.Loader) back

  scene_at : (at : ℕ) (w : Waits) → slice_get waits at ≡ Some w → unit_scene scene (at + 1) ≡ scene_in (mail_of (at + 1) mail) w.loader w.target
  unfolding scene
  scene_at at w there =
      let back : at + 1 - 1 ≡ at = omega arith in
      let counted : ((at + 1) == 0) ≡ false = ne_eqb (at + 1) 0 (λ none. omega (arith, none)) in
      rw (counted, back, there) refl

  pub one_unit : (at : ℕ) (w : Waits) → at < length waits → slice_get waits at ≡ Some w
      → ticked_from at ≡ tick_or_later (at + 1) (ticked_side (scene_in (mail_of (at + 1) mail) w.loader w.target) (slice_index_or firsts at sides.Loader)) (ticked_from (at + 1))
  unfolding ticked_from
  one_unit at w within there =
      let more : length waits - at ≡ suc (length waits - (at + 1)) = omega (arith, within) in
      let one : 1 + at ≡ at + 1 = omega arith in
      let next : 1 + (at + 1) ≡ at + 1 + 1 = omega arith in
      rw (more, one, next)
      (ap (λ (t : Option Side). tick_or_later (at + 1) t (first_tick scene (turns_in firsts) (range_with_len (at + 1 + 1) (length waits - (at + 1)))))
      (ap (λ (s : Scene). ticked_side s (turns_in firsts (at + 1))) (scene_at at w there) ∙ ap (ticked_side (scene_in (mail_of (at + 1) mail) w.loader w.target)) (turn_at at)))

-- ---- lines

-- what a line of a target gives in a unit's mail is given there
pub unit_gives : (mail : FleetMailView) (may_ask : Bool) (waits : List Waits) (unit : ℕ) (line : Line) (m : MailView) (waiting : Waiting) (t : Turn) (begun : Option Turn) (found : Option FleetTurn)
    → (1 ≤ unit) × (unit ≤ 8) → m ≡ mail_of unit mail → waiting ≡ record { loader = waits_in waits unit sides.Loader; target = waits_in waits unit sides.Target } → begun ≡ Some t
    → IsTurn m begun (begins (scene_in m waiting.loader waiting.target) line)
    → found ≡ Some (record { given = given.At unit t.given; rest = rests.Nothing })
    → IsFleetTurn mail found (gives_at_unit (seen_with mail waits may_ask) unit line)
unit_gives mail may_ask waits unit line m waiting t begun found at own sides_wait some is same =
    let here = rw some at (rw sides_wait at (rw own at is)) in
    let first : Some (turn_view [] t) ≡ begins (unit_scene (seen_with mail waits may_ask) unit) line [] = here.turn [] in
    rw same
    (record {
      turn = λ later. ap (λ (o : Option following.Turn). turn_leaving Line_is_done later (option_map (λ (x : following.Turn). At_unit unit x.given) o)) first;
      named = (at, here.named);
    })

-- ---- `finishbatch`

-- its `finish` gives something
pub batch_goes_on : (mail : FleetMailView) (s : FleetScene) (firsts : TickTurns) (t : FleetTurn) → IsFleetTurn mail (Some t) (gives_of_finish s finishes.Batch firsts)
    → IsFleetTurn mail (Some t) (fleet_goes_on s (Batch_finishes firsts))
batch_goes_on mail s firsts t finds = record {
  turn = λ later. ap (or_asking s later) (finds.turn later);
  named = finds.named;
}

-- or it gives nothing, and what is asked then is what comes
pub batch_asks_then : (mail : FleetMailView) (s : FleetScene) (firsts : TickTurns) (asked : Option FleetTurn) → IsFleetTurn mail None (gives_of_finish s finishes.Batch firsts) → IsFleetTurn mail asked (batch_asking s)
    → IsFleetTurn mail asked (fleet_goes_on s (Batch_finishes firsts))
batch_asks_then mail s firsts asked none finds = record {
  turn = λ later. finds.turn later ∙ ap (or_asking s later) (none.turn later);
  named = finds.named;
}
