-- What a fleet's script gives happens at one of its units, where its lines and the posts are of these.
use Rattle.std.proofs.Common.{◌≡◌, ℕ, zero, suc, ◌+◌, ◌-◌, ◌≤◌, ◌==◌, Bool, true, false, cond, List, [], ◌∷◌, ◌++◌, filter, map, Option, Some, None, Result, Ok, Err, drop, option_map, arith, refl, sym, subst}
use Rattle.std.specs.Prelude.{OnErr, OnOk, slice_get, ⊤}
use Rattle.std.specs.List.{range_with_len}
use Rattle.exchange_trace.specs.declared.trace.Side.{Side}
use Rattle.exchange_trace.specs.Following as following
use Rattle.exchange_trace.specs.Following.{Scene, begins, delivery, loss, ticked_side}
use Rattle.exchange_trace.specs.Happenings.{HappeningView}
use Rattle.exchange_trace.specs.Lines.{Line}
use Rattle.fleet_trace.specs.FleetTraces.{At_unit, FleetHappeningView, Next_asked}
use Rattle.exchange_trace.specs.Happenings.{DatagramView}
use Rattle.fleet_trace.specs.FleetPosts.{PostPlace, UnitPost, is_place_undelivered, located, post_places, post_places_after, undelivered_places, unit_post}
use Rattle.fleet_trace.specs.FleetLines.{FleetLine, Ask_next, Begin_batch, Finish_all, Finish_batch, Give_numbered, Line_at, Lose_numbered, Next_of_all}
use Rattle.fleet_trace.specs.FleetFollowing.{Batch_finishes, Deliveries_left, Finish_goes_on, Finishes, FleetPlan, FleetRest, FleetScene, FleetTurn, Line_is_done, TickTurns, UnitTick, asking, first_place, first_tick, fleet_begins, fleet_finishing, fleet_finishing_tick, fleet_goes_on, fleet_tick, fleet_turn, from_fleet_lines, given_at_place, given_by_line, least_fleet_delivery, loaders_first, next_fleet_turn, or_asking, or_next, tick_or_later, turn_leaving, unit_scene}
use Rattle.fleet_link.specs.FleetMail.{FleetMailView}
use Rattle.fleet_link.specs.FleetLinks.{ArePostsOf, IsOfUnit}
use Rattle.fleet_link.specs.Lines.{AreAtUnits, IsAtUnit}
use Rattle.fleet_link.specs.declared.fleet_line.FleetLine as code

-- ---- posts and places

pub one_post_more : (units : ℕ) (posts : List UnitPost) (p : UnitPost) → (1 ≤ p.unit) × (p.unit ≤ units) → ArePostsOf units posts → ArePostsOf units (posts ++ p ∷ [])
one_post_more units [] p within all = (within, tt)
one_post_more units (q ∷ posts) p within all = (all.0, one_post_more units posts p within all.1)

-- a post that is taken is one of the units, and one that is refused changes nothing
pub posts_stay : {T E : Type 0} (r : Result T E) (units unit : ℕ) (d : DatagramView) (before after : FleetMailView) → (1 ≤ unit) × (unit ≤ units) → ArePostsOf units before.posted
    → OnOk r (after ≡ record { posted = before.posted ++ unit_post unit d ∷ []; given = before.given }) → OnErr r (after ≡ before) → ArePostsOf units after.posted
posts_stay (Ok x) units unit d before after within all taken refused = subst (λ (m : FleetMailView). ArePostsOf units m.posted) (sym taken) (one_post_more units before.posted (unit_post unit d) within all)
posts_stay (Err e) units unit d before after within all taken refused = subst (λ (m : FleetMailView). ArePostsOf units m.posted) (sym refused) all

-- what is left of lines is of the same units
pub left_at_units : (units : ℕ) (f : code.FleetLine → FleetLine) (next : ℕ) (lines : List code.FleetLine) → AreAtUnits units (map f lines) → AreAtUnits units (map f (drop next lines))
left_at_units units f zero lines each = each
left_at_units units f (suc next) [] each = each
left_at_units units f (suc next) (line ∷ lines) each = left_at_units units f next lines (λ k l there. each (suc k) l there)

module _ (units : ℕ) where
  ArePlacesOf : List PostPlace → Type 0
  ArePlacesOf [] = ⊤
  ArePlacesOf (p ∷ later) = ((1 ≤ p.unit) × (p.unit ≤ units)) × ArePlacesOf later

  places_of : (before later : List UnitPost) → ArePostsOf units later → ArePlacesOf (post_places_after before later)
  unfolding ArePlacesOf
  places_of before [] all = tt
  places_of before (p ∷ later) all = (all.0, places_of (before ++ p ∷ []) later all.1)

  some_of : (f : PostPlace → Bool) (ps : List PostPlace) → ArePlacesOf ps → ArePlacesOf (filter f ps)
  unfolding ArePlacesOf
  some_of f [] all = tt
  some_of f (p ∷ ps) all = by (f p) (some_of f ps all.1)
    where
      by : (b : Bool) → ArePlacesOf (filter f ps) → ArePlacesOf (cond b (p ∷ filter f ps) (filter f ps))
      by true rest = (all.0, rest)
      by false rest = rest

  -- a place, if there is one, is at one of the units
  IsPlaceOf : Option PostPlace → Type 0
  IsPlaceOf None = ⊤
  IsPlaceOf (Some p) = (1 ≤ p.unit) × (p.unit ≤ units)

  found_of : (ps : List PostPlace) (k : ℕ) → ArePlacesOf ps → IsPlaceOf (slice_get ps k)
  unfolding ArePlacesOf IsPlaceOf
  found_of [] k all = tt
  found_of (p ∷ ps) zero all = all.0
  found_of (p ∷ ps) (suc k) all = found_of ps k all.1

  first_of : (ps : List PostPlace) → ArePlacesOf ps → IsPlaceOf (first_place ps)
  unfolding ArePlacesOf IsPlaceOf
  first_of [] all = tt
  first_of (p ∷ ps) all = all.0

  -- ---- happenings and turns

  IsGivenOf : Option FleetHappeningView → Type 0
  IsGivenOf None = ⊤
  IsGivenOf (Some h) = IsOfUnit units h

  IsTurnOf : Option FleetTurn → Type 0
  IsTurnOf None = ⊤
  IsTurnOf (Some t) = IsOfUnit units t.given

  at_place : (s : FleetScene) (gives : Scene → ℕ → Option HappeningView) (p : Option PostPlace) → IsPlaceOf p → IsGivenOf (given_at_place s gives p)
  unfolding IsPlaceOf IsGivenOf
  at_place s gives None within = tt
  at_place s gives (Some p) within = by (gives (unit_scene s p.unit) p.number)
    where
      by : (h : Option HappeningView) → IsGivenOf (option_map (λ x. At_unit p.unit x) h)
      by None = tt
      by (Some h) = within

  leaving : (rest : FleetRest) (lines : List FleetLine) (h : Option FleetHappeningView) → IsGivenOf h → IsTurnOf (turn_leaving rest lines h)
  unfolding IsGivenOf IsTurnOf
  leaving rest lines None within = tt
  leaving rest lines (Some h) within = within

  number_of : (s : FleetScene) → ArePostsOf units s.posted → (n : ℕ) → IsPlaceOf (located s.posted n)
  unfolding IsPlaceOf
  number_of s posts n = by (n == 0)
    where
      by : (b : Bool) → IsPlaceOf (cond b None (slice_get (post_places s.posted) (n - 1)))
      by true = tt
      by false = found_of (post_places s.posted) (n - 1) (places_of [] s.posted posts)

  least_of : (s : FleetScene) → ArePostsOf units s.posted → IsGivenOf (least_fleet_delivery s)
  least_of s posts =
      at_place s delivery (first_place (undelivered_places s.posted s.happenings))
      (first_of (undelivered_places s.posted s.happenings) (some_of (is_place_undelivered s.happenings) (post_places s.posted) (places_of [] s.posted posts)))

  IsTickOf : Option UnitTick → Type 0
  IsTickOf None = ⊤
  IsTickOf (Some t) = (1 ≤ t.unit) × (t.unit ≤ units)

  ticks_of : (s : FleetScene) (firsts : TickTurns) (from count : ℕ) → 1 ≤ from → from + count ≤ units + 1 → IsTickOf (first_tick s firsts (range_with_len from count))
  unfolding IsTickOf
  ticks_of s firsts from zero low high = tt
  ticks_of s firsts from (suc count) low high =
      by (ticked_side (unit_scene s from) (firsts from)) (first_tick s firsts (range_with_len (from + 1) count)) (ticks_of s firsts (from + 1) count (omega (arith, low)) (omega (arith, high)))
    where
      here : (1 ≤ from) × (from ≤ units)
      here = (low, omega (arith, high))

      by : (side : Option Side) (later : Option UnitTick) → IsTickOf later → IsTickOf (tick_or_later from side later)
      by (Some side) later rest = here
      by None later rest = rest

  ticking : (rest : Finishes) (firsts : TickTurns) (lines : List FleetLine) (t : Option UnitTick) → IsTickOf t → IsTurnOf (fleet_finishing_tick rest firsts lines t)
  unfolding IsTickOf IsTurnOf
  ticking rest firsts lines None within = tt
  ticking rest firsts lines (Some t) within = within

  asks : (s : FleetScene) (rest : FleetRest) (lines : List FleetLine) → IsTurnOf (asking s rest lines)
  unfolding IsTurnOf
  asks s rest lines = by s.may_ask
    where
      by : (b : Bool) → IsTurnOf (cond b (Some (fleet_turn Next_asked rest lines)) None)
      by true = tt
      by false = tt

  asks_then : (s : FleetScene) (lines : List FleetLine) (t : Option FleetTurn) → IsTurnOf t → IsTurnOf (or_asking s lines t)
  asks_then s lines None within = asks s (Batch_finishes loaders_first) lines
  asks_then s lines (Some t) within = within

  module _ (s : FleetScene) (same : s.units ≡ units) (posts : ArePostsOf units s.posted) where
    finishing : (rest : Finishes) (firsts : TickTurns) (lines : List FleetLine) (h : Option FleetHappeningView) → IsGivenOf h → IsTurnOf (fleet_finishing s rest firsts lines h)
    unfolding IsGivenOf IsTurnOf
    finishing rest firsts lines (Some h) within = within
    finishing rest firsts lines None within = ticking rest firsts lines (fleet_tick s firsts) (ticks_of s firsts 1 s.units (omega arith) (omega (arith, same)))

    going_on : (rest : FleetRest) (lines : List FleetLine) → IsTurnOf (fleet_goes_on s rest lines)
    unfolding IsTurnOf
    going_on Line_is_done lines = tt
    going_on (Deliveries_left zero) lines = tt
    going_on (Deliveries_left (suc k)) lines = leaving (Deliveries_left k) lines (least_fleet_delivery s) (least_of s posts)
    going_on (Finish_goes_on firsts) lines = finishing Finish_goes_on firsts lines (least_fleet_delivery s) (least_of s posts)
    going_on (Batch_finishes firsts) lines =
        asks_then s lines (fleet_finishing s Batch_finishes firsts lines (least_fleet_delivery s)) (finishing Batch_finishes firsts lines (least_fleet_delivery s) (least_of s posts))

    line_of : (unit : ℕ) (line : Line) → (1 ≤ unit) × (unit ≤ units) → IsGivenOf (given_by_line s unit line)
    unfolding IsGivenOf
    line_of unit line within = by (begins (unit_scene s unit) line [])
      where
        by : (t : Option following.Turn) → IsGivenOf (option_map (λ (x : following.Turn). At_unit unit x.given) t)
        by None = tt
        by (Some t) = within

    beginning : (line : FleetLine) (lines : List FleetLine) → IsAtUnit units line → IsTurnOf (fleet_begins s line lines)
    unfolding IsTurnOf
    beginning (Line_at unit line) lines within = leaving Line_is_done lines (given_by_line s unit line) (line_of unit line within)
    beginning (Give_numbered n) lines within = leaving Line_is_done lines _ (at_place s delivery (located s.posted n) (number_of s posts n))
    beginning (Lose_numbered n) lines within = leaving Line_is_done lines _ (at_place s loss (located s.posted n) (number_of s posts n))
    beginning (Next_of_all k) lines within = going_on (Deliveries_left k) lines
    beginning Finish_all lines within = going_on (Finish_goes_on loaders_first) lines
    beginning (Begin_batch part) lines within = tt
    beginning Ask_next lines within = asks s Line_is_done lines
    beginning Finish_batch lines within = asks s (Batch_finishes loaders_first) lines

    or_later : (t : Option FleetTurn) (later : FleetTurn) → IsTurnOf t → IsOfUnit units later.given → IsOfUnit units (or_next t later).given
    unfolding IsTurnOf
    or_later None later within rest = rest
    or_later (Some t) later within rest = within

    lines_of : (lines : List FleetLine) → AreAtUnits units lines → IsOfUnit units (from_fleet_lines s lines).given
    lines_of [] each = tt
    lines_of (line ∷ lines) each =
        or_later (fleet_begins s line lines) (from_fleet_lines s lines) (beginning line lines (each 0 line refl)) (lines_of lines (λ k l there. each (suc k) l there))

    pub given_at_one : (p : FleetPlan) → AreAtUnits units p.lines → IsOfUnit units (next_fleet_turn s p).given
    given_at_one p each = or_later (fleet_goes_on s p.rest p.lines) (from_fleet_lines s p.lines) (going_on p.rest p.lines) (lines_of p.lines each)
