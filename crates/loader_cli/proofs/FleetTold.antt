-- What is told of a run of a fleet.
use Rattle.std.proofs.Common.{◌≡◌, ◌⊎◌, inl, inr, Bool, true, false, ℕ, suc, List, [], ◌∷◌, ◌++◌, map, All, Option, Some, None, refl, sym, ap, subst, ◌∙◌}
use Rattle.std.specs.Prelude.{IsSome, is_some, option_map, slice_get}
use Rattle.std.specs.List.{flat_map}
use Rattle.std.proofs.lemmas.List.Concat.{flat_map-cons}
use Rattle.std.proofs.lemmas.List.Elements.{All-append, All-cons, All-head, All-map, All-nil, All-tail, All-weaker}
use Rattle.std.proofs.lemmas.Option.{slice_get-map}
use Rattle.disk_layout.specs.Holds.{standing_view}
use Rattle.disk_layout.specs.declared.standing.Standing.{Standing}
use Rattle.fleet_trace.specs.FleetTraces.{StepOfFleet}
use Rattle.loader_machine.specs.Machine.{session_view}
use Rattle.session_rules.specs.Loader.{EndedSession}
use Rattle.target_fleet.specs.FleetTexts.{UnitSeen, fleet_report, unit_seen}
use Rattle.target_fleet.specs.declared.outcome.BatchEnd.{BatchEnd}
use Rattle.target_fleet.specs.declared.outcome.UnitEnd.{UnitEnd}
use Rattle.loader_cli.specs.FleetReplays.{FleetSeen, HasCompletedAll, IsBatchCompleted, TellsFleet}
use Rattle.loader_cli.specs.FleetReplays.StatusOfFleet.{all_completed, not_completed}
use Rattle.loader_cli.specs.FleetReplays.TellsFleet.{all_known, one_unknown}
use Rattle.loader_cli.specs.Replays.{IsCompleted}
use Rattle.loader_cli.specs.Texts.{disk_fault}

-- ---- tests

pub both : (b : Bool) → b ≡ false → b ≡ true → ⊥
both b one other = let same = sym one ∙ other in absurd cc

-- ---- sessions

-- what holds of all of two lists in a row holds of each
module _ {X : Type 0} (P : X → Type 0) where
  of_first : (xs ys : List X) → All P (xs ++ ys) → All P xs
  of_first [] ys all = All-nil P
  of_first (x ∷ xs) ys all = All-cons P x xs (All-head P x (xs ++ ys) all) (of_first xs ys (All-tail P x (xs ++ ys) all))

  of_second : (xs ys : List X) → All P (xs ++ ys) → All P ys
  of_second [] ys all = all
  of_second (x ∷ xs) ys all = of_second xs ys (All-tail P x (xs ++ ys) all)

abbrev sessions_of : UnitSeen → List EndedSession
sessions_of unit = unit.sessions

-- all sessions are those of the units
together : (ends : List UnitEnd) → All HasCompletedAll ends → All IsCompleted (flat_map sessions_of (map unit_seen ends))
together [] all = All-nil IsCompleted
together (end ∷ ends) all =
    subst (All IsCompleted) (sym (flat_map-cons sessions_of (unit_seen end) (map unit_seen ends)))
    (All-append IsCompleted (map session_view end.sessions.items) (flat_map sessions_of (map unit_seen ends)) (All-head HasCompletedAll end ends all)
    (together ends (All-tail HasCompletedAll end ends all)))

each : (ends : List UnitEnd) → All IsCompleted (flat_map sessions_of (map unit_seen ends)) → All HasCompletedAll ends
each [] all = All-nil HasCompletedAll
each (end ∷ ends) all =
    let first : List EndedSession = map session_view end.sessions.items in
    let later : List EndedSession = flat_map sessions_of (map unit_seen ends) in
    let both : All IsCompleted (first ++ later) = subst (All IsCompleted) (flat_map-cons sessions_of (unit_seen end) (map unit_seen ends)) all in
    All-cons HasCompletedAll end ends (of_first IsCompleted first later both) (each ends (of_second IsCompleted first later both))

-- ---- what stands on the disks

abbrev IsKnown : UnitEnd → Type 0
IsKnown end = IsSome end.standing

seen_known : (standing : Option Standing) → IsSome standing → IsSome (option_map standing_view standing)
seen_known None known = absurd cc
seen_known (Some s) known = refl

all_seen : (ends : List UnitEnd) → All IsKnown ends → All (λ (unit : UnitSeen). IsSome unit.standing) (map unit_seen ends)
all_seen ends known =
    All-map (λ (unit : UnitSeen). IsSome unit.standing) unit_seen ends
    (All-weaker IsKnown (λ end. IsSome (unit_seen end).standing) (λ end one. seen_known end.standing one) ends known)

-- of one it isn't known
record HasUnknown (ends : List UnitEnd) : Type 0 where
  index : ℕ
  end : UnitEnd
  there : slice_get ends index ≡ Some end
  unknown : end.standing ≡ None

known_or_not : (ends : List UnitEnd) → All IsKnown ends ⊎ HasUnknown ends
known_or_not [] = inl (All-nil IsKnown)
known_or_not (end ∷ ends) = by end.standing refl (known_or_not ends)
  where
    by : (standing : Option Standing) → end.standing ≡ standing → All IsKnown ends ⊎ HasUnknown ends → All IsKnown (end ∷ ends) ⊎ HasUnknown (end ∷ ends)
    by None is rest = inr (record { index = 0; end = end; there = refl; unknown = is })
    by (Some s) is (inl all) = inl (All-cons IsKnown end ends (ap is_some is) all)
    by (Some s) is (inr found) = inr (record { index = suc found.index; end = found.end; there = found.there; unknown = found.unknown })

-- ---- what is told

module _ (steps : List StepOfFleet) (ends : List UnitEnd) (batches : List BatchEnd) where
  abbrev seen : FleetSeen
  seen = record { steps = steps; units = map unit_seen ends; batches = batches }

  pub tells_done : (text : List ℕ) → All IsKnown ends → All HasCompletedAll ends → All IsBatchCompleted batches → text ≡ fleet_report steps (map unit_seen ends) batches → TellsFleet seen 0 text
  tells_done text known completed all told = all_known (all_seen ends known) (all_completed (record { sessions = together ends completed; batches = all }) refl) told

  pub tells_unfinished : (text : List ℕ) → All IsKnown ends → ¬ (All HasCompletedAll ends × All IsBatchCompleted batches) → text ≡ fleet_report steps (map unit_seen ends) batches → TellsFleet seen 1 text
  tells_unfinished text known some told = all_known (all_seen ends known) (not_completed (λ all. some (each ends all.sessions, all.batches)) refl) told

  pub tells_unknown : ¬ All IsKnown ends → TellsFleet seen 5 disk_fault
  tells_unknown not_all = by (known_or_not ends)
    where
      by : All IsKnown ends ⊎ HasUnknown ends → TellsFleet seen 5 disk_fault
      by (inl all) = absurd (not_all all)
      by (inr found) =
          one_unknown found.index
          (record {
            seen = unit_seen found.end;
            there = slice_get-map unit_seen ends found.index ∙ ap (option_map unit_seen) found.there;
            unknown = ap (option_map standing_view) found.unknown;
          })
          refl refl
