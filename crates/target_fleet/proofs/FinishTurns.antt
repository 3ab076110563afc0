-- A turn in which a `finish` delivers: whatever waits then, and whatever may be asked, it is what the link would give.
use Rattle.std.proofs.Common.{◌≡◌, ℕ, List, Bool, length, refl, ◌∙◌}
use Rattle.std.specs.Prelude.{is_some, map, option_map}
use Rattle.std.proofs.lemmas.List.{length-map}
use Rattle.link_net.specs.declared.link.Waits.{Waits}
use Rattle.media_check.specs.Sets.{SetView}
use Rattle.replay_turns.specs.Turns.{target_kept}
use Rattle.upload_replay.specs.Drivers.{DriverState}
use Rattle.upload_replay.specs.Drives.{has_session}
use Rattle.target_fleet.specs.Asking.{next_of_running}
use Rattle.target_fleet.specs.AskingCalls.{places_in, running_view, sessions_in}
use Rattle.target_fleet.specs.Runs.{FleetState}
use Rattle.target_fleet.specs.Waits.{TellWaits}
use Rattle.target_fleet.proofs.MergedSteps.{mapped_there}

-- which sides of a unit have a live session
abbrev both_of : {R : Type 0} → DriverState R → Waits
both_of d = record { loader = is_some d.loader.view.live; target = has_session (target_kept d.target) }

abbrev pub waits_now : {R : Type 0} → List (DriverState R) → List Waits
waits_now {R} drivers = map (λ (d : DriverState R). both_of d) drivers

pub told_now : {R : Type 0} (drivers : List (DriverState R)) → TellWaits (length drivers) drivers (waits_now drivers)
told_now {R} drivers i d within there = (both_of d, mapped_there (λ (d : DriverState R). both_of d) drivers i d there, record { loader = refl; target = refl })

pub many_now : {R : Type 0} (drivers : List (DriverState R)) (units : ℕ) → length drivers ≡ units → length (waits_now drivers) ≡ units
many_now {R} drivers units many = length-map drivers (λ (d : DriverState R). both_of d) ∙ many

-- whether an upload may be asked then
abbrev pub may_now : {R : Type 0} → SetView → FleetState R → Bool
may_now shown fleet = is_some (next_of_running shown (places_in fleet.drivers) (sessions_in fleet.drivers) (option_map running_view fleet.running))
