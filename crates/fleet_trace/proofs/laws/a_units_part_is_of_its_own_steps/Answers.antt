use Rattle.fleet_trace.proofs.UnitParts.{happenings_are, posts_are, unit_scene_is}
use Rattle.fleet_trace.proofs.laws.a_units_part_is_of_its_own_steps.Goals as goal

pub returns-clause-posts : goal.returns-clause-posts
returns-clause-posts c = posts_are

pub returns-clause-happenings : goal.returns-clause-happenings
returns-clause-happenings c = happenings_are

pub returns-clause-scene : goal.returns-clause-scene
returns-clause-scene c = unit_scene_is
