use Rattle.fleet_trace.proofs.OwnFollowing.{own_line_gives, own_script_follows, own_script_leaves, units_follow}
use Rattle.fleet_trace.proofs.laws.steps_follow_their_own_script.Goals as goal

pub returns-clause-follows : goal.returns-clause-follows
returns-clause-follows c = own_script_follows

pub returns-clause-leaves : goal.returns-clause-leaves
returns-clause-leaves c = own_script_leaves

pub returns-clause-gives : goal.returns-clause-gives
returns-clause-gives c = own_line_gives

pub returns-clause-each_unit : goal.returns-clause-each_unit
returns-clause-each_unit c = units_follow
