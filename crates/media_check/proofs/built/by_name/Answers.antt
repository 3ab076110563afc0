use Rattle.std.specs.Map.{lookup}
use Rattle.load_base.specs.Bytes.{same_bytes}
use Rattle.media_check.specs.BuiltSets.{body_of}
use Rattle.media_check.proofs.Bodies.{body_put}
use Rattle.media_check.proofs.built.by_name.Goals as goal

pub loop-body-preserved-in_ok-insert : goal.loop-body-preserved-in_ok-insert
loop-body-preserved-in_ok-insert c =
    λ name.
    body_put c.pop.new.self.items c.loop-body.bodies.items c.in-Some.body name (lookup (same_bytes name) c.insert.new.self.entries) (lookup (same_bytes name) c.loop-body.loose.entries)
    (body_of c.args.bodies.items name) c.in-Some.ensures.last (c.in_ok-insert.ensures.updates.0 name) (c.loop-body.invariant name)

pub loop-body-preserved : goal.loop-body-preserved
loop-body-preserved c =
    λ name.
    body_put c.pop.new.self.items c.loop-body.bodies.items c.in-Some.body name (lookup (same_bytes name) c.insert.new.self.entries) (lookup (same_bytes name) c.loop-body.loose.entries)
    (body_of c.args.bodies.items name) c.in-Some.ensures.last (c.in_ok-insert.ensures.updates.0 name) (c.loop-body.invariant name)
