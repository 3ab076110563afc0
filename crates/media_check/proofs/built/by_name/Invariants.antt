use Rattle.std.proofs.Common.{◌≡◌, ℕ, List, length}
use Rattle.std.specs.Map.{lookup}
use Rattle.load_base.specs.Bytes.{same_bytes}
use Rattle.media_check.specs.BuiltSets.{body_of}
use Rattle.media_check.specs.Kept.{bytes_view}
use Rattle.media_check.proofs.Bodies.{or_else}
use Rattle.media_check.proofs.built.by_name.Given as goal

abbrev pub invariant-loop-body : goal.invariant-loop-body
invariant-loop-body l =
    (name : List ℕ) → or_else (body_of l.bodies.items name) (bytes_view (lookup (same_bytes name) l.loose.entries)) ≡ body_of l.initial.bodies.items name

abbrev pub decreases-loop-body : goal.decreases-loop-body
decreases-loop-body l = length l.bodies.items
