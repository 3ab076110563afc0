-- Which loads a unit accepts that takes one type of its maker's own.
use Rattle.std.specs.Prelude.{ℕ, not, ◌&&◌, ◌||◌, ◌==◌, ltb}
use Rattle.accept_rules.specs.Permissions.{Accepts, keeps_part}

abbrev pub own_types : (own : ℕ) → Accepts
own_types own h kept = not (h.type_id == 0) && (ltb h.type_id 0x8000 || h.type_id == own) && not (keeps_part h.part kept)
