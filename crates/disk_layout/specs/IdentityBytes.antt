-- The bytes of an identity, part after part.
use Rattle.std.specs.Prelude.{ℕ, ◌≤◌}
use Rattle.disk_layout.specs.Offsets.{longest_identity}

-- len of the cells are written
abbrev pub IsWritten : ℕ → Type 0
IsWritten len = len ≤ longest_identity
