-- The generator of bytes (docs/FORMATS.md, "Generated set").
use Rattle.std.specs.Prelude.{ℕ, zero, suc, ◌+◌, ◌*◌, ◌/◌, ◌%◌, ◌^◌, List, [], ◌∷◌, ◌++◌}

abbrev pub next_state : ℕ → ℕ
next_state state = (1664525 * state + 1013904223) % 2 ^ 32

-- the state after N steps from a number
unfoldable pub state_at : (number steps : ℕ) → ℕ
state_at number zero = number
state_at number (suc steps) = next_state (state_at number steps)

-- This many bytes from a number: each is the upper byte of the state after one more step.
unfoldable pub generated : (number count : ℕ) → List ℕ
generated number zero = []
generated number (suc count) = generated number count ++ (state_at number (suc count) / 2 ^ 24) ∷ []
