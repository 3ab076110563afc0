-- Calls that are set to fail.
use Rattle.std.specs.Prelude.{◌≡◌, ℕ, ◌+◌, ◌-◌, ◌^◌, min, List, Contains, refl}
use Rattle.std.specs.Coded.{Coded, code_by, coded×, coded_list, coded_ℕ}

-- the numbers of the calls that are set to fail, in the order in which they were set, and the number of the call that
-- comes next
pub record CallNumbers : Type 0 where
  pub failing : List ℕ
  pub next : ℕ

abbrev pub call_numbers_code : Coded CallNumbers
call_numbers_code =
    code_by (List ℕ × ℕ) (coded× (coded_list coded_ℕ) coded_ℕ)
    (λ calls. (calls.failing, calls.next)) (λ p. record { failing = p.0; next = p.1 }) (λ _. refl)

-- the call that comes next is one of those that were set to fail
abbrev pub IsSetToFail : CallNumbers → Type 0
IsSetToFail calls = Contains calls.failing calls.next

-- One call was counted. Its number is kept in 32 bits, and doesn't advance past their greatest.
pub record CountsCall (old new : CallNumbers) : Type 0 where
  pub next : new.next ≡ min (old.next + 1) (2 ^ 32 - 1)
  pub failing : new.failing ≡ old.failing
