-- How much of an upload has arrived, of 100.
use Rattle.std.proofs.Common.{◌≡◌, ◌≢◌, ℕ, zero, suc, ◌*◌, ◌/◌, ◌≤◌, refl, arith}
use Rattle.std.proofs.Math.Nat.{div-le_of_le-mul}
use Rattle.session_rules.specs.Reports.{ratio_of}

pub none_of_none : (arrived loads : ℕ) → loads ≡ 0 → ratio_of arrived loads ≡ 0
none_of_none arrived zero e = refl
none_of_none arrived (suc n) e = absurd cc

pub some_of_some : (arrived loads : ℕ) → loads ≢ 0 → ratio_of arrived loads ≡ 100 * arrived / loads
some_of_some arrived zero some = absurd (some refl)
some_of_some arrived (suc n) some = refl

pub at_most_all : (arrived loads : ℕ) → arrived ≤ loads → 100 * arrived / loads ≤ 100
at_most_all arrived loads within = div-le_of_le-mul loads (by_order arrived loads within)
  where
    by_order : (a n : ℕ) → a ≤ n → 100 * a ≤ n * 100
    by_order a n le = omega arith
