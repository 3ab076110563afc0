-- What a sink was put, and how often it failed.
use Rattle.std.specs.Prelude.{◌≡◌, ℕ, ◌+◌, ◌≤◌, List, [], ◌++◌, take, Result, Ok, Err, Option, Some, None, IsErrOf, OnOk}
use Rattle.load_base.specs.Counts.{Rose}
use Rattle.load_base.specs.declared.sink.WriteFault.{WriteFault}
use Rattle.load_base.specs.declared.sink.WriteFault.TheVariants.{Failed, Memory}

-- The output is what it was, and then these bytes. Of a sink that doesn't tell it nothing is claimed.
abbrev pub IsExtended : Option (List ℕ) → Option (List ℕ) → List ℕ → Type 0
IsExtended None new bytes = Unit {0}
IsExtended (Some was) new bytes = new ≡ Some (was ++ bytes)

-- All the bytes go out; of a sink that fails a prefix of them, and of one that is out of memory none.
abbrev pub Puts : {T : Type 0} → Option (List ℕ) → Option (List ℕ) → List ℕ → Result T WriteFault → Type 0
Puts was new bytes (Ok x) = IsExtended was new bytes
Puts was new bytes (Err Failed) = (n : ℕ) × IsExtended was new (take n bytes)
Puts was new bytes (Err Memory) = IsExtended was new []

-- The count of faults hasn't fallen. A call that failed raised it, by one, and no other did.
pub record HasWriteCause {T : Type 0} (before now : ℕ) (result : Result T WriteFault) : Type 0 where
  pub later : before ≤ now
  pub failed : IsErrOf result Failed → Rose before now
  pub once : now ≤ before + 1
  pub ok : OnOk result (now ≡ before)
  pub memory : IsErrOf result Memory → now ≡ before
