-- What holds of all that is active after an installation (docs/EXCHANGE.md, "Upload").
use Rattle.std.specs.Prelude.{◌≡◌, ℕ, List, true, Some}
use Rattle.std.specs.List.{AllByRecursion}
use Rattle.load_base.specs.Config.{LoadView}
use Rattle.disk_layout.specs.Holds.{StandingView}
use Rattle.accept_rules.specs.Permissions.{Accepts}
use Rattle.session_rules.specs.NewConfigs.{AreGoodBeside, IsChecked}
use Rattle.session_rules.specs.TargetLog.{standing_after}

-- What is brought beside a configuration is good under what a unit accepts.
abbrev pub IsBrought : Accepts → (active : StandingView) → (new : List LoadView) → Type 0
IsBrought accepts active new = AreGoodBeside (λ h kept. accepts h kept ≡ true) active new

abbrev pub AreChecked : StandingView → Type 0
AreChecked s = AllByRecursion (IsChecked s.identity) s.loads

-- Where all that is active is checked, so is all after an installation, which keeps some of it.
abbrev pub InstalledAreChecked : Type 0
InstalledAreChecked = (accepts : Accepts) (active : StandingView) (new : List LoadView) → IsBrought accepts active new → AreChecked active → AreChecked (standing_after active new)

abbrev pub HasType : LoadView → Type 0
HasType load = (id : ℕ) × (load.type_id ≡ Some id)

-- After an installation each load has a type id, also where what was active had none: so a manifest never has some with and some
-- without.
abbrev pub InstalledHaveTypes : Type 0
InstalledHaveTypes = (accepts : Accepts) (active : StandingView) (new : List LoadView) → IsBrought accepts active new → AllByRecursion HasType (standing_after active new).loads
