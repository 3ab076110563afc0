-- Which loads a unit accepts beside those that it keeps: which its interlock may, and which it has to (docs/EXCHANGE.md, "Interlock").
use Rattle.std.specs.Prelude.{◌≡◌, ◌≢◌, ◌≤◌, ℕ, List, Bool, true, false, not, ◌==◌, ◌&&◌, bytes_eq}
use Rattle.std.specs.List.{list_any}
use Rattle.load_header.specs.Header.{HeaderView}
use Rattle.accept_rules.specs.declared.kept.KeptLoad.{KeptLoad}

-- What a unit accepts: of each header and the loads that are kept beside it, whether its interlock accepts a load with that header.
abbrev pub Accepts : Type 0
Accepts = HeaderView → List KeptLoad → Bool

-- a load of this part number is kept
abbrev pub keeps_part : List ℕ → List KeptLoad → Bool
keeps_part part kept = list_any (λ (load : KeptLoad). bytes_eq load.part part) kept

-- it may: the load has a type id other than 0, and no kept load has its part number
pub record Permits (h : HeaderView) (kept : List KeptLoad) : Type 0 where
  pub type_id : h.type_id ≢ 0
  pub part : keeps_part h.part kept ≡ false

-- the unit that accepts each load that it may
abbrev pub permits : Accepts
permits h kept = not (h.type_id == 0) && not (keeps_part h.part kept)

-- it has to: the type id is one of those that all makers share, and no kept load has its part number
pub record Grants (h : HeaderView) (kept : List KeptLoad) : Type 0 where
  pub least : 1 ≤ h.type_id
  pub most : h.type_id ≤ 0x7FFF
  pub part : keeps_part h.part kept ≡ false

-- a unit accepts no load that it may not
abbrev pub AcceptsPermitted : Accepts → Type 0
AcceptsPermitted accepts = (h : HeaderView) (kept : List KeptLoad) → accepts h kept ≡ true → Permits h kept
