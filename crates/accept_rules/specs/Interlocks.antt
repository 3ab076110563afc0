-- What an interlock says of a header beside the loads that are kept, and what makes a rule an interlock
-- (docs/EXCHANGE.md, "Interlock").
use Rattle.std.specs.Prelude.{◌≡◌, List, Bool, true, false}
use Rattle.load_header.specs.declared.header.LoadHeader.{LoadHeader}
use Rattle.load_header.specs.Header.{HeaderView, header_view}
use Rattle.accept_rules.specs.declared.kept.KeptLoad.{KeptLoad}
use Rattle.accept_rules.specs.Permissions.{Accepts, Grants, Permits}

-- The rule may give this answer on a header with these fields beside these loads, whatever the spare capacity of its lists.
pub record MaySayOf {R : Type 0} (may_say : R → LoadHeader → List KeptLoad → Bool → Type 0) (rule : R) (fields : HeaderView) (kept : List KeptLoad) (answer : Bool) : Type 0 where
  pub header : LoadHeader
  pub same : header_view header ≡ fields
  pub says : may_say rule header kept answer

-- the four facts
pub record IsInterlock {R : Type 0} (may_ask : R → LoadHeader → List KeptLoad → Type 0) (may_say : R → LoadHeader → List KeptLoad → Bool → Type 0) (rule : R) : Type 0 where
  pub asked : (header : LoadHeader) (kept : List KeptLoad) → may_ask rule header kept
  pub permits : (fields : HeaderView) (kept : List KeptLoad) → MaySayOf may_say rule fields kept true → Permits fields kept
  pub grants : (fields : HeaderView) (kept : List KeptLoad) → MaySayOf may_say rule fields kept false → ¬ Grants fields kept
  pub one_answer : (fields : HeaderView) (kept : List KeptLoad) → MaySayOf may_say rule fields kept true → ¬ MaySayOf may_say rule fields kept false

-- The rule answers as a unit does that accepts these loads. Where no rule is at hand, what a unit accepts stands for it.
abbrev pub FollowsAccepts : {R : Type 0} → (R → LoadHeader → List KeptLoad → Bool → Type 0) → R → Accepts → Type 0
FollowsAccepts may_say rule accepts =
    (fields : HeaderView) (kept : List KeptLoad) (answer : Bool) → MaySayOf may_say rule fields kept answer → answer ≡ accepts fields kept
