-- A closure as a rule.
use Rattle.std.specs.Prelude.{◌≡◌, List, Bool}
use Rattle.std.specs.Fn.{Shared}
use Rattle.std.proofs.Common.{◌∙◌, ap}
use denote.Ref.{Bor}
use Rattle.load_header.specs.declared.header.LoadHeader.{LoadHeader}
use Rattle.load_header.specs.Header.{HeaderView, header_view}
use Rattle.accept_rules.specs.declared.kept.KeptLoad.{KeptLoad}
use Rattle.accept_rules.specs.Interlocks.{FollowsAccepts}
use Rattle.accept_rules.specs.Permissions.{Accepts}

-- what the closure is handed: references to a header and to a list of loads
abbrev pub Handed : Type 0
Handed = Bor LoadHeader × (Bor (List KeptLoad) × Unit {0})

-- it may be called with references to this header and these loads
abbrev pub TakesHeader : {F : Type 0} → Shared F Handed Bool → F → LoadHeader → List KeptLoad → Type 0
TakesHeader calls f header kept = (lent : Bor LoadHeader) (list : Bor (List KeptLoad)) → lent.now ≡ header → list.now ≡ kept → calls.pre f (lent, (list, tt))

-- it may answer this when it is called so
pub record MaySay {F : Type 0} (calls : Shared F Handed Bool) (f : F) (header : LoadHeader) (kept : List KeptLoad) (answer : Bool) : Type 0 where
  pub lent : Bor LoadHeader
  pub list : Bor (List KeptLoad)
  pub is : lent.now ≡ header
  pub are : list.now ≡ kept
  pub says : calls.post f (lent, (list, tt)) answer

-- it may be called so, and each answer that it may give then is the one that is known
pub record MayAsk {F : Type 0} (calls : Shared F Handed Bool) (f : F) (accepts : Accepts) (header : LoadHeader) (kept : List KeptLoad) : Type 0 where
  pub takes : TakesHeader calls f header kept
  pub known : (answer : Bool) → MaySay calls f header kept answer → answer ≡ accepts (header_view header) kept

-- it may give this answer then, which is the one that is known
pub record SaysKnown {F : Type 0} (calls : Shared F Handed Bool) (f : F) (accepts : Accepts) (header : LoadHeader) (kept : List KeptLoad) (answer : Bool) : Type 0 where
  pub says : MaySay calls f header kept answer
  pub known : answer ≡ accepts (header_view header) kept

-- A rule that answers so follows what is known.
pub known_is_followed : {R F : Type 0} (calls : Shared F Handed Bool) (closure : R → F) (accepts : R → Accepts) (rule : R)
    → FollowsAccepts (λ (r : R) (header : LoadHeader) (kept : List KeptLoad) (answer : Bool). SaysKnown calls (closure r) (accepts r) header kept answer) rule (accepts rule)
known_is_followed calls closure accepts rule fields kept answer said = said.says.known ∙ ap (λ (h : HeaderView). accepts rule h kept) said.same
