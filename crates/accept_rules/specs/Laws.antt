-- The law that a rule states of itself.
use Rattle.std.specs.Prelude.{◌≡◌, List, Bool}
use Rattle.std.proofs.Common.{◌∙◌, ap}
use Rattle.load_header.specs.declared.header.LoadHeader.{LoadHeader}
use Rattle.load_header.specs.Header.{HeaderView, header_view}
use Rattle.accept_rules.specs.declared.kept.KeptLoad.{KeptLoad}
use Rattle.accept_rules.specs.Interlocks.{FollowsAccepts}
use Rattle.accept_rules.specs.Permissions.{Accepts}

-- A rule whose answer is that of a function of the header's fields follows it.
pub a_function_is_followed : {R : Type 0} (accepts : R → Accepts) (rule : R)
    → FollowsAccepts (λ (r : R) (header : LoadHeader) (kept : List KeptLoad) (answer : Bool). answer ≡ accepts r (header_view header) kept) rule (accepts rule)
a_function_is_followed accepts rule fields kept answer said = said.says ∙ ap (λ (h : HeaderView). accepts rule h kept) said.same
