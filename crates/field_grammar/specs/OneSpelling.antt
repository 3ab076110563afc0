-- Values and bytes that belong to one another.
use Rattle.std.specs.Prelude.{◌≡◌, ℕ, List, Ok}
use Rattle.field_grammar.specs.Answers.{answer}
use Rattle.field_grammar.specs.Grammar.{Grammar, Fault}

-- A value has one spelling, bytes spell one value, and they are read as that value. Nothing that is
-- spelled has a fault.
pub record HasOneSpelling {F A : Type 0} (g : Grammar F A) (Spells : A → List ℕ → Type 0) : Type 0 where
  pub one_spelling : (value : A) (bytes others : List ℕ) → Spells value bytes → Spells value others → bytes ≡ others
  pub one_value : (value other : A) (bytes : List ℕ) → Spells value bytes → Spells other bytes → value ≡ other
  pub read_again : (value : A) (bytes : List ℕ) → Spells value bytes → answer g bytes ≡ Ok value
  pub no_fault : (value : A) (bytes : List ℕ) (fault : F) → Spells value bytes → ¬ Fault g bytes fault
