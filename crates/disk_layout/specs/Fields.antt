-- The fields of which the formats on a disk are made (docs/DISK.md).
use Rattle.std.specs.Prelude.{ℕ, length, Bool}
use Rattle.field_grammar.specs.Grammar.{Grammar, give, check, prefix, renamed, ◌>>=◌, ◌>>◌}
use Rattle.field_grammar.specs.declared.fault.FieldFault.{FieldFault}

-- A field that passes a test. Where it doesn't, and where it doesn't fit, the fault is that of the offset where it begins.
abbrev pub sound : {F A : Type 0} → (ℕ → F) → Grammar FieldFault A → (A → Bool) → Grammar F A
sound wrong g test = do
  before ← prefix
  value ← renamed (λ (f : FieldFault). wrong (length before)) g
  check (test value) (wrong (length before))
  give value
