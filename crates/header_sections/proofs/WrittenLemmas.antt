-- What a list of entries is when all of them are written.
use Rattle.std.proofs.Common.{◌≡◌, ℕ, ◌≤◌, List, [], ◌++◌, length, take, sym, ap, ◌∙◌, append_assoc}
use Rattle.std.specs.List.{concat}
use Rattle.std.proofs.lemmas.List.{append-nil, take_all}
use Rattle.field_grammar.specs.Spelling.{listed_fields}
use Rattle.field_grammar.specs.Fields.{number_bytes}
use Rattle.header_sections.specs.SectionFields.{entry_fields_after, entries_fields}

-- the first `i` entries of a list
abbrev pub entries_to : {E : Type 0} → (E → List (List ℕ)) → List E → ℕ → List ℕ
entries_to f es i = concat (listed_fields (entry_fields_after f (length es)) [] (take i es))

pub begins : {E : Type 0} (f : E → List (List ℕ)) (es : List E) (start : List ℕ) → start ≡ start ++ entries_to f es 0
unfolding listed_fields
begins f es start = sym (append-nil start)

-- a count and all the entries
pub all_written : {E : Type 0} (f : E → List (List ℕ)) (es : List E) (i : ℕ) (before now : List ℕ) → length es ≤ i
    → now ≡ (before ++ number_bytes 2 (length es)) ++ entries_to f es i → now ≡ before ++ concat (entries_fields f es)
unfolding entries_fields
all_written f es i before now le is =
    is ∙ (ap (λ (l : List _). (before ++ number_bytes 2 (length es)) ++ concat (listed_fields (entry_fields_after f (length es)) [] l)) (take_all i es le)
    ∙ append_assoc before (number_bytes 2 (length es)) (concat (listed_fields (entry_fields_after f (length es)) [] es)))
