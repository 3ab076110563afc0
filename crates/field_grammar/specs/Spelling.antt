-- Formats whose values have one spelling each.
use Rattle.std.specs.Prelude.{◌≡◌, ℕ, ◌+◌, List, [], ◌∷◌, ◌++◌, length, Bool, ◌==◌, Ok, ⊤}
use Rattle.std.specs.List.{concat}
use Rattle.field_grammar.specs.Grammar.{Grammar, Follows, read}

-- The values that fit are those that fields of this format say, and each is said by these fields alone.
pub record IsSpelledBy {F A : Type 0} (g : Grammar F A) (spelling : A → List (List ℕ)) (Fits : A → Type 0) : Type 0 where
  pub to : (before : List ℕ) (fields : List (List ℕ)) (after : ℕ) (value : A) → Follows g before fields after value → (fields ≡ spelling value) × Fits value
  pub from : (before : List ℕ) (after : ℕ) (value : A) → Fits value → Follows g before (spelling value) after value

-- The same where it depends on the bytes before the fields what spells a value (an offset, a check sum), and on
-- them and on how many bytes stand after whether it fits.
pub record IsPlacedBy {F A : Type 0} (g : Grammar F A) (spelling : List ℕ → A → List (List ℕ)) (Fits : List ℕ → ℕ → A → Type 0) : Type 0 where
  pub to : (before : List ℕ) (fields : List (List ℕ)) (after : ℕ) (value : A) → Follows g before fields after value → (fields ≡ spelling before value) × Fits before after value
  pub from : (before : List ℕ) (after : ℕ) (value : A) → Fits before after value → Follows g before (spelling before value) after value

-- how many bytes fields take
abbrev pub spelled_length : List (List ℕ) → ℕ
spelled_length fields = length (concat fields)

-- the fields of a value after those so far, where the last of N values is spelled otherwise
abbrev pub with_last : {A : Type 0} → (Bool → A → List (List ℕ)) → ℕ → List A → A → List (List ℕ)
with_last fields count so_far value = fields (length so_far + 1 == count) value

-- the fields of values back to back, where those of each may depend on the values before it
unfoldable pub listed_fields : {A : Type 0} → (List A → A → List (List ℕ)) → List A → List A → List (List ℕ)
listed_fields spelling so_far [] = []
listed_fields spelling so_far (x ∷ xs) = spelling so_far x ++ listed_fields spelling (so_far ++ x ∷ []) xs

-- Each of the values fits after those before it, and at its offset.
abbrev pub AllPlaced : {A : Type 0} → (List A → A → List (List ℕ)) → (List A → List ℕ → ℕ → A → Type 0) → List A → List ℕ → ℕ → List A → Type 0
AllPlaced spelling Fits so_far before after [] = ⊤
AllPlaced spelling Fits so_far before after (x ∷ xs) =
    Fits so_far before (length (concat (listed_fields spelling (so_far ++ x ∷ []) xs)) + after) x
    × AllPlaced spelling Fits (so_far ++ x ∷ []) (before ++ concat (spelling so_far x)) after xs

-- The same of a format of whole bytes.
pub record SpellsWhole {F A : Type 0} (g : Grammar F A) (spelling : A → List (List ℕ)) (Fits : A → Type 0) : Type 0 where
  pub to : (fields : List (List ℕ)) (after : ℕ) (value : A) → Follows g [] fields after value → (fields ≡ spelling value) × Fits value × (after ≡ 0)
  pub from : (value : A) → Fits value → Follows g [] (spelling value) 0 value

-- Wherever these bytes stand, the format reads this value from them and no more.
abbrev pub IsReadBack : {F A : Type 0} → Grammar F A → List ℕ → A → Type 0
IsReadBack g bytes value =
    (before rest : List ℕ) → read g (record { before = before; rest = bytes ++ rest }) ≡ Ok (value, record { before = before ++ bytes; rest = rest })
