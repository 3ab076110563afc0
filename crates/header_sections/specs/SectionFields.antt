-- The pieces that load headers and the lists of a media set have in common, field by field as they are written.
use Rattle.std.specs.Prelude.{◌≡◌, ℕ, ◌+◌, ◌/◌, ◌%◌, ◌<◌, ◌≤◌, ◌^◌, List, [], ◌∷◌, ◌++◌, length, Bool, ⊤}
use Rattle.std.specs.List.{flat_map}
use Rattle.field_grammar.specs.Grammar.{IsBytes}
use Rattle.field_grammar.specs.Fields.{number_fields, padded_fields}
use Rattle.field_grammar.specs.Spelling.{spelled_length, with_last, listed_fields}
use Rattle.header_sections.specs.Sections.{distance_of}

-- a count, and the texts
unfoldable pub texts_fields : List (List ℕ) → List (List ℕ)
texts_fields texts = number_fields 2 (length texts) ++ flat_map padded_fields texts

-- the length in words, and the bytes
unfoldable pub user_fields : List ℕ → List (List ℕ)
user_fields user = number_fields 2 (length user / 2) ++ user ∷ []

-- an even number of bytes, whose half fits two bytes
pub record IsUserData (user : List ℕ) : Type 0 where
  pub bytes : IsBytes user
  pub even : length user % 2 ≡ 0
  pub size : length user / 2 < 2 ^ 16

-- ---- entries, each of which has fields of its own after its distance

-- how many bytes an entry takes, with its distance
abbrev pub entry_size : {E : Type 0} → (E → List (List ℕ)) → E → ℕ
entry_size body_fields this = 2 + spelled_length (body_fields this)

-- an entry: its distance is half its length, and 0 for the last of its list
abbrev pub entry_fields : {E : Type 0} → (E → List (List ℕ)) → Bool → E → List (List ℕ)
entry_fields body_fields last this = number_fields 2 (distance_of last (entry_size body_fields this)) ++ body_fields this

-- the entry after those so far, in a list of `count`
abbrev pub entry_fields_after : {E : Type 0} → (E → List (List ℕ)) → ℕ → List E → E → List (List ℕ)
entry_fields_after body_fields count so_far this = with_last (entry_fields body_fields) count so_far this

-- a count, and the entries
unfoldable pub entries_fields : {E : Type 0} → (E → List (List ℕ)) → List E → List (List ℕ)
entries_fields body_fields entries = number_fields 2 (length entries) ++ listed_fields (entry_fields_after body_fields (length entries)) [] entries

-- All entries but the last have at most 131,070 bytes, so that half of them fits the distance.
abbrev pub HaveDistances : {E : Type 0} → (E → List (List ℕ)) → List E → Type 0
HaveDistances body_fields [] = ⊤
HaveDistances body_fields (last ∷ []) = ⊤
HaveDistances body_fields (this ∷ next ∷ more) = (entry_size body_fields this ≤ 131070) × HaveDistances body_fields (next ∷ more)
