-- Sections that begin where their pointers say, and how many bytes fields take.
use Rattle.std.proofs.Common.{◌≡◌, ℕ, ◌+◌, ◌/◌, ◌%◌, List, [], ◌++◌, length, refl, sym, ap, ◌∙◌, arith, length-append}
use Rattle.std.specs.List.{concat}
use Rattle.std.proofs.lemmas.Bool.{eqb-true, eq-eqb}
use Rattle.std.proofs.lemmas.List.{append-nil}
use Rattle.std.proofs.lemmas.List.Folds.{concat-append}
use Rattle.field_grammar.specs.Spelling.{IsPlacedBy, spelled_length}
use Rattle.field_grammar.specs.Fields.{section, number_fields, short_fields, padded_fields}
use Rattle.field_grammar.proofs.NumberLemmas.{length_number_bytes}
use Rattle.field_grammar.proofs.TextLemmas.{length_pad_bytes}

-- ---- how many bytes fields take

pub size_more : (f g : List (List ℕ)) → spelled_length (f ++ g) ≡ spelled_length f + spelled_length g
size_more f g = ap (λ (l : List ℕ). length l) (concat-append f g) ∙ length-append (concat f) (concat g)

pub size_number : (n value : ℕ) → spelled_length (number_fields n value) ≡ n
size_number n value = simp (append-nil, length_number_bytes) refl

pub size_short : (text : List ℕ) → spelled_length (short_fields text) ≡ 1 + length text
size_short text = simp (length-append, length_number_bytes) (omega arith)

pub size_padded : (text : List ℕ) → spelled_length (padded_fields text) ≡ 2 + length text + length text % 2
size_padded text = simp (length-append, append-nil, length_number_bytes, length_pad_bytes) (omega arith)

-- the position after fields
pub offset_after : (before : List ℕ) (f s : List (List ℕ)) → f ≡ s → length (before ++ concat f) ≡ length before + spelled_length s
offset_after before f s same = length-append before (concat f) ∙ ap (λ (g : List (List ℕ)). length before + spelled_length g) same

-- ---- sections

-- a section has no field of its own, and begins at half of its offset
pub placed-section : {F : Type 0} (wrong : ℕ → F) (said : ℕ) → IsPlacedBy (section wrong said) (λ before u. []) (λ before after u. said ≡ length before / 2)
unfolding section
placed-section wrong said = record {
  to = λ before fields after value follows.
      let (b, f1, o1, e1, h1, h2) = follows in
      (rw (e1, h1.0, h2.0) refl, eqb-true said (length b / 2) h2.1 ∙ ap (λ (l : List ℕ). length l / 2) (sym h1.1));
  from = λ before after value fits. (before, [], [], refl, (refl, refl), (refl, eq-eqb said (length before / 2) fits));
}
