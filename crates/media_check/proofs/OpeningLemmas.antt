-- What can be read isn't refused.
use Rattle.std.proofs.Common.{◌≡◌, ℕ, suc, ◌+◌, inl, inr, List, [], ◌∷◌, ◌++◌, ap, subst, ◌∙◌, arith}
use Rattle.std.specs.Prelude.{All}
use Rattle.std.proofs.lemmas.List.Sums.{sum_by-append}
use Rattle.load_base.specs.Host.{Files}
use Rattle.media_check.specs.HostNames.{ReadingOrder}
use Rattle.media_check.specs.Openings.{IsShortOnHost, IsFirstLong, CanRead, IsTooLong, IsTooLarge, length_on_host, total_of}

-- what holds of each holds of the one between others
between : (P : List ℕ → Type 0) (before after : List (List ℕ)) (x : List ℕ) → All P (before ++ x ∷ after) → P x
between P [] after x all = all 0 x (omega arith)
between P (y ∷ before) after x all = between P before after x (λ k d within. all (suc k) d (omega (arith, within)))

none_long : (files : Files) (names : List (List ℕ)) (name : List ℕ) → All (IsShortOnHost files) names → IsFirstLong files names name → ⊥
none_long files names name short first =
    let this : IsShortOnHost files name = between (IsShortOnHost files) first.before first.after name (subst (All (IsShortOnHost files)) first.stands short) in
    absurd (omega (arith, this, first.long))

pub not_too_long : (files : Files) (reading : ReadingOrder) (name : List ℕ) → CanRead files reading → IsTooLong files reading name → ⊥
not_too_long files reading name can refused =
    elim refused [ inl list ↦ none_long files reading.lists name can.lists list | inr listed ↦ none_long files reading.files name can.listed listed.1.first ]

pub not_too_large : (files : Files) (reading : ReadingOrder) → CanRead files reading → IsTooLarge files reading → ⊥
not_too_large files reading can refused =
    let large = refused.1 in
    let whole : total_of files reading.files ≡ total_of files large.before + total_of files (large.name ∷ large.after) =
    ap (total_of files) large.stands ∙ sum_by-append (length_on_host files) large.before (large.name ∷ large.after) in
    let rest : total_of files (large.name ∷ large.after) ≡ total_of files (large.name ∷ []) + total_of files large.after = sum_by-append (length_on_host files) (large.name ∷ []) large.after in
    let one : total_of files (large.name ∷ []) ≡ length_on_host files large.name = omega arith in
    absurd (omega (arith, whole, rest, one, can.together, large.passes))
