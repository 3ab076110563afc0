-- The detail of a finding in its line.
use Rattle.std.proofs.Common.{◌≡◌, ◌≢◌, ℕ, List, [], ◌∷◌, length, refl}
use Rattle.loader_cli.specs.Texts.{detail_words}

pub no_detail : (detail : List ℕ) → length detail ≡ 0 → detail_words detail ≡ []
no_detail [] none = refl
no_detail (byte ∷ bytes) none = absurd cc

pub some_detail : (detail : List ℕ) → length detail ≢ 0 → detail_words detail ≡ detail ∷ []
some_detail [] some = absurd (some refl)
some_detail (byte ∷ bytes) some = refl
