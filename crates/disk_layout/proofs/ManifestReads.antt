-- A manifest, as the reader of its bytes found it.
use Rattle.std.proofs.Common.{◌≡◌, ℕ, ◌≤◌, List, length, Result, Ok, Err, IfOk, inl, inr}
use Rattle.std.specs.Prelude.{IfErr}
use Rattle.field_grammar.specs.Grammar.{IsBytes, Spelled}
use Rattle.field_grammar.specs.Answers.{answer, AnswersAs}
use Rattle.disk_layout.specs.Manifest.{FitsALayout, manifest, manifest_view}
use Rattle.disk_layout.proofs.ManifestLemmas.{manifest_found, manifest_faulty, fault_has_offset}
use Rattle.disk_layout.proofs.ManifestSpelling.{manifest_spelling}
use Rattle.disk_layout.specs.declared.manifest.Manifest.{Manifest}
use Rattle.disk_layout.specs.declared.manifest.ManifestFault.{ManifestFault}
use Rattle.disk_layout.specs.declared.manifest.ManifestFault.TheVariants.{Wrong, Memory}
use Rattle.disk_layout.specs.Manifest.{RefusesManifestBytes}

abbrev GivesManifest : List ℕ → Result Manifest ManifestFault → Type 0
GivesManifest bytes result = AnswersAs Memory manifest_view result (answer manifest bytes)

-- what was read is spelled
pub is_spelled : (bytes : List ℕ) (result : Result Manifest ManifestFault) → IsBytes bytes → GivesManifest bytes result → IfOk result (λ m. Spelled manifest bytes (manifest_view m))
is_spelled bytes (Ok m) fit gives = manifest_found bytes (manifest_view m) fit gives
is_spelled bytes (Err fault) fit gives = tt

pub is_fitting : (bytes : List ℕ) (result : Result Manifest ManifestFault) → IsBytes bytes → GivesManifest bytes result → IfOk result (λ m. FitsALayout (manifest_view m))
is_fitting bytes (Ok m) fit gives = let text = (manifest_spelling bytes (manifest_view m)).0 (manifest_found bytes (manifest_view m) fit gives) in record { layout = text.0; fits = text.1 }
is_fitting bytes (Err fault) fit gives = tt

wrong_or_memory : (offset : ℕ) → Wrong offset ≡ Memory → ⊥
wrong_or_memory offset e = cc

-- what was refused is a fault, or out of memory
pub is_refused : (bytes : List ℕ) (result : Result Manifest ManifestFault) → IsBytes bytes → GivesManifest bytes result → IfErr result (λ fault. RefusesManifestBytes bytes fault)
is_refused bytes (Ok m) fit gives = tt
is_refused bytes (Err Memory) fit gives = tt
is_refused bytes (Err (Wrong offset)) fit (inl wants) = absurd (wrong_or_memory offset wants)
is_refused bytes (Err (Wrong offset)) fit (inr refused) =
    let faulty = manifest_faulty bytes offset fit refused in
    let (other, is, within) = fault_has_offset bytes (Wrong offset) faulty in
    (faulty, same offset other is within)
  where
    same : (p q : ℕ) → Wrong p ≡ Wrong q → q ≤ length bytes → p ≤ length bytes
    same p q e within = let here : p ≡ q = cc in rw here within
