-- What an encoder of a batch has written.
use Rattle.std.proofs.Common.{◌≡◌, ◌+◌, ◌≤◌, List, ℕ, ◌++◌, length, sym, ap, ◌∙◌, arith}
use Rattle.std.specs.List.{concat}
use Rattle.std.proofs.lemmas.List.{append-nil}
use Rattle.std.proofs.lemmas.List.Folds.{concat-append}
use Rattle.crc_fields.specs.CheckSums.{crc16_of}
use Rattle.field_grammar.specs.Fields.{number_bytes, number_fields}
use Rattle.batch_lists.specs.Batch.{BatchView}
use Rattle.batch_lists.specs.BatchFields.{contents_fields, start_fields, batch_size, covered_fields, batch_fields, IsBatch, BatchSpells}

pub few_contents : (v : BatchView) (contents : List ℕ) → IsBatch v → contents ≡ concat (contents_fields v) → length contents ≤ 131072
unfolding batch_size
few_contents v contents fits is = omega (arith, fits.size, ap (λ (l : List ℕ). length l) is)

-- the start, the contents, and the check sum over both
pub batch_written : (v : BatchView) (contents covered whole : List ℕ) → IsBatch v → contents ≡ concat (contents_fields v) → covered ≡ concat (start_fields (6 + length contents + 2)) ++ contents
    → whole ≡ covered ++ number_bytes 2 (crc16_of covered) → BatchSpells v whole
unfolding batch_fields covered_fields batch_size
batch_written v contents covered whole fits is begun summed =
    let c : List (List ℕ) = start_fields (6 + length (concat (contents_fields v)) + 2) ++ contents_fields v in
    let covered_is : covered ≡ concat c =
    begun ∙ (ap (λ (l : List ℕ). concat (start_fields (6 + length l + 2)) ++ l) is ∙ sym (concat-append (start_fields (6 + length (concat (contents_fields v)) + 2)) (contents_fields v))) in
    let end : List (List ℕ) = number_fields 2 (crc16_of (concat c)) in
    let ended : concat end ≡ number_bytes 2 (crc16_of (concat c)) = append-nil (number_bytes 2 (crc16_of (concat c))) in
    (fits, summed ∙ (ap (λ (l : List ℕ). l ++ number_bytes 2 (crc16_of l)) covered_is ∙ (ap (λ (l : List ℕ). concat c ++ l) (sym ended) ∙ sym (concat-append c end))))
