-- How a batch is written, field by field (docs/FORMATS.md).
use Rattle.std.specs.Prelude.{◌≡◌, ℕ, ◌+◌, ◌/◌, ◌≤◌, List, ◌++◌, length}
use Rattle.std.specs.List.{concat, flat_map, All}
use Rattle.crc_fields.specs.CheckSums.{crc16_of}
use Rattle.load_base.specs.Ident.{IsIdent}
use Rattle.part_number.specs.PartNumber.{IsPartNumberText}
use Rattle.field_grammar.specs.Spelling.{spelled_length}
use Rattle.field_grammar.specs.Fields.{number_fields, padded_fields}
use Rattle.header_sections.specs.SectionFields.{texts_fields}
use Rattle.batch_lists.specs.Batch.{BatchTargetView, BatchView}

-- the hardware, the position, a count, and the part numbers
abbrev pub batch_target_fields : BatchTargetView → List (List ℕ)
batch_target_fields t = padded_fields t.hw ++ (padded_fields t.pos ++ texts_fields t.parts)

-- a count, and the targets
unfoldable pub batch_targets_fields : List BatchTargetView → List (List ℕ)
batch_targets_fields targets = number_fields 2 (length targets) ++ flat_map batch_target_fields targets

-- the spare word, the part number of the batch and the targets
unfoldable pub contents_fields : BatchView → List (List ℕ)
contents_fields v = number_fields 2 0 ++ (padded_fields v.part ++ batch_targets_fields v.targets)

-- the length in words and the version of a batch of `size` bytes
unfoldable pub start_fields : ℕ → List (List ℕ)
start_fields size = number_fields 4 (size / 2) ++ number_fields 2 0xC004

-- the whole: the start has 6 bytes, and the check sum 2
unfoldable pub batch_size : BatchView → ℕ
batch_size v = 6 + spelled_length (contents_fields v) + 2

-- what the check sum covers
unfoldable pub covered_fields : BatchView → List (List ℕ)
covered_fields v = start_fields (batch_size v) ++ contents_fields v

unfoldable pub batch_fields : BatchView → List (List ℕ)
batch_fields v = covered_fields v ++ number_fields 2 (crc16_of (concat (covered_fields v)))

-- ---- what can be written

abbrev pub IsCount : ℕ → ℕ → Type 0
IsCount most count = (1 ≤ count) × (count ≤ most)

-- a target with 1 to 32 loads
pub record IsBatchTarget (t : BatchTargetView) : Type 0 where
  pub hw : IsIdent t.hw
  pub pos : IsIdent t.pos
  pub count : IsCount 32 (length t.parts)
  pub parts : All (λ part. IsPartNumberText part) t.parts

-- 1 to 64 targets
pub record AreContents (v : BatchView) : Type 0 where
  pub part : IsPartNumberText v.part
  pub count : IsCount 64 (length v.targets)
  pub targets : All (λ t. IsBatchTarget t) v.targets

-- a batch of at most 131,072 bytes
pub record IsBatch (v : BatchView) : Type 0 where
  pub contents : AreContents v
  pub size : batch_size v ≤ 131072

-- The batch has this one spelling, and can be written.
abbrev pub BatchSpells : BatchView → List ℕ → Type 0
BatchSpells v bytes = IsBatch v × (bytes ≡ concat (batch_fields v))
