-- The fields of a list of batches and of a batch, as they are shown (docs/FORMATS.md, "Printed text").
use Rattle.std.specs.Prelude.{ℕ, ◌/◌, List, [], ◌∷◌, ◌++◌, length, codes}
use Rattle.std.specs.List.{flat_map}
use Rattle.std.specs.Fmt.{decimal}
use Rattle.batch_lists.specs.Batch.{BatchTargetView, BatchView}
use Rattle.batch_lists.specs.Batches.{BatchesListView}
use Rattle.batch_lists.specs.declared.batch.TheConstants.{BATCH_VERSION}
use Rattle.batch_lists.specs.declared.batches.BatchEntry.{BatchEntry}
use Rattle.batch_lists.specs.declared.batches.TheConstants.{BATCHES_VERSION}
use Rattle.printed_text.specs.Lines.{line, field_line}
use Rattle.shown_files.specs.ListText.{kind_line, set_lines, crc_line}
use Rattle.shown_files.specs.UserLine.{user_line}

-- `batch PART FILE MEMBER`
unfoldable pub listed_batch_line : BatchEntry → List ℕ
listed_batch_line batch = line (codes "batch" ∷ batch.part ∷ batch.file ∷ decimal batch.member ∷ [])

-- the list of batches that these bytes spell
unfoldable pub shown_batches_list : List ℕ → BatchesListView → List ℕ
shown_batches_list bytes l =
    kind_line (codes "batches") (length bytes / 2) BATCHES_VERSION ++ set_lines l.set l.member l.members
    ++ flat_map listed_batch_line l.entries ++ user_line l.user ++ crc_line bytes

-- `part PART`
abbrev pub part_line : List ℕ → List ℕ
part_line part = field_line (codes "part") part

-- `target HW POS`
unfoldable pub batch_target_line : BatchTargetView → List ℕ
batch_target_line t = line (codes "target" ∷ t.hw ∷ t.pos ∷ [])

-- a target, and a line for each of its parts
unfoldable pub batch_target_lines : BatchTargetView → List ℕ
batch_target_lines t = batch_target_line t ++ flat_map part_line t.parts

-- the batch that these bytes spell
unfoldable pub shown_batch : List ℕ → BatchView → List ℕ
shown_batch bytes b =
    kind_line (codes "lub") (length bytes / 2) BATCH_VERSION ++ part_line b.part ++ flat_map batch_target_lines b.targets ++ crc_line bytes
