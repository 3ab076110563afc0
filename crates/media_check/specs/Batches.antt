-- The batches of a media set, each with what is found of its file (docs/FORMATS.md, "Media sets").
use Rattle.std.specs.Prelude.{◌≡◌, ℕ, List, map, Option, Some, None, option_map, slice_get}
use Rattle.std.specs.Map.{lookup}
use Rattle.load_base.specs.Bytes.{same_bytes}
use Rattle.batch_lists.specs.Batch.{BatchView, batch, batch_view}
use Rattle.batch_lists.specs.declared.batches.BatchEntry.{BatchEntry}
use Rattle.batch_lists.specs.declared.fault.BatchFault.{BatchFault}
use Rattle.media_check.specs.Kept.{ListedFileView, found_in, found_view}
use Rattle.media_check.specs.declared.batches.KeptBatch.{KeptBatch}
use Rattle.media_check.specs.declared.found.Found.{Found}
use Rattle.media_check.specs.declared.found.Found.TheVariants.{Missing, Refused, Read}

-- a listed file that a batch names: the member of its entry in FILES.LUM, and what is found of it
pub record KeptBatchView : Type 0 where
  pub member : ℕ
  pub found : Found BatchView BatchFault

abbrev pub kept_batch_view : KeptBatch → KeptBatchView
kept_batch_view kept = record { member = kept.member; found = found_view batch_view kept.found }

-- of each entry of a list; None where its file isn't listed
abbrev pub kept_view : Option KeptBatch → Option KeptBatchView
kept_view kept = option_map kept_batch_view kept

-- a listed file, read as a batch
abbrev pub read_as_batch : ListedFileView → KeptBatchView
read_as_batch file = record { member = file.member; found = found_in batch file.bytes }

-- what is found of the file that this entry of BATCHES.LUM names, among listed files
abbrev pub batch_at : List (List ℕ × ListedFileView) → BatchEntry → Option KeptBatchView
batch_at files entry = option_map read_as_batch (lookup (same_bytes entry.file) files)

-- the first entry that has this part number
abbrev pub first_batch : List ℕ → List BatchEntry → Option BatchEntry
first_batch part entries = lookup (same_bytes part) (map (λ entry. (entry.part, entry)) entries)

-- the batch, where it was read
abbrev pub batch_found : Found BatchView BatchFault → Option BatchView
batch_found (Read v) = Some v
batch_found Missing = None
batch_found (Refused fault) = None

abbrev pub batch_kept : Option KeptBatchView → Option BatchView
batch_kept None = None
batch_kept (Some kept) = batch_found kept.found

abbrev pub batch_of_entry : List (List ℕ × ListedFileView) → Option BatchEntry → Option BatchView
batch_of_entry files None = None
batch_of_entry files (Some entry) = batch_kept (batch_at files entry)

-- ---- what is kept of them

-- Each entry has beside it what is found of its file.
abbrev pub AreKeptBatches : List (List ℕ × ListedFileView) → List BatchEntry → List (Option KeptBatch) → Type 0
AreKeptBatches files entries kept = map kept_view kept ≡ map (batch_at files) entries

abbrev pub entry_at : List BatchEntry → Option ℕ → Option BatchEntry
entry_at entries None = None
entry_at entries (Some index) = slice_get entries index

-- Each part number has the index of the first entry with it.
abbrev pub HaveFirst : List (List ℕ × ℕ) → List BatchEntry → Type 0
HaveFirst indices entries = (part : List ℕ) → entry_at entries (lookup (same_bytes part) indices) ≡ first_batch part entries

abbrev pub batch_kept_as : Option (Option KeptBatch) → Option BatchView
batch_kept_as None = None
batch_kept_as (Some kept) = batch_kept (kept_view kept)

-- the batch at this index, where it was read
abbrev pub batch_kept_at : List (Option KeptBatch) → (index : ℕ) → Option BatchView
batch_kept_at kept index = batch_kept_as (slice_get kept index)
