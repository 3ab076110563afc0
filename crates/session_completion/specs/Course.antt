-- The rows of an upload that goes well, in their order: each by its file, by the end that asks for it and the one that sends
-- it (docs/EXCHANGE.md, "A fault-free run completes").
use Rattle.std.specs.Prelude.{◌≡◌, ℕ, zero, suc, ◌+◌, ◌*◌, List, [], length, Option, Some, None, unwrap_or}
use Rattle.crc_fields.specs.CheckSums.{crc32_of}
use Rattle.disk_layout.specs.Contents.{entries_of}
use Rattle.disk_layout.specs.Holds.{outline_of}
use Rattle.field_grammar.specs.Grammar.{IsBytes}
use Rattle.load_base.specs.Config.{LoadView}
use Rattle.load_base.specs.Name.{IsName}
use Rattle.load_protocol_files.specs.declared.lur.Wanted.{Wanted}
use Rattle.exchange_trace.specs.declared.trace.Side.{Side}
use Rattle.exchange_trace.specs.declared.trace.Side.TheVariants as sides
use Rattle.transfer_end.specs.Packets.{wanted_options}
use Rattle.transfer_end.specs.Transfers.{Role, Reads, Writes}
use Rattle.session_rules.specs.declared.outcome.FileKind.{FileKind}
use Rattle.session_rules.specs.declared.outcome.FileKind.TheVariants.{Lui, Lur, Lus}
use Rattle.session_rules.specs.declared.outcome.Outcome.TheVariants.{Completed}
use Rattle.session_rules.specs.Buffers.{buffered}
use Rattle.session_rules.specs.FileNames.{file_name}
use Rattle.session_rules.specs.LoaderRows.{LoaderRow, Reads_lui, Takes_lus, Writes_lur, Serves_files, Goes_on, Comes_to, file_turn}
use Rattle.session_rules.specs.Reports.{accepting_lui, ready_lus, progress_lus, lur_file}
use Rattle.session_rules.specs.Target.{last_lus}
use Rattle.session_rules.specs.TargetRows.{RowView, Gives_lui, Writes_ready, Awaits_lur, Reads_file, Writes_progress, Writes_completion, arriving_of, row_move, view_moved}
use Rattle.session_rules.specs.Uploads.{OpenLoadView, next_name}
use Rattle.replay_rules.specs.BothEnds.{Setting}
use Rattle.transfer_completion.specs.Talks.{FitsBlocks}

-- ---- a row

-- the file that is exchanged
abbrev pub file_in : Setting → List Wanted → RowView → List ℕ
file_in set wanted Gives_lui = accepting_lui
file_in set wanted Writes_ready = ready_lus
file_in set wanted Awaits_lur = lur_file wanted
file_in set wanted (Reads_file u) = unwrap_or (set.media.file (next_name u)) []
file_in set wanted (Writes_progress u) = progress_lus u.request (length u.loads) u.reports
file_in set wanted (Writes_completion e loads) = last_lus e e.reason
file_in set wanted row = []

-- the name of a file of the target's own
abbrev pub own_file_name : Setting → FileKind → List ℕ
own_file_name set kind = file_name set.start.identity.hw set.start.identity.pos kind

abbrev pub name_in : Setting → RowView → List ℕ
name_in set Gives_lui = own_file_name set Lui
name_in set Awaits_lur = own_file_name set Lur
name_in set (Reads_file u) = next_name u
name_in set row = own_file_name set Lus

-- the end that asks
abbrev pub asker : RowView → Side
asker Gives_lui = sides.Loader
asker Awaits_lur = sides.Loader
asker row = sides.Target

-- the end that sends the file
abbrev pub sender_in : RowView → Side
sender_in Awaits_lur = sides.Loader
sender_in (Reads_file u) = sides.Loader
sender_in row = sides.Target

-- what the end that asks does, where it was told this block size
abbrev pub role_in : Setting → List Wanted → RowView → (told : Option ℕ) → Role
role_in set wanted Gives_lui told = Reads (own_file_name set Lui) (wanted_options told 0)
role_in set wanted (Reads_file u) told = Reads (next_name u) (wanted_options told 0)
role_in set wanted row told = Writes (name_in set row) (wanted_options told (length (file_in set wanted row))) (file_in set wanted row)

-- the loader's row meanwhile
abbrev pub loader_row : RowView → LoaderRow
loader_row Gives_lui = Reads_lui
loader_row Writes_ready = Takes_lus
loader_row Awaits_lur = Writes_lur
loader_row row = Serves_files

-- ---- the row after it

-- what arrives of the file at the target
abbrev pub arrives_in : RowView → List ℕ → List ℕ
arrives_in Awaits_lur file = file
arrives_in (Reads_file u) file = file
arrives_in row file = []

-- by the target's own rules, which go by what is active at the start
abbrev pub next_row : Setting → List Wanted → RowView → RowView
next_row set wanted row =
    view_moved row (arriving_of row (arrives_in row (file_in set wanted row)))
    (row_move set.accepts (outline_of set.start) row (record { error = None; arriving = arriving_of row (arrives_in row (file_in set wanted row)) }))

-- ---- what has to hold of a row

-- a row of an upload that goes well
abbrev pub IsInUpload : RowView → Type 0
IsInUpload Gives_lui = Unit {0}
IsInUpload Writes_ready = Unit {0}
IsInUpload Awaits_lur = Unit {0}
IsInUpload (Reads_file u) = Unit {0}
IsInUpload (Writes_progress u) = Unit {0}
IsInUpload (Writes_completion e loads) = Unit {0}
IsInUpload row = ⊥

-- and not its first
abbrev pub IsLater : RowView → Type 0
IsLater Gives_lui = ⊥
IsLater row = IsInUpload row

-- a row after the request
abbrev pub IsAfterRequest : RowView → Type 0
IsAfterRequest (Reads_file u) = Unit {0}
IsAfterRequest (Writes_progress u) = Unit {0}
IsAfterRequest (Writes_completion e loads) = Unit {0}
IsAfterRequest row = ⊥

-- the media set has a file that the target reads
abbrev pub IsServed : Setting → List Wanted → RowView → Type 0
IsServed set wanted (Reads_file u) = set.media.file (next_name u) ≡ Some (file_in set wanted (Reads_file u))
IsServed set wanted row = Unit {0}

-- the check sum of the open load is that of some bytes
abbrev pub IsSum : Option OpenLoadView → Type 0
IsSum None = Unit {0}
IsSum (Some l) = (covered : List ℕ) × (l.crc ≡ crc32_of covered)

abbrev pub IsSummed : RowView → Type 0
IsSummed (Reads_file u) = IsSum u.current
IsSummed row = Unit {0}

-- a file that can be exchanged
pub record IsFine (set : Setting) (wanted : List Wanted) (row : RowView) : Type 0 where
  pub fits : FitsBlocks (file_in set wanted row) 512
  pub bytes : IsBytes (file_in set wanted row)
  pub named : IsName (name_in set row)
  pub served : IsServed set wanted row
  pub summed : IsSummed row

-- the loader goes on with what it receives
abbrev pub LoaderReadsOn : RowView → List ℕ → Type 0
LoaderReadsOn Gives_lui file = file_turn Reads_lui (buffered file) ≡ Goes_on
LoaderReadsOn Writes_ready file = file_turn Takes_lus (buffered file) ≡ Goes_on
LoaderReadsOn (Writes_progress u) file = file_turn Serves_files (buffered file) ≡ Goes_on
LoaderReadsOn Awaits_lur file = Unit {0}
LoaderReadsOn (Reads_file u) file = Unit {0}
LoaderReadsOn row file = ⊥

-- the transfer of a row leads to another row
pub record IsStep (set : Setting) (wanted : List Wanted) (row : RowView) : Type 0 where
  pub fine : IsFine set wanted row
  pub goes_on : LoaderReadsOn row (file_in set wanted row)
  pub later : IsLater (next_row set wanted row)
  pub asks : sender_in row ≡ sides.Loader → IsAfterRequest (next_row set wanted row)

-- the last one completes the upload
abbrev pub Completes : Setting → List Wanted → List LoadView → RowView → Type 0
Completes set wanted loads (Writes_completion e entries) =
    IsFine set wanted (Writes_completion e entries) × (file_turn Serves_files (buffered (last_lus e e.reason)) ≡ Comes_to Completed) × (entries ≡ entries_of loads)
Completes set wanted loads row = ⊥

-- From this row on, after this many transfers more than its own, the upload is completed.
abbrev pub Course : Setting → List Wanted → List LoadView → (more : ℕ) → RowView → Type 0
Course set wanted loads zero row = Completes set wanted loads row
Course set wanted loads (suc more) row = IsStep set wanted row × Course set wanted loads more (next_row set wanted row)

-- more datagrams than are posted from a row on, and behind it
abbrev pub cost : Setting → List Wanted → (more : ℕ) → RowView → ℕ
cost set wanted zero row = 2 * length (file_in set wanted row) + 6
cost set wanted (suc more) row = cost set wanted more (next_row set wanted row) + (2 * length (file_in set wanted row) + 6)

abbrev pub cost_behind : Setting → List Wanted → (more : ℕ) → RowView → ℕ
cost_behind set wanted zero row = 0
cost_behind set wanted (suc more) row = cost set wanted more (next_row set wanted row)
