-- The tests on a header, where it is known which loads are kept after it, and how many loads there are with it and how many bytes
-- of a bank they need (docs/EXCHANGE.md, "Upload").
use Rattle.std.specs.Prelude.{◌≡◌, ℕ, ◌+◌, ◌≤◌, List, length, bytes_eq, nat_le, Option, Some, None, slice_get}
use Rattle.load_header.specs.Header.{HeaderView}
use Rattle.load_header.specs.HeaderFields.{HeaderSpells}
use Rattle.load_protocol_files.specs.declared.lur.Wanted.{Wanted}
use Rattle.disk_layout.specs.declared.identity.Identity.{Identity}
use Rattle.disk_layout.specs.Holds.{Outline}
use Rattle.disk_layout.specs.Manifest.{LoadEntry}
use Rattle.accept_rules.specs.declared.kept.KeptLoad.{KeptLoad}
use Rattle.accept_rules.specs.Permissions.{Accepts}
use Rattle.session_rules.specs.declared.reason.Reason.{Reason}
use Rattle.session_rules.specs.declared.reason.Reason.TheVariants as reasons
use Rattle.session_rules.specs.Buffers.{Buffer}
use Rattle.session_rules.specs.TargetRows.{Kept_bytes, Over, RowView, WholeRow, row_judged, view_judged}
use Rattle.session_rules.specs.Uploads.{Upload, UploadView, is_for, judge_spelled_header, next_wanted, or_else, unless, upload_view}
use Rattle.load_intake.specs.Keeping.{kept_at, listed_needs}
use Rattle.load_intake.specs.States.{WholeView, upload_of}

abbrev pub refused_for : Accepts → Identity → Wanted → HeaderView → List KeptLoad → (loads need : ℕ) → Option Reason
refused_for accepts id wanted h kept loads need =
    or_else (unless (bytes_eq h.part wanted.part) reasons.PartDiffers)
    (or_else (unless (is_for id.hw id.pos h) reasons.NotThisHardware)
    (or_else (unless (accepts h kept) reasons.RuleRefused)
    (or_else (unless (nat_le loads 32) (reasons.TooManyLoads loads))
    (unless (nat_le need id.bank) (reasons.BankFull need id.bank)))))

-- what of these tests the store goes by: the part number is the one that was asked for, a manifest can count the loads, and the
-- bank has room
pub record PassesStoreTests (id : Identity) (wanted : Wanted) (h : HeaderView) (loads need : ℕ) : Type 0 where
  pub part : h.part ≡ wanted.part
  pub few : loads ≤ 32
  pub fits : need ≤ id.bank

-- how many loads are known of at a header: those that were asked for, and at the last one those that are kept
abbrev pub loads_known : (active : List LoadEntry) → WholeView → HeaderView → ℕ
loads_known active w h = length w.request + length (kept_at active (upload_of w None) h)

-- and how many bytes of a bank they need, where those that were asked for need so many
abbrev pub need_known : (active : List LoadEntry) → WholeView → HeaderView → (need : ℕ) → ℕ
need_known active w h need = need + listed_needs (kept_at active (upload_of w None) h)

-- These bytes are all of a header that spells these values, and as many as a header may have.
pub record IsWholeHeader (h : HeaderView) (bytes : List ℕ) : Type 0 where
  pub spelled : HeaderSpells h bytes
  pub least : 4 ≤ length bytes
  pub most : length bytes ≤ 65536

-- what is kept of a header that isn't too long
abbrev pub whole_buffer : List ℕ → Buffer
whole_buffer bytes = record { prefix = bytes; count = length bytes }

-- the row after a header that was read from these bytes
abbrev pub header_row : Accepts → (active : Outline) → WholeView → HeaderView → (bytes : List ℕ) → RowView
header_row accepts active w h bytes = row_by (slice_get w.request (length w.loads))
  where
    row_by : Option Wanted → RowView
    row_by None = Over
    row_by (Some wanted) = view_judged (upload_of w None) (Kept_bytes (whole_buffer bytes)) (judge_spelled_header accepts active (upload_of w None) wanted (whole_buffer bytes) h)

-- with all contents, where this was asked for
abbrev pub whole_judged : Accepts → (active : Outline) → Upload → UploadView → HeaderView → (bytes : List ℕ) → Option Wanted → WholeRow
whole_judged accepts active u v h bytes None = Over
whole_judged accepts active u v h bytes (Some wanted) = row_judged u bytes (judge_spelled_header accepts active v wanted (whole_buffer bytes) h)

abbrev pub whole_header_row : Accepts → (active : Outline) → Upload → HeaderView → (bytes : List ℕ) → WholeRow
whole_header_row accepts active u h bytes = whole_judged accepts active u (upload_view u) h bytes (next_wanted (upload_view u))
