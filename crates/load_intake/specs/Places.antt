-- The file that comes next (docs/EXCHANGE.md, "Upload").
use Rattle.std.specs.Prelude.{ℕ, ◌+◌, length, Option, Some, None}
use Rattle.session_rules.specs.Uploads.{Next, More_files, Next_load, Complete, OpenLoadView}
use Rattle.session_rules.specs.TargetRows.{Arriving, Kept_bytes, Kept_sums}
use Rattle.load_intake.specs.declared.place.Place.{Place}
use Rattle.load_intake.specs.declared.place.Place.TheVariants as places
use Rattle.load_intake.specs.declared.next.Next as declared_next
use Rattle.load_intake.specs.declared.next.Next.TheVariants as nexts

-- the load that isn't whole, if the next file is one of its
abbrev pub open_load : Place → Option OpenLoadView
open_load (places.Header buffer) = None
open_load (places.File load sums waits) = Some load

-- what is kept of the next file
abbrev pub arriving_at : Place → Arriving
arriving_at (places.Header buffer) = Kept_bytes buffer
arriving_at (places.File load sums waits) = Kept_sums sums

-- how many bytes of the contents of files its lists hold: those of a header that arrives, or the user data of the one that was
-- read and all that stands in the buffer that waits
abbrev pub bytes_held : Place → ℕ
bytes_held (places.Header buffer) = length buffer.prefix
bytes_held (places.File load sums waits) = length load.header.user + length waits.prefix

-- what comes after a file that was accepted
abbrev pub next_seen : declared_next.Next → Next
next_seen nexts.MoreFiles = More_files
next_seen nexts.NextLoad = Next_load
next_seen nexts.Complete = Complete

-- how many loads have arrived where this comes next
abbrev pub arrived_at : (loads : ℕ) → Next → ℕ
arrived_at loads More_files = loads
arrived_at loads next = loads + 1
