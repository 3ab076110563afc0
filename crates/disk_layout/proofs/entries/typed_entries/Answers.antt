use Rattle.std.proofs.Common.{◌≤◌, length, Err, ap}
use Rattle.std.proofs.lemmas.List.{take_rest}
use Rattle.disk_layout.specs.Manifest.{in_layout}
use Rattle.disk_layout.specs.declared.manifest.ManifestFault.{ManifestFault}
use Rattle.disk_layout.proofs.EntryReads.{head_within, typed_behind, typed_nowhere, typed_never}
use Rattle.disk_layout.proofs.entries.typed_entries.Goals as goal

pub slice_bounds-result-count : goal.slice_bounds-result-count
slice_bounds-result-count c =
    rw (c.place.ensures) (head_within c.args.bytes.now (in_layout c.in-Ok.head.layout c.in-Ok.head.loads) c.read_head.new.reader (rw c.new-reader.ensures at c.in-Ok.ensures.reads))

pub slice_bounds-result-start : goal.slice_bounds-result-start
slice_bounds-result-start c =
    let within : c.place.result ≤ length c.args.bytes.now = rw (c.place.ensures) (head_within c.args.bytes.now (in_layout c.in-Ok.head.layout c.in-Ok.head.loads) c.read_head.new.reader (rw c.new-reader.ensures at c.in-Ok.ensures.reads)) in
    search within

pub returns-in-One : goal.returns-in-One
returns-in-One c = λ loads.
    typed_nowhere c.args.bytes.now (in_layout c.in-Ok.head.layout c.in-Ok.head.loads) c.read_head.new.reader loads (rw c.new-reader.ensures at c.in-Ok.ensures.reads) c.in-One.is

pub returns-in-Two : goal.returns-in-Two
returns-in-Two c = λ loads spelled.
    rw (take_rest, c.place.ensures)
    (typed_behind c.args.bytes.now (in_layout c.in-Ok.head.layout c.in-Ok.head.loads) c.read_head.new.reader loads (rw c.new-reader.ensures at c.in-Ok.ensures.reads) c.in-Two.is spelled)

pub returns-in-Err : goal.returns-in-Err
returns-in-Err c = λ loads.
    typed_never c.args.bytes.now c.in-Err.field-0 loads (λ wants. c.in-Err.ensures.no_want (ap (λ (f : ManifestFault). Err f) wants)) (rw c.new-reader.ensures at c.in-Err.ensures.reads)
