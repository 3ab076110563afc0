use Rattle.std.proofs.Common.{◌≡◌, ◌<◌, ◌≤◌, length, rules, arith, ap, sym, subst, ◌∙◌, List, ℕ, Option, None}
use Rattle.std.proofs.lemmas.Result.{IfOk-weaker}
use Rattle.load_header.specs.Header.{header_view}
use Rattle.load_header.specs.HeaderFields.{HeaderSpells, header_size}
use Rattle.load_header.specs.declared.fault.HeaderFault.TheVariants.{Memory}
use Rattle.session_rules.specs.TargetRows.{Kept_bytes, Reads_file, UploadEnd, Writes_stop, arriving_load, done_move}
use Rattle.session_rules.specs.Uploads.{OpenLoadView, UploadView, current_view}
use Rattle.load_intake.specs.States.{upload_of}
use Rattle.load_intake.proofs.Accepting.{buffer_is, read_brings}
use Rattle.load_intake.proofs.Filling.{header_takes}
use Rattle.load_intake.proofs.Moving.{brings_stop, stops}
use Rattle.load_intake.specs.Intakes.{row_seen}
use Rattle.load_intake.specs.Judging.{header_row}
use Rattle.load_intake.proofs.Going.{stops_there}
use Rattle.load_intake.proofs.Headers.{asked_is, asked_of, buffer_whole, header_is_read, header_is_refused, header_moved, past_buffer, read_row, refused_row, too_long_row, within_buffer}
use Rattle.load_intake.proofs.arriving.header_arrived.Goals as goal

pub returns-then-count-bytes-clause-row : goal.returns-then-count-bytes-clause-row
returns-then-count-bytes-clause-row g c accepts follows active same =
    let b = c.args.buffer in
    let more : length b.prefix < b.count = omega (arith, c.if-count-bytes.true, c.count.ensures.is, ap length c.prefix-bytes.ensures) in
    let long = past_buffer b c.count.ensures.filled.filled more in
    ap (λ (e : UploadEnd). Writes_stop e) c.refuse_header-end.ensures.end ∙ too_long_row accepts active c.args.whole b c.requires.arrived.keeps long

pub returns-then-count-bytes-clause-ends : goal.returns-then-count-bytes-clause-ends
returns-then-count-bytes-clause-ends g c =
    stops_there _ c.refuse_header-end.result c.args.store.now c.refuse_header-end.new.store _ c.refuse_header-end.ensures.continues c.refuse_header-end.ensures.prepared c.requires.arrived.running

pub header_read-requires-clause-header : goal.header_read-requires-clause-header
unfolding header_size
header_read-requires-clause-header g c =
    let b = c.args.buffer in
    record {
      spelled = subst (λ (bytes : List ℕ). HeaderSpells (header_view c.in-Ok.header) bytes) c.prefix-bytes.ensures c.in-Ok.ensures.found;
      least = omega (arith, c.header_laws.ensures.length (header_view c.in-Ok.header) c.prefix-bytes.result.now c.in-Ok.ensures.found, ap length c.prefix-bytes.ensures);
      most = omega (arith, c.count.ensures.filled.filled, ap length c.prefix-bytes.ensures);
    }

pub returns-in-Ok-clause-row : goal.returns-in-Ok-clause-row
returns-in-Ok-clause-row g c accepts follows active same =
    let b = c.args.buffer in
    let w = c.args.whole in
    let h = header_view c.in-Ok.header in
    let bytes = c.prefix-bytes.result.now in
    let filled = c.count.ensures.filled.filled in
    let all : b.count ≤ length b.prefix = omega (arith, c.if-count-bytes.false, c.count.ensures.is, ap length c.prefix-bytes.ensures) in
    let is = rw c.prefix-bytes.ensures at (header_is_read bytes h ((c.header_laws.ensures.spelled h bytes).1 c.in-Ok.ensures.found)) in
    let row = read_row accepts active w b h c.requires.arrived.keeps (within_buffer b filled all) is (buffer_whole b filled all) in
    IfOk-weaker c.header_read.result (λ f. row_seen f ≡ header_row accepts active w h b.prefix) (λ f. row_seen f ≡ header_moved accepts active w b)
    (λ f e. e ∙ row) (c.header_read.ensures.row accepts follows active same)

pub returns-in-Err : goal.returns-in-Err
returns-in-Err g c = record {
  row = λ accepts follows active same.
      let b = c.args.buffer in
      let filled = c.count.ensures.filled.filled in
      let all : b.count ≤ length b.prefix = omega (arith, c.if-count-bytes.false, c.count.ensures.is, ap length c.prefix-bytes.ensures) in
      let is = rw c.prefix-bytes.ensures at (header_is_refused c.prefix-bytes.result.now Memory c.in-Err.fault (search rules) c.in-Err.ensures.refused) in
      ap (λ (e : UploadEnd). Writes_stop e) c.refuse_header.ensures.end
      ∙ refused_row accepts active c.args.whole b c.in-Err.fault c.requires.arrived.keeps (within_buffer b filled all) is;
  ends = stops_there _ c.refuse_header.result c.args.store.now c.refuse_header.new.store _ c.refuse_header.ensures.continues c.refuse_header.ensures.prepared c.requires.arrived.running;
  brings = λ accepts follows active same s u arrived is installs.
      let b = c.args.buffer in
      let filled = c.count.ensures.filled.filled in
      let all : b.count ≤ length b.prefix = omega (arith, c.if-count-bytes.false, c.count.ensures.is, ap length c.prefix-bytes.ensures) in
      let found = rw c.prefix-bytes.ensures at (header_is_refused c.prefix-bytes.result.now Memory c.in-Err.fault (search rules) c.in-Err.ensures.refused) in
      let v = upload_of c.args.whole None in
      brings_stop c.args.store.now c.refuse_header.new.store (g.K.Disk.state c.args.disk.now) s u arrived _ _
      (stops u v arrived (Kept_bytes b) (done_move accepts active (Reads_file v) (Kept_bytes b)) _
      (ap (λ (e : UploadEnd). Writes_stop e) c.refuse_header.ensures.end ∙ refused_row accepts active c.args.whole b c.in-Err.fault c.requires.arrived.keeps (within_buffer b filled all) found))
      c.refuse_header.ensures.continues installs;
  keeps = record { size = c.refuse_header.ensures.continues.active.size; known = tt; writes = search rules };
}

pub returns-then-count-bytes-clause-brings : goal.returns-then-count-bytes-clause-brings
returns-then-count-bytes-clause-brings g c = λ accepts follows active same s u arrived is installs.
    let b = c.args.buffer in
    let v = upload_of c.args.whole None in
    brings_stop c.args.store.now c.refuse_header-end.new.store (g.K.Disk.state c.args.disk.now) s u arrived _ _
    (stops u v arrived (Kept_bytes b) (done_move accepts active (Reads_file v) (Kept_bytes b)) _ (returns-then-count-bytes-clause-row g c accepts follows active same)) c.refuse_header-end.ensures.continues installs

pub returns-in-Ok-clause-brings : goal.returns-in-Ok-clause-brings
returns-in-Ok-clause-brings g c = λ accepts follows active same s u arrived is installs.
    let b = c.args.buffer in
    let w = c.args.whole in
    let h = header_view c.in-Ok.header in
    let bytes = c.prefix-bytes.result.now in
    let filled = c.count.ensures.filled.filled in
    let all : b.count ≤ length b.prefix = omega (arith, c.if-count-bytes.false, c.count.ensures.is, ap length c.prefix-bytes.ensures) in
    let short = within_buffer b filled all in
    let found = rw c.prefix-bytes.ensures at (header_is_read bytes h ((c.header_laws.ensures.spelled h bytes).1 c.in-Ok.ensures.found)) in
    let none : current_view u.current ≡ None = sym (ap (λ (v : UploadView). v.current) is.upload) in
    let kept = is.arriving ∙ ap (λ (o : Option OpenLoadView). arriving_load o arrived) none in
    read_brings accepts active w b h (asked_of w) u arrived (g.K.Disk.state c.args.disk.now) c.header_read.new.store (g.K.Disk.state c.header_read.new.disk) s c.header_read.result is.upload (asked_is w b c.requires.arrived.keeps) short found (buffer_whole b filled all)
    (buffer_is b arrived kept short)
    (c.header_read.ensures.brings accepts follows active same s u is.upload (header_takes c.args.store.now (g.K.Disk.state c.args.disk.now) s u arrived b.prefix none installs))
