use Rattle.std.proofs.Common.{◌≡◌, [], length, Err, None, Some, refl, sym, ap, ◌∙◌, arith, rules, length-append}
use Rattle.crc_fields.specs.CheckSums.{crc32_of}
use Rattle.session_rules.specs.Uploads.{OpenLoadView, covered_header}
use Rattle.std.proofs.lemmas.Result.{IfOk-weaker}
use Rattle.session_rules.specs.TargetRows.{UploadEnd, Writes_stop, placed_view}
use Rattle.load_header.specs.Header.{header_view}
use Rattle.load_intake.specs.Intakes.{row_seen}
use Rattle.load_intake.specs.Contents.{given_of}
use Rattle.load_intake.specs.Judging.{header_row, whole_buffer, whole_header_row}
use Rattle.load_intake.proofs.Accepting.{header_brings, header_judged, header_stops}
use Rattle.load_intake.proofs.Filling.{begin_fails}
use Rattle.load_intake.proofs.Moving.{brings_stop, brings_stop_after, goes_then, types_listed}
use Rattle.load_intake.specs.Places.{arrived_at, next_seen}
use Rattle.load_intake.specs.Keeping.{entries}
use Rattle.load_intake.specs.States.{WholeView, upload_of}
use Rattle.load_intake.proofs.Going.{ends_after, stops_after, stops_there, writes_after}
use Rattle.load_intake.proofs.Headers.{fails_first, has_header, header_accepted, header_next, header_placed, header_stopped, need_is, passes_first, reason_is, room_for_header}
use Rattle.bank_store.proofs.KnownLemmas.{knows_on}
use Rattle.load_intake.proofs.arriving.header_read.Goals as goal

pub returns-in-Some-clause-row : goal.returns-in-Some-clause-row
returns-in-Some-clause-row g c accepts follows active same =
    let w = c.args.whole in
    let h = header_view c.args.header in
    let bytes = c.args.buffer.prefix in
    let wanted = c.next_wanted.result.now in
    let need = (rw c.prefix-bytes.ensures at c.need_with-need.ensures.is) ∙ need_is w (whole_buffer bytes) wanted h (length bytes) c.requires.arrived.keeps c.requires.header.spelled.0 in
    let first = c.header_reason.ensures.is accepts follows ∙ reason_is accepts active w wanted h (length bytes) c.args.identity.now (entries c.args.active.now) c.need_with-need.result same c.requires.active.fits c.requires.arrived.keeps.few need in
    ap (λ (e : UploadEnd). Writes_stop e) c.stop_before.ensures.end
    ∙ header_stopped accepts active w wanted h bytes c.header_reason.result (next_seen c.next_after-next.result) (crc32_of (covered_header bytes)) c.in-Some.reason (arrived_at (length w.loads) (next_seen c.next_after-next.result)) c.next_wanted.ensures first
    (c.next_after-next.ensures None) refl (fails_first _ _ c.in-Some.reason (sym c.in-Some.is)) refl

pub returns-in-Some-clause-ends : goal.returns-in-Some-clause-ends
returns-in-Some-clause-ends g c = stops_there _ c.stop_before.result c.args.store.now c.stop_before.new.store _ c.stop_before.ensures.continues c.stop_before.ensures.prepared c.requires.arrived.running

pub header_sum-sum-requires : goal.header_sum-sum-requires
header_sum-sum-requires g c = omega (arith, c.requires.header.least, ap length c.prefix-bytes.ensures)

pub write_header-requires-clause-can : goal.write_header-requires-clause-can
write_header-requires-clause-can g c =
    let passes = c.header_reason.ensures.passed c.in_default.is in
    let room = room_for_header c.args.whole (whole_buffer c.args.buffer.prefix) c.next_wanted.result.now (header_view c.args.header) (length c.args.buffer.prefix) c.need_with-need.result c.args.identity.now.bank c.requires.arrived.keeps
    (rw c.prefix-bytes.ensures at c.need_with-need.ensures.is) (omega (arith, passes.fits)) in
    record {
      has = search rules;
      few = search rules;
      files = omega (arith, c.requires.header.spelled.0.files, length-append (header_view c.args.header).data_files (header_view c.args.header).support_files);
      room = omega (arith, room, c.requires.bank, ap length c.prefix-bytes.ensures);
      short = omega (arith, c.requires.header.most, ap length c.prefix-bytes.ensures);
      part = search rules;
    }

pub after_file-requires-clause-accepted : goal.after_file-requires-clause-accepted
after_file-requires-clause-accepted g c = record {
  load = header_accepted c.args.whole c.with_need-whole.result (whole_buffer c.args.buffer.prefix) c.next_wanted.result.now (header_view c.args.header) (length c.args.buffer.prefix) c.value-crc.result c.need_with-need.result _ _ c.new-load.result
      c.args.identity.now c.requires.arrived.keeps c.requires.header.spelled.0 (c.header_reason.ensures.passed c.in_default.is) (rw c.prefix-bytes.ensures at c.need_with-need.ensures.is) c.with_need-whole.ensures (rw c.prefix-bytes.ensures at c.new-load.ensures);
  has = has_header (entries c.args.active.now) c.args.whole c.with_need-whole.result (whole_buffer c.args.buffer.prefix) c.next_wanted.result.now (header_view c.args.header) (length c.args.buffer.prefix) c.value-crc.result c.need_with-need.result c.new-load.result
      c.args.identity.now c.args.store.now c.write_header.new.store c.requires.arrived.keeps c.requires.header.spelled.0 c.requires.active (c.header_reason.ensures.passed c.in_default.is) (rw c.prefix-bytes.ensures at c.need_with-need.ensures.is) c.with_need-whole.ensures
      (rw c.prefix-bytes.ensures at c.new-load.ensures) c.requires.bank c.in-Ok.ensures.goes_on.active (rw c.prefix-bytes.ensures at c.in-Ok.ensures.has);
  running = c.in-Ok.ensures.goes_on.running;
}

pub after_file-requires-clause-next : goal.after_file-requires-clause-next
after_file-requires-clause-next g c =
    header_next c.args.whole c.with_need-whole.result (header_view c.args.header) c.need_with-need.result c.value-crc.result (length c.args.buffer.prefix) c.next_wanted.result.now c.new-load.result (next_seen c.next_after-next.result)
    c.with_need-whole.ensures (rw c.prefix-bytes.ensures at c.new-load.ensures) (c.next_after-next.ensures None)

pub returns-clause-row : goal.returns-clause-row
returns-clause-row g c accepts follows active same =
    let w = c.args.whole in
    let new = c.with_need-whole.result in
    let l = c.new-load.result in
    let h = header_view c.args.header in
    let bytes = c.args.buffer.prefix in
    let wanted = c.next_wanted.result.now in
    let next = next_seen c.next_after-next.result in
    let need = (rw c.prefix-bytes.ensures at c.need_with-need.ensures.is) ∙ need_is w (whole_buffer bytes) wanted h (length bytes) c.requires.arrived.keeps c.requires.header.spelled.0 in
    let first = c.header_reason.ensures.is accepts follows ∙ reason_is accepts active w wanted h (length bytes) c.args.identity.now (entries c.args.active.now) c.need_with-need.result same c.requires.active.fits c.requires.arrived.keeps.few need in
    let placed = header_placed accepts active w wanted h bytes c.header_reason.result next c.value-crc.result c.need_with-need.result new l c.next_wanted.ensures first (c.next_after-next.ensures None)
    (rw c.prefix-bytes.ensures at (c.value-crc.ensures ∙ c.header_sum-sum.ensures)) (passes_first _ _ None (sym c.in_default.is) (sym c.in_default-load_reason.is ∙ c.load_reason.ensures)) c.with_need-whole.ensures (rw c.prefix-bytes.ensures at c.new-load.ensures) in
    IfOk-weaker c.after_file.result (λ f. row_seen f ≡ placed_view (upload_of new None) l next) (λ f. row_seen f ≡ header_row accepts active w h bytes) (λ f is. is ∙ placed) c.after_file.ensures.row

pub returns-clause-ends : goal.returns-clause-ends
returns-clause-ends g c = ends_after _ c.after_file.result _ _ _ _ _ _ c.in-Ok.ensures.goes_on c.after_file.ensures.ends

pub returns-in-Some-clause-brings : goal.returns-in-Some-clause-brings
returns-in-Some-clause-brings g c = λ accepts follows active same s u seen installs.
    let h = header_view c.args.header in
    brings_stop c.args.store.now c.stop_before.new.store (g.K.Disk.state c.args.disk.now) s u c.args.buffer.prefix (whole_header_row accepts active u h c.args.buffer.prefix) _
    (header_stops accepts active c.args.whole c.next_wanted.result.now h c.args.buffer.prefix u _ seen c.next_wanted.ensures (returns-in-Some-clause-row g c accepts follows active same)) c.stop_before.ensures.continues installs

pub returns-in-Err-clause-brings : goal.returns-in-Err-clause-brings
returns-in-Err-clause-brings g c = λ accepts follows active same s u seen installs.
    begin_fails (g.K.Disk.state c.args.disk.now) c.write_header.new.store c.write_header.new.store (g.K.Disk.state c.write_header.new.disk) s _ _ _ [] c.write_header.result (Err c.in-Err.down) refl
    (c.write_header.ensures.gives s (given_of u c.args.buffer.prefix) (record { beside = installs.beside; given = installs.holds.given }))

pub returns-in-Some-load_reason-clause-row : goal.returns-in-Some-load_reason-clause-row
returns-in-Some-load_reason-clause-row g c accepts follows active same =
    let w = c.args.whole in
    let h = header_view c.args.header in
    let bytes = c.args.buffer.prefix in
    let wanted = c.next_wanted.result.now in
    let need = (rw c.prefix-bytes.ensures at c.need_with-need.ensures.is) ∙ need_is w (whole_buffer bytes) wanted h (length bytes) c.requires.arrived.keeps c.requires.header.spelled.0 in
    let first = c.header_reason.ensures.is accepts follows ∙ reason_is accepts active w wanted h (length bytes) c.args.identity.now (entries c.args.active.now) c.need_with-need.result same c.requires.active.fits c.requires.arrived.keeps.few need in
    let found = passes_first _ _ (Some c.in-Some-load_reason.reason) (sym c.in_default.is) (sym c.in-Some-load_reason.is ∙ c.load_reason.ensures) in
    ap (λ (e : UploadEnd). Writes_stop e) c.stop_before-in-Some-load_reason.ensures.end
    ∙ header_stopped accepts active w wanted h bytes c.header_reason.result (next_seen c.next_after-next.result) c.value-crc.result c.in-Some-load_reason.reason (arrived_at (length w.loads) (next_seen c.next_after-next.result)) c.next_wanted.ensures first
    (c.next_after-next.ensures None) (rw c.prefix-bytes.ensures at (c.value-crc.ensures ∙ c.header_sum-sum.ensures)) found refl

pub returns-in-Some-load_reason-clause-ends : goal.returns-in-Some-load_reason-clause-ends
returns-in-Some-load_reason-clause-ends g c = stops_after _ c.stop_before-in-Some-load_reason.result c.args.store.now c.write_header.new.store c.stop_before-in-Some-load_reason.new.store _ _ c.in-Ok.ensures.goes_on c.stop_before-in-Some-load_reason.ensures.continues c.stop_before-in-Some-load_reason.ensures.prepared

pub returns-in-Some-load_reason-clause-brings : goal.returns-in-Some-load_reason-clause-brings
returns-in-Some-load_reason-clause-brings g c = λ accepts follows active same s u seen installs.
    let h = header_view c.args.header in
    brings_stop_after (g.K.Disk.state c.args.disk.now) c.write_header.new.store c.stop_before-in-Some-load_reason.new.store (g.K.Disk.state c.write_header.new.disk) s _ (whole_header_row accepts active u h c.args.buffer.prefix) _ _
    (header_stops accepts active c.args.whole c.next_wanted.result.now h c.args.buffer.prefix u _ seen c.next_wanted.ensures (returns-in-Some-load_reason-clause-row g c accepts follows active same))
    (rw c.prefix-bytes.ensures at (c.in-Ok.ensures.gives s (given_of u c.args.buffer.prefix) (record { beside = installs.beside; given = installs.holds.given }))) c.stop_before-in-Some-load_reason.ensures.continues

pub returns-clause-brings : goal.returns-clause-brings
returns-clause-brings g c = λ accepts follows active same s u seen installs.
    let w = c.args.whole in
    let h = header_view c.args.header in
    let bytes = c.args.buffer.prefix in
    let wanted = c.next_wanted.result.now in
    let next = next_seen c.next_after-next.result in
    let need = (rw c.prefix-bytes.ensures at c.need_with-need.ensures.is) ∙ need_is w (whole_buffer bytes) wanted h (length bytes) c.requires.arrived.keeps c.requires.header.spelled.0 in
    let first = c.header_reason.ensures.is accepts follows ∙ reason_is accepts active w wanted h (length bytes) c.args.identity.now (entries c.args.active.now) c.need_with-need.result same c.requires.active.fits c.requires.arrived.keeps.few need in
    let judged = header_judged accepts active w wanted h bytes c.header_reason.result next c.value-crc.result first (c.next_after-next.ensures None) (rw c.prefix-bytes.ensures at (c.value-crc.ensures ∙ c.header_sum-sum.ensures)) (passes_first _ _ None (sym c.in_default.is) (sym c.in_default-load_reason.is ∙ c.load_reason.ensures)) in
    header_brings accepts active w wanted h bytes u next (g.K.Disk.state c.args.disk.now) c.after_file.new.store (g.K.Disk.state c.after_file.new.disk) s c.after_file.result seen c.next_wanted.ensures judged (c.next_after-next.ensures None) installs.holds.headers
    (λ typed. goes_then next (g.K.Disk.state c.args.disk.now) c.write_header.new.store (g.K.Disk.state c.write_header.new.disk) c.after_file.new.store (g.K.Disk.state c.after_file.new.disk) s _ _ c.after_file.result
    (rw c.prefix-bytes.ensures at (c.in-Ok.ensures.gives s (given_of u bytes) (record { beside = installs.beside; given = installs.holds.given }))) (λ given. c.after_file.ensures.goes_to s _ given (typed ∙ types_listed w.loads c.with_need-whole.result.loads h c.new-load.result (ap (λ (x : WholeView). x.loads) c.with_need-whole.ensures) (ap (λ (x : OpenLoadView). x.header) c.new-load.ensures))))

pub returns-clause-keeps : goal.returns-clause-keeps
returns-clause-keeps g c = record {
  size = search rules;
  known = search rules;
  writes = writes_after (g.K.Disk.state c.args.disk.now) (g.K.Disk.state c.write_header.new.disk) (g.K.Disk.state c.after_file.new.disk) _ c.after_file.result c.in-Ok.ensures.keeps.writes c.after_file.ensures.keeps.writes;
}

pub after_file-requires-clause-active : goal.after_file-requires-clause-active
after_file-requires-clause-active g c = knows_on c.args.store.now c.write_header.new.store (entries c.args.active.now) c.in-Ok.ensures.goes_on.active c.requires.active
