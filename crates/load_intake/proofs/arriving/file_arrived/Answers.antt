use Rattle.std.proofs.Common.{◌≡◌, ◌+◌, ◌-◌, length, ℕ, Some, None, refl, sym, ap, ◌∙◌, arith}
use Rattle.std.proofs.lemmas.Result.{IfOk-weaker}
use Rattle.disk_layout.specs.declared.manifest.ManifestFile.{ManifestFile}
use Rattle.load_intake.specs.Keeping.{entries}
use Rattle.session_rules.specs.Uploads.{OpenLoadView, files_of, next_number}
use Rattle.session_rules.specs.TargetRows.{UploadEnd, Writes_stop, load_entry_of, placed_view}
use Rattle.load_intake.specs.Intakes.{row_seen}
use Rattle.load_intake.specs.Places.{arrived_at, next_seen}
use Rattle.load_intake.specs.States.{upload_of, with_one}
use Rattle.load_intake.proofs.Files.{accepts_one, before_end, count_right, ends_next, entry_after, has_one, file_of, next_after_one, next_is}
use Rattle.session_rules.specs.TargetRows.{Kept_sums, Reads_file, done_move}
use Rattle.load_intake.specs.Contents.{given_of}
use Rattle.load_intake.proofs.Accepting.{file_brings}
use Rattle.load_intake.proofs.Filling.{gives_more}
use Rattle.load_intake.proofs.Moving.{brings_stop, stops, types_listed}
use Rattle.bank_store.proofs.KnownLemmas.{knows_on}
use Rattle.load_intake.proofs.Staying.{knows_back, room_on}
use Rattle.load_intake.proofs.Going.{continued, ends_after, stops_there}
use Rattle.load_intake.proofs.Rows.{file_placed, file_stopped, moved}
use Rattle.load_intake.proofs.arriving.file_arrived.Goals as goal

pub returns-in-Some-clause-row : goal.returns-in-Some-clause-row
returns-in-Some-clause-row g c accepts active =
    let l = c.args.load in
    let entry = next_is l c.requires.arrived.keeps.next.left in
    ap (λ (e : UploadEnd). Writes_stop e) c.stop_before.ensures.end
    ∙ file_stopped accepts active c.args.whole l c.args.sums (entry_after l) (next_seen c.next_in-next.result) c.in-Some.reason (arrived_at (length c.args.whole.loads) (next_seen c.next_in-next.result)) entry (c.next_in-next.ensures (Some l)) (sym c.in-Some.is ∙ c.verdict.ensures (entry_after l) entry)
    refl

pub returns-in-Some-clause-ends : goal.returns-in-Some-clause-ends
returns-in-Some-clause-ends g c = stops_there _ c.stop_before.result c.args.store.now c.stop_before.new.store _ c.stop_before.ensures.continues c.stop_before.ensures.prepared c.requires.arrived.running

pub end_file-requires : goal.end_file-requires
end_file-requires g c = record { awaits = ends_next c.args.whole c.args.load c.args.sums c.args.store.now c.requires.arrived.keeps.next c.requires.arrived.in_step }

pub after_file-requires-clause-accepted : goal.after_file-requires-clause-accepted
after_file-requires-clause-accepted g c =
    let l = c.args.load in
    let i = c.requires.arrived.keeps in
    let step = c.requires.arrived.in_step in
    let entry = next_is l i.next.left in
    let e = entry_after l in
    let right = count_right (next_number l) e c.args.sums _ (sym c.in_default.is ∙ c.verdict.ensures e entry) in
    let same = ap (λ (f : ManifestFile). f.length) (c.next_file-file.ensures e entry) ∙ c.count.ensures in
    record {
      load = accepts_one c.args.whole l c.in_ok-load.load c.args.sums c.next_file-file.result c.load_crc.result i c.in_ok-load.ensures
          (c.next_file-file.ensures e entry ∙ ap (λ (n : ℕ). file_of e n) (c.count.ensures ∙ right));
      has = has_one c.args.whole l c.in_ok-load.load c.next_file-file.result c.load_crc.result c.args.sums.count c.end_file.new.store c.in_ok-load.ensures same
          (c.end_file.ensures.has c.args.whole.loads (load_entry_of l) (length (files_of l.header) - (length l.files + 1)) c.args.sums.count (before_end c.args.whole l c.args.sums c.args.store.now i.next right step))
          (omega (arith, step.fits, c.end_file.ensures.continues.active.size))
          (λ active knows. room_on c.args.store.now c.end_file.new.store _ _ _ c.end_file.ensures.continues.active (step.keeps active (knows_back c.args.store.now c.end_file.new.store active c.end_file.ensures.continues.active knows)));
      running = c.requires.arrived.running;
    }

pub after_file-requires-clause-active : goal.after_file-requires-clause-active
after_file-requires-clause-active g c = knows_on c.args.store.now c.end_file.new.store (entries c.args.active.now) c.end_file.ensures.continues.active c.requires.active

pub after_file-requires-clause-next : goal.after_file-requires-clause-next
after_file-requires-clause-next g c = next_after_one c.args.whole c.args.load c.in_ok-load.load c.next_file-file.result c.load_crc.result (next_seen c.next_in-next.result) c.in_ok-load.ensures (c.next_in-next.ensures None)

pub returns-clause-row : goal.returns-clause-row
returns-clause-row g c accepts active =
    let l = c.args.load in
    let w = c.args.whole in
    let one = c.in_ok-load.load in
    let next = next_seen c.next_in-next.result in
    let entry = next_is l c.requires.arrived.keeps.next.left in
    let e = entry_after l in
    let none = sym c.in_default.is ∙ c.verdict.ensures e entry in
    let made = c.in_ok-load.ensures
    ∙ (ap (λ (f : ManifestFile). with_one l f c.load_crc.result) (c.next_file-file.ensures e entry ∙ ap (λ (n : ℕ). file_of e n) c.count.ensures)
    ∙ ap (λ (crc : ℕ). with_one l (file_of e c.args.sums.count) crc) c.load_crc.ensures) in
    IfOk-weaker c.after_file.result (λ f. row_seen f ≡ placed_view (upload_of w None) one next) (λ f. row_seen f ≡ moved accepts active w l c.args.sums e)
    (λ f h. h ∙ file_placed accepts active w l c.args.sums e next one entry (c.next_in-next.ensures (Some l)) none made) c.after_file.ensures.row

pub returns-clause-ends : goal.returns-clause-ends
returns-clause-ends g c = ends_after _ c.after_file.result _ _ _ _ _ _ (continued _ _ _ c.end_file.ensures.continues c.requires.arrived.running) c.after_file.ensures.ends

pub returns-in-Some-clause-brings : goal.returns-in-Some-clause-brings
returns-in-Some-clause-brings g c = λ accepts active s u arrived is installs.
    let v = upload_of c.args.whole (Some c.args.load) in
    brings_stop c.args.store.now c.stop_before.new.store (g.K.Disk.state c.args.disk.now) s u arrived _ _ (stops u v arrived (Kept_sums c.args.sums) (done_move accepts active (Reads_file v) (Kept_sums c.args.sums)) _ (returns-in-Some-clause-row g c accepts active)) c.stop_before.ensures.continues installs

pub returns-clause-brings : goal.returns-clause-brings
returns-clause-brings g c = λ accepts active s u arrived is installs.
    let l = c.args.load in
    let entry = next_is l c.requires.arrived.keeps.next.left in
    let e = entry_after l in
    file_brings accepts active c.args.whole l c.args.sums e u arrived c.next_file-file.result.name (next_seen c.next_in-next.result) (g.K.Disk.state c.args.disk.now) c.after_file.new.store (g.K.Disk.state c.after_file.new.disk) s c.after_file.result is entry (c.next_in-next.ensures (Some l))
    (sym c.in_default.is ∙ c.verdict.ensures e entry) c.requires.arrived.keeps.next.left (ap (λ (f : ManifestFile). f.name) (c.next_file-file.ensures e entry)) installs.holds.headers
    (λ typed. c.after_file.ensures.goes_to s _
    (gives_more c.args.store.now c.end_file.new.store (g.K.Disk.state c.args.disk.now) s (given_of u arrived) _ c.end_file.ensures.continues (λ image has. c.end_file.ensures.given image _ has) (record { beside = installs.beside; given = installs.holds.given }))
    (typed ∙ types_listed c.args.whole.loads c.args.whole.loads l.header c.in_ok-load.load refl (ap (λ (x : OpenLoadView). x.header) c.in_ok-load.ensures)))
