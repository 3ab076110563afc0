-- More of a file arrives.
use Rattle.std.proofs.Common.{◌≡◌, ℕ, ◌+◌, ◌-◌, ◌<◌, ◌≤◌, min, List, [], ◌∷◌, ◌++◌, length, take, Option, Some, None, Result, Ok, Err, OnOk, refl, sym, ap, subst, ◌∙◌, arith, length-take, get_or, slice_get}
use Rattle.std.proofs.lemmas.List.{get_or-map, length-map}
use Rattle.std.proofs.lemmas.List.Sums.{sum_by_more_le}
use Rattle.std.proofs.lemmas.Option.{slice_get-get_or}
use Rattle.disk_model.specs.State.{DiskState}
use Rattle.bank_store.specs.declared.store.Store.{Store}
use Rattle.bank_store.specs.Store.{AwaitsFile, SameActive}
use Rattle.load_header.specs.declared.header.FileEntry.{FileEntry}
use Rattle.load_header.specs.Header.{HeaderView}
use Rattle.disk_layout.specs.declared.manifest.ManifestFile.{ManifestFile}
use Rattle.disk_layout.specs.Manifest.{LoadEntry, entries_length, total_length}
use Rattle.session_rules.specs.Buffers.{Sums, summed_more}
use Rattle.session_rules.specs.TargetRows.{Arriving, Kept_bytes, Kept_sums, load_entry_of, said_length}
use Rattle.session_rules.specs.Uploads.{OpenLoadView, files_of, need_of, planned_load}
use Rattle.load_intake.specs.declared.down.Down.{Down}
use Rattle.load_intake.specs.Kept.{IsIntake, IsOfNext, IsOpenLoad, bytes_taken, current_load, files_missing, intake_at, named_file, named_files}
use Rattle.load_intake.specs.States.{WholeView}
use Rattle.load_intake.specs.Stores.{StoreGoesOn, StoreHas, HasRoomFor, IsInStep, MayTake, StaysInStep}
use Rattle.load_intake.proofs.Staying.{knows_back, room_on}
use Rattle.load_intake.proofs.Sizes.{size_first, total_more, total_within}
use Rattle.load_intake.proofs.Steps.{awaits_file, room}

-- ---- the next file has its place among those that are planned

no_entry : FileEntry
no_entry = record { name = []; part = []; length = 0; crc16 = 0 }

abbrev file_length : ManifestFile → ℕ
file_length f = f.length

-- the length that is said of the next file is that of the file that is planned
said_planned : (h : HeaderView) (n : ℕ) → n < length (files_of h) → said_length (slice_get (files_of h) n) ≡ (get_or (named_files h) n (named_file no_entry)).length
said_planned h n within =
    ap said_length (slice_get-get_or (files_of h) n no_entry within) ∙ ap file_length (sym (get_or-map named_file (files_of h) n no_entry (named_file no_entry) within))

pub next_fits : (l : OpenLoadView) (s : Sums) → IsOpenLoad l s → entries_length l.files + s.said ≤ entries_length (named_files l.header)
next_fits l s open_load =
    let n = length l.files in
    let within : n < length (named_files l.header) = subst (λ (k : ℕ). n < k) (sym (length-map (files_of l.header) named_file)) open_load.left in
    let more = sum_by_more_le file_length (named_files l.header) n (named_file no_entry) within in
    let said : s.said ≡ (get_or (named_files l.header) n (named_file no_entry)).length = open_load.said ∙ said_planned l.header n open_load.left in
    omega (arith, more, said, ap entries_length open_load.planned)

-- the loads so far with all of the next file
pub planned_fits : (loads : List LoadEntry) (l : OpenLoadView) (s : Sums) → IsOpenLoad l s → total_length (loads ++ load_entry_of l ∷ []) + s.said ≤ need_of (loads ++ planned_load l.wanted l.header l.size ∷ [])
planned_fits loads l s open_load =
    let first : ManifestFile = record { name = l.wanted.header; length = l.size } in
    omega (
      arith,
      total_within (loads ++ planned_load l.wanted l.header l.size ∷ []),
      total_more loads (load_entry_of l),
      total_more loads (planned_load l.wanted l.header l.size),
      size_first first l.files,
      size_first first (named_files l.header),
      next_fits l s open_load,
    )

-- ---- what a call that takes more asks for

pub file_awaited : (w : WholeView) (l : OpenLoadView) (s : Sums) (store : Store) → IsOpenLoad l s → IsInStep (intake_at w (Some l) (Kept_sums s)) store → AwaitsFile store
file_awaited w l s store open_load step = awaits_file store _ _ _ step.has (omega (arith, open_load.left))

pub room_for_more : (w : WholeView) (l : OpenLoadView) (s : Sums) (store : Store) → IsOpenLoad l s → IsInStep (intake_at w (Some l) (Kept_sums s)) store → HasRoomFor (s.said - s.count) store
room_for_more w l s store open_load step = room store _ _ _ (s.said - s.count) step.has (omega (arith, planned_fits w.loads l s open_load, step.fits))

-- ---- and what holds then

still_open : (l : OpenLoadView) (s new : Sums) → new.said ≡ s.said → IsOpenLoad l s → IsOpenLoad l new
still_open l s new said o = record { header = o.header; part = o.part; left = o.left; planned = o.planned; said = said ∙ o.said }

taken_more : (count said n m : ℕ) → m ≡ min (said - count) n → min count said + m ≡ min (count + n) said
taken_more count said n m e = omega (arith, e)

-- this many of its bytes stand in the bank then
pub taken_then : (s : Sums) (bytes : List ℕ) → min s.count s.said + length (take (s.said - s.count) bytes) ≡ min (s.count + length bytes) s.said
taken_then s bytes = taken_more s.count s.said (length bytes) (length (take (s.said - s.count) bytes)) (length-take (s.said - s.count) bytes)

pub file_has : (store : Store) (loads : List LoadEntry) (missing : ℕ) (s new : Sums) (bytes : List ℕ) → new ≡ summed_more s bytes
    → StoreHas store loads missing (min s.count s.said + length (take (s.said - s.count) bytes)) → StoreHas store loads missing (min new.count new.said)
file_has store loads missing s new bytes is has = rw is (subst (λ (n : ℕ). StoreHas store loads missing n) (taken_then s bytes) has)

-- an intake that has taken more
pub keeps_more : (w : WholeView) (load next : Option OpenLoadView) (arriving more : Arriving) → next ≡ load → (IsOfNext load arriving → IsOfNext next more)
    → IsIntake (intake_at w load arriving) w.need → IsIntake (intake_at w next more) w.need
keeps_more w load next arriving more same goes i =
    rw same (record { few = i.few; left = i.left; need = i.need; next = subst (λ (x : Option OpenLoadView). IsOfNext x more) same (goes i.next); holds = refl })

pub may_take : (w : WholeView) (load : Option OpenLoadView) (arriving : Arriving) (store : Store) → IsIntake (intake_at w load arriving) w.need → IsInStep (intake_at w load arriving) store → MayTake arriving store
may_take w None (Kept_bytes b) store i step = tt
may_take w (Some l) (Kept_bytes b) store i step = absurd i.next
may_take w None (Kept_sums s) store i step = absurd i.next
may_take w (Some l) (Kept_sums s) store i step = (file_awaited w l s store i.next step, room_for_more w l s store i.next step)

pub step_more : (w : WholeView) (load next : Option OpenLoadView) (arriving more : Arriving) (old new : Store) → next ≡ load → SameActive old new → IsInStep (intake_at w load arriving) old
    → StoreHas new (w.loads ++ current_load load) (files_missing load) (bytes_taken more) → IsInStep (intake_at w next more) new
step_more w load next arriving more old new same active step has =
    rw same (record { has = has; fits = omega (arith, active.size, step.fits); keeps = λ loads knows. room_on old new _ _ _ active (step.keeps loads (knows_back old new loads active knows)) })

pub stays_more : (r : Result (Unit {0}) Down) (w : WholeView) (load next : Option OpenLoadView) (arriving more : Arriving) (old new : Store) (d e : DiskState) → next ≡ load → IsInStep (intake_at w load arriving) old
    → OnOk r (StoreHas new (w.loads ++ current_load load) (files_missing load) (bytes_taken more)) → OnOk r (StoreGoesOn old new d e) → OnOk r (StaysInStep (intake_at w next more) old new d e)
stays_more (Ok x) w load next arriving more old new d e same step has goes = record { in_step = step_more w load next arriving more old new same goes.active step has; goes_on = goes }
stays_more (Err x) w load next arriving more old new d e same step has goes = tt
