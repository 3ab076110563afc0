-- Each status that the target writes is a file of its format, and short.
use Rattle.std.proofs.Common.{◌≡◌, ℕ, zero, suc, ◌*◌, ◌<◌, ◌≤◌, false, List, [], ◌∷◌, length, length-append, Option, Some, None, Result, Ok, refl, sym, ap, ◌∙◌, arith}
use Rattle.std.specs.Prelude.{nat_lt}
use Rattle.std.proofs.lemmas.Bool.Decides.{nat_tests}
use Rattle.std.specs.List.{AllByRecursion, concat, flat_map}
use Rattle.std.proofs.lemmas.List.{take_all}
use Rattle.std.proofs.lemmas.List.Elements.{All-from_recursion}
use Rattle.std.proofs.Math.Nat.{div-le_of_le-mul}
use Rattle.field_grammar.specs.Answers.{answer}
use Rattle.field_grammar.proofs.ExactLemmas.{answer-spelled, spelled_at_start}
use Rattle.field_grammar.specs.Fields.{number_bytes}
use Rattle.field_grammar.proofs.NumberLemmas.{length_number_bytes}
use Rattle.field_grammar.proofs.WrittenLemmas.{at_most_each}
use Rattle.load_base.specs.Text.{IsText}
use Rattle.load_protocol_files.specs.declared.fault.FileFault.{FileFault}
use Rattle.load_protocol_files.specs.declared.lur.Wanted.{Wanted}
use Rattle.load_protocol_files.specs.declared.lus.LoadStatus.{LoadStatus}
use Rattle.load_protocol_files.specs.Files.{file_fields}
use Rattle.load_protocol_files.specs.Lur.{WantedFits}
use Rattle.load_protocol_files.specs.Lus.{LoadStatusFits, LusFits, LusSpells, LusView, counts_fields, load_status_fields, lus, lus_fields, progress_fields}
use Rattle.load_protocol_files.specs.Laws.Lus.{lus_is_small}
use Rattle.load_protocol_files.specs.Pieces.{counted_fields, ratio_digits}
use Rattle.part_number.proofs.VerdictLemmas.{part_size}
use Rattle.session_rules.specs.declared.outcome.FileKind.{FileKind}
use Rattle.session_rules.specs.declared.outcome.Outcome.TheVariants.{BadFile, Completed, TargetStopped}
use Rattle.session_rules.specs.declared.reason.Reason.{Reason}
use Rattle.session_rules.specs.Buffers.{buffer_size, buffered}
use Rattle.session_rules.specs.LoaderRows.{Comes_to, Goes_on, LoaderRow, Serves_files, Takes_lus, bytes_turn, file_turn, first_lus_turn, later_lus_turn}
use Rattle.session_rules.specs.Reports.{completed_lus, load_status, load_statuses, lus_view_of, progress_lus, ratio_of, ready_lus, reason_text, stopped_lus}
use Rattle.session_rules.specs.Target.{last_lus}
use Rattle.session_rules.specs.TargetRows.{UploadEnd}
use Rattle.session_rules.specs.Uploads.{UploadView}
use Rattle.replay_rules.proofs.Replies.{FileLaws}
use Rattle.replay_rules.proofs.RowsFit.{EndFits, ToldIf, UploadFits}

-- what a request asks for has names and part numbers
abbrev pub AllWanted : List Wanted → Type 0
AllWanted loads = AllByRecursion (λ (w : Wanted). WantedFits w) loads

no_text : IsText []
no_text = record { size = omega arith; good = λ i lt. absurd (omega arith) }

-- ---- the status of each load

abbrev Statuses : List LoadStatus → Type 0
Statuses loads = AllByRecursion (λ (l : LoadStatus). LoadStatusFits l) loads

status_fits : (ratio status : ℕ) (w : Wanted) → WantedFits w → ratio ≤ 100 → status < 65536 → LoadStatusFits (load_status ratio status w)
status_fits ratio status w fits few small = record { header = fits.header; part = fits.part; ratio = few; status = small; description = no_text }

statuses_fit : (arrived status others : ℕ) (loads : List Wanted) → AllWanted loads → status < 65536 → others < 65536 → Statuses (load_statuses arrived status others loads)
statuses_fit zero status others [] fits a b = tt
statuses_fit (suc n) status others [] fits a b = tt
statuses_fit zero status others (w ∷ loads) fits a b = (status_fits 0 others w fits.0 (omega arith) b, statuses_fit zero status others loads fits.1 a b)
statuses_fit (suc n) status others (w ∷ loads) fits a b = (status_fits 100 status w fits.0 (omega arith) a, statuses_fit n status others loads fits.1 a b)

statuses_count : (arrived status others : ℕ) (loads : List Wanted) → length (load_statuses arrived status others loads) ≡ length loads
statuses_count zero status others [] = refl
statuses_count (suc n) status others [] = refl
statuses_count zero status others (w ∷ loads) = ap (λ (k : ℕ). suc k) (statuses_count zero status others loads)
statuses_count (suc n) status others (w ∷ loads) = ap (λ (k : ℕ). suc k) (statuses_count n status others loads)

ratio_small : (arrived n : ℕ) → arrived ≤ n → ratio_of arrived n ≤ 100
ratio_small arrived zero le = omega arith
ratio_small arrived (suc n) le = div-le_of_le-mul (suc n) (times_le arrived (suc n) le)
  where
    times_le : (a m : ℕ) → a ≤ m → 100 * a ≤ m * 100
    times_le a m le = omega arith

-- ---- a whole file

status_size : (v : LoadStatus) → LoadStatusFits v → length (concat (load_status_fields v)) ≤ 342
unfolding ratio_digits
status_size v fits = simp (length-append, length_number_bytes) (omega (arith, fits.header.size.1, part_size v.part fits.part, fits.description.size))

module _ (status counter ratio : ℕ) (text : List ℕ) (loads : List LoadStatus) (bytes : List ℕ) (small : status < 65536) (is_text : IsText text) (count : counter < 65536) (part : ratio ≤ 100) (few : length loads ≤ 32) (each : Statuses loads)
    (e : bytes ≡ concat (file_fields (lus_fields (lus_view_of status text counter ratio loads)))) where
  abbrev view : LusView
  view = lus_view_of status text counter ratio loads

  view_fits : LusFits view
  view_fits = record {
    status = small;
    description = is_text;
    counts = record {
      counter = count;
      exception = omega arith;
      estimated = omega arith;
      progress = record { ratio = part; count = omega (arith, few); loads = All-from_recursion (λ (l : LoadStatus). LoadStatusFits l) loads each };
    };
  }

  view_spells : LusSpells view bytes
  unfolding file_fields number_bytes
  view_spells = (view_fits, record { small = lus_is_small view view_fits; written = e })

  view_short : length bytes ≤ 65536
  unfolding file_fields counts_fields progress_fields counted_fields ratio_digits
  view_short =
      let all : length (concat (flat_map load_status_fields loads)) ≤ length loads * 342 = at_most_each load_status_fields (λ l. LoadStatusFits l) 342 status_size loads view_fits.counts.progress.loads in
      rw e (simp (length-append, length_number_bytes) (omega (arith, all, few, is_text.size)))

  view_read : FileLaws → answer lus bytes ≡ Ok view
  view_read laws = answer-spelled lus bytes view (spelled_at_start lus bytes view ((laws.lus_exact.spelled bytes view).1 view_spells))

-- ---- how they are read

lt_false : (a b : ℕ) → b ≤ a → nat_lt a b ≡ false
lt_false a b h = grind (arith, nat_tests)

-- a short file is judged by all its bytes
pub turns_by : (row : LoaderRow) (file : List ℕ) → length file ≤ 65536 → file_turn row (buffered file) ≡ bytes_turn row file
unfolding file_turn
turns_by row file small = rw (lt_false 65536 (length file) small) (ap (λ (x : List ℕ). bytes_turn row x) (take_all buffer_size file small))

turns_first : (file : List ℕ) → length file ≤ 65536 → file_turn Takes_lus (buffered file) ≡ first_lus_turn (answer lus file)
turns_first file short = turns_by Takes_lus file short

turns_later : (file : List ℕ) → length file ≤ 65536 → file_turn Serves_files (buffered file) ≡ later_lus_turn (answer lus file)
turns_later file short = turns_by Serves_files file short

ready_is : ready_lus ≡ concat (file_fields (lus_fields (lus_view_of 1 [] 1 0 [])))
unfolding ready_lus
ready_is = refl

progress_is : (wanted : List Wanted) (arrived counter : ℕ) → progress_lus wanted arrived counter ≡ concat (file_fields (lus_fields (lus_view_of 2 [] counter (ratio_of arrived (length wanted)) (load_statuses arrived 2 1 wanted))))
unfolding progress_lus
progress_is wanted arrived counter = refl

completed_is : (wanted : List Wanted) (counter : ℕ) → completed_lus wanted counter ≡ concat (file_fields (lus_fields (lus_view_of 3 [] counter 100 (load_statuses (length wanted) 3 3 wanted))))
unfolding completed_lus
completed_is wanted counter = refl

stopped_is : (wanted : List Wanted) (arrived counter : ℕ) (reason : Reason) → stopped_lus wanted arrived counter reason ≡ concat (file_fields (lus_fields (lus_view_of 4099 (reason_text reason) counter (ratio_of arrived (length wanted)) (load_statuses arrived 4099 4099 wanted))))
unfolding stopped_lus
stopped_is wanted arrived counter reason = refl

module _ (laws : FileLaws) (kind : FileKind) (offset : ℕ) where
  -- where the target awaits the request, the loader goes on
  pub ready_read : file_turn Takes_lus (buffered ready_lus) ≡ Comes_to (BadFile kind offset) → ⊥
  ready_read bad =
      let read = view_read 1 1 0 [] [] ready_lus (omega arith) no_text (omega arith) (omega arith) (omega arith) tt ready_is laws in
      let short = view_short 1 1 0 [] [] ready_lus (omega arith) no_text (omega arith) (omega arith) (omega arith) tt ready_is in
      let wrong : Goes_on ≡ Comes_to (BadFile kind offset) = sym (turns_first ready_lus short ∙ ap (λ (found : Result LusView FileFault). first_lus_turn found) read) ∙ bad in cc

  -- so it does where loads arrive
  pub progress_read : (Sound : UploadView → Type 0) (u : UploadView) → UploadFits AllWanted Sound u → file_turn Serves_files (buffered (progress_lus u.request (length u.loads) u.reports)) ≡ Comes_to (BadFile kind offset) → ⊥
  progress_read Sound u h bad =
      let file : List ℕ = progress_lus u.request (length u.loads) u.reports in
      let loads : List LoadStatus = load_statuses (length u.loads) 2 1 u.request in
      let count = statuses_count (length u.loads) 2 1 u.request in
      let few = h.few in
      let more = h.more in
      let reports = h.reports in
      let ratio = ratio_small (length u.loads) (length u.request) (omega (arith, more)) in
      let each = statuses_fit (length u.loads) 2 1 u.request h.asked (omega arith) (omega arith) in
      let is = progress_is u.request (length u.loads) u.reports in
      let read = view_read 2 u.reports (ratio_of (length u.loads) (length u.request)) [] loads file (omega arith) no_text (omega (arith, few, more, reports)) ratio (omega (arith, count, few)) each is laws in
      let short = view_short 2 u.reports (ratio_of (length u.loads) (length u.request)) [] loads file (omega arith) no_text (omega (arith, few, more, reports)) ratio (omega (arith, count, few)) each is in
      let wrong : Goes_on ≡ Comes_to (BadFile kind offset) = sym (turns_later file short ∙ ap (λ (found : Result LusView FileFault). later_lus_turn found) read) ∙ bad in cc

  -- and the session ends otherwise by the last status
  pub last_read : (Told : Reason → Type 0) → ((reason : Reason) → Told reason → IsText (reason_text reason)) → (end : UploadEnd) (reason : Option Reason) → EndFits AllWanted Told end → ToldIf Told reason → file_turn Serves_files (buffered (last_lus end reason)) ≡ Comes_to (BadFile kind offset) → ⊥
  last_read Told texts end None h told bad =
      let file : List ℕ = completed_lus end.request end.reports in
      let loads : List LoadStatus = load_statuses (length end.request) 3 3 end.request in
      let count = statuses_count (length end.request) 3 3 end.request in
      let few = h.few in
      let reports = h.reports in
      let each = statuses_fit (length end.request) 3 3 end.request h.asked (omega arith) (omega arith) in
      let is = completed_is end.request end.reports in
      let read = view_read 3 end.reports 100 [] loads file (omega arith) no_text (omega (arith, reports)) (omega arith) (omega (arith, count, few)) each is laws in
      let short = view_short 3 end.reports 100 [] loads file (omega arith) no_text (omega (arith, reports)) (omega arith) (omega (arith, count, few)) each is in
      let wrong : Comes_to Completed ≡ Comes_to (BadFile kind offset) = sym (turns_later file short ∙ ap (λ (found : Result LusView FileFault). later_lus_turn found) read) ∙ bad in cc
  last_read Told texts end (Some reason) h told bad =
      let file : List ℕ = stopped_lus end.request end.arrived end.reports reason in
      let loads : List LoadStatus = load_statuses end.arrived 4099 4099 end.request in
      let count = statuses_count end.arrived 4099 4099 end.request in
      let few = h.few in
      let reports = h.reports in
      let ratio = ratio_small end.arrived (length end.request) h.arrived in
      let each = statuses_fit end.arrived 4099 4099 end.request h.asked (omega arith) (omega arith) in
      let is = stopped_is end.request end.arrived end.reports reason in
      let text = texts reason told in
      let read = view_read 4099 end.reports (ratio_of end.arrived (length end.request)) (reason_text reason) loads file (omega arith) text (omega (arith, reports)) ratio (omega (arith, count, few)) each is laws in
      let short = view_short 4099 end.reports (ratio_of end.arrived (length end.request)) (reason_text reason) loads file (omega arith) text (omega (arith, reports)) ratio (omega (arith, count, few)) each is in
      let wrong : Comes_to (TargetStopped (reason_text reason)) ≡ Comes_to (BadFile kind offset) = sym (turns_later file short ∙ ap (λ (found : Result LusView FileFault). later_lus_turn found) read) ∙ bad in cc
