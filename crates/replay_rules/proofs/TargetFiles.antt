-- Which files a target gives and writes at an event.
use Rattle.std.proofs.Common.{◌≡◌, ◌⊎◌, inl, inr, ℕ, Bool, true, false, cond, eqb, List, [], ◌∷◌, ◌++◌, length, Option, Some, None, refl, sym, ap, subst, ◌∙◌, arith, ◌≤◌}
use Rattle.std.specs.Prelude.{drop, take}
use Rattle.std.specs.List.{AllByRecursion}
use Rattle.std.proofs.lemmas.Bool.{eqb-true}
use Rattle.field_grammar.specs.Fields.{number_bytes}
use Rattle.printed_text.specs.FaultTexts.{coded, nested}
use Rattle.load_protocol_files.specs.declared.lur.Wanted.{Wanted}
use Rattle.load_protocol_files.specs.Files.{file_fields}
use Rattle.load_protocol_files.specs.Lus.{counts_fields}
use Rattle.load_protocol_files.specs.Pieces.{counted_fields}
use Rattle.disk_layout.specs.Holds.{Outline}
use Rattle.tftp_packet.specs.declared.options.Options.{Options}
use Rattle.exchange_trace.specs.Logs.{Event}
use Rattle.transfer_end.specs.Laws.{IsLive}
use Rattle.transfer_end.specs.Moves.{Asks, Asks_size, Hears, Move, Recalls, Refuses, Repeats, Serves, Stops}
use Rattle.transfer_end.specs.OtherEnds.{MoveHasRole}
use Rattle.transfer_end.specs.Transfers.{Reads, Role, ServesRead, ServesWrite, Writes}
use Rattle.accept_rules.specs.Permissions.{Accepts}
use Rattle.session_rules.specs.declared.outcome.FileKind.{FileKind}
use Rattle.session_rules.specs.declared.outcome.FileKind.TheVariants as kinds
use Rattle.session_rules.specs.declared.reason.Reason.{Reason}
use Rattle.session_rules.specs.declared.reason.Reason.TheVariants as reasons
use Rattle.session_rules.proofs.BufferLemmas.{SumsJoin}
use Rattle.session_rules.proofs.CompletionLemmas.{EndsForReason, accepting_size, denying_size, lci_size, moved_reason, written_file}
use Rattle.session_rules.proofs.FairLemmas.{target_moves_fit}
use Rattle.session_rules.specs.Fairness.{IsTargetRole}
use Rattle.replay_rules.proofs.FilesInRows.{IsAskedByRow, IsAskedSo, moves_asked}
use Rattle.session_rules.specs.Reports.{accepting_lui, completed_lus, denying_lui, lci_file, lcl_file, lcs_file, progress_lus, ready_lus, reason_text, stopped_lus}
use Rattle.session_rules.specs.Target as target
use Rattle.session_rules.proofs.TargetLemmas.{seen_row}
use Rattle.session_rules.specs.TargetLog.{TargetReading, TargetSessionLog, target_extended, target_view}
use Rattle.session_rules.specs.TargetRows.{Awaits_lur, Gives_denial, Gives_lci, Gives_lui, Over, Reads_file, RowView, UploadEnd, WholeRow, Writes_completion, Writes_lcl, Writes_lcs, Writes_progress, Writes_ready, Writes_stop, row_view}

-- ---- the bytes of a status

-- two bytes at offset 6: the status of an LCI, LUI or LUS
abbrev pub reply_status : List ℕ → List ℕ
reply_status file = take 2 (drop 6 file)

-- two bytes at offset 8: the status of an LCS
abbrev pub lcs_status_in : List ℕ → List ℕ
lcs_status_in file = take 2 (drop 8 file)

abbrev pub IsLcsStop : List ℕ → Type 0
IsLcsStop file = lcs_status_in file ≡ 16 ∷ 3 ∷ []

abbrev pub IsDenial : List ℕ → Type 0
IsDenial file = reply_status file ≡ 16 ∷ 0 ∷ []

abbrev pub IsStop : List ℕ → Type 0
IsStop file = reply_status file ≡ 16 ∷ 3 ∷ []

lci_status : reply_status lci_file ≡ 0 ∷ 1 ∷ []
unfolding lci_file file_fields number_bytes
lci_status = refl

accepting_status : reply_status accepting_lui ≡ 0 ∷ 1 ∷ []
unfolding accepting_lui file_fields number_bytes
accepting_status = refl

denying_status : reply_status denying_lui ≡ 16 ∷ 0 ∷ []
unfolding denying_lui file_fields number_bytes
denying_status = refl

lcs_status : reply_status lcs_file ≡ 0 ∷ 1 ∷ []
unfolding lcs_file file_fields number_bytes
lcs_status = refl

lcl_status : (o : Outline) → reply_status (lcl_file o) ≡ 0 ∷ 1 ∷ []
unfolding lcl_file file_fields number_bytes counted_fields
lcl_status o = refl

ready_status : reply_status ready_lus ≡ 0 ∷ 1 ∷ []
unfolding ready_lus file_fields number_bytes
ready_status = refl

progress_status : (loads : List Wanted) (arrived counter : ℕ) → reply_status (progress_lus loads arrived counter) ≡ 0 ∷ 2 ∷ []
unfolding progress_lus file_fields number_bytes
progress_status loads arrived counter = refl

completed_status : (loads : List Wanted) (counter : ℕ) → reply_status (completed_lus loads counter) ≡ 0 ∷ 3 ∷ []
unfolding completed_lus file_fields number_bytes
completed_status loads counter = refl

stopped_status : (loads : List Wanted) (arrived counter : ℕ) (reason : Reason) → reply_status (stopped_lus loads arrived counter reason) ≡ 16 ∷ 3 ∷ []
unfolding stopped_lus file_fields number_bytes
stopped_status loads arrived counter reason = refl

-- ---- and of the status of an LCS

lci_lcs : lcs_status_in lci_file ≡ 0 ∷ []
unfolding lci_file file_fields number_bytes
lci_lcs = refl

accepting_lcs : lcs_status_in accepting_lui ≡ 0 ∷ []
unfolding accepting_lui file_fields number_bytes
accepting_lcs = refl

denying_lcs : lcs_status_in denying_lui ≡ 3 ∷ 65 ∷ []
unfolding denying_lui file_fields number_bytes
denying_lcs = refl

lcs_lcs : lcs_status_in lcs_file ≡ 0 ∷ 2 ∷ []
unfolding lcs_file file_fields number_bytes
lcs_lcs = refl

ready_lcs : lcs_status_in ready_lus ≡ 0 ∷ 0 ∷ []
unfolding ready_lus file_fields number_bytes counts_fields
ready_lcs = refl

progress_lcs : (loads : List Wanted) (arrived counter : ℕ) → (high : ℕ) × (lcs_status_in (progress_lus loads arrived counter) ≡ 0 ∷ high ∷ [])
unfolding progress_lus file_fields number_bytes counts_fields
progress_lcs loads arrived counter = (_, refl)

completed_lcs : (loads : List Wanted) (counter : ℕ) → (high : ℕ) × (lcs_status_in (completed_lus loads counter) ≡ 0 ∷ high ∷ [])
unfolding completed_lus file_fields number_bytes counts_fields
completed_lcs loads counter = (_, refl)

-- a reason's text begins with an A
reason_first : (reason : Reason) → (rest : List ℕ) × (reason_text reason ≡ 65 ∷ rest)
unfolding coded nested
reason_first (reasons.FileNotServed code) = (_, refl)
reason_first (reasons.HeaderRefused fault) = (_, refl)
reason_first reasons.PartDiffers = (_, refl)
reason_first reasons.NotThisHardware = (_, refl)
reason_first reasons.RuleRefused = (_, refl)
reason_first (reasons.FileLength file said found) = (_, refl)
reason_first (reasons.FileCrc file said found) = (_, refl)
reason_first (reasons.LoadCrc said found) = (_, refl)
reason_first (reasons.BankFull need have) = (_, refl)
reason_first reasons.SequenceSpent = (_, refl)
reason_first (reasons.RequestRefused fault) = (_, refl)
reason_first reasons.GaveUp = (_, refl)
reason_first reasons.PortsSpent = (_, refl)
reason_first (reasons.TooManyLoads loads) = (_, refl)

-- a short text after 8 bytes
second_is : (file : List ℕ) (text rest : List ℕ) (b : ℕ) → drop 8 file ≡ number_bytes 1 (length text) ++ (text ++ rest) → (more : List ℕ) → text ≡ b ∷ more → (first : ℕ) × (lcs_status_in file ≡ first ∷ b ∷ [])
unfolding number_bytes
second_is file text rest b e more is = (_, ap (λ (x : List ℕ). take 2 x) (e ∙ ap (λ (x : List ℕ). number_bytes 1 (length text) ++ (x ++ rest)) is))

pub stopped_rest : (loads : List Wanted) (arrived counter : ℕ) (reason : Reason) → (rest : List ℕ) × (drop 8 (stopped_lus loads arrived counter reason) ≡ number_bytes 1 (length (reason_text reason)) ++ (reason_text reason ++ rest))
unfolding stopped_lus file_fields number_bytes
stopped_rest loads arrived counter reason = (_, refl)

lcl_rest : (o : Outline) → (rest : List ℕ) × (drop 8 (lcl_file o) ≡ number_bytes 1 (length o.identity.hw) ++ (o.identity.hw ++ rest))
unfolding lcl_file file_fields number_bytes counted_fields
lcl_rest o = (_, refl)

not_both : (A : Type 0) (file : List ℕ) (a b c d : ℕ) → reply_status file ≡ a ∷ b ∷ [] → reply_status file ≡ c ∷ d ∷ [] → (a ∷ b ∷ [] ≡ c ∷ d ∷ [] → ⊥) → A
not_both A file a b c d is also not = absurd (not (sym is ∙ also))

shorter : (file : List ℕ) (a c d : ℕ) → lcs_status_in file ≡ a ∷ [] → lcs_status_in file ≡ c ∷ d ∷ [] → ⊥
shorter file a c d is also = let wrong : a ∷ [] ≡ c ∷ d ∷ [] = sym is ∙ also in cc

second_not : (file : List ℕ) (a b : ℕ) → lcs_status_in file ≡ a ∷ b ∷ [] → IsLcsStop file → (b ≡ 3 → ⊥) → ⊥
second_not file a b is stop not = let same : a ∷ b ∷ [] ≡ 16 ∷ 3 ∷ [] = sym is ∙ stop in let one : b ≡ 3 = cc in not one

first_not : (file : List ℕ) (a b : ℕ) → lcs_status_in file ≡ a ∷ b ∷ [] → IsLcsStop file → (a ≡ 16 → ⊥) → ⊥
first_not file a b is stop not = let same : a ∷ b ∷ [] ≡ 16 ∷ 3 ∷ [] = sym is ∙ stop in let one : a ≡ 16 = cc in not one

-- the first byte of the target's hardware is no 3
pub record BeginsWell (hw : List ℕ) : Type 0 where
  pub first : ℕ
  pub rest : List ℕ
  pub is : hw ≡ first ∷ rest
  pub not_3 : first ≡ 3 → ⊥

-- ---- the two files that it gives

-- it is one of these three
abbrev pub IsGiven : List ℕ → Type 0
IsGiven file = (file ≡ lci_file) ⊎ ((file ≡ accepting_lui) ⊎ (file ≡ denying_lui))

-- a reply that denies is given only where no sequence number is left, and each has no more bytes than `tsize` can tell
pub record IsOwnReply (sequence : ℕ) (file : List ℕ) : Type 0 where
  pub small : length file ≤ 4294967295
  pub spent : IsDenial file → 4294967295 ≤ sequence
  pub no_stop : IsStop file → ⊥
  pub no_lcs : IsLcsStop file → ⊥
  pub denies : IsDenial file → file ≡ denying_lui
  pub given : IsGiven file

lci_reply : (sequence : ℕ) → IsOwnReply sequence lci_file
lci_reply sequence = record {
  small = lci_size;
  spent = λ h. not_both _ lci_file 0 1 16 0 lci_status h (λ f. cc);
  no_stop = λ h. not_both _ lci_file 0 1 16 3 lci_status h (λ f. cc);
  no_lcs = λ h. shorter lci_file 0 16 3 lci_lcs h;
  denies = λ h. not_both _ lci_file 0 1 16 0 lci_status h (λ f. cc);
  given = inl refl;
}

lui_reply : (sequence : ℕ) (b : Bool) → eqb sequence 4294967295 ≡ b → IsOwnReply sequence (cond b denying_lui accepting_lui)
lui_reply sequence true e =
    let last : sequence ≡ 4294967295 = eqb-true sequence 4294967295 e in
    record { small = denying_size; spent = λ h. omega (arith, last); no_stop = λ h. not_both _ denying_lui 16 0 16 3 denying_status h (λ f. cc); no_lcs = λ h. second_not denying_lui 3 65 denying_lcs h (λ f. cc); denies = λ h. refl; given = inr (inr refl) }
lui_reply sequence false e = record {
  small = accepting_size;
  spent = λ h. not_both _ accepting_lui 0 1 16 0 accepting_status h (λ f. cc);
  no_stop = λ h. not_both _ accepting_lui 0 1 16 3 accepting_status h (λ f. cc);
  no_lcs = λ h. shorter accepting_lui 0 16 3 accepting_lcs h;
  denies = λ h. not_both _ accepting_lui 0 1 16 0 accepting_status h (λ f. cc);
  given = inr (inl refl);
}

own_reply : (kind : FileKind) (sequence : ℕ) → IsOwnReply sequence (target.own_file kind sequence)
own_reply kinds.Lui sequence = lui_reply sequence (eqb sequence 4294967295) refl
own_reply kinds.Lci sequence = lci_reply sequence
own_reply kinds.Lcl sequence = lci_reply sequence
own_reply kinds.Lcs sequence = lci_reply sequence
own_reply kinds.Lur sequence = lci_reply sequence
own_reply kinds.Lus sequence = lci_reply sequence

-- ---- the files that it writes

-- the row stops an upload for this reason, with this file
pub record RowStops (row : RowView) (file : List ℕ) : Type 0 where
  pub upload : UploadEnd
  pub reason : Reason
  pub is : row ≡ Writes_stop upload
  pub why : upload.reason ≡ Some reason
  pub writes : file ≡ stopped_lus upload.request upload.arrived upload.reports reason

-- what holds of a file that a row asks to write
pub record IsRowFile (row : RowView) (file : List ℕ) : Type 0 where
  pub no_denial : IsDenial file → ⊥
  pub no_lcs : IsLcsStop file → ⊥
  pub stops : IsStop file → RowStops row file

no_stop_file : (row : RowView) (file : List ℕ) (a b : ℕ) → reply_status file ≡ a ∷ b ∷ [] → (a ∷ b ∷ [] ≡ 16 ∷ 0 ∷ [] → ⊥) → (a ∷ b ∷ [] ≡ 16 ∷ 3 ∷ [] → ⊥) → (IsLcsStop file → ⊥) → IsRowFile row file
no_stop_file row file a b is no_denial no_stop no_lcs = record { no_denial = λ h. not_both _ file a b 16 0 is h no_denial; no_lcs = no_lcs; stops = λ h. not_both _ file a b 16 3 is h no_stop }

completed_no_lcs : (loads : List Wanted) (counter : ℕ) → IsLcsStop (completed_lus loads counter) → ⊥
completed_no_lcs loads counter h = let (high, is) = completed_lcs loads counter in first_not (completed_lus loads counter) 0 high is h (λ f. cc)

progress_no_lcs : (loads : List Wanted) (arrived counter : ℕ) → IsLcsStop (progress_lus loads arrived counter) → ⊥
progress_no_lcs loads arrived counter h = let (high, is) = progress_lcs loads arrived counter in first_not (progress_lus loads arrived counter) 0 high is h (λ f. cc)

stopped_no_lcs : (loads : List Wanted) (arrived counter : ℕ) (reason : Reason) → IsLcsStop (stopped_lus loads arrived counter reason) → ⊥
stopped_no_lcs loads arrived counter reason h =
    let (rest, at) = stopped_rest loads arrived counter reason in
    let (more, begins) = reason_first reason in
    let (first, is) = second_is (stopped_lus loads arrived counter reason) (reason_text reason) rest 65 at more begins in
    second_not (stopped_lus loads arrived counter reason) first 65 is h (λ f. cc)

lcl_no_lcs : (o : Outline) → BeginsWell o.identity.hw → IsLcsStop (lcl_file o) → ⊥
lcl_no_lcs o hw h =
    let (rest, at) = lcl_rest o in
    let (first, is) = second_is (lcl_file o) o.identity.hw rest hw.first at hw.rest hw.is in
    second_not (lcl_file o) first hw.first is h hw.not_3

last_file : (upload : UploadEnd) (reason : Option Reason) → upload.reason ≡ reason → IsRowFile (Writes_stop upload) (target.last_lus upload reason)
last_file upload None e = no_stop_file (Writes_stop upload) (completed_lus upload.request upload.reports) 0 3 (completed_status upload.request upload.reports) (λ f. cc) (λ f. cc) (completed_no_lcs upload.request upload.reports)
last_file upload (Some reason) e = record {
  no_denial = λ h. not_both _ (stopped_lus upload.request upload.arrived upload.reports reason) 16 3 16 0 (stopped_status upload.request upload.arrived upload.reports reason) h (λ f. cc);
  no_lcs = stopped_no_lcs upload.request upload.arrived upload.reports reason;
  stops = λ h. record { upload = upload; reason = reason; is = refl; why = e; writes = refl };
}

completion_file : (row : RowView) (upload : UploadEnd) → upload.reason ≡ None → IsRowFile row (target.last_lus upload upload.reason)
completion_file row upload none =
    subst (λ (reason : Option Reason). IsRowFile row (target.last_lus upload reason)) (sym none)
    (no_stop_file row (completed_lus upload.request upload.reports) 0 3 (completed_status upload.request upload.reports) (λ f. cc) (λ f. cc) (completed_no_lcs upload.request upload.reports))

row_file : (v : target.TargetView) → BeginsWell v.active.identity.hw → (row : RowView) (name : List ℕ) (o : Options) (file : List ℕ) → EndsForReason row → target.row_request v row ≡ Some (Writes name o file) → IsRowFile row file
row_file v hw Writes_lcs name o file why e = subst (λ (x : List ℕ). IsRowFile Writes_lcs x) (ap written_file e) (no_stop_file Writes_lcs lcs_file 0 1 lcs_status (λ f. cc) (λ f. cc) (λ h. first_not lcs_file 0 2 lcs_lcs h (λ f. cc)))
row_file v hw Writes_lcl name o file why e = subst (λ (x : List ℕ). IsRowFile Writes_lcl x) (ap written_file e) (no_stop_file Writes_lcl (lcl_file v.active) 0 1 (lcl_status v.active) (λ f. cc) (λ f. cc) (lcl_no_lcs v.active hw))
row_file v hw Writes_ready name o file why e = subst (λ (x : List ℕ). IsRowFile Writes_ready x) (ap written_file e) (no_stop_file Writes_ready ready_lus 0 1 ready_status (λ f. cc) (λ f. cc) (λ h. first_not ready_lus 0 0 ready_lcs h (λ f. cc)))
row_file v hw (Reads_file u) name o file why e = absurd cc
row_file v hw (Writes_progress u) name o file why e =
    subst (λ (x : List ℕ). IsRowFile (Writes_progress u) x) (ap written_file e)
    (no_stop_file (Writes_progress u) (progress_lus u.request (length u.loads) u.reports) 0 2 (progress_status u.request (length u.loads) u.reports) (λ f. cc) (λ f. cc) (progress_no_lcs u.request (length u.loads) u.reports))
row_file v hw (Writes_stop upload) name o file why e = subst (λ (x : List ℕ). IsRowFile (Writes_stop upload) x) (ap written_file e) (last_file upload upload.reason refl)
row_file v hw (Writes_completion upload loads) name o file why e = subst (λ (x : List ℕ). IsRowFile (Writes_completion upload loads) x) (ap written_file e) (completion_file (Writes_completion upload loads) upload why)
row_file v hw Gives_lci name o file why e = absurd cc
row_file v hw Gives_lui name o file why e = absurd cc
row_file v hw Gives_denial name o file why e = absurd cc
row_file v hw Awaits_lur name o file why e = absurd cc
row_file v hw Over name o file why e = absurd cc

-- ---- one event

-- the session stops at an event, for this reason and with this file
pub record StopsNow (accepts : Accepts) (later : TargetReading) (file : List ℕ) : Type 0 where
  pub upload : UploadEnd
  pub reason : Reason
  pub session : TargetSessionLog
  pub live : later.live ≡ Some session
  pub row : session.row ≡ Writes_stop upload
  pub why : upload.reason ≡ Some reason
  pub writes : file ≡ stopped_lus upload.request upload.arrived upload.reports reason

-- what holds of a file that the target begins to give or to write at an event
abbrev pub TellsCause : Accepts → TargetReading → Event → Role → Type 0
TellsCause accepts r e (Writes name options file) = (IsDenial file → ⊥) × (IsLcsStop file → ⊥) × (IsStop file → StopsNow accepts (target_extended accepts r e) file)
TellsCause accepts r e (ServesRead name options file) = IsOwnReply r.active.sequence file
TellsCause accepts r e role = Unit {0}

stop_row : (row : WholeRow) (upload : UploadEnd) → row_view row ≡ Writes_stop upload → row ≡ Writes_stop upload
stop_row (Writes_stop other) upload e = let same : other ≡ upload = cc in ap (λ (x : UploadEnd). Writes_stop x) same
stop_row (Writes_completion end loads) upload e = absurd cc
stop_row Writes_lcl upload e = absurd cc
stop_row Writes_lcs upload e = absurd cc
stop_row Writes_ready upload e = absurd cc
stop_row (Reads_file u) upload e = absurd cc
stop_row (Writes_progress u) upload e = absurd cc
stop_row Gives_lci upload e = absurd cc
stop_row Gives_lui upload e = absurd cc
stop_row Gives_denial upload e = absurd cc
stop_row Awaits_lur upload e = absurd cc
stop_row Over upload e = absurd cc

module _ (joins : SumsJoin) (accepts : Accepts) (r : TargetReading) (e : Event) (going : IsLive r.end.live) (hw : BeginsWell r.active.identity.hw) where
  abbrev v_now : target.TargetView
  v_now = target_view r

  abbrev d_now : target.TargetDecision
  d_now = target.target_decision accepts (target_view r) e

  written_tells : (name : List ℕ) (o : Options) (file : List ℕ) → IsAskedByRow accepts r e (Writes name o file) → TellsCause accepts r e (Writes name o file)
  written_tells name o file h =
      let row : RowView = seen_row h.session in
      let is = row_file v_now hw row name o file (subst EndsForReason (sym h.turned) (moved_reason h.was h.kept h.move)) h.asks in
      (is.no_denial, is.no_lcs, λ stop. stops_so file h row refl (is.stops stop))
    where
      stops_so : (file : List ℕ) (h : IsAskedByRow accepts r e (Writes name o file)) (row : RowView) → seen_row h.session ≡ row → RowStops row file → StopsNow accepts (target_extended accepts r e) file
      stops_so file h row at stops =
          record { upload = stops.upload; reason = stops.reason; session = h.session; live = h.live; row = stop_row h.session.row stops.upload (at ∙ stops.is); why = stops.why; writes = stops.writes }

  role_tells : (role : Role) → IsAskedSo accepts r e role → IsTargetRole v_now role → TellsCause accepts r e role
  role_tells (Writes name o file) asked has = written_tells name o file (asked refl)
  role_tells (ServesRead name o file) asked (kind, is) = subst (λ (x : List ℕ). IsOwnReply r.active.sequence x) (sym is) (own_reply kind r.active.sequence)
  role_tells (Reads name o) asked has = tt
  role_tells (ServesWrite name o) asked has = tt

  move_tells : (move : Move) → MoveHasRole (IsAskedSo accepts r e) move → MoveHasRole (IsTargetRole v_now) move → MoveHasRole (TellsCause accepts r e) move
  move_tells (Asks role) asked has = role_tells role asked has
  move_tells (Serves from role) asked has = role_tells role asked has
  move_tells (Hears from p) asked has = tt
  move_tells (Recalls from p) asked has = tt
  move_tells (Refuses from) asked has = tt
  move_tells Repeats asked has = tt
  move_tells Stops asked has = tt
  move_tells (Asks_size n) asked has = tt

  all_tell : (moves : List Move) → AllByRecursion (MoveHasRole (IsAskedSo accepts r e)) moves → AllByRecursion (MoveHasRole (IsTargetRole v_now)) moves → AllByRecursion (MoveHasRole (TellsCause accepts r e)) moves
  all_tell [] asked has = tt
  all_tell (move ∷ moves) (one, asked) (role, has) = (move_tells move one role, all_tell moves asked has)

  -- what the target tells at an event
  pub moves_tell : AllByRecursion (MoveHasRole (TellsCause accepts r e)) d_now.moves
  moves_tell = all_tell d_now.moves (moves_asked joins accepts r e going) (target_moves_fit accepts v_now e).1
