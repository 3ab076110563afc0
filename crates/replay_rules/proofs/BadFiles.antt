-- No session ends by a bad file.
use Rattle.std.proofs.Common.{◌≡◌, inl, inr, ℕ, zero, suc, ◌+◌, ◌*◌, ◌≤◌, true, false, List, [], ◌∷◌, ◌++◌, length, length-append, append-nil, map, Option, Some, Result, Ok, refl, sym, ap, subst, ◌∙◌, arith}
use Rattle.std.specs.List.{concat, flat_map}
use Rattle.std.proofs.lemmas.List.{length-map}
use Rattle.std.proofs.lemmas.List.Concat.{flat_map-cons}
use Rattle.std.proofs.lemmas.List.Elements.{All-head}
use Rattle.field_grammar.specs.Answers.{answer}
use Rattle.field_grammar.proofs.ExactLemmas.{answer-spelled, spelled_at_start}
use Rattle.field_grammar.specs.Fields.{number_bytes}
use Rattle.field_grammar.proofs.NumberLemmas.{length_number_bytes}
use Rattle.field_grammar.proofs.WrittenLemmas.{at_most_each}
use Rattle.load_base.specs.Bytes.{AllGood}
use Rattle.load_base.specs.Text.{IsText, is_printable}
use Rattle.load_protocol_files.specs.declared.fault.FileFault.{FileFault}
use Rattle.load_protocol_files.specs.declared.lci.Lci.{Lci}
use Rattle.load_protocol_files.specs.declared.lcl.Part.{Part}
use Rattle.load_protocol_files.specs.declared.lcs.Lcs.{Lcs}
use Rattle.load_protocol_files.specs.declared.lui.Lui.{Lui}
use Rattle.load_protocol_files.specs.Files.{IsFileOf, file_fields}
use Rattle.load_protocol_files.specs.Lci.{lci}
use Rattle.load_protocol_files.specs.Lcl.{HardwareFits, HardwareView, InstalledFits, LclSpells, LclView, hardware_fields, installed_fields, lcl, lcl_fields}
use Rattle.load_protocol_files.specs.Laws.Lcl.{hardware_size, installed_size, lcl_size}
use Rattle.load_protocol_files.specs.Lcs.{LcsFits, LcsSpells, lcs}
use Rattle.load_protocol_files.specs.Laws.Lcs.{lcs_is_small}
use Rattle.disk_layout.specs.Contents.{entries_of, entry_of}
use Rattle.disk_layout.specs.Holds.{Outline, StandingView, outline_of}
use Rattle.load_protocol_files.specs.Lui.{lui}
use Rattle.load_protocol_files.specs.Reply.{ReplyFits, reply_fields}
use Rattle.load_protocol_files.specs.Laws.Replies.{reply_is_small}
use Rattle.exchange_trace.specs.Logs.{loader_log}
use Rattle.exchange_trace.specs.Steps.{Step}
use Rattle.transfer_end.specs.OtherEnds.{MovesStayFair, TellsLength, file_sent, is_asking, is_receiving}
use Rattle.transfer_end.specs.Transfers.{Reads, Role, ServesRead, ServesWrite, Transfer, Writes}
use Rattle.session_rules.specs.declared.outcome.FileKind.{FileKind}
use Rattle.session_rules.specs.declared.outcome.FileKind.TheVariants as kinds
use Rattle.session_rules.specs.declared.outcome.Outcome.TheVariants.{BadFile, Completed, Denied}
use Rattle.session_rules.proofs.BufferLemmas.{SumsJoin}
use Rattle.session_rules.specs.Buffers.{buffered}
use Rattle.session_rules.specs.Loader.{Start}
use Rattle.session_rules.specs.LoaderLog.{SessionLog}
use Rattle.session_rules.proofs.LoaderRoleLemmas.{loader_roles_fit}
use Rattle.session_rules.specs.LoaderRoles.{IsOfLoaderRow, LoaderLiveFits, LoaderRoleFits, TakesFile, WritesLur, loader_row}
use Rattle.session_rules.specs.LoaderRows.{Comes_to, Goes_on, LoaderRow, Reads_lci, Reads_lui, Serves_files, Takes_lcl, Takes_lcs, Takes_lus, Writes_lur, file_turn, lci_turn, lcl_turn, lcs_turn, lui_turn}
use Rattle.session_rules.specs.Reports.{accepting_lui, denying_lui, lci_file, lcl_file, lcl_of, lcs_file, listed_part}
use Rattle.session_rules.specs.FileNames.{file_name}
use Rattle.session_rules.specs.TargetRows as Rows
use Rattle.session_rules.specs.TargetRows.{RowView}
use Rattle.accept_rules.specs.Permissions.{AcceptsPermitted}
use Rattle.session_rules.proofs.ReadFileLemmas.{RequestsAreSpelled}
use Rattle.session_rules.proofs.SoundnessLemmas.{HeadersAreSpelled}
use Rattle.session_rules.proofs.SoundLogLemmas.{PayloadsAreBytes}
use Rattle.replay_rules.specs.BothEnds.{Setting, loader_at, target_at}
use Rattle.replay_rules.specs.Histories.{active_at}
use Rattle.replay_rules.specs.MediaTraces.{LengthsAreTold}
use Rattle.replay_rules.specs.ListTraces.{AllCanBeListed, IsWrittenInTime, ListWasDue, OwnFilesAreNamed}
use Rattle.replay_rules.specs.Changes.{AllStayOrAreNew}
use Rattle.replay_rules.specs.OtherEndTraces.{IsUninjected, WhatArrivesWasSent, former_at, transfers_of}
use Rattle.replay_rules.proofs.AnsweredLater.{one_before}
use Rattle.replay_rules.specs.Causes.{BeginsSmall, EndsAs, HasFewLoads, NoBadFiles}
use Rattle.replay_rules.proofs.Arrived.{EndedByTarget, ended_by_target}
use Rattle.replay_rules.proofs.Replies.{FileLaws}
use Rattle.replay_rules.proofs.TargetFiles.{BeginsWell, IsGiven}
use Rattle.replay_rules.proofs.TargetTells.{IsToldCause}
use Rattle.replay_rules.proofs.SmallLoads.{active_is_few}
use Rattle.replay_rules.proofs.EachBefore.{IsOver, over_at}
use Rattle.replay_rules.proofs.FilesInRows.{RowWrites, row_kind}
use Rattle.replay_rules.proofs.FilesOver.{FilesOver, IsOfRow, target_files_over}
use Rattle.replay_rules.proofs.StatusRows.{giving_not, taking_not}
use Rattle.replay_rules.proofs.Reasons.{HasText, UploadSmall}
use Rattle.replay_rules.proofs.RowsFit.{RowFits}
use Rattle.replay_rules.proofs.PlacedRows.{HasServed, PlacedRow}
use Rattle.replay_rules.proofs.TargetRoles.{IsGiving, IsTaking}
use Rattle.replay_rules.proofs.StatusFiles.{AllWanted, last_read, progress_read, ready_read, turns_by}
use Rattle.replay_rules.proofs.ListedBefore.{target_writes_in_time}
use Rattle.replay_rules.proofs.ListedTraces.{IsNamedAs, can_be_listed, takes_receives, written_kind}

-- ---- the three files that the target gives

no_text : IsText []
no_text = record { size = omega arith; good = λ i lt. absurd (omega arith) }

spent_good : AllGood is_printable (65 ∷ 49 ∷ 48 ∷ [])
spent_good zero lt = refl
spent_good (suc zero) lt = refl
spent_good (suc (suc zero)) lt = refl
spent_good (suc (suc (suc k))) lt = absurd (omega (arith, lt))

-- the file has this status and text
record IsReplyOf (status : ℕ) (text file : List ℕ) : Type 0 where
  fits : ReplyFits status text
  is : IsFileOf (concat (reply_fields status text)) file
  short : length file ≤ 65536

accepted_fits : ReplyFits 1 []
accepted_fits = record { small = omega arith; is_text = no_text }

denied_fits : ReplyFits 4096 (65 ∷ 49 ∷ 48 ∷ [])
denied_fits = record { small = omega arith; is_text = record { size = omega arith; good = spent_good } }

lci_is : IsReplyOf 1 [] lci_file
unfolding lci_file file_fields number_bytes
lci_is = let e : length lci_file ≡ 9 = refl in record { fits = accepted_fits; is = record { small = reply_is_small 1 [] accepted_fits; written = refl }; short = omega (arith, e) }

accepting_is : IsReplyOf 1 [] accepting_lui
unfolding accepting_lui file_fields number_bytes
accepting_is = let e : length accepting_lui ≡ 9 = refl in record { fits = accepted_fits; is = record { small = reply_is_small 1 [] accepted_fits; written = refl }; short = omega (arith, e) }

denying_is : IsReplyOf 4096 (65 ∷ 49 ∷ 48 ∷ []) denying_lui
unfolding denying_lui file_fields number_bytes
denying_is =
    let e : length denying_lui ≡ 12 = refl in record { fits = denied_fits; is = record { small = reply_is_small 4096 (65 ∷ 49 ∷ 48 ∷ []) denied_fits; written = refl }; short = omega (arith, e) }

-- ---- how they are read

abbrev IsReplyRow : LoaderRow → Type 0
IsReplyRow Reads_lci = Unit {0}
IsReplyRow Reads_lui = Unit {0}
IsReplyRow row = ⊥

module _ (laws : FileLaws) (status : ℕ) (text file : List ℕ) (h : IsReplyOf status text file) where
  read_lci : answer lci file ≡ Ok (record { status = status; description = text })
  read_lci = let v : Lci = record { status = status; description = text } in answer-spelled lci file v (spelled_at_start lci file v ((laws.lci_exact.spelled file v).1 (h.fits, h.is)))

  read_lui : answer lui file ≡ Ok (record { status = status; description = text })
  read_lui = let v : Lui = record { status = status; description = text } in answer-spelled lui file v (spelled_at_start lui file v ((laws.lui_exact.spelled file v).1 (h.fits, h.is)))

  turn_lci : file_turn Reads_lci (buffered file) ≡ lci_turn (Ok (record { status = status; description = text }))
  turn_lci = turns_by Reads_lci file h.short ∙ ap (λ (found : Result Lci FileFault). lci_turn found) read_lci

  turn_lui : file_turn Reads_lui (buffered file) ≡ lui_turn (Ok (record { status = status; description = text }))
  turn_lui = turns_by Reads_lui file h.short ∙ ap (λ (found : Result Lui FileFault). lui_turn found) read_lui

abbrev IsBad : LoaderRow → List ℕ → FileKind → ℕ → Type 0
IsBad row file kind offset = file_turn row (buffered file) ≡ Comes_to (BadFile kind offset)

module _ (laws : FileLaws) (kind : FileKind) (offset : ℕ) where
  accepted_read : (row : LoaderRow) (file : List ℕ) → IsReplyRow row → IsReplyOf 1 [] file → IsBad row file kind offset → ⊥
  accepted_read Reads_lci file of h bad = let wrong : Goes_on ≡ Comes_to (BadFile kind offset) = sym (turn_lci laws 1 [] file h) ∙ bad in cc
  accepted_read Reads_lui file of h bad = let wrong : Goes_on ≡ Comes_to (BadFile kind offset) = sym (turn_lui laws 1 [] file h) ∙ bad in cc
  accepted_read Takes_lcs file of h bad = of
  accepted_read Takes_lcl file of h bad = of
  accepted_read Takes_lus file of h bad = of
  accepted_read Writes_lur file of h bad = of
  accepted_read Serves_files file of h bad = of

  denied_read : (row : LoaderRow) (file text : List ℕ) → IsReplyRow row → IsReplyOf 4096 text file → IsBad row file kind offset → ⊥
  denied_read Reads_lci file text of h bad = let wrong : Comes_to (Denied text) ≡ Comes_to (BadFile kind offset) = sym (turn_lci laws 4096 text file h) ∙ bad in cc
  denied_read Reads_lui file text of h bad = let wrong : Comes_to (Denied text) ≡ Comes_to (BadFile kind offset) = sym (turn_lui laws 4096 text file h) ∙ bad in cc
  denied_read Takes_lcs file text of h bad = of
  denied_read Takes_lcl file text of h bad = of
  denied_read Takes_lus file text of h bad = of
  denied_read Writes_lur file text of h bad = of
  denied_read Serves_files file text of h bad = of

  given_read : (row : LoaderRow) (file : List ℕ) → IsReplyRow row → IsGiven file → IsBad row file kind offset → ⊥
  given_read row file of (inl is) bad = accepted_read row lci_file of lci_is (subst (λ (x : List ℕ). IsBad row x kind offset) is bad)
  given_read row file of (inr (inl is)) bad = accepted_read row accepting_lui of accepting_is (subst (λ (x : List ℕ). IsBad row x kind offset) is bad)
  given_read row file of (inr (inr is)) bad = denied_read row denying_lui (65 ∷ 49 ∷ 48 ∷ []) of denying_is (subst (λ (x : List ℕ). IsBad row x kind offset) is bad)

-- ---- the LCS

abbrev lcs_is : Lcs
lcs_is = record { counter = 1; status = 2; exception = 0; estimated = 0; description = [] }

lcs_fits : LcsFits lcs_is
lcs_fits = record { counter = omega arith; status = omega arith; exception = omega arith; estimated = omega arith; description = no_text }

lcs_spells : LcsSpells lcs_is lcs_file
unfolding lcs_file file_fields number_bytes
lcs_spells = (lcs_fits, record { small = lcs_is_small lcs_is lcs_fits; written = refl })

lcs_short : length lcs_file ≤ 65536
unfolding lcs_file file_fields number_bytes
lcs_short = let e : length lcs_file ≡ 15 = refl in omega (arith, e)

lcs_of : (row : RowView) (file : List ℕ) → row_kind row ≡ kinds.Lcs → RowWrites row file → file ≡ lcs_file
lcs_of Rows.Writes_lcs file e is = is
lcs_of Rows.Writes_lcl file e is = absurd cc
lcs_of Rows.Writes_ready file e is = absurd cc
lcs_of (Rows.Writes_progress u) file e is = absurd cc
lcs_of (Rows.Writes_stop end) file e is = absurd cc
lcs_of (Rows.Writes_completion end loads) file e is = absurd cc
lcs_of (Rows.Reads_file u) file e is = absurd is
lcs_of Rows.Gives_lci file e is = absurd is
lcs_of Rows.Gives_lui file e is = absurd is
lcs_of Rows.Gives_denial file e is = absurd is
lcs_of Rows.Awaits_lur file e is = absurd is
lcs_of Rows.Over file e is = absurd is

lcs_read : FileLaws → (kind : FileKind) (offset : ℕ) → IsBad Takes_lcs lcs_file kind offset → ⊥
lcs_read laws kind offset bad =
    let read : answer lcs lcs_file ≡ Ok lcs_is = answer-spelled lcs lcs_file lcs_is (spelled_at_start lcs lcs_file lcs_is ((laws.lcs_exact.spelled lcs_file lcs_is).1 lcs_spells)) in
    let turn : file_turn Takes_lcs (buffered lcs_file) ≡ Goes_on = turns_by Takes_lcs lcs_file lcs_short ∙ ap (λ (found : Result Lcs FileFault). lcs_turn found) read in
    let wrong : Goes_on ≡ Comes_to (BadFile kind offset) = sym turn ∙ bad in cc

-- ---- the LCL

part_length : (part : Part) → InstalledFits part → length (concat (installed_fields part)) ≤ 768
part_length part fits = omega (arith, installed_size part, fits.number.size, fits.amendment.size, fits.designation.size)

module _ (h : HardwareView) (fits : HardwareFits h) where
  one_hardware : length (concat (flat_map hardware_fields (h ∷ []))) ≡ length (concat (hardware_fields h))
  one_hardware = ap (λ (fields : List (List ℕ)). length (concat fields)) (flat_map-cons hardware_fields h [] ∙ append-nil (hardware_fields h))

  parts_length : length (concat (flat_map installed_fields h.parts)) ≤ length h.parts * 768
  parts_length = at_most_each installed_fields (λ p. InstalledFits p) 768 part_length h.parts fits.parts

  list_length : length h.parts ≤ 32 → 6 + length (concat (lcl_fields (record { hardware = h ∷ [] }))) ≤ 65536
  list_length few = rw (lcl_size (record { hardware = h ∷ [] }), one_hardware, hardware_size h) (omega (arith, parts_length, few, fits.name.size, fits.serial.size))

-- a list of few loads is short
lcl_short : (o : Outline) → length o.loads ≤ 32 → LclSpells (lcl_of o) (lcl_file o) → length (lcl_file o) ≤ 65536
lcl_short o few spells =
    let h : HardwareView = record { name = o.identity.hw; serial = o.identity.serial; parts = map listed_part o.loads } in
    let fits : HardwareFits h = All-head (λ (x : HardwareView). HardwareFits x) h [] spells.0.hardware in
    let count : length h.parts ≡ length o.loads = length-map o.loads listed_part in
    let body : 6 + length (concat (lcl_fields (lcl_of o))) ≤ 65536 = list_length h fits (omega (arith, count, few)) in
    rw (spells.1.written, length-append, length-append, length_number_bytes 4 (6 + length (concat (lcl_fields (lcl_of o)))), length_number_bytes 2 16691) (omega (arith, body))

lcl_read : FileLaws → (kind : FileKind) (offset : ℕ) (o : Outline) → length o.loads ≤ 32 → LclSpells (lcl_of o) (lcl_file o) → IsBad Takes_lcl (lcl_file o) kind offset → ⊥
lcl_read laws kind offset o few spells bad =
    let read : answer lcl (lcl_file o) ≡ Ok (lcl_of o) = answer-spelled lcl (lcl_file o) (lcl_of o) (spelled_at_start lcl (lcl_file o) (lcl_of o) ((laws.lcl_exact.spelled (lcl_file o) (lcl_of o)).1 spells)) in
    let turn : file_turn Takes_lcl (buffered (lcl_file o)) ≡ Comes_to Completed = turns_by Takes_lcl (lcl_file o) (lcl_short o few spells) ∙ ap (λ (found : Result LclView FileFault). lcl_turn found) read in
    let wrong : Comes_to Completed ≡ Comes_to (BadFile kind offset) = sym turn ∙ bad in cc

-- ---- the LUS

abbrev Fits : RowView → Type 0
Fits row = RowFits AllWanted UploadSmall HasText row

-- the first status, from a row in which no request was taken
first_status : FileLaws → (kind : FileKind) (offset : ℕ) (row : RowView) (file : List ℕ) (past : List Transfer) → row_kind row ≡ kinds.Lus → RowWrites row file → PlacedRow row past → (HasServed IsTaking past → ⊥) → IsBad Takes_lus file kind offset → ⊥
first_status laws kind offset Rows.Writes_ready file past e is placed not bad = ready_read laws kind offset (subst (λ (x : List ℕ). IsBad Takes_lus x kind offset) is bad)
first_status laws kind offset (Rows.Writes_progress u) file past e is placed not bad = not placed
first_status laws kind offset (Rows.Writes_stop end) file past e is placed not bad = not placed
first_status laws kind offset (Rows.Writes_completion end loads) file past e is placed not bad = not placed
first_status laws kind offset Rows.Writes_lcs file past e is placed not bad = absurd cc
first_status laws kind offset Rows.Writes_lcl file past e is placed not bad = absurd cc
first_status laws kind offset (Rows.Reads_file u) file past e is placed not bad = is
first_status laws kind offset Rows.Gives_lci file past e is placed not bad = is
first_status laws kind offset Rows.Gives_lui file past e is placed not bad = is
first_status laws kind offset Rows.Gives_denial file past e is placed not bad = is
first_status laws kind offset Rows.Awaits_lur file past e is placed not bad = is
first_status laws kind offset Rows.Over file past e is placed not bad = is

-- a later one, from a row in which a request was taken
later_status : FileLaws → (kind : FileKind) (offset : ℕ) (row : RowView) (file : List ℕ) (past : List Transfer) → RowWrites row file → PlacedRow row past → Fits row → (HasServed IsGiving past → ⊥) → IsBad Serves_files file kind offset → ⊥
later_status laws kind offset (Rows.Writes_progress u) file past is placed fits not bad = progress_read laws kind offset UploadSmall u fits (subst (λ (x : List ℕ). IsBad Serves_files x kind offset) is bad)
later_status laws kind offset (Rows.Writes_stop end) file past is placed fits not bad = last_read laws kind offset HasText (λ reason has. has) end end.reason fits fits.why (subst (λ (x : List ℕ). IsBad Serves_files x kind offset) is bad)
later_status laws kind offset (Rows.Writes_completion end loads) file past is placed fits not bad = last_read laws kind offset HasText (λ reason has. has) end end.reason fits.0 fits.0.why (subst (λ (x : List ℕ). IsBad Serves_files x kind offset) is bad)
later_status laws kind offset Rows.Writes_lcs file past is placed fits not bad = not placed
later_status laws kind offset Rows.Writes_lcl file past is placed fits not bad = not placed
later_status laws kind offset Rows.Writes_ready file past is placed fits not bad = not placed
later_status laws kind offset (Rows.Reads_file u) file past is placed fits not bad = is
later_status laws kind offset Rows.Gives_lci file past is placed fits not bad = is
later_status laws kind offset Rows.Gives_lui file past is placed fits not bad = is
later_status laws kind offset Rows.Gives_denial file past is placed fits not bad = is
later_status laws kind offset Rows.Awaits_lur file past is placed fits not bad = is
later_status laws kind offset Rows.Over file past is placed fits not bad = is

-- what a side wrote that asked, of whatever kind
some_written : (set : Setting) (Is : FileKind → List ℕ → Type 0) (role : Role) (file : List ℕ) → is_asking role ≡ true → file_sent role ≡ Some file → IsNamedAs set Is role → TellsLength role × ((kind : FileKind) × Is kind file)
some_written set Is (Writes name o f) file asks sent (kind, named, is) = let same : f ≡ file = cc in (tt, (kind, subst (λ (x : List ℕ). Is kind x) same is))
some_written set Is (Reads name o) file asks sent h = absurd cc
some_written set Is (ServesRead name o f) file asks sent h = absurd cc
some_written set Is (ServesWrite name o) file asks sent h = absurd cc

-- the loader writes its LUR, and receives none
lur_not : (start : Start) (role : Role) → WritesLur start role → is_receiving role ≡ true → ⊥
lur_not start (Writes name o file) is receives = cc
lur_not start (Reads name o) is receives = is
lur_not start (ServesRead name o file) is receives = is
lur_not start (ServesWrite name o) is receives = is

-- what is written in time
in_time : (set : Setting) (steps : List Step) (role : Role) → IsWrittenInTime set steps role → IsNamedAs set (λ (kind : FileKind) (file : List ℕ). kind ≡ kinds.Lcl → ListWasDue set steps file) role
in_time set steps (Writes name o file) h = h
in_time set steps (Reads name o) h = tt
in_time set steps (ServesRead name o file) h = tt
in_time set steps (ServesWrite name o) h = tt

-- ---- no session ends so

module _ (joins : SumsJoin) (moves : MovesStayFair) (spells : HeadersAreSpelled) (payloads : PayloadsAreBytes) (requests : RequestsAreSpelled) (arrives : WhatArrivesWasSent) (laws : FileLaws) (set : Setting) (permits : AcceptsPermitted set.accepts)
    (hw : BeginsWell set.start.identity.hw) (named : OwnFilesAreNamed set) (begins : BeginsSmall set.start) (lengths : LengthsAreTold set.media) where
  given_bytes : (earlier : List Step) (role : Role) (bytes file : List ℕ) → is_asking role ≡ false → file_sent role ≡ Some file → IsToldCause set earlier role → (TellsLength role → bytes ≡ file) → IsGiven bytes
  given_bytes earlier (ServesRead name o f) bytes file serves sent told whole =
      let same : bytes ≡ f = whole told.small ∙ (let is : file ≡ f = cc in is) in subst IsGiven (sym same) told.given
  given_bytes earlier (ServesWrite name o) bytes file serves sent told whole = absurd cc
  given_bytes earlier (Reads name o) bytes file serves sent told whole = absurd cc
  given_bytes earlier (Writes name o f) bytes file serves sent told whole = absurd cc

  stay_before : (since : List Step) (made : Step) (before : List Step) → AllStayOrAreNew set (since ++ made ∷ before) → AllStayOrAreNew set before
  stay_before [] made before all = all.1
  stay_before (x ∷ since) made before all = stay_before since made before all.1

  module _ (s : Step) (earlier : List Step) (is : IsUninjected set (s ∷ earlier)) (listable : AllCanBeListed set earlier) (changes : AllStayOrAreNew set earlier) (kind : FileKind) (offset : ℕ) (h : EndedByTarget set s earlier (BadFile kind offset)) where
    abbrev start : Start
    start = h.arrived.ends.session.start

    abbrev live : Transfer
    live = h.arrived.ends.live

    ended_role : h.arrived.ends.transfer.role ≡ live.role
    ended_role = ap (λ (t : Transfer). t.role) h.arrived.ends.is

    of_row : IsOfLoaderRow start (loader_row h.arrived.ends.session) live.role
    of_row =
        let roles : LoaderRoleFits (loader_at set earlier).end (Some h.arrived.ends.session) = subst (λ (l : Option SessionLog). LoaderRoleFits (loader_at set earlier).end l) h.arrived.ends.was_live (loader_roles_fit set.media (loader_log earlier)) in
        subst (λ (l : Option Transfer). LoaderLiveFits start (loader_row h.arrived.ends.session) l) h.arrived.ends.going roles.0

    -- a file that the loader reads
    reply_not : (row : LoaderRow) → loader_row h.arrived.ends.session ≡ row → IsReplyRow row → is_asking live.role ≡ true → ⊥
    reply_not row e reply asking =
        given_read laws kind offset row h.bytes reply (given_bytes earlier h.other.role h.bytes h.file (h.serves asking) h.sent h.cause h.whole) (subst (λ (r : LoaderRow). IsBad r h.bytes kind offset) e h.comes_to)

    -- a file that it takes is of the kind that it takes
    taken : (wanted : FileKind) (Is : FileKind → List ℕ → Type 0) → TakesFile (file_name start.hw start.pos wanted) live.role → IsNamedAs set Is h.other.role → Is wanted h.bytes
    taken wanted Is takes holds =
        let a = h.answers (takes_receives _ live.role takes).1 in
        let (tells, so) = written_kind set Is wanted start.hw start.pos h.arrived.ends.transfer.role h.other.role h.file named (subst (TakesFile (file_name start.hw start.pos wanted)) (sym ended_role) takes) a.asks h.sent a.request a.are_bytes holds in
        subst (Is wanted) (sym (h.whole tells)) so

    abbrev over : IsOver (FilesOver set earlier) (transfers_of (target_at set earlier) ++ former_at set earlier) h.other
    over = over_at (FilesOver set earlier) (transfers_of (target_at set earlier) ++ former_at set earlier) h.other (target_files_over joins moves spells payloads requests arrives set permits lengths begins earlier (one_before set s earlier is)) h.among

    lcs_not : loader_row h.arrived.ends.session ≡ Takes_lcs → TakesFile (file_name start.hw start.pos kinds.Lcs) live.role → ⊥
    lcs_not e takes =
        let w : IsOfRow over.earlier kinds.Lcs h.bytes = taken kinds.Lcs (IsOfRow over.earlier) takes over.over in
        lcs_read laws kind offset (subst (λ (x : List ℕ). IsBad Takes_lcs x kind offset) (lcs_of w.row h.bytes w.is_kind w.writes) (subst (λ (r : LoaderRow). IsBad r h.bytes kind offset) e h.comes_to))

    lcl_not : loader_row h.arrived.ends.session ≡ Takes_lcl → TakesFile (file_name start.hw start.pos kinds.Lcl) live.role → ⊥
    lcl_not e takes =
        let due : ListWasDue set earlier h.bytes = taken kinds.Lcl (λ (k : FileKind) (file : List ℕ). k ≡ kinds.Lcl → ListWasDue set earlier file) takes (in_time set earlier h.other.role (target_writes_in_time joins set earlier h.other h.among)) refl in
        let active : StandingView = active_at set due.before in
        let count : length (entries_of active.loads) ≡ length active.loads = length-map active.loads entry_of in
        let le : HasFewLoads active = active_is_few set begins due.before (stay_before due.since due.made due.before (subst (λ (steps : List Step). AllStayOrAreNew set steps) due.split changes)) in
        lcl_read laws kind offset (outline_of active) (omega (arith, count, le)) (can_be_listed set due.since due.made due.before (subst (λ (steps : List Step). AllCanBeListed set steps) due.split listable))
        (subst (λ (x : List ℕ). IsBad Takes_lcl x kind offset) due.lists (subst (λ (r : LoaderRow). IsBad r h.bytes kind offset) e h.comes_to))

    first_not : loader_row h.arrived.ends.session ≡ Takes_lus → TakesFile (file_name start.hw start.pos kinds.Lus) live.role → ⊥
    first_not e takes =
        let w : IsOfRow over.earlier kinds.Lus h.bytes = taken kinds.Lus (IsOfRow over.earlier) takes over.over in
        first_status laws kind offset w.row h.bytes over.earlier w.is_kind w.writes w.placed (taking_not joins moves set s earlier is (BadFile kind offset) h (takes_receives _ live.role takes).1 (FilesOver set earlier) over e) (subst (λ (r : LoaderRow). IsBad r h.bytes kind offset) e h.comes_to)

    later_not : loader_row h.arrived.ends.session ≡ Serves_files → is_asking live.role ≡ false → ⊥
    later_not e serves =
        let (tells, (other_kind, w)) = some_written set (IsOfRow over.earlier) h.other.role h.file (h.answers serves).asks h.sent over.over in
        later_status laws kind offset w.row h.bytes over.earlier (subst (RowWrites w.row) (sym (h.whole tells)) w.writes) w.placed w.fits (giving_not joins moves set s earlier is (BadFile kind offset) h serves (FilesOver set earlier) over e)
        (subst (λ (r : LoaderRow). IsBad r h.bytes kind offset) e h.comes_to)

    good_file : ⊥
    good_file = by (loader_row h.arrived.ends.session) refl of_row
      where
        by : (row : LoaderRow) → loader_row h.arrived.ends.session ≡ row → IsOfLoaderRow start row live.role → ⊥
        by Reads_lci e role = reply_not Reads_lci e tt role
        by Reads_lui e role = reply_not Reads_lui e tt role
        by Takes_lcs e role = lcs_not e role
        by Takes_lcl e role = lcl_not e role
        by Writes_lur e role = lur_not start live.role role h.receives
        by Takes_lus e role = first_not e role
        by Serves_files e role = later_not e role

  good_now : (s : Step) (earlier : List Step) → IsUninjected set (s ∷ earlier) → AllCanBeListed set earlier → AllStayOrAreNew set earlier → (kind : FileKind) (offset : ℕ) → EndsAs set s earlier (BadFile kind offset) → ⊥
  good_now s earlier is listable changes kind offset ends = good_file s earlier is listable changes kind offset (ended_by_target joins payloads arrives set hw s earlier is changes (BadFile kind offset) tt ends)

  pub all_good : (steps : List Step) → IsUninjected set steps → AllCanBeListed set steps → AllStayOrAreNew set steps → NoBadFiles set steps
  all_good [] is listable changes = tt
  all_good (s ∷ earlier) is listable changes = (good_now s earlier is listable.1 changes.1, all_good earlier (one_before set s earlier is) listable.1 changes.1)
