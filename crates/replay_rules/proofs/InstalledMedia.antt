-- Proofs that what is installed are the media set's files.
use Rattle.std.proofs.Common.{◌≡◌, inl, inr, ⊎_elim, ℕ, Bool, true, false, cond, List, [], ◌∷◌, ◌++◌, map, Option, Some, None, refl, sym, ap, subst, ◌∙◌, append_assoc}
use Rattle.std.specs.Prelude.{filter, ◌==◌}
use Rattle.std.specs.List.{AllByRecursion, AllZip}
use Rattle.std.proofs.lemmas.Bool.{eq-eqb}
use Rattle.std.proofs.lemmas.List.{append_cancel_left}
use Rattle.field_grammar.specs.Fields.{number_bytes}
use Rattle.field_grammar.specs.Grammar.{IsBytes}
use Rattle.load_base.specs.Config.{FileView, LoadView}
use Rattle.load_base.specs.Name.{IsName}
use Rattle.load_header.specs.declared.header.FileEntry.{FileEntry}
use Rattle.load_header.specs.HeaderFields.{IsHeaderFile}
use Rattle.load_protocol_files.specs.declared.lur.Wanted.{Wanted}
use Rattle.disk_layout.specs.declared.identity.Identity.{Identity}
use Rattle.disk_layout.specs.Contents.{entries_of}
use Rattle.disk_layout.specs.Holds.{StandingView}
use Rattle.tftp_packet.specs.declared.options.Options.{Options}
use Rattle.tftp_packet.specs.Options.{ended_text}
use Rattle.tftp_packet.specs.Packets.{PacketSpells, Rrq, packet_bytes}
use Rattle.exchange_trace.specs.declared.trace.Side.TheVariants as sides
use Rattle.exchange_trace.specs.Logs.{Down, Event, Life, Up, event_for, reached as life_reached, target_life}
use Rattle.exchange_trace.specs.Posts.{posted_in}
use Rattle.exchange_trace.specs.Steps.{Boot_refused, Came_up, Note, Step, Went_down}
use Rattle.accept_rules.specs.Permissions.{AcceptsPermitted}
use Rattle.transfer_end.specs.Moves.{past_with}
use Rattle.transfer_end.proofs.OtherEndLemmas.{all_at, among_either, among_left}
use Rattle.transfer_end.specs.OtherEnds.{Among, AnswersRequest, ComesFromEnd, MovesStayFair, TellsLength, file_sent, is_asking, is_receiving, of_end, of_none, request_taken}
use Rattle.transfer_end.specs.Packets.{packet_in}
use Rattle.transfer_end.proofs.SentPacketLemmas.{read_is_spelled}
use Rattle.transfer_end.specs.Transfers.{Reads, Role, ServesRead, ServesWrite, Transfer, Writes, arrived_of, end_in, first_packet, is_reading, is_received, name_of}
use Rattle.session_rules.proofs.BufferLemmas.{SumsJoin}
use Rattle.session_rules.specs.Fairness.{IsLoaderRole}
use Rattle.session_rules.proofs.InstallationLemmas.{good_are_checked}
use Rattle.session_rules.specs.MediaFiles.{Media}
use Rattle.session_rules.specs.NewConfigs.{AreOfMedia, IsAsSaid, IsChecked, IsWanted, file_read, files_in, reads_in}
use Rattle.session_rules.proofs.ReadFileLemmas.{RequestsAreSpelled, target_step_reads}
use Rattle.session_rules.specs.ReadFiles.{AreNamed, InstallsWhatWasRead, SessionReads}
use Rattle.session_rules.proofs.SoundLogLemmas.{PayloadsAreBytes}
use Rattle.session_rules.specs.SoundLogs.{IsNewAt}
use Rattle.session_rules.proofs.SoundnessLemmas.{HeadersAreSpelled}
use Rattle.session_rules.specs.TargetLog.{TargetReading, target_extended}
use Rattle.session_rules.specs.Uploads.{files_of}
use Rattle.replay_rules.specs.BothEnds.{Is_down, Is_up, Setting, TargetStanding, changed, come_up, gone_down, loader_at, noted, reached, target_at}
use Rattle.replay_rules.proofs.CameTraceLemmas.{target_takes}
use Rattle.replay_rules.specs.CameTraces.{LifeTakesWhatCame}
use Rattle.replay_rules.proofs.ChangeLemmas.{TargetIsSound, changes_are_new, step_sound, target_sound}
use Rattle.replay_rules.specs.Changes.{AllCarryBytes, AllStayOrAreNew, TargetStaysOrIsNew}
use Rattle.replay_rules.proofs.CompletedRows.{new_is_made}
use Rattle.replay_rules.specs.Histories.{IsMadeOf, active_in}
use Rattle.replay_rules.specs.MediaTraces.{InstallsAreOfMedia, LengthsAreTold}
use Rattle.replay_rules.specs.OtherEndTraces.{AllArriveAsSent, ArrivesAsSent, former_at, loader_transfers, target_transfers, transfers_of}
use Rattle.replay_rules.proofs.PlacedTraceLemmas.{all_append}
use Rattle.replay_rules.specs.Promises.{AllOfMedia, BroughtIsOfMedia}
use Rattle.replay_rules.proofs.TieLemmas.{HasLive, target_is_live}
use Rattle.replay_rules.proofs.ListedTraces.{before_zero_same, false_is_true}
use Rattle.replay_rules.proofs.SentTraces.{loader_gives_media, what_arrives_was_sent}

-- ---- the files of a new configuration are named

abbrev HasName : FileView → Type 0
HasName file = IsName file.name

entries_of_all : (entries : List FileEntry) → AllByRecursion IsHeaderFile entries → AllByRecursion (λ (f : FileEntry). IsName f.name) entries
entries_of_all [] all = tt
entries_of_all (f ∷ entries) (one, all) = (one.name, entries_of_all entries all)

said_named : (entries : List FileEntry) (files : List FileView) → AllByRecursion (λ (f : FileEntry). IsName f.name) entries → AllZip IsAsSaid entries files → AllByRecursion HasName files
said_named [] [] named said = tt
said_named [] (f ∷ files) named said = absurd said
said_named (entry ∷ entries) [] named said = absurd said
said_named (entry ∷ entries) (f ∷ files) (one, named) (is, said) = (subst IsName (sym is.name) one, said_named entries files named said)

load_named : (id : Identity) (wanted : Wanted) (load : LoadView) → IsName wanted.header → IsWanted wanted load → IsChecked id load → AllByRecursion HasName load.files
load_named id wanted load named is good =
    let entries : AllByRecursion (λ (f : FileEntry). IsName f.name) (files_of good.header) =
    all_append (λ (f : FileEntry). IsName f.name) good.header.data_files good.header.support_files (entries_of_all good.header.data_files good.spelled.0.data_files) (entries_of_all good.header.support_files good.spelled.0.support_files) in
    subst (λ (files : List FileView). AllByRecursion HasName files) (sym good.whole) (subst IsName (sym is.header) named, said_named (files_of good.header) good.files entries good.each)

loads_named : (id : Identity) (request : List Wanted) (loads : List LoadView) → AreNamed request → AllZip IsWanted request loads → AllByRecursion (IsChecked id) loads → AllByRecursion HasName (files_in loads)
loads_named id [] [] named each good = tt
loads_named id [] (load ∷ loads) named each good = absurd each
loads_named id (w ∷ request) [] named each good = absurd each
loads_named id (w ∷ request) (load ∷ loads) (one, named) (is, each) (first, good) =
    all_append HasName load.files (files_in loads) (load_named id w load one is first) (loads_named id request loads named each good)

-- ---- a file that was read is the media set's

abbrev IsOfMedia : Media → FileView → Type 0
IsOfMedia media file = media.file file.name ≡ Some file.bytes

all_reads : (media : Media) (done : List Transfer) → ((t : Transfer) → Among t done → is_reading t.role ≡ true → IsName (name_of t.role) → IsOfMedia media (file_read t)) → AllByRecursion HasName (reads_in done) → AllByRecursion (IsOfMedia media) (reads_in done)
all_reads media [] each named = tt
all_reads media (t ∷ done) each named = by (is_reading t.role) refl named (λ h. all_reads media done (λ u a. each u (inr a)) h)
  where
    by : (b : Bool) → is_reading t.role ≡ b → AllByRecursion HasName (map file_read (cond b (t ∷ filter (λ (u : Transfer). is_reading u.role) done) (filter (λ (u : Transfer). is_reading u.role) done)))
        → (AllByRecursion HasName (reads_in done) → AllByRecursion (IsOfMedia media) (reads_in done)) → AllByRecursion (IsOfMedia media) (map file_read (cond b (t ∷ filter (λ (u : Transfer). is_reading u.role) done) (filter (λ (u : Transfer). is_reading u.role) done)))
    by true is (one, named) rest = (each t (inl refl) is one, rest named)
    by false is named rest = rest named

read_name_is_read : (name uname : List ℕ) (asked o : Options) → IsName uname → PacketSpells (Rrq name asked) (packet_bytes (Rrq uname o)) → name ≡ uname
read_name_is_read name uname asked o named spells =
    let same : number_bytes 2 1 ++ (ended_text uname ++ _) ≡ number_bytes 2 1 ++ (ended_text name ++ _) = spells.parts in
    let rest = append_cancel_left (number_bytes 2 1) _ _ same in
    sym (before_zero_same uname name _ _ named.good spells.is_name.good (sym (append_assoc uname (0 ∷ []) _) ∙ rest ∙ append_assoc name (0 ∷ []) _))

-- the file that the loader gave
given_file : (media : Media) (role urole : Role) (file arrived : List ℕ) → LengthsAreTold media → IsName (name_of role) → is_reading role ≡ true → is_asking urole ≡ false → file_sent urole ≡ Some file → IsLoaderRole media urole
    → packet_in (packet_bytes (first_packet role)) ≡ request_taken urole → IsBytes (packet_bytes (first_packet role)) → (TellsLength urole → arrived ≡ file) → media.file (name_of role) ≡ Some arrived
given_file media (Reads name o) (ServesRead uname uo f) file arrived told named reads serves sent held request fit whole =
    let spells : PacketSpells (Rrq uname uo) (packet_bytes (Rrq name o)) = read_is_spelled (packet_bytes (Rrq name o)) (Rrq uname uo) fit request in
    let same : uname ≡ name = read_name_is_read uname name uo o named spells in
    let bytes : f ≡ file = cc in
    ap (λ (n : List ℕ). media.file n) (sym same) ∙ held ∙ ap (λ (x : List ℕ). Some x) (bytes ∙ sym (whole (told uname f held)))
given_file media (Reads name o) (ServesWrite uname uo) file arrived told named reads serves sent held request fit whole = absurd cc
given_file media (Reads name o) (Reads uname uo) file arrived told named reads serves sent held request fit whole = absurd cc
given_file media (Reads name o) (Writes uname uo f) file arrived told named reads serves sent held request fit whole = absurd cc
given_file media (Writes name o f) urole file arrived told named reads serves sent held request fit whole = absurd cc
given_file media (ServesRead name o f) urole file arrived told named reads serves sent held request fit whole = absurd cc
given_file media (ServesWrite name o) urole file arrived told named reads serves sent held request fit whole = absurd cc

reading_asks : (role : Role) → is_reading role ≡ true → (is_receiving role ≡ true) × (is_asking role ≡ true)
reading_asks (Reads name o) e = (refl, refl)
reading_asks (Writes name o f) e = absurd cc
reading_asks (ServesRead name o f) e = absurd cc
reading_asks (ServesWrite name o) e = absurd cc

module _ (set : Setting) (s : Step) (earlier : List Step) (told : LengthsAreTold set.media) (sent : ArrivesAsSent set s earlier) where
  loader_role : (u : Transfer) → Among u (loader_transfers set (s ∷ earlier)) → IsLoaderRole set.media u.role
  loader_role u a = ⊎_elim (λ (b : Among u (past_with (loader_at set (s ∷ earlier)).end.live (loader_at set (s ∷ earlier)).end.past)).
      all_at (λ (t : Transfer). IsLoaderRole set.media t.role) _ u (loader_gives_media set (s ∷ earlier)) b) (λ (b : Among u []). absurd b) (among_either u _ [] a)

  read_of_media : (t : Transfer) → Among t (target_transfers set s earlier) → is_reading t.role ≡ true → is_received (end_in t) ≡ true → IsName (name_of t.role) → IsOfMedia set.media (file_read t)
  read_of_media t a reads whole named = by (sent.at_target t a (reading_asks t.role reads).0)
    where
      by : ComesFromEnd (loader_transfers set (s ∷ earlier)) t → IsOfMedia set.media (file_read t)
      by (of_none none not) = absurd (false_is_true (sym not ∙ whole))
      by (of_end u b brings) = ⊎_elim
          (λ (request : AnswersRequest t u). absurd (false_is_true (sym request.serves ∙ (reading_asks t.role reads).1)))
          (λ (request : AnswersRequest u t). given_file set.media t.role u.role brings.file (arrived_of t) told named reads request.serves brings.sent (loader_role u b) request.request request.are_bytes (λ tells. brings.whole tells whole))
          brings.ends.request

  installed_of_media : (r : TargetReading) (e : Event) → target_at set earlier ≡ Is_up r → event_for sides.Target (posted_in earlier) s.given ≡ Some e → (new : IsNewAt set.accepts r (target_extended set.accepts r e)) → InstallsWhatWasRead set.accepts r (target_extended set.accepts r e) new
      → AreOfMedia set.media new.loads
  installed_of_media r e up comes new read =
      let done : List Transfer = new.session.done ++ new.ended ∷ [] in
      let checked : AllByRecursion (IsChecked r.active.identity) new.loads = good_are_checked (λ h kept. set.accepts h kept ≡ true) r.active.identity (entries_of r.active.loads) [] new.loads new.new.good in
      let named : AllByRecursion HasName (files_in new.loads) = loads_named r.active.identity new.upload.request new.loads read.named new.new.each checked in
      subst (λ (files : List FileView). AllByRecursion (IsOfMedia set.media) files) (sym new.new.files)
      (all_reads set.media done (λ t a reads named_one. read_of_media t (there t (read.past t a)) reads (read.whole t a reads) named_one)
      (subst (λ (files : List FileView). AllByRecursion HasName files) new.new.files named))
    where
      with_live : (live : Option Transfer) (past : List Transfer) (t : Transfer) → Among t past → Among t (past_with live past)
      with_live None past t a = a
      with_live (Some x) past t a = inr a

      there : (t : Transfer) → Among t (target_extended set.accepts r e).end.past → Among t (target_transfers set s earlier)
      there t a =
          subst (λ (x : Option Event). Among t (transfers_of (reached set x (target_at set earlier)) ++ former_at set earlier)) (sym comes)
          (subst (λ (state : TargetStanding). Among t (transfers_of (reached set (Some e) state) ++ former_at set earlier)) (sym up)
          (among_left t (past_with (target_extended set.accepts r e).end.live (target_extended set.accepts r e).end.past) (former_at set earlier) (with_live (target_extended set.accepts r e).end.live (target_extended set.accepts r e).end.past t a)))

-- ---- what the target read, at each moment

abbrev TargetReads : TargetStanding → Type 0
TargetReads (Is_up r) = SessionReads r
TargetReads (Is_down active interrupted) = Unit {0}

gone_reads : (set : Setting) (before after : TargetStanding) → TargetReads (gone_down before after)
gone_reads set (Is_up r) (Is_up s) = tt
gone_reads set (Is_up r) (Is_down active interrupted) = tt
gone_reads set (Is_down active interrupted) after = tt

come_reads : (set : Setting) (first_port sequence : ℕ) (state : TargetStanding) → TargetReads state → TargetReads (come_up first_port sequence state)
come_reads set first_port sequence (Is_up r) h = h
come_reads set first_port sequence (Is_down active interrupted) h = tt

noted_reads : (set : Setting) (notes : List Note) (before after : TargetStanding) → TargetReads after → TargetReads (noted notes before after)
noted_reads set [] before after h = h
noted_reads set (Went_down ∷ notes) before after h = noted_reads set notes (gone_down before after) (gone_down before after) (gone_reads set before after)
noted_reads set (Came_up first_port sequence ∷ notes) before after h =
    let up = come_up first_port sequence (gone_down before after) in noted_reads set notes up up (come_reads set first_port sequence (gone_down before after) (gone_reads set before after))
noted_reads set (Boot_refused fault ∷ notes) before after h = noted_reads set notes (gone_down before after) (gone_down before after) (gone_reads set before after)

-- what one event makes of it
abbrev NewIsRead : Setting → TargetStanding → Option Event → Type 0
NewIsRead set (Is_up r) (Some e) = (new : IsNewAt set.accepts r (target_extended set.accepts r e)) → InstallsWhatWasRead set.accepts r (target_extended set.accepts r e) new
NewIsRead set state e = Unit {0}

module _ (joins : SumsJoin) (spells : HeadersAreSpelled) (payloads : PayloadsAreBytes) (requests : RequestsAreSpelled) (set : Setting) (permits : AcceptsPermitted set.accepts) where
  reached_reads : (life then : Life) (state : TargetStanding) (e : Option Event) → LifeTakesWhatCame life state → HasLive state → TargetIsSound set (life_reached e life) (reached set e state) → TargetReads state
      → TargetReads (reached set e state) × NewIsRead set state e
  reached_reads (Up first_port log) then (Is_up r) None takes live sound h = (h, tt)
  reached_reads (Up first_port log) then (Is_up r) (Some e) (packets, blocks, last) live (fit, sound) h = target_step_reads requests set.accepts joins payloads log r e fit packets live h
  reached_reads (Up first_port log) then (Is_down active interrupted) e takes live sound h = absurd takes
  reached_reads Down then (Is_up r) e takes live sound h = absurd takes
  reached_reads Down then (Is_down active interrupted) None takes live sound h = (tt, tt)
  reached_reads Down then (Is_down active interrupted) (Some e) takes live sound h = (tt, tt)

  step_reads : (s : Step) (earlier : List Step) → AllCarryBytes (s ∷ earlier) → TargetReads (target_at set earlier)
      → TargetReads (reached set (event_for sides.Target (posted_in earlier) s.given) (target_at set earlier)) × NewIsRead set (target_at set earlier) (event_for sides.Target (posted_in earlier) s.given)
  step_reads s earlier all h =
      reached_reads (target_life earlier) (target_life earlier) (target_at set earlier) (event_for sides.Target (posted_in earlier) s.given) (target_takes set earlier) (target_is_live joins set earlier)
      (step_sound joins spells payloads set permits s earlier all (target_sound joins spells payloads set permits earlier all.1)).0 h

  target_reads : (steps : List Step) → AllCarryBytes steps → TargetReads (target_at set steps)
  target_reads [] all = tt
  target_reads (s ∷ earlier) all = noted_reads set s.notes (target_at set earlier) _ (step_reads s earlier all (target_reads earlier all.1)).0

-- ---- what is brought

brought_if : (set : Setting) (steps : List Step) (b : Bool) (state : TargetStanding) (after : StandingView) → IsMadeOf state (AreOfMedia set.media) after → BroughtIsOfMedia set state (cond b None (Some after)) steps
brought_if set steps true state after media = tt
brought_if set steps false state after media = λ nothing. media

none_brought : (set : Setting) (steps : List Step) (state : TargetStanding) (before after : StandingView) → after ≡ before → BroughtIsOfMedia set state (changed before after) steps
none_brought set steps state before after same =
    subst (λ (b : Bool). BroughtIsOfMedia set state (cond b None (Some after)) steps) (sym (eq-eqb before.sequence after.sequence (sym (ap (λ (x : StandingView). x.sequence) same)))) tt

module _ (set : Setting) (s : Step) (earlier : List Step) (told : LengthsAreTold set.media) (sent : ArrivesAsSent set s earlier) where
  step_brings : (state : TargetStanding) (e : Option Event) → target_at set earlier ≡ state → event_for sides.Target (posted_in earlier) s.given ≡ e → TargetStaysOrIsNew set state (reached set e state) → NewIsRead set state e
      → BroughtIsOfMedia set state (changed (active_in state) (active_in (reached set e state))) (s ∷ earlier)
  step_brings (Is_up r) None up comes change read = none_brought set (s ∷ earlier) (Is_up r) r.active r.active refl
  step_brings (Is_up r) (Some e) up comes (inl same) read = none_brought set (s ∷ earlier) (Is_up r) r.active (target_extended set.accepts r e).active same
  step_brings (Is_up r) (Some e) up comes (inr new) read =
      brought_if set (s ∷ earlier) (r.active.sequence == (target_extended set.accepts r e).active.sequence) (Is_up r) (target_extended set.accepts r e).active
      (new_is_made set.accepts r (target_extended set.accepts r e) new (AreOfMedia set.media) (installed_of_media set s earlier told sent r e up comes new (read new)))
  step_brings (Is_down active interrupted) None up comes change read = none_brought set (s ∷ earlier) (Is_down active interrupted) active active refl
  step_brings (Is_down active interrupted) (Some e) up comes change read = none_brought set (s ∷ earlier) (Is_down active interrupted) active active refl

all_of_media : SumsJoin → HeadersAreSpelled → PayloadsAreBytes → RequestsAreSpelled → (set : Setting) → AcceptsPermitted set.accepts → LengthsAreTold set.media → (steps : List Step) → AllCarryBytes steps → AllStayOrAreNew set steps
    → AllArriveAsSent set steps → AllOfMedia set steps
all_of_media joins spells payloads requests set permits told [] bytes stay sent = tt
all_of_media joins spells payloads requests set permits told (s ∷ earlier) bytes (change, stay) (now, sent) = (
  step_brings set s earlier told now (target_at set earlier) (event_for sides.Target (posted_in earlier) s.given) refl refl change
      (step_reads joins spells payloads requests set permits s earlier bytes (target_reads joins spells payloads requests set permits earlier bytes.1)).1,
  all_of_media joins spells payloads requests set permits told earlier bytes.1 stay sent,
)

pub installs_are_of_media : SumsJoin → MovesStayFair → HeadersAreSpelled → PayloadsAreBytes → RequestsAreSpelled → InstallsAreOfMedia
installs_are_of_media joins moves spells payloads requests set steps permits told is =
    all_of_media joins spells payloads requests set permits told steps is.carries (changes_are_new joins spells payloads set steps permits is.carries) (what_arrives_was_sent joins moves set steps is)
