-- Proofs that what is installed was asked for.
use Rattle.std.proofs.Common.{suc, arith, ◌≡◌, ◌↔◌, ◌⊎◌, inl, inr, ⊎_elim, ℕ, ◌≤◌, Bool, true, false, cond, List, [], ◌∷◌, ◌++◌, length, map, Option, Some, None, Result, Ok, Err, refl, sym, ap, subst, ◌∙◌}
use Rattle.std.specs.Prelude.{bytes_eq, ◌==◌}
use Rattle.std.specs.List.{All, AllByRecursion, AllZip}
use Rattle.std.proofs.lemmas.Bool.{eq-eqb}
use Rattle.std.proofs.lemmas.List.Elements.{All-cons, All-nil}
use Rattle.std.proofs.lemmas.Slice.Eq.{bytes_eq-Decides}
use Rattle.field_grammar.specs.Answers.{answer}
use Rattle.field_grammar.proofs.ExactLemmas.{answer-spelled, spelled_at_start}
use Rattle.field_grammar.specs.Fields.{number_bytes}
use Rattle.field_grammar.specs.Grammar.{Spelled}
use Rattle.load_base.specs.Config.{LoadView}
use Rattle.load_protocol_files.specs.declared.fault.FileFault.{FileFault}
use Rattle.load_protocol_files.specs.declared.lur.Wanted.{Wanted}
use Rattle.load_protocol_files.specs.Files.{file_fields}
use Rattle.load_protocol_files.specs.Lur.{LurFits, LurSpells, LurView, WantedFits, lur}
use Rattle.load_protocol_files.specs.Laws.Lur.{lur_is_small}
use Rattle.load_protocol_files.specs.Pieces.{counted_fields}
use Rattle.disk_layout.specs.Holds.{StandingView}
use Rattle.exchange_trace.specs.declared.trace.Side.TheVariants as sides
use Rattle.exchange_trace.specs.Happenings.{Booted, DatagramView, Delivered, Ended, HappeningView, Info_started, Injected, Lost, Power_cut, Size_told, Ticked, Upload_started, is_same_side}
use Rattle.exchange_trace.specs.Logs.{Down, Event, Learns, Life, Starts_upload, Ticks, Up, event_for, gets, logged, loader_log, target_life}
use Rattle.exchange_trace.specs.Posts.{numbered, posted_in}
use Rattle.exchange_trace.specs.Steps.{Boot_refused, Came_up, Note, Step, Went_down}
use Rattle.accept_rules.specs.Permissions.{AcceptsPermitted}
use Rattle.transfer_end.specs.Moves.{past_with}
use Rattle.transfer_end.proofs.OtherEndLemmas.{all_at, among_either, among_left, among_right}
use Rattle.transfer_end.specs.OtherEnds.{Among, AnswersRequest, ComesFromEnd, MovesStayFair, TellsLength, file_sent, is_asking, of_end, of_none}
use Rattle.transfer_end.specs.Transfers.{Reads, Role, ServesRead, ServesWrite, Transfer, Writes, arrived_of}
use Rattle.session_rules.proofs.ArrivedRequestLemmas.{target_step_requests}
use Rattle.session_rules.proofs.BufferLemmas.{SumsJoin}
use Rattle.session_rules.specs.MediaFiles.{Media, entry_with, wanted_of, with_entry}
use Rattle.session_rules.specs.NewConfigs.{IsWanted}
use Rattle.session_rules.proofs.ReadFileLemmas.{RequestsAreSpelled}
use Rattle.session_rules.specs.Reports.{lur_file}
use Rattle.session_rules.proofs.RequestLemmas.{loader_writes_requests}
use Rattle.session_rules.specs.Requests.{AreStarted, InstallsRequest, RequestArrived, SessionHasRequest, WritesRequest}
use Rattle.session_rules.proofs.SoundLogLemmas.{PayloadsAreBytes}
use Rattle.session_rules.specs.SoundLogs.{IsNewAt}
use Rattle.session_rules.proofs.SoundnessLemmas.{HeadersAreSpelled}
use Rattle.session_rules.specs.TargetLog.{TargetReading, target_extended}
use Rattle.replay_rules.specs.AskedTraces.{AllBroughtAreAsked, BroughtIsAsked, EntriesFit, InstallsAreAsked, IsAskedFor}
use Rattle.replay_rules.specs.BothEnds.{Is_down, Is_up, Setting, TargetStanding, changed, come_up, gone_down, loader_at, noted, reached, target_at}
use Rattle.replay_rules.proofs.CameTraceLemmas.{target_takes}
use Rattle.replay_rules.specs.CameTraces.{LifeTakesWhatCame}
use Rattle.replay_rules.proofs.ChangeLemmas.{TargetIsSound, changes_are_new, event_bytes, posted_bytes, target_sound, BringsBytes}
use Rattle.replay_rules.specs.Changes.{AllCarryBytes, AllStayOrAreNew, TargetStaysOrIsNew}
use Rattle.replay_rules.proofs.CompletedRows.{new_is_made}
use Rattle.replay_rules.specs.Histories.{active_in, brings}
use Rattle.replay_rules.specs.Promises.{HavePartsAsked}
use Rattle.replay_rules.specs.OtherEndTraces.{AllArriveAsSent, ArrivesAsSent, former_at, loader_transfers, target_transfers, transfers_of}
use Rattle.replay_rules.proofs.TieLemmas.{HasLive, target_is_live}
use Rattle.replay_rules.proofs.ListedTraces.{false_is_true, only_loader}
use Rattle.replay_rules.proofs.SentTraces.{what_arrives_was_sent}

-- ---- requests that can be told

-- a spelled request is read (`protocol_file_laws` of load_protocol_files)
abbrev pub RequestsAreRead : Type 0
RequestsAreRead = (v : LurView) (bytes : List ℕ) → LurSpells v bytes → answer lur bytes ≡ Ok v

pub requests_are_read : ((bytes : List ℕ) (v : LurView) → Spelled lur bytes v ↔ LurSpells v bytes) → RequestsAreRead
requests_are_read spells v bytes is = answer-spelled lur bytes v (spelled_at_start lur bytes v ((spells bytes v).1 is))

fits_entry : (entries : List Wanted) (part : List ℕ) (entry : Wanted) → AllByRecursion (λ (w : Wanted). WantedFits w) entries → entry_with part entries ≡ Some entry → WantedFits entry × (entry.part ≡ part)
fits_entry [] part entry all e = absurd cc
fits_entry (w ∷ entries) part entry (one, all) e = by (bytes_eq w.part part) (λ h. fits_entry entries part entry all h) refl e
  where
    by : (b : Bool) → (entry_with part entries ≡ Some entry → WantedFits entry × (entry.part ≡ part)) → bytes_eq w.part part ≡ b → cond b (Some w) (entry_with part entries) ≡ Some entry → WantedFits entry × (entry.part ≡ part)
    by true rest is e = let same : w ≡ entry = cc in (subst WantedFits same one, subst (λ (x : Wanted). x.part ≡ part) same ((bytes_eq-Decides w.part part).0 is))
    by false rest is e = rest e

-- what is found fits, and has these parts
abbrev pub Found : List (List ℕ) → List Wanted → Type 0
Found parts loads = All (λ (w : Wanted). WantedFits w) loads × (map (λ (w : Wanted). w.part) loads ≡ parts) × (length loads ≡ length parts)

pub found_fits : (entries : List Wanted) (parts : List (List ℕ)) (loads : List Wanted) → AllByRecursion (λ (w : Wanted). WantedFits w) entries → wanted_of entries parts ≡ Ok loads → Found parts loads
found_fits entries [] loads all e = let same : [] ≡ loads = cc in subst (Found []) same (All-nil (λ (w : Wanted). WantedFits w), refl, refl)
found_fits entries (part ∷ parts) loads all e = by (entry_with part entries) (wanted_of entries parts) (λ others rest. found_fits entries parts others all rest) refl refl e
  where
    by : (entry : Option Wanted) (later : Result (List Wanted) (List ℕ)) → ((others : List Wanted) → wanted_of entries parts ≡ Ok others → Found parts others) → entry_with part entries ≡ entry → wanted_of entries parts ≡ later → with_entry part entry later ≡ Ok loads → Found (part ∷ parts) loads
    by None later each one rest e = absurd cc
    by (Some entry) (Err missing) each one rest e = absurd cc
    by (Some entry) (Ok others) each one rest e =
        let same : entry ∷ others ≡ loads = cc in
        let (fits, named) = fits_entry entries part entry all one in
        let (more, parts_are, count) = each others rest in
        subst (Found (part ∷ parts)) same
        (All-cons (λ (w : Wanted). WantedFits w) entry others fits more, ap (λ (p : List ℕ). p ∷ map (λ (w : Wanted). w.part) others) named ∙ ap (λ (ps : List (List ℕ)). part ∷ ps) parts_are, ap (λ (n : ℕ). suc n) count)

request_spells : (loads : List Wanted) → LurFits (record { loads = loads }) → LurSpells (record { loads = loads }) (lur_file loads)
unfolding lur_file file_fields number_bytes counted_fields
request_spells loads fits = (fits, record { small = lur_is_small (record { loads = loads }) fits; written = refl })

pub started_spells : (media : Media) (parts : List (List ℕ)) (loads : List Wanted) → EntriesFit media → length parts ≤ 32 → wanted_of media.loads parts ≡ Ok loads → LurSpells (record { loads = loads }) (lur_file loads)
started_spells media parts loads entries few found =
    let (fits, named, count) = found_fits media.loads parts loads entries found in request_spells loads (record { count = omega (arith, few, count); loads = fits })

pub one_request : RequestsAreRead → (a b : List Wanted) (bytes : List ℕ) → LurSpells (record { loads = a }) bytes → LurSpells (record { loads = b }) bytes → a ≡ b
one_request reads a b bytes one two =
    let same : Ok (record { loads = a }) ≡ Ok (record { loads = b }) = sym (reads (record { loads = a }) bytes one) ∙ reads (record { loads = b }) bytes two in
    ap (λ (v : LurView). v.loads) (ok_is (record { loads = a }) (record { loads = b }) same)
  where
    ok_is : (v w : LurView) → (◌≡◌ {A = Result LurView FileFault} (Ok v) (Ok w)) → v ≡ w
    ok_is v w e = cc

pub parts_of : (request : List Wanted) (loads : List LoadView) → AllZip IsWanted request loads → map (λ (load : LoadView). load.part) loads ≡ map (λ (w : Wanted). w.part) request
parts_of [] [] each = refl
parts_of [] (load ∷ loads) each = absurd each
parts_of (w ∷ request) [] each = absurd each
parts_of (w ∷ request) (load ∷ loads) (one, each) = ap (λ (p : List ℕ). p ∷ map (λ (l : LoadView). l.part) loads) one.part ∙ ap (λ (ps : List (List ℕ)). w.part ∷ ps) (parts_of request loads each)

-- ---- starts

gets_starts_not : (d : Option DatagramView) (hw pos : List ℕ) (parts : List (List ℕ)) → gets d ≡ Some (Starts_upload hw pos parts) → ⊥
gets_starts_not None hw pos parts e = cc
gets_starts_not (Some d) hw pos parts e = cc

pub given_starts : (posted : List DatagramView) (h : HappeningView) (hw pos : List ℕ) (parts : List (List ℕ)) → event_for sides.Loader posted h ≡ Some (Starts_upload hw pos parts) → h ≡ Upload_started hw pos parts
given_starts posted (Upload_started one two all) hw pos parts e = let same : Starts_upload one two all ≡ Starts_upload hw pos parts = cc in cc
given_starts posted (Delivered to n) hw pos parts e = absurd (by (is_same_side sides.Loader to) e)
  where
    by : (b : Bool) → cond b (gets (numbered posted n)) None ≡ Some (Starts_upload hw pos parts) → ⊥
    by true e = gets_starts_not (numbered posted n) hw pos parts e
    by false e = cc
given_starts posted (Injected d) hw pos parts e = absurd (by (is_same_side sides.Loader d.side) e)
  where
    by : (b : Bool) → cond b None (gets (Some d)) ≡ Some (Starts_upload hw pos parts) → ⊥
    by true e = cc
    by false e = cc
given_starts posted (Ticked whose) hw pos parts e = absurd (by (is_same_side sides.Loader whose) e)
  where
    by : (b : Bool) → cond b (Some Ticks) None ≡ Some (Starts_upload hw pos parts) → ⊥
    by true e = cc
    by false e = cc
given_starts posted (Size_told size) hw pos parts e = absurd cc
given_starts posted (Info_started one two) hw pos parts e = absurd cc
given_starts posted (Lost n) hw pos parts e = absurd cc
given_starts posted (Power_cut calls pick) hw pos parts e = absurd cc
given_starts posted Booted hw pos parts e = absurd cc
given_starts posted Ended hw pos parts e = absurd cc

-- a start in the loader's log is a step
abbrev HasStart : List Step → (hw pos : List ℕ) → List (List ℕ) → Type 0
HasStart steps hw pos parts = (between : List Step) × (start : Step) × (before : List Step) × (steps ≡ between ++ start ∷ before) × (start.given ≡ Upload_started hw pos parts)

start_step : (steps : List Step) (hw pos : List ℕ) (parts : List (List ℕ)) → Among (Starts_upload hw pos parts) (loader_log steps) → HasStart steps hw pos parts
start_step [] hw pos parts a = absurd a
start_step (s ∷ earlier) hw pos parts a = by (event_for sides.Loader (posted_in earlier) s.given) (λ b. later (start_step earlier hw pos parts b)) refl a
  where
    later : HasStart earlier hw pos parts → HasStart (s ∷ earlier) hw pos parts
    later (between, start, before, split, starts) = (s ∷ between, start, before, ap (λ (x : List Step). s ∷ x) split, starts)

    by : (e : Option Event) → (Among (Starts_upload hw pos parts) (loader_log earlier) → HasStart (s ∷ earlier) hw pos parts) → event_for sides.Loader (posted_in earlier) s.given ≡ e → Among (Starts_upload hw pos parts) (logged e (loader_log earlier)) → HasStart (s ∷ earlier) hw pos parts
    by None rest comes a = rest a
    by (Some e) rest comes (inl same) = ([], s, earlier, refl, given_starts (posted_in earlier) s.given hw pos parts (comes ∙ ap (λ (x : Event). Some x) same))
    by (Some e) rest comes (inr a) = rest a

-- ---- what the target was asked for

module _ (reads : RequestsAreRead) (set : Setting) (s : Step) (earlier : List Step) (entries : EntriesFit set.media) (sent : ArrivesAsSent set s earlier) where
  -- what reaches the target in a step is no start
  before_now : (e : Event) (hw pos : List ℕ) (parts : List (List ℕ)) → event_for sides.Target (posted_in earlier) s.given ≡ Some e → Among (Starts_upload hw pos parts) (loader_log (s ∷ earlier)) → Among (Starts_upload hw pos parts) (loader_log earlier)
  before_now e hw pos parts comes a = by (event_for sides.Loader (posted_in earlier) s.given) refl a
    where
      no_start : (x : Event) → x ≡ Starts_upload hw pos parts → (event_for sides.Target (posted_in earlier) s.given ≡ None) ⊎ ((size : Option ℕ) × (x ≡ Learns size)) → ⊥
      no_start x is (inl none) = let wrong : Some e ≡ None = sym comes ∙ none in cc
      no_start x is (inr (size, learns)) = let wrong : Starts_upload hw pos parts ≡ Learns size = sym is ∙ learns in cc

      by : (x : Option Event) → event_for sides.Loader (posted_in earlier) s.given ≡ x → Among (Starts_upload hw pos parts) (logged x (loader_log earlier)) → Among (Starts_upload hw pos parts) (loader_log earlier)
      by None is a = a
      by (Some x) is (inl same) = absurd (no_start x same (only_loader (posted_in earlier) s.given x is))
      by (Some x) is (inr a) = a

  loader_writes : (u : Transfer) → Among u (loader_transfers set (s ∷ earlier)) → WritesRequest set.media (loader_log (s ∷ earlier)) u.role
  loader_writes u a = ⊎_elim (λ (b : Among u (past_with (loader_at set (s ∷ earlier)).end.live (loader_at set (s ∷ earlier)).end.past)).
      all_at (λ (t : Transfer). WritesRequest set.media (loader_log (s ∷ earlier)) t.role) _ u (loader_writes_requests set.media (loader_log (s ∷ earlier))) b) (λ (b : Among u []). absurd b) (among_either u _ [] a)

  -- the request that arrived is one that the loader wrote
  asked_by : (request : List Wanted) (arrived file : List ℕ) (role : Role) → LurSpells (record { loads = request }) arrived → is_asking role ≡ true → file_sent role ≡ Some file → (TellsLength role → arrived ≡ file) → WritesRequest set.media (loader_log (s ∷ earlier)) role
      → AreStarted set.media (loader_log (s ∷ earlier)) request
  asked_by request arrived file (Writes name o f) spells asks sends whole (loads, started, is) =
      let same : f ≡ file = cc in
      let bytes : arrived ≡ lur_file loads = whole tt ∙ sym same ∙ is in
      let one : loads ≡ request =
      one_request reads loads request (lur_file loads) (started_spells set.media started.parts loads entries started.few started.found) (subst (λ (x : List ℕ). LurSpells (record { loads = request }) x) bytes spells) in
      subst (λ (x : List Wanted). AreStarted set.media (loader_log (s ∷ earlier)) x) one started
  asked_by request arrived file (Reads name o) spells asks sends whole h = absurd cc
  asked_by request arrived file (ServesRead name o f) spells asks sends whole h = absurd cc
  asked_by request arrived file (ServesWrite name o) spells asks sends whole h = absurd cc

  request_started : (request : List Wanted) (end : _) → (h : RequestArrived end request) → Among h.transfer (target_transfers set s earlier) → AreStarted set.media (loader_log (s ∷ earlier)) request
  request_started request end h a = by (sent.at_target h.transfer a h.receives)
    where
      by : ComesFromEnd (loader_transfers set (s ∷ earlier)) h.transfer → AreStarted set.media (loader_log (s ∷ earlier)) request
      by (of_none none not) = absurd (false_is_true (sym not ∙ h.received))
      by (of_end u b brings) = ⊎_elim
          (λ (request_is : AnswersRequest h.transfer u). asked_by request (arrived_of h.transfer) brings.file u.role h.spells request_is.asks brings.sent (λ tells. brings.whole tells h.received) (loader_writes u b))
          (λ (request_is : AnswersRequest u h.transfer). absurd (false_is_true (sym h.serves ∙ request_is.asks)))
          brings.ends.request

  -- what a good verdict makes was asked for by a start before
  new_is_asked : (r : TargetReading) (e : Event) → target_at set earlier ≡ Is_up r → event_for sides.Target (posted_in earlier) s.given ≡ Some e → (new : IsNewAt set.accepts r (target_extended set.accepts r e)) → RequestArrived (target_extended set.accepts r e).end new.upload.request
      → IsAskedFor earlier (Is_up r) (target_extended set.accepts r e).active
  new_is_asked r e up comes new h =
      let started : AreStarted set.media (loader_log (s ∷ earlier)) new.upload.request = request_started new.upload.request (target_extended set.accepts r e).end h (there h.transfer (subst (λ (ts : List Transfer). Among h.transfer ts) (sym h.past) (among_right h.transfer h.since (h.transfer ∷ h.before) (inl refl)))) in
      let (between, start, before, split, starts) = start_step earlier started.hw started.pos started.parts (before_now e started.hw started.pos started.parts comes started.among) in
      let (fits, parts, count) = found_fits set.media.loads started.parts new.upload.request entries started.found in
      record {
        between = between;
        start = start;
        before = before;
        hw = started.hw;
        pos = started.pos;
        parts = started.parts;
        split = split;
        starts = starts;
        asked = new_is_made set.accepts r (target_extended set.accepts r e) new (HavePartsAsked started.parts) (parts_of new.upload.request new.loads new.new.each ∙ parts);
      }
    where
      with_live : (live : Option Transfer) (past : List Transfer) (t : Transfer) → Among t past → Among t (past_with live past)
      with_live None past t a = a
      with_live (Some x) past t a = inr a

      there : (t : Transfer) → Among t (target_extended set.accepts r e).end.past → Among t (target_transfers set s earlier)
      there t a =
          subst (λ (x : Option Event). Among t (transfers_of (reached set x (target_at set earlier)) ++ former_at set earlier)) (sym comes)
          (subst (λ (state : TargetStanding). Among t (transfers_of (reached set (Some e) state) ++ former_at set earlier)) (sym up)
          (among_left t (past_with (target_extended set.accepts r e).end.live (target_extended set.accepts r e).end.past) (former_at set earlier) (with_live (target_extended set.accepts r e).end.live (target_extended set.accepts r e).end.past t a)))

-- ---- what the target was asked for, at each moment

abbrev pub TargetHas : TargetStanding → Type 0
TargetHas (Is_up r) = SessionHasRequest r
TargetHas (Is_down active interrupted) = Unit {0}

gone_has : (set : Setting) (before after : TargetStanding) → TargetHas (gone_down before after)
gone_has set (Is_up r) (Is_up s) = tt
gone_has set (Is_up r) (Is_down active interrupted) = tt
gone_has set (Is_down active interrupted) after = tt

come_has : (set : Setting) (first_port sequence : ℕ) (state : TargetStanding) → TargetHas state → TargetHas (come_up first_port sequence state)
come_has set first_port sequence (Is_up r) h = h
come_has set first_port sequence (Is_down active interrupted) h = tt

noted_has : (set : Setting) (notes : List Note) (before after : TargetStanding) → TargetHas after → TargetHas (noted notes before after)
noted_has set [] before after h = h
noted_has set (Went_down ∷ notes) before after h = noted_has set notes (gone_down before after) (gone_down before after) (gone_has set before after)
noted_has set (Came_up first_port sequence ∷ notes) before after h =
    let up = come_up first_port sequence (gone_down before after) in noted_has set notes up up (come_has set first_port sequence (gone_down before after) (gone_has set before after))
noted_has set (Boot_refused fault ∷ notes) before after h = noted_has set notes (gone_down before after) (gone_down before after) (gone_has set before after)

abbrev pub NewHas : Setting → TargetStanding → Option Event → Type 0
NewHas set (Is_up r) (Some e) = InstallsRequest set.accepts r (target_extended set.accepts r e)
NewHas set state e = Unit {0}

module _ (joins : SumsJoin) (spells : HeadersAreSpelled) (payloads : PayloadsAreBytes) (requests : RequestsAreSpelled) (set : Setting) (permits : AcceptsPermitted set.accepts) where
  reached_has : (life : Life) (state : TargetStanding) (e : Option Event) → BringsBytes e → LifeTakesWhatCame life state → HasLive state → TargetIsSound set life state → TargetHas state → TargetHas (reached set e state) × NewHas set state e
  reached_has (Up first_port log) (Is_up r) None now takes live sound h = (h, tt)
  reached_has (Up first_port log) (Is_up r) (Some e) now (packets, blocks, last) live (fit, sound) h = target_step_requests requests set.accepts joins payloads log r e (now, fit) packets live sound h
  reached_has (Up first_port log) (Is_down active interrupted) e now takes live sound h = absurd takes
  reached_has Down (Is_up r) e now takes live sound h = absurd takes
  reached_has Down (Is_down active interrupted) None now takes live sound h = (tt, tt)
  reached_has Down (Is_down active interrupted) (Some e) now takes live sound h = (tt, tt)

  pub step_has : (s : Step) (earlier : List Step) → AllCarryBytes (s ∷ earlier) → TargetHas (target_at set earlier)
      → TargetHas (reached set (event_for sides.Target (posted_in earlier) s.given) (target_at set earlier)) × NewHas set (target_at set earlier) (event_for sides.Target (posted_in earlier) s.given)
  step_has s earlier ((posts, given), all) h =
      reached_has (target_life earlier) (target_at set earlier) (event_for sides.Target (posted_in earlier) s.given) (event_bytes (posted_in earlier) s.given (posted_bytes earlier all) given) (target_takes set earlier) (target_is_live joins set earlier)
      (target_sound joins spells payloads set permits earlier all) h

  pub target_has : (steps : List Step) → AllCarryBytes steps → TargetHas (target_at set steps)
  target_has [] all = tt
  target_has (s ∷ earlier) (now, all) = noted_has set s.notes (target_at set earlier) _ (step_has s earlier (now, all) (target_has earlier all)).0

-- ---- what is brought

brought_if : (steps : List Step) (b : Bool) (state : TargetStanding) (after : StandingView) → IsAskedFor steps state after → BroughtIsAsked state (cond b None (Some after)) steps
brought_if steps true state after asked = tt
brought_if steps false state after asked = asked

none_brought : (steps : List Step) (state : TargetStanding) (before after : StandingView) → after ≡ before → BroughtIsAsked state (changed before after) steps
none_brought steps state before after same =
    subst (λ (b : Bool). BroughtIsAsked state (cond b None (Some after)) steps) (sym (eq-eqb before.sequence after.sequence (sym (ap (λ (x : StandingView). x.sequence) same)))) tt

module _ (reads : RequestsAreRead) (set : Setting) (s : Step) (earlier : List Step) (entries : EntriesFit set.media) (sent : ArrivesAsSent set s earlier) where
  step_asked : (state : TargetStanding) (e : Option Event) → target_at set earlier ≡ state → event_for sides.Target (posted_in earlier) s.given ≡ e → TargetStaysOrIsNew set state (reached set e state) → NewHas set state e
      → BroughtIsAsked state (changed (active_in state) (active_in (reached set e state))) earlier
  step_asked (Is_up r) None up comes change has = none_brought earlier (Is_up r) r.active r.active refl
  step_asked (Is_up r) (Some e) up comes (inl same) has = none_brought earlier (Is_up r) r.active (target_extended set.accepts r e).active same
  step_asked (Is_up r) (Some e) up comes (inr new) has =
      brought_if earlier (r.active.sequence == (target_extended set.accepts r e).active.sequence) (Is_up r) (target_extended set.accepts r e).active
      (new_is_asked reads set s earlier entries sent r e up comes new (has new))
  step_asked (Is_down active interrupted) None up comes change has = none_brought earlier (Is_down active interrupted) active active refl
  step_asked (Is_down active interrupted) (Some e) up comes change has = none_brought earlier (Is_down active interrupted) active active refl

all_asked : SumsJoin → HeadersAreSpelled → PayloadsAreBytes → RequestsAreSpelled → RequestsAreRead → (set : Setting) → AcceptsPermitted set.accepts → EntriesFit set.media → (steps : List Step) → AllCarryBytes steps → AllStayOrAreNew set steps
    → AllArriveAsSent set steps → AllBroughtAreAsked set steps
all_asked joins spells payloads requests reads set permits entries [] bytes stay sent = tt
all_asked joins spells payloads requests reads set permits entries (s ∷ earlier) bytes (change, stay) (now, sent) = (
  step_asked reads set s earlier entries now (target_at set earlier) (event_for sides.Target (posted_in earlier) s.given) refl refl change
      (step_has joins spells payloads requests set permits s earlier bytes (target_has joins spells payloads requests set permits earlier bytes.1)).1,
  all_asked joins spells payloads requests reads set permits entries earlier bytes.1 stay sent,
)

pub installs_are_asked : SumsJoin → MovesStayFair → HeadersAreSpelled → PayloadsAreBytes → RequestsAreSpelled → RequestsAreRead → InstallsAreAsked
installs_are_asked joins moves spells payloads requests reads set steps permits entries is =
    all_asked joins spells payloads requests reads set permits entries steps is.carries (changes_are_new joins spells payloads set steps permits is.carries) (what_arrives_was_sent joins moves set steps is)
