-- Proofs that uploads are completed only after a step that installed.
use Rattle.std.proofs.Common.{◌≡◌, inl, inr, ℕ, Bool, true, false, cond, List, [], ◌∷◌, ◌++◌, ◌⊎◌, ◌↔◌, Option, Some, None, Ok, refl, sym, ap, subst, ◌∙◌, arith}
use Rattle.std.specs.Prelude.{◌==◌, ◌+◌}
use Rattle.std.specs.List.{AllByRecursion}
use Rattle.std.proofs.lemmas.Bool.{eqb-true}
use Rattle.field_grammar.specs.Answers.{answer}
use Rattle.field_grammar.specs.Grammar.{IsBytes, IsDecided, Spelled}
use Rattle.load_protocol_files.specs.Lus.{LusSpells, LusView, lus}
use Rattle.disk_layout.specs.Holds.{StandingView}
use Rattle.exchange_trace.specs.declared.trace.Side.TheVariants as sides
use Rattle.exchange_trace.specs.Happenings.{Booted, DatagramView, Delivered, Ended, HappeningView, Info_started, Injected, Lost, Power_cut, Size_told, Ticked, Upload_started, is_same_side}
use Rattle.exchange_trace.specs.Logs.{Event, Learns, event_for, gets, logged, loader_log}
use Rattle.exchange_trace.specs.Posts.{numbered, posted_in}
use Rattle.exchange_trace.specs.Steps.{Step}
use Rattle.transfer_end.proofs.OtherEndLemmas.{among_left}
use Rattle.transfer_end.specs.OtherEnds.{Among, ComesFromEnd, MoveHasRole, MovesStayFair, TellsLength, all_of, file_sent, of_end, of_none}
use Rattle.transfer_end.specs.Transfers.{Reads, Role, ServesRead, ServesWrite, Transfer, Writes, arrived_of}
use Rattle.session_rules.specs.declared.outcome.Outcome.TheVariants.{Completed}
use Rattle.session_rules.specs.declared.outcome.SessionKind.TheVariants.{Upload}
use Rattle.session_rules.proofs.BufferLemmas.{SumsJoin}
use Rattle.session_rules.proofs.CompletionLemmas.{completed_upload_arrived, target_tells_installed}
use Rattle.session_rules.specs.Completions.{CompletionArrived, InstallsNow, SaysCompleted, TellsInstalled}
use Rattle.session_rules.proofs.HeardLemmas.{loader_takes_what_came}
use Rattle.session_rules.specs.Loader.{EndedSession}
use Rattle.session_rules.specs.LoaderLog.{loader_extended, loader_reading, newest}
use Rattle.session_rules.proofs.SoundLogLemmas.{PayloadsAreBytes, newest_bytes}
use Rattle.session_rules.specs.SoundLogs.{LogIsBytes}
use Rattle.session_rules.proofs.SoundnessLemmas.{read_is_spelled}
use Rattle.session_rules.specs.Target.{target_decision}
use Rattle.session_rules.specs.TargetLog.{TargetReading, standing_after, target_extended, target_view}
use Rattle.session_rules.proofs.LoaderRoleLemmas.{longer}
use Rattle.replay_rules.specs.BothEnds.{Is_up, Setting, TargetStanding, changed, loader_at, reached, target_at}
use Rattle.replay_rules.proofs.ChangeLemmas.{BringsBytes, bytes_if, got_bytes, numbered_bytes, posted_bytes}
use Rattle.replay_rules.specs.Changes.{AllCarryBytes, CarriesBytes, InjectsBytes}
use Rattle.replay_rules.specs.CompletedTraces.{AllBroughtWhereCompleted, CompletedWasBrought, IsToldInTime, TargetTellsInTime, WasBrought}
use Rattle.replay_rules.specs.Histories.{active_in, brings}
use Rattle.replay_rules.specs.OtherEndTraces.{AllArriveAsSent, ArrivesAsSent, former_at, loader_transfers, target_transfers, transfers_of}
use Rattle.replay_rules.proofs.TieLemmas.{HasLive, target_is_live}
use Rattle.replay_rules.proofs.EachBefore.{AllOver, NewOver, over_at, roles_mapped, trace_over}
use Rattle.replay_rules.proofs.ListedTraces.{among_past, false_is_true, only_loader, reached_none}
use Rattle.replay_rules.proofs.SentTraces.{what_arrives_was_sent}

-- ---- what the target tells

still_brought : (set : Setting) (s : Step) (steps : List Step) → WasBrought set steps → WasBrought set (s ∷ steps)
still_brought set s steps h =
    record { since = s ∷ h.since; install = h.install; before = h.before; new = h.new; split = ap (λ (x : List Step). s ∷ x) h.split; brought = h.brought; stays_up = h.stays_up }

still_told : (set : Setting) (s : Step) (steps : List Step) (role : Role) → IsToldInTime set steps role → IsToldInTime set (s ∷ steps) role
still_told set s steps (Writes name o file) told = λ says. still_brought set s steps (told says)
still_told set s steps (ServesRead name o file) told = told
still_told set s steps (Reads name o) told = tt
still_told set s steps (ServesWrite name o) told = tt

-- whatever was before it
abbrev ToldOver : Setting → List Step → Role → List Transfer → Type 0
ToldOver set steps role earlier = IsToldInTime set steps role

one_more : (n : ℕ) (b : Bool) → (n == n + 1) ≡ b → b ≡ false
one_more n true e = let same : n ≡ n + 1 = eqb-true n (n + 1) e in absurd (omega (arith, same))
one_more n false e = refl

pub changes : (before after : StandingView) (loads : List _) → after ≡ standing_after before loads → changed before after ≡ Some after
changes before after loads is =
    ap (λ (b : Bool). cond b None (Some after)) (ap (λ (x : StandingView). before.sequence == x.sequence) is ∙ one_more before.sequence (before.sequence == before.sequence + 1) refl)

module _ (joins : SumsJoin) (set : Setting) (given : HappeningView) (posts : List DatagramView) (earlier : List Step) where
  abbrev quiet_step : Step
  quiet_step = record { given = given; posts = posts; notes = [] }

  -- what is installed now is brought
  installs_now : (r : TargetReading) (e : Event) → target_at set earlier ≡ Is_up r → event_for sides.Target (posted_in earlier) given ≡ Some e → InstallsNow set.accepts r e → WasBrought set (quiet_step ∷ earlier)
  installs_now r e up comes now = record {
    since = [];
    install = quiet_step;
    before = earlier;
    new = (target_extended set.accepts r e).active;
    split = refl;
    brought = ap (λ (state : TargetStanding). changed (active_in state) (active_in (reached set (event_for sides.Target (posted_in earlier) given) state))) up
        ∙ ap (λ (x : Option Event). changed r.active (active_in (reached set x (Is_up r)))) comes ∙ changes r.active (target_extended set.accepts r e).active now.loads now.next;
    stays_up = refl;
  }

  told_role : (r : TargetReading) (e : Event) (role : Role) → target_at set earlier ≡ Is_up r → event_for sides.Target (posted_in earlier) given ≡ Some e → TellsInstalled set.accepts r e role → IsToldInTime set (quiet_step ∷ earlier) role
  told_role r e (Writes name o file) up comes tells = λ says. installs_now r e up comes (tells says)
  told_role r e (ServesRead name o file) up comes tells = tells
  told_role r e (Reads name o) up comes tells = tt
  told_role r e (ServesWrite name o) up comes tells = tt

module _ (joins : SumsJoin) (set : Setting) where
  abbrev Fact : List Step → Type 0
  Fact steps = Unit {0}

  begins : (given : HappeningView) (posts : List DatagramView) (steps : List Step) (r : TargetReading) (e : Event) → target_at set steps ≡ Is_up r → event_for sides.Target (posted_in steps) given ≡ Some e → Fact (record { given = given; posts = posts; notes = [] } ∷ steps)
      → AllByRecursion (MoveHasRole (NewOver (ToldOver set (record { given = given; posts = posts; notes = [] } ∷ steps)) (former_at set steps) (target_extended set.accepts r e).end)) (target_decision set.accepts (target_view r) e).moves
  begins given posts steps r e up comes fact =
      roles_mapped (TellsInstalled set.accepts r e) (NewOver (ToldOver set (record { given = given; posts = posts; notes = [] } ∷ steps)) (former_at set steps) (target_extended set.accepts r e).end)
      (λ role h t live. told_role joins set given posts steps r e role up comes h) _ (target_tells_installed joins set.accepts r e (subst (λ (state : TargetStanding). HasLive state) up (target_is_live joins set steps)))

  told_over : (steps : List Step) → AllOver (ToldOver set steps) (transfers_of (target_at set steps) ++ former_at set steps)
  told_over steps = trace_over set (ToldOver set) Fact (λ s before fact. tt) (λ s before role earlier. still_told set s before role) begins steps tt

pub target_tells_in_time : SumsJoin → TargetTellsInTime
target_tells_in_time joins set steps t a = (over_at (ToldOver set steps) (transfers_of (target_at set steps) ++ former_at set steps) t (told_over joins set steps) a).over

-- ---- what reaches the loader is bytes

loader_event_bytes : (posted : List DatagramView) (h : HappeningView) → AllByRecursion CarriesBytes posted → InjectsBytes h → BringsBytes (event_for sides.Loader posted h)
loader_event_bytes posted (Delivered to n) all given = bytes_if (is_same_side sides.Loader to) (gets (numbered posted n)) None (got_bytes (numbered posted n) (numbered_bytes posted n all)) tt
loader_event_bytes posted (Injected d) all given = bytes_if (is_same_side sides.Loader d.side) None (gets (Some d)) tt given
loader_event_bytes posted (Ticked whose) all given = bytes_if (is_same_side sides.Loader whose) (Some _) None tt tt
loader_event_bytes posted (Size_told size) all given = tt
loader_event_bytes posted (Info_started hw pos) all given = tt
loader_event_bytes posted (Upload_started hw pos parts) all given = tt
loader_event_bytes posted (Lost n) all given = tt
loader_event_bytes posted (Power_cut calls pick) all given = tt
loader_event_bytes posted Booted all given = tt
loader_event_bytes posted Ended all given = tt

logged_bytes : (e : Option Event) (log : List Event) → BringsBytes e → LogIsBytes log → LogIsBytes (logged e log)
logged_bytes None log now fit = fit
logged_bytes (Some e) log now fit = (now, fit)

pub loader_log_bytes : (steps : List Step) → AllCarryBytes steps → LogIsBytes (loader_log steps)
loader_log_bytes [] all = tt
loader_log_bytes (s ∷ earlier) ((posts, given), all) =
    logged_bytes (event_for sides.Loader (posted_in earlier) s.given) (loader_log earlier) (loader_event_bytes (posted_in earlier) s.given (posted_bytes earlier all) given) (loader_log_bytes earlier all)

-- ---- the step that completes a session

-- an LUS that is read is spelled (`protocol_file_laws` of load_protocol_files)
abbrev pub StatusesAreSpelled : Type 0
StatusesAreSpelled = (v : LusView) (bytes : List ℕ) → IsBytes bytes → answer lus bytes ≡ Ok v → LusSpells v bytes

pub statuses_are_spelled : ((bytes : List ℕ) → IsBytes bytes → IsDecided lus bytes) → ((bytes : List ℕ) (v : LusView) → Spelled lus bytes v ↔ LusSpells v bytes) → StatusesAreSpelled
statuses_are_spelled decided spells v bytes fit e = (spells bytes v).0 (read_is_spelled lus bytes v (decided bytes fit).one_or_other e)

-- the file that the target sent says so too
told_file : (set : Setting) (steps : List Step) (role : Role) (file : List ℕ) → file_sent role ≡ Some file → (TellsLength role → SaysCompleted file) → IsToldInTime set steps role → WasBrought set steps
told_file set steps (Writes name o f) file sent says told = let same : file ≡ f = cc in told (subst SaysCompleted same (says tt))
told_file set steps (ServesRead name o f) file sent says (size, told) = let same : file ≡ f = cc in absurd (told (subst SaysCompleted same (says size)))
told_file set steps (Reads name o) file sent says told = absurd cc
told_file set steps (ServesWrite name o) file sent says told = absurd cc

module _ (joins : SumsJoin) (payloads : PayloadsAreBytes) (spells : StatusesAreSpelled) (set : Setting) (s : Step) (earlier : List Step) (carries : AllCarryBytes (s ∷ earlier)) (sent : ArrivesAsSent set s earlier) (session : EndedSession) where
  -- the transfer that completed it
  by_transfer : (e : Event) → event_for sides.Target (posted_in earlier) s.given ≡ None → (h : CompletionArrived set.media (loader_at set earlier) e) → IsBytes (arrived_of h.ends.transfer) → Among h.ends.transfer (loader_transfers set (s ∷ earlier)) → WasBrought set (s ∷ earlier)
  by_transfer e alone h fit a = by (sent.at_loader h.ends.transfer a h.receives)
    where
      by : ComesFromEnd (target_transfers set s earlier) h.ends.transfer → WasBrought set (s ∷ earlier)
      by (of_none none not) = absurd (false_is_true (sym not ∙ h.received))
      by (of_end u b brings) =
          let same : reached set (event_for sides.Target (posted_in earlier) s.given) (target_at set earlier) ≡ target_at set earlier = ap (λ (x : Option Event). reached set x (target_at set earlier)) alone ∙ reached_none set (target_at set earlier) in
          let there : Among u (transfers_of (target_at set earlier) ++ former_at set earlier) = subst (λ (state : TargetStanding). Among u (transfers_of state ++ former_at set earlier)) same b in
          let (v, read, is) = h.says in
          let said : SaysCompleted (arrived_of h.ends.transfer) = (v, spells v (arrived_of h.ends.transfer) fit read, is) in
          still_brought set s earlier (told_file set earlier u.role brings.file brings.sent (λ tells. subst SaysCompleted (brings.whole tells h.received) said) (target_tells_in_time joins set earlier u there))

  by_event : (e : Option Event) → event_for sides.Loader (posted_in earlier) s.given ≡ e → (loader_reading set.media (logged e (loader_log earlier))).ended ≡ session ∷ (loader_at set earlier).ended → session.kind ≡ Upload → session.outcome ≡ Completed → WasBrought set (s ∷ earlier)
  by_event None comes grows upload over = absurd (longer (loader_at set earlier).ended session grows)
  by_event (Some e) comes grows upload over = by (only_loader (posted_in earlier) s.given e comes)
    where
      there : (h : CompletionArrived set.media (loader_at set earlier) e) → Among h.ends.transfer (loader_transfers set (s ∷ earlier))
      there h =
          subst (λ (x : Option Event). Among h.ends.transfer (all_of (loader_reading set.media (logged x (loader_log earlier))).end [])) (sym comes)
          (among_left h.ends.transfer _ [] (among_past (loader_extended set.media (loader_at set earlier) e).end.live (loader_extended set.media (loader_at set earlier) e).end.past h.ends.transfer (ap newest h.ends.past)))

      fit : LogIsBytes (e ∷ loader_log earlier)
      fit = subst (λ (x : Option Event). LogIsBytes (logged x (loader_log earlier))) comes (loader_log_bytes (s ∷ earlier) carries)

      by : (event_for sides.Target (posted_in earlier) s.given ≡ None) ⊎ ((size : Option ℕ) × (e ≡ Learns size)) → WasBrought set (s ∷ earlier)
      by (inl alone) =
          let h = completed_upload_arrived set.media (loader_log earlier) e session grows upload over in
          by_transfer e alone h (newest_bytes payloads (e ∷ loader_log earlier) (loader_extended set.media (loader_at set earlier) e).end h.ends.transfer fit (loader_takes_what_came set.media (e ∷ loader_log earlier)).0 (ap newest h.ends.past)) (there h)
      by (inr (size, learns)) = absurd (longer (loader_at set earlier).ended session (subst (λ (x : Event). (loader_extended set.media (loader_at set earlier) x).ended ≡ session ∷ (loader_at set earlier).ended) learns grows))

  pub brought_where_completed : (loader_at set (s ∷ earlier)).ended ≡ session ∷ (loader_at set earlier).ended → session.kind ≡ Upload → session.outcome ≡ Completed → WasBrought set (s ∷ earlier)
  brought_where_completed grows upload over = by_event (event_for sides.Loader (posted_in earlier) s.given) refl grows upload over

all_brought : SumsJoin → PayloadsAreBytes → StatusesAreSpelled → (set : Setting) (steps : List Step) → AllCarryBytes steps → AllArriveAsSent set steps → AllBroughtWhereCompleted set steps
all_brought joins payloads spells set [] carries sent = tt
all_brought joins payloads spells set (s ∷ earlier) carries (now, sent) = (
  λ session. brought_where_completed joins payloads spells set s earlier carries now session,
  all_brought joins payloads spells set earlier carries.1 sent,
)

pub completed_was_brought : SumsJoin → MovesStayFair → PayloadsAreBytes → StatusesAreSpelled → CompletedWasBrought
completed_was_brought joins moves payloads spells set steps is = all_brought joins payloads spells set steps is.carries (what_arrives_was_sent joins moves set steps is)
