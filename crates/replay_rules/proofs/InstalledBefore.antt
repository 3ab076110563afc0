-- Where the target tells that all is installed, a step installed what the newest request that it took asked for.
use Rattle.std.proofs.Common.{◌≡◌, inl, inr, ◌+◌, true, false, List, [], ◌∷◌, ◌++◌, map, Option, Some, None, refl, sym, ap, subst, ◌∙◌, append_assoc, arith}
use Rattle.std.specs.List.{AllByRecursion}
use Rattle.load_protocol_files.specs.declared.lur.Wanted.{Wanted}
use Rattle.load_protocol_files.specs.Lur.{LurSpells}
use Rattle.disk_layout.specs.Holds.{StandingView}
use Rattle.exchange_trace.specs.declared.trace.Side.TheVariants as sides
use Rattle.exchange_trace.specs.Happenings.{DatagramView, HappeningView}
use Rattle.exchange_trace.specs.Logs.{Event, event_for}
use Rattle.exchange_trace.specs.Posts.{posted_in}
use Rattle.exchange_trace.specs.Steps.{Step}
use Rattle.accept_rules.specs.Permissions.{AcceptsPermitted}
use Rattle.transfer_end.specs.Moves.{past_with}
use Rattle.transfer_end.proofs.OtherEndLemmas.{among_left, among_right}
use Rattle.transfer_end.specs.OtherEnds.{Among, MoveHasRole, is_asking, is_receiving}
use Rattle.transfer_end.specs.Transfers.{Reads, Role, ServesRead, ServesWrite, Transfer, Writes, arrived_of, end_in, is_received}
use Rattle.session_rules.proofs.BufferLemmas.{SumsJoin}
use Rattle.session_rules.proofs.CompletionLemmas.{target_tells_installed}
use Rattle.session_rules.specs.Completions.{InstallsNow, SaysCompleted, TellsInstalled}
use Rattle.session_rules.proofs.ReadFileLemmas.{RequestsAreSpelled}
use Rattle.session_rules.specs.Requests.{InstallsRequest, RequestArrived}
use Rattle.session_rules.proofs.SoundLogLemmas.{PayloadsAreBytes}
use Rattle.session_rules.specs.SoundLogs.{IsNewAt, StaysOrIsNew}
use Rattle.session_rules.proofs.SoundnessLemmas.{HeadersAreSpelled}
use Rattle.session_rules.specs.Target as target
use Rattle.session_rules.specs.TargetLog.{TargetReading, target_extended, target_view}
use Rattle.replay_rules.specs.BothEnds.{Is_up, Setting, TargetStanding, changed, reached, target_at}
use Rattle.replay_rules.proofs.ChangeLemmas.{changes_are_new}
use Rattle.replay_rules.proofs.CompletedRows.{new_is_made}
use Rattle.replay_rules.specs.Changes.{AllCarryBytes, AllStayOrAreNew, TargetStaysOrIsNew}
use Rattle.replay_rules.specs.Due.{goes_down}
use Rattle.replay_rules.specs.Histories.{IsMadeOf, active_in, brings}
use Rattle.replay_rules.specs.OtherEndTraces.{former_at, target_transfers, transfers_of}
use Rattle.replay_rules.specs.Promises.{HavePartsAsked}
use Rattle.replay_rules.proofs.TieLemmas.{HasLive, target_is_live}
use Rattle.replay_rules.proofs.AskedFor.{NewHas, parts_of, step_has, target_has}
use Rattle.replay_rules.proofs.EachBefore.{AllOver, NewOver, roles_mapped, trace_over}
use Rattle.replay_rules.proofs.ToldTraces.{changes}

-- ---- what the target tells, and what it was asked for

-- One of these steps installed a configuration with the parts of a request, which came whole in the newest of these transfers
-- that the target served.
pub record IsInstalledBefore (set : Setting) (steps : List Step) (earlier : List Transfer) : Type 0 where
  pub since : List Step
  pub install : Step
  pub before : List Step
  pub new : StandingView
  pub split : steps ≡ since ++ install ∷ before
  pub brought : brings set install before ≡ Some new
  pub stays_up : goes_down install.notes ≡ false
  pub request : List Wanted
  pub parts : IsMadeOf (target_at set before) (HavePartsAsked (map (λ (w : Wanted). w.part) request)) new
  pub asked : List Transfer
  pub lur : Transfer
  pub older : List Transfer
  pub over : earlier ≡ asked ++ lur ∷ older
  pub asks : AllByRecursion (λ (t : Transfer). is_asking t.role ≡ true) asked
  pub receives : is_receiving lur.role ≡ true
  pub serves : is_asking lur.role ≡ false
  pub received : is_received (end_in lur) ≡ true
  pub spells : LurSpells (record { loads = request }) (arrived_of lur)
  pub there : Among lur (target_transfers set install before)

-- so it is where a file that the target sends says that all is installed
abbrev pub TellsOver : Setting → List Step → Role → List Transfer → Type 0
TellsOver set steps (Writes name options file) earlier = SaysCompleted file → IsInstalledBefore set steps earlier
TellsOver set steps role earlier = Unit {0}

pub still_before : (set : Setting) (s : Step) (steps : List Step) (earlier : List Transfer) → IsInstalledBefore set steps earlier → IsInstalledBefore set (s ∷ steps) earlier
still_before set s steps earlier h = record {
  since = s ∷ h.since;
  install = h.install;
  before = h.before;
  new = h.new;
  split = ap (λ (x : List Step). s ∷ x) h.split;
  brought = h.brought;
  stays_up = h.stays_up;
  request = h.request;
  parts = h.parts;
  asked = h.asked;
  lur = h.lur;
  older = h.older;
  over = h.over;
  asks = h.asks;
  receives = h.receives;
  serves = h.serves;
  received = h.received;
  spells = h.spells;
  there = h.there;
}

still_tells : (set : Setting) (s : Step) (steps : List Step) (role : Role) (earlier : List Transfer) → TellsOver set steps role earlier → TellsOver set (s ∷ steps) role earlier
still_tells set s steps (Writes name o file) earlier tells = λ says. still_before set s steps earlier (tells says)
still_tells set s steps (Reads name o) earlier tells = tt
still_tells set s steps (ServesRead name o file) earlier tells = tt
still_tells set s steps (ServesWrite name o) earlier tells = tt

module _ (joins : SumsJoin) (spells : HeadersAreSpelled) (payloads : PayloadsAreBytes) (requests : RequestsAreSpelled) (set : Setting) (permits : AcceptsPermitted set.accepts) where
  module _ (given : HappeningView) (posts : List DatagramView) (earlier : List Step) (r : TargetReading) (e : Event) (up : target_at set earlier ≡ Is_up r) (comes : event_for sides.Target (posted_in earlier) given ≡ Some e)
      (stays : StaysOrIsNew set.accepts r (target_extended set.accepts r e)) (has : InstallsRequest set.accepts r (target_extended set.accepts r e)) where
    abbrev quiet_step : Step
    quiet_step = record { given = given; posts = posts; notes = [] }

    abbrev then : TargetReading
    then = target_extended set.accepts r e

    -- what becomes active now is new
    is_new : InstallsNow set.accepts r e → StaysOrIsNew set.accepts r then → IsNewAt set.accepts r then
    is_new now (inr new) = new
    is_new now (inl same) =
        let one : r.active.sequence ≡ r.active.sequence + 1 = ap (λ (x : StandingView). x.sequence) (sym same ∙ now.next) in
        absurd (omega (arith, one))

    there : (t : Transfer) → Among t then.end.past → Among t (target_transfers set quiet_step earlier)
    there t a =
        subst (λ (x : Option Event). Among t (transfers_of (reached set x (target_at set earlier)) ++ former_at set earlier)) (sym comes)
        (subst (λ (state : TargetStanding). Among t (transfers_of (reached set (Some e) state) ++ former_at set earlier)) (sym up) (among_left t (past_with then.end.live then.end.past) (former_at set earlier) (live_too then.end.live)))
      where
        live_too : (live : Option Transfer) → Among t (past_with live then.end.past)
        live_too None = a
        live_too (Some x) = inr a

    installed_now : InstallsNow set.accepts r e → IsInstalledBefore set (quiet_step ∷ earlier) (then.end.past ++ former_at set earlier)
    installed_now now =
        let new : IsNewAt set.accepts r then = is_new now stays in
        let h : RequestArrived then.end new.upload.request = has new in
        record {
          since = [];
          install = quiet_step;
          before = earlier;
          new = then.active;
          split = refl;
          brought = ap (λ (state : TargetStanding). changed (active_in state) (active_in (reached set (event_for sides.Target (posted_in earlier) given) state))) up
              ∙ ap (λ (x : Option Event). changed r.active (active_in (reached set x (Is_up r)))) comes ∙ changes r.active then.active now.loads now.next;
          stays_up = refl;
          request = new.upload.request;
          parts = subst (λ (state : TargetStanding). IsMadeOf state (HavePartsAsked (map (λ (w : Wanted). w.part) new.upload.request)) then.active) (sym up)
              (new_is_made set.accepts r then new (HavePartsAsked (map (λ (w : Wanted). w.part) new.upload.request)) (parts_of new.upload.request new.loads new.new.each));
          asked = h.since;
          lur = h.transfer;
          older = h.before ++ former_at set earlier;
          over = ap (λ (ts : List Transfer). ts ++ former_at set earlier) h.past ∙ append_assoc h.since (h.transfer ∷ h.before) (former_at set earlier);
          asks = h.asks;
          receives = h.receives;
          serves = h.serves;
          received = h.received;
          spells = h.spells;
          there = there h.transfer (subst (λ (ts : List Transfer). Among h.transfer ts) (sym h.past) (among_right h.transfer h.since (h.transfer ∷ h.before) (inl refl)));
        }

    tells_role : (role : Role) → TellsInstalled set.accepts r e role → NewOver (TellsOver set (quiet_step ∷ earlier)) (former_at set earlier) then.end role
    tells_role (Writes name o file) tells = λ t live says. installed_now (tells says)
    tells_role (Reads name o) tells = λ t live. tt
    tells_role (ServesRead name o file) tells = λ t live. tt
    tells_role (ServesWrite name o) tells = λ t live. tt

  abbrev Fact : List Step → Type 0
  Fact steps = AllCarryBytes steps × AllStayOrAreNew set steps

  fact_before : (s : Step) (steps : List Step) → Fact (s ∷ steps) → Fact steps
  fact_before s steps (bytes, stays) = (bytes.1, stays.1)

  begins : (given : HappeningView) (posts : List DatagramView) (steps : List Step) (r : TargetReading) (e : Event) → target_at set steps ≡ Is_up r → event_for sides.Target (posted_in steps) given ≡ Some e → Fact (record { given = given; posts = posts; notes = [] } ∷ steps)
      → AllByRecursion (MoveHasRole (NewOver (TellsOver set (record { given = given; posts = posts; notes = [] } ∷ steps)) (former_at set steps) (target_extended set.accepts r e).end)) (target.target_decision set.accepts (target_view r) e).moves
  begins given posts steps r e up comes (bytes, stays) =
      let now : TargetStaysOrIsNew set (target_at set steps) (reached set (event_for sides.Target (posted_in steps) given) (target_at set steps)) = stays.0 in
      let has : NewHas set (target_at set steps) (event_for sides.Target (posted_in steps) given) =
      (step_has joins spells payloads requests set permits (record { given = given; posts = posts; notes = [] }) steps bytes (target_has joins spells payloads requests set permits steps bytes.1)).1 in
      roles_mapped (TellsInstalled set.accepts r e) (NewOver (TellsOver set (record { given = given; posts = posts; notes = [] } ∷ steps)) (former_at set steps) (target_extended set.accepts r e).end)
      (tells_role given posts steps r e up comes (stays_at up comes now) (has_at up comes has)) _ (target_tells_installed joins set.accepts r e (subst (λ (state : TargetStanding). HasLive state) up (target_is_live joins set steps)))
    where
      stays_at : target_at set steps ≡ Is_up r → event_for sides.Target (posted_in steps) given ≡ Some e → TargetStaysOrIsNew set (target_at set steps) (reached set (event_for sides.Target (posted_in steps) given) (target_at set steps)) → StaysOrIsNew set.accepts r (target_extended set.accepts r e)
      stays_at up comes now =
          subst (λ (state : TargetStanding). TargetStaysOrIsNew set state (reached set (Some e) state)) up
          (subst (λ (x : Option Event). TargetStaysOrIsNew set (target_at set steps) (reached set x (target_at set steps))) comes now)

      has_at : target_at set steps ≡ Is_up r → event_for sides.Target (posted_in steps) given ≡ Some e → NewHas set (target_at set steps) (event_for sides.Target (posted_in steps) given) → InstallsRequest set.accepts r (target_extended set.accepts r e)
      has_at up comes has = subst (λ (state : TargetStanding). NewHas set state (Some e)) up (subst (λ (x : Option Event). NewHas set (target_at set steps) x) comes has)

  -- whatever comes to the target
  pub target_tells_over : (steps : List Step) → AllCarryBytes steps → AllOver (TellsOver set steps) (transfers_of (target_at set steps) ++ former_at set steps)
  target_tells_over steps bytes = trace_over set (TellsOver set) Fact fact_before (still_tells set) begins steps (bytes, changes_are_new joins spells payloads set steps permits bytes)
