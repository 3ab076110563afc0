-- What is active at the end of a completed upload, after one installation since its start, is what a step of its own session
-- brought.
use Rattle.std.proofs.Common.{◌≡◌, ◌⊎◌, inl, inr, ℕ, ◌+◌, ◌<◌, ◌≤◌, Bool, true, false, cond, List, [], ◌∷◌, ◌++◌, length, Option, Some, None, Ok, refl, sym, ap, subst, ◌∙◌, arith, append_assoc}
use Rattle.std.specs.Prelude.{is_some, ◌==◌}
use Rattle.std.specs.List.{AllByRecursion}
use Rattle.std.proofs.lemmas.Slice.Zip.{AllZip-long}
use Rattle.load_base.specs.Config.{LoadView}
use Rattle.load_protocol_files.specs.declared.lur.Wanted.{Wanted}
use Rattle.disk_layout.specs.Contents.{entries_of}
use Rattle.disk_layout.specs.Holds.{StandingView}
use Rattle.exchange_trace.specs.declared.trace.Side.TheVariants as sides
use Rattle.exchange_trace.specs.Happenings.{Booted, DatagramView, Delivered, Ended, HappeningView, Info_started, Injected, Lost, Power_cut, Size_told, Ticked, Upload_started, is_same_side}
use Rattle.exchange_trace.specs.Logs.{Event, Starts_upload, Ticks, event_for, gets, logged, loader_log}
use Rattle.exchange_trace.specs.Posts.{numbered, posted_in}
use Rattle.exchange_trace.specs.Steps.{Note, Step}
use Rattle.transfer_end.specs.Moves.{readings_after}
use Rattle.transfer_end.specs.Readings.{Reading, next_port_of}
use Rattle.transfer_end.specs.Views.{EndView, end_view}
use Rattle.session_rules.specs.declared.outcome.Outcome.{Outcome}
use Rattle.session_rules.specs.declared.outcome.SessionKind.TheVariants.{Upload}
use Rattle.session_rules.specs.Loader.{Advances, Begins, Begins_over, Continues, EndedSession, Ends, LoaderChange, ended_by, loader_decision, upload_decision}
use Rattle.session_rules.specs.LoaderLog.{LoaderReading, SessionLog, loader_extended, loader_reading, loader_reading_changed, loader_view, newest, session_view, with_done}
use Rattle.session_rules.specs.MediaFiles.{Media, wanted_of}
use Rattle.session_rules.specs.NewConfigs.{AreOfMedia, IsChecked, IsWanted}
use Rattle.session_rules.proofs.InstallationLemmas.{good_are_checked}
use Rattle.session_rules.specs.KeptLoads.{kept_loads, types_in}
use Rattle.session_rules.specs.TargetLog.{standing_after}
use Rattle.session_rules.proofs.SessionLemmas.{begun_by, decision_begins}
use Rattle.session_rules.specs.Sessions.{started_by}
use Rattle.transfer_end.specs.Transfers.{Transfer}
use Rattle.replay_rules.specs.BothEnds.{Is_down, Is_up, Setting, TargetStanding, changed, loader_at, noted, reached, target_at}
use Rattle.replay_rules.specs.Changes.{AllBroughtAreGood, AllStayOrAreNew, AreGood, BroughtIsGood, TargetStaysOrIsNew}
use Rattle.replay_rules.specs.FaultFree.{IsNoStart, NothingInjected}
use Rattle.replay_rules.specs.Histories.{IsMadeOf, active_at, active_in, brings, requested_in}
use Rattle.replay_rules.specs.OwnSessionTraces.{AllInstalledInSession, InstalledWhereCompleted, NoneStarts}
use Rattle.transfer_completion.proofs.BlockLemmas.{lt_false, lt_true}
use Rattle.replay_rules.specs.Promises.{AllOfMedia, BroughtIsOfMedia, HasCompleted, HasEnded, HavePartsAsked, NoneGoesDown}

-- ---- the step in which the session ended

-- what reaches the loader starts nothing
abbrev StartsNothing : Option Event → Type 0
StartsNothing None = Unit {0}
StartsNothing (Some e) = started_by e ≡ []

got_nothing : (o : Option DatagramView) → StartsNothing (gets o)
got_nothing None = tt
got_nothing (Some d) = refl

nothing_if : (b : Bool) (x y : Option Event) → StartsNothing x → StartsNothing y → StartsNothing (cond b x y)
nothing_if true x y p q = p
nothing_if false x y p q = q

starts_nothing : (posted : List DatagramView) (h : HappeningView) → IsNoStart h → StartsNothing (event_for sides.Loader posted h)
starts_nothing posted (Delivered to n) quietly = nothing_if (is_same_side sides.Loader to) (gets (numbered posted n)) None (got_nothing (numbered posted n)) tt
starts_nothing posted (Lost n) quietly = tt
starts_nothing posted (Injected d) quietly = nothing_if (is_same_side sides.Loader d.side) None (gets (Some d)) tt refl
starts_nothing posted (Ticked whose) quietly = nothing_if (is_same_side sides.Loader whose) (Some Ticks) None refl tt
starts_nothing posted (Size_told size) quietly = refl
starts_nothing posted (Power_cut calls pick) quietly = tt
starts_nothing posted Booted quietly = tt
starts_nothing posted (Info_started hw pos) quietly = absurd quietly
starts_nothing posted (Upload_started hw pos parts) quietly = absurd quietly
starts_nothing posted Ended quietly = tt

-- the sessions stay, or the live one ends
abbrev StayOrEnd : (before after : LoaderReading) → Type 0
StayOrEnd before after = ((after.ended ≡ before.ended) × (is_some after.live ≡ is_some before.live)) ⊎ ((e : EndedSession) × (after.ended ≡ e ∷ before.ended))

over_or_none : (end : Reading) (outcome : Outcome) (more : List ℕ) (live : Option SessionLog) (ended : List EndedSession)
    → ((ended_by outcome more (session_view end live) ended ≡ ended) × (false ≡ is_some live)) ⊎ ((e : EndedSession) × (ended_by outcome more (session_view end live) ended ≡ e ∷ ended))
over_or_none end outcome more None ended = inl (refl, refl)
over_or_none end outcome more (Some s) ended = inr (_, refl)

advanced_is : (live : Option SessionLog) (ended : List Transfer) → is_some (with_done live ended) ≡ is_some live
advanced_is None ended = refl
advanced_is (Some s) ended = refl

changed_sessions : (end : Reading) (r : LoaderReading) (change : LoaderChange) → begun_by change ≡ [] → StayOrEnd r (loader_reading_changed end r change)
changed_sessions end r (Continues more) none = inl (refl, refl)
changed_sessions end r Advances none = inl (refl, advanced_is r.live (newest end.past))
changed_sessions end r (Ends outcome more) none = over_or_none r.end outcome more r.live r.ended
changed_sessions end r (Begins s) none = absurd cc
changed_sessions end r (Begins_over kind outcome) none = absurd cc

logged_sessions : (media : Media) (e : Option Event) (log : List Event) → StartsNothing e → StayOrEnd (loader_reading media log) (loader_reading media (logged e log))
logged_sessions media None log none = inl (refl, refl)
logged_sessions media (Some e) log none =
    let r = loader_reading media log in
    let d = loader_decision media (loader_view r) e in
    changed_sessions (readings_after sides.Loader r.end d.moves) r d.change (decision_begins media (loader_view r) e ∙ none)

step_sessions : (set : Setting) (s : Step) (earlier : List Step) → IsNoStart s.given → StayOrEnd (loader_at set earlier) (loader_at set (s ∷ earlier))
step_sessions set s earlier quietly = logged_sessions set.media (event_for sides.Loader (posted_in earlier) s.given) (loader_log earlier) (starts_nothing (posted_in earlier) s.given quietly)

-- one of these steps, which follow others, ended the session, as a completed upload
pub record EndedIn (set : Setting) (since base : List Step) : Type 0 where
  later : List Step
  s : Step
  mid : List Step
  split : since ≡ later ++ s ∷ mid
  ended : HasEnded set s (mid ++ base)
  completed : HasCompleted Upload (loader_at set (s ∷ (mid ++ base))).ended

pub ended_in : (set : Setting) (since base : List Step) → NoneStarts since → is_some (loader_at set base).live ≡ true → is_some (loader_at set (since ++ base)).live ≡ false → HasCompleted Upload (loader_at set (since ++ base)).ended
    → EndedIn set since base
ended_in set [] base none live over completed = absurd (let wrong : true ≡ false = sym live ∙ over in cc)
ended_in set (s ∷ since) base none live over completed = by (step_sessions set s (since ++ base) none.0) (λ over_before done. ended_in set since base none.1 live over_before done)
  where
    more : EndedIn set since base → EndedIn set (s ∷ since) base
    more h = record { later = s ∷ h.later; s = h.s; mid = h.mid; split = ap (λ (xs : List Step). s ∷ xs) h.split; ended = h.ended; completed = h.completed }

    by : StayOrEnd (loader_at set (since ++ base)) (loader_at set (s ∷ (since ++ base))) → (is_some (loader_at set (since ++ base)).live ≡ false → HasCompleted Upload (loader_at set (since ++ base)).ended → EndedIn set since base) → EndedIn set (s ∷ since) base
    by (inl (same, waits)) earlier = more (earlier (sym waits ∙ over) (subst (λ (xs : List EndedSession). HasCompleted Upload xs) same completed))
    by (inr ended) earlier = record { later = []; s = s; mid = since; split = refl; ended = ended; completed = completed }

-- ---- its own start

begins_with : (media : Media) (v : EndView) (hw pos : List ℕ) (parts : List (List ℕ)) (wanted : List Wanted) → length parts ≤ 32 → wanted_of media.loads parts ≡ Ok wanted → v.next_port < 65536
    → (upload_decision media v hw pos parts).change ≡ Begins (record { kind = Upload; hw = hw; pos = pos; loads = wanted })
begins_with media v hw pos parts wanted few on_media port = rw (lt_false 32 (length parts) few, on_media, lt_true v.next_port 65536 port) refl

begun_by_start : (media : Media) (r : LoaderReading) (hw pos : List ℕ) (parts : List (List ℕ)) (wanted : List Wanted) → length parts ≤ 32 → wanted_of media.loads parts ≡ Ok wanted → next_port_of r.end < 65536
    → is_some (loader_extended media r (Starts_upload hw pos parts)).live ≡ true
begun_by_start media r hw pos parts wanted few on_media port =
    ap (λ (change : LoaderChange). is_some (loader_reading_changed (readings_after sides.Loader r.end (upload_decision media (end_view r.end) hw pos parts).moves) r change).live)
    (begins_with media (end_view r.end) hw pos parts wanted few on_media port)

-- the upload is live after its start
pub begun_at : (set : Setting) (start : Step) (before : List Step) (hw pos : List ℕ) (parts : List (List ℕ)) (wanted : List Wanted) → start.given ≡ Upload_started hw pos parts → length parts ≤ 32 → wanted_of set.media.loads parts ≡ Ok wanted
    → next_port_of (loader_at set before).end < 65536 → is_some (loader_at set (start ∷ before)).live ≡ true
begun_at set start before hw pos parts wanted starts few on_media port =
    ap (λ (h : HappeningView). is_some (loader_reading set.media (logged (event_for sides.Loader (posted_in before) h) (loader_log before))).live) starts
    ∙ begun_by_start set.media (loader_at set before) hw pos parts wanted few on_media port

same_tail : (xs ys : List Step) (a b : Step) (us vs : List Step) → NoneStarts xs → NoneStarts ys → (IsNoStart a.given → ⊥) → (IsNoStart b.given → ⊥) → xs ++ a ∷ us ≡ ys ++ b ∷ vs → (xs ≡ ys) × (a ∷ us ≡ b ∷ vs)
same_tail [] [] a b us vs none not one two e = (refl, e)
same_tail [] (y ∷ ys) a b us vs none not one two e = let head : y ≡ a = cc in absurd (one (subst (λ (x : Step). IsNoStart x.given) head not.0))
same_tail (x ∷ xs) [] a b us vs none not one two e = let head : x ≡ b = cc in absurd (two (subst (λ (y : Step). IsNoStart y.given) head none.0))
same_tail (x ∷ xs) (y ∷ ys) a b us vs none not one two e =
    let head : x ≡ y = cc in
    let tail : xs ++ a ∷ us ≡ ys ++ b ∷ vs = cc in
    let (lists, rest) = same_tail xs ys a b us vs none.1 not.1 one two tail in
    (ap (λ (z : Step). z ∷ xs) head ∙ ap (λ (zs : List Step). y ∷ zs) lists, rest)

upload_starts : (h : HappeningView) (hw pos : List ℕ) (parts : List (List ℕ)) → h ≡ Upload_started hw pos parts → IsNoStart h → ⊥
upload_starts h hw pos parts e quietly = subst (λ (x : HappeningView). IsNoStart x) e quietly

-- ---- what a step brings where nothing is noted of the target

none_later : (xs ys : List Step) → NoneGoesDown (xs ++ ys) → NoneGoesDown xs × NoneGoesDown ys
none_later [] ys none = (tt, none)
none_later (x ∷ xs) ys none = let (one, two) = none_later xs ys none.1 in ((none.0, one), two)

active_if : (before after new : StandingView) → changed before after ≡ Some new → after ≡ new
active_if before after new e = by (before.sequence == after.sequence) e
  where
    by : (b : Bool) → cond b None (Some after) ≡ Some new → after ≡ new
    by true f = absurd cc
    by false f = cc

-- what is active stays, or has a later sequence number
abbrev StaysOrRises : (before after : StandingView) → Type 0
StaysOrRises before after = (after ≡ before) ⊎ (before.sequence < after.sequence)

stays_or_rises : (set : Setting) (state : TargetStanding) (e : Option Event) → TargetStaysOrIsNew set state (reached set e state) → StaysOrRises (active_in state) (active_in (reached set e state))
stays_or_rises set (Is_up r) None change = inl refl
stays_or_rises set (Is_up r) (Some e) (inl is) = inl is
stays_or_rises set (Is_up r) (Some e) (inr new) =
    let next : (active_in (reached set (Some e) (Is_up r))).sequence ≡ r.active.sequence + 1 = ap (λ (s : StandingView). s.sequence) new.next in
    inr (omega (arith, next))
stays_or_rises set (Is_down active interrupted) None change = inl refl
stays_or_rises set (Is_down active interrupted) (Some e) change = inl refl

both_rise : (a b c : StandingView) → StaysOrRises a b → StaysOrRises b c → StaysOrRises a c
both_rise a b c (inl one) (inl two) = inl (two ∙ one)
both_rise a b c (inl one) (inr two) = inr (subst (λ (s : StandingView). s.sequence < c.sequence) one two)
both_rise a b c (inr one) (inl two) = inr (subst (λ (s : StandingView). a.sequence < s.sequence) (sym two) one)
both_rise a b c (inr one) (inr two) = inr (omega (arith, one, two))

-- where one sequence number was added in all, only that installation changed anything
alone : (first before after last : StandingView) → StaysOrRises first before → after.sequence ≡ before.sequence + 1 → StaysOrRises after last → last.sequence ≡ first.sequence + 1 → (before ≡ first) × (last ≡ after)
alone first before after last (inl one) more (inl two) sum = (one, two)
alone first before after last (inl one) more (inr two) sum = let same : before.sequence ≡ first.sequence = ap (λ (s : StandingView). s.sequence) one in absurd (omega (arith, same, more, two, sum))
alone first before after last (inr one) more (inl two) sum = let same : last.sequence ≡ after.sequence = ap (λ (s : StandingView). s.sequence) two in absurd (omega (arith, one, more, same, sum))
alone first before after last (inr one) more (inr two) sum = absurd (omega (arith, one, more, two, sum))

-- Loads of these parts were installed over this configuration: they passed all tests, their files are the media set's, and then
-- come those that were kept.
pub record IsInstalledOver (set : Setting) (parts : List (List ℕ)) (before s : StandingView) : Type 0 where
  pub new : List LoadView
  pub parts_are : HavePartsAsked parts new
  pub checked : AllByRecursion (IsChecked set.start.identity) new
  pub media : AreOfMedia set.media new
  pub is : s ≡ standing_after before new

-- lists of one length, before others
pub same_first : {A : Type 0} (xs ys us vs : List A) → length xs ≡ length ys → xs ++ us ≡ ys ++ vs → xs ≡ ys
same_first [] [] us vs size e = refl
same_first [] (y ∷ ys) us vs size e = absurd cc
same_first (x ∷ xs) [] us vs size e = absurd cc
same_first {A} (x ∷ xs) (y ∷ ys) us vs size e =
    let head : x ≡ y = cc in
    let tail : xs ++ us ≡ ys ++ vs = cc in
    let count : length xs ≡ length ys = cc in
    ap (λ (z : A). z ∷ xs) head ∙ ap (λ (zs : List A). y ∷ zs) (same_first xs ys us vs count tail)

-- what an installation brings is made of the same new loads, whatever is said of them
same_new : (before : TargetStanding) (P Q : List LoadView → Type 0) (s : StandingView) (one : IsMadeOf before P s) (two : IsMadeOf before Q s) → one.new ≡ two.new
same_new before P Q s one two =
    same_first one.new two.new (kept_loads (types_in one.new) (active_in before).loads) (kept_loads (types_in two.new) (active_in before).loads)
    (AllZip-long IsWanted (requested_in before) one.new one.wanted ∙ sym (AllZip-long IsWanted (requested_in before) two.new two.wanted)) (ap (λ (x : StandingView). x.loads) (sym one.is ∙ two.is))

-- what is known of all that was brought in a run
pub record KnowsBrought (set : Setting) (steps : List Step) : Type 0 where
  pub good : AllBroughtAreGood set steps
  pub media : AllOfMedia set steps
  pub stays : AllStayOrAreNew set steps
  pub injected : NothingInjected steps

knows_before : (set : Setting) (since earlier : List Step) → KnowsBrought set (since ++ earlier) → KnowsBrought set earlier
knows_before set [] earlier k = k
knows_before set (s ∷ since) earlier k = knows_before set since earlier (record { good = k.good.1; media = k.media.1; stays = k.stays.1; injected = k.injected.1 })

module _ (set : Setting) where
  abbrev then_at : Step → List Step → TargetStanding
  then_at s earlier = reached set (event_for sides.Target (posted_in earlier) s.given) (target_at set earlier)

  active_then : (s : Step) (earlier : List Step) → s.notes ≡ [] → active_at set (s ∷ earlier) ≡ active_in (then_at s earlier)
  active_then s earlier quiet = ap (λ (notes : List Note). active_in (noted notes (target_at set earlier) (then_at s earlier))) quiet

  -- an install step
  brought_over : (s : Step) (earlier : List Step) (parts : List (List ℕ)) (new : StandingView) → s.notes ≡ [] → KnowsBrought set (s ∷ earlier) → brings set s earlier ≡ Some new → IsMadeOf (target_at set earlier) (HavePartsAsked parts) new
      → IsInstalledOver set parts (active_at set earlier) (active_at set (s ∷ earlier))
  brought_over s earlier parts new quiet k brought asked =
      let good = subst (λ (o : Option StandingView). BroughtIsGood set (target_at set earlier) o) brought k.good.0 in
      let media = subst (λ (o : Option StandingView). BroughtIsOfMedia set (target_at set earlier) o (s ∷ earlier)) brought k.media.0 k.injected in
      let one = same_new (target_at set earlier) (AreGood set (active_at set earlier)) (HavePartsAsked parts) new good asked in
      let two = same_new (target_at set earlier) (AreOfMedia set.media) (HavePartsAsked parts) new media asked in
      record {
        new = asked.new;
        parts_are = asked.are_new;
        checked = subst (AllByRecursion (IsChecked set.start.identity)) one (good_are_checked (λ h kept. set.accepts h kept ≡ true) set.start.identity (entries_of (active_at set earlier).loads) [] good.new good.are_new);
        media = subst (AreOfMedia set.media) two media.are_new;
        is = active_then s earlier quiet ∙ active_if (active_at set earlier) (active_in (then_at s earlier)) new brought ∙ asked.is;
      }

  -- steps in which the target doesn't go down
  steps_rise : (since earlier : List Step) → NoneGoesDown since → KnowsBrought set (since ++ earlier) → StaysOrRises (active_at set earlier) (active_at set (since ++ earlier))
  steps_rise [] earlier quiet k = inl refl
  steps_rise (s ∷ since) earlier quiet k =
      both_rise (active_at set earlier) (active_at set (since ++ earlier)) (active_at set (s ∷ (since ++ earlier))) (steps_rise since earlier quiet.1 (knows_before set (s ∷ []) (since ++ earlier) k))
      (subst (λ (x : StandingView). StaysOrRises (active_at set (since ++ earlier)) x) (sym (active_then s (since ++ earlier) quiet.0))
      (stays_or_rises set (target_at set (since ++ earlier)) (event_for sides.Target (posted_in (since ++ earlier)) s.given) k.stays.0))

-- ---- at the end of an upload that was completed since its start

installed_at : (set : Setting) (later : List Step) (s : Step) (earlier : List Step) → AllInstalledInSession set (later ++ s ∷ earlier) → InstalledWhereCompleted set s earlier
installed_at set [] s earlier all = all.0
installed_at set (x ∷ later) s earlier all = installed_at set later s earlier all.1

none_of : (xs ys : List Step) → NoneStarts (xs ++ ys) → NoneStarts ys
none_of [] ys none = none
none_of (x ∷ xs) ys none = none_of xs ys none.1

same_parts : (hw pos hw' pos' : List ℕ) (parts parts' : List (List ℕ)) → Upload_started hw pos parts ≡ Upload_started hw' pos' parts' → parts ≡ parts'
same_parts hw pos hw' pos' parts parts' e = cc

-- one of these steps, which follow a start, brought what has these parts besides what is kept
record InstallIn (set : Setting) (since : List Step) (start : Step) (before : List Step) (parts : List (List ℕ)) : Type 0 where
  later : List Step
  install : Step
  between : List Step
  new : StandingView
  split : since ≡ later ++ install ∷ between
  brought : brings set install (between ++ start ∷ before) ≡ Some new
  asked : IsMadeOf (target_at set (between ++ start ∷ before)) (HavePartsAsked parts) new

install_in : (set : Setting) (since : List Step) (start : Step) (before : List Step) (hw pos : List ℕ) (parts : List (List ℕ)) → start.given ≡ Upload_started hw pos parts → NoneStarts since
    → EndedIn set since (start ∷ before) → AllInstalledInSession set (since ++ start ∷ before) → InstallIn set since start before parts
install_in set since start before hw pos parts starts none e all =
    let base = start ∷ before in
    let whole : since ++ base ≡ e.later ++ e.s ∷ (e.mid ++ base) = ap (λ (xs : List Step). xs ++ base) e.split ∙ append_assoc e.later (e.s ∷ e.mid) base in
    let i = installed_at set e.later e.s (e.mid ++ base) (subst (λ (xs : List Step). AllInstalledInSession set xs) whole all) e.ended e.completed in
    let cut : (e.s ∷ e.mid) ++ start ∷ before ≡ (i.since ++ i.install ∷ i.between) ++ i.start ∷ i.before = i.split ∙ sym (append_assoc i.since (i.install ∷ i.between) (i.start ∷ i.before)) in
    let (own, rest) = same_tail (e.s ∷ e.mid) (i.since ++ i.install ∷ i.between) start i.start before i.before (none_of e.later (e.s ∷ e.mid) (subst (λ (xs : List Step). NoneStarts xs) e.split none)) i.newest
    (upload_starts start.given hw pos parts starts) (upload_starts i.start.given i.hw i.pos i.parts i.starts) cut in
    let first : start ≡ i.start = cc in
    let same : i.parts ≡ parts = same_parts i.hw i.pos hw pos i.parts parts (sym i.starts ∙ (ap (λ (s : Step). s.given) (sym first) ∙ starts)) in
    record {
      later = e.later ++ i.since;
      install = i.install;
      between = i.between;
      new = i.new;
      split = e.split ∙ (ap (λ (xs : List Step). e.later ++ xs) own ∙ sym (append_assoc e.later i.since (i.install ∷ i.between)));
      brought = ap (λ (xs : List Step). brings set i.install (i.between ++ xs)) rest ∙ i.brought;
      asked = subst (λ (ps : List (List ℕ)). IsMadeOf (target_at set (i.between ++ start ∷ before)) (HavePartsAsked ps) i.new) same
          (subst (λ (xs : List Step). IsMadeOf (target_at set (i.between ++ xs)) (HavePartsAsked i.parts) i.new) (sym rest) i.asked);
    }

-- where one sequence number was added since the start, what is active was installed over what was active then
over_start : (set : Setting) (later between before : List Step) (install start : Step) (parts : List (List ℕ)) (new : StandingView) → NoneGoesDown (later ++ install ∷ (between ++ start ∷ []))
    → KnowsBrought set (later ++ install ∷ ((between ++ start ∷ []) ++ before)) → brings set install ((between ++ start ∷ []) ++ before) ≡ Some new → IsMadeOf (target_at set ((between ++ start ∷ []) ++ before)) (HavePartsAsked parts) new
    → (active_at set (later ++ install ∷ ((between ++ start ∷ []) ++ before))).sequence ≡ (active_at set before).sequence + 1
    → IsInstalledOver set parts (active_at set before) (active_at set (later ++ install ∷ ((between ++ start ∷ []) ++ before)))
over_start set later between before install start parts new quiet knows brought asked sum =
    let tail = (between ++ start ∷ []) ++ before in
    let down = none_later later (install ∷ (between ++ start ∷ [])) quiet in
    let knows_install = knows_before set later (install ∷ tail) knows in
    let installed = brought_over set install tail parts new down.1.0 knows_install brought asked in
    let (was, stays) = alone (active_at set before) (active_at set tail) (active_at set (install ∷ tail)) (active_at set (later ++ install ∷ tail))
    (steps_rise set (between ++ start ∷ []) before down.1.1 (knows_before set (install ∷ []) tail knows_install)) (ap (λ (s : StandingView). s.sequence) installed.is) (steps_rise set later (install ∷ tail) down.0 knows) sum in
    record {
      new = installed.new;
      parts_are = installed.parts_are;
      checked = installed.checked;
      media = installed.media;
      is = stays ∙ (installed.is ∙ ap (λ (s : StandingView). standing_after s installed.new) was);
    }

pub active_is_installed : (set : Setting) (since : List Step) (start : Step) (before : List Step) (hw pos : List ℕ) (parts : List (List ℕ)) → start.given ≡ Upload_started hw pos parts → NoneStarts since → NoneGoesDown (since ++ start ∷ [])
    → is_some (loader_at set (start ∷ before)).live ≡ true → is_some (loader_at set (since ++ start ∷ before)).live ≡ false → HasCompleted Upload (loader_at set (since ++ start ∷ before)).ended
    → AllInstalledInSession set (since ++ start ∷ before) → KnowsBrought set (since ++ start ∷ before) → (active_at set (since ++ start ∷ before)).sequence ≡ (active_at set before).sequence + 1
    → IsInstalledOver set parts (active_at set before) (active_at set (since ++ start ∷ before))
active_is_installed set since start before hw pos parts starts none quiet live over completed all knows sum =
    by (install_in set since start before hw pos parts starts none (ended_in set since (start ∷ before) none live over completed) all)
  where
    by : InstallIn set since start before parts → IsInstalledOver set parts (active_at set before) (active_at set (since ++ start ∷ before))
    by i =
        let behind : i.between ++ start ∷ before ≡ (i.between ++ start ∷ []) ++ before = sym (append_assoc i.between (start ∷ []) before) in
        let is : since ++ start ∷ before ≡ i.later ++ i.install ∷ ((i.between ++ start ∷ []) ++ before) =
        ap (λ (xs : List Step). xs ++ start ∷ before) i.split ∙ (append_assoc i.later (i.install ∷ i.between) (start ∷ before) ∙ ap (λ (xs : List Step). i.later ++ i.install ∷ xs) behind) in
        let steps : since ++ start ∷ [] ≡ i.later ++ i.install ∷ (i.between ++ start ∷ []) = ap (λ (xs : List Step). xs ++ start ∷ []) i.split ∙ append_assoc i.later (i.install ∷ i.between) (start ∷ []) in
        subst (λ (xs : List Step). IsInstalledOver set parts (active_at set before) (active_at set xs)) (sym is)
        (over_start set i.later i.between before i.install start parts i.new (subst (λ (xs : List Step). NoneGoesDown xs) steps quiet) (subst (λ (xs : List Step). KnowsBrought set xs) is knows)
        (ap (λ (xs : List Step). brings set i.install xs) (sym behind) ∙ i.brought) (subst (λ (xs : List Step). IsMadeOf (target_at set xs) (HavePartsAsked parts) i.new) behind i.asked)
        (ap (λ (xs : List Step). (active_at set xs).sequence) (sym is) ∙ sum))
