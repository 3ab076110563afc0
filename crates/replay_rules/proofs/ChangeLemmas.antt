-- Proofs that the configuration changes by good verdicts alone.
use Rattle.std.proofs.Common.{◌∙◌, ap, sym, subst, inr, ◌≡◌, inl, ℕ, zero, suc, ◌-◌, Bool, true, false, cond, List, [], ◌∷◌, Option, Some, None, refl}
use Rattle.std.specs.Prelude.{slice_get, ◌==◌}
use Rattle.std.specs.List.{AllByRecursion}
use Rattle.std.proofs.lemmas.Bool.{eq-eqb}
use Rattle.disk_layout.specs.declared.identity.Identity.{Identity}
use Rattle.disk_layout.specs.Contents.{entries_of}
use Rattle.disk_layout.specs.Holds.{StandingView}
use Rattle.exchange_trace.specs.declared.trace.Side.TheVariants as sides
use Rattle.exchange_trace.specs.Happenings.{Booted, DatagramView, Delivered, Ended, HappeningView, Info_started, Injected, Lost, Power_cut, Size_told, Ticked, Upload_started, is_same_side}
use Rattle.exchange_trace.specs.Logs.{Event, Life, Up, Down, Ticks, event_for, gets, noted as life_noted, reached as life_reached, target_life}
use Rattle.exchange_trace.specs.Posts.{numbered, posted_in}
use Rattle.exchange_trace.specs.Steps.{Boot_refused, Came_up, Note, Step, Went_down}
use Rattle.accept_rules.specs.Permissions.{AcceptsPermitted}
use Rattle.session_rules.proofs.BufferLemmas.{SumsJoin}
use Rattle.session_rules.specs.NewConfigs.{AreGoodAfter}
use Rattle.session_rules.specs.SoundLogs.{EventIsBytes, LogIsBytes, SessionIsSound, StaysOrIsNew}
use Rattle.session_rules.proofs.SoundLogLemmas.{PayloadsAreBytes, target_step_sound}
use Rattle.session_rules.proofs.SoundnessLemmas.{HeadersAreSpelled}
use Rattle.session_rules.specs.TargetLog.{TargetReading}
use Rattle.replay_rules.specs.BothEnds.{Is_down, Is_up, Setting, TargetStanding, changed, come_up, gone_down, noted, reached, settled, target_at}
use Rattle.replay_rules.proofs.CameTraceLemmas.{target_takes}
use Rattle.replay_rules.specs.CameTraces.{LifeTakesWhatCame}
use Rattle.replay_rules.specs.Changes.{AllBroughtAreGood, AllCarryBytes, AllStayOrAreNew, AreGood, BroughtIsGood, CarriesBytes, ChangesAreNew, InjectsBytes, InstallsAreGood, TargetStaysOrIsNew}
use Rattle.replay_rules.proofs.CompletedRows.{new_is_made}
use Rattle.replay_rules.specs.Histories.{IsMadeOf, active_in}
use Rattle.replay_rules.proofs.PlacedTraceLemmas.{all_append}
use Rattle.replay_rules.proofs.TieLemmas.{HasLive, target_is_live}

-- ---- what reaches a side are bytes

abbrev pub BringsBytes : Option Event → Type 0
BringsBytes None = Unit {0}
BringsBytes (Some e) = EventIsBytes e

abbrev pub HasBytes : Option DatagramView → Type 0
HasBytes None = Unit {0}
HasBytes (Some d) = CarriesBytes d

pub got_bytes : (d : Option DatagramView) → HasBytes d → BringsBytes (gets d)
got_bytes None h = tt
got_bytes (Some d) h = h

member_bytes : (posted : List DatagramView) (n : ℕ) → AllByRecursion CarriesBytes posted → HasBytes (slice_get posted n)
member_bytes [] n all = tt
member_bytes (d ∷ posted) zero (one, all) = one
member_bytes (d ∷ posted) (suc n) (one, all) = member_bytes posted n all

pub numbered_bytes : (posted : List DatagramView) (n : ℕ) → AllByRecursion CarriesBytes posted → HasBytes (numbered posted n)
numbered_bytes posted n all = by (n == 0)
  where
    by : (b : Bool) → HasBytes (cond b None (slice_get posted (n - 1)))
    by true = tt
    by false = member_bytes posted (n - 1) all

pub bytes_if : (b : Bool) (x y : Option Event) → BringsBytes x → BringsBytes y → BringsBytes (cond b x y)
bytes_if true x y p q = p
bytes_if false x y p q = q

pub event_bytes : (posted : List DatagramView) (h : HappeningView) → AllByRecursion CarriesBytes posted → InjectsBytes h → BringsBytes (event_for sides.Target posted h)
event_bytes posted (Delivered to n) all given = bytes_if (is_same_side sides.Target to) (gets (numbered posted n)) None (got_bytes (numbered posted n) (numbered_bytes posted n all)) tt
event_bytes posted (Injected d) all given = bytes_if (is_same_side sides.Target d.side) None (gets (Some d)) tt given
event_bytes posted (Ticked whose) all given = bytes_if (is_same_side sides.Target whose) (Some Ticks) None tt tt
event_bytes posted (Size_told size) all given = tt
event_bytes posted (Info_started hw pos) all given = tt
event_bytes posted (Upload_started hw pos parts) all given = tt
event_bytes posted (Lost n) all given = tt
event_bytes posted (Power_cut calls pick) all given = tt
event_bytes posted Booted all given = tt
event_bytes posted Ended all given = tt

pub posted_bytes : (steps : List Step) → AllCarryBytes steps → AllByRecursion CarriesBytes (posted_in steps)
posted_bytes [] all = tt
posted_bytes (s ∷ earlier) ((posts, given), all) = all_append CarriesBytes (posted_in earlier) s.posts (posted_bytes earlier all) posts

-- ---- the target's session is sound at every moment

-- of a target that is up, with its log since then
abbrev pub TargetIsSound : Setting → Life → TargetStanding → Type 0
TargetIsSound set (Up first_port log) (Is_up r) = LogIsBytes log × SessionIsSound set.accepts r
TargetIsSound set Down (Is_down active interrupted) = Unit {0}
TargetIsSound set life state = ⊥

gone_sound : (set : Setting) (before after : TargetStanding) → TargetIsSound set Down (gone_down before after)
gone_sound set (Is_up r) (Is_up s) = tt
gone_sound set (Is_up r) (Is_down active interrupted) = tt
gone_sound set (Is_down active interrupted) after = tt

come_sound : (set : Setting) (first_port sequence : ℕ) (state : TargetStanding) → TargetIsSound set Down state → TargetIsSound set (Up first_port []) (come_up first_port sequence state)
come_sound set first_port sequence (Is_up r) h = absurd h
come_sound set first_port sequence (Is_down active interrupted) h = (tt, tt)

noted_sound : (set : Setting) (notes : List Note) (life : Life) (before after : TargetStanding) → TargetIsSound set life after → TargetIsSound set (life_noted notes life) (noted notes before after)
noted_sound set [] life before after h = h
noted_sound set (Went_down ∷ notes) life before after h = noted_sound set notes Down (gone_down before after) (gone_down before after) (gone_sound set before after)
noted_sound set (Came_up first_port sequence ∷ notes) life before after h =
    let up = come_up first_port sequence (gone_down before after) in
    noted_sound set notes (Up first_port []) up up (come_sound set first_port sequence (gone_down before after) (gone_sound set before after))
noted_sound set (Boot_refused fault ∷ notes) life before after h = noted_sound set notes Down (gone_down before after) (gone_down before after) (gone_sound set before after)

module _ (joins : SumsJoin) (spells : HeadersAreSpelled) (payloads : PayloadsAreBytes) (set : Setting) (permits : AcceptsPermitted set.accepts) where
  -- what one event makes of a target
  abbrev pub Reached : Life → TargetStanding → Option Event → Type 0
  Reached life state e = TargetIsSound set (life_reached e life) (reached set e state) × TargetStaysOrIsNew set state (reached set e state)

  reached_sound : (life : Life) (state : TargetStanding) (e : Option Event) → BringsBytes e → LifeTakesWhatCame life state → HasLive state → TargetIsSound set life state → Reached life state e
  reached_sound (Up first_port log) (Is_up r) None bytes takes live (fit, sound) = ((fit, sound), inl refl)
  reached_sound (Up first_port log) (Is_up r) (Some e) bytes (packets, blocks, last) live (fit, sound) =
      let now = target_step_sound set.accepts joins spells permits payloads log r e (bytes, fit) packets live sound in
      (((bytes, fit), now.0), now.1)
  reached_sound (Up first_port log) (Is_down active interrupted) e bytes takes live sound = absurd sound
  reached_sound Down (Is_up r) e bytes takes live sound = absurd sound
  reached_sound Down (Is_down active interrupted) None bytes takes live sound = (tt, tt)
  reached_sound Down (Is_down active interrupted) (Some e) bytes takes live sound = (tt, tt)

  pub step_sound : (s : Step) (earlier : List Step) → AllCarryBytes (s ∷ earlier) → TargetIsSound set (target_life earlier) (target_at set earlier) → Reached (target_life earlier) (target_at set earlier) (event_for sides.Target (posted_in earlier) s.given)
  step_sound s earlier ((posts, given), all) sound =
      reached_sound (target_life earlier) (target_at set earlier) (event_for sides.Target (posted_in earlier) s.given) (event_bytes (posted_in earlier) s.given (posted_bytes earlier all) given)
      (target_takes set earlier) (target_is_live joins set earlier) sound

  pub target_sound : (steps : List Step) → AllCarryBytes steps → TargetIsSound set (target_life steps) (target_at set steps)
  target_sound [] all = (tt, tt)
  target_sound (s ∷ earlier) (now, all) =
      let e = event_for sides.Target (posted_in earlier) s.given in
      noted_sound set s.notes (life_reached e (target_life earlier)) (target_at set earlier) (reached set e (target_at set earlier)) (step_sound s earlier (now, all) (target_sound earlier all)).0

  pub all_stay_or_are_new : (steps : List Step) → AllCarryBytes steps → AllStayOrAreNew set steps
  all_stay_or_are_new [] all = tt
  all_stay_or_are_new (s ∷ earlier) (now, all) = ((step_sound s earlier (now, all) (target_sound earlier all)).1, all_stay_or_are_new earlier all)

pub changes_are_new : SumsJoin → HeadersAreSpelled → PayloadsAreBytes → ChangesAreNew
changes_are_new joins spells payloads set steps permits all = all_stay_or_are_new joins spells payloads set permits steps all

-- ---- the target stays the same, and each installed load is good for it

module _ (set : Setting) where
  abbrev pub IsTarget : StandingView → Type 0
  IsTarget s = s.identity ≡ set.start.identity

  abbrev pub IsTargetIf : Option StandingView → Type 0
  IsTargetIf None = Unit {0}
  IsTargetIf (Some s) = IsTarget s

  abbrev pub HasTarget : TargetStanding → Type 0
  HasTarget (Is_up r) = IsTarget r.active
  HasTarget (Is_down active interrupted) = IsTarget active × IsTargetIf interrupted

  changed_target : (b : Bool) (after : StandingView) → IsTarget after → IsTargetIf (cond b None (Some after))
  changed_target true after is = tt
  changed_target false after is = is

  gone_target : (before after : TargetStanding) → HasTarget before → HasTarget after → HasTarget (gone_down before after)
  gone_target (Is_up r) (Is_up s) is then = (is, changed_target (r.active.sequence == s.active.sequence) s.active then)
  gone_target (Is_up r) (Is_down active interrupted) is then = then
  gone_target (Is_down active interrupted) after is then = is

  settled_target : (sequence : ℕ) (active : StandingView) (interrupted : Option StandingView) → IsTarget active → IsTargetIf interrupted → IsTarget (settled sequence active interrupted)
  settled_target sequence active None is then = is
  settled_target sequence active (Some new) is then = by (sequence == new.sequence)
    where
      by : (b : Bool) → IsTarget (cond b new active)
      by true = then
      by false = is

  come_target : (first_port sequence : ℕ) (state : TargetStanding) → HasTarget state → HasTarget (come_up first_port sequence state)
  come_target first_port sequence (Is_up r) is = is
  come_target first_port sequence (Is_down active interrupted) is = settled_target sequence active interrupted is.0 is.1

  pub noted_target : (notes : List Note) (before after : TargetStanding) → HasTarget before → HasTarget after → HasTarget (noted notes before after)
  noted_target [] before after is then = then
  noted_target (Went_down ∷ notes) before after is then =
      let down = gone_target before after is then in noted_target notes (gone_down before after) (gone_down before after) down down
  noted_target (Came_up first_port sequence ∷ notes) before after is then =
      let up = come_target first_port sequence (gone_down before after) (gone_target before after is then) in
      noted_target notes (come_up first_port sequence (gone_down before after)) (come_up first_port sequence (gone_down before after)) up up
  noted_target (Boot_refused fault ∷ notes) before after is then =
      let down = gone_target before after is then in noted_target notes (gone_down before after) (gone_down before after) down down

  new_target_is : (before after : TargetReading) → StaysOrIsNew set.accepts before after → IsTarget before.active → IsTarget after.active
  new_target_is before after (inl same) is = ap (λ (s : StandingView). s.identity) same ∙ is
  new_target_is before after (inr new) is = ap (λ (s : StandingView). s.identity) new.next ∙ is

  reached_target : (e : Option Event) (state : TargetStanding) → TargetStaysOrIsNew set state (reached set e state) → HasTarget state → HasTarget (reached set e state)
  reached_target None (Is_up r) change is = is
  reached_target (Some e) (Is_up r) change is = new_target_is r _ change is
  reached_target None (Is_down active interrupted) change is = is
  reached_target (Some e) (Is_down active interrupted) change is = is

  pub has_target : (steps : List Step) → AllStayOrAreNew set steps → HasTarget (target_at set steps)
  has_target [] all = refl
  has_target (s ∷ earlier) (change, all) =
      let is = has_target earlier all in
      noted_target s.notes (target_at set earlier) _ is (reached_target (event_for sides.Target (posted_in earlier) s.given) (target_at set earlier) change is)

  -- what is brought
  same_sequence : (before after : StandingView) → after ≡ before → (before.sequence == after.sequence) ≡ true
  same_sequence before after same = eq-eqb before.sequence after.sequence (sym (ap (λ (s : StandingView). s.sequence) same))

  none_brought : (state : TargetStanding) (before after : StandingView) → after ≡ before → BroughtIsGood set state (changed before after)
  none_brought state before after same = subst (λ (b : Bool). BroughtIsGood set state (cond b None (Some after))) (sym (same_sequence before after same)) tt

  brought_if : (state : TargetStanding) (b : Bool) (after : StandingView) → IsMadeOf state (AreGood set (active_in state)) after → BroughtIsGood set state (cond b None (Some after))
  brought_if state true after made = tt
  brought_if state false after made = made

  new_is_good : (before after : TargetReading) → StaysOrIsNew set.accepts before after → IsTarget before.active → BroughtIsGood set (Is_up before) (changed before.active after.active)
  new_is_good before after (inl same) is = none_brought (Is_up before) before.active after.active same
  new_is_good before after (inr new) is =
      let good : AreGood set before.active new.loads = subst (λ (id : Identity). AreGoodAfter (λ h kept. set.accepts h kept ≡ true) id (entries_of before.active.loads) [] new.loads) is new.new.good in
      brought_if (Is_up before) (before.active.sequence == after.active.sequence) after.active (new_is_made set.accepts before after new (AreGood set before.active) good)

  brought_is_good : (e : Option Event) (state : TargetStanding) → TargetStaysOrIsNew set state (reached set e state) → HasTarget state → BroughtIsGood set state (changed (active_in state) (active_in (reached set e state)))
  brought_is_good None (Is_up r) change is = none_brought (Is_up r) r.active r.active refl
  brought_is_good (Some e) (Is_up r) change is = new_is_good r _ change is
  brought_is_good None (Is_down active interrupted) change is = none_brought (Is_down active interrupted) active active refl
  brought_is_good (Some e) (Is_down active interrupted) change is = none_brought (Is_down active interrupted) active active refl

  all_brought_are_good : (steps : List Step) → AllStayOrAreNew set steps → AllBroughtAreGood set steps
  all_brought_are_good [] all = tt
  all_brought_are_good (s ∷ earlier) (change, all) =
      (brought_is_good (event_for sides.Target (posted_in earlier) s.given) (target_at set earlier) change (has_target earlier all), all_brought_are_good earlier all)

pub installs_are_good : SumsJoin → HeadersAreSpelled → PayloadsAreBytes → InstallsAreGood
installs_are_good joins spells payloads set steps permits all = all_brought_are_good set steps (changes_are_new joins spells payloads set steps permits all)
