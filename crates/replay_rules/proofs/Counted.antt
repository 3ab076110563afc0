-- Proofs that what a completed upload installed stays, until a later installation replaces it.
use Rattle.std.proofs.Common.{◌≡◌, ◌⊎◌, inl, inr, ℕ, ◌+◌, Bool, true, false, cond, List, [], ◌∷◌, ◌++◌, Option, Some, None, refl, sym, ap, subst, ◌∙◌, arith, append_assoc}
use Rattle.std.specs.Prelude.{◌==◌}
use Rattle.std.proofs.lemmas.Bool.{eq-eqb, eqb-true}
use Rattle.disk_layout.specs.Holds.{StandingView}
use Rattle.exchange_trace.specs.declared.trace.Side.TheVariants as sides
use Rattle.exchange_trace.specs.Happenings.{Booted, DatagramView, HappeningView}
use Rattle.exchange_trace.specs.Logs.{Event, event_for}
use Rattle.exchange_trace.specs.Posts.{first_port_after, posted_in}
use Rattle.exchange_trace.specs.Steps.{Note, Step}
use Rattle.transfer_end.specs.OtherEnds.{Among, MovesStayFair}
use Rattle.session_rules.proofs.BufferLemmas.{SumsJoin}
use Rattle.session_rules.proofs.ReadFileLemmas.{RequestsAreSpelled}
use Rattle.session_rules.proofs.SoundLogLemmas.{PayloadsAreBytes}
use Rattle.session_rules.proofs.SoundnessLemmas.{HeadersAreSpelled}
use Rattle.session_rules.specs.TargetLog.{TargetReading, target_extended}
use Rattle.replay_rules.specs.BothEnds.{Is_down, Is_up, Setting, TargetStanding, changed, come_up, gone_down, noted, reached, settled, target_at}
use Rattle.replay_rules.proofs.ChangeLemmas.{changes_are_new}
use Rattle.replay_rules.specs.Changes.{AllStayOrAreNew, TargetStaysOrIsNew}
use Rattle.replay_rules.specs.Due.{AllNoted, goes_down, is_up}
use Rattle.replay_rules.specs.Histories.{active_at, active_by, active_in, brings, members_of, with_member}
use Rattle.replay_rules.specs.OwnSessionTraces.{CompletedStays, IsCountedLast, WasInstalledInSession}
use Rattle.replay_rules.proofs.AnsweredLater.{all_before}
use Rattle.replay_rules.proofs.AskedFor.{RequestsAreRead}
use Rattle.replay_rules.proofs.OwnSession.{completed_in_session, none_brought}
use Rattle.replay_rules.proofs.SentTraces.{NotedAs, came_up, noted_as, nothing_noted, was_refused, went_down}
use Rattle.replay_rules.proofs.ToldTraces.{StatusesAreSpelled}

-- ---- one member more

-- the same configuration, or one with the next sequence number
abbrev IsNext : (before after : StandingView) → Type 0
IsNext before after = (after ≡ before) ⊎ (after.sequence ≡ before.sequence + 1)

-- a configuration that was brought is a member, and no earlier one is active
record IsMember (members : List StandingView) (active new : StandingView) : Type 0 where
  later : List StandingView
  earlier : List StandingView
  split : members ≡ later ++ new ∷ earlier
  among : Among active (later ++ new ∷ [])

other_sequence : (before after : StandingView) → after.sequence ≡ before.sequence + 1 → (before.sequence == after.sequence) ≡ false
other_sequence before after next = by (before.sequence == after.sequence) refl
  where
    by : (b : Bool) → (before.sequence == after.sequence) ≡ b → b ≡ false
    by true e = let same : before.sequence ≡ after.sequence = eqb-true before.sequence after.sequence e in absurd (omega (arith, same, next))
    by false e = refl

member_then : (before after new : StandingView) (members : List StandingView) → IsNext before after → IsMember members before new → IsMember (with_member before after members) after new
member_then before after new members (inl same) h =
    let whole : with_member before after members ≡ members =
    ap (λ (b : Bool). cond b members (after ∷ members)) (eq-eqb before.sequence after.sequence (sym (ap (λ (x : StandingView). x.sequence) same))) in
    record { later = h.later; earlier = h.earlier; split = whole ∙ h.split; among = subst (λ (x : StandingView). Among x (h.later ++ new ∷ [])) (sym same) h.among }
member_then before after new members (inr next) h =
    let whole : with_member before after members ≡ after ∷ members = ap (λ (b : Bool). cond b members (after ∷ members)) (other_sequence before after next) in
    record { later = after ∷ h.later; earlier = h.earlier; split = whole ∙ ap (λ (x : List StandingView). after ∷ x) h.split; among = inl refl }

-- ---- what is active from one step to the next

-- what an interrupted installation would have made active has the next sequence number
abbrev DownFits : TargetStanding → Type 0
DownFits (Is_up r) = Unit {0}
DownFits (Is_down active None) = Unit {0}
DownFits (Is_down active (Some new)) = new.sequence ≡ active.sequence + 1

settled_next : (sequence : ℕ) (active : StandingView) (interrupted : Option StandingView) → DownFits (Is_down active interrupted) → IsNext active (settled sequence active interrupted)
settled_next sequence active None fits = inl refl
settled_next sequence active (Some new) fits = by (sequence == new.sequence)
  where
    by : (b : Bool) → IsNext active (cond b new active)
    by true = inr fits
    by false = inl refl

changed_fits : (before after : StandingView) → IsNext before after → DownFits (Is_down before (changed before after))
changed_fits before after (inl same) =
    subst (λ (b : Bool). DownFits (Is_down before (cond b None (Some after)))) (sym (eq-eqb before.sequence after.sequence (sym (ap (λ (x : StandingView). x.sequence) same)))) tt
changed_fits before after (inr next) = subst (λ (b : Bool). DownFits (Is_down before (cond b None (Some after)))) (sym (other_sequence before after next)) next

by_next : (set : Setting) (r : TargetReading) (e : Event) → TargetStaysOrIsNew set (Is_up r) (Is_up (target_extended set.accepts r e)) → IsNext r.active (target_extended set.accepts r e).active
by_next set r e (inl same) = inl same
by_next set r e (inr new) = inr (ap (λ (x : StandingView). x.sequence) new.next)

-- what holds of the target from before a step to after it
abbrev IsNextAndFits : (before after : TargetStanding) → Type 0
IsNextAndFits before after = IsNext (active_in before) (active_in after) × DownFits after

gone_on : (before after : TargetStanding) → IsNext (active_in before) (active_in after) → DownFits before → is_up before ≡ is_up after → IsNextAndFits before (gone_down before after)
gone_on (Is_up r) (Is_up then) next fits same = (inl refl, changed_fits r.active then.active next)
gone_on (Is_up r) (Is_down active interrupted) next fits same = absurd (let wrong : true ≡ false = same in cc)
gone_on (Is_down active interrupted) after next fits same = (inl refl, fits)

come_on : (first_port sequence : ℕ) (state : TargetStanding) → DownFits state → IsNextAndFits state (come_up first_port sequence state)
come_on first_port sequence (Is_up r) fits = (inl refl, tt)
come_on first_port sequence (Is_down active interrupted) fits = (settled_next sequence active interrupted fits, tt)

-- the active configuration of a target that is brought down stays
down_is : (state : TargetStanding) → active_in (gone_down state state) ≡ active_in state
down_is (Is_up r) = refl
down_is (Is_down active interrupted) = refl

reached_on : (set : Setting) (state : TargetStanding) (e : Option Event) → TargetStaysOrIsNew set state (reached set e state) → DownFits state → IsNextAndFits state (reached set e state) × (is_up state ≡ is_up (reached set e state))
reached_on set (Is_up r) None stays fits = ((inl refl, tt), refl)
reached_on set (Is_up r) (Some e) stays fits = ((by_next set r e stays, tt), refl)
reached_on set (Is_down active interrupted) None stays fits = ((inl refl, fits), refl)
reached_on set (Is_down active interrupted) (Some e) stays fits = ((inl refl, fits), refl)

next_from : (a b c : StandingView) → a ≡ b → IsNext a c → IsNext b c
next_from a b c same next = subst (λ (x : StandingView). IsNext x c) same next

at_boot : (posted : List DatagramView) (h : HappeningView) → h ≡ Booted → event_for sides.Target posted h ≡ None
at_boot posted h boots = ap (λ (x : HappeningView). event_for sides.Target posted x) boots

reached_at_boot : (set : Setting) (posted : List DatagramView) (h : HappeningView) (state : TargetStanding) → h ≡ Booted → reached set (event_for sides.Target posted h) state ≡ state
reached_at_boot set posted h state boots = ap (λ (x : Option Event). reached set x state) (at_boot posted h boots) ∙ by state
  where
    by : (state : TargetStanding) → reached set None state ≡ state
    by (Is_up r) = refl
    by (Is_down active interrupted) = refl

module _ (set : Setting) where
  step_on : (s : Step) (earlier : List Step) (notes : List Note) → NotedAs (first_port_after earlier) s.given notes → TargetStaysOrIsNew set (target_at set earlier) (reached set (event_for sides.Target (posted_in earlier) s.given) (target_at set earlier)) → DownFits (target_at set earlier)
      → IsNextAndFits (target_at set earlier) (noted notes (target_at set earlier) (reached set (event_for sides.Target (posted_in earlier) s.given) (target_at set earlier)))
  step_on s earlier notes nothing_noted stays fits = (reached_on set (target_at set earlier) (event_for sides.Target (posted_in earlier) s.given) stays fits).0
  step_on s earlier notes went_down stays fits =
      let (on, same) = reached_on set (target_at set earlier) (event_for sides.Target (posted_in earlier) s.given) stays fits in
      gone_on (target_at set earlier) (reached set (event_for sides.Target (posted_in earlier) s.given) (target_at set earlier)) on.0 fits same
  step_on s earlier notes (came_up first_port sequence port boots) stays fits =
      let (on, same) = reached_on set (target_at set earlier) (event_for sides.Target (posted_in earlier) s.given) stays fits in
      let down = gone_on (target_at set earlier) (reached set (event_for sides.Target (posted_in earlier) s.given) (target_at set earlier)) on.0 fits same in
      let then = come_on first_port sequence (gone_down (target_at set earlier) (reached set (event_for sides.Target (posted_in earlier) s.given) (target_at set earlier))) down.1 in
      let is : active_in (gone_down (target_at set earlier) (reached set (event_for sides.Target (posted_in earlier) s.given) (target_at set earlier))) ≡ active_in (target_at set earlier) =
      ap (λ (x : TargetStanding). active_in (gone_down (target_at set earlier) x)) (reached_at_boot set (posted_in earlier) s.given (target_at set earlier) boots) ∙ down_is (target_at set earlier) in
      (next_from _ _ _ is then.0, then.1)
  step_on s earlier notes (was_refused fault boots) stays fits =
      let (on, same) = reached_on set (target_at set earlier) (event_for sides.Target (posted_in earlier) s.given) stays fits in
      gone_on (target_at set earlier) (reached set (event_for sides.Target (posted_in earlier) s.given) (target_at set earlier)) on.0 fits same

  trace_step : (s : Step) (earlier : List Step) → AllNoted set (s ∷ earlier) → AllStayOrAreNew set (s ∷ earlier) → DownFits (target_at set earlier) → IsNextAndFits (target_at set earlier) (target_at set (s ∷ earlier))
  trace_step s earlier noted_so stays fits = step_on s earlier s.notes (noted_as (is_up (target_at set earlier)) (first_port_after earlier) s.given s.notes noted_so.0) stays.0 fits

  down_fits : (steps : List Step) → AllNoted set steps → AllStayOrAreNew set steps → DownFits (target_at set steps)
  down_fits [] noted_so stays = tt
  down_fits (s ∷ earlier) noted_so stays = (trace_step s earlier noted_so stays (down_fits earlier noted_so.1 stays.1)).1

  -- ---- what an install step brings

  active_if : (before after new : StandingView) → changed before after ≡ Some new → after ≡ new
  active_if before after new e = by (before.sequence == after.sequence) e
    where
      by : (b : Bool) → cond b None (Some after) ≡ Some new → after ≡ new
      by true f = absurd cc
      by false f = cc

  brought_is : (s : Step) (earlier : List Step) (new : StandingView) (notes : List Note) → NotedAs (first_port_after earlier) s.given notes → goes_down notes ≡ false → brings set s earlier ≡ Some new
      → active_in (noted notes (target_at set earlier) (reached set (event_for sides.Target (posted_in earlier) s.given) (target_at set earlier))) ≡ new
  brought_is s earlier new notes nothing_noted up brought = active_if (active_at set earlier) (active_in (reached set (event_for sides.Target (posted_in earlier) s.given) (target_at set earlier))) new brought
  brought_is s earlier new notes went_down up brought = absurd (let wrong : true ≡ false = up in cc)
  brought_is s earlier new notes (came_up first_port sequence port boots) up brought = absurd (none_brought set s earlier new (at_boot (posted_in earlier) s.given boots) brought)
  brought_is s earlier new notes (was_refused fault boots) up brought = absurd (none_brought set s earlier new (at_boot (posted_in earlier) s.given boots) brought)

  -- ---- members

  member_now : (s : Step) (earlier : List Step) (new : StandingView) → IsNext (active_at set earlier) (active_at set (s ∷ earlier)) → active_at set (s ∷ earlier) ≡ new → brings set s earlier ≡ Some new → IsMember (members_of set (s ∷ earlier)) (active_at set (s ∷ earlier)) new
  member_now s earlier new next is brought = by next
    where
      other : (active_at set earlier).sequence ≡ (active_at set (s ∷ earlier)).sequence → ⊥
      other same = by_test ((active_at set earlier).sequence == new.sequence) refl (subst (λ (x : StandingView). changed (active_at set earlier) x ≡ Some new) (active_if (active_at set earlier) _ new brought) brought)
        where
          by_test : (b : Bool) → ((active_at set earlier).sequence == new.sequence) ≡ b → cond b None (Some new) ≡ Some new → ⊥
          by_test true e f = cc
          by_test false e f = let wrong : true ≡ false = sym (eq-eqb (active_at set earlier).sequence new.sequence (same ∙ ap (λ (x : StandingView). x.sequence) is)) ∙ e in cc

      by : IsNext (active_at set earlier) (active_at set (s ∷ earlier)) → IsMember (members_of set (s ∷ earlier)) (active_at set (s ∷ earlier)) new
      by (inl same) = absurd (other (sym (ap (λ (x : StandingView). x.sequence) same)))
      by (inr more) = record {
        later = [];
        earlier = members_of set earlier;
        split = ap (λ (b : Bool). cond b (members_of set earlier) (active_at set (s ∷ earlier) ∷ members_of set earlier)) (other_sequence (active_at set earlier) (active_at set (s ∷ earlier)) more) ∙ ap (λ (x : StandingView). x ∷ members_of set earlier) is;
        among = inl (sym is);
      }

  member_since : (since : List Step) (s : Step) (earlier : List Step) (new : StandingView) → AllNoted set (since ++ s ∷ earlier) → AllStayOrAreNew set (since ++ s ∷ earlier) → goes_down s.notes ≡ false → brings set s earlier ≡ Some new
      → IsMember (members_of set (since ++ s ∷ earlier)) (active_at set (since ++ s ∷ earlier)) new
  member_since [] s earlier new noted_so stays up brought =
      member_now s earlier new (trace_step s earlier noted_so stays (down_fits earlier noted_so.1 stays.1)).0 (brought_is s earlier new s.notes (noted_as (is_up (target_at set earlier)) (first_port_after earlier) s.given s.notes noted_so.0) up brought) brought
  member_since (x ∷ since) s earlier new noted_so stays up brought =
      member_then (active_at set (since ++ s ∷ earlier)) (active_at set (x ∷ (since ++ s ∷ earlier))) new (members_of set (since ++ s ∷ earlier))
      (trace_step x (since ++ s ∷ earlier) noted_so stays (down_fits (since ++ s ∷ earlier) noted_so.1 stays.1)).0 (member_since since s earlier new noted_so.1 stays.1 up brought)

  -- what is recovered at the end
  last_next : (state : TargetStanding) (standing : Option StandingView) → DownFits state → IsNext (active_in state) (active_by state standing)
  last_next (Is_up r) standing fits = inl refl
  last_next (Is_down active interrupted) None fits = inl refl
  last_next (Is_down active interrupted) (Some s) fits = settled_next s.sequence active interrupted fits

  counted_last : (since : List Step) (s : Step) (earlier : List Step) (new : StandingView) (standing : Option StandingView) → AllNoted set (since ++ s ∷ earlier) → AllStayOrAreNew set (since ++ s ∷ earlier) → goes_down s.notes ≡ false → brings set s earlier ≡ Some new
      → IsCountedLast set (since ++ s ∷ earlier) standing new
  counted_last since s earlier new standing noted_so stays up brought =
      let h = member_then (active_at set (since ++ s ∷ earlier)) (active_by (target_at set (since ++ s ∷ earlier)) standing) new (members_of set (since ++ s ∷ earlier))
      (last_next (target_at set (since ++ s ∷ earlier)) standing (down_fits (since ++ s ∷ earlier) noted_so stays)) (member_since since s earlier new noted_so stays up brought) in
      record { later = h.later; earlier = h.earlier; counted = h.split; active = h.among }

-- ---- a trace

pub completed_stays : SumsJoin → MovesStayFair → HeadersAreSpelled → PayloadsAreBytes → RequestsAreSpelled → RequestsAreRead → StatusesAreSpelled → CompletedStays
completed_stays joins moves spells payloads requests reads statuses set since s earlier standing permits entries is ended completed =
    let h : WasInstalledInSession set (s ∷ earlier) = (completed_in_session joins moves spells payloads requests reads statuses set (s ∷ earlier) permits entries (all_before set since (s ∷ earlier) is)).0 ended completed in
    record { installed = h; stays = stays h }
  where
    split : (h : WasInstalledInSession set (s ∷ earlier)) → since ++ s ∷ earlier ≡ (since ++ h.since) ++ h.install ∷ (h.between ++ h.start ∷ h.before)
    split h = ap (λ (x : List Step). since ++ x) h.split ∙ sym (append_assoc since h.since (h.install ∷ (h.between ++ h.start ∷ h.before)))

    stays : (h : WasInstalledInSession set (s ∷ earlier)) → IsCountedLast set (since ++ s ∷ earlier) standing h.new
    stays h =
        subst (λ (x : List Step). IsCountedLast set x standing h.new) (sym (split h))
        (counted_last set (since ++ h.since) h.install (h.between ++ h.start ∷ h.before) h.new standing (subst (λ (x : List Step). AllNoted set x) (split h) is.noted)
        (subst (λ (x : List Step). AllStayOrAreNew set x) (split h) (changes_are_new joins spells payloads set (since ++ s ∷ earlier) permits is.carries)) h.stays_up h.brought)
