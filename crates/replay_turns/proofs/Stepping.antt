-- What one step adds and leaves, however it ends.
use Rattle.std.proofs.Common.{◌≡◌, inl, ℕ, List, [], ◌∷◌, Bool, Option, Some, None, Result, Ok, Err, IfOk, refl, sym, ap, subst, ◌∙◌}
use Rattle.std.specs.Prelude.{is_some}
use Rattle.disk_model.specs.Image.{Image}
use Rattle.disk_model.specs.State.{DiskState, Elapses, OnlyReads}
use Rattle.disk_model.specs.Arming.{Arms}
use Rattle.disk_model.specs.declared.disk.DiskFault.{DiskFault}
use Rattle.disk_layout.specs.Holds.{StandingView}
use Rattle.disk_layout.specs.declared.fault.RecoverFault.TheVariants.{DiskFailed}
use Rattle.accept_rules.specs.Permissions.{Accepts}
use Rattle.bank_store.specs.DiskWrites.{TimeGoesOn}
use Rattle.bank_store.specs.Fits.{Works}
use Rattle.bank_store.specs.declared.store.Store.{Store}
use Rattle.load_header.specs.declared.header.LoadHeader.{LoadHeader}
use Rattle.accept_rules.specs.declared.kept.KeptLoad.{KeptLoad}
use Rattle.exchange_trace.specs.Logs.{Event, Learns}
use Rattle.exchange_trace.specs.Happenings.{DatagramView}
use Rattle.exchange_trace.specs.Steps.{Note, Went_down}
use Rattle.session_rules.specs.Contents.{TargetContents, contents_after, contents_of}
use Rattle.session_rules.specs.TargetLog.{target_view}
use Rattle.load_intake.specs.declared.down.Down.{Down}
use Rattle.replay_rules.specs.BothEnds.{Is_down, Is_up, Setting, TargetStanding, noted, reached}
use Rattle.replay_rules.specs.Due.{IsBooted}
use Rattle.replay_rules.specs.Ties.{target_next}
use Rattle.target_machine.specs.Decisions as machine
use Rattle.target_machine.proofs.DiskLemmas.{learns_on}
use Rattle.target_machine.specs.Disks.{KeepsDisk}
use Rattle.replay_turns.specs.declared.powering.PowerNote.{PowerNote}
use Rattle.replay_turns.specs.declared.powering.PowerNote.TheVariants as power
use Rattle.replay_turns.specs.Targets.{TargetTurns}
use Rattle.replay_turns.specs.StepsOnDisks.{AddsInStep, BeginsStep, BootIsTold, HasBooted, HasContents, HoldsRun, LeavesNoMore, StepsOn, WorksOn, contents_then}
use Rattle.replay_turns.specs.Turns.{TargetTakes, notes_of, target_kept}
use Rattle.replay_turns.proofs.BootLemmas.{down_as, down_holds, noted_down}
use Rattle.replay_turns.proofs.StepLemmas.{gone_keeps_none, adds_no_image, adds_nothing, adds_up, arms_holds, arms_no_more, both_no_more, gone_holds, has, reads_no_more, restart_no_more, up_holds}

-- ---- what a target keeps where no call of the disk is made

pub keeps_here : {T R : Type 0} (target : machine.TargetState R) (disk : DiskState) (c : TargetContents) (x : T) → HasContents target disk c → KeepsDisk {E = Down} disk target.store disk c c (Ok x)
keeps_here target disk c x has = record {
  adds = record { each = λ t u image may. inl may; here = λ image may. inl (has.alone image may) };
  first = λ t u image early may. inl may;
  holds = has.holds;
  alone = has.alone;
}

pub learns_keeps : {T R : Type 0} (accepts : Accepts) (size : Option ℕ) (target after : machine.TargetState R) (disk : DiskState) (c : TargetContents) (x : T) → after.store ≡ target.store → HasContents target disk c
    → KeepsDisk {E = Down} disk after.store disk c (contents_after accepts target.view (Learns size) c) (Ok x)
learns_keeps accepts size target after disk c x same has = rw same (record {
  adds = record { each = λ t u image may. inl may; here = λ image may. inl (has.alone image may) };
  first = λ t u image early may. inl may;
  holds = learns_on accepts target.view size target.store disk c has.holds;
  alone = has.alone;
})

-- ---- a target that is up takes what reaches it

module _ {S R : Type 0} (may_say : R → LoadHeader → List KeptLoad → Bool → Type 0) (set : Setting) (e : Option Event) (slot : Option (machine.TargetState R)) (t after : machine.TargetState R) (old new : DiskState) (result : Result S Down) (is : slot ≡ Some t)
    (now : (image : Image) → old.reads ≡ Some image → old.now image) (goes : TimeGoesOn old new)
    (keeps : (c : TargetContents) → HasContents t old c → KeepsDisk old after.store new c (contents_then set.accepts t.view e c) result) where
  begun : (state : TargetStanding) → BeginsStep may_say set state slot old → BeginsStep may_say set state (Some t) old
  begun state begins = subst (λ (o : Option (machine.TargetState R)). BeginsStep may_say set state o old) is begins

  adds_in : (state : TargetStanding) → BeginsStep may_say set state (Some t) old → AddsInStep set e state old new
  adds_in (Is_up r) begins =
      let keep = keeps (contents_of r) (has set e r t after old new result begins.follow begins.holds goes) in
      let was = begins.holds.works.beside in
      adds_up set e r t after old new result begins.follow begins.holds goes keep was.image (now was.image was.told)
  adds_in (Is_down active interrupted) begins = absurd (let wrong : Some t.view ≡ None = begins.holds.kept in cc)

  pub took_adds : (state : TargetStanding) → BeginsStep may_say set state slot old → AddsInStep set e state old new
  took_adds state begins = adds_in state (begun state begins)

  -- and answers
  holds_in : (y : S) → result ≡ Ok y → Some after.view ≡ target_next set.accepts (Some t.view) e → (state : TargetStanding) → BeginsStep may_say set state (Some t) old → HoldsRun set (reached set e state) (Some after) new
  holds_in y ok next (Is_up r) begins =
      let keep = rw ok at (keeps (contents_of r) (has set e r t after old new result begins.follow begins.holds goes)) in
      up_holds set e r t after old new begins.follow begins.holds goes next keep.holds keep.alone
  holds_in y ok next (Is_down active interrupted) begins = absurd (let wrong : Some t.view ≡ None = begins.holds.kept in cc)

  pub took_steps : {T : Type 0} (E : Type 0) (y : S) (x : T) (notes : T → List Note) → result ≡ Ok y → Some after.view ≡ target_next set.accepts (Some t.view) e → notes x ≡ [] → (state : TargetStanding) → BeginsStep may_say set state slot old
      → StepsOn {E = E} set e state (Some after) notes old new (Ok x)
  took_steps E y x notes ok next none state begins = record {
    adds = took_adds state begins;
    holds = subst (λ (list : List Note). HoldsRun set (noted list state (reached set e state)) (Some after) new) (sym none) (holds_in y ok next state (begun state begins));
    boots = subst (λ (list : List Note). BootIsTold (noted list state (reached set e state)) list) (sym none) tt;
  }

  -- or goes down
  pub down_steps : {T : Type 0} (E : Type 0) (gone : Option (machine.TargetState R)) (x : T) (notes : T → List Note) → gone ≡ None → notes x ≡ Went_down ∷ [] → (state : TargetStanding) → BeginsStep may_say set state slot old
      → StepsOn {R = R} {E = E} set e state gone notes old new (Ok x)
  down_steps E gone x notes none down state begins =
      let adds = took_adds state begins in
      subst (λ (o : Option (machine.TargetState R)). StepsOn {R = R} {E = E} set e state o notes old new (Ok x)) (sym none) (record {
        adds = adds;
        holds = subst (λ (list : List Note). HoldsRun {R = R} set (noted list state (reached set e state)) None new) (sym down)
            (gone_holds {R = R} set e state new begins.follow begins.holds.apart (goes.tells ∙ begins.holds.tells) adds.here);
        boots = subst (λ (list : List Note). BootIsTold (noted list state (reached set e state)) list) (sym down) tt;
      })

  -- or has no memory
  pub unmade_steps : {T E : Type 0} (after : Option (machine.TargetState R)) (notes : T → List Note) (fault : E) (state : TargetStanding) → BeginsStep may_say set state slot old → StepsOn {T = T} set e state after notes old new (Err fault)
  unmade_steps after notes fault state begins = record { adds = took_adds state begins; holds = tt; boots = tt }

pub next_of : {R : Type 0} (set : Setting) (e : Option Event) (before after : machine.TargetState R) (posts : List DatagramView) → TargetTakes set.accepts e before after posts → Some after.view ≡ target_next set.accepts (Some before.view) e
next_of set None before after posts takes = ap (λ t. Some t.view) takes.0
next_of set (Some e) before after posts takes = ap (λ v. Some v) takes.keeps

-- nothing reaches a target that is down
pub nothing_steps : {T R : Type 0} (E : Type 0) (may_say : R → LoadHeader → List KeptLoad → Bool → Type 0) (set : Setting) (e : Option Event) (state : TargetStanding) (disk : DiskState) (x : T) (notes : T → List Note) → notes x ≡ []
    → BeginsStep may_say set state None disk → StepsOn {R = R} {E = E} set e state None notes disk disk (Ok x)
nothing_steps E may_say set e (Is_up r) disk x notes none begins = absurd (let wrong : None ≡ Some (target_view r) = begins.holds.kept in cc)
nothing_steps {T} {R} E may_say set e (Is_down active interrupted) disk x notes none begins = by e
  where
    by : (e : Option Event) → StepsOn {R = R} {E = E} set e (Is_down active interrupted) None notes disk disk (Ok x)
    by None = record {
      adds = adds_nothing set (Is_down active interrupted) None disk begins.holds;
      holds = subst (λ (list : List Note). HoldsRun {R = R} set (noted list (Is_down active interrupted) (Is_down active interrupted)) None disk) (sym none) begins.holds;
      boots = subst (λ (list : List Note). BootIsTold (noted list (Is_down active interrupted) (Is_down active interrupted)) list) (sym none) tt;
    }
    by (Some event) =
        let adds = adds_nothing set (Is_down active interrupted) None disk begins.holds in
        record {
          adds = record { tells = adds.tells; later = adds.later; each = adds.each; here = adds.here; first = adds.first; earlier = adds.earlier };
          holds = subst (λ (list : List Note). HoldsRun {R = R} set (noted list (Is_down active interrupted) (Is_down active interrupted)) None disk) (sym none) begins.holds;
          boots = subst (λ (list : List Note). BootIsTold (noted list (Is_down active interrupted) (Is_down active interrupted)) list) (sym none) tt;
        }

-- ---- the same as another answer

pub steps_as : {R T S E F : Type 0} (set : Setting) (e : Option Event) (state : TargetStanding) (target : Option (machine.TargetState R)) (old new : DiskState) (notes : T → List Note) (more : S → List Note) (x : T) (y : S) → more y ≡ notes x
    → StepsOn {E = E} set e state target notes old new (Ok x) → StepsOn {E = F} set e state target more old new (Ok y)
steps_as set e state target old new notes more x y same steps = record {
  adds = steps.adds;
  holds = subst (λ (list : List Note). HoldsRun set (noted list state (reached set e state)) target new) (sym same) steps.holds;
  boots = subst (λ (list : List Note). BootIsTold (noted list state (reached set e state)) list) (sym same) steps.boots;
}

-- ---- a boot

pub booted_turns : {R : Type 0} (set : Setting) (state : TargetStanding) (before : Option (machine.TargetState R)) (after : Option (machine.TargetState R)) (note : PowerNote) (disk : DiskState) (port : ℕ) → IsBooted port (notes_of (Some note))
    → HoldsRun set (noted (notes_of (Some note)) state (reached set None state)) after disk → TargetTurns set None state (target_kept before) (target_kept after) [] (notes_of (Some note))
booted_turns set state before after power.Down disk port booted holds = absurd booted
booted_turns set state before after (power.Up first_port sequence) disk port booted holds = (holds.kept, refl, refl)
booted_turns set state before after (power.Refused fault) disk port booted holds = (holds.kept ∙ gone_keeps_none set state (reached set None state), refl, refl)

-- ---- an arming

-- a target that is up goes on working
armed_works : {R : Type 0} (set : Setting) (state : TargetStanding) (slot : Option (machine.TargetState R)) (old new : DiskState) (calls pick : ℕ) → Arms calls pick old new
    → ((t : machine.TargetState R) → slot ≡ Some t → (store : Store) → Works store old → Works store new) → WorksOn set state slot old → WorksOn set state slot new
armed_works set (Is_up r) None old new calls pick arms works holds = tt
armed_works set (Is_up r) (Some t) old new calls pick arms works holds = record {
  beside = record { works = works t refl t.store holds.beside.works; image = holds.beside.image; told = arms.reads ∙ holds.beside.told; holds = holds.beside.holds };
  holds = holds.holds;
}
armed_works set (Is_down active interrupted) slot old new calls pick arms works holds = tt

pub armed_steps : {R : Type 0} (E : Type 0) (may_say : R → LoadHeader → List KeptLoad → Bool → Type 0) (set : Setting) (state : TargetStanding) (slot : Option (machine.TargetState R)) (old new : DiskState) (calls pick : ℕ) → Arms calls pick old new
    → ((t : machine.TargetState R) → slot ≡ Some t → (store : Store) → Works store old → Works store new) → BeginsStep may_say set state slot old → StepsOn {E = E} set None state slot notes_of old new (Ok None)
armed_steps E may_say set state slot old new calls pick arms works begins = record {
  adds = adds_no_image set state slot old new begins.holds (arms_no_more old new calls pick arms);
  holds = arms_holds set state slot old new calls pick begins.holds arms (armed_works set state slot old new calls pick arms works begins.holds.works);
  boots = tt;
}

-- power is lost at once
pub cut_steps : {R : Type 0} (E : Type 0) (may_say : R → LoadHeader → List KeptLoad → Bool → Type 0) (set : Setting) (state : TargetStanding) (slot gone : Option (machine.TargetState R)) (old new : DiskState) (calls pick : ℕ) → gone ≡ None → Arms calls pick old new
    → BeginsStep may_say set state slot old → StepsOn {R = R} {E = E} set None state gone notes_of old new (Ok (Some power.Down))
cut_steps {R} E may_say set state slot gone old new calls pick none arms begins =
    let adds = adds_no_image set state slot old new begins.holds (arms_no_more old new calls pick arms) in
    subst (λ (o : Option (machine.TargetState R)). StepsOn {R = R} {E = E} set None state o notes_of old new (Ok (Some power.Down))) (sym none) (record {
      adds = adds;
      holds = gone_holds {R = R} set None state new begins.follow begins.holds.apart (ap is_some arms.reads ∙ begins.holds.tells) adds.here;
      boots = tt;
    })

-- ---- a target that is switched off and on

-- the disk failed as it was restarted
pub unrestarted_steps : {R T : Type 0} (E : Type 0) (may_say : R → LoadHeader → List KeptLoad → Bool → Type 0) (set : Setting) (state : TargetStanding) (slot gone : Option (machine.TargetState R)) (old new : DiskState) (result : Result T DiskFault)
    → gone ≡ None → Elapses old new old.now result → BeginsStep may_say set state slot old → StepsOn {R = R} {E = E} set None state gone (λ note. notes_of (Some note)) old new (Ok (power.Refused DiskFailed))
unrestarted_steps {R} E may_say set state slot gone old new result none elapses begins =
    subst (λ (o : Option (machine.TargetState R)). StepsOn {R = R} {E = E} set None state o (λ note. notes_of (Some note)) old new (Ok (power.Refused DiskFailed))) (sym none) (record {
      adds = adds_no_image set state slot old new begins.holds (restart_no_more old new result elapses);
      holds = down_holds {R = R} set state slot old new result begins.follow begins.holds elapses;
      boots = refl;
    })

pub failed_steps : {R S E : Type 0} (may_say : R → LoadHeader → List KeptLoad → Bool → Type 0) (set : Setting) (state : TargetStanding) (slot after : Option (machine.TargetState R)) (old new : DiskState) (notes : S → List Note) (fault : E) → LeavesNoMore old new
    → BeginsStep may_say set state slot old → StepsOn {T = S} set None state after notes old new (Err fault)
failed_steps may_say set state slot after old new notes fault no_more begins = record { adds = adds_no_image set state slot old new begins.holds no_more; holds = tt; boots = tt }

-- it was restarted, and the target comes up or stays down
pub restarted_steps : {R T : Type 0} (E : Type 0) (may_say : R → LoadHeader → List KeptLoad → Bool → Type 0) (set : Setting) (state : TargetStanding) (slot after : Option (machine.TargetState R)) (old there new : DiskState) (restarted : Result T DiskFault) (note : PowerNote)
    → Elapses old there old.now restarted → OnlyReads there new
    → ((active : StandingView) (interrupted : Option StandingView) → HoldsRun {R = R} set (Is_down active interrupted) None there
    → HasBooted set (noted (notes_of (Some note)) (Is_down active interrupted) (Is_down active interrupted)) (notes_of (Some note)) after new)
    → BeginsStep may_say set state slot old → StepsOn {E = E} set None state after (λ n. notes_of (Some n)) old new (Ok note)
restarted_steps {R} E may_say set state slot after old there new restarted note elapses reads comes begins =
    let down = down_as set state in
    let off : HoldsRun {R = R} set (Is_down down.active down.interrupted) None there =
    subst (λ (s : TargetStanding). HoldsRun {R = R} set s None there) down.is (down_holds {R = R} set state slot old there restarted begins.follow begins.holds elapses) in
    record {
      adds = adds_no_image set state slot old new begins.holds (both_no_more old there new (restart_no_more old there restarted elapses) (reads_no_more there new reads));
      holds = subst (λ (s : TargetStanding). HoldsRun set s after new) (noted_down set state note down) (comes down.active down.interrupted off).holds;
      boots = subst (λ (s : TargetStanding). BootIsTold s (notes_of (Some note))) (noted_down set state note down) (comes down.active down.interrupted off).boots;
    }

pub boots_steps : {R T E : Type 0} (may_say : R → LoadHeader → List KeptLoad → Bool → Type 0) (set : Setting) (state : TargetStanding) (slot after : Option (machine.TargetState R)) (old there new : DiskState) (restarted : Result T DiskFault) (result : Result PowerNote E)
    → Elapses old there old.now restarted → OnlyReads there new
    → ((active : StandingView) (interrupted : Option StandingView) → HoldsRun {R = R} set (Is_down active interrupted) None there
    → IfOk result (λ note. HasBooted set (noted (notes_of (Some note)) (Is_down active interrupted) (Is_down active interrupted)) (notes_of (Some note)) after new))
    → BeginsStep may_say set state slot old → StepsOn set None state after (λ n. notes_of (Some n)) old new result
boots_steps {R} {T} {E} may_say set state slot after old there new restarted (Ok note) elapses reads comes begins = restarted_steps E may_say set state slot after old there new restarted note elapses reads comes begins
boots_steps may_say set state slot after old there new restarted (Err fault) elapses reads comes begins =
    failed_steps may_say set state slot after old new (λ n. notes_of (Some n)) fault (both_no_more old there new (restart_no_more old there restarted elapses) (reads_no_more there new reads)) begins

pub errs_as : {R T S E F : Type 0} (set : Setting) (e : Option Event) (state : TargetStanding) (target : Option (machine.TargetState R)) (old new : DiskState) (notes : T → List Note) (more : S → List Note) (one : Result T E) (fault : F)
    → StepsOn set e state target notes old new one → StepsOn set e state target more old new (Err fault)
errs_as set e state target old new notes more one fault steps = record { adds = steps.adds; holds = tt; boots = tt }
