-- What a run leaves, as it goes on and however it ends.
use Rattle.std.proofs.Common.{◌≡◌, ◌⊎◌, inl, inr, ℕ, List, [], ◌∷◌, ◌++◌, true, false, Some, None, Result, Ok, Err, refl, sym, ap, ◌∙◌, ◌≤◌, Option, arith}
use Rattle.std.specs.Prelude.{IfErr, IsErrOf, is_some}
use Rattle.std.specs.List.{AllByRecursion}
use Rattle.std.proofs.lemmas.Bool.{cases_lt}
use Rattle.std.proofs.lemmas.List.{append-nil}
use Rattle.disk_model.specs.Image.{Image}
use Rattle.disk_model.specs.State.{DiskState, OnlyReads}
use Rattle.disk_layout.specs.Holds.{HoldsConfig, StandingView}
use Rattle.exchange_trace.specs.declared.trace.Side.TheVariants as sides
use Rattle.exchange_trace.specs.Happenings.{DatagramView, Ended, HappeningView}
use Rattle.exchange_trace.specs.Logs.{event_for}
use Rattle.exchange_trace.specs.Posts.{posted_in}
use Rattle.exchange_trace.specs.Steps.{Step}
use Rattle.link_net.specs.Links.{LinkState}
use Rattle.accept_rules.specs.Permissions.{AcceptsPermitted}
use Rattle.replay_rules.specs.BothEnds.{Setting, reached, target_at}
use Rattle.replay_rules.specs.Changes.{AllCarryBytes, InjectsBytes}
use Rattle.replay_rules.specs.FirstOrGood.{ActiveIsFirstOrGood, IsFirstOrGood}
use Rattle.run_promises.specs.Promises.{HoldsFirstOrGood}
use Rattle.replay_rules.specs.Histories.{may_be_active}
use Rattle.replay_rules.specs.Promises.{AllMoments, HoldsOneOf}
use Rattle.target_machine.specs.Decisions as machine
use Rattle.replay_turns.proofs.StepLemmas.{one_left, one_of_either, one_right}
use Rattle.replay_turns.specs.StepsOnDisks.{AddsInStep, LeavesNoMore}
use Rattle.upload_replay.specs.Drivers.{DriverState, GoesOn, IsLinked, IsTiedTo, RunsOnDisk}
use Rattle.upload_replay.specs.Leaves.{IsPostedUpTo, LastInjectsBytes, LeavesHistory, LeavesOfRun, all_active, brought_last}
use Rattle.upload_replay.specs.Moments.{AreClocks, HeldSoFar, LeavesGood}
use Rattle.upload_replay.specs.Turns.{IsPostedInPart}
use Rattle.upload_replay.specs.declared.outcome.DriveFault.{DriveFault}
use Rattle.upload_replay.specs.declared.outcome.DriveFault.TheVariants as faults

-- what may be active now is among all that may have been
active_among : (set : Setting) (steps : List Step) (image : Image) → HoldsOneOf (may_be_active (target_at set steps)) image → HoldsOneOf (all_active set steps) image
active_among set [] image is = is
active_among set (s ∷ earlier) image is = one_left image (may_be_active (target_at set (s ∷ earlier))) (all_active set earlier) is

-- steps began in their order
in_order : (since end : ℕ) (clocks : List ℕ) (steps : List Step) → AreClocks since end clocks steps → since ≤ end
in_order since end clocks [] same = omega (arith, same)
in_order since end [] (s ∷ earlier) timed = absurd timed
in_order since end (clock ∷ clocks) (s ∷ earlier) (order, timed) = let before = in_order since clock clocks earlier timed in omega (arith, before, order)

-- what was left at some moment since the first step began
module _ (set : Setting) (disk : DiskState) (wider : (s t u v : ℕ) (image : Image) → s ≤ t → u ≤ v → disk.between t u image → disk.between s v image)
    (splits : (t u v : ℕ) (image : Image) → t ≤ u → u ≤ v → disk.between t v image → disk.between t u image ⊎ disk.between u v image) (only : (t u : ℕ) (image : Image) → disk.clock ≤ t → disk.between t u image → disk.now image) where
  before_end : (since end : ℕ) (clocks : List ℕ) (s : Step) (earlier : List Step) → AreClocks since end clocks (s ∷ earlier) → AllMoments disk.between set end clocks (s ∷ earlier) → (image : Image) → disk.between since end image
      → HoldsOneOf (all_active set (s ∷ earlier)) image
  before_end since end [] s earlier timed moments image may = absurd timed
  before_end since end (clock ∷ clocks) s [] (order, same) (each, last, rest) image may =
      let then = may_be_active (target_at set (s ∷ [])) in
      elim (one_of_either image (may_be_active (target_at set [])) then (each image (wider clock since end end image (omega (arith, same)) (omega arith) may))) [
        | inl first ↦ one_right image then (all_active set []) first
        | inr later ↦ one_left image then (all_active set []) later
      ]
  before_end since end (clock ∷ clocks) s (t ∷ earlier) (order, timed) (each, last, moments) image may =
      let then = may_be_active (target_at set (s ∷ t ∷ earlier)) in
      elim (splits since clock end image (in_order since clock clocks (t ∷ earlier) timed) order may) [
        | inl before ↦ one_right image then (all_active set (t ∷ earlier)) (before_end since clock clocks t earlier timed moments image before)
        | inr here ↦ elim (one_of_either image (may_be_active (target_at set (t ∷ earlier))) then (each image here)) [
          | inl now ↦ one_right image then (all_active set (t ∷ earlier)) (active_among set (t ∷ earlier) image now)
          | inr later ↦ one_left image then (all_active set (t ∷ earlier)) later
        ]
      ]

  pub all_held : {R : Type 0} (since : ℕ) (clocks : List ℕ) (steps : List Step) (target : Option (machine.TargetState R)) → HeldSoFar set since clocks steps target disk → (u : ℕ) (image : Image) → disk.between since u image
      → HoldsOneOf (all_active set steps) image
  all_held since clocks [] target held u image may = held.holds.leaves image (only since u image (let same : disk.clock ≡ since = held.timed in omega (arith, same)) may)
  all_held since clocks (s ∷ earlier) target held u image may = elim (cases_lt u disk.clock) [
    | inl before ↦ before_end since disk.clock clocks s earlier held.timed held.moments image (wider since since u disk.clock image (omega arith) (omega (arith, before)) may)
    | inr late ↦ elim (splits since disk.clock u image (in_order since disk.clock clocks (s ∷ earlier) held.timed) (omega (arith, late)) may) [
      | inl before ↦ before_end since disk.clock clocks s earlier held.timed held.moments image before
      | inr here ↦ active_among set (s ∷ earlier) image (held.holds.leaves image (only disk.clock u image (omega arith) here))
    ]
  ]

all_posted : (steps : List Step) (posted : List DatagramView) → posted ≡ posted_in steps → IsPostedUpTo steps posted
all_posted [] posted is = is
all_posted (s ∷ earlier) posted is = (s.posts, [], sym (append-nil s.posts), is)

module _ {R T : Type 0} (set : Setting) (began : LinkState) (since : ℕ) (d : DriverState R) (disk : DiskState) (on : GoesOn d) (tied : IsTiedTo set d) (clocks : List ℕ) (held : HeldSoFar set since clocks d.steps d.target disk)
    (each : (u : ℕ) (image : Image) → disk.between since u image → HoldsOneOf (all_active set d.steps) image) (result : Result T DriveFault) where
  -- between two turns
  pub history_now : (link : LinkState) → IsLinked false began link d.steps → LeavesHistory set began link since disk result
  history_now link linked = record {
    steps = d.steps;
    last = None;
    whole = λ failed. refl;
    given = linked.given;
    posted = all_posted d.steps link.posted linked.posted;
    due = tied.tied.due;
    noted = tied.noted;
    honest = on.loader.honest;
    carries = on.carries;
    injects = tt;
    tells = held.holds.tells;
    each = each;
    here = held.holds.leaves;
  }

  -- where not all was posted
  pub history_posted : (steps : List Step) (s : Step) (link given link_then : LinkState) → d.steps ≡ s ∷ steps → IsLinked false began link steps → given.posted ≡ link.posted → given.given ≡ s.given ∷ link.given
      → IsPostedInPart s.posts given link_then → LeavesHistory set began link_then since disk result
  history_posted steps s link given link_then is linked posted happened part = record {
    steps = d.steps;
    last = None;
    whole = λ failed. refl;
    given = rw is (ap (λ (l : LinkState). l.given) part.linked ∙ (happened ∙ ap (λ (rest : List HappeningView). s.given ∷ rest) linked.given));
    posted = rw is (part.sent, part.left, part.parts, ap (λ (l : LinkState). l.posted) part.linked ∙ ap (λ (p : List DatagramView). p ++ part.sent) (posted ∙ linked.posted));
    due = tied.tied.due;
    noted = tied.noted;
    honest = on.loader.honest;
    carries = on.carries;
    injects = tt;
    tells = held.holds.tells;
    each = each;
    here = held.holds.leaves;
  }

  -- where something happened that came to no step
  pub history_last : (new : DiskState) (h : HappeningView) (link link_then : LinkState) → (IsErrOf result faults.Link → ⊥) → InjectsBytes h → IsLinked false began link d.steps → link_then.posted ≡ link.posted → link_then.given ≡ h ∷ link.given
      → AddsInStep set (event_for sides.Target (posted_in d.steps) h) (target_at set d.steps) disk new → LeavesHistory set began link_then since new result
  history_last new h link link_then not injects linked posted happened adds = record {
    steps = d.steps;
    last = Some h;
    whole = λ failed. absurd (not failed);
    given = happened ∙ ap (λ (rest : List HappeningView). h ∷ rest) linked.given;
    posted = all_posted d.steps link_then.posted (posted ∙ linked.posted);
    due = tied.tied.due;
    noted = tied.noted;
    honest = on.loader.honest;
    carries = on.carries;
    injects = injects;
    tells = adds.tells ∙ held.holds.tells;
    each = λ u image may. elim (adds.each since u image may) [
      | inl before ↦ one_right image brought (all_active set d.steps) (each u image before)
      | inr is ↦ elim (one_of_either image now brought is) [
        | inl here ↦ one_right image brought (all_active set d.steps) (active_among set d.steps image here)
        | inr later ↦ one_left image brought (all_active set d.steps) later
      ]
    ];
    here = λ image may. elim (one_of_either image now brought (adds.here image may)) [
      | inl was ↦ one_right image brought now was
      | inr later ↦ one_left image brought now later
    ];
  }
    where
      now : List StandingView
      now = may_be_active (target_at set d.steps)

      brought : List StandingView
      brought = may_be_active (reached set (event_for sides.Target (posted_in d.steps) h) (target_at set d.steps))

-- ---- answers

-- an answer that may be a fault
pub if_err : {T E : Type 0} (result : Result T E) (P : E → Type 0) → ((fault : E) → P fault) → IfErr result P
if_err (Ok x) P each = tt
if_err (Err fault) P each = each fault

-- the same fault as another answer
pub as_err : {S T : Type 0} (set : Setting) (began link : LinkState) (since : ℕ) (disk : DiskState) (fault : DriveFault) → LeavesHistory {T = S} set began link since disk (Err fault) → LeavesHistory {T = T} set began link since disk (Err fault)
as_err set began link since disk fault was = record {
  steps = was.steps;
  last = was.last;
  whole = λ failed. was.whole (let same : fault ≡ faults.Link = cc in ap (λ (f : DriveFault). Err f) same);
  given = was.given;
  posted = was.posted;
  due = was.due;
  noted = was.noted;
  honest = was.honest;
  carries = was.carries;
  injects = was.injects;
  tells = was.tells;
  each = was.each;
  here = was.here;
}

-- ---- as a run begins, and after its end

pub history_first : {T : Type 0} (set : Setting) (link : LinkState) (old new : DiskState) (result : Result T DriveFault) → link.posted ≡ [] → is_some old.reads ≡ true → ((t u : ℕ) (image : Image) → old.clock ≤ t → old.between t u image → old.now image)
    → ((left : Image) → old.now left → HoldsConfig left set.start) → OnlyReads old new → LeavesHistory set link link old.clock new result
history_first set link old new result unposted tells only alone reads = record {
  steps = [];
  last = None;
  whole = λ failed. refl;
  given = refl;
  posted = unposted;
  due = tt;
  noted = tt;
  honest = tt;
  carries = tt;
  injects = tt;
  tells = reads.tells ∙ tells;
  each = λ u image may. inl (alone image (only old.clock u image (omega arith) (reads.between old.clock u image may)));
  here = λ image may. inl (alone image (reads.now image may));
}

module _ {R T : Type 0} (set : Setting) (began link : LinkState) (since : ℕ) (d : DriverState R) (old new : DiskState) (on : GoesOn d) (runs : RunsOnDisk set true began link since d old)
    (each : (u : ℕ) (image : Image) → old.between since u image → HoldsOneOf (all_active set d.steps) image) (no_more : LeavesNoMore old new) (result : Result T DriveFault) (never : IsErrOf result faults.Link → ⊥) where
  abbrev brought : List StandingView
  brought = brought_last set d.steps (Some Ended)

  pub history_ended : LeavesHistory set began link since new result
  history_ended = record {
    steps = d.steps;
    last = Some Ended;
    whole = λ failed. absurd (never failed);
    given = runs.goes_on.linked.given;
    posted = all_posted d.steps link.posted runs.goes_on.linked.posted;
    due = runs.goes_on.tied.tied.due;
    noted = runs.goes_on.tied.noted;
    honest = on.loader.honest;
    carries = on.carries;
    injects = tt;
    tells = no_more.tells ∙ runs.held.holds.tells;
    each = λ u image may. one_right image brought (all_active set d.steps) (elim (no_more.each since u image may) [
      | inl before ↦ each u image before
      | inr left ↦ active_among set d.steps image (runs.held.holds.leaves image left)
    ]);
    here = λ image may. one_right image brought (may_be_active (target_at set d.steps)) (runs.held.holds.leaves image (no_more.now image may));
  }

-- ---- what is left is good

good_one : (set : Setting) (members : List StandingView) (image : Image) → AllByRecursion (IsFirstOrGood set) members → HoldsOneOf members image → HoldsFirstOrGood set image
good_one set [] image all is = absurd is
good_one set (s ∷ others) image (now, rest) (inl here) = record { active = s; holds = here; good = now }
good_one set (s ∷ others) image (now, rest) (inr other) = good_one set others image rest other

all_good : ActiveIsFirstOrGood → (set : Setting) → AcceptsPermitted set.accepts → (steps : List Step) → AllCarryBytes steps → (image : Image) → HoldsOneOf (all_active set steps) image → HoldsFirstOrGood set image
all_good active set accepts [] carries image is = good_one set (may_be_active (target_at set [])) image (active set [] accepts tt) is
all_good active set accepts (s ∷ earlier) carries image is = elim (one_of_either image (may_be_active (target_at set (s ∷ earlier))) (all_active set earlier) is) [
  | inl now ↦ good_one set (may_be_active (target_at set (s ∷ earlier))) image (active set (s ∷ earlier) accepts carries) now
  | inr before ↦ all_good active set accepts earlier carries.1 image before
]

last_good : ActiveIsFirstOrGood → (set : Setting) → AcceptsPermitted set.accepts → (steps : List Step) (last : Option HappeningView) → AllCarryBytes steps → LastInjectsBytes last → (image : Image) → HoldsOneOf (brought_last set steps last) image → HoldsFirstOrGood set image
last_good active set accepts steps None carries injects image is = absurd is
last_good active set accepts steps (Some h) carries injects image is =
    good_one set (brought_last set steps (Some h)) image (active set (record { given = h; posts = []; notes = [] } ∷ steps) accepts ((tt, injects), carries)) is

pub history_good : {T : Type 0} → ActiveIsFirstOrGood → (set : Setting) → AcceptsPermitted set.accepts → (began link : LinkState) (since : ℕ) (disk : DiskState) (result : Result T DriveFault) → LeavesHistory set began link since disk result → LeavesGood set since disk
history_good active set accepts began link since disk result left = record {
  tells = left.tells;
  only = record {
    each = λ u image may. elim (one_of_either image (brought_last set left.steps left.last) (all_active set left.steps) (left.each u image may)) [
      | inl later ↦ last_good active set accepts left.steps left.last left.carries left.injects image later
      | inr before ↦ all_good active set accepts left.steps left.carries image before
    ];
    here = λ image may. elim (one_of_either image (brought_last set left.steps left.last) (may_be_active (target_at set left.steps)) (left.here image may)) [
      | inl later ↦ last_good active set accepts left.steps left.last left.carries left.injects image later
      | inr now ↦ all_good active set accepts left.steps left.carries image (active_among set left.steps image now)
    ];
  };
}

pub left_of_run : {T : Type 0} → ActiveIsFirstOrGood → (set : Setting) (began link : LinkState) (since : ℕ) (disk : DiskState) (result : Result T DriveFault) → LeavesHistory set began link since disk result → LeavesOfRun set began link since disk result
left_of_run active set began link since disk result left = record { history = left; good = λ accepts. history_good active set accepts began link since disk result left }
