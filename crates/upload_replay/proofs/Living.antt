-- A target lives on, whatever is known of its disk.
use Rattle.std.proofs.Common.{◌≡◌, List, [], ◌∷◌, ◌++◌, Bool, Option, Some, None, refl, sym, ap, subst, ◌∙◌}
use Rattle.accept_rules.specs.Permissions.{Accepts}
use Rattle.load_header.specs.declared.header.LoadHeader.{LoadHeader}
use Rattle.accept_rules.specs.declared.kept.KeptLoad.{KeptLoad}
use Rattle.disk_layout.specs.declared.identity.Identity.{Identity}
use Rattle.disk_model.specs.State.{DiskState}
use Rattle.exchange_trace.specs.declared.trace.Side.TheVariants as sides
use Rattle.exchange_trace.specs.Happenings.{DatagramView, HappeningView}
use Rattle.exchange_trace.specs.Logs.{event_for}
use Rattle.exchange_trace.specs.Posts.{posted_in}
use Rattle.exchange_trace.specs.Steps.{Step}
use Rattle.session_rules.specs.Loader.{LoaderView}
use Rattle.session_rules.specs.MediaFiles.{Media}
use Rattle.session_rules.specs.Target.{TargetView}
use Rattle.loader_machine.specs.Machine.{media_of}
use Rattle.replay_rules.specs.BothEnds.{Setting, TargetStanding}
use Rattle.replay_rules.specs.Ties.{loader_says, target_next, target_says}
use Rattle.target_machine.specs.Boots.{ComesUp}
use Rattle.target_machine.specs.Decisions as machine
use Rattle.replay_turns.specs.Ends.{StepsAsSaid}
use Rattle.replay_turns.specs.Turns.{target_kept}
use Rattle.upload_replay.specs.Drivers.{DriverState, GoesOn, end_step}
use Rattle.upload_replay.specs.Drives.{loader_by}
use Rattle.upload_replay.specs.Lives.{HasLived, LivesInStep, LivesThrough}
use Rattle.upload_replay.proofs.Turning.{loader_turned, set_stays}

-- it came up, and nothing has happened
pub born : {R : Type 0} (accepts : Accepts) (rule : R) (media : Media) (steps : List Step) (target : machine.TargetState R) (disk : DiskState) → steps ≡ [] → ComesUp rule 1024 target disk
    → HasLived media accepts steps (Some target.view)
born accepts rule media steps target disk none up = rw none (target.view.active.sequence, record { found = target.view.active; is = ap (λ (v : TargetView). Some v) up.view_is; numbered = refl })

-- A setting with these media and headers; what its target holds at first plays no part in it.
abbrev pub some_setting : Media → (accepts : Accepts) → Identity → Setting
some_setting media accepts identity = record { media = media; accepts = accepts; start = record { identity = identity; bank = 0; sequence = 0; loads = [] } }

-- a step more
pub lived_on : {R : Type 0} (may_say : R → LoadHeader → List KeptLoad → Bool → Type 0) (set : Setting) (state : TargetStanding) (before after : DriverState R) (h : HappeningView) (posts : List DatagramView) (old new : DiskState)
    → StepsAsSaid may_say set state h posts before.steps after.steps before.loader after.loader before.target after.target old new → GoesOn before
    → HasLived (media_of before.loader.set) set.accepts before.steps (target_kept before.target) → HasLived (media_of after.loader.set) set.accepts after.steps (target_kept after.target)
lived_on may_say set state before after h posts old new said on lived =
    let moved = said.stepped in
    let media : Media = media_of before.loader.set in
    let e = event_for sides.Loader (posted_in before.steps) h in
    let says : moved.loader_posts ≡ loader_says media (loader_by media before.steps) e
    = (loader_turned e before.loader after.loader moved.loader_posts moved.takes).1 ∙ ap (λ (v : LoaderView). loader_says media v e) on.loader.kept in
    let step : Step = record { given = h; posts = posts; notes = moved.notes } in
    let here : LivesInStep media set.accepts step before.steps (target_kept before.target) (target_kept after.target) = record {
      target_posts = moved.target_posts;
      posts = moved.both_post ∙ ap (λ (sent : List DatagramView). sent ++ moved.target_posts) says;
      lives = said.lives;
    } in
    let same : media_of before.loader.set ≡ media_of after.loader.set
    = ap media_of (sym (set_stays h posts before.steps after.steps before.loader after.loader before.target after.target old new moved)) in
    subst (λ (m : Media). HasLived m set.accepts after.steps (target_kept after.target)) same
    (subst (λ (steps : List Step). HasLived media set.accepts steps (target_kept after.target)) (sym moved.recorded) (target_kept before.target, lived, here))

-- the end is no event for it
stays_same : (accepts : Accepts) (target : Option TargetView) → target ≡ target_next accepts target None
stays_same accepts None = refl
stays_same accepts (Some v) = refl

none_said : (accepts : Accepts) (target : Option TargetView) → [] ≡ target_says accepts target None
none_said accepts None = refl
none_said accepts (Some v) = refl

pub lived_to_end : (media : Media) (accepts : Accepts) (steps before : List Step) (target : Option TargetView) → steps ≡ end_step ∷ before → HasLived media accepts before target → LivesThrough media accepts steps
lived_to_end media accepts steps before target ended lived = rw ended (
  target,
  (target, lived, record { target_posts = []; posts = refl; lives = (stays_same accepts target, none_said accepts target) }),
)
