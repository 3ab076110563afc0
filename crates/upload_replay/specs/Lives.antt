-- What the target of a run does of whose disk nothing is known (docs/EXCHANGE.md, "Runs").
use Rattle.std.specs.Prelude.{◌≡◌, ℕ, List, [], ◌∷◌, ◌++◌, Bool, Option}
use Rattle.accept_rules.specs.Interlocks.{FollowsAccepts}
use Rattle.accept_rules.specs.Permissions.{Accepts}
use Rattle.load_header.specs.declared.header.LoadHeader.{LoadHeader}
use Rattle.accept_rules.specs.declared.kept.KeptLoad.{KeptLoad}
use Rattle.exchange_trace.specs.declared.trace.Side.TheVariants as sides
use Rattle.exchange_trace.specs.Happenings.{DatagramView}
use Rattle.exchange_trace.specs.Logs.{event_for}
use Rattle.exchange_trace.specs.Posts.{posted_in}
use Rattle.exchange_trace.specs.Steps.{Step}
use Rattle.session_rules.specs.MediaFiles.{Media}
use Rattle.session_rules.specs.Target.{TargetView}
use Rattle.loader_machine.specs.Machine.{media_of}
use Rattle.replay_rules.specs.Ties.{loader_says}
use Rattle.replay_turns.specs.Targets.{IsBorn, TargetLives}
use Rattle.replay_turns.specs.Turns.{RuleFollows, target_kept}
use Rattle.upload_replay.specs.Drivers.{DriverState}
use Rattle.upload_replay.specs.Drives.{loader_by}

-- In this step exactly that was posted which was due from the loader, by its log, and then what was due from the target, by what
-- it kept before the step.
pub record LivesInStep (media : Media) (accepts : Accepts) (s : Step) (earlier : List Step) (before after : Option TargetView) : Type 0 where
  pub target_posts : List DatagramView
  pub posts : s.posts ≡ loader_says media (loader_by media earlier) (event_for sides.Loader (posted_in earlier) s.given) ++ target_posts
  pub lives : TargetLives accepts (event_for sides.Target (posted_in earlier) s.given) before after target_posts s.notes

-- The target keeps this after these steps: it came up on some configuration, its first port 1024, and lived on in each of them.
-- Where it came up again, that was once more on some configuration, which has the sequence number that the step notes.
abbrev pub HasLived : Media → (accepts : Accepts) → List Step → Option TargetView → Type 0
HasLived media accepts [] target = (sequence : ℕ) × IsBorn 1024 sequence target
HasLived media accepts (s ∷ earlier) target = (before : Option TargetView) × HasLived media accepts earlier before × LivesInStep media accepts s earlier before target

-- so it lived in a whole run
abbrev pub LivesThrough : Media → (accepts : Accepts) → List Step → Type 0
LivesThrough media accepts steps = (target : Option TargetView) × HasLived media accepts steps target

-- The target of a driver so lived so far, whose rule accepts these loads.
pub record LivesOn {R : Type 0} (may_say : R → LoadHeader → List KeptLoad → Bool → Type 0) (accepts : Accepts) (d : DriverState R) : Type 0 where
  pub follows : FollowsAccepts may_say d.rule accepts
  pub up : RuleFollows may_say accepts d.target
  pub lived : HasLived (media_of d.loader.set) accepts d.steps (target_kept d.target)
