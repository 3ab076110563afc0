-- What a run leaves, however it ends (docs/EXCHANGE.md, "Runs"; docs/POWER.md).
use Rattle.std.specs.Prelude.{◌≡◌, ℕ, ◌≤◌, List, [], ◌∷◌, ◌++◌, is_some, true, Option, Some, None, Result, IsErrOf, ⊤}
use Rattle.accept_rules.specs.Permissions.{AcceptsPermitted}
use Rattle.disk_model.specs.Image.{Image}
use Rattle.disk_model.specs.State.{DiskState}
use Rattle.disk_layout.specs.Holds.{HoldsConfig, StandingView}
use Rattle.exchange_trace.specs.declared.trace.Side.TheVariants as sides
use Rattle.exchange_trace.specs.Happenings.{DatagramView, HappeningView}
use Rattle.exchange_trace.specs.Logs.{event_for}
use Rattle.exchange_trace.specs.Posts.{AllHonest, happenings_of, posted_in}
use Rattle.exchange_trace.specs.Steps.{Step}
use Rattle.link_net.specs.Links.{LinkState}
use Rattle.replay_rules.specs.BothEnds.{Setting, reached, target_at}
use Rattle.replay_rules.specs.Changes.{AllCarryBytes, InjectsBytes}
use Rattle.replay_rules.specs.Due.{AllDue, AllNoted}
use Rattle.replay_rules.specs.Histories.{may_be_active}
use Rattle.replay_rules.specs.Promises.{HoldsOneOf}
use Rattle.upload_replay.specs.Moments.{LeavesGood}
use Rattle.upload_replay.specs.declared.outcome.DriveFault.{DriveFault}
use Rattle.upload_replay.specs.declared.outcome.DriveFault.TheVariants as faults

-- all that may have been active in turn: at the start, and after each of these steps
abbrev pub all_active : Setting → List Step → List StandingView
all_active set [] = may_be_active (target_at set [])
all_active set (s ∷ earlier) = may_be_active (target_at set (s ∷ earlier)) ++ all_active set earlier

-- what may be active once a happening reached the target that came to no step of the trace, if there was one
abbrev pub brought_last : Setting → List Step → Option HappeningView → List StandingView
brought_last set steps None = []
brought_last set steps (Some h) = may_be_active (reached set (event_for sides.Target (posted_in steps) h) (target_at set steps))

-- and it too, among the happenings
abbrev pub with_last : Option HappeningView → List HappeningView → List HappeningView
with_last None happenings = happenings
with_last (Some h) happenings = h ∷ happenings

abbrev pub LastInjectsBytes : Option HappeningView → Type 0
LastInjectsBytes None = ⊤
LastInjectsBytes (Some h) = InjectsBytes h

-- all was posted but perhaps the last of the newest step's datagrams
abbrev pub IsPostedUpTo : List Step → List DatagramView → Type 0
IsPostedUpTo [] posted = posted ≡ []
IsPostedUpTo (s ∷ earlier) posted = (sent : List DatagramView) × (left : List DatagramView) × (s.posts ≡ sent ++ left) × (posted ≡ posted_in earlier ++ sent)

-- However a run ended that began on this link at this clock: there are its steps, and perhaps a happening more that came to no
-- step: that of the end, or one at which memory ran out. The link gave exactly these and was posted their datagrams, all of which were due, but perhaps
-- not the last. Each image that a power loss might have left since, or may leave now, holds what may have been active in turn,
-- now what may be active after these steps; so it is the configuration of the start, or one that an installation of these
-- steps made whole. Where the link failed, no happening was left over: so nothing is posted before what it reports is there.
pub record LeavesHistory {T : Type 0} (set : Setting) (began link : LinkState) (since : ℕ) (disk : DiskState) (result : Result T DriveFault) : Type 0 where
  pub steps : List Step
  pub last : Option HappeningView
  pub whole : IsErrOf result faults.Link → last ≡ None
  pub given : link.given ≡ with_last last (happenings_of steps) ++ began.given
  pub posted : IsPostedUpTo steps link.posted
  pub due : AllDue set steps
  pub noted : AllNoted set steps
  pub honest : AllHonest steps
  pub carries : AllCarryBytes steps
  pub injects : LastInjectsBytes last
  pub tells : is_some disk.reads ≡ true
  pub each : (u : ℕ) (image : Image) → disk.between since u image → HoldsOneOf (brought_last set steps last ++ all_active set steps) image
  pub here : (image : Image) → disk.now image → HoldsOneOf (brought_last set steps last ++ may_be_active (target_at set steps)) image

-- However a run ended, what is left of its disk is told by its steps, and is good where the interlock accepts only what it may.
pub record LeavesOfRun {T : Type 0} (set : Setting) (began link : LinkState) (since : ℕ) (disk : DiskState) (result : Result T DriveFault) : Type 0 where
  pub history : LeavesHistory set began link since disk result
  pub good : AcceptsPermitted set.accepts → LeavesGood set since disk

-- ---- what follows for what is left

-- a configuration of the same target as one at the start, and not older
pub record IsNoOlder (start s : StandingView) : Type 0 where
  pub identity : s.identity ≡ start.identity
  pub sequence : start.sequence ≤ s.sequence

-- the image holds such a configuration
pub record HoldsNoOlder (start : StandingView) (image : Image) : Type 0 where
  pub active : StandingView
  pub holds : HoldsConfig image active
  pub no_older : IsNoOlder start active
