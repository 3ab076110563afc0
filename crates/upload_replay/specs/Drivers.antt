-- What contracts see of a driver, and what holds of it as it goes on (docs/EXCHANGE.md, "Runs").
use Rattle.std.specs.Prelude.{◌≡◌, ℕ, ◌≤◌, List, [], ◌∷◌, ◌++◌, Bool, true, false, length, Option, Some}
use Rattle.std.specs.List.{AllByRecursion}
use Rattle.accept_rules.specs.Interlocks.{FollowsAccepts}
use Rattle.bank_store.specs.Fits.{LosesOnlyWork}
use Rattle.disk_layout.specs.declared.identity.Identity.{Identity}
use Rattle.disk_model.specs.State.{DiskState}
use Rattle.exchange_trace.specs.Happenings.{DatagramView, HappeningView, Ended}
use Rattle.exchange_trace.specs.Lines.{Line}
use Rattle.exchange_trace.specs.Posts.{happenings_of, posted_in}
use Rattle.exchange_trace.specs.Steps.{Step}
use Rattle.link_net.specs.Followed.{HasFollowed}
use Rattle.link_net.specs.Links.{LinkState}
use Rattle.load_header.specs.declared.header.LoadHeader.{LoadHeader}
use Rattle.accept_rules.specs.declared.kept.KeptLoad.{KeptLoad}
use Rattle.loader_machine.specs.Machine.{LoaderState, media_of}
use Rattle.replay_rules.specs.BothEnds.{Setting, waiting}
use Rattle.replay_rules.specs.Changes.{AllCarryBytes}
use Rattle.replay_rules.specs.Due.{AllNoted}
use Rattle.replay_rules.specs.Promises.{IsNoEnd}
use Rattle.replay_rules.specs.Ties.{IsTied}
use Rattle.media_check.specs.Sets.{SetView}
use Rattle.session_rules.specs.Loader.{new_loader}
use Rattle.target_machine.specs.Boots.{ComesUp}
use Rattle.target_machine.specs.Decisions as machine
use Rattle.replay_turns.specs.Powers.{RoseBy, disk_stops, stops_in}
use Rattle.replay_turns.specs.Turns.{RuleFollows, RunsWhileUp, target_kept}
use Rattle.upload_replay.specs.Drives.{LoaderGoesOn, NeverBoots}
use Rattle.upload_replay.specs.Moments.{HeldSoFar}

-- a loader and the target of one disk: the rule of the interlock, the identity that the first boot read, the steps so far, the
-- newest first, and both ends, of which the target may be down
pub record DriverState (R : Type 0) : Type 0 where
  pub rule : R
  pub identity : Identity
  pub steps : List Step
  pub loader : LoaderState
  pub target : Option (machine.TargetState R)

-- ---- as it goes on

-- No call of it was out of memory, and so it can be used, whatever is known of its disk: the loader keeps what its log says,
-- datagrams carry bytes, and the end hasn't come.
pub record GoesOn {R : Type 0} (d : DriverState R) : Type 0 where
  pub loader : LoaderGoesOn (media_of d.loader.set) d.steps d.loader.view
  pub carries : AllCarryBytes d.steps
  pub no_end : AllByRecursion (λ (s : Step). IsNoEnd s.given) d.steps

-- It stands on this setting: its media set, and what its rule accepts.
pub record StandsOn {R : Type 0} (may_say : R → LoadHeader → List KeptLoad → Bool → Type 0) (set : Setting) (d : DriverState R) : Type 0 where
  pub media : set.media ≡ media_of d.loader.set
  pub accepts : FollowsAccepts may_say d.rule set.accepts
  pub up : RuleFollows may_say set.accepts d.target

-- What both ends keep is what the trace says of them, all that was due was posted, and only that was noted of the target which
-- may be.
pub record IsTiedTo {R : Type 0} (set : Setting) (d : DriverState R) : Type 0 where
  pub tied : IsTied set d.steps d.loader.view (target_kept d.target) (posted_in d.steps)
  pub noted : AllNoted set d.steps

-- And its disk holds it, and held at each moment what was active then, since this clock, where its steps began at these.
pub record HoldsUnit {R : Type 0} (set : Setting) (since : ℕ) (clocks : List ℕ) (d : DriverState R) (disk : DiskState) : Type 0 where
  pub tied : IsTiedTo set d
  pub held : HeldSoFar set since clocks d.steps d.target disk

-- It may come to its end: it can be used, and its disk runs while its target is up.
pub record CanEnd {R : Type 0} (d : DriverState R) (disk : DiskState) : Type 0 where
  pub goes_on : GoesOn d
  pub running : RunsWhileUp d.target disk

-- ---- one step

-- It has one step more, in which this happened and this was posted, two datagrams at most; it stands on what it stood on, and goes on; its disk runs
-- while its target is up, and counted a fault where the step notes that it stopped.
pub record StepsUnit {R : Type 0} (h : HappeningView) (posts : List DatagramView) (before after : DriverState R) (old new : DiskState) : Type 0 where
  pub step : Step
  pub recorded : after.steps ≡ step ∷ before.steps
  pub given : step.given ≡ h
  pub posted : step.posts ≡ posts
  pub few : length posts ≤ 2
  pub rule : after.rule ≡ before.rule
  pub identity : after.identity ≡ before.identity
  pub media : after.loader.set ≡ before.loader.set
  pub goes_on : GoesOn after
  pub running : RunsWhileUp after.target new
  pub stops : RoseBy (stops_in h step.notes) old.faults new.faults

-- ---- over a link

-- the step in which the end comes
abbrev pub end_step : Step
end_step = record { given = Ended; posts = []; notes = [] }

-- the steps, with the end if it came
abbrev pub with_end : (ended : Bool) → List Step → List Step
with_end false steps = steps
with_end true steps = end_step ∷ steps

-- A link that began so gave exactly what happened, and was posted exactly what the ends posted.
pub record IsLinked (ended : Bool) (began link : LinkState) (steps : List Step) : Type 0 where
  pub given : link.given ≡ happenings_of (with_end ended steps) ++ began.given
  pub posted : link.posted ≡ posted_in steps

-- A turn may come: the driver can be used, and the link was posted exactly what its ends posted.
pub record IsDriverReady {R : Type 0} (link : LinkState) (d : DriverState R) (disk : DiskState) : Type 0 where
  pub goes_on : GoesOn d
  pub running : RunsWhileUp d.target disk
  pub posted : link.posted ≡ posted_in d.steps

-- A run of this media set goes on, or came to its end, on a link that began so, and on a disk that had failed so often then.
pub record IsUnderWay {R : Type 0} (ended : Bool) (began link : LinkState) (faults : ℕ) (media : SetView) (d : DriverState R) (disk : DiskState) : Type 0 where
  pub media_is : d.loader.set ≡ media
  pub given : link.given ≡ happenings_of (with_end ended d.steps) ++ began.given
  pub stops : RoseBy (disk_stops d.steps) faults disk.faults

-- It is tied to its trace; and where the link follows a script, so does the trace.
pub record RunGoesOn {R : Type 0} (set : Setting) (ended : Bool) (began link : LinkState) (d : DriverState R) : Type 0 where
  pub linked : IsLinked ended began link d.steps
  pub tied : IsTiedTo set d
  pub follows : (script : List Line) → HasFollowed (waiting set) script [] began → HasFollowed (waiting set) script (with_end ended d.steps) link

-- And its disk held at each moment what was active then.
pub record RunsOnDisk {R : Type 0} (set : Setting) (ended : Bool) (began link : LinkState) (since : ℕ) (d : DriverState R) (disk : DiskState) : Type 0 where
  pub goes_on : RunGoesOn set ended began link d
  pub clocks : List ℕ
  pub held : HeldSoFar set since clocks d.steps d.target disk

-- A run that stood on this setting stands on it after these turns too; it is tied to its trace still, where it was so as long as
-- no boot came, and its disk holds and held what was active, where it did so before.
pub record StaysOnSetting {R : Type 0} (may_say : R → LoadHeader → List KeptLoad → Bool → Type 0) (set : Setting) (ended : Bool) (link link_then : LinkState) (before after : DriverState R) (old new : DiskState) : Type 0 where
  pub stands : StandsOn may_say set after
  pub goes_on : (began : LinkState) → (NeverBoots before.steps → RunGoesOn set false began link before) → NeverBoots after.steps → RunGoesOn set ended began link_then after
  pub held : (began : LinkState) (since : ℕ) → RunsOnDisk set false began link since before old → RunsOnDisk set ended began link_then since after new

-- ---- at first

-- Nothing has happened, and the target came up: it stands on this rule and this media set, and its disk runs.
pub record BeginsUnit {R : Type 0} (rule : R) (media : SetView) (d : DriverState R) (old new : DiskState) : Type 0 where
  pub goes_on : GoesOn d
  pub nothing : d.steps ≡ []
  pub rule_is : d.rule ≡ rule
  pub loader_is : d.loader ≡ record { set = media; view = new_loader }
  pub running : RunsWhileUp d.target new
  pub target : machine.TargetState R
  pub target_is : d.target ≡ Some target
  pub up : ComesUp rule 1024 target old
  pub identity : d.identity ≡ target.view.active.identity

-- It came up on a disk that holds what this setting starts on: it stands on the setting and is tied to its trace, of no step yet;
-- and where a power loss takes only work from the disk, that holds what is active.
pub record BeginsOnSetting {R : Type 0} (may_say : R → LoadHeader → List KeptLoad → Bool → Type 0) (set : Setting) (d : DriverState R) (old new : DiskState) : Type 0 where
  pub stands : StandsOn may_say set d
  pub tied : IsTiedTo set d
  pub held : LosesOnlyWork old → HoldsUnit set old.clock [] d new
