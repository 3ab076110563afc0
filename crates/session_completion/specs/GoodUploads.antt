-- An upload of good loads, whatever is lost of it, repeated or late (docs/EXCHANGE.md, "A fault-free run completes").
use Rattle.std.specs.Prelude.{◌≡◌, ℕ, ◌<◌, ◌≤◌, List, length, true, false, Option, Ok, Contains}
use Rattle.std.specs.List.{AllByRecursion}
use Rattle.field_grammar.specs.Grammar.{IsBytes}
use Rattle.load_base.specs.Config.{FileView, LoadView}
use Rattle.load_protocol_files.specs.declared.lur.Wanted.{Wanted}
use Rattle.disk_layout.specs.Holds.{outline_of}
use Rattle.exchange_trace.specs.declared.trace.Side.{Side}
use Rattle.exchange_trace.specs.declared.trace.Side.TheVariants as sides
use Rattle.exchange_trace.specs.Happenings.{DatagramView}
use Rattle.exchange_trace.specs.Logs.{Starts_upload}
use Rattle.session_rules.specs.declared.outcome.SessionKind.TheVariants.{Upload}
use Rattle.session_rules.specs.MediaFiles.{wanted_of}
use Rattle.session_rules.specs.NewConfigs.{files_in}
use Rattle.session_rules.specs.TargetLog.{standing_after}
use Rattle.replay_rules.specs.AskedTraces.{EntriesFit}
use Rattle.replay_rules.specs.BothEnds.{Setting}
use Rattle.replay_rules.specs.FaultFree.{AreServed, ports_for}
use Rattle.replay_rules.specs.ListTraces.{OwnFilesAreNamed}
use Rattle.replay_rules.specs.Promises.{HasCompleted}
use Rattle.session_completion.specs.Clean.{AreAmong, AreEndsIdle}
use Rattle.session_completion.specs.Finish.{WorldFinishes}
use Rattle.session_completion.specs.Worlds.{World, at_loader, delivered, told, ticked, waits}

-- Both ends are idle, with ports for these loads; of 1 to 32 parts, the media set has these loads, which are good for the
-- target beside what is active there. What is named has names, and files are bytes.
pub record IsGoodStart (set : Setting) (parts : List (List ℕ)) (wanted : List Wanted) (loads : List LoadView) (w : World) : Type 0 where
  pub idle : AreEndsIdle set (ports_for loads) w
  pub some : 1 ≤ length parts
  pub few : length parts ≤ 32
  pub on_media : wanted_of set.media.loads parts ≡ Ok wanted
  pub served : AreServed set wanted loads
  pub entries : EntriesFit set.media
  pub own_files : OwnFilesAreNamed set
  pub bytes : AllByRecursion (λ (f : FileView). IsBytes f.bytes) (files_in loads)

abbrev pub started : Setting → List (List ℕ) → World → World
started set parts w = at_loader set w (Starts_upload set.start.identity.hw set.start.identity.pos parts)

abbrev pub retries_at : World → Side → ℕ
retries_at w sides.Loader = w.loader.end.retries
retries_at w sides.Target = w.target.end.retries

-- One world follows from another: block sizes are told, datagrams that were posted since the start are delivered, in any order
-- and as often as one likes or never, and an end that waits is ticked while it has retries left.
pub data Leads (set : Setting) (from : World) : World → Type 0 where
  begins : Leads set from from
  tells : (w : World) (size : Option ℕ) → Leads set from w → Leads set from (told set w size)
  delivers : (w : World) (d : DatagramView) → Leads set from w → Contains w.posts d → Leads set from (delivered set w d)
  ticks : (w : World) (side : Side) → Leads set from w → waits w side ≡ true → retries_at w side < 5 → Leads set from (ticked set w side)

-- It is finished, whatever is undelivered: neither end waits any more, the upload is completed, and what is active at the
-- target are its loads, and then those that are kept of what was active before.
pub record IsFinished (set : Setting) (loads : List LoadView) (w : World) (queue : List DatagramView) (first : Side) : Type 0 where
  pub last : World
  pub finishes : WorldFinishes set w queue first last
  pub loader : waits last sides.Loader ≡ false
  pub target : waits last sides.Target ≡ false
  pub completed : HasCompleted Upload last.loader.ended
  pub active : last.target.active ≡ outline_of (standing_after set.start loads)

-- Whatever happened since a good start, if both ends are within the margin, a `finish` completes the upload.
abbrev pub GoodUploadsComplete : Type 0
GoodUploadsComplete = (set : Setting) (parts : List (List ℕ)) (wanted : List Wanted) (loads : List LoadView) (before w : World) (queue : List DatagramView) (first : Side)
    → IsGoodStart set parts wanted loads before → Leads set (started set parts before) w → retries_at w sides.Loader ≤ 2 → retries_at w sides.Target ≤ 2
    → AreAmong w.posts queue → IsFinished set loads w queue first
