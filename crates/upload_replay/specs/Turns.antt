-- What a turn of a run does to its link (docs/EXCHANGE.md, "Runs").
use Rattle.std.specs.Prelude.{◌≡◌, ◌≢◌, ℕ, ◌+◌, ◌≤◌, List, ◌++◌, Result, IsErrOf, IfErr, OnOk, ⊤}
use Rattle.load_base.specs.Counts.{Rose}
use Rattle.exchange_trace.specs.Happenings.{DatagramView}
use Rattle.link_net.specs.Links.{LinkState}
use Rattle.upload_replay.specs.declared.outcome.DriveFault.{DriveFault}
use Rattle.upload_replay.specs.declared.outcome.DriveFault.TheVariants as faults

-- the link, with these posts more
abbrev pub link_with : LinkState → List DatagramView → LinkState
link_with link posts = record { posted = link.posted ++ posts; given = link.given; plan = link.plan }

-- of these, the first were posted to the link
pub record IsPostedInPart (posts : List DatagramView) (link link_then : LinkState) : Type 0 where
  pub sent : List DatagramView
  pub left : List DatagramView
  pub parts : posts ≡ sent ++ left
  pub linked : link_then ≡ link_with link sent

-- a run that goes on ends without an outcome only where the link fails or memory is out
abbrev pub IsOfRun : DriveFault → Type 0
IsOfRun faults.Link = ⊤
IsOfRun faults.Memory = ⊤
IsOfRun fault = ⊥

-- The link's count of faults hasn't fallen. A failure of the link raised it, by one, and nothing else did: a run ends at the
-- first call of the link that fails.
pub record HasDriveCause {T : Type 0} (before now : ℕ) (result : Result T DriveFault) : Type 0 where
  pub later : before ≤ now
  pub failed : IsErrOf result faults.Link → Rose before now
  pub once : now ≤ before + 1
  pub ok : OnOk result (now ≡ before)
  pub others : IfErr result (λ fault. fault ≢ faults.Link → now ≡ before)

-- a turn, or all turns to the end, are refused only so
pub record EndsTurn {T : Type 0} (before now : ℕ) (result : Result T DriveFault) : Type 0 where
  pub told : IfErr result IsOfRun
  pub cause : HasDriveCause before now result
