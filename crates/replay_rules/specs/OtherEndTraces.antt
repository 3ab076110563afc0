-- What arrives in a trace is what the other side sent (docs/EXCHANGE.md, "Runs").
use Rattle.std.specs.Prelude.{◌≡◌, List, [], ◌∷◌, ◌++◌, true, ⊤}
use Rattle.exchange_trace.specs.declared.trace.Side.TheVariants as sides
use Rattle.exchange_trace.specs.Logs.{event_for}
use Rattle.exchange_trace.specs.Posts.{AllHonest, posted_in}
use Rattle.exchange_trace.specs.Steps.{Note, Step}
use Rattle.transfer_end.specs.Moves.{past_with}
use Rattle.transfer_end.specs.OtherEnds.{Among, ComesFromEnd, HaveRoles, all_of, is_receiving}
use Rattle.transfer_end.specs.Transfers.{Transfer}
use Rattle.session_rules.specs.Fairness.{IsLoaderRole}
use Rattle.replay_rules.specs.BothEnds.{Setting, TargetStanding, Is_up, Is_down, loader_at, reached, target_at}
use Rattle.replay_rules.specs.Changes.{AllCarryBytes}
use Rattle.replay_rules.specs.Due.{AllDue, AllNoted}
use Rattle.replay_rules.specs.FaultFree.{NothingInjected}

-- ---- all transfers of a side

-- the transfers of the target since it came up
abbrev pub transfers_of : TargetStanding → List Transfer
transfers_of (Is_up r) = past_with r.end.live r.end.past
transfers_of (Is_down active interrupted) = []

-- the transfers of a life that ends in a step, where something is noted of the target's power
abbrev pub over_with : List Note → List Transfer → List Transfer
over_with [] transfers = []
over_with (note ∷ notes) transfers = transfers

-- The transfers of the target's former lives, the newest first; each as it was before the step in which its life ended.
abbrev pub former_at : Setting → List Step → List Transfer
former_at set [] = []
former_at set (s ∷ earlier) = over_with s.notes (transfers_of (target_at set earlier)) ++ former_at set earlier

abbrev pub loader_transfers : Setting → List Step → List Transfer
loader_transfers set steps = all_of (loader_at set steps).end []

-- of all lives, with what reaches the target in a step, before it may go down in it
abbrev pub target_transfers : Setting → Step → List Step → List Transfer
target_transfers set s earlier = transfers_of (reached set (event_for sides.Target (posted_in earlier) s.given) (target_at set earlier)) ++ former_at set earlier

-- ---- what arrives

-- After this step, each transfer of a side that receives a file gets what its other end sends: a transfer of the other side,
-- which has its port.
pub record ArrivesAsSent (set : Setting) (s : Step) (earlier : List Step) : Type 0 where
  pub at_loader : (t : Transfer) → Among t (loader_transfers set (s ∷ earlier)) → is_receiving t.role ≡ true → ComesFromEnd (target_transfers set s earlier) t
  pub at_target : (t : Transfer) → Among t (target_transfers set s earlier) → is_receiving t.role ≡ true → ComesFromEnd (loader_transfers set (s ∷ earlier)) t

abbrev pub AllArriveAsSent : Setting → List Step → Type 0
AllArriveAsSent set [] = ⊤
AllArriveAsSent set (s ∷ earlier) = ArrivesAsSent set s earlier × AllArriveAsSent set earlier

-- what is asked of a trace without injection: all that was posted was due, only that was noted which may be, the link is
-- honest, and datagrams carry bytes
pub record IsUninjected (set : Setting) (steps : List Step) : Type 0 where
  pub due : AllDue set steps
  pub noted : AllNoted set steps
  pub honest : AllHonest steps
  pub injected : NothingInjected steps
  pub carries : AllCarryBytes steps

-- Whatever is delivered, lost, repeated, reordered or delayed in a run, and wherever power fails, where nothing is injected
-- what arrives in each transfer is what its other end sent: in each step, also of what arrived before the target went down.
abbrev pub WhatArrivesWasSent : Type 0
WhatArrivesWasSent = (set : Setting) (steps : List Step) → IsUninjected set steps → AllArriveAsSent set steps

-- And each file that the loader gives is the media set's file of its name.
abbrev pub LoaderGivesMedia : Type 0
LoaderGivesMedia = (set : Setting) (steps : List Step) → HaveRoles (IsLoaderRole set.media) (loader_at set steps).end
