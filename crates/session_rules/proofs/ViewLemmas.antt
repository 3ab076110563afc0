-- Proofs that both ends follow their logs.
use Rattle.std.proofs.Common.{ℕ, List, [], ◌∷◌}
use Rattle.disk_layout.specs.Holds.{StandingView}
use Rattle.exchange_trace.specs.Logs.{Event}
use Rattle.transfer_end.specs.Laws.{IsLive}
use Rattle.accept_rules.specs.Permissions.{Accepts}
use Rattle.session_rules.proofs.BufferLemmas.{SumsJoin}
use Rattle.session_rules.specs.LoaderLog.{loader_reading}
use Rattle.session_rules.proofs.LoaderLemmas.{loader_follows}
use Rattle.session_rules.specs.Laws.{LoaderFollows, TargetFollows}
use Rattle.session_rules.specs.MediaFiles.{Media}
use Rattle.session_rules.specs.TargetLog.{target_reading}
use Rattle.session_rules.proofs.TargetLemmas.{target_follows}

-- the live transfer that a log has isn't over
pub loader_live : (media : Media) (log : List Event) → IsLive (loader_reading media log).end.live
loader_live media [] = tt
loader_live media (e ∷ log) = (loader_follows media (loader_reading media log) e (loader_live media log)).1

pub target_live : SumsJoin → (accepts : Accepts) (first_port : ℕ) (active : StandingView) (log : List Event) → IsLive (target_reading accepts first_port active log).end.live
target_live joins accepts first_port active [] = tt
target_live joins accepts first_port active (e ∷ log) = (target_follows joins accepts (target_reading accepts first_port active log) e (target_live joins accepts first_port active log)).1

pub loaders_follow : LoaderFollows
loaders_follow media log e = (loader_follows media (loader_reading media log) e (loader_live media log)).0

pub targets_follow : SumsJoin → TargetFollows
targets_follow joins accepts first_port active log e = (target_follows joins accepts (target_reading accepts first_port active log) e (target_live joins accepts first_port active log)).0
