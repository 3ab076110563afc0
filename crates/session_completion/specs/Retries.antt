-- But for ticks, both ends do the same whatever their retries are (docs/EXCHANGE.md, "A fault-free run completes").
use Rattle.std.specs.Prelude.{◌≡◌, ℕ}
use Rattle.exchange_trace.specs.declared.trace.Side.TheVariants as sides
use Rattle.exchange_trace.specs.Logs.{Event, Ticks}
use Rattle.accept_rules.specs.Permissions.{Accepts}
use Rattle.session_rules.specs.Loader.{LoaderView, loader_after, loader_decision, loader_posts}
use Rattle.session_rules.specs.MediaFiles.{Media}
use Rattle.session_rules.specs.Target.{TargetView, target_after, target_decision, target_posts}
use Rattle.transfer_completion.specs.Retries.{retries_after}
use Rattle.session_completion.specs.Worlds.{retried_loader, retried_target}

abbrev pub IsNoTicking : Event → Type 0
IsNoTicking Ticks = ⊥
IsNoTicking e = Unit {0}

-- the retries after an event
abbrev pub loader_retries : Media → LoaderView → Event → ℕ → ℕ
loader_retries media v e retries = retries_after sides.Loader v.end (loader_decision media v e).moves retries

abbrev pub target_retries : Accepts → TargetView → Event → ℕ → ℕ
target_retries accepts v e retries = retries_after sides.Target v.end (target_decision accepts v e).moves retries

abbrev pub LoaderDoesTheSame : Type 0
LoaderDoesTheSame = (media : Media) (v : LoaderView) (retries : ℕ) (e : Event) → IsNoTicking e
    → (loader_after media (retried_loader v retries) e ≡ retried_loader (loader_after media v e) (loader_retries media v e retries))
    × (loader_posts media (retried_loader v retries) e ≡ loader_posts media v e)

abbrev pub TargetDoesTheSame : Type 0
TargetDoesTheSame = (accepts : Accepts) (v : TargetView) (retries : ℕ) (e : Event) → IsNoTicking e
    → (target_after accepts (retried_target v retries) e ≡ retried_target (target_after accepts v e) (target_retries accepts v e retries))
    × (target_posts accepts (retried_target v retries) e ≡ target_posts accepts v e)
