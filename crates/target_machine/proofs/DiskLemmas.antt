-- What the target's disk has stays where nothing arrives.
use Rattle.std.specs.Prelude.{ℕ, List, [], Option, Some, None}
use Rattle.std.proofs.Common.{sym, subst}
use Rattle.std.proofs.lemmas.List.{append-nil}
use Rattle.disk_model.specs.State.{DiskState}
use Rattle.disk_layout.specs.Holds.{StandingView}
use Rattle.accept_rules.specs.Permissions.{Accepts}
use Rattle.bank_store.specs.declared.store.Store.{Store}
use Rattle.exchange_trace.specs.Logs.{Learns}
use Rattle.session_rules.specs.Contents.{SessionContents, TargetContents, contents_after, contents_continued}
use Rattle.session_rules.specs.Target.{TargetView}
use Rattle.load_intake.specs.Contents.{HoldsRow}
use Rattle.target_machine.specs.Disks.{HoldsContents}

pub quiet_contents : (store : Store) (disk : DiskState) (active : StandingView) (live : Option SessionContents) → HoldsContents store disk (record { active = active; live = live })
    → HoldsContents store disk (record { active = active; live = contents_continued live [] })
quiet_contents store disk active None holds = holds
quiet_contents store disk active (Some x) holds = record { beside = holds.beside; holds = subst (λ (bytes : List ℕ). HoldsRow store holds.beside.image x.row bytes) (sym (append-nil x.arrived)) holds.holds }

-- a block size that is told
pub learns_on : (accepts : Accepts) (v : TargetView) (size : Option ℕ) (store : Store) (disk : DiskState) (c : TargetContents) → HoldsContents store disk c → HoldsContents store disk (contents_after accepts v (Learns size) c)
learns_on accepts v size store disk c holds = quiet_contents store disk c.active c.live holds
