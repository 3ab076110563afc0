-- How a target comes up (docs/EXCHANGE.md, "The target").
use Rattle.std.specs.Prelude.{◌≡◌, ℕ, Result, OnOk, IfErr}
use Rattle.std.specs.Option.{ForSome}
use Rattle.disk_model.specs.Image.{Image}
use Rattle.disk_model.specs.State.{DiskState, OnlyReads}
use Rattle.disk_layout.specs.DiskReads.{HasDiskCause, RunsOn, RunsOnAfter}
use Rattle.disk_layout.specs.Holds.{HasDiskFault, StandingView, outline_of}
use Rattle.disk_layout.specs.declared.fault.RecoverFault.TheVariants as faults
use Rattle.bank_store.specs.Fits.{HoldsFor}
use Rattle.session_rules.specs.Target.{new_target}
use Rattle.target_machine.specs.Decisions.{TargetState}
use Rattle.target_machine.specs.declared.boot.BootFault.{BootFault}
use Rattle.target_machine.specs.declared.boot.BootFault.TheVariants.{Recover, Memory}

-- A target came up with this first port, under this rule: it keeps nothing of any exchange, and what is active is what the
-- disk holds.
pub record ComesUp {R : Type 0} (rule : R) (first_port : ℕ) (target : TargetState R) (disk : DiskState) : Type 0 where
  pub rule_is : target.rule ≡ rule
  pub view_is : target.view ≡ new_target first_port target.view.active
  pub active : ForSome disk.reads (λ image. (s : StandingView) × HoldsFor target.store image s × (outline_of s ≡ target.view.active))

-- why one didn't: what stands on the disk is refused, or the disk failed; out of memory is told by itself
abbrev pub BootFails : Image → BootFault → Type 0
BootFails image (Recover faults.DiskFailed) = Unit {0}
BootFails image (Recover faults.Memory) = ⊥
BootFails image (Recover fault) = HasDiskFault image fault
BootFails image Memory = Unit {0}

abbrev pub RunsOnAfterBoot : DiskState → DiskState → BootFault → Type 0
RunsOnAfterBoot old new (Recover fault) = RunsOnAfter old new fault
RunsOnAfterBoot old new Memory = RunsOnAfter old new faults.Memory

-- Nothing is written. The disk runs on unless a call of it was refused, and each of its refusals has its cause.
pub record BootReads {T : Type 0} (old new : DiskState) (result : Result T BootFault) : Type 0 where
  pub only_reads : OnlyReads old new
  pub ok : OnOk result (RunsOn old new)
  pub err : IfErr result (λ fault. RunsOnAfterBoot old new fault)
  pub cause : HasDiskCause (Recover faults.DiskFailed) old new result
