-- What calls keep that leave the disk as it was, or that fail.
use Rattle.std.proofs.Common.{Result, Err, refl, sym, subst, ◌∙◌}
use Rattle.disk_model.specs.Image.{Image}
use Rattle.disk_model.specs.State.{DiskState}
use Rattle.disk_model.specs.declared.disk.DiskFault.{DiskFault}
use Rattle.disk_model.specs.declared.disk.DiskFault.TheVariants as disk
use Rattle.disk_layout.specs.Holds.{HoldsConfig}
use Rattle.bank_store.specs.DiskWrites.{IsFailure, IsRunning}
use Rattle.bank_store.specs.Faults.{store_fault_of}
use Rattle.bank_store.specs.Fits.{HoldsFor}
use Rattle.bank_store.specs.Keeps.{LeavesActive, Keeps}
use Rattle.bank_store.specs.Store.{SameActive}
use Rattle.bank_store.specs.declared.fault.StoreFault.{StoreFault}
use Rattle.bank_store.specs.declared.store.Store.{Store}
use Rattle.bank_store.proofs.Gates.{same_image}
use Rattle.bank_store.proofs.Moments.{adds_none}
use Rattle.bank_store.proofs.Premises.{stands_now}
use Rattle.bank_store.proofs.Rests.{rest_unread}

pub same_active : (store : Store) → SameActive store store
same_active store = record { size = refl; active = refl; known = refl }

pub leaves_same : (store : Store) (disk : DiskState) → LeavesActive store disk disk
leaves_same store disk s beside = adds_none disk (λ left. HoldsConfig left s) (stands_now store disk s beside)

-- nothing was done
pub keeps_same : {T : Type 0} (store : Store) (disk : DiskState) (result : Result T StoreFault) → IsRunning disk → Keeps store store disk disk result
keeps_same store disk result running = record {
  active = same_active store;
  leaves = leaves_same store disk;
  answered = λ _. record {
    running = running;
    fits = λ fits. fits;
    works = λ works. works;
    holds = λ image told now later s was. subst (λ (i : Image). HoldsFor store i s) (same_image image now (sym told ∙ later)) was;
    rest = rest_unread store disk disk refl;
  };
}

of_disk : (fault : DiskFault) → IsFailure (store_fault_of fault)
of_disk disk.Failed = tt
of_disk disk.Memory = tt

-- the disk failed, and the same is active
pub keeps_active : {T : Type 0} (before after : Store) (old new : DiskState) (fault : DiskFault) → SameActive before after → LeavesActive before old new → Keeps {T = T} before after old new (Err (store_fault_of fault))
keeps_active before after old new fault same leaves = record {
  active = same;
  leaves = leaves;
  answered = λ answered. absurd (answered (of_disk fault));
}

-- and nothing became of the store
pub keeps_failed : {T : Type 0} (store : Store) (old new : DiskState) (fault : DiskFault) → LeavesActive store old new → Keeps {T = T} store store old new (Err (store_fault_of fault))
keeps_failed store old new fault leaves = keeps_active store store old new fault (same_active store) leaves
