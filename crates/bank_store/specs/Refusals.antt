-- What a store's calls refuse, and what is so after a refusal (docs/DISK.md).
use Rattle.std.specs.Prelude.{◌≡◌, ◌⊎◌, ◌↔◌, ℕ, Result, IsOk, IfErr, IsErrOf}
use Rattle.bank_store.specs.DiskWrites.{IsAnswered}
use Rattle.bank_store.specs.Store.{IsSpent}
use Rattle.bank_store.specs.declared.fault.StoreFault.{StoreFault}
use Rattle.bank_store.specs.declared.fault.StoreFault.TheVariants.{BankFull, SequenceSpent}
use Rattle.bank_store.specs.declared.store.Store.{Store}

-- An installation isn't begun exactly where the last sequence number is active, and then nothing is done to the disk; no bank
-- is too full for it, and each refusal leaves the store as it was.
pub record RefusesToBegin {T K : Type 0} (before after : Store) (old new : K) (result : Result T StoreFault) : Type 0 where
  pub spent : IsErrOf result SequenceSpent ↔ IsSpent before
  pub untouched : IsErrOf result SequenceSpent → new ≡ old
  pub not_full : (need have : ℕ) → ¬ IsErrOf result (BankFull need have)
  pub unchanged : IfErr result (λ fault. after ≡ before)

-- More than the bank has room for is refused, exactly where it passes the bank, and then nothing is done to the disk; no
-- sequence number is lacking for it, and each refusal leaves the store as it was.
pub record RefusesTooMuch {T K : Type 0} (passes : (need have : ℕ) → Type 0) (before after : Store) (old new : K) (result : Result T StoreFault) : Type 0 where
  pub full : (need have : ℕ) → IsErrOf result (BankFull need have) ↔ passes need have
  pub untouched : (need have : ℕ) → IsErrOf result (BankFull need have) → new ≡ old
  pub not_spent : ¬ IsErrOf result SequenceSpent
  pub unchanged : IfErr result (λ fault. after ≡ before)

-- Nothing that is asked is refused: only the disk or memory fails, and then this holds.
pub record OnlyFails {T : Type 0} (result : Result T StoreFault) (left : Type 0) : Type 0 where
  pub only_failures : IsOk result ⊎ ¬ IsAnswered result
  pub then_holds : IfErr result (λ fault. left)
