-- What is read of a disk piece by piece.
use Rattle.std.proofs.Common.{◌≡◌, ℕ, ◌+◌, ◌≤◌, List, [], ◌++◌, length, refl, ◌∙◌, ap, ap₂, arith, length-append}
use Rattle.std.specs.Option.{ForSome}
use Rattle.load_base.specs.Listed.{Listed}
use Rattle.disk_model.specs.Image.{range}
use Rattle.disk_model.proofs.MomentLemmas.{reads_joined}
use Rattle.disk_model.specs.State.{DiskState, KeepsCounts, OnlyReads}
use Rattle.disk_layout.proofs.RangeLemmas.{ranges_joined}
use Rattle.bank_store.specs.Bounds.{HasCapacity}
use Rattle.bank_store.specs.DiskWrites.{IsRunning}

-- So many bytes from this offset on were read, and nothing was written.
pub record ReadSoFar (old now : DiskState) (at done : ℕ) (bytes : Listed ℕ) : Type 0 where
  pub only_reads : OnlyReads old now
  pub reads : now.reads ≡ old.reads
  pub counts : KeepsCounts old now
  pub running : IsRunning now
  pub items : ForSome old.reads (λ image. bytes.items ≡ range image at done)
  pub size : length bytes.items ≡ done
  pub capacity : HasCapacity bytes

pub nothing_read : (disk : DiskState) (at : ℕ) (bytes : Listed ℕ) → IsRunning disk → OnlyReads disk disk → bytes.items ≡ [] → HasCapacity bytes → ReadSoFar disk disk at 0 bytes
unfolding range
nothing_read disk at bytes running same none capacity = record {
  only_reads = same;
  reads = refl;
  counts = record { faults = refl; refusals = refl };
  running = running;
  items = λ image told. none;
  size = ap length none;
  capacity = capacity;
}

counts_joined : (a b c : DiskState) → KeepsCounts a b → KeepsCounts b c → KeepsCounts a c
counts_joined a b c first second = record { faults = second.faults ∙ first.faults; refusals = second.refusals ∙ first.refusals }

-- a piece more
pub more_read : (old mid new : DiskState) (at done n : ℕ) (before after : Listed ℕ) (piece : List ℕ) → ReadSoFar old mid at done before → OnlyReads mid new → new.reads ≡ mid.reads → KeepsCounts mid new → IsRunning new
    → ForSome mid.reads (λ image. piece ≡ range image (at + done) n) → length piece ≡ n → after.items ≡ before.items ++ piece → before.spare ≤ after.spare + length piece → ReadSoFar old new at (done + n) after
more_read old mid new at done n before after piece was reads same counts running there size items spare = record {
  only_reads = reads_joined old mid new was.only_reads reads;
  reads = same ∙ was.reads;
  counts = counts_joined old mid new was.counts counts;
  running = running;
  items = λ image told. items ∙ ap₂ (λ (a : List ℕ) (b : List ℕ). a ++ b) (was.items image told) (there image (was.reads ∙ told)) ∙ ranges_joined image at done (at + done) n refl;
  size = ap length items ∙ length-append before.items piece ∙ ap₂ (λ (a : ℕ) (b : ℕ). a + b) was.size size;
  capacity = omega (arith, was.capacity, spare, ap length items ∙ length-append before.items piece);
}
