-- How a store goes on over several calls.
use Rattle.std.proofs.Common.{◌≡◌, ℕ, ◌+◌, List, length, Result, Ok, Err, IfOk, OnOk, inl, inr, refl, sym, ap, subst, ◌∙◌, arith}
use Rattle.std.proofs.lemmas.Result.{IfOk-weaker}
use Rattle.disk_model.proofs.MomentLemmas.{power_kept}
use Rattle.disk_model.specs.State.{DiskState, KeepsCounts}
use Rattle.bank_store.specs.declared.store.Store.{Store}
use Rattle.bank_store.specs.DiskWrites.{IsRunning, TimeGoesOn}
use Rattle.bank_store.specs.Fits.{Fits}
use Rattle.bank_store.specs.Keeps.{Continues}
use Rattle.bank_store.proofs.KnownLemmas.{knows_on}
use Rattle.bank_store.specs.Store.{IsPrepared}
use Rattle.session_rules.specs.TargetRows as rows
use Rattle.session_rules.specs.TargetRows.{Writes_completion, Writes_progress}
use Rattle.session_rules.specs.Uploads.{UploadView}
use Rattle.disk_layout.specs.declared.active.Active.{Active}
use Rattle.disk_layout.specs.Manifest.{LoadEntry}
use Rattle.disk_layout.specs.Slots.{bank_number, other_bank, other_slot, slot_offset}
use Rattle.load_intake.specs.declared.down.Down.{Down}
use Rattle.load_intake.specs.declared.ended.UploadEnd.{UploadEnd}
use Rattle.load_intake.specs.declared.finished.Finished.{Finished}
use Rattle.load_intake.specs.declared.finished.Finished.TheVariants as finished
use Rattle.load_intake.specs.Intakes.{BeginsNext, HasSpareFor, end_view, row_seen}
use Rattle.load_intake.specs.Keeping.{entries}
use Rattle.load_intake.specs.Stores.{EndsFile, GivesUp, StoreGoesOn, GoesOnInStep, Installs, InstallsLoads, Leaves, Writes}

-- a call that makes none of the disk
pub continued : (before after : Store) (disk : DiskState) → Continues before after → IsRunning disk → StoreGoesOn before after disk disk
continued before after disk c running =
    let fits : Fits before disk → Fits after disk = λ f. record {
      running = f.running;
      holds = λ image told. let h = f.holds image told in (h.0, c.holds image h.0 h.1);
      work = λ image told. c.work image (f.work image told);
    } in
    record {
      active = c.active;
      running = running;
      fits = fits;
      works = λ w. record {
        fits = fits w.fits;
        near = λ image told left now. c.near image left (w.near image told left now);
        settled = λ sealed. w.settled (c.sealed sealed);
      };
    }

pub then_on : (a b c : Store) (d e f : DiskState) → StoreGoesOn a b d e → StoreGoesOn b c e f → StoreGoesOn a c d f
then_on a b c d e f first next = record {
  active = record { size = next.active.size ∙ first.active.size; active = next.active.active ∙ first.active.active; known = next.active.known ∙ first.active.known };
  running = next.running;
  fits = λ x. next.fits (first.fits x);
  works = λ x. next.works (first.works x);
}

pub gives_up : (before after : Store) (disk : DiskState) → Continues before after → IsPrepared after → IsRunning disk → GivesUp before after disk disk
gives_up before after disk c prepared running = record { prepared = prepared; goes_on = continued before after disk c running }

same_on : (store : Store) (disk : DiskState) → IsRunning disk → StoreGoesOn store store disk disk
same_on store disk running = record { active = record { size = refl; active = refl; known = refl }; running = running; fits = λ f. f; works = λ w. w }

-- a load is whole, and nothing was written
pub goes_on_here : (n : ℕ) (f : Finished) (u : UploadView) (store : Store) (disk : DiskState) → row_seen f ≡ Writes_progress u → BeginsNext f → GoesOnInStep f store → IsRunning disk → EndsFile n f store store disk disk
goes_on_here n (finished.MoreFiles intake) u store disk row begins step running = record { begins = begins; spare = tt; leaves = record { in_step = step; goes_on = same_on store disk running } }
goes_on_here n (finished.NextLoad intake) u store disk row begins step running = record { begins = begins; spare = tt; leaves = record { in_step = step; goes_on = same_on store disk running } }
goes_on_here n (finished.Stopped end) u store disk row begins step running = absurd cc
goes_on_here n (finished.Installed end loads) u store disk row begins step running = absurd cc

-- all loads are installed
pub installs_here : (n : ℕ) (f : Finished) (end : rows.UploadEnd) (loads : List LoadEntry) (before after : Store) (old new : DiskState) → row_seen f ≡ Writes_completion end loads → length end.request ≡ length loads → HasSpareFor n f
    → InstallsLoads loads before after old new → EndsFile n f before after old new
installs_here n (finished.MoreFiles intake) end loads before after old new row all spare is = absurd cc
installs_here n (finished.NextLoad intake) end loads before after old new row all spare is = absurd cc
installs_here n (finished.Stopped stop) end loads before after old new row all spare is = absurd cc
installs_here n (finished.Installed stop more) end loads before after old new row all spare is =
    let same : entries more.loads.items ≡ loads = cc in
    let requested : end_view stop ≡ end = cc in
    record {
      begins = tt;
      spare = spare;
      leaves = record {
        all = ap (λ (e : rows.UploadEnd). length e.request) requested ∙ all ∙ ap (λ (l : List LoadEntry). length l) (sym same);
        loads_are = subst (λ (l : List LoadEntry). InstallsLoads l before after old new) (sym same) is;
      };
    }

-- ---- the end of a file after other calls

pub later : (a b c : Store) (d e f : DiskState) → StoreGoesOn a b d e → Installs b c e f → Installs a c d f
later a b c d e f first next = record {
  size = next.size ∙ first.active.size;
  slot = next.slot ∙ ap (λ (x : Active). other_slot (slot_offset x.slot)) first.active.active;
  bank = next.bank ∙ ap (λ (x : Active). other_bank (bank_number x.bank)) first.active.active;
  sequence = next.sequence ∙ ap (λ (x : Active). x.sequence + 1) first.active.active;
  prepared = next.prepared;
  running = next.running;
  fits = λ x. next.fits (first.fits x);
  works = λ x. next.works (first.works x);
}

leaves_after : (x : Finished) (a b c : Store) (d e f : DiskState) → StoreGoesOn a b d e → Leaves x b c e f → Leaves x a c d f
leaves_after (finished.MoreFiles intake) a b c d e f first next = record { in_step = next.in_step; goes_on = then_on a b c d e f first next.goes_on }
leaves_after (finished.NextLoad intake) a b c d e f first next = record { in_step = next.in_step; goes_on = then_on a b c d e f first next.goes_on }
leaves_after (finished.Stopped end) a b c d e f first next = record { prepared = next.prepared; goes_on = then_on a b c d e f first next.goes_on }
leaves_after (finished.Installed end loads) a b c d e f first next = record {
  all = next.all;
  loads_are = record {
    installs = later a b c d e f first next.loads_are.installs;
    knows = λ active knows. next.loads_are.knows active (knows_on a b active first.active knows);
  };
}

pub ends_after : (n : ℕ) (r : Result Finished Down) (a b c : Store) (d e f : DiskState) → StoreGoesOn a b d e → IfOk r (λ x. EndsFile n x b c e f) → IfOk r (λ x. EndsFile n x a c d f)
ends_after n r a b c d e f first ends = IfOk-weaker r (λ x. EndsFile n x b c e f) (λ x. EndsFile n x a c d f) (λ x h. record { begins = h.begins; spare = h.spare; leaves = leaves_after x a b c d e f first h.leaves }) ends

pub stops_there : (n : ℕ) (end : UploadEnd) (before after : Store) (disk : DiskState) → Continues before after → IsPrepared after → IsRunning disk → EndsFile n (finished.Stopped end) before after disk disk
stops_there n end before after disk c prepared running = record { begins = tt; spare = tt; leaves = gives_up before after disk c prepared running }

-- or after a call that went on
pub stops_after : (n : ℕ) (end : UploadEnd) (before mid after : Store) (old new : DiskState) → StoreGoesOn before mid old new → Continues mid after → IsPrepared after → EndsFile n (finished.Stopped end) before after old new
stops_after n end before mid after old new first c prepared = record { begins = tt; spare = tt; leaves = leaves_after (finished.Stopped end) before mid after old new new first (gives_up mid after new c prepared first.running) }

-- ---- one call of the disk after another

time_after : (a b c : DiskState) → TimeGoesOn a b → TimeGoesOn b c → TimeGoesOn a c
time_after a b c one two = record {
  tells = two.tells ∙ one.tells;
  faults = omega (arith, one.faults, two.faults);
  refusals = omega (arith, one.refusals, two.refusals);
  later = omega (arith, one.later, two.later);
  keeps = λ t u image may. two.keeps t u image (one.keeps t u image may);
  earlier = λ t u image early may. one.earlier t u image early (two.earlier t u image (omega (arith, early, one.later)) may);
  power = power_kept a b c one.power two.power;
}

counts_after : (a b c : DiskState) → KeepsCounts a b → KeepsCounts b c → KeepsCounts a c
counts_after a b c one two = record { faults = two.faults ∙ one.faults; refusals = two.refusals ∙ one.refusals }

-- after a call that no call of the disk refused
later_counts : {T : Type 0} (a b c : DiskState) (result : Result T Down) → KeepsCounts a b → OnOk result (KeepsCounts b c) → OnOk result (KeepsCounts a c)
later_counts a b c (Ok x) one two = counts_after a b c one two
later_counts a b c (Err down) one two = tt

pub writes_after : {S T : Type 0} (a b c : DiskState) (x : S) (result : Result T Down) → Writes a b (Ok x) → Writes b c result → Writes a c result
writes_after a b c x result one two = record {
  goes_on = time_after a b c one.goes_on two.goes_on;
  running = two.running;
  counts = later_counts a b c result one.counts two.counts;
  cause = record { failed = λ is. let found = two.cause.failed is in (omega (arith, found.0, one.goes_on.faults), found.1) };
  memory = λ is. elim (two.memory is) [
    | inl runs ↦ inl (record { counts = counts_after a b c one.counts runs.counts; running = runs.running })
    | inr out ↦ inr (record { counted = omega (arith, out.counted, one.goes_on.refusals); stopped = out.stopped })
  ];
}
