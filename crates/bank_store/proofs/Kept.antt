-- A load that is kept, as the store counts it.
use Rattle.std.proofs.Common.{◌≡◌, ℕ, ◌+◌, ◌-◌, ◌<◌, ◌≤◌, Bool, List, ◌++◌, length, take, drop, refl, sym, ◌∙◌, ap, subst, arith, length-append}
use Rattle.std.proofs.lemmas.List.{length-drop, length-take-le, take_rest}
use Rattle.load_base.specs.Listed.{Listed}
use Rattle.disk_layout.specs.Offsets.{most_loads}
use Rattle.disk_layout.specs.declared.active.Active.{Active}
use Rattle.bank_store.specs.Bounds.{IsFillingInRange, IsStore, longest_load}
use Rattle.bank_store.specs.Store.{load_kept}
use Rattle.bank_store.specs.declared.stage.Stage.{Stage}
use Rattle.bank_store.specs.declared.stage.Stage.TheVariants as stages
use Rattle.bank_store.specs.declared.stage.Filling.{Filling}
use Rattle.bank_store.proofs.Continuing.{filling_not_idle, filling_not_sealed}

one_filling : (a b : Filling) → ◌≡◌ {A = Stage} (stages.Filling a) (stages.Filling b) → a ≡ b
one_filling a b e = cc

-- how long a part is that lies within
pub length_part : (bytes : List ℕ) (from n : ℕ) → from + n ≤ length bytes → length (take n (drop from bytes)) ≡ n
length_part bytes from n within = length-take-le n (drop from bytes) (omega (arith, within, length-drop from bytes))

-- a part of a part, as slices of slices are
pub same_part : (told bytes : List ℕ) (from n : ℕ) → told ≡ bytes → take n (take (length told - from) (drop from told)) ≡ take n (drop from bytes)
same_part told bytes from n is = ap (λ (l : List ℕ). take n l) (take_rest told from) ∙ ap (λ (l : List ℕ). take n (drop from l)) is

-- the store stays within its bounds with such a load more
pub kept_in_range : (size : ℕ) (active : Active) (known : Listed ℕ) (other_is_open : Bool) (old new : Listed ℕ) (progress : Filling) (stage : Stage) (entry : List ℕ) (count : ℕ) → stage ≡ stages.Filling progress
    → IsStore size active known other_is_open old stage → progress.loads < most_loads → progress.missing ≡ 0 → progress.end + count ≤ size → length entry ≤ longest_load → new.items ≡ old.items ++ entry
    → old.spare ≤ new.spare + length entry → IsStore size active known other_is_open new (stages.Filling (load_kept count progress))
kept_in_range size active known other_is_open old new progress stage entry count is was few none fits short items spare =
    let begun = was.begun (λ idle. filling_not_idle progress (sym is ∙ idle)) in
    let range = was.in_range progress is in
    let longer : length new.items ≡ length old.items + length entry = ap length items ∙ length-append old.items entry in
    record {
      is_size = was.is_size;
      manifest = was.manifest;
      idle = λ idle. absurd (filling_not_idle (load_kept count progress) idle);
      begun = λ _. record { shut = begun.shut; goes_on = begun.goes_on; spare = omega (arith, begun.spare, longer, spare); known_spare = begun.known_spare };
      in_range = λ other there. subst (λ (p : Filling). IsFillingInRange size new p) (one_filling (load_kept count progress) other there) (record {
        few = omega (arith, few);
        missing = range.missing;
        taken = omega (arith, range.taken, longer, short, none);
        start = omega arith;
        end = fits;
        whole = λ _. refl;
      });
      sealed = λ manifest there. absurd (filling_not_sealed (load_kept count progress) manifest there);
    }
