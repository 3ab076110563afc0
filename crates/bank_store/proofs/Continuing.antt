-- Calls that don't touch the disk.
use Rattle.std.proofs.Common.{◌≡◌, ℕ, List, [], ◌∷◌, sym, ap, ap₂, ◌∙◌, subst, false}
use Rattle.load_base.specs.Config.{LoadView}
use Rattle.disk_model.specs.Image.{Image, range, overlay}
use Rattle.disk_layout.specs.Holds.{StandingView, HoldsBy}
use Rattle.disk_layout.specs.Slots.{other_slot, manifest_offset_of, manifest_length_of}
use Rattle.disk_layout.specs.declared.active.ManifestRange.{ManifestRange}
use Rattle.bank_store.specs.Store.{active_slot, with_gate_open, IsIdle, IsFilling, IsSealed, SameActive}
use Rattle.bank_store.specs.Given.{Given, HasGiven, configured}
use Rattle.bank_store.specs.Fits.{HoldsAt, HasWork, IsReady}
use Rattle.bank_store.specs.Keeps.{Continues}
use Rattle.bank_store.specs.declared.store.Store.{Store}
use Rattle.bank_store.specs.declared.stage.Stage.{Stage}
use Rattle.bank_store.specs.declared.stage.Stage.TheVariants as stages
use Rattle.bank_store.specs.declared.stage.Filling.{Filling}
use Rattle.bank_store.proofs.Carried.{same_slot, work_carried, near_carried, stands_carried}
use Rattle.bank_store.proofs.Giving.{same_filling}

pub given_of : (store : Store) (image : Image) (progress : Filling) → IsFilling store progress → HasWork store image → (g : Given) × HasGiven store image g
given_of store image progress filling work = subst (λ (stage : Stage). HoldsAt store image stage) filling work

pub has_work : (store : Store) (image : Image) (progress : Filling) (g : Given) → IsFilling store progress → HasGiven store image g → HasWork store image
has_work store image progress g filling has = subst (λ (stage : Stage). HoldsAt store image stage) (sym filling) (g, has)

pub filling_not_sealed : (progress : Filling) (manifest : ManifestRange) → ◌≡◌ {A = Stage} (stages.Filling progress) (stages.Sealed manifest) → ⊥
filling_not_sealed progress manifest e = cc

pub idle_not_sealed : (manifest : ManifestRange) → ◌≡◌ {A = Stage} stages.Idle (stages.Sealed manifest) → ⊥
idle_not_sealed manifest e = cc

pub not_sealed : (store : Store) (progress : Filling) → IsFilling store progress → ¬ IsSealed store
not_sealed store progress filling is = filling_not_sealed progress is.0 (sym filling ∙ is.1)

-- more was given
pub continues_filling : (old new : Store) (from to : Filling) (step : Given → Given) → SameActive old new → new.other_is_open ≡ old.other_is_open → IsFilling old from → IsFilling new to
    → ((image : Image) (g : Given) → HasGiven old image g → HasGiven new image (step g)) → Continues old new
continues_filling old new from to step rules gate was is each = record {
  active = rules;
  gate = gate;
  holds = stands_carried old new rules gate;
  work = λ image work. let g = given_of old image from was work in has_work new image to (step g.0) is (each image g.0 g.1);
  near = near_carried old new rules gate;
  sealed = λ sealed. absurd (not_sealed new to is sealed);
}

-- an installation is given up, or none has begun
pub continues_idle : (old new : Store) → SameActive old new → new.other_is_open ≡ old.other_is_open → IsIdle new → Continues old new
continues_idle old new rules gate is = record {
  active = rules;
  gate = gate;
  holds = stands_carried old new rules gate;
  work = λ image work. subst (λ (stage : Stage). HoldsAt new image stage) (sym is) tt;
  near = near_carried old new rules gate;
  sealed = λ sealed. absurd (idle_not_sealed sealed.0 (sym is ∙ sealed.1));
}

pub filling_not_idle : (progress : Filling) → ◌≡◌ {A = Stage} (stages.Filling progress) stages.Idle → ⊥
filling_not_idle progress e = cc

-- while contents are coming the other slot is shut
pub begun_shut : (store : Store) (progress : Filling) → IsFilling store progress → store.other_is_open ≡ false
begun_shut store progress filling = (store.keeps.begun (λ idle. filling_not_idle progress (sym filling ∙ idle))).shut

pub missing_none : (store : Store) (progress other : Filling) → IsFilling store progress → IsFilling store other → other.missing ≡ 0 → progress.missing ≡ 0
missing_none store progress other is too none = subst (λ (f : Filling). f.missing ≡ 0) (same_filling other progress (sym too ∙ is)) none

given_same : (old new : Store) (image : Image) (g : Given) → SameActive old new → new.stage ≡ old.stage → new.body.items ≡ old.body.items → HasGiven old image g → HasGiven new image g
given_same old new image g rules stage body was = record {
  progress = was.progress;
  stage = stage ∙ was.stage;
  loads = was.loads;
  few = was.few;
  missing = was.missing;
  each = was.each;
  body = body ∙ was.body;
  end = was.end;
  start = was.start;
  written = ap (λ (at : ℕ). range image at was.progress.end) (work_carried old new rules) ∙ was.written;
}

-- what the store does to an image depends on what is active alone
gate_carried : (old new : Store) (image : Image) → SameActive old new → with_gate_open new image ≡ with_gate_open old image
gate_carried old new image same = ap (λ (slot : ℕ). overlay image (other_slot slot) (0xA5 ∷ [])) (same_slot same)

ready_same : (old new : Store) (image : Image) (s : StandingView) (loads : List LoadView) → SameActive old new → new.stage ≡ old.stage → new.body.items ≡ old.body.items → IsReady old image s loads → IsReady new image s loads
ready_same old new image s loads rules stage body was =
    let opened = sym (gate_carried old new image rules) in
    let slot = sym (same_slot rules) in
    record {
      manifest = was.manifest;
      stage = stage ∙ was.stage;
      opens = subst (λ (i : Image). HoldsBy i (other_slot (active_slot new)) (configured s loads)) opened (subst (λ (n : ℕ). HoldsBy (with_gate_open old image) (other_slot n) (configured s loads)) slot was.opens);
      offset = ap₂ (λ (i : Image) (n : ℕ). manifest_offset_of i (other_slot n)) (sym opened) (sym slot) ∙ was.offset;
      length = ap₂ (λ (i : Image) (n : ℕ). manifest_length_of i (other_slot n)) (sym opened) (sym slot) ∙ was.length;
      known = body ∙ was.known;
    }

work_same : (old new : Store) (image : Image) (stage : Stage) → SameActive old new → new.other_is_open ≡ old.other_is_open → new.stage ≡ old.stage → new.body.items ≡ old.body.items
    → HoldsAt old image stage → HoldsAt new image stage
work_same old new image stages.Idle rules gate stage body work = tt
work_same old new image (stages.Filling progress) rules gate stage body work = (work.0, given_same old new image work.0 rules stage body work.1)
work_same old new image (stages.Sealed manifest) rules gate stage body work =
    (work.0, work.1, stands_carried old new rules gate image work.0 work.2, ready_same old new image work.0 work.1 rules stage body work.3)

-- nothing changes but the memory that is there
pub continues_same : (old new : Store) → SameActive old new → new.other_is_open ≡ old.other_is_open → new.stage ≡ old.stage → new.body.items ≡ old.body.items → Continues old new
continues_same old new rules gate stage body = record {
  active = rules;
  gate = gate;
  holds = stands_carried old new rules gate;
  work = λ image work. subst (λ (at : Stage). HoldsAt new image at) (sym stage) (work_same old new image old.stage rules gate stage body work);
  near = near_carried old new rules gate;
  sealed = λ sealed. (sealed.0, sym stage ∙ sealed.1);
}
