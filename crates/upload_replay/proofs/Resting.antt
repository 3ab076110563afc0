-- What a power loss may take at the end of a driver.
use Rattle.std.proofs.Common.{◌≡◌, ◌⊎◌, inl, inr, List, Option, Some, None, true, false, refl, ap, ◌∙◌}
use Rattle.std.specs.Prelude.{is_some}
use Rattle.bank_store.specs.Fits.{LosesOnlyWork, Works}
use Rattle.bank_store.specs.declared.store.Store.{Store}
use Rattle.disk_layout.specs.Holds.{HoldsConfig, StandingView, standing_view}
use Rattle.disk_layout.specs.declared.standing.Standing.{Standing}
use Rattle.disk_model.specs.Image.{Image}
use Rattle.disk_model.specs.State.{DiskState, IsSettled}
use Rattle.exchange_trace.specs.Steps.{Step}
use Rattle.replay_rules.specs.BothEnds.{Is_down, Is_up, Setting, TargetStanding, target_at}
use Rattle.target_machine.specs.Decisions as machine
use Rattle.replay_turns.proofs.StepLemmas.{read_now}
use Rattle.replay_turns.specs.StepsOnDisks.{HoldsRun, LeavesNoMore}
use Rattle.upload_replay.specs.Endings.{HoldsStanding}

known_here : {T : Type 0} (o : Option T) → is_some o ≡ true → (o ≡ None) → ⊥
known_here o known none = let wrong : is_some o ≡ false = ap is_some none in cc

module _ {R : Type 0} (set : Setting) (steps : List Step) (target : Option (machine.TargetState R)) (old new : DiskState) (standing : Option Standing) (holds : HoldsRun set (target_at set steps) target old) (no_more : LeavesNoMore old new)
    (known : is_some standing ≡ true) (held : HoldsStanding standing new) (same : is_some target ≡ true → (new.reads ≡ old.reads) ⊎ (standing ≡ None)) (settles : is_some target ≡ false → IsSettled new ⊎ (standing ≡ None))
    (works : (store : Store) (image : Image) → old.reads ≡ Some image → Works store old → LosesOnlyWork old) (still : new.reads ≡ old.reads → ((image : Image) → new.now image → old.now image) → LosesOnlyWork old → LosesOnlyWork new)
    (settled : (image : Image) (s : StandingView) → new.reads ≡ Some image → HoldsConfig image s → IsSettled new → LosesOnlyWork new) where
  -- a target that is up works on its disk
  works_up : (t : machine.TargetState R) → target ≡ Some t → LosesOnlyWork old
  works_up t is = by (target_at set steps) refl
    where
      by : (state : TargetStanding) → target_at set steps ≡ state → LosesOnlyWork old
      by (Is_up r) at = let was = rw (at, is) at holds.works in works t.store was.beside.image was.beside.told was.beside.works
      by (Is_down active interrupted) at = absurd (let wrong : Some t.view ≡ None = rw (is, at) at holds.kept in cc)

  settled_here : IsSettled new → LosesOnlyWork new
  settled_here is = by standing refl
    where
      by : (o : Option Standing) → standing ≡ o → LosesOnlyWork new
      by None none = absurd (known_here standing known none)
      by (Some s) at =
          let (image, told) = read_now new (no_more.tells ∙ holds.tells) in
          settled image (standing_view s) told ((rw at at held) image told) is

  pub rests_on : LosesOnlyWork new
  rests_on = by target refl
    where
      by : (o : Option (machine.TargetState R)) → target ≡ o → LosesOnlyWork new
      by None is = elim (settles (ap is_some is)) [ inl settled_ ↦ settled_here settled_ | inr none ↦ absurd (known_here standing known none) ]
      by (Some t) is = elim (same (ap is_some is)) [ inl reads ↦ still reads no_more.now (works_up t is) | inr none ↦ absurd (known_here standing known none) ]
