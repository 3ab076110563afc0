-- What a rollback says of what the disk held, and what it leaves.
use Rattle.std.proofs.Common.{◌≡◌, ◌≢◌, ◌⊎◌, inl, inr, ℕ, ◌<◌, List, Some, true, false, refl, sym, ap, subst, ◌∙◌, arith}
use Rattle.std.specs.Prelude.{IfOk, OnErr, Result, Ok, Err}
use Rattle.std.specs.Option.{ForSome}
use Rattle.load_base.specs.Counts.{Rose}
use Rattle.disk_model.specs.Image.{Image}
use Rattle.disk_model.specs.State.{DiskState}
use Rattle.disk_layout.specs.Holds.{HoldsConfig, StandingView}
use Rattle.disk_layout.specs.declared.fault.RecoverFault.TheVariants as recovers
use Rattle.listing.specs.Listing.{listing}
use Rattle.bank_store.specs.Given.{configured}
use Rattle.replay_turns.specs.Turns.{RunsOut}
use Rattle.recovery.specs.Formers.{HasNoFormer, HoldsFormer}
use Rattle.recovery.specs.declared.former_fault.FormerFault.{FormerFault}
use Rattle.recovery.specs.declared.former_fault.FormerFault.TheVariants as formers
use Rattle.bank_rollback.specs.Faults.{RollbackHasOwnName}
use Rattle.bank_rollback.specs.Rollbacks.{BringsBack, IsSpentFor, LeavesAfter, RanOut, RefusesRollback, RollsBack}
use Rattle.bank_rollback.specs.Rollbacks.RanOut.{after_it, before_writing, of_the_disk}
use Rattle.bank_rollback.specs.declared.fault.RollbackFault.{RollbackFault}
use Rattle.bank_rollback.specs.declared.fault.RollbackFault.TheVariants.{Former, SequenceSpent, DiskFailed, Memory}
use Rattle.load_base.specs.declared.list.NoMemory.{NoMemory}
use Rattle.loader_cli.specs.Answers.{refusal_of, status_of, text_of}
use Rattle.loader_cli.specs.declared.answer.Answer.{Answer}
use Rattle.loader_cli.specs.Rollbacks.{IsOfFormer, RollsBackAs}
use Rattle.loader_cli.specs.Rollbacks.RollsBackAs.{none_active, none_former, rollback_failed, rolled_back}
use Rattle.loader_cli.specs.Texts.{no_configuration, no_former}
use Rattle.loader_cli.specs.CommandLaws.{FormerLaws, ImageLaws}

-- ---- where it is done

-- it says what the disk holds then
pub said_brought : (old new : DiskState) (brought : StandingView) (r : Result Answer NoMemory) → RollsBack old new brought → IfOk r (λ answer. status_of answer ≡ 0) → IfOk r (λ answer. text_of answer ≡ listing brought)
    → IfOk r (λ answer. RollsBackAs old new (status_of answer) (text_of answer))
said_brought old new brought (Ok answer) rolled zero tells = rolled_back brought rolled zero tells
said_brought old new brought (Err fault) rolled zero tells = tt

-- or memory is out for saying so, on a disk that runs
pub ran_after : (old new : DiskState) (brought : StandingView) (r : Result Answer NoMemory) → RollsBack old new brought → OnErr r (RunsOut old new)
ran_after old new brought (Ok answer) rolled = tt
ran_after old new brought (Err fault) rolled = inl rolled.running

-- ---- where it is refused

module _ (old new : DiskState) where
  pub refused_says : (fault : RollbackFault) → ForSome old.reads (λ image. RefusesRollback image fault) → RollbackHasOwnName fault → LeavesAfter old new fault
      → (fault ≡ DiskFailed → Rose old.faults new.faults × (new.stopped ≡ true)) → IfOk (refusal_of fault) (λ answer. RollsBackAs old new (status_of answer) (text_of answer))
  refused_says (Former formers.SlotClosed) refuses own left failed = none_former (Former formers.SlotClosed) refuses tt left refl refl
  refused_says (Former (formers.SlotBad offset)) refuses own left failed = none_former (Former (formers.SlotBad offset)) refuses tt left refl refl
  refused_says (Former (formers.ManifestBad offset)) refuses own left failed = none_former (Former (formers.ManifestBad offset)) refuses tt left refl refl
  refused_says (Former (formers.Recover (recovers.NotFormatted offset))) refuses own left failed = none_active (recovers.NotFormatted offset) refuses (λ no. no) left.0 left.1 refl refl
  refused_says (Former (formers.Recover recovers.NoOpenSlot)) refuses own left failed = none_active recovers.NoOpenSlot refuses (λ no. no) left.0 left.1 refl refl
  refused_says (Former (formers.Recover (recovers.BadSlot offset))) refuses own left failed = none_active (recovers.BadSlot offset) refuses (λ no. no) left.0 left.1 refl refl
  refused_says (Former (formers.Recover (recovers.BadManifest offset))) refuses own left failed = none_active (recovers.BadManifest offset) refuses (λ no. no) left.0 left.1 refl refl
  refused_says (Former (formers.Recover recovers.DiskFailed)) refuses own left failed = absurd own
  refused_says (Former (formers.Recover recovers.Memory)) refuses own left failed = absurd own
  refused_says (Former formers.DiskFailed) refuses own left failed = absurd own
  refused_says (Former formers.Memory) refuses own left failed = absurd own
  refused_says SequenceSpent refuses own left failed = none_former SequenceSpent refuses tt left refl refl
  refused_says DiskFailed refuses own left failed = rollback_failed (failed refl).0 (failed refl).1 refl refl
  refused_says Memory refuses own left failed = tt

  ran_out : RanOut old new → RunsOut old new
  ran_out (before_writing looked) = inl looked.runs_on.running
  ran_out (after_it rolled) = inl rolled.running
  ran_out (of_the_disk out) = inr out

  pub refused_memory : (fault : RollbackFault) → LeavesAfter old new fault → OnErr (refusal_of fault) (RunsOut old new)
  refused_memory (Former formers.SlotClosed) left = tt
  refused_memory (Former (formers.SlotBad offset)) left = tt
  refused_memory (Former (formers.ManifestBad offset)) left = tt
  refused_memory (Former (formers.Recover fault)) left = tt
  refused_memory (Former formers.DiskFailed) left = tt
  refused_memory (Former formers.Memory) left = tt
  refused_memory SequenceSpent left = tt
  refused_memory DiskFailed left = tt
  refused_memory Memory left = ran_out left

  -- where it says something else than that the disk failed, that runs
  pub rollback_runs : (status : ℕ) (text : List ℕ) → RollsBackAs old new status text → status ≢ 5 → new.stopped ≡ false
  rollback_runs status text (rolled_back brought rolled _ _) other = rolled.running
  rollback_runs status text (rollback_failed rose stopped five _) other = absurd (other five)
  rollback_runs status text (none_active fault has of on looked _ _) other = on
  rollback_runs status text (none_former fault refuses of looked _ _) other = looked.runs_on.running

-- ---- what an image says

-- what is lacking: a former configuration, or a sequence number
lacking : (image : Image) (fault : RollbackFault) → IsOfFormer fault → RefusesRollback image fault → ((f : FormerFault) × (fault ≡ Former f) × HasNoFormer image f) ⊎ ((fault ≡ SequenceSpent) × IsSpentFor image)
lacking image (Former formers.SlotClosed) of refuses = inl (formers.SlotClosed, refl, refuses)
lacking image (Former (formers.SlotBad offset)) of refuses = inl (formers.SlotBad offset, refl, refuses)
lacking image (Former (formers.ManifestBad offset)) of refuses = inl (formers.ManifestBad offset, refl, refuses)
lacking image (Former (formers.Recover fault)) of refuses = absurd of
lacking image (Former formers.DiskFailed) of refuses = absurd of
lacking image (Former formers.Memory) of refuses = absurd of
lacking image SequenceSpent of refuses = inr (refl, refuses)
lacking image DiskFailed of refuses = absurd of
lacking image Memory of refuses = absurd of

-- what lacks one holds a configuration all the same
none_former_holds : (image : Image) (fault : RollbackFault) → IsOfFormer fault → RefusesRollback image fault → (s : StandingView) × HoldsConfig image s
none_former_holds image fault of refuses =
    elim (lacking image fault of refuses) [ inl none ↦ (none.2.active, record { slot = none.2.slot; by = none.2.by }) | inr spent ↦ (spent.1.active, spent.1.holds) ]

module _ (images : ImageLaws) (laws : FormerLaws) (image : Image) where
  -- what a rollback brings is one configuration
  pub brought_is : (brought active former : StandingView) → BringsBack image brought → HoldsConfig image active → HoldsFormer image former → brought ≡ configured active former.loads
  brought_is brought active former brings holds holds_former =
      let now : brings.active ≡ active = images.one_standing image brings.active active brings.holds holds in
      let then : brings.former ≡ former = laws.one_former image brings.former former brings.holds_former holds_former in
      brings.is ∙ (ap (λ (s : StandingView). configured s brings.former.loads) now ∙ ap (λ (s : StandingView). configured active s.loads) then)

  pub none_refused : (active former : StandingView) (fault : RollbackFault) → HoldsConfig image active → HoldsFormer image former → active.sequence < 4294967295 → IsOfFormer fault
      → RefusesRollback image fault → ⊥
  none_refused active former fault holds holds_former goes_on of refuses = elim (lacking image fault of refuses) [ inl none ↦ laws.not_both image former none.0 holds_former none.2 | inr spent ↦ is_last spent.1 ]
    where
      is_last : IsSpentFor image → ⊥
      is_last spent =
          let same : spent.active ≡ active = images.one_standing image spent.active active spent.holds holds in
          let last : active.sequence ≡ 4294967295 = subst (λ (s : StandingView). s.sequence ≡ 4294967295) same spent.last in
          absurd (omega (arith, last, goes_on))

  one_lacking : (fault other : RollbackFault) → IsOfFormer fault → IsOfFormer other → RefusesRollback image fault → RefusesRollback image other → fault ≡ other
  one_lacking fault other of of_2 refuses refuses_2 = by (lacking image fault of refuses) (lacking image other of_2 refuses_2)
    where
      by : ((f : FormerFault) × (fault ≡ Former f) × HasNoFormer image f) ⊎ ((fault ≡ SequenceSpent) × IsSpentFor image)
          → ((f : FormerFault) × (other ≡ Former f) × HasNoFormer image f) ⊎ ((other ≡ SequenceSpent) × IsSpentFor image) → fault ≡ other
      by (inl none) (inl none_2) = none.1 ∙ (ap (λ (f : FormerFault). Former f) (laws.one_fault image none.0 none_2.0 none.2 none_2.2) ∙ sym none_2.1)
      by (inl none) (inr spent) = absurd (laws.not_both image spent.1.former none.0 spent.1.holds_former none.2)
      by (inr spent) (inl none) = absurd (laws.not_both image spent.1.former none.0 spent.1.holds_former none.2)
      by (inr spent) (inr spent_2) = spent.0 ∙ sym spent_2.0

  -- two rollbacks of disks that read it, in which nothing fails, say the same
  module _ (old new old_2 new_2 : DiskState) (reads : old.reads ≡ Some image) (reads_2 : old_2.reads ≡ Some image) (answers : ¬ Rose old.faults new.faults) (answers_2 : ¬ Rose old_2.faults new_2.faults) where
    pub one_rollback : (a b : ℕ) (s t : List ℕ) → RollsBackAs old new a s → RollsBackAs old_2 new_2 b t → (a ≡ b) × (s ≡ t)
    one_rollback a b s t (rolled_back brought rolled status text) (rolled_back brought_2 rolled_2 status_2 text_2) =
        let brings = rolled.brings image reads in
        let brings_2 = rolled_2.brings image reads_2 in
        let same : brought ≡ brought_2 = brought_is brought brings_2.active brings_2.former brings brings_2.holds brings_2.holds_former ∙ sym brings_2.is in
        (status ∙ sym status_2, text ∙ (ap listing same ∙ sym text_2))
    one_rollback a b s t (rolled_back brought rolled _ _) (none_active fault has of on looked _ _) =
        let brings = rolled.brings image reads in
        absurd (images.not_both image brings.active fault brings.holds (has image reads_2))
    one_rollback a b s t (rolled_back brought rolled _ _) (none_former fault refuses of looked _ _) =
        let brings = rolled.brings image reads in
        absurd (none_refused brings.active brings.former fault brings.holds brings.holds_former brings.goes_on of (refuses image reads_2))
    one_rollback a b s t (none_active fault has of on looked _ _) (rolled_back brought rolled _ _) =
        let brings = rolled.brings image reads_2 in
        absurd (images.not_both image brings.active fault brings.holds (has image reads))
    one_rollback a b s t (none_active fault has of on looked status text) (none_active fault_2 has_2 of_2 on_2 looked_2 status_2 text_2) =
        (status ∙ sym status_2, text ∙ (ap no_configuration (images.one_fault image fault fault_2 (has image reads) (has_2 image reads_2)) ∙ sym text_2))
    one_rollback a b s t (none_active fault has of on looked _ _) (none_former fault_2 refuses of_2 looked_2 _ _) =
        let (s, holds) = none_former_holds image fault_2 of_2 (refuses image reads_2) in
        absurd (images.not_both image s fault holds (has image reads))
    one_rollback a b s t (none_former fault refuses of looked _ _) (rolled_back brought rolled _ _) =
        let brings = rolled.brings image reads_2 in
        absurd (none_refused brings.active brings.former fault brings.holds brings.holds_former brings.goes_on of (refuses image reads))
    one_rollback a b s t (none_former fault_2 refuses of_2 looked_2 _ _) (none_active fault has of on looked _ _) =
        let (s, holds) = none_former_holds image fault_2 of_2 (refuses image reads) in
        absurd (images.not_both image s fault holds (has image reads_2))
    one_rollback a b s t (none_former fault refuses of looked status text) (none_former fault_2 refuses_2 of_2 looked_2 status_2 text_2) =
        (status ∙ sym status_2, text ∙ (ap no_former (one_lacking fault fault_2 of of_2 (refuses image reads) (refuses_2 image reads_2)) ∙ sym text_2))
    one_rollback a b s t (rollback_failed rose stopped _ _) two = absurd (answers rose)
    one_rollback a b s t (rolled_back brought rolled _ _) (rollback_failed rose stopped _ _) = absurd (answers_2 rose)
    one_rollback a b s t (none_active fault has of on looked _ _) (rollback_failed rose stopped _ _) = absurd (answers_2 rose)
    one_rollback a b s t (none_former fault refuses of looked _ _) (rollback_failed rose stopped _ _) = absurd (answers_2 rose)
