-- Whole runs of a script have the steps that can be computed from it.
use Rattle.std.proofs.Common.{◌≡◌, ℕ, zero, suc, ◌+◌, ◌-◌, ◌≤◌, Bool, true, false, List, [], ◌∷◌, length, refl, sym, ap, subst, ◌∙◌, arith}
use Rattle.std.specs.Prelude.{if◌then◌else◌}
use Rattle.std.specs.List.{AllByRecursion}
use Rattle.exchange_trace.specs.Happenings.{HappeningView, Delivered, Lost, Injected, Ticked, Size_told, Power_cut, Booted, Info_started, Upload_started, Ended}
use Rattle.exchange_trace.specs.Lines.{Line}
use Rattle.exchange_trace.specs.Steps.{Step}
use Rattle.replay_rules.specs.BothEnds.{Setting}
use Rattle.replay_rules.specs.Promises.{EndsOnce, IsNoEnd}
use Rattle.finish_ends.specs.Scripts.{TracesAreBounded, most_of_lines}
use Rattle.fixed_runs.specs.FixedRuns.{AllAreNext, TwoRunsAreOne, WholeRunsAreFixed, first_steps, gone_on, has_ended, is_end, next_step, whole_run}
use Rattle.fixed_runs.proofs.Fixed.{each_step_is_next}

no_end : (h : HappeningView) → IsNoEnd h → is_end h ≡ false
no_end (Delivered side n) e = refl
no_end (Lost n) e = refl
no_end (Injected d) e = refl
no_end (Ticked side) e = refl
no_end (Size_told size) e = refl
no_end (Power_cut calls pick) e = refl
no_end Booted e = refl
no_end (Info_started hw pos) e = refl
no_end (Upload_started hw pos parts) e = refl
no_end Ended e = absurd e

not_ended : (steps : List Step) → AllByRecursion (λ (s : Step). IsNoEnd s.given) steps → has_ended steps ≡ false
not_ended [] none = refl
not_ended (s ∷ earlier) none = no_end s.given none.0

module _ (set : Setting) (script : List Line) where
  on : (b : Bool) (steps : List Step) → b ≡ false → (if b then steps else next_step set script steps ∷ steps) ≡ next_step set script steps ∷ steps
  on true steps e = absurd cc
  on false steps e = refl

  stopped : (b : Bool) (steps : List Step) → b ≡ true → (if b then steps else next_step set script steps ∷ steps) ≡ steps
  stopped true steps e = refl
  stopped false steps e = absurd cc

  one_more : (s : Step) (earlier steps : List Step) → steps ≡ earlier → has_ended earlier ≡ false → s ≡ next_step set script earlier → gone_on set script steps ≡ s ∷ earlier
  one_more s earlier steps is none next =
      ap (λ (list : List Step). gone_on set script list) is ∙ (on (has_ended earlier) earlier none ∙ ap (λ (x : Step). x ∷ earlier) (sym next))

  -- as many first steps as a run has, where the end comes last
  so_many : (steps : List Step) → AllAreNext set script steps → AllByRecursion (λ (s : Step). IsNoEnd s.given) steps → first_steps set script (length steps) ≡ steps
  so_many [] next none = refl
  so_many (s ∷ earlier) next none = one_more s earlier (first_steps set script (length earlier)) (so_many earlier next.1 none.1) (not_ended earlier none.1) next.0

  ended_so : (steps : List Step) → AllAreNext set script steps → EndsOnce steps → first_steps set script (length steps) ≡ steps
  ended_so [] next ends = absurd ends
  ended_so (s ∷ earlier) next ends = one_more s earlier (first_steps set script (length earlier)) (so_many earlier next.1 ends.1) (not_ended earlier ends.1) next.0

  has_end : (steps : List Step) → EndsOnce steps → has_ended steps ≡ true
  has_end [] ends = absurd ends
  has_end (s ∷ earlier) ends = ap is_end ends.0

  -- nothing comes after the end
  stays : (steps : List Step) (n k : ℕ) → first_steps set script n ≡ steps → has_ended steps ≡ true → first_steps set script (k + n) ≡ steps
  stays steps n zero is ended = let same : n ≡ zero + n = omega arith in subst (λ (m : ℕ). first_steps set script m ≡ steps) same is
  stays steps n (suc k) is ended =
      let same : suc (k + n) ≡ suc k + n = omega arith in
      let so : first_steps set script (suc (k + n)) ≡ steps =
      ap (λ (list : List Step). gone_on set script list) (stays steps n k is ended) ∙ stopped (has_ended steps) steps ended in
      subst (λ (m : ℕ). first_steps set script m ≡ steps) same so

  pub whole_is : (steps : List Step) → AllAreNext set script steps → EndsOnce steps → length steps ≤ most_of_lines 0 script + 1 → steps ≡ whole_run set script
  unfolding whole_run
  whole_is steps next ends small =
      let same : ((most_of_lines 0 script + 1) - length steps) + length steps ≡ most_of_lines 0 script + 1 = omega (arith, small) in
      sym (subst (λ (m : ℕ). first_steps set script m ≡ steps) same
      (stays steps (length steps) ((most_of_lines 0 script + 1) - length steps) (ended_so steps next ends) (has_end steps ends)))

pub whole_runs_are_fixed : TracesAreBounded → WholeRunsAreFixed
whole_runs_are_fixed bounded set script steps run =
    whole_is set script steps (each_step_is_next set script steps run.steady) run.ends
    (bounded set script steps run.steady.follows (record { ends = run.ends; due = run.steady.due; noted = run.steady.noted }) run.carries)

pub two_runs_are_one : TracesAreBounded → TwoRunsAreOne
two_runs_are_one bounded set script one two first second =
    whole_runs_are_fixed bounded set script one first ∙ sym (whole_runs_are_fixed bounded set script two second)
