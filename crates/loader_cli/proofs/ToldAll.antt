-- A command tells all: no failure is hidden in what it says, nor where memory runs out in it.
use Rattle.std.proofs.Common.{◌≡◌, ◌≢◌, ◌⊎◌, inl, inr, ℕ, List, Option, None, false, sym, subst}
use Rattle.std.specs.Prelude.{IfOk, OnErr, Result, Ok, Err, option_map}
use Rattle.load_base.specs.Host.{Files}
use Rattle.load_base.specs.declared.list.NoMemory.{NoMemory}
use Rattle.disk_model.specs.State.{DiskState}
use Rattle.disk_layout.specs.declared.identity.Identity.{Identity}
use Rattle.replay_turns.specs.Turns.{RunsOut}
use Rattle.upload_replay.specs.Endings.{HoldsSome}
use Rattle.loader_cli.specs.Answers.{HidesNoFault, answered_of, answered_status, status_of, text_of}
use Rattle.loader_cli.specs.Commands.{CommandView, IsCommand, UsesScript}
use Rattle.loader_cli.specs.Replays.{RunSeen, run_seen}
use Rattle.loader_cli.specs.Runs.{Formats, Lists, RunsOutInCommand, Says, TellsAll, Work}
use Rattle.loader_cli.specs.Runs.DiskRunsOut.{in_run, refused_memory, runs}
use Rattle.loader_cli.specs.Runs.Formats.{formatted_it, formatting_failed}
use Rattle.loader_cli.specs.Runs.Lists.{failed, listed, no_listing}
use Rattle.loader_cli.specs.declared.answer.Answer.{Answer}
use Rattle.loader_cli.specs.declared.answer.Answered.{Answered}

-- where a listing or a formatting says something else than that the disk failed, it runs
pub list_runs : (old new : DiskState) (status : ℕ) (text : List ℕ) → Lists old new status text → status ≢ 5 → new.stopped ≡ false
list_runs old new status text (listed s holds size bank on _ _) other = on.running
list_runs old new status text (failed rose stopped five _) other = absurd (other five)
list_runs old new status text (no_listing fault has of on _ _) other = on.running

pub format_runs : (old new : DiskState) (id : Identity) (status : ℕ) (text : List ℕ) → Formats old new id status text → status ≢ 5 → new.stopped ≡ false
format_runs old new id status text (formatted_it tells holds rest settled on _ _) other = on
format_runs old new id status text (formatting_failed rose stopped five _) other = absurd (other five)

module _ (words : List (List ℕ)) (disk disk_after : DiskState) (files files_after : Option Files) (before now : ℕ) where
  abbrev work : Option RunSeen → Work
  work handed = record { words = words; disk = disk; disk_after = disk_after; files = files; files_after = files_after; host_faults = before; host_faults_after = now; handed = handed }

  -- a command that runs no script
  pub alone_tells : (r : Result Answer NoMemory) (s : Result Answered NoMemory) → s ≡ answered_of r → IfOk r (λ answer. Says (work None) (status_of answer) (text_of answer)) → HidesNoFault status_of before now r
      → IfOk r (λ answer. status_of answer ≢ 5 → disk_after.stopped ≡ false) → IfOk s (λ said. TellsAll (work (option_map run_seen said.drive)) (status_of said.answer) (text_of said.answer))
  alone_tells r s is says hides on = subst (λ (t : Result Answered NoMemory). IfOk t (λ said. TellsAll (work (option_map run_seen said.drive)) (status_of said.answer) (text_of said.answer))) (sym is) (by r says hides on)
    where
      by : (r : Result Answer NoMemory) → IfOk r (λ answer. Says (work None) (status_of answer) (text_of answer)) → HidesNoFault status_of before now r → IfOk r (λ answer. status_of answer ≢ 5 → disk_after.stopped ≡ false)
          → IfOk (answered_of r) (λ said. TellsAll (work (option_map run_seen said.drive)) (status_of said.answer) (text_of said.answer))
      by (Ok answer) says hides on = record { says = says; host = hides.answered; disk = λ other none. on other }
      by (Err fault) says hides on = tt

  -- one that runs a script
  pub run_tells : (r : Result Answered NoMemory) (command : CommandView) → IsCommand words command → UsesScript command
      → IfOk r (λ said. Says (work (option_map run_seen said.drive)) (status_of said.answer) (text_of said.answer)) → HidesNoFault answered_status before now r
      → IfOk r (λ said. TellsAll (work (option_map run_seen said.drive)) (status_of said.answer) (text_of said.answer))
  run_tells (Ok said) command asked uses says hides = record { says = says; host = hides.answered; disk = λ other none. absurd (none command asked uses) }
  run_tells (Err fault) command asked uses says hides = tt

  -- ---- where memory runs out

  pub alone_out : (r : Result Answer NoMemory) (s : Result Answered NoMemory) → s ≡ answered_of r → HidesNoFault status_of before now r → OnErr r (RunsOut disk disk_after) → OnErr s (RunsOutInCommand (work None))
  alone_out r s is hides out = subst (λ (t : Result Answered NoMemory). OnErr t (RunsOutInCommand (work None))) (sym is) (by r hides out)
    where
      by : (r : Result Answer NoMemory) → HidesNoFault status_of before now r → OnErr r (RunsOut disk disk_after) → OnErr (answered_of r) (RunsOutInCommand (work None))
      by (Ok answer) hides out = tt
      by (Err fault) hides out = record { host = hides.no_memory; disk = elim out [ inl on ↦ runs on | inr refused ↦ refused_memory refused ] }

  pub run_out : (r : Result Answered NoMemory) (command : CommandView) → IsCommand words command → UsesScript command → HidesNoFault answered_status before now r → OnErr r (RunsOut disk disk_after ⊎ HoldsSome disk)
      → OnErr r (RunsOutInCommand (work None))
  run_out (Ok said) command asked uses hides out = tt
  run_out (Err fault) command asked uses hides out = record {
    host = hides.no_memory;
    disk = elim out [ inl none ↦ elim none [ inl on ↦ runs on | inr refused ↦ refused_memory refused ] | inr some ↦ in_run command asked uses some ];
  }

-- a call that was never refused memory
pub runs_anyway : {T : Type 0} (r : Result T NoMemory) (old new : DiskState) → new.stopped ≡ false → OnErr r (RunsOut old new)
runs_anyway (Ok x) old new on = tt
runs_anyway (Err fault) old new on = inl on

pub never_fails : {T : Type 0} (r : Result T NoMemory) (Q : T → Type 0) (disk : DiskState) → disk.stopped ≡ false → IfOk r (λ x. Q x → disk.stopped ≡ false)
never_fails (Ok x) Q disk on = λ other. on
never_fails (Err fault) Q disk on = tt
