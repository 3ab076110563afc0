-- From good loads the rows of an upload go well (docs/EXCHANGE.md, "A fault-free run completes").
use Rattle.std.specs.Prelude.{◌≡◌, ℕ, ◌+◌, ◌≤◌, List, length, Ok}
use Rattle.std.specs.List.{AllByRecursion}
use Rattle.field_grammar.specs.Grammar.{IsBytes}
use Rattle.load_base.specs.Config.{FileView, LoadView}
use Rattle.load_base.specs.Name.{IsName}
use Rattle.load_protocol_files.specs.declared.lur.Wanted.{Wanted}
use Rattle.load_protocol_files.specs.Lur.{WantedFits}
use Rattle.session_rules.specs.declared.outcome.Outcome.TheVariants.{Completed}
use Rattle.session_rules.specs.Buffers.{buffered}
use Rattle.session_rules.specs.LoaderRows.{Reads_lui, Takes_lus, Serves_files, Goes_on, Comes_to, file_turn}
use Rattle.session_rules.specs.NewConfigs.{files_in}
use Rattle.session_rules.specs.Reports.{accepting_lui, completed_lus, lur_file, progress_lus, ready_lus}
use Rattle.session_rules.specs.TargetRows.{Gives_lui}
use Rattle.session_rules.specs.Uploads.{judge_request}
use Rattle.replay_rules.specs.BothEnds.{Setting}
use Rattle.replay_rules.specs.FaultFree.{AreServed, ports_for}
use Rattle.replay_rules.specs.ListTraces.{OwnFilesAreNamed}
use Rattle.transfer_completion.specs.Talks.{FitsBlocks}
use Rattle.session_completion.specs.Course.{Course}

-- a file can be exchanged
abbrev pub CanBeExchanged : List ℕ → Type 0
CanBeExchanged file = FitsBlocks file 512 × IsBytes file

-- The protocol files of an upload of these loads can be exchanged, and each end reads in them what the other wrote.
pub record FilesAreRead (wanted : List Wanted) : Type 0 where
  pub lui : CanBeExchanged accepting_lui × (file_turn Reads_lui (buffered accepting_lui) ≡ Goes_on)
  pub ready : CanBeExchanged ready_lus × (file_turn Takes_lus (buffered ready_lus) ≡ Goes_on)
  pub request : CanBeExchanged (lur_file wanted) × (judge_request (buffered (lur_file wanted)) ≡ Ok wanted)
  pub progress : (arrived counter : ℕ) → arrived ≤ length wanted → counter ≤ length wanted + 1
      → CanBeExchanged (progress_lus wanted arrived counter) × (file_turn Serves_files (buffered (progress_lus wanted arrived counter)) ≡ Goes_on)
  pub completion : (counter : ℕ) → counter ≤ length wanted + 1
      → CanBeExchanged (completed_lus wanted counter) × (file_turn Serves_files (buffered (completed_lus wanted counter)) ≡ Comes_to Completed)

-- the files of these loads are bytes, and their headers have names
pub record HaveNamedFiles (wanted : List Wanted) (loads : List LoadView) : Type 0 where
  pub named : AllByRecursion (λ (w : Wanted). IsName w.header) wanted
  pub bytes : AllByRecursion (λ (f : FileView). IsBytes f.bytes) (files_in loads)

-- From good loads that the media set has, the rows of their upload go well, with as many transfers as there are ports for.
abbrev pub GoodLoadsLeadOn : Type 0
GoodLoadsLeadOn = (set : Setting) (wanted : List Wanted) (loads : List LoadView) → AreServed set wanted loads → 1 ≤ length loads → OwnFilesAreNamed set → FilesAreRead wanted → HaveNamedFiles wanted loads
    → (more : ℕ) × (more + 1 ≡ ports_for loads) × Course set wanted loads more Gives_lui

-- So it is of loads that can be asked for, 32 of them at most.
abbrev pub UploadRequestsAreRead : Type 0
UploadRequestsAreRead = (wanted : List Wanted) → AllByRecursion (λ (w : Wanted). WantedFits w) wanted → 1 ≤ length wanted → length wanted ≤ 32 → FilesAreRead wanted
