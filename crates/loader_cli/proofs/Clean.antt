-- How a run ends that checks a set without findings.
use Rattle.std.proofs.Common.{◌≡◌, ℕ, List, [], ap, ◌∙◌}
use Rattle.load_base.specs.Host.{Files}
use Rattle.media_check.specs.Findings.{findings_of}
use Rattle.media_check.proofs.OpeningLemmas.{not_too_long, not_too_large}
use Rattle.media_check.specs.Sets.{SetView}
use Rattle.loader_cli.specs.Runs.{Run, Says, Checks, Finds, ChecksCleanSet}
use Rattle.loader_cli.specs.Runs.Checks.{opened, long_file, large_set, set_unread}
use Rattle.loader_cli.specs.Runs.Finds.{clean, faulty_set}
use Rattle.loader_cli.specs.Texts.{findings_text}
use Rattle.loader_cli.proofs.Asked.{says_of_check}

-- what is said of a set without findings
says_clean : (set : SetView) (status : ℕ) (text : List ℕ) → findings_of set ≡ [] → Finds set status text → (status ≡ 0) × (text ≡ findings_text [])
says_clean set status text none (clean _ is said) = (is, said)
says_clean set status text none (faulty_set some is said) = absurd (some none)

checks_clean : (run : Run) (folder : List ℕ) (files : Files) (status : ℕ) (text : List ℕ) → ChecksCleanSet run folder files
    → Checks folder run.work.files run.work.host_faults run.work.host_faults_after status text → (status ≡ 0) × (text ≡ findings_text [])
checks_clean run folder files status text premise (opened set has finds) = says_clean set status text (ap findings_of (has files premise.files).1 ∙ premise.sound.clean) finds
checks_clean run folder files status text premise (long_file name long _ _) = absurd (not_too_long files _ name premise.sound.readable (long files premise.files))
checks_clean run folder files status text premise (large_set large _ _) = absurd (not_too_large files _ premise.sound.readable (large files premise.files))
checks_clean run folder files status text premise (set_unread rose _ _) = absurd (premise.answers.host_answers rose)

pub clean_said : (run : Run) (folder : List ℕ) (files : Files) (status : ℕ) (text : List ℕ) → ChecksCleanSet run folder files → Says run.work status text
    → (status ≡ 0) × (text ≡ findings_text [])
clean_said run folder files status text premise says = checks_clean run folder files status text premise (says_of_check run.work folder status text premise.asked says)
