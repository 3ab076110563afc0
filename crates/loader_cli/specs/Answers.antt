-- The status and the text of what a run answers (docs/FORMATS.md, "Printed text").
use Rattle.std.specs.Prelude.{◌≡◌, ◌≢◌, ℕ, List, codes, None, Result, Ok, Err, IfErr, IfOk}
use Rattle.load_base.specs.declared.list.NoMemory.{NoMemory}
use Rattle.recovery.specs.declared.former_fault.FormerFault.TheVariants as formers
use Rattle.bank_rollback.specs.declared.fault.RollbackFault.{RollbackFault}
use Rattle.bank_rollback.specs.declared.fault.RollbackFault.TheVariants as rollbacks
use Rattle.loader_cli.specs.Texts.{refused_words, refused_input, disk_fault, host_fault, no_configuration, no_former}
use Rattle.loader_cli.specs.declared.answer.Answer.{Answer}
use Rattle.loader_cli.specs.declared.answer.Answered.{Answered}
use Rattle.loader_cli.specs.declared.answer.Answer.TheVariants.{Done, Findings, Unfinished, RefusedWords, Absent, TooLong, AbsentFile, TooLongFile, TooLarge, RefusedInput, RefusedFile, HostFault, DiskFault, NoConfiguration, NoFormer}

abbrev pub status_of : Answer → ℕ
status_of (Done text) = 0
status_of (Findings text) = 1
status_of (Unfinished text) = 1
status_of RefusedWords = 2
status_of (Absent name) = 3
status_of (TooLong name) = 3
status_of (AbsentFile name) = 3
status_of (TooLongFile name) = 3
status_of (TooLarge folder) = 3
status_of (RefusedInput name fault) = 3
status_of (RefusedFile name fault) = 3
status_of HostFault = 4
status_of DiskFault = 5
status_of (NoConfiguration fault) = 8
status_of (NoFormer fault) = 9

abbrev pub text_of : Answer → List ℕ
text_of (Done text) = text.items
text_of (Findings text) = text.items
text_of (Unfinished text) = text.items
text_of RefusedWords = refused_words
text_of (Absent name) = refused_input name.now (codes "absent")
text_of (TooLong name) = refused_input name.now (codes "toolong")
text_of (AbsentFile name) = refused_input name.items (codes "absent")
text_of (TooLongFile name) = refused_input name.items (codes "toolong")
text_of (TooLarge folder) = refused_input folder.now (codes "toolarge")
text_of (RefusedInput name fault) = refused_input name.now fault
text_of (RefusedFile name fault) = refused_input name.items fault
text_of HostFault = host_fault
text_of DiskFault = disk_fault
text_of (NoConfiguration fault) = no_configuration fault
text_of (NoFormer fault) = no_former fault

-- the answer of a command that hands out no run
abbrev pub answered_of : Result Answer NoMemory → Result Answered NoMemory
answered_of (Ok answer) = Ok (record { answer = answer; drive = None; fleet = None })
answered_of (Err fault) = Err fault

-- what is answered where a rollback is refused
abbrev pub refusal_of : RollbackFault → Result Answer NoMemory
refusal_of rollbacks.Memory = Err (record {})
refusal_of rollbacks.DiskFailed = Ok DiskFault
refusal_of (rollbacks.Former (formers.Recover fault)) = Ok (NoConfiguration fault)
refusal_of fault = Ok (NoFormer fault)

-- the status of the answer beside a run
abbrev pub answered_status : Answered → ℕ
answered_status said = status_of said.answer

-- A failure of the host is told: its count of faults is what it was, unless the answer has status 4.
pub record HidesNoFault {T : Type 0} (told : T → ℕ) (before now : ℕ) (result : Result T NoMemory) : Type 0 where
  pub answered : IfOk result (λ said. told said ≢ 4 → now ≡ before)
  pub no_memory : IfErr result (λ fault. now ≡ before)
