-- A batch, a `.LUB` file: targets, and the loads that each gets (docs/FORMATS.md).
use Rattle.std.specs.Prelude.{ℕ, List, length, map, nat_le, Bool, ◌&&◌, Result}
use Rattle.crc_fields.specs.CheckSums.{crc16_of}
use Rattle.load_base.specs.Verdicts.{ident_fault_of, verdict}
use Rattle.field_grammar.specs.Grammar.{Grammar, give, check, prefix, left, renamed, times, expected, ◌>>=◌, ◌>>◌}
use Rattle.field_grammar.specs.Fields.{number, judged_padded}
use Rattle.header_sections.specs.Sections.{part, start, end}
use Rattle.header_sections.specs.declared.fault.SectionFault.{SectionFault}
use Rattle.batch_lists.specs.BatchFaults.{named, refused}
use Rattle.batch_lists.specs.declared.batch.Batch.{Batch}
use Rattle.batch_lists.specs.declared.batch.BatchTarget.{BatchTarget}
use Rattle.batch_lists.specs.declared.fault.BatchFault.{BatchFault}
use Rattle.batch_lists.specs.declared.fault.BatchFault.TheVariants as faults
use Rattle.batch_lists.specs.declared.fault.BatchWordFault.TheVariants as words

-- ---- what a batch holds, without the spare capacity of its lists

pub record BatchTargetView : Type 0 where
  pub hw : List ℕ
  pub pos : List ℕ
  pub parts : List (List ℕ)

pub record BatchView : Type 0 where
  pub part : List ℕ
  pub targets : List BatchTargetView

abbrev pub batch_target_view : BatchTarget → BatchTargetView
batch_target_view t = record { hw = t.hw; pos = t.pos; parts = t.parts.items }

abbrev pub batch_view : Batch → BatchView
batch_view b = record { part = b.part; targets = map batch_target_view b.targets.items }

-- ---- fields

abbrev pub u16 : Grammar BatchFault ℕ
u16 = renamed named (number 2)

abbrev pub shared : {A : Type 0} → Grammar SectionFault A → Grammar BatchFault A
shared piece = renamed refused piece

abbrev pub ident_verdict : ℕ → List ℕ → Result (List ℕ) BatchFault
ident_verdict offset bytes = verdict (λ fault. faults.Word offset (words.Ident fault)) (ident_fault_of bytes) bytes

-- an Ident, padded
unfoldable pub ident : Grammar BatchFault (List ℕ)
ident = judged_padded named ident_verdict

abbrev pub is_count : ℕ → ℕ → Bool
is_count most count = nat_le 1 count && nat_le count most

-- a count of 1 to `most`
unfoldable pub counted : ℕ → Grammar BatchFault ℕ
counted most = do
  before ← prefix
  count ← u16
  check (is_count most count) (faults.Count (length before))
  give count

-- ---- targets

-- the part number of a load
unfoldable pub one_part : Grammar BatchFault (List ℕ)
one_part = shared part

-- a count of 1 to 32, and the part numbers of the loads
unfoldable pub batch_parts : Grammar BatchFault (List (List ℕ))
batch_parts = do
  count ← counted 32
  times count one_part

-- the hardware and the position of a target, and the loads that it gets
unfoldable pub batch_target : Grammar BatchFault BatchTargetView
batch_target = do
  hw ← ident
  pos ← ident
  parts ← batch_parts
  give (record { hw = hw; pos = pos; parts = parts })

-- a count of 1 to 64, and the targets
unfoldable pub batch_targets : Grammar BatchFault (List BatchTargetView)
batch_targets = do
  count ← counted 64
  times count batch_target

-- ---- the whole

-- the spare word, the part number of the batch and the targets
unfoldable pub contents : Grammar BatchFault BatchView
contents = do
  expected u16 0 faults.Spare
  number ← shared part
  targets ← batch_targets
  give (record { part = number; targets = targets })

-- the CRC-16 of all before it, and nothing after it
unfoldable pub check_sum : Grammar BatchFault (Unit {0})
check_sum = do
  before ← prefix
  said ← u16
  shared (end said (crc16_of before))

-- at most 131,072 bytes
unfoldable pub limit : Grammar BatchFault (Unit {0})
limit = do
  size ← left
  check (nat_le size 131072) faults.TooLong

-- the length in words, the version, the contents and the check sum
unfoldable pub batch : Grammar BatchFault BatchView
batch = do
  limit
  _ ← shared (start 0xC004)
  value ← contents
  check_sum
  give value
