-- How many bytes of the contents of files a session holds.
use Rattle.std.proofs.Common.{◌≡◌, ◌+◌, ◌≤◌, length, refl, ap, arith}
use Rattle.bank_store.specs.declared.store.Store.{Store}
use Rattle.session_rules.specs.Buffers.{Buffer, buffer_size}
use Rattle.load_intake.specs.Held.{contents_kept}
use Rattle.load_intake.specs.States.{IntakeState}
use Rattle.target_machine.specs.Machine.{arriving_in, row_held, session_held}
use Rattle.target_machine.specs.Stages.{IsRowStage}
use Rattle.target_machine.specs.declared.row.Row.{Row}
use Rattle.target_machine.specs.declared.row.Row.TheVariants as rows
use Rattle.target_machine.specs.declared.session.LiveSession.{LiveSession}

-- ---- while a load's file is read

pub reading_holds : (s : LiveSession) (intake : IntakeState) → s.row ≡ rows.ReadsFile intake → intake.held ≤ buffer_size → session_held s ≤ buffer_size
reading_holds s intake is little = omega (arith, ap row_held is, s.own intake is, little)

pub reading_arrives : (s : LiveSession) (intake : IntakeState) → s.row ≡ rows.ReadsFile intake → contents_kept intake.arriving ≤ intake.held → contents_kept (arriving_in s.row s.arriving) ≤ session_held s
reading_arrives s intake is kept = omega (arith, ap row_held is, ap (λ (row : Row). contents_kept (arriving_in row s.arriving)) is, kept)

-- ---- in each other row

pub other_holds : (row : Row) (b : Buffer) (store : Store) → ((intake : IntakeState) → row ≡ rows.ReadsFile intake → ⊥) → IsRowStage row store → length b.prefix ≤ buffer_size → row_held row + length b.prefix ≤ buffer_size
other_holds rows.GivesLci b store reads stage little = omega (arith, little)
other_holds rows.WritesLcs b store reads stage little = omega (arith, little)
other_holds rows.WritesLcl b store reads stage little = omega (arith, little)
other_holds rows.GivesLui b store reads stage little = omega (arith, little)
other_holds rows.GivesDenial b store reads stage little = omega (arith, little)
other_holds rows.WritesReady b store reads stage little = omega (arith, little)
other_holds rows.AwaitsLur b store reads stage little = omega (arith, little)
other_holds (rows.ReadsFile intake) b store reads stage little = absurd (reads intake refl)
other_holds (rows.WritesProgress intake) b store reads stage little = omega (arith, stage.empty, little)
other_holds (rows.WritesStop end) b store reads stage little = omega (arith, little)
other_holds (rows.WritesCompletion end) b store reads stage little = omega (arith, little)

pub other_arrives : (row : Row) (b : Buffer) → ((intake : IntakeState) → row ≡ rows.ReadsFile intake → ⊥) → contents_kept (arriving_in row b) ≤ row_held row + length b.prefix
other_arrives rows.GivesLci b reads = omega arith
other_arrives rows.WritesLcs b reads = omega arith
other_arrives rows.WritesLcl b reads = omega arith
other_arrives rows.GivesLui b reads = omega arith
other_arrives rows.GivesDenial b reads = omega arith
other_arrives rows.WritesReady b reads = omega arith
other_arrives rows.AwaitsLur b reads = omega arith
other_arrives (rows.ReadsFile intake) b reads = absurd (reads intake refl)
other_arrives (rows.WritesProgress intake) b reads = omega arith
other_arrives (rows.WritesStop end) b reads = omega arith
other_arrives (rows.WritesCompletion end) b reads = omega arith
