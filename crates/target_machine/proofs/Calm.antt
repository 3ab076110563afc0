-- No bytes more change nothing of what is kept of a file.
use Rattle.std.proofs.Common.{◌≡◌, ℕ, ◌+◌, ◌-◌, List, [], length, Option, Some, None, option_map, false, is_none, refl, sym, ap, subst, ◌∙◌, arith}
use Rattle.std.proofs.Math.Seq.{take-nil}
use Rattle.std.proofs.lemmas.List.{append-nil}
use Rattle.bank_store.specs.Store.{IsIdle}
use Rattle.bank_store.specs.declared.store.Store.{Store}
use Rattle.disk_layout.specs.Manifest.{LoadEntry}
use Rattle.session_rules.specs.Buffers.{Buffer, buffer_size, buffered_more, empty_buffer}
use Rattle.session_rules.specs.Target.{TargetSession, in_row, is_over}
use Rattle.session_rules.specs.TargetRows.{Kept_bytes, RowView}
use Rattle.load_intake.specs.States.{IntakeState}
use Rattle.target_machine.specs.Decisions.{IsCalm, TargetState}
use Rattle.target_machine.specs.Machine.{arriving_in, row_seen, seen_at, session_seen}
use Rattle.target_machine.specs.Stages.{IsInStage, IsRowStage, StartsFresh}
use Rattle.target_machine.specs.declared.row.Row.{Row}
use Rattle.target_machine.specs.declared.row.Row.TheVariants as rows
use Rattle.target_machine.specs.declared.session.LiveSession.{LiveSession}

zero_more : (n : ℕ) → n + 0 ≡ n
zero_more n = omega arith

buffered_same : (b : Buffer) → buffered_more b [] ≡ b
buffered_same b = rw (take-nil (buffer_size - length b.prefix), append-nil b.prefix, zero_more b.count) refl

kept_same : (row : RowView) (b : Buffer) → ◌≡◌ {A = Option TargetSession} (Some (record { row = row; arriving = Kept_bytes (buffered_more b []) })) (Some (record { row = row; arriving = Kept_bytes b }))
kept_same row b = rw (buffered_same b) refl

row_calm : (active : List LoadEntry) (row : Row) (b : Buffer) (store : Store) → IsRowStage row store → IsCalm (Some (record { row = row_seen active row; arriving = arriving_in row b }))
row_calm active rows.GivesLci b store stage = kept_same _ b
row_calm active rows.WritesLcs b store stage = kept_same _ b
row_calm active rows.WritesLcl b store stage = kept_same _ b
row_calm active rows.GivesLui b store stage = kept_same _ b
row_calm active rows.GivesDenial b store stage = kept_same _ b
row_calm active rows.WritesReady b store stage = kept_same _ b
row_calm active rows.AwaitsLur b store stage = kept_same _ b
row_calm active (rows.ReadsFile intake) b store stage = ap (λ (x : IntakeState). Some (record { row = row_seen active (rows.ReadsFile intake); arriving = x.arriving })) stage.calm
row_calm active (rows.WritesProgress intake) b store stage = kept_same _ b
row_calm active (rows.WritesStop end) b store stage = kept_same _ b
row_calm active (rows.WritesCompletion end) b store stage = kept_same _ b

-- in each session that is live
pub calm : (active : List LoadEntry) (live : Option LiveSession) (store : Store) → IsInStage live store → IsCalm (option_map (session_seen active) live)
calm active None store stage = refl
calm active (Some s) store stage = row_calm active s.row s.arriving store stage

pub calm_now : {R : Type 0} (st now : TargetState R) (active : List LoadEntry) (live : Option LiveSession) (store : Store) → st ≡ now → st.view.live ≡ option_map (session_seen active) live → IsInStage live store → IsCalm now.view.live
calm_now {R} st now active live store same is stage = subst (λ (x : TargetState R). IsCalm x.view.live) same (subst (λ x. IsCalm x) (sym is) (calm active live store stage))

-- ---- a row begins

-- what is kept of it
pub begins : (active : List LoadEntry) (row : Row) → StartsFresh (Some row) → seen_at active row empty_buffer ≡ in_row (row_seen active row)
begins active rows.GivesLci fresh = refl
begins active rows.WritesLcs fresh = refl
begins active rows.WritesLcl fresh = refl
begins active rows.GivesLui fresh = refl
begins active rows.GivesDenial fresh = refl
begins active rows.WritesReady fresh = refl
begins active rows.AwaitsLur fresh = refl
begins active (rows.ReadsFile intake) fresh = ap (λ x. record { row = row_seen active (rows.ReadsFile intake); arriving = x }) fresh
begins active (rows.WritesProgress intake) fresh = refl
begins active (rows.WritesStop end) fresh = refl
begins active (rows.WritesCompletion end) fresh = refl

pub none_seen : (active : List LoadEntry) (live : Option LiveSession) → is_none live ≡ false → is_none (option_map (session_seen active) live) ≡ false
none_seen active None is = absurd cc
none_seen active (Some s) is = refl

-- the session that is seen
pub session_is : (active : List LoadEntry) (live : Option LiveSession) (s : LiveSession) (x : TargetSession) → live ≡ Some s → option_map (session_seen active) live ≡ Some x → x ≡ session_seen active s
session_is active None s x e seen = absurd cc
session_is active (Some t) s x e seen = ap (unwrapped x) (sym seen) ∙ ap (λ (y : Option LiveSession). unwrapped x (option_map (session_seen active) y)) e
  where
    unwrapped : TargetSession → Option TargetSession → TargetSession
    unwrapped x None = x
    unwrapped x (Some y) = y

-- no session is live
pub idle_stage : (active : List LoadEntry) (live : Option LiveSession) (store : Store) → option_map (session_seen active) live ≡ None → IsIdle store → IsInStage live store
idle_stage active None store none idle = idle
idle_stage active (Some s) store none idle = absurd cc

pub none_by : (live : Option LiveSession) → ((s : LiveSession) → live ≡ Some s → ⊥) → live ≡ None
none_by None not = refl
none_by (Some s) not = absurd (not s refl)

session_in : (active : List LoadEntry) (s : LiveSession) (row : Row) → s.row ≡ row → s.arriving ≡ empty_buffer → session_seen active s ≡ seen_at active row empty_buffer
session_in active s row r a = rw (r, a) refl

-- a session that begins its row is seen so
pub begins_in : (active : List LoadEntry) (live : Option LiveSession) (s : LiveSession) (row : Row) → live ≡ Some s → s.row ≡ row → s.arriving ≡ empty_buffer → StartsFresh (Some row) → option_map (session_seen active) live ≡ Some (in_row (row_seen active row))
begins_in active live s row e r a fresh = ap (option_map (session_seen active)) e ∙ ap (λ x. Some x) (session_in active s row r a) ∙ ap (λ x. Some x) (begins active row fresh)

pub row_isnt_over : (active : List LoadEntry) (row : Row) → is_over (row_seen active row) ≡ false
row_isnt_over active rows.GivesLci = refl
row_isnt_over active rows.WritesLcs = refl
row_isnt_over active rows.WritesLcl = refl
row_isnt_over active rows.GivesLui = refl
row_isnt_over active rows.GivesDenial = refl
row_isnt_over active rows.WritesReady = refl
row_isnt_over active rows.AwaitsLur = refl
row_isnt_over active (rows.ReadsFile intake) = refl
row_isnt_over active (rows.WritesProgress intake) = refl
row_isnt_over active (rows.WritesStop end) = refl
row_isnt_over active (rows.WritesCompletion end) = refl
