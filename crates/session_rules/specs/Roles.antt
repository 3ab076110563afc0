-- The transfer that a row asks for (docs/EXCHANGE.md, "Operations").
use Rattle.std.specs.Prelude.{◌≡◌, ℕ, List, Option, Some, None, ⊤}
use Rattle.transfer_end.specs.Transfers.{Role, Reads, Transfer, Writes}
use Rattle.session_rules.specs.TargetRows.{Reads_file, RowView, WholeRow, Writes_progress, row_view}
use Rattle.session_rules.specs.Uploads.{next_name}

-- the side reads the file of this name
abbrev pub RoleReads : List ℕ → Role → Type 0
RoleReads next (Reads name options) = name ≡ next
RoleReads next role = ⊥

abbrev pub ReadsNothing : Role → Type 0
ReadsNothing (Reads name options) = ⊥
ReadsNothing role = ⊤

-- the side asked to write a file
abbrev pub RoleWrites : Role → Type 0
RoleWrites (Writes name options file) = ⊤
RoleWrites role = ⊥

-- the transfer is the one that the row asks for: a file that is read has the next name, and no other row reads; progress is
-- written
abbrev pub IsOfView : RowView → Role → Type 0
IsOfView (Reads_file u) role = RoleReads (next_name u) role
IsOfView (Writes_progress u) role = RoleWrites role
IsOfView row role = ReadsNothing role

abbrev pub IsOfRow : WholeRow → Role → Type 0
IsOfRow row role = IsOfView (row_view row) role

-- so it is of the transfer that is live, if one is
abbrev pub LiveFits : RowView → Option Transfer → Type 0
LiveFits row None = ⊤
LiveFits row (Some t) = IsOfView row t.role

abbrev pub LiveReadsNothing : Option Transfer → Type 0
LiveReadsNothing None = ⊤
LiveReadsNothing (Some t) = ReadsNothing t.role

-- a transfer in this role is live
abbrev pub HasRole : Option Transfer → Role → Type 0
HasRole None role = ⊥
HasRole (Some t) role = t.role ≡ role
