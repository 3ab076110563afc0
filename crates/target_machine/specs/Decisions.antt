-- What a call of the target does, as its rules decide it (docs/EXCHANGE.md, "The target").
use Rattle.std.specs.Prelude.{◌≡◌, ℕ, List, [], ◌∷◌, Bool, true, false, bytes_eq, Option, Some, None, if◌then◌else◌}
use Rattle.exchange_trace.specs.declared.trace.Side.TheVariants as sides
use Rattle.exchange_trace.specs.Happenings.{DatagramView}
use Rattle.exchange_trace.specs.Logs.{Event}
use Rattle.disk_layout.specs.Holds.{Outline}
use Rattle.accept_rules.specs.Permissions.{Accepts}
use Rattle.bank_store.specs.declared.store.Store.{Store}
use Rattle.tftp_packet.specs.declared.options.Options.{Options}
use Rattle.tftp_link.specs.Answers.{NewsView, Nothing, Block, Last, Done, PeerError}
use Rattle.transfer_end.specs.Moves.{Move, Asks, Refuses, Stops, all_posts, views_after}
use Rattle.transfer_end.specs.Packets.{has_port, is_busy, is_fresh}
use Rattle.transfer_end.specs.Transfers.{Role}
use Rattle.transfer_end.specs.Views.{EndView}
use Rattle.session_rules.specs.declared.outcome.FileKind.{FileKind}
use Rattle.session_rules.specs.declared.outcome.FileKind.TheVariants.{Lci, Lui, Lur}
use Rattle.session_rules.specs.declared.outcome.SessionKind.{SessionKind}
use Rattle.session_rules.specs.declared.outcome.SessionKind.TheVariants.{Info, Upload}
use Rattle.session_rules.specs.declared.reason.Reason.TheVariants as reasons
use Rattle.session_rules.specs.Target.{Continues, TargetDecision, TargetSession, TargetView, continued, doing, is_over, nothing, own_name, row_request, target_changed, target_decision, turn_decision, view_turned, without_port, write_decision}
use Rattle.session_rules.specs.TargetRows.{Arriving, RowView, error_move, TargetRow, Writes_lcs, Writes_lcl, Writes_ready, Awaits_lur, Reads_file, Writes_progress, Writes_stop, Writes_completion, row_move, view_moved}

-- the rule of the interlock, the store, what the target keeps, and how many bytes of the contents of files all lists of its
-- session hold together
pub record TargetState (R : Type 0) : Type 0 where
  pub rule : R
  pub store : Store
  pub view : TargetView
  pub held : ℕ

-- A call does what is decided: what the target keeps then, and all that it posts.
pub record TargetDoes {R : Type 0} (decision : TargetDecision) (before after : TargetState R) (sent : List DatagramView) : Type 0 where
  pub rule : after.rule ≡ before.rule
  pub keeps : after.view ≡ target_changed (views_after sides.Target before.view.end decision.moves) before.view decision.change
  pub posts : sent ≡ all_posts sides.Target before.view.end decision.moves

-- A call takes an event: it does what the target's rules decide then, where the interlock accepts these headers.
abbrev pub TargetTakesEvent : {R : Type 0} → Accepts → Event → (before after : TargetState R) → List DatagramView → Type 0
TargetTakesEvent accepts e before after sent = TargetDoes (target_decision accepts before.view e) before after sent

-- ---- how a call does it, piece by piece

-- what the target keeps, where this is its end of the transfers
abbrev pub end_with : TargetView → EndView → TargetView
end_with v end = record { end = end; live = v.live; active = v.active; reason = v.reason }

-- or its live session
abbrev pub with_live : TargetView → Option TargetSession → TargetView
with_live v live = record { end = v.end; live = live; active = v.active; reason = v.reason }

-- The call may change the store; what the target keeps then is this.
pub record TargetKeeps {R : Type 0} (before after : TargetState R) (view : TargetView) : Type 0 where
  pub rule : after.rule ≡ before.rule
  pub view_is : after.view ≡ view

-- What follows from what is told of a packet that the live transfer got, beside the moves of the transfer.
abbrev pub following : Accepts → TargetView → TargetSession → NewsView → TargetDecision
following accepts v s Nothing = nothing
following accepts v s (Block payload) = record { moves = []; change = Continues payload }
following accepts v s (Last payload) = turn_decision accepts v s [] payload None
following accepts v s Done = turn_decision accepts v s [] [] None
following accepts v s (PeerError code) = turn_decision accepts v s [] [] (Some code)

-- ---- rows

-- the row to which a session turns once a transfer of it is over, perhaps by an ERROR
abbrev pub row_then : Accepts → (active : Outline) → TargetSession → (error : Option ℕ) → RowView
row_then accepts active s error = view_moved s.row s.arriving (row_move accepts active s.row (record { error = error; arriving = s.arriving }))

-- the row to which a session turns at an ERROR
abbrev pub broken_to : RowView → Arriving → (code : ℕ) → RowView
broken_to row arriving code = view_moved row arriving (error_move row code)

-- what is kept in it, before anything is asked for; a session that is over isn't live
abbrev pub in_next_row : TargetView → RowView → TargetView
in_next_row v row = if is_over row then with_live v None else view_turned v.end v row

-- the move by which this is asked for, if anything is
abbrev pub asked_by : Option Role → List Move
asked_by None = []
asked_by (Some role) = Asks role ∷ []

-- the moves by which a row asks for its request: none where it has none, and a transfer ends where no port is left for it
abbrev pub asking_moves : EndView → Option Role → List Move
asking_moves v None = []
asking_moves v (Some role) = if has_port v then Asks role ∷ [] else Stops ∷ []

-- what is kept then, in a session that is live
abbrev pub asked_view : TargetView → Option Role → TargetView
asked_view v None = v
asked_view v (Some role) =
    if has_port v.end then end_with v (views_after sides.Target v.end (Asks role ∷ []))
    else record { end = views_after sides.Target v.end (Stops ∷ []); live = None; active = v.active; reason = Some reasons.PortsSpent }

-- the moves of a session that has come to a row, or is over
abbrev pub entering_moves : TargetView → Option TargetSession → List Move
entering_moves v None = Stops ∷ []
entering_moves v (Some s) = asking_moves v.end (row_request v s.row)

abbrev pub entered_view : TargetView → Option TargetSession → TargetView
entered_view v None = end_with v (views_after sides.Target v.end (Stops ∷ []))
entered_view v (Some s) = asked_view v (row_request v s.row)

-- The row of the live session asks for its request, or a session that is over ends its transfer.
pub record Enters {R : Type 0} (before after : TargetState R) (sent : List DatagramView) : Type 0 where
  pub rule : after.rule ≡ before.rule
  pub keeps : after.view ≡ entered_view before.view before.view.live
  pub posts : sent ≡ all_posts sides.Target before.view.end (entering_moves before.view before.view.live)

-- the row has a request of the target's own
abbrev pub is_asking : {U C : Type 0} → TargetRow U C → Bool
is_asking Writes_lcs = true
is_asking Writes_lcl = true
is_asking Writes_ready = true
is_asking (Reads_file u) = true
is_asking (Writes_progress u) = true
is_asking (Writes_stop e) = true
is_asking (Writes_completion e loads) = true
is_asking row = false

-- ---- requests

-- a request from this port is taken, if it is fresh and a port is left
abbrev pub taking : TargetView → (from : ℕ) → TargetDecision → TargetDecision
taking v from decision = if is_fresh v.end from then (if has_port v.end then decision else without_port v.live) else nothing

-- whether a request from this port is taken: then nothing has happened yet, and else all has that the request brings
abbrev pub TargetServes : {R : Type 0} → (taken : Bool) → (from : ℕ) → (before after : TargetState R) → Type 0
TargetServes true from before after = (after ≡ before) × (is_fresh before.view.end from ≡ true) × (has_port before.view.end ≡ true)
TargetServes false from before after = (decision : TargetDecision) → TargetDoes (taking before.view from decision) before after []

-- the target's own file that an operation begins with
abbrev pub kind_given : SessionKind → FileKind
kind_given Info = Lci
kind_given Upload = Lui

-- the operation that a request to read the file of this name begins
abbrev pub given_kind : TargetView → (name : List ℕ) → Option SessionKind
given_kind v name = if bytes_eq name (own_name v Lci) then Some Info else if bytes_eq name (own_name v Lui) then Some Upload else None

-- a request for any other file
abbrev pub refusing : TargetView → (from : ℕ) → TargetDecision
refusing v from = if is_busy v.end then nothing else doing (Refuses from ∷ [])

-- a request to write
abbrev pub writing_decision : TargetView → (from : ℕ) → (name : List ℕ) → Options → TargetDecision
writing_decision v from name options = if is_busy v.end then nothing else write_decision v from name options v.live

abbrev pub awaits_in : TargetView → (name : List ℕ) → RowView → Bool
awaits_in v name Awaits_lur = bytes_eq name (own_name v Lur)
awaits_in v name row = false

-- the session awaits a request to write, and this is the name of it
abbrev pub awaits_file : TargetView → Option TargetSession → (name : List ℕ) → Bool
awaits_file v None name = false
awaits_file v (Some s) name = awaits_in v name s.row

-- ---- what waits

-- no bytes more change nothing of what is kept of a file
abbrev pub IsCalm : Option TargetSession → Type 0
IsCalm live = continued live [] ≡ live
