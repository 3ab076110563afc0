-- How a session comes to its next row, and asks for what that asks for.
use Rattle.std.proofs.Common.{◌≡◌, ℕ, List, [], ◌∷◌, Bool, true, false, Option, Some, None, is_some, Result, Ok, Err, IfOk, OnOk, refl, sym, ap, subst, ◌∙◌, if◌then◌else◌}
use Rattle.load_base.specs.declared.list.NoMemory.{NoMemory}
use Rattle.exchange_trace.specs.declared.trace.Datagram.{Datagram}
use Rattle.exchange_trace.specs.declared.trace.Side.TheVariants as sides
use Rattle.exchange_trace.specs.Happenings.{DatagramView}
use Rattle.transfer_end.specs.Calls.{Makes, posted}
use Rattle.transfer_end.specs.Moves.{Asks, Stops, all_posts, views_after}
use Rattle.transfer_end.specs.Packets.{has_port}
use Rattle.transfer_end.specs.Transfers.{Role}
use Rattle.accept_rules.specs.Permissions.{Accepts}
use Rattle.session_rules.specs.declared.reason.Reason.TheVariants as reasons
use Rattle.session_rules.specs.Target.{TargetSession, TargetView, active_in, in_row, is_over, later_reason, reason_in, row_request}
use Rattle.session_rules.specs.TargetRows.{RowView, Gives_lci, Writes_lcs, Writes_lcl, Gives_lui, Gives_denial, Writes_ready, Awaits_lur, Reads_file, Writes_progress, Writes_stop, Writes_completion, Over}
use Rattle.target_machine.specs.Decisions.{Enters, TargetKeeps, TargetState, asked_by, asked_view, asking_moves, end_with, entered_view, entering_moves, in_next_row, is_asking, row_then}
use Rattle.target_machine.specs.Machine.{row_seen}
use Rattle.target_machine.specs.Stages.{InstalledState, TurnsTo}
use Rattle.target_machine.specs.declared.row.Row.{Row}
use Rattle.target_machine.proofs.Calm.{row_isnt_over}
use Rattle.target_machine.proofs.Following.{turned_over, turned_to}

-- ---- the next row

some_one : (x s : TargetSession) → ◌≡◌ {A = Option TargetSession} (Some x) (Some s) → x ≡ s
some_one x s e = ap (unwrapped x) e
  where
    unwrapped : TargetSession → Option TargetSession → TargetSession
    unwrapped x None = x
    unwrapped x (Some y) = y

module _ {R : Type 0} (accepts : Accepts) (st now after : TargetState R) (error : Option ℕ) (x s : TargetSession) (old new : InstalledState) (e : st ≡ now) (live : now.view.live ≡ Some x) (kept : st.view.live ≡ Some s)
    (same : old.active ≡ st.view.active) (rule : after.rule ≡ st.rule) (end : after.view.end ≡ st.view.end) (active : after.view.active ≡ new.active) where
  -- the row to which the session turns
  abbrev turned : RowView
  turned = row_then accepts st.view.active s error

  x_is : x ≡ s
  x_is = some_one x s (sym live ∙ ap (λ (y : TargetState R). y.view.live) (sym e) ∙ kept)

  as_decided : TargetKeeps st after (in_next_row st.view turned) → TargetKeeps now after (in_next_row now.view (row_then accepts now.view.active x error))
  as_decided keeps =
      subst (λ (y : TargetSession). TargetKeeps now after (in_next_row now.view (row_then accepts now.view.active y error))) (sym x_is)
      (subst (λ (y : TargetState R). TargetKeeps y after (in_next_row y.view (row_then accepts y.view.active s error))) e keeps)

  pub turns_row : (row : Row) → TurnsTo (Some row) turned old new → after.view.live ≡ Some (in_row (row_seen new.active.loads row)) → after.view.reason ≡ later_reason st.view.reason (reason_in (row_seen new.active.loads row))
      → TargetKeeps now after (in_next_row now.view (row_then accepts now.view.active x error))
  turns_row row turns seen reason =
      as_decided (record {
        rule = rule;
        view_is = turned_to st.view turned after.view.end after.view.live after.view.active after.view.reason (ap is_over (sym turns.is) ∙ row_isnt_over new.active.loads row) end
            (seen ∙ ap (λ (r : RowView). Some (in_row r)) turns.is)
            (active ∙ turns.active ∙ ap (λ o. active_in o turned) same)
            (reason ∙ ap (λ (r : RowView). later_reason st.view.reason (reason_in r)) turns.is);
      })

  pub ends_row : TurnsTo None turned old new → after.view.live ≡ None → after.view.reason ≡ st.view.reason
      → TargetKeeps now after (in_next_row now.view (row_then accepts now.view.active x error))
  ends_row turns seen reason =
      as_decided (record {
        rule = rule;
        view_is = turned_over st.view turned after.view.end after.view.live after.view.active after.view.reason (sym turns.is) end seen
            (active ∙ turns.active ∙ ap (λ o. active_in o turned) same) reason;
      })

-- ---- what it asks for

asks_so : (v : TargetView) (row : RowView) → is_some (row_request v row) ≡ is_asking row
asks_so v Gives_lci = refl
asks_so v Writes_lcs = refl
asks_so v Writes_lcl = refl
asks_so v Gives_lui = refl
asks_so v Gives_denial = refl
asks_so v Writes_ready = refl
asks_so v Awaits_lur = refl
asks_so v (Reads_file u) = refl
asks_so v (Writes_progress u) = refl
asks_so v (Writes_stop e) = refl
asks_so v (Writes_completion e loads) = refl
asks_so v Over = refl

-- a session that is over ends its transfer
pub ends_transfer : {R : Type 0} (st now after : TargetState R) → st ≡ now → st.view.live ≡ None → after.rule ≡ st.rule → after.view ≡ end_with st.view after.view.end → Makes sides.Target (Stops ∷ []) st.view.end after.view.end []
    → Enters now after []
ends_transfer {R} st now after e none rule is makes =
    subst (λ (x : TargetState R). Enters x after []) e
    (record {
      rule = rule;
      keeps = is ∙ ap (end_with st.view) makes.keeps ∙ sym (ap (entered_view st.view) none);
      posts = makes.posts ∙ sym (ap (λ l. all_posts sides.Target st.view.end (entering_moves st.view l)) none);
    })

-- a row asks, for which a port is left
pub asks_now : {R : Type 0} (now after : TargetState R) (s : TargetSession) (sent : List DatagramView) → now.view.live ≡ Some s → is_asking s.row ≡ true → has_port now.view.end ≡ true
    → Makes sides.Target (asked_by (row_request now.view s.row)) now.view.end after.view.end sent → TargetKeeps now after (end_with now.view after.view.end) → Enters now after sent
asks_now now after s sent live asks port makes rest = by_role (row_request now.view s.row) refl (asks_so now.view s.row ∙ asks) makes
  where
    by_role : (role : Option Role) → row_request now.view s.row ≡ role → is_some (row_request now.view s.row) ≡ true → Makes sides.Target (asked_by (row_request now.view s.row)) now.view.end after.view.end sent → Enters now after sent
    by_role None r some made = absurd (false_true (ap is_some (sym r) ∙ some))
      where
        false_true : false ≡ true → ⊥
        false_true e = absurd cc
    by_role (Some role) r some made =
        let asked = subst (λ (y : Option Role). Makes sides.Target (asked_by y) now.view.end after.view.end sent) r made in
        record {
          rule = rest.rule;
          keeps = rest.view_is ∙ ap (end_with now.view) asked.keeps
              ∙ sym (ap (entered_view now.view) live ∙ ap (asked_view now.view) r ∙ ap (λ (y : Bool). if y then end_with now.view (views_after sides.Target now.view.end (Asks role ∷ [])) else record { end = views_after sides.Target now.view.end (Stops ∷ []); live = None; active = now.view.active; reason = Some reasons.PortsSpent }) port);
          posts = asked.posts
              ∙ sym (ap (λ l. all_posts sides.Target now.view.end (entering_moves now.view l)) live ∙ ap (λ (y : Option Role). all_posts sides.Target now.view.end (asking_moves now.view.end y)) r
              ∙ ap (λ (y : Bool). all_posts sides.Target now.view.end (if y then Asks role ∷ [] else Stops ∷ [])) port);
        }

pub asks_now_ok : {R : Type 0} (now after : TargetState R) (s : TargetSession) (result : Result (Option Datagram) NoMemory) → now.view.live ≡ Some s → is_asking s.row ≡ true → has_port now.view.end ≡ true
    → IfOk result (λ post. Makes sides.Target (asked_by (row_request now.view s.row)) now.view.end after.view.end (posted post)) → OnOk result (TargetKeeps now after (end_with now.view after.view.end))
    → IfOk result (λ post. Enters now after (posted post))
asks_now_ok now after s (Err e) live asks port makes rest = tt
asks_now_ok now after s (Ok post) live asks port makes rest = asks_now now after s (posted post) live asks port makes rest
