-- What a session of the target served before it writes: the request that began it, and then the request of an upload.
use Rattle.std.proofs.Common.{◌≡◌, ℕ, Bool, true, false, cond, eqb, List, [], ◌∷◌, ◌++◌, Option, Some, None, refl, sym, ap, subst, ◌∙◌, append_assoc}
use Rattle.std.specs.List.{AllByRecursion}
use Rattle.load_header.specs.declared.header.FileEntry.{FileEntry}
use Rattle.disk_layout.specs.Holds.{Outline, StandingView, outline_of}
use Rattle.tftp_link.specs.Answers.{is_live}
use Rattle.exchange_trace.specs.declared.trace.Side.TheVariants as sides
use Rattle.exchange_trace.specs.Logs.{Event, event_for}
use Rattle.exchange_trace.specs.Posts.{posted_in}
use Rattle.exchange_trace.specs.Steps.{Boot_refused, Came_up, Note, Step, Went_down}
use Rattle.transfer_end.specs.Laws.{IsLive}
use Rattle.transfer_end.specs.Moves.{Move}
use Rattle.transfer_end.specs.OtherEnds.{is_asking}
use Rattle.transfer_end.specs.Readings.{Reading}
use Rattle.transfer_end.specs.Transfers.{Reads, Role, ServesRead, ServesWrite, Transfer, Writes, arrived_of, end_in, end_of, error_of, phase_of}
use Rattle.accept_rules.specs.Permissions.{Accepts}
use Rattle.session_rules.specs.declared.outcome.FileKind.{FileKind}
use Rattle.session_rules.specs.declared.outcome.FileKind.TheVariants.{Lci, Lui}
use Rattle.session_rules.proofs.BufferLemmas.{SumsJoin}
use Rattle.session_rules.specs.LoaderLog.{newest}
use Rattle.session_rules.specs.Roles.{HasRole}
use Rattle.session_rules.specs.Target.{Begins, Continues, Ends, TargetChange, Turns, Turns_without_port, target_decision}
use Rattle.session_rules.proofs.TargetLemmas.{FitsChange, HasTurned, after, decision_fits, seen_row, turned_row, turned_view}
use Rattle.session_rules.specs.TargetLog.{TargetReading, TargetSessionLog, log_turned, reading_turned, target_extended, target_reading_changed, target_view, with_done}
use Rattle.session_rules.specs.TargetRows.{Arriving, Awaits_lur, Breaks_off, Gives_denial, Gives_lci, Gives_lui, Judges, Kept_bytes, Kept_sums, Over, Passes, Reads_file, Refuses_request, Requests, RowMove, RowView, Writes_completion, Writes_lcl, Writes_lcs, Writes_progress, Writes_ready, Writes_stop, arriving_of, error_move, file_move, first_row, header_move, placed_view_if, read_move, row_after, row_move_by, row_view, view_judged, view_judged_in, view_moved, with_file_view, with_header_view}
use Rattle.session_rules.specs.Uploads.{Accepts_file, Accepts_header, Complete, Judgement, More_files, Next, Next_load, OpenLoadView, Stops_for, UploadView, next_entry, next_name, next_wanted}
use Rattle.replay_rules.specs.BothEnds.{Is_down, Is_up, Setting, TargetStanding, come_up, gone_down, noted, reached, target_at}
use Rattle.replay_rules.proofs.TieLemmas.{HasLive, target_is_live}
use Rattle.replay_rules.proofs.TargetRoles.{FitsRole, IsGiving, IsOfTargetRow, IsTaking, LiveGives, LiveOfRow, decision_roles}

-- ---- what was served before

-- The target served the request of one of these transfers, the newest first, in such a role, and packets came in it; it asked
-- for all since.
pub record HasServed (Is : Role → Type 0) (past : List Transfer) : Type 0 where
  pub since : List Transfer
  pub served : Transfer
  pub older : List Transfer
  pub split : past ≡ since ++ served ∷ older
  pub asks : AllByRecursion (λ (t : Transfer). is_asking t.role ≡ true) since
  pub is : Is served.role
  pub heard : served.got ≡ [] → ⊥

-- in a row in which it writes what an operation begins with, it gave a file; once it reads files, it took a request to write
abbrev pub PlacedRow : RowView → List Transfer → Type 0
PlacedRow Writes_lcs past = HasServed IsGiving past
PlacedRow Writes_lcl past = HasServed IsGiving past
PlacedRow Writes_ready past = HasServed IsGiving past
PlacedRow (Reads_file u) past = HasServed IsTaking past
PlacedRow (Writes_progress u) past = HasServed IsTaking past
PlacedRow (Writes_stop e) past = HasServed IsTaking past
PlacedRow (Writes_completion e loads) past = HasServed IsTaking past
PlacedRow row past = Unit {0}

served_now : (Is : Role → Type 0) (t : Transfer) (past : List Transfer) → Is t.role → (t.got ≡ [] → ⊥) → HasServed Is (t ∷ past)
served_now Is t past is heard = record { since = []; served = t; older = past; split = refl; asks = tt; is = is; heard = heard }

served_then : (Is : Role → Type 0) (t : Transfer) (past : List Transfer) → is_asking t.role ≡ true → HasServed Is past → HasServed Is (t ∷ past)
served_then Is t past asks h =
    record { since = t ∷ h.since; served = h.served; older = h.older; split = ap (λ (ts : List Transfer). t ∷ ts) h.split; asks = (asks, h.asks); is = h.is; heard = h.heard }

pub served_before : (Is : Role → Type 0) (past former : List Transfer) → HasServed Is past → HasServed Is (past ++ former)
served_before Is past former h = record {
  since = h.since;
  served = h.served;
  older = h.older ++ former;
  split = ap (λ (ts : List Transfer). ts ++ former) h.split ∙ append_assoc h.since (h.served ∷ h.older) former;
  asks = h.asks;
  is = h.is;
  heard = h.heard;
}

pub placed_before : (row : RowView) (past former : List Transfer) → PlacedRow row past → PlacedRow row (past ++ former)
placed_before Writes_lcs past former h = served_before IsGiving past former h
placed_before Writes_lcl past former h = served_before IsGiving past former h
placed_before Writes_ready past former h = served_before IsGiving past former h
placed_before (Reads_file u) past former h = served_before IsTaking past former h
placed_before (Writes_progress u) past former h = served_before IsTaking past former h
placed_before (Writes_stop e) past former h = served_before IsTaking past former h
placed_before (Writes_completion e loads) past former h = served_before IsTaking past former h
placed_before Gives_lci past former h = tt
placed_before Gives_lui past former h = tt
placed_before Gives_denial past former h = tt
placed_before Awaits_lur past former h = tt
placed_before Over past former h = tt

-- ---- a transfer that is over

begins_live : (role : Role) → is_live (phase_of (end_of role [])) ≡ true
unfolding end_of
begins_live (Reads name o) = refl
begins_live (Writes name o file) = refl
begins_live (ServesRead name o file) = refl
begins_live (ServesWrite name o) = refl

-- packets came in it
pub over_heard : (t : Transfer) → is_live (phase_of (end_in t)) ≡ false → t.got ≡ [] → ⊥
over_heard t over none = let wrong : true ≡ false = sym (begins_live t.role) ∙ (sym (ap (λ (got : _). is_live (phase_of (end_of t.role got))) none) ∙ over) in cc

-- ---- which move comes in which row

abbrev pub Awaits : RowView → Type 0
Awaits Awaits_lur = Unit {0}
Awaits row = ⊥

abbrev pub ComesIn : RowView → RowMove → Type 0
ComesIn row (Requests loads) = Awaits row
ComesIn row (Refuses_request fault) = Awaits row
ComesIn row move = Unit {0}

module _ (accepts : Accepts) (active : Outline) where
  header_comes : (row : RowView) (u : UploadView) (wanted : Option _) (arriving : Arriving) → ComesIn row (header_move accepts active u wanted arriving)
  header_comes row u None arriving = tt
  header_comes row u (Some w) (Kept_bytes b) = tt
  header_comes row u (Some w) (Kept_sums s) = tt

  file_comes : (row : RowView) (u : UploadView) (l : OpenLoadView) (entry : Option FileEntry) (arriving : Arriving) → ComesIn row (file_move u l entry arriving)
  file_comes row u l None arriving = tt
  file_comes row u l (Some entry) (Kept_bytes b) = tt
  file_comes row u l (Some entry) (Kept_sums s) = tt

  read_comes : (row : RowView) (u : UploadView) (current : Option OpenLoadView) (arriving : Arriving) → ComesIn row (read_move accepts active u current arriving)
  read_comes row u None arriving = header_comes row u (next_wanted u) arriving
  read_comes row u (Some l) arriving = file_comes row u l (next_entry l) arriving

  awaited_comes : (move : RowMove) → ComesIn Awaits_lur move
  awaited_comes (Requests loads) = tt
  awaited_comes (Refuses_request fault) = tt
  awaited_comes (Judges judgement) = tt
  awaited_comes Passes = tt
  awaited_comes Breaks_off = tt

  error_comes : (row : RowView) (code : ℕ) → ComesIn row (error_move row code)
  error_comes (Reads_file u) code = tt
  error_comes Gives_lci code = tt
  error_comes Writes_lcs code = tt
  error_comes Writes_lcl code = tt
  error_comes Gives_lui code = tt
  error_comes Gives_denial code = tt
  error_comes Writes_ready code = tt
  error_comes Awaits_lur code = tt
  error_comes (Writes_progress u) code = tt
  error_comes (Writes_stop e) code = tt
  error_comes (Writes_completion e loads) code = tt
  error_comes Over code = tt

  pub move_comes : (row : RowView) (error : Option ℕ) (arriving : Arriving) → ComesIn row (row_move_by accepts active row arriving error)
  move_comes row (Some code) arriving = error_comes row code
  move_comes (Reads_file u) None arriving = read_comes (Reads_file u) u u.current arriving
  move_comes Awaits_lur None arriving = awaited_comes _
  move_comes Gives_lci None arriving = tt
  move_comes Writes_lcs None arriving = tt
  move_comes Writes_lcl None arriving = tt
  move_comes Gives_lui None arriving = tt
  move_comes Gives_denial None arriving = tt
  move_comes Writes_ready None arriving = tt
  move_comes (Writes_progress u) None arriving = tt
  move_comes (Writes_stop e) None arriving = tt
  move_comes (Writes_completion e loads) None arriving = tt
  move_comes Over None arriving = tt

-- ---- the row after it

module _ (t : Transfer) (past : List Transfer) (heard : t.got ≡ [] → ⊥) where
  abbrev Then : RowView → Type 0
  Then row = PlacedRow row (t ∷ past)

  placed_next : (u : UploadView) (l : Option OpenLoadView) (next : Next) → HasServed IsTaking (t ∷ past) → Then (placed_view_if u l next)
  placed_next u None next h = tt
  placed_next u (Some l) More_files h = h
  placed_next u (Some l) Next_load h = h
  placed_next u (Some l) Complete h = h

  judged_next : (u : UploadView) (arriving : Arriving) (judgement : Judgement) → HasServed IsTaking (t ∷ past) → Then (view_judged u arriving judgement)
  judged_next u arriving (Stops_for reason n) h = h
  judged_next u arriving (Accepts_header header next) h = placed_next u (with_header_view (next_wanted u) header arriving) next h
  judged_next u arriving (Accepts_file next) h = placed_next u (with_file_view u.current (next_name u) arriving) next h

  judged_in_next : (row : RowView) (arriving : Arriving) (judgement : Judgement) → IsOfTargetRow row t.role → PlacedRow row past → Then (view_judged_in row arriving judgement)
  judged_in_next (Reads_file u) arriving judgement role h = judged_next u arriving judgement (served_then IsTaking t past role h)
  judged_in_next Gives_lci arriving judgement role h = tt
  judged_in_next Writes_lcs arriving judgement role h = tt
  judged_in_next Writes_lcl arriving judgement role h = tt
  judged_in_next Gives_lui arriving judgement role h = tt
  judged_in_next Gives_denial arriving judgement role h = tt
  judged_in_next Writes_ready arriving judgement role h = tt
  judged_in_next Awaits_lur arriving judgement role h = tt
  judged_in_next (Writes_progress u) arriving judgement role h = tt
  judged_in_next (Writes_stop e) arriving judgement role h = tt
  judged_in_next (Writes_completion e loads) arriving judgement role h = tt
  judged_in_next Over arriving judgement role h = tt

  passed_next : (row : RowView) → IsOfTargetRow row t.role → PlacedRow row past → Then (row_after row)
  passed_next Gives_lci role h = served_now IsGiving t past role heard
  passed_next Gives_lui role h = served_now IsGiving t past role heard
  passed_next Writes_lcs role h = served_then IsGiving t past role h
  passed_next (Writes_progress u) role h = served_then IsTaking t past role h
  passed_next (Reads_file u) role h = tt
  passed_next Writes_lcl role h = tt
  passed_next Gives_denial role h = tt
  passed_next Writes_ready role h = tt
  passed_next Awaits_lur role h = tt
  passed_next (Writes_stop e) role h = tt
  passed_next (Writes_completion e loads) role h = tt
  passed_next Over role h = tt

  taken_now : (row : RowView) → Awaits row → IsOfTargetRow row t.role → HasServed IsTaking (t ∷ past)
  taken_now Awaits_lur awaits role = served_now IsTaking t past role heard
  taken_now Gives_lci awaits role = absurd awaits
  taken_now Writes_lcs awaits role = absurd awaits
  taken_now Writes_lcl awaits role = absurd awaits
  taken_now Gives_lui awaits role = absurd awaits
  taken_now Gives_denial awaits role = absurd awaits
  taken_now Writes_ready awaits role = absurd awaits
  taken_now (Reads_file u) awaits role = absurd awaits
  taken_now (Writes_progress u) awaits role = absurd awaits
  taken_now (Writes_stop e) awaits role = absurd awaits
  taken_now (Writes_completion e loads) awaits role = absurd awaits
  taken_now Over awaits role = absurd awaits

  moved_next : (row : RowView) (arriving : Arriving) (move : RowMove) → ComesIn row move → IsOfTargetRow row t.role → PlacedRow row past → Then (view_moved row arriving move)
  moved_next row arriving Passes comes role h = passed_next row role h
  moved_next row arriving (Requests loads) comes role h = taken_now row comes role
  moved_next row arriving (Refuses_request fault) comes role h = taken_now row comes role
  moved_next row arriving (Judges judgement) comes role h = judged_in_next row arriving judgement role h
  moved_next row arriving Breaks_off comes role h = tt

-- ---- a session

-- its live transfer is of its row, and it served what it did before that
pub record IsPlaced (row : RowView) (end : Reading) : Type 0 where
  pub role : LiveOfRow row end.live
  pub placed : PlacedRow row end.past

abbrev pub SessionPlaced : Reading → Option TargetSessionLog → Type 0
SessionPlaced end None = Unit {0}
SessionPlaced end (Some s) = IsPlaced (seen_row s) end

pub of_role : (row : RowView) (live : Option Transfer) (role : Role) → HasRole live role → LiveOfRow row live → IsOfTargetRow row role
of_role row None role was fits = absurd was
of_role row (Some t) role was fits = subst (λ (x : Role). IsOfTargetRow row x) was fits

gives_lci : (live : Option Transfer) → LiveGives live → LiveOfRow Gives_lci live
gives_lci None gives = tt
gives_lci (Some t) gives = gives

gives_lui : (live : Option Transfer) → LiveGives live → LiveOfRow Gives_lui live
gives_lui None gives = tt
gives_lui (Some t) gives = gives

gives_denial : (live : Option Transfer) → LiveGives live → LiveOfRow Gives_denial live
gives_denial None gives = tt
gives_denial (Some t) gives = gives

gives_none : (live : Option Transfer) → LiveOfRow Over live
gives_none None = tt
gives_none (Some t) = tt

module _ (joins : SumsJoin) (accepts : Accepts) where
  turned_placed : (active : StandingView) (end : Reading) (s : TargetSessionLog) (moves : List Move) (move : RowMove) (more : List ℕ) → HasTurned accepts active end s moves move more → LiveOfRow (turned_view end s move more) (after end moves).live → IsPlaced (seen_row s) end
      → IsPlaced (seen_row (with_done accepts active s (newest (after end moves).past))) (after end moves)
  turned_placed active end s moves move more h role was =
      let row : RowView = seen_row s in
      let comes : ComesIn row move = subst (ComesIn row) (sym h.comes_to) (move_comes accepts (outline_of active) row (error_of h.ended) (arriving_of row (arrived_of h.ended))) in
      let then : PlacedRow (turned_view end s move more) (h.ended ∷ end.past) = moved_next h.ended end.past (over_heard h.ended h.over) row _ move comes (of_role row end.live h.ended.role h.was_live was.role) was.placed in
      subst (λ (x : RowView). IsPlaced x (after end moves)) (sym (turned_row joins accepts active s end moves move more h)) (record { role = role; placed = subst (PlacedRow (turned_view end s move more)) (sym h.past) then })

  first_placed : (kind : FileKind) (sequence : ℕ) (end : Reading) → LiveGives end.live → IsPlaced (row_view (first_row kind sequence)) end
  first_placed Lci sequence end gives = record { role = gives_lci end.live gives; placed = tt }
  first_placed Lui sequence end gives = by (eqb sequence 4294967295)
    where
      by : (b : Bool) → IsPlaced (row_view (cond b Gives_denial Gives_lui)) end
      by true = record { role = gives_denial end.live gives; placed = tt }
      by false = record { role = gives_lui end.live gives; placed = tt }
  first_placed kind sequence end gives = record { role = gives_none end.live; placed = tt }

  abbrev ReadingPlaced : TargetReading → Type 0
  ReadingPlaced r = SessionPlaced r.end r.live

  changed_placed : (r : TargetReading) (live : Option TargetSessionLog) (moves : List Move) (change : TargetChange) → r.live ≡ live → FitsChange accepts r.active r.end live moves change → FitsRole r.end live moves change → SessionPlaced r.end live
      → ReadingPlaced (target_reading_changed accepts (after r.end moves) r change)
  changed_placed r live moves (Begins kind) is fits role h = first_placed kind r.active.sequence (after r.end moves) role
  changed_placed r live moves (Ends why) is fits role h = tt
  changed_placed r None moves (Continues more) is fits role h = subst (SessionPlaced (after r.end moves)) (sym is) tt
  changed_placed r (Some s) moves (Continues more) is (arrives, reads, past) role h =
      subst (SessionPlaced (after r.end moves)) (sym is) (record { role = role h.role; placed = subst (PlacedRow (seen_row s)) (sym past) h.placed })
  changed_placed r None moves (Turns move more) is fits role h = rw is tt
  changed_placed r None moves (Turns_without_port move more) is fits role h = rw is tt
  changed_placed r (Some s) moves (Turns move more) is (turn, none_came, reads) role h =
      subst (λ (x : Option TargetSessionLog). ReadingPlaced (log_turned accepts reading_turned (after r.end moves) r x)) (sym is) (turned_placed r.active r.end s moves move more turn role h)
  changed_placed r (Some s) moves (Turns_without_port move more) is turn role h = rw is tt

  extended_placed : (r : TargetReading) (e : Event) → IsLive r.end.live → ReadingPlaced r → ReadingPlaced (target_extended accepts r e)
  extended_placed r e live h =
      let d = target_decision accepts (target_view r) e in
      changed_placed r r.live d.moves d.change refl (decision_fits joins accepts r e live) (decision_roles accepts r e) h

-- ---- a trace

abbrev pub StatePlaced : TargetStanding → Type 0
StatePlaced (Is_up r) = SessionPlaced r.end r.live
StatePlaced (Is_down active interrupted) = Unit {0}

module _ (set : Setting) where
  gone_placed : (before after : TargetStanding) → StatePlaced (gone_down before after)
  gone_placed (Is_up r) (Is_up s) = tt
  gone_placed (Is_up r) (Is_down active interrupted) = tt
  gone_placed (Is_down active interrupted) after = tt

  come_placed : (first_port sequence : ℕ) (state : TargetStanding) → StatePlaced state → StatePlaced (come_up first_port sequence state)
  come_placed first_port sequence (Is_up r) h = h
  come_placed first_port sequence (Is_down active interrupted) h = tt

  noted_placed : (notes : List Note) (before after : TargetStanding) → StatePlaced after → StatePlaced (noted notes before after)
  noted_placed [] before after h = h
  noted_placed (Went_down ∷ notes) before after h = noted_placed notes (gone_down before after) (gone_down before after) (gone_placed before after)
  noted_placed (Came_up first_port sequence ∷ notes) before after h =
      let up = come_up first_port sequence (gone_down before after) in noted_placed notes up up (come_placed first_port sequence (gone_down before after) (gone_placed before after))
  noted_placed (Boot_refused fault ∷ notes) before after h = noted_placed notes (gone_down before after) (gone_down before after) (gone_placed before after)

  pub reached_placed : SumsJoin → (e : Option Event) (state : TargetStanding) → HasLive state → StatePlaced state → StatePlaced (reached set e state)
  reached_placed joins None (Is_up r) live h = h
  reached_placed joins (Some e) (Is_up r) live h = extended_placed joins set.accepts r e live h
  reached_placed joins None (Is_down active interrupted) live h = tt
  reached_placed joins (Some e) (Is_down active interrupted) live h = tt

  -- so it is at each moment, whatever comes
  pub state_placed : SumsJoin → (steps : List Step) → StatePlaced (target_at set steps)
  state_placed joins [] = tt
  state_placed joins (s ∷ earlier) =
      let e = event_for sides.Target (posted_in earlier) s.given in
      noted_placed s.notes (target_at set earlier) (reached set e (target_at set earlier)) (reached_placed joins e (target_at set earlier) (target_is_live joins set earlier) (state_placed joins earlier))
