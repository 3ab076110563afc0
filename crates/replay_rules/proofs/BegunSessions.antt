-- With which of its transfers a session of the target began.
use Rattle.std.proofs.Common.{◌≡◌, true, false, cond, eqb, List, [], ◌∷◌, ◌++◌, Bool, Option, Some, None, refl, sym, ap, subst, ◌∙◌, append_assoc}
use Rattle.std.specs.List.{AllByRecursion}
use Rattle.disk_layout.specs.Holds.{StandingView, outline_of}
use Rattle.exchange_trace.specs.declared.trace.Side.TheVariants as sides
use Rattle.exchange_trace.specs.Logs.{Event, event_for}
use Rattle.exchange_trace.specs.Posts.{posted_in}
use Rattle.exchange_trace.specs.Steps.{Boot_refused, Came_up, Note, Step, Went_down}
use Rattle.transfer_end.specs.Laws.{IsLive}
use Rattle.transfer_end.specs.Moves.{Move}
use Rattle.transfer_end.specs.OtherEnds.{is_asking}
use Rattle.transfer_end.specs.Readings.{Reading}
use Rattle.transfer_end.specs.Transfers.{Reads, Role, ServesRead, ServesWrite, Transfer, Writes, arrived_of, error_of}
use Rattle.accept_rules.specs.Permissions.{Accepts}
use Rattle.session_rules.specs.declared.outcome.FileKind.{FileKind}
use Rattle.session_rules.specs.declared.outcome.FileKind.TheVariants.{Lci, Lui}
use Rattle.session_rules.proofs.BufferLemmas.{SumsJoin}
use Rattle.session_rules.specs.LoaderLog.{newest}
use Rattle.session_rules.specs.Target.{Begins, Continues, Ends, TargetChange, Turns, Turns_without_port, target_decision}
use Rattle.session_rules.proofs.TargetLemmas.{FitsChange, HasTurned, after, decision_fits, seen_row, turned_row, turned_view}
use Rattle.session_rules.specs.TargetLog.{TargetReading, TargetSessionLog, log_turned, reading_turned, target_extended, target_reading_changed, target_view, with_done}
use Rattle.session_rules.specs.TargetRows.{Arriving, Awaits_lur, Breaks_off, Gives_denial, Gives_lci, Gives_lui, Judges, Over, Passes, Reads_file, Refuses_request, Requests, RowMove, RowView, Writes_completion, Writes_lcl, Writes_lcs, Writes_progress, Writes_ready, Writes_stop, arriving_of, first_row, placed_view_if, row_after, row_view, view_judged, view_judged_in, view_moved}
use Rattle.session_rules.specs.Uploads.{Accepts_file, Accepts_header, Complete, Judgement, More_files, Next, Next_load, OpenLoadView, Stops_for, UploadView}
use Rattle.replay_rules.specs.BothEnds.{Is_down, Is_up, Setting, TargetStanding, come_up, gone_down, noted, reached, target_at}
use Rattle.replay_rules.proofs.TieLemmas.{HasLive, target_is_live}
use Rattle.replay_rules.proofs.PlacedRows.{ComesIn, IsPlaced, SessionPlaced, StatePlaced, move_comes, of_role, over_heard, state_placed}
use Rattle.replay_rules.proofs.TargetRoles.{IsGiving, IsOfTargetRow, IsTaking}

-- ---- the first transfer

-- The session gave a file in the first of its transfers that are over, in which packets came, and it gave none since; these are
-- all transfers that are over, the newest first.
pub record HasBegunBy (done past : List Transfer) : Type 0 where
  pub first : Transfer
  pub rest : List Transfer
  pub is : done ≡ first ∷ rest
  pub since : List Transfer
  pub older : List Transfer
  pub split : past ≡ since ++ first ∷ older
  pub none : AllByRecursion (λ (t : Transfer). IsGiving t.role → ⊥) since
  pub gives : IsGiving first.role
  pub heard : first.got ≡ [] → ⊥

pub begun_before : (done past former : List Transfer) → HasBegunBy done past → HasBegunBy done (past ++ former)
begun_before done past former h = record {
  first = h.first;
  rest = h.rest;
  is = h.is;
  since = h.since;
  older = h.older ++ former;
  split = ap (λ (ts : List Transfer). ts ++ former) h.split ∙ append_assoc h.since (h.first ∷ h.older) former;
  none = h.none;
  gives = h.gives;
  heard = h.heard;
}

-- in its first row none of its transfers is over, and after it the first is
abbrev pub BegunRow : RowView → (done past : List Transfer) → Type 0
BegunRow Gives_lci done past = done ≡ []
BegunRow Gives_lui done past = done ≡ []
BegunRow Gives_denial done past = done ≡ []
BegunRow Over done past = Unit {0}
BegunRow row done past = HasBegunBy done past

-- ---- no row leads to a first one

abbrev IsLater : RowView → Type 0
IsLater Gives_lci = ⊥
IsLater Gives_lui = ⊥
IsLater Gives_denial = ⊥
IsLater row = Unit {0}

placed_later : (u : UploadView) (l : Option OpenLoadView) (next : Next) → IsLater (placed_view_if u l next)
placed_later u None next = tt
placed_later u (Some l) More_files = tt
placed_later u (Some l) Next_load = tt
placed_later u (Some l) Complete = tt

judged_later : (u : UploadView) (arriving : Arriving) (judgement : Judgement) → IsLater (view_judged u arriving judgement)
judged_later u arriving (Stops_for reason arrived) = tt
judged_later u arriving (Accepts_header h next) = placed_later u _ next
judged_later u arriving (Accepts_file next) = placed_later u _ next

judged_in_later : (row : RowView) (arriving : Arriving) (judgement : Judgement) → IsLater (view_judged_in row arriving judgement)
judged_in_later (Reads_file u) arriving judgement = judged_later u arriving judgement
judged_in_later Gives_lci arriving judgement = tt
judged_in_later Writes_lcs arriving judgement = tt
judged_in_later Writes_lcl arriving judgement = tt
judged_in_later Gives_lui arriving judgement = tt
judged_in_later Gives_denial arriving judgement = tt
judged_in_later Writes_ready arriving judgement = tt
judged_in_later Awaits_lur arriving judgement = tt
judged_in_later (Writes_progress u) arriving judgement = tt
judged_in_later (Writes_stop e) arriving judgement = tt
judged_in_later (Writes_completion e loads) arriving judgement = tt
judged_in_later Over arriving judgement = tt

passed_later : (row : RowView) → IsLater (row_after row)
passed_later Gives_lci = tt
passed_later Writes_lcs = tt
passed_later Writes_lcl = tt
passed_later Gives_lui = tt
passed_later Gives_denial = tt
passed_later Writes_ready = tt
passed_later Awaits_lur = tt
passed_later (Reads_file u) = tt
passed_later (Writes_progress u) = tt
passed_later (Writes_stop e) = tt
passed_later (Writes_completion e loads) = tt
passed_later Over = tt

moved_later : (row : RowView) (arriving : Arriving) (move : RowMove) → IsLater (view_moved row arriving move)
moved_later row arriving Passes = passed_later row
moved_later row arriving (Requests loads) = tt
moved_later row arriving (Refuses_request fault) = tt
moved_later row arriving (Judges judgement) = judged_in_later row arriving judgement
moved_later row arriving Breaks_off = tt

later_begun : (row : RowView) (done past : List Transfer) → IsLater row → HasBegunBy done past → BegunRow row done past
later_begun Gives_lci done past later h = absurd later
later_begun Gives_lui done past later h = absurd later
later_begun Gives_denial done past later h = absurd later
later_begun Writes_lcs done past later h = h
later_begun Writes_lcl done past later h = h
later_begun Writes_ready done past later h = h
later_begun Awaits_lur done past later h = h
later_begun (Reads_file u) done past later h = h
later_begun (Writes_progress u) done past later h = h
later_begun (Writes_stop e) done past later h = h
later_begun (Writes_completion e loads) done past later h = h
later_begun Over done past later h = tt

-- ---- a transfer of the session is over

asking_not : (role : Role) → is_asking role ≡ true → IsGiving role → ⊥
asking_not (ServesRead name o file) asks gives = cc
asking_not (ServesWrite name o) asks gives = gives
asking_not (Reads name o) asks gives = gives
asking_not (Writes name o file) asks gives = gives

taking_not_giving : (role : Role) → IsTaking role → IsGiving role → ⊥
taking_not_giving (ServesWrite name o) takes gives = gives
taking_not_giving (ServesRead name o file) takes gives = takes
taking_not_giving (Reads name o) takes gives = takes
taking_not_giving (Writes name o file) takes gives = takes

module _ (t : Transfer) (done past : List Transfer) (heard : t.got ≡ [] → ⊥) where
  begun_now : IsGiving t.role → done ≡ [] → HasBegunBy (done ++ t ∷ []) (t ∷ past)
  begun_now gives none = record { first = t; rest = []; is = ap (λ (ts : List Transfer). ts ++ t ∷ []) none; since = []; older = past; split = refl; none = tt; gives = gives; heard = heard }

  begun_more : (IsGiving t.role → ⊥) → HasBegunBy done past → HasBegunBy (done ++ t ∷ []) (t ∷ past)
  begun_more not h = record {
    first = h.first;
    rest = h.rest ++ t ∷ [];
    is = ap (λ (ts : List Transfer). ts ++ t ∷ []) h.is;
    since = t ∷ h.since;
    older = h.older;
    split = ap (λ (ts : List Transfer). t ∷ ts) h.split;
    none = (not, h.none);
    gives = h.gives;
    heard = h.heard;
  }

  asked_more : is_asking t.role ≡ true → HasBegunBy done past → HasBegunBy (done ++ t ∷ []) (t ∷ past)
  asked_more asks h = begun_more (asking_not t.role asks) h

  abbrev Then : RowView → Type 0
  Then row = BegunRow row (done ++ t ∷ []) (t ∷ past)

  then_later : (row : RowView) (arriving : Arriving) (move : RowMove) → HasBegunBy (done ++ t ∷ []) (t ∷ past) → Then (view_moved row arriving move)
  then_later row arriving move h = later_begun (view_moved row arriving move) (done ++ t ∷ []) (t ∷ past) (moved_later row arriving move) h

  over_stays : (arriving : Arriving) (move : RowMove) → ComesIn Over move → Then (view_moved Over arriving move)
  over_stays arriving Passes comes = tt
  over_stays arriving (Requests loads) comes = absurd comes
  over_stays arriving (Refuses_request fault) comes = absurd comes
  over_stays arriving (Judges judgement) comes = tt
  over_stays arriving Breaks_off comes = tt

  moved_begun : (row : RowView) (arriving : Arriving) (move : RowMove) → ComesIn row move → IsOfTargetRow row t.role → BegunRow row done past → Then (view_moved row arriving move)
  moved_begun Gives_lci arriving move comes role h = then_later Gives_lci arriving move (begun_now role h)
  moved_begun Gives_lui arriving move comes role h = then_later Gives_lui arriving move (begun_now role h)
  moved_begun Gives_denial arriving move comes role h = then_later Gives_denial arriving move (begun_now role h)
  moved_begun Awaits_lur arriving move comes role h = then_later Awaits_lur arriving move (begun_more (taking_not_giving t.role role) h)
  moved_begun Writes_lcs arriving move comes role h = then_later Writes_lcs arriving move (asked_more role h)
  moved_begun Writes_lcl arriving move comes role h = then_later Writes_lcl arriving move (asked_more role h)
  moved_begun Writes_ready arriving move comes role h = then_later Writes_ready arriving move (asked_more role h)
  moved_begun (Reads_file u) arriving move comes role h = then_later (Reads_file u) arriving move (asked_more role h)
  moved_begun (Writes_progress u) arriving move comes role h = then_later (Writes_progress u) arriving move (asked_more role h)
  moved_begun (Writes_stop e) arriving move comes role h = then_later (Writes_stop e) arriving move (asked_more role h)
  moved_begun (Writes_completion e loads) arriving move comes role h = then_later (Writes_completion e loads) arriving move (asked_more role h)
  moved_begun Over arriving move comes role h = over_stays arriving move comes

-- ---- a session

abbrev pub SessionBegun : Reading → Option TargetSessionLog → Type 0
SessionBegun end None = Unit {0}
SessionBegun end (Some s) = BegunRow (seen_row s) s.done end.past

first_begun : (kind : FileKind) (sequence : _) (past : List Transfer) → BegunRow (row_view (first_row kind sequence)) [] past
first_begun Lci sequence past = refl
first_begun Lui sequence past = by (eqb sequence 4294967295)
  where
    by : (b : Bool) → BegunRow (row_view (cond b Gives_denial Gives_lui)) [] past
    by true = refl
    by false = refl
first_begun kind sequence past = tt

module _ (joins : SumsJoin) (accepts : Accepts) where
  turned_begun : (active : StandingView) (end : Reading) (s : TargetSessionLog) (moves : List Move) (move : RowMove) (more : List _) → HasTurned accepts active end s moves move more → IsPlaced (seen_row s) end → BegunRow (seen_row s) s.done end.past
      → SessionBegun (after end moves) (Some (with_done accepts active s (newest (after end moves).past)))
  turned_begun active end s moves move more h placed was =
      let row : RowView = seen_row s in
      let comes : ComesIn row move = subst (ComesIn row) (sym h.comes_to) (move_comes accepts (outline_of active) row (error_of h.ended) (arriving_of row (arrived_of h.ended))) in
      let then : BegunRow (turned_view end s move more) (s.done ++ h.ended ∷ []) (h.ended ∷ end.past) = moved_begun h.ended s.done end.past (over_heard h.ended h.over) row _ move comes (of_role row end.live h.ended.role h.was_live placed.role) was in
      subst (λ (x : RowView). BegunRow x (s.done ++ newest (after end moves).past) (after end moves).past) (sym (turned_row joins accepts active s end moves move more h))
      (subst (λ (ts : List Transfer). BegunRow (turned_view end s move more) (s.done ++ ts) (after end moves).past) (sym h.is_newest)
      (subst (λ (ts : List Transfer). BegunRow (turned_view end s move more) (s.done ++ h.ended ∷ []) ts) (sym h.past) then))

  abbrev ReadingBegun : TargetReading → Type 0
  ReadingBegun r = SessionBegun r.end r.live

  changed_begun : (r : TargetReading) (live : Option TargetSessionLog) (moves : List Move) (change : TargetChange) → r.live ≡ live → FitsChange accepts r.active r.end live moves change → SessionPlaced r.end live → SessionBegun r.end live
      → ReadingBegun (target_reading_changed accepts (after r.end moves) r change)
  changed_begun r live moves (Begins kind) is fits placed h = first_begun kind r.active.sequence (after r.end moves).past
  changed_begun r live moves (Ends why) is fits placed h = tt
  changed_begun r None moves (Continues more) is fits placed h = subst (SessionBegun (after r.end moves)) (sym is) tt
  changed_begun r (Some s) moves (Continues more) is (arrives, reads, past) placed h =
      subst (SessionBegun (after r.end moves)) (sym is) (subst (BegunRow (seen_row s) s.done) (sym past) h)
  changed_begun r None moves (Turns move more) is fits placed h = rw is tt
  changed_begun r None moves (Turns_without_port move more) is fits placed h = rw is tt
  changed_begun r (Some s) moves (Turns move more) is (turn, none_came, reads) placed h =
      subst (λ (x : Option TargetSessionLog). ReadingBegun (log_turned accepts reading_turned (after r.end moves) r x)) (sym is) (turned_begun r.active r.end s moves move more turn placed h)
  changed_begun r (Some s) moves (Turns_without_port move more) is turn placed h = rw is tt

  extended_begun : (r : TargetReading) (e : Event) → IsLive r.end.live → SessionPlaced r.end r.live → ReadingBegun r → ReadingBegun (target_extended accepts r e)
  extended_begun r e live placed h =
      let d = target_decision accepts (target_view r) e in
      changed_begun r r.live d.moves d.change refl (decision_fits joins accepts r e live) placed h

-- ---- a trace

abbrev pub StateBegun : TargetStanding → Type 0
StateBegun (Is_up r) = SessionBegun r.end r.live
StateBegun (Is_down active interrupted) = Unit {0}

gone_begun : (before after : TargetStanding) → StateBegun (gone_down before after)
gone_begun (Is_up r) (Is_up s) = tt
gone_begun (Is_up r) (Is_down active interrupted) = tt
gone_begun (Is_down active interrupted) after = tt

come_begun : (first_port sequence : _) (state : TargetStanding) → StateBegun state → StateBegun (come_up first_port sequence state)
come_begun first_port sequence (Is_up r) h = h
come_begun first_port sequence (Is_down active interrupted) h = tt

noted_begun : (notes : List Note) (before after : TargetStanding) → StateBegun after → StateBegun (noted notes before after)
noted_begun [] before after h = h
noted_begun (Went_down ∷ notes) before after h = noted_begun notes (gone_down before after) (gone_down before after) (gone_begun before after)
noted_begun (Came_up first_port sequence ∷ notes) before after h =
    let up = come_up first_port sequence (gone_down before after) in noted_begun notes up up (come_begun first_port sequence (gone_down before after) (gone_begun before after))
noted_begun (Boot_refused fault ∷ notes) before after h = noted_begun notes (gone_down before after) (gone_down before after) (gone_begun before after)

pub reached_begun : (set : Setting) → SumsJoin → (e : Option Event) (state : TargetStanding) → HasLive state → StatePlaced state → StateBegun state → StateBegun (reached set e state)
reached_begun set joins None (Is_up r) live placed h = h
reached_begun set joins (Some e) (Is_up r) live placed h = extended_begun joins set.accepts r e live placed h
reached_begun set joins None (Is_down active interrupted) live placed h = tt
reached_begun set joins (Some e) (Is_down active interrupted) live placed h = tt

-- so it is at each moment, whatever comes
pub state_begun : (set : Setting) → SumsJoin → (steps : List Step) → StateBegun (target_at set steps)
state_begun set joins [] = tt
state_begun set joins (s ∷ earlier) =
    let e = event_for sides.Target (posted_in earlier) s.given in
    noted_begun s.notes (target_at set earlier) (reached set e (target_at set earlier)) (reached_begun set joins e (target_at set earlier) (target_is_live joins set earlier) (state_placed set joins earlier) (state_begun set joins earlier))
