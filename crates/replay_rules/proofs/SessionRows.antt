-- What a session of the target tells of in its row, at each moment of a run, whatever comes.
use Rattle.std.proofs.Common.{◌≡◌, ℕ, Bool, true, false, cond, eqb, List, [], ◌∷◌, Option, Some, None, refl, sym, subst}
use Rattle.std.specs.Prelude.{◌==◌}
use Rattle.load_base.specs.Config.{LoadView}
use Rattle.load_protocol_files.specs.declared.lur.Wanted.{Wanted}
use Rattle.disk_layout.specs.Contents.{entries_of}
use Rattle.disk_layout.specs.Holds.{StandingView, outline_of}
use Rattle.exchange_trace.specs.declared.trace.Side.TheVariants as sides
use Rattle.exchange_trace.specs.Logs.{Event, event_for}
use Rattle.exchange_trace.specs.Posts.{posted_in}
use Rattle.exchange_trace.specs.Steps.{Boot_refused, Came_up, Note, Step, Went_down}
use Rattle.transfer_end.specs.Laws.{IsLive}
use Rattle.transfer_end.specs.Moves.{Move}
use Rattle.transfer_end.specs.Readings.{Reading}
use Rattle.transfer_end.specs.Transfers.{arrived_of, arriving_in, error_of}
use Rattle.accept_rules.specs.Permissions.{Accepts}
use Rattle.session_rules.specs.declared.outcome.FileKind.{FileKind}
use Rattle.session_rules.specs.declared.outcome.FileKind.TheVariants.{Lci, Lui}
use Rattle.session_rules.specs.declared.reason.Reason.{Reason}
use Rattle.session_rules.proofs.BufferLemmas.{SumsJoin}
use Rattle.session_rules.specs.LoaderLog.{newest}
use Rattle.session_rules.specs.Target.{Begins, Continues, Ends, TargetChange, Turns, Turns_without_port, target_decision}
use Rattle.session_rules.proofs.TargetLemmas.{FitsChange, HasTurned, after, decision_fits, seen_row, turned_row}
use Rattle.session_rules.specs.TargetLog.{TargetReading, TargetSessionLog, log_turned, reading_turned, reading_without_port, standing_after, standing_in, target_extended, target_reading_changed, target_view, with_done}
use Rattle.session_rules.specs.TargetRows.{Arriving, Awaits_lur, Gives_denial, Gives_lci, Gives_lui, Over, Reads_file, RowMove, TransferEnd, UploadEnd, WholeRow, Writes_completion, Writes_lcl, Writes_lcs, Writes_progress, Writes_ready, Writes_stop, arriving_of, first_row, row_move, row_view, view_moved, with_bytes}
use Rattle.session_rules.specs.Uploads.{UploadView}
use Rattle.replay_rules.specs.BothEnds.{Is_down, Is_up, Setting, TargetStanding, changed, come_up, gone_down, noted, reached, settled, target_at}
use Rattle.replay_rules.specs.Histories.{active_in}
use Rattle.replay_rules.proofs.TieLemmas.{HasLive, target_is_live}
use Rattle.replay_rules.proofs.RowsFit.{Brings, RowFits, row_fits}

module _ (Asked : List Wanted → Type 0) (Sound : UploadView → Type 0) (Told : Reason → Type 0) where
  abbrev Fits : WholeRow → Type 0
  Fits row = RowFits Asked Sound Told (row_view row)

  -- so it is of a live session
  abbrev pub SessionFits : Option TargetSessionLog → Type 0
  SessionFits None = Unit {0}
  SessionFits (Some s) = Fits s.row

  -- what the transfer brings that is over where a session turns to another row, beside what is active
  abbrev pub BringsIn : (OfActive : StandingView → Type 0) → Accepts → (active : StandingView) → Reading → Option TargetSessionLog → List Move → Type 0
  BringsIn OfActive accepts active end live moves =
      (s : TargetSessionLog) → live ≡ Some s → (move : RowMove) (more : List ℕ) (h : HasTurned accepts active end s moves move more) → RowFits Asked Sound Told (seen_row s) → OfActive active
      → Brings Asked Sound Told (seen_row s) (arriving_of (seen_row s) (arrived_of h.ended)) (row_move accepts (outline_of active) (seen_row s) (record { error = error_of h.ended; arriving = arriving_of (seen_row s) (arrived_of h.ended) }))

  first_fits : (kind : FileKind) (sequence : ℕ) → Fits (first_row kind sequence)
  first_fits Lui sequence = by (eqb sequence 4294967295)
    where
      by : (b : Bool) → Fits (cond b Gives_denial Gives_lui)
      by true = tt
      by false = tt
  first_fits Lci sequence = tt
  first_fits kind sequence = tt

  -- an installation keeps what holds of what is active
  abbrev pub Installs : (OfActive : StandingView → Type 0) → Type 0
  Installs OfActive =
      (active : StandingView) (e : UploadEnd) (loads : List LoadView) → OfActive active → Sound (record { request = e.request; loads = entries_of loads; current = None; reports = e.reports }) → OfActive (standing_after active loads)

  module _ (OfActive : StandingView → Type 0) (installs : Installs OfActive) (none : Asked []) (joins : SumsJoin) (accepts : Accepts) where
    turned_fits : (active : StandingView) (end : Reading) (s : TargetSessionLog) (moves : List Move) (move : RowMove) (more : List ℕ) → HasTurned accepts active end s moves move more → (live : Option TargetSessionLog) → live ≡ Some s → BringsIn OfActive accepts active end live moves → Fits s.row → OfActive active
        → Fits (with_done accepts active s (newest (after end moves).past)).row
    turned_fits active end s moves move more h live is brings fits was =
        subst (RowFits Asked Sound Told) (sym (turned_row joins accepts active s end moves move more h))
        (subst (λ (m : RowMove). RowFits Asked Sound Told (view_moved (seen_row s) (with_bytes (arriving_of (seen_row s) (arriving_in end.live)) more) m)) (sym h.comes_to)
        (subst (λ (arriving : Arriving). RowFits Asked Sound Told (view_moved (seen_row s) arriving (row_move accepts (outline_of active) (seen_row s) (end_of_turn h)))) (sym h.arrived)
        (row_fits Asked Sound Told none accepts (outline_of active) (seen_row s) (arriving_of (seen_row s) (arrived_of h.ended)) (end_of_turn h) fits (brings s is move more h fits was))))
      where
        end_of_turn : HasTurned accepts active end s moves move more → TransferEnd
        end_of_turn t = record { error = error_of t.ended; arriving = arriving_of (seen_row s) (arrived_of t.ended) }

    -- ---- what is active

    installs_so : (active : StandingView) (row : WholeRow) → OfActive active → Fits row → OfActive (standing_in active row)
    installs_so active (Writes_completion e loads) was fits = installs active e loads was fits.2
    installs_so active Gives_lci was fits = was
    installs_so active Writes_lcs was fits = was
    installs_so active Writes_lcl was fits = was
    installs_so active Gives_lui was fits = was
    installs_so active Gives_denial was fits = was
    installs_so active Writes_ready was fits = was
    installs_so active Awaits_lur was fits = was
    installs_so active (Reads_file u) was fits = was
    installs_so active (Writes_progress u) was fits = was
    installs_so active (Writes_stop e) was fits = was
    installs_so active Over was fits = was

    abbrev ReadingFits : TargetReading → Type 0
    ReadingFits r = SessionFits r.live × OfActive r.active

    -- ---- one event

    changed_fits : (r : TargetReading) (live : Option TargetSessionLog) (moves : List Move) (change : TargetChange) → r.live ≡ live → FitsChange accepts r.active r.end live moves change → BringsIn OfActive accepts r.active r.end r.live moves → SessionFits live → OfActive r.active
        → ReadingFits (target_reading_changed accepts (after r.end moves) r change)
    changed_fits r live moves (Begins kind) is fits brings h was =
        let first = first_fits kind r.active.sequence in (first, installs_so r.active (first_row kind r.active.sequence) was first)
    changed_fits r live moves (Ends why) is fits brings h was = (tt, was)
    changed_fits r live moves (Continues more) is fits brings h was = (subst SessionFits (sym is) h, was)
    changed_fits r None moves (Turns move more) is fits brings h was = rw is (tt, was)
    changed_fits r None moves (Turns_without_port move more) is fits brings h was = rw is (tt, was)
    changed_fits r (Some s) moves (Turns move more) is (turn, none_came, role) brings h was =
        let then : TargetSessionLog = with_done accepts r.active s (newest (after r.end moves).past) in
        let now = turned_fits r.active r.end s moves move more turn r.live is brings h was in
        subst (λ (x : Option TargetSessionLog). ReadingFits (log_turned accepts reading_turned (after r.end moves) r x)) (sym is)
        (now, installs_so r.active then.row was now)
    changed_fits r (Some s) moves (Turns_without_port move more) is turn brings h was =
        let then : TargetSessionLog = with_done accepts r.active s (newest (after r.end moves).past) in
        let now = turned_fits r.active r.end s moves move more turn r.live is brings h was in
        subst (λ (x : Option TargetSessionLog). ReadingFits (log_turned accepts reading_without_port (after r.end moves) r x)) (sym is) (tt, installs_so r.active then.row was now)

    extended_fits : (r : TargetReading) (e : Event) → IsLive r.end.live → BringsIn OfActive accepts r.active r.end r.live (target_decision accepts (target_view r) e).moves → ReadingFits r → ReadingFits (target_extended accepts r e)
    extended_fits r e live brings (h, was) =
        let d = target_decision accepts (target_view r) e in changed_fits r r.live d.moves d.change refl (decision_fits joins accepts r e live) brings h was

-- ---- of a state

module _ (Asked : List Wanted → Type 0) (Sound : UploadView → Type 0) (Told : Reason → Type 0) (OfActive : StandingView → Type 0) (set : Setting) where
  abbrev OfIf : Option StandingView → Type 0
  OfIf None = Unit {0}
  OfIf (Some s) = OfActive s

  -- of a target that is up, its live session; and what may be active
  abbrev pub StateFits : TargetStanding → Type 0
  StateFits (Is_up r) = SessionFits Asked Sound Told r.live × OfActive r.active
  StateFits (Is_down active interrupted) = OfActive active × OfIf interrupted

  pub of_active : (state : TargetStanding) → StateFits state → OfActive (active_in state)
  of_active (Is_up r) h = h.1
  of_active (Is_down active interrupted) h = h.0

  changed_of : (before after : StandingView) → OfActive after → OfIf (changed before after)
  changed_of before after h = by (before.sequence == after.sequence)
    where
      by : (b : Bool) → OfIf (cond b None (Some after))
      by true = tt
      by false = h

  settled_of : (sequence : ℕ) (active : StandingView) (interrupted : Option StandingView) → OfActive active → OfIf interrupted → OfActive (settled sequence active interrupted)
  settled_of sequence active None h then = h
  settled_of sequence active (Some new) h then = by (sequence == new.sequence)
    where
      by : (b : Bool) → OfActive (cond b new active)
      by true = then
      by false = h

  gone_fits : (before after : TargetStanding) → StateFits before → StateFits after → StateFits (gone_down before after)
  gone_fits (Is_up r) (Is_up s) h then = (h.1, changed_of r.active s.active then.1)
  gone_fits (Is_up r) (Is_down active interrupted) h then = then
  gone_fits (Is_down active interrupted) after h then = h

  come_fits : (first_port sequence : ℕ) (state : TargetStanding) → StateFits state → StateFits (come_up first_port sequence state)
  come_fits first_port sequence (Is_up r) h = h
  come_fits first_port sequence (Is_down active interrupted) h = (tt, settled_of sequence active interrupted h.0 h.1)

  noted_fits : (notes : List Note) (before after : TargetStanding) → StateFits before → StateFits after → StateFits (noted notes before after)
  noted_fits [] before after h then = then
  noted_fits (Went_down ∷ notes) before after h then = let down = gone_fits before after h then in noted_fits notes (gone_down before after) (gone_down before after) down down
  noted_fits (Came_up first_port sequence ∷ notes) before after h then =
      let up = come_fits first_port sequence (gone_down before after) (gone_fits before after h then) in
      noted_fits notes (come_up first_port sequence (gone_down before after)) (come_up first_port sequence (gone_down before after)) up up
  noted_fits (Boot_refused fault ∷ notes) before after h then = let down = gone_fits before after h then in noted_fits notes (gone_down before after) (gone_down before after) down down

  -- what a transfer brings that is over in a step
  abbrev pub BringsAt : TargetStanding → Option Event → Type 0
  BringsAt (Is_up r) (Some e) = BringsIn Asked Sound Told OfActive set.accepts r.active r.end r.live (target_decision set.accepts (target_view r) e).moves
  BringsAt state e = Unit {0}

  module _ (installs : Installs Asked Sound Told OfActive) (none : Asked []) (joins : SumsJoin) where
    pub reached_fits : (e : Option Event) (state : TargetStanding) → HasLive state → BringsAt state e → StateFits state → StateFits (reached set e state)
    reached_fits None (Is_up r) live brings h = h
    reached_fits (Some e) (Is_up r) live brings h = extended_fits Asked Sound Told OfActive installs none joins set.accepts r e live brings h
    reached_fits None (Is_down active interrupted) live brings h = h
    reached_fits (Some e) (Is_down active interrupted) live brings h = h

    -- so it is at each moment
    pub state_fits : (Fact : List Step → Type 0) → ((s : Step) (earlier : List Step) → Fact (s ∷ earlier) → Fact earlier) → ((s : Step) (earlier : List Step) → Fact (s ∷ earlier) → BringsAt (target_at set earlier) (event_for sides.Target (posted_in earlier) s.given)) → OfActive set.start
        → (steps : List Step) → Fact steps → StateFits (target_at set steps)
    state_fits Fact before brings first [] fact = (tt, first)
    state_fits Fact before brings first (s ∷ earlier) fact =
        let h = state_fits Fact before brings first earlier (before s earlier fact) in
        let e = event_for sides.Target (posted_in earlier) s.given in
        noted_fits s.notes (target_at set earlier) (reached set e (target_at set earlier)) h (reached_fits e (target_at set earlier) (target_is_live joins set earlier) (brings s earlier fact) h)
