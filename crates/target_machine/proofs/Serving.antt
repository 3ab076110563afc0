-- Requests to the target.
use Rattle.disk_layout.specs.Holds.{Outline}
use Rattle.load_base.specs.declared.list.NoMemory.{NoMemory}
use Rattle.transfer_end.specs.declared.posts.Posts.{Posts}
use Rattle.std.proofs.Common.{◌==◌, Result, Ok, Err, IfOk, ◌≡◌, ℕ, List, [], ◌∷◌, Bool, true, false, bytes_eq, Option, Some, None, is_some, refl, sym, ap, subst, ◌∙◌, ◌⊎◌, inl, inr, if◌then◌else◌}
use Rattle.exchange_trace.specs.declared.trace.Side.TheVariants as sides
use Rattle.exchange_trace.specs.Happenings.{DatagramView}
use Rattle.tftp_packet.specs.declared.options.Options.{Options}
use Rattle.transfer_end.specs.Calls.{Makes, posts_view}
use Rattle.transfer_end.specs.Moves.{Move, Refuses, Serves, Stops, all_posts, view_after}
use Rattle.transfer_end.specs.Packets.{has_port, is_busy, is_fresh}
use Rattle.transfer_end.specs.Transfers.{ServesRead, ServesWrite}
use Rattle.transfer_end.specs.Views.{EndView}
use Rattle.session_rules.specs.declared.outcome.SessionKind.{SessionKind}
use Rattle.session_rules.specs.declared.outcome.SessionKind.TheVariants.{Info, Upload}
use Rattle.session_rules.specs.declared.outcome.FileKind.TheVariants.{Lci, Lui}
use Rattle.session_rules.specs.declared.reason.Reason.TheVariants as reasons
use Rattle.session_rules.specs.Target.{Begins, TargetDecision, TargetSession, TargetView, active_in, doing, ending, in_row, later_reason, nothing, own_decision, own_file, own_name, read_decision, reason_in, without_port, write_decision, write_in}
use Rattle.session_rules.specs.TargetRows.{RowView, Gives_lci, Writes_lcs, Writes_lcl, Gives_lui, Gives_denial, Writes_ready, Awaits_lur, Reads_file, Writes_progress, Writes_stop, Writes_completion, Over, first_row}
use Rattle.target_machine.specs.Decisions.{TargetDoes, IsCalm, TargetKeeps, TargetServes, TargetState, awaits_file, awaits_in, end_with, given_kind, kind_given, refusing, taking, with_live, writing_decision}
use Rattle.target_machine.proofs.Following.{does_moves, does_nothing, same_view}

-- ---- a request is taken

-- what is decided where the request is taken
taken_so : (v : TargetView) (from : ℕ) (decision : TargetDecision) → is_fresh v.end from ≡ true → has_port v.end ≡ true → taking v from decision ≡ decision
taken_so v from decision fresh port = rw (fresh, port) refl

without_live : (live : Option TargetSession) → is_some live ≡ false → without_port live ≡ nothing
without_live None is = refl
without_live (Some s) is = absurd cc

with_session : (live : Option TargetSession) → is_some live ≡ true → without_port live ≡ ending (Some reasons.PortsSpent)
with_session None is = absurd cc
with_session (Some s) is = refl

writes_by : (v : TargetView) (from : ℕ) (name : List ℕ) (options : Options) (live : Option TargetSession)
    → write_decision v from name options live ≡ (if awaits_file v live name then taking v from (doing (Serves from (ServesWrite name options) ∷ [])) else nothing)
writes_by v from name options None = refl
writes_by v from name options (Some s) = by_row s.row
  where
    by_row : (row : RowView) → write_in v from name options row ≡ (if awaits_in v name row then taking v from (doing (Serves from (ServesWrite name options) ∷ [])) else nothing)
    by_row Gives_lci = refl
    by_row Writes_lcs = refl
    by_row Writes_lcl = refl
    by_row Gives_lui = refl
    by_row Gives_denial = refl
    by_row Writes_ready = refl
    by_row Awaits_lur = refl
    by_row (Reads_file u) = refl
    by_row (Writes_progress u) = refl
    by_row (Writes_stop e) = refl
    by_row (Writes_completion e loads) = refl
    by_row Over = refl

own_by : (v : TargetView) (from : ℕ) (name : List ℕ) (options : Options) (kind : SessionKind) → given_kind v name ≡ Some kind
    → read_decision v from name options ≡ own_decision v from (kind_given kind) name options
own_by v from name options kind is = by_names (bytes_eq name (own_name v Lci)) (bytes_eq name (own_name v Lui)) is
  where
    by_names : (lci lui : Bool) → (if lci then Some Info else if lui then Some Upload else None) ≡ Some kind
        → (if lci then own_decision v from Lci name options else if lui then own_decision v from Lui name options else refusing v from) ≡ own_decision v from (kind_given kind) name options
    by_names true lui e = ap (λ x. own_decision v from (kind_given x) name options) (some_so e)
      where
        some_so : Some Info ≡ Some kind → Info ≡ kind
        some_so e = cc
    by_names false true e = ap (λ x. own_decision v from (kind_given x) name options) (some_so e)
      where
        some_so : Some Upload ≡ Some kind → Upload ≡ kind
        some_so e = cc
    by_names false false e = absurd cc

other_by : (v : TargetView) (from : ℕ) (name : List ℕ) (options : Options) → given_kind v name ≡ None → read_decision v from name options ≡ refusing v from
other_by v from name options is = by_names (bytes_eq name (own_name v Lci)) (bytes_eq name (own_name v Lui)) is
  where
    by_names : (lci lui : Bool) → (if lci then Some Info else if lui then Some Upload else None) ≡ None
        → (if lci then own_decision v from Lci name options else if lui then own_decision v from Lui name options else refusing v from) ≡ refusing v from
    by_names true lui e = absurd cc
    by_names false true e = absurd cc
    by_names false false e = refl

pub serves : {R : Type 0} (now mid after : TargetState R) (from : ℕ) (decision : TargetDecision) (sent : List DatagramView) (taken : Bool) → TargetServes taken from now mid → taken ≡ true
    → (mid ≡ now → TargetDoes decision now after sent) → TargetDoes (taking now.view from decision) now after sent
serves now mid after from decision sent true serving is does =
    let (same, fresh, port) = serving in
    subst (λ d. TargetDoes d now after sent) (sym (taken_so now.view from decision fresh port)) (does same)
serves now mid after from decision sent false serving is does = absurd cc

pub not_taken : {R : Type 0} (now mid : TargetState R) (from : ℕ) (decision : TargetDecision) (taken : Bool) (sent : List DatagramView) → TargetServes taken from now mid → taken ≡ false → sent ≡ []
    → TargetDoes (taking now.view from decision) now mid sent
not_taken now mid from decision true sent serving is p = absurd cc
not_taken now mid from decision false sent serving is p = rw p (serving decision)

-- ---- whether it is

-- the port isn't fresh
pub not_fresh : {R : Type 0} (now : TargetState R) (from : ℕ) → IsCalm now.view.live → is_fresh now.view.end from ≡ false → TargetServes false from now now
not_fresh now from calm fresh = λ decision. rw fresh (does_nothing now calm)

-- no port is left, and no session is live
pub no_port_idle : {R : Type 0} (now : TargetState R) (from : ℕ) → IsCalm now.view.live → is_fresh now.view.end from ≡ true → has_port now.view.end ≡ false → is_some now.view.live ≡ false → TargetServes false from now now
no_port_idle now from calm fresh port idle = λ decision. rw (fresh, port, without_live now.view.live idle) (does_nothing now calm)

-- or one is, and ends
pub no_port_live : {R : Type 0} (now after : TargetState R) (from : ℕ) → is_fresh now.view.end from ≡ true → has_port now.view.end ≡ false → is_some now.view.live ≡ true
    → TargetDoes (ending (Some reasons.PortsSpent)) now after [] → TargetServes false from now after
no_port_live now after from fresh port live does = λ decision. rw (fresh, port, with_session now.view.live live) does

-- ---- to read

-- the target's own files, or any other
pub gives : {R : Type 0} (now after : TargetState R) (from : ℕ) (name : List ℕ) (options : Options) (sent : List DatagramView) (kind : SessionKind) → given_kind now.view name ≡ Some kind
    → TargetDoes (own_decision now.view from (kind_given kind) name options) now after sent → TargetDoes (read_decision now.view from name options) now after sent
gives now after from name options sent kind is does = subst (λ d. TargetDoes d now after sent) (sym (own_by now.view from name options kind is)) does

pub refuses : {R : Type 0} (now after : TargetState R) (from : ℕ) (name : List ℕ) (options : Options) (sent : List DatagramView) → given_kind now.view name ≡ None
    → TargetDoes (refusing now.view from) now after sent → TargetDoes (read_decision now.view from name options) now after sent
refuses now after from name options sent is does = subst (λ d. TargetDoes d now after sent) (sym (other_by now.view from name options is)) does

-- ---- to write

pub writes : {R : Type 0} (now after : TargetState R) (from : ℕ) (name : List ℕ) (options : Options) (sent : List DatagramView) → is_busy now.view.end ≡ false → awaits_file now.view now.view.live name ≡ true
    → TargetDoes (taking now.view from (doing (Serves from (ServesWrite name options) ∷ []))) now after sent → TargetDoes (writing_decision now.view from name options) now after sent
writes now after from name options sent busy awaits does =
    subst (λ d. TargetDoes d now after sent) (sym (rw (busy, writes_by now.view from name options now.view.live, awaits) refl)) does

pub writes_nothing : {R : Type 0} (now : TargetState R) (from : ℕ) (name : List ℕ) (options : Options) (sent : List DatagramView) → IsCalm now.view.live → sent ≡ []
    → (is_busy now.view.end ≡ true) ⊎ (awaits_file now.view now.view.live name ≡ false) → TargetDoes (writing_decision now.view from name options) now now sent
writes_nothing now from name options sent calm p why =
    rw p (subst (λ d. TargetDoes d now now []) (sym (nothing_by (is_busy now.view.end) (awaits_file now.view now.view.live name) refl refl why)) (does_nothing now calm))
  where
    nothing_by : (busy awaits : Bool) → is_busy now.view.end ≡ busy → awaits_file now.view now.view.live name ≡ awaits → (busy ≡ true) ⊎ (awaits ≡ false)
        → writing_decision now.view from name options ≡ nothing
    nothing_by true awaits b a why = rw b refl
    nothing_by false awaits b a (inl e) = absurd cc
    nothing_by false awaits b a (inr e) = rw (b, writes_by now.view from name options now.view.live, a, e) refl

-- the same posts
pub makes_so : (moves : List Move) (before after : EndView) (posts sent : List DatagramView) → sent ≡ posts → Makes sides.Target moves before after posts → Makes sides.Target moves before after sent
makes_so moves before after posts sent p makes = rw p makes

pub refuses_so : {R : Type 0} (st now : TargetState R) (from : ℕ) (sent : List DatagramView) (busy : Bool) → st ≡ now → IsCalm st.view.live → busy ≡ is_busy st.view.end → busy ≡ false
    → Makes sides.Target (Refuses from ∷ []) st.view.end st.view.end sent → TargetDoes (refusing now.view from) now now sent
refuses_so st now from sent busy same calm b is makes =
    subst (λ x. TargetDoes (refusing x.view from) x x sent) same
    (subst (λ d. TargetDoes d st st sent) (sym (ap (λ x. if x then nothing else doing (Refuses from ∷ [])) (sym b ∙ is))) (does_moves st st (Refuses from ∷ []) st.view.end sent calm makes refl refl))

-- ---- a session begins

first_stays : (o : Outline) (kind : SessionKind) (sequence : ℕ) → active_in o (first_row (kind_given kind) sequence) ≡ o
first_stays o Info sequence = refl
first_stays o Upload sequence = by_last (sequence == 4294967295)
  where
    by_last : (last : Bool) → active_in o (if last then Gives_denial else Gives_lui) ≡ o
    by_last true = refl
    by_last false = refl

abbrev pub row_begun : SessionKind → (sequence : ℕ) → RowView
row_begun kind sequence = first_row (kind_given kind) sequence

pub begins_session : {R : Type 0} (now mid closed after : TargetState R) (from : ℕ) (kind : SessionKind) (name : List ℕ) (options : Options) (file : List ℕ) (sent : List DatagramView)
    → mid ≡ now → TargetKeeps mid closed (with_live (end_with mid.view (view_after sides.Target mid.view.end Stops)) None)
    → file ≡ own_file (kind_given kind) closed.view.active.sequence
    → Makes sides.Target (Serves from (ServesRead name options file) ∷ []) closed.view.end after.view.end sent
    → after.rule ≡ closed.rule → after.view.live ≡ Some (in_row (first_row (kind_given kind) closed.view.active.sequence)) → after.view.active ≡ closed.view.active
    → after.view.reason ≡ later_reason closed.view.reason (reason_in (row_begun kind closed.view.active.sequence))
    → TargetDoes (record { moves = Stops ∷ Serves from (ServesRead name options (own_file (kind_given kind) now.view.active.sequence)) ∷ []; change = Begins (kind_given kind) }) now after sent
begins_session now mid closed after from kind name options file sent same closes is makes rule live active reason =
    subst (λ x. TargetDoes (record { moves = Stops ∷ Serves from (ServesRead name options (own_file (kind_given kind) x.view.active.sequence)) ∷ []; change = Begins (kind_given kind) }) x after sent) same
    (record {
      rule = rule ∙ closes.rule;
      keeps = same_view _ _ _ _ _ _ _ _
          (makes.keeps ∙ ap (λ (x : TargetView). view_after sides.Target x.end (Serves from (ServesRead name options file))) closes.view_is
          ∙ ap (λ bytes. view_after sides.Target (view_after sides.Target mid.view.end Stops) (Serves from (ServesRead name options bytes))) (is ∙ kept_file))
          (live ∙ ap (λ (x : TargetView). Some (in_row (first_row (kind_given kind) x.active.sequence))) closes.view_is)
          (active ∙ ap (λ (x : TargetView). x.active) closes.view_is ∙ sym (first_stays mid.view.active kind mid.view.active.sequence))
          (reason ∙ ap (λ (x : TargetView). later_reason x.reason (reason_in (row_begun kind x.active.sequence))) closes.view_is);
      posts = makes.posts ∙ ap (λ (x : TargetView). all_posts sides.Target x.end (Serves from (ServesRead name options file) ∷ [])) closes.view_is
          ∙ ap (λ bytes. all_posts sides.Target (view_after sides.Target mid.view.end Stops) (Serves from (ServesRead name options bytes) ∷ [])) (is ∙ kept_file);
    })
  where
    kept_file : own_file (kind_given kind) closed.view.active.sequence ≡ own_file (kind_given kind) mid.view.active.sequence
    kept_file = ap (λ (x : TargetView). own_file (kind_given kind) x.active.sequence) closes.view_is

pub gives_so : {R : Type 0} (now after : TargetState R) (from : ℕ) (name : List ℕ) (options : Options) (kind : SessionKind) (result : Result Posts NoMemory) → given_kind now.view name ≡ Some kind
    → IfOk result (λ posts. TargetDoes (own_decision now.view from (kind_given kind) name options) now after (posts_view posts)) → IfOk result (λ posts. TargetDoes (read_decision now.view from name options) now after (posts_view posts))
gives_so now after from name options kind (Err e) is does = tt
gives_so now after from name options kind (Ok posts) is does = gives now after from name options (posts_view posts) kind is does
