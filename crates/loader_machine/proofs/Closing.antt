-- How a session ends, and how one begins.
use Rattle.std.proofs.Common.{◌≡◌, ℕ, ◌-◌, length, List, [], ◌++◌, true, false, Option, Some, None, refl, sym, ap, subst, ◌∙◌}
use Rattle.std.proofs.Math.Seq.{take-nil}
use Rattle.std.proofs.lemmas.List.{append-nil}
use Rattle.exchange_trace.specs.declared.trace.Side.TheVariants as sides
use Rattle.exchange_trace.specs.Happenings.{DatagramView}
use Rattle.load_protocol_files.specs.declared.lur.Wanted.{Wanted}
use Rattle.load_protocol_files.specs.Lcl.{LclView}
use Rattle.media_check.specs.Sets.{SetView}
use Rattle.transfer_end.specs.Calls.{Makes}
use Rattle.transfer_end.specs.Moves.{Stops, view_after}
use Rattle.transfer_end.specs.Packets.{has_port}
use Rattle.transfer_end.specs.Transfers.{Role}
use Rattle.transfer_end.specs.Views.{EndView}
use Rattle.session_rules.specs.declared.outcome.Outcome.{Outcome}
use Rattle.session_rules.specs.declared.outcome.Outcome.TheVariants.{PortsSpent, Replaced}
use Rattle.session_rules.specs.declared.outcome.SessionKind.{SessionKind}
use Rattle.session_rules.specs.declared.outcome.SessionKind.TheVariants.{Info, Upload}
use Rattle.session_rules.specs.Buffers.{Buffer, buffer_size, buffered_more}
use Rattle.session_rules.specs.Loader.{EndedSession, LoaderSession, Start, begin_with, begun, ended_by, listed_by, row_request, start_decision}
use Rattle.session_rules.specs.LoaderRows.{LoaderRow, first_row}
use Rattle.loader_machine.specs.Machine.{LoaderDoes, LoaderState, asking, closed, with_end, with_ended, with_session}

abbrev pub state : SetView → EndView → Option LoaderSession → List EndedSession → LoaderState
state set end live ended = record { set = set; view = record { end = end; live = live; ended = ended } }

-- nothing more arrives
pub buffered_nothing : (b : Buffer) → (buffered_more b []).prefix ≡ b.prefix
buffered_nothing b = ap (λ more. b.prefix ++ more) (take-nil (buffer_size - length b.prefix)) ∙ append-nil b.prefix

-- this session, which is live, is over, and this is what its last file lists
pub closes : (set : SetView) (end : EndView) (s : LoaderSession) (ended : List EndedSession) (outcome : Outcome) (listed : Option LclView) → listed ≡ listed_by s.start.kind outcome s.arriving.prefix
    → closed (state set end (Some s) ended) outcome listed ≡ state set end None (ended_by outcome [] (Some s) ended)
closes set end s ended outcome listed h = rw (buffered_nothing s.arriving, h) refl

replaced_lists_nothing : (kind : SessionKind) (bytes : List ℕ) → None ≡ listed_by kind Replaced bytes
replaced_lists_nothing Info bytes = refl
replaced_lists_nothing Upload bytes = refl

pub replaces : (set : SetView) (end : EndView) (live : Option LoaderSession) (ended : List EndedSession)
    → closed (state set end live ended) Replaced None ≡ state set end None (ended_by Replaced [] live ended)
replaces set end None ended = refl
replaces set end (Some s) ended = closes set end s ended Replaced None (replaced_lists_nothing s.start.kind s.arriving.prefix)

-- ---- starts

abbrev over : SessionKind → EndedSession
over kind = record { kind = kind; outcome = PortsSpent; listed = None }

abbrev start : SessionKind → (hw pos : List ℕ) → List Wanted → Start
start kind hw pos loads = record { kind = kind; hw = hw; pos = pos; loads = loads }

-- the first row has a request
first_asked : (asks_size : Option ℕ) (kind : SessionKind) (hw pos : List ℕ) (loads : List Wanted) → row_request asks_size (start kind hw pos loads) (first_row kind) ≡ None → ⊥
first_asked asks_size Info hw pos loads e = absurd cc
first_asked asks_size Upload hw pos loads e = absurd cc

module _ (st : LoaderState) (s : Start) where
  -- a live session is replaced
  abbrev replacing : EndView → LoaderState
  replacing end = state st.set end None (ended_by Replaced [] st.view.live st.view.ended)

  abbrev stopped : EndView
  stopped = view_after sides.Loader st.view.end Stops

  no_port : (role : Option Role) → (role ≡ None → ⊥) → has_port st.view.end ≡ false → LoaderDoes (begin_with st.view.end s role) st (with_ended (replacing stopped) (over s.kind)) []
  no_port None asks none = absurd (asks refl)
  no_port (Some role) asks none = rw none (record { set = refl; keeps = refl; posts = refl })

  a_port : (role : Option Role) (asked : EndView) (sent : List DatagramView) → (role ≡ None → ⊥) → has_port st.view.end ≡ true → Makes sides.Loader (asking role) stopped asked sent
      → LoaderDoes (begin_with st.view.end s role) st (with_session (replacing asked) (Some (begun s))) sent
  a_port None asked sent asks port makes = absurd (asks refl)
  a_port (Some role) asked sent asks port makes = rw port (record {
    set = refl;
    keeps = ap (λ (x : EndView). record { end = x; live = Some (begun s); ended = ended_by Replaced [] st.view.live st.view.ended }) makes.keeps;
    posts = makes.posts;
  })

  replaced : (idle mid : LoaderState) → idle ≡ with_end st stopped → mid ≡ closed idle Replaced None → mid ≡ replacing stopped
  replaced idle mid i m = m ∙ ap (λ (x : LoaderState). closed x Replaced None) i ∙ replaces st.set stopped st.view.live st.view.ended

  pub starts_over : (idle mid after : LoaderState) (sent : List DatagramView) → idle ≡ with_end st stopped → mid ≡ closed idle Replaced None → has_port mid.view.end ≡ false
      → after ≡ with_ended mid (over s.kind) → sent ≡ [] → LoaderDoes (start_decision st.view.end s) st after sent
  starts_over idle mid after sent i m none a p =
      let is = replaced idle mid i m in
      rw (p, a, is)
      (no_port (row_request st.view.end.asks_size s (first_row s.kind)) (first_asked st.view.end.asks_size s.kind s.hw s.pos s.loads) (ap (λ (x : LoaderState). has_port x.view.end) (sym is) ∙ none))

  pub starts : (row : LoaderRow) (idle mid asking_one after : LoaderState) (first sent : List DatagramView) → idle ≡ with_end st stopped → mid ≡ closed idle Replaced None → has_port mid.view.end ≡ true
      → row ≡ first_row s.kind → Makes sides.Loader (asking (row_request mid.view.end.asks_size s row)) mid.view.end asking_one.view.end first → asking_one ≡ with_end mid asking_one.view.end
      → after ≡ with_session asking_one (Some (begun s)) → sent ≡ first ++ [] → LoaderDoes (start_decision st.view.end s) st after sent
  starts row idle mid asking_one after first sent i m port r makes rest a p =
      let is = replaced idle mid i m in
      let whole : after ≡ with_session (replacing asking_one.view.end) (Some (begun s)) = a ∙ ap (λ (x : LoaderState). with_session x (Some (begun s))) (rest ∙ ap (λ (x : LoaderState). with_end x asking_one.view.end) is) in
      rw (p ∙ append-nil first, whole)
      (a_port (row_request st.view.end.asks_size s (first_row s.kind)) asking_one.view.end first (first_asked st.view.end.asks_size s.kind s.hw s.pos s.loads)
      (ap (λ (x : LoaderState). has_port x.view.end) (sym is) ∙ port)
      (subst (λ x. Makes sides.Loader (asking (row_request st.view.end.asks_size s x)) stopped asking_one.view.end first) r
      (subst (λ (x : LoaderState). Makes sides.Loader (asking (row_request x.view.end.asks_size s row)) x.view.end asking_one.view.end first) is makes)))

-- the live transfer is over
pub stops : (st now : LoaderState) (end : EndView) → st ≡ now → end ≡ view_after sides.Loader st.view.end Stops → with_end st end ≡ with_end now (view_after sides.Loader now.view.end Stops)
stops st now end same e = ap (with_end st) e ∙ ap (λ (x : LoaderState). with_end x (view_after sides.Loader x.view.end Stops)) same
