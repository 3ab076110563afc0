-- The session that ends at a step is that of the newest start, and the target answered its requests since then.
use Rattle.std.proofs.Common.{◌≡◌, ◌⊎◌, inl, inr, ℕ, ◌<◌, ◌≤◌, true, false, List, [], ◌∷◌, ◌++◌, Option, Some, None, refl, sym, ap, subst, ◌∙◌, append-nil, arith}
use Rattle.field_grammar.specs.Grammar.{IsBytes}
use Rattle.tftp_packet.specs.Packets.{Error, PacketView, packet_bytes}
use Rattle.exchange_trace.specs.declared.trace.Side.TheVariants as sides
use Rattle.exchange_trace.specs.Happenings.{Booted, DatagramView, Delivered, Ended, HappeningView, Info_started, Injected, Lost, Power_cut, Size_told, Ticked, Upload_started}
use Rattle.exchange_trace.specs.Logs.{Event, event_for, logged, loader_log}
use Rattle.exchange_trace.specs.Posts.{posted_in}
use Rattle.exchange_trace.specs.Steps.{Step}
use Rattle.transfer_end.specs.Moves.{past_with}
use Rattle.transfer_end.proofs.OtherEndLemmas.{all_at, among_either, among_left, among_right, own_not_59}
use Rattle.transfer_end.specs.OtherEnds.{Among, Brought, BroughtFrom, TransferHasBegun, IsAnsweredBy, IsFair, IsPostOfSide, MovesStayFair, OwnPortsRise, answered, is_asking, of_refusal, of_transfer, refused, served, unanswered}
use Rattle.transfer_end.specs.Packets.{packet_in}
use Rattle.transfer_end.specs.Readings.{mark_in, raised_by}
use Rattle.transfer_end.proofs.SentPacketLemmas.{written_is_read}
use Rattle.transfer_end.specs.Transfers.{Reads, Role, ServesRead, ServesWrite, Transfer, Writes, bound_to}
use Rattle.session_rules.proofs.BufferLemmas.{SumsJoin}
use Rattle.session_rules.specs.Loader.{Start}
use Rattle.session_rules.specs.LoaderLog.{LoaderReading, SessionLog, loader_extended, loader_reading}
use Rattle.session_rules.proofs.LoaderRoleLemmas.{loader_roles_fit}
use Rattle.session_rules.specs.LoaderRoles.{EndsWithLive, IsAboveMark, IsNoError, LoaderRoleFits, ServedIsFresh, WritesLur}
use Rattle.session_rules.specs.MediaFiles.{Media}
use Rattle.session_rules.proofs.OwnSessionLemmas.{sessions_are_of_newest_starts}
use Rattle.session_rules.specs.OwnSessions.{IsOfNewestStart, LiveIsOfNewestStart, HasNoStart}
use Rattle.session_rules.specs.Sessions.{started_by}
use Rattle.replay_rules.specs.BothEnds.{Setting, loader_at, reached, target_at}
use Rattle.replay_rules.specs.FaultFree.{IsNoStart}
use Rattle.replay_rules.specs.OtherEndTraces.{IsUninjected, former_at, loader_transfers, target_transfers}
use Rattle.replay_rules.specs.OwnSessionTraces.{NoneStarts}
use Rattle.replay_rules.proofs.AnsweredLater.{after, posted_then}
use Rattle.replay_rules.proofs.SentTraces.{TargetIsFair}

-- ---- lists of transfers

pub some_is : (p q : ℕ) → Some p ≡ Some q → p ≡ q
some_is p q e = cc

pub writes_asks : (start : Start) (role : Role) → WritesLur start role → is_asking role ≡ true
writes_asks start (Writes name o file) is = refl
writes_asks start (Reads name o) is = absurd is
writes_asks start (ServesRead name o file) is = absurd is
writes_asks start (ServesWrite name o) is = absurd is

pub asks_not : (A : Type 0) (role : Role) → is_asking role ≡ true → is_asking role ≡ false → A
asks_not A role asks serves = absurd (let wrong : true ≡ false = sym asks ∙ serves in cc)

pub rise_apart : (xs ys : List Transfer) (x y : Transfer) → OwnPortsRise (xs ++ ys) → Among x xs → Among y ys → y.own < x.own
rise_apart [] ys x y rise a b = absurd a
rise_apart (z ∷ xs) ys x y (low, below, rise) (inl same) b =
    subst (λ (t : Transfer). y.own < t.own) same (all_at (λ (t : Transfer). t.own < z.own) (xs ++ ys) y below (among_right y xs ys b))
rise_apart (z ∷ xs) ys x y (low, below, rise) (inr a) b = rise_apart xs ys x y rise a b

-- what is older than a member comes after it in the list
pub older_than : (xs : List Transfer) (u : Transfer) (ys : List Transfer) (v : Transfer) → OwnPortsRise (xs ++ u ∷ ys) → Among v (xs ++ u ∷ ys) → v.own < u.own → Among v ys
older_than xs u ys v rise a less = by (among_either v xs (u ∷ ys) a)
  where
    by : Among v xs ⊎ Among v (u ∷ ys) → Among v ys
    by (inl b) = let above = rise_apart xs (u ∷ ys) v u rise b (inl refl) in absurd (omega (arith, above, less))
    by (inr (inl same)) = let e : u.own ≡ v.own = ap (λ (t : Transfer). t.own) same in absurd (omega (arith, e, less))
    by (inr (inr b)) = b

pub rise_after : (xs ys : List Transfer) → OwnPortsRise (xs ++ ys) → OwnPortsRise ys
rise_after [] ys rise = rise
rise_after (x ∷ xs) ys (low, below, rise) = rise_after xs ys rise

pub below_mark : (past : List Transfer) (w : Transfer) (port : ℕ) → Among w past → w.peer ≡ Some port → port ≤ mark_in past
below_mark [] w port a e = absurd a
below_mark (t ∷ past) w port (inl same) e = by t.peer (ap (λ (x : Transfer). x.peer) same ∙ e)
  where
    by : (peer : Option ℕ) → peer ≡ Some port → port ≤ raised_by (mark_in past) peer
    by None f = absurd cc
    by (Some p) f = let is : p ≡ port = some_is p port f in omega (arith, is)
below_mark (t ∷ past) w port (inr a) e = by t.peer (below_mark past w port a e)
  where
    by : (peer : Option ℕ) → port ≤ mark_in past → port ≤ raised_by (mark_in past) peer
    by None h = h
    by (Some p) h = omega (arith, h)

-- ---- which transfer answered a request

no_bytes : IsBytes []
no_bytes i = omega arith

pub error_is_read : packet_in (packet_bytes (Error 1 [])) ≡ Some (Error 1 [])
error_is_read = written_is_read (Error 1 []) (omega arith, no_bytes) refl

-- the other end of a transfer that got a packet that is no ERROR
pub answered_by : (me them : _) (mine theirs : List Transfer) (posted : List DatagramView) (w : Transfer) (p : PacketView) → IsFair me them mine theirs posted → IsFair them me theirs mine posted → Among w mine → is_asking w.role ≡ true → Among p w.got → IsNoError p
    → (v : Transfer) × Among v theirs × IsAnsweredBy w v
answered_by me them mine theirs posted w p one other_one a asks heard no_error = by (one.begun w a)
  where
    error_not : (x : PacketView) → Some (Error 1 []) ≡ Some x → IsNoError x → ⊥
    error_not x e none = let same : Error 1 [] ≡ x = cc in subst IsNoError (sym same) none

    of_post : (h : Brought posted them 59 w.own p) → IsPostOfSide theirs (record { side = them; from = 59; to = w.own; bytes = h.bytes }) → ⊥
    of_post h (of_transfer u b post) = own_not_59 theirs u other_one.ports b (sym post.port)
    of_post h (of_refusal port bytes) = error_not p (sym error_is_read ∙ ap packet_in (sym bytes) ∙ h.spells) no_error

    not_refused : w.peer ≡ Some 59 → ⊥
    not_refused is_59 =
        let h : Brought posted them 59 w.own p = subst (λ (peer : Option ℕ). BroughtFrom posted them w.own peer p) is_59 (all_at (BroughtFrom posted them w.own w.peer) w.got p (one.got w a) heard) in
        of_post h (other_one.posts (record { side = them; from = 59; to = w.own; bytes = h.bytes }) h.among refl)

    by : TransferHasBegun posted them theirs w → (v : Transfer) × Among v theirs × IsAnsweredBy w v
    by (served serves took) = asks_not _ w.role asks serves
    by (unanswered also none got) = absurd (subst (λ (ps : List PacketView). Among p ps) got heard)
    by (refused also is_59) = absurd (not_refused is_59)
    by (answered also v b is) = (v, b, is)

-- ---- steps

abbrev pub IsNoStartEvent : Option Event → Type 0
IsNoStartEvent None = Unit {0}
IsNoStartEvent (Some e) = started_by e ≡ []

pub no_start_given : (posted : List DatagramView) (h : HappeningView) → IsNoStartEvent (event_for sides.Loader posted h) → IsNoStart h
no_start_given posted (Info_started hw pos) none = absurd cc
no_start_given posted (Upload_started hw pos parts) none = absurd cc
no_start_given posted (Delivered to n) none = tt
no_start_given posted (Lost n) none = tt
no_start_given posted (Injected d) none = tt
no_start_given posted (Ticked whose) none = tt
no_start_given posted (Size_told size) none = tt
no_start_given posted (Power_cut calls pick) none = tt
no_start_given posted Booted none = tt
no_start_given posted Ended none = tt

pub event_is : (x y : Event) (xs ys : List Event) → x ∷ xs ≡ y ∷ ys → (x ≡ y) × (xs ≡ ys)
event_is x y xs ys f = (cc, cc)

-- the step of an event of the loader's log after which nothing was started
pub record StartedAt (steps : List Step) (event : Event) (log : List Event) : Type 0 where
  pub since : List Step
  pub start : Step
  pub before : List Step
  pub split : steps ≡ since ++ start ∷ before
  pub newest : NoneStarts since
  pub comes : event_for sides.Loader (posted_in before) start.given ≡ Some event
  pub is : loader_log before ≡ log

pub started_at : (steps : List Step) (since : List Event) (event : Event) (log : List Event) → loader_log steps ≡ since ++ event ∷ log → HasNoStart since → StartedAt steps event log
started_at [] [] event log e none = absurd cc
started_at [] (x ∷ since) event log e none = absurd cc
started_at (s ∷ earlier) since event log e none = by (event_for sides.Loader (posted_in earlier) s.given) (λ before f none_then. started_at earlier before event log f none_then) refl since e none
  where
    later : IsNoStart s.given → StartedAt earlier event log → StartedAt (s ∷ earlier) event log
    later no_start h = record { since = s ∷ h.since; start = h.start; before = h.before; split = ap (λ (x : List Step). s ∷ x) h.split; newest = (no_start, h.newest); comes = h.comes; is = h.is }

    given : (x : Option Event) → event_for sides.Loader (posted_in earlier) s.given ≡ x → IsNoStartEvent x → IsNoStart s.given
    given x comes h = no_start_given (posted_in earlier) s.given (subst IsNoStartEvent (sym comes) h)

    by : (x : Option Event) → ((before : List Event) → loader_log earlier ≡ before ++ event ∷ log → HasNoStart before → StartedAt earlier event log) → event_for sides.Loader (posted_in earlier) s.given ≡ x → (since : List Event) → logged x (loader_log earlier) ≡ since ++ event ∷ log
        → HasNoStart since → StartedAt (s ∷ earlier) event log
    by None rest comes since e none = later (given None comes tt) (rest since e none)
    by (Some x) rest comes [] e none =
        let (head, tail) = event_is x event (loader_log earlier) log e in
        record { since = []; start = s; before = earlier; split = refl; newest = tt; comes = comes ∙ ap (λ (y : Event). Some y) head; is = tail }
    by (Some x) rest comes (y ∷ since) e (first, none) =
        let (head, tail) = event_is x y (loader_log earlier) (since ++ event ∷ log) e in later (given (Some x) comes (ap started_by head ∙ first)) (rest since tail none)

-- of two steps of a trace, which is the earlier one
pub data Order (one two : Step) (since before since_two before_two : List Step) : Type 0 where
  one_first : (between : List Step) → before_two ≡ between ++ one ∷ before → Order one two since before since_two before_two
  same_step : one ≡ two → before ≡ before_two → Order one two since before since_two before_two
  two_first : (between : List Step) → before ≡ between ++ two ∷ before_two → since_two ≡ since ++ one ∷ between → Order one two since before since_two before_two

step_is : (x y : Step) (xs ys : List Step) → x ∷ xs ≡ y ∷ ys → (x ≡ y) × (xs ≡ ys)
step_is x y xs ys f = (cc, cc)

pub order_of : (since since_two : List Step) (one two : Step) (before before_two : List Step) → since ++ one ∷ before ≡ since_two ++ two ∷ before_two → Order one two since before since_two before_two
order_of [] [] one two before before_two e = let (head, tail) = step_is one two before before_two e in same_step head tail
order_of [] (y ∷ ys) one two before before_two e =
    let (head, tail) = step_is one y before (ys ++ two ∷ before_two) e in two_first ys tail (ap (λ (z : Step). z ∷ ys) (sym head))
order_of (x ∷ xs) [] one two before before_two e =
    let (head, tail) = step_is x two (xs ++ one ∷ before) before_two e in one_first xs (sym tail)
order_of (x ∷ xs) (y ∷ ys) one two before before_two e =
    let (head, tail) = step_is x y (xs ++ one ∷ before) (ys ++ two ∷ before_two) e in later (order_of xs ys one two before before_two tail) head
  where
    later : Order one two xs before ys before_two → x ≡ y → Order one two (x ∷ xs) before (y ∷ ys) before_two
    later (one_first between f) head = one_first between f
    later (same_step f g) head = same_step f g
    later (two_first between f g) head = two_first between f (ap (λ (zs : List Step). y ∷ zs) g ∙ ap (λ (z : Step). z ∷ (xs ++ one ∷ between)) (sym head))

-- ---- the step at which a session ends

-- what was over at the loader before the session's start
abbrev pub older_ones : (media : Media) (log : List Event) (session : SessionLog) → IsOfNewestStart media log session → List Transfer
older_ones media log session own = past_with (loader_reading media own.before).end.live (loader_reading media own.before).end.past

-- the transfer of the target that answered a request, below the port of the one with which the session ends
pub record AnsweredBelow (set : Setting) (s : Step) (earlier : List Step) (ended request : Transfer) : Type 0 where
  pub answer : Transfer
  pub among : Among answer (target_transfers set s earlier)
  pub answers : IsAnsweredBy request answer
  pub below : (port : ℕ) → ended.peer ≡ Some port → answer.own < port

pub record EndsNewest (set : Setting) (s : Step) (earlier : List Step) (session : SessionLog) (live ended : Transfer) : Type 0 where
  pub own : IsOfNewestStart set.media (loader_log earlier) session
  pub roles : LoaderRoleFits (loader_at set earlier).end (Some session)
  pub transfers : loader_transfers set (s ∷ earlier) ≡ ended ∷ (own.mine ++ older_ones set.media (loader_log earlier) session own)
  pub rises : OwnPortsRise (ended ∷ (own.mine ++ older_ones set.media (loader_log earlier) session own))
  pub answered : (request : Transfer) (p : PacketView) → Among request own.mine → is_asking request.role ≡ true → Among p request.got → IsNoError p → is_asking live.role ≡ false → AnsweredBelow set s earlier ended request
  pub start : StartedAt earlier own.event own.before
  pub before_start : (t : Transfer) → Among t (loader_transfers set start.before) → Among t (older_ones set.media (loader_log earlier) session own)
  pub ended_then : (loader_at set (start.start ∷ start.before)).ended ≡ (loader_at set earlier).ended
  pub no_start : IsNoStart s.given

module _ (joins : SumsJoin) (moves : MovesStayFair) (set : Setting) (s : Step) (earlier : List Step) (is : IsUninjected set (s ∷ earlier)) (e : Event) (comes : event_for sides.Loader (posted_in earlier) s.given ≡ Some e) (h : EndsWithLive set.media (loader_at set earlier) e) where
  abbrev log : List Event
  log = loader_log earlier

  own_session : IsOfNewestStart set.media log h.session
  own_session = subst (λ (live : Option SessionLog). LiveIsOfNewestStart set.media log live) h.was_live (sessions_are_of_newest_starts set.media log)

  abbrev older : List Transfer
  older = older_ones set.media log h.session own_session

  row_fits : LoaderRoleFits (loader_at set earlier).end (Some h.session)
  row_fits = subst (λ (live : Option SessionLog). LoaderRoleFits (loader_at set earlier).end live) h.was_live (loader_roles_fit set.media log)

  transfers_are : loader_transfers set (s ∷ earlier) ≡ h.transfer ∷ (own_session.mine ++ older)
  transfers_are =
      append-nil (past_with (loader_at set (s ∷ earlier)).end.live (loader_at set (s ∷ earlier)).end.past)
      ∙ ap (λ (x : Option Event). past_with (loader_reading set.media (logged x log)).end.live (loader_reading set.media (logged x log)).end.past) comes
      ∙ ap (λ (live : Option Transfer). past_with live (loader_extended set.media (loader_at set earlier) e).end.past) h.free
      ∙ h.past ∙ ap (λ (ts : List Transfer). h.transfer ∷ ts) own_session.past

  fair : TargetIsFair (reached set (event_for sides.Target (posted_in earlier) s.given) (target_at set earlier)) (former_at set earlier) (loader_transfers set (s ∷ earlier)) (posted_then joins moves set s earlier is)
  fair = after joins moves set s earlier is

  answered_since : (request : Transfer) (p : PacketView) → Among request own_session.mine → is_asking request.role ≡ true → Among p request.got → IsNoError p → is_asking h.live.role ≡ false → AnsweredBelow set s earlier h.transfer request
  answered_since request p a asks heard no_error serves =
      let there : Among request (loader_transfers set (s ∷ earlier)) = subst (λ (ts : List Transfer). Among request ts) (sym transfers_are) (inr (among_left request own_session.mine older a)) in
      let (answer, among, answers) = answered_by sides.Loader sides.Target (loader_transfers set (s ∷ earlier)) (target_transfers set s earlier) (posted_then joins moves set s earlier is) request p fair.other_one fair.one there asks heard no_error in
      record { answer = answer; among = among; answers = answers; below = λ port x. below answer answers port x }
    where
      past : Among request (loader_at set earlier).end.past
      past = subst (λ (ts : List Transfer). Among request ts) (sym own_session.past) (among_left request own_session.mine older a)

      above : IsAboveMark h.live.peer (loader_at set earlier).end.past
      above = (subst (λ (live : Option Transfer). ServedIsFresh live (loader_at set earlier).end.past) h.going row_fits.1) serves

      below : (answer : Transfer) → IsAnsweredBy request answer → (port : ℕ) → h.transfer.peer ≡ Some port → answer.own < port
      below answer answers port x = by h.live.peer above (sym (ap (λ (t : Transfer). t.peer) h.is) ∙ x)
        where
          by : (peer : Option ℕ) → IsAboveMark peer (loader_at set earlier).end.past → bound_to peer h.from ≡ Some port → answer.own < port
          by None over y = absurd over
          by (Some p) over y =
              let same : p ≡ port = some_is p port y in
              let under : answer.own ≤ mark_in (loader_at set earlier).end.past = below_mark (loader_at set earlier).end.past request answer.own past answers.port in
              omega (arith, same, over, under)

  start_at : StartedAt earlier own_session.event own_session.before
  start_at = started_at earlier own_session.since own_session.event own_session.before own_session.split own_session.newest

  pub ends_newest : EndsNewest set s earlier h.session h.live h.transfer
  ends_newest = record {
    own = own_session;
    roles = row_fits;
    transfers = transfers_are;
    rises = subst OwnPortsRise transfers_are fair.other_one.ports;
    answered = answered_since;
    start = start_at;
    before_start = λ t a.
        subst (λ (r : LoaderReading). Among t (past_with r.end.live r.end.past)) (ap (loader_reading set.media) start_at.is)
        (subst (λ (ts : List Transfer). Among t ts) (append-nil (past_with (loader_at set start_at.before).end.live (loader_at set start_at.before).end.past)) a);
    ended_then = ap (λ (x : Option Event). (loader_reading set.media (logged x (loader_log start_at.before))).ended) start_at.comes
        ∙ ap (λ (x : List Event). (loader_reading set.media (own_session.event ∷ x)).ended) start_at.is ∙ sym own_session.ended;
    no_start = no_start_given (posted_in earlier) s.given (subst IsNoStartEvent (sym comes) h.no_start);
  }
