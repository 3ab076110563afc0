-- The row of the target in which it wrote the file that ends a session of an upload: it follows the loader's row.
use Rattle.std.proofs.Common.{◌≡◌, ◌⊎◌, inl, inr, ℕ, ◌<◌, true, false, List, [], ◌∷◌, ◌++◌, Option, refl, sym, ap, subst, ◌∙◌, arith, append_assoc}
use Rattle.std.specs.List.{AllByRecursion}
use Rattle.tftp_packet.specs.Packets.{PacketView}
use Rattle.exchange_trace.specs.declared.trace.Side.TheVariants as sides
use Rattle.exchange_trace.specs.Logs.{Event, event_for, loader_log}
use Rattle.exchange_trace.specs.Posts.{posted_in}
use Rattle.exchange_trace.specs.Steps.{Step}
use Rattle.transfer_end.proofs.OtherEndLemmas.{all_at, among_either, among_left, among_right}
use Rattle.transfer_end.specs.OtherEnds.{Among, AnswersRequest, MovesStayFair, OwnPortsRise, is_asking}
use Rattle.transfer_end.specs.Transfers.{Reads, Role, ServesRead, ServesWrite, Transfer, Writes}
use Rattle.session_rules.specs.declared.outcome.Outcome.{Outcome}
use Rattle.session_rules.proofs.BufferLemmas.{SumsJoin}
use Rattle.session_rules.specs.Loader.{Start}
use Rattle.session_rules.specs.LoaderLog.{SessionLog}
use Rattle.session_rules.specs.LoaderRoles.{IsNoError, WritesLur, loader_row}
use Rattle.session_rules.specs.LoaderRows.{LoaderRow, Serves_files, Takes_lus}
use Rattle.session_rules.specs.OwnSessions.{HasComeTo, RequestWritten}
use Rattle.replay_rules.specs.BothEnds.{Setting, TargetStanding, reached, target_at}
use Rattle.replay_rules.specs.OtherEndTraces.{IsUninjected, former_at, loader_transfers, target_transfers, transfers_of}
use Rattle.replay_rules.proofs.AnsweredLater.{after, answer_rises, answers_rise, posted_then}
use Rattle.replay_rules.proofs.Arrived.{EndedByTarget}
use Rattle.replay_rules.proofs.EachBefore.{IsOver}
use Rattle.replay_rules.proofs.BegunSessions.{HasBegunBy}
use Rattle.replay_rules.proofs.FirstAnswer.{HasRead, ReadAnswered, first_answer, reading_asks}
use Rattle.replay_rules.proofs.ListedTraces.{reached_none}
use Rattle.replay_rules.proofs.NewestStart.{AnsweredBelow, EndsNewest, asks_not, ends_newest, older_ones, older_than, rise_after, rise_apart, some_is}
use Rattle.replay_rules.proofs.OtherEnd.{HasOther, giving_not_written, other_end, request_of, taking_not_read}
use Rattle.replay_rules.proofs.PlacedRows.{HasServed}
use Rattle.replay_rules.proofs.PortsApart.{PeerIsBelow}
use Rattle.replay_rules.proofs.SentTraces.{TargetIsFair}
use Rattle.replay_rules.proofs.TargetRoles.{IsGiving, IsTaking, IsWriting}

pub giving_serves : (role : Role) → IsGiving role → is_asking role ≡ false
giving_serves (ServesRead name o file) is = refl
giving_serves (ServesWrite name o) is = absurd is
giving_serves (Reads name o) is = absurd is
giving_serves (Writes name o file) is = absurd is

pub taking_serves : (role : Role) → IsTaking role → is_asking role ≡ false
taking_serves (ServesWrite name o) is = refl
taking_serves (ServesRead name o file) is = absurd is
taking_serves (Reads name o) is = absurd is
taking_serves (Writes name o file) is = absurd is

giving_of : (role : Role) → is_asking role ≡ false → (IsTaking role → ⊥) → IsGiving role
giving_of (ServesRead name o file) serves not = tt
giving_of (ServesWrite name o) serves not = absurd (not tt)
giving_of (Reads name o) serves not = absurd (let wrong : true ≡ false = serves in cc)
giving_of (Writes name o file) serves not = absurd (let wrong : true ≡ false = serves in cc)

pub lur_writes : (start : Start) (role : Role) → WritesLur start role → IsWriting role
lur_writes start (Writes name o file) is = tt
lur_writes start (Reads name o) is = absurd is
lur_writes start (ServesRead name o file) is = absurd is
lur_writes start (ServesWrite name o) is = absurd is

pub writing_asks : (role : Role) → IsWriting role → is_asking role ≡ true
writing_asks (Writes name o file) is = refl
writing_asks (Reads name o) is = absurd is
writing_asks (ServesRead name o file) is = absurd is
writing_asks (ServesWrite name o) is = absurd is

-- The loader's session asked for one of its transfers, and served all since; the file that ends it came in one that it served.
module _ (joins : SumsJoin) (moves : MovesStayFair) (set : Setting) (s : Step) (earlier : List Step) (is : IsUninjected set (s ∷ earlier)) (outcome : Outcome) (h : EndedByTarget set s earlier outcome) (live_serves : is_asking h.arrived.ends.live.role ≡ false)
    (Over : Role → List Transfer → Type 0) (over : IsOver Over (transfers_of (target_at set earlier) ++ former_at set earlier) h.other) where
  abbrev own_log : SessionLog
  own_log = h.arrived.ends.session

  abbrev ended : Transfer
  ended = h.arrived.ends.transfer

  abbrev pub n : EndsNewest set s earlier own_log h.arrived.ends.live ended
  n = ends_newest joins moves set s earlier is h.event h.comes h.arrived.ends

  fair : TargetIsFair (reached set (event_for sides.Target (posted_in earlier) s.given) (target_at set earlier)) (former_at set earlier) (loader_transfers set (s ∷ earlier)) (posted_then joins moves set s earlier is)
  fair = after joins moves set s earlier is

  pub target_is : target_transfers set s earlier ≡ transfers_of (target_at set earlier) ++ former_at set earlier
  target_is = ap (λ (state : TargetStanding). transfers_of state ++ former_at set earlier) (ap (λ (x : Option Event). reached set x (target_at set earlier)) h.alone ∙ reached_none set (target_at set earlier))

  pub target_rises : OwnPortsRise (over.newer ++ h.other ∷ over.earlier)
  target_rises = subst OwnPortsRise (target_is ∙ over.split) fair.one.ports

  pub earlier_rises : OwnPortsRise over.earlier
  earlier_rises = (rise_after over.newer (h.other ∷ over.earlier) target_rises).2

  pub there : (t : Transfer) → Among t over.earlier → Among t (target_transfers set s earlier)
  there t a = subst (λ (ts : List Transfer). Among t ts) (sym (target_is ∙ over.split)) (among_right t over.newer (h.other ∷ over.earlier) (inr a))

  module _ (since : List Transfer) (w : Transfer) (before : List Transfer) (split : n.own.mine ≡ since ++ w ∷ before) (serves : AllByRecursion (λ (t : Transfer). is_asking t.role ≡ false) since) (asks : is_asking w.role ≡ true) (packet : PacketView) (heard : Among packet w.got) (no_error : IsNoError packet) where
    -- all that was over before the request
    abbrev pub older : List Transfer
    older = before ++ older_ones set.media (loader_log earlier) own_log n.own

    pub transfers_are : loader_transfers set (s ∷ earlier) ≡ ended ∷ (since ++ w ∷ older)
    transfers_are = n.transfers ∙ ap (λ (ts : List Transfer). ended ∷ ts) (ap (λ (ts : List Transfer). ts ++ older_ones set.media (loader_log earlier) own_log n.own) split ∙ append_assoc since (w ∷ before) _)

    in_transfers : (t : Transfer) → Among t (ended ∷ (since ++ w ∷ older)) → Among t (loader_transfers set (s ∷ earlier))
    in_transfers t a = subst (λ (ts : List Transfer). Among t ts) (sym transfers_are) a

    pub w_among : Among w (loader_transfers set (s ∷ earlier))
    w_among = in_transfers w (inr (among_right w since (w ∷ older) (inl refl)))

    w_rises : OwnPortsRise (w ∷ older)
    w_rises = rise_after (ended ∷ since) (w ∷ older) (subst OwnPortsRise transfers_are fair.other_one.ports)

    -- the transfer of the target that answered it began before the one that wrote the file
    pub taken : AnsweredBelow set s earlier ended w
    taken = n.answered w packet (subst (λ (ts : List Transfer). Among w ts) (sym split) (among_right w since (w ∷ before) (inl refl))) asks heard no_error live_serves

    abbrev pub v : Transfer
    v = taken.answer

    pub v_earlier : Among v over.earlier
    v_earlier = older_than over.newer h.other over.earlier v target_rises (subst (λ (ts : List Transfer). Among v ts) (target_is ∙ over.split) taken.among) (taken.below h.other.own h.port)

    pub answers : AnswersRequest v w
    answers = request_of sides.Target sides.Loader (target_transfers set s earlier) (loader_transfers set (s ∷ earlier)) (posted_then joins moves set s earlier is) fair.one fair.other_one v taken.among taken.answers.serves w w_among taken.answers.back taken.answers.port

    -- no transfer that the target served since then has a request from before it
    newer_not : (t : Transfer) → Among t over.earlier → is_asking t.role ≡ false → (t.got ≡ [] → ⊥) → v.own < t.own → ⊥
    newer_not t a t_serves got less = by x.among
      where
        x : HasOther (loader_transfers set (s ∷ earlier)) t
        x = other_end sides.Target sides.Loader (target_transfers set s earlier) (loader_transfers set (s ∷ earlier)) (posted_then joins moves set s earlier is) fair.one fair.other_one t (there t a) t_serves got

        not_older : Among x.other older → ⊥
        not_older b =
            let before_w : x.other.own < w.own = all_at (λ (y : Transfer). y.own < w.own) older x.other w_rises.1 b in
            let rises = answer_rises (loader_transfers set (s ∷ earlier)) (target_transfers set s earlier) (answers_rise joins moves set (s ∷ earlier) is).1.0 in
            let below : t.own < v.own = subst (λ (peer : Option ℕ). PeerIsBelow v.own peer) x.back (rises v taken.among taken.answers.serves w w_among taken.answers.back x.other x.among before_w) in
            omega (arith, below, less)

        in_past : Among x.other since ⊎ Among x.other (w ∷ older) → ⊥
        in_past (inl b) = asks_not _ x.other.role x.answers.asks (all_at (λ (y : Transfer). is_asking y.role ≡ false) since x.other serves b)
        in_past (inr (inl same)) =
            let port : v.own ≡ t.own = some_is v.own t.own (sym taken.answers.port ∙ (ap (λ (y : Transfer). y.peer) same ∙ x.back)) in
            omega (arith, port, less)
        in_past (inr (inr b)) = not_older b

        found : Among x.other (ended ∷ (since ++ w ∷ older)) → ⊥
        found (inl same) = asks_not _ x.other.role x.answers.asks (sym (ap (λ (y : Transfer). is_asking y.role) (sym h.arrived.ends.is ∙ same)) ∙ live_serves)
        found (inr b) = in_past (among_either x.other since (w ∷ older) b)

        by : Among x.other (loader_transfers set (s ∷ earlier)) → ⊥
        by b = found (subst (λ (ts : List Transfer). Among x.other ts) transfers_are b)

    -- so what the target served last before the file is the request itself
    pub served_is : (Is : Role → Type 0) → ((role : Role) → Is role → is_asking role ≡ false) → (p : HasServed Is over.earlier) → p.served ≡ v
    served_is Is kind_serves p = by (among_either v p.since (p.served ∷ p.older) (subst (λ (ts : List Transfer). Among v ts) p.split v_earlier))
      where
        served_rises : OwnPortsRise (p.served ∷ p.older)
        served_rises = rise_after p.since (p.served ∷ p.older) (subst OwnPortsRise p.split earlier_rises)

        by : Among v p.since ⊎ Among v (p.served ∷ p.older) → p.served ≡ v
        by (inl a) = asks_not _ v.role (all_at (λ (y : Transfer). is_asking y.role ≡ true) p.since v p.asks a) taken.answers.serves
        by (inr (inl same)) = same
        by (inr (inr a)) =
            absurd (newer_not p.served (subst (λ (ts : List Transfer). Among p.served ts) (sym p.split) (among_right p.served p.since (p.served ∷ p.older) (inl refl))) (kind_serves p.served.role p.is) p.heard
            (all_at (λ (y : Transfer). y.own < p.served.own) p.older v served_rises.1 a))

    served_not : (Is : Role → Type 0) → ((role : Role) → Is role → is_asking role ≡ false) → (AnswersRequest v w → Is v.role → ⊥) → HasServed Is over.earlier → ⊥
    served_not Is kind_serves not p = not answers (subst (λ (y : Transfer). Is y.role) (served_is Is kind_serves p) p.is)

    -- Where that request wrote, and one before it read: the session of the target in which it was taken began with a request of
    -- this session of the loader.
    module _ (writes : IsWriting w.role) (read : HasRead n.own.mine) (done : List Transfer) (b : HasBegunBy done over.earlier) where
      -- all that was over before the session
      abbrev former : List Transfer
      former = older_ones set.media (loader_log earlier) own_log n.own

      x : HasOther (loader_transfers set (s ∷ earlier)) b.first
      x = other_end sides.Target sides.Loader (target_transfers set s earlier) (loader_transfers set (s ∷ earlier)) (posted_then joins moves set s earlier is) fair.one fair.other_one b.first
          (there b.first (subst (λ (ts : List Transfer). Among b.first ts) (sym b.split) (among_right b.first b.since (b.first ∷ b.older) (inl refl)))) (giving_serves b.first.role b.gives) b.heard

      -- the transfer of the target that gave what was read
      read_taken : AnsweredBelow set s earlier ended read.request
      read_taken = n.answered read.request read.packet read.among (reading_asks read.request.role read.reads) read.heard read.no_error live_serves

      abbrev f : Transfer
      f = read_taken.answer

      f_earlier : Among f over.earlier
      f_earlier = older_than over.newer h.other over.earlier f target_rises (subst (λ (ts : List Transfer). Among f ts) (target_is ∙ over.split) read_taken.among) (read_taken.below h.other.own h.port)

      read_there : Among read.request (loader_transfers set (s ∷ earlier))
      read_there = subst (λ (ts : List Transfer). Among read.request ts) (sym n.transfers) (inr (among_left read.request n.own.mine former read.among))

      f_answers : AnswersRequest f read.request
      f_answers = request_of sides.Target sides.Loader (target_transfers set s earlier) (loader_transfers set (s ∷ earlier)) (posted_then joins moves set s earlier is) fair.one fair.other_one f read_taken.among read_taken.answers.serves read.request read_there read_taken.answers.back read_taken.answers.port

      f_gives : IsGiving f.role
      f_gives = giving_of f.role read_taken.answers.serves (λ takes. taking_not_read f read.request f_answers takes read.reads)

      first_rises : OwnPortsRise (b.first ∷ b.older)
      first_rises = rise_after b.since (b.first ∷ b.older) (subst OwnPortsRise b.split earlier_rises)

      -- it didn't begin before that one
      not_later : b.first.own < f.own → Among f b.since ⊎ Among f (b.first ∷ b.older) → ⊥
      not_later below (inl a) = all_at (λ (t : Transfer). IsGiving t.role → ⊥) b.since f b.none a f_gives
      not_later below (inr (inl same)) = let port : b.first.own ≡ f.own = ap (λ (t : Transfer). t.own) same in omega (arith, port, below)
      not_later below (inr (inr a)) = let under : f.own < b.first.own = all_at (λ (t : Transfer). t.own < b.first.own) b.older f first_rises.1 a in omega (arith, under, below)

      not_former : Among x.other former → ⊥
      not_former a =
          let less : x.other.own < read.request.own = rise_apart n.own.mine former read.request x.other n.rises.2 read.among a in
          let rises = answer_rises (loader_transfers set (s ∷ earlier)) (target_transfers set s earlier) (answers_rise joins moves set (s ∷ earlier) is).1.0 in
          let below : b.first.own < f.own = subst (λ (peer : Option ℕ). PeerIsBelow f.own peer) x.back (rises f read_taken.among read_taken.answers.serves read.request read_there read_taken.answers.back x.other x.among less) in
          not_later below (among_either f b.since (b.first ∷ b.older) (subst (λ (ts : List Transfer). Among f ts) b.split f_earlier))

      in_session : Among x.other before ⊎ Among x.other former → Among x.other n.own.mine
      in_session (inl a) = subst (λ (ts : List Transfer). Among x.other ts) (sym split) (among_right x.other since (w ∷ before) (inr a))
      in_session (inr a) = absurd (not_former a)

      in_all : Among x.other since ⊎ Among x.other (w ∷ older) → Among x.other n.own.mine
      in_all (inl a) = asks_not _ x.other.role x.answers.asks (all_at (λ (y : Transfer). is_asking y.role ≡ false) since x.other serves a)
      in_all (inr (inl same)) = absurd (giving_not_written b.first w (subst (λ (y : Transfer). AnswersRequest b.first y) (sym same) x.answers) b.gives writes)
      in_all (inr (inr a)) = in_session (among_either x.other before former a)

      in_transfer : Among x.other (ended ∷ (since ++ w ∷ older)) → Among x.other n.own.mine
      in_transfer (inl same) = asks_not _ x.other.role x.answers.asks (sym (ap (λ (y : Transfer). is_asking y.role) (sym h.arrived.ends.is ∙ same)) ∙ live_serves)
      in_transfer (inr a) = in_all (among_either x.other since (w ∷ older) a)

      pub began_own : HasOther n.own.mine b.first
      began_own = record { other = x.other; among = in_transfer (subst (λ (ts : List Transfer). Among x.other ts) transfers_are x.among); port = x.port; back = x.back; answers = x.answers }

  -- where the loader serves files, the target's session took its request
  pub giving_not : loader_row own_log ≡ Serves_files → HasServed IsGiving over.earlier → ⊥
  giving_not e p =
      let written : RequestWritten own_log.start n.own.mine = subst (λ (row : LoaderRow). HasComeTo own_log.start row n.own.mine) e n.own.come_to in
      let writes : IsWriting written.request.role = lur_writes own_log.start written.request.role written.writes in
      served_not written.since written.request written.before written.split written.serves (writing_asks written.request.role writes) written.packet written.heard written.no_error IsGiving giving_serves (λ a gives. giving_not_written _ written.request a gives writes) p

  -- where it takes its first status, the target's session took no request
  pub taking_not : loader_row own_log ≡ Takes_lus → HasServed IsTaking over.earlier → ⊥
  taking_not e p =
      let first : ReadAnswered n.own.mine = first_answer set.media (loader_log earlier) own_log h.arrived.ends.was_live e n.own in
      served_not first.since first.request first.before first.split first.serves (reading_asks first.request.role first.reads) first.packet first.heard first.no_error IsTaking taking_serves (λ a takes. taking_not_read _ first.request a takes first.reads) p
