-- A clean upload stands in one of its stages, from its start on; and each delivery brings it to the next.
use Rattle.std.proofs.Common.{◌≡◌, ℕ, ◌+◌, ◌<◌, ◌≤◌, true, false, List, [], ◌∷◌, ◌++◌, length, drop, Option, Some, None, Ok, refl, sym, ap, subst, ◌∙◌, arith, append-nil, inl}
use Rattle.std.specs.Prelude.{Contains}
use Rattle.std.proofs.Math.Seq.{drop-append-add}
use Rattle.disk_layout.specs.Holds.{Outline}
use Rattle.load_base.specs.Config.{LoadView}
use Rattle.load_protocol_files.specs.declared.lur.Wanted.{Wanted}
use Rattle.exchange_trace.specs.declared.trace.Side.{Side}
use Rattle.exchange_trace.specs.declared.trace.Side.TheVariants as sides
use Rattle.exchange_trace.specs.Happenings.{DatagramView}
use Rattle.exchange_trace.specs.Logs.{Gets, Starts_upload}
use Rattle.tftp_link.specs.Receiver.{Receiver, receiver_answer}
use Rattle.tftp_link.specs.Sender.{Sender, sender_answer}
use Rattle.transfer_end.specs.Moves.{Asks, Stops, datagram, request, view_after}
use Rattle.transfer_end.specs.Packets.{wanted_options}
use Rattle.transfer_end.specs.Transfers.{Reads, Role}
use Rattle.transfer_end.specs.Views.{EndView, TransferView}
use Rattle.session_rules.specs.declared.outcome.FileKind.TheVariants.{Lui}
use Rattle.session_rules.proofs.BufferLemmas.{SumsJoin}
use Rattle.session_rules.specs.Buffers.{Buffer, buffer_size, buffered, empty_buffer}
use Rattle.session_rules.specs.Loader as loader
use Rattle.session_rules.specs.Loader.{LoaderDecision, LoaderSession, LoaderView, loader_posts}
use Rattle.session_rules.specs.LoaderRows.{Reads_lui}
use Rattle.session_rules.specs.MediaFiles.{wanted_of}
use Rattle.session_rules.specs.Target.{TargetSession, TargetView}
use Rattle.session_rules.specs.TargetRows.{RowView, Gives_lui}
use Rattle.replay_rules.specs.BothEnds.{Setting}
use Rattle.transfer_completion.proofs.BlockLemmas.{lt_true, lt_false}
use Rattle.transfer_completion.proofs.MoveLemmas.{asks}
use Rattle.transfer_completion.specs.Positions.{HasAsked, IsKeptTransfer, Position, Rests, StandsIn}
use Rattle.transfer_completion.proofs.TalkLemmas.{receiver_goes_on, sender_goes_on, talk_is_read}
use Rattle.session_completion.specs.Clean.{Clean, IsBelow, AreEndsIdle, IsNext, goes, learns, starts}
use Rattle.session_completion.specs.Course.{Course, cost, file_in, own_file_name, role_in}
use Rattle.session_completion.specs.Stages.{InRow, IsPosted, KeepsWhole, Meets, TargetBefore, Where, asked, closing, down, early, end_at, ending, over, starting, to_target, up}
use Rattle.session_completion.specs.Worlds.{World, at_loader, last_of, told, waits}
use Rattle.session_completion.proofs.Fits.{clean_fits, no_more_sums}
use Rattle.session_completion.proofs.Next as next
use Rattle.session_completion.proofs.Next.{Leads}
use Rattle.session_completion.proofs.Old.{loader_same, target_same}
use Rattle.session_completion.proofs.Queues.{next_drop}
use Rattle.session_completion.proofs.Shapes.{same_world}
use Rattle.std.proofs.Math.Seq.{take-nil}
use Rattle.session_completion.specs.Requests.{SessionFits}

-- ---- what is ahead

plus_zero : (n : ℕ) → n + 0 ≡ n
plus_zero n = omega arith

pub drop_before : (posts before ahead : List DatagramView) (n : ℕ) → posts ≡ before ++ ahead → length before ≡ n → drop n posts ≡ ahead
drop_before posts before ahead n e count =
    ap (λ (ds : List DatagramView). drop n ds) e ∙ ap (λ (k : ℕ). drop k (before ++ ahead)) (sym count ∙ sym (plus_zero (length before))) ∙ drop-append-add before ahead 0

pub next_is : (posts before rest : List DatagramView) (x d : DatagramView) (n : ℕ) → posts ≡ before ++ x ∷ rest → length before ≡ n → Rattle.exchange_trace.specs.Posts.numbered posts (n + 1) ≡ Some d → d ≡ x
next_is posts before rest x d n e count is = let f = (next_drop posts n d is).0 in let g = drop_before posts before (x ∷ rest) n e count in cc

pub none_is : (posts before : List DatagramView) (d : DatagramView) (n : ℕ) → posts ≡ before ++ [] → length before ≡ n → Rattle.exchange_trace.specs.Posts.numbered posts (n + 1) ≡ Some d → ⊥
none_is posts before d n e count is = let f = (next_drop posts n d is).0 in let g = drop_before posts before [] n e count in absurd cc

module _ (set : Setting) (wanted : List Wanted) (loads : List LoadView) (joins : SumsJoin) (sequence : set.start.sequence < 4294967295) where
  abbrev LeadsOn : ℕ → World → ℕ → DatagramView → Type 0
  LeadsOn n c budget d = Leads set wanted loads joins sequence n c budget d.side (Gets d.from d.to d.bytes)

  -- each delivery leads to the next stage
  pub leads_on : (n : ℕ) (c : World) (budget : ℕ) (d : DatagramView) → Where set wanted loads n c budget → IsNext n c d → LeadsOn n c budget d
  leads_on n c budget d (asked getter poster own peer i before more row told m room course turn loads' target) is =
      subst (λ (x : DatagramView). LeadsOn n c (cost set wanted more row) x) (sym (next_is c.posts before [] (request poster (peer + i) (role_in set wanted row told)) d n m.posts m.count is))
      (next.step_asked set wanted loads joins sequence n c getter poster own peer i before more row told m.opposite m room course turn loads' target)
  leads_on n c budget d (down getter poster own peer i mine yours before more row s r p m room course sends talk holds held session other) is =
      subst (λ (x : DatagramView). LeadsOn n c budget x) (sym (next_is c.posts before [] (datagram poster (peer + i) (own + i) p) d n m.posts m.count is))
      (next.step_down set wanted loads joins sequence n c getter poster own peer i mine yours before more row s r p (receiver_answer r p) m room course sends
      (talk_is_read (file_in set wanted row) s r true p talk (next.fine_of set wanted loads joins sequence more row course).bytes) refl (receiver_goes_on (file_in set wanted row) s r p talk) holds (inl held.0) session other)
  leads_on n c budget d (up getter poster own peer i mine yours before more row s r p m room course sends talk holds held session other) is =
      subst (λ (x : DatagramView). LeadsOn n c budget x) (sym (next_is c.posts before [] (datagram poster (peer + i) (own + i) p) d n m.posts m.count is))
      (next.step_up set wanted loads joins sequence n c getter poster own peer i mine yours before more row s r p (sender_answer s p) m room course sends
      (talk_is_read (file_in set wanted row) s r false p talk (next.fine_of set wanted loads joins sequence more row course).bytes) refl (sender_goes_on (file_in set wanted row) s r p talk) holds (inl held.0) session other)
  leads_on n c budget d (closing getter poster own peer i before more row s r m room sends step keeps session other) is =
      subst (λ (x : DatagramView). LeadsOn n c budget x) (sym (next_is c.posts before [] _ d n m.posts m.count is))
      (next.step_closing set wanted loads joins sequence n c getter poster own peer i before more row s r m.opposite m room sends step.0 step.1 step.2 keeps session other)
  leads_on n c budget d (early getter poster own peer i before more row s r told m room sends step keeps session other) is =
      subst (λ (x : DatagramView). LeadsOn n c budget x) (sym (next_is c.posts before _ _ d n m.posts m.count is))
      (next.step_early set wanted loads joins sequence n c getter poster own peer i before more row s r told m.opposite m room sends step.0 step.1 step.2 keeps session other).0
  leads_on n c budget d (ending own peer i before row s r m room course keeps session finished) is =
      subst (λ (x : DatagramView). LeadsOn n c budget x) (sym (next_is c.posts before [] _ d n m.posts m.count is))
      (next.step_ending set wanted loads joins sequence n c own peer i before row s r m course keeps session finished)
  leads_on n c budget d (over own peer i before m finished none active) is = absurd (none_is c.posts before d n m.posts m.count is)

  -- ---- a block size is told

  abbrev learned : EndView → Option ℕ → EndView
  learned v size = record { next_port = v.next_port; mark = v.mark; live = v.live; kept = v.kept; retries = v.retries; last = v.last; asks_size = size }

  abbrev learning : World → Option ℕ → World
  learning c size = record {
    loader = record { end = learned c.loader.end size; live = c.loader.live; ended = c.loader.ended };
    target = record { end = learned c.target.end size; live = c.target.live; active = c.target.active; reason = c.target.reason };
    posts = c.posts;
  }

  learns_so : (c : World) (size : Option ℕ) → SessionFits c.target.live → told set c size ≡ learning c size
  learns_so c size fits =
      same_world _ _ _ _ _ _
      (ap (λ (l : Option LoaderSession). let v : LoaderView = record { end = learned c.loader.end size; live = l; ended = c.loader.ended } in v) (loader_same c.loader.live))
      (ap (λ (l : Option TargetSession). let v : TargetView = record { end = learned c.target.end size; live = l; active = c.target.active; reason = c.target.reason } in v) (target_same no_more_sums c.target.live fits))
      (append-nil (c.posts ++ []) ∙ append-nil c.posts)

  stands_so : (side x : Side) (posts : List DatagramView) (own peer i : ℕ) (position : Position) (c : World) (size : Option ℕ) → StandsIn side posts own peer i position (end_at c x) → StandsIn side posts own peer i position (end_at (learning c size) x)
  stands_so side sides.Loader posts own peer i position c size h = record { port = h.port; mark = h.mark; live = h.live; last = h.last; underway = h.underway; kept = h.kept }
  stands_so side sides.Target posts own peer i position c size h = record { port = h.port; mark = h.mark; live = h.live; last = h.last; underway = h.underway; kept = h.kept }

  waits_so : (x : Side) (c : World) (size : Option ℕ) → waits (learning c size) x ≡ waits c x
  waits_so sides.Loader c size = refl
  waits_so sides.Target c size = refl

  last_so : (x : Side) (c : World) (size : Option ℕ) → last_of (learning c size) x ≡ last_of c x
  last_so sides.Loader c size = refl
  last_so sides.Target c size = refl

  kept_so : (x : Side) (c : World) (size : Option ℕ) → (end_at (learning c size) x).kept ≡ (end_at c x).kept
  kept_so sides.Loader c size = refl
  kept_so sides.Target c size = refl

  row_so : (x : Side) (c : World) (size : Option ℕ) (row : RowView) (arrived : List ℕ) → InRow set wanted c x row arrived → InRow set wanted (learning c size) x row arrived
  row_so sides.Loader c size row arrived h = h
  row_so sides.Target c size row arrived h = h

  posted_so : (x : Side) (c : World) (size : Option ℕ) → IsPosted c.posts (last_of c x) → IsPosted c.posts (last_of (learning c size) x)
  posted_so x c size (d, e, has) = (d, last_so x c size ∙ e, has)

  meets_so : (n : ℕ) (c : World) (size : Option ℕ) (getter poster : Side) (own peer i j : ℕ) (mine yours : Position) (before ahead : List DatagramView)
      → Meets set n c getter poster own peer i j mine yours before ahead → Meets set n (learning c size) getter poster own peer i j mine yours before ahead
  meets_so n c size getter poster own peer i j mine yours before ahead m = record {
    opposite = m.opposite;
    own_low = m.own_low;
    peer_low = m.peer_low;
    me = stands_so getter getter c.posts own peer i mine c size m.me;
    you = stands_so poster poster c.posts peer own j yours c size m.you;
    posts = m.posts;
    count = m.count;
    to_me = m.to_me;
    to_you = m.to_you;
    i_posted = λ w. posted_so getter c size (m.i_posted (sym (waits_so getter c size) ∙ w));
    you_posted = λ w. posted_so poster c size (m.you_posted (sym (waits_so poster c size) ∙ w));
    identity = m.identity;
  }

  keeps_so : (c : World) (size : Option ℕ) (poster : Side) (own peer i : ℕ) (file : List ℕ) (s : Sender) (r : Receiver) → KeepsWhole c poster own peer i file s r → KeepsWhole (learning c size) poster own peer i file s r
  keeps_so c size poster own peer i file s r k = record { kept = kept_so poster c size ∙ k.kept; phase = k.phase; whole = k.whole }

  before_so : (c : World) (size : Option ℕ) (row : RowView) → TargetBefore set c.target row → TargetBefore set (learning c size).target row
  before_so c size row h = h

  where_so : (n : ℕ) (c : World) (size : Option ℕ) (budget : ℕ) → Where set wanted loads n c budget → Where set wanted loads n (learning c size) budget
  where_so n c size budget (asked getter poster own peer i before more row told m room course turn loader target) =
      asked getter poster own peer i before more row told (meets_so n c size getter poster own peer i i Rests _ before _ m) room course turn loader (before_so c size row target)
  where_so n c size budget (down getter poster own peer i mine yours before more row s r p m room course sends talk holds held session other) =
      down getter poster own peer i mine yours before more row s r p (meets_so n c size getter poster own peer i i mine yours before _ m) room course sends talk holds held (row_so getter c size row _ session) (row_so poster c size row [] other)
  where_so n c size budget (up getter poster own peer i mine yours before more row s r p m room course sends talk holds held session other) =
      up getter poster own peer i mine yours before more row s r p (meets_so n c size getter poster own peer i i mine yours before _ m) room course sends talk holds held (row_so getter c size row [] session) (row_so poster c size row _ other)
  where_so n c size budget (closing getter poster own peer i before more row s r m room sends step keeps session other) =
      closing getter poster own peer i before more row s r (meets_so n c size getter poster own peer i (i + 1) _ Rests before _ m) room sends step (keeps_so c size poster own peer i _ s r keeps) (row_so getter c size row [] session) (row_so poster c size _ [] other)
  where_so n c size budget (early getter poster own peer i before more row s r told m room sends step keeps session other) =
      early getter poster own peer i before more row s r told (meets_so n c size getter poster own peer i (i + 1) _ _ before _ m) room sends step (keeps_so c size poster own peer i _ s r keeps) (row_so getter c size row [] session) (row_so poster c size _ [] other)
  where_so n c size budget (ending own peer i before row s r m room course keeps session finished) =
      ending own peer i before row s r (meets_so n c size sides.Target sides.Loader own peer i (i + 1) _ Rests before _ m) room course (keeps_so c size sides.Loader own peer i _ s r keeps) session finished
  where_so n c size budget (over own peer i before m finished none active) = over own peer i before (meets_so n c size sides.Target sides.Loader own peer (i + 1) (i + 1) Rests Rests before [] m) finished none active

  pub told_where : (n : ℕ) (c : World) (size : Option ℕ) (budget : ℕ) → SessionFits c.target.live → Where set wanted loads n c budget → Where set wanted loads n (told set c size) budget
  told_where n c size budget fits h = subst (λ (x : World). Where set wanted loads n x budget) (sym (learns_so c size fits)) (where_so n c size budget h)

-- ---- the start

below_kept : (side : Side) (posts : List DatagramView) (own peer : ℕ) (kept : Option TransferView) → IsBelow own kept → IsKeptTransfer side posts own peer 0 kept
below_kept side posts own peer None h = tt
below_kept side posts own peer (Some x) h = inl h

-- an end without a transfer, whose mark is below the other's ports
rests : (side : Side) (posts : List DatagramView) (peer : ℕ) (v : EndView) → v.live ≡ None → v.mark < peer → IsBelow v.next_port v.kept → StandsIn side posts v.next_port peer 0 Rests v
rests side posts peer v free below kept = record {
  port = sym (plus_zero v.next_port);
  mark = record { all = λ j lt. absurd (omega arith); none = rw (plus_zero peer) below };
  live = free;
  last = tt;
  underway = tt;
  kept = below_kept side posts v.next_port peer v.kept kept;
}

abbrev first_role : Setting → EndView → Role
first_role set v = Reads (own_file_name set Lui) (wanted_options v.asks_size 0)

abbrev start_decision : Setting → EndView → List Wanted → LoaderDecision
start_decision set v wanted = record { moves = Stops ∷ Asks (first_role set v) ∷ []; change = loader.Begins (starting set wanted) }

decided : (set : Setting) (v : EndView) (parts : List (List ℕ)) (wanted : List Wanted) → length parts ≤ 32 → wanted_of set.media.loads parts ≡ Ok wanted → v.next_port < 65536
    → loader.upload_decision set.media v set.start.identity.hw set.start.identity.pos parts ≡ start_decision set v wanted
decided set v parts wanted few on_media port = rw (lt_false 32 (length parts) few, on_media, lt_true v.next_port 65536 port) refl

only_one : (ds : List DatagramView) (d : DatagramView) → Contains [] d → ⊥
only_one ds d (k, lt, at) = absurd (omega arith)

same_start : (live : Option LoaderSession) (s : LoaderSession) (row : Buffer) → ◌≡◌ {A = Buffer} empty_buffer (buffered [])
same_start live s row = rw (take-nil buffer_size) refl

-- at the start the loader has asked for the first file
pub starts_where : (set : Setting) (loads : List LoadView) (w : World) (parts : List (List ℕ)) (wanted : List Wanted) (more : ℕ) → AreEndsIdle set (more + 1) w → Course set wanted loads more Gives_lui → length parts ≤ 32 → wanted_of set.media.loads parts ≡ Ok wanted
    → Where set wanted loads 0 (at_loader set w (Starts_upload set.start.identity.hw set.start.identity.pos parts)) (cost set wanted more Gives_lui)
starts_where set loads w parts wanted more idle course few on_media =
    let e = Starts_upload set.start.identity.hw set.start.identity.pos parts in
    let v = w.loader.end in
    let role = first_role set v in
    let own = w.target.end.next_port in
    let peer = v.next_port in
    let ports = idle.loader_ports in
    let is : loader.loader_decision set.media w.loader e ≡ start_decision set v wanted = decided set v parts wanted few on_media (omega arith) in
    let after = ap (λ (d : LoaderDecision). Rattle.session_rules.specs.Loader.loader_changed (Rattle.transfer_end.specs.Moves.views_after sides.Loader v d.moves) w.loader d.change) is in
    let post : loader_posts set.media w.loader e ≡ request sides.Loader (peer + 0) role ∷ [] = ap (λ (d : LoaderDecision). Rattle.transfer_end.specs.Moves.all_posts sides.Loader v d.moves) is ∙ ap (λ (k : ℕ). request sides.Loader k role ∷ []) (sym (plus_zero peer)) in
    let c = at_loader set w e in
    let posts : c.posts ≡ request sides.Loader (peer + 0) role ∷ [] = ap (λ (ds : List DatagramView). ds ++ loader_posts set.media w.loader e) idle.posts ∙ post in
    let stopped = view_after sides.Loader v Stops in
    let at_rest : StandsIn sides.Loader [] peer own 0 Rests stopped = rests sides.Loader [] own stopped refl idle.loader_below idle.loader_kept in
    let begun : StandsIn sides.Loader (request sides.Loader (peer + 0) role ∷ []) peer own 0 (HasAsked role) (view_after sides.Loader stopped (Asks role)) =
    subst (λ (ds : List DatagramView). StandsIn sides.Loader ds peer own 0 (HasAsked role) (view_after sides.Loader stopped (Asks role))) (ap (λ (k : ℕ). request sides.Loader k role ∷ []) (sym (plus_zero peer))) (asks sides.Loader [] peer own 0 stopped role at_rest) in
    let asking : StandsIn sides.Loader c.posts peer own 0 (HasAsked role) c.loader.end =
    subst (λ (ds : List DatagramView). StandsIn sides.Loader ds peer own 0 (HasAsked role) c.loader.end) (sym posts) (subst (λ (x : LoaderView). StandsIn sides.Loader (request sides.Loader (peer + 0) role ∷ []) peer own 0 (HasAsked role) x.end) (sym after) begun) in
    let target_ports = idle.target_ports in
    asked sides.Target sides.Loader own peer 0 [] more Gives_lui v.asks_size
    (record {
      opposite = to_target;
      own_low = idle.target_low;
      peer_low = idle.loader_low;
      me = rests sides.Target c.posts peer w.target.end idle.target_free idle.target_below idle.target_kept;
      you = asking;
      posts = posts;
      count = refl;
      to_me = λ d has side. absurd (only_one [] d has);
      to_you = λ d has side. absurd (only_one [] d has);
      i_posted = λ waiting. absurd (not_waiting w.target.live idle.target waiting);
      you_posted = λ waiting. (request sides.Loader (peer + 0) role, asking.last.0, asking.last.1);
      identity = ap (λ (o : Outline). o.identity) idle.active;
    })
    (record { own_ports = omega arith; peer_ports = omega arith }) course refl
    (ap (λ (x : LoaderView). x.live) after ∙ ap (λ (b : Buffer). let s : LoaderSession = record { start = starting set wanted; row = Reads_lui; arriving = b } in Some s) (rw (take-nil buffer_size) refl))
    (idle.target, idle.active)
  where
    not_waiting : (live : Option TargetSession) → live ≡ None → Rattle.std.specs.Prelude.is_some live ≡ true → ⊥
    not_waiting live e f = absurd cc

-- ---- all clean uploads

-- a clean upload stands in one of its stages
pub record StandsSomewhere (set : Setting) (loads : List LoadView) (n : ℕ) (c : World) : Type 0 where
  pub wanted : List Wanted
  pub sequence : set.start.sequence < 4294967295
  pub budget : ℕ
  pub stage : Where set wanted loads n c budget

pub all_stand : SumsJoin → (set : Setting) (loads : List LoadView) (n : ℕ) (c : World) → Clean set loads n c → StandsSomewhere set loads n c
all_stand joins set loads n c (starts w parts wanted more idle course few on_media) = record {
  wanted = wanted;
  sequence = subst (λ (o : Outline). o.sequence < 4294967295) idle.active idle.sequence;
  budget = cost set wanted more Gives_lui;
  stage = starts_where set loads w parts wanted more idle course few on_media;
}
all_stand joins set loads n c (learns m w size before) =
    let s = all_stand joins set loads m w before in
    record {
      wanted = s.wanted;
      sequence = s.sequence;
      budget = s.budget;
      stage = told_where set s.wanted loads joins s.sequence m w size s.budget (clean_fits set loads m w before) s.stage;
    }
all_stand joins set loads n c (goes m w d before is) =
    let s = all_stand joins set loads m w before in
    let led = leads_on set s.wanted loads joins s.sequence m w s.budget d s.stage is in
    record {
      wanted = s.wanted;
      sequence = s.sequence;
      budget = led.left;
      stage = led.stage;
    }
