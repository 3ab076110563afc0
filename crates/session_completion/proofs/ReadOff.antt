-- What holds of clean uploads, read off their stages.
use Rattle.std.proofs.Common.{◌≡◌, ℕ, zero, suc, ◌+◌, ◌<◌, ◌≤◌, Bool, true, List, [], ◌∷◌, ◌++◌, length, drop, Option, Some, None, refl, sym, ap, subst, ◌∙◌, arith, length-append, ◌⊎◌, inl, inr}
use Rattle.std.specs.Prelude.{Contains, is_some}
use Rattle.std.proofs.lemmas.List.Elements.{Contains-append_cases}
use Rattle.load_base.specs.Config.{LoadView}
use Rattle.load_protocol_files.specs.declared.lur.Wanted.{Wanted}
use Rattle.exchange_trace.specs.declared.trace.Side.{Side}
use Rattle.exchange_trace.specs.declared.trace.Side.TheVariants as sides
use Rattle.exchange_trace.specs.Happenings.{DatagramView, other}
use Rattle.exchange_trace.specs.Logs.{Gets}
use Rattle.exchange_trace.specs.Posts.{numbered}
use Rattle.tftp_packet.specs.Packets.{PacketView, packet_bytes}
use Rattle.transfer_end.specs.Packets.{packet_in}
use Rattle.transfer_end.specs.Transfers.{Sends, first_packet}
use Rattle.session_rules.proofs.BufferLemmas.{SumsJoin}
use Rattle.session_rules.specs.TargetRows.{RowView, Gives_lci, Writes_lcs, Writes_lcl, Gives_lui, Gives_denial, Writes_ready, Awaits_lur, Reads_file, Writes_progress, Writes_stop, Writes_completion, Over}
use Rattle.replay_rules.specs.BothEnds.{Setting}
use Rattle.transfer_completion.specs.Positions.{IsIn, IsPast, Position, Rests}
use Rattle.transfer_completion.specs.Positions as positions
use Rattle.session_completion.specs.Clean.{IsDone, IsNext}
use Rattle.session_completion.specs.Laws.{AllComeOut, ComesOut, FewAreAhead, LastIsDone, LastWasPosted, TwoAreQuiet}
use Rattle.session_completion.specs.Requests.{is_write}
use Rattle.session_completion.specs.Shapes.{HasShape, NextResets, ResetsAt, always}
use Rattle.session_completion.specs.Stages as stages
use Rattle.session_completion.specs.Stages.{CameInCourse, IsPosted, Meets, Opposite, Where, asked, closing, down, early, ending, may_ask, over, to_loader, to_target, up}
use Rattle.session_completion.specs.Worlds.{World, delivered, last_of, waits}
use Rattle.session_completion.proofs.Next as next
use Rattle.session_completion.proofs.Queues.{first_or_none, next_drop, none_drop}
use Rattle.session_completion.proofs.Reacts.{Resets}
use Rattle.session_completion.proofs.Stands.{all_stand, drop_before, leads_on, next_is}
use Rattle.session_completion.specs.Course.{Course, IsFine, IsInUpload, IsLater, asker, file_in, next_row, own_file_name, role_in}
use Rattle.session_rules.specs.declared.outcome.FileKind.TheVariants.{Lui, Lur, Lus}
use Rattle.session_rules.specs.Uploads.{next_name}
use Rattle.transfer_completion.proofs.TalkLemmas.{requests_are_read}

-- ---- numbers

too_short : (ds : List DatagramView) (n : ℕ) (x : DatagramView) (rest : List DatagramView) → length ds ≤ n → drop n ds ≡ x ∷ rest → ⊥
too_short ds n x rest le e = let f = ap length e in let g = Rattle.std.proofs.lemmas.List.length-drop n ds in absurd (omega arith)

pub head_is_next : (posts before rest : List DatagramView) (x : DatagramView) (n : ℕ) → posts ≡ before ++ x ∷ rest → length before ≡ n → numbered posts (n + 1) ≡ Some x
head_is_next posts before rest x n e count = elim (first_or_none posts n) [
  | inl (d, f) ↦ subst (λ (y : DatagramView). numbered posts (n + 1) ≡ Some y) (next_is posts before rest x d n e count f) f
  | inr none ↦ absurd (too_short posts n x rest (none_drop posts n none) (drop_before posts before (x ∷ rest) n e count))
]

none_beyond : (posts : List DatagramView) (k : ℕ) → length posts ≤ k → numbered posts (k + 1) ≡ None
none_beyond posts k le = elim (first_or_none posts k) [
  | inl (d, f) ↦ absurd (beyond (next_drop posts k d f).1)
  | inr none ↦ none
]
  where
    beyond : k + 1 ≤ length posts → ⊥
    beyond h = absurd (omega arith)

-- ---- what each stage has

pub record MeetsSomehow (set : Setting) (n : ℕ) (c : World) : Type 0 where
  pub getter : Side
  pub poster : Side
  pub own : ℕ
  pub peer : ℕ
  pub i : ℕ
  pub j : ℕ
  pub mine : Position
  pub yours : Position
  pub before : List DatagramView
  pub ahead : List DatagramView
  pub meets : Meets set n c getter poster own peer i j mine yours before ahead
  pub few : length ahead ≤ 2

some_meets : (set : Setting) (n : ℕ) (c : World) (getter poster : Side) (own peer i j : ℕ) (mine yours : Position) (before ahead : List DatagramView) → Meets set n c getter poster own peer i j mine yours before ahead → length ahead ≤ 2 → MeetsSomehow set n c
some_meets set n c getter poster own peer i j mine yours before ahead m few = record { getter = getter; poster = poster; own = own; peer = peer; i = i; j = j; mine = mine; yours = yours; before = before; ahead = ahead; meets = m; few = few }

-- ---- shapes

abbrev may_hurry : Side → PacketView → Bool
may_hurry sides.Loader = always
may_hurry sides.Target = is_write

came_is_past : (may hurry : PacketView → Bool) (own peer i : ℕ) (position : Position) (d : DatagramView) → CameInCourse may own peer i position d → IsPast may hurry own peer i position d
came_is_past may hurry own peer i position d (stages.as_request j p is ok lt from to) = positions.was_asked j p is ok lt from to
came_is_past may hurry own peer i position d (stages.earlier j p is lt from to) = positions.earlier j p is lt from to
came_is_past may hurry own peer i position d (stages.here p is behind from to) = positions.here p is behind from to

not_same : (getter poster : Side) → Opposite getter poster → poster ≡ getter → ⊥
not_same getter poster to_loader e = absurd cc
not_same getter poster to_target e = absurd cc

module _ (set : Setting) (n : ℕ) (c : World) (getter poster : Side) (own peer i j : ℕ) (mine yours : Position) (before ahead : List DatagramView) (m : Meets set n c getter poster own peer i j mine yours before ahead)
    (late : (d : DatagramView) → Contains ahead d → IsNext n c d ⊎ ((d.side ≡ poster) × IsPast (may_ask set getter) (may_hurry getter) own peer i mine d)) where
  to_getter : (d : DatagramView) → Contains c.posts d → d.side ≡ poster → IsNext n c d ⊎ IsPast (may_ask set getter) (may_hurry getter) own peer i mine d
  to_getter d has side = elim (Contains-append_cases before ahead d (subst (λ (ds : List DatagramView). Contains ds d) m.posts has)) [
    | inl old ↦ inr (came_is_past (may_ask set getter) (may_hurry getter) own peer i mine d (m.to_me d old side))
    | inr new ↦ elim (late d new) [ inl is ↦ inl is | inr past ↦ inr past.1 ]
  ]

  to_poster : (d : DatagramView) → Contains c.posts d → d.side ≡ getter → IsNext n c d ⊎ IsPast (may_ask set poster) (may_hurry poster) peer own j yours d
  to_poster d has side = elim (Contains-append_cases before ahead d (subst (λ (ds : List DatagramView). Contains ds d) m.posts has)) [
    | inl old ↦ inr (came_is_past (may_ask set poster) (may_hurry poster) peer own j yours d (m.to_you d old side))
    | inr new ↦ elim (late d new) [ inl is ↦ inl is | inr past ↦ absurd (not_same getter poster m.opposite (sym past.0 ∙ side)) ]
  ]

shape_of : (set : Setting) (n : ℕ) (c : World) (getter poster : Side) (own peer i j : ℕ) (mine yours : Position) (before ahead : List DatagramView) → Opposite getter poster → (m : Meets set n c getter poster own peer i j mine yours before ahead)
    → ((d : DatagramView) → Contains ahead d → IsNext n c d ⊎ ((d.side ≡ poster) × IsPast (may_ask set getter) (may_hurry getter) own peer i mine d)) → HasShape set n c
shape_of set n c getter poster own peer i j mine yours before ahead to_loader m late = record {
  loader_port = own;
  target_port = peer;
  loader_low = m.own_low;
  target_low = m.peer_low;
  loader_at = i;
  target_at = j;
  loader_stands = mine;
  target_stands = yours;
  identity = m.identity;
  loader = m.me;
  target = m.you;
  to_loader = to_getter set n c sides.Loader sides.Target own peer i j mine yours before ahead m late;
  to_target = to_poster set n c sides.Loader sides.Target own peer i j mine yours before ahead m late;
}
shape_of set n c getter poster own peer i j mine yours before ahead to_target m late = record {
  loader_port = peer;
  target_port = own;
  loader_low = m.peer_low;
  target_low = m.own_low;
  loader_at = j;
  target_at = i;
  loader_stands = yours;
  target_stands = mine;
  identity = m.identity;
  loader = m.you;
  target = m.me;
  to_loader = to_poster set n c sides.Target sides.Loader own peer i j mine yours before ahead m late;
  to_target = to_getter set n c sides.Target sides.Loader own peer i j mine yours before ahead m late;
}

-- one datagram is ahead, or none
contains_one : (x d : DatagramView) → Contains (x ∷ []) d → x ≡ d
contains_one x d (zero, lt, is) = is
contains_one x d (suc k, lt, is) = absurd (omega arith)

contains_none : (d : DatagramView) → Contains [] d → ⊥
contains_none d (k, lt, is) = absurd (omega arith)

contains_two : (x y d : DatagramView) → Contains (x ∷ y ∷ []) d → (x ≡ d) ⊎ (y ≡ d)
contains_two x y d (zero, lt, is) = inl is
contains_two x y d (suc zero, lt, is) = inr is
contains_two x y d (suc (suc k), lt, is) = absurd (omega arith)

shape_one : (set : Setting) (n : ℕ) (c : World) (getter poster : Side) (own peer i j : ℕ) (mine yours : Position) (before : List DatagramView) (x : DatagramView) → Meets set n c getter poster own peer i j mine yours before (x ∷ []) → HasShape set n c
shape_one set n c getter poster own peer i j mine yours before x m =
    shape_of set n c getter poster own peer i j mine yours before (x ∷ []) m.opposite m (λ d has. inl (subst (λ (y : DatagramView). IsNext n c y) (contains_one x d has) (head_is_next c.posts before [] x n m.posts m.count)))

shape_two : (set : Setting) (n : ℕ) (c : World) (getter poster : Side) (own peer i j : ℕ) (mine yours : Position) (before : List DatagramView) (x y : DatagramView) → Meets set n c getter poster own peer i j mine yours before (x ∷ y ∷ [])
    → y.side ≡ poster → IsPast (may_ask set getter) (may_hurry getter) own peer i mine y → HasShape set n c
shape_two set n c getter poster own peer i j mine yours before x y m side past =
    shape_of set n c getter poster own peer i j mine yours before (x ∷ y ∷ []) m.opposite m (λ d has. elim (contains_two x y d has) [
      | inl e ↦ inl (subst (λ (z : DatagramView). IsNext n c z) e (head_is_next c.posts before (y ∷ []) x n m.posts m.count))
      | inr e ↦ inr (subst (λ (z : DatagramView). (z.side ≡ poster) × IsPast (may_ask set getter) (may_hurry getter) own peer i mine z) e (side, past))
    ])

-- ---- requests that are ahead

module _ (set : Setting) (wanted : List Wanted) (loads : List LoadView) (joins : SumsJoin) (sequence : set.start.sequence < 4294967295) where
  role_is_read : (row : RowView) (told : Option ℕ) → IsFine set wanted row → IsInUpload row → packet_in (packet_bytes (first_packet (role_in set wanted row told))) ≡ Some (first_packet (role_in set wanted row told))
  role_is_read Gives_lui told fine h = (requests_are_read (own_file_name set Lui) (file_in set wanted Gives_lui) told fine.named fine.fits).0
  role_is_read (Reads_file u) told fine h = (requests_are_read (next_name u) (file_in set wanted (Reads_file u)) told fine.named fine.fits).0
  role_is_read Writes_ready told fine h = (requests_are_read (own_file_name set Lus) (file_in set wanted Writes_ready) told fine.named fine.fits).1
  role_is_read Awaits_lur told fine h = (requests_are_read (own_file_name set Lur) (file_in set wanted Awaits_lur) told fine.named fine.fits).1
  role_is_read (Writes_progress u) told fine h = (requests_are_read (own_file_name set Lus) (file_in set wanted (Writes_progress u)) told fine.named fine.fits).1
  role_is_read (Writes_completion e l) told fine h = (requests_are_read (own_file_name set Lus) (file_in set wanted (Writes_completion e l)) told fine.named fine.fits).1
  role_is_read Gives_lci told fine h = absurd h
  role_is_read Writes_lcs told fine h = absurd h
  role_is_read Writes_lcl told fine h = absurd h
  role_is_read Gives_denial told fine h = absurd h
  role_is_read (Writes_stop e) told fine h = absurd h
  role_is_read Over told fine h = absurd h

  -- one that comes while the other end is busy
  hurries : (getter poster : Side) (row : RowView) (told : Option ℕ) → Opposite getter poster → IsLater row → asker row ≡ poster → may_hurry getter (first_packet (role_in set wanted row told)) ≡ true
  hurries getter poster row told to_loader later turn = refl
  hurries getter poster Awaits_lur told to_target later turn = refl
  hurries getter poster Writes_ready told to_target later turn = absurd cc
  hurries getter poster (Reads_file u) told to_target later turn = absurd cc
  hurries getter poster (Writes_progress u) told to_target later turn = absurd cc
  hurries getter poster (Writes_completion e l) told to_target later turn = absurd cc
  hurries getter poster Gives_lui told to_target later turn = absurd later
  hurries getter poster Gives_lci told to_target later turn = absurd later
  hurries getter poster Writes_lcs told to_target later turn = absurd later
  hurries getter poster Writes_lcl told to_target later turn = absurd later
  hurries getter poster Gives_denial told to_target later turn = absurd later
  hurries getter poster (Writes_stop e) told to_target later turn = absurd later
  hurries getter poster Over told to_target later turn = absurd later

  fine_row : (more : ℕ) (row : RowView) → Course set wanted loads more row → IsFine set wanted row
  fine_row more row course = next.fine_of set wanted loads joins sequence more row course

  in_upload : (more : ℕ) (row : RowView) → Course set wanted loads more row → IsInUpload row
  in_upload more row course = next.in_course set wanted loads joins sequence more row course

  -- ---- how the ends stand

  where_shape : (n : ℕ) (c : World) (budget : ℕ) → Where set wanted loads n c budget → HasShape set n c
  where_shape n c budget (asked getter poster own peer i before more row told m room course turn loader target) = shape_one set n c getter poster own peer i i Rests _ before _ m
  where_shape n c budget (down getter poster own peer i mine yours before more row s r p m room course sends talk holds held session other) = shape_one set n c getter poster own peer i i mine yours before _ m
  where_shape n c budget (up getter poster own peer i mine yours before more row s r p m room course sends talk holds held session other) = shape_one set n c getter poster own peer i i mine yours before _ m
  where_shape n c budget (closing getter poster own peer i before more row s r m room sends step keeps session other) = shape_one set n c getter poster own peer i (i + 1) _ Rests before _ m
  where_shape n c budget (early getter poster own peer i before more row s r told m room sends step keeps session other) =
      let nr = next_row set wanted row in
      let p = first_packet (role_in set wanted nr told) in
      shape_two set n c getter poster own peer i (i + 1) (IsIn (Sends s)) _ before _ _ m refl
      (positions.too_early p (role_is_read nr told (fine_row more nr step.1) (in_upload more nr step.1)) (hurries getter poster nr told m.opposite step.0.later step.2) (Sends s) refl refl)
  where_shape n c budget (ending own peer i before row s r m room course keeps session finished) = shape_one set n c sides.Target sides.Loader own peer i (i + 1) _ Rests before _ m
  where_shape n c budget (over own peer i before m finished none active) =
      shape_of set n c sides.Target sides.Loader own peer (i + 1) (i + 1) Rests Rests before [] to_target m (λ d has. absurd (contains_none d has))

  where_meets : (n : ℕ) (c : World) (budget : ℕ) → Where set wanted loads n c budget → MeetsSomehow set n c
  where_meets n c budget (asked getter poster own peer i before more row told m room course turn loader target) = some_meets set n c getter poster own peer i i Rests _ before _ m (omega arith)
  where_meets n c budget (down getter poster own peer i mine yours before more row s r p m room course sends talk holds held session other) = some_meets set n c getter poster own peer i i mine yours before _ m (omega arith)
  where_meets n c budget (up getter poster own peer i mine yours before more row s r p m room course sends talk holds held session other) = some_meets set n c getter poster own peer i i mine yours before _ m (omega arith)
  where_meets n c budget (closing getter poster own peer i before more row s r m room sends step keeps session other) = some_meets set n c getter poster own peer i (i + 1) _ Rests before _ m (omega arith)
  where_meets n c budget (early getter poster own peer i before more row s r told m room sends step keeps session other) = some_meets set n c getter poster own peer i (i + 1) _ _ before _ m (omega arith)
  where_meets n c budget (ending own peer i before row s r m room course keeps session finished) = some_meets set n c sides.Target sides.Loader own peer i (i + 1) _ Rests before _ m (omega arith)
  where_meets n c budget (over own peer i before m finished none active) = some_meets set n c sides.Target sides.Loader own peer (i + 1) (i + 1) Rests Rests before [] m (omega arith)

  -- ---- what an end posted last

  last_by : (n : ℕ) (c : World) (s : MeetsSomehow set n c) (getter poster side : Side) → s.getter ≡ getter → s.poster ≡ poster → Opposite getter poster → waits c side ≡ true → IsPosted c.posts (last_of c side)
  last_by n c s getter poster sides.Loader e f to_loader w = subst (λ (x : Side). IsPosted c.posts (last_of c x)) e (s.meets.i_posted (ap (λ (x : Side). waits c x) e ∙ w))
  last_by n c s getter poster sides.Target e f to_loader w = subst (λ (x : Side). IsPosted c.posts (last_of c x)) f (s.meets.you_posted (ap (λ (x : Side). waits c x) f ∙ w))
  last_by n c s getter poster sides.Loader e f to_target w = subst (λ (x : Side). IsPosted c.posts (last_of c x)) f (s.meets.you_posted (ap (λ (x : Side). waits c x) f ∙ w))
  last_by n c s getter poster sides.Target e f to_target w = subst (λ (x : Side). IsPosted c.posts (last_of c x)) e (s.meets.i_posted (ap (λ (x : Side). waits c x) e ∙ w))

  -- ---- where none is next

  some_next : (n : ℕ) (c : World) (getter poster : Side) (own peer i j : ℕ) (mine yours : Position) (before rest : List DatagramView) (x : DatagramView) → Meets set n c getter poster own peer i j mine yours before (x ∷ rest) → numbered c.posts (n + 1) ≡ None → ⊥
  some_next n c getter poster own peer i j mine yours before rest x m none = let f = head_is_next c.posts before rest x n m.posts m.count in absurd cc

  where_done : (n : ℕ) (c : World) (budget : ℕ) → Where set wanted loads n c budget → numbered c.posts (n + 1) ≡ None → IsDone set loads c
  where_done n c budget (over own peer i before m finished none active) e = record {
    loader = ap (λ (l : Option Rattle.session_rules.specs.Loader.LoaderSession). is_some l) finished.0;
    target = ap (λ (l : Option Rattle.session_rules.specs.Target.TargetSession). is_some l) none;
    completed = finished.1;
    active = active;
  }
  where_done n c budget (asked getter poster own peer i before more row told m room course turn loader target) e = absurd (some_next n c getter poster own peer i i Rests _ before [] _ m e)
  where_done n c budget (down getter poster own peer i mine yours before more row s r p m room course sends talk holds held session other) e = absurd (some_next n c getter poster own peer i i mine yours before [] _ m e)
  where_done n c budget (up getter poster own peer i mine yours before more row s r p m room course sends talk holds held session other) e = absurd (some_next n c getter poster own peer i i mine yours before [] _ m e)
  where_done n c budget (closing getter poster own peer i before more row s r m room sends step keeps session other) e = absurd (some_next n c getter poster own peer i (i + 1) _ Rests before [] _ m e)
  where_done n c budget (early getter poster own peer i before more row s r told m room sends step keeps session other) e = absurd (some_next n c getter poster own peer i (i + 1) _ _ before _ _ m e)
  where_done n c budget (ending own peer i before row s r m room course keeps session finished) e = absurd (some_next n c sides.Target sides.Loader own peer i (i + 1) _ Rests before [] _ m e)

  -- ---- two ahead

  only_one_ahead : (n : ℕ) (c : World) (getter poster : Side) (own peer i j : ℕ) (mine yours : Position) (before : List DatagramView) (x e : DatagramView) → Meets set n c getter poster own peer i j mine yours before (x ∷ []) → numbered c.posts (n + 2) ≡ Some e → ⊥
  only_one_ahead n c getter poster own peer i j mine yours before x e m second =
      let few : length c.posts ≡ n + 1 = ap length m.posts ∙ length-append before (x ∷ []) ∙ ap (λ (k : ℕ). k + 1) m.count in
      let many = (next_drop c.posts (n + 1) e (subst (λ (k : ℕ). numbered c.posts k ≡ Some e) (one_more n) second)).1 in
      absurd (omega arith)
    where
      one_more : (n : ℕ) → n + 2 ≡ n + 1 + 1
      one_more n = omega arith

  where_two : (n : ℕ) (c : World) (budget : ℕ) (d e : DatagramView) → Where set wanted loads n c budget → IsNext n c d → numbered c.posts (n + 2) ≡ Some e → (delivered set c d).posts ≡ c.posts
  where_two n c budget d e (early getter poster own peer i before more row s r told m room sends step keeps session other) is second =
      subst (λ (x : DatagramView). (delivered set c x).posts ≡ c.posts) (sym (next_is c.posts before _ _ d n m.posts m.count is))
      (next.step_early set wanted loads joins sequence n c getter poster own peer i before more row s r told m.opposite m room sends step.0 step.1 step.2 keeps session other).1
  where_two n c budget d e (asked getter poster own peer i before more row told m room course turn loader target) is second = absurd (only_one_ahead n c getter poster own peer i i Rests _ before _ e m second)
  where_two n c budget d e (down getter poster own peer i mine yours before more row s r p m room course sends talk holds held session other) is second = absurd (only_one_ahead n c getter poster own peer i i mine yours before _ e m second)
  where_two n c budget d e (up getter poster own peer i mine yours before more row s r p m room course sends talk holds held session other) is second = absurd (only_one_ahead n c getter poster own peer i i mine yours before _ e m second)
  where_two n c budget d e (closing getter poster own peer i before more row s r m room sends step keeps session other) is second = absurd (only_one_ahead n c getter poster own peer i (i + 1) _ Rests before _ e m second)
  where_two n c budget d e (ending own peer i before row s r m room course keeps session finished) is second = absurd (only_one_ahead n c sides.Target sides.Loader own peer i (i + 1) _ Rests before _ e m second)
  where_two n c budget d e (over own peer i before m finished none active) is second = absurd (Rattle.session_completion.proofs.Stands.none_is c.posts before d n m.posts m.count is)

  -- ---- uploads end

  comes_out : (k n : ℕ) (c : World) (budget : ℕ) → budget ≤ k → Where set wanted loads n c budget → ComesOut set k n c
  comes_out zero n c budget le stage = elim (first_or_none c.posts n) [
    | inl (d, is) ↦ (let led = leads_on set wanted loads joins sequence n c budget d stage is in absurd (fewer_than_none led.left budget led.fewer le))
    | inr none ↦ none
  ]
    where
      fewer_than_none : (a b : ℕ) → a < b → b ≤ 0 → ⊥
      fewer_than_none a b lt le = absurd (omega arith)
  comes_out (suc k) n c budget le stage = λ d is.
      let led = leads_on set wanted loads joins sequence n c budget d stage is in
      let few = led.fewer in comes_out k (n + 1) (delivered set c d) led.left (omega arith) led.stage

resets_same : (set : Setting) (c : World) (d : DatagramView) (side : Side) → Resets set c side (Gets d.from d.to d.bytes) → ResetsAt set c d side
resets_same set c d sides.Loader h = h
resets_same set c d sides.Target h = h

module _ (joins : SumsJoin) where
  pub all_have_shape : Rattle.session_completion.specs.Shapes.AllHaveShape
  all_have_shape set loads n c clean = let s = all_stand joins set loads n c clean in where_shape set s.wanted loads joins s.sequence n c s.budget s.stage

  pub next_resets : NextResets
  next_resets set loads n c d clean is =
      let s = all_stand joins set loads n c clean in
      resets_same set c d d.side (leads_on set s.wanted loads joins s.sequence n c s.budget d s.stage is).resets

  pub last_was_posted : LastWasPosted
  last_was_posted set loads n c side clean waiting =
      let s = all_stand joins set loads n c clean in
      let m = where_meets set s.wanted loads joins s.sequence n c s.budget s.stage in
      last_by set s.wanted loads joins s.sequence n c m m.getter m.poster side refl refl m.meets.opposite waiting

  pub last_is_done : LastIsDone
  last_is_done set loads n c clean none = let s = all_stand joins set loads n c clean in where_done set s.wanted loads joins s.sequence n c s.budget s.stage none

  pub few_are_ahead : FewAreAhead
  few_are_ahead set loads n c clean =
      let s = all_stand joins set loads n c clean in
      let m = where_meets set s.wanted loads joins s.sequence n c s.budget s.stage in
      let few : length c.posts ≡ length m.before + length m.ahead = ap length m.meets.posts ∙ length-append m.before m.ahead in
      let count = m.meets.count in
      let at_most = m.few in
      subst (λ (k : ℕ). numbered c.posts k ≡ None) (three n) (none_beyond c.posts (n + 2) (omega arith))
    where
      three : (n : ℕ) → n + 2 + 1 ≡ n + 3
      three n = omega arith

  pub two_are_quiet : TwoAreQuiet
  two_are_quiet set loads n c d e clean is second = let s = all_stand joins set loads n c clean in where_two set s.wanted loads joins s.sequence n c s.budget d e s.stage is second

  pub all_come_out : AllComeOut
  all_come_out set loads n c clean = let s = all_stand joins set loads n c clean in (s.budget, comes_out set s.wanted loads joins s.sequence s.budget n c s.budget (omega arith) s.stage)
