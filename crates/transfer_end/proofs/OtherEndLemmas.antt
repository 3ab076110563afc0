-- Proofs that what comes in a transfer is what its other end sent.
use Rattle.std.proofs.Common.{◌≡◌, ◌⊎◌, inl, inr, ⊎_elim, ℕ, ◌+◌, ◌<◌, Bool, true, false, cond, List, [], ◌∷◌, ◌++◌, length, Option, Some, None, refl, sym, ap, subst, ◌∙◌, arith}
use Rattle.std.specs.List.{AllByRecursion}
use Rattle.tftp_packet.specs.Packets.{PacketView}
use Rattle.tftp_link.specs.Answers.{Again, Answer, Completes, Dropped, Fails, Grants, Proceeds, TakesBlock, TakesLast}
use Rattle.tftp_link.specs.Negotiation.{granted_to_reader, is_empty}
use Rattle.exchange_trace.specs.declared.trace.Side.{Side}
use Rattle.exchange_trace.specs.Happenings.{DatagramView}
use Rattle.exchange_trace.specs.Logs.{Event, Gets, Learns, Starts_info, Starts_upload, Ticks}
use Rattle.transfer_end.specs.Came.{HeardIn}
use Rattle.transfer_end.proofs.CameLemmas.{all_mapped}
use Rattle.transfer_end.specs.Laws.{CountUp}
use Rattle.transfer_end.specs.Moves.{Asks, Asks_size, Hears, Move, Recalls, Refuses, Repeats, Serves, Stops, past_with, reading_after, reading_answered, reading_heard, reading_unchanged, readings_after}
use Rattle.transfer_end.specs.OtherEnds.{Among, EventWasPosted, HaveRoles, IsFair, IsPostOf, IsPostOfSide, MoveFits, MoveHasRole, OwnPortsRise, PortsFit, all_of, of_refusal, of_transfer}
use Rattle.transfer_end.specs.Readings.{Reading, kept_in}
use Rattle.transfer_end.proofs.RfcLemmas.{moves_count_up}
use Rattle.transfer_end.specs.Transfers.{Reads, Role, ServesRead, ServesWrite, Transfer, Writes, begin_of, end_answer, end_in, end_of, end_packet, first_packet, is_received}
use Rattle.transfer_end.specs.Views.{TransferView}

-- ---- members of lists

pub among_left : {A : Type 0} (x : A) (xs ys : List A) → Among x xs → Among x (xs ++ ys)
among_left x [] ys h = absurd h
among_left x (y ∷ xs) ys (inl e) = inl e
among_left x (y ∷ xs) ys (inr h) = inr (among_left x xs ys h)

pub among_right : {A : Type 0} (x : A) (xs ys : List A) → Among x ys → Among x (xs ++ ys)
among_right x [] ys h = h
among_right x (y ∷ xs) ys h = inr (among_right x xs ys h)

pub among_either : {A : Type 0} (x : A) (xs ys : List A) → Among x (xs ++ ys) → Among x xs ⊎ Among x ys
among_either x [] ys h = inr h
among_either x (y ∷ xs) ys (inl e) = inl (inl e)
among_either x (y ∷ xs) ys (inr h) = ⊎_elim (λ a. inl (inr a)) (λ b. inr b) (among_either x xs ys h)

pub all_at : {A : Type 0} (P : A → Type 0) (xs : List A) (x : A) → AllByRecursion P xs → Among x xs → P x
all_at P [] x all h = absurd h
all_at P (y ∷ xs) x (one, all) (inl e) = subst P e one
all_at P (y ∷ xs) x (one, all) (inr h) = all_at P xs x all h

-- ---- ports

-- a port is that of one transfer
pub own_is_one : (ts : List Transfer) (t u : Transfer) → OwnPortsRise ts → Among t ts → Among u ts → t.own ≡ u.own → t ≡ u
own_is_one [] t u rise a b e = absurd a
own_is_one (x ∷ ts) t u (above, below, rise) (inl a) (inl b) e = sym a ∙ b
own_is_one (x ∷ ts) t u (above, below, rise) (inl a) (inr b) e =
    let less : u.own < x.own = all_at (λ (y : Transfer). y.own < x.own) ts u below b in
    let same : x.own ≡ t.own = ap (λ (y : Transfer). y.own) a in
    absurd (omega (arith, less, same, e))
own_is_one (x ∷ ts) t u (above, below, rise) (inr a) (inl b) e =
    let less : t.own < x.own = all_at (λ (y : Transfer). y.own < x.own) ts t below a in
    let same : x.own ≡ u.own = ap (λ (y : Transfer). y.own) b in
    absurd (omega (arith, less, same, e))
own_is_one (x ∷ ts) t u (above, below, rise) (inr a) (inr b) e = own_is_one ts t u rise a b e

pub own_not_59 : (ts : List Transfer) (t : Transfer) → OwnPortsRise ts → Among t ts → t.own ≡ 59 → ⊥
own_not_59 [] t rise a e = absurd a
own_not_59 (x ∷ ts) t (above, below, rise) (inl a) e = let same : x.own ≡ t.own = ap (λ (y : Transfer). y.own) a in omega (arith, above, same, e)
own_not_59 (x ∷ ts) t (above, below, rise) (inr a) e = own_not_59 ts t rise a e

-- ---- what a side posts

-- its first packet is what its end sends before any packet came
pub first_is_sent : (role : Role) → first_packet role ≡ end_packet (end_of role [])
unfolding end_of
first_is_sent (Reads name o) = refl
first_is_sent (Writes name o file) = refl
first_is_sent (ServesRead name o file) = by (is_empty (granted_to_reader (length file) o)) refl
  where
    by : (b : Bool) → is_empty (granted_to_reader (length file) o) ≡ b → first_packet (ServesRead name o file) ≡ end_packet (begin_of (ServesRead name o file))
    by true e = rw e refl
    by false e = rw e refl
first_is_sent (ServesWrite name o) = refl

-- a datagram from the own port of a transfer is that transfer's
pub posted_by : (me them : Side) (mine theirs : List Transfer) (posted : List DatagramView) (t : Transfer) (d : DatagramView) → IsFair me them mine theirs posted → Among t mine → Among d posted → d.side ≡ me → d.from ≡ t.own → IsPostOf t d
posted_by me them mine theirs posted t d fair a b is from = by (fair.posts d b is)
  where
    by : IsPostOfSide mine d → IsPostOf t d
    by (of_transfer v c post) = subst (λ (x : Transfer). IsPostOf x d) (own_is_one mine v t fair.ports c a (sym post.port ∙ from)) post
    by (of_refusal port bytes) = absurd (own_not_59 mine t fair.ports a (sym from ∙ port))

-- the kept transfer is one that is over, and was received whole
pub kept_among : (past : List Transfer) (x : Transfer) → kept_in past ≡ Some x → Among x past × (is_received (end_in x) ≡ true)
kept_among [] x e = absurd cc
kept_among (y ∷ past) x e = by (is_received (end_in y)) refl (λ f. kept_among past x f) e
  where
    by : (b : Bool) → is_received (end_in y) ≡ b → (kept_in past ≡ Some x → Among x past × (is_received (end_in x) ≡ true)) → cond b (Some y) (kept_in past) ≡ Some x → Among x (y ∷ past) × (is_received (end_in x) ≡ true)
    by true is before f = let same : y ≡ x = cc in (inl same, subst (λ (z : Transfer). is_received (end_in z) ≡ true) same is)
    by false is before f = let found = before f in (inr found.0, found.1)

-- ---- ports

count_below : (first_port : ℕ) (ts : List Transfer) → CountUp first_port ts → AllByRecursion (λ (u : Transfer). u.own < first_port + length ts) ts
count_below first_port [] counts = tt
count_below first_port (t ∷ ts) (own, counts) = (
  omega (arith, own),
  all_mapped (λ (u : Transfer). u.own < first_port + length ts) (λ (u : Transfer). u.own < first_port + length (t ∷ ts)) (λ u less. omega (arith, less)) ts (count_below first_port ts counts),
)

all_append : {A : Type 0} (P : A → Type 0) (xs ys : List A) → AllByRecursion P xs → AllByRecursion P ys → AllByRecursion P (xs ++ ys)
all_append P [] ys all rest = rest
all_append P (x ∷ xs) ys (one, all) rest = (one, all_append P xs ys all rest)

pub count_rise : (first_port : ℕ) (ts former : List Transfer) → 59 < first_port → CountUp first_port ts → AllByRecursion (λ (u : Transfer). u.own < first_port) former → OwnPortsRise former → OwnPortsRise (ts ++ former)
count_rise first_port [] former above counts below rise = rise
count_rise first_port (t ∷ ts) former above (own, counts) below rise = (
  omega (arith, above, own),
  all_append (λ (u : Transfer). u.own < t.own) ts former
      (all_mapped (λ (u : Transfer). u.own < first_port + length ts) (λ (u : Transfer). u.own < t.own) (λ u less. omega (arith, less, own)) ts (count_below first_port ts counts))
      (all_mapped (λ (u : Transfer). u.own < first_port) (λ (u : Transfer). u.own < t.own) (λ u less. omega (arith, less, own)) former below),
  count_rise first_port ts former above counts below rise,
)

pub ports_fit_rise : (r : Reading) (former : List Transfer) → PortsFit r former → OwnPortsRise (all_of r former)
ports_fit_rise r former fit = count_rise r.first_port (past_with r.live r.past) former fit.first fit.counts fit.below fit.rise

unchanged_first : (r : Reading) (t : Transfer) (from : ℕ) (p : PacketView) (peer : Option ℕ) → (reading_unchanged r t from p peer).first_port ≡ r.first_port
unchanged_first r t from p None = refl
unchanged_first r t from p (Some port) = refl

answered_first : (side : Side) (r : Reading) (t : Transfer) (from : ℕ) (p : PacketView) (answer : Answer) → (reading_answered side r t from p answer).first_port ≡ r.first_port
answered_first side r t from p Dropped = unchanged_first r t from p t.peer
answered_first side r t from p Again = unchanged_first r t from p t.peer
answered_first side r t from p (Grants o) = refl
answered_first side r t from p (TakesBlock b) = refl
answered_first side r t from p (TakesLast b) = refl
answered_first side r t from p Proceeds = refl
answered_first side r t from p Completes = refl
answered_first side r t from p (Fails code) = refl

heard_first : (side : Side) (r : Reading) (live : Option Transfer) (from : ℕ) (p : PacketView) → (reading_heard side r live from p).first_port ≡ r.first_port
heard_first side r None from p = refl
heard_first side r (Some t) from p = answered_first side r t from p (end_answer (end_of t.role t.got) p)

pub first_stays : (side : Side) (r : Reading) (move : Move) → (reading_after side r move).first_port ≡ r.first_port
first_stays side r (Hears from p) = heard_first side r r.live from p
first_stays side r (Recalls from p) = refl
first_stays side r (Asks role) = refl
first_stays side r (Serves from role) = refl
first_stays side r (Refuses from) = refl
first_stays side r Repeats = refl
first_stays side r Stops = refl
first_stays side r (Asks_size n) = refl

pub ports_stay_one : (side : Side) (r : Reading) (former : List Transfer) (move : Move) → PortsFit r former → PortsFit (reading_after side r move) former
ports_stay_one side r former move fit = record {
  counts = moves_count_up side r (move ∷ []) fit.counts;
  first = subst (λ (port : ℕ). 59 < port) (sym (first_stays side r move)) fit.first;
  below = subst (λ (port : ℕ). AllByRecursion (λ (u : Transfer). u.own < port) former) (sym (first_stays side r move)) fit.below;
  rise = fit.rise;
}

pub ports_stay : (side : Side) (r : Reading) (former : List Transfer) (moves : List Move) → PortsFit r former → PortsFit (readings_after side r moves) former
ports_stay side r former [] fit = fit
ports_stay side r former (move ∷ moves) fit = ports_stay side (reading_after side r move) former moves (ports_stay_one side r former move fit)

pub was_posted_still : (posted more : List DatagramView) (side : Side) (e : Event) → EventWasPosted posted side e → EventWasPosted (posted ++ more) side e
was_posted_still posted more side (Gets from to bytes) (among, fit) = (among_left _ posted more among, fit)
was_posted_still posted more side Ticks h = tt
was_posted_still posted more side (Learns n) h = tt
was_posted_still posted more side (Starts_info hw pos) h = tt
was_posted_still posted more side (Starts_upload hw pos parts) h = tt

heard_of_none : (A : Type 0) (e : Event) (from : ℕ) (p : PacketView) → HeardIn e None from p → A
heard_of_none A (Gets source to bytes) from p (at, is, mine) = absurd cc
heard_of_none A Ticks from p h = absurd h
heard_of_none A (Learns n) from p h = absurd h
heard_of_none A (Starts_info hw pos) from p h = absurd h
heard_of_none A (Starts_upload hw pos parts) from p h = absurd h

pub fits_any : (e : Event) (live kept : Option TransferView) (move : Move) → MoveFits e None None move → MoveFits e live kept move
fits_any e live kept (Hears from p) h = heard_of_none _ e from p h
fits_any e live kept (Recalls from p) h = heard_of_none _ e from p h
fits_any e live kept (Asks role) h = h
fits_any e live kept (Serves from role) h = h
fits_any e live kept (Refuses from) h = tt
fits_any e live kept Repeats h = h
fits_any e live kept Stops h = tt
fits_any e live kept (Asks_size n) h = tt

-- ---- roles

-- what holds of the roles in which a side asks and serves, holds of those of all its transfers
module _ (Has : Role → Type 0) where
  unchanged_roles : (r : Reading) (t : Transfer) (from : ℕ) (p : PacketView) (peer : Option ℕ) → HaveRoles Has r → Has t.role → AllByRecursion (λ (u : Transfer). Has u.role) r.past → HaveRoles Has (reading_unchanged r t from p peer)
  unchanged_roles r t from p None h one past = h
  unchanged_roles r t from p (Some port) h one past = (one, past)

  answered_roles : (side : Side) (r : Reading) (t : Transfer) (from : ℕ) (p : PacketView) (answer : Answer) → HaveRoles Has r → Has t.role → AllByRecursion (λ (u : Transfer). Has u.role) r.past → HaveRoles Has (reading_answered side r t from p answer)
  answered_roles side r t from p Dropped h one past = unchanged_roles r t from p t.peer h one past
  answered_roles side r t from p Again h one past = unchanged_roles r t from p t.peer h one past
  answered_roles side r t from p (Grants o) h one past = (one, past)
  answered_roles side r t from p (TakesBlock b) h one past = (one, past)
  answered_roles side r t from p (TakesLast b) h one past = (one, past)
  answered_roles side r t from p Proceeds h one past = (one, past)
  answered_roles side r t from p Completes h one past = (one, past)
  answered_roles side r t from p (Fails code) h one past = (one, past)

  heard_roles : (side : Side) (first_port : ℕ) (past : List Transfer) (live : Option Transfer) (ticks : ℕ) (last : Option DatagramView) (size : Option ℕ) (from : ℕ) (p : PacketView) → AllByRecursion (λ (u : Transfer). Has u.role) (past_with live past)
      → HaveRoles Has (reading_after side (record { first_port = first_port; past = past; live = live; ticks = ticks; last = last; asks_size = size }) (Hears from p))
  heard_roles side first_port past None ticks last size from p h = h
  heard_roles side first_port past (Some t) ticks last size from p (one, h) =
      answered_roles side (record { first_port = first_port; past = past; live = Some t; ticks = ticks; last = last; asks_size = size }) t from p (end_answer (end_of t.role t.got) p) (one, h) one h

  move_roles : (side : Side) (r : Reading) (move : Move) → MoveHasRole Has move → HaveRoles Has r → HaveRoles Has (reading_after side r move)
  move_roles side r (Hears from p) has h = heard_roles side r.first_port r.past r.live r.ticks r.last r.asks_size from p h
  move_roles side r (Recalls from p) has h = h
  move_roles side r (Asks role) has h = (has, h)
  move_roles side r (Serves from role) has h = (has, h)
  move_roles side r (Refuses from) has h = h
  move_roles side r Repeats has h = h
  move_roles side r Stops has h = h
  move_roles side r (Asks_size n) has h = h

  pub moves_roles : (side : Side) (r : Reading) (moves : List Move) → AllByRecursion (MoveHasRole Has) moves → HaveRoles Has r → HaveRoles Has (readings_after side r moves)
  moves_roles side r [] has h = h
  moves_roles side r (move ∷ moves) (one, has) h = moves_roles side (reading_after side r move) moves has (move_roles side r move one h)
