-- The datagrams that were posted, and which of them are undelivered (docs/EXCHANGE.md, "Trace").
use Rattle.std.specs.Prelude.{◌≡◌, ℕ, ◌+◌, ◌-◌, ◌<◌, ◌≤◌, max, List, [], ◌∷◌, ◌++◌, length, map, filter, Bool, true, false, not, ◌==◌, ◌&&◌, Option, Some, None, slice_get, if◌then◌else◌, ⊤}
use Rattle.std.specs.List.{AllByRecursion, list_any, range_with_len}
use Rattle.exchange_trace.specs.Happenings.{DatagramView, HappeningView, Delivered, Lost, other, is_loader}
use Rattle.exchange_trace.specs.Steps.{Step}

-- all that was posted, the oldest first
abbrev pub posted_in : List Step → List DatagramView
posted_in [] = []
posted_in (s ∷ earlier) = posted_in earlier ++ s.posts

-- all that happened, the newest first
abbrev pub happenings_of : List Step → List HappeningView
happenings_of steps = map (λ s. s.given) steps

-- the datagram of this number; the first that was posted has number 1
abbrev pub numbered : List DatagramView → ℕ → Option DatagramView
numbered posted n = if n == 0 then None else slice_get posted (n - 1)

-- the happening delivers the datagram of this number
abbrev pub delivers : ℕ → HappeningView → Bool
delivers n (Delivered side m) = m == n
delivers n h = false

-- the happening loses the datagram of this number
abbrev pub loses : ℕ → HappeningView → Bool
loses n (Lost m) = m == n
loses n h = false

abbrev pub was_delivered : ℕ → List HappeningView → Bool
was_delivered n happenings = list_any (delivers n) happenings

abbrev pub was_lost : ℕ → List HappeningView → Bool
was_lost n happenings = list_any (loses n) happenings

-- a datagram is undelivered until it was delivered once, or lost
abbrev pub is_undelivered : List HappeningView → ℕ → Bool
is_undelivered happenings n = not (was_delivered n happenings) && not (was_lost n happenings)

-- the numbers of the undelivered datagrams, in ascending order, where `count` datagrams were posted
abbrev pub undelivered : (count : ℕ) → List HappeningView → List ℕ
undelivered count happenings = filter (is_undelivered happenings) (range_with_len 1 count)

-- the number is that of a datagram that was posted, and neither delivered nor lost
pub record IsUndelivered (count : ℕ) (happenings : List HappeningView) (n : ℕ) : Type 0 where
  pub posted : (1 ≤ n) × (n ≤ count)
  pub not_delivered : was_delivered n happenings ≡ false
  pub not_lost : was_lost n happenings ≡ false

-- no happening names a datagram that wasn't posted when `count` were
abbrev pub NamesOnlyPosted : (count : ℕ) → List HappeningView → Type 0
NamesOnlyPosted count happenings = (n : ℕ) → count < n → is_undelivered happenings n ≡ true

-- the same after the steps of a trace
abbrev pub undelivered_after : List Step → List ℕ
undelivered_after steps = undelivered (length (posted_in steps)) (happenings_of steps)

-- What is delivered to a side was posted to it. Each link has to be honest in this.
abbrev pub IsHonest : List DatagramView → HappeningView → Type 0
IsHonest posted (Delivered side n) = (d : DatagramView) × (numbered posted n ≡ Some d) × (side ≡ other d.side)
IsHonest posted h = ⊤

-- each happening of a trace was honest when it came
abbrev pub AllHonest : List Step → Type 0
AllHonest [] = ⊤
AllHonest (s ∷ earlier) = IsHonest (posted_in earlier) s.given × AllHonest earlier

-- the target posted the datagram from a port of its own: port 59 is that of requests
abbrev pub is_from_own_port : DatagramView → Bool
is_from_own_port d = is_loader (other d.side) && not (d.from == 59)

-- the least port, from this one on, that is above each of its own ports from which the target posted
abbrev pub port_above : ℕ → List DatagramView → ℕ
port_above least [] = least
port_above least (d ∷ posts) = port_above (if is_from_own_port d then max least (d.from + 1) else least) posts

-- the first port of a target that boots after these steps
abbrev pub first_port_after : List Step → ℕ
first_port_after steps = port_above 1024 (posted_in steps)

-- each of its own ports from which the target posted is below this one
abbrev pub IsAboveOwnPorts : List DatagramView → ℕ → Type 0
IsAboveOwnPorts posts port = AllByRecursion (λ d. is_from_own_port d ≡ true → d.from < port) posts
