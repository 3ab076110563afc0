-- The side that is kept of each datagram.
use Rattle.std.proofs.Common.{◌≡◌, ℕ, ◌-◌, ◌≤◌, ◌==◌, Bool, true, false, arith, if◌then◌else◌, List, [], ◌∷◌, ◌++◌, Option, Some, None, refl, sym, ap, ◌∙◌, length}
use Rattle.std.specs.Prelude.{map, option_map, slice_get}
use Rattle.std.proofs.lemmas.Bool.{eqb-true}
use Rattle.std.proofs.lemmas.List.{map-append, length-map}
use Rattle.std.proofs.lemmas.Option.{slice_get-map}
use Rattle.exchange_trace.specs.Happenings.{DatagramView, datagram_view}
use Rattle.exchange_trace.specs.Posts.{numbered}
use Rattle.exchange_trace.specs.declared.trace.Datagram.{Datagram}
use Rattle.exchange_trace.specs.declared.trace.Side.{Side}
use Rattle.link_net.specs.Mail.{logged}

side_in : Datagram × Unit {0} → Side
side_in entry = entry.0.from_side

view_side : DatagramView → Side
view_side d = d.side

composed : (found : Option (Datagram × Unit {0})) → option_map side_in found ≡ option_map view_side (option_map (λ entry. datagram_view entry.0) found)
unfolding side_in view_side
composed None = refl
composed (Some entry) = refl

-- the side of the datagram at an index
pub side_at : (log : List (Datagram × Unit {0})) (sides : List Side) (index : ℕ) → sides ≡ map (λ entry. entry.0.from_side) log
    → slice_get sides index ≡ option_map (λ d. d.side) (slice_get (logged log) index)
unfolding side_in view_side
side_at log sides index is =
    ap (λ (list : List Side). slice_get list index) is ∙ (slice_get-map side_in log index ∙ (composed (slice_get log index) ∙ sym (ap (option_map view_side) (slice_get-map (λ entry. datagram_view entry.0) log index))))

-- the side of the datagram of a number
pub numbered_side : (log : List (Datagram × Unit {0})) (sides : List Side) (number : ℕ) → sides ≡ map (λ entry. entry.0.from_side) log → 1 ≤ number
    → slice_get sides (number - 1) ≡ option_map (λ d. d.side) (numbered (logged log) number)
numbered_side log sides number is within = by (number == 0) refl
  where
    by : (none : Bool) → (number == 0) ≡ none → slice_get sides (number - 1) ≡ option_map (λ d. d.side) (if none then None else slice_get (logged log) (number - 1))
    by true e = absurd (omega (arith, eqb-true number 0 e, within))
    by false e = side_at log sides (number - 1) is

-- there are as many sides as datagrams
pub counts : (log : List (Datagram × Unit {0})) (sides : List Side) → sides ≡ map (λ entry. entry.0.from_side) log → length sides ≡ length (logged log)
counts log sides is = ap length is ∙ (length-map log (λ entry. entry.0.from_side) ∙ sym (length-map log (λ entry. datagram_view entry.0)))

-- one more
pub one_more : (log : List (Datagram × Unit {0})) (sides : List Side) (datagram : Datagram) → sides ≡ map (λ entry. entry.0.from_side) log
    → sides ++ datagram.from_side ∷ [] ≡ map (λ entry. entry.0.from_side) (log ++ (datagram, tt) ∷ [])
one_more log sides datagram is = ap (λ (list : List Side). list ++ datagram.from_side ∷ []) is ∙ sym (map-append (λ entry. entry.0.from_side) log ((datagram, tt) ∷ []))
