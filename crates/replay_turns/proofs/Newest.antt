-- The newest datagrams, by their numbers.
use Rattle.std.proofs.Common.{◌≡◌, ℕ, zero, suc, ◌+◌, ◌-◌, ◌<◌, ◌≤◌, List, [], ◌∷◌, ◌++◌, length, Option, Some, None, refl, sym, ap, ◌∙◌, arith}
use Rattle.std.specs.Prelude.{drop, option_map, slice_get}
use Rattle.std.proofs.lemmas.Option.{slice_get_past}
use Rattle.exchange_trace.specs.declared.trace.Datagram.{Datagram}
use Rattle.exchange_trace.specs.Happenings.{DatagramView, datagram_view}
use Rattle.exchange_trace.specs.Posts.{numbered}
use Rattle.transfer_end.specs.Calls.{posted}
use Rattle.replay_turns.proofs.Recorded.{numbered_from_1}

abbrev listed : Option DatagramView → List DatagramView
listed None = []
listed (Some d) = d ∷ []

posted_as : (o : Option Datagram) (seen : Option DatagramView) → option_map datagram_view o ≡ seen → posted o ≡ listed seen
posted_as None seen is = ap listed is
posted_as (Some d) seen is = ap listed is

two_from : (all : List DatagramView) (count : ℕ) → length all ≤ count + 2 → listed (slice_get all count) ++ listed (slice_get all (suc count)) ≡ drop count all
two_from [] zero few = refl
two_from [] (suc count) few = refl
two_from (d ∷ []) zero few = refl
two_from (d ∷ e ∷ []) zero few = refl
two_from (d ∷ e ∷ f ∷ all) zero few = absurd (omega (arith, few))
two_from (d ∷ all) (suc count) few = two_from all count (omega (arith, few))

pub numbered_next : (all : List DatagramView) (count number : ℕ) → number ≡ count + 1 → numbered all number ≡ slice_get all count
numbered_next all count number is =
    numbered_from_1 all number (omega (arith, is)) ∙ ap (slice_get all) (let at : number - 1 ≡ count = omega (arith, is) in at)

-- none has a greater number than the newest
pub none_past : (all : List DatagramView) (number : ℕ) → length all < number → None ≡ numbered all number
none_past all number past = sym (numbered_from_1 all number (omega (arith, past)) ∙ slice_get_past all (number - 1) (omega (arith, past)))

-- two datagrams at most that were posted after the first so many
pub newest_two : (all : List DatagramView) (count : ℕ) (first second : Option Datagram) → length all ≤ count + 2
    → option_map datagram_view first ≡ numbered all (count + 1) → option_map datagram_view second ≡ numbered all (count + 2) → posted first ++ posted second ≡ drop count all
newest_two all count first second few one other =
    let a : posted first ≡ listed (slice_get all count) = posted_as first _ (one ∙ numbered_next all count (count + 1) refl) in
    let b : posted second ≡ listed (slice_get all (suc count)) = posted_as second _ (other ∙ numbered_next all (suc count) (count + 2) (omega arith)) in
    rw (a, b) (two_from all count few)
