-- What a unit posts is posted to the link datagram by datagram.
use Rattle.std.proofs.Common.{◌≡◌, ℕ, zero, suc, ◌+◌, ◌≤◌, ◌<◌, List, [], ◌∷◌, ◌++◌, length, map, Some, None, refl, sym, ap, ◌∙◌, arith}
use Rattle.std.specs.Prelude.{drop, slice_get, take}
use Rattle.std.proofs.lemmas.List.{append-nil, append_assoc, drop-append-le, length-take-le, map-append, take-append-drop}
use Rattle.std.proofs.lemmas.Option.{slice_get_within}
use Rattle.std.proofs.Math.ListN.{drop_of_length-le}
use Rattle.exchange_trace.specs.Happenings.{DatagramView}
use Rattle.fleet_link.specs.FleetLinks.{FleetLinkState, with_post_at}
use Rattle.fleet_trace.specs.FleetPosts.{unit_post}
use Rattle.target_fleet.specs.Runs.{with_posts_at}

one_taken : (all : List DatagramView) (n : ℕ) (d : DatagramView) → slice_get all n ≡ Some d → take (suc n) all ≡ take n all ++ d ∷ []
one_taken [] n d is = absurd cc
one_taken (x ∷ all) zero d is = let e : x ≡ d = cc in rw e refl
one_taken (x ∷ all) (suc n) d is = ap (λ (list : List DatagramView). x ∷ list) (one_taken all n d is)

module _ (all : List DatagramView) (count : ℕ) where
  -- of those after the first so many, those up to this number
  abbrev pub sent_to : ℕ → List DatagramView
  sent_to n = drop count (take n all)

  pub sent_none : count ≤ length all → sent_to count ≡ []
  sent_none within = drop_of_length-le (take count all) (let taken = length-take-le count all within in omega (arith, taken))

  pub sent_one : (n next : ℕ) (d : DatagramView) → next ≡ n + 1 → count ≤ n → slice_get all n ≡ Some d → sent_to next ≡ sent_to n ++ d ∷ []
  sent_one n next d after from is =
      let taken = length-take-le n all (let within = slice_get_within all n d is in omega (arith, within)) in
      ap (λ (k : ℕ). drop count (take k all)) (let more : next ≡ suc n = omega (arith, after) in more) ∙ ap (drop count) (one_taken all n d is) ∙ drop-append-le count (take n all) (d ∷ []) (omega (arith, taken, from))

  pub sent_part : (n : ℕ) → count ≤ n → n ≤ length all → drop count all ≡ sent_to n ++ drop n all
  sent_part n from within =
      let taken = length-take-le n all within in
      ap (drop count) (sym (take-append-drop n all)) ∙ drop-append-le count (take n all) (drop n all) (omega (arith, taken, from))

module _ (link : FleetLinkState) (unit : ℕ) where
  pub posts_none : link ≡ with_posts_at link unit []
  posts_none = ap (λ (list : List _). record { units = link.units; posted = list; given = link.given; rest = link.rest; lines = link.lines }) (sym (append-nil link.posted))

  pub posts_one : (posts : List DatagramView) (d : DatagramView) → with_post_at (with_posts_at link unit posts) unit d ≡ with_posts_at link unit (posts ++ d ∷ [])
  posts_one posts d =
      ap (λ (list : List _). record { units = link.units; posted = list; given = link.given; rest = link.rest; lines = link.lines })
      (append_assoc link.posted (map (unit_post unit) posts) (unit_post unit d ∷ []) ∙ ap (λ (list : List _). link.posted ++ list) (sym (map-append (unit_post unit) posts (d ∷ []))))

-- each index below the length has a member
pub stands_there : (all : List DatagramView) (n : ℕ) → n < length all → slice_get all n ≡ None → ⊥
stands_there [] n within none = omega (arith, within)
stands_there (x ∷ all) zero within none = cc
stands_there (x ∷ all) (suc n) within none = stands_there all n (omega (arith, within)) none
