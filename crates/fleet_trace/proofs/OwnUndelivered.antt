-- What is undelivered in a fleet is undelivered at its unit, by its own numbers and in the same order.
use Rattle.std.proofs.Common.{◌≡◌, ℕ, zero, suc, ◌+◌, ◌-◌, ◌<◌, ◌≤◌, Bool, true, false, cond, List, [], ◌∷◌, ◌++◌, filter, length, length-append, Option, Some, None, option_map, eqb-true, eq-eqb, ne_eqb, arith, refl, sym, ap, subst, ◌∙◌}
use Rattle.std.specs.Prelude.{◌==◌, slice_get, if◌then◌else◌}
use Rattle.std.specs.List.{Contains, range_with_len}
use Rattle.exchange_trace.specs.Following.{delivery, delivery_of_first, least_delivery}
use Rattle.exchange_trace.specs.Happenings.{DatagramView, Delivered, HappeningView, other}
use Rattle.exchange_trace.specs.Posts.{IsUndelivered, is_undelivered, numbered, undelivered}
use Rattle.exchange_trace.proofs.PostLemmas.{undelivered_has}
use Rattle.fleet_trace.specs.FleetTraces.{At_unit, FleetHappeningView}
use Rattle.fleet_trace.specs.FleetPosts.{PostPlace, UnitPost, happenings_of_unit, is_place_undelivered, numbers_of_unit, post_places, post_places_after, posts_of_unit, undelivered_places}
use Rattle.fleet_trace.specs.FleetFollowing.{FleetScene, first_place, given_at_place, least_fleet_delivery, unit_scene}
use Rattle.fleet_trace.proofs.UnitParts.{posts_join}

-- ---- a unit numbers its posts one after another

one_more : (unit : ℕ) (before : List UnitPost) (p : UnitPost) (b : Bool) → (p.unit == unit) ≡ b
    → length (posts_of_unit unit (before ++ p ∷ [])) ≡ length (posts_of_unit unit before) + cond b 1 0
one_more unit before p b e =
    ap (λ (ds : List DatagramView). length ds) (posts_join unit before (p ∷ []))
    ∙ (length-append (posts_of_unit unit before) (posts_of_unit unit (p ∷ []))
    ∙ ap (λ (n : ℕ). length (posts_of_unit unit before) + n) (ap (λ (c : Bool). length (cond c (p.datagram ∷ []) [])) e ∙ by b))
  where
    by : (c : Bool) → length (cond c (p.datagram ∷ []) []) ≡ cond c 1 0
    by true = refl
    by false = refl

pub own_numbers : (unit : ℕ) (before later : List UnitPost)
    → numbers_of_unit unit (post_places_after before later) ≡ range_with_len (1 + length (posts_of_unit unit before)) (length (posts_of_unit unit later))
own_numbers unit before [] = refl
own_numbers unit before (p ∷ later) = by (p.unit == unit) refl (own_numbers unit (before ++ p ∷ []) later)
  where
    by : (b : Bool) → (p.unit == unit) ≡ b
        → numbers_of_unit unit (post_places_after (before ++ p ∷ []) later) ≡ range_with_len (1 + length (posts_of_unit unit (before ++ p ∷ []))) (length (posts_of_unit unit later))
        → cond b ((1 + length (posts_of_unit p.unit before)) ∷ numbers_of_unit unit (post_places_after (before ++ p ∷ []) later)) (numbers_of_unit unit (post_places_after (before ++ p ∷ []) later))
        ≡ range_with_len (1 + length (posts_of_unit unit before)) (length (cond b (p.datagram ∷ posts_of_unit unit later) (posts_of_unit unit later)))
    by true same e =
        let grown = one_more unit before p true same in
        let from : 1 + length (posts_of_unit unit (before ++ p ∷ [])) ≡ 1 + length (posts_of_unit unit before) + 1 = omega arith in
        ap (λ (n : ℕ). (1 + length (posts_of_unit n before)) ∷ numbers_of_unit unit (post_places_after (before ++ p ∷ []) later)) (eqb-true p.unit unit same)
        ∙ ap (λ (ns : List ℕ). (1 + length (posts_of_unit unit before)) ∷ ns) (e ∙ ap (λ (n : ℕ). range_with_len n (length (posts_of_unit unit later))) from)
    by false other e =
        let grown = one_more unit before p false other in
        let from : 1 + length (posts_of_unit unit (before ++ p ∷ [])) ≡ 1 + length (posts_of_unit unit before) = omega arith in
        e ∙ ap (λ (n : ℕ). range_with_len n (length (posts_of_unit unit later))) from

-- ---- the undelivered ones

own_filtered : (unit : ℕ) (happenings : List FleetHappeningView) (ps : List PostPlace)
    → numbers_of_unit unit (filter (is_place_undelivered happenings) ps) ≡ filter (is_undelivered (happenings_of_unit unit happenings)) (numbers_of_unit unit ps)
own_filtered unit happenings [] = refl
own_filtered unit happenings (p ∷ ps) =
    by (p.unit == unit) (is_place_undelivered happenings p) refl refl (own_filtered unit happenings ps)
  where
    by : (b c : Bool) → (p.unit == unit) ≡ b → is_place_undelivered happenings p ≡ c
        → numbers_of_unit unit (filter (is_place_undelivered happenings) ps) ≡ filter (is_undelivered (happenings_of_unit unit happenings)) (numbers_of_unit unit ps)
        → numbers_of_unit unit (cond c (p ∷ filter (is_place_undelivered happenings) ps) (filter (is_place_undelivered happenings) ps))
        ≡ filter (is_undelivered (happenings_of_unit unit happenings)) (cond b (p.number ∷ numbers_of_unit unit ps) (numbers_of_unit unit ps))
    by true c same is e = at_unit c (subst (λ (n : ℕ). is_undelivered (happenings_of_unit n happenings) p.number ≡ c) (eqb-true p.unit unit same) is)
      where
        at_unit : (c : Bool) → is_undelivered (happenings_of_unit unit happenings) p.number ≡ c
            → numbers_of_unit unit (cond c (p ∷ filter (is_place_undelivered happenings) ps) (filter (is_place_undelivered happenings) ps))
            ≡ filter (is_undelivered (happenings_of_unit unit happenings)) (p.number ∷ numbers_of_unit unit ps)
        at_unit true is = rw (same, is) (ap (λ (ns : List ℕ). p.number ∷ ns) e)
        at_unit false is = rw is e
    by false true other is e = rw other e
    by false false other is e = e

pub own_undelivered : (s : FleetScene) (unit : ℕ)
    → numbers_of_unit unit (undelivered_places s.posted s.happenings) ≡ undelivered (length (posts_of_unit unit s.posted)) (happenings_of_unit unit s.happenings)
own_undelivered s unit =
    own_filtered unit s.happenings (post_places s.posted)
    ∙ ap (filter (is_undelivered (happenings_of_unit unit s.happenings))) (own_numbers unit [] s.posted)

pub none_is_own : (s : FleetScene) (unit : ℕ) → undelivered_places s.posted s.happenings ≡ []
    → undelivered (length (posts_of_unit unit s.posted)) (happenings_of_unit unit s.happenings) ≡ []
none_is_own s unit none = sym (own_undelivered s unit) ∙ ap (λ (ps : List PostPlace). numbers_of_unit unit ps) none

-- ---- the least one

pub least_is_own : (s : FleetScene) (p : PostPlace) (later : List PostPlace) → undelivered_places s.posted s.happenings ≡ p ∷ later
    → undelivered (length (posts_of_unit p.unit s.posted)) (happenings_of_unit p.unit s.happenings) ≡ p.number ∷ numbers_of_unit p.unit later
least_is_own s p later e =
    sym (own_undelivered s p.unit)
    ∙ (ap (λ (ps : List PostPlace). numbers_of_unit p.unit ps) e
    ∙ ap (λ (b : Bool). cond b (p.number ∷ numbers_of_unit p.unit later) (numbers_of_unit p.unit later)) (eq-eqb p.unit p.unit refl))

pub there_within : {A : Type 0} (xs : List A) (k : ℕ) → k < length xs → (x : A) × (slice_get xs k ≡ Some x)
there_within [] k lt = absurd (let no : ⊥ = omega arith in no)
there_within (x ∷ xs) zero lt = (x, refl)
there_within (x ∷ xs) (suc k) lt = there_within xs k (omega arith)

posted_within : (posted : List DatagramView) (n : ℕ) → 1 ≤ n → n ≤ length posted → (d : DatagramView) × (numbered posted n ≡ Some d)
posted_within posted n low high =
    let (d, is) = there_within posted (n - 1) (omega arith) in
    (d, ap (λ (b : Bool). if b then None else slice_get posted (n - 1)) (ne_eqb n 0 (λ e. omega arith)) ∙ is)

head_there : (s : FleetScene) (unit n : ℕ) (later : List ℕ) → undelivered (length (posts_of_unit unit s.posted)) (happenings_of_unit unit s.happenings) ≡ n ∷ later
    → (d : DatagramView) × (numbered (posts_of_unit unit s.posted) n ≡ Some d)
head_there s unit n later e =
    let is : IsUndelivered (length (posts_of_unit unit s.posted)) (happenings_of_unit unit s.happenings) n =
    (undelivered_has (length (posts_of_unit unit s.posted)) (happenings_of_unit unit s.happenings) n).0
    (subst (λ (ns : List ℕ). Contains ns n) (sym e) (0, omega arith, refl)) in
    posted_within (posts_of_unit unit s.posted) n is.posted.0 is.posted.1

-- the fleet's least is delivered at its unit, where it is the least as well
pub least_is_there : (s : FleetScene) (p : PostPlace) (later : List PostPlace) → undelivered_places s.posted s.happenings ≡ p ∷ later
    → (h : HappeningView) × (least_fleet_delivery s ≡ Some (At_unit p.unit h)) × (least_delivery (unit_scene s p.unit) ≡ Some h)
least_is_there s p later e =
    let own = least_is_own s p later e in
    let (d, posted) = head_there s p.unit p.number (numbers_of_unit p.unit later) own in
    let given : delivery (unit_scene s p.unit) p.number ≡ Some (Delivered (other d.side) p.number) =
    ap (λ (o : Option DatagramView). option_map (λ (x : DatagramView). Delivered (other x.side) p.number) o) posted in (
      Delivered (other d.side) p.number,
      ap (λ (ps : List PostPlace). given_at_place s delivery (first_place ps)) e ∙ ap (λ (o : Option HappeningView). option_map (At_unit p.unit) o) given,
      ap (λ (ns : List ℕ). delivery_of_first (unit_scene s p.unit) ns) own ∙ given,
    )
