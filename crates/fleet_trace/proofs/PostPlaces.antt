-- The place of a fleet's datagram is that of the same datagram among its unit's own posts.
use Rattle.std.proofs.Common.{◌≡◌, ℕ, zero, suc, ◌+◌, ◌-◌, ◌<◌, ◌≤◌, Bool, cond, List, [], ◌∷◌, ◌++◌, append_assoc, length, Option, Some, None, eq-eqb, ne_eqb, unwrap_or, arith, refl, sym, ap, subst, ◌∙◌}
use Rattle.std.specs.Prelude.{slice_get, if◌then◌else◌}
use Rattle.std.proofs.lemmas.Option.{slice_get_past}
use Rattle.exchange_trace.specs.Happenings.{DatagramView}
use Rattle.exchange_trace.specs.Posts.{numbered}
use Rattle.fleet_trace.specs.FleetPosts.{PostPlace, UnitPost, located, post_places, post_places_after, posts_of_unit}
use Rattle.fleet_trace.proofs.UnitParts.{posts_join}
use Rattle.fleet_trace.proofs.OwnUndelivered.{there_within}

-- this post of the fleet is that of the place, at its unit
abbrev pub IsPostAt : List UnitPost → PostPlace → UnitPost → Type 0
IsPostAt posts p x = (x.unit ≡ p.unit) × (numbered (posts_of_unit p.unit posts) p.number ≡ Some x.datagram)

after_some : {A : Type 0} (xs : List A) (y : A) (ys : List A) → slice_get (xs ++ y ∷ ys) (length xs) ≡ Some y
after_some [] y ys = refl
after_some (x ∷ xs) y ys = after_some xs y ys

numbered_after : (ds : List DatagramView) (d : DatagramView) (later : List DatagramView) → numbered (ds ++ d ∷ later) (1 + length ds) ≡ Some d
numbered_after ds d later =
    let at_end : 1 + length ds - 1 ≡ length ds = omega arith in
    ap (λ (b : Bool). if b then None else slice_get (ds ++ d ∷ later) (1 + length ds - 1)) (ne_eqb (1 + length ds) 0 (λ e. omega arith))
    ∙ (ap (λ (k : ℕ). slice_get (ds ++ d ∷ later) k) at_end ∙ after_some ds d later)

own_datagram : (before : List UnitPost) (x : UnitPost) (later : List UnitPost)
    → numbered (posts_of_unit x.unit (before ++ x ∷ later)) (1 + length (posts_of_unit x.unit before)) ≡ Some x.datagram
own_datagram before x later =
    ap (λ (ds : List DatagramView). numbered ds (1 + length (posts_of_unit x.unit before)))
    (posts_join x.unit before (x ∷ later)
    ∙ ap (λ (b : Bool). posts_of_unit x.unit before ++ cond b (x.datagram ∷ posts_of_unit x.unit later) (posts_of_unit x.unit later)) (eq-eqb x.unit x.unit refl))
    ∙ numbered_after (posts_of_unit x.unit before) x.datagram (posts_of_unit x.unit later)

post_at : (before later : List UnitPost) (k : ℕ) (p : PostPlace) → slice_get (post_places_after before later) k ≡ Some p
    → (x : UnitPost) × (slice_get later k ≡ Some x) × IsPostAt (before ++ later) p x
post_at before [] k p e = absurd cc
post_at before (x ∷ later) zero p e =
    (x, refl, subst (λ (q : PostPlace). IsPostAt (before ++ x ∷ later) q x) (ap (λ (o : Option PostPlace). unwrap_or o p) e) (refl, own_datagram before x later))
post_at before (x ∷ later) (suc k) p e =
    let (y, is, place) = post_at (before ++ x ∷ []) later k p e in
    (y, is, subst (λ (posts : List UnitPost). IsPostAt posts p y) (append_assoc before (x ∷ []) later) place)

places_length : (before later : List UnitPost) → length (post_places_after before later) ≡ length later
places_length before [] = refl
places_length before (x ∷ later) = ap (λ (n : ℕ). suc n) (places_length (before ++ x ∷ []) later)

-- numbers begin with 1
counted : (posts : List UnitPost) (n : ℕ) → 1 ≤ n → located posts n ≡ slice_get (post_places posts) (n - 1)
counted posts n low = ap (λ (b : Bool). if b then None else slice_get (post_places posts) (n - 1)) (ne_eqb n 0 (λ e. omega arith))

pub place_is_right : (posts : List UnitPost) (n : ℕ) (p : PostPlace) → located posts n ≡ Some p
    → (x : UnitPost) × (slice_get posts (n - 1) ≡ Some x) × (x.unit ≡ p.unit) × (numbered (posts_of_unit p.unit posts) p.number ≡ Some x.datagram)
place_is_right posts zero p e = absurd cc
place_is_right posts (suc k) p e =
    let (x, is, place) = post_at [] posts (suc k - 1) p (sym (counted posts (suc k) (omega arith)) ∙ e) in
    (x, is, place.0, place.1)

pub place_is_there : (posts : List UnitPost) (n : ℕ) → 1 ≤ n → n ≤ length posts → (p : PostPlace) × (located posts n ≡ Some p)
place_is_there posts n low high =
    let all = places_length [] posts in
    let (p, is) = there_within (post_places posts) (n - 1) (omega arith) in
    (p, counted posts n low ∙ is)

pub no_place : (posts : List UnitPost) (n : ℕ) → length posts < n → located posts n ≡ None
no_place posts n past =
    let all = places_length [] posts in
    counted posts n (omega arith) ∙ slice_get_past (post_places posts) (n - 1) (omega arith)
