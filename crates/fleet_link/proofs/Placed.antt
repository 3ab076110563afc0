-- What is given for a datagram of a fleet, and which is the first undelivered one.
use Rattle.std.proofs.Common.{◌≡◌, ℕ, zero, suc, ◌-◌, ◌<◌, ◌≤◌, Bool, true, false, List, [], ◌∷◌, filter, length, Option, Some, None, option_map, arith, refl, sym, ap, subst, ◌∙◌}
use Rattle.std.specs.Prelude.{IfSome, slice_get}
use Rattle.std.proofs.lemmas.List.{length-map}
use Rattle.std.proofs.lemmas.Option.{slice_get-map, slice_get_within}
use Rattle.exchange_trace.specs.declared.trace.Happening.{Happening}
use Rattle.exchange_trace.specs.declared.trace.Side.{Side}
use Rattle.exchange_trace.specs.declared.trace.Side.TheVariants as sides
use Rattle.exchange_trace.specs.Following.{Scene}
use Rattle.exchange_trace.specs.Happenings.{HappeningView, happening_view}
use Rattle.fleet_trace.specs.declared.trace.FleetHappening.{FleetHappening}
use Rattle.fleet_trace.specs.FleetTraces.{At_unit, FleetHappeningView, fleet_happening_view}
use Rattle.fleet_trace.specs.FleetPosts.{PostPlace, is_place_undelivered, post_places, undelivered_places}
use Rattle.fleet_trace.specs.FleetFollowing.{first_place, given_at_place}
use Rattle.link_net.specs.Mail.{MailView, NamesPosted, scene_in}
use Rattle.fleet_link.specs.declared.fleet_mail.Place.{Place}
use Rattle.fleet_link.specs.FleetMail.{FleetMailView, KeepsFleetMail, NamesPlaced, fleet_scene_in, mail_of, place_view}

-- ---- what is given

-- what a unit's mail gives for a datagram is given in the fleet for its place
pub given_at_unit : (gives : Scene → ℕ → Option HappeningView) (mail : FleetMailView) (units : ℕ) (waits_at : (unit : ℕ) → Side → Bool) (may_ask : Bool) (place : Place) (m : MailView) (found : Option Happening)
    → m ≡ mail_of place.unit mail → ((loader target : Bool) → option_map happening_view found ≡ gives (scene_in m loader target) place.number)
    → option_map (λ h. At_unit place.unit (happening_view h)) found ≡ given_at_place (fleet_scene_in mail units waits_at may_ask) gives (Some (place_view place))
given_at_unit gives mail units waits_at may_ask place m found own value =
    in_two found ∙ ap (option_map (At_unit place.unit)) (value loader target ∙ ap (λ (n : MailView). gives (scene_in n loader target) place.number) own)
  where
    loader : Bool
    loader = waits_at place.unit sides.Loader

    target : Bool
    target = waits_at place.unit sides.Target

    in_two : (found : Option Happening) → option_map (λ h. At_unit place.unit (happening_view h)) found ≡ option_map (At_unit place.unit) (option_map happening_view found)
    in_two None = refl
    in_two (Some h) = refl

-- the same, as a happening of the fleet
pub given_there : (gives : Scene → ℕ → Option HappeningView) (mail : FleetMailView) (units : ℕ) (waits_at : (unit : ℕ) → Side → Bool) (may_ask : Bool) (place : Place) (m : MailView) (found : Option Happening) (given : Option FleetHappening)
    → m ≡ mail_of place.unit mail → ((loader target : Bool) → option_map happening_view found ≡ gives (scene_in m loader target) place.number)
    → option_map fleet_happening_view given ≡ option_map (λ h. At_unit place.unit (happening_view h)) found
    → option_map fleet_happening_view given ≡ given_at_place (fleet_scene_in mail units waits_at may_ask) gives (Some (place_view place))
given_there gives mail units waits_at may_ask place m found given own value is = is ∙ given_at_unit gives mail units waits_at may_ask place m found own value

-- it names a datagram of its unit
pub named_there : (mail : FleetMailView) (unit : ℕ) (m : MailView) (found : Option Happening) (given : Option FleetHappening) → (1 ≤ unit) × (unit ≤ 8) → m ≡ mail_of unit mail
    → IfSome found (λ h. NamesPosted (length m.posted) (happening_view h)) → option_map fleet_happening_view given ≡ option_map (λ h. At_unit unit (happening_view h)) found
    → IfSome given (λ h. NamesPlaced mail (fleet_happening_view h))
named_there mail unit m None None at own named is = named
named_there mail unit m None (Some h) at own named is = absurd cc
named_there mail unit m (Some h) None at own named is = absurd cc
named_there mail unit m (Some h) (Some given) at own named is =
    let same : fleet_happening_view given ≡ At_unit unit (happening_view h) = cc in
    subst (λ (v : FleetHappeningView). NamesPlaced mail v) (sym same) (at, subst (λ (n : MailView). NamesPosted (length n.posted) (happening_view h)) own named)

-- ---- the first undelivered datagram

module _ (p : PostPlace → Bool) where
  pub first_kept : (xs : List PostPlace) (n : ℕ) → n ≤ length xs → ((k : ℕ) (x : PostPlace) → k < n → slice_get xs k ≡ Some x → p x ≡ false) → ((x : PostPlace) → slice_get xs n ≡ Some x → p x ≡ true)
      → first_place (filter p xs) ≡ slice_get xs n
  first_kept [] zero within before found = refl
  first_kept [] (suc n) within before found = absurd (omega (arith, within))
  first_kept (x ∷ xs) zero within before found = let here : p x ≡ true = found x refl in rw here refl
  first_kept (x ∷ xs) (suc n) within before found =
      let here : p x ≡ false = before 0 x (omega arith) refl in
      rw here (first_kept xs n (omega (arith, within)) (λ k y lt e. before (suc k) y (omega (arith, lt)) e) (λ y e. found y e))

module _ (mails : List MailView) (kept : List Place) (least : ℕ) (mail : FleetMailView) (is : KeepsFleetMail mails kept least mail) where
  -- of the places of the posts the code keeps each
  kept_at : (k : ℕ) → slice_get (post_places mail.posted) k ≡ option_map place_view (slice_get kept k)
  kept_at k = ap (λ (ps : List PostPlace). slice_get ps k) (sym is.each_place) ∙ slice_get-map place_view kept k

  of_kept : (P : PostPlace → Type 0) (k : ℕ) (x : PostPlace) → ((place : Place) → slice_get kept k ≡ Some place → P (place_view place)) → slice_get (post_places mail.posted) k ≡ Some x → P x
  of_kept P k x each e = by (slice_get kept k) refl
    where
      by : (found : Option Place) → slice_get kept k ≡ found → P x
      by None none = absurd (let nothing : option_map place_view (slice_get kept k) ≡ None = ap (option_map place_view) none in let both : Some x ≡ None = sym e ∙ (kept_at k ∙ nothing) in cc)
      by (Some place) some =
          let here : Some x ≡ Some (place_view place) = sym e ∙ (kept_at k ∙ ap (option_map place_view) some) in
          let same : place_view place ≡ x = cc in
          subst P same (each place some)

  pub least_is_first : option_map place_view (slice_get kept least) ≡ first_place (undelivered_places mail.posted mail.given)
  least_is_first =
      let counted = ap (λ (ps : List PostPlace). length ps) (sym is.each_place) ∙ length-map kept place_view in
      let within = is.within in
      sym (kept_at least)
      ∙ sym (first_kept (is_place_undelivered mail.given) (post_places mail.posted) least (omega (arith, counted, within))
      (λ k x lt e. of_kept (λ q. is_place_undelivered mail.given q ≡ false) k x (λ place there. is.before k place lt there) e)
      (λ x e. of_kept (λ q. is_place_undelivered mail.given q ≡ true) least x (λ place there. is.found place there) e))

  -- a datagram stands at one of the units
  pub stands_at_unit : (k : ℕ) (found : Option Place) → length mails ≡ 8 → found ≡ slice_get kept k → IfSome found (λ place. (1 ≤ place.unit) × (place.unit ≤ 8))
  stands_at_unit k None eight e = tt
  stands_at_unit k (Some place) eight e =
      let at = is.placed k place (sym e) in
      let within = slice_get_within mails (place.unit - 1) at.mail at.there in
      (at.unit, omega (arith, within, eight))
