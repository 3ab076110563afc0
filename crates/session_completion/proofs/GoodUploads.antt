-- An upload of good loads is completed, whatever is lost of it.
use Rattle.std.proofs.Common.{◌≡◌, ℕ, suc, ◌+◌, ◌<◌, ◌≤◌, Bool, true, false, List, [], ◌∷◌, length, Option, Some, None, Ok, Err, Result, refl, sym, ap, subst, ◌∙◌}
use Rattle.std.specs.Prelude.{bytes_eq}
use Rattle.std.specs.List.{AllByRecursion, AllZip}
use Rattle.load_base.specs.Config.{LoadView}
use Rattle.load_base.specs.Name.{IsName}
use Rattle.load_protocol_files.specs.declared.lur.Wanted.{Wanted}
use Rattle.load_protocol_files.specs.Lur.{WantedFits}
use Rattle.exchange_trace.specs.declared.trace.Side.{Side}
use Rattle.exchange_trace.specs.declared.trace.Side.TheVariants as sides
use Rattle.exchange_trace.specs.Happenings.{DatagramView, other}
use Rattle.session_rules.specs.declared.outcome.SessionKind.TheVariants.{Upload}
use Rattle.session_rules.specs.MediaFiles.{entry_with, wanted_of}
use Rattle.replay_rules.specs.BothEnds.{Setting}
use Rattle.replay_rules.specs.Promises.{HasCompleted}
use Rattle.session_completion.specs.Clean.{Clean, AreEndsIdle, WorldStandsAt}
use Rattle.session_completion.specs.Clean.{starts}
use Rattle.session_completion.specs.Finish.{ComesToEnd, UploadFinishEnds}
use Rattle.session_completion.specs.GoodRequests.{GoodLoadsLeadOn, UploadRequestsAreRead}
use Rattle.session_completion.specs.GoodUploads.{GoodUploadsComplete, IsFinished, IsGoodStart, Leads, begins, delivers, retries_at, started, tells, ticks}
use Rattle.session_completion.specs.Laws.{retries_of_getter}
use Rattle.session_completion.specs.Safety.{DeliveringIsSafe, TellingIsSafe, TickingIsSafe, was_next, was_old, retries_of, ticked_at}
use Rattle.session_completion.specs.Worlds.{World, delivered, ticked, told}
use Rattle.session_completion.proofs.Safety.{among_itself, waits_same}

-- ---- what is asked for

module _ (P : Wanted → Type 0) where
  entry_is : (part : List ℕ) (entries : List Wanted) (entry : Wanted) → AllByRecursion P entries → entry_with part entries ≡ Some entry → P entry
  entry_is part [] entry all e = absurd cc
  entry_is part (x ∷ entries) entry all e = by_test (bytes_eq x.part part) refl (λ h. entry_is part entries entry all.1 h)
    where
      some_same : {x y : Wanted} → Some x ≡ Some y → x ≡ y
      some_same h = cc

      by_test : (b : Bool) → bytes_eq x.part part ≡ b → (entry_with part entries ≡ Some entry → P entry) → P entry
      by_test true is others = subst P (some_same (sym (rw is refl) ∙ e)) all.0
      by_test false is others = others (sym (rw is refl) ∙ e)

  pub wanted_are : (entries : List Wanted) (parts : List (List ℕ)) (wanted : List Wanted) → AllByRecursion P entries → wanted_of entries parts ≡ Ok wanted → AllByRecursion P wanted × (length wanted ≡ length parts)
  wanted_are entries [] wanted all e = subst (λ (ws : List Wanted). AllByRecursion P ws × (length ws ≡ 0)) none_asked (tt, refl)
    where
      none_asked : [] ≡ wanted
      none_asked = cc
  wanted_are entries (part ∷ parts) wanted all e = by_entry (entry_with part entries) refl (wanted_of entries parts) refl (λ ws h. wanted_are entries parts ws all h)
    where
      by_entry : (found : Option Wanted) → entry_with part entries ≡ found → (later : Result (List Wanted) (List ℕ)) → wanted_of entries parts ≡ later
          → ((ws : List Wanted) → wanted_of entries parts ≡ Ok ws → AllByRecursion P ws × (length ws ≡ length parts)) → AllByRecursion P wanted × (length wanted ≡ suc (length parts))
      by_entry None is later e2 others = absurd cc
      by_entry (Some entry) is (Err p) e2 others = absurd cc
      by_entry (Some entry) is (Ok ws) e2 others =
          let those = others ws e2 in
          let same : entry ∷ ws ≡ wanted = cc in
          subst (λ (xs : List Wanted). AllByRecursion P xs × (length xs ≡ suc (length parts))) same ((entry_is part entries entry all is, those.0), ap (λ (k : ℕ). suc k) those.1)

zip_length : {A B : Type 0} (R : A → B → Type 0) (xs : List A) (ys : List B) → AllZip R xs ys → length xs ≡ length ys
zip_length R [] [] h = refl
zip_length R [] (y ∷ ys) h = absurd h
zip_length R (x ∷ xs) [] h = absurd h
zip_length R (x ∷ xs) (y ∷ ys) h = ap (λ (n : ℕ). suc n) (zip_length R xs ys h.1)

names_of : (wanted : List Wanted) → AllByRecursion (λ (w : Wanted). WantedFits w) wanted → AllByRecursion (λ (w : Wanted). IsName w.header) wanted
names_of [] h = tt
names_of (w ∷ wanted) h = (h.0.header, names_of wanted h.1)

-- ---- where a run stands

abbrev Stands : Setting → List LoadView → World → Type 0
Stands set loads w = (n : ℕ) × (c : World) × WorldStandsAt set loads n c w (retries_at w sides.Loader) (retries_at w sides.Target)

-- the retries are those that the world has
with_its_own : (set : Setting) (loads : List LoadView) (n : ℕ) (c w : World) (loader target : ℕ) → WorldStandsAt set loads n c w loader target → Stands set loads w
with_its_own set loads n c w loader target at =
    let l : loader ≡ retries_at w sides.Loader = sym (ap (λ (x : World). x.loader.end.retries) at.same) in
    let t : target ≡ retries_at w sides.Target = sym (ap (λ (x : World). x.target.end.retries) at.same) in
    (n, c, subst (λ (k : ℕ). WorldStandsAt set loads n c w k (retries_at w sides.Target)) l (subst (λ (k : ℕ). WorldStandsAt set loads n c w loader k) t at))

module _ (set : Setting) (loads : List LoadView) (lead : GoodLoadsLeadOn) (read : UploadRequestsAreRead) (safe : DeliveringIsSafe) (tick_safe : TickingIsSafe) (tell_safe : TellingIsSafe) where
  stands_at_start : (parts : List (List ℕ)) (wanted : List Wanted) (w : World) → IsGoodStart set parts wanted loads w → Stands set loads (started set parts w)
  stands_at_start parts wanted w good =
      let (fits, count) = wanted_are (λ (x : Wanted). WantedFits x) set.media.loads parts wanted good.entries good.on_media in
      let as_many = zip_length _ wanted loads good.served.each in
      let some : 1 ≤ length wanted = rw count good.some in
      let few : length wanted ≤ 32 = rw count good.few in
      let some_loads : 1 ≤ length loads = rw (sym as_many) some in
      let (more, ports, course) = lead set wanted loads good.served some_loads good.own_files (read wanted fits some few) (record { named = names_of wanted fits; bytes = good.bytes }) in
      let clean : Clean set loads 0 (started set parts w) = starts w parts wanted more (subst (λ (k : ℕ). AreEndsIdle set k w) (sym ports) good.idle) course good.few good.on_media in
      (0, started set parts w, record { clean = clean; same = refl; among = among_itself (started set parts w).posts })

  leads_on : (from w : World) → Stands set loads from → Leads set from w → Stands set loads w
  leads_on from w at begins = at
  leads_on from w at (tells v size before) =
      let (n, c, is) = leads_on from v at before in
      with_its_own set loads n (told set c size) (told set v size) (retries_at v sides.Loader) (retries_at v sides.Target) (tell_safe set loads n c v size (retries_at v sides.Loader) (retries_at v sides.Target) is)
  leads_on from w at (delivers v d before has) =
      let (n, c, is) = leads_on from v at before in
      elim (safe set loads n c v d (retries_at v sides.Loader) (retries_at v sides.Target) is has) [
        | was_old so ↦ with_its_own set loads n c (delivered set v d) (retries_at v sides.Loader) (retries_at v sides.Target) so
        | was_next is_next so ↦
            with_its_own set loads (n + 1) (delivered set c d) (delivered set v d) (retries_of_getter d.side (retries_at v sides.Loader)) (retries_of_getter (other d.side) (retries_at v sides.Target)) so
      ]
  leads_on from w at (ticks v side before waiting few) =
      let (n, c, is) = leads_on from v at before in
      let l = retries_at v sides.Loader in
      let t = retries_at v sides.Target in
      with_its_own set loads n c (ticked set v side) (ticked_at side sides.Loader l) (ticked_at side sides.Target t)
      (tick_safe set loads n c v side l t is (sym (waits_same set loads n c v side l t is) ∙ waiting) (has_few side few))
    where
      has_few : (s : Side) → retries_at v s < 5 → retries_of s (retries_at v sides.Loader) (retries_at v sides.Target) < 5
      has_few sides.Loader h = h
      has_few sides.Target h = h

-- what is done at the clean upload is done where it stands
finished_at : (set : Setting) (loads : List LoadView) (w : World) (queue : List DatagramView) (first : Side) → ComesToEnd set loads w queue first → IsFinished set loads w queue first
finished_at set loads w queue first it = record {
  last = it.last;
  finishes = it.finishes;
  loader = waits_same set loads it.n it.c it.last sides.Loader it.loader it.target it.stands ∙ it.is_done.loader;
  target = waits_same set loads it.n it.c it.last sides.Target it.loader it.target it.stands ∙ it.is_done.target;
  completed = subst (λ (x : World). HasCompleted Upload x.loader.ended) (sym it.stands.same) it.is_done.completed;
  active = ap (λ (x : World). x.target.active) it.stands.same ∙ it.is_done.active;
}

pub good_uploads_complete : GoodLoadsLeadOn → UploadRequestsAreRead → DeliveringIsSafe → TickingIsSafe → TellingIsSafe → UploadFinishEnds → GoodUploadsComplete
good_uploads_complete lead read safe tick_safe tell_safe ends set parts wanted loads before w queue first good leads loader target among =
    let (n, c, is) = leads_on set loads lead read safe tick_safe tell_safe (started set parts before) w (stands_at_start set loads lead read safe tick_safe tell_safe parts wanted before good) leads in
    finished_at set loads w queue first (ends set loads n c w (retries_at w sides.Loader) (retries_at w sides.Target) queue first is among loader target)
