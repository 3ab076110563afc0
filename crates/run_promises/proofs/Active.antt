-- Proofs that what is active in a run can be listed at each moment, whatever was injected.
use Rattle.std.proofs.Common.{◌≡◌, inl, inr, ℕ, ◌≤◌, Bool, true, false, cond, List, [], ◌∷◌, length, map, Option, Some, None, sym, ap, subst, ◌∙◌, arith}
use Rattle.std.specs.Prelude.{◌==◌}
use Rattle.std.specs.List.{AllByRecursion, AllZip}
use Rattle.std.proofs.lemmas.List.{length-map}
use Rattle.std.proofs.lemmas.List.Elements.{All-from_recursion, All-map, recursion_from_All}
use Rattle.load_base.specs.Config.{FileView, LoadView}
use Rattle.load_base.specs.Text.{IsText}
use Rattle.load_base.proofs.TextLemmas.{name_is_text, part_text_is_text}
use Rattle.part_number.proofs.Texts.{part_text_of_part}
use Rattle.part_number.specs.PartNumber.{maker_of, product_of}
use Rattle.load_header.specs.Header.{HeaderView}
use Rattle.load_protocol_files.specs.declared.lcl.Part.{Part}
use Rattle.load_protocol_files.specs.declared.lur.Wanted.{Wanted}
use Rattle.load_protocol_files.specs.Lcl.{HardwareFits, InstalledFits}
use Rattle.load_protocol_files.specs.Lur.{LurFits, WantedFits}
use Rattle.disk_layout.specs.declared.identity.Identity.{Identity}
use Rattle.disk_layout.specs.Contents.{entries_of, entry_of, file_entry_of}
use Rattle.disk_layout.specs.Holds.{StandingView}
use Rattle.disk_layout.specs.Manifest.{LoadEntry}
use Rattle.exchange_trace.specs.declared.trace.Side.TheVariants as sides
use Rattle.exchange_trace.specs.Logs.{Down, Event, Life, Up, event_for, target_life}
use Rattle.exchange_trace.specs.Posts.{posted_in}
use Rattle.exchange_trace.specs.Steps.{Boot_refused, Came_up, Note, Step, Went_down}
use Rattle.accept_rules.specs.declared.kept.KeptLoad.{KeptLoad}
use Rattle.accept_rules.specs.Permissions.{AcceptsPermitted}
use Rattle.session_rules.proofs.ArrivedRequestLemmas.{target_step_requests}
use Rattle.session_rules.proofs.BufferLemmas.{SumsJoin}
use Rattle.session_rules.proofs.InstallationLemmas.{all_then, good_are_checked}
use Rattle.session_rules.specs.KeptLoads.{with_kept}
use Rattle.session_rules.specs.NewConfigs.{IsChecked, IsWanted}
use Rattle.session_rules.proofs.ReadFileLemmas.{RequestsAreSpelled}
use Rattle.session_rules.specs.Reports.{first_name, listed_part}
use Rattle.session_rules.specs.Requests.{InstallsRequest, SessionHasRequest}
use Rattle.session_rules.proofs.SoundLogLemmas.{PayloadsAreBytes}
use Rattle.session_rules.specs.SoundLogs.{StaysOrIsNew}
use Rattle.session_rules.proofs.SoundnessLemmas.{HeadersAreSpelled}
use Rattle.session_rules.specs.TargetLog.{TargetReading, standing_after, target_extended}
use Rattle.replay_rules.specs.BothEnds.{Is_down, Is_up, Setting, TargetStanding, changed, come_up, gone_down, noted, reached, settled, target_at}
use Rattle.replay_rules.proofs.CameTraceLemmas.{target_takes}
use Rattle.replay_rules.specs.CameTraces.{LifeTakesWhatCame}
use Rattle.replay_rules.proofs.ChangeLemmas.{BringsBytes, TargetIsSound, event_bytes, posted_bytes, step_sound, target_sound}
use Rattle.replay_rules.specs.Changes.{AllCarryBytes, TargetStaysOrIsNew}
use Rattle.replay_rules.specs.Histories.{active_in}
use Rattle.replay_rules.specs.ListTraces.{AllCanBeListed}
use Rattle.replay_rules.proofs.TieLemmas.{HasLive, target_is_live}
use Rattle.run_promises.specs.Listing.{WhatIsActiveCanBeListed}
use Rattle.run_promises.proofs.Listed.{listed, lists, no_text, standing_fits}

-- ---- what is installed

abbrev EntryFits : LoadView → Type 0
EntryFits load = InstalledFits (listed_part (entry_of load))

module _ (id : Identity) where
  -- a load that was asked for, and is checked
  wanted_fits : (w : Wanted) (load : LoadView) → WantedFits w → IsWanted w load → IsChecked id load → EntryFits load
  wanted_fits w load fits is good =
      let first : first_name (map file_entry_of load.files) ≡ w.header = ap (λ (files : List FileView). first_name (map file_entry_of files)) good.whole ∙ is.header in
      record {
        number = subst IsText (sym is.part) (part_text_is_text w.part (part_text_of_part w.part (maker_of w.part) (product_of w.part) fits.part));
        amendment = no_text;
        designation = subst IsText (sym first) (name_is_text w.header fits.header);
      }

  all_fit : (request : List Wanted) (loads : List LoadView) → AllByRecursion (λ (w : Wanted). WantedFits w) request → AllZip IsWanted request loads → AllByRecursion (IsChecked id) loads → AllByRecursion EntryFits loads
  all_fit [] [] fits each good = tt
  all_fit [] (load ∷ loads) fits each good = absurd each
  all_fit (w ∷ request) [] fits each good = absurd each
  all_fit (w ∷ request) (load ∷ loads) (fit, fits) (is, each) (one, good) = (wanted_fits w load fit is one, all_fit request loads fits each good)

-- what was active could be listed
entries_fit : (loads : List LoadView) → AllByRecursion (λ (p : Part). InstalledFits p) (map listed_part (entries_of loads)) → AllByRecursion EntryFits loads
entries_fit [] fits = tt
entries_fit (load ∷ loads) (one, fits) = (one, entries_fit loads fits)

new_fits : (before : StandingView) (request : List Wanted) (loads : List LoadView) → LurFits (record { loads = request }) → AllZip IsWanted request loads → AllByRecursion (IsChecked before.identity) loads → length (with_kept loads before.loads) ≤ 32
    → HardwareFits (listed before) → HardwareFits (listed (standing_after before loads))
new_fits before request loads asked each good few was = record {
  name = was.name;
  serial = was.serial;
  count = rw (length-map, length-map) (omega (arith, few));
  parts = All-map (λ (p : Part). InstalledFits p) listed_part (entries_of (with_kept loads before.loads)) (All-map (λ (l : LoadEntry). InstalledFits (listed_part l)) entry_of (with_kept loads before.loads)
      (All-from_recursion EntryFits (with_kept loads before.loads) (all_then EntryFits loads before.loads
      (all_fit before.identity request loads (recursion_from_All (λ (w : Wanted). WantedFits w) request asked.loads) each good)
      (entries_fit before.loads (recursion_from_All (λ (p : Part). InstalledFits p) (map listed_part (entries_of before.loads)) was.parts)))));
}

-- ---- of a state

abbrev Lists : StandingView → Type 0
Lists s = HardwareFits (listed s)

abbrev ListsIf : Option StandingView → Type 0
ListsIf None = Unit {0}
ListsIf (Some s) = Lists s

-- What may be active can be listed, and what a live session was asked for arrived as a request.
abbrev StateLists : TargetStanding → Type 0
StateLists (Is_up r) = Lists r.active × SessionHasRequest r
StateLists (Is_down active interrupted) = Lists active × ListsIf interrupted

active_lists : (set : Setting) (state : TargetStanding) → StateLists state → Lists (active_in state)
active_lists set (Is_up r) h = h.0
active_lists set (Is_down active interrupted) h = h.0

-- ---- what is noted

changed_lists : (before after : StandingView) → Lists after → ListsIf (changed before after)
changed_lists before after h = by (before.sequence == after.sequence)
  where
    by : (b : Bool) → ListsIf (cond b None (Some after))
    by true = tt
    by false = h

settled_lists : (sequence : ℕ) (active : StandingView) (interrupted : Option StandingView) → Lists active → ListsIf interrupted → Lists (settled sequence active interrupted)
settled_lists sequence active None h then = h
settled_lists sequence active (Some new) h then = by (sequence == new.sequence)
  where
    by : (b : Bool) → Lists (cond b new active)
    by true = then
    by false = h

module _ (set : Setting) where
  gone_lists : (before after : TargetStanding) → StateLists before → StateLists after → StateLists (gone_down before after)
  gone_lists (Is_up r) (Is_up s) h then = (h.0, changed_lists r.active s.active then.0)
  gone_lists (Is_up r) (Is_down active interrupted) h then = then
  gone_lists (Is_down active interrupted) after h then = h

  come_lists : (first_port sequence : ℕ) (state : TargetStanding) → StateLists state → StateLists (come_up first_port sequence state)
  come_lists first_port sequence (Is_up r) h = h
  come_lists first_port sequence (Is_down active interrupted) h = (settled_lists sequence active interrupted h.0 h.1, tt)

  noted_lists : (notes : List Note) (before after : TargetStanding) → StateLists before → StateLists after → StateLists (noted notes before after)
  noted_lists [] before after h then = then
  noted_lists (Went_down ∷ notes) before after h then = let down = gone_lists before after h then in noted_lists notes (gone_down before after) (gone_down before after) down down
  noted_lists (Came_up first_port sequence ∷ notes) before after h then =
      let up = come_lists first_port sequence (gone_down before after) (gone_lists before after h then) in
      noted_lists notes (come_up first_port sequence (gone_down before after)) (come_up first_port sequence (gone_down before after)) up up
  noted_lists (Boot_refused fault ∷ notes) before after h then = let down = gone_lists before after h then in noted_lists notes (gone_down before after) (gone_down before after) down down

-- ---- a step more

module _ (joins : SumsJoin) (spells : HeadersAreSpelled) (payloads : PayloadsAreBytes) (requests : RequestsAreSpelled) (set : Setting) (permits : AcceptsPermitted set.accepts) where
  changed_active : (before after : TargetReading) → StaysOrIsNew set.accepts before after → InstallsRequest set.accepts before after → Lists before.active → Lists after.active
  changed_active before after (inl same) asked h = subst (λ (s : StandingView). Lists s) (sym same) h
  changed_active before after (inr new) asked h =
      subst (λ (s : StandingView). Lists s) (sym new.next) (new_fits before.active new.upload.request new.loads (asked new).spells.0 new.new.each
      (good_are_checked (λ (header : HeaderView) (kept : List KeptLoad). set.accepts header kept ≡ true) before.active.identity (entries_of before.active.loads) [] new.loads new.new.good) new.new.few h)

  reached_lists : (life : Life) (state : TargetStanding) (e : Option Event) → BringsBytes e → LifeTakesWhatCame life state → HasLive state → TargetIsSound set life state → TargetStaysOrIsNew set state (reached set e state) → StateLists state
      → StateLists (reached set e state)
  reached_lists (Up first_port log) (Is_up r) None now takes live sound change h = h
  reached_lists (Up first_port log) (Is_up r) (Some e) now (packets, blocks, last) live (fit, sound) change (h, has) =
      let then = target_step_requests requests set.accepts joins payloads log r e (now, fit) packets live sound has in
      (changed_active r (target_extended set.accepts r e) change then.1 h, then.0)
  reached_lists (Up first_port log) (Is_down active interrupted) e now takes live sound change h = absurd takes
  reached_lists Down (Is_up r) e now takes live sound change h = absurd takes
  reached_lists Down (Is_down active interrupted) None now takes live sound change h = h
  reached_lists Down (Is_down active interrupted) (Some e) now takes live sound change h = h

  step_lists : (s : Step) (earlier : List Step) → AllCarryBytes (s ∷ earlier) → StateLists (target_at set earlier) → StateLists (target_at set (s ∷ earlier))
  step_lists s earlier ((posts, given), all) h =
      let e = event_for sides.Target (posted_in earlier) s.given in
      let sound = target_sound joins spells payloads set permits earlier all in
      noted_lists set s.notes (target_at set earlier) (reached set e (target_at set earlier)) h
      (reached_lists (target_life earlier) (target_at set earlier) e (event_bytes (posted_in earlier) s.given (posted_bytes earlier all) given) (target_takes set earlier) (target_is_live joins set earlier) sound
      (step_sound joins spells payloads set permits s earlier ((posts, given), all) sound).1 h)

  state_lists : Lists set.start → (steps : List Step) → AllCarryBytes steps → StateLists (target_at set steps)
  state_lists first [] all = (first, tt)
  state_lists first (s ∷ earlier) all = step_lists s earlier all (state_lists first earlier all.1)

  all_can_be_listed : Lists set.start → (steps : List Step) → AllCarryBytes steps → AllCanBeListed set steps
  all_can_be_listed first [] all = lists set.start first
  all_can_be_listed first (s ∷ earlier) all =
      (lists (active_in (target_at set (s ∷ earlier))) (active_lists set (target_at set (s ∷ earlier)) (state_lists first (s ∷ earlier) all)), all_can_be_listed first earlier all.1)

pub active_is_listed : SumsJoin → HeadersAreSpelled → PayloadsAreBytes → RequestsAreSpelled → WhatIsActiveCanBeListed
active_is_listed joins spells payloads requests set steps permits all fits =
    all_can_be_listed joins spells payloads requests set permits (standing_fits set.start fits) steps all
