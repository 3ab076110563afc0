-- What one more call does to the images of a record.
use Rattle.std.proofs.Common.{◌≡◌, inl, inr, ℕ, ◌+◌, ◌<◌, ◌≤◌, Bool, true, false, List, [], ◌∷◌, ◌++◌, length, take, drop, refl, sym, ◌∙◌, ap, subst, arith, Result, Ok, Err, Some, OnOk, length-append, length-drop}
use Rattle.std.specs.Prelude.{◌⊎◌, slice_index, fold}
use Rattle.std.specs.Bool.{OnTrue, OnFalse}
use Rattle.std.proofs.lemmas.List.{take-append-le, drop-append-le, take_all}
use Rattle.std.proofs.lemmas.List.Sums.{fold-append}
use Rattle.std.proofs.lemmas.Bool.{cases_lt}
use Rattle.disk_model.specs.Image.{Image, image_of, range, overlay}
use Rattle.disk_model.specs.State.{IsSettled, Closed, KeepsClosed, Torn, Elapses}
use Rattle.disk_model.specs.Note.{offset_of, written_length, laid, opened, image_after, ranges_after}
use Rattle.disk_model.specs.Replay.{replayed, open_ranges, OutsideAll, MayLeave, UntilNext, MightHaveLeft, recorded, AddsWrite, IsSettling}
use Rattle.disk_model.specs.Laws.{at_the_end}
use Rattle.disk_model.specs.declared.disk.DiskFault.{DiskFault}
use Rattle.disk_model.specs.declared.note.Call.{Call}
use Rattle.disk_model.specs.declared.note.Call.TheVariants.{Write, Sync, Restart}
use Rattle.disk_model.specs.declared.note.Note.{Note}
use Rattle.disk_model.proofs.OverlayLemmas.{offset_cases, overlay_outside, laid_inside, laid_outside}
use Rattle.disk_model.proofs.MomentLemmas.{elapses_more, torn_nowhere}

-- an offset that the call doesn't write
abbrev Untouched : Call → ℕ → Type 0
Untouched call offset = (offset < offset_of call) ⊎ (offset_of call + written_length call ≤ offset)

pub laid_untouched : (call : Call) (done : Bool) (image : Image) (offset : ℕ) → Untouched call offset → laid call done image offset ≡ image offset
laid_untouched (Write at bytes) true image offset out = overlay_outside image at bytes.items offset out
laid_untouched (Write at bytes) false image offset out = refl
laid_untouched Sync done image offset out = refl
laid_untouched Restart done image offset out = refl

outside_opened : (call : Call) (done : Bool) (ranges : List (ℕ × ℕ)) (offset : ℕ) → Untouched call offset → OutsideAll ranges offset → OutsideAll (opened call done ranges) offset
outside_opened (Write at bytes) done ranges offset out rest = (out, rest)
outside_opened Sync true ranges offset out rest = tt
outside_opened Sync false ranges offset out rest = rest
outside_opened Restart true ranges offset out rest = tt
outside_opened Restart false ranges offset out rest = rest

module _ (first : List ℕ) (notes : List Note) (call : Call) (done : Bool) where
  abbrev note : Note
  note = record { call = call; done = done }

  abbrev more : List Note
  more = notes ++ note ∷ []

  pub replayed_more : replayed first more ≡ laid call done (replayed first notes)
  unfolding replayed
  replayed_more = fold-append image_after (image_of first) notes (note ∷ [])

  ranges_more : open_ranges more ≡ opened call done (open_ranges notes)
  unfolding open_ranges
  ranges_more = fold-append ranges_after [] notes (note ∷ [])

  -- outside its range a call changes nothing that a read gives
  same_replayed : (offset : ℕ) → Untouched call offset → replayed first more offset ≡ replayed first notes offset
  same_replayed offset out = ap (λ (m : Image). m offset) replayed_more ∙ laid_untouched call done (replayed first notes) offset out

  outside_more : (offset : ℕ) → Untouched call offset → OutsideAll (open_ranges notes) offset → OutsideAll (open_ranges more) offset
  outside_more offset out rest = subst (λ (ranges : List (ℕ × ℕ)). OutsideAll ranges offset) (sym ranges_more) (outside_opened call done (open_ranges notes) offset out rest)

  -- outside its range, what may be left is what was before
  may_be_torn : (image : Image) → MayLeave first more image → Torn (offset_of call) (written_length call) (MayLeave first notes) image
  may_be_torn image may = record {
    before = overlay image (offset_of call) (range (replayed first notes) (offset_of call) (written_length call));
    was = record {
      agrees = λ offset rest. elim (offset_cases (offset_of call) (written_length call) offset) [
        | inl out ↦ laid_outside image (replayed first notes) (offset_of call) (written_length call) offset out ∙ may.agrees offset (outside_more offset out rest) ∙ same_replayed offset out
        | inr within ↦ laid_inside image (replayed first notes) (offset_of call) (written_length call) offset within.0 within.1
      ];
    };
    same = λ offset out. sym (laid_outside image (replayed first notes) (offset_of call) (written_length call) offset out);
  }

  -- up to its start the record says what it said before
  made_before : (calls : ℕ) (image : Image) → calls ≤ length notes
      → UntilNext (drop calls more) (MayLeave first (take calls more)) image ≡ UntilNext (drop calls notes ++ note ∷ []) (MayLeave first (take calls notes)) image
  made_before calls image early =
      ap (λ (next : List Note). UntilNext next (MayLeave first (take calls more)) image) (drop-append-le calls notes (note ∷ []) early)
      ∙ ap (λ (made : List Note). UntilNext (drop calls notes ++ note ∷ []) (MayLeave first made) image) (take-append-le calls notes (note ∷ []) early)

  one_more : length more ≡ length notes + 1
  one_more = length-append notes (note ∷ [])

-- inside the next call there is what was before it
until_more : (next : List Note) (last : Note) (images : Image → Type 0) (image : Image) → UntilNext next images image → UntilNext (next ++ last ∷ []) images image
until_more [] last images image is = record { before = image; was = is; same = λ offset out. refl }
until_more (next ∷ later) last images image is = is

-- a later call changes nothing about the next one
until_same : (next : List Note) (last : Note) (images : Image → Type 0) (image : Image) → 0 < length next → UntilNext (next ++ last ∷ []) images image → UntilNext next images image
until_same [] last images image some is = absurd (omega (arith, some))
until_same (next ∷ later) last images image some is = is

-- inside the last call
until_last : (next : List Note) (last : Note) (images : Image → Type 0) (image : Image) → length next ≡ 0
    → UntilNext (next ++ last ∷ []) images image → Torn (offset_of last.call) (written_length last.call) images image
until_last [] last images image none is = is
until_last (next ∷ later) last images image none is = absurd (omega (arith, none))

on_ok : {T : Type 0} (result : Result T DiskFault) (before now : ℕ) → before < now → OnOk result (before < now)
on_ok (Ok x) before now later = later
on_ok (Err e) before now later = tt

module _ (first : List ℕ) (notes : List Note) (call : Call) (done : Bool) where
  abbrev noted : List Note
  noted = notes ++ record { call = call; done = done } ∷ []

  pub kept_moments : (t u : ℕ) (image : Image) → MightHaveLeft first notes t u image → MightHaveLeft first noted t u image
  kept_moments t u image might = record {
    calls = might.calls;
    not_before = might.not_before;
    not_after = might.not_after;
    made = omega (arith, might.made, one_more first notes call done);
    left =
        subst (λ (X : Type 0). X) (sym (made_before first notes call done might.calls image might.made))
        (until_more (drop might.calls notes) (record { call = call; done = done }) (MayLeave first (take might.calls notes)) image might.left);
  }

  pub early_moments : (t u : ℕ) (image : Image) (might : MightHaveLeft first noted t u image) → might.calls < length notes → MightHaveLeft first notes t u image
  early_moments t u image might early = record {
    calls = might.calls;
    not_before = might.not_before;
    not_after = might.not_after;
    made = omega (arith, early);
    left =
        until_same (drop might.calls notes) (record { call = call; done = done }) (MayLeave first (take might.calls notes)) image
        (omega (arith, early, length-drop might.calls notes))
        (subst (λ (X : Type 0). X) (made_before first notes call done might.calls image (omega (arith, early))) might.left);
  }

  pub late_moments : (t u : ℕ) (image : Image) (might : MightHaveLeft first noted t u image) → length notes ≤ might.calls
      → Torn (offset_of call) (written_length call) (MayLeave first notes) image
  late_moments t u image might late = elim (cases_lt (length notes) might.calls) [
    | inl past ↦
        may_be_torn first notes call done image
        (subst (λ (X : Type 0). X) (at_the_end first noted might.calls image (omega (arith, past, one_more first notes call done))) might.left)
    | inr here ↦
        subst (λ (made : List Note). Torn (offset_of call) (written_length call) (MayLeave first made) image) (take_all might.calls notes late)
        (until_last (drop might.calls notes) (record { call = call; done = done }) (MayLeave first (take might.calls notes)) image
        (omega (arith, late, length-drop might.calls notes))
        (subst (λ (X : Type 0). X) (made_before first notes call done might.calls image here) might.left))
  ]

  -- the time of a call of which a note is kept
  pub noted_elapses : {T : Type 0} (held held' : List ℕ) (f f' r r' : ℕ) (s s' : Bool) (result : Result T DiskFault) → f ≤ f' → r ≤ r'
      → Elapses (recorded first notes held f r s) (recorded first noted held' f' r' s') (Torn (offset_of call) (written_length call) (MayLeave first notes)) result
  noted_elapses held held' f f' r r' s s' result faults refusals = record {
    tells = refl;
    power = record { steady = refl; armings = refl; armed = refl };
    faults = faults;
    refusals = refusals;
    later = omega (arith, one_more first notes call done);
    goes_on = on_ok result (length notes) (length noted) (omega (arith, one_more first notes call done));
    now = may_be_torn first notes call done;
    keeps = kept_moments;
    adds = λ t u image might. elim (cases_lt might.calls (length notes)) [
      | inl early ↦ inl (early_moments t u image might early)
      | inr late ↦ inr (late_moments t u image might late)
    ];
    earlier = λ t u image early might. early_moments t u image might (omega (arith, early, might.not_after));
  }

-- a settling call: what a read gives stays, and where it is done, it alone is left
module _ (first : List ℕ) (notes : List Note) where
  pub settling_replayed : (call : Call) (done : Bool) → IsSettling call → replayed first (notes ++ record { call = call; done = done } ∷ []) ≡ replayed first notes
  settling_replayed Sync done settling = replayed_more first notes Sync done
  settling_replayed Restart done settling = replayed_more first notes Restart done
  settling_replayed (Write at bytes) done settling = absurd settling

  pub settling_closes : (call : Call) (done : Bool) → IsSettling call → done ≡ true → open_ranges (notes ++ record { call = call; done = done } ∷ []) ≡ []
  settling_closes Sync true settling is = ranges_more first notes Sync true
  settling_closes Restart true settling is = ranges_more first notes Restart true
  settling_closes (Write at bytes) done settling is = absurd settling
  settling_closes call false settling is = cc

  pub settling_tears : (call : Call) → IsSettling call → (images : Image → Type 0) (image : Image) → Torn (offset_of call) (written_length call) images image → images image
  settling_tears Sync settling = torn_nowhere 0
  settling_tears Restart settling = torn_nowhere 0
  settling_tears (Write at bytes) settling = absurd settling

  pub settled_by : (call : Call) (done : Bool) (new : List Note) (held : List ℕ) (f r : ℕ) (s : Bool) → IsSettling call
      → ((offset : ℕ) → slice_index held offset ≡ replayed first notes offset) → new ≡ notes ++ record { call = call; done = done } ∷ [] → done ≡ true
      → IsSettled (recorded first new held f r s)
  settled_by call done new held f r s settling same more is = record {
    only = λ image may.
        let all : image_of held ≡ image = λ i offset. same_offset image may offset i in
        ap (λ (m : Image). Some m) all;
  }
    where
      same_offset : (image : Image) → MayLeave first new image → (offset : ℕ) → image_of held offset ≡ image offset
      same_offset image may offset =
          let ranges : open_ranges new ≡ [] = ap open_ranges more ∙ settling_closes call done settling is in
          let reads : replayed first new ≡ replayed first notes = ap (replayed first) more ∙ settling_replayed call done settling in
          same offset ∙ sym (ap (λ (m : Image). m offset) reads) ∙ sym (may.agrees offset (subst (λ (rs : List (ℕ × ℕ)). OutsideAll rs offset) (sym ranges) tt))

  pub settling_elapses : {T : Type 0} (call : Call) (done : Bool) (new : List Note) (held held' : List ℕ) (f f' r r' : ℕ) (s s' : Bool) (result : Result T DiskFault)
      → IsSettling call → new ≡ notes ++ record { call = call; done = done } ∷ [] → f ≤ f' → r ≤ r'
      → Elapses (recorded first notes held f r s) (recorded first new held' f' r' s') (MayLeave first notes) result
  settling_elapses call done new held held' f f' r r' s s' result settling more faults refusals =
      subst (λ (n : List Note). Elapses (recorded first notes held f r s) (recorded first n held' f' r' s') (MayLeave first notes) result) (sym more)
      (elapses_more (recorded first notes held f r s) (recorded first (notes ++ record { call = call; done = done } ∷ []) held' f' r' s')
      (Torn (offset_of call) (written_length call) (MayLeave first notes)) (MayLeave first notes) result
      (noted_elapses first notes call done held held' f f' r r' s s' result faults refusals) (settling_tears call settling (MayLeave first notes)))

  pub settling_same : (call : Call) (done : Bool) (new : List Note) (held : List ℕ) → IsSettling call
      → ((offset : ℕ) → slice_index held offset ≡ replayed first notes offset) → new ≡ notes ++ record { call = call; done = done } ∷ []
      → (offset : ℕ) → slice_index held offset ≡ replayed first new offset
  settling_same call done new held settling same more offset =
      same offset ∙ sym (ap (λ (m : Image). m offset) (ap (replayed first) more ∙ settling_replayed call done settling))

-- a write
module _ (first : List ℕ) (old new : List Note) (at : ℕ) (bytes : List ℕ) (done : Bool) (adds : AddsWrite old new at bytes done) where
  abbrev call_made : Call
  call_made = Write at adds.copy

  size_made : length adds.copy.items ≡ length bytes
  size_made = ap length adds.copied

  pub write_elapses : {T : Type 0} (held held' : List ℕ) (f f' r r' : ℕ) (s s' : Bool) (result : Result T DiskFault) → f ≤ f' → r ≤ r'
      → Elapses (recorded first old held f r s) (recorded first new held' f' r' s') (Torn at (length bytes) (MayLeave first old)) result
  write_elapses held held' f f' r r' s s' result faults refusals =
      subst (λ (n : List Note). Elapses (recorded first old held f r s) (recorded first n held' f' r' s') (Torn at (length bytes) (MayLeave first old)) result) (sym adds.notes)
      (subst (λ (n : ℕ). Elapses (recorded first old held f r s) (recorded first (old ++ record { call = call_made; done = done } ∷ []) held' f' r' s') (Torn at n (MayLeave first old)) result)
      size_made (noted_elapses first old call_made done held held' f f' r r' s s' result faults refusals))

  written_ranges : open_ranges new ≡ (at, length bytes) ∷ open_ranges old
  written_ranges =
      ap open_ranges adds.notes ∙ ranges_more first old call_made done ∙ ap (λ (n : ℕ). (at, n) ∷ open_ranges old) size_made

  -- an offset that may hold what it held
  parts : (offset : ℕ) → OutsideAll (open_ranges new) offset → ((offset < at) ⊎ (at + length bytes ≤ offset)) × OutsideAll (open_ranges old) offset
  parts offset out = subst (λ (ranges : List (ℕ × ℕ)). OutsideAll ranges offset) written_ranges out

  replayed_apart : (offset : ℕ) → (offset < at) ⊎ (at + length bytes ≤ offset) → replayed first new offset ≡ replayed first old offset
  replayed_apart offset out =
      ap (λ (n : List Note). replayed first n offset) adds.notes
      ∙ same_replayed first old call_made done offset (subst (λ (n : ℕ). (offset < at) ⊎ (at + n ≤ offset)) (sym size_made) out)

  pub write_tears : (held : List ℕ) (f r : ℕ) (s : Bool) → Closed (recorded first new held f r s) at (length bytes)
  write_tears held f r s = record {
    each = λ before after may same. record { agrees = λ offset out. same offset (parts offset out).0 ∙ may.agrees offset out };
  }

  pub write_keeps : (held held' : List ℕ) (f f' r r' : ℕ) (s s' : Bool) → KeepsClosed (recorded first old held f r s) (recorded first new held' f' r' s')
  write_keeps held held' f f' r r' s s' is from n closed = record {
    each = λ before after may same. record {
      agrees = λ offset out. elim (offset_cases from n offset) [
        | inl apart ↦ same offset apart ∙ may.agrees offset out
        | inr within ↦
            let mixed : MayLeave first old (overlay (replayed first old) from (range after from n)) =
            closed.each (replayed first old) (overlay (replayed first old) from (range after from n)) (record { agrees = λ offset out. refl }) (laid_outside (replayed first old) after from n) in
            sym (laid_inside (replayed first old) after from n offset within.0 within.1) ∙ mixed.agrees offset (parts offset out).1
            ∙ sym (replayed_apart offset (parts offset out).0)
      ];
    };
  }

-- what is read after a write that is done, or isn't
pub noted_same : (first : List ℕ) (old new : List Note) (at : ℕ) (bytes : List ℕ) (done : Bool) (held held' : List ℕ) → AddsWrite old new at bytes done
    → ((offset : ℕ) → slice_index held offset ≡ replayed first old offset)
    → OnTrue done ((offset : ℕ) → slice_index held' offset ≡ overlay (image_of held) at bytes offset) → OnFalse done (held' ≡ held)
    → (offset : ℕ) → slice_index held' offset ≡ replayed first new offset
noted_same first old new at bytes true held held' adds same laid kept offset =
    let was : image_of held ≡ replayed first old = λ i offset. same offset i in
    let is : replayed first new ≡ overlay (replayed first old) at bytes =
    ap (replayed first) adds.notes ∙ replayed_more first old (Write at adds.copy) true ∙ ap (overlay (replayed first old) at) adds.copied in
    laid offset ∙ ap (λ (m : Image). overlay m at bytes offset) was ∙ sym (ap (λ (m : Image). m offset) is)
noted_same first old new at bytes false held held' adds same laid kept offset =
    let is : replayed first new ≡ replayed first old = ap (replayed first) adds.notes ∙ replayed_more first old (Write at adds.copy) false in
    ap (λ (l : List ℕ). slice_index l offset) kept ∙ same offset ∙ sym (ap (λ (m : Image). m offset) is)

-- before the first call
pub first_same : (first held : List ℕ) (notes : List Note) → held ≡ first → notes ≡ [] → (offset : ℕ) → slice_index held offset ≡ replayed first notes offset
unfolding replayed
first_same first held notes is none offset =
    ap (λ (l : List ℕ). slice_index l offset) is ∙ sym (ap (λ (n : List Note). fold image_after (image_of first) n offset) none)

pub first_settled : (first held : List ℕ) (notes : List Note) (f r : ℕ) (s : Bool) → held ≡ first → notes ≡ [] → IsSettled (recorded first notes held f r s)
unfolding open_ranges
first_settled first held notes f r s is none = record {
  only = λ image may.
      let all : image_of held ≡ image = λ i offset.
      (first_same first held notes is none offset
      ∙ sym (may.agrees offset (subst (λ (n : List Note). OutsideAll (open_ranges n) offset) (sym none) tt))) i in
      ap (λ (m : Image). Some m) all;
}
