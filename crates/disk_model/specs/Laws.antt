-- The laws that a disk with a record states of itself. They are proved here, since what an implementation states
-- stands in specs/.
use Rattle.std.specs.Prelude.{◌≡◌, ◌⊎◌, ℕ, ◌≤◌, List, length, take, drop, slice_index, Option, Some}
use Rattle.std.proofs.Common.{sym, ◌∙◌, ap, subst, inl, inr, arith}
use Rattle.std.proofs.lemmas.List.{take_all}
use Rattle.std.proofs.lemmas.Bool.{cases_lt}
use Rattle.std.proofs.Math.ListN.{drop_of_length-le}
use Rattle.disk_model.specs.Image.{Image, image_of}
use Rattle.disk_model.specs.Replay.{replayed, MayLeave, UntilNext, MightHaveLeft}
use Rattle.disk_model.specs.declared.note.Note.{Note}

-- what it holds is an image that a power loss may leave
pub held_may_leave : (first : List ℕ) (notes : List Note) (held : List ℕ) → ((offset : ℕ) → slice_index held offset ≡ replayed first notes offset)
    → (image : Image) → ◌≡◌ {A = Option Image} (Some (image_of held)) (Some image) → MayLeave first notes image
held_may_leave first notes held same image told =
    let is : image_of held ≡ image = cc in
    record { agrees = λ offset out. ap (λ (m : Image). m offset) (sym is) ∙ same offset }

-- after the last call there is no next one
pub at_the_end : (first : List ℕ) (notes : List Note) (calls : ℕ) (image : Image) → length notes ≤ calls
    → UntilNext (drop calls notes) (MayLeave first (take calls notes)) image ≡ MayLeave first notes image
at_the_end first notes calls image late =
    ap (λ (next : List Note). UntilNext next (MayLeave first (take calls notes)) image) (drop_of_length-le notes late)
    ∙ ap (λ (made : List Note). MayLeave first made image) (take_all calls notes late)

pub counts_its_now : (first : List ℕ) (notes : List Note) (t u : ℕ) (image : Image) → t ≤ length notes → length notes ≤ u
    → MayLeave first notes image → MightHaveLeft first notes t u image
counts_its_now first notes t u image from to may = record {
  calls = length notes;
  not_before = from;
  not_after = to;
  made = omega arith;
  left = subst (λ (X : Type 0). X) (sym (at_the_end first notes (length notes) image (omega arith))) may;
}

pub only_its_now : (first : List ℕ) (notes : List Note) (t u : ℕ) (image : Image) → length notes ≤ t → MightHaveLeft first notes t u image → MayLeave first notes image
only_its_now first notes t u image late might =
    subst (λ (X : Type 0). X) (at_the_end first notes might.calls image (omega (arith, late, might.not_before))) might.left

pub wider_time : (first : List ℕ) (notes : List Note) (s t u v : ℕ) (image : Image) → s ≤ t → u ≤ v → MightHaveLeft first notes t u image → MightHaveLeft first notes s v image
wider_time first notes s t u v image early late might = record {
  calls = might.calls;
  not_before = omega (arith, early, might.not_before);
  not_after = omega (arith, late, might.not_after);
  made = might.made;
  left = might.left;
}

pub split_time : (first : List ℕ) (notes : List Note) (t u v : ℕ) (image : Image) → t ≤ u → u ≤ v → MightHaveLeft first notes t v image
    → MightHaveLeft first notes t u image ⊎ MightHaveLeft first notes u v image
split_time first notes t u v image early late might = elim (cases_lt u might.calls) [
  | inl after ↦ inr (record { calls = might.calls; not_before = omega (arith, after); not_after = might.not_after; made = might.made; left = might.left })
  | inr before ↦ inl (record { calls = might.calls; not_before = might.not_before; not_after = before; made = might.made; left = might.left })
]
