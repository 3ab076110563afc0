-- How many bytes of the contents of files an intake holds.
use Rattle.std.proofs.Common.{◌≡◌, ℕ, ◌+◌, ◌/◌, ◌≤◌, List, [], ◌∷◌, length, Option, Some, refl, sym, ap, subst, arith}
use Rattle.std.proofs.lemmas.List.{length-append}
use Rattle.std.proofs.lemmas.List.Folds.{concat-append}
use Rattle.std.specs.List.{concat}
use Rattle.field_grammar.specs.Fields.{number_fields}
use Rattle.field_grammar.specs.Spelling.{spelled_length}
use Rattle.header_sections.specs.SectionFields.{user_fields}
use Rattle.load_header.specs.Header.{HeaderView}
use Rattle.load_header.specs.HeaderFields.{IsHeader, check_offset, header_size}
use Rattle.load_intake.specs.declared.place.Place.{Place}
use Rattle.session_rules.specs.Buffers.{Sums, buffer_size}
use Rattle.session_rules.specs.TargetRows.{Arriving, Kept_sums}
use Rattle.session_rules.specs.Uploads.{OpenLoadView}
use Rattle.load_intake.specs.Held.{contents_kept, header_kept}
use Rattle.load_intake.specs.Kept.{IsIntake, IsOfNext, WaitsEmpty, intake_at, intake_of}
use Rattle.load_intake.specs.Places.{arriving_at, bytes_held, open_load}
use Rattle.load_intake.specs.States.{IntakeState, WholeView, upload_of}

-- ---- an intake holds what its upload keeps

pub empty_is : (w : WholeView) (p : Place) → WaitsEmpty p → intake_at w (open_load p) (arriving_at p) ≡ intake_of w p
empty_is w p empty = ap with_held (sym empty)
  where
    with_held : ℕ → IntakeState
    with_held held = record { upload = upload_of w (open_load p); arriving = arriving_at p; held = held }

pub intake_is : (w : WholeView) (p : Place) (n : ℕ) → IsIntake (intake_of w p) n → intake_at w (open_load p) (arriving_at p) ≡ intake_of w p
intake_is w p n i = empty_is w p i.holds

pub intake_seen : (w : WholeView) (p : Place) (n : ℕ) → IsIntake (intake_of w p) n → IsIntake (intake_at w (open_load p) (arriving_at p)) n
intake_seen w p n i = record { few = i.few; left = i.left; need = i.need; next = i.next; holds = refl }

-- ---- the user data of a header

user_spelled : (user : List ℕ) → length user ≤ spelled_length (user_fields user)
unfolding user_fields
user_spelled user =
    let size = number_fields 2 (length user / 2) in
    omega (arith, ap (λ (x : List ℕ). length x) (concat-append size (user ∷ [])), length-append (concat size) (concat (user ∷ [])), length-append user [])

-- a header has at most 65,536 bytes, and so has its user data
pub user_is_little : (h : HeaderView) → IsHeader h → length h.user ≤ 65536
unfolding header_size
user_is_little h is =
    let whole : header_size h ≡ check_offset h + 8 = refl in
    omega (arith, user_spelled h.user, whole, is.size)

-- so where a data or support file comes all that is held is little
pub file_holds : (w : WholeView) (p : Place) (l : OpenLoadView) (s : Sums) (n : ℕ) → open_load p ≡ Some l → arriving_at p ≡ Kept_sums s → IsIntake (intake_of w p) n → bytes_held p ≤ buffer_size
file_holds w p l s n load arriving i =
    let next = subst (λ (x : Option OpenLoadView). IsOfNext x (Kept_sums s)) load (subst (λ (x : Arriving). IsOfNext (open_load p) x) arriving i.next) in
    omega (arith, i.holds, ap header_kept load, ap contents_kept arriving, user_is_little l.header next.header)
