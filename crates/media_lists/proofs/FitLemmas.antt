-- When a list meets its limits, and what its entries so far tell of them.
use Rattle.std.proofs.Common.{◌≡◌, ℕ, ◌+◌, ◌%◌, ◌<◌, ◌≤◌, ◌^◌, List, [], ◌∷◌, ◌++◌, length, sym, ap, subst, ◌∙◌, arith, leb}
use Rattle.std.specs.Prelude.{map, IsTrue}
use Rattle.std.proofs.lemmas.Bool.{leb-true, le-leb}
use Rattle.std.proofs.lemmas.List.{map-append}
use Rattle.part_number.proofs.VerdictLemmas.{part_size}
use Rattle.part_number.specs.PartNumber.{IsPartNumberText}
use Rattle.field_grammar.specs.Spelling.{spelled_length}
use Rattle.field_grammar.specs.Grammar.{IsBytes}
use Rattle.media_lists.specs.Lists.{ListView}
use Rattle.header_sections.specs.SectionFields.{entries_fields}
use Rattle.media_lists.specs.ListFields.{IsMember, AreEntries, IsMediaList}
use Rattle.media_lists.specs.NameOrder.{IsOrder}
use Rattle.media_lists.proofs.SizeLemmas.{whole_size}

-- an entry was added after the others
pub order_pushed : {E : Type 0} (name_of : E → List ℕ) (es new : List E) (e : E) (offsets : List ℕ) → new ≡ es ++ e ∷ [] → IsOrder (map name_of es ++ name_of e ∷ []) offsets → IsOrder (map name_of new) offsets
order_pushed name_of es new e offsets pushed order =
    subst (λ (l : List (List ℕ)). IsOrder l offsets) (sym (ap (λ (l : List _). map name_of l) pushed ∙ map-append name_of es (e ∷ []))) order

-- a list that meets all limits but that of its size
pub list_tells : {E : Type 0} (P : ℕ → E → Type 0) (name_of : E → List ℕ) (f : E → List (List ℕ)) (v : ListView E) (entries size : ℕ) → IsPartNumberText v.set → v.members < 2 ^ 8 → IsBytes v.user
    → IsMember v.members v.member → (length v.user % 2 ≡ 0) × (length v.user ≤ 131070) → AreEntries (P v.members) name_of f v.entries
    → entries ≡ spelled_length (entries_fields f v.entries) → size ≡ 44 + entries + length v.user
    → (IsTrue (leb size 1048576) → IsMediaList P name_of f v) × (IsMediaList P name_of f v → IsTrue (leb size 1048576))
list_tells P name_of f v entries size set members bytes member user meet is total =
    let whole = whole_size f v entries (part_size v.set set) is in (
      λ small. record {
        set = set;
        member = member;
        members = members;
        entries = meet;
        user = bytes;
        user_even = user.0;
        user_size = user.1;
        size = omega (arith, whole, total, leb-true size 1048576 small);
      },
      λ fits. le-leb size 1048576 (omega (arith, whole, total, fits.size)),
    )
