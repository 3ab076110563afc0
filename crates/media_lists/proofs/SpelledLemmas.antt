-- A list is spelled by its fields, and by no others, and nothing stands after it.
use Rattle.std.proofs.Common.{◌≡◌, ℕ, ◌+◌, ◌/◌, ◌%◌, ◌<◌, ◌≤◌, ◌^◌, List, [], ◌++◌, length, refl, sym, ap, subst, ◌∙◌, arith, length-append, append_assoc}
use Rattle.std.specs.List.{concat}
use Rattle.std.proofs.lemmas.List.{append-nil}
use Rattle.std.proofs.lemmas.List.Folds.{concat-append}
use Rattle.crc_fields.specs.CheckSums.{crc16_of}
use Rattle.field_grammar.specs.Grammar.{Grammar, Follows, EndsTheBytes}
use Rattle.field_grammar.specs.Spelling.{IsSpelledBy, SpellsWhole, spelled_length}
use Rattle.field_grammar.proofs.ExactLemmas.{ends_renamed, ends_last, ends_before}
use Rattle.field_grammar.proofs.SectionLemmas.{size_more, size_number}
use Rattle.field_grammar.specs.Fields.{number_fields}
use Rattle.header_sections.specs.Sections.{end}
use Rattle.header_sections.proofs.SectionLemmas.{ends-end}
use Rattle.media_lists.specs.Lists.{refused, head, tail, check_sum, ListView, media_list}
use Rattle.media_lists.specs.Entries.{entries}
use Rattle.header_sections.specs.SectionFields.{entry_size, entries_fields, user_fields, IsUserData}
use Rattle.media_lists.specs.ListFields.{head_fields, entries_offset, user_offset, list_size, pointers_of, sections_fields, covered_fields, list_fields, IsMediaList}
use Rattle.media_lists.specs.declared.fault.ListFault.{ListFault}
use Rattle.media_lists.specs.declared.reading.Pointers.{Pointers}
use Rattle.media_lists.proofs.EntryLemmas.{placed-entries}
use Rattle.media_lists.proofs.HeadLemmas.{placed-limit, ArePointers}
use Rattle.media_lists.proofs.GroupLemmas.{IsHead, head_to, head_from, Identity, identity_parts, placed-identity, placed-tail}
use Rattle.media_lists.proofs.SizeLemmas.{size_head, even_size}

-- a format of entries, and how its entries are spelled
pub record HasEntries {E : Type 0} (body : ℕ → Grammar ListFault E) (f : E → List (List ℕ)) (P : ℕ → E → Type 0) : Type 0 where
  pub even : (e : E) → entry_size f e % 2 ≡ 0
  pub spelled : (members : ℕ) → IsSpelledBy (body members) f (P members)

abbrev pub list_of : {E : Type 0} → ℕ → (ℕ → Grammar ListFault E) → (E → List ℕ) → Grammar ListFault (ListView E)
list_of version body name_of = media_list version (λ members said. entries (body members) name_of said)

-- ---- what is read is spelled so

abbrev what_of : {E : Type 0} → ListView E → Identity
what_of v = (v.set, v.member, v.members)

abbrev end_of : List ℕ → List (List ℕ)
end_of before = number_fields 2 (crc16_of before)

same_pointers : (p : Pointers) (a b c : ℕ) → p.set ≡ a → p.entries ≡ b → p.user ≡ c → p ≡ record { set = a; entries = b; user = c }
same_pointers p a b c set entries user =
    ap (λ (x : ℕ). record { set = x; entries = p.entries; user = p.user }) set
    ∙ (ap (λ (x : ℕ). record { set = a; entries = x; user = p.user }) entries ∙ ap (λ (x : ℕ). record { set = a; entries = b; user = x }) user)

-- what stands before the check sum
all_before : (h w f u : List (List ℕ)) → (((([] ++ concat []) ++ concat h) ++ concat w) ++ concat f) ++ concat u ≡ concat (h ++ (w ++ (f ++ u)))
all_before h w f u =
    sym (concat-append h (w ++ (f ++ u)) ∙ (ap (λ (l : List ℕ). concat h ++ l) (concat-append w (f ++ u) ∙ ap (λ (l : List ℕ). concat w ++ l) (concat-append f u))
    ∙ (sym (append_assoc (concat h) (concat w) (concat f ++ concat u)) ∙ sym (append_assoc (concat h ++ concat w) (concat f) (concat u)))))

list_to : {E : Type 0} (version : ℕ) (body : ℕ → Grammar ListFault E) (name_of : E → List ℕ) (f : E → List (List ℕ)) (P : ℕ → E → Type 0) → version < 2 ^ 16 → HasEntries body f P
    → (fields : List (List ℕ)) (after : ℕ) (value : ListView E) → Follows (list_of version body name_of) [] fields after value
    → (fields ≡ list_fields version f value) × IsMediaList P name_of f value × (after ≡ 0)
unfolding media_list list_fields covered_fields sections_fields list_size pointers_of
list_to {E = E} version body name_of f P small has fields after value follows =
    let (u0, f0, o0, e0, h0, (offsets, f1, o1, e1, h1, (what, f2, o2, e2, h2, (list, f3, o3, e3, h3, (user, f4, o4, e4, h4, last))))) = follows in
    let b0 : List ℕ = [] ++ concat f0 in
    let b1 : List ℕ = b0 ++ concat f1 in
    let b2 : List ℕ = b1 ++ concat f2 in
    let b3 : List ℕ = b2 ++ concat f3 in
    let a0 = placed-limit.to [] f0 (length (concat o0) + after) u0 h0 in
    let a1 = head_to version small b0 f1 (length (concat o1) + after) offsets h1 in
    let a2 = (placed-identity offsets.set).to b1 f2 (length (concat o2) + after) what h2 in
    let a3 = (placed-entries (body what.2) name_of f (P what.2) has.even (has.spelled what.2) offsets.entries).to b2 f3 (length (concat o3) + after) list h3 in
    let a4 = (placed-tail offsets.user).to b3 f4 (length (concat o4) + after) user h4 in
    let v : ListView E = record { set = what.0; member = what.1; members = what.2; entries = list; user = user } in
    let w : List (List ℕ) = identity_parts what in
    let l : List (List ℕ) = entries_fields f list in
    let u : List (List ℕ) = user_fields user in
    let sum : List (List ℕ) = end_of (b3 ++ concat u) in
    let none : length (concat o4) ≡ 0 = rw last.0 refl in
    let done : after ≡ 0 = omega (arith, a4.1.1) in
    let others : o1 ≡ w ++ (l ++ (u ++ sum)) =
    e2 ∙ (ap (λ (f : List (List ℕ)). f ++ o2) a2.0 ∙ ap (λ (o : List (List ℕ)). w ++ o)
    (e3 ∙ (ap (λ (f : List (List ℕ)). f ++ o3) a3.0 ∙ ap (λ (o : List (List ℕ)). l ++ o) (e4 ∙ (ap (λ (o : List (List ℕ)). f4 ++ o) last.0 ∙ (append-nil f4 ∙ a4.0)))))) in
    let two : spelled_length sum ≡ 2 = size_number 2 (crc16_of (b3 ++ concat u)) in
    let rest : length (concat o1) ≡ spelled_length w + (spelled_length l + (spelled_length u + 2)) =
    ap (λ (o : List (List ℕ)). spelled_length o) others ∙ omega (arith, two, size_more w (l ++ (u ++ sum)), size_more l (u ++ sum), size_more u sum) in
    let size : 20 + (length (concat o1) + after) ≡ list_size f v = omega (arith, rest, done) in
    let offset0 : length b0 ≡ 0 = rw a0.0 refl in
    let offset1 : length b1 ≡ 20 = length-append b0 (concat f1) ∙ omega (arith, offset0, ap (λ (f : List (List ℕ)). spelled_length f) a1.0, size_head version (20 + (length (concat o1) + after)) offsets) in
    let offset2 : length b2 ≡ entries_offset v = length-append b1 (concat f2) ∙ omega (arith, offset1, ap (λ (f : List (List ℕ)). spelled_length f) a2.0) in
    let offset3 : length b3 ≡ user_offset f v = length-append b2 (concat f3) ∙ omega (arith, offset2, ap (λ (f : List (List ℕ)). spelled_length f) a3.0) in
    let set_is : offsets.set ≡ 10 = a2.1.offset ∙ ap (λ (n : ℕ). n / 2) offset1 in
    let entries_is : offsets.entries ≡ entries_offset v / 2 = a3.1.0 ∙ ap (λ (n : ℕ). n / 2) offset2 in
    let user_is : offsets.user ≡ user_offset f v / 2 = a4.1.0.0 ∙ ap (λ (n : ℕ). n / 2) offset3 in
    let offsets_are : offsets ≡ pointers_of f v = same_pointers offsets 10 (entries_offset v / 2) (user_offset f v / 2) set_is entries_is user_is in
    let h : List (List ℕ) = head_fields version (list_size f v) (pointers_of f v) in
    let head_is : f1 ≡ h = a1.0 ∙ (ap (λ (n : ℕ). head_fields version n offsets) size ∙ ap (λ (p : Pointers). head_fields version (list_size f v) p) offsets_are) in
    let before_is : b3 ++ concat u ≡ concat (h ++ (w ++ (l ++ u))) = rw (a0.0, head_is, a2.0, a3.0) (all_before h w l u) in
    let parts : fields ≡ h ++ (w ++ (l ++ (u ++ sum))) = e0 ∙ (ap (λ (f : List (List ℕ)). f ++ o0) a0.0 ∙ (e1 ∙ (ap (λ (f : List (List ℕ)). f ++ o1) head_is ∙ ap (λ (o : List (List ℕ)). h ++ o) others))) in
    let whole : fields ≡ list_fields version f v = parts ∙ ap (λ (s : List (List ℕ)). h ++ (w ++ (l ++ (u ++ s)))) (ap end_of before_is) ∙ simp append_assoc refl in
    let gone : length (concat o0) ≡ list_size f v =
    omega (arith, size, done, ap (λ (o : List (List ℕ)). spelled_length o) e1, size_more f1 o1, ap (λ (f : List (List ℕ)). spelled_length f) a1.0, size_head version (20 + (length (concat o1) + after)) offsets) in
    let fits : IsMediaList P name_of f v = record {
      set = a2.1.set;
      member = a2.1.member.0;
      members = a2.1.member.1;
      entries = a3.1.1;
      user = a4.1.0.1.bytes;
      user_even = a4.1.0.1.even;
      user_size = omega (arith, a4.1.0.1.even, a4.1.0.1.size);
      size = omega (arith, a0.1, gone, done);
    } in
    subst (λ (x : ListView E). (fields ≡ list_fields version f x) × IsMediaList P name_of f x × (after ≡ 0)) last.1 (whole, fits, done)

-- ---- what is spelled so is read

pointers_fit : {E : Type 0} (f : E → List (List ℕ)) (v : ListView E) → list_size f v ≤ 1048576 → ArePointers (pointers_of f v)
unfolding pointers_of list_size
pointers_fit f v small = record { set = omega arith; entries = omega (arith, small); user = omega (arith, small) }

list_from : {E : Type 0} (version : ℕ) (body : ℕ → Grammar ListFault E) (name_of : E → List ℕ) (f : E → List (List ℕ)) (P : ℕ → E → Type 0) → version < 2 ^ 16 → HasEntries body f P
    → (v : ListView E) → IsMediaList P name_of f v → Follows (list_of version body name_of) [] (list_fields version f v) 0 v
unfolding media_list list_fields covered_fields sections_fields list_size pointers_of
list_from {E = E} version body name_of f P small has v fits =
    let size : ℕ = list_size f v in
    let offsets : Pointers = pointers_of f v in
    let h : List (List ℕ) = head_fields version size offsets in
    let w : List (List ℕ) = identity_parts (what_of v) in
    let l : List (List ℕ) = entries_fields f v.entries in
    let u : List (List ℕ) = user_fields v.user in
    let b0 : List ℕ = [] ++ concat [] in
    let b1 : List ℕ = b0 ++ concat h in
    let b2 : List ℕ = b1 ++ concat w in
    let b3 : List ℕ = b2 ++ concat l in
    let sum : List (List ℕ) = end_of (b3 ++ concat u) in
    let rest : List (List ℕ) = w ++ (l ++ (u ++ sum)) in
    let after : ℕ = length (concat rest) + 0 in
    let offset1 : length b1 ≡ 20 = size_head version size offsets in
    let offset2 : length b2 ≡ entries_offset v = length-append b1 (concat w) ∙ omega (arith, offset1) in
    let offset3 : length b3 ≡ user_offset f v = length-append b2 (concat l) ∙ omega (arith, offset2) in
    let total : 20 + after ≡ size =
    omega (arith, size_more w (l ++ (u ++ sum)), size_more l (u ++ sum), size_more u sum, size_number 2 (crc16_of (b3 ++ concat u))) in
    let whole : spelled_length (h ++ rest) ≡ size = omega (arith, size_more h rest, size_head version size offsets, total) in
    let even : size % 2 ≡ 0 = even_size f has.even v fits.user_even in
    let is_head : IsHead after offsets = record { size = omega (arith, total, fits.size); whole = omega (arith, total, even); pointers = pointers_fit f v fits.size } in
    let head_follows = subst (λ (n : ℕ). Follows (head version) b0 (head_fields version n offsets) after offsets) total (head_from version small b0 after offsets is_head) in
    let is_user : IsUserData v.user = record { bytes = fits.user; even = fits.user_even; size = omega (arith, fits.user_size) } in
    let sum_is : sum ≡ end_of (concat (h ++ (w ++ (l ++ u)))) = ap end_of (all_before h w l u) in
    let fields_are : h ++ rest ≡ list_fields version f v = ap (λ (s : List (List ℕ)). h ++ (w ++ (l ++ (u ++ s)))) sum_is ∙ simp append_assoc refl in
    subst (λ (s : List (List ℕ)). Follows (list_of version body name_of) [] s 0 v) fields_are (
      tt,
      [],
      h ++ rest,
      refl,
      placed-limit.from [] (length (concat (h ++ rest)) + 0) tt (omega (arith, whole, fits.size)),
      (
        offsets,
        h,
        rest,
        refl,
        head_follows,
        (
          what_of v,
          w,
          l ++ (u ++ sum),
          refl,
          (placed-identity offsets.set).from b1 _ (what_of v) (record { offset = ap (λ (n : ℕ). n / 2) (sym offset1); set = fits.set; member = (fits.member, fits.members) }),
          (
            v.entries,
            l,
            u ++ sum,
            refl,
            (placed-entries (body v.members) name_of f (P v.members) has.even (has.spelled v.members) offsets.entries).from b2 _ v.entries (ap (λ (n : ℕ). n / 2) (sym offset2), fits.entries),
            (v.user, u ++ sum, [], sym (append-nil (u ++ sum)), (placed-tail offsets.user).from b3 (0 + 0) v.user ((ap (λ (n : ℕ). n / 2) (sym offset3), is_user), refl), (refl, refl)),
          ),
        ),
      ),
    )

pub spells-list : {E : Type 0} (version : ℕ) (body : ℕ → Grammar ListFault E) (name_of : E → List ℕ) (f : E → List (List ℕ)) (P : ℕ → E → Type 0) → version < 2 ^ 16 → HasEntries body f P
    → SpellsWhole (list_of version body name_of) (list_fields version f) (IsMediaList P name_of f)
spells-list version body name_of f P small has = record { to = list_to version body name_of f P small has; from = list_from version body name_of f P small has }

-- ---- nothing stands after it

ends-check_sum : EndsTheBytes check_sum
unfolding check_sum
ends-check_sum = ends_last _ _ (λ before. ends_last _ _ (λ said. ends_renamed refused (end said (crc16_of before)) (ends-end said (crc16_of before))))

ends-tail : (said : ℕ) → EndsTheBytes (tail said)
unfolding tail
ends-tail said = ends_last _ _ (λ user. ends_before _ _ ends-check_sum)

pub ends-media_list : {E : Type 0} (version : ℕ) (section_of : ℕ → ℕ → Grammar ListFault (List E)) → EndsTheBytes (media_list version section_of)
unfolding media_list
ends-media_list version section_of = ends_last _ _ (λ limit. ends_last _ _ (λ offsets. ends_last _ _ (λ what. ends_last _ _ (λ list. ends_before _ _ (ends-tail offsets.user)))))
