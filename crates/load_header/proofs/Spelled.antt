-- A header has one spelling.
use Rattle.std.proofs.Common.{◌≡◌, ℕ, ◌+◌, ◌/◌, ◌%◌, ◌<◌, ◌≤◌, ◌^◌, List, [], ◌++◌, length, refl, sym, ap, subst, ◌∙◌, arith, append_assoc}
use Rattle.std.specs.List.{concat}
use Rattle.std.proofs.lemmas.Bool.{leb-true, le-leb}
use Rattle.std.proofs.lemmas.List.{append-nil}
use Rattle.std.proofs.lemmas.List.Folds.{concat-append}
use Rattle.crc_fields.specs.CheckSums.{crc16_of}
use Rattle.field_grammar.specs.Grammar.{Follows}
use Rattle.field_grammar.specs.Spelling.{spelled_length, IsPlacedBy, SpellsWhole}
use Rattle.field_grammar.specs.Fields.{number_fields, padded_fields}
use Rattle.field_grammar.proofs.SectionLemmas.{size_more, size_number, offset_after}
use Rattle.header_sections.specs.SectionFields.{texts_fields, user_fields, IsUserData}
use Rattle.header_sections.proofs.SizeLemmas.{size_user}
use Rattle.load_header.specs.Header.{HeaderView, limit, head, header}
use Rattle.load_header.specs.HeaderFields.{positions_fields, files_fields, type_fields, type_offset, hardware_offset, positions_offset, data_offset, support_offset, user_offset, check_offset, header_size, pointers_of, head_fields, identity_fields, targets_fields, all_files_fields, sections_fields, covered_fields, header_fields, IsHeader}
use Rattle.load_header.specs.declared.reading.Pointers.{Pointers}
use Rattle.load_header.proofs.Groups.{Identity, identity_parts, IsIdentity, placed-identity, Targets, targets_parts, AreTargets, placed-targets, AllFiles, all_files_parts, AreFiles, placed-all_files, Tail, tail_parts, sums_parts, IsTail, placed-tail}
use Rattle.load_header.proofs.Heads.{Head, IsHead, ArePointers, size_head, head_to, head_from}
use Rattle.load_header.proofs.Sizes.{even_offset}

placed-limit : IsPlacedBy limit (λ before u. []) (λ before after u. after ≤ 65536)
unfolding limit
placed-limit = record {
  to = λ before fields after value follows.
      let (size, f1, o1, e1, h1, h2) = follows in
      let few : size ≤ 65536 = leb-true size 65536 h2.1 in
      let none : length (concat o1) ≡ 0 = rw h2.0 refl in
      (rw (e1, h1.0, h2.0) refl, omega (arith, few, h1.1, none));
  from = λ before after value fits. (after, [], [], refl, (refl, omega arith), (refl, le-leb after 65536 fits));
}

-- what a header holds, group by group
abbrev made : Head → Identity → Targets → AllFiles → Tail → HeaderView
made start what whom parts stop = record {
  flags = start.0;
  part = what.0;
  type_name = what.1;
  type_id = what.2;
  hardware = whom.0;
  positions = whom.1;
  data_files = parts.0;
  support_files = parts.1;
  user = stop.0;
  load_crc = stop.1;
}

-- the groups of what a header holds
abbrev what_of : HeaderView → Identity
what_of h = (h.part, h.type_name, h.type_id)

abbrev whom_of : HeaderView → Targets
whom_of h = (h.hardware, h.positions)

abbrev files_of : HeaderView → AllFiles
files_of h = (h.data_files, h.support_files)

abbrev stop_of : HeaderView → Tail
stop_of h = (h.user, h.load_crc)

size_identity : (h : HeaderView) → spelled_length (identity_parts (what_of h)) ≡ spelled_length (padded_fields h.part) + spelled_length (type_fields h)
unfolding type_fields
size_identity h = size_more (padded_fields h.part) (padded_fields h.type_name ++ number_fields 2 h.type_id)

size_targets : (h : HeaderView) → spelled_length (targets_parts (whom_of h)) ≡ spelled_length (texts_fields h.hardware) + spelled_length (positions_fields h.positions)
size_targets h = size_more (texts_fields h.hardware) (positions_fields h.positions)

size_files : (h : HeaderView) → spelled_length (all_files_parts (files_of h)) ≡ spelled_length (files_fields h.data_files) + spelled_length (files_fields h.support_files)
size_files h = size_more (files_fields h.data_files) (files_fields h.support_files)

size_tail : (before : List ℕ) (v : Tail) → spelled_length (tail_parts before v) ≡ spelled_length (user_fields v.0) + 8
size_tail before v =
    let sums : List (List ℕ) = sums_parts ((before ++ concat (user_fields v.0)) ++ concat (number_fields 2 0)) v.1 in
    omega (
      arith,
      size_more (user_fields v.0) (number_fields 2 0 ++ sums),
      size_more (number_fields 2 0) sums,
      size_more (number_fields 2 (crc16_of ((before ++ concat (user_fields v.0)) ++ concat (number_fields 2 0)))) (number_fields 4 v.1),
      size_number 2 0,
      size_number 2 (crc16_of ((before ++ concat (user_fields v.0)) ++ concat (number_fields 2 0))),
      size_number 4 v.1,
    )

-- the fields of a header, group by group, where the head and the check sums stand as they are read
abbrev group_fields : ℕ → Pointers → HeaderView → List ℕ → List (List ℕ)
group_fields size offsets h before =
    head_fields size h.flags offsets ++ (identity_parts (what_of h) ++ (targets_parts (whom_of h) ++ (all_files_parts (files_of h) ++ tail_parts before (stop_of h))))

-- what stands before the tail
abbrev prefix_of : ℕ → Pointers → HeaderView → List ℕ
prefix_of size offsets h =
    (((([] ++ []) ++ concat (head_fields size h.flags offsets)) ++ concat (identity_parts (what_of h))) ++ concat (targets_parts (whom_of h))) ++ concat (all_files_parts (files_of h))

joined : (a b c d e f : List (List ℕ)) → ((((([] ++ []) ++ concat a) ++ concat b) ++ concat c) ++ concat d ++ concat e) ++ concat f ≡ concat (a ++ (b ++ (c ++ (d ++ (e ++ f)))))
joined a b c d e f = simp (concat-append, append_assoc) refl

regrouped : (a b c d e f g : List (List ℕ)) → a ++ (b ++ (c ++ (d ++ (e ++ (f ++ g))))) ≡ (a ++ (b ++ (c ++ (d ++ (e ++ f))))) ++ g
regrouped a b c d e f g = simp append_assoc refl

-- these are the fields of the header
groups_are : (h : HeaderView) → group_fields (header_size h) (pointers_of h) h (prefix_of (header_size h) (pointers_of h) h) ≡ header_fields h
unfolding header_fields covered_fields sections_fields identity_fields targets_fields all_files_fields type_fields
groups_are h =
    let a : List (List ℕ) = head_fields (header_size h) h.flags (pointers_of h) in
    let b : List (List ℕ) = identity_parts (what_of h) in
    let c : List (List ℕ) = targets_parts (whom_of h) in
    let d : List (List ℕ) = all_files_parts (files_of h) in
    let e : List (List ℕ) = user_fields h.user in
    let f : List (List ℕ) = number_fields 2 0 in
    ap (λ (sum : ℕ). a ++ (b ++ (c ++ (d ++ (e ++ (f ++ (number_fields 2 sum ++ number_fields 4 h.load_crc))))))) (ap crc16_of (joined a b c d e f))
    ∙ regrouped a b c d e f (number_fields 2 (crc16_of (concat (a ++ (b ++ (c ++ (d ++ (e ++ f))))))) ++ number_fields 4 h.load_crc)

-- eight values as pointers
abbrev pointers_by : (a b c d e f g h : ℕ) → Pointers
pointers_by a b c d e f g h = record { part = a; type_name = b; hardware = c; positions = d; data_files = e; support_files = f; user = g; check_value = h }

same_pointers : (a b c d e f g h i j k l m n o p : ℕ) → a ≡ i → b ≡ j → c ≡ k → d ≡ l → e ≡ m → f ≡ n → g ≡ o → h ≡ p
    → pointers_by a b c d e f g h ≡ pointers_by i j k l m n o p
same_pointers a b c d e f g h i j k l m n o p e1 e2 e3 e4 e5 e6 e7 e8 = cc

half : (n m : ℕ) → n ≡ m → n / 2 ≡ m / 2
half n m same = ap (λ (k : ℕ). k / 2) same

-- groups back to back
follow_on : (fields f1 f2 f3 f4 o1 o2 o3 o4 a b c d : List (List ℕ)) → fields ≡ f1 ++ o1 → f1 ≡ a → o1 ≡ f2 ++ o2 → f2 ≡ b → o2 ≡ f3 ++ o3 → f3 ≡ c → o3 ≡ f4 ++ o4 → f4 ≡ d → o4 ≡ []
    → fields ≡ a ++ (b ++ (c ++ d))
follow_on fields f1 f2 f3 f4 o1 o2 o3 o4 a b c d e1 z1 e2 z2 e3 z3 e4 z4 none = rw (e1, z1, e2, z2, e3, z3, e4, z4, none, append-nil) refl

-- the sections and the check sums
abbrev rest_fields : HeaderView → List ℕ → List (List ℕ)
rest_fields h before = identity_parts (what_of h) ++ (targets_parts (whom_of h) ++ (all_files_parts (files_of h) ++ tail_parts before (stop_of h)))

size_rest : (h : HeaderView) (before : List ℕ) → 40 + spelled_length (rest_fields h before) ≡ header_size h
unfolding header_size
size_rest h before =
    let a : List (List ℕ) = identity_parts (what_of h) in
    let b : List (List ℕ) = targets_parts (whom_of h) in
    let c : List (List ℕ) = all_files_parts (files_of h) in
    let d : List (List ℕ) = tail_parts before (stop_of h) in
    let whole : spelled_length (a ++ (b ++ (c ++ d))) ≡ spelled_length a + (spelled_length b + (spelled_length c + spelled_length d)) = omega (arith, size_more a (b ++ (c ++ d)), size_more b (c ++ d), size_more c d) in
    omega (arith, whole, size_identity h, size_targets h, size_files h, size_tail before (stop_of h))

same_prefix : (f0 f1 f2 f3 f4 a b c d : List (List ℕ)) → f0 ≡ [] → f1 ≡ a → f2 ≡ b → f3 ≡ c → f4 ≡ d
    → (((([] ++ concat f0) ++ concat f1) ++ concat f2) ++ concat f3) ++ concat f4 ≡ (((([] ++ []) ++ concat a) ++ concat b) ++ concat c) ++ concat d
same_prefix f0 f1 f2 f3 f4 a b c d z0 z1 z2 z3 z4 = rw (z0, z1, z2, z3, z4) refl

header_to : (fields : List (List ℕ)) (after : ℕ) (value : HeaderView) → Follows header [] fields after value → (fields ≡ header_fields value) × IsHeader value × (after ≡ 0)
unfolding header pointers_of
header_to fields after value follows =
    let (u0, f0, o0, e0, h0, (start, f1, o1, e1, h1, (what, f2, o2, e2, h2, (whom, f3, o3, e3, h3, (parts, f4, o4, e4, h4, (stop, f5, o5, e5, h5, last)))))) = follows in
    let b0 : List ℕ = [] ++ concat f0 in
    let b1 : List ℕ = b0 ++ concat f1 in
    let b2 : List ℕ = b1 ++ concat f2 in
    let b3 : List ℕ = b2 ++ concat f3 in
    let b4 : List ℕ = b3 ++ concat f4 in
    let a0 = placed-limit.to [] f0 (length (concat o0) + after) u0 h0 in
    let a1 = head_to b0 f1 (length (concat o1) + after) start h1 in
    let a2 = (placed-identity start.1).to b1 f2 (length (concat o2) + after) what h2 in
    let a3 = (placed-targets start.1).to b2 f3 (length (concat o3) + after) whom h3 in
    let a4 = (placed-all_files start.1).to b3 f4 (length (concat o4) + after) parts h4 in
    let a5 = (placed-tail start.1).to b4 f5 (length (concat o5) + after) stop h5 in
    let is : HeaderView = made start what whom parts stop in
    let none : after ≡ 0 = omega (arith, a5.1.none) in
    let said : ℕ = 40 + (length (concat o1) + after) in
    let s1 : length b1 ≡ 40 = omega (arith, offset_after [] f0 [] a0.0, offset_after b0 f1 (head_fields said start.0 start.1) a1.0, size_head said start.0 start.1) in
    let s2 : length b2 ≡ hardware_offset is = omega (arith, s1, offset_after b1 f2 (identity_parts what) a2.0, size_identity is) in
    let s3 : length b3 ≡ data_offset is = omega (arith, s2, offset_after b2 f3 (targets_parts whom) a3.0, size_targets is) in
    let s4 : length b4 ≡ user_offset is = omega (arith, s3, offset_after b3 f4 (all_files_parts parts) a4.0, size_files is) in
    let offsets : start.1 ≡ pointers_of is = same_pointers _ _ _ _ _ _ _ _ _ _ _ _ _ _ _ _
    (a2.1.part_offset ∙ half (length b1) 40 s1)
    (a2.1.type_offset ∙ half (length b1 + spelled_length (padded_fields what.0)) (type_offset is) (omega (arith, s1)))
    (a3.1.hardware_offset ∙ half (length b2) (hardware_offset is) s2)
    (a3.1.positions_offset ∙ half (length b2 + spelled_length (texts_fields whom.0)) (positions_offset is) (omega (arith, s2)))
    (a4.1.data_offset ∙ half (length b3) (data_offset is) s3)
    (a4.1.support_offset ∙ half (length b3 + spelled_length (files_fields parts.0)) (support_offset is) (omega (arith, s3)))
    (a5.1.user_offset ∙ half (length b4) (user_offset is) s4)
    (a5.1.check_offset ∙ half (length b4 + spelled_length (user_fields stop.0)) (check_offset is) (omega (arith, s4))) in
    let others : o1 ≡ rest_fields is b4 =
    follow_on o1 f2 f3 f4 f5 o2 o3 o4 o5 (identity_parts what) (targets_parts whom) (all_files_parts parts) (tail_parts b4 stop) e2 a2.0 e3 a3.0 e4 a4.0 e5 a5.0 last.0 in
    let total : said ≡ header_size is = omega (arith, ap (λ (o : List (List ℕ)). spelled_length o) others, size_rest is b4, none) in
    let prefix : b4 ≡ prefix_of said start.1 is =
    same_prefix f0 f1 f2 f3 f4 (head_fields said start.0 start.1) (identity_parts what) (targets_parts whom) (all_files_parts parts) a0.0 a1.0 a2.0 a3.0 a4.0 in
    let grouped : fields ≡ group_fields said start.1 is b4 =
    e0 ∙ (ap (λ (f : List (List ℕ)). f ++ o0) a0.0 ∙ (e1 ∙ (ap (λ (f : List (List ℕ)). f ++ o1) a1.0 ∙ ap (λ (o : List (List ℕ)). head_fields said start.0 start.1 ++ o) others))) in
    let placed : fields ≡ group_fields said start.1 is (prefix_of said start.1 is) = grouped ∙ ap (λ (b : List ℕ). group_fields said start.1 is b) prefix in
    let sized : fields ≡ group_fields (header_size is) start.1 is (prefix_of (header_size is) start.1 is) = subst (λ (n : ℕ). fields ≡ group_fields n start.1 is (prefix_of n start.1 is)) total placed in
    let pointed : fields ≡ group_fields (header_size is) (pointers_of is) is (prefix_of (header_size is) (pointers_of is) is) =
    subst (λ (p : Pointers). fields ≡ group_fields (header_size is) p is (prefix_of (header_size is) p is)) offsets sized in
    let whole : fields ≡ header_fields is = pointed ∙ groups_are is in
    let first : spelled_length o0 ≡ 40 + spelled_length o1 =
    omega (arith, ap (λ (o : List (List ℕ)). spelled_length o) e1, size_more f1 o1, ap (λ (f : List (List ℕ)). spelled_length f) a1.0, size_head said start.0 start.1) in
    let fits : IsHeader is = record {
      flags = a1.1.flags;
      part = a2.1.part;
      type_name = a2.1.type_name;
      type_id = a2.1.type_id;
      hardware = a3.1.hardware;
      positions_count = a3.1.positions.0;
      positions = a3.1.positions.1;
      data_files = a4.1.data_files;
      support_files = a4.1.support_files;
      files = a4.1.few;
      user = a5.1.user.bytes;
      user_even = a5.1.user.even;
      load_crc = a5.1.load_crc;
      size = omega (arith, total, first, a0.1, none);
    } in
    subst (λ (v : HeaderView). (fields ≡ header_fields v) × IsHeader v × (after ≡ 0)) last.1 (whole, fits, none)

pointers_fit : (h : HeaderView) → IsHeader h → ArePointers (pointers_of h)
unfolding pointers_of header_size
pointers_fit h is =
    let size : check_offset h + 8 ≤ 65536 = is.size in record {
      part = omega arith;
      type_name = omega (arith, size);
      hardware = omega (arith, size);
      positions = omega (arith, size);
      data_files = omega (arith, size);
      support_files = omega (arith, size);
      user = omega (arith, size);
      check_value = omega (arith, size);
    }

even_size : (h : HeaderView) → IsHeader h → header_size h % 2 ≡ 0
unfolding header_size
even_size h is = omega (arith, even_offset h is.user_even)

user_small : (h : HeaderView) → IsHeader h → length h.user / 2 < 2 ^ 16
unfolding header_size
user_small h is =
    let size : check_offset h + 8 ≤ 65536 = is.size in
    omega (arith, size, size_user h.user)

header_from : (value : HeaderView) → IsHeader value → Follows header [] (header_fields value) 0 value
unfolding header pointers_of
header_from value fits =
    let size : ℕ = header_size value in
    let offsets : Pointers = pointers_of value in
    let a : List (List ℕ) = head_fields size value.flags offsets in
    let b : List (List ℕ) = identity_parts (what_of value) in
    let c : List (List ℕ) = targets_parts (whom_of value) in
    let d : List (List ℕ) = all_files_parts (files_of value) in
    let b1 : List ℕ = ([] ++ []) ++ concat a in
    let b2 : List ℕ = b1 ++ concat b in
    let b3 : List ℕ = b2 ++ concat c in
    let b4 : List ℕ = b3 ++ concat d in
    let e : List (List ℕ) = tail_parts b4 (stop_of value) in
    let rest : List (List ℕ) = b ++ (c ++ (d ++ e)) in
    let after : ℕ = length (concat rest) + 0 in
    let start : Head = (value.flags, offsets) in
    let s1 : length b1 ≡ 40 = omega (arith, offset_after ([] ++ []) a a refl, size_head size value.flags offsets) in
    let s2 : length b2 ≡ hardware_offset value = omega (arith, s1, offset_after b1 b b refl, size_identity value) in
    let s3 : length b3 ≡ data_offset value = omega (arith, s2, offset_after b2 c c refl, size_targets value) in
    let s4 : length b4 ≡ user_offset value = omega (arith, s3, offset_after b3 d d refl, size_files value) in
    let total : 40 + after ≡ size = omega (arith, size_rest value b4) in
    let whole : spelled_length (a ++ rest) ≡ size = omega (arith, size_more a rest, size_head size value.flags offsets, total) in
    let is_head : IsHead after start = record {
      size = omega (arith, total, fits.size);
      whole = omega (arith, total, even_size value fits);
      flags = fits.flags;
      pointers = pointers_fit value fits;
    } in
    let head_follows = subst (λ (n : ℕ). Follows head ([] ++ []) (head_fields n value.flags offsets) after start) total (head_from ([] ++ []) after start is_head) in
    let is_identity : IsIdentity offsets b1 (what_of value) = record {
      part_offset = half 40 (length b1) (sym s1);
      part = fits.part;
      type_offset = half (type_offset value) (length b1 + spelled_length (padded_fields value.part)) (omega (arith, s1));
      type_name = fits.type_name;
      type_id = fits.type_id;
    } in
    let are_targets : AreTargets offsets b2 (whom_of value) = record {
      hardware_offset = half (hardware_offset value) (length b2) (sym s2);
      hardware = fits.hardware;
      positions_offset = half (positions_offset value) (length b2 + spelled_length (texts_fields value.hardware)) (omega (arith, s2));
      positions = (fits.positions_count, fits.positions);
    } in
    let are_files : AreFiles offsets b3 (files_of value) = record {
      data_offset = half (data_offset value) (length b3) (sym s3);
      data_files = fits.data_files;
      support_offset = half (support_offset value) (length b3 + spelled_length (files_fields value.data_files)) (omega (arith, s3));
      support_files = fits.support_files;
      few = fits.files;
    } in
    let is_user : IsUserData value.user = record { bytes = fits.user; even = fits.user_even; size = user_small value fits } in
    let is_tail : IsTail offsets b4 (0 + 0) (stop_of value) = record {
      user_offset = half (user_offset value) (length b4) (sym s4);
      user = is_user;
      check_offset = half (check_offset value) (length b4 + spelled_length (user_fields value.user)) (omega (arith, s4));
      load_crc = fits.load_crc;
      none = refl;
    } in
    subst (λ (f : List (List ℕ)). Follows header [] f 0 value) (groups_are value) (
      tt,
      [],
      a ++ rest,
      refl,
      placed-limit.from [] (length (concat (a ++ rest)) + 0) tt (omega (arith, whole, fits.size)),
      (
        start,
        a,
        rest,
        refl,
        head_follows,
        (
          what_of value,
          b,
          c ++ (d ++ e),
          refl,
          (placed-identity offsets).from b1 _ (what_of value) is_identity,
          (
            whom_of value,
            c,
            d ++ e,
            refl,
            (placed-targets offsets).from b2 _ (whom_of value) are_targets,
            (
              files_of value,
              d,
              e,
              refl,
              (placed-all_files offsets).from b3 _ (files_of value) are_files,
              (stop_of value, e, [], sym (append-nil e), (placed-tail offsets).from b4 (0 + 0) (stop_of value) is_tail, (refl, refl)),
            ),
          ),
        ),
      ),
    )

-- a header is spelled by its fields
pub spells-header : SpellsWhole header header_fields IsHeader
spells-header = record { to = header_to; from = header_from }
