-- A folder into which a built set was written has the set.
use Rattle.std.proofs.Common.{◌≡◌, ℕ, zero, suc, ◌+◌, ◌%◌, ◌<◌, ◌≤◌, ◌^◌, Bool, true, false, cond, List, [], ◌∷◌, ◌++◌, length, Option, Some, None, refl, sym, ap, subst, ◌∙◌, arith}
use Rattle.std.specs.Prelude.{map, filter, codes, ◌==◌}
use Rattle.std.specs.Fmt.{decimal}
use Rattle.std.specs.List.{AllByRecursion, IsDistinct, flat_map, range_with_len}
use Rattle.std.proofs.lemmas.Bool.{eq-eqb, eqb-true, eqb-false}
use Rattle.std.proofs.lemmas.Fmt.{decimal_by_steps, decimal_injective}
use Rattle.std.proofs.lemmas.List.{append_cancel_left, map-append, length-map}
use Rattle.std.proofs.lemmas.List.FromFn.{length-map-range_with_len}
use Rattle.load_base.specs.Bytes.{same_bytes}
use Rattle.load_base.proofs.EqualityLemmas.{equal_bytes}
use Rattle.load_base.specs.Host.{Files}
use Rattle.load_base.specs.Listed.{Listed}
use Rattle.media_check.specs.HostNames.{host_name, host_media, batches_name}
use Rattle.media_check.specs.declared.built.Built.{Built}
use Rattle.media_check.specs.declared.built.Placed.{Placed}
use Rattle.media_build.specs.Accepted.{IsMemberOf, IsFileLine, IsRecipe}
use Rattle.media_build.specs.HostWrites.{Written, after_writes, written_list, written_body, is_of, written_bodies, written_member, written_files}
use Rattle.media_build.specs.Lines.{members_of}
use Rattle.media_build.specs.NoFindings.{body_view, built_view, HaveBatches, HaveFiles, HaveSet}
use Rattle.media_build.specs.RecipeSets.{Sources, RecipeLoadView, RecipeBatchView, BodyView, BuiltView, batches_of, batch_body, batches_list_bytes, batches_list_of, where_some, loads_of, data_of, support_of, files_of, header_bytes, header_of, file_body, load_bodies, recipe_bodies, loads_list_bytes, files_list_bytes, recipe_set}
use Rattle.media_build.specs.Recipes.{ends_with, is_header_name, is_body_name, is_batch_name}
use Rattle.media_build.specs.WrittenFolders.{HasNoOtherBatches}
use Rattle.media_build.specs.declared.statements.RecipeLine.{RecipeLine}
use Rattle.media_build.proofs.BuiltFindings.{all_of_map}
use Rattle.media_build.proofs.BuiltHeaders.{all_filter, first_part, second_part}
use Rattle.media_build.proofs.BuiltLists.{all_append, all_flat, all_map, all_same, IsSoundLoad, sound_loads, data_files, support_files, IsSoundBody, sound_bodies, IsSoundBatch, sound_batches, has_start}
use Rattle.media_build.proofs.BuiltNames.{body_name, itself, bodies_are_distinct}
use Rattle.media_build.proofs.BuiltSet.{list_there, list_where_some}

-- ---- names of the host

abbrev NoSlash : List ℕ → Type 0
NoSlash bytes = AllByRecursion (λ byte. byte ≡ 47 → ⊥) bytes

no_slash_more : (bytes : List ℕ) (byte : ℕ) → NoSlash bytes → (byte ≡ 47 → ⊥) → NoSlash (bytes ++ byte ∷ [])
no_slash_more [] byte all this = (this, tt)
no_slash_more (b ∷ bytes) byte all this = (all.0, no_slash_more bytes byte all.1 this)

no_slash : (n : ℕ) → n < 2 ^ 64 → NoSlash (decimal n)
no_slash n small = decimal_by_steps (λ n ds. NoSlash ds) (λ n low. (λ e. omega (arith, e), tt)) (λ n ds high rest. no_slash_more ds (48 + n % 10) rest (λ e. omega (arith, e))) n small

first_of : (x y : ℕ) (xs ys : List ℕ) → x ∷ xs ≡ y ∷ ys → x ≡ y
first_of x y xs ys e = cc

rest_of : (x y : ℕ) (xs ys : List ℕ) → x ∷ xs ≡ y ∷ ys → xs ≡ ys
rest_of x y xs ys e = cc

-- what stands before the first slash, and what stands after it
same_parts : (xs ys a b : List ℕ) → NoSlash xs → NoSlash ys → xs ++ (47 ∷ a) ≡ ys ++ (47 ∷ b) → (xs ≡ ys) × (a ≡ b)
same_parts [] [] a b p q e = (refl, rest_of 47 47 a b e)
same_parts [] (y ∷ ys) a b p q e = absurd (q.0 (sym (first_of 47 y a (ys ++ (47 ∷ b)) e)))
same_parts (x ∷ xs) [] a b p q e = absurd (p.0 (first_of x 47 (xs ++ (47 ∷ a)) b e))
same_parts (x ∷ xs) (y ∷ ys) a b p q e =
    let rest = same_parts xs ys a b p.1 q.1 (rest_of x y (xs ++ (47 ∷ a)) (ys ++ (47 ∷ b)) e) in
    (cc (first_of x y (xs ++ (47 ∷ a)) (ys ++ (47 ∷ b)) e, rest.0), rest.1)

-- a name in the root of a member
abbrev name_in : (folder : List ℕ) (member : ℕ) (name : List ℕ) → List ℕ
name_in folder member name = host_name folder member (codes "\\") name

same_place : (folder : List ℕ) (m k : ℕ) (a b : List ℕ) → m < 2 ^ 64 → k < 2 ^ 64 → name_in folder m a ≡ name_in folder k b → (m ≡ k) × (a ≡ b)
unfolding host_name
same_place folder m k a b small other e =
    let inside = append_cancel_left folder _ _ e in
    let after = rest_of 47 47 (decimal m ++ (47 ∷ a)) (decimal k ++ (47 ∷ b)) inside in
    let parts = same_parts (decimal m) (decimal k) a b (no_slash m small) (no_slash k other) after in
    (decimal_injective m k small other parts.0, parts.1)

by_test : (a b : List ℕ) → (a ≡ b → ⊥) → same_bytes a b ≡ false
by_test a b differ = by (same_bytes a b) refl
  where
    by : (t : Bool) → same_bytes a b ≡ t → t ≡ false
    by true e = absurd (differ ((equal_bytes a b).0 e))
    by false e = refl

true_or_false : (b : Bool) → b ≡ true → b ≡ false → ⊥
true_or_false true one other = absurd cc
true_or_false false one other = absurd cc

other_members : (folder : List ℕ) (m k : ℕ) (a b : List ℕ) → m < k → k < 2 ^ 64 → same_bytes (name_in folder m a) (name_in folder k b) ≡ false
other_members folder m k a b less small = by_test (name_in folder m a) (name_in folder k b) (λ e. let same = (same_place folder m k a b (omega (arith, less, small)) small e).0 in omega (arith, same, less))

other_names : (folder : List ℕ) (m : ℕ) (a b : List ℕ) → m < 2 ^ 64 → same_bytes a b ≡ false → same_bytes (name_in folder m a) (name_in folder m b) ≡ false
other_names folder m a b small differ =
    by_test (name_in folder m a) (name_in folder m b) (λ e. true_or_false (same_bytes a b) (subst (λ (n : List ℕ). same_bytes a n ≡ true) (same_place folder m m a b small small e).1 (itself a)) differ)

-- ---- what writing leaves under names that differ

untouched : (later : List Written) (files : Files) (name : List ℕ) → AllByRecursion (λ w. same_bytes name w ≡ false) (map (λ w. w.0) later) → after_writes later files name ≡ files name
untouched [] files name apart = refl
untouched (this ∷ later) files name apart =
    untouched later (λ other. cond (same_bytes other this.0) (Some this.1) (files other)) name apart.1 ∙ rw apart.0 refl

abbrev AreWritten : (written : List Written) → Files → List Written → Type 0
AreWritten written files some = AllByRecursion (λ w. after_writes written files w.0 ≡ Some w.1) some

pub all_are_written : (written : List Written) (files : Files) → IsDistinct same_bytes (map (λ w. w.0) written) → AreWritten written files written
unfolding IsDistinct
all_are_written [] files all = tt
all_are_written (this ∷ later) files all =
    (untouched later (λ other. cond (same_bytes other this.0) (Some this.1) (files other)) this.0 all.0 ∙ rw (itself this.0) refl, all_are_written later (λ other. cond (same_bytes other this.0) (Some this.1) (files other)) all.1)

-- ---- the files of a member

-- a file in the folder of this member
abbrev put_in : (folder : List ℕ) (member : ℕ) → BodyView → Written
put_in folder member body = (name_in folder member body.name, body.bytes)

-- its lists and its files
abbrev member_files : (folder : List ℕ) → (loads files : ℕ → List ℕ) → (batches : ℕ → Option (List ℕ)) → List BodyView → (member : ℕ) → List Written
member_files folder loads files batches bodies member =
    (name_in folder member (codes "LOADS.LUM"), loads member) ∷ (name_in folder member (codes "FILES.LUM"), files member)
    ∷ (written_list (name_in folder member (codes "BATCHES.LUM")) (batches member) ++ map (put_in folder member) (filter (λ body. body.member == member) bodies))

bodies_written : (folder : List ℕ) (member : ℕ) (bodies : List Placed)
    → written_bodies folder member bodies ≡ map (put_in folder member) (filter (λ body. body.member == member) (map body_view bodies))
bodies_written folder member [] = refl
bodies_written folder member (body ∷ bodies) = by (body.member == member) refl (bodies_written folder member bodies)
  where
    by : (b : Bool) → (body.member == member) ≡ b
        → written_bodies folder member bodies ≡ map (put_in folder member) (filter (λ other. other.member == member) (map body_view bodies))
        → map (written_body folder) (cond b (body ∷ filter (is_of member) bodies) (filter (is_of member) bodies))
        ≡ map (put_in folder member) (cond b (body_view body ∷ filter (λ other. other.member == member) (map body_view bodies)) (filter (λ other. other.member == member) (map body_view bodies)))
    by true e rest =
        let same : body.member ≡ member = eqb-true body.member member e in
        let here : written_body folder body ≡ put_in folder member (body_view body) = ap (λ (m : ℕ). (name_in folder m body.name, body.bytes.items)) same in
        cc (here, rest)
    by false e rest = rest

-- ---- names that differ

pub record IsNoList (body : BodyView) : Type 0 where
  pub loads : same_bytes (codes "LOADS.LUM") body.name ≡ false
  pub files : same_bytes (codes "FILES.LUM") body.name ≡ false
  pub batches : same_bytes (codes "BATCHES.LUM") body.name ≡ false

-- the names of the lists end with `.LUM`
no_list_by : (P : List ℕ → Bool) (body : BodyView) → P body.name ≡ true → P (codes "LOADS.LUM") ≡ false → P (codes "FILES.LUM") ≡ false → P (codes "BATCHES.LUM") ≡ false → IsNoList body
no_list_by P body is loads files batches = record {
  loads = by_test (codes "LOADS.LUM") body.name (λ e. true_or_false (P body.name) is (subst (λ (n : List ℕ). P n ≡ false) e loads));
  files = by_test (codes "FILES.LUM") body.name (λ e. true_or_false (P body.name) is (subst (λ (n : List ℕ). P n ≡ false) e files));
  batches = by_test (codes "BATCHES.LUM") body.name (λ e. true_or_false (P body.name) is (subst (λ (n : List ℕ). P n ≡ false) e batches));
}

header_is_no_list : (body : BodyView) → is_header_name body.name ≡ true → IsNoList body
unfolding ends_with
header_is_no_list body is = no_list_by is_header_name body is refl refl refl

body_is_no_list : (body : BodyView) → is_body_name body.name ≡ true → IsNoList body
unfolding ends_with
body_is_no_list body is = no_list_by is_body_name body is refl refl refl

batch_is_no_list : (body : BodyView) → is_batch_name body.name ≡ true → IsNoList body
unfolding ends_with
batch_is_no_list body is = no_list_by is_batch_name body is refl refl refl

no_lists_of_load : (sources : Sources) (members : ℕ) (load : RecipeLoadView) → IsSoundLoad members load → AllByRecursion IsNoList (load_bodies sources load)
unfolding load_bodies
no_lists_of_load sources members load is =
    let files = all_append (IsFileLine members) (data_of load) (support_of load) (data_files members load is) (support_files members load is) in
    let head : BodyView = record { name = load.load.name; member = load.load.member; bytes = header_bytes (header_of sources load) } in
    (header_is_no_list head is.line.header, all_map (IsFileLine members) IsNoList (file_body sources) (λ file line. body_is_no_list (file_body sources file) line.body) (files_of load) files)

pub no_lists : (sources : Sources) (lines : List RecipeLine) → IsRecipe lines → AllByRecursion IsNoList (recipe_bodies sources lines)
unfolding recipe_bodies
no_lists sources lines is =
    all_append IsNoList (flat_map (load_bodies sources) (loads_of lines)) (map batch_body (batches_of lines))
    (all_flat (IsSoundLoad (members_of lines)) IsNoList (load_bodies sources) (no_lists_of_load sources (members_of lines)) (loads_of lines) (sound_loads lines is))
    (all_map (IsSoundBatch (members_of lines)) IsNoList batch_body (λ batch sound. batch_is_no_list (batch_body batch) sound.line.file) (batches_of lines) (sound_batches lines is))

abbrev AreApart : List ℕ → List (List ℕ) → Type 0
AreApart name names = AllByRecursion (λ other. same_bytes name other ≡ false) names

apart_filter : (p : BodyView → Bool) (name : List ℕ) (bodies : List BodyView) → AreApart name (map body_name bodies) → AreApart name (map body_name (filter p bodies))
apart_filter p name [] all = tt
apart_filter p name (body ∷ bodies) all = by (p body) (apart_filter p name bodies all.1)
  where
    by : (b : Bool) → AreApart name (map body_name (filter p bodies)) → AreApart name (map body_name (cond b (body ∷ filter p bodies) (filter p bodies)))
    by true rest = (all.0, rest)
    by false rest = rest

distinct_filter : (p : BodyView → Bool) (bodies : List BodyView) → IsDistinct same_bytes (map body_name bodies) → IsDistinct same_bytes (map body_name (filter p bodies))
unfolding IsDistinct
distinct_filter p [] all = tt
distinct_filter p (body ∷ bodies) all = by (p body) (apart_filter p body.name bodies all.0) (distinct_filter p bodies all.1)
  where
    by : (b : Bool) → AreApart body.name (map body_name (filter p bodies)) → IsDistinct same_bytes (map body_name (filter p bodies))
        → IsDistinct same_bytes (map body_name (cond b (body ∷ filter p bodies) (filter p bodies)))
    by true here rest = (here, rest)
    by false here rest = rest

-- the host's names of some files
abbrev names_of_files : List Written → List (List ℕ)
names_of_files files = map (λ file. file.0) files

apart_in : (folder : List ℕ) (member : ℕ) (name : List ℕ) (bodies : List BodyView) → member < 2 ^ 64 → AreApart name (map body_name bodies)
    → AreApart (name_in folder member name) (names_of_files (map (put_in folder member) bodies))
apart_in folder member name [] small all = tt
apart_in folder member name (body ∷ bodies) small all = (other_names folder member name body.name small all.0, apart_in folder member name bodies small all.1)

distinct_in : (folder : List ℕ) (member : ℕ) (bodies : List BodyView) → member < 2 ^ 64 → IsDistinct same_bytes (map body_name bodies)
    → IsDistinct same_bytes (names_of_files (map (put_in folder member) bodies))
unfolding IsDistinct
distinct_in folder member [] small all = tt
distinct_in folder member (body ∷ bodies) small all = (apart_in folder member body.name bodies small all.0, distinct_in folder member bodies small all.1)

-- what holds of the name of a list that may be there, and of others
with_list : (P : List ℕ → Type 0) (name : List ℕ) (list : Option (List ℕ)) (rest : List Written) → P name → AllByRecursion P (names_of_files rest)
    → AllByRecursion P (names_of_files (written_list name list ++ rest))
with_list P name None rest here all = all
with_list P name (Some bytes) rest here all = (here, all)

distinct_list : (name : List ℕ) (list : Option (List ℕ)) (rest : List Written) → AreApart name (names_of_files rest) → IsDistinct same_bytes (names_of_files rest)
    → IsDistinct same_bytes (names_of_files (written_list name list ++ rest))
unfolding IsDistinct
distinct_list name None rest apart all = all
distinct_list name (Some bytes) rest apart all = (apart, all)

-- the files of one member
distinct_member : (folder : List ℕ) (loads files : ℕ → List ℕ) (batches : ℕ → Option (List ℕ)) (bodies : List BodyView) (member : ℕ) → member < 2 ^ 64 → AllByRecursion IsNoList bodies
    → IsDistinct same_bytes (map body_name bodies) → IsDistinct same_bytes (names_of_files (member_files folder loads files batches bodies member))
unfolding IsDistinct
distinct_member folder loads files batches bodies member small none all =
    let some : List BodyView = filter (λ body. body.member == member) bodies in
    let put : List Written = map (put_in folder member) some in
    let own : List ℕ = name_in folder member (codes "BATCHES.LUM") in
    let other = all_filter IsNoList (λ (body : BodyView). body.member == member) bodies none in
    let of_loads = all_map IsNoList (λ (n : List ℕ). same_bytes (codes "LOADS.LUM") n ≡ false) body_name (λ body no. no.loads) some other in
    let of_files = all_map IsNoList (λ (n : List ℕ). same_bytes (codes "FILES.LUM") n ≡ false) body_name (λ body no. no.files) some other in
    let of_batches = all_map IsNoList (λ (n : List ℕ). same_bytes (codes "BATCHES.LUM") n ≡ false) body_name (λ body no. no.batches) some other in
    let loads_apart = with_list (λ n. same_bytes (name_in folder member (codes "LOADS.LUM")) n ≡ false) own (batches member) put
    (other_names folder member (codes "LOADS.LUM") (codes "BATCHES.LUM") small refl) (apart_in folder member (codes "LOADS.LUM") some small of_loads) in
    let files_apart = with_list (λ n. same_bytes (name_in folder member (codes "FILES.LUM")) n ≡ false) own (batches member) put
    (other_names folder member (codes "FILES.LUM") (codes "BATCHES.LUM") small refl) (apart_in folder member (codes "FILES.LUM") some small of_files) in
    let rest = distinct_list own (batches member) put (apart_in folder member (codes "BATCHES.LUM") some small of_batches)
    (distinct_in folder member some small (distinct_filter (λ (body : BodyView). body.member == member) bodies all)) in
    ((other_names folder member (codes "LOADS.LUM") (codes "FILES.LUM") small refl, loads_apart), (files_apart, rest))

distinct_append : (xs ys : List (List ℕ)) → IsDistinct same_bytes xs → IsDistinct same_bytes ys → AllByRecursion (λ x. AreApart x ys) xs → IsDistinct same_bytes (xs ++ ys)
unfolding IsDistinct
distinct_append [] ys first second across = second
distinct_append (x ∷ xs) ys first second across =
    (all_append (λ (other : List ℕ). same_bytes x other ≡ false) xs ys first.0 across.0, distinct_append xs ys first.1 second across.1)

-- names in one member and in a later one
apart_put : (folder : List ℕ) (m k : ℕ) (name : List ℕ) (bodies : List BodyView) → m < k → k < 2 ^ 64 → AreApart (name_in folder m name) (names_of_files (map (put_in folder k) bodies))
apart_put folder m k name [] less small = tt
apart_put folder m k name (body ∷ bodies) less small = (other_members folder m k name body.name less small, apart_put folder m k name bodies less small)

-- names in two members
differ : (folder : List ℕ) (m k : ℕ) (a b : List ℕ) → m < 2 ^ 64 → k < 2 ^ 64 → (m ≡ k → ⊥) → same_bytes (name_in folder m a) (name_in folder k b) ≡ false
differ folder m k a b small other apart = by_test (name_in folder m a) (name_in folder k b) (λ e. apart (same_place folder m k a b small other e).0)

put_elsewhere : (folder : List ℕ) (m k : ℕ) (name : List ℕ) (bodies : List BodyView) → m < 2 ^ 64 → k < 2 ^ 64 → (m ≡ k → ⊥) → AreApart (name_in folder m name) (names_of_files (map (put_in folder k) bodies))
put_elsewhere folder m k name [] small other apart = tt
put_elsewhere folder m k name (body ∷ bodies) small other apart = (differ folder m k name body.name small other apart, put_elsewhere folder m k name bodies small other apart)

module _ (folder : List ℕ) (loads files : ℕ → List ℕ) (batches : ℕ → Option (List ℕ)) (bodies : List BodyView) where
  abbrev all_files : (from count : ℕ) → List Written
  all_files from count = flat_map (member_files folder loads files batches bodies) (range_with_len from count)

  abbrev some_of : (member : ℕ) → List BodyView
  some_of member = filter (λ body. body.member == member) bodies

  apart_members : (m from count : ℕ) (name : List ℕ) → m < from → from + count ≤ 256 → AreApart (name_in folder m name) (names_of_files (all_files from count))
  apart_members m from zero name less few = tt
  apart_members m from (suc count) name less few =
      let here : List Written = member_files folder loads files batches bodies from in
      let small : from < 2 ^ 64 = omega (arith, few) in
      let mine : AreApart (name_in folder m name) (names_of_files here) = (
        other_members folder m from name (codes "LOADS.LUM") less small,
        (
          other_members folder m from name (codes "FILES.LUM") less small,
          with_list (λ n. same_bytes (name_in folder m name) n ≡ false) (name_in folder from (codes "BATCHES.LUM")) (batches from) (map (put_in folder from) (some_of from))
              (other_members folder m from name (codes "BATCHES.LUM") less small) (apart_put folder m from name (some_of from) less small),
        ),
      ) in
      subst (AreApart (name_in folder m name)) (sym (map-append (λ (file : Written). file.0) here (all_files (from + 1) count)))
      (all_append (λ (other : List ℕ). same_bytes (name_in folder m name) other ≡ false) (names_of_files here) (names_of_files (all_files (from + 1) count)) mine
      (apart_members m (from + 1) count name (omega (arith, less)) (omega (arith, few))))

  across_members : (from count : ℕ) (some : List BodyView) → from + suc count ≤ 256
      → AllByRecursion (λ x. AreApart x (names_of_files (all_files (from + 1) count))) (names_of_files (map (put_in folder from) some))
  across_members from count [] few = tt
  across_members from count (body ∷ some) few = (apart_members from (from + 1) count body.name (omega arith) (omega (arith, few)), across_members from count some few)

  distinct_members : (from count : ℕ) → from + count ≤ 256 → AllByRecursion IsNoList bodies → IsDistinct same_bytes (map body_name bodies)
      → IsDistinct same_bytes (names_of_files (all_files from count))
  unfolding IsDistinct
  distinct_members from zero few none all = tt
  distinct_members from (suc count) few none all =
      let here : List Written = member_files folder loads files batches bodies from in
      let own = distinct_member folder loads files batches bodies from (omega (arith, few)) none all in
      let others = distinct_members (from + 1) count (omega (arith, few)) none all in
      let across : AllByRecursion (λ x. AreApart x (names_of_files (all_files (from + 1) count))) (names_of_files here) = (
        apart_members from (from + 1) count (codes "LOADS.LUM") (omega arith) (omega (arith, few)),
        (
          apart_members from (from + 1) count (codes "FILES.LUM") (omega arith) (omega (arith, few)),
          with_list (λ x. AreApart x (names_of_files (all_files (from + 1) count))) (name_in folder from (codes "BATCHES.LUM")) (batches from) (map (put_in folder from) (some_of from))
              (apart_members from (from + 1) count (codes "BATCHES.LUM") (omega arith) (omega (arith, few))) (across_members from count (some_of from) few),
        ),
      ) in
      subst (IsDistinct same_bytes) (sym (map-append (λ (file : Written). file.0) here (all_files (from + 1) count)))
      (distinct_append (names_of_files here) (names_of_files (all_files (from + 1) count)) own others across)

  -- no file has the name of a list of batches, where no member has one
  no_batches_among : (m from count : ℕ) → m ≤ 255 → from + count ≤ 256 → ((member : ℕ) → batches member ≡ None) → AllByRecursion IsNoList bodies
      → AreApart (name_in folder m (codes "BATCHES.LUM")) (names_of_files (all_files from count))
  no_batches_among m from zero low few none lists = tt
  no_batches_among m from (suc count) low few none lists =
      let here : List Written = member_files folder loads files batches bodies from in
      let small : m < 2 ^ 64 = omega (arith, low) in
      subst (AreApart (name_in folder m (codes "BATCHES.LUM"))) (sym (map-append (λ (file : Written). file.0) here (all_files (from + 1) count)))
      (all_append (λ (other : List ℕ). same_bytes (name_in folder m (codes "BATCHES.LUM")) other ≡ false) (names_of_files here) (names_of_files (all_files (from + 1) count))
      (by (m == from) refl small (omega (arith, few))) (no_batches_among m (from + 1) count low (omega (arith, few)) none lists))
    where
      by : (b : Bool) → (m == from) ≡ b → m < 2 ^ 64 → from < 2 ^ 64 → AreApart (name_in folder m (codes "BATCHES.LUM")) (names_of_files (member_files folder loads files batches bodies from))
      by true e small other =
          let same : from ≡ m = sym (eqb-true m from e) in
          let names = all_map IsNoList (λ (n : List ℕ). same_bytes (codes "BATCHES.LUM") n ≡ false) body_name (λ body no. no.batches) (some_of m)
          (all_filter IsNoList (λ (body : BodyView). body.member == m) bodies lists) in
          subst (λ (k : ℕ). AreApart (name_in folder m (codes "BATCHES.LUM")) (names_of_files (member_files folder loads files batches bodies k))) (sym same)
          (rw (none m) (
            other_names folder m (codes "BATCHES.LUM") (codes "LOADS.LUM") small refl,
            (
              other_names folder m (codes "BATCHES.LUM") (codes "FILES.LUM") small refl,
              apart_in folder m (codes "BATCHES.LUM") (some_of m) small names,
            ),
          ))
      by false e small other =
          let apart : m ≡ from → ⊥ = eqb-false m from e in
          rw (none from) (
            differ folder m from (codes "BATCHES.LUM") (codes "LOADS.LUM") small other apart,
            (
              differ folder m from (codes "BATCHES.LUM") (codes "FILES.LUM") small other apart,
              put_elsewhere folder m from (codes "BATCHES.LUM") (some_of from) small other apart,
            ),
          )

  -- what holds of all files holds of those of a member
  of_member : (P : Written → Type 0) (from count member : ℕ) → from ≤ member → member < from + count → AllByRecursion P (all_files from count)
      → AllByRecursion P (member_files folder loads files batches bodies member)
  of_member P from zero member low high all = absurd (omega (arith, low, high))
  of_member P from (suc count) member low high all =
      by (member == from) refl (second_part P (member_files folder loads files batches bodies from) (all_files (from + 1) count) all)
      (λ later. of_member P (from + 1) count member later (omega (arith, high)))
    where
      by : (b : Bool) → (member == from) ≡ b → AllByRecursion P (all_files (from + 1) count)
          → (from + 1 ≤ member → AllByRecursion P (all_files (from + 1) count) → AllByRecursion P (member_files folder loads files batches bodies member))
          → AllByRecursion P (member_files folder loads files batches bodies member)
      by true e rest next =
          let same : from ≡ member = sym (eqb-true member from e) in
          subst (λ (m : ℕ). AllByRecursion P (member_files folder loads files batches bodies m)) same (first_part P (member_files folder loads files batches bodies from) (all_files (from + 1) count) all)
      by false e rest next = next (let other = eqb-false member from e in grind (arith, other, low)) rest

-- ---- what is found then

-- what holds of the files of each member holds of all
of_bodies : (Q : ℕ → BodyView → Type 0) (members : ℕ) (bodies : List BodyView) → AllByRecursion (IsSoundBody members) bodies
    → ((member : ℕ) → IsMemberOf members member → AllByRecursion (Q member) (filter (λ body. body.member == member) bodies)) → AllByRecursion (λ body. Q body.member body) bodies
of_bodies Q members [] sound each = tt
of_bodies Q members (body ∷ bodies) sound each =
    let mine = rw (eq-eqb body.member body.member refl) at (each body.member sound.0.member) in
    (mine.0, of_bodies Q members bodies sound.1 (λ member in_set. by member (body.member == member) (each member in_set)))
  where
    by : (member : ℕ) (b : Bool) → AllByRecursion (Q member) (cond b (body ∷ filter (λ other. other.member == member) bodies) (filter (λ other. other.member == member) bodies))
        → AllByRecursion (Q member) (filter (λ other. other.member == member) bodies)
    by member true all = all.1
    by member false all = all

member_written : (folder : List ℕ) (sources : Sources) (lines : List RecipeLine) (built : Built) (member : ℕ) → built_view built ≡ recipe_set sources lines
    → IsMemberOf (members_of lines) member
    → written_member folder built member ≡ member_files folder (loads_list_bytes lines) (files_list_bytes sources lines) (batches_list_of lines) (recipe_bodies sources lines) member
unfolding written_member recipe_set
member_written folder sources lines built member same in_set =
    let loads = list_there (loads_list_bytes lines) built.loads.items (members_of lines) member (ap (λ (set : BuiltView). set.loads) same) in_set in
    let files = list_there (files_list_bytes sources lines) built.files.items (members_of lines) member (ap (λ (set : BuiltView). set.files) same) in_set in
    let bodies = bodies_written folder member built.bodies.items
    ∙ ap (λ (set : BuiltView). map (put_in folder member) (filter (λ body. body.member == member) set.bodies)) same in
    let batches = list_where_some (batches_of lines) (batches_list_bytes lines) built.batches.items (members_of lines) member (ap (λ (set : BuiltView). set.batches) same) in_set in
    rw (loads, files, batches, bodies) refl

files_written_of : (folder : List ℕ) (sources : Sources) (lines : List RecipeLine) (built : Built) (from count : ℕ) → built_view built ≡ recipe_set sources lines → 1 ≤ from
    → from + count ≤ members_of lines + 1
    → flat_map (written_member folder built) (range_with_len from count)
    ≡ all_files folder (loads_list_bytes lines) (files_list_bytes sources lines) (batches_list_of lines) (recipe_bodies sources lines) from count
files_written_of folder sources lines built from zero same low high = refl
files_written_of folder sources lines built from (suc count) same low high =
    let in_set : IsMemberOf (members_of lines) from = record { first = low; last = omega (arith, high) } in
    cc (member_written folder sources lines built from same in_set, files_written_of folder sources lines built (from + 1) count same (omega arith) (omega (arith, high)))

-- the list that is there
of_list : (P : Written → Type 0) (name : List ℕ) (list : Option (List ℕ)) (bytes : List ℕ) → list ≡ Some bytes → AllByRecursion P (written_list name list) → P (name, bytes)
of_list P name None bytes e all = absurd cc
of_list P name (Some other) bytes e all = let same : other ≡ bytes = cc in subst (λ (b : List ℕ). P (name, b)) same all.0

-- a folder into which the set was written has its files, and its batches where no others stood there
written_folder : (folder : List ℕ) (sources : Sources) (lines : List RecipeLine) (built : Built) (old new : Files) → IsRecipe lines
    → built_view built ≡ recipe_set sources lines
    → ((name : List ℕ) → new name ≡ after_writes (written_files folder built) old name)
    → HaveFiles (host_media new folder) sources lines × (HasNoOtherBatches folder old lines → HaveBatches (host_media new folder) lines)
unfolding written_files recipe_set
written_folder folder sources lines built old new is same written =
    let start = has_start lines is in
    let few : members_of lines ≤ 255 = start.members.last in
    let bodies : List BodyView = recipe_bodies sources lines in
    let count : length built.loads.items ≡ members_of lines =
    sym (length-map built.loads.items (λ (list : Listed ℕ). list.items)) ∙ (ap (λ (set : BuiltView). length set.loads) same ∙ length-map-range_with_len (loads_list_bytes lines) 1 (members_of lines)) in
    let these : List Written = all_files folder (loads_list_bytes lines) (files_list_bytes sources lines) (batches_list_of lines) bodies 1 (members_of lines) in
    let whole : written_files folder built ≡ these =
    ap (λ (n : ℕ). flat_map (written_member folder built) (range_with_len 1 n)) count ∙ files_written_of folder sources lines built 1 (members_of lines) same (omega arith) (omega arith) in
    let left : (name : List ℕ) → new name ≡ after_writes these old name = λ name. written name ∙ ap (λ (w : List Written). after_writes w old name) whole in
    let distinct = distinct_members folder (loads_list_bytes lines) (files_list_bytes sources lines) (batches_list_of lines) bodies 1 (members_of lines) (omega (arith, few)) (no_lists sources lines is) (bodies_are_distinct sources lines is) in
    let all : AllByRecursion (λ w. new w.0 ≡ Some w.1) these = all_same _ _ (λ (w : Written) e. left w.0 ∙ e) these (all_are_written these old distinct) in
    let each = λ (member : ℕ) (in_set : IsMemberOf (members_of lines) member).
    of_member folder (loads_list_bytes lines) (files_list_bytes sources lines) (batches_list_of lines) bodies (λ w. new w.0 ≡ Some w.1) 1 (members_of lines) member in_set.first (omega (arith, in_set.last)) all in
    let own = λ (member : ℕ). written_list (name_in folder member (codes "BATCHES.LUM")) (batches_list_of lines member) in
    let put = λ (member : ℕ). map (put_in folder member) (filter (λ (body : BodyView). body.member == member) bodies) in
    let no_lists_here = no_lists sources lines is in
    let none = λ (fresh : HasNoOtherBatches folder old lines) (empty : batches_of lines ≡ []) (member : ℕ) (in_set : IsMemberOf (members_of lines) member).
    left (batches_name folder member)
    ∙ (untouched these old (batches_name folder member)
    (no_batches_among folder (loads_list_bytes lines) (files_list_bytes sources lines) (batches_list_of lines) bodies member 1 (members_of lines) (omega (arith, few, in_set.last)) (omega (arith, few))
    (λ m. ap (λ (batches : List RecipeBatchView). where_some batches (batches_list_bytes lines m)) empty) no_lists_here)
    ∙ fresh empty member in_set) in (
      record {
        loads = λ member in_set. (each member in_set).0;
        files = λ member in_set. (each member in_set).1.0;
        bodies = of_bodies (λ member body. new (name_in folder member body.name) ≡ Some body.bytes) (members_of lines) bodies (sound_bodies sources lines is)
            (λ member in_set. all_of_map (λ (w : Written). new w.0 ≡ Some w.1) (put_in folder member) (filter (λ (body : BodyView). body.member == member) bodies)
            (second_part (λ w. new w.0 ≡ Some w.1) (own member) (put member) (each member in_set).1.1));
      },
      λ fresh member in_set. by (batches_of lines) refl member (λ empty. none fresh empty member in_set)
          (λ bytes some. of_list (λ w. new w.0 ≡ Some w.1) (batches_name folder member) (batches_list_of lines member) bytes some (first_part (λ w. new w.0 ≡ Some w.1) (own member) (put member) (each member in_set).1.1)),
    )
  where
    by : (batches : List RecipeBatchView) → batches_of lines ≡ batches → (member : ℕ) → (batches_of lines ≡ [] → new (batches_name folder member) ≡ None)
        → ((bytes : List ℕ) → batches_list_of lines member ≡ Some bytes → new (batches_name folder member) ≡ Some bytes)
        → new (batches_name folder member) ≡ batches_list_of lines member
    by [] e member none some = none e ∙ sym (ap (λ (batches : List RecipeBatchView). where_some batches (batches_list_bytes lines member)) e)
    by (first ∷ others) e member none some =
        let there : batches_list_of lines member ≡ Some (batches_list_bytes lines member) = ap (λ (batches : List RecipeBatchView). where_some batches (batches_list_bytes lines member)) e in
        some (batches_list_bytes lines member) there ∙ sym there

pub written_folder_files : (folder : List ℕ) (sources : Sources) (lines : List RecipeLine) (built : Built) (old new : Files) → IsRecipe lines
    → built_view built ≡ recipe_set sources lines
    → ((name : List ℕ) → new name ≡ after_writes (written_files folder built) old name) → HaveFiles (host_media new folder) sources lines
written_folder_files folder sources lines built old new is same written = (written_folder folder sources lines built old new is same written).0

pub written_folder_has : (folder : List ℕ) (sources : Sources) (lines : List RecipeLine) (built : Built) (old new : Files) → IsRecipe lines → HasNoOtherBatches folder old lines
    → built_view built ≡ recipe_set sources lines
    → ((name : List ℕ) → new name ≡ after_writes (written_files folder built) old name) → HaveSet (host_media new folder) sources lines
written_folder_has folder sources lines built old new is fresh same written =
    let both = written_folder folder sources lines built old new is same written in record { has = both.0; batches = both.1 fresh }
