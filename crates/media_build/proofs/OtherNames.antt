-- Writing a set sets no name but those of its lists and files.
use Rattle.std.proofs.Common.{◌≡◌, ◌≢◌, ℕ, zero, suc, ◌+◌, ◌≤◌, Bool, true, false, cond, List, [], ◌∷◌, ◌++◌, length, Option, Some, None, Result, Ok, Err, refl, sym, subst, ◌∙◌, append_assoc, arith}
use Rattle.std.specs.Option.{ForSome}
use Rattle.std.specs.Prelude.{map, filter}
use Rattle.std.specs.List.{AllByRecursion, range_with_len}
use Rattle.std.proofs.lemmas.List.{length-map}
use Rattle.load_base.specs.Bytes.{same_bytes}
use Rattle.load_base.proofs.EqualityLemmas.{equal_bytes}
use Rattle.load_base.specs.Host.{Files}
use Rattle.load_base.specs.Listed.{Listed}
use Rattle.load_base.specs.declared.sink.WriteFault.{WriteFault}
use Rattle.load_base.specs.declared.sink.WriteFault.TheVariants as writing
use Rattle.media_check.specs.BuiltSets.{member_list}
use Rattle.media_check.specs.HostNames.{loads_name, files_name, batches_name}
use Rattle.media_check.specs.declared.built.Built.{Built}
use Rattle.media_check.specs.declared.built.Placed.{Placed}
use Rattle.media_build.specs.Accepted.{IsMemberOf}
use Rattle.media_build.specs.HostWrites.{Written, WritesToHost, WritesAllFiles, after_writes, written_list, written_body, is_of, written_member, written_files}
use Rattle.media_build.specs.NoFindings.{body_view, built_view}
use Rattle.media_build.specs.RecipeSets.{BodyView, BuiltView}
use Rattle.media_build.specs.WrittenFolders.{IsNameIn, KeepsAllBut}
use Rattle.media_build.specs.WrittenFolders.IsNameIn.{of_loads, of_files, of_batches, of_body}
use Rattle.media_build.proofs.BuiltHeaders.{all_filter, first_part, second_part}
use Rattle.media_build.proofs.BuiltLists.{all_append, all_flat, all_map, all_same}

-- ---- what other names have

after_others : (written : List Written) (files : Files) (name : List ℕ) → AllByRecursion (λ w. name ≢ w.0) written → after_writes written files name ≡ files name
after_others [] files name apart = refl
after_others (this ∷ later) files name apart =
    after_others later (λ other. cond (same_bytes other this.0) (Some this.1) (files other)) name apart.1 ∙ by (same_bytes name this.0) refl
  where
    by : (b : Bool) → same_bytes name this.0 ≡ b → cond (same_bytes name this.0) (Some this.1) (files name) ≡ files name
    by true e = absurd (apart.0 ((equal_bytes name this.0).0 e))
    by false e = rw e refl

others_have : (written : List Written) (old new : Files) (result : Result (Unit {0}) WriteFault) (name : List ℕ) → AllByRecursion (λ w. name ≢ w.0) written → WritesAllFiles written old new result
    → new name ≡ old name
others_have written old new (Ok x) name apart wrote = wrote name ∙ after_others written old name apart
others_have written old new (Err writing.Memory) name apart wrote =
    let all = subst (AllByRecursion (λ (w : Written). name ≢ w.0)) wrote.stands apart in
    wrote.have name ∙ after_others wrote.before old name (first_part (λ (w : Written). name ≢ w.0) wrote.before wrote.after all)
others_have written old new (Err writing.Failed) name apart wrote =
    let all = subst (AllByRecursion (λ (w : Written). name ≢ w.0)) wrote.stands apart in
    wrote.others name (second_part (λ (w : Written). name ≢ w.0) wrote.before (wrote.this ∷ wrote.after) all).0
    ∙ after_others wrote.before old name (first_part (λ (w : Written). name ≢ w.0) wrote.before (wrote.this ∷ wrote.after) all)

-- ---- the names of a set

abbrev IsOneIn : (folder : List ℕ) → BuiltView → Written → Type 0
IsOneIn folder set written = IsNameIn folder set written.0

each_body : (folder : List ℕ) (set : BuiltView) (before : List BodyView) (bodies : List Placed) → set.bodies ≡ before ++ map body_view bodies
    → AllByRecursion (λ body. IsOneIn folder set (written_body folder body)) bodies
each_body folder set before [] are = tt
each_body folder set before (body ∷ bodies) are = (
  of_body before (body_view body) (map body_view bodies) are refl,
  each_body folder set (before ++ body_view body ∷ []) bodies (are ∙ sym (append_assoc before (body_view body ∷ []) (map body_view bodies))),
)

one_list : (folder : List ℕ) (set : BuiltView) (name : List ℕ) (list : Option (List ℕ)) → IsNameIn folder set name → AllByRecursion (IsOneIn folder set) (written_list name list)
one_list folder set name None is = tt
one_list folder set name (Some bytes) is = (is, tt)

each_of_member : (folder : List ℕ) (built : Built) (member : ℕ) → IsMemberOf (length (map (λ (list : Listed ℕ). list.items) built.loads.items)) member
    → AllByRecursion (IsOneIn folder (built_view built)) (written_member folder built member)
unfolding written_member
each_of_member folder built member is =
    let set = built_view built in
    all_append (IsOneIn folder set) (written_list (loads_name folder member) (member_list built.loads.items member)) _ (one_list folder set (loads_name folder member) _ (of_loads member is refl))
    (all_append (IsOneIn folder set) (written_list (files_name folder member) (member_list built.files.items member)) _ (one_list folder set (files_name folder member) _ (of_files member is refl))
    (all_append (IsOneIn folder set) (written_list (batches_name folder member) (member_list built.batches.items member)) _ (one_list folder set (batches_name folder member) _ (of_batches member is refl))
    (all_map (λ body. IsOneIn folder set (written_body folder body)) (IsOneIn folder set) (written_body folder) (λ body one. one) (filter (is_of member) built.bodies.items)
    (all_filter (λ body. IsOneIn folder set (written_body folder body)) (is_of member) built.bodies.items (each_body folder set [] built.bodies.items refl)))))

each_number : (members from count : ℕ) → 1 ≤ from → from + count ≤ members + 1 → AllByRecursion (IsMemberOf members) (range_with_len from count)
each_number members from zero first last = tt
each_number members from (suc count) first last =
    (record { first = first; last = omega (arith, last) }, each_number members (from + 1) count (omega (arith, first)) (omega (arith, last)))

each_written : (folder : List ℕ) (built : Built) → AllByRecursion (IsOneIn folder (built_view built)) (written_files folder built)
unfolding written_files
each_written folder built =
    let same = length-map built.loads.items (λ (list : Listed ℕ). list.items) in
    all_flat (IsMemberOf (length (map (λ (list : Listed ℕ). list.items) built.loads.items))) (IsOneIn folder (built_view built)) (written_member folder built) (each_of_member folder built)
    (range_with_len 1 (length built.loads.items)) (each_number _ 1 (length built.loads.items) (omega arith) (omega (arith, same)))

-- ---- so the others keep what they had

pub others_are_kept : (folder : List ℕ) (built : Built) (old new : Option Files) (result : Result (Unit {0}) WriteFault) → WritesToHost (written_files folder built) old new result
    → ForSome old (λ files. KeepsAllBut (IsNameIn folder (built_view built)) files new)
others_are_kept folder built None new result wrote = λ files told. absurd cc
others_are_kept folder built (Some was) new result wrote = λ files told.
    let same : was ≡ files = cc in
    let after = wrote.told in
    subst (λ (f : Files). KeepsAllBut (IsNameIn folder (built_view built)) f new) same (record {
      files = after.0;
      told = after.1;
      others = λ name other. others_have (written_files folder built) was after.0 result name
          (all_same (IsOneIn folder (built_view built)) (λ w. name ≢ w.0) (λ w one is. other (subst (IsNameIn folder (built_view built)) (sym is) one)) (written_files folder built) (each_written folder built)) after.2;
    })
