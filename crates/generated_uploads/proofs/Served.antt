-- What a loader serves of the generated set.
use Rattle.std.proofs.Common.{◌≡◌, ℕ, ◌+◌, ◌≤◌, List, [], ◌∷◌, length, Option, Some, Ok, refl, sym, ap, subst, ◌∙◌, arith}
use Rattle.std.specs.Prelude.{codes, map}
use Rattle.std.specs.List.{AllByRecursion}
use Rattle.std.specs.Map.{lookup}
use Rattle.field_grammar.specs.Fields.{number_bytes}
use Rattle.field_grammar.specs.Grammar.{IsBytes}
use Rattle.load_base.specs.Bytes.{same_bytes}
use Rattle.load_base.specs.Host.{longest_file}
use Rattle.disk_layout.specs.Contents.{entries_of}
use Rattle.accept_rules.specs.Permissions.{Grants}
use Rattle.media_lists.specs.Loads.{loads_list}
use Rattle.media_check.specs.BuiltSets.{body_of, built_media}
use Rattle.media_check.specs.Sets.{MemberView, entries_of as listed_in, set_in, set_with}
use Rattle.media_check.specs.declared.built.Built.{Built}
use Rattle.media_check.specs.declared.built.Placed.{Placed}
use Rattle.media_build.specs.Generator.{generated}
use Rattle.media_build.specs.GeneratedSet.{always, generated_lines, generated_load_view}
use Rattle.media_build.specs.NoFindings.{body_view, built_view}
use Rattle.media_build.specs.RecipeSets.{BodyView, BuiltView, header_bytes, header_of, load_bodies, loads_list_bytes, recipe_bodies, recipe_files, recipe_loads, recipe_set}
use Rattle.loader_machine.specs.Machine.{media_of}
use Rattle.session_rules.specs.MediaFiles.{Media, wanted_of}
use Rattle.session_rules.specs.NewConfigs.{AreOfMedia, IsGoodLoad}
use Rattle.session_rules.specs.Uploads.{need_of}
use Rattle.run_promises.specs.Promises.{CanBeTold}
use Rattle.run_promises.specs.TellableSets.{IsTellableFile, SetsCanBeTold}
use Rattle.generated_uploads.specs.GeneratedMedia.{AreGoodMedia, GeneratedMediaAreGood, generated_part, generated_request}
use Rattle.generated_uploads.proofs.Bytes.{spelled_bytes}
use Rattle.generated_uploads.proofs.Headers.{HeaderLaws, header_is_bytes, header_length, load_is_good, load_with}
use Rattle.generated_uploads.proofs.Lists.{ListLaws, both_found, lists_read, loads_spelled, loads_there}
use Rattle.generated_uploads.proofs.Words.{generated_bytes, generated_size}

-- ---- the bank

-- a load of two files, of these lengths
need_is : (header file : ℕ) → need_of (record {
  part = generated_part;
  type_id = Some 1;
  files = record { name = codes "MAKE.LUH"; length = header } ∷ record { name = codes "MAKE.BIN"; length = file } ∷ [];
} ∷ []) ≡ header + file + 49
unfolding need_of number_bytes
need_is header file = omega arith

-- ---- its files

-- the bytes of the first body of this name
named_in : List BodyView → List ℕ → Option (List ℕ)
named_in bodies name = lookup (same_bytes name) (map (λ (body : BodyView). (body.name, body.bytes)) bodies)

map_map : {A B C : Type 0} (g : B → C) (f : A → B) (xs : List A) → map g (map f xs) ≡ map (λ x. g (f x)) xs
map_map g f [] = refl
map_map g f (x ∷ xs) = ap (λ (l : List _). g (f x) ∷ l) (map_map g f xs)

bodies_are : (bodies : List Placed) (name : List ℕ) → body_of bodies name ≡ named_in (map body_view bodies) name
unfolding named_in
bodies_are bodies name = ap (lookup (same_bytes name)) (sym (map_map (λ (body : BodyView). (body.name, body.bytes)) body_view bodies))

module _ (file : List ℕ) (built : Built) (made : built_view built ≡ recipe_set (always file) generated_lines) where
  abbrev header : List ℕ
  header = header_bytes (header_of (always file) generated_load_view)

  body_is : (name : List ℕ) → body_of built.bodies.items name ≡ named_in (recipe_bodies (always file) generated_lines) name
  unfolding recipe_set
  body_is name = bodies_are built.bodies.items name ∙ ap (λ (set : BuiltView). named_in set.bodies name) made

  header_there : body_of built.bodies.items (codes "MAKE.LUH") ≡ Some header
  unfolding named_in recipe_bodies load_bodies
  header_there = body_is (codes "MAKE.LUH")

  file_there : body_of built.bodies.items (codes "MAKE.BIN") ≡ Some file
  unfolding named_in recipe_bodies load_bodies
  file_there = body_is (codes "MAKE.BIN")

  module _ (laws : ListLaws) where
    set_is : set_in (built_media built) ≡ set_with (built_media built) (lists_read laws file)
    set_is = ap (set_with (built_media built)) (both_found laws file built made)

    abbrev read_media : Media
    read_media = media_of (set_with (built_media built) (lists_read laws file))

    on_media : wanted_of read_media.loads (generated_part ∷ []) ≡ Ok generated_request
    unfolding recipe_loads
    on_media = refl

    header_served : read_media.file (codes "MAKE.LUH") ≡ Some header
    unfolding recipe_files recipe_bodies load_bodies
    header_served = header_there

    file_served : read_media.file (codes "MAKE.BIN") ≡ Some file
    unfolding recipe_files recipe_bodies load_bodies
    file_served = file_there

    are_of_media : AreOfMedia read_media (load_with file ∷ [])
    are_of_media = (header_served, (file_served, tt))

    -- ---- and they can be told

    module _ (headers : HeaderLaws) (size : length file ≡ 4194304) (bytes : IsBytes file) where
      short : length file ≤ 16777215
      short = omega (arith, size)

      same_some : (a b : List ℕ) → Some a ≡ Some b → a ≡ b
      same_some a b e = cc

      told_header : (found : List ℕ) → body_of built.bodies.items (codes "MAKE.LUH") ≡ Some found → IsBytes found × (length found ≤ longest_file)
      told_header found is =
          let same = same_some header found (sym header_there ∙ is) in
          subst (λ (b : List ℕ). IsBytes b × (length b ≤ longest_file)) same (header_is_bytes file short headers, omega (arith, header_length file short headers))

      told_file : (found : List ℕ) → body_of built.bodies.items (codes "MAKE.BIN") ≡ Some found → IsBytes found × (length found ≤ longest_file)
      told_file found is = subst (λ (b : List ℕ). IsBytes b × (length b ≤ longest_file)) (same_some file found (sym file_there ∙ is)) (bytes, short)

      entries_told : AllByRecursion (IsTellableFile (built_media built)) (listed_in (lists_read laws file).files)
      unfolding recipe_files recipe_bodies load_bodies
      entries_told = (told_header, (told_file, tt))

      loads_told : (found : List ℕ) → (built_media built).loads_list 1 ≡ Some found → IsBytes found
      loads_told found is = subst IsBytes (same_some _ found (sym (loads_there laws file built made) ∙ is)) (spelled_bytes loads_list (loads_list_bytes generated_lines 1) (recipe_loads generated_lines 1) (loads_spelled laws file))

      can_be_told : SetsCanBeTold → CanBeTold (media_of (set_in (built_media built)))
      can_be_told tellable = tellable (built_media built) (record {
        loads = loads_told;
        files = subst (λ (lists : MemberView). AllByRecursion (IsTellableFile (built_media built)) (listed_in lists.files)) (sym (both_found laws file built made)) entries_told;
      })

      need : need_of (entries_of (load_with file ∷ [])) ≡ 4194475
      need = omega (arith, need_is (length header) (length file), header_length file short headers, size)

      abbrev whole_media : Media
      whole_media = media_of (set_in (built_media built))

      are_good : SetsCanBeTold → (number : ℕ) → file ≡ generated number 4194304 → AreGoodMedia number whole_media
      are_good tellable number is =
          let same : read_media ≡ whole_media = ap media_of (sym set_is) in
          record {
            told = can_be_told tellable;
            on_media = subst (λ (m : Media). wanted_of m.loads (generated_part ∷ []) ≡ Ok generated_request) same on_media;
            files = subst (λ (f : List ℕ). AreOfMedia whole_media (load_with f ∷ [])) is (subst (λ (m : Media). AreOfMedia m (load_with file ∷ [])) same are_of_media);
            good = λ id hardware. subst (λ (f : List ℕ). IsGoodLoad Grants id [] (load_with f)) is (load_is_good file short headers id hardware);
            need = subst (λ (f : List ℕ). need_of (entries_of (load_with f ∷ [])) ≡ 4194475) is need;
          }

pub media_are_good : ListLaws → HeaderLaws → SetsCanBeTold → GeneratedMediaAreGood
media_are_good laws headers tellable number set is =
    let file : List ℕ = generated number 4194304 in
    rw is.holds (are_good file is.built is.made laws headers (generated_size number 4194304) (generated_bytes number 4194304) tellable number refl)
