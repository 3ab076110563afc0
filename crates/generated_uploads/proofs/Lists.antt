-- Both lists of the generated set are read as they were written.
use Rattle.std.proofs.Common.{◌≡◌, ℕ, ◌≤◌, List, [], Option, Some, None, Ok, refl, sym, ap, ◌∙◌, arith}
use Rattle.std.specs.Prelude.{codes, map, slice_get}
use Rattle.std.proofs.lemmas.Option.{slice_get-map}
use Rattle.crc_fields.proofs.WidthLemmas.{crc16_fits}
use Rattle.field_grammar.specs.Answers.{answer}
use Rattle.field_grammar.proofs.ExactLemmas.{answer-spelled, spelled_at_start}
use Rattle.field_grammar.specs.Fields.{number_bytes, pad_bytes}
use Rattle.field_grammar.specs.Grammar.{Grammar, Spelled}
use Rattle.field_grammar.specs.Spelling.{listed_fields}
use Rattle.header_sections.specs.SectionFields.{entries_fields, texts_fields, user_fields}
use Rattle.load_base.specs.Listed.{Listed}
use Rattle.media_lists.specs.Entries.{is_listed}
use Rattle.media_lists.specs.Files.{FilesListView, FilesSpells, IsFilesList, file_body_fields, files_list}
use Rattle.media_lists.specs.ListFields.{head_fields, identity_fields, list_size}
use Rattle.media_lists.specs.Loads.{IsLoadsList, LoadsListView, LoadsSpells, load_body_fields, loads_list}
use Rattle.media_lists.specs.Paths.{IsPath}
use Rattle.media_lists.specs.declared.fault.ListFault.{ListFault}
use Rattle.batch_lists.specs.Batches.{BatchesListView, batches_list}
use Rattle.batch_lists.specs.declared.fault.BatchesFault.{BatchesFault}
use Rattle.media_check.specs.BuiltSets.{built_media, member_list}
use Rattle.media_check.specs.Sets.{MemberView, found_as, found_in, lists_in}
use Rattle.media_check.specs.declared.built.Built.{Built}
use Rattle.media_check.specs.declared.found.Found.{Found}
use Rattle.media_check.specs.declared.found.Found.TheVariants.{Missing, Read}
use Rattle.media_build.specs.GeneratedSet.{always, generated_lines}
use Rattle.media_build.specs.Lines.{members_of}
use Rattle.media_build.specs.NoFindings.{built_view}
use Rattle.media_build.specs.RecipeSets.{BuiltView, files_list_bytes, load_bodies, loads_list_bytes, recipe_bodies, recipe_files, recipe_loads, recipe_set}
use Rattle.generated_uploads.proofs.Words.{file_name, hardware_text, header_name, load_number, set_number}

-- what the laws of the lists say
pub record ListLaws : Type 0 where
  pub loads : (v : LoadsListView) (bytes : List ℕ) → LoadsSpells v bytes → Spelled loads_list bytes v
  pub files : (v : FilesListView) (bytes : List ℕ) → FilesSpells v bytes → Spelled files_list bytes v

-- ---- their limits

root : IsPath (codes "\\")
root = record { names = []; few = omega arith; good = tt; size = omega arith; written = refl }

loads_are_short : list_size load_body_fields (recipe_loads generated_lines 1) ≤ 1048576
unfolding number_bytes pad_bytes listed_fields texts_fields user_fields entries_fields load_body_fields head_fields identity_fields list_size members_of recipe_loads
loads_are_short = omega arith

files_are_short : (file : List ℕ) → list_size file_body_fields (recipe_files (always file) generated_lines 1) ≤ 1048576
unfolding number_bytes pad_bytes listed_fields texts_fields user_fields entries_fields file_body_fields head_fields identity_fields list_size members_of recipe_files recipe_bodies load_bodies
files_are_short file = omega arith

pub loads_fit : IsLoadsList (recipe_loads generated_lines 1)
unfolding recipe_loads members_of is_listed
loads_fit = record {
  set = set_number;
  member = (omega arith, omega arith, omega arith);
  members = omega arith;
  entries = record {
    count = omega arith;
    each = (
      record {
        part = load_number;
        header_name = header_name;
        member = (omega arith, omega arith, omega arith);
        few = omega arith;
        hardware = (hardware_text, tt);
      },
      tt,
    );
    distances = tt;
    names = (refl, tt);
  };
  user = λ i. omega arith;
  user_even = refl;
  user_size = omega arith;
  size = loads_are_short;
}

pub files_fit : (file : List ℕ) → IsFilesList (recipe_files (always file) generated_lines 1)
unfolding recipe_files recipe_bodies load_bodies members_of is_listed number_bytes pad_bytes file_body_fields
files_fit file = record {
  set = set_number;
  member = (omega arith, omega arith, omega arith);
  members = omega arith;
  entries = record {
    count = omega arith;
    each = (
      record { name = header_name; path = root; member = (omega arith, omega arith, omega arith); sum = crc16_fits _ },
      (record { name = file_name; path = root; member = (omega arith, omega arith, omega arith); sum = crc16_fits _ }, tt),
    );
    distances = (omega arith, tt);
    names = (refl, (refl, tt));
  };
  user = λ i. omega arith;
  user_even = refl;
  user_size = omega arith;
  size = files_are_short file;
}

-- ---- what is read of them

answer_is : {F A : Type 0} (g : Grammar F A) (bytes : List ℕ) (value : A) → Spelled g bytes value → answer g bytes ≡ Ok value
answer_is g bytes value s = answer-spelled g bytes value (spelled_at_start g bytes value s)

module _ (laws : ListLaws) (file : List ℕ) where
  pub loads_spelled : Spelled loads_list (loads_list_bytes generated_lines 1) (recipe_loads generated_lines 1)
  unfolding loads_list_bytes
  loads_spelled = laws.loads (recipe_loads generated_lines 1) (loads_list_bytes generated_lines 1) (loads_fit, refl)

  pub files_spelled : Spelled files_list (files_list_bytes (always file) generated_lines 1) (recipe_files (always file) generated_lines 1)
  unfolding files_list_bytes
  files_spelled = laws.files (recipe_files (always file) generated_lines 1) (files_list_bytes (always file) generated_lines 1) (files_fit file, refl)

  loads_found : found_in loads_list (Some (loads_list_bytes generated_lines 1)) ≡ Read (recipe_loads generated_lines 1)
  loads_found = ap (λ (r : _). found_as r) (answer_is loads_list (loads_list_bytes generated_lines 1) (recipe_loads generated_lines 1) loads_spelled)

  files_found : found_in files_list (Some (files_list_bytes (always file) generated_lines 1)) ≡ Read (recipe_files (always file) generated_lines 1)
  files_found = ap (λ (r : _). found_as r) (answer_is files_list (files_list_bytes (always file) generated_lines 1) (recipe_files (always file) generated_lines 1) files_spelled)

  abbrev pub lists_read : MemberView
  lists_read = record { loads = Read (recipe_loads generated_lines 1); files = Read (recipe_files (always file) generated_lines 1); batches = Missing }

  same_lists : (a b : Found LoadsListView ListFault) (c d : Found FilesListView ListFault) (e f : Found BatchesListView BatchesFault) → a ≡ b → c ≡ d → e ≡ f
      → (let one : MemberView = record { loads = a; files = c; batches = e } in one) ≡ record { loads = b; files = d; batches = f }
  same_lists a b c d e f p q r = rw (p, q, r) refl

  -- ---- as they are built

  lists_are : (lists : List (Listed ℕ)) → member_list lists 1 ≡ slice_get (map (λ list. list.items) lists) 0
  lists_are lists = sym (slice_get-map (λ (list : Listed ℕ). list.items) lists 0)

  module _ (built : Built) (made : built_view built ≡ recipe_set (always file) generated_lines) where
    pub loads_there : member_list built.loads.items 1 ≡ Some (loads_list_bytes generated_lines 1)
    unfolding recipe_set members_of
    loads_there = lists_are built.loads.items ∙ ap (λ (set : BuiltView). slice_get set.loads 0) made

    pub files_there : member_list built.files.items 1 ≡ Some (files_list_bytes (always file) generated_lines 1)
    unfolding recipe_set members_of
    files_there = lists_are built.files.items ∙ ap (λ (set : BuiltView). slice_get set.files 0) made

    -- it has no batches
    pub no_batches_there : member_list built.batches.items 1 ≡ None
    unfolding recipe_set members_of
    no_batches_there = lists_are built.batches.items ∙ ap (λ (set : BuiltView). slice_get set.batches 0) made

    pub both_found : lists_in (built_media built) 1 ≡ lists_read
    both_found =
        same_lists _ _ _ _ _ _ (ap (λ (bytes : Option (List ℕ)). found_in loads_list bytes) loads_there ∙ loads_found) (ap (λ (bytes : Option (List ℕ)). found_in files_list bytes) files_there ∙ files_found)
        (ap (λ (bytes : Option (List ℕ)). found_in batches_list bytes) no_batches_there)
