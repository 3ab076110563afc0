-- Lines of files and loads that were put so far, and one more.
use Rattle.std.proofs.Common.{◌≡◌, ℕ, ◌+◌, ◌<◌, ◌≤◌, List, [], ◌∷◌, ◌++◌, length, take, get_or, refl, sym, ap, ap₂, arith, ◌∙◌}
use Rattle.std.specs.Prelude.{map, Option}
use Rattle.std.specs.List.{flat_map}
use Rattle.std.proofs.lemmas.List.{append-nil, append_assoc, length-map, take_more, map_push}
use Rattle.std.proofs.lemmas.List.Concat.{flat_map-append, flat_map-cons}
use Rattle.std.proofs.lemmas.List.Elements.{All-nil, All-push}
use Rattle.load_base.specs.Config.{FileView, LoadView}
use Rattle.disk_model.specs.Image.{Image, range}
use Rattle.disk_layout.specs.Contents.{HeaderIsFirst, entries_of, entry_of, first_name, file_entry_of}
use Rattle.disk_layout.specs.Manifest.{LoadEntry, entry_view, entries_length, total_length}
use Rattle.disk_layout.proofs.RangeLemmas.{ranges_joined}
use Rattle.disk_layout.specs.declared.manifest.ManifestFile.{ManifestFile}
use Rattle.disk_layout.specs.declared.manifest.ManifestLoad.{ManifestLoad}
use Rattle.disk_layout.specs.Holds.{StandingView}
use Rattle.listing.specs.Listing.{bank_line, file_line, file_line_of, listing, load_line, load_line_of, load_lines, loads_line, target_line}
use Rattle.recovery.specs.Listings.{ListsFile, ListsFiles, ListsLoad, ListsLoads}
use Rattle.recovery.specs.Parts.{HasAFile, IsSumAt}
use Rattle.recovery.proofs.Files.{bytes_with, size_more}
use Rattle.recovery.proofs.Loads.{contents_with, total_with}

-- a text and one more line of those of a list
pushed : {T : Type 0} (line : T → List ℕ) (xs : List T) (x : T) (before middle after : List ℕ) → middle ≡ before ++ flat_map line xs → after ≡ middle ++ line x
    → after ≡ before ++ flat_map line (xs ++ x ∷ [])
pushed line xs x before middle after first then_one =
    then_one ∙ ap (λ (l : List ℕ). l ++ line x) first ∙ append_assoc before (flat_map line xs) (line x)
    ∙ ap (λ (l : List ℕ). before ++ l) (sym (flat_map-append line xs (x ∷ []) ∙ ap (λ (l : List ℕ). flat_map line xs ++ l) (flat_map-cons line x [] ∙ append-nil (line x))))

-- ---- files

entry : List ℕ → ℕ → ManifestFile
entry name size = record { name = name; length = size }

-- the line of a file that was read
pub one_file : (reads : Option Image) (at sum : ℕ) (file : ManifestFile) (before after : List ℕ) → IsSumAt reads at file.length sum
    → after ≡ before ++ file_line_of file.name file.length sum → ListsFile reads at file before after
unfolding file_line entry
one_file reads at sum file before after read text = record {
  file = record { name = file.name; bytes = read.bytes };
  entry_is = ap (entry file.name) read.size;
  contents = read.are_there;
  text = text ∙ ap₂ (λ (size : ℕ) (s : ℕ). before ++ file_line_of file.name size s) (sym read.size) read.is_sum;
}

pub no_files : (reads : Option Image) (at : ℕ) (text : List ℕ) → ListsFiles reads at [] text text
unfolding range
no_files reads at text = record { files = []; entries_are = refl; contents = λ image told. refl; text = sym (append-nil text) }

pub one_more_file : (reads : Option Image) (start at : ℕ) (files : List ManifestFile) (i : ℕ) (f : ManifestFile) (before middle after : List ℕ) → i < length files → f ≡ get_or files i f
    → at ≡ start + entries_length (take i files) → ListsFiles reads start (take i files) before middle → ListsFile reads at f middle after → ListsFiles reads start (take (i + 1) files) before after
one_more_file reads start at files i f before middle after within is follows so_far now = record {
  files = so_far.files ++ now.file ∷ [];
  entries_are =
      map_push file_entry_of so_far.files now.file
      ∙ ap₂ (λ (l : List ManifestFile) (g : ManifestFile). l ++ g ∷ []) so_far.entries_are (now.entry_is ∙ is) ∙ sym (take_more files i f within);
  contents = λ image told. rw (size_more files i f within is) (
      bytes_with so_far.files now.file ∙ ap₂ (λ (a : List ℕ) (b : List ℕ). a ++ b) (so_far.contents image told) (now.contents image told)
      ∙ ranges_joined image start (entries_length (take i files)) at f.length follows);
  text = pushed file_line so_far.files now.file before middle after so_far.text now.text;
}

-- ---- loads

-- the first of these entries has the name of the first file
first_named : (files : List FileView) (entries : List ManifestFile) (f : ManifestFile) → map file_entry_of files ≡ entries → 1 ≤ length entries → f ≡ get_or entries 0 f → f.name ≡ first_name files
first_named [] entries f are some is = absurd (omega (arith, ap length are, some))
first_named (file ∷ files) entries f are some is = ap (λ (g : ManifestFile). g.name) (is ∙ ap (λ (l : List ManifestFile). get_or l 0 f) (sym are))

made : List ℕ → Option ℕ → List ManifestFile → LoadEntry
made part type_id files = record { part = part; type_id = type_id; files = files }

-- a load by its line and those of its files
pub one_load : (reads : Option Image) (at : ℕ) (e : ManifestLoad) (f : ManifestFile) (before middle after : List ℕ) → f ≡ get_or e.files.items 0 f → HasAFile (entry_view e)
    → middle ≡ before ++ load_line_of e.part f.name (length e.files.items) → ListsFiles reads at e.files.items middle after → ListsLoad reads at (entry_view e) before after
unfolding load_lines load_line made
one_load reads at e f before middle after is some line files = record {
  load = record { part = e.part; type_id = e.type_id; header_name = f.name; files = files.files };
  entry_is = ap (made e.part e.type_id) files.entries_are;
  header = first_named files.files e.files.items f files.entries_are some is;
  contents = files.contents;
  text =
      let count : length e.files.items ≡ length files.files = sym (ap length files.entries_are) ∙ length-map files.files file_entry_of in
      files.text ∙ ap (λ (l : List ℕ). l ++ flat_map file_line files.files) (line ∙ ap (λ (n : ℕ). before ++ load_line_of e.part f.name n) count)
      ∙ append_assoc before (load_line_of e.part f.name (length files.files)) (flat_map file_line files.files);
}

pub no_loads : (reads : Option Image) (at : ℕ) (text : List ℕ) → ListsLoads reads at [] text text
unfolding range
no_loads reads at text = record { loads = []; entries_are = refl; headers = All-nil (λ (l : LoadView). HeaderIsFirst l); contents = λ image told. refl; text = sym (append-nil text) }

pub one_more_load : (reads : Option Image) (start at : ℕ) (entries : List LoadEntry) (e : LoadEntry) (before middle after : List ℕ) → at ≡ start + total_length entries
    → ListsLoads reads start entries before middle → ListsLoad reads at e middle after → ListsLoads reads start (entries ++ e ∷ []) before after
one_more_load reads start at entries e before middle after follows so_far now = record {
  loads = so_far.loads ++ now.load ∷ [];
  entries_are = map_push entry_of so_far.loads now.load ∙ ap₂ (λ (l : List LoadEntry) (x : LoadEntry). l ++ x ∷ []) so_far.entries_are now.entry_is;
  headers = All-push (λ (l : LoadView). HeaderIsFirst l) so_far.loads now.load so_far.headers now.header;
  contents = λ image told. rw (total_with entries e) (
      contents_with so_far.loads now.load ∙ ap₂ (λ (a : List ℕ) (b : List ℕ). a ++ b) (so_far.contents image told) (now.contents image told)
      ∙ ranges_joined image start (total_length entries) at (entries_length e.files) follows);
  text = pushed load_lines so_far.loads now.load before middle after so_far.text now.text;
}

-- ---- the listing

-- the lines of a target, of its bank and of the number of its loads, and those of the loads
pub whole_listing : (s : StandingView) (entries : List LoadEntry) (count : ℕ) (nothing first second third all : List ℕ) → nothing ≡ [] → entries_of s.loads ≡ entries → length entries ≡ count
    → first ≡ nothing ++ target_line s.identity → second ≡ first ++ bank_line s.bank s.sequence → third ≡ second ++ loads_line count
    → all ≡ third ++ flat_map load_lines s.loads → all ≡ listing s
whole_listing s entries count nothing first second third all none are many is_first is_second is_third is_all =
    let so_many : count ≡ length s.loads = sym many ∙ sym (ap length are) ∙ length-map s.loads entry_of in
    let one : first ≡ target_line s.identity = is_first ∙ ap (λ (l : List ℕ). l ++ target_line s.identity) none in
    let two : second ≡ target_line s.identity ++ bank_line s.bank s.sequence = is_second ∙ ap (λ (l : List ℕ). l ++ bank_line s.bank s.sequence) one in
    let three : third ≡ target_line s.identity ++ bank_line s.bank s.sequence ++ loads_line (length s.loads) =
    is_third ∙ ap₂ (λ (l : List ℕ) (n : ℕ). l ++ loads_line n) two so_many in
    is_all ∙ ap (λ (l : List ℕ). l ++ flat_map load_lines s.loads) three
