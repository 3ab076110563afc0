-- What a load adds to the files of the set.
use Rattle.std.proofs.Common.{◌≡◌, ℕ, suc, ◌+◌, ◌≤◌, List, [], ◌∷◌, ◌++◌, length, Option, Ok, refl, sym, ap, subst, ◌∙◌, arith}
use Rattle.std.specs.Prelude.{All, map}
use Rattle.std.specs.List.{flat_map, sum_by, AllByRecursion}
use Rattle.std.specs.Option.{ForSome}
use Rattle.std.proofs.lemmas.List.{map-append}
use Rattle.std.proofs.lemmas.List.Elements.{All-append, All-cons, All-map}
use Rattle.std.proofs.lemmas.List.Sums.{sum_by-append, sum_by-cons}
use Rattle.crc_fields.proofs.WidthLemmas.{crc16_fits, crc32_fits}
use Rattle.load_base.specs.Host.{Files, longest_file}
use Rattle.load_base.specs.Listed.{Listed}
use Rattle.load_header.specs.Header.{HeaderView}
use Rattle.load_header.specs.HeaderChanges.{HasFileNumbers, HasNumbers, HaveSameTexts, file_texts}
use Rattle.load_header.specs.HeaderFields.{header_size, HeaderSpells, IsHeader}
use Rattle.media_check.specs.declared.built.Placed.{Placed}
use Rattle.media_check.specs.Openings.{total_of}
use Rattle.media_build.specs.Building.{AddsLoad, CanTake, IsShortView, ReadsFiles, TakesFiles, TakesLoad, TakesSources, body_place, bodies_length, files_length, header_length, source_in, sources_in, sources_of, unread}
use Rattle.media_build.specs.NoFindings.{body_view}
use Rattle.media_build.specs.Parts.{AreFiles, FileBytes, IsShortSource, LoadFilesView, all_files, body_of, bodies_with, crc_with, entry_of, files_from, header_with, whole_header}
use Rattle.media_build.specs.RecipeSets.{BodyView, RecipeLoadView, data_of, file_body, file_entry, files_of, header_bytes, header_start, load_bodies, support_of}
use Rattle.media_build.specs.declared.statements.FileLine.{FileLine}
use Rattle.media_build.specs.declared.statements.Statement.{Statement}
use Rattle.media_build.proofs.BuiltHeaders.{with_crc}
use Rattle.media_build.proofs.Taking.{told_also}
use Rattle.media_build.proofs.WholeHeaders.{load_is}

-- ---- the header keeps its texts

line_of : FileBytes → FileLine
line_of file = file.line

line_texts : FileLine → List ℕ × List ℕ
line_texts line = (line.name, line.part)

texts_of : (files : List FileBytes) → map file_texts (map entry_of files) ≡ map (λ (line : FileLine). (line.name, line.part)) (map (λ (file : FileBytes). file.line) files)
texts_of [] = refl
texts_of (file ∷ files) = ap (λ (l : List (List ℕ × List ℕ)). (file.line.name, file.line.part) ∷ l) (texts_of files)

texts_start : (lines : List FileLine) → map file_texts (map (file_entry unread) lines) ≡ map (λ (line : FileLine). (line.name, line.part)) lines
texts_start [] = refl
texts_start (line ∷ lines) = ap (λ (l : List (List ℕ × List ℕ)). (line.name, line.part) ∷ l) (texts_start lines)

same_entries : (lines : List FileLine) (files : List FileBytes) → map (λ (file : FileBytes). file.line) files ≡ lines
    → map file_texts (map (file_entry unread) lines) ≡ map file_texts (map entry_of files)
same_entries lines files are = texts_start lines ∙ sym (texts_of files ∙ ap (λ (l : List FileLine). map (λ (line : FileLine). (line.name, line.part)) l) are)

pub same_texts : (load : RecipeLoadView) (files : LoadFilesView) → AreFiles load.own files → HaveSameTexts (header_start unread load) (header_with load files)
unfolding header_start header_with
same_texts load files are = record {
  part = refl;
  type_name = refl;
  hardware = refl;
  positions = refl;
  data_files = same_entries (data_of load) files.data_files are.data_lines;
  support_files = same_entries (support_of load) files.support_files are.support_lines;
  user = refl;
}

entry_numbers : (files : List FileBytes) → All IsShortSource files → AllByRecursion HasFileNumbers (map entry_of files)
entry_numbers [] all = tt
entry_numbers (file ∷ files) all =
    let short : length file.bytes ≤ longest_file = all 0 file (omega arith) in
    ((omega (arith, short), crc16_fits file.bytes), entry_numbers files (λ k d lt. all (suc k) d (omega (arith, lt))))

numbers : (load : RecipeLoadView) (files : LoadFilesView) → AreFiles load.own files → IsHeader (header_start unread load) → HasNumbers (header_with load files)
unfolding header_start header_with
numbers load files are is = record {
  flags = omega arith;
  type_id = is.type_id;
  data_files = entry_numbers files.data_files are.data_short;
  support_files = entry_numbers files.support_files are.support_short;
  load_crc = omega arith;
}

-- ---- the laws of headers, as their crate promises them

abbrev StaysHeader : Type 0
StaysHeader = (g h : HeaderView) → IsHeader g → HaveSameTexts g h → HasNumbers h → IsHeader h

abbrev HaveSameSize : Type 0
HaveSameSize = (g h : HeaderView) → HaveSameTexts g h → header_size g ≡ header_size h

abbrev HaveLength : Type 0
HaveLength = (h : HeaderView) (bytes : List ℕ) → HeaderSpells h bytes → length bytes ≡ header_size h

pub still_fits : StaysHeader → (load : RecipeLoadView) (files : LoadFilesView) → AreFiles load.own files → IsHeader (header_start unread load) → IsHeader (header_with load files)
still_fits stays load files are is = stays (header_start unread load) (header_with load files) is (same_texts load files are) (numbers load files are is)

whole_texts : (load : RecipeLoadView) (files : LoadFilesView) → AreFiles load.own files → HaveSameTexts (header_start unread load) (whole_header load files)
unfolding whole_header
whole_texts load files are =
    let same = same_texts load files are in
    record {
      part = same.part;
      type_name = same.type_name;
      hardware = same.hardware;
      positions = same.positions;
      data_files = same.data_files;
      support_files = same.support_files;
      user = same.user;
    }

whole_fits : StaysHeader → (load : RecipeLoadView) (files : LoadFilesView) → AreFiles load.own files → IsHeader (header_start unread load) → IsHeader (whole_header load files)
unfolding whole_header crc_with
whole_fits stays load files are is = with_crc (header_with load files) (crc_with load files) (crc32_fits _) (still_fits stays load files are is)

whole_length : StaysHeader → HaveSameSize → HaveLength → (load : RecipeLoadView) (files : LoadFilesView) → AreFiles load.own files → IsHeader (header_start unread load)
    → length (header_bytes (whole_header load files)) ≡ header_length load
whole_length stays sizes lengths load files are is =
    lengths (whole_header load files) (header_bytes (whole_header load files)) (whole_fits stays load files are is, refl)
    ∙ sym (sizes (header_start unread load) (whole_header load files) (whole_texts load files are))

-- ---- the files of a load

line_place : FileLine → List ℕ × ℕ
line_place line = (line.name, line.member)

places_of : (files : List FileBytes) → map body_place (map body_of files) ≡ map (λ (line : FileLine). (line.name, line.member)) (map (λ (file : FileBytes). file.line) files)
places_of [] = refl
places_of (file ∷ files) = ap (λ (l : List (List ℕ × ℕ)). (file.line.name, file.line.member) ∷ l) (places_of files)

places_start : (lines : List FileLine) → map body_place (map (file_body unread) lines) ≡ map (λ (line : FileLine). (line.name, line.member)) lines
places_start [] = refl
places_start (line ∷ lines) = ap (λ (l : List (List ℕ × ℕ)). (line.name, line.member) ∷ l) (places_start lines)

lines_are : (load : RecipeLoadView) (files : LoadFilesView) → AreFiles load.own files → map (λ (file : FileBytes). file.line) (all_files files) ≡ files_of load
lines_are load files are =
    map-append (λ (file : FileBytes). file.line) files.data_files files.support_files
    ∙ (ap (λ (l : List FileLine). l ++ map (λ (file : FileBytes). file.line) files.support_files) are.data_lines ∙ ap (λ (l : List FileLine). data_of load ++ l) are.support_lines)

load_places : (load : RecipeLoadView) (files : LoadFilesView) → AreFiles load.own files → map body_place (bodies_with load files) ≡ map body_place (load_bodies unread load)
unfolding bodies_with load_bodies
load_places load files are =
    ap (λ (l : List (List ℕ × ℕ)). (load.load.name, load.load.member) ∷ l)
    (places_of (all_files files) ∙ (ap (λ (l : List FileLine). map (λ (line : FileLine). (line.name, line.member)) l) (lines_are load files are) ∙ sym (places_start (files_of load))))

abbrev size : BodyView → ℕ
size body = length body.bytes

abbrev file_size : FileBytes → ℕ
file_size file = length file.bytes

sizes_of : (files : List FileBytes) → sum_by size (map body_of files) ≡ sum_by file_size files
sizes_of [] = refl
sizes_of (file ∷ files) = omega (arith, sum_by-cons size (body_of file) (map body_of files), sum_by-cons file_size file files, sizes_of files)

load_size : (load : RecipeLoadView) (files : LoadFilesView) → bodies_length (bodies_with load files) ≡ length (header_bytes (whole_header load files)) + files_length files
unfolding bodies_with
load_size load files =
    let first : BodyView = record { name = load.load.name; member = load.load.member; bytes = header_bytes (whole_header load files) } in
    omega (arith, sum_by-cons size first (map body_of (all_files files)), sizes_of (all_files files), sum_by-append file_size files.data_files files.support_files)

load_short : (load : RecipeLoadView) (files : LoadFilesView) → AreFiles load.own files → length (header_bytes (whole_header load files)) ≤ longest_file → All IsShortView (bodies_with load files)
unfolding bodies_with
load_short load files are header =
    let first : BodyView = record { name = load.load.name; member = load.load.member; bytes = header_bytes (whole_header load files) } in
    All-cons IsShortView first (map body_of (all_files files)) header
    (All-map IsShortView body_of (all_files files) (All-append IsShortSource files.data_files files.support_files are.data_short are.support_short))

pub load_added : StaysHeader → HaveSameSize → HaveLength → (load : RecipeLoadView) (own : List Statement) (others total : ℕ) (files : LoadFilesView) (old new : List BodyView)
    → IsHeader (header_start unread load) → own ≡ load.own → ReadsFiles own others files total → new ≡ old ++ bodies_with load files → AddsLoad load others old new total
load_added stays sizes lengths load own others total files old new is same reads added =
    let are : AreFiles load.own files = subst (λ (o : List Statement). AreFiles o files) same reads.are in
    let header = whole_length stays sizes lengths load files are is in
    record {
      bodies = bodies_with load files;
      new_are = added;
      places = load_places load files are;
      short = load_short load files are (omega (arith, header, is.size));
      together = omega (arith, load_size load files, header, reads.total_is);
      small = reads.small;
    }

pub load_taken : (o : Option Files) (load : RecipeLoadView) (own : List Statement) (others total : ℕ) (files : LoadFilesView) (old : List BodyView) (bodies : Listed Placed) → own ≡ load.own
    → map body_view bodies.items ≡ old ++ bodies_with load files → ForSome o (TakesSources others (flat_map source_in own) (TakesFiles own others) (Ok (files, total)))
    → ForSome o (TakesSources others (sources_of load) (TakesLoad load others old) (Ok (bodies, total)))
load_taken o load own others total files old bodies same added takes =
    told_also o _ _ takes (λ told taken.
    let names : flat_map source_in own ≡ sources_of load = ap (λ (l : List Statement). flat_map source_in l) same in (
      subst (λ (n : List (List ℕ)). CanTake told others n) names taken.0,
      record {
        new =
            added ∙ (ap (λ (f : LoadFilesView). old ++ bodies_with load f) (taken.1.new ∙ ap (λ (l : List Statement). files_from (sources_in told) l) same)
            ∙ ap (λ (b : List BodyView). old ++ b) (load_is (sources_in told) load));
        total = taken.1.total ∙ ap (λ (n : List (List ℕ)). others + total_of told n) names;
      },
    ))
