-- The whole header of a load, and its files, are those that the recipe names.
use Rattle.std.proofs.Common.{◌≡◌, ℕ, ◌-◌, ◌≤◌, List, [], ◌∷◌, ◌++◌, length, take, refl, sym, ap, ◌∙◌, arith}
use Rattle.std.specs.Prelude.{map}
use Rattle.std.specs.List.{flat_map}
use Rattle.std.proofs.lemmas.List.{map-append}
use Rattle.crc_fields.specs.CheckSums.{crc32_of}
use Rattle.load_header.specs.Header.{HeaderView}
use Rattle.load_header.specs.HeaderChanges.{with_load_crc}
use Rattle.load_header.specs.HeaderFields.{header_size}
use Rattle.media_build.specs.Parts.{FileBytes, LoadFilesView, all_files, body_of, bodies_with, bytes_from, crc_with, files_from, header_with, whole_header}
use Rattle.media_build.specs.RecipeSets.{BodyView, RecipeLoadView, Sources, bytes_of, data_of, file_body, files_of, header_bytes, header_of, header_start, load_bodies, load_crc_of, support_of}
use Rattle.media_build.specs.declared.statements.FileLine.{FileLine}
use Rattle.media_build.proofs.HeaderLimits.{start_with}

pub size_of_end : (h : HeaderView) → 8 ≤ header_size h
unfolding header_size
size_of_end h = omega arith

pub whole_is : (load : RecipeLoadView) (files : LoadFilesView) (h : HeaderView) (start slice : List ℕ) (crc : ℕ) → h ≡ header_with load files → start ≡ header_bytes h → slice ≡ start
    → crc ≡ crc32_of (take (length slice - 4) slice ++ flat_map (λ file. file.bytes) (all_files files)) → with_load_crc h crc ≡ whole_header load files
unfolding whole_header crc_with
whole_is load files h start slice crc is starts same sum =
    ap (λ (x : HeaderView). with_load_crc x crc) is
    ∙ ap (λ (c : ℕ). with_load_crc (header_with load files) c)
    (sum ∙ ap (λ (s : List ℕ). crc32_of (take (length s - 4) s ++ flat_map (λ file. file.bytes) (all_files files))) (same ∙ (starts ∙ ap (λ (x : HeaderView). header_bytes x) is)))

-- ---- of the recipe's sources

all_from : (sources : Sources) (load : RecipeLoadView) → all_files (files_from sources load.own) ≡ map (bytes_from sources) (files_of load)
all_from sources load = sym (map-append (bytes_from sources) (data_of load) (support_of load))

bytes_are : (sources : Sources) (lines : List FileLine) → flat_map (λ (file : FileBytes). file.bytes) (map (bytes_from sources) lines) ≡ flat_map (bytes_of sources) lines
bytes_are sources [] = refl
bytes_are sources (line ∷ lines) = ap (λ (l : List ℕ). bytes_of sources line ++ l) (bytes_are sources lines)

bodies_are : (sources : Sources) (lines : List FileLine) → map body_of (map (bytes_from sources) lines) ≡ map (file_body sources) lines
bodies_are sources [] = refl
bodies_are sources (line ∷ lines) = ap (λ (l : List BodyView). file_body sources line ∷ l) (bodies_are sources lines)

crc_is : (sources : Sources) (load : RecipeLoadView) → crc_with load (files_from sources load.own) ≡ load_crc_of sources load
unfolding crc_with load_crc_of
crc_is sources load =
    ap (λ (h : HeaderView). crc32_of (take (length (header_bytes h) - 4) (header_bytes h) ++ flat_map (λ file. file.bytes) (all_files (files_from sources load.own)))) (start_with sources load)
    ∙ ap (λ (files : List ℕ). crc32_of (take (length (header_bytes (header_start sources load)) - 4) (header_bytes (header_start sources load)) ++ files))
    (ap (λ (files : List FileBytes). flat_map (λ (file : FileBytes). file.bytes) files) (all_from sources load) ∙ bytes_are sources (files_of load))

pub header_is : (sources : Sources) (load : RecipeLoadView) → whole_header load (files_from sources load.own) ≡ header_of sources load
unfolding whole_header header_of
header_is sources load =
    ap (λ (h : HeaderView). with_load_crc h (crc_with load (files_from sources load.own))) (start_with sources load)
    ∙ ap (λ (c : ℕ). with_load_crc (header_start sources load) c) (crc_is sources load)

pub load_is : (sources : Sources) (load : RecipeLoadView) → bodies_with load (files_from sources load.own) ≡ load_bodies sources load
unfolding bodies_with load_bodies
load_is sources load =
    ap (λ (h : HeaderView). let first : BodyView = record { name = load.load.name; member = load.load.member; bytes = header_bytes h } in first ∷ map body_of (all_files (files_from sources load.own))) (header_is sources load)
    ∙ ap (λ (l : List BodyView). let first : BodyView = record { name = load.load.name; member = load.load.member; bytes = header_bytes (header_of sources load) } in first ∷ l)
    (ap (λ (files : List FileBytes). map body_of files) (all_from sources load) ∙ bodies_are sources (files_of load))
