-- Loads of the same names and lengths, all of the media set, are the same.
use Rattle.std.proofs.Common.{◌≡◌, ℕ, List, [], ◌∷◌, ◌++◌, map, Option, Some, refl, sym, ap, ◌∙◌}
use Rattle.std.specs.List.{AllByRecursion}
use Rattle.load_base.specs.Config.{FileView, LoadView}
use Rattle.disk_layout.specs.declared.identity.Identity.{Identity}
use Rattle.disk_layout.specs.declared.manifest.ManifestFile.{ManifestFile}
use Rattle.disk_layout.specs.Manifest.{LoadEntry}
use Rattle.disk_layout.specs.Contents.{entries_of, entry_of, file_entry_of}
use Rattle.session_rules.specs.MediaFiles.{Media}
use Rattle.session_rules.specs.NewConfigs.{AreOfMedia, IsChecked, files_in}

-- ---- files

abbrev IsOfMedia : Media → FileView → Type 0
IsOfMedia media file = media.file file.name ≡ Some file.bytes

abbrev file_with : List ℕ → List ℕ → FileView
file_with name bytes = record { name = name; bytes = bytes }

some_same : (x y : List ℕ) → Some x ≡ Some y → x ≡ y
some_same x y e = cc

file_same : (media : Media) (f g : FileView) → f.name ≡ g.name → IsOfMedia media f → IsOfMedia media g → f ≡ g
file_same media f g name one two =
    let bytes : f.bytes ≡ g.bytes = some_same f.bytes g.bytes (sym one ∙ ap (λ (n : List ℕ). media.file n) name ∙ two) in
    ap (λ (n : List ℕ). file_with n f.bytes) name ∙ ap (λ (b : List ℕ). file_with g.name b) bytes

files_same : (media : Media) (fs gs : List FileView) → map file_entry_of fs ≡ map file_entry_of gs → AllByRecursion (IsOfMedia media) fs → AllByRecursion (IsOfMedia media) gs → fs ≡ gs
files_same media [] [] e one two = refl
files_same media [] (g ∷ gs) e one two = absurd cc
files_same media (f ∷ fs) [] e one two = absurd cc
files_same media (f ∷ fs) (g ∷ gs) e one two =
    let head : file_entry_of f ≡ file_entry_of g = cc in
    let tail : map file_entry_of fs ≡ map file_entry_of gs = cc in
    let first : f ≡ g = file_same media f g (ap (λ (x : ManifestFile). x.name) head) one.0 two.0 in
    let rest : fs ≡ gs = files_same media fs gs tail one.1 two.1 in
    ap (λ (x : FileView). x ∷ fs) first ∙ ap (λ (xs : List FileView). g ∷ xs) rest

-- ---- loads

all_left : {A : Type 0} (P : A → Type 0) (xs ys : List A) → AllByRecursion P (xs ++ ys) → AllByRecursion P xs
all_left P [] ys all = tt
all_left P (x ∷ xs) ys all = (all.0, all_left P xs ys all.1)

all_right : {A : Type 0} (P : A → Type 0) (xs ys : List A) → AllByRecursion P (xs ++ ys) → AllByRecursion P ys
all_right P [] ys all = all
all_right P (x ∷ xs) ys all = all_right P xs ys all.1

abbrev load_with : List ℕ → Option ℕ → List ℕ → List FileView → LoadView
load_with part type_id header files = record { part = part; type_id = type_id; header_name = header; files = files }

-- the header of a good load is its first file
first_names : (f g : FileView) (fs gs xs ys : List FileView) → xs ≡ f ∷ fs → ys ≡ g ∷ gs → xs ≡ ys → f.name ≡ g.name
first_names f g fs gs xs ys one two same =
    let heads : f ∷ fs ≡ g ∷ gs = sym one ∙ same ∙ two in
    let first : f ≡ g = cc in
    ap (λ (x : FileView). x.name) first

load_same : (media : Media) (id id' : Identity) (x y : LoadView) → entry_of x ≡ entry_of y → AllByRecursion (IsOfMedia media) x.files → AllByRecursion (IsOfMedia media) y.files → IsChecked id x → IsChecked id' y → x ≡ y
load_same media id id' x y e one two good fine =
    let part : x.part ≡ y.part = ap (λ (entry : LoadEntry). entry.part) e in
    let type_id : x.type_id ≡ y.type_id = ap (λ (entry : LoadEntry). entry.type_id) e in
    let files : x.files ≡ y.files = files_same media x.files y.files (ap (λ (entry : LoadEntry). entry.files) e) one two in
    let header : x.header_name ≡ y.header_name = first_names (file_with x.header_name good.bytes) (file_with y.header_name fine.bytes) good.files fine.files x.files y.files good.whole fine.whole files in
    ap (λ (p : List ℕ). load_with p x.type_id x.header_name x.files) part ∙ ap (λ (t : Option ℕ). load_with y.part t x.header_name x.files) type_id
    ∙ ap (λ (h : List ℕ). load_with y.part y.type_id h x.files) header ∙ ap (λ (fs : List FileView). load_with y.part y.type_id y.header_name fs) files

pub loads_same : (media : Media) (id id' : Identity) (xs ys : List LoadView) → entries_of xs ≡ entries_of ys → AreOfMedia media xs → AreOfMedia media ys
    → AllByRecursion (IsChecked id) xs → AllByRecursion (IsChecked id') ys → xs ≡ ys
loads_same media id id' [] [] e one two good fine = refl
loads_same media id id' [] (y ∷ ys) e one two good fine = absurd cc
loads_same media id id' (x ∷ xs) [] e one two good fine = absurd cc
loads_same media id id' (x ∷ xs) (y ∷ ys) e one two good fine =
    let head : entry_of x ≡ entry_of y = cc in
    let tail : entries_of xs ≡ entries_of ys = cc in
    let first : x ≡ y
    = load_same media id id' x y head (all_left (IsOfMedia media) x.files (files_in xs) one) (all_left (IsOfMedia media) y.files (files_in ys) two) good.0 fine.0 in
    let rest : xs ≡ ys = loads_same media id id' xs ys tail (all_right (IsOfMedia media) x.files (files_in xs) one) (all_right (IsOfMedia media) y.files (files_in ys) two) good.1 fine.1 in
    ap (λ (l : LoadView). l ∷ xs) first ∙ ap (λ (ls : List LoadView). y ∷ ls) rest
