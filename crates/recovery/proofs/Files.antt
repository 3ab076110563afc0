-- Files that were read so far, and one more.
use Rattle.std.proofs.Common.{◌≡◌, ℕ, ◌+◌, ◌<◌, List, [], ◌∷◌, ◌++◌, length, take, get_or, sym, ap, ap₂, ◌∙◌}
use Rattle.std.specs.Prelude.{map}
use Rattle.std.proofs.lemmas.List.{take_more}
use Rattle.std.proofs.lemmas.List.{append-nil, map_push}
use Rattle.std.proofs.lemmas.List.Sums.{sum_by_more}
use Rattle.std.proofs.lemmas.List.Concat.{flat_map-append, flat_map-cons}
use Rattle.load_base.specs.Config.{FileView, file_view}
use Rattle.load_base.specs.declared.config.StoredFile.{StoredFile}
use Rattle.disk_model.specs.Image.{Image, range}
use Rattle.disk_layout.specs.Manifest.{entries_length}
use Rattle.disk_layout.specs.Contents.{file_entry_of, bytes_of}
use Rattle.disk_layout.specs.declared.manifest.ManifestFile.{ManifestFile}
use Rattle.disk_layout.proofs.RangeLemmas.{ranges_joined}

pub size_more : (files : List ManifestFile) (i : ℕ) (f : ManifestFile) → i < length files → f ≡ get_or files i f → entries_length (take (i + 1) files) ≡ entries_length (take i files) + f.length
size_more files i f within is = sum_by_more (λ (g : ManifestFile). g.length) files i f within ∙ ap (λ (g : ManifestFile). entries_length (take i files) + g.length) (sym is)

pub entries_more : (stored more : List StoredFile) (file : StoredFile) (files : List ManifestFile) (i : ℕ) (f : ManifestFile) → i < length files → f ≡ get_or files i f
    → more ≡ stored ++ file ∷ [] → file_entry_of (file_view file) ≡ f → map file_entry_of (map file_view stored) ≡ take i files → map file_entry_of (map file_view more) ≡ take (i + 1) files
entries_more stored more file files i f within is pushed entry so_far =
    ap (λ (l : List StoredFile). map file_entry_of (map file_view l)) pushed ∙ ap (map file_entry_of) (map_push file_view stored file)
    ∙ map_push file_entry_of (map file_view stored) (file_view file)
    ∙ ap₂ (λ (l : List ManifestFile) (g : ManifestFile). l ++ g ∷ []) so_far (entry ∙ is) ∙ sym (take_more files i f within)

pub bytes_with : (files : List FileView) (file : FileView) → bytes_of (files ++ file ∷ []) ≡ bytes_of files ++ file.bytes
bytes_with files file =
    flat_map-append (λ (g : FileView). g.bytes) files (file ∷ [])
    ∙ ap (λ (l : List ℕ). bytes_of files ++ l) (flat_map-cons (λ (g : FileView). g.bytes) file [] ∙ append-nil file.bytes)

pub bytes_more : (image : Image) (start at size n : ℕ) (stored more : List StoredFile) (file : StoredFile) → at ≡ start + size → more ≡ stored ++ file ∷ []
    → bytes_of (map file_view stored) ≡ range image start size → file.bytes.items ≡ range image at n → bytes_of (map file_view more) ≡ range image start (size + n)
bytes_more image start at size n stored more file follows pushed so_far now =
    ap (λ (l : List StoredFile). bytes_of (map file_view l)) pushed ∙ ap bytes_of (map_push file_view stored file) ∙ bytes_with (map file_view stored) (file_view file)
    ∙ ap₂ (λ (a : List ℕ) (b : List ℕ). a ++ b) so_far now ∙ ranges_joined image start size at n follows

-- before the first file
pub nothing_stored : (image : Image) (start : ℕ) (stored : List StoredFile) → stored ≡ [] → bytes_of (map file_view stored) ≡ range image start 0
unfolding range
nothing_stored image start stored none = ap (λ (l : List StoredFile). bytes_of (map file_view l)) none
