-- What a store holds of what was given, as more is given.
use Rattle.std.proofs.Common.{◌≡◌, ◌≢◌, inl, ℕ, ◌+◌, ◌-◌, ◌<◌, ◌≤◌, Some, List, [], ◌∷◌, ◌++◌, length, map, refl, sym, ◌∙◌, ap, ap₂, subst, arith, append_assoc, length-append}
use Rattle.std.specs.List.{All, concat, flat_map}
use Rattle.std.proofs.lemmas.Grind.{flat_map-append}
use Rattle.std.proofs.lemmas.List.{append-nil, map-append, nil_from_length}
use Rattle.std.proofs.lemmas.List.Folds.{concat-append}
use Rattle.std.proofs.lemmas.List.Elements.{All-push, All-nil, All-cons, All-head, All-tail}
use Rattle.load_base.specs.Config.{FileView}
use Rattle.load_base.specs.Host.{longest_file}
use Rattle.load_base.specs.Name.{IsName}
use Rattle.load_base.specs.PartText.{IsPartText}
use Rattle.field_grammar.specs.Fields.{number_bytes, number_fields, short_fields}
use Rattle.disk_model.specs.Image.{Image, range, overlay}
use Rattle.disk_model.proofs.RangeLemmas.{length_range}
use Rattle.disk_model.proofs.OverlayLemmas.{range_beside_overlay, range_of_overlay}
use Rattle.disk_layout.specs.Offsets.{most_loads, most_files}
use Rattle.disk_layout.specs.Manifest.{file_entry_fields, type_fields}
use Rattle.disk_layout.specs.declared.manifest.Layout.TheVariants as layouts
use Rattle.disk_layout.specs.Contents.{file_entry_of, bytes_of}
use Rattle.disk_layout.proofs.RangeLemmas.{ranges_joined}
use Rattle.bank_store.specs.Store.{IsFilling, work_at, SameActive}
use Rattle.bank_store.specs.Given.{Given, GivenLoad, nothing_given, with_load, with_bytes, with_file, file_to_last, Misses, bytes_given, given_fields, IsFile, IsLoad, HasGiven}
use Rattle.bank_store.specs.declared.store.Store.{Store}
use Rattle.bank_store.specs.declared.stage.Stage.{Stage}
use Rattle.bank_store.specs.declared.stage.Stage.TheVariants as stages
use Rattle.bank_store.specs.declared.stage.Filling.{Filling}
use Rattle.bank_store.proofs.Carried.{work_carried}

pub same_filling : (a b : Filling) → ◌≡◌ {A = Stage} (stages.Filling a) (stages.Filling b) → a ≡ b
same_filling a b e = cc

abbrev pub files_of : GivenLoad → List FileView
files_of load = load.files

-- ---- a load begins

pub fields_more : (loads : List GivenLoad) (load : GivenLoad) → concat (flat_map given_fields (loads ++ load ∷ [])) ≡ concat (flat_map given_fields loads) ++ concat (given_fields load)
fields_more loads load =
    ap concat (flat_map-append given_fields loads (load ∷ [])) ∙ concat-append (flat_map given_fields loads) (flat_map given_fields (load ∷ []))
    ∙ ap (λ (l : List (List ℕ)). concat (flat_map given_fields loads) ++ concat l) (append-nil (given_fields load))

new_fields : (part : List ℕ) (type_id announced : ℕ) → concat (given_fields (record { part = part; type_id = Some type_id; announced = announced; files = [] })) ≡ part ++ (number_bytes 2 type_id ++ number_bytes 2 announced)
new_fields part type_id announced = ap (λ (l : List ℕ). part ++ (number_bytes 2 type_id ++ l)) (append-nil (number_bytes 2 announced))

pub misses_more : (loads : List GivenLoad) (load : GivenLoad) (missing : ℕ) → Misses 0 loads → length load.files + missing ≡ load.announced → Misses missing (loads ++ load ∷ [])
misses_more [] load missing was is = is
misses_more (first ∷ []) load missing was is = (omega (arith, was), is)
misses_more (first ∷ next ∷ loads) load missing was is = (was.0, misses_more (next ∷ loads) load missing was.1 is)

bytes_with_load : (part : List ℕ) (type_id announced : ℕ) (g : Given) → bytes_given (with_load part type_id announced g) ≡ bytes_given g
bytes_with_load part type_id announced g =
    ap (λ (l : List FileView). bytes_of l ++ g.bytes) (flat_map-append files_of g.loads (record { part = part; type_id = Some type_id; announced = announced; files = [] } ∷ []) ∙ append-nil (flat_map files_of g.loads))

pub given_load : (old new : Store) (image : Image) (part : List ℕ) (type_id files : ℕ) (progress : Filling) (g : Given) → SameActive old new → IsFilling old progress → progress.missing ≡ 0 → progress.loads < most_loads
    → IsFilling new (record { loads = progress.loads + 1; missing = files; end = progress.end; start = progress.start }) → new.body.items ≡ ((old.body.items ++ part) ++ number_bytes 2 type_id) ++ number_bytes 2 files
    → IsPartText part → type_id < 65536 → 1 ≤ files → files ≤ most_files → HasGiven old image g → HasGiven new image (with_load part type_id files g)
given_load old new image part type_id files progress g rules filling none few stage body is_part small some most was =
    let same : was.progress ≡ progress = same_filling was.progress progress (sym was.stage ∙ filling) in
    let load : GivenLoad = record { part = part; type_id = Some type_id; announced = files; files = [] } in
    let bytes = bytes_with_load part type_id files g in
    record {
      progress = record { loads = progress.loads + 1; missing = files; end = progress.end; start = progress.start };
      stage = stage;
      loads = length-append g.loads (load ∷ []) ∙ ap (λ (n : ℕ). n + 1) (was.loads ∙ ap (λ (f : Filling). f.loads) same);
      few = omega (arith, few);
      missing = misses_more g.loads load files (subst (λ (n : ℕ). Misses n g.loads) (ap (λ (f : Filling). f.missing) same ∙ none) was.missing) (omega arith);
      each = All-push (λ (l : GivenLoad). IsLoad l) g.loads load was.each (record { part = is_part; type_id = (type_id, refl, small); some = some; few = most; files = All-nil (λ (f : FileView). IsFile f) });
      body = body ∙ append_assoc (old.body.items ++ part) (number_bytes 2 type_id) (number_bytes 2 files) ∙ append_assoc old.body.items part (number_bytes 2 type_id ++ number_bytes 2 files)
          ∙ ap (λ (l : List ℕ). l ++ (part ++ (number_bytes 2 type_id ++ number_bytes 2 files))) was.body
          ∙ sym (fields_more g.loads load ∙ ap (λ (l : List ℕ). concat (flat_map given_fields g.loads) ++ l) (new_fields part type_id files));
      end = ap length bytes ∙ was.end ∙ ap (λ (f : Filling). f.end) same;
      start = ap (λ (f : Filling). f.start + length g.bytes) (sym same) ∙ was.start ∙ ap (λ (f : Filling). f.end) same;
      written = ap (λ (n : ℕ). range image n progress.end) (work_carried old new rules) ∙ ap (λ (f : Filling). range image (work_at old) f.end) (sym same) ∙ was.written ∙ sym bytes;
    }

-- ---- a file ends

module _ (file : FileView) where
  length_last : (loads : List GivenLoad) → length (file_to_last file loads) ≡ length loads
  length_last [] = refl
  length_last (load ∷ []) = refl
  length_last (load ∷ next ∷ loads) = let more = length_last (next ∷ loads) in omega (arith, more)

  misses_less : (loads : List GivenLoad) (missing : ℕ) → 1 ≤ missing → Misses missing loads → Misses (missing - 1) (file_to_last file loads)
  misses_less [] missing some was = absurd (omega (arith, some, was))
  misses_less (load ∷ []) missing some was = omega (arith, some, was, length-append load.files (file ∷ []))
  misses_less (load ∷ next ∷ []) missing some was = (was.0, misses_less (next ∷ []) missing some was.1)
  misses_less (load ∷ next ∷ third ∷ loads) missing some was = (was.0, misses_less (next ∷ third ∷ loads) missing some was.1)

  files_last : (loads : List GivenLoad) → loads ≢ [] → flat_map files_of (file_to_last file loads) ≡ flat_map files_of loads ++ file ∷ []
  files_last [] some = absurd (some refl)
  files_last (load ∷ []) some = append-nil (load.files ++ file ∷ []) ∙ ap (λ (l : List FileView). l ++ file ∷ []) (sym (append-nil load.files))
  files_last (load ∷ next ∷ loads) some =
      ap (λ (l : List FileView). load.files ++ l) (files_last (next ∷ loads) (λ e. cc)) ∙ sym (append_assoc load.files (flat_map files_of (next ∷ loads)) (file ∷ []))

  one_more_file : (load : GivenLoad) → given_fields (record { part = load.part; type_id = load.type_id; announced = load.announced; files = load.files ++ file ∷ [] }) ≡ given_fields load ++ file_entry_fields (file_entry_of file)
  one_more_file load =
      let entries : flat_map file_entry_fields (map file_entry_of (load.files ++ file ∷ [])) ≡ flat_map file_entry_fields (map file_entry_of load.files) ++ file_entry_fields (file_entry_of file) =
      ap (flat_map file_entry_fields) (map-append file_entry_of load.files (file ∷ [])) ∙ flat_map-append file_entry_fields (map file_entry_of load.files) (file_entry_of file ∷ []) in
      let said : List (List ℕ) = type_fields layouts.Two load.type_id in
      ap (λ (l : List (List ℕ)). load.part ∷ (said ++ number_bytes 2 load.announced ∷ l)) entries
      ∙ ap (λ (l : List (List ℕ)). load.part ∷ l) (sym (append_assoc said (number_bytes 2 load.announced ∷ flat_map file_entry_fields (map file_entry_of load.files)) (file_entry_fields (file_entry_of file))))

  fields_last : (loads : List GivenLoad) → loads ≢ [] → concat (flat_map given_fields (file_to_last file loads)) ≡ concat (flat_map given_fields loads) ++ concat (file_entry_fields (file_entry_of file))
  fields_last loads some = ap concat (by_loads loads some) ∙ concat-append (flat_map given_fields loads) (file_entry_fields (file_entry_of file))
    where
      by_loads : (loads : List GivenLoad) → loads ≢ [] → flat_map given_fields (file_to_last file loads) ≡ flat_map given_fields loads ++ file_entry_fields (file_entry_of file)
      by_loads [] some = absurd (some refl)
      by_loads (load ∷ []) some =
          append-nil _ ∙ one_more_file load ∙ ap (λ (l : List (List ℕ)). l ++ file_entry_fields (file_entry_of file)) (sym (append-nil (given_fields load)))
      by_loads (load ∷ next ∷ loads) some =
          ap (λ (l : List (List ℕ)). given_fields load ++ l) (by_loads (next ∷ loads) (λ e. cc))
          ∙ sym (append_assoc (given_fields load) (flat_map given_fields (next ∷ loads)) (file_entry_fields (file_entry_of file)))

  loads_last : IsFile file → (loads : List GivenLoad) → All (λ (l : GivenLoad). IsLoad l) loads → All (λ (l : GivenLoad). IsLoad l) (file_to_last file loads)
  loads_last fits [] each = each
  loads_last fits (load ∷ []) each =
      let is : IsLoad load = All-head (λ (l : GivenLoad). IsLoad l) load [] each in
      All-cons (λ (l : GivenLoad). IsLoad l) (record { part = load.part; type_id = load.type_id; announced = load.announced; files = load.files ++ file ∷ [] }) []
      (record { part = is.part; type_id = is.type_id; some = is.some; few = is.few; files = All-push (λ (f : FileView). IsFile f) load.files file is.files fits }) (All-nil (λ (l : GivenLoad). IsLoad l))
  loads_last fits (load ∷ next ∷ loads) each =
      All-cons (λ (l : GivenLoad). IsLoad l) load (file_to_last file (next ∷ loads)) (All-head (λ (l : GivenLoad). IsLoad l) load (next ∷ loads) each)
      (loads_last fits (next ∷ loads) (All-tail (λ (l : GivenLoad). IsLoad l) load (next ∷ loads) each))

bytes_with_file : (name : List ℕ) (g : Given) → g.loads ≢ [] → bytes_given (with_file name g) ≡ bytes_given g
bytes_with_file name g some =
    let file : FileView = record { name = name; bytes = g.bytes } in
    append-nil (bytes_of (flat_map files_of (file_to_last file g.loads))) ∙ ap bytes_of (files_last file g.loads some)
    ∙ flat_map-append (λ (f : FileView). f.bytes) (flat_map files_of g.loads) (file ∷ []) ∙ ap (λ (l : List ℕ). bytes_of (flat_map files_of g.loads) ++ l) (append-nil g.bytes)

entry_bytes : (name : List ℕ) (size : ℕ) (body : List ℕ) → body ++ concat (short_fields name ++ number_fields 4 size) ≡ ((body ++ number_bytes 1 (length name)) ++ name) ++ number_bytes 4 size
entry_bytes name size body =
    ap (λ (l : List ℕ). body ++ (number_bytes 1 (length name) ++ (name ++ l))) (append-nil (number_bytes 4 size))
    ∙ sym (append_assoc (body ++ number_bytes 1 (length name)) name (number_bytes 4 size) ∙ append_assoc body (number_bytes 1 (length name)) (name ++ number_bytes 4 size))

no_loads_missing : (loads : List GivenLoad) (missing : ℕ) → 1 ≤ missing → Misses missing loads → loads ≢ []
no_loads_missing [] missing some was e = absurd (omega (arith, some, was))
no_loads_missing (load ∷ loads) missing some was e = cc

pub given_file : (old new : Store) (image : Image) (name : List ℕ) (progress : Filling) (g : Given) → SameActive old new → IsFilling old progress → 1 ≤ progress.missing → progress.end ≤ progress.start + longest_file
    → IsFilling new (record { loads = progress.loads; missing = progress.missing - 1; end = progress.end; start = progress.end })
    → new.body.items ≡ ((old.body.items ++ number_bytes 1 (length name)) ++ name) ++ number_bytes 4 (progress.end - progress.start)
    → IsName name → HasGiven old image g → HasGiven new image (with_file name g)
given_file old new image name progress g rules filling left short stage body is_name was =
    let same : was.progress ≡ progress = same_filling was.progress progress (sym was.stage ∙ filling) in
    let file : FileView = record { name = name; bytes = g.bytes } in
    let misses : Misses progress.missing g.loads = subst (λ (n : ℕ). Misses n g.loads) (ap (λ (f : Filling). f.missing) same) was.missing in
    let some : g.loads ≢ [] = no_loads_missing g.loads progress.missing left misses in
    let bytes = bytes_with_file name g some in
    let start : progress.start + length g.bytes ≡ progress.end = ap (λ (f : Filling). f.start + length g.bytes) (sym same) ∙ was.start ∙ ap (λ (f : Filling). f.end) same in
    let size : progress.end - progress.start ≡ length g.bytes = omega (arith, start) in
    record {
      progress = record { loads = progress.loads; missing = progress.missing - 1; end = progress.end; start = progress.end };
      stage = stage;
      loads = length_last file g.loads ∙ was.loads ∙ ap (λ (f : Filling). f.loads) same;
      few = subst (λ (f : Filling). f.loads ≤ most_loads) same was.few;
      missing = misses_less file g.loads progress.missing left misses;
      each = loads_last file (record { name = is_name; short = omega (arith, start, short) }) g.loads was.each;
      body = body ∙ ap (λ (n : ℕ). ((old.body.items ++ number_bytes 1 (length name)) ++ name) ++ number_bytes 4 n) size
          ∙ ap (λ (l : List ℕ). ((l ++ number_bytes 1 (length name)) ++ name) ++ number_bytes 4 (length g.bytes)) was.body
          ∙ sym (entry_bytes name (length g.bytes) (concat (flat_map given_fields g.loads))) ∙ sym (fields_last file g.loads some);
      end = ap length bytes ∙ was.end ∙ ap (λ (f : Filling). f.end) same;
      start = omega arith;
      written = ap (λ (n : ℕ). range image n progress.end) (work_carried old new rules) ∙ ap (λ (f : Filling). range image (work_at old) f.end) (sym same) ∙ was.written ∙ sym bytes;
    }

-- ---- nothing, and more bytes

pub given_nothing : (store : Store) (image : Image) → IsFilling store (record { loads = 0; missing = 0; end = 0; start = 0 }) → store.body.items ≡ [] → HasGiven store image nothing_given
given_nothing store image stage body = record {
  progress = record { loads = 0; missing = 0; end = 0; start = 0 };
  stage = stage;
  loads = refl;
  few = omega arith;
  missing = refl;
  each = All-nil (λ (l : GivenLoad). IsLoad l);
  body = body;
  end = refl;
  start = refl;
  written = nil_from_length (range image (work_at store) 0) (length_range image (work_at store) 0);
}

pub given_bytes : (old new : Store) (image now : Image) (more : List ℕ) (progress : Filling) (g : Given) → SameActive old new → IsFilling old progress
    → IsFilling new (record { loads = progress.loads; missing = progress.missing; end = progress.end + length more; start = progress.start }) → new.body.items ≡ old.body.items
    → now ≡ overlay image (work_at old + progress.end) more → HasGiven old image g → HasGiven new now (with_bytes more g)
given_bytes old new image now more progress g rules filling stage body is was =
    let same : was.progress ≡ progress = same_filling was.progress progress (sym was.stage ∙ filling) in
    let files = bytes_of (flat_map files_of g.loads) in
    let bytes : bytes_given (with_bytes more g) ≡ bytes_given g ++ more = sym (append_assoc files g.bytes more) in
    let at = work_at old in
    let prefix : range (overlay image (at + progress.end) more) at progress.end ≡ bytes_given g =
    range_beside_overlay image (at + progress.end) more at progress.end (inl (omega arith)) ∙ ap (λ (f : Filling). range image at f.end) (sym same) ∙ was.written in
    let behind : range (overlay image (at + progress.end) more) (at + progress.end) (length more) ≡ more = range_of_overlay image (at + progress.end) (length more) more refl in
    record {
      progress = record { loads = progress.loads; missing = progress.missing; end = progress.end + length more; start = progress.start };
      stage = stage;
      loads = was.loads ∙ ap (λ (f : Filling). f.loads) same;
      few = subst (λ (f : Filling). f.loads ≤ most_loads) same was.few;
      missing = subst (λ (n : ℕ). Misses n g.loads) (ap (λ (f : Filling). f.missing) same) was.missing;
      each = was.each;
      body = body ∙ was.body;
      end = ap length bytes ∙ length-append (bytes_given g) more ∙ ap (λ (n : ℕ). n + length more) (was.end ∙ ap (λ (f : Filling). f.end) same);
      start =
          let start : progress.start + length g.bytes ≡ progress.end = ap (λ (f : Filling). f.start + length g.bytes) (sym same) ∙ was.start ∙ ap (λ (f : Filling). f.end) same in
          omega (arith, start, length-append g.bytes more);
      written = ap (λ (n : ℕ). range now n (progress.end + length more)) (work_carried old new rules) ∙ ap (λ (i : Image). range i at (progress.end + length more)) is
          ∙ sym (ranges_joined (overlay image (at + progress.end) more) at progress.end (at + progress.end) (length more) refl) ∙ ap₂ (λ (a : List ℕ) (b : List ℕ). a ++ b) prefix behind ∙ sym bytes;
    }

pub given_none : (store : Store) (image now : Image) (bytes : List ℕ) (g : Given) → length bytes ≡ 0 → image ≡ now → HasGiven store image g → HasGiven store now (with_bytes bytes g)
given_none store image now bytes g none same was =
    let is : g ≡ with_bytes bytes g = sym (ap (λ (l : List ℕ). with_bytes l g) (nil_from_length bytes none) ∙ ap (λ (l : List ℕ). given_by g l) (append-nil g.bytes)) in
    subst (λ (h : Given). HasGiven store now h) is (subst (λ (i : Image). HasGiven store i g) same was)
  where
    given_by : Given → List ℕ → Given
    given_by h l = record { loads = h.loads; bytes = l }
