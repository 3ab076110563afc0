-- What a manifest says of its loads, from where it stands on a disk.
use Rattle.std.proofs.Common.{◌≡◌, ◌↔◌, Bool, true, false, IsTrue, ℕ, ◌+◌, ◌-◌, ◌<◌, ◌≤◌, ◌^◌, List, [], ◌++◌, length, take, drop, sym, ◌∙◌, ap, arith, length-append, append_assoc}
use Rattle.std.specs.List.{concat, flat_map}
use Rattle.std.proofs.Math.Seq.{drop-append_seam, take-append_seam}
use Rattle.field_grammar.specs.Fields.{number_bytes, number_in}
use Rattle.field_grammar.specs.Grammar.{Spelled}
use Rattle.field_grammar.proofs.NumberLemmas.{length_number_bytes, wide2}
use Rattle.disk_model.specs.Image.{Image, range}
use Rattle.disk_model.proofs.RangeLemmas.{drop_range, length_range, take_range}
use Rattle.disk_layout.specs.Offsets.{layout_mark}
use Rattle.disk_layout.specs.Entries.{entry_bytes, typed_loads}
use Rattle.disk_layout.proofs.EntriesLemmas.{all_are_typed, none_is_typed}
use Rattle.disk_layout.specs.Manifest.{LoadEntry, ManifestFits, load_entry_fields, manifest, manifest_fields}
use Rattle.disk_layout.proofs.ManifestSpelling.{manifest_spelling}
use Rattle.disk_layout.specs.declared.manifest.Layout.{Layout}
use Rattle.disk_layout.specs.declared.manifest.Layout.TheVariants as layouts

-- the first two bytes, behind which others stand
take_two : (value : ℕ) (rest : List ℕ) → take 2 (number_bytes 2 value ++ rest) ≡ number_bytes 2 value
take_two value rest = ap (λ (n : ℕ). take n (number_bytes 2 value ++ rest)) (sym (length_number_bytes 2 value)) ∙ take-append_seam (number_bytes 2 value) rest

-- two bytes say one number
one_number : (a b : ℕ) → a < 256 ^ 2 → b < 256 ^ 2 → number_bytes 2 a ≡ number_bytes 2 b → a ≡ b
one_number a b few more same = sym (wide2.again a few) ∙ ap (number_in 2) same ∙ wide2.again b more

module _ (image : Image) (at size : ℕ) (loads : List LoadEntry) (spelled : Spelled manifest (range image at size) loads) where
  abbrev bytes : List ℕ
  bytes = range image at size

  abbrev Is : Layout → Type 0
  Is layout = bytes ≡ concat (manifest_fields layout loads)

  abbrev mark : List ℕ
  mark = number_bytes 2 layout_mark

  abbrev count : List ℕ
  count = number_bytes 2 (length loads)

  abbrev behind : Layout → List ℕ
  behind layout = concat (flat_map (load_entry_fields layout) loads)

  two_is : Is layouts.Two → bytes ≡ mark ++ (count ++ behind layouts.Two)
  two_is is = is

  one_is : Is layouts.One → bytes ≡ count ++ behind layouts.One
  one_is is = is

  -- in layout 1 none is told
  untyped : ManifestFits layouts.One loads → entry_bytes (typed_loads loads) ≡ []
  untyped fits = ap entry_bytes (none_is_typed loads fits.each)

  begins : 2 ≤ size → take 2 bytes ≡ range image at 2
  begins long = take_range image at size 2 long

  -- the mark of layout 2 is none of a number of loads
  no_mark : ManifestFits layouts.One loads → Is layouts.One → 2 ≤ size → range image at 2 ≡ mark → ⊥
  no_mark fits is long there =
      let same : count ≡ mark = sym (take_two (length loads) (behind layouts.One)) ∙ ap (λ (l : List ℕ). take 2 l) (sym (one_is is)) ∙ begins long ∙ there in
      let few = fits.count in
      let number : length loads ≡ layout_mark = one_number (length loads) layout_mark (omega (arith, few)) (omega arith) same in
      omega (arith, few, number)

  has_mark : Is layouts.Two → 2 ≤ size → range image at 2 ≡ mark
  has_mark is long = sym (begins long) ∙ ap (λ (l : List ℕ). take 2 l) (two_is is) ∙ take_two layout_mark (count ++ behind layouts.Two)

  long_enough : Is layouts.Two → 4 ≤ size
  long_enough is =
      omega (
        arith,
        length_range image at size,
        ap length (two_is is) ∙ length-append mark (count ++ behind layouts.Two),
        length-append count (behind layouts.Two),
        length_number_bytes 2 layout_mark,
        length_number_bytes 2 (length loads),
      )

  abbrev text : (layout : Layout) × ManifestFits layout loads × Is layout
  text = (manifest_spelling bytes loads).0 spelled

  pub short_says_nothing : size < 4 → entry_bytes (typed_loads loads) ≡ []
  short_says_nothing short = by_layout text.0 text.1 text.2
    where
      by_layout : (layout : Layout) → ManifestFits layout loads → Is layout → entry_bytes (typed_loads loads) ≡ []
      by_layout layouts.One fits is = untyped fits
      by_layout layouts.Two fits is = absurd (let long = long_enough is in omega (arith, long, short))

  pub unmarked_says_nothing : 4 ≤ size → ¬ (range image at 2 ≡ mark) → entry_bytes (typed_loads loads) ≡ []
  unmarked_says_nothing long other = by_layout text.0 text.1 text.2
    where
      by_layout : (layout : Layout) → ManifestFits layout loads → Is layout → entry_bytes (typed_loads loads) ≡ []
      by_layout layouts.One fits is = untyped fits
      by_layout layouts.Two fits is = absurd (other (has_mark is (omega (arith, long))))

  pub marked_says_all : 4 ≤ size → range image at 2 ≡ mark → range image (at + 4) (size - 4) ≡ entry_bytes (typed_loads loads)
  marked_says_all long there = by_layout text.0 text.1 text.2
    where
      by_layout : (layout : Layout) → ManifestFits layout loads → Is layout → range image (at + 4) (size - 4) ≡ entry_bytes (typed_loads loads)
      by_layout layouts.One fits is = absurd (no_mark fits is (omega (arith, long)) there)
      by_layout layouts.Two fits is =
          let head : List ℕ = mark ++ count in
          let four : 4 ≡ length head = omega (arith, length-append mark count, length_number_bytes 2 layout_mark, length_number_bytes 2 (length loads)) in
          sym (drop_range image at size 4) ∙ ap (λ (l : List ℕ). drop 4 l) (two_is is ∙ sym (append_assoc mark count (behind layouts.Two)))
          ∙ ap (λ (n : ℕ). drop n (head ++ behind layouts.Two)) four ∙ drop-append_seam head (behind layouts.Two) ∙ ap entry_bytes (sym (all_are_typed loads fits.each))

-- the test of the first bytes that were read
both : (test : Bool) → test ≡ true → test ≡ false → ⊥
both test holds fails = let same : true ≡ false = sym holds ∙ fails in cc

pub is_unmarked : (image : Image) (at : ℕ) (head : List ℕ) (test : Bool) → (IsTrue test ↔ (take 2 head ≡ number_bytes 2 layout_mark)) → test ≡ false → head ≡ range image at 4 → ¬ (range image at 2 ≡ number_bytes 2 layout_mark)
is_unmarked image at head test tells fails is there =
    both test (tells.1 (ap (λ (l : List ℕ). take 2 l) is ∙ take_range image at 4 2 (omega arith) ∙ there)) fails

pub is_marked : (image : Image) (at : ℕ) (head : List ℕ) (test : Bool) → (IsTrue test ↔ (take 2 head ≡ number_bytes 2 layout_mark)) → test ≡ true → head ≡ range image at 4 → range image at 2 ≡ number_bytes 2 layout_mark
is_marked image at head test tells holds is = sym (take_range image at 4 2 (omega arith)) ∙ ap (λ (l : List ℕ). take 2 l) (sym is) ∙ tells.0 holds
