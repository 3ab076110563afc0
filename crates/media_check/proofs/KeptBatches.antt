-- The batches that are kept of a set, and how one is found by its part number.
use Rattle.std.proofs.Common.{◌≡◌, ℕ, ◌+◌, ◌<◌, List, [], ◌∷◌, ◌++◌, length, take, drop, get_or, Bool, true, false, cond, Option, Some, None, refl, sym, ap, ◌∙◌, arith}
use Rattle.std.specs.Prelude.{map, option_map, slice_get}
use Rattle.std.specs.Cmp.Lexicographic.{nat_list_eq_equiv}
use Rattle.std.specs.Map.{lookup}
use Rattle.std.proofs.lemmas.List.{drop_more, length-map, map-append}
use Rattle.std.proofs.lemmas.Option.{slice_get-map, slice_get_read}
use Rattle.load_base.specs.Bytes.{same_bytes}
use Rattle.batch_lists.specs.declared.batches.BatchEntry.{BatchEntry}
use Rattle.media_check.specs.Batches.{AreKeptBatches, HaveFirst, KeptBatchView, batch_at, batch_kept, batch_kept_as, batch_kept_at, batch_of_entry, entry_at, first_batch, kept_view}
use Rattle.media_check.specs.Kept.{ListedFileView}
use Rattle.media_check.specs.declared.batches.KeptBatch.{KeptBatch}
use Rattle.media_check.proofs.FindingLists.{mapped_more}

-- ---- what is kept of each entry

-- as many as there are entries
pub as_many : (files : List (List ℕ × ListedFileView)) (entries : List BatchEntry) (kept : List (Option KeptBatch)) → AreKeptBatches files entries kept → length kept ≡ length entries
as_many files entries kept are = sym (length-map kept kept_view) ∙ ap length are ∙ length-map entries (batch_at files)

-- one more entry
pub kept_more : (files : List (List ℕ × ListedFileView)) (entries : List BatchEntry) (i : ℕ) (entry : BatchEntry) (old new : List (Option KeptBatch)) (this : Option KeptBatch) → i < length entries
    → entry ≡ get_or entries i entry → map kept_view old ≡ map (batch_at files) (take i entries) → kept_view this ≡ batch_at files entry → new ≡ old ++ this ∷ []
    → map kept_view new ≡ map (batch_at files) (take (i + 1) entries)
kept_more files entries i entry old new this within is so_far found more =
    ap (map kept_view) more ∙ map-append kept_view old (this ∷ []) ∙ ap (λ (l : List (Option KeptBatchView)). l ++ kept_view this ∷ []) so_far
    ∙ ap (λ (k : Option KeptBatchView). map (batch_at files) (take i entries) ++ k ∷ []) found ∙ sym (mapped_more (batch_at files) entries i entry within is)

-- what is kept at the place of an entry is what is found of it
same_place : (files : List (List ℕ × ListedFileView)) (entries : List BatchEntry) (kept : List (Option KeptBatch)) (i : ℕ) → AreKeptBatches files entries kept
    → option_map kept_view (slice_get kept i) ≡ option_map (batch_at files) (slice_get entries i)
same_place files entries kept i are = sym (slice_get-map kept_view kept i) ∙ ap (λ (l : List (Option KeptBatchView)). slice_get l i) are ∙ slice_get-map (batch_at files) entries i

pub kept_at : (files : List (List ℕ × ListedFileView)) (entries : List BatchEntry) (kept : List (Option KeptBatch)) (i : ℕ) (entry : BatchEntry) (this : Option KeptBatch) → AreKeptBatches files entries kept
    → i < length entries → entry ≡ get_or entries i entry → this ≡ get_or kept i this → kept_view this ≡ batch_at files entry
kept_at files entries kept i entry this are within is at =
    let beside : i < length kept = omega (arith, within, as_many files entries kept are) in
    let left : option_map kept_view (slice_get kept i) ≡ Some (kept_view this) = ap (option_map kept_view) (slice_get_read kept (length kept) i this refl beside at) in
    let right : option_map (batch_at files) (slice_get entries i) ≡ Some (batch_at files entry) = ap (option_map (batch_at files)) (slice_get_read entries (length entries) i entry refl within is) in
    let both : Some (kept_view this) ≡ Some (batch_at files entry) = sym left ∙ same_place files entries kept i are ∙ right in
    cc

-- ---- the first entry with a part number

pub none_first : (part : List ℕ) (entries : List BatchEntry) (i : ℕ) → i ≡ length entries → first_batch part (drop i entries) ≡ None
none_first part [] i is = rw is refl
none_first part (e ∷ entries) i is = rw is (none_first part entries (length entries) refl)

-- one more entry, before the others
pub first_more : (entries : List BatchEntry) (i : ℕ) (entry : BatchEntry) (part : List ℕ) (old new : Option ℕ) → i < length entries → entry ≡ get_or entries i entry
    → new ≡ cond (same_bytes entry.part part) (Some i) old → entry_at entries old ≡ first_batch part (drop (i + 1) entries) → entry_at entries new ≡ first_batch part (drop i entries)
first_more entries i entry part old new within is put so_far =
    let stands : drop i entries ≡ entry ∷ drop (i + 1) entries = drop_more entries i entry within ∙ ap (λ (e : BatchEntry). e ∷ drop (i + 1) entries) (sym is) in
    let here : slice_get entries i ≡ Some entry = slice_get_read entries (length entries) i entry refl within is in
    ap (entry_at entries) put ∙ by (same_bytes entry.part part) (same_bytes part entry.part) (nat_list_eq_equiv.symm entry.part part) here ∙ ap (first_batch part) (sym stands)
  where
    by : (a b : Bool) → a ≡ b → slice_get entries i ≡ Some entry → entry_at entries (cond a (Some i) old) ≡ cond b (Some entry) (first_batch part (drop (i + 1) entries))
    by true true e here = here
    by false false e here = so_far
    by true false e here = absurd cc
    by false true e here = absurd cc

-- ---- a batch by its part number

of_place : (files : List (List ℕ × ListedFileView)) (kept : Option (Option KeptBatch)) (entry : Option BatchEntry) → option_map kept_view kept ≡ option_map (batch_at files) entry
    → batch_kept_as kept ≡ batch_of_entry files entry
of_place files None None e = refl
of_place files None (Some x) e = absurd cc
of_place files (Some k) None e = absurd cc
of_place files (Some k) (Some x) e = let same : kept_view k ≡ batch_at files x = cc in ap batch_kept same

pub found_by_part : (files : List (List ℕ × ListedFileView)) (entries : List BatchEntry) (kept : List (Option KeptBatch)) (indices : List (List ℕ × ℕ)) (part : List ℕ) (index : ℕ)
    → Some index ≡ lookup (same_bytes part) indices → AreKeptBatches files entries kept → HaveFirst indices entries → batch_kept_at kept index ≡ batch_of_entry files (first_batch part entries)
found_by_part files entries kept indices part index found are first =
    let is : slice_get entries index ≡ first_batch part entries = ap (entry_at entries) found ∙ first part in
    of_place files (slice_get kept index) (slice_get entries index) (same_place files entries kept index are) ∙ ap (batch_of_entry files) is

pub unfound_by_part : (files : List (List ℕ × ListedFileView)) (entries : List BatchEntry) (indices : List (List ℕ × ℕ)) (part : List ℕ) → None ≡ lookup (same_bytes part) indices → HaveFirst indices entries
    → None ≡ batch_of_entry files (first_batch part entries)
unfound_by_part files entries indices part found first = ap (batch_of_entry files) (ap (entry_at entries) found ∙ first part)
