-- What is found of batches, one more after the other.
use Rattle.std.proofs.Common.{◌≡◌, ℕ, ◌+◌, ◌<◌, List, [], ◌∷◌, ◌++◌, length, take, get_or, Bool, not, true, false, cond, ◌||◌, Option, Some, None, refl, sym, ap, ◌∙◌, append_assoc, append-nil}
use Rattle.std.specs.Prelude.{map}
use Rattle.std.specs.List.{flat_map, list_any}
use Rattle.std.proofs.lemmas.Grind.{flat_map-append}
use Rattle.std.proofs.lemmas.List.Folds.{list_any-append}
use Rattle.load_base.specs.Bytes.{same_bytes}
use Rattle.batch_lists.specs.Batch.{BatchView, BatchTargetView, batch_target_view}
use Rattle.batch_lists.specs.declared.batch.BatchTarget.{BatchTarget}
use Rattle.batch_lists.specs.declared.batches.BatchEntry.{BatchEntry}
use Rattle.batch_lists.specs.declared.fault.BatchFault.{BatchFault}
use Rattle.media_lists.specs.Entries.{is_listed}
use Rattle.media_lists.specs.Loads.{LoadEntryView}
use Rattle.media_check.specs.Batches.{KeptBatchView, batch_at, kept_view}
use Rattle.media_check.specs.declared.batches.KeptBatch.{KeptBatch}
use Rattle.media_check.specs.Findings.{all_batches_findings, batch_findings, batches_list_findings, detailed, found_batch_findings, has_batches, is_part_of, kept_batch_findings, of_members, part_findings, parts_of, plain, read_batch_findings, where_it_holds}
use Rattle.media_check.specs.Kept.{entries_of}
use Rattle.media_check.specs.Sets.{SetView, lists_view}
use Rattle.media_check.specs.declared.finding.Finding.{Finding}
use Rattle.media_check.specs.declared.found.Found.{Found}
use Rattle.media_check.specs.declared.found.Found.TheVariants.{Missing, Refused, Read}
use Rattle.media_check.specs.declared.set.MemberLists.{MemberLists}
use Rattle.media_check.proofs.FindingLists.{mapped_more}

-- ---- which members have a list

pub any_seen : (further : List MemberLists) → list_any has_batches (map lists_view further) ≡ list_any (λ (lists : MemberLists). has_batches (lists_view lists)) further
any_seen [] = refl
any_seen (lists ∷ further) = ap (λ (b : Bool). has_batches (lists_view lists) || b) (any_seen further)

-- ---- the parts of loads

pub no_parts : (part : List ℕ) → is_part_of [] part ≡ list_any (same_bytes part) []
unfolding is_listed
no_parts part = refl

-- one more load
pub parts_more : (part : List ℕ) (loads : List LoadEntryView) (load : LoadEntryView) → is_part_of (loads ++ load ∷ []) part ≡ cond (same_bytes load.part part) true (is_part_of loads part)
unfolding is_listed
parts_more part loads load = list_any-append (λ (l : LoadEntryView). same_bytes l.part part) loads (load ∷ []) ∙ by (list_any (λ (l : LoadEntryView). same_bytes l.part part) loads) (same_bytes load.part part)
  where
    by : (a b : Bool) → (a || (b || false)) ≡ cond b true a
    by true true = refl
    by true false = refl
    by false true = refl
    by false false = refl

-- ---- where two tests tell the same of each part, the same is found

module _ (f g : List ℕ → Bool) (same : (part : List ℕ) → f part ≡ g part) where
  part_known : (member : ℕ) (file part : List ℕ) → part_findings f member file part ≡ part_findings g member file part
  unfolding part_findings
  part_known member file part = ap (λ (b : Bool). where_it_holds (not b) (detailed 19 member file part)) (same part)

  parts_known : (member : ℕ) (file : List ℕ) (parts : List (List ℕ)) → flat_map (part_findings f member file) parts ≡ flat_map (part_findings g member file) parts
  parts_known member file [] = refl
  parts_known member file (part ∷ parts) = rw (part_known member file part, parts_known member file parts) refl

  batch_known : (entry : BatchEntry) (member : ℕ) (b : BatchView) → read_batch_findings f entry member b ≡ read_batch_findings g entry member b
  unfolding read_batch_findings
  batch_known entry member b = ap (λ (l : List Finding). where_it_holds (not (same_bytes b.part entry.part)) (plain 18 member entry.file) ++ l) (parts_known member entry.file (parts_of b))

  found_known : (entry : BatchEntry) (member : ℕ) (found : Found BatchView BatchFault) → found_batch_findings f entry member found ≡ found_batch_findings g entry member found
  found_known entry member Missing = refl
  found_known entry member (Refused fault) = refl
  found_known entry member (Read b) = batch_known entry member b

  kept_known : (entry : BatchEntry) (kept : Option KeptBatchView) → kept_batch_findings f entry kept ≡ kept_batch_findings g entry kept
  kept_known entry None = refl
  kept_known entry (Some kept) = found_known entry kept.member kept.found

  entry_known : (set : SetView) (entry : BatchEntry) → batch_findings set f entry ≡ batch_findings set g entry
  unfolding batch_findings
  entry_known set entry = kept_known entry (batch_at set.files entry)

  pub entries_known : (set : SetView) (entries : List BatchEntry) → flat_map (batch_findings set f) entries ≡ flat_map (batch_findings set g) entries
  entries_known set [] = refl
  entries_known set (entry ∷ entries) = rw (entry_known set entry, entries_known set entries) refl

-- what is found of an entry, from what is kept of it
pub entry_is_found : (set : SetView) (is_loads : List ℕ → Bool) (entry : BatchEntry) (kept : Option KeptBatch) → kept_view kept ≡ batch_at set.files entry
    → kept_batch_findings is_loads entry (kept_view kept) ≡ batch_findings set is_loads entry
unfolding batch_findings
entry_is_found set is_loads entry kept is = ap (kept_batch_findings is_loads entry) is

-- ---- the parts of all that is found of batches

pub batches_found : (set : SetView) (loads : List LoadEntryView) (is_loads : List ℕ → Bool) (start first further whole : List Finding) → ((part : List ℕ) → is_loads part ≡ is_part_of loads part)
    → first ≡ start ++ batches_list_findings set.first 1 set.first → further ≡ first ++ of_members (batches_list_findings set.first) 2 set.further
    → whole ≡ further ++ flat_map (batch_findings set is_loads) (entries_of set.first.batches) → whole ≡ start ++ all_batches_findings set loads
unfolding all_batches_findings of_members
batches_found set loads is_loads start first further whole same one others rest =
    let entries : List BatchEntry = entries_of set.first.batches in
    let lists : List Finding = of_members (batches_list_findings set.first) 2 set.further in
    let head : List Finding = batches_list_findings set.first 1 set.first in
    let found : List Finding = flat_map (batch_findings set (is_part_of loads)) entries in
    rest ∙ ap (λ (l : List Finding). further ++ l) (entries_known is_loads (is_part_of loads) same set entries)
    ∙ ap (λ (l : List Finding). l ++ found) (others ∙ ap (λ (l : List Finding). l ++ lists) one ∙ append_assoc start head lists)
    ∙ append_assoc start (head ++ lists) found

-- one more target
pub target_more : (f : List ℕ → List Finding) (start old new : List Finding) (targets : List BatchTarget) (i : ℕ) (target : BatchTarget) → i < length targets → target ≡ get_or targets i target
    → old ≡ start ++ flat_map f (flat_map (λ (t : BatchTargetView). t.parts) (map batch_target_view (take i targets))) → new ≡ old ++ flat_map f target.parts.items
    → new ≡ start ++ flat_map f (flat_map (λ (t : BatchTargetView). t.parts) (map batch_target_view (take (i + 1) targets)))
target_more f start old new targets i target within is so_far more =
    let parts : BatchTargetView → List (List ℕ) = λ t. t.parts in
    let before : List BatchTargetView = map batch_target_view (take i targets) in
    let seen : map batch_target_view (take (i + 1) targets) ≡ before ++ batch_target_view target ∷ [] = mapped_more batch_target_view targets i target within is in
    let joined : flat_map parts (before ++ batch_target_view target ∷ []) ≡ flat_map parts before ++ target.parts.items =
    flat_map-append parts before (batch_target_view target ∷ []) ∙ ap (λ (l : List (List ℕ)). flat_map parts before ++ l) (append-nil target.parts.items) in
    more ∙ ap (λ (l : List Finding). l ++ flat_map f target.parts.items) so_far ∙ append_assoc start (flat_map f (flat_map parts before)) (flat_map f target.parts.items)
    ∙ ap (λ (l : List Finding). start ++ l) (sym (flat_map-append f (flat_map parts before) target.parts.items) ∙ ap (flat_map f) (sym joined ∙ ap (flat_map parts) (sym seen)))
