-- Loads that were read one at a time so far, and one more.
use Rattle.std.proofs.Common.{◌≡◌, ℕ, ◌+◌, ◌-◌, ◌<◌, ◌≤◌, List, [], ◌∷◌, ◌++◌, length, Result, Ok, Err, Option, Some, None, ◌⊎◌, inl, inr, refl, sym, ap, subst, ◌∙◌, arith}
use Rattle.std.specs.Prelude.{IfSome, IfNone}
use Rattle.std.specs.List.{All}
use Rattle.std.proofs.lemmas.List.{append-nil, append_assoc}
use Rattle.std.proofs.lemmas.List.Elements.{All-head, All-tail, All-weaker}
use Rattle.field_grammar.specs.Grammar.{IsBytes, Spelled}
use Rattle.field_grammar.specs.Answers.{answer}
use Rattle.field_grammar.proofs.StepLemmas.{then_ok}
use Rattle.disk_model.specs.Image.{Image}
use Rattle.disk_layout.specs.Manifest.{FitsALayout, LoadEntry, LoadFits, RefusesManifestBytes, left_in, manifest, entries_length, total_length, with_these}
use Rattle.disk_layout.proofs.ManifestLemmas.{manifest_found, manifest_faulty, fault_has_offset}
use Rattle.disk_layout.proofs.ManifestSpelling.{manifest_spelling}
use Rattle.disk_layout.specs.declared.manifest.ManifestFault.{ManifestFault}
use Rattle.disk_layout.specs.declared.manifest.ManifestFault.TheVariants.{Wrong, Memory}
use Rattle.disk_layout.specs.declared.manifest.ManifestReader.{ManifestReader}
use Rattle.disk_layout.specs.declared.fault.RecoverFault.{RecoverFault}
use Rattle.disk_layout.specs.declared.fault.RecoverFault.TheVariants.{BadManifest}
use Rattle.recovery.specs.Listings.{ListsAll, ListsLoad, ListsLoads}
use Rattle.recovery.specs.Outlines.{LeftAfterLoads, IsLeftAfter, TellsLoads}
use Rattle.recovery.specs.Parts.{HasAFile, HasOtherLengths}
use Rattle.recovery.proofs.Lines.{no_loads, one_more_load}
use Rattle.recovery.proofs.Loads.{total_joined, total_of_one, total_with}

-- ---- loads before those that are left

pub none_before : (r : Result (List LoadEntry) ManifestFault) → with_these [] r ≡ r
none_before (Ok loads) = refl
none_before (Err fault) = refl

-- one of those that are left is read
pub one_before : (seen : List LoadEntry) (e : LoadEntry) (old new : Result (List LoadEntry) ManifestFault) → old ≡ with_these (e ∷ []) new → with_these seen old ≡ with_these (seen ++ e ∷ []) new
one_before seen e old new first = ap (with_these seen) first ∙ regrouped new
  where
    regrouped : (r : Result (List LoadEntry) ManifestFault) → with_these seen (with_these (e ∷ []) r) ≡ with_these (seen ++ e ∷ []) r
    regrouped (Ok more) = ap (λ (l : List LoadEntry). Ok l) (sym (append_assoc seen (e ∷ []) more))
    regrouped (Err fault) = refl

-- none is left
pub all_seen : (seen : List LoadEntry) (left whole : Result (List LoadEntry) ManifestFault) → left ≡ Ok [] → with_these seen left ≡ whole → whole ≡ Ok seen
all_seen seen left whole none yet = sym yet ∙ ap (with_these seen) none ∙ ap (λ (l : List LoadEntry). Ok l) (append-nil seen)

-- they can't be read
pub whole_refused : (seen : List LoadEntry) (left whole : Result (List LoadEntry) ManifestFault) (fault : ManifestFault) → with_these seen left ≡ whole
    → (fault ≡ Memory) ⊎ (left ≡ Err fault) → (fault ≡ Memory) ⊎ (whole ≡ Err fault)
whole_refused seen left whole fault yet (inl wants) = inl wants
whole_refused seen left whole fault yet (inr is) = inr (sym yet ∙ ap (with_these seen) is)

-- what else there is after one that is read
pub after_one : (seen : List LoadEntry) (e : LoadEntry) (old new : Result (List LoadEntry) ManifestFault) (all : List LoadEntry) → old ≡ with_these (e ∷ []) new → with_these seen old ≡ Ok all
    → (rest : List LoadEntry) × (seen ++ e ∷ rest ≡ all)
after_one seen e old new all first yet =
    let (some, is, whole) = then_ok old (λ (more : List LoadEntry). Ok (seen ++ more)) all yet in
    let (rest, left, one) = then_ok new (λ (more : List LoadEntry). Ok (e ∷ more)) some (sym first ∙ is) in
    let both : some ≡ e ∷ rest = cc in
    let all_of : seen ++ some ≡ all = cc in
    (rest, ap (λ (l : List LoadEntry). seen ++ l) (sym both) ∙ all_of)

-- ---- each of them

in_the_middle : {X : Type 0} (P : X → Type 0) (xs : List X) (x : X) (ys : List X) → All P (xs ++ x ∷ ys) → P x
in_the_middle P [] x ys all = All-head P x ys all
in_the_middle P (y ∷ xs) x ys all = in_the_middle P xs x ys (All-tail P y (xs ++ x ∷ ys) all)

pub has_files_of : (seen : List LoadEntry) (e : LoadEntry) (rest all : List LoadEntry) → seen ++ e ∷ rest ≡ all → All (λ (x : LoadEntry). HasAFile x) all → HasAFile e
has_files_of seen e rest all are has = in_the_middle (λ (x : LoadEntry). HasAFile x) seen e rest (subst (λ (l : List LoadEntry). All (λ (x : LoadEntry). HasAFile x) l) (sym are) has)

pub within_all : (seen : List LoadEntry) (e : LoadEntry) (rest all : List LoadEntry) → seen ++ e ∷ rest ≡ all → total_length seen + entries_length e.files ≤ total_length all
within_all seen e rest all are =
    omega (arith, ap total_length are, total_joined seen (e ∷ rest), total_joined (e ∷ []) rest, total_of_one e)

pub each_has_files : (loads : List LoadEntry) → FitsALayout loads → All (λ (x : LoadEntry). HasAFile x) loads
each_has_files loads fits = All-weaker (λ (x : LoadEntry). LoadFits fits.layout x) (λ (x : LoadEntry). HasAFile x) (λ x fit. fit.some) loads fits.fits.each

-- ---- the space that is left

pub room_at_first : (space : ℕ) → IsLeftAfter space (total_length []) (Some space)
room_at_first space = record { some = omega arith; none = tt }

pub left_after_more : (space total size rest : ℕ) (result : Option ℕ) → IfSome result (λ left. size + left ≡ rest) → IfNone result (rest < size) → IsLeftAfter space total (Some rest)
    → IsLeftAfter space (total + size) result
left_after_more space total size rest (Some left) some none was = record { some = omega (arith, some, was.some); none = tt }
left_after_more space total size rest None some none was = record { some = tt; none = omega (arith, none, was.some) }

pub none_left_after : (space total size : ℕ) → IsLeftAfter space total None → IsLeftAfter space (total + size) None
none_left_after space total size was = record { some = tt; none = omega (arith, was.none) }

-- of the loads that were read so far
pub record LeftSoFar (whole : Result (List LoadEntry) ManifestFault) (count counter space : ℕ) (reader : ManifestReader) (left : Option ℕ) : Type 0 where
  pub seen : List LoadEntry
  pub yet : with_these seen (left_in reader) ≡ whole
  pub to_come : reader.left ≡ count - counter
  pub left_after : IsLeftAfter space (total_length seen) left

pub all_left_yet : (whole : Result (List LoadEntry) ManifestFault) (count space : ℕ) (reader : ManifestReader) → left_in reader ≡ whole → count ≡ reader.left → LeftSoFar whole count 0 space reader (Some space)
all_left_yet whole count space reader begun is = record {
  seen = [];
  yet = none_before (left_in reader) ∙ begun;
  to_come = omega (arith, is);
  left_after = room_at_first space;
}

pub room_more : (whole : Result (List LoadEntry) ManifestFault) (count counter space : ℕ) (old new : ManifestReader) (left result : Option ℕ) (e : LoadEntry) → counter < count
    → left_in old ≡ with_these (e ∷ []) (left_in new) → new.left + 1 ≡ old.left → ((total : ℕ) → IsLeftAfter space total left → IsLeftAfter space (total + entries_length e.files) result)
    → LeftSoFar whole count counter space old left → LeftSoFar whole count (counter + 1) space new result
room_more whole count counter space old new left result e within first fewer more was = record {
  seen = was.seen ++ e ∷ [];
  yet = sym (one_before was.seen e (left_in old) (left_in new) first) ∙ was.yet;
  to_come = omega (arith, within, fewer, was.to_come);
  left_after = subst (λ (n : ℕ). IsLeftAfter space n result) (sym (total_with was.seen e)) (more (total_length was.seen) was.left_after);
}

pub has_room : (bytes : List ℕ) (space : ℕ) (reader : ManifestReader) (count counter : ℕ) (left : Option ℕ) → left_in reader ≡ Ok [] → LeftSoFar (answer manifest bytes) count counter space reader left → LeftAfterLoads bytes space left
has_room bytes space reader count counter left none was = record { loads = was.seen; read = all_seen was.seen (left_in reader) (answer manifest bytes) none was.yet; left_after = was.left_after }

-- ---- bytes that are a manifest, and bytes that are none

spells : (bytes : List ℕ) (loads : List LoadEntry) → IsBytes bytes → answer manifest bytes ≡ Ok loads → Spelled manifest bytes loads
spells bytes loads fit read = manifest_found bytes loads fit read

pub tells : (bytes : List ℕ) (space : ℕ) → IsBytes bytes → LeftAfterLoads bytes space (Some 0) → TellsLoads bytes space
tells bytes space fit has = record {
  are_bytes = fit;
  loads = has.loads;
  read = has.read;
  spelled = spells bytes has.loads fit has.read;
  fits = let (layout, fits, is) = (manifest_spelling bytes has.loads).0 (spells bytes has.loads fit has.read) in record { layout = layout; fits = fits };
  lengths = omega (arith, has.left_after.some);
}

-- another number of bytes
pub other_lengths : (bytes : List ℕ) (start space : ℕ) (left : Option ℕ) (fault : RecoverFault) → IsBytes bytes → LeftAfterLoads bytes space left → ¬ (left ≡ Some 0) → fault ≡ BadManifest start
    → HasOtherLengths bytes start space fault
other_lengths bytes start space left fault fit has other is = record {
  loads = has.loads;
  spelled = spells bytes has.loads fit has.read;
  differ = λ same. apart left (total_length has.loads) space has.left_after other same;
  is = is;
}
  where
    apart : (left : Option ℕ) (total space : ℕ) → IsLeftAfter space total left → ¬ (left ≡ Some 0) → total ≡ space → ⊥
    apart (Some rest) total space left_after other same = let none : rest ≡ 0 = omega (arith, left_after.some, same) in other (ap (λ (n : ℕ). Some n) none)
    apart None total space left_after other same = omega (arith, left_after.none, same)

wrong_or_memory : (offset : ℕ) → Wrong offset ≡ Memory → ⊥
wrong_or_memory offset e = cc

pub no_manifest : (bytes : List ℕ) (fault : ManifestFault) → IsBytes bytes → (fault ≡ Memory) ⊎ (answer manifest bytes ≡ Err fault) → RefusesManifestBytes bytes fault
no_manifest bytes Memory fit refused = tt
no_manifest bytes (Wrong offset) fit (inl wants) = absurd (wrong_or_memory offset wants)
no_manifest bytes (Wrong offset) fit (inr refused) =
    let faulty = manifest_faulty bytes offset fit refused in
    let (other, is, within) = fault_has_offset bytes (Wrong offset) faulty in
    (faulty, same offset other is within)
  where
    same : (p q : ℕ) → Wrong p ≡ Wrong q → q ≤ length bytes → p ≤ length bytes
    same p q e within = let here : p ≡ q = cc in rw here within

-- ---- lines

pub record LinesSoFar (reads : Option Image) (start : ℕ) (whole : Result (List LoadEntry) ManifestFault) (before : List ℕ) (count counter : ℕ) (reader : ManifestReader) (at : ℕ) (text : List ℕ) : Type 0 where
  pub seen : List LoadEntry
  pub yet : with_these seen (left_in reader) ≡ whole
  pub to_come : reader.left ≡ count - counter
  pub offset : at ≡ start + total_length seen
  pub listed : ListsLoads reads start seen before text

pub no_lines : (reads : Option Image) (start : ℕ) (before : List ℕ) (count : ℕ) (reader : ManifestReader) → count ≡ reader.left → LinesSoFar reads start (left_in reader) before count 0 reader start before
no_lines reads start before count reader is = record {
  seen = [];
  yet = none_before (left_in reader);
  to_come = omega (arith, is);
  offset = omega arith;
  listed = no_loads reads start before;
}

pub lines_more : (reads : Option Image) (start : ℕ) (whole : Result (List LoadEntry) ManifestFault) (before : List ℕ) (count counter : ℕ) (old new : ManifestReader) (at next : ℕ) (middle after : List ℕ) (e : LoadEntry)
    → counter < count → left_in old ≡ with_these (e ∷ []) (left_in new) → new.left + 1 ≡ old.left → next ≡ at + entries_length e.files → ListsLoad reads at e middle after
    → LinesSoFar reads start whole before count counter old at middle → LinesSoFar reads start whole before count (counter + 1) new next after
lines_more reads start whole before count counter old new at next middle after e within first fewer end now was = record {
  seen = was.seen ++ e ∷ [];
  yet = sym (one_before was.seen e (left_in old) (left_in new) first) ∙ was.yet;
  to_come = omega (arith, within, fewer, was.to_come);
  offset = omega (arith, end, was.offset, total_with was.seen e);
  listed = one_more_load reads start at was.seen e before middle after was.offset was.listed now;
}

-- where the loads that were left have been told
pub lines_of_all : (reads : Option Image) (start : ℕ) (whole : Result (List LoadEntry) ManifestFault) (before : List ℕ) (count counter : ℕ) (reader : ManifestReader) (at : ℕ) (text : List ℕ)
    → left_in reader ≡ Ok [] → LinesSoFar reads start whole before count counter reader at text → ListsAll reads start whole before text
lines_of_all reads start whole before count counter reader at text none was = record { entries = was.seen; are = all_seen was.seen (left_in reader) whole none was.yet; lists = was.listed }
