-- What the store has after each of its calls.
use Rattle.std.proofs.Common.{◌≡◌, ℕ, ◌+◌, ◌-◌, ◌<◌, ◌≤◌, Some, List, [], ◌∷◌, ◌++◌, length, refl, ap, subst, ◌∙◌, arith, length-append}
use Rattle.bank_store.specs.declared.fault.StoreFault.{StoreFault}
use Rattle.bank_store.specs.declared.fault.StoreFault.TheVariants.{BankFull, SequenceSpent, DiskFailed, Memory}
use Rattle.bank_store.specs.declared.stage.Filling.{Filling}
use Rattle.bank_store.specs.declared.store.Store.{Store}
use Rattle.bank_store.specs.DiskWrites.{IsFailure}
use Rattle.bank_store.specs.Store.{AwaitsEnd, AwaitsFile, AwaitsLoad, IsBetweenLoads, IsFilling, PassesBank, bank_size_of, body_of, bytes_appended, file_ended, load_announced, manifest_length, nothing_filled}
use Rattle.disk_layout.specs.Manifest.{LoadEntry, total_length}
use Rattle.load_base.specs.Host.{longest_file}
use Rattle.load_base.specs.Name.{IsName}
use Rattle.load_base.specs.PartText.{IsPartText}
use Rattle.disk_layout.specs.Offsets.{most_files}
use Rattle.load_intake.proofs.Fits.{fit_with_file, fit_with_load}
use Rattle.field_grammar.specs.Fields.{number_bytes}
use Rattle.field_grammar.proofs.SectionLemmas.{size_number}
use Rattle.load_protocol_files.specs.declared.lur.Wanted.{Wanted}
use Rattle.load_intake.specs.Stores.{StoreHas, HasRoomFor, header_alone, with_entry}
use Rattle.load_intake.proofs.Entries.{entries_with_file, entries_with_load}
use Rattle.load_intake.proofs.Sizes.{entry_size, files_more, head_size, manifest_more, size_more_files, total_more}

-- ---- refusals

-- a call that couldn't be refused for what it was asked failed
pub fails : (fault : StoreFault) → ((need have : ℕ) → fault ≡ BankFull need have → ⊥) → (fault ≡ SequenceSpent → ⊥) → IsFailure fault
fails (BankFull need have) full spent = absurd (full need have refl)
fails SequenceSpent full spent = absurd (spent refl)
fails DiskFailed full spent = tt
fails Memory full spent = tt

pub within : (store : Store) (n : ℕ) → HasRoomFor n store → (need have : ℕ) → PassesBank store n need have → ⊥
within store n room need have p =
    let fits : p.0.end + n ≤ bank_size_of store = room p.0 p.1 in
    absurd (omega (arith, p.2, p.3, p.4, fits))

-- ---- what the store has

pub begun_has : (store : Store) → IsFilling store nothing_filled → body_of store ≡ [] → StoreHas store [] 0 0
begun_has store filling body = record {
  progress = nothing_filled;
  filling = filling;
  loads = refl;
  missing = refl;
  start = refl;
  end = refl;
  manifest = omega (arith, ap length body, head_size 0);
  body = body;
  fit = tt;
}

pub load_begun : (old new : Store) (part : List ℕ) (type_id files : ℕ) (loads : List LoadEntry) → ((p : Filling) → IsFilling old p → IsFilling new (load_announced files p)) → manifest_length new ≡ manifest_length old + 19
    → body_of new ≡ ((body_of old ++ part) ++ number_bytes 2 type_id) ++ number_bytes 2 files → IsPartText part → type_id < 65536
    → (1 ≤ files) × (files ≤ most_files) → StoreHas old loads 0 0 → StoreHas new (loads ++ record { part = part; type_id = Some type_id; files = [] } ∷ []) files 0
load_begun old new part type_id files loads filling manifest body is small counts h =
    let l : LoadEntry = record { part = part; type_id = Some type_id; files = [] } in
    record {
      progress = load_announced files h.progress;
      filling = filling h.progress h.filling;
      loads = omega (arith, h.loads, length-append loads (l ∷ []));
      missing = refl;
      start = omega (arith, h.start, total_more loads l);
      end = h.end;
      manifest = omega (arith, manifest, h.manifest, is.size, manifest_more loads l, entry_size l, size_number 2 type_id);
      body = entries_with_load (body_of new) (body_of old) part type_id files loads h.body body;
      fit = fit_with_load part type_id files loads is small counts.0 counts.1 h.fit;
    }

pub appended : (old new : Store) (n : ℕ) (loads : List LoadEntry) (missing taken : ℕ) → ((p : Filling) → IsFilling old p → IsFilling new (bytes_appended n p)) → body_of new ≡ body_of old
    → StoreHas old loads missing taken → StoreHas new loads missing (taken + n)
appended old new n loads missing taken filling body h = record {
  progress = bytes_appended n h.progress;
  filling = filling h.progress h.filling;
  loads = h.loads;
  missing = h.missing;
  start = h.start;
  end = omega (arith, h.end);
  manifest = omega (arith, ap length body, h.manifest);
  body = body ∙ h.body;
  fit = h.fit;
}

pub ended : (old new : Store) (name : List ℕ) (loads : List LoadEntry) (l : LoadEntry) (missing taken : ℕ) → ((p : Filling) → IsFilling old p → IsFilling new (file_ended p)) → manifest_length new ≡ manifest_length old + (5 + length name)
    → ((p : Filling) → IsFilling old p → body_of new ≡ ((body_of old ++ number_bytes 1 (length name)) ++ name) ++ number_bytes 4 (p.end - p.start))
    → IsName name → taken ≤ longest_file
    → StoreHas old (loads ++ l ∷ []) (missing + 1) taken → StoreHas new (loads ++ with_entry l name taken ∷ []) missing 0
ended old new name loads l missing taken filling manifest body is short h =
    let more = with_entry l name taken in
    record {
      progress = file_ended h.progress;
      filling = filling h.progress h.filling;
      loads = omega (arith, h.loads, length-append loads (l ∷ []), length-append loads (more ∷ []));
      missing = omega (arith, h.missing);
      start = omega (arith, h.start, h.end, total_more loads l, total_more loads more, size_more_files l.files (record { name = name; length = taken }));
      end = omega arith;
      manifest =
          omega (
            arith,
            manifest,
            h.manifest,
            manifest_more loads l,
            manifest_more loads more,
            entry_size l,
            entry_size more,
            files_more l.files (record { name = name; length = taken }),
          );
      body =
          let size : h.progress.end - h.progress.start ≡ taken = omega (arith, h.end) in
          entries_with_file (body_of new) (body_of old) name missing taken loads l h.body
          (body h.progress h.filling ∙ ap (λ (n : ℕ). ((body_of old ++ number_bytes 1 (length name)) ++ name) ++ number_bytes 4 n) size);
      fit = fit_with_file missing taken name loads l is short h.fit;
    }

-- ---- what it awaits

pub awaits_load : (store : Store) (loads : List LoadEntry) → StoreHas store loads 0 0 → length loads < 32 → AwaitsLoad store
awaits_load store loads h few = (h.progress, h.filling, omega (arith, h.loads, few), h.missing)

pub awaits_file : (store : Store) (loads : List LoadEntry) (missing taken : ℕ) → StoreHas store loads missing taken → 1 ≤ missing → AwaitsFile store
awaits_file store loads missing taken h some = (h.progress, h.filling, omega (arith, h.missing, some))

pub awaits_end : (store : Store) (loads : List LoadEntry) (missing taken : ℕ) → StoreHas store loads missing taken → 1 ≤ missing → taken ≤ longest_file → AwaitsEnd store
awaits_end store loads missing taken h some short = (h.progress, h.filling, omega (arith, h.missing, some), omega (arith, h.end, short))

pub between : (store : Store) (loads : List LoadEntry) → StoreHas store loads 0 0 → IsBetweenLoads store
between store loads h = (h.progress, h.filling, h.missing)

same_end : (p q : Filling) → p ≡ q → p.end ≡ q.end
same_end p q e = ap (λ (x : Filling). x.end) e

pub room : (store : Store) (loads : List LoadEntry) (missing taken n : ℕ) → StoreHas store loads missing taken → total_length loads + taken + n ≤ bank_size_of store → HasRoomFor n store
room store loads missing taken n h fits p filling =
    let is = h.filling in
    let same : h.progress ≡ p = cc in
    omega (arith, same_end h.progress p same, h.end, h.start, fits)

-- a header was written and ended
pub header_there : (store : Store) (loads : List LoadEntry) (w : Wanted) (part : List ℕ) (type_id n left files : ℕ) → part ≡ w.part → left ≡ files → StoreHas store (loads ++ with_entry (record { part = part; type_id = Some type_id; files = [] }) w.header (0 + n) ∷ []) left 0
    → StoreHas store (loads ++ header_alone w type_id n ∷ []) files 0
header_there store loads w part type_id n left files same few h =
    let P : List ℕ → ℕ → ℕ → Type 0 = λ p size left. StoreHas store (loads ++ record { part = p; type_id = Some type_id; files = record { name = w.header; length = size } ∷ [] } ∷ []) left 0 in
    let zero : 0 + n ≡ n = omega arith in
    subst (λ (x : ℕ). P w.part n x) few (subst (λ (x : ℕ). P w.part x left) zero (subst (λ (x : List ℕ). P x (0 + n) left) same h))

-- a file that may end isn't too long
pub taken_short : (store : Store) (loads : List LoadEntry) (missing taken : ℕ) → AwaitsEnd store → StoreHas store loads missing taken → taken ≤ longest_file
taken_short store loads missing taken awaits h =
    let is = h.filling in
    let filling = awaits.1 in
    let same : h.progress ≡ awaits.0 = cc in
    omega (arith, ap (λ (p : Filling). p.end) same, ap (λ (p : Filling). p.start) same, h.end, awaits.3)
