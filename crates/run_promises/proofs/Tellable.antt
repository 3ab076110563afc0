-- Proofs that a media set that was read can be told.
use Rattle.std.proofs.Common.{◌≡◌, ◌↔◌, inl, inr, ℕ, ◌≤◌, Bool, true, false, cond, List, [], ◌∷◌, map, length, Option, Some, None, Result, Ok, Err, refl, subst, arith}
use Rattle.std.specs.List.{AllByRecursion}
use Rattle.std.specs.Map.{lookup}
use Rattle.load_base.specs.Bytes.{same_bytes}
use Rattle.load_base.specs.Host.{longest_file}
use Rattle.field_grammar.specs.Answers.{answer}
use Rattle.field_grammar.proofs.ExactLemmas.{answer-fault, answer-spelled, spelled_at_start}
use Rattle.field_grammar.specs.Grammar.{IsBytes, IsDecided, Spelled}
use Rattle.load_protocol_files.specs.declared.lur.Wanted.{Wanted}
use Rattle.load_protocol_files.specs.Lur.{WantedFits}
use Rattle.media_lists.specs.Loads.{IsListedLoad, IsLoadsList, LoadEntryView, LoadsListView, LoadsSpells, load_entry_view, loads_list, loads_list_view}
use Rattle.media_lists.specs.declared.fault.ListFault.{ListFault}
use Rattle.media_lists.specs.declared.lists.ListedFile.{ListedFile}
use Rattle.media_lists.specs.declared.lists.LoadEntry.{LoadEntry}
use Rattle.media_lists.specs.declared.lists.LoadsList.{LoadsList}
use Rattle.media_check.specs.Sets.{AreFilesBytes, MediaBytes, SetView, bytes_found, entries_of, file_in, found_as, found_in, list_of, lists_in}
use Rattle.loader_machine.specs.Machine.{loads_in, media_of, wanted_entry}
use Rattle.run_promises.specs.Promises.{CanBeTold}
use Rattle.run_promises.specs.TellableSets.{IsTellableFile, IsTellableLoad, SetsCanBeTold}

-- the laws of the format of LOADS.LUM
pub record ListLaws : Type 0 where
  pub decided : (bytes : List ℕ) → IsBytes bytes → IsDecided loads_list bytes
  pub spelled : (v : LoadsListView) (bytes : List ℕ) → Spelled loads_list bytes v ↔ LoadsSpells v bytes

-- ---- the entries of a list that was read

same_value : (v w : LoadsListView) (r : Result LoadsListView ListFault) → r ≡ Ok v → r ≡ Ok w → v ≡ w
same_value v w r e d = cc

no_value : (v : LoadsListView) (fault : ListFault) (r : Result LoadsListView ListFault) → r ≡ Ok v → r ≡ Err fault → ⊥
no_value v fault r e d = cc

abbrev AllFit : List Wanted → Type 0
AllFit entries = AllByRecursion (λ (entry : Wanted). WantedFits entry) entries

wanted_fit : (members : ℕ) (entries : List LoadEntryView) → AllByRecursion (IsListedLoad members) entries → AllFit (map wanted_entry entries)
wanted_fit members [] all = tt
wanted_fit members (entry ∷ entries) (one, all) = (record { header = one.header_name; part = one.part }, wanted_fit members entries all)

module _ (laws : ListLaws) where
  -- it is a list that can be written
  read_is_list : (bytes : List ℕ) (v : LoadsListView) → IsBytes bytes → answer loads_list bytes ≡ Ok v → IsLoadsList v
  read_is_list bytes v fit e =
      elim (laws.decided bytes fit).one_or_other [
        | inl is ↦
            let same : is.0 ≡ v = same_value is.0 v (answer loads_list bytes) (answer-spelled loads_list bytes is.0 (spelled_at_start loads_list bytes is.0 is.1)) e in
            subst (λ (list : LoadsListView). IsLoadsList list) same ((laws.spelled is.0 bytes).0 is.1).0
        | inr faulty ↦ absurd (no_value v faulty.0 (answer loads_list bytes) e (answer-fault loads_list bytes faulty.0 faulty.1))
      ]

  answer_fits : (bytes : List ℕ) → IsBytes bytes → (r : Result LoadsListView ListFault) → answer loads_list bytes ≡ r → AllFit (loads_in (list_of (found_as r)))
  answer_fits bytes fit (Ok v) e = wanted_fit v.members v.entries (read_is_list bytes v fit e).entries.each
  answer_fits bytes fit (Err fault) e = tt

  loads_fit : (file : Option (List ℕ)) → ((bytes : List ℕ) → file ≡ Some bytes → IsBytes bytes) → AllFit (loads_in (list_of (found_in loads_list file)))
  loads_fit None fit = tt
  loads_fit (Some bytes) fit = answer_fits bytes (fit bytes refl) (answer loads_list bytes) refl

-- ---- its files

abbrev IsTellable : List ℕ → Type 0
IsTellable bytes = IsBytes bytes × (length bytes ≤ longest_file)

-- what is found is this file, or one after it
first_or_later : (media : MediaBytes) (entry : ListedFile) (entries : List ListedFile) (name bytes : List ℕ) (is_this : Bool) → (media.listed entry ≡ Some bytes → IsTellable bytes)
    → (bytes_found (lookup (same_bytes name) (map (file_in media) entries)) ≡ Some bytes → IsTellable bytes)
    → bytes_found (cond is_this (Some (file_in media entry).1) (lookup (same_bytes name) (map (file_in media) entries))) ≡ Some bytes → IsTellable bytes
first_or_later media entry entries name bytes true this later e = this e
first_or_later media entry entries name bytes false this later e = later e

found_is_tellable : (media : MediaBytes) (entries : List ListedFile) → AllByRecursion (IsTellableFile media) entries → (name bytes : List ℕ)
    → bytes_found (lookup (same_bytes name) (map (file_in media) entries)) ≡ Some bytes → IsTellable bytes
found_is_tellable media [] all name bytes e = absurd cc
found_is_tellable media (entry ∷ entries) (one, all) name bytes e =
    first_or_later media entry entries name bytes (same_bytes name entry.name) (one bytes) (found_is_tellable media entries all name bytes) e

-- ---- the whole

pub set_is_told : ListLaws → SetsCanBeTold
set_is_told laws media are = record {
  entries = loads_fit laws (media.loads_list 1) are.loads;
  lengths = λ name bytes is. let this = found_is_tellable media (entries_of (lists_in media 1).files) are.files name bytes is in omega (arith, this.1);
  bytes = λ name bytes is. (found_is_tellable media (entries_of (lists_in media 1).files) are.files name bytes is).0;
}

-- ---- a set in memory

loads_are_told : (entries : List LoadEntry) → AllByRecursion IsTellableLoad entries → AllFit (map wanted_entry (map load_entry_view entries))
loads_are_told [] all = tt
loads_are_told (entry ∷ entries) (one, all) = (one, loads_are_told entries all)

pub set_in_memory_is_told : (set : SetView) (list : LoadsList) → Some (loads_list_view list) ≡ list_of set.first.loads → AllByRecursion IsTellableLoad list.loads.items → AreFilesBytes set
    → CanBeTold (media_of set)
set_in_memory_is_told set list is all are = record {
  entries = subst (λ (found : Option LoadsListView). AllFit (loads_in found)) is (loads_are_told list.loads.items all);
  lengths = λ name bytes told. let short = (are name bytes told).1 in omega (arith, short);
  bytes = λ name bytes told. (are name bytes told).0;
}
