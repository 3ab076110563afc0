-- What a store knows of the active configuration (docs/DISK.md).
use Rattle.std.specs.Prelude.{◌≡◌, ◌+◌, ◌≤◌, List, length}
use Rattle.disk_layout.specs.Entries.{entry_bytes, typed_loads}
use Rattle.disk_layout.specs.Manifest.{FitsALayout, LoadEntry, total_length}
use Rattle.disk_layout.specs.declared.entries.LoadPlace.{LoadPlace}
use Rattle.bank_store.specs.Bounds.{longest_load}
use Rattle.bank_store.specs.Store.{bank_size_of, known_of}
use Rattle.bank_store.specs.declared.store.Store.{Store}

-- These loads are active, as their manifest says them: the store knows those with a type id, and their files lie in the bank.
pub record KnowsActive (store : Store) (loads : List LoadEntry) : Type 0 where
  pub fits : FitsALayout loads
  pub known : known_of store ≡ entry_bytes (typed_loads loads)
  pub within : total_length loads ≤ bank_size_of store

-- what the active manifest says at this place is all there, and no longer than a load can be
pub record KnowsEntryAt (store : Store) (place : LoadPlace) : Type 0 where
  pub within : place.entry + place.entry_length ≤ length (known_of store)
  pub short : place.entry_length ≤ longest_load
