-- What stands in the other bank without an installation, and what a readoption of it does (docs/DISK.md, "Rollback").
use Rattle.std.specs.Prelude.{◌≡◌, ℕ, ◌+◌, ◌≤◌, List, Some}
use Rattle.std.specs.Option.{ForSome}
use Rattle.load_base.specs.Config.{LoadView}
use Rattle.field_grammar.specs.Grammar.{Spelled}
use Rattle.disk_model.specs.Image.{Image, range}
use Rattle.disk_model.specs.State.{DiskState, IsSettled}
use Rattle.disk_layout.specs.Contents.{HeadersAreFirst, contents_of_loads, entries_of}
use Rattle.disk_layout.specs.Holds.{StandingView}
use Rattle.disk_layout.specs.Manifest.{manifest, total_length}
use Rattle.disk_layout.specs.Offsets.{longest_manifest}
use Rattle.disk_layout.specs.Slots.{IsManifestRange}
use Rattle.bank_store.specs.Bounds.{largest_bank}
use Rattle.bank_store.specs.Fits.{HoldsFor, IsReady}
use Rattle.bank_store.specs.Store.{IsSealedAt, with_slot, work_at}
use Rattle.bank_store.specs.declared.store.Store.{Store}

-- In the other bank a manifest of these loads stands at this place, with so many bytes, and before it their contents.
pub record HasLoadsAt (store : Store) (image : Image) (place size : ℕ) (loads : List LoadView) : Type 0 where
  pub short : size ≤ longest_manifest
  pub within : place + size ≤ store.size
  pub manifest : Spelled manifest (range image (work_at store + place) size) (entries_of loads)
  pub lengths : total_length (entries_of loads) ≡ place
  pub headers : HeadersAreFirst loads
  pub contents : contents_of_loads loads ≡ range image (work_at store) place

-- A manifest that can be named again: its range lies on the disk, also where that tells no content, and it stands there with
-- the contents of its loads.
pub record CanReadopt (store : Store) (disk : DiskState) (place size : ℕ) : Type 0 where
  pub range : IsManifestRange largest_bank (record { offset = place; length = size })
  pub manifest : ForSome disk.reads (λ image. (loads : List LoadView) × HasLoadsAt store image place size loads)

-- The other slot names the manifest at this place again, with the next sequence number, and all but its gate.
pub record Readopts (before after : Store) (old new : DiskState) (place size : ℕ) : Type 0 where
  pub sealed : IsSealedAt after (record { offset = place; length = size })
  pub written : ForSome old.reads (λ image. new.reads ≡ Some (with_slot before place size image))
  pub ready : ForSome old.reads (λ image. ForSome new.reads (λ now. (s : StandingView) (loads : List LoadView) → HoldsFor before image s
      → HasLoadsAt before image place size loads → IsReady after now s loads))
  pub settled : IsSettled new
