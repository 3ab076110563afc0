-- What is listed of a disk, whose files are read and not kept.
use Rattle.std.specs.Prelude.{◌≡◌, ℕ, ◌<◌, List, ◌++◌, map, Option, Result, Ok}
use Rattle.std.specs.List.{flat_map}
use Rattle.std.specs.Option.{ForSome}
use Rattle.load_base.specs.Config.{FileView, LoadView}
use Rattle.disk_model.specs.Image.{Image, range}
use Rattle.disk_layout.specs.Contents.{HeaderIsFirst, HeadersAreFirst, bytes_of, contents_of_loads, entries_of, entry_of, file_entry_of}
use Rattle.disk_layout.specs.Holds.{HoldsConfig, StandingView}
use Rattle.disk_layout.specs.Manifest.{LoadEntry, entries_length, total_length}
use Rattle.disk_layout.specs.Offsets.{IsBankSize}
use Rattle.disk_layout.specs.declared.manifest.ManifestFault.{ManifestFault}
use Rattle.disk_layout.specs.declared.manifest.ManifestFile.{ManifestFile}
use Rattle.listing.specs.Listing.{file_line, listing, load_lines}

-- The text is the listing of a configuration, which the disk holds where it tells its content.
pub record IsListing (reads : Option Image) (text : List ℕ) : Type 0 where
  pub standing : StandingView
  pub holds : ForSome reads (λ image. HoldsConfig image standing)
  pub size : IsBankSize standing.identity.bank
  pub bank : standing.bank < 2
  pub is : text ≡ listing standing

-- After a text came the line of the file of this entry, whose contents the disk has from this offset on.
pub record ListsFile (reads : Option Image) (at : ℕ) (entry : ManifestFile) (before after : List ℕ) : Type 0 where
  pub file : FileView
  pub entry_is : file_entry_of file ≡ entry
  pub contents : ForSome reads (λ image. file.bytes ≡ range image at entry.length)
  pub text : after ≡ before ++ file_line file

-- the same of files back to back
pub record ListsFiles (reads : Option Image) (at : ℕ) (entries : List ManifestFile) (before after : List ℕ) : Type 0 where
  pub files : List FileView
  pub entries_are : map file_entry_of files ≡ entries
  pub contents : ForSome reads (λ image. bytes_of files ≡ range image at (entries_length entries))
  pub text : after ≡ before ++ flat_map file_line files

-- of a load
pub record ListsLoad (reads : Option Image) (at : ℕ) (entry : LoadEntry) (before after : List ℕ) : Type 0 where
  pub load : LoadView
  pub entry_is : entry_of load ≡ entry
  pub header : HeaderIsFirst load
  pub contents : ForSome reads (λ image. bytes_of load.files ≡ range image at (entries_length entry.files))
  pub text : after ≡ before ++ load_lines load

-- and of loads back to back
pub record ListsLoads (reads : Option Image) (at : ℕ) (entries : List LoadEntry) (before after : List ℕ) : Type 0 where
  pub loads : List LoadView
  pub entries_are : entries_of loads ≡ entries
  pub headers : HeadersAreFirst loads
  pub contents : ForSome reads (λ image. contents_of_loads loads ≡ range image at (total_length entries))
  pub text : after ≡ before ++ flat_map load_lines loads

-- the same of the loads that are left
pub record ListsAll (reads : Option Image) (at : ℕ) (left : Result (List LoadEntry) ManifestFault) (before after : List ℕ) : Type 0 where
  pub entries : List LoadEntry
  pub are : left ≡ Ok entries
  pub lists : ListsLoads reads at entries before after
