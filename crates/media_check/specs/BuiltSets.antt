-- The set of lists and files that were built.
use Rattle.std.specs.Prelude.{ℕ, ◌-◌, ◌≤◌, List, All, length, map, Option, slice_get}
use Rattle.std.specs.Map.{lookup}
use Rattle.load_base.specs.Bytes.{same_bytes}
use Rattle.load_base.specs.Host.{longest_file}
use Rattle.load_base.specs.Listed.{Listed}
use Rattle.batch_lists.specs.Batches.{batches_list}
use Rattle.media_lists.specs.Files.{files_list}
use Rattle.media_lists.specs.Loads.{loads_list}
use Rattle.media_lists.specs.declared.lists.ListedFile.{ListedFile}
use Rattle.media_check.specs.Kept.{bytes_view, contents}
use Rattle.media_check.specs.Sets.{MediaBytes, MemberView, ListedFileView, found_in}
use Rattle.media_check.specs.declared.built.Built.{Built}
use Rattle.media_check.specs.declared.built.Placed.{Placed}

-- the list of this member, in a list of those of all members from 1 on
abbrev pub member_list : List (Listed ℕ) → (member : ℕ) → Option (List ℕ)
member_list lists member = bytes_view (slice_get lists (member - 1))

-- the bytes of the first body of this name
abbrev pub body_of : List Placed → List ℕ → Option (List ℕ)
body_of bodies name = lookup (same_bytes name) (map (λ body. (body.name, body.bytes.items)) bodies)

-- The media that were built: the lists of each member, and for an entry of FILES.LUM the body of its name.
abbrev pub built_media : Built → MediaBytes
built_media built = record {
  loads_list = member_list built.loads.items;
  files_list = member_list built.files.items;
  batches_list = member_list built.batches.items;
  listed = λ entry. body_of built.bodies.items entry.name;
}

-- the lists of a member, as these bytes are read
abbrev pub built_lists : (loads files batches : List (Listed ℕ)) (member : ℕ) → MemberView
built_lists loads files batches member = record {
  loads = found_in loads_list (member_list loads member);
  files = found_in files_list (member_list files member);
  batches = found_in batches_list (member_list batches member);
}

-- a listed file, with the bytes that stand under its name
abbrev pub file_with : List (List ℕ × Listed ℕ) → ListedFile → List ℕ × ListedFileView
file_with bodies entry = (entry.name, record { member = entry.member; bytes = bytes_view (lookup (same_bytes entry.name) bodies) })

-- at most 16,777,215 bytes stand under each name
abbrev pub HasShortBytes : List (List ℕ × Listed ℕ) → Type 0
HasShortBytes bodies = (name : List ℕ) → length (contents (bytes_view (lookup (same_bytes name) bodies))) ≤ longest_file

-- at most 16,777,215 bytes
abbrev pub IsShortBody : Placed → Type 0
IsShortBody body = length body.bytes.items ≤ longest_file

-- No body has more.
abbrev pub HasShortBodies : Built → Type 0
HasShortBodies built = All IsShortBody built.bodies.items
