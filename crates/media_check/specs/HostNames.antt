-- Where the files of a media set lie in a folder of the host (docs/FORMATS.md, "Media sets").
use Rattle.std.specs.Prelude.{ℕ, List, [], ◌∷◌, ◌++◌, codes, map, ◌==◌, if◌then◌else◌}
use Rattle.std.specs.Fmt.{decimal}
use Rattle.std.specs.List.{flat_map}
use Rattle.load_base.specs.Host.{Files}
use Rattle.media_lists.specs.declared.lists.ListedFile.{ListedFile}
use Rattle.media_check.specs.Sets.{MemberView, MediaBytes, further_members, entries_of}

-- a byte of a path as the host has it: a slash for a backslash
abbrev pub slashed : ℕ → ℕ
slashed byte = if byte == 0x5C then 0x2F else byte

-- the folder, a slash, the member in decimal, the path with slashes, and the name
unfoldable pub host_name : (folder : List ℕ) (member : ℕ) (path name : List ℕ) → List ℕ
host_name folder member path name = folder ++ (codes "/" ++ (decimal member ++ (map slashed path ++ name)))

-- a list lies in the member's own folder
abbrev pub loads_name : (folder : List ℕ) (member : ℕ) → List ℕ
loads_name folder member = host_name folder member (codes "\\") (codes "LOADS.LUM")

abbrev pub files_name : (folder : List ℕ) (member : ℕ) → List ℕ
files_name folder member = host_name folder member (codes "\\") (codes "FILES.LUM")

abbrev pub batches_name : (folder : List ℕ) (member : ℕ) → List ℕ
batches_name folder member = host_name folder member (codes "\\") (codes "BATCHES.LUM")

-- a listed file lies where its entry says
abbrev pub listed_name : (folder : List ℕ) → ListedFile → List ℕ
listed_name folder entry = host_name folder entry.member entry.path entry.name

-- the media in a folder of a host that has these files
abbrev pub host_media : Files → (folder : List ℕ) → MediaBytes
host_media files folder = record {
  loads_list = λ member. files (loads_name folder member);
  files_list = λ member. files (files_name folder member);
  batches_list = λ member. files (batches_name folder member);
  listed = λ entry. files (listed_name folder entry);
}

-- ---- what is read, in this order

-- the lists of a member
abbrev pub list_names : (folder : List ℕ) (member : ℕ) → List (List ℕ)
list_names folder member = loads_name folder member ∷ files_name folder member ∷ batches_name folder member ∷ []

-- the names that an opening reads: those of lists, and after them those of listed files
pub record ReadingOrder : Type 0 where
  pub lists : List (List ℕ)
  pub files : List (List ℕ)

-- what is read where member 1 has these lists: the lists of the further members, and the listed files
abbrev pub further_reading : (folder : List ℕ) → MemberView → ReadingOrder
further_reading folder first = record {
  lists = flat_map (list_names folder) (further_members first.loads);
  files = map (listed_name folder) (entries_of first.files);
}

-- the whole, where member 1 has these lists
abbrev pub whole_reading : (folder : List ℕ) → MemberView → ReadingOrder
whole_reading folder first = record {
  lists = list_names folder 1 ++ flat_map (list_names folder) (further_members first.loads);
  files = map (listed_name folder) (entries_of first.files);
}
