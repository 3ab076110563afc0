-- A configuration as names and bytes, without the spare capacity of its lists: two are the same where these are.
use Rattle.std.specs.Prelude.{ℕ, Option, List, map}
use Rattle.load_base.specs.declared.config.StoredFile.{StoredFile}
use Rattle.load_base.specs.declared.config.Load.{Load}
use Rattle.load_base.specs.declared.config.Config.{Config}

-- the name and the bytes of a file
pub record FileView : Type 0 where
  pub name : List ℕ
  pub bytes : List ℕ

-- the part number of a load, its type id where its manifest says it, the name of its header, and its files, the header first
pub record LoadView : Type 0 where
  pub part : List ℕ
  pub type_id : Option ℕ
  pub header_name : List ℕ
  pub files : List FileView

abbrev pub file_view : StoredFile → FileView
file_view file = record { name = file.name; bytes = file.bytes.items }

abbrev pub load_view : Load → LoadView
load_view load = record { part = load.part; type_id = load.type_id; header_name = load.header_name; files = map file_view load.files.items }

-- the loads of a configuration
abbrev pub loads_view : Config → List LoadView
loads_view config = map load_view config.loads.items
