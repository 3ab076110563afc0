use Rattle.std.proofs.Common.{◌≡◌, ◌++◌, take}
use Rattle.std.specs.Prelude.{map}
use Rattle.std.specs.List.{flat_map}
use Rattle.load_base.specs.Config.{file_view}
use Rattle.listing.specs.Listing.{file_line}
use Rattle.listing.proofs.put_files.Given as goal

abbrev pub invariant-loop-file : goal.invariant-loop-file
invariant-loop-file l = l.out.items ≡ l.fn.out.items ++ flat_map file_line (map file_view (take l.file-index l.files))
