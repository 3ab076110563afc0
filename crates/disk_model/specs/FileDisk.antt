-- What a disk in a file shows.
use Rattle.std.specs.Prelude.{ℕ, List}
use Rattle.disk_model.specs.State.{DiskState, untold}
use Rattle.disk_model.specs.declared.file.FileDisk.{FileDisk}

-- the name of its file
abbrev pub name_of : {R Folder : Type 0} → FileDisk R Folder → List ℕ
name_of disk = disk.file.name.now

-- what contracts see of it: nothing of the file
abbrev pub state_of : {R Folder : Type 0} → FileDisk R Folder → DiskState
state_of disk = untold disk.clock disk.faults disk.stopped
