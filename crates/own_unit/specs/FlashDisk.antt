-- What a disk over a driver shows: nothing of what the flash holds.
use Rattle.disk_model.specs.State.{DiskState, untold}
use Rattle.own_unit.specs.declared.flash_disk.FlashDisk.{FlashDisk}

abbrev pub state_of : {F : Type 0} → FlashDisk F → DiskState
state_of disk = untold disk.clock disk.faults disk.stopped
