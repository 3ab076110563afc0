use Rattle.std.proofs.Common.{◌≡◌, ◌++◌, Ok, take}
use Rattle.disk_layout.specs.Holds.{StandingView}
use Rattle.bank_store.specs.Given.{Given}
use Rattle.session_rules.specs.KeptLoads.{kept_loads, types_of}
use Rattle.load_intake.specs.declared.down.Down.{Down}
use Rattle.load_intake.specs.Contents.{GivesContents, IsGiven, with_whole_loads}
use Rattle.load_intake.specs.Keeping.{entries, kept_beside}
use Rattle.load_intake.specs.Stores.{StoreHas, StoreGoesOn, Writes}
use Rattle.load_intake.proofs.storing.keep_loads.Given as goal

abbrev pub invariant-loop-load : goal.invariant-loop-load
invariant-loop-load g l = record {
  number : l.number ≡ l.load-index;
  has : StoreHas l.store (entries l.new ++ kept_beside (entries (take l.load-index l.active)) (entries l.new)) 0 0;
  gives : (s : StandingView) (given : Given) → IsGiven l.fn.store (g.K.Disk.state l.fn.disk) s given
      → GivesContents {T = Unit {0}} {E = Down} (g.K.Disk.state l.fn.disk) l.store (g.K.Disk.state l.disk) s (with_whole_loads (kept_loads (types_of (entries l.new)) (take l.load-index s.loads)) given) (Ok tt);
  goes_on : StoreGoesOn l.fn.store l.store (g.K.Disk.state l.fn.disk) (g.K.Disk.state l.disk);
  writes : Writes {T = Unit {0}} (g.K.Disk.state l.fn.disk) (g.K.Disk.state l.disk) (Ok tt);
}
