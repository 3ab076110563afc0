-- Laws of how often the disk stops, and of happenings that leave its power.
use Rattle.std.proofs.Common.{◌≡◌, ℕ, ◌+◌, ◌≤◌, List, Bool, refl, arith}
use Rattle.disk_model.specs.State.{DiskState, KeepsPower}
use Rattle.exchange_trace.specs.Happenings.{HappeningView, Booted, Delivered, Ended, Info_started, Injected, Lost, Power_cut, Size_told, Ticked, Upload_started}
use Rattle.exchange_trace.specs.Steps.{Note}
use Rattle.replay_rules.specs.Due.{LeavesPower, MayBeNoted, MayGoDown}
use Rattle.replay_turns.specs.Powers.{ArmsBy, RoseBy, stops_in, stops_noted}

-- ---- counts

pub rose_not : (before now : ℕ) → before ≤ now → RoseBy 0 before now
rose_not before now later = grind (arith, later)

pub rose_joined : (n m a b c : ℕ) → RoseBy n a b → RoseBy m b c → RoseBy (m + n) a c
rose_joined n m a b c first second = grind (arith, first, second)

pub rose_on : (n a b c : ℕ) → RoseBy n a b → b ≤ c → RoseBy n a c
rose_on n a b c first later = grind (arith, first, later)

-- ---- a happening that leaves the target's power

pub leaves_may : (up : Bool) (first_port : ℕ) (h : HappeningView) (notes : List Note) → LeavesPower h → MayGoDown up notes → MayBeNoted up first_port h notes
leaves_may up first_port (Delivered side n) notes leaves may = may
leaves_may up first_port (Lost n) notes leaves may = may
leaves_may up first_port (Injected d) notes leaves may = may
leaves_may up first_port (Ticked side) notes leaves may = may
leaves_may up first_port (Size_told size) notes leaves may = may
leaves_may up first_port (Power_cut calls pick) notes leaves may = absurd leaves
leaves_may up first_port Booted notes leaves may = absurd leaves
leaves_may up first_port (Info_started hw pos) notes leaves may = may
leaves_may up first_port (Upload_started hw pos parts) notes leaves may = may
leaves_may up first_port Ended notes leaves may = may

pub leaves_stops : (h : HappeningView) (notes : List Note) → LeavesPower h → stops_in h notes ≡ stops_noted notes
leaves_stops (Delivered side n) notes leaves = refl
leaves_stops (Lost n) notes leaves = refl
leaves_stops (Injected d) notes leaves = refl
leaves_stops (Ticked side) notes leaves = refl
leaves_stops (Size_told size) notes leaves = refl
leaves_stops (Power_cut calls pick) notes leaves = absurd leaves
leaves_stops Booted notes leaves = absurd leaves
leaves_stops (Info_started hw pos) notes leaves = refl
leaves_stops (Upload_started hw pos parts) notes leaves = refl
leaves_stops Ended notes leaves = refl

module _ (old new : DiskState) (keeps : KeepsPower old new) where
  pub leaves_arms : (h : HappeningView) → LeavesPower h → ArmsBy h old new
  leaves_arms (Delivered side n) leaves = record { armings = keeps.armings; armed = keeps.armed }
  leaves_arms (Lost n) leaves = record { armings = keeps.armings; armed = keeps.armed }
  leaves_arms (Injected d) leaves = record { armings = keeps.armings; armed = keeps.armed }
  leaves_arms (Ticked side) leaves = record { armings = keeps.armings; armed = keeps.armed }
  leaves_arms (Size_told size) leaves = record { armings = keeps.armings; armed = keeps.armed }
  leaves_arms (Power_cut calls pick) leaves = absurd leaves
  leaves_arms Booted leaves = absurd leaves
  leaves_arms (Info_started hw pos) leaves = record { armings = keeps.armings; armed = keeps.armed }
  leaves_arms (Upload_started hw pos parts) leaves = record { armings = keeps.armings; armed = keeps.armed }
  leaves_arms Ended leaves = record { armings = keeps.armings; armed = keeps.armed }
