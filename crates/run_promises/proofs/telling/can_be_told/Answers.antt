use Rattle.std.proofs.Common.{subst}
use Rattle.std.specs.List.{AllByRecursion}
use Rattle.media_check.specs.Sets.{set_view}
use Rattle.run_promises.specs.TellableSets.{IsTellableLoad}
use Rattle.run_promises.proofs.Tellable.{set_in_memory_is_told}
use Rattle.run_promises.proofs.telling.can_be_told.Goals as goal

pub returns-in-Some : goal.returns-in-Some
returns-in-Some c =
    set_in_memory_is_told (set_view c.args.set.now) c.in-Some.list.now c.in-Some.ensures (subst (AllByRecursion IsTellableLoad) c.as_slice.ensures c.entries_fit.ensures) c.files_are_bytes.ensures
