use Rattle.disk_layout.specs.Holds.{standing_view}
use Rattle.bank_rollback.proofs.rolling_back.former_place.Goals as goal

pub returns-clause-found : goal.returns-clause-found
returns-clause-found g c image told =
    let is = c.in_ok-found.ensures.found image told in
    (standing_view c.in_ok-found.found.standing, record { holds = is.former; offset = is.offset; length = is.length })
