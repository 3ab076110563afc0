use Rattle.std.proofs.Common.{List, ℕ, take, sym, ap, ◌∙◌}
use Rattle.std.specs.List.{flat_map}
use Rattle.load_header.specs.Header.{HardwareAtView}
use Rattle.media_build.specs.Parts.{statements, positioned}
use Rattle.media_build.specs.RecipeSets.{gathered, position_in}
use Rattle.media_build.proofs.OwnLines.{said_more}
use Rattle.media_build.proofs.PositionKinds.{gathered_some}
use Rattle.media_build.proofs.positions.positions_of.Goals as goal

pub loop-line-preserved : goal.loop-line-preserved
loop-line-preserved c =
    let line = c.line-item.result in
    let so_far = flat_map position_in (statements (take c.loop-line.line-index c.args.own.now)) in
    let more = said_more position_in c.args.own.now c.loop-line.line-index line c.loop-line-test.true c.line-item.is in
    c.in_ok-kinds.ensures ∙ (ap (λ (kinds : List HardwareAtView). positioned kinds (position_in line.statement)) c.loop-line.invariant
    ∙ (gathered_some so_far (position_in line.statement) ∙ sym (ap (λ (pairs : List (List ℕ × List ℕ)). gathered pairs) more)))
