use Rattle.std.proofs.Common.{List, map, ap, refl, ◌∙◌}
use Rattle.std.proofs.lemmas.Result.{IfOk-weaker}
use Rattle.load_header.specs.Header.{HardwareAtView, hardware_at_view}
use Rattle.media_build.specs.Parts.{with_position}
use Rattle.media_build.proofs.PositionKinds.{names_seen, new_one, known_one}
use Rattle.media_build.proofs.positions.Kinds.with.Goals as goal

pub returns-then-is_new : goal.returns-then-is_new
returns-then-is_new c =
    let kept = c.self.inside.kinds.items in
    let kinds = map hardware_at_view kept in
    let names = c.self.inside.names.keys in
    let named = names_seen kept kinds names c.self.invariant refl in
    let hardware = c.args.hardware.now in
    let position = c.args.position.now in
    IfOk-weaker c.of_new.result _ _
    (λ all is. is ∙ (new_one hardware c.in_ok-of.field-0 position kinds names c.in_ok-index.is_new c.in_ok-of.ensures named c.in_ok-index.ensures.added c.if-is_new.true
    ∙ ap (λ (some : List HardwareAtView). with_position hardware position some) c.self.view_is))
    c.of_new.ensures

pub returns-else-is_new : goal.returns-else-is_new
returns-else-is_new c =
    let kept = c.self.inside.kinds.items in
    let kinds = map hardware_at_view kept in
    let names = c.self.inside.names.keys in
    let named = names_seen kept kinds names c.self.invariant refl in
    let hardware = c.args.hardware.now in
    let position = c.args.position.now in
    IfOk-weaker c.of_known.result _ _
    (λ all one. known_one hardware c.in_ok-of.field-0 position kinds all names c.in_ok-index.is_new c.in_ok-index.index c.in_ok-of.ensures named c.in_ok-index.ensures.added c.if-is_new.false
    c.in_ok-index.ensures.index one ∙ ap (λ (some : List HardwareAtView). with_position hardware position some) c.self.view_is)
    c.of_known.ensures
