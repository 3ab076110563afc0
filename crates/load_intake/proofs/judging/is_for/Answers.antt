use Rattle.std.proofs.Common.{◌≡◌, bytes_eq, false, sym, ◌∙◌}
use Rattle.std.specs.List.{list_any}
use Rattle.load_intake.proofs.Texts.{for_position}
use Rattle.load_intake.proofs.judging.is_for.Goals as goal

pub returns-else-has_text : goal.returns-else-has_text
returns-else-has_text c =
    let hw = c.args.identity.now.hw in
    let found = rw (c.as_slice.ensures, c.as_slice-2.ensures.bytes) at c.has_text.ensures in
    let none : list_any (λ one. bytes_eq one hw) c.args.header.now.hardware.items ≡ false = sym found ∙ c.if-has_text.false in
    rw c.as_slice-else-has_text.ensures at c.is_at_one.ensures ∙ for_position hw c.args.identity.now.pos c.args.header.now.hardware.items c.args.header.now.positions.items none
