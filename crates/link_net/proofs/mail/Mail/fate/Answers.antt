use Rattle.std.proofs.Common.{◌≡◌, ◌+◌, ◌-◌, ◌<◌, ◌≤◌, List, length, sym, ap, subst, ◌∙◌, arith}
use Rattle.std.proofs.lemmas.List.{get_or_default}
use Rattle.exchange_trace.specs.Happenings.{HappeningView}
use Rattle.link_net.specs.Mail.{MailView, fate_of, given_in, logged}
use Rattle.link_net.specs.declared.mail.Fate.TheVariants.{Undelivered}
use Rattle.link_net.proofs.Sides.{counts}
use Rattle.link_net.proofs.mail.Mail.fate.Goals as goal

pub returns : goal.returns
returns c =
    let number = c.args.number in
    let kept = c.self.invariant.each_fate in
    let named : number ≤ length (logged c.self.inside.posted.items) = subst (λ (m : MailView). number ≤ length m.posted) (sym c.self.view_is) c.requires.1 in
    let count = counts c.self.inside.posted.items c.self.inside.sides.items c.self.invariant.each_side in
    let counted = kept.counted in
    let first = c.requires.0 in
    let given : List HappeningView = given_in c.self.inside.given.items in
    let within : number - 1 < length c.self.inside.fates.items = omega (arith, named, count, counted, first) in
    let back : number - 1 + 1 ≡ number = omega (arith, first) in
    let read = c.index.ensures ∙ (get_or_default c.self.inside.fates.items (number - 1) c.index.result.now Undelivered within ∙ (kept.kept (number - 1) ∙ ap (fate_of given) back)) in
    read ∙ ap (λ (m : MailView). fate_of m.given number) c.self.view_is
