use Rattle.std.proofs.Common.{◌≡◌, ◌<◌, ◌+◌, None, length, option_map, sym, subst, ◌∙◌, arith}
use Rattle.exchange_trace.specs.Following.{delivery, least_delivery}
use Rattle.exchange_trace.specs.Happenings.{happening_view}
use Rattle.link_net.specs.Mail.{AreFatesKept, MailView, given_in, logged, scene_in}
use Rattle.link_net.proofs.Fates.{least_none, least_some}
use Rattle.link_net.proofs.Sides.{counts}
use Rattle.link_net.proofs.mail.Mail.least_delivery.Goals as goal

pub returns-then-self-len-clause-value : goal.returns-then-self-len-clause-value
returns-then-self-len-clause-value c = λ loader target.
    let m : MailView = record {
      posted = logged c.self.inside.posted.items;
      given = given_in c.self.inside.given.items;
    } in
    let counted = c.self.invariant.each_fate.counted in
    let mapped = counts c.self.inside.posted.items c.self.inside.sides.items c.self.invariant.each_side in
    let kept : AreFatesKept (length m.posted) c.self.inside.fates.items c.self.inside.least m.given = rw (← mapped) c.self.invariant.each_fate in
    let all : c.self.inside.least ≡ length m.posted = omega (arith, c.if-self-len.true, c.len.ensures, counted, mapped) in
    let none : least_delivery (scene_in m loader target) ≡ None = least_none (scene_in m loader target) c.self.inside.fates.items c.self.inside.least kept all in
    sym (subst (λ (m : MailView). least_delivery (scene_in m loader target) ≡ None) c.self.view_is none)

pub returns-clause-value : goal.returns-clause-value
returns-clause-value c = λ loader target.
    let m : MailView = record {
      posted = logged c.self.inside.posted.items;
      given = given_in c.self.inside.given.items;
    } in
    let counted = c.self.invariant.each_fate.counted in
    let within = c.self.invariant.each_fate.within in
    let mapped = counts c.self.inside.posted.items c.self.inside.sides.items c.self.invariant.each_side in
    let kept : AreFatesKept (length m.posted) c.self.inside.fates.items c.self.inside.least m.given = rw (← mapped) c.self.invariant.each_fate in
    let left : c.self.inside.least < length m.posted = omega (arith, c.if-self-len.false, c.len.ensures, counted, within, mapped) in
    let some : least_delivery (scene_in m loader target) ≡ delivery (scene_in m loader target) (c.self.inside.least + 1) = least_some (scene_in m loader target) c.self.inside.fates.items c.self.inside.least kept left in
    subst (λ (m : MailView). option_map happening_view c.delivery.result ≡ least_delivery (scene_in m loader target)) c.self.view_is
    (subst (λ (n : MailView). option_map happening_view c.delivery.result ≡ delivery (scene_in n loader target) (c.self.inside.least + 1)) (sym c.self.view_is) (c.delivery.ensures.value loader target) ∙ sym some)
