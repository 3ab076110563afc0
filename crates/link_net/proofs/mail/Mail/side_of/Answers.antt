use Rattle.std.proofs.Common.{◌≡◌, ◌-◌, ◌∙◌, ap, subst}
use Rattle.std.specs.Prelude.{List, option_map, slice_get}
use Rattle.exchange_trace.specs.Posts.{numbered}
use Rattle.exchange_trace.specs.declared.trace.Side.{Side}
use Rattle.link_net.specs.Mail.{MailView}
use Rattle.link_net.proofs.Sides.{numbered_side}
use Rattle.link_net.proofs.mail.Mail.side_of.Goals as goal

pub returns-clause-side : goal.returns-clause-side
returns-clause-side c =
    let read : c.side_at.result ≡ slice_get c.self.inside.sides.items (c.args.number - 1) =
    c.side_at.ensures ∙ (ap (λ (list : List Side). slice_get list c.in_ok-index.index) c.as_slice.ensures ∙ ap (slice_get c.self.inside.sides.items) c.in_ok-index.ensures.1) in
    let found = numbered_side c.self.inside.posted.items c.self.inside.sides.items c.args.number c.self.invariant.each_side c.in_ok-index.ensures.0 in
    subst (λ (m : MailView). c.side_at.result ≡ option_map (λ d. d.side) (numbered m.posted c.args.number)) c.self.view_is (read ∙ found)
