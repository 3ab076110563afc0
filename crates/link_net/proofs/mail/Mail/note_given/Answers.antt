use Rattle.std.proofs.Common.{◌≡◌, ◌∷◌, length, sym, ap, subst, ◌∙◌}
use Rattle.exchange_trace.specs.Happenings.{happening_view}
use Rattle.link_net.specs.Mail.{MailView, NamesPosted, fates_after, given_in, logged}
use Rattle.link_net.proofs.Fates.{next_of, one_given}
use Rattle.link_net.proofs.Sides.{counts}
use Rattle.link_net.proofs.mail.Mail.note_given.Goals as goal

pub invariant_of-self : goal.invariant_of-self
invariant_of-self c =
    let before = c.self.inside in
    let h = happening_view c.args.given.now in
    let given : given_in c.and-self-inside.result.items ≡ h ∷ given_in before.given.items = ap (λ log. given_in log) c.and-self-inside.ensures ∙ one_given before.given.items c.args.given.now in
    let named : NamesPosted (length (logged before.posted.items)) h = subst (λ (m : MailView). NamesPosted (length m.posted) h) (sym c.self.view_is) c.requires in
    let count = counts before.posted.items before.sides.items c.self.invariant.each_side in
    let posted : NamesPosted (length before.sides.items) h = subst (λ n. NamesPosted n h) (sym count) named in
    let looked = c.next_undelivered-self-inside.ensures in
    let slice : c.as_slice.result.now ≡ fates_after before.fates.items h = c.as_slice.ensures.value ∙ c.mark.ensures in
    record {
      each_side = c.self.invariant.each_side;
      each_fate = rw (given, c.mark.ensures)
          (next_of (length before.sides.items) before.fates.items c.as_slice.result.now before.least c.next_undelivered-self-inside.result (given_in before.given.items) h c.self.invariant.each_fate posted slice looked.within
          looked.passed looked.found);
    }
