use Rattle.std.proofs.Common.{◌≡◌, ◌+◌, ◌∷◌, [], ◌++◌, length, map, sym, ap, ◌∙◌}
use Rattle.std.proofs.lemmas.List.{length-append}
use Rattle.link_net.specs.declared.mail.Fate.TheVariants.{Undelivered}
use Rattle.link_net.specs.Mail.{given_in}
use Rattle.link_net.proofs.Fates.{keeps_posted}
use Rattle.link_net.proofs.Sides.{one_more}
use Rattle.link_net.proofs.mail.Mail.note_post.Goals as goal

pub invariant_of-self-2 : goal.invariant_of-self-2
invariant_of-self-2 c =
    let before = c.self.inside in
    let pushed : c.push.new.self.items ≡ before.sides.items ++ c.args.datagram.now.from_side ∷ [] = c.in_ok-push.ensures.ok in
    let count : length c.push.new.self.items ≡ length before.sides.items + 1 = ap length pushed ∙ length-append before.sides.items (c.args.datagram.now.from_side ∷ []) in
    let fates : c.push_reserved.new.self.items ≡ before.fates.items ++ Undelivered ∷ [] = cc in
    record {
      each_side = pushed ∙ (one_more before.posted.items before.sides.items c.args.datagram.now c.self.invariant.each_side ∙ ap (map (λ entry. entry.0.from_side)) (sym c.and-self-inside.ensures));
      each_fate = rw (count, fates) (keeps_posted (length before.sides.items) before.fates.items before.least (given_in before.given.items) c.self.invariant.each_fate);
    }
