use Rattle.std.proofs.Common.{rules, true, false, ◌≡◌, ◌∙◌, sym}
use Rattle.loader_machine.proofs.Following.{advances}
use Rattle.loader_machine.proofs.loader.Loader.advance.Goals.{else-asks_next-via-then-asks_next+else-not-has_port, else-asks_next-via-else-asks_next}
use Rattle.loader_machine.proofs.loader.Loader.advance.Goals as goal

untrue : false ≡ true → ⊥
untrue e = absurd cc

pub returns : goal.returns
returns c = λ x live.
    advances c.args.self.now c.enter_next.new.self x c.enter_next.result live
    (λ is. elim c.else-asks_next.branch [
      | else-asks_next-via-then-asks_next+else-not-has_port w ↦ sym w.has_port.ensures ∙ search rules
      | else-asks_next-via-else-asks_next w ↦ absurd (untrue (sym w.if-asks_next.false ∙ c.asks_next.ensures x live ∙ is))
    ])
    (c.enter_next.ensures.makes x live) c.enter_next.ensures.rest
