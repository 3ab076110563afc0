use Rattle.std.proofs.Common.{◌+◌, sym, ap, ◌∙◌, arith}
use Rattle.std.specs.Prelude.{Option}
use Rattle.std.specs.List.{slice_index_or}
use Rattle.std.proofs.lemmas.Option.{slice_get-get_or}
use Rattle.exchange_trace.specs.declared.trace.Side.{Side}
use Rattle.fleet_trace.specs.FleetFollowing.{tick_or_later}
use Rattle.link_net.specs.declared.link.Waits.{Waits}
use Rattle.fleet_link.specs.FleetMail.{mail_of}
use Rattle.fleet_link.proofs.FleetTurns.{from_first, nobody, none_after, one_unit, ticked_from}
use Rattle.fleet_link.proofs.fleet_turn.first_tick.Goals as goal

pub loop-at-init : goal.loop-at-init
loop-at-init c = record { within = omega arith; left = λ mail may_ask. from_first mail may_ask c.args.waits.now c.args.firsts }

pub returns-in-Some-clause-side : goal.returns-in-Some-clause-side
returns-in-Some-clause-side c = λ mail may_ask.
    let at = c.loop-at.at in
    let w : Waits = slice_index_or c.args.waits.now at nobody in
    let there = slice_get-get_or c.args.waits.now at nobody c.loop-at-test.true in
    let said = rw c.waiting.ensures at (c.ticked_side.ensures (mail_of (at + 1) mail)) in
    let here = one_unit mail may_ask c.args.waits.now c.args.firsts at w c.loop-at-test.true there in
    sym (c.loop-at.invariant.left mail may_ask ∙ (here ∙ ap (λ (t : Option Side). tick_or_later (at + 1) t (ticked_from mail may_ask c.args.waits.now c.args.firsts (at + 1))) (sym said ∙ c.in-Some.is)))

pub loop-at-preserved : goal.loop-at-preserved
loop-at-preserved c =
    record {
      within = let test = c.loop-at-test.true in omega (arith, test);
      left = λ mail may_ask.
          let at = c.loop-at.at in
          let w : Waits = slice_index_or c.args.waits.now at nobody in
          let there = slice_get-get_or c.args.waits.now at nobody c.loop-at-test.true in
          let said = rw c.waiting.ensures at (c.ticked_side.ensures (mail_of (at + 1) mail)) in
          let here = one_unit mail may_ask c.args.waits.now c.args.firsts at w c.loop-at-test.true there in
          c.loop-at.invariant.left mail may_ask ∙ (here ∙ ap (λ (t : Option Side). tick_or_later (at + 1) t (ticked_from mail may_ask c.args.waits.now c.args.firsts (at + 1))) (sym said ∙ c.in_default.is));
    }

pub returns-clause-side : goal.returns-clause-side
returns-clause-side c = λ mail may_ask. sym (c.loop-at.invariant.left mail may_ask ∙ none_after mail may_ask c.args.waits.now c.args.firsts c.loop-at.at c.loop-at-test.false)
