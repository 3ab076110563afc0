use Rattle.std.proofs.Common.{◌≡◌, Some, sym, ◌∙◌, subst}
use Rattle.std.proofs.lemmas.Result.{on_ok_weaker}
use Rattle.disk_model.specs.Image.{Image}
use Rattle.bank_store.specs.Given.{configured}
use Rattle.bank_store.specs.Keeps.{IsOldOrNew}
use Rattle.bank_store.specs.Readopting.{HasLoadsAt}
use Rattle.bank_store.specs.Store.{active_slot, with_gate_shut, with_slot}
use Rattle.bank_rollback.proofs.Bringing.{adds_active, adds_then, begun_beside, can_open, loads_stay, told_before}
use Rattle.bank_rollback.proofs.rolling_back.bring_back.Goals as goal

pub returns-in_err-begin-clause-adds : goal.returns-in_err-begin-clause-adds
returns-in_err-begin-clause-adds g c s loads beside has = adds_active _ _ s (configured s loads) (c.begin.ensures.keeps.leaves s beside)

pub readopt-requires-clause-manifest : goal.readopt-requires-clause-manifest
readopt-requires-clause-manifest g c = record {
  range = c.requires.manifest.range;
  manifest = λ image told.
      let store = c.args.store.now in
      let disk = g.K.Disk.state c.args.disk.now in
      let (before, was) = told_before disk.reads _ image c.begin.ensures.writes_disk.goes_on.tells told in
      let (loads, has) = c.requires.manifest.manifest before was in
      let is : ◌≡◌ {A = Image} image (with_gate_shut store before) = same (sym told ∙ c.in_ok-begin.ensures.begins.written before was) in
      (loads, subst (λ (i : Image). HasLoadsAt c.begin.new.self i c.args.place c.args.length loads) (sym is) (loads_stay store c.begin.new.self c.args.place c.args.length before loads c.in_ok-begin.ensures.keeps.active has));
}
  where
    same : {a b : Image} → Some a ≡ Some b → a ≡ b
    same e = cc

pub returns-in_err-readopt-clause-adds : goal.returns-in_err-readopt-clause-adds
returns-in_err-readopt-clause-adds g c s loads beside has =
    let (begun, is) = begun_beside _ _ _ _ s c.in_ok-begin.ensures.begins c.in_ok-begin.ensures.keeps beside in
    adds_then _ _ _ (IsOldOrNew s (configured s loads)) (adds_active _ _ s (configured s loads) (c.begin.ensures.keeps.leaves s beside))
    (adds_active _ _ s (configured s loads) (c.readopt.ensures.keeps.leaves s begun))

pub returns-clause-adds : goal.returns-clause-adds
returns-clause-adds g c s loads beside has =
    let (begun, is) = begun_beside _ _ _ _ s c.in_ok-begin.ensures.begins c.in_ok-begin.ensures.keeps beside in
    let there : HasLoadsAt c.begin.new.self begun.image c.args.place c.args.length loads =
    subst (λ (i : Image). HasLoadsAt c.begin.new.self i c.args.place c.args.length loads) (sym is)
    (loads_stay c.args.store.now c.begin.new.self c.args.place c.args.length beside.image loads c.in_ok-begin.ensures.keeps.active has) in
    let can = can_open _ _ _ _ c.args.place c.args.length s loads c.in_ok-readopt.ensures.readopts c.in_ok-readopt.ensures.keeps begun there in
    adds_then _ _ _ (IsOldOrNew s (configured s loads))
    (adds_then _ _ _ (IsOldOrNew s (configured s loads)) (adds_active _ _ s (configured s loads) (c.begin.ensures.keeps.leaves s beside))
    (adds_active _ _ s (configured s loads) (c.readopt.ensures.keeps.leaves s begun)))
    (c.activate.ensures.adds s loads can)

pub returns-clause-makes_active : goal.returns-clause-makes_active
returns-clause-makes_active g c =
    on_ok_weaker c.activate.result (λ activates.
    record {
      holds = λ image told now later s loads was has.
          let store = c.args.store.now in
          let shut = with_gate_shut store image in
          let told_shut = c.in_ok-begin.ensures.begins.written image told in
          let was_shut = (c.in_ok-begin.ensures.keeps.answered tt).holds image told shut told_shut s was in
          let has_shut = loads_stay store c.begin.new.self c.args.place c.args.length image loads c.in_ok-begin.ensures.keeps.active has in
          let named = with_slot c.begin.new.self c.args.place c.args.length shut in
          let told_named = c.in_ok-readopt.ensures.readopts.written shut told_shut in
          let was_named = (c.in_ok-readopt.ensures.keeps.answered tt).holds shut told_shut named told_named s was_shut in
          let ready = c.in_ok-readopt.ensures.readopts.ready shut told_shut named told_named s loads was_shut has_shut in
          let holds = activates.holds named told_named now later s loads was_named ready in
          record { slot = active_slot c.activate.new.self; by = holds.by };
      settled = activates.settled;
    }) c.activate.ensures.activates
