use Rattle.std.proofs.Common.{◌+◌, Ok, subst, arith, rules}
use Rattle.std.proofs.lemmas.List.{length-map}
use Rattle.disk_layout.specs.Manifest.{entry_view}
use Rattle.bank_store.specs.Given.{Given}
use Rattle.bank_store.proofs.KnownLemmas.{knows_on}
use Rattle.session_rules.specs.KeptLoads.{types_of}
use Rattle.load_intake.specs.declared.down.Down.{Down}
use Rattle.load_intake.specs.Contents.{GivesContents}
use Rattle.load_intake.specs.Keeping.{entries}
use Rattle.load_intake.proofs.Filling.{gives_fails}
use Rattle.load_intake.proofs.Going.{then_on}
use Rattle.load_intake.proofs.KeepsAll.{all_given, can_keep_load, more_has, step_gives}
use Rattle.load_intake.proofs.storing.keep_loads.Goals as goal

pub keep_load-requires-clause-can : goal.keep_load-requires-clause-can
keep_load-requires-clause-can g c = λ stays.
    let was = c.loop-load.invariant in
    let same = was.goes_on.active in
    can_keep_load c.loop-load.store (entries c.args.new.now) c.args.active.now c.loop-load.load-index c.load-item.result _ c.loop-load-test.true c.load-item.is (omega (arith, was.number))
    (knows_on c.args.store.now c.loop-load.store (entries c.args.active.now) same c.requires.active) (record { few = omega (arith, c.requires.room.few, length-map c.args.new.now entry_view); fits = omega (arith, same.size, c.requires.room.fits) }) was.has stays

pub returns-in_err-keep_load-clause-gives : goal.returns-in_err-keep_load-clause-gives
returns-in_err-keep_load-clause-gives g c = λ s given is.
    let was = c.loop-load.invariant in
    gives_fails (g.K.Disk.state c.args.disk.now) c.keep_load.new.store c.keep_load.new.store (g.K.Disk.state c.keep_load.new.disk) s _ _ c.keep_load.result c.from_residual.result c.from_residual.ensures.0
    (step_gives c.args.store.now c.loop-load.store c.keep_load.new.store (g.K.Disk.state c.args.disk.now) (g.K.Disk.state c.loop-load.disk) (g.K.Disk.state c.keep_load.new.disk) s given (types_of (entries c.args.new.now)) c.args.active.now
    c.loop-load.load-index (c.loop-load.number + 1) c.load-item.result tt c.keep_load.result c.requires.active c.loop-load-test.true c.load-item.is (omega (arith, was.number)) (λ more here. c.keep_load.ensures.gives s more here)
    (λ not more here. c.keep_load.ensures.none not s more here) is (was.gives s given is))

pub loop-load-preserved : goal.loop-load-preserved
loop-load-preserved g c =
    let was = c.loop-load.invariant in
    record {
      number = omega (arith, was.number);
      has = more_has c.keep_load.new.store (entries c.args.new.now) c.args.active.now c.loop-load.load-index c.load-item.result c.loop-load-test.true c.load-item.is (c.in_ok-keep_load.ensures.has _ was.has);
      gives = λ s given is.
          step_gives c.args.store.now c.loop-load.store c.keep_load.new.store (g.K.Disk.state c.args.disk.now) (g.K.Disk.state c.loop-load.disk) (g.K.Disk.state c.keep_load.new.disk) s given (types_of (entries c.args.new.now)) c.args.active.now
          c.loop-load.load-index (c.loop-load.number + 1) c.load-item.result tt (Ok tt) c.requires.active c.loop-load-test.true c.load-item.is (omega (arith, was.number)) (λ more here. c.in_ok-keep_load.ensures.gives s more here)
          (λ not more here. c.in_ok-keep_load.ensures.none not s more here) is (was.gives s given is);
      goes_on = then_on _ _ _ _ _ _ was.goes_on c.in_ok-keep_load.ensures.goes_on;
      writes = search rules;
    }

pub returns-clause-gives : goal.returns-clause-gives
returns-clause-gives g c = λ s given is.
    let was = c.loop-load.invariant in
    subst (λ (y : Given). GivesContents {T = Unit {0}} {E = Down} (g.K.Disk.state c.args.disk.now) c.loop-load.store (g.K.Disk.state c.loop-load.disk) s y (Ok tt))
    (all_given c.args.store.now (g.K.Disk.state c.args.disk.now) s given (types_of (entries c.args.new.now)) c.args.active.now c.loop-load.load-index c.requires.active (omega (arith, c.loop-load-test.false)) is) (was.gives s given is)
