use Rattle.std.proofs.Common.{[], Ok, Err, ◌∙◌, subst, arith, rules}
use Rattle.std.proofs.lemmas.List.{length-map}
use Rattle.disk_layout.specs.Holds.{StandingView}
use Rattle.disk_layout.specs.Manifest.{entry_view}
use Rattle.bank_store.specs.Given.{loads_of}
use Rattle.session_rules.specs.KeptLoads.{kept_loads, types_of}
use Rattle.session_rules.specs.TargetRows.{Over}
use Rattle.load_intake.specs.declared.down.Down.{Down}
use Rattle.load_intake.specs.Contents.{BringsTo, with_whole_loads}
use Rattle.load_intake.specs.Keeping.{entries}
use Rattle.load_intake.proofs.Filling.{activate_brings, activate_failed, begin_fails, installs_failed, installs_then}
use Rattle.load_intake.proofs.Going.{later, then_on}
use Rattle.load_intake.proofs.Installing.{knows_new, made_is, may_seal_all, sealed_after}
use Rattle.load_intake.proofs.Steps.{between}
use Rattle.load_intake.proofs.storing.install.Goals as goal

pub seal-requires : goal.seal-requires
seal-requires g c =
    let has = c.in_ok-keep_loads.ensures.has in
    record {
      between = between c.keep_loads.new.store _ has;
      room = may_seal_all c.args.store.now c.keep_loads.new.store _ c.keep_loads.ensures.keeps.size c.requires.room.fits has;
      running = search rules;
    }

pub returns-in_err-keep_loads-clause-brings : goal.returns-in_err-keep_loads-clause-brings
returns-in_err-keep_loads-clause-brings g c = λ s given is same.
    begin_fails (g.K.Disk.state c.args.disk.now) c.keep_loads.new.store c.keep_loads.new.store (g.K.Disk.state c.keep_loads.new.disk) s _ _ _ _ c.keep_loads.result c.from_residual.result c.from_residual.ensures.0 (c.keep_loads.ensures.gives s given is)

pub returns-in_err-seal-clause-brings : goal.returns-in_err-seal-clause-brings
returns-in_err-seal-clause-brings g c = λ s given is same.
    let more = with_whole_loads (kept_loads (types_of (entries c.args.new.now)) s.loads) given in
    subst (λ (next : StandingView). BringsTo (g.K.Disk.state c.args.disk.now) c.seal.new.store (g.K.Disk.state c.seal.new.disk) s next Over [] c.from_residual-in_err-seal.result)
    (made_is s given (types_of (entries c.args.new.now)) is.beside.holds.by.headers same)
    (installs_failed (g.K.Disk.state c.args.disk.now) (g.K.Disk.state c.seal.new.disk) c.seal.new.store c.seal.new.store s (loads_of more) c.seal.result c.from_residual-in_err-seal.result c.from_residual-in_err-seal.ensures.0
    (sealed_after (g.K.Disk.state c.args.disk.now) (g.K.Disk.state c.keep_loads.new.disk) c.keep_loads.new.store (g.K.Disk.state c.seal.new.disk) c.seal.new.store s more (loads_of more) _ c.seal.result (c.in_ok-keep_loads.ensures.gives s given is)
    (λ here. c.seal.ensures.seals s more here)))

pub returns-in-Ok-clause-brings : goal.returns-in-Ok-clause-brings
returns-in-Ok-clause-brings g c = λ s given is same.
    let more = with_whole_loads (kept_loads (types_of (entries c.args.new.now)) s.loads) given in
    subst (λ (next : StandingView). BringsTo {T = Unit {0}} {E = Down} (g.K.Disk.state c.args.disk.now) c.activate.new.self (g.K.Disk.state c.activate.new.disk) s next Over [] (Ok tt))
    (made_is s given (types_of (entries c.args.new.now)) is.beside.holds.by.headers same)
    (installs_then (g.K.Disk.state c.args.disk.now) (g.K.Disk.state c.seal.new.disk) c.seal.new.store (g.K.Disk.state c.activate.new.disk) c.activate.new.self s (loads_of more) _ _
    (sealed_after (g.K.Disk.state c.args.disk.now) (g.K.Disk.state c.keep_loads.new.disk) c.keep_loads.new.store (g.K.Disk.state c.seal.new.disk) c.seal.new.store s more (loads_of more) _ _ (c.in_ok-keep_loads.ensures.gives s given is)
    (λ here. c.in_ok-seal.ensures.seals s more here))
    (λ can. activate_brings c.seal.new.store c.activate.new.self (g.K.Disk.state c.seal.new.disk) (g.K.Disk.state c.activate.new.disk) s (loads_of more) _ c.in-Ok.ensures.activates c.activate.ensures.writes_disk.goes_on (c.activate.ensures.adds s (loads_of more) can) can))

pub returns-in-Err-clause-brings : goal.returns-in-Err-clause-brings
returns-in-Err-clause-brings g c = λ s given is same.
    let more = with_whole_loads (kept_loads (types_of (entries c.args.new.now)) s.loads) given in
    subst (λ (next : StandingView). BringsTo {T = Unit {0}} {E = Down} (g.K.Disk.state c.args.disk.now) c.activate.new.self (g.K.Disk.state c.activate.new.disk) s next Over [] (Err c.down.result))
    (made_is s given (types_of (entries c.args.new.now)) is.beside.holds.by.headers same)
    (installs_then (g.K.Disk.state c.args.disk.now) (g.K.Disk.state c.seal.new.disk) c.seal.new.store (g.K.Disk.state c.activate.new.disk) c.activate.new.self s (loads_of more) _ _
    (sealed_after (g.K.Disk.state c.args.disk.now) (g.K.Disk.state c.keep_loads.new.disk) c.keep_loads.new.store (g.K.Disk.state c.seal.new.disk) c.seal.new.store s more (loads_of more) _ _ (c.in_ok-keep_loads.ensures.gives s given is)
    (λ here. c.in_ok-seal.ensures.seals s more here))
    (λ can. activate_failed c.activate.new.self (g.K.Disk.state c.seal.new.disk) (g.K.Disk.state c.activate.new.disk) s (loads_of more) _ c.activate.ensures.writes_disk.goes_on (c.activate.ensures.adds s (loads_of more) can)))

pub returns-in-Ok-clause-installs : goal.returns-in-Ok-clause-installs
returns-in-Ok-clause-installs g c =
    let activates = c.in-Ok.ensures.activates in
    let first = c.in_ok-keep_loads.ensures.goes_on in
    let sealed = c.in_ok-seal.ensures.goes_on in
    let has = c.in_ok-keep_loads.ensures.has in
    record {
      installs = later _ _ _ _ _ _ (then_on _ _ _ _ _ _ first sealed) (record {
        size = activates.switches.size;
        slot = activates.switches.slot;
        bank = activates.switches.bank;
        sequence = activates.switches.sequence;
        prepared = activates.prepared;
        running = activates.running;
        fits = activates.fits;
        works = activates.works;
      });
      knows = λ other too.
          knows_new c.args.store.now c.keep_loads.new.store c.activate.new.self (entries c.args.new.now) (entries c.args.active.now) other c.requires.active too
          (record { few = omega (arith, c.requires.room.few, length-map c.args.new.now entry_view); fits = c.requires.room.fits }) has (activates.switches.known ∙ c.in_ok-seal.ensures.body)
          (activates.switches.size ∙ sealed.active.size ∙ first.active.size);
    }
