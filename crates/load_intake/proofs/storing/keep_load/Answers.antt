use Rattle.std.proofs.Common.{◌≡◌, true, false, Err, ap, sym, ◌∙◌}
use Rattle.disk_layout.specs.Manifest.{entry_view}
use Rattle.session_rules.specs.KeptLoads.{types_of}
use Rattle.load_intake.specs.Keeping.{entries}
use Rattle.load_intake.proofs.Filling.{gives_failed}
use Rattle.load_intake.proofs.Keeps.{gives_none, gives_same, keep_gives, keep_has, keeps_within}
use Rattle.load_intake.proofs.Steps.{fails}
use Rattle.load_intake.proofs.storing.keep_load.Goals as goal

pub returns-then-not-is_kept_beside-clause-gives : goal.returns-then-not-is_kept_beside-clause-gives
returns-then-not-is_kept_beside-clause-gives g c = λ s given is front back one are at same.
    gives_none c.args.store.now (g.K.Disk.state c.args.disk.now) s given (types_of (entries c.args.new.now)) one c.args.load.now.type_id _ same (sym c.is_kept_beside.ensures ∙ c.if-not-is_kept_beside.true) is

pub down-requires : goal.down-requires
down-requires g c =
    let can = c.requires.can (sym c.is_kept_beside.ensures ∙ c.if-not-is_kept_beside.false) in
    fails c.in-Err.fault (λ need have is. keeps_within c.args.store.now c.args.number (entry_view c.args.load.now) can need have ((c.in-Err.ensures.refuses.full need have).0 (ap Err is))) (λ is. c.in-Err.ensures.refuses.not_spent (ap Err is))

pub returns-in-Ok-clause-has : goal.returns-in-Ok-clause-has
returns-in-Ok-clause-has g c = λ loads has.
    keep_has c.args.store.now c.keep.new.self (g.K.Disk.state c.args.disk.now) (g.K.Disk.state c.keep.new.disk) c.args.number (types_of (entries c.args.new.now)) (entry_view c.args.load.now) loads (c.requires.can (sym c.is_kept_beside.ensures ∙ c.if-not-is_kept_beside.false)) c.in-Ok.ensures.keeps_load (sym c.is_kept_beside.ensures ∙ c.if-not-is_kept_beside.false) has

pub returns-in-Ok-clause-gives : goal.returns-in-Ok-clause-gives
returns-in-Ok-clause-gives g c = λ s given is front back one are at same.
    keep_gives c.args.store.now c.keep.new.self (g.K.Disk.state c.args.disk.now) (g.K.Disk.state c.keep.new.disk) s given c.args.number (types_of (entries c.args.new.now)) c.args.load.now.type_id front back one _ (c.requires.can (sym c.is_kept_beside.ensures ∙ c.if-not-is_kept_beside.false)).is
    c.in-Ok.ensures.keeps_load c.in-Ok.ensures.writes_disk.goes_on.later c.in-Ok.ensures.keeps.leaves (c.in-Ok.ensures.keeps.answered tt) are at same (sym c.is_kept_beside.ensures ∙ c.if-not-is_kept_beside.false) is

pub returns-in-Err-clause-gives : goal.returns-in-Err-clause-gives
returns-in-Err-clause-gives g c = λ s given is front back one are at same.
    gives_failed c.args.store.now c.keep.new.self (g.K.Disk.state c.args.disk.now) (g.K.Disk.state c.keep.new.disk) s _ _ c.in-Err.ensures.writes_disk.goes_on.later c.in-Err.ensures.keeps.leaves is.beside

pub returns-then-not-is_kept_beside-clause-none : goal.returns-then-not-is_kept_beside-clause-none
returns-then-not-is_kept_beside-clause-none g c = λ not s given is. gives_same c.args.store.now (g.K.Disk.state c.args.disk.now) s given _ is

pub returns-in-Ok-clause-none : goal.returns-in-Ok-clause-none
returns-in-Ok-clause-none g c = λ not s given is. absurd (let wrong : true ≡ false = sym (sym c.is_kept_beside.ensures ∙ c.if-not-is_kept_beside.false) ∙ not in cc)

pub returns-in-Err-clause-none : goal.returns-in-Err-clause-none
returns-in-Err-clause-none g c = λ not s given is. absurd (let wrong : true ≡ false = sym (sym c.is_kept_beside.ensures ∙ c.if-not-is_kept_beside.false) ∙ not in cc)
