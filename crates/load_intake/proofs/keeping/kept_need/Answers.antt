use Rattle.std.proofs.Common.{[], ◌∷◌, List, ap, ◌∙◌, arith}
use Rattle.std.specs.List.{sum_by}
use Rattle.std.proofs.lemmas.List.{take_all}
use Rattle.disk_layout.specs.Manifest.{entry_view}
use Rattle.disk_layout.specs.declared.manifest.ManifestLoad.{ManifestLoad}
use Rattle.load_intake.specs.Keeping.{entries, kept_with, listed_needs}
use Rattle.load_intake.proofs.Kept.{few_files, needs_by_one}
use Rattle.load_intake.proofs.keeping.kept_need.Goals as goal

pub need_if_kept-need-requires : goal.need_if_kept-need-requires
need_if_kept-need-requires c = few_files c.args.active.now c.loop-load.load-index c.load-item.result c.load-item.result c.requires c.loop-load-test.true c.load-item.is

pub returns-clause-is : goal.returns-clause-is
returns-clause-is c =
    let one : ManifestLoad → _ = λ load. listed_needs (kept_with (entry_view load ∷ []) (entries c.args.new.now) c.args.type_id) in
    c.loop-load.invariant.0
    ∙ (ap (λ (xs : List ManifestLoad). sum_by one xs) (take_all c.loop-load.load-index c.args.active.now (omega (arith, c.loop-load-test.false)))
    ∙ needs_by_one c.args.active.now c.args.new.now c.args.type_id)
