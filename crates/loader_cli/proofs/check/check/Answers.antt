use Rattle.std.proofs.Common.{ℕ, List, refl, ap, subst}
use Rattle.std.specs.Option.{ForSome}
use Rattle.std.specs.Prelude.{codes}
use Rattle.load_base.specs.Listed.{Listed}
use Rattle.std.proofs.lemmas.Result.{IfOk-weaker}
use Rattle.media_check.specs.Openings.{IsTooLarge, IsTooLong}
use Rattle.media_check.specs.Sets.{set_view}
use Rattle.loader_cli.specs.Runs.{reading_of}
use Rattle.loader_cli.specs.Runs.Checks.{large_set, long_file, opened}
use Rattle.loader_cli.specs.Texts.{refused_input}
use Rattle.loader_cli.proofs.Replayed.{none_failed}
use Rattle.loader_cli.proofs.check.check.Goals as goal

pub returns-in-Ok-clause-checks : goal.returns-in-Ok-clause-checks
returns-in-Ok-clause-checks g c =
    let has = rw c.as_bytes-name.ensures.value at c.in-Ok.ensures.opens in
    IfOk-weaker c.check_set-said.result _ _ (λ answer finds. opened (set_view c.in-Ok.set) has finds) c.check_set-said.ensures

pub returns-in-Err-TooLong-clause-checks : goal.returns-in-Err-TooLong-clause-checks
returns-in-Err-TooLong-clause-checks g c =
    let file = c.in-Err-TooLong.file in
    let refused =
    subst (λ (folder : List ℕ). ForSome (g.H.Host.files c.args.host.now) (λ told. IsTooLong told (reading_of folder told) file.items)) c.as_bytes-name.ensures.value
    (rw c.in-Err-TooLong.field-0-is at c.in-Err-TooLong.ensures.opens) in
    long_file file.items refused refl (ap (λ (f : Listed ℕ). refused_input f.items (codes "toolong")) c.in-Err-TooLong.file-is)

pub returns-in-Err-TooLarge-clause-checks : goal.returns-in-Err-TooLarge-clause-checks
returns-in-Err-TooLarge-clause-checks g c =
    let refused =
    subst (λ (folder : List ℕ). ForSome (g.H.Host.files c.args.host.now) (λ told. IsTooLarge told (reading_of folder told))) c.as_bytes-name.ensures.value
    (rw c.in-Err-TooLarge.field-0-is at c.in-Err-TooLarge.ensures.opens) in
    large_set refused refl (ap (λ (folder : List ℕ). refused_input folder (codes "toolarge")) c.as_bytes-name.ensures.value)

pub returns-in-Ok-clause-faults : goal.returns-in-Ok-clause-faults
returns-in-Ok-clause-faults g c = none_failed _ _ _ c.check_set-said.result c.in-Ok.ensures.cause.ok
