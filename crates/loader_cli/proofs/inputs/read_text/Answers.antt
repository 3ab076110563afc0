use Rattle.std.proofs.Common.{refl}
use Rattle.media_check.specs.Sets.{set_view}
use Rattle.loader_cli.specs.Replays.RefusesText.{script_absent, script_too_long}
use Rattle.loader_cli.proofs.Outputs.{has_bytes, has_none, has_too_many}
use Rattle.loader_cli.proofs.inputs.read_text.Goals as goal

pub returns-in-Ok-clause-reads : goal.returns-in-Ok-clause-reads
returns-in-Ok-clause-reads g c =
    λ before least. record { has_set = c.requires; there = has_bytes _ _ c.in-Ok.text c.in-Ok.ensures.file; short = c.in-Ok.ensures.short }

pub returns-in-Absent-clause-reads : goal.returns-in-Absent-clause-reads
returns-in-Absent-clause-reads g c =
    λ before least. script_absent (set_view c.args.set) c.requires (has_none _ _ (rw c.in-Absent.is at c.in-Err.ensures.file)) refl refl

pub returns-in-TooLong-clause-reads : goal.returns-in-TooLong-clause-reads
returns-in-TooLong-clause-reads g c =
    λ before least. script_too_long (set_view c.args.set) c.requires (has_too_many _ _ (rw c.in-TooLong.is at c.in-Err.ensures.file)) refl refl
