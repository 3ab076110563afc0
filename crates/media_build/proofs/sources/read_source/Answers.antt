use Rattle.std.proofs.Common.{ℕ, ◌∙◌, arith}
use Rattle.load_base.specs.Host.{Files}
use Rattle.media_build.proofs.Taking.{one_large, one_absent, one_long}
use Rattle.media_build.proofs.sources.read_source.Goals as goal

pub returns-then-others-len-gt-LARGEST_SET-clause-takes : goal.returns-then-others-len-gt-LARGEST_SET-clause-takes
returns-then-others-len-gt-LARGEST_SET-clause-takes g c =
    one_large (g.H.Host.files c.args.host.now) c.args.others c.args.name.now c.in-Ok.bytes (λ (files : Files) (x : ℕ). Unit {0}) (rw c.as_slice.ensures.bytes at c.in-Ok.ensures.file) c.in-Ok.ensures.short c.requires
    (omega (arith, c.if-others-len-gt-LARGEST_SET.true, c.len.ensures))

pub returns-in_ok-name-in-Err-Absent-clause-takes : goal.returns-in_ok-name-in-Err-Absent-clause-takes
returns-in_ok-name-in-Err-Absent-clause-takes g c =
    one_absent (g.H.Host.files c.args.host.now) c.args.others c.args.name.now c.in_ok-name-in-Err-Absent.name (λ (files : Files) (x : ℕ). Unit {0})
    (rw (c.in-Err-Absent.field-0-is, c.as_slice.ensures.bytes) at c.in-Err-Absent.ensures.file) (c.in_ok-name-in-Err-Absent.ensures ∙ c.as_slice-in-Err-Absent.ensures.bytes) c.requires

pub returns-in_ok-name-in-Err-TooLong-clause-takes : goal.returns-in_ok-name-in-Err-TooLong-clause-takes
returns-in_ok-name-in-Err-TooLong-clause-takes g c =
    one_long (g.H.Host.files c.args.host.now) c.args.others c.args.name.now c.in_ok-name-in-Err-TooLong.name (λ (files : Files) (x : ℕ). Unit {0})
    (rw (c.in-Err-TooLong.field-0-is, c.as_slice.ensures.bytes) at c.in-Err-TooLong.ensures.file) (c.in_ok-name-in-Err-TooLong.ensures ∙ c.as_slice-in-Err-TooLong.ensures.bytes) c.requires
