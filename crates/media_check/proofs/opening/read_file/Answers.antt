use Rattle.std.proofs.Common.{ℕ, refl}
use Rattle.load_base.specs.Host.{Files}
use Rattle.media_check.proofs.HostReads.{file_too_long}
use Rattle.media_check.proofs.opening.read_file.Goals as goal

pub returns-in-Err-TooLong-clause-reads : goal.returns-in-Err-TooLong-clause-reads
returns-in-Err-TooLong-clause-reads g c =
    file_too_long (g.H.Host.files c.args.host.now) c.args.name.items (λ (files : Files) (n : ℕ). Unit {0}) c.args.name
    (rw (c.in-Err-TooLong.field-0-is, c.as_slice.ensures) at c.in-Err-TooLong.ensures.file) refl
