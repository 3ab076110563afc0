use Rattle.std.proofs.Common.{Some, None, ap, ◌∙◌}
use Rattle.media_check.specs.Sets.{bytes_found}
use Rattle.media_check.proofs.Lookups.{found_as_seen, seen_bytes}
use Rattle.media_check.proofs.set.MediaSet.file.Goals as goal

pub returns-in-None-clause-bytes : goal.returns-in-None-clause-bytes
returns-in-None-clause-bytes c = ap bytes_found (found_as_seen c.args.self.now.files.entries c.args.name.now None c.in-None.ensures.value)

pub returns-in-Some-bytes-clause-bytes : goal.returns-in-Some-bytes-clause-bytes
returns-in-Some-bytes-clause-bytes c =
    seen_bytes c.in-Some.file.now.bytes _ c.in-Some-bytes.is ∙ ap bytes_found (found_as_seen c.args.self.now.files.entries c.args.name.now (Some c.in-Some.file.now) c.in-Some.ensures.value)

pub returns-in-None-bytes-clause-bytes : goal.returns-in-None-bytes-clause-bytes
returns-in-None-bytes-clause-bytes c =
    seen_bytes c.in-Some.file.now.bytes _ c.in-None-bytes.is ∙ ap bytes_found (found_as_seen c.args.self.now.files.entries c.args.name.now (Some c.in-Some.file.now) c.in-Some.ensures.value)
