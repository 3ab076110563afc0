use Rattle.std.proofs.Common.{Err, ap}
use Rattle.disk_layout.specs.declared.manifest.ManifestFault.{ManifestFault}
use Rattle.disk_layout.proofs.EntryReads.{never_refused, passes}
use Rattle.disk_layout.proofs.entries.pass_load.Goals as goal

pub unreachable-requires : goal.unreachable-requires
unreachable-requires c =
    never_refused c.args.reader.now c.in-Err.field-0 c.requires.stands (λ wants. c.in-Err.ensures.no_want (ap (λ (f : ManifestFault). Err f) wants)) c.in-Err.ensures.reads

pub returns-clause-passes : goal.returns-clause-passes
returns-clause-passes c = passes c.args.reader.now c.read_lengths.new.reader c.in-Ok.length c.in-Ok.ensures.reads
