use Rattle.disk_layout.proofs.ManifestLemmas.{manifest_decided, fault_has_offset}
use Rattle.disk_layout.proofs.ManifestSpelling.{manifest_spelling}
use Rattle.disk_layout.proofs.laws.a_manifest_is_decided.Goals as goal

pub returns-clause-decided : goal.returns-clause-decided
returns-clause-decided c = manifest_decided

pub returns-clause-an_offset : goal.returns-clause-an_offset
returns-clause-an_offset c = fault_has_offset

pub returns-clause-spelling : goal.returns-clause-spelling
returns-clause-spelling c = manifest_spelling
