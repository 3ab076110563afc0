use Rattle.media_lists.proofs.PathLemmas.{is_path, has_no_fault}
use Rattle.media_lists.proofs.PathPrefixes.{is_longest_prefix}
use Rattle.media_lists.proofs.laws.path_laws.Goals as goal

pub returns-clause-no_fault : goal.returns-clause-no_fault
returns-clause-no_fault c = λ bytes. (is_path bytes, has_no_fault bytes)

pub returns-clause-fault : goal.returns-clause-fault
returns-clause-fault c = is_longest_prefix
