use Rattle.std.proofs.Common.{Some, None, ap, ◌∙◌}
use Rattle.std.specs.Prelude.{slice_index_or}
use Rattle.media_check.proofs.Lookups.{found_as_seen, sum_at}
use Rattle.media_check.proofs.sums.summed_file.Goals as goal

pub returns-in-None-clause-found : goal.returns-in-None-clause-found
returns-in-None-clause-found c = found_as_seen c.args.set.now.files.entries c.args.name.now None c.in-None.ensures.value

pub returns-in-Some-clause-found : goal.returns-in-Some-clause-found
returns-in-Some-clause-found c = found_as_seen c.args.set.now.files.entries c.args.name.now (Some c.in-Some.file.now) c.in-Some.ensures.value

pub returns-in-Some-clause-sum : goal.returns-in-Some-clause-sum
returns-in-Some-clause-sum c = ap (λ sums. slice_index_or sums c.in-Some.index 0) c.requires ∙ sum_at c.args.set.now.files.entries c.in-Some.index _ c.in-Some.file.now c.in-Some.ensures.entry
