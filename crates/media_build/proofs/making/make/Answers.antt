use Rattle.std.proofs.Common.{sym, arith, ◌∙◌}
use Rattle.media_build.proofs.GeneratedSets.{generated_size, made_set, made_small, made_sound}
use Rattle.media_build.proofs.making.make.Goals as goal

pub header_of_file-requires : goal.header_of_file-requires
header_of_file-requires c =
    let size = generated_size c.args.number 4194304 in
    let same = c.as_slice.ensures ∙ c.in_ok-file.ensures in
    rw same (omega (arith, size))

pub returns-clause-set : goal.returns-clause-set
returns-clause-set c =
    let file = c.as_slice.ensures in
    let other = c.as_slice-3.ensures in
    made_set c.built_of.result c.args.number _ _ _ _ c.as_slice.result.now file c.in_ok-file.ensures c.in_ok-loads.ensures (rw (other ∙ sym file) at c.in_ok-files.ensures) c.in_ok-header.ensures.bytes
    c.built_of.ensures.parts

pub returns-clause-sound : goal.returns-clause-sound
returns-clause-sound c = made_sound c.built_of.result c.args.number c.a_built_set_has_no_finding.ensures.built (returns-clause-set c)

pub built_of-requires-clause-file : goal.built_of-requires-clause-file
built_of-requires-clause-file c =
    let size = generated_size c.args.number 4194304 in
    rw c.in_ok-file.ensures (omega (arith, size))

pub returns-clause-small : goal.returns-clause-small
returns-clause-small c =
    let size = generated_size c.args.number 4194304 in
    made_small c.built_of.result _ _ _ _ c.in_ok-header.ensures.short (rw c.in_ok-file.ensures (omega (arith, size))) c.built_of.ensures.parts c.built_of.ensures.short
