use Rattle.loader_cli.specs.FixedOutputs.{ReplayGives}
use Rattle.loader_cli.proofs.OneOutput.{one_output_given, put_the_same, puts_only}
use Rattle.loader_cli.proofs.laws.a_replay_is_fixed_by_its_inputs.Goals as goal

pub returns-clause-puts : goal.returns-clause-puts
returns-clause-puts g c =
    λ call ended told folder name files image is.
    puts_only c.a_run_is_fixed_by_its_script.ensures.whole c.a_run_is_fixed_by_its_script.ensures.active _ ended told folder name files image is
    (record { not_both = c.an_image_holds_one_configuration.ensures.not_both; reads_now = g.met.K.Disk.reads_now call.disk_after })

pub returns-clause-one : goal.returns-clause-one
returns-clause-one g c =
    λ told folder name files image a b s t. one_output_given (record {
      not_both = c.an_image_holds_one_configuration.ensures.not_both;
      one_standing = c.an_image_holds_one_configuration.ensures.one_standing;
      one_fault = c.an_image_holds_one_configuration.ensures.one_fault;
    }) told folder name files image a b s t

pub returns-clause-same : goal.returns-clause-same
returns-clause-same g c =
    λ one two first second told folder name files image is is_2.
    put_the_same (ReplayGives told folder name files image) (returns-clause-one g c told folder name files image) _ _ first second (returns-clause-puts g c one first told folder name files image is)
    (returns-clause-puts g c two second told folder name files image is_2)
