use Rattle.text_words.specs.Words.{written_lines}
use Rattle.link_net.proofs.NoUnits.{refused_never}
use Rattle.link_net.proofs.script.Script.read.Goals as goal

pub returns-in-Err-clause-never_unit : goal.returns-in-Err-clause-never_unit
returns-in-Err-clause-never_unit c = refused_never (written_lines c.args.bytes.now) c.in-Err.fault c.in-Err.ensures.refused
