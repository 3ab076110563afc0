use Rattle.load_protocol_files.specs.Laws.Lcl.{lcl_fits}
use Rattle.load_protocol_files.proofs.lcl.LclProtocolFile.put_body.Goals as goal

pub returns-clause-fits : goal.returns-clause-fits
returns-clause-fits c = lcl_fits c.args.self.now c.requires.count (rw c.as_slice-list.ensures at c.in_ok-put_hardware_list.ensures.fits)
