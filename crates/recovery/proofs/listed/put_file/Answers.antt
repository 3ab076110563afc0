use Rattle.recovery.proofs.Lines.{one_file}
use Rattle.recovery.proofs.listed.put_file.Goals as goal

pub returns-clause-listed : goal.returns-clause-listed
returns-clause-listed g c =
    let file = c.args.file.now in
    let before = c.args.out.now.items in
    one_file _ c.args.at c.in_ok-sum.sum file before c.put_file_line.new.out.items c.in_ok-sum.ensures.sum c.in_ok-put_file_line.ensures
