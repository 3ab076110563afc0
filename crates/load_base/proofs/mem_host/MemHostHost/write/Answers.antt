use Rattle.load_base.proofs.WrittenFiles.{write_ok}
use Rattle.load_base.proofs.mem_host.MemHostHost.write.Goals as goal

pub returns-in-Ok-clause-file : goal.returns-in-Ok-clause-file
returns-in-Ok-clause-file c =
    write_ok c.args.self.now.written.items c.append.new.written.items c.args.name.now c.args.bytes.now c.in-Ok.field-0 c.in-Ok.ensures.ok
