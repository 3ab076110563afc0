use Rattle.std.proofs.Common.{refl}
use Rattle.loader_cli.specs.Runs.Lists.{listed, no_listing}
use Rattle.loader_cli.proofs.Outputs.{leaves_running, looks_on, memory_out, names_the_condition, not_of_disk}
use Rattle.loader_cli.proofs.top_call.list.Goals as goal

pub returns-in-Ok-clause-says : goal.returns-in-Ok-clause-says
returns-in-Ok-clause-says g c =
    let is = c.in-Ok.ensures.listed in
    listed is.standing is.holds is.size is.bank c.in-Ok.ensures.reads_disk.ok refl is.is

pub returns-in-Ok-clause-looks : goal.returns-in-Ok-clause-looks
returns-in-Ok-clause-looks g c = record { only_reads = c.list.ensures.reads_disk.only_reads; same = λ running. c.in-Ok.ensures.reads_disk.ok.reads }

pub returns-in_default : goal.returns-in_default
returns-in_default g c =
    let fault = c.in-Err.fault in
    let other = not_of_disk fault c.in_default.not-DiskFailed c.in_default.not-Memory in
    let on = leaves_running _ _ fault other c.in-Err.ensures.reads_disk.err in
    record {
      says = no_listing fault (λ image told. names_the_condition image fault other (c.in-Err.ensures.refused image told)) other on refl refl;
      looks = record { only_reads = c.list.ensures.reads_disk.only_reads; same = λ running. on.reads };
      memory = tt;
    }

pub returns-in-DiskFailed-clause-looks : goal.returns-in-DiskFailed-clause-looks
returns-in-DiskFailed-clause-looks g c = looks_on (g.K.Disk.state c.args.disk.now) (g.K.Disk.state c.list.new.disk) c.in-Err.fault _ c.list.ensures.reads_disk.only_reads c.in-Err.is c.in-Err.ensures.reads_disk.err c.list.ensures.reads_disk.cause

pub returns-in-Memory-clause-looks : goal.returns-in-Memory-clause-looks
returns-in-Memory-clause-looks g c = looks_on (g.K.Disk.state c.args.disk.now) (g.K.Disk.state c.list.new.disk) c.in-Err.fault _ c.list.ensures.reads_disk.only_reads c.in-Err.is c.in-Err.ensures.reads_disk.err c.list.ensures.reads_disk.cause

pub returns-in-Memory-clause-memory : goal.returns-in-Memory-clause-memory
returns-in-Memory-clause-memory g c = memory_out (g.K.Disk.state c.args.disk.now) (g.K.Disk.state c.list.new.disk) c.in-Err.fault c.in-Memory.is c.in-Err.ensures.reads_disk.err
