use Rattle.disk_layout.proofs.EntryReads.{SumsSoFar}
use Rattle.disk_layout.proofs.entries.read_file_lengths.Given as goal

abbrev pub invariant-loop : goal.invariant-loop
invariant-loop l = SumsSoFar l.files l.count l.counter l.reader l.fn.reader
