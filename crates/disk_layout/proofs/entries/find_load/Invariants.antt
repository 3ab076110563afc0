use Rattle.disk_layout.proofs.EntryReads.{HasPassed}
use Rattle.disk_layout.proofs.entries.find_load.Given as goal

abbrev pub invariant-loop : goal.invariant-loop
invariant-loop l = HasPassed l.entries l.number l.counter l.reader l.files
