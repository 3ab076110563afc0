use Rattle.std.proofs.Common.{◌≡◌, ◌-◌}
use Rattle.field_grammar.specs.Grammar.{times, read}
use Rattle.field_grammar.proofs.LoopLemmas.{with_prefix}
use Rattle.disk_layout.specs.Manifest.{file_entry}
use Rattle.disk_layout.proofs.manifest.read_files.Given as goal

abbrev pub invariant-loop : goal.invariant-loop
invariant-loop l = with_prefix l.files.items (read (times (l.count - l.counter) file_entry) l.reader) ≡ read (times l.count file_entry) l.fn.reader
