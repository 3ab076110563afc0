use Rattle.std.proofs.Common.{◌≡◌, take}
use Rattle.std.specs.Prelude.{option_map}
use Rattle.load_base.specs.Written.{written_files}
use Rattle.load_base.proofs.mem_host.last_of.Given as goal

abbrev pub invariant-loop-file : goal.invariant-loop-file
invariant-loop-file l = option_map (λ bytes. bytes.now) l.last ≡ written_files (take l.file-index l.written) l.name
