-- What a host in memory keeps.
use Rattle.std.specs.Prelude.{ℕ}
use Rattle.load_base.specs.Failing.{CallNumbers}
use Rattle.load_base.specs.Host.{Files}
use Rattle.load_base.specs.Written.{written_files}
use Rattle.load_base.specs.declared.mem_host.MemHost.{MemHost}

-- what each name has
abbrev pub files_of : MemHost → Files
files_of host = written_files host.written.items

-- its calls of `read` and `write`
abbrev pub calls_of : MemHost → CallNumbers
calls_of host = host.calls

-- how often it has failed
abbrev pub faults_of : MemHost → ℕ
faults_of host = host.faults
