-- What a sink in memory shows.
use Rattle.std.specs.Prelude.{ℕ, List}
use Rattle.load_base.specs.Failing.{CallNumbers}
use Rattle.load_base.specs.declared.sink.MemSink.{MemSink}

-- the bytes put so far
abbrev pub bytes_put : MemSink → List ℕ
bytes_put sink = sink.bytes.items

-- its calls of `put`
abbrev pub calls_of : MemSink → CallNumbers
calls_of sink = sink.calls

-- how often it has failed
abbrev pub faults_of : MemSink → ℕ
faults_of sink = sink.faults
