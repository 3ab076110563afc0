-- A link of which calls can be set to fail.
use Rattle.std.specs.Prelude.{ℕ}
use Rattle.load_base.specs.Failing.{CallNumbers}
use Rattle.link_net.specs.Links.{LinkState}
use Rattle.link_net.specs.declared.fail_link.FailLink.{FailLink}

-- what it was posted and gave
abbrev pub link_in : FailLink → LinkState
link_in link = link.inner

-- the calls that were set to fail, and the number of the next
abbrev pub calls_of : FailLink → CallNumbers
calls_of link = link.calls

-- how often it has failed
abbrev pub faults_of : FailLink → ℕ
faults_of link = link.faults
