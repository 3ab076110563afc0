use Rattle.std.proofs.Common.{[], ap, inl, inr}
use Rattle.target_machine.specs.declared.row.Row.{Row}
use Rattle.target_machine.specs.Decisions.{is_asking}
use Rattle.target_machine.specs.Machine.{row_seen}
use Rattle.target_machine.proofs.request.request.Goals as goal

pub ask_to_write-requires-clause-port : goal.ask_to_write-requires-clause-port
ask_to_write-requires-clause-port c = c.requires.port (ap (λ (r : Row). is_asking (row_seen [] r)) c.in-WritesLcs.is)

pub ask_to_write-requires-in-WritesLcl-clause-port : goal.ask_to_write-requires-in-WritesLcl-clause-port
ask_to_write-requires-in-WritesLcl-clause-port c = c.requires.port (ap (λ (r : Row). is_asking (row_seen [] r)) c.in-WritesLcl.is)

pub ask_to_write-requires-in-WritesReady-clause-port : goal.ask_to_write-requires-in-WritesReady-clause-port
ask_to_write-requires-in-WritesReady-clause-port c = c.requires.port (ap (λ (r : Row). is_asking (row_seen [] r)) c.in-WritesReady.is)

pub ask_to_read-requires-clause-port : goal.ask_to_read-requires-clause-port
ask_to_read-requires-clause-port c = c.requires.port (ap (λ (r : Row). is_asking (row_seen [] r)) c.in-ReadsFile.is)

pub ask_to_write-requires-in-WritesProgress-clause-port : goal.ask_to_write-requires-in-WritesProgress-clause-port
ask_to_write-requires-in-WritesProgress-clause-port c = c.requires.port (ap (λ (r : Row). is_asking (row_seen [] r)) c.in-WritesProgress.is)

pub ask_to_write-requires-in-WritesStop-clause-port : goal.ask_to_write-requires-in-WritesStop-clause-port
ask_to_write-requires-in-WritesStop-clause-port c =
    elim c.in-WritesStop.is [ inl e ↦ c.requires.port (ap (λ (r : Row). is_asking (row_seen [] r)) e) | inr e ↦ c.requires.port (ap (λ (r : Row). is_asking (row_seen [] r)) e) ]
