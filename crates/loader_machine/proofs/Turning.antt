-- What a file comes to that isn't in its format.
use Rattle.std.proofs.Common.{◌≡◌, ◌≢◌, ◌⊎◌, ℕ, List, inl, inr, Result, Ok, Err, IfOk, OnOk, sym, ap, ◌∙◌}
use Rattle.load_base.specs.declared.list.NoMemory.{NoMemory}
use Rattle.load_protocol_files.specs.declared.fault.FileFault.{FileFault}
use Rattle.load_protocol_files.specs.declared.fault.FileFault.TheVariants.{Memory}
use Rattle.session_rules.specs.declared.outcome.FileKind.{FileKind}
use Rattle.session_rules.specs.LoaderRows as rules
use Rattle.session_rules.specs.declared.outcome.SessionKind.TheVariants.{Info}
use Rattle.session_rules.specs.LoaderRows.{bad_file, fault_offset}
use Rattle.loader_machine.specs.declared.turn.Turn.{Turn}
use Rattle.loader_machine.specs.Machine.{ListsNothing, listed_at, listed_in, turn_seen}

pub unread_is : {A : Type 0} (turn_of : Result A FileFault → rules.RowTurn) (read : Result A FileFault) (fault : FileFault) (kind : FileKind) (result : Result Turn NoMemory)
    → ((f : FileFault) → turn_of (Err f) ≡ bad_file kind (fault_offset f)) → (fault ≡ Memory) ⊎ (read ≡ Err fault)
    → IfOk result (λ turn. turn_seen turn ≡ bad_file kind (fault_offset fault)) → OnOk result (fault ≢ Memory) → IfOk result (λ turn. turn_seen turn ≡ turn_of read)
unread_is turn_of read fault kind (Err e) refused found is kept = tt
unread_is turn_of read fault kind (Ok turn) refused (inl memory) is kept = absurd (kept memory)
unread_is turn_of read fault kind (Ok turn) refused (inr e) is kept = is ∙ sym (refused fault) ∙ sym (ap turn_of e)

-- ---- what is listed then

pub lists_none : (bytes : List ℕ) (result : Result Turn NoMemory) → IfOk result (λ turn. ListsNothing turn) → IfOk result (λ turn. listed_in turn ≡ listed_at Info (turn_seen turn) bytes)
lists_none bytes (Err e) h = tt
lists_none bytes (Ok turn) h = h.listed ∙ sym (h.at bytes)
