use Rattle.std.proofs.Common.{◌≡◌, ◌+◌, length, map}
use Rattle.media_lists.specs.Loads.{load_entry_view}
use Rattle.session_rules.specs.MediaFiles.{wanted_of}
use Rattle.loader_machine.specs.Machine.{wanted_entry}
use Rattle.loader_machine.proofs.Requests.{and_later}
use Rattle.loader_machine.proofs.requested.request_for.Given as goal

-- the loads so far, and what is listed of the parts that are left
abbrev pub invariant-loop-part : goal.invariant-loop-part
invariant-loop-part l =
    record {
      listed : wanted_of (map (λ e. wanted_entry (load_entry_view e)) l.entries) l.parts ≡ and_later l.loads.items (wanted_of (map (λ e. wanted_entry (load_entry_view e)) l.entries) l.left);
      count : length l.loads.items + length l.left ≡ length l.parts;
    }

abbrev pub decreases-loop-part : goal.decreases-loop-part
decreases-loop-part l = length l.left
