-- What both sides ask for and serve (docs/EXCHANGE.md, "Operations").
use Rattle.std.specs.Prelude.{◌≡◌, List, [], ◌++◌, Some, ⊤}
use Rattle.std.specs.List.{AllByRecursion}
use Rattle.exchange_trace.specs.Logs.{Event}
use Rattle.exchange_trace.specs.declared.trace.Side.TheVariants as sides
use Rattle.exchange_trace.specs.Happenings.{DatagramView}
use Rattle.transfer_end.specs.Laws.{IsLive}
use Rattle.transfer_end.specs.Moves.{Move}
use Rattle.transfer_end.specs.OtherEnds.{AreFair, EventWasPosted, HaveRoles, MoveHasRole, MovesFit, PortsFit, all_of}
use Rattle.transfer_end.specs.Transfers.{Role, ServesRead, ServesWrite, Transfer}
use Rattle.transfer_end.specs.Views.{EndView}
use Rattle.accept_rules.specs.Permissions.{Accepts}
use Rattle.session_rules.specs.declared.outcome.FileKind.{FileKind}
use Rattle.session_rules.specs.Loader.{LoaderView, loader_decision}
use Rattle.session_rules.specs.LoaderLog.{LoaderReading, loader_due, loader_extended, loader_reading}
use Rattle.session_rules.specs.MediaFiles.{Media}
use Rattle.session_rules.specs.Target.{TargetView, own_file, row_request, target_decision}
use Rattle.session_rules.specs.TargetLog.{TargetReading, target_due, target_extended}
use Rattle.session_rules.specs.TargetRows.{RowView}

-- a file that the loader gives is the media set's file of its name
abbrev pub IsLoaderRole : Media → Role → Type 0
IsLoaderRole media (ServesRead name options file) = media.file name ≡ Some file
IsLoaderRole media role = ⊤

-- what the target asks for, some row asks for; a file that it gives is one of its own
abbrev pub IsTargetRole : TargetView → Role → Type 0
IsTargetRole v (ServesRead name options file) = (kind : FileKind) × (file ≡ own_file kind v.active.sequence)
IsTargetRole v (ServesWrite name options) = ⊤
IsTargetRole v role = (row : RowView) × (row_request v row ≡ Some role)

-- The moves of a side fit what comes, and begin transfers in such roles.
abbrev pub MovesAreFit : Event → EndView → (Role → Type 0) → List Move → Type 0
MovesAreFit e v Has moves = MovesFit e v.live v.kept moves × AllByRecursion (MoveHasRole Has) moves

-- Whatever reaches a side, it gets only the packet that came now, serves only a request that came now, and asks in a role that
-- asks; what it gives and asks for are the files of its operations.
abbrev pub LoaderMovesFit : Type 0
LoaderMovesFit = (media : Media) (v : LoaderView) (e : Event) → MovesAreFit e v.end (IsLoaderRole media) (loader_decision media v e).moves

abbrev pub TargetMovesFit : Type 0
TargetMovesFit = (accepts : Accepts) (v : TargetView) (e : Event) → MovesAreFit e v.end (IsTargetRole v) (target_decision accepts v e).moves

-- So both sides stay fair where what reaches the loader was posted by the target,
abbrev pub LoaderStaysFair : Type 0
LoaderStaysFair = (media : Media) (r : LoaderReading) (e : Event) (theirs : List Transfer) (posted : List DatagramView)
    → EventWasPosted posted sides.Target e → IsLive r.end.live → PortsFit r.end [] → AreFair sides.Loader sides.Target (all_of r.end []) theirs r.end.last posted
    → AreFair sides.Loader sides.Target (all_of (loader_extended media r e).end []) theirs (loader_extended media r e).end.last (posted ++ loader_due media r e)

-- and where what reaches the target, which may have had lives before, was posted by the loader.
abbrev pub TargetStaysFair : Type 0
TargetStaysFair = (accepts : Accepts) (r : TargetReading) (e : Event) (former theirs : List Transfer) (posted : List DatagramView)
    → EventWasPosted posted sides.Loader e → IsLive r.end.live → PortsFit r.end former → AreFair sides.Target sides.Loader (all_of r.end former) theirs r.end.last posted
    → AreFair sides.Target sides.Loader (all_of (target_extended accepts r e).end former) theirs (target_extended accepts r e).end.last (posted ++ target_due accepts r e)

-- In each log of the loader, each file that it gives is the media set's file of its name.
abbrev pub LoaderGivesMediaFiles : Type 0
LoaderGivesMediaFiles = (media : Media) (log : List Event) → HaveRoles (IsLoaderRole media) (loader_reading media log).end
