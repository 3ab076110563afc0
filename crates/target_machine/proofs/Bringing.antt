-- How what the target decides changes what its disk has.
use Rattle.std.proofs.Common.{◌≡◌, ◌⊎◌, inl, inr, ℕ, List, [], ◌∷◌, ◌++◌, Bool, true, false, ◌==◌, Option, Some, None, is_none, option_map, Result, Ok, Err, OnOk, IsErr, refl, sym, ap, subst, ◌∙◌, bytes_eq, if◌then◌else◌}
use Rattle.std.proofs.lemmas.List.{append-nil}
use Rattle.disk_model.specs.Image.{Image}
use Rattle.disk_model.specs.State.{DiskState}
use Rattle.disk_layout.specs.Holds.{HoldsConfig, StandingView}
use Rattle.accept_rules.specs.Permissions.{Accepts}
use Rattle.bank_store.specs.declared.store.Store.{Store}
use Rattle.bank_store.specs.Fits.{HoldsFor, InstallsBeside}
use Rattle.bank_store.specs.Keeps.{Continues}
use Rattle.tftp_packet.specs.declared.options.Options.{Options}
use Rattle.tftp_packet.specs.Packets.{Ack, Data, Error, Oack, PacketView, Rrq, Wrq}
use Rattle.tftp_link.specs.Answers.{NewsView, Nothing, Block, Last, Done, PeerError, news_by}
use Rattle.exchange_trace.specs.declared.trace.Side.TheVariants as sides
use Rattle.exchange_trace.specs.Happenings.{DatagramView}
use Rattle.transfer_end.specs.Calls.{Makes}
use Rattle.transfer_end.proofs.CallLemmas.{KeepsPorts, transfer_keeps}
use Rattle.transfer_end.specs.Packets.{has_port, heard_answer, is_busy, is_fresh, may_repeat, transfer_moves}
use Rattle.transfer_end.specs.Transfers.{Role}
use Rattle.transfer_end.specs.Moves.{Asks, Move, Stops}
use Rattle.transfer_end.specs.Views.{EndView}
use Rattle.session_rules.specs.declared.outcome.FileKind.{FileKind}
use Rattle.session_rules.specs.declared.outcome.FileKind.TheVariants.{Lci, Lui, Lur}
use Rattle.session_rules.specs.Contents.{AreKept, ContentsAreKept, SessionContents, TargetContents, contents_changed, contents_continued, reached, reached_last, session_kept}
use Rattle.session_rules.proofs.SoundLogLemmas.{begins_active}
use Rattle.session_rules.specs.Target as Target
use Rattle.session_rules.specs.Target.{TargetChange, TargetDecision, TargetSession, TargetView, in_row, is_over, next_decision, own_decision, own_name, read_decision, request_decision, row_request, session_turned, target_changed, tick_decision, turn_decision, view_turned, without_port, write_decision, write_in}
use Rattle.session_rules.specs.TargetLog.{standing_in}
use Rattle.session_rules.specs.TargetRows.{Arriving, Awaits_lur, Gives_denial, Gives_lci, Gives_lui, Over, Reads_file, RowMove, RowView, WholeRow, Writes_completion, Writes_lcl, Writes_lcs, Writes_progress, Writes_ready, Writes_stop, arriving_of, first_row, row_move, row_moved, row_view, view_moved, with_bytes}
use Rattle.load_intake.specs.declared.down.Down.{Down}
use Rattle.load_intake.specs.Contents.{AddsOldOrNew, BringsRow, BringsTo, HoldsRow, InstallsRow}
use Rattle.load_intake.proofs.ContentLemmas.{adds_nothing, adds_same, beside_continued, both_add}
use Rattle.target_machine.specs.Decisions.{end_with, following, with_live}
use Rattle.target_machine.proofs.DiskLemmas.{quiet_contents}
use Rattle.target_machine.specs.Disks.{BringsContents, HoldsContents, IsAtRest, IsResting, KeepsDisk, change_heard, change_turned, live_arrived, live_row, whole_row_then}
use Rattle.target_machine.proofs.Following.{answer_after}
use Rattle.target_machine.proofs.Holding.{resting_holds}

-- ---- a transfer is over

abbrev whole : StandingView → Option SessionContents → TargetContents
whole active live = record { active = active; live = live }

-- the row that a session comes to, with these bytes as the last of its file
abbrev pub row_turned : Accepts → TargetView → SessionContents → (payload : List ℕ) → (error : Option ℕ) → WholeRow
row_turned accepts v x payload error =
    row_moved x.row (x.arrived ++ payload) (row_move accepts v.active (row_view x.row) (record { error = error; arriving = arriving_of (row_view x.row) (x.arrived ++ payload) }))

-- A change turns a session to this row, in which nothing has arrived, or ends it.
pub record TurnsContents (v : TargetView) (c : TargetContents) (row : WholeRow) (change : TargetChange) : Type 0 where
  pub active : (contents_changed c change).active ≡ standing_in c.active row
  pub live : ((contents_changed c change).live ≡ None)
      ⊎ (((contents_changed c change).live ≡ Some (record { row = row; arrived = [] })) × ((end : EndView) → (target_changed end v change).live ≡ Some (in_row (row_view row))))

over_whole : (row : WholeRow) → is_over (row_view row) ≡ true → (s : StandingView) → s ≡ standing_in s row
over_whole Gives_lci over s = refl
over_whole Writes_lcs over s = refl
over_whole Writes_lcl over s = refl
over_whole Gives_lui over s = refl
over_whole Gives_denial over s = refl
over_whole Writes_ready over s = refl
over_whole Awaits_lur over s = refl
over_whole (Reads_file u) over s = refl
over_whole (Writes_progress u) over s = refl
over_whole (Writes_stop e) over s = refl
over_whole (Writes_completion e loads) over s = absurd (let wrong : false ≡ true = over in cc)
over_whole Over over s = refl

module _ (v : TargetView) (active : StandingView) (x : SessionContents) (payload : List ℕ) (m : RowMove) (kept : RowView) (row : WholeRow) (live : v.live ≡ Some (session_kept x))
    (is : row_moved x.row (x.arrived ++ payload) m ≡ row) (seen : view_moved (row_view x.row) (with_bytes (session_kept x).arriving payload) m ≡ row_view row) (at : kept ≡ row_view row) where
  abbrev Turned : TargetDecision → Type 0
  Turned d = TurnsContents v (whole active (Some x)) row d.change

  turns_to : (moves : List Move) → Turned (record { moves = moves; change = Target.Turns m payload })
  turns_to moves = record {
    active = ap (standing_in active) is;
    live = inr (
      ap (λ (r : WholeRow). Some (record { row = r; arrived = [] })) is,
      λ end. ap (λ (y : Option TargetSession). (session_turned view_turned end v y m payload).live) live ∙ ap (λ (r : RowView). Some (in_row r)) seen,
    );
  }

  turns_if : (b : Bool) (one other : TargetDecision) → Turned one → Turned other → Turned (if b then one else other)
  turns_if true one other p q = p
  turns_if false one other p q = q

  over_if : (b : Bool) → is_over kept ≡ b → (moves other : List Move) → Turned (if b then record { moves = moves; change = Target.Ends None } else record { moves = other; change = Target.Turns m payload })
  over_if true over moves other = record { active = over_whole row (ap is_over (sym at) ∙ over) active; live = inl refl }
  over_if false over moves other = turns_to other

  by_role : (role : Option Role) → Turned (next_decision v.end [] payload m kept role)
  by_role (Some role) =
      turns_if (has_port v.end) (record { moves = Asks role ∷ []; change = Target.Turns m payload }) (record { moves = Stops ∷ []; change = Target.Turns_without_port m payload })
      (turns_to (Asks role ∷ [])) (record { active = ap (standing_in active) is; live = inl refl })
  by_role None = over_if (is_over kept) refl (Stops ∷ []) []

turns_whole : ContentsAreKept → (accepts : Accepts) (v : TargetView) (active : StandingView) (x : SessionContents) (payload : List ℕ) (error : Option ℕ) → v.live ≡ Some (session_kept x)
    → TurnsContents v (whole active (Some x)) (row_turned accepts v x payload error) (turn_decision accepts v (session_kept x) [] payload error).change
turns_whole k accepts v active x payload error live = at_arriving (with_bytes (session_kept x).arriving payload) refl (k.more x.row x.arrived payload)
  where
    at_arriving : (a : Arriving) → with_bytes (session_kept x).arriving payload ≡ a → a ≡ arriving_of (row_view x.row) (x.arrived ++ payload)
        → TurnsContents v (whole active (Some x)) (row_turned accepts v x payload error) (Target.moved_decision v (row_view x.row) [] payload a (row_move accepts v.active (row_view x.row) (record { error = error; arriving = a }))).change
    at_arriving a e f =
        let b = arriving_of (row_view x.row) (x.arrived ++ payload) in
        let m = row_move accepts v.active (row_view x.row) (record { error = error; arriving = b }) in
        let kept = view_moved (row_view x.row) b m in
        let row = row_turned accepts v x payload error in
        let seen : kept ≡ row_view row = k.moved accepts v.active x.row error (x.arrived ++ payload) in
        subst (λ (y : Arriving). TurnsContents v (whole active (Some x)) row (Target.moved_decision v (row_view x.row) [] payload y (row_move accepts v.active (row_view x.row) (record { error = error; arriving = y }))).change) (sym f)
        (by_role v active x payload m kept row live refl (ap (λ (y : Arriving). view_moved (row_view x.row) y m) (e ∙ f) ∙ seen) seen (row_request v kept))

pub turns_contents : ContentsAreKept → (accepts : Accepts) (v : TargetView) (c : TargetContents) (x : SessionContents) (payload : List ℕ) (error : Option ℕ) → c.live ≡ Some x → v.live ≡ Some (session_kept x)
    → TurnsContents v c (row_turned accepts v x payload error) (turn_decision accepts v (session_kept x) [] payload error).change
turns_contents k accepts v c x payload error is live =
    subst (λ (y : Option SessionContents). TurnsContents v (whole c.active y) (row_turned accepts v x payload error) (turn_decision accepts v (session_kept x) [] payload error).change) (sym is) (turns_whole k accepts v c.active x payload error live)

-- ---- what is brought then

at_contents : {T : Type 0} (old : DiskState) (after : Store) (new : DiskState) (c next : TargetContents) (active : StandingView) (live : Option SessionContents) (r : Result T Down) → next.active ≡ active → next.live ≡ live
    → BringsTo old after new c.active active (live_row live) (live_arrived live) r → BringsContents old after new c next r
at_contents old after new c next active live r a l brings =
    subst (λ (y : Option SessionContents). BringsTo old after new c.active next.active (live_row y) (live_arrived y) r) (sym l)
    (subst (λ (s : StandingView). BringsTo old after new c.active s (live_row live) (live_arrived live) r) (sym a) brings)

-- a session that turned to a row, and asked for what it asks for there
pub turn_brings : {S T : Type 0} (v : TargetView) (c : TargetContents) (row : WholeRow) (change : TargetChange) (old : DiskState) (mid after : Store) (new : DiskState) (now : Option TargetSession) (x : S) (y : T) (end : EndView)
    → TurnsContents v c row change → BringsRow {E = Down} old mid new c.active row (Ok x) → Continues mid after → (after ≡ mid) ⊎ IsAtRest now → now ≡ (target_changed end v change).live
    → BringsContents {E = Down} old after new c (contents_changed c change) (Ok y)
turn_brings v c row change old mid after new now x y end t brings cont work is = elim t.live [
  | inl none ↦ at_contents old after new c (contents_changed c change) (standing_in c.active row) None (Ok y) t.active none
      (record { adds = brings.adds; ok = record { beside = beside_continued mid after new (standing_in c.active row) cont brings.ok.beside; holds = tt } })
  | inr (goes, seen) ↦ at_contents old after new c (contents_changed c change) (standing_in c.active row) (Some (record { row = row; arrived = [] })) (Ok y) t.active goes (record {
    adds = brings.adds;
    ok = installs (seen end) work;
  })
]
  where
    there : InstallsBeside after new (standing_in c.active row)
    there = beside_continued mid after new (standing_in c.active row) cont brings.ok.beside

    installs : (target_changed end v change).live ≡ Some (in_row (row_view row)) → (after ≡ mid) ⊎ IsAtRest now → InstallsRow after new (standing_in c.active row) row []
    installs seen (inl same) = subst (λ (st : Store). InstallsRow st new (standing_in c.active row) row []) (sym same) brings.ok
    installs seen (inr rests) = record { beside = there; holds = resting_holds after there.image row [] (subst (λ (y : Option TargetSession). IsAtRest y) (is ∙ seen) rests) }

-- or failed
pub turn_fails : {S T : Type 0} (v : TargetView) (c : TargetContents) (row : WholeRow) (change : TargetChange) (old : DiskState) (mid after : Store) (new : DiskState) (one : Result S Down) (r : Result T Down) → IsErr r
    → TurnsContents v c row change → BringsRow old mid new c.active row one → BringsContents old after new c (contents_changed c change) r
turn_fails v c row change old mid after new one (Ok x) err t brings = absurd (let wrong : false ≡ true = err in cc)
turn_fails v c row change old mid after new one (Err e) err t brings = record { adds = subst (λ (s : StandingView). AddsOldOrNew old new c.active s) (sym t.active) brings.adds; ok = tt }

-- ---- changes without a call of the disk

-- nothing arrives, and no transfer is over
abbrev pub IsQuiet : TargetChange → Type 0
IsQuiet (Target.Continues more) = more ≡ []
IsQuiet (Target.Begins kind) = Unit {0}
IsQuiet (Target.Ends reason) = Unit {0}
IsQuiet (Target.Turns move more) = ⊥
IsQuiet (Target.Turns_without_port move more) = ⊥

abbrev Quiet : TargetDecision → Type 0
Quiet d = IsQuiet d.change

quiet_if : (b : Bool) (one other : TargetDecision) → Quiet one → Quiet other → Quiet (if b then one else other)
quiet_if true one other p q = p
quiet_if false one other p q = q

quiet_portless : (live : Option TargetSession) → Quiet (without_port live)
quiet_portless None = refl
quiet_portless (Some s) = tt

quiet_own : (v : TargetView) (from : ℕ) (kind : FileKind) (name : List ℕ) (o : Options) → Quiet (own_decision v from kind name o)
quiet_own v from kind name o = quiet_if (is_fresh v.end from) _ _ (quiet_if (has_port v.end) _ _ tt (quiet_portless v.live)) refl

quiet_read : (v : TargetView) (from : ℕ) (name : List ℕ) (o : Options) → Quiet (read_decision v from name o)
quiet_read v from name o =
    quiet_if (bytes_eq name (own_name v Lci)) _ _ (quiet_own v from Lci name o)
    (quiet_if (bytes_eq name (own_name v Lui)) _ _ (quiet_own v from Lui name o) (quiet_if (is_busy v.end) _ _ refl refl))

quiet_write_in : (v : TargetView) (from : ℕ) (name : List ℕ) (o : Options) (row : RowView) → Quiet (write_in v from name o row)
quiet_write_in v from name o Awaits_lur =
    quiet_if (bytes_eq name (own_name v Lur)) _ _ (quiet_if (is_fresh v.end from) _ _ (quiet_if (has_port v.end) _ _ refl (quiet_portless v.live)) refl) refl
quiet_write_in v from name o Gives_lci = refl
quiet_write_in v from name o Writes_lcs = refl
quiet_write_in v from name o Writes_lcl = refl
quiet_write_in v from name o Gives_lui = refl
quiet_write_in v from name o Gives_denial = refl
quiet_write_in v from name o Writes_ready = refl
quiet_write_in v from name o (Reads_file u) = refl
quiet_write_in v from name o (Writes_progress u) = refl
quiet_write_in v from name o (Writes_stop e) = refl
quiet_write_in v from name o (Writes_completion e loads) = refl
quiet_write_in v from name o Over = refl

quiet_write : (v : TargetView) (from : ℕ) (name : List ℕ) (o : Options) (live : Option TargetSession) → Quiet (write_decision v from name o live)
quiet_write v from name o None = refl
quiet_write v from name o (Some s) = quiet_write_in v from name o s.row

pub quiet_request : (v : TargetView) (from : ℕ) (p : PacketView) → IsQuiet (request_decision v from p).change
quiet_request v from (Rrq name o) = quiet_read v from name o
quiet_request v from (Wrq name o) = quiet_if (is_busy v.end) _ _ refl (quiet_write v from name o v.live)
quiet_request v from (Data k b) = refl
quiet_request v from (Ack k) = refl
quiet_request v from (Error code m) = refl
quiet_request v from (Oack o) = refl

pub quiet_tick : (end : EndView) (live : Option TargetSession) → IsQuiet (tick_decision end live).change
quiet_tick end None = refl
quiet_tick end (Some s) = quiet_if (may_repeat end) _ _ refl tt

first_rests : (kind : FileKind) (sequence : ℕ) → IsResting (row_view (first_row kind sequence))
first_rests Lci sequence = tt
first_rests Lui sequence = by_last (sequence == 4294967295)
  where
    by_last : (last : Bool) → IsResting (row_view (if last then Gives_denial else Gives_lui))
    by_last true = tt
    by_last false = tt
first_rests kind sequence = tt

-- what the disk has then
quiet_continued : (before after : Store) (disk : DiskState) (active : StandingView) (live : Option SessionContents) (now : Option TargetSession) → now ≡ Target.continued (option_map session_kept live) [] → Continues before after
    → (after ≡ before) ⊎ IsAtRest now → HoldsContents before disk (whole active live) → HoldsContents after disk (whole active (contents_continued live []))
quiet_continued before after disk active None now is c work holds = record { beside = beside_continued before after disk active c holds.beside; holds = tt }
quiet_continued before after disk active (Some x) now is c (inl same) holds =
    subst (λ (st : Store). InstallsRow st disk active x.row (x.arrived ++ [])) (sym same)
    (record { beside = holds.beside; holds = subst (λ (bytes : List ℕ). HoldsRow before holds.beside.image x.row bytes) (sym (append-nil x.arrived)) holds.holds })
quiet_continued before after disk active (Some x) now is c (inr rests) holds =
    let there = beside_continued before after disk active c holds.beside in
    record { beside = there; holds = resting_holds after there.image x.row (x.arrived ++ []) (subst (λ (y : Option TargetSession). IsAtRest y) is rests) }

pub quiet_active : (c : TargetContents) (change : TargetChange) → IsQuiet change → (contents_changed c change).active ≡ c.active
quiet_active c (Target.Continues more) quiet = refl
quiet_active c (Target.Begins kind) quiet = begins_active c.active kind c.active.sequence
quiet_active c (Target.Ends reason) quiet = refl
quiet_active c (Target.Turns move more) quiet = absurd quiet
quiet_active c (Target.Turns_without_port move more) quiet = absurd quiet

pub quiet_holds : (before after : Store) (disk : DiskState) (v : TargetView) (c : TargetContents) (now : Option TargetSession) (end : EndView) (change : TargetChange) → IsQuiet change → AreKept c v → now ≡ (target_changed end v change).live → Continues before after
    → (after ≡ before) ⊎ IsAtRest now → HoldsContents before disk c → HoldsContents after disk (contents_changed c change)
quiet_holds before after disk v c now end (Target.Continues more) quiet kept is cont work holds =
    rw quiet (quiet_continued before after disk c.active c.live now (is ∙ ap (λ (bytes : List ℕ). Target.continued v.live bytes) quiet ∙ ap (λ (y : Option TargetSession). Target.continued y []) kept.live) cont work holds)
quiet_holds before after disk v c now end (Target.Begins kind) quiet kept is cont work holds =
    let there = beside_continued before after disk c.active cont holds.beside in
    subst (λ (s : StandingView). InstallsRow after disk s (first_row kind c.active.sequence) []) (sym (begins_active c.active kind c.active.sequence))
    (record { beside = there; holds = resting_holds after there.image (first_row kind c.active.sequence) [] (first_rests kind c.active.sequence) })
quiet_holds before after disk v c now end (Target.Ends reason) quiet kept is cont work holds = record { beside = beside_continued before after disk c.active cont holds.beside; holds = tt }
quiet_holds before after disk v c now end (Target.Turns move more) quiet kept is cont work holds = absurd quiet
quiet_holds before after disk v c now end (Target.Turns_without_port move more) quiet kept is cont work holds = absurd quiet

-- ---- what the clause of a public call says

config_of : (store : Store) (image : Image) (s : StandingView) → HoldsFor store image s → HoldsConfig image s
config_of store image s holds = record { slot = _; by = holds.by }

-- before the call nothing else may be left than the active configuration
pub keeps_disk : {T : Type 0} (before : Store) (old : DiskState) (after : Store) (new : DiskState) (c next : TargetContents) (r : Result T Down) → ((left : Image) → old.now left → HoldsFor before left c.active)
    → ((s : StandingView) (left : Image) → InstallsBeside after new s → new.now left → HoldsFor after left s) → BringsContents old after new c next r → KeepsDisk old after new c next r
keeps_disk {T} before old after new c next r first now brings = record {
  adds = record {
    each = brings.adds.adds.each;
    here = λ image may. elim (brings.adds.adds.here image may) [ inl was ↦ inl (config_of before image c.active (first image was)) | inr is ↦ is ];
  };
  first = brings.adds.first;
  holds = brings.ok;
  alone = alone_on r brings.ok;
}
  where
    alone_on : (x : Result T Down) → OnOk x (HoldsContents after new next) → OnOk x ((left : Image) → new.now left → HoldsConfig left next.active)
    alone_on (Ok y) holds = λ left may. config_of after left next.active (now next.active left holds.beside may)
    alone_on (Err e) holds = tt

pub quiet_brings : {T : Type 0} (before after : Store) (disk : DiskState) (v : TargetView) (c : TargetContents) (now : Option TargetSession) (end : EndView) (change : TargetChange) (x : T) → IsQuiet change → AreKept c v → now ≡ (target_changed end v change).live
    → Continues before after → (after ≡ before) ⊎ IsAtRest now → HoldsContents before disk c → BringsContents {E = Down} disk after disk c (contents_changed c change) (Ok x)
quiet_brings before after disk v c now end change x quiet kept is cont work holds = record { adds = adds_nothing disk _ _; ok = quiet_holds before after disk v c now end change quiet kept is cont work holds }

-- ---- a live session, or none

take_idle_in : {T : Type 0} (store : Store) (disk : DiskState) (active : StandingView) (live : Option SessionContents) (more : List ℕ) (x : T) → option_map session_kept live ≡ None → HoldsContents store disk (whole active live)
    → BringsContents {E = Down} disk store disk (whole active live) (whole active (contents_continued live more)) (Ok x)
take_idle_in store disk active None more x none holds = record { adds = adds_nothing disk _ _; ok = holds }
take_idle_in store disk active (Some s) more x none holds = absurd cc

-- nothing arrives where no session is live
pub take_idle : {T : Type 0} (store : Store) (disk : DiskState) (c : TargetContents) (v : TargetView) (more : List ℕ) (x : T) → AreKept c v → v.live ≡ None → HoldsContents store disk c
    → BringsContents {E = Down} disk store disk c (contents_changed c (Target.Continues more)) (Ok x)
take_idle store disk c v more x kept none holds = take_idle_in store disk c.active c.live more x (sym kept.live ∙ none) holds

take_live_in : {T : Type 0} (before : Store) (old : DiskState) (after : Store) (new : DiskState) (active : StandingView) (live : Option SessionContents) (seen : TargetSession) (more : List ℕ) (r : Result T Down) → option_map session_kept live ≡ Some seen
    → HoldsContents before old (whole active live) → ((x : SessionContents) → seen ≡ session_kept x → InstallsRow before old active x.row x.arrived → BringsTo old after new active active x.row (x.arrived ++ more) r)
    → BringsContents old after new (whole active live) (whole active (contents_continued live more)) r
take_live_in before old after new active None seen more r is holds brings = absurd cc
take_live_in before old after new active (Some x) seen more r is holds brings = let same : seen ≡ session_kept x = cc in brings x same holds

pub take_live : {T : Type 0} (before : Store) (old : DiskState) (after : Store) (new : DiskState) (c : TargetContents) (v : TargetView) (seen : TargetSession) (more : List ℕ) (r : Result T Down) → AreKept c v → v.live ≡ Some seen → HoldsContents before old c
    → ((x : SessionContents) → seen ≡ session_kept x → InstallsRow before old c.active x.row x.arrived → BringsTo old after new c.active c.active x.row (x.arrived ++ more) r)
    → BringsContents old after new c (contents_changed c (Target.Continues more)) r
take_live before old after new c v seen more r kept is holds brings = take_live_in before old after new c.active c.live seen more r (sym kept.live ∙ is) holds brings

row_same : (accepts : Accepts) (v : TargetView) (x : SessionContents) (error : Option ℕ) → row_turned accepts v x [] error ≡ whole_row_then accepts v.active x error
row_same accepts v x error =
    ap (λ (bytes : List ℕ). row_moved x.row bytes (row_move accepts v.active (row_view x.row) (record { error = error; arriving = arriving_of (row_view x.row) bytes }))) (append-nil x.arrived)

abbrev turn_change : Accepts → TargetView → SessionContents → Option ℕ → TargetChange
turn_change accepts v x error = (turn_decision accepts v (session_kept x) [] [] error).change

module _ (k : ContentsAreKept) (accepts : Accepts) (v : TargetView) (error : Option ℕ) where
  turns_here : (active : StandingView) (x : SessionContents) → v.live ≡ Some (session_kept x) → TurnsContents v (whole active (Some x)) (whole_row_then accepts v.active x error) (turn_change accepts v x error)
  turns_here active x live =
      subst (λ (row : WholeRow). TurnsContents v (whole active (Some x)) row (turn_change accepts v x error)) (row_same accepts v x error) (turns_contents k accepts v (whole active (Some x)) x [] error refl live)

  turn_ok_in : {S T : Type 0} (active : StandingView) (live : Option SessionContents) (before : Store) (old : DiskState) (mid after : Store) (new : DiskState) (now : Option TargetSession) (x : S) (y : T)
      → v.live ≡ option_map session_kept live → is_none v.live ≡ false → HoldsContents before old (whole active live)
      → ((z : SessionContents) → v.live ≡ Some (session_kept z) → InstallsRow before old active z.row z.arrived → BringsRow {E = Down} old mid new active (whole_row_then accepts v.active z error) (Ok x))
      → Continues mid after → (after ≡ mid) ⊎ IsAtRest now → ((z : SessionContents) → v.live ≡ Some (session_kept z) → (end : EndView) × (now ≡ (target_changed end v (turn_change accepts v z error)).live))
      → BringsContents {E = Down} old after new (whole active live) (contents_changed (whole active live) (change_turned accepts v (option_map session_kept live) error)) (Ok y)
  turn_ok_in active None before old mid after new now x y is some holds brings cont work turned = absurd (let wrong : true ≡ false = sym (ap is_none is) ∙ some in cc)
  turn_ok_in active (Some z) before old mid after new now x y is some holds brings cont work turned =
      let (end, seen) = turned z is in
      turn_brings v (whole active (Some z)) (whole_row_then accepts v.active z error) (turn_change accepts v z error) old mid after new now x y end (turns_here active z is) (brings z is holds) cont work seen

  pub turn_ok : {S T : Type 0} (c : TargetContents) (before : Store) (old : DiskState) (mid after : Store) (new : DiskState) (now : Option TargetSession) (x : S) (y : T)
      → AreKept c v → is_none v.live ≡ false → HoldsContents before old c
      → ((z : SessionContents) → v.live ≡ Some (session_kept z) → InstallsRow before old c.active z.row z.arrived → BringsRow {E = Down} old mid new c.active (whole_row_then accepts v.active z error) (Ok x))
      → Continues mid after → (after ≡ mid) ⊎ IsAtRest now → ((z : SessionContents) → v.live ≡ Some (session_kept z) → (end : EndView) × (now ≡ (target_changed end v (turn_change accepts v z error)).live))
      → BringsContents {E = Down} old after new c (contents_changed c (change_turned accepts v v.live error)) (Ok y)
  turn_ok c before old mid after new now x y kept some holds brings cont work turned =
      subst (λ (live : Option TargetSession). BringsContents {E = Down} old after new c (contents_changed c (change_turned accepts v live error)) (Ok y)) (sym kept.live)
      (turn_ok_in c.active c.live before old mid after new now x y kept.live some holds brings cont work turned)

  turn_err_in : {S T : Type 0} (active : StandingView) (live : Option SessionContents) (before : Store) (old : DiskState) (mid after : Store) (new : DiskState) (one : Result S Down) (r : Result T Down) → IsErr r
      → v.live ≡ option_map session_kept live → is_none v.live ≡ false → HoldsContents before old (whole active live)
      → ((z : SessionContents) → v.live ≡ Some (session_kept z) → InstallsRow before old active z.row z.arrived → BringsRow old mid new active (whole_row_then accepts v.active z error) one)
      → BringsContents old after new (whole active live) (contents_changed (whole active live) (change_turned accepts v (option_map session_kept live) error)) r
  turn_err_in active None before old mid after new one r err is some holds brings = absurd (let wrong : true ≡ false = sym (ap is_none is) ∙ some in cc)
  turn_err_in active (Some z) before old mid after new one r err is some holds brings =
      turn_fails v (whole active (Some z)) (whole_row_then accepts v.active z error) (turn_change accepts v z error) old mid after new one r err (turns_here active z is) (brings z is holds)

  pub turn_err : {S T : Type 0} (c : TargetContents) (before : Store) (old : DiskState) (mid after : Store) (new : DiskState) (one : Result S Down) (r : Result T Down) → IsErr r → AreKept c v → is_none v.live ≡ false → HoldsContents before old c
      → ((z : SessionContents) → v.live ≡ Some (session_kept z) → InstallsRow before old c.active z.row z.arrived → BringsRow old mid new c.active (whole_row_then accepts v.active z error) one)
      → BringsContents old after new c (contents_changed c (change_turned accepts v v.live error)) r
  turn_err c before old mid after new one r err kept some holds brings =
      subst (λ (live : Option TargetSession). BringsContents old after new c (contents_changed c (change_turned accepts v live error)) r) (sym kept.live) (turn_err_in c.active c.live before old mid after new one r err kept.live some holds brings)

-- where no session is live, the end of a transfer changes nothing
pub turn_idle : {T : Type 0} (accepts : Accepts) (store : Store) (disk : DiskState) (c : TargetContents) (v : TargetView) (error : Option ℕ) (x : T) → AreKept c v → v.live ≡ None → HoldsContents store disk c
    → BringsContents {E = Down} disk store disk c (contents_changed c (change_turned accepts v v.live error)) (Ok x)
turn_idle accepts store disk c v error x kept none holds =
    subst (λ (live : Option TargetSession). BringsContents {E = Down} disk store disk c (contents_changed c (change_turned accepts v live error)) (Ok x)) (sym none) (take_idle store disk c v [] x kept none holds)

-- ---- what is heard

pub same_heard : {T : Type 0} (old : DiskState) (after : Store) (new : DiskState) (c : TargetContents) (one other : TargetChange) (r : Result T Down) → one ≡ other → BringsContents old after new c (contents_changed c one) r → BringsContents old after new c (contents_changed c other) r
same_heard old after new c one other r same brings = subst (λ (change : TargetChange). BringsContents old after new c (contents_changed c change) r) same brings

nothing_heard : (accepts : Accepts) (v : TargetView) (live : Option TargetSession) → Target.Continues [] ≡ change_heard accepts v live Nothing
nothing_heard accepts v None = refl
nothing_heard accepts v (Some s) = refl

pub hears_nothing : {T : Type 0} (accepts : Accepts) (store : Store) (disk : DiskState) (c : TargetContents) (v : TargetView) (x : T) → HoldsContents store disk c → BringsContents {E = Down} disk store disk c (contents_changed c (change_heard accepts v v.live Nothing)) (Ok x)
hears_nothing accepts store disk c v x holds =
    same_heard disk store disk c (Target.Continues []) (change_heard accepts v v.live Nothing) (Ok x) (nothing_heard accepts v v.live) (record { adds = adds_nothing disk _ _; ok = quiet_contents store disk c.active c.live holds })

block_heard : (accepts : Accepts) (v : TargetView) (c : TargetContents) (payload : List ℕ) → v.live ≡ option_map session_kept c.live → contents_changed c (Target.Continues payload) ≡ contents_changed c (change_heard accepts v v.live (Block payload))
block_heard accepts v c payload is = by_live c.active c.live v.live is
  where
    by_live : (active : StandingView) (live : Option SessionContents) (seen : Option TargetSession) → seen ≡ option_map session_kept live
        → contents_changed (whole active live) (Target.Continues payload) ≡ contents_changed (whole active live) (change_heard accepts v seen (Block payload))
    by_live active None None e = refl
    by_live active None (Some s) e = absurd cc
    by_live active (Some x) None e = absurd cc
    by_live active (Some x) (Some s) e = refl

pub hears_block : {T : Type 0} (accepts : Accepts) (old : DiskState) (after : Store) (new : DiskState) (c : TargetContents) (v : TargetView) (payload : List ℕ) (r : Result T Down) → AreKept c v → BringsContents old after new c (contents_changed c (Target.Continues payload)) r
    → BringsContents old after new c (contents_changed c (change_heard accepts v v.live (Block payload))) r
hears_block accepts old after new c v payload r kept brings = subst (λ (next : TargetContents). BringsContents old after new c next r) (block_heard accepts v c payload kept.live) brings

turned_heard : (accepts : Accepts) (v : TargetView) (live : Option TargetSession) → change_turned accepts v live None ≡ change_heard accepts v live Done
turned_heard accepts v None = refl
turned_heard accepts v (Some s) = refl

error_heard : (accepts : Accepts) (v : TargetView) (live : Option TargetSession) (code : ℕ) → change_turned accepts v live (Some code) ≡ change_heard accepts v live (PeerError code)
error_heard accepts v None code = refl
error_heard accepts v (Some s) code = refl

pub hears_done : {T : Type 0} (accepts : Accepts) (old : DiskState) (after : Store) (new : DiskState) (c : TargetContents) (v : TargetView) (r : Result T Down) → BringsContents old after new c (contents_changed c (change_turned accepts v v.live None)) r
    → BringsContents old after new c (contents_changed c (change_heard accepts v v.live Done)) r
hears_done accepts old after new c v r brings = same_heard old after new c _ _ r (turned_heard accepts v v.live) brings

pub hears_error : {T : Type 0} (accepts : Accepts) (old : DiskState) (after : Store) (new : DiskState) (c : TargetContents) (v : TargetView) (code : ℕ) (r : Result T Down) → BringsContents old after new c (contents_changed c (change_turned accepts v v.live (Some code))) r
    → BringsContents old after new c (contents_changed c (change_heard accepts v v.live (PeerError code))) r
hears_error accepts old after new c v code r brings = same_heard old after new c _ _ r (error_heard accepts v v.live code) brings

-- ---- the last bytes of a file

live_request : (v : TargetView) (live : Option TargetSession) (row : RowView) → row_request (with_live v live) row ≡ row_request v row
live_request v live Gives_lci = refl
live_request v live Writes_lcs = refl
live_request v live Writes_lcl = refl
live_request v live Gives_lui = refl
live_request v live Gives_denial = refl
live_request v live Writes_ready = refl
live_request v live Awaits_lur = refl
live_request v live (Reads_file u) = refl
live_request v live (Writes_progress u) = refl
live_request v live (Writes_stop e) = refl
live_request v live (Writes_completion e loads) = refl
live_request v live Over = refl

module _ (v : TargetView) (active : StandingView) (x : SessionContents) (payload : List ℕ) where
  abbrev before_last : TargetContents
  before_last = whole active (Some x)

  abbrev with_last : TargetContents
  with_last = whole active (Some (record { row = x.row; arrived = x.arrived ++ payload }))

  abbrev SameContents : (one other : TargetDecision) → Type 0
  SameContents one other = contents_changed with_last one.change ≡ contents_changed before_last other.change

  same_turned : (turned : StandingView → WholeRow → TargetContents) (m : RowMove) → turned active (row_moved x.row ((x.arrived ++ payload) ++ []) m) ≡ turned active (row_moved x.row (x.arrived ++ payload) m)
  same_turned turned m = ap (λ (bytes : List ℕ). turned active (row_moved x.row bytes m)) (append-nil (x.arrived ++ payload))

  over_same : (m : RowMove) (over : Bool) → SameContents (if over then record { moves = Stops ∷ []; change = Target.Ends None } else record { moves = []; change = Target.Turns m [] })
      (if over then record { moves = Stops ∷ []; change = Target.Ends None } else record { moves = []; change = Target.Turns m payload })
  over_same m true = refl
  over_same m false = same_turned reached m

  port_same : (m : RowMove) (role : Role) (port : Bool)
      → SameContents (if port then record { moves = Asks role ∷ []; change = Target.Turns m [] } else record { moves = Stops ∷ []; change = Target.Turns_without_port m [] })
      (if port then record { moves = Asks role ∷ []; change = Target.Turns m payload } else record { moves = Stops ∷ []; change = Target.Turns_without_port m payload })
  port_same m role true = same_turned reached m
  port_same m role false = same_turned reached_last m

  next_same : (kept : RowView) (m : RowMove) (role : Option Role) → SameContents (next_decision v.end [] [] m kept role) (next_decision v.end [] payload m kept role)
  next_same kept m None = over_same m (is_over kept)
  next_same kept m (Some role) = port_same m role (has_port v.end)

abbrev session_with : SessionContents → List ℕ → TargetSession
session_with x payload = record { row = row_view x.row; arriving = with_bytes (arriving_of (row_view x.row) x.arrived) payload }

last_same : ContentsAreKept → (accepts : Accepts) (v : TargetView) (active : StandingView) (x : SessionContents) (payload : List ℕ)
    → contents_changed (with_last v active x payload) (turn_decision accepts (with_live v (Some (session_with x payload))) (session_with x payload) [] [] None).change
    ≡ contents_changed (before_last v active x payload) (turn_decision accepts v (session_kept x) [] payload None).change
last_same k accepts v active x payload =
    let a = with_bytes (arriving_of (row_view x.row) x.arrived) payload in
    let all = x.arrived ++ payload in
    let calm : with_bytes a [] ≡ a = ap (λ (y : Arriving). with_bytes y []) (k.more x.row x.arrived payload) ∙ (k.more x.row all [] ∙ (ap (λ (bytes : List ℕ). arriving_of (row_view x.row) bytes) (append-nil all) ∙ sym (k.more x.row x.arrived payload))) in
    let m = row_move accepts v.active (row_view x.row) (record { error = None; arriving = a }) in
    let kept = view_moved (row_view x.row) a m in
    let w = with_live v (Some (session_with x payload)) in
    subst (λ (y : Arriving). contents_changed (with_last v active x payload) (Target.moved_decision w (row_view x.row) [] [] y (row_move accepts v.active (row_view x.row) (record { error = None; arriving = y }))).change
    ≡ contents_changed (before_last v active x payload) (Target.moved_decision v (row_view x.row) [] payload a m).change) (sym calm)
    (subst (λ (role : Option Role). contents_changed (with_last v active x payload) (next_decision v.end [] [] m kept role).change ≡ contents_changed (before_last v active x payload) (next_decision v.end [] payload m kept (row_request v kept)).change) (sym (live_request v (Some (session_with x payload)) kept))
    (next_same v active x payload kept m (row_request v kept)))

-- what is kept of it
continued_kept : ContentsAreKept → (live : Option SessionContents) (payload : List ℕ) → Target.continued (option_map session_kept live) payload ≡ option_map session_kept (contents_continued live payload)
continued_kept k None payload = refl
continued_kept k (Some x) payload = ap (λ (y : Arriving). Some (record { row = row_view x.row; arriving = y })) (k.more x.row x.arrived payload)

pub kept_with : ContentsAreKept → (c : TargetContents) (v w : TargetView) (payload : List ℕ) → AreKept c v → w ≡ with_live v (Target.continued v.live payload) → AreKept (contents_changed c (Target.Continues payload)) w
kept_with k c v w payload kept is = record {
  active = ap (λ (y : TargetView). y.active) is ∙ kept.active;
  live = ap (λ (y : TargetView). y.live) is ∙ (ap (λ (y : Option TargetSession). Target.continued y payload) kept.live ∙ continued_kept k c.live payload);
}

last_heard_in : ContentsAreKept → (accepts : Accepts) (v : TargetView) (active : StandingView) (live : Option SessionContents) (payload : List ℕ)
    → contents_changed (whole active (contents_continued live payload)) (change_turned accepts (with_live v (Target.continued (option_map session_kept live) payload)) (Target.continued (option_map session_kept live) payload) None)
    ≡ contents_changed (whole active live) (change_heard accepts v (option_map session_kept live) (Last payload))
last_heard_in k accepts v active None payload = refl
last_heard_in k accepts v active (Some x) payload = last_same k accepts v active x payload

last_heard : ContentsAreKept → (accepts : Accepts) (v w : TargetView) (c : TargetContents) (payload : List ℕ) → AreKept c v → w ≡ with_live v (Target.continued v.live payload)
    → contents_changed (contents_changed c (Target.Continues payload)) (change_turned accepts w w.live None) ≡ contents_changed c (change_heard accepts v v.live (Last payload))
last_heard k accepts v w c payload kept is =
    ap (λ (y : TargetView). contents_changed (contents_changed c (Target.Continues payload)) (change_turned accepts y y.live None)) is
    ∙ (ap (λ (live : Option TargetSession). contents_changed (contents_changed c (Target.Continues payload)) (change_turned accepts (with_live v (Target.continued live payload)) (Target.continued live payload) None)) kept.live
    ∙ (last_heard_in k accepts v c.active c.live payload ∙ ap (λ (live : Option TargetSession). contents_changed c (change_heard accepts v live (Last payload))) (sym kept.live)))

pub hears_last : {S T : Type 0} → ContentsAreKept → (accepts : Accepts) (v w : TargetView) (c : TargetContents) (payload : List ℕ) (old : DiskState) (mid : Store) (there : DiskState) (after : Store) (new : DiskState) (x : S) (r : Result T Down) → AreKept c v
    → w ≡ with_live v (Target.continued v.live payload) → BringsContents {E = Down} old mid there c (contents_changed c (Target.Continues payload)) (Ok x)
    → (AreKept (contents_changed c (Target.Continues payload)) w → HoldsContents mid there (contents_changed c (Target.Continues payload))
    → BringsContents there after new (contents_changed c (Target.Continues payload)) (contents_changed (contents_changed c (Target.Continues payload)) (change_turned accepts w w.live None)) r)
    → BringsContents old after new c (contents_changed c (change_heard accepts v v.live (Last payload))) r
hears_last k accepts v w c payload old mid there after new x r kept is takes turns =
    let one = contents_changed c (Target.Continues payload) in
    let next = contents_changed one (change_turned accepts w w.live None) in
    let turned = turns (kept_with k c v w payload kept is) takes.ok in
    subst (λ (y : TargetContents). BringsContents old after new c y r) (last_heard k accepts v w c payload kept is)
    (record { adds = both_add old there new c.active next.active (adds_same old there c.active next.active takes.adds) turned.adds; ok = turned.ok })

-- the bytes couldn't be taken
pub last_fails : {S T : Type 0} (old : DiskState) (after other : Store) (new : DiskState) (c next : TargetContents) (payload : List ℕ) (one : Result S Down) (r : Result T Down) → IsErr r → BringsContents old after new c (contents_changed c (Target.Continues payload)) one
    → BringsContents old other new c next r
last_fails old after other new c next payload one (Ok x) err brings = absurd (let wrong : false ≡ true = err in cc)
last_fails old after other new c next payload one (Err e) err brings = record { adds = adds_same old new c.active next.active brings.adds; ok = tt }

-- ---- a packet of a transfer

transfer_change : (accepts : Accepts) (v : TargetView) (end : EndView) (from to : ℕ) (p : PacketView) (news : NewsView) (live : Option TargetSession) → KeepsPorts v.end end → news ≡ news_by (heard_answer v.end from to p)
    → change_heard accepts (end_with v end) live news ≡ (Target.transfer_decision accepts v live from to p).change
transfer_change accepts v end from to p news None keeps is = refl
transfer_change accepts v end from to p news (Some s) keeps is =
    ap (λ (n : NewsView). (following accepts (end_with v end) s n).change) is ∙ sym (answer_after accepts v end (transfer_moves v.end from to p) keeps s (heard_answer v.end from to p)).change

pub kept_end : (c : TargetContents) (v w : TargetView) (end : EndView) → AreKept c v → w ≡ end_with v end → AreKept c w
kept_end c v w end kept is = record { active = ap (λ (y : TargetView). y.active) is ∙ kept.active; live = ap (λ (y : TargetView). y.live) is ∙ kept.live }

pub transfer_brings : {T : Type 0} (accepts : Accepts) (v w : TargetView) (from to : ℕ) (p : PacketView) (news : NewsView) (posts : List DatagramView) (old : DiskState) (after : Store) (new : DiskState) (c : TargetContents) (r : Result T Down) → w ≡ end_with v w.end
    → Makes sides.Target (transfer_moves v.end from to p) v.end w.end posts → news ≡ news_by (heard_answer v.end from to p)
    → BringsContents old after new c (contents_changed c (change_heard accepts w w.live news)) r → BringsContents old after new c (contents_changed c (Target.transfer_decision accepts v v.live from to p).change) r
transfer_brings accepts v w from to p news posts old after new c r is makes n brings =
    let keeps = subst (λ (x : EndView). KeepsPorts v.end x) (sym makes.keeps) (transfer_keeps sides.Target v.end from to p) in
    let same : change_heard accepts w w.live news ≡ (Target.transfer_decision accepts v v.live from to p).change =
    ap (λ (y : TargetView). change_heard accepts y y.live news) is ∙ transfer_change accepts v w.end from to p news v.live keeps n in
    same_heard old after new c _ _ r same brings

-- ---- a datagram

pub got_request : (accepts : Accepts) (v : TargetView) (from to : ℕ) (found : Option PacketView) (p : PacketView) → found ≡ Some p → (to == 59) ≡ true → request_decision v from p ≡ Target.got_decision accepts v from to found
got_request accepts v from to found p is port = rw (is, port) refl

pub got_transfer : (accepts : Accepts) (v : TargetView) (from to : ℕ) (found : Option PacketView) (p : PacketView) → found ≡ Some p → (to == 59) ≡ false
    → Target.transfer_decision accepts v v.live from to p ≡ Target.got_decision accepts v from to found
got_transfer accepts v from to found p is port = rw (is, port) refl

pub got_nothing : (accepts : Accepts) (v : TargetView) (from to : ℕ) (found : Option PacketView) → found ≡ None → Target.Continues [] ≡ (Target.got_decision accepts v from to found).change
got_nothing accepts v from to found is = rw is refl

-- what came is dropped
pub drops : {T : Type 0} (store : Store) (disk : DiskState) (c : TargetContents) (x : T) → HoldsContents store disk c → BringsContents {E = Down} disk store disk c (contents_changed c (Target.Continues [])) (Ok x)
drops store disk c x holds = record { adds = adds_nothing disk _ _; ok = quiet_contents store disk c.active c.live holds }
