-- Proofs that completed information sessions list what was active.
use Rattle.std.proofs.Common.{◌≡◌, inl, inr, ℕ, suc, true, false, cond, List, [], ◌∷◌, ◌++◌, length, ◌⊎◌, ◌↔◌, Option, Some, None, Ok, refl, sym, ap, subst, ◌∙◌, append_assoc, length-append, arith}
use Rattle.std.specs.Prelude.{bytes_eq}
use Rattle.std.proofs.lemmas.List.{append_cancel_left}
use Rattle.field_grammar.specs.Answers.{answer}
use Rattle.field_grammar.proofs.ExactLemmas.{answer-spelled, spelled_at_start}
use Rattle.field_grammar.specs.Fields.{number_bytes}
use Rattle.field_grammar.specs.Grammar.{IsBytes, Spelled}
use Rattle.load_protocol_files.specs.Lcl.{LclSpells, LclView, lcl}
use Rattle.load_base.specs.Bytes.{AllGood}
use Rattle.load_base.specs.Name.{IsName, is_name_byte}
use Rattle.tftp_packet.specs.declared.options.Options.{Options}
use Rattle.tftp_packet.specs.Options.{ended_text}
use Rattle.tftp_packet.specs.Packets.{PacketSpells, Wrq, packet_bytes}
use Rattle.exchange_trace.specs.declared.trace.Side.TheVariants as sides
use Rattle.exchange_trace.specs.declared.trace.Side.{Side}
use Rattle.exchange_trace.specs.Happenings.{Booted, DatagramView, Delivered, Ended, HappeningView, Info_started, Injected, Lost, Power_cut, Size_told, Ticked, Upload_started, is_same_side}
use Rattle.exchange_trace.specs.Logs.{Event, Learns, event_for, gets}
use Rattle.exchange_trace.specs.Posts.{posted_in}
use Rattle.exchange_trace.specs.Steps.{Boot_refused, Came_up, Note, Step, Went_down}
use Rattle.transfer_end.specs.Moves.{past_with, readings_after}
use Rattle.transfer_end.specs.OtherEnds.{Among, TellsLength, file_sent, is_asking, is_receiving, request_taken}
use Rattle.transfer_end.specs.Packets.{packet_in}
use Rattle.transfer_end.proofs.SentPacketLemmas.{read_is_spelled}
use Rattle.transfer_end.specs.Readings.{Reading}
use Rattle.transfer_end.specs.Transfers.{Reads, Role, ServesRead, ServesWrite, Transfer, Writes, first_packet}
use Rattle.accept_rules.specs.Permissions.{Accepts}
use Rattle.session_rules.specs.declared.outcome.FileKind.{FileKind}
use Rattle.session_rules.specs.declared.outcome.FileKind.TheVariants as kinds
use Rattle.session_rules.specs.FileNames.{extension, file_name}
use Rattle.session_rules.specs.Lists.{ListIsAsked}
use Rattle.session_rules.specs.LoaderLog.{newest}
use Rattle.session_rules.specs.LoaderRoles.{TakesFile}
use Rattle.session_rules.specs.Target.{Begins, Continues, Ends, TargetChange, Turns, Turns_without_port, target_decision}
use Rattle.session_rules.proofs.TargetLemmas.{identity_stays}
use Rattle.session_rules.specs.TargetRows.{WholeRow, Writes_lcl}
use Rattle.session_rules.specs.TargetLog.{TargetReading, TargetSessionLog, log_turned, reading_turned, reading_without_port, target_extended, target_reading_changed, target_view}
use Rattle.replay_rules.specs.BothEnds.{Is_down, Is_up, Setting, TargetStanding, come_up, gone_down, noted, reached, target_at}
use Rattle.replay_rules.proofs.ChangeLemmas.{HasTarget, noted_target}
use Rattle.replay_rules.specs.Histories.{active_at}
use Rattle.replay_rules.specs.ListTraces.{AllCanBeListed, CanBeListed, OwnFilesAreNamed}
use Rattle.replay_rules.specs.OtherEndTraces.{transfers_of}
use Rattle.replay_rules.specs.Promises.{ListIsDue, SessionWritesList, WritesList}

-- ---- the target stays the same

changed_identity : (accepts : Accepts) (end : Reading) (r : TargetReading) (live : Option TargetSessionLog) (change : TargetChange) → r.live ≡ live → (target_reading_changed accepts end r change).active.identity ≡ r.active.identity
changed_identity accepts end r live (Continues more) is = refl
changed_identity accepts end r live (Begins kind) is = identity_stays r.active _
changed_identity accepts end r None (Turns move more) is = ap (λ (l : Option TargetSessionLog). (log_turned accepts reading_turned end r l).active.identity) is
changed_identity accepts end r (Some s) (Turns move more) is = ap (λ (l : Option TargetSessionLog). (log_turned accepts reading_turned end r l).active.identity) is ∙ identity_stays r.active _
changed_identity accepts end r None (Turns_without_port move more) is = ap (λ (l : Option TargetSessionLog). (log_turned accepts reading_without_port end r l).active.identity) is
changed_identity accepts end r (Some s) (Turns_without_port move more) is = ap (λ (l : Option TargetSessionLog). (log_turned accepts reading_without_port end r l).active.identity) is ∙ identity_stays r.active _
changed_identity accepts end r live (Ends reason) is = refl

reached_target : (set : Setting) (e : Option Event) (state : TargetStanding) → HasTarget set state → HasTarget set (reached set e state)
reached_target set None (Is_up r) is = is
reached_target set (Some e) (Is_up r) is =
    let d = target_decision set.accepts (target_view r) e in
    changed_identity set.accepts (readings_after sides.Target r.end d.moves) r r.live d.change refl ∙ is
reached_target set None (Is_down active interrupted) is = is
reached_target set (Some e) (Is_down active interrupted) is = is

pub same_target : (set : Setting) (steps : List Step) → HasTarget set (target_at set steps)
same_target set [] = refl
same_target set (s ∷ earlier) =
    noted_target set s.notes (target_at set earlier) _ (same_target set earlier) (reached_target set (event_for sides.Target (posted_in earlier) s.given) (target_at set earlier) (same_target set earlier))

-- ---- lives

gone_none : (before after : TargetStanding) → transfers_of (gone_down before after) ≡ []
gone_none (Is_up r) (Is_up s) = refl
gone_none (Is_up r) (Is_down active interrupted) = refl
gone_none (Is_down active interrupted) after = refl

come_none : (first_port sequence : ℕ) (state : TargetStanding) → transfers_of state ≡ [] → transfers_of (come_up first_port sequence state) ≡ []
come_none first_port sequence (Is_up r) none = none
come_none first_port sequence (Is_down active interrupted) none = refl

noted_none : (notes : List Note) (before after : TargetStanding) → transfers_of after ≡ [] → transfers_of (noted notes before after) ≡ []
noted_none [] before after none = none
noted_none (Went_down ∷ notes) before after none = noted_none notes (gone_down before after) (gone_down before after) (gone_none before after)
noted_none (Came_up first_port sequence ∷ notes) before after none =
    let up = come_up first_port sequence (gone_down before after) in noted_none notes up up (come_none first_port sequence (gone_down before after) (gone_none before after))
noted_none (Boot_refused fault ∷ notes) before after none = noted_none notes (gone_down before after) (gone_down before after) (gone_none before after)

pub one_noted : (note : Note) (notes : List Note) (before after : TargetStanding) → transfers_of (noted (note ∷ notes) before after) ≡ []
one_noted Went_down notes before after = noted_none notes (gone_down before after) (gone_down before after) (gone_none before after)
one_noted (Came_up first_port sequence) notes before after =
    let up = come_up first_port sequence (gone_down before after) in noted_none notes up up (come_none first_port sequence (gone_down before after) (gone_none before after))
one_noted (Boot_refused fault) notes before after = noted_none notes (gone_down before after) (gone_down before after) (gone_none before after)

-- ---- what the target writes

-- the list is due once it is asked for
pub list_due : (set : Setting) (r : TargetReading) (e : Event) (file : List ℕ) → ListIsAsked set.accepts r e file → ListIsDue (Is_up (target_extended set.accepts r e))
list_due set r e file h =
    subst (λ (live : Option TargetSessionLog). SessionWritesList live) (sym h.live) (subst WritesList (sym h.row) tt)

list_row : (row : WholeRow) → WritesList row → row ≡ Writes_lcl
list_row Writes_lcl due = refl
list_row row due = absurd due

-- and not before
pub not_due : (accepts : Accepts) (r : TargetReading) (e : Event) (file : List ℕ) → ListIsAsked accepts r e file → ListIsDue (Is_up r) → ⊥
not_due accepts r e file h due = by r.live refl due
  where
    by : (live : Option TargetSessionLog) → r.live ≡ live → SessionWritesList live → ⊥
    by None is due = absurd due
    by (Some s) is due = h.newly s is (list_row s.row due)

-- ---- names

ends_same : (xs ys a b : List ℕ) → length a ≡ length b → xs ++ a ≡ ys ++ b → a ≡ b
ends_same [] [] a b size e = e
ends_same [] (y ∷ ys) a b size e = let long : length a ≡ length (y ∷ ys ++ b) = ap length e in let sum = length-append (y ∷ ys) b in absurd (omega (arith, size, long, sum))
ends_same (x ∷ xs) [] a b size e = let long : length (x ∷ xs ++ a) ≡ length b = ap length e in let sum = length-append (x ∷ xs) a in absurd (omega (arith, size, long, sum))
ends_same (x ∷ xs) (y ∷ ys) a b size e = let rest : xs ++ a ≡ ys ++ b = cc in ends_same xs ys a b size rest

four_bytes : (kind : FileKind) → length (extension kind) ≡ 4
four_bytes kinds.Lci = refl
four_bytes kinds.Lcl = refl
four_bytes kinds.Lcs = refl
four_bytes kinds.Lui = refl
four_bytes kinds.Lur = refl
four_bytes kinds.Lus = refl

pub false_is_true : false ≡ true → ⊥
false_is_true e = cc

-- the kind of file of which a name ends so
abbrev kind_of : List ℕ → FileKind
kind_of x =
    cond (bytes_eq x (extension kinds.Lci)) kinds.Lci (cond (bytes_eq x (extension kinds.Lcl)) kinds.Lcl (cond (bytes_eq x (extension kinds.Lcs)) kinds.Lcs
    (cond (bytes_eq x (extension kinds.Lui)) kinds.Lui (cond (bytes_eq x (extension kinds.Lur)) kinds.Lur kinds.Lus))))

kind_again : (kind : FileKind) → kind_of (extension kind) ≡ kind
kind_again kinds.Lci = refl
kind_again kinds.Lcl = refl
kind_again kinds.Lcs = refl
kind_again kinds.Lui = refl
kind_again kinds.Lur = refl
kind_again kinds.Lus = refl

name_ends : (hw pos : List ℕ) (kind : FileKind) → file_name hw pos kind ≡ (hw ++ 95 ∷ pos) ++ extension kind
unfolding file_name
name_ends hw pos kind = refl

same_kind : (hw pos one two : List ℕ) (kind other : FileKind) → file_name hw pos kind ≡ file_name one two other → kind ≡ other
same_kind hw pos one two kind other e =
    let size : length (extension kind) ≡ length (extension other) = four_bytes kind ∙ sym (four_bytes other) in
    let same : extension kind ≡ extension other = ends_same (hw ++ 95 ∷ pos) (one ++ 95 ∷ two) (extension kind) (extension other) size (sym (name_ends hw pos kind) ∙ e ∙ name_ends one two other) in
    sym (kind_again kind) ∙ ap kind_of same ∙ kind_again other

-- a name has no zero, so that it stands before the first one
no_zero_at_0 : (b : ℕ) (bytes : List ℕ) → AllGood is_name_byte (b ∷ bytes) → b ≡ 0 → ⊥
no_zero_at_0 b bytes good e = never (subst (λ (x : ℕ). is_name_byte x ≡ true) e (good 0 (omega arith)))
  where
    never : false ≡ true → ⊥
    never f = cc

later_good : (b : ℕ) (bytes : List ℕ) → AllGood is_name_byte (b ∷ bytes) → AllGood is_name_byte bytes
later_good b bytes good = λ k less. good (suc k) (omega (arith, less))

pub before_zero_same : (a b x y : List ℕ) → AllGood is_name_byte a → AllGood is_name_byte b → a ++ 0 ∷ x ≡ b ++ 0 ∷ y → a ≡ b
before_zero_same [] [] x y good other e = refl
before_zero_same [] (c ∷ b) x y good other e = let same : c ≡ 0 = cc in absurd (no_zero_at_0 c b other same)
before_zero_same (c ∷ a) [] x y good other e = let same : c ≡ 0 = cc in absurd (no_zero_at_0 c a good same)
before_zero_same (c ∷ a) (d ∷ b) x y good other e =
    let first : c ≡ d = cc in
    let rest : a ++ 0 ∷ x ≡ b ++ 0 ∷ y = cc in
    ap (λ (h : ℕ). h ∷ a) first ∙ ap (λ (t : List ℕ). d ∷ t) (before_zero_same a b x y (later_good c a good) (later_good d b other) rest)

-- a request that is read from what was written has the name that was written
written_name_is_read : (name uname : List ℕ) (asked o : Options) → IsName uname → PacketSpells (Wrq name asked) (packet_bytes (Wrq uname o)) → name ≡ uname
written_name_is_read name uname asked o named spells =
    let same : number_bytes 2 2 ++ (ended_text uname ++ _) ≡ number_bytes 2 2 ++ (ended_text name ++ _) = spells.parts in
    let rest = append_cancel_left (number_bytes 2 2) _ _ same in
    sym (before_zero_same uname name _ _ named.good spells.is_name.good (sym (append_assoc uname (0 ∷ []) _) ∙ rest ∙ append_assoc name (0 ∷ []) _))

-- ---- the list that arrives

-- a spelled list is read (`protocol_file_laws` of load_protocol_files)
abbrev pub ListsAreRead : Type 0
ListsAreRead = (v : LclView) (bytes : List ℕ) → LclSpells v bytes → answer lcl bytes ≡ Ok v

pub lists_are_read : ((bytes : List ℕ) (v : LclView) → Spelled lcl bytes v ↔ LclSpells v bytes) → ListsAreRead
lists_are_read spells v bytes is = answer-spelled lcl bytes v (spelled_at_start lcl bytes v ((spells bytes v).1 is))

pub takes_receives : (wanted : List ℕ) (role : Role) → TakesFile wanted role → (is_receiving role ≡ true) × (is_asking role ≡ false)
takes_receives wanted (ServesWrite name o) takes = (refl, refl)
takes_receives wanted (ServesRead name o file) takes = absurd takes
takes_receives wanted (Reads name o) takes = absurd takes
takes_receives wanted (Writes name o file) takes = absurd takes

-- a file that is asked to be written is one of the target's own, and this holds of it and of its kind
abbrev pub IsNamedAs : Setting → (FileKind → List ℕ → Type 0) → Role → Type 0
IsNamedAs set Is (Writes name options file) = (kind : FileKind) × (name ≡ file_name set.start.identity.hw set.start.identity.pos kind) × Is kind file
IsNamedAs set Is role = Unit {0}

some_file : (a b : List ℕ) → Some a ≡ Some b → a ≡ b
some_file a b e = cc

-- the file that the target wrote under the name that the loader took is of that kind
pub written_kind : (set : Setting) (Is : FileKind → List ℕ → Type 0) (wanted : FileKind) (one two : List ℕ) (role urole : Role) (file : List ℕ) → OwnFilesAreNamed set → TakesFile (file_name one two wanted) role → is_asking urole ≡ true → file_sent urole ≡ Some file
    → packet_in (packet_bytes (first_packet urole)) ≡ request_taken role → IsBytes (packet_bytes (first_packet urole)) → IsNamedAs set Is urole → TellsLength urole × Is wanted file
written_kind set Is wanted one two (ServesWrite name asked) (Writes uname o f) file named takes asks sent request fit (kind, is, holds) =
    let same : name ≡ uname = written_name_is_read name uname asked _ (subst IsName (sym is) (named kind)) (read_is_spelled (packet_bytes (first_packet (Writes uname o f))) (Wrq name asked) fit request) in
    let one_kind : kind ≡ wanted = same_kind set.start.identity.hw set.start.identity.pos one two kind wanted (sym is ∙ sym same ∙ takes) in
    (tt, subst (λ (k : FileKind). Is k file) one_kind (subst (λ (x : List ℕ). Is kind x) (some_file f file sent) holds))
written_kind set Is wanted one two (ServesWrite name asked) (Reads uname o) file named takes asks sent request fit h = absurd cc
written_kind set Is wanted one two (ServesWrite name asked) (ServesRead uname o f) file named takes asks sent request fit h = absurd cc
written_kind set Is wanted one two (ServesWrite name asked) (ServesWrite uname o) file named takes asks sent request fit h = absurd cc
written_kind set Is wanted one two (ServesRead name o f) urole file named takes asks sent request fit h = absurd takes
written_kind set Is wanted one two (Reads name o) urole file named takes asks sent request fit h = absurd takes
written_kind set Is wanted one two (Writes name o f) urole file named takes asks sent request fit h = absurd takes

-- a list is due so
abbrev pub IsWrittenAs : Setting → (List ℕ → Type 0) → Role → Type 0
IsWrittenAs set Due role = IsNamedAs set (λ (kind : FileKind) (file : List ℕ). kind ≡ kinds.Lcl → Due file) role

-- ---- the step that completes a session

-- what reaches the loader alone
pub only_loader : (posted : List DatagramView) (h : HappeningView) (e : Event) → event_for sides.Loader posted h ≡ Some e → (event_for sides.Target posted h ≡ None) ⊎ ((size : Option ℕ) × (e ≡ Learns size))
only_loader posted (Delivered to n) e is = by to is
  where
    by : (to : Side) → event_for sides.Loader posted (Delivered to n) ≡ Some e → (event_for sides.Target posted (Delivered to n) ≡ None) ⊎ ((size : Option ℕ) × (e ≡ Learns size))
    by sides.Loader is = inl refl
    by sides.Target is = absurd cc
only_loader posted (Injected d) e is = by d.side is
  where
    by : (side : Side) → cond (is_same_side sides.Loader side) None (gets (Some d)) ≡ Some e → (cond (is_same_side sides.Target side) None (gets (Some d)) ≡ None) ⊎ ((size : Option ℕ) × (e ≡ Learns size))
    by sides.Loader is = absurd cc
    by sides.Target is = inl refl
only_loader posted (Ticked whose) e is = by whose is
  where
    by : (whose : Side) → event_for sides.Loader posted (Ticked whose) ≡ Some e → (event_for sides.Target posted (Ticked whose) ≡ None) ⊎ ((size : Option ℕ) × (e ≡ Learns size))
    by sides.Loader is = inl refl
    by sides.Target is = absurd cc
only_loader posted (Size_told size) e is = inr (size, let same : Learns size ≡ e = cc in sym same)
only_loader posted (Info_started hw pos) e is = inl refl
only_loader posted (Upload_started hw pos parts) e is = inl refl
only_loader posted (Lost n) e is = inl refl
only_loader posted (Power_cut calls pick) e is = inl refl
only_loader posted Booted e is = inl refl
only_loader posted Ended e is = inl refl

pub reached_none : (set : Setting) (state : TargetStanding) → reached set None state ≡ state
reached_none set (Is_up r) = refl
reached_none set (Is_down active interrupted) = refl

pub among_past : (live : Option Transfer) (past : List Transfer) (t : Transfer) → newest past ≡ t ∷ [] → Among t (past_with live past)
among_past None [] t e = absurd cc
among_past (Some x) [] t e = absurd cc
among_past None (y ∷ past) t e = let same : y ≡ t = cc in inl same
among_past (Some x) (y ∷ past) t e = let same : y ≡ t = cc in inr (inl same)

pub can_be_listed : (set : Setting) (since : List Step) (made : Step) (before : List Step) → AllCanBeListed set (since ++ made ∷ before) → CanBeListed (active_at set before)
can_be_listed set [] made [] (now, all) = all
can_be_listed set [] made (s ∷ before) (now, all) = all.0
can_be_listed set (s ∷ since) made before (now, all) = can_be_listed set since made before all
