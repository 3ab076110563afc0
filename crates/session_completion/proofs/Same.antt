-- But for ticks, both ends do the same whatever their retries are.
use Rattle.std.proofs.Common.{◌≡◌, ℕ, Bool, true, false, cond, List, [], ◌∷◌, ◌++◌, Option, Some, None, Result, Ok, Err, refl, ap, ◌∙◌}
use Rattle.std.specs.Prelude.{length, nat_lt, bytes_eq, ◌==◌}
use Rattle.exchange_trace.specs.declared.trace.Side.TheVariants as sides
use Rattle.exchange_trace.specs.Logs.{Event, Starts_info, Starts_upload, Gets, Ticks, Learns}
use Rattle.load_protocol_files.specs.declared.lur.Wanted.{Wanted}
use Rattle.tftp_packet.specs.declared.options.Options.{Options}
use Rattle.tftp_packet.specs.Packets.{PacketView, Rrq, Wrq, Data, Ack, Error, Oack}
use Rattle.tftp_link.specs.Answers.{Answer, Dropped, Again, Grants, TakesBlock, TakesLast, Proceeds, Completes, Fails}
use Rattle.transfer_end.specs.Transfers.{Role}
use Rattle.transfer_end.specs.Views.{EndView}
use Rattle.transfer_end.specs.Moves.{Move, Hears, Recalls, Asks, Stops, views_after, all_posts}
use Rattle.transfer_end.specs.Packets.{packet_in, belongs, heard_answer, transfer_moves, is_busy, is_fresh, has_port}
use Rattle.accept_rules.specs.Permissions.{Accepts}
use Rattle.session_rules.specs.declared.outcome.FileKind.{FileKind}
use Rattle.session_rules.specs.declared.outcome.FileKind.TheVariants.{Lci, Lui, Lur}
use Rattle.session_rules.specs.declared.outcome.SessionKind.TheVariants.{Info, Upload}
use Rattle.session_rules.specs.Buffers.{buffered_more}
use Rattle.session_rules.specs.FileNames.{file_name}
use Rattle.session_rules.specs.Loader as loader
use Rattle.session_rules.specs.Loader.{LoaderView, LoaderSession, Start, LoaderDecision, LoaderChange, loader_decision, loader_changed}
use Rattle.session_rules.specs.LoaderRows.{RowTurn, Goes_on, Comes_to, kind_taken, serves_files, first_row, row_after, file_turn}
use Rattle.session_rules.specs.MediaFiles.{Media, wanted_of}
use Rattle.session_rules.specs.TargetRows.{RowView, RowMove, row_move, view_moved, with_bytes, Awaits_lur, Gives_lci, Writes_lcs, Writes_lcl, Gives_lui, Gives_denial, Writes_ready, Reads_file, Writes_progress, Writes_stop, Writes_completion, Over}
use Rattle.session_rules.specs.Target as target
use Rattle.session_rules.specs.Target.{TargetView, TargetSession, TargetDecision, TargetChange, target_decision, target_changed}
use Rattle.transfer_completion.specs.Retries.{with_retries, IsNoRepeat, NoTicks}
use Rattle.transfer_completion.proofs.RetryLemmas.{moves_do_the_same}
use Rattle.session_completion.specs.Retries.{IsNoTicking, loader_retries, target_retries, LoaderDoesTheSame, TargetDoesTheSame}
use Rattle.session_completion.specs.Worlds.{retried_loader, retried_target}

if_no : (b : Bool) (d e : LoaderDecision) → NoTicks d.moves → NoTicks e.moves → NoTicks (cond b d e).moves
if_no true d e x y = x
if_no false d e x y = y

more_no : (ms : List Move) (m : Move) → NoTicks ms → IsNoRepeat m → NoTicks (ms ++ m ∷ [])
more_no [] m k j = (j, tt)
more_no (n ∷ ms) m k j = (k.0, more_no ms m k.1 j)

heard_no : (b c : Bool) (from : ℕ) (p : PacketView) → NoTicks (cond b (Hears from p ∷ []) (cond c (Recalls from p ∷ []) []))
heard_no true c from p = (tt, tt)
heard_no false true from p = (tt, tt)
heard_no false false from p = tt

transfer_no : (v : EndView) (from to : ℕ) (p : PacketView) → NoTicks (transfer_moves v from to p)
transfer_no v from to p = heard_no (belongs v.live from to) (belongs v.kept from to) from p

-- ---- the loader

loader_decides : (media : Media) (v : LoaderView) (n : ℕ) (e : Event) → IsNoTicking e → loader_decision media (retried_loader v n) e ≡ loader_decision media v e
loader_decides media v n (Starts_info hw pos) k = refl
loader_decides media v n (Starts_upload hw pos parts) k = refl
loader_decides media v n (Gets from to bytes) k = refl
loader_decides media v n Ticks k = absurd k
loader_decides media v n (Learns size) k = refl

begins_no : (v : EndView) (s : Start) (role : Option Role) → NoTicks (loader.begin_with v s role).moves
begins_no v s None = tt
begins_no v s (Some role) = if_no (has_port v) _ _ (tt, (tt, tt)) (tt, tt)

wanted_no : (v : EndView) (hw pos : List ℕ) (found : Result (List Wanted) (List ℕ)) → NoTicks (loader.listed_upload v hw pos found).moves
wanted_no v hw pos (Ok loads) = let s : Start = record { kind = Upload; hw = hw; pos = pos; loads = loads } in begins_no v s (loader.row_request v.asks_size s (first_row Upload))
wanted_no v hw pos (Err part) = (tt, tt)

take_no : (v : EndView) (from : ℕ) (role : Role) → NoTicks (loader.take_request v from role).moves
take_no v from role = if_no (is_fresh v from) _ _ (if_no (has_port v) _ _ (tt, tt) (tt, tt)) tt

read_no : (v : EndView) (from : ℕ) (name : List ℕ) (o : Options) (found : Option (List ℕ)) → NoTicks (loader.read_decision v from name o found).moves
read_no v from name o None = (tt, tt)
read_no v from name o (Some file) = take_no v from _

write_no : (v : EndView) (s : Start) (from : ℕ) (name : List ℕ) (o : Options) (kind : Option FileKind) → NoTicks (loader.write_decision v s from name o kind).moves
write_no v s from name o None = tt
write_no v s from name o (Some kind) = if_no (bytes_eq name (file_name s.hw s.pos kind)) _ _ (take_no v from _) tt

request_no : (media : Media) (v : EndView) (s : LoaderSession) (from : ℕ) (p : PacketView) → NoTicks (loader.request_decision media v s from p).moves
request_no media v s from (Rrq name o) = if_no (serves_files s.row) _ _ (read_no v from name o (media.file name)) tt
request_no media v s from (Wrq name o) = write_no v s.start from name o (kind_taken s.row)
request_no media v s from (Data k b) = tt
request_no media v s from (Ack k) = tt
request_no media v s from (Error code m) = tt
request_no media v s from (Oack o) = tt

next_no : (v : EndView) (ms : List Move) (last : List ℕ) (role : Option Role) → NoTicks ms → NoTicks (loader.next_decision v ms last role).moves
next_no v ms last None k = k
next_no v ms last (Some role) k = if_no (has_port v) _ _ (more_no ms (Asks role) k tt) (more_no ms Stops k tt)

turn_no : (v : EndView) (s : LoaderSession) (ms : List Move) (last : List ℕ) (t : RowTurn) → NoTicks ms → NoTicks (loader.turn_decision v s ms last t).moves
turn_no v s ms last Goes_on k = next_no v ms last (loader.row_request v.asks_size s.start (row_after s.row)) k
turn_no v s ms last (Comes_to outcome) k = more_no ms Stops k tt

answer_no : (v : EndView) (s : LoaderSession) (ms : List Move) (a : Answer) → NoTicks ms → NoTicks (loader.answer_decision v s ms a).moves
answer_no v s ms Dropped k = k
answer_no v s ms Again k = k
answer_no v s ms (Grants o) k = k
answer_no v s ms (TakesBlock b) k = k
answer_no v s ms (TakesLast b) k = turn_no v s ms b (file_turn s.row (buffered_more s.arriving b)) k
answer_no v s ms Proceeds k = k
answer_no v s ms Completes k = turn_no v s ms [] Goes_on k
answer_no v s ms (Fails code) k = more_no ms Stops k tt

session_no : (media : Media) (v : EndView) (live : Option LoaderSession) (from to : ℕ) (p : PacketView) → NoTicks (loader.session_decision media v live from to p).moves
session_no media v None from to p = if_no (to == 59) loader.nothing (loader.doing (transfer_moves v from to p)) tt (transfer_no v from to p)
session_no media v (Some s) from to p =
    if_no (to == 59) (cond (is_busy v) loader.nothing (loader.request_decision media v s from p)) (loader.answer_decision v s (transfer_moves v from to p) (heard_answer v from to p))
    (if_no (is_busy v) loader.nothing (loader.request_decision media v s from p) tt (request_no media v s from p))
    (answer_no v s (transfer_moves v from to p) (heard_answer v from to p) (transfer_no v from to p))

got_no : (media : Media) (v : LoaderView) (from to : ℕ) (p : Option PacketView) → NoTicks (loader.got_decision media v from to p).moves
got_no media v from to None = tt
got_no media v from to (Some p) = session_no media v.end v.live from to p

loader_no : (media : Media) (v : LoaderView) (e : Event) → IsNoTicking e → NoTicks (loader_decision media v e).moves
loader_no media v (Starts_info hw pos) k = let s : Start = record { kind = Info; hw = hw; pos = pos; loads = [] } in begins_no v.end s (loader.row_request v.end.asks_size s (first_row Info))
loader_no media v (Starts_upload hw pos parts) k = if_no (nat_lt 32 (length parts)) _ _ (tt, tt) (wanted_no v.end hw pos (wanted_of media.loads parts))
loader_no media v (Gets from to bytes) k = got_no media v from to (packet_in bytes)
loader_no media v Ticks k = absurd k
loader_no media v (Learns size) k = (tt, tt)

change_same : (end : EndView) (r : ℕ) (v : LoaderView) (n : ℕ) (c : LoaderChange) → loader_changed (with_retries end r) (retried_loader v n) c ≡ retried_loader (loader_changed end v c) r
change_same end r v n (loader.Continues more) = refl
change_same end r v n loader.Advances = refl
change_same end r v n (loader.Ends outcome last) = refl
change_same end r v n (loader.Begins s) = refl
change_same end r v n (loader.Begins_over kind outcome) = refl

pub loader_does_the_same : LoaderDoesTheSame
loader_does_the_same media v n e k =
    let d = loader_decision media v e in
    let same = loader_decides media v n e k in
    let (moves, posts) = moves_do_the_same sides.Loader v.end n d.moves (loader_no media v e k) in (
      ap (λ (x : LoaderDecision). loader_changed (views_after sides.Loader (with_retries v.end n) x.moves) (retried_loader v n) x.change) same
          ∙ ap (λ (x : EndView). loader_changed x (retried_loader v n) d.change) moves
          ∙ change_same (views_after sides.Loader v.end d.moves) (loader_retries media v e n) v n d.change,
      ap (λ (x : LoaderDecision). all_posts sides.Loader (with_retries v.end n) x.moves) same ∙ posts,
    )

-- ---- the target

if_not : (b : Bool) (d e : TargetDecision) → NoTicks d.moves → NoTicks e.moves → NoTicks (cond b d e).moves
if_not true d e x y = x
if_not false d e x y = y

target_decides : (accepts : Accepts) (v : TargetView) (n : ℕ) (e : Event) → IsNoTicking e → target_decision accepts (retried_target v n) e ≡ target_decision accepts v e
target_decides accepts v n (Starts_info hw pos) k = refl
target_decides accepts v n (Starts_upload hw pos parts) k = refl
target_decides accepts v n (Gets from to bytes) k = refl
target_decides accepts v n Ticks k = absurd k
target_decides accepts v n (Learns size) k = refl

spends_no : (live : Option TargetSession) → NoTicks (target.without_port live).moves
spends_no None = tt
spends_no (Some s) = (tt, tt)

own_no : (v : TargetView) (from : ℕ) (kind : FileKind) (name : List ℕ) (o : Options) → NoTicks (target.own_decision v from kind name o).moves
own_no v from kind name o = if_not (is_fresh v.end from) _ _ (if_not (has_port v.end) _ _ (tt, (tt, tt)) (spends_no v.live)) tt

reads_no : (v : TargetView) (from : ℕ) (name : List ℕ) (o : Options) → NoTicks (target.read_decision v from name o).moves
reads_no v from name o =
    if_not (bytes_eq name (target.own_name v Lci)) _ _ (own_no v from Lci name o)
    (if_not (bytes_eq name (target.own_name v Lui)) _ _ (own_no v from Lui name o) (if_not (is_busy v.end) _ _ tt (tt, tt)))

writes_no : (v : TargetView) (from : ℕ) (name : List ℕ) (o : Options) (row : RowView) → NoTicks (target.write_in v from name o row).moves
writes_no v from name o Awaits_lur =
    if_not (bytes_eq name (target.own_name v Lur)) _ _ (if_not (is_fresh v.end from) _ _ (if_not (has_port v.end) _ _ (tt, tt) (spends_no v.live)) tt) tt
writes_no v from name o Gives_lci = tt
writes_no v from name o Writes_lcs = tt
writes_no v from name o Writes_lcl = tt
writes_no v from name o Gives_lui = tt
writes_no v from name o Gives_denial = tt
writes_no v from name o Writes_ready = tt
writes_no v from name o (Reads_file u) = tt
writes_no v from name o (Writes_progress u) = tt
writes_no v from name o (Writes_stop e) = tt
writes_no v from name o (Writes_completion e loads) = tt
writes_no v from name o Over = tt

written_no : (v : TargetView) (from : ℕ) (name : List ℕ) (o : Options) (live : Option TargetSession) → NoTicks (target.write_decision v from name o live).moves
written_no v from name o None = tt
written_no v from name o (Some s) = writes_no v from name o s.row

asked_no : (v : TargetView) (from : ℕ) (p : PacketView) → NoTicks (target.request_decision v from p).moves
asked_no v from (Rrq name o) = reads_no v from name o
asked_no v from (Wrq name o) = if_not (is_busy v.end) _ _ tt (written_no v from name o v.live)
asked_no v from (Data k b) = tt
asked_no v from (Ack k) = tt
asked_no v from (Error code m) = tt
asked_no v from (Oack o) = tt

nexts_no : (v : EndView) (ms : List Move) (last : List ℕ) (m : RowMove) (row : RowView) (role : Option Role) → NoTicks ms → NoTicks (target.next_decision v ms last m row role).moves
nexts_no v ms last m row (Some role) k = if_not (has_port v) _ _ (more_no ms (Asks role) k tt) (more_no ms Stops k tt)
nexts_no v ms last m row None k = if_not (target.is_over row) _ _ (more_no ms Stops k tt) k

turned_no : (accepts : Accepts) (v : TargetView) (s : TargetSession) (ms : List Move) (last : List ℕ) (error : Option ℕ) → NoTicks ms → NoTicks (target.turn_decision accepts v s ms last error).moves
turned_no accepts v s ms last error k =
    let move = row_move accepts v.active s.row (record { error = error; arriving = with_bytes s.arriving last }) in
    nexts_no v.end ms last move (view_moved s.row (with_bytes s.arriving last) move) (target.row_request v (view_moved s.row (with_bytes s.arriving last) move)) k

answers_no : (accepts : Accepts) (v : TargetView) (s : TargetSession) (ms : List Move) (a : Answer) → NoTicks ms → NoTicks (target.answer_decision accepts v s ms a).moves
answers_no accepts v s ms Dropped k = k
answers_no accepts v s ms Again k = k
answers_no accepts v s ms (Grants o) k = k
answers_no accepts v s ms (TakesBlock b) k = k
answers_no accepts v s ms (TakesLast b) k = turned_no accepts v s ms b None k
answers_no accepts v s ms Proceeds k = k
answers_no accepts v s ms Completes k = turned_no accepts v s ms [] None k
answers_no accepts v s ms (Fails code) k = turned_no accepts v s ms [] (Some code) k

transfers_no : (accepts : Accepts) (v : TargetView) (live : Option TargetSession) (from to : ℕ) (p : PacketView) → NoTicks (target.transfer_decision accepts v live from to p).moves
transfers_no accepts v None from to p = transfer_no v.end from to p
transfers_no accepts v (Some s) from to p = answers_no accepts v s (transfer_moves v.end from to p) (heard_answer v.end from to p) (transfer_no v.end from to p)

gets_no : (accepts : Accepts) (v : TargetView) (from to : ℕ) (p : Option PacketView) → NoTicks (target.got_decision accepts v from to p).moves
gets_no accepts v from to None = tt
gets_no accepts v from to (Some p) = if_not (to == 59) (target.request_decision v from p) (target.transfer_decision accepts v v.live from to p) (asked_no v from p) (transfers_no accepts v v.live from to p)

target_no : (accepts : Accepts) (v : TargetView) (e : Event) → IsNoTicking e → NoTicks (target_decision accepts v e).moves
target_no accepts v (Starts_info hw pos) k = tt
target_no accepts v (Starts_upload hw pos parts) k = tt
target_no accepts v (Gets from to bytes) k = gets_no accepts v from to (packet_in bytes)
target_no accepts v Ticks k = absurd k
target_no accepts v (Learns size) k = (tt, tt)

turned_same : (end : EndView) (r : ℕ) (v : TargetView) (n : ℕ) (live : Option TargetSession) (m : RowMove) (last : List ℕ)
    → target.session_turned target.view_turned (with_retries end r) (retried_target v n) live m last ≡ retried_target (target.session_turned target.view_turned end v live m last) r
turned_same end r v n None m last = refl
turned_same end r v n (Some s) m last = refl

spent_same : (end : EndView) (r : ℕ) (v : TargetView) (n : ℕ) (live : Option TargetSession) (m : RowMove) (last : List ℕ)
    → target.session_turned target.view_without_port (with_retries end r) (retried_target v n) live m last ≡ retried_target (target.session_turned target.view_without_port end v live m last) r
spent_same end r v n None m last = refl
spent_same end r v n (Some s) m last = refl

changed_same : (end : EndView) (r : ℕ) (v : TargetView) (n : ℕ) (c : TargetChange) → target_changed (with_retries end r) (retried_target v n) c ≡ retried_target (target_changed end v c) r
changed_same end r v n (target.Continues more) = refl
changed_same end r v n (target.Begins kind) = refl
changed_same end r v n (target.Turns m last) = turned_same end r v n v.live m last
changed_same end r v n (target.Turns_without_port m last) = spent_same end r v n v.live m last
changed_same end r v n (target.Ends reason) = refl

pub target_does_the_same : TargetDoesTheSame
target_does_the_same accepts v n e k =
    let d = target_decision accepts v e in
    let same = target_decides accepts v n e k in
    let (moves, posts) = moves_do_the_same sides.Target v.end n d.moves (target_no accepts v e k) in (
      ap (λ (x : TargetDecision). target_changed (views_after sides.Target (with_retries v.end n) x.moves) (retried_target v n) x.change) same
          ∙ ap (λ (x : EndView). target_changed x (retried_target v n) d.change) moves
          ∙ changed_same (views_after sides.Target v.end d.moves) (target_retries accepts v e n) v n d.change,
      ap (λ (x : TargetDecision). all_posts sides.Target (with_retries v.end n) x.moves) same ∙ posts,
    )
