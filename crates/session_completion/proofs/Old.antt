-- Which datagrams change nothing at the two ends, and are answered by nothing or by one of a kind.
use Rattle.std.proofs.Common.{◌≡◌, ℕ, ◌+◌, ◌-◌, Bool, true, false, cond, List, [], ◌∷◌, length, Option, Some, None, refl, ap, ◌∙◌, arith, ◌⊎◌, inl, inr}
use Rattle.std.specs.Prelude.{bytes_eq, is_some, ◌==◌, ◌||◌}
use Rattle.std.proofs.lemmas.List.{append-nil}
use Rattle.std.proofs.Math.Seq.{take-nil}
use Rattle.crc_fields.specs.CheckSums.{crc16_after, crc32_after}
use Rattle.disk_layout.specs.Holds.{Outline}
use Rattle.exchange_trace.specs.declared.trace.Side.TheVariants as sides
use Rattle.exchange_trace.specs.Happenings.{DatagramView}
use Rattle.exchange_trace.specs.Logs.{Gets}
use Rattle.tftp_packet.specs.declared.options.Options.{Options}
use Rattle.tftp_packet.specs.Packets.{PacketView, Rrq, Wrq, Data, Ack, Error, Oack}
use Rattle.tftp_link.specs.Answers.{Answer, Dropped, Again, Grants, TakesBlock, TakesLast, Proceeds, Completes, Fails}
use Rattle.transfer_end.specs.Views.{EndView}
use Rattle.transfer_end.specs.Moves.{Move, views_after, all_posts}
use Rattle.transfer_end.specs.Packets.{packet_in, belongs, heard_answer, transfer_moves, is_busy, is_fresh}
use Rattle.accept_rules.specs.Permissions.{Accepts}
use Rattle.session_rules.specs.declared.outcome.FileKind.{FileKind}
use Rattle.session_rules.specs.declared.outcome.FileKind.TheVariants.{Lci, Lui, Lur}
use Rattle.session_rules.specs.declared.reason.Reason.{Reason}
use Rattle.session_rules.specs.Buffers.{Buffer, buffer_size, buffered_more}
use Rattle.session_rules.specs.FileNames.{file_name}
use Rattle.session_rules.specs.Loader as loader
use Rattle.session_rules.specs.Loader.{LoaderView, LoaderSession, EndedSession, LoaderDecision, loader_posts, loader_after, loader_changed}
use Rattle.session_rules.specs.LoaderRows.{kind_taken, serves_files}
use Rattle.session_rules.specs.MediaFiles.{Media}
use Rattle.session_rules.specs.TargetRows.{Arriving, Kept_bytes, Kept_sums, with_bytes, RowView, Awaits_lur, Gives_lci, Writes_lcs, Writes_lcl, Gives_lui, Gives_denial, Writes_ready, Reads_file, Writes_progress, Writes_stop, Writes_completion, Over}
use Rattle.session_rules.specs.Target as target
use Rattle.session_rules.specs.Target.{TargetView, TargetSession, TargetDecision, target_posts, target_after, target_changed}
use Rattle.transfer_completion.specs.Replies.{Replies, IsOldPacket, AreQuiet}
use Rattle.transfer_completion.proofs.ReplyLemmas.{IsDroppedOrAgain, old_is_quiet, old_is_not_awaited}
use Rattle.session_completion.specs.Requests.{is_there, is_own_file, is_write, SumFits, SessionFits, NoMoreSums}

plus_zero : (n : ℕ) → n + 0 ≡ n
plus_zero n = omega arith

-- ---- at the loader

no_more : (b : Buffer) → buffered_more b [] ≡ b
no_more b = rw (take-nil (buffer_size - length b.prefix), append-nil b.prefix, plus_zero b.count) refl

pub loader_same : (live : Option LoaderSession) → loader.continued live [] ≡ live
loader_same None = refl
loader_same (Some s) = ap (λ (b : Buffer). let l : LoaderSession = record { start = s.start; row = s.row; arriving = b } in Some l) (no_more s.arriving)

-- an event changes nothing
abbrev pub LoaderQuiet : LoaderView → (DatagramView → Type 0) → LoaderDecision → Type 0
LoaderQuiet v P d = (loader_changed (views_after sides.Loader v.end d.moves) v d.change ≡ v) × Replies P (all_posts sides.Loader v.end d.moves)

abbrev pub loader_view : EndView → Option LoaderSession → List EndedSession → LoaderView
loader_view end live ended = record { end = end; live = live; ended = ended }

stays : (v : LoaderView) (P : DatagramView → Type 0) (ms : List Move) → AreQuiet sides.Loader v.end P ms → LoaderQuiet v P (loader.doing ms)
stays v P ms (same, old) = (
  ap (λ (e : EndView). loader_view e (loader.continued v.live []) v.ended) same ∙ ap (λ (l : Option LoaderSession). loader_view v.end l v.ended) (loader_same v.live),
  old,
)

nothing_there : (v : LoaderView) (P : DatagramView → Type 0) → LoaderQuiet v P loader.nothing
nothing_there v P = stays v P [] (refl, tt)

answered : (v : LoaderView) (P : DatagramView → Type 0) (s : LoaderSession) (ms : List Move) (a : Answer) → IsDroppedOrAgain a → AreQuiet sides.Loader v.end P ms
    → LoaderQuiet v P (loader.answer_decision v.end s ms a)
answered v P s ms Dropped k q = stays v P ms q
answered v P s ms Again k q = stays v P ms q
answered v P s ms (Grants o) k q = absurd k
answered v P s ms (TakesBlock b) k q = absurd k
answered v P s ms (TakesLast b) k q = absurd k
answered v P s ms Proceeds k q = absurd k
answered v P s ms Completes k q = absurd k
answered v P s ms (Fails code) k q = absurd k

read_quiet : (v : LoaderView) (P : DatagramView → Type 0) (from : ℕ) (name : List ℕ) (o : Options) (found : Option (List ℕ)) → is_some found ≡ true → is_fresh v.end from ≡ false
    → LoaderQuiet v P (loader.read_decision v.end from name o found)
read_quiet v P from name o None there spent = absurd cc
read_quiet v P from name o (Some f) there spent = rw spent (nothing_there v P)

if_quiet : (v : LoaderView) (P : DatagramView → Type 0) (b : Bool) (d e : LoaderDecision) → (b ≡ true → LoaderQuiet v P d) → (b ≡ false → LoaderQuiet v P e) → LoaderQuiet v P (cond b d e)
if_quiet v P true d e x y = x refl
if_quiet v P false d e x y = y refl

write_quiet : (v : LoaderView) (P : DatagramView → Type 0) (s : LoaderSession) (from : ℕ) (name : List ℕ) (o : Options) (kind : Option FileKind) → is_fresh v.end from ≡ false
    → LoaderQuiet v P (loader.write_decision v.end s.start from name o kind)
write_quiet v P s from name o None spent = nothing_there v P
write_quiet v P s from name o (Some kind) spent =
    if_quiet v P (bytes_eq name (file_name s.start.hw s.start.pos kind)) _ _ (λ e. rw spent (nothing_there v P)) (λ e. nothing_there v P)

request_quiet : (media : Media) (v : LoaderView) (P : DatagramView → Type 0) (s : LoaderSession) (from : ℕ) (p : PacketView) → is_fresh v.end from ≡ false → is_there media p ≡ true
    → LoaderQuiet v P (loader.request_decision media v.end s from p)
request_quiet media v P s from (Rrq name o) spent there =
    if_quiet v P (serves_files s.row) _ _ (λ e. read_quiet v P from name o (media.file name) there spent) (λ e. nothing_there v P)
request_quiet media v P s from (Wrq name o) spent there = write_quiet v P s from name o (kind_taken s.row) spent
request_quiet media v P s from (Data k b) spent there = nothing_there v P
request_quiet media v P s from (Ack k) spent there = nothing_there v P
request_quiet media v P s from (Error code m) spent there = nothing_there v P
request_quiet media v P s from (Oack o) spent there = nothing_there v P

-- what changes nothing at the loader
pub record IsOldAtLoader (media : Media) (v : EndView) (P : DatagramView → Type 0) (from to : ℕ) (p : PacketView) : Type 0 where
  pub request : (to == 59) ≡ true → (is_busy v ≡ true) ⊎ ((is_fresh v from ≡ false) × (is_there media p ≡ true))
  pub packet : (to == 59) ≡ false → IsOldPacket sides.Loader v P from to p

session_quiet : (media : Media) (end : EndView) (live : Option LoaderSession) (ended : List EndedSession) (P : DatagramView → Type 0) (from to : ℕ) (p : PacketView) → IsOldAtLoader media end P from to p
    → LoaderQuiet (loader_view end live ended) P (loader.session_decision media end live from to p)
session_quiet media end None ended P from to p old =
    if_quiet (loader_view end None ended) P (to == 59) loader.nothing (loader.doing (transfer_moves end from to p))
    (λ k. nothing_there (loader_view end None ended) P) (λ k. stays (loader_view end None ended) P (transfer_moves end from to p) (old_is_quiet sides.Loader end P from to p (old.packet k)))
session_quiet media end (Some s) ended P from to p old =
    if_quiet (loader_view end (Some s) ended) P (to == 59) (cond (is_busy end) loader.nothing (loader.request_decision media end s from p)) (loader.answer_decision end s (transfer_moves end from to p) (heard_answer end from to p))
    (λ k. if_quiet (loader_view end (Some s) ended) P (is_busy end) loader.nothing (loader.request_decision media end s from p)
    (λ b. nothing_there (loader_view end (Some s) ended) P) (λ b. elim (old.request k) [ inl busy ↦ absurd cc | inr spent ↦ request_quiet media (loader_view end (Some s) ended) P s from p spent.0 spent.1 ]))
    (λ k. answered (loader_view end (Some s) ended) P s (transfer_moves end from to p) (heard_answer end from to p) (old_is_not_awaited sides.Loader P end.live from p (belongs end.live from to) (old.packet k).live) (old_is_quiet sides.Loader end P from to p (old.packet k)))

got_quiet : (media : Media) (v : LoaderView) (P : DatagramView → Type 0) (from to : ℕ) (p : Option PacketView) → ((q : PacketView) → p ≡ Some q → IsOldAtLoader media v.end P from to q)
    → LoaderQuiet v P (loader.got_decision media v from to p)
got_quiet media v P from to None old = nothing_there v P
got_quiet media v P from to (Some p) old = session_quiet media v.end v.live v.ended P from to p (old p refl)

-- Such a datagram changes nothing at the loader, and is answered by nothing or by one of the kind.
pub loader_old : (media : Media) (v : LoaderView) (P : DatagramView → Type 0) (from to : ℕ) (bytes : List ℕ) → ((p : PacketView) → packet_in bytes ≡ Some p → IsOldAtLoader media v.end P from to p)
    → (loader_after media v (Gets from to bytes) ≡ v) × Replies P (loader_posts media v (Gets from to bytes))
loader_old media v P from to bytes old = got_quiet media v P from to (packet_in bytes) old

-- ---- at the target

same_sums : (said a b : ℕ) → a ≡ b → (c d : ℕ) → c ≡ d → (e f : ℕ) → e ≡ f → Kept_sums (record { said = said; count = a; crc16 = c; load_crc = e }) ≡ Kept_sums (record { said = said; count = b; crc16 = d; load_crc = f })
same_sums said a b p c d q e f r = rw (p, q, r) refl

arriving_same : NoMoreSums → (a : Arriving) → SumFits a → with_bytes a [] ≡ a
arriving_same none (Kept_bytes b) fits = ap (λ (x : Buffer). Kept_bytes x) (no_more b)
arriving_same none (Kept_sums s) fits =
    rw (take-nil (s.said - s.count)) (same_sums s.said (s.count + 0) s.count (plus_zero s.count) (crc16_after s.crc16 []) s.crc16 (none.crc16 s.crc16) (crc32_after s.load_crc []) s.load_crc (none.crc32 s.load_crc fits))

pub target_same : NoMoreSums → (live : Option TargetSession) → SessionFits live → target.continued live [] ≡ live
target_same none None fits = refl
target_same none (Some s) fits = ap (λ (a : Arriving). let l : TargetSession = record { row = s.row; arriving = a } in Some l) (arriving_same none s.arriving fits)

abbrev pub target_view : EndView → Option TargetSession → Outline → Option Reason → TargetView
target_view end live active reason = record { end = end; live = live; active = active; reason = reason }

abbrev pub TargetQuiet : TargetView → (DatagramView → Type 0) → TargetDecision → Type 0
TargetQuiet v P d = (target_changed (views_after sides.Target v.end d.moves) v d.change ≡ v) × Replies P (all_posts sides.Target v.end d.moves)

module _ (none : NoMoreSums) where
  keeps : (v : TargetView) (fits : SessionFits v.live) (P : DatagramView → Type 0) (ms : List Move) → AreQuiet sides.Target v.end P ms → TargetQuiet v P (target.doing ms)
  keeps v fits P ms (same, old) = (
    ap (λ (e : EndView). target_view e (target.continued v.live []) v.active v.reason) same ∙ ap (λ (l : Option TargetSession). target_view v.end l v.active v.reason) (target_same none v.live fits),
    old,
  )

  nothing_kept : (v : TargetView) (fits : SessionFits v.live) (P : DatagramView → Type 0) → TargetQuiet v P target.nothing
  nothing_kept v fits P = keeps v fits P [] (refl, tt)

  answers : (accepts : Accepts) (v : TargetView) (fits : SessionFits v.live) (P : DatagramView → Type 0) (s : TargetSession) (ms : List Move) (a : Answer) → IsDroppedOrAgain a → AreQuiet sides.Target v.end P ms
      → TargetQuiet v P (target.answer_decision accepts v s ms a)
  answers accepts v fits P s ms Dropped k q = keeps v fits P ms q
  answers accepts v fits P s ms Again k q = keeps v fits P ms q
  answers accepts v fits P s ms (Grants o) k q = absurd k
  answers accepts v fits P s ms (TakesBlock b) k q = absurd k
  answers accepts v fits P s ms (TakesLast b) k q = absurd k
  answers accepts v fits P s ms Proceeds k q = absurd k
  answers accepts v fits P s ms Completes k q = absurd k
  answers accepts v fits P s ms (Fails code) k q = absurd k

  if_target : (v : TargetView) (P : DatagramView → Type 0) (b : Bool) (d e : TargetDecision) → (b ≡ true → TargetQuiet v P d) → (b ≡ false → TargetQuiet v P e) → TargetQuiet v P (cond b d e)
  if_target v P true d e x y = x refl
  if_target v P false d e x y = y refl

  own_quiet : (v : TargetView) (fits : SessionFits v.live) (P : DatagramView → Type 0) (from : ℕ) (kind : FileKind) (name : List ℕ) (o : Options) → is_fresh v.end from ≡ false → TargetQuiet v P (target.own_decision v from kind name o)
  own_quiet v fits P from kind name o spent = rw spent (nothing_kept v fits P)

  or_own : (v : TargetView) (fits : SessionFits v.live) (P : DatagramView → Type 0) (from : ℕ) (name : List ℕ) (o : Options) (lci lui : Bool) → is_fresh v.end from ≡ false → (lci || lui) ≡ true
      → TargetQuiet v P (cond lci (target.own_decision v from Lci name o) (cond lui (target.own_decision v from Lui name o) (cond (is_busy v.end) target.nothing (target.doing (Rattle.transfer_end.specs.Moves.Refuses from ∷ [])))))
  or_own v fits P from name o true lui spent own = own_quiet v fits P from Lci name o spent
  or_own v fits P from name o false true spent own = own_quiet v fits P from Lui name o spent
  or_own v fits P from name o false false spent own = absurd cc

  written_quiet : (v : TargetView) (fits : SessionFits v.live) (P : DatagramView → Type 0) (from : ℕ) (name : List ℕ) (o : Options) (row : RowView) → is_fresh v.end from ≡ false → TargetQuiet v P (target.write_in v from name o row)
  written_quiet v fits P from name o Awaits_lur spent =
      if_target v P (bytes_eq name (target.own_name v Lur)) _ _ (λ e. rw spent (nothing_kept v fits P)) (λ e. nothing_kept v fits P)
  written_quiet v fits P from name o Gives_lci spent = nothing_kept v fits P
  written_quiet v fits P from name o Writes_lcs spent = nothing_kept v fits P
  written_quiet v fits P from name o Writes_lcl spent = nothing_kept v fits P
  written_quiet v fits P from name o Gives_lui spent = nothing_kept v fits P
  written_quiet v fits P from name o Gives_denial spent = nothing_kept v fits P
  written_quiet v fits P from name o Writes_ready spent = nothing_kept v fits P
  written_quiet v fits P from name o (Reads_file u) spent = nothing_kept v fits P
  written_quiet v fits P from name o (Writes_progress u) spent = nothing_kept v fits P
  written_quiet v fits P from name o (Writes_stop e) spent = nothing_kept v fits P
  written_quiet v fits P from name o (Writes_completion e loads) spent = nothing_kept v fits P
  written_quiet v fits P from name o Over spent = nothing_kept v fits P

  write_in_quiet : (v : TargetView) (fits : SessionFits v.live) (P : DatagramView → Type 0) (from : ℕ) (name : List ℕ) (o : Options) (live : Option TargetSession) → is_fresh v.end from ≡ false → TargetQuiet v P (target.write_decision v from name o live)
  write_in_quiet v fits P from name o None spent = nothing_kept v fits P
  write_in_quiet v fits P from name o (Some s) spent = written_quiet v fits P from name o s.row spent

  requests_quiet : (v : TargetView) (fits : SessionFits v.live) (P : DatagramView → Type 0) (from : ℕ) (p : PacketView) → is_fresh v.end from ≡ false → is_own_file v.active.identity p ≡ true → TargetQuiet v P (target.request_decision v from p)
  requests_quiet v fits P from (Rrq name o) spent own = or_own v fits P from name o (bytes_eq name (target.own_name v Lci)) (bytes_eq name (target.own_name v Lui)) spent own
  requests_quiet v fits P from (Wrq name o) spent own =
      if_target v P (is_busy v.end) target.nothing (target.write_decision v from name o v.live) (λ e. nothing_kept v fits P) (λ e. write_in_quiet v fits P from name o v.live spent)
  requests_quiet v fits P from (Data k b) spent own = nothing_kept v fits P
  requests_quiet v fits P from (Ack k) spent own = nothing_kept v fits P
  requests_quiet v fits P from (Error code m) spent own = nothing_kept v fits P
  requests_quiet v fits P from (Oack o) spent own = nothing_kept v fits P

  -- a request to write is dropped while a transfer is live
  busy_quiet : (v : TargetView) (fits : SessionFits v.live) (P : DatagramView → Type 0) (from : ℕ) (p : PacketView) → is_busy v.end ≡ true → is_write p ≡ true → TargetQuiet v P (target.request_decision v from p)
  busy_quiet v fits P from (Wrq name o) busy w = rw busy (nothing_kept v fits P)
  busy_quiet v fits P from (Rrq name o) busy w = absurd cc
  busy_quiet v fits P from (Data k b) busy w = absurd cc
  busy_quiet v fits P from (Ack k) busy w = absurd cc
  busy_quiet v fits P from (Error code m) busy w = absurd cc
  busy_quiet v fits P from (Oack o) busy w = absurd cc

  -- what changes nothing at the target
  pub record IsOldAtTarget (v : TargetView) (P : DatagramView → Type 0) (from to : ℕ) (p : PacketView) : Type 0 where
    pub asked : (to == 59) ≡ true → ((is_fresh v.end from ≡ false) × (is_own_file v.active.identity p ≡ true)) ⊎ ((is_busy v.end ≡ true) × (is_write p ≡ true))
    pub packet : (to == 59) ≡ false → IsOldPacket sides.Target v.end P from to p

  moved_quiet : (accepts : Accepts) (v : TargetView) (fits : SessionFits v.live) (P : DatagramView → Type 0) (live : Option TargetSession) (from to : ℕ) (p : PacketView) → IsOldPacket sides.Target v.end P from to p
      → TargetQuiet v P (target.transfer_decision accepts v live from to p)
  moved_quiet accepts v fits P None from to p old = keeps v fits P (transfer_moves v.end from to p) (old_is_quiet sides.Target v.end P from to p old)
  moved_quiet accepts v fits P (Some s) from to p old =
      answers accepts v fits P s (transfer_moves v.end from to p) (heard_answer v.end from to p) (old_is_not_awaited sides.Target P v.end.live from p (belongs v.end.live from to) old.live) (old_is_quiet sides.Target v.end P from to p old)

  gets_quiet : (accepts : Accepts) (v : TargetView) (fits : SessionFits v.live) (P : DatagramView → Type 0) (from to : ℕ) (p : Option PacketView) → ((q : PacketView) → p ≡ Some q → IsOldAtTarget v P from to q)
      → TargetQuiet v P (target.got_decision accepts v from to p)
  gets_quiet accepts v fits P from to None old = nothing_kept v fits P
  gets_quiet accepts v fits P from to (Some p) old =
      if_target v P (to == 59) (target.request_decision v from p) (target.transfer_decision accepts v v.live from to p)
      (λ e. elim ((old p refl).asked e) [ inl spent ↦ requests_quiet v fits P from p spent.0 spent.1 | inr busy ↦ busy_quiet v fits P from p busy.0 busy.1 ]) (λ e. moved_quiet accepts v fits P v.live from to p ((old p refl).packet e))

  -- Such a datagram changes nothing at the target, and is answered by nothing or by one of the kind.
  pub target_old : (accepts : Accepts) (v : TargetView) (fits : SessionFits v.live) (P : DatagramView → Type 0) (from to : ℕ) (bytes : List ℕ) → ((p : PacketView) → packet_in bytes ≡ Some p → IsOldAtTarget v P from to p)
      → (target_after accepts v (Gets from to bytes) ≡ v) × Replies P (target_posts accepts v (Gets from to bytes))
  target_old accepts v fits P from to bytes old = gets_quiet accepts v fits P from to (packet_in bytes) old
