-- What is next comes again by a tick.
use Rattle.std.proofs.Common.{◌≡◌, ℕ, ◌+◌, ◌<◌, ◌≤◌, true, false, List, [], ◌∷◌, ◌++◌, length, Option, Some, None, refl, sym, ap, subst, ◌∙◌, arith, append-nil, ◌⊎◌, inl, inr}
use Rattle.std.specs.Prelude.{is_some, nat_le, ◌==◌}
use Rattle.std.proofs.lemmas.Bool.Decides.{nat_tests}
use Rattle.load_base.specs.Config.{LoadView}
use Rattle.load_protocol_files.specs.declared.lur.Wanted.{Wanted}
use Rattle.field_grammar.specs.Grammar.{IsBytes}
use Rattle.exchange_trace.specs.declared.trace.Side.{Side}
use Rattle.exchange_trace.specs.declared.trace.Side.TheVariants as sides
use Rattle.exchange_trace.specs.Happenings.{DatagramView, other}
use Rattle.exchange_trace.specs.Logs.{Gets}
use Rattle.tftp_packet.specs.Packets.{PacketView, Ack, Data, packet_bytes}
use Rattle.tftp_link.specs.Answers.{Answer, Again, Dropped}
use Rattle.tftp_link.specs.Blocks.{block_of}
use Rattle.tftp_link.specs.Receiver.{Receiver, receiver_answer, receiver_packet}
use Rattle.tftp_link.specs.Sender.{Sender, sender_packet}
use Rattle.transfer_end.specs.Moves.{Move, Recalls, all_posts, datagram, kept_post, recalled_post}
use Rattle.transfer_end.specs.Packets.{belongs, heard_answer, packet_in, transfer_moves}
use Rattle.transfer_end.specs.Transfers.{LinkEnd, Receives, Sends, end_packet}
use Rattle.transfer_end.specs.Views.{EndView, TransferView}
use Rattle.accept_rules.specs.Permissions.{Accepts}
use Rattle.session_rules.proofs.BufferLemmas.{SumsJoin}
use Rattle.session_rules.specs.Loader as loader
use Rattle.session_rules.specs.Loader.{LoaderDecision, LoaderSession, LoaderView, loader_posts}
use Rattle.session_rules.specs.MediaFiles.{Media}
use Rattle.session_rules.specs.Target as target
use Rattle.session_rules.specs.Target.{TargetDecision, TargetSession, TargetView, target_posts}
use Rattle.session_rules.specs.TargetRows.{RowView, Gives_lci, Writes_lcs, Writes_lcl, Gives_lui, Gives_denial, Writes_ready, Awaits_lur, Reads_file, Writes_progress, Writes_stop, Writes_completion, Over}
use Rattle.replay_rules.specs.BothEnds.{Setting}
use Rattle.transfer_completion.proofs.BlockLemmas.{block_small, eq_false, eq_true, lt_true}
use Rattle.transfer_completion.specs.Laws.{TookLastBlock}
use Rattle.transfer_completion.specs.Positions.{HasAsked, IsIn, IsLast, Position, Rests, last_at, live_at}
use Rattle.transfer_completion.proofs.TalkLemmas.{data_read}
use Rattle.session_completion.specs.Clean.{IsAnsweredAgain, IsNext, IsRepeated}
use Rattle.session_completion.specs.Course.{IsInUpload, asker, file_in, next_row, role_in}
use Rattle.session_completion.specs.Laws.{NextComesAgain}
use Rattle.session_completion.specs.Stages.{InRow, KeepsWhole, Meets, Opposite, TargetBefore, Where, asked, closing, down, early, end_at, ending, over, to_loader, to_target, up}
use Rattle.session_completion.specs.Worlds.{World, delivered_to, last_of, retried, retried_loader, retried_target, waits}
use Rattle.session_completion.proofs.Next as next
use Rattle.session_completion.proofs.Stands.{all_stand, next_is, none_is}

-- ---- the kept transfer acknowledges again

le_true : (a b : ℕ) → a ≤ b → nat_le a b ≡ true
le_true a b h = grind (arith, nat_tests)

some_blocks : (file : List ℕ) (s : Sender) (r : Receiver) → TookLastBlock file s r (Ack s.sent) → 0 < s.sent
some_blocks file s r whole = let l = whole.last in omega arith

-- what the sending end sent last
last_block : (file : List ℕ) (s : Sender) (r : Receiver) → TookLastBlock file s r (Ack s.sent) → sender_packet s ≡ Data s.sent (block_of s.file s.size s.sent)
last_block file s r whole = rw (eq_false s.sent 0 (λ e. apart e (some_blocks file s r whole))) refl
  where
    apart : s.sent ≡ 0 → 0 < s.sent → ⊥
    apart e lt = absurd (omega arith)

is_again : (file : List ℕ) (s : Sender) (r : Receiver) → r.phase ≡ Rattle.tftp_link.specs.declared.phase.Phase.TheVariants.Finished → TookLastBlock file s r (Ack s.sent) → receiver_answer r (Data s.sent (block_of s.file s.size s.sent)) ≡ Again
is_again file s r phase whole =
    let small = block_small s.file s.size s.sent in
    let some = some_blocks file s r whole in
    rw (phase, whole.sent, lt_true 0 s.sent some, eq_true s.sent s.sent refl, whole.size, le_true (length (block_of s.file s.size s.sent)) s.size small) refl

sends_ack : (file : List ℕ) (s : Sender) (r : Receiver) → TookLastBlock file s r (Ack s.sent) → receiver_packet r ≡ Ack s.sent
sends_ack file s r whole = rw (whole.sent, eq_false s.sent 0 (λ e. apart e (some_blocks file s r whole))) refl
  where
    apart : s.sent ≡ 0 → 0 < s.sent → ⊥
    apart e lt = absurd (omega arith)

kept_acks : (side : Side) (kept : Option TransferView) (own peer : ℕ) (p : PacketView) (r : Receiver) (ack : PacketView) → kept ≡ Some (record { own = own; peer = Some peer; end = Receives r }) → receiver_answer r p ≡ Again → receiver_packet r ≡ ack
    → kept_post side kept peer p ≡ datagram side own peer ack ∷ []
kept_acks side kept own peer p r ack e again is =
    ap (λ (k : Option TransferView). kept_post side k peer p) e
    ∙ ap (λ (a : Answer). let t : TransferView = record { own = own; peer = Some peer; end = Receives r } in recalled_post side t peer a) again
    ∙ ap (λ (q : PacketView). datagram side own peer q ∷ []) is

-- ---- at either end

recalls : (v : EndView) (from to : ℕ) (p : PacketView) → belongs v.live from to ≡ false → belongs v.kept from to ≡ true → transfer_moves v from to p ≡ Recalls from p ∷ []
recalls v from to p live kept = rw (live, kept) refl

not_heard : (v : EndView) (from to : ℕ) (p : PacketView) → belongs v.live from to ≡ false → heard_answer v from to p ≡ Dropped
not_heard v from to p live = rw live refl

loader_recalls : (media : Media) (v : LoaderView) (live : Option LoaderSession) (from to : ℕ) (p : PacketView) → (to == 59) ≡ false → belongs v.end.live from to ≡ false → belongs v.end.kept from to ≡ true
    → loader.session_decision media v.end live from to p ≡ loader.doing (Recalls from p ∷ [])
loader_recalls media v None from to p high mine kept = rw high (ap (λ (moves : List Move). loader.doing moves) (recalls v.end from to p mine kept))
loader_recalls media v (Some s) from to p high mine kept =
    rw high (ap (λ (a : Answer). loader.answer_decision v.end s (transfer_moves v.end from to p) a) (not_heard v.end from to p mine) ∙ ap (λ (moves : List Move). loader.doing moves) (recalls v.end from to p mine kept))

loader_acks : (media : Media) (v : LoaderView) (from to : ℕ) (bytes : List ℕ) (p : PacketView) (d : DatagramView) → packet_in bytes ≡ Some p → (to == 59) ≡ false → belongs v.end.live from to ≡ false → belongs v.end.kept from to ≡ true
    → kept_post sides.Loader v.end.kept from p ≡ d ∷ [] → loader_posts media v (Gets from to bytes) ≡ d ∷ []
loader_acks media v from to bytes p d is high mine kept posts =
    ap (λ (x : LoaderDecision). all_posts sides.Loader v.end x.moves) (ap (λ (o : Option PacketView). loader.got_decision media v from to o) is ∙ loader_recalls media v v.live from to p high mine kept)
    ∙ append-nil (kept_post sides.Loader v.end.kept from p) ∙ posts

target_recalls : (accepts : Accepts) (v : TargetView) (live : Option TargetSession) (from to : ℕ) (p : PacketView) → belongs v.end.live from to ≡ false → belongs v.end.kept from to ≡ true
    → target.transfer_decision accepts v live from to p ≡ target.doing (Recalls from p ∷ [])
target_recalls accepts v None from to p mine kept = ap (λ (moves : List Move). target.doing moves) (recalls v.end from to p mine kept)
target_recalls accepts v (Some s) from to p mine kept =
    ap (λ (a : Answer). target.answer_decision accepts v s (transfer_moves v.end from to p) a) (not_heard v.end from to p mine) ∙ ap (λ (moves : List Move). target.doing moves) (recalls v.end from to p mine kept)

target_got : (accepts : Accepts) (v : TargetView) (from to : ℕ) (p : PacketView) → (to == 59) ≡ false → belongs v.end.live from to ≡ false → belongs v.end.kept from to ≡ true
    → target.got_decision accepts v from to (Some p) ≡ target.doing (Recalls from p ∷ [])
target_got accepts v from to p high mine kept = rw high (target_recalls accepts v v.live from to p mine kept)

target_acks : (accepts : Accepts) (v : TargetView) (from to : ℕ) (bytes : List ℕ) (p : PacketView) (d : DatagramView) → packet_in bytes ≡ Some p → (to == 59) ≡ false → belongs v.end.live from to ≡ false → belongs v.end.kept from to ≡ true
    → kept_post sides.Target v.end.kept from p ≡ d ∷ [] → target_posts accepts v (Gets from to bytes) ≡ d ∷ []
target_acks accepts v from to bytes p d is high mine kept posts =
    ap (λ (x : TargetDecision). all_posts sides.Target v.end x.moves) (ap (λ (o : Option PacketView). target.got_decision accepts v from to o) is ∙ target_got accepts v from to p high mine kept)
    ∙ append-nil (kept_post sides.Target v.end.kept from p) ∙ posts

-- ---- worlds

last_is : (c : World) (side : Side) (o : Option DatagramView) → (end_at c side).last ≡ o → last_of c side ≡ o
last_is c sides.Loader o e = e
last_is c sides.Target o e = e

other_is : (getter poster : Side) → Opposite getter poster → getter ≡ other poster
other_is getter poster to_loader = refl
other_is getter poster to_target = refl

row_waits : (set : Setting) (wanted : List Wanted) (c : World) (side : Side) (row : RowView) (arrived : List ℕ) → InRow set wanted c side row arrived → waits c side ≡ true
row_waits set wanted c sides.Loader row arrived h = ap (λ (l : Option LoaderSession). is_some l) h
row_waits set wanted c sides.Target row arrived h = ap (λ (l : Option TargetSession). is_some l) h.0

kept_is_mine : (own peer : ℕ) (r : Receiver) (kept : Option TransferView) → kept ≡ Some (record { own = own; peer = Some peer; end = Receives r }) → belongs kept peer own ≡ true
kept_is_mine own peer r kept e = ap (λ (k : Option TransferView). belongs k peer own) e ∙ rw (eq_true own own refl, eq_true peer peer refl) refl

no_longer : (own peer i : ℕ) (position : Position) → (position ≡ Rests) ⊎ ((role : Rattle.transfer_end.specs.Transfers.Role) × (position ≡ HasAsked role)) → belongs (live_at position (own + (i + 1)) (peer + (i + 1))) (peer + i) (own + i) ≡ false
no_longer own peer i position (inl e) = rw e refl
no_longer own peer i position (inr (role, e)) = rw (e, eq_false (own + i) (own + (i + 1)) (λ f. absurd (omega arith))) refl

-- an answer to the last block, whatever the retries are
acks_again : (set : Setting) (c : World) (getter poster : Side) (own peer i : ℕ) (file : List ℕ) (s : Sender) (r : Receiver) → Opposite getter poster → KeepsWhole c poster own peer i file s r → IsBytes s.file
    → (peer + i == 59) ≡ false → belongs (end_at c poster).live (own + i) (peer + i) ≡ false
    → (l t : ℕ) (posts : List DatagramView) → (delivered_to set (retried c l t posts) getter (Gets (own + i) (peer + i) (packet_bytes (sender_packet s)))).posts ≡ posts ++ datagram poster (peer + i) (own + i) (Ack s.sent) ∷ []
acks_again set c getter poster own peer i file s r to_loader keeps bytes high mine l t posts =
    let p = Data s.sent (block_of s.file s.size s.sent) in
    let few = keeps.whole.fits.few in
    let last = keeps.whole.last in
    let is = data_read s.file s.size s.sent (subst (λ (f : List ℕ). Rattle.transfer_completion.specs.Talks.FitsBlocks f s.size) (sym keeps.whole.of_file) keeps.whole.fits) (omega arith) bytes in
    let ack = kept_acks sides.Target c.target.end.kept (peer + i) (own + i) p r (Ack s.sent) keeps.kept (is_again file s r keeps.phase keeps.whole) (sends_ack file s r keeps.whole) in
    ap (λ (q : PacketView). posts ++ target_posts set.accepts (retried_target c.target t) (Gets (own + i) (peer + i) (packet_bytes q))) (last_block file s r keeps.whole)
    ∙ ap (λ (ds : List DatagramView). posts ++ ds) (target_acks set.accepts (retried_target c.target t) (own + i) (peer + i) (packet_bytes p) p (datagram sides.Target (peer + i) (own + i) (Ack s.sent)) is high mine (kept_is_mine (peer + i) (own + i) r c.target.end.kept keeps.kept) ack)
acks_again set c getter poster own peer i file s r to_target keeps bytes high mine l t posts =
    let p = Data s.sent (block_of s.file s.size s.sent) in
    let few = keeps.whole.fits.few in
    let last = keeps.whole.last in
    let is = data_read s.file s.size s.sent (subst (λ (f : List ℕ). Rattle.transfer_completion.specs.Talks.FitsBlocks f s.size) (sym keeps.whole.of_file) keeps.whole.fits) (omega arith) bytes in
    let ack = kept_acks sides.Loader c.loader.end.kept (peer + i) (own + i) p r (Ack s.sent) keeps.kept (is_again file s r keeps.phase keeps.whole) (sends_ack file s r keeps.whole) in
    ap (λ (q : PacketView). posts ++ loader_posts set.media (retried_loader c.loader l) (Gets (own + i) (peer + i) (packet_bytes q))) (last_block file s r keeps.whole)
    ∙ ap (λ (ds : List DatagramView). posts ++ ds) (loader_acks set.media (retried_loader c.loader l) (own + i) (peer + i) (packet_bytes p) p (datagram sides.Loader (peer + i) (own + i) (Ack s.sent)) is high mine (kept_is_mine (peer + i) (own + i) r c.loader.end.kept keeps.kept) ack)

not_59 : (own i : ℕ) → 59 < own → (own + i == 59) ≡ false
not_59 own i low = eq_false (own + i) 59 (λ e. absurd (omega arith))

module _ (set : Setting) (wanted : List Wanted) (loads : List LoadView) (joins : SumsJoin) (sequence : set.start.sequence < 4294967295) where
  abbrev Again_by : World → DatagramView → Type 0
  Again_by c d = IsRepeated c d ⊎ IsAnsweredAgain set c d

  -- the end that asked waits
  asker_waits : (c : World) (getter poster : Side) (row : RowView) → Opposite getter poster → IsInUpload row → asker row ≡ poster → InRow set wanted c sides.Loader row [] → TargetBefore set c.target row → waits c poster ≡ true
  asker_waits c getter poster row to_target h turn loader target = row_waits set wanted c sides.Loader row [] loader
  asker_waits c getter poster Writes_ready to_loader h turn loader target = row_waits set wanted c sides.Target Writes_ready [] target
  asker_waits c getter poster (Reads_file u) to_loader h turn loader target = row_waits set wanted c sides.Target (Reads_file u) [] target
  asker_waits c getter poster (Writes_progress u) to_loader h turn loader target = row_waits set wanted c sides.Target (Writes_progress u) [] target
  asker_waits c getter poster (Writes_completion e l) to_loader h turn loader target = row_waits set wanted c sides.Target (Writes_completion e l) [] target
  asker_waits c getter poster Gives_lui to_loader h turn loader target = absurd cc
  asker_waits c getter poster Awaits_lur to_loader h turn loader target = absurd cc
  asker_waits c getter poster Gives_lci to_loader h turn loader target = absurd h
  asker_waits c getter poster Writes_lcs to_loader h turn loader target = absurd h
  asker_waits c getter poster Writes_lcl to_loader h turn loader target = absurd h
  asker_waits c getter poster Gives_denial to_loader h turn loader target = absurd h
  asker_waits c getter poster (Writes_stop e) to_loader h turn loader target = absurd h
  asker_waits c getter poster Over to_loader h turn loader target = absurd h

  -- the sender is ticked, and its last block is acknowledged again
  answered : (n : ℕ) (c : World) (getter poster : Side) (own peer i : ℕ) (yours : Position) (before ahead : List DatagramView) (row : RowView) (file : List ℕ) (s : Sender) (r : Receiver) → Meets set n c getter poster own peer i (i + 1) (IsIn (Sends s)) yours before ahead
      → (yours ≡ Rests) ⊎ ((role : Rattle.transfer_end.specs.Transfers.Role) × (yours ≡ HasAsked role)) → IsBytes file → KeepsWhole c poster own peer i file s r → InRow set wanted c getter row []
      → IsAnsweredAgain set c (datagram poster (peer + i) (own + i) (Ack s.sent))
  answered n c getter poster own peer i yours before ahead row file s r m rests bytes keeps session =
      let same = other_is getter poster m.opposite in
      let live = ap (λ (l : Option TransferView). belongs l (own + i) (peer + i)) m.you.live ∙ no_longer peer own i yours rests in
      record {
        asked = datagram getter (own + i) (peer + i) (sender_packet s);
        waiting = ap (λ (x : Side). waits c x) (sym same) ∙ row_waits set wanted c getter row [] session;
        last = ap (λ (x : Side). last_of c x) (sym same) ∙ last_is c getter _ m.me.last.0;
        answer = acks_again set c getter poster own peer i file s r m.opposite keeps (subst (λ (f : List ℕ). IsBytes f) (sym keeps.whole.of_file) bytes) (not_59 peer i m.peer_low) live;
      }

  repeated : (n : ℕ) (c : World) (getter poster : Side) (own peer i j : ℕ) (mine yours : Position) (end : LinkEnd) (before ahead : List DatagramView) (p : PacketView) → Meets set n c getter poster own peer i j mine yours before ahead → i ≡ j → yours ≡ IsIn end
      → p ≡ end_packet end → waits c poster ≡ true → IsRepeated c (datagram poster (peer + i) (own + i) p)
  repeated n c getter poster own peer i j mine yours end before ahead p m same at is w =
      let last : IsLast c.posts (last_at poster (IsIn end) (peer + j) (own + j)) (end_at c poster).last = subst (λ (x : Position). IsLast c.posts (last_at poster x (peer + j) (own + j)) (end_at c poster).last) at m.you.last in
      (w, last_is c poster _ (last.0 ∙ ap (λ (q : PacketView). Some (datagram poster (peer + j) (own + j) q)) (sym is) ∙ ap (λ (k : ℕ). Some (datagram poster (peer + k) (own + k) p)) (sym same)))

  comes_again : (n : ℕ) (c : World) (budget : ℕ) (d : DatagramView) → Where set wanted loads n c budget → IsNext n c d → Again_by c d
  comes_again n c budget d (asked getter poster own peer i before more row told m room course turn loader target) is =
      subst (λ (x : DatagramView). Again_by c x) (sym (next_is c.posts before [] _ d n m.posts m.count is))
      (inl (asker_waits c getter poster row m.opposite (next.in_course set wanted loads joins sequence more row course) turn loader target, last_is c poster _ m.you.last.0))
  comes_again n c budget d (down getter poster own peer i mine yours before more row s r p m room course sends talk holds held session behind) is =
      subst (λ (x : DatagramView). Again_by c x) (sym (next_is c.posts before [] _ d n m.posts m.count is))
      (inl (repeated n c getter poster own peer i i mine yours (Sends s) before _ p m refl held.0 held.1 (row_waits set wanted c poster row [] behind)))
  comes_again n c budget d (up getter poster own peer i mine yours before more row s r p m room course sends talk holds held session behind) is =
      subst (λ (x : DatagramView). Again_by c x) (sym (next_is c.posts before [] _ d n m.posts m.count is))
      (inl (repeated n c getter poster own peer i i mine yours (Receives r) before _ p m refl held.0 held.1 (row_waits set wanted c poster row _ behind)))
  comes_again n c budget d (closing getter poster own peer i before more row s r m room sends step keeps session behind) is =
      subst (λ (x : DatagramView). Again_by c x) (sym (next_is c.posts before [] _ d n m.posts m.count is)) (inr (answered n c getter poster own peer i Rests before _ row (file_in set wanted row) s r m (inl refl) step.0.fine.bytes keeps session))
  comes_again n c budget d (early getter poster own peer i before more row s r told m room sends step keeps session behind) is =
      subst (λ (x : DatagramView). Again_by c x) (sym (next_is c.posts before _ _ d n m.posts m.count is))
      (inr (answered n c getter poster own peer i (HasAsked (role_in set wanted (next_row set wanted row) told)) before _ row (file_in set wanted row) s r m (inr (role_in set wanted (next_row set wanted row) told, refl)) step.0.fine.bytes keeps session))
  comes_again n c budget d (ending own peer i before row s r m room course keeps session finished) is =
      subst (λ (x : DatagramView). Again_by c x) (sym (next_is c.posts before [] _ d n m.posts m.count is))
      (inr (answered n c sides.Target sides.Loader own peer i Rests before _ row (file_in set wanted row) s r m (inl refl) (next.fine_of set wanted loads joins sequence 0 row course).bytes keeps session))
  comes_again n c budget d (over own peer i before m finished none active) is = absurd (none_is c.posts before d n m.posts m.count is)

pub next_comes_again : SumsJoin → NextComesAgain
next_comes_again joins set loads n c d clean is = let s = all_stand joins set loads n c clean in comes_again set s.wanted loads joins s.sequence n c s.budget d s.stage is
