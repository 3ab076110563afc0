-- Proofs that what is received is what the other end sent.
use Rattle.std.proofs.Common.{◌≡◌, ◌⊎◌, inl, inr, ⊎_elim, ℕ, zero, suc, ◌≤◌, Bool, true, false, cond, ◌&&◌, List, [], ◌∷◌, ◌++◌, length, Option, Some, None, refl, sym, ap, subst, ◌∙◌, arith}
use Rattle.std.specs.Prelude.{nat_lt, ◌==◌, is_none, IfSome}
use Rattle.std.specs.List.{AllByRecursion, concat}
use Rattle.field_grammar.specs.Grammar.{IsBytes}
use Rattle.tftp_packet.specs.declared.options.Options.{Options}
use Rattle.tftp_packet.specs.Options.{AreInRange}
use Rattle.tftp_packet.proofs.PacketLemmas.{spelled_in_range}
use Rattle.tftp_packet.specs.Packets.{Ack, Data, Error, Oack, PacketSpells, PacketView, Rrq, Wrq, packet_bytes}
use Rattle.tftp_link.specs.declared.phase.Phase.{Phase}
use Rattle.tftp_link.specs.declared.phase.Phase.TheVariants.{Waiting, Running, Finished, Failed}
use Rattle.tftp_link.specs.Answers.{Again, Answer, Dropped, Grants, TakesBlock, TakesLast, error_answer, is_finished}
use Rattle.tftp_link.specs.Arrival.{EndsShort, Stand, answers_read, from_first}
use Rattle.tftp_link.proofs.ArrivalLemmas.{asked_read_arrives, one_stands, served_write_arrives}
use Rattle.tftp_link.specs.Blocks.{IsOfFile, block_of}
use Rattle.tftp_link.proofs.FileLemmas.{arrives_whole}
use Rattle.tftp_link.specs.Laws.{ReceivesArrived, lent}
use Rattle.tftp_link.specs.Negotiation.{block_size_of, fits_said, fitting, granted_to_reader, is_empty, length_if_asked, may_grant}
use Rattle.tftp_link.specs.Receiver.{Receiver, acceptance, data_answer, is_last_block, is_next_block, receiver_after, receiver_after_all, receiver_answer, receiver_asking, receiver_first, receiver_moved, receiver_oack_answer, receiver_opens, receiver_packet, receiver_serving, taken_answer, were_granted}
use Rattle.tftp_link.specs.Sender.{Sender, data_of, sender_after, sender_after_all, sender_answer, sender_asking, sender_moved, sender_serving}
use Rattle.exchange_trace.specs.declared.trace.Side.{Side}
use Rattle.exchange_trace.specs.Happenings.{DatagramView}
use Rattle.transfer_end.proofs.ArrivalLemmas.{taken_is_lent}
use Rattle.transfer_end.specs.Came.{HasData, IsDataOf}
use Rattle.transfer_end.proofs.CameLemmas.{all_mapped}
use Rattle.transfer_end.proofs.OtherEndLemmas.{all_at, first_is_sent, own_is_one, own_not_59, posted_by}
use Rattle.transfer_end.specs.OtherEnds.{TellsLength, Among, AnswersRequest, AreEnds, Brought, BringsFile, ComesFromEnd, ReceivesWhatWasSent, is_receiving, of_end, of_none, BroughtFrom, TransferHasBegun, IsAnsweredBy, IsFair, IsPostOf, IsPostOfSide, TookRequest, answered, file_sent, is_asking, of_refusal, of_transfer, refused, request_taken, served, end_block_size, unanswered}
use Rattle.transfer_end.specs.Packets.{packet_in}
use Rattle.transfer_end.proofs.RfcLemmas.{end_is_of_link}
use Rattle.transfer_end.proofs.SentPacketLemmas.{IsSendingFile, IsSmallAck, IsSomeData, IsThatData, all_sending, data_is_read, data_is_that, has_begun, read_is_spelled, sent_is_block, spelled_small, written_is_read}
use Rattle.transfer_end.specs.Transfers.{LinkEnd, Reads, Receives, Role, ServesRead, ServesWrite, Transfer, Writes, arrived_in, begin_of, end_answer, end_in, end_of, end_packet, first_packet, is_received, taken_from}

-- ---- the block size of a receiving end

module _ (r : Receiver) (begun : has_begun r.phase ≡ true) where
  abbrev Stays : Answer → Type 0
  Stays answer = ((receiver_moved r answer).size ≡ r.size) × (has_begun (receiver_moved r answer).phase ≡ true)

  stays_if : (b : Bool) (x y : Answer) → Stays x → Stays y → Stays (cond b x y)
  stays_if true x y f g = f
  stays_if false x y f g = g

  taken_stays : (payload : List ℕ) → Stays (taken_answer r payload)
  taken_stays payload = stays_if (nat_lt (length payload) r.size) (TakesLast payload) (TakesBlock payload) (refl, refl) (refl, refl)

  data_stays : (phase : Phase) (k : ℕ) (payload : List ℕ) → has_begun phase ≡ true → Stays (data_answer phase r k payload)
  data_stays Waiting k payload b = absurd cc
  data_stays Running k payload b =
      stays_if (is_next_block r k payload) (taken_answer r payload) (cond (is_last_block r k payload) Again Dropped) (taken_stays payload) (stays_if (is_last_block r k payload) Again Dropped (refl, begun) (refl, begun))
  data_stays Finished k payload b = stays_if (is_last_block r k payload) Again Dropped (refl, begun) (refl, begun)
  data_stays (Failed code) k payload b = (refl, begun)

  oack_stays : (phase : Phase) (o : Options) → has_begun phase ≡ true → Stays (receiver_oack_answer phase r o)
  oack_stays Waiting o b = absurd cc
  oack_stays Running o b = stays_if ((r.taken == 0) && were_granted r.granted o) Again Dropped (refl, begun) (refl, begun)
  oack_stays Finished o b = (refl, begun)
  oack_stays (Failed code) o b = (refl, begun)

  error_stays : (phase : Phase) (code : ℕ) → Stays (error_answer phase code)
  error_stays Waiting code = (refl, refl)
  error_stays Running code = (refl, refl)
  error_stays Finished code = (refl, begun)
  error_stays (Failed before) code = (refl, begun)

  packet_stays : (p : PacketView) → Stays (receiver_answer r p)
  packet_stays (Data k payload) = data_stays r.phase k payload begun
  packet_stays (Oack o) = oack_stays r.phase o begun
  packet_stays (Error code m) = error_stays r.phase code
  packet_stays (Ack k) = (refl, begun)
  packet_stays (Rrq name o) = (refl, begun)
  packet_stays (Wrq name o) = (refl, begun)

-- it stays once the request was answered
size_stays : (r : Receiver) (packets : List PacketView) → has_begun r.phase ≡ true → (receiver_after_all r packets).size ≡ r.size
size_stays r [] begun = refl
size_stays r (p ∷ packets) begun = let now = packet_stays r begun p in size_stays (receiver_after r p) packets now.1 ∙ now.0

-- what the first answer makes of an end that asked
abbrev Asked : List ℕ → Options → Answer → (size : ℕ) → Type 0
Asked name o answer size = ((receiver_moved (receiver_asking name o) answer).size ≡ size) × (has_begun (receiver_moved (receiver_asking name o) answer).phase ≡ true)

asked_if : (name : List ℕ) (o : Options) (size : ℕ) (b : Bool) (x y : Answer) → Asked name o x size → (cond b x y ≡ Dropped → ⊥) → y ≡ Dropped → Asked name o (cond b x y) size
asked_if name o size true x y h taken e = h
asked_if name o size false x y h taken e = absurd (taken e)

data_first : (name : List ℕ) (o : Options) (p : PacketView) → IsSomeData p → (receiver_answer (receiver_asking name o) p ≡ Dropped → ⊥) → Asked name o (receiver_answer (receiver_asking name o) p) 512
data_first name o (Data k payload) is taken =
    asked_if name o 512 (is_next_block (receiver_asking name o) k payload) (taken_answer (receiver_asking name o) payload) Dropped (by (nat_lt (length payload) 512)) taken refl
  where
    by : (b : Bool) → Asked name o (cond b (TakesLast payload) (TakesBlock payload)) 512
    by true = (refl, refl)
    by false = (refl, refl)
data_first name o (Ack k) is taken = absurd is
data_first name o (Oack granted) is taken = absurd is
data_first name o (Error code m) is taken = absurd is
data_first name o (Rrq n q) is taken = absurd is
data_first name o (Wrq n q) is taken = absurd is

oack_first : (name : List ℕ) (o granted : Options) → (receiver_answer (receiver_asking name o) (Oack granted) ≡ Dropped → ⊥) → Asked name o (receiver_answer (receiver_asking name o) (Oack granted)) (block_size_of granted)
oack_first name o granted taken = asked_if name o (block_size_of granted) (may_grant o granted) (Grants granted) Dropped (refl, refl) taken refl

asked_size : (name : List ℕ) (o : Options) (got : List PacketView) (first : PacketView) (rest : List PacketView) (size : ℕ) → got ≡ first ∷ rest → Asked name o (receiver_answer (receiver_asking name o) first) size → end_block_size (end_of (Reads name o) got) ≡ size
asked_size name o got first rest size e h =
    ap end_block_size (end_is_of_link name [] o got).0 ∙ ap (λ (packets : List PacketView). (receiver_after_all (receiver_asking name o) packets).size) e ∙ size_stays (receiver_after (receiver_asking name o) first) rest h.1 ∙ h.0

served_size : (name : List ℕ) (o : Options) (got : List PacketView) → end_block_size (end_of (ServesWrite name o) got) ≡ block_size_of o
served_size name o got = ap end_block_size (end_is_of_link name [] o got).1 ∙ size_stays (receiver_serving o) got refl

-- ---- options

none_size : (o : Options) → is_empty o ≡ true → block_size_of o ≡ 512
none_size o e = by o.blksize e
  where
    by : (size : Option ℕ) → (is_none size && (is_none o.timeout && is_none o.tsize)) ≡ true → block_size_of (record { blksize = size; timeout = o.timeout; tsize = o.tsize }) ≡ 512
    by None e = refl
    by (Some n) e = absurd cc

granted_in_range : (file_length : ℕ) (o : Options) → file_length ≤ 4294967295 → AreInRange o → AreInRange (granted_to_reader file_length o)
granted_in_range file_length o few h = record { blksize = size o.blksize h.blksize; timeout = h.timeout; tsize = told o.tsize }
  where
    size : (said : Option ℕ) → IfSome said (λ n. (8 ≤ n) × (n ≤ 65464)) → IfSome (fitting file_length said) (λ n. (8 ≤ n) × (n ≤ 65464))
    size said is = by (fits_said file_length said)
      where
        by : (b : Bool) → IfSome (cond b said None) (λ n. (8 ≤ n) × (n ≤ 65464))
        by true = is
        by false = tt

    told : (said : Option ℕ) → IfSome (length_if_asked file_length said) (λ n. (0 ≤ n) × (n ≤ 4294967295))
    told None = tt
    told (Some n) = (omega arith, few)

-- ---- what the ends send

some_is : (p q : PacketView) → Some p ≡ Some q → p ≡ q
some_is p q e = cc

-- a transfer sends no other blocks than those of this file, in this size
abbrev SendsBlocks : (file : List ℕ) (size : ℕ) → Role → List PacketView → Type 0
SendsBlocks file size role got = (heard later : List PacketView) (k : ℕ) (payload : List ℕ) → got ≡ heard ++ later → IsThatData k payload (end_packet (end_of role heard)) → 1 ≤ k → payload ≡ block_of file size k

-- a receiving end sends none
no_data : (r : Receiver) (k : ℕ) (payload : List ℕ) → IsThatData k payload (receiver_packet r) → ⊥
no_data r k payload = by ((r.taken == 0) && is_none r.granted)
  where
    accepts : (b : Bool) (o : Options) → IsThatData k payload (cond b (Ack 0) (Oack o)) → ⊥
    accepts true o h = h
    accepts false o h = h

    opens : (name : Option (List ℕ)) (o : Options) → IsThatData k payload (receiver_opens name o) → ⊥
    opens None o h = accepts (is_empty o) o h
    opens (Some name) o h = h

    by : (b : Bool) → IsThatData k payload (cond b (receiver_first r) (Ack r.taken)) → ⊥
    by true h = opens r.name r.asked h
    by false h = h

reads_no_data : (name : List ℕ) (o : Options) (heard : List PacketView) (k : ℕ) (payload : List ℕ) → IsThatData k payload (end_packet (end_of (Reads name o) heard)) → ⊥
reads_no_data name o heard k payload h = no_data (receiver_after_all (receiver_asking name o) heard) k payload (subst (λ (end : LinkEnd). IsThatData k payload (end_packet end)) (end_is_of_link name [] o heard).0 h)

served_no_data : (name : List ℕ) (o : Options) (heard : List PacketView) (k : ℕ) (payload : List ℕ) → IsThatData k payload (end_packet (end_of (ServesWrite name o) heard)) → ⊥
served_no_data name o heard k payload h = no_data (receiver_after_all (receiver_serving o) heard) k payload (subst (λ (end : LinkEnd). IsThatData k payload (end_packet end)) (end_is_of_link name [] o heard).1 h)

all_front : (P : PacketView → Type 0) (heard later : List PacketView) → AllByRecursion P (heard ++ later) → AllByRecursion P heard
all_front P [] later all = tt
all_front P (p ∷ heard) later (one, all) = (one, all_front P heard later all)

few_sent : (b : Bool) → cond b 1 0 ≤ 65536
few_sent true = omega arith
few_sent false = omega arith

serves_blocks : (name : List ℕ) (o : Options) (file : List ℕ) (got : List PacketView) → AllByRecursion IsSmallAck got → SendsBlocks file (block_size_of (granted_to_reader (length file) o)) (ServesRead name o file) got
serves_blocks name o file got small heard later k payload split that some =
    let size : ℕ = block_size_of (granted_to_reader (length file) o) in
    let begin : IsSendingFile file size (sender_serving file o) = record { same_file = refl; same_size = refl; begun = refl; few = few_sent (is_empty (granted_to_reader (length file) o)) } in
    let front : AllByRecursion IsSmallAck heard = all_front IsSmallAck heard later (subst (λ (packets : List PacketView). AllByRecursion IsSmallAck packets) split small) in
    sent_is_block file size (sender_after_all (sender_serving file o) heard) (all_sending file size (sender_serving file o) heard begin front) k payload
    (subst (λ (end : LinkEnd). IsThatData k payload (end_packet end)) (end_is_of_link name file o heard).3 that) some

-- what the first answer makes of an end that asked to write
writes_blocks : (name : List ℕ) (wanted : Options) (file : List ℕ) (size : ℕ) (got : List PacketView) (first : PacketView) (rest : List PacketView) → got ≡ first ∷ rest → IsSendingFile file size (sender_after (sender_asking name file wanted) first)
    → AllByRecursion IsSmallAck got → SendsBlocks file size (Writes name wanted file) got
writes_blocks name wanted file size got first rest e begun small [] later k payload split that some =
    absurd (subst (λ (end : LinkEnd). IsThatData k payload (end_packet end)) (end_is_of_link name file wanted []).2 that)
writes_blocks name wanted file size got first rest e begun small (p ∷ heard) later k payload split that some =
    let same : first ∷ rest ≡ p ∷ (heard ++ later) = sym e ∙ split in
    let is : first ≡ p = cc in
    let front : AllByRecursion IsSmallAck (p ∷ heard) = all_front IsSmallAck (p ∷ heard) later (subst (λ (packets : List PacketView). AllByRecursion IsSmallAck packets) split small) in
    sent_is_block file size (sender_after_all (sender_after (sender_asking name file wanted) p) heard)
    (all_sending file size (sender_after (sender_asking name file wanted) p) heard (subst (λ (x : PacketView). IsSendingFile file size (sender_after (sender_asking name file wanted) x)) is begun) front.1) k payload
    (subst (λ (end : LinkEnd). IsThatData k payload (end_packet end)) (end_is_of_link name file wanted (p ∷ heard)).2 that) some

-- ---- both ends have one block size

-- the side that asked to read
read_sizes : (name uname : List ℕ) (o uo : Options) (file : List ℕ) (own uown : ℕ) (peer upeer : Option ℕ) (got ugot : List PacketView) → length file ≤ 4294967295 → AreInRange uo
    → IsAnsweredBy (record { role = Reads name o; own = own; peer = peer; got = got }) (record { role = ServesRead uname uo file; own = uown; peer = upeer; got = ugot })
    → end_block_size (end_of (Reads name o) got) ≡ block_size_of (granted_to_reader (length file) uo)
read_sizes name uname o uo file own uown peer upeer got ugot few fits h = by (is_empty (granted_to_reader (length file) uo)) refl
  where
    G : Options
    G = granted_to_reader (length file) uo

    taken : receiver_answer (receiver_asking name o) h.first ≡ Dropped → ⊥
    taken e = h.binds (ap (λ (end : LinkEnd). end_answer end h.first) (end_is_of_link name [] o []).0 ∙ e)

    packet : (b : Bool) → is_empty G ≡ b → first_packet (ServesRead uname uo file) ≡ cond b (data_of file (block_size_of G) 1) (Oack G)
    packet b e = ap (λ (x : Bool). cond x (data_of file (block_size_of G) 1) (Oack G)) e

    by : (b : Bool) → is_empty G ≡ b → end_block_size (end_of (Reads name o) got) ≡ block_size_of G
    by true e =
        let spells = read_is_spelled (packet_bytes (first_packet (ServesRead uname uo file))) h.first h.are_bytes h.sent in
        let block : IsSomeData h.first = data_is_read h.first 1 (block_of file (block_size_of G) 1) (subst (λ (p : PacketView). PacketSpells h.first (packet_bytes p)) (packet true e) spells) in
        asked_size name o got h.first h.rest 512 h.split (data_first name o h.first block taken) ∙ sym (none_size G e)
    by false e =
        let is : Oack G ≡ h.first = some_is (Oack G) h.first (sym (written_is_read (Oack G) tt (granted_in_range (length file) uo few fits)) ∙ ap (λ (p : PacketView). packet_in (packet_bytes p)) (sym (packet false e)) ∙ h.sent) in
        asked_size name o got h.first h.rest (block_size_of G) h.split
        (subst (λ (p : PacketView). Asked name o (receiver_answer (receiver_asking name o) p) (block_size_of G)) is (oack_first name o G (λ f. taken (ap (λ (p : PacketView). receiver_answer (receiver_asking name o) p) (sym is) ∙ f))))

-- the side that took a request to write
write_sizes : (uname name : List ℕ) (wanted asked : Options) (file : List ℕ) (uown own : ℕ) (upeer peer : Option ℕ) (ugot got : List PacketView) → AreInRange asked
    → (h : IsAnsweredBy (record { role = Writes uname wanted file; own = uown; peer = upeer; got = ugot }) (record { role = ServesWrite name asked; own = own; peer = peer; got = got }))
    → IsSendingFile file (block_size_of asked) (sender_after (sender_asking uname file wanted) h.first)
write_sizes uname name wanted asked file uown own upeer peer ugot got fits h = by (is_empty asked) refl
  where
    S : Sender
    S = sender_asking uname file wanted

    taken : sender_answer S h.first ≡ Dropped → ⊥
    taken e = h.binds (ap (λ (end : LinkEnd). end_answer end h.first) (end_is_of_link uname file wanted []).2 ∙ e)

    packet : (b : Bool) → is_empty asked ≡ b → acceptance asked ≡ cond b (Ack 0) (Oack asked)
    packet b e = ap (λ (x : Bool). cond x (Ack 0) (Oack asked)) e

    if_granted : (b : Bool) → (cond b (Grants asked) Dropped ≡ Dropped → ⊥) → IsSendingFile file (block_size_of asked) (sender_moved S (cond b (Grants asked) Dropped))
    if_granted true f = record { same_file = refl; same_size = refl; begun = refl; few = omega arith }
    if_granted false f = absurd (f refl)

    granted : (sender_answer S (Oack asked) ≡ Dropped → ⊥) → IsSendingFile file (block_size_of asked) (sender_after S (Oack asked))
    granted f = if_granted (may_grant S.options asked && fits_said (length file) asked.blksize) f

    by : (b : Bool) → is_empty asked ≡ b → IsSendingFile file (block_size_of asked) (sender_after S h.first)
    by true e =
        let is : Ack 0 ≡ h.first = some_is (Ack 0) h.first (sym (written_is_read (Ack 0) (omega arith) tt) ∙ ap (λ (p : PacketView). packet_in (packet_bytes p)) (sym (packet true e)) ∙ h.sent) in
        subst (λ (p : PacketView). IsSendingFile file (block_size_of asked) (sender_after S p)) is (record { same_file = refl; same_size = sym (none_size asked e); begun = refl; few = omega arith })
    by false e =
        let is : Oack asked ≡ h.first = some_is (Oack asked) h.first (sym (written_is_read (Oack asked) tt fits) ∙ ap (λ (p : PacketView). packet_in (packet_bytes p)) (sym (packet false e)) ∙ h.sent) in
        subst (λ (p : PacketView). IsSendingFile file (block_size_of asked) (sender_after S p)) is (granted (λ f. taken (ap (λ (p : PacketView). sender_answer S p) (sym is) ∙ f)))

-- ---- the request

-- A transfer that serves answers the request of the transfer that has its other end's port.
request_tie : (me them : Side) (mine theirs : List Transfer) (posted : List DatagramView) (s c : Transfer) → IsFair me them mine theirs posted → IsFair them me theirs mine posted → Among s mine → Among c theirs
    → is_asking s.role ≡ false → TookRequest posted them s → s.peer ≡ Some c.own → (s.own ≡ 59 → ⊥) → (c.peer ≡ None) ⊎ (c.peer ≡ Some s.own) → AnswersRequest s c
request_tie me them mine theirs posted s c fair other a b serves took back not_59 peer =
    let own : took.peer ≡ c.own = port_is took.peer c.own (sym took.bound ∙ back) in
    by (posted_by them me theirs mine posted c (record { side = them; from = took.peer; to = 59; bytes = took.brought.bytes }) other b took.brought.among refl own)
  where
    port_is : (p q : ℕ) → Some p ≡ Some q → p ≡ q
    port_is p q e = cc

    none_yet : (peer : Option ℕ) → peer ≡ None → peer ≡ Some 59 → ⊥
    none_yet None none e = cc
    none_yet (Some port) none e = cc

    unbound : (c.peer ≡ None) ⊎ (c.peer ≡ Some s.own) → c.peer ≡ Some 59 → ⊥
    unbound (inl none) e = none_yet c.peer none e
    unbound (inr some) e = not_59 (port_is s.own 59 (sym some ∙ e))

    by : IsPostOf c (record { side = them; from = took.peer; to = 59; bytes = took.brought.bytes }) → AnswersRequest s c
    by post = ⊎_elim (λ (e : c.peer ≡ Some 59). absurd (unbound peer e)) (λ (r : (59 ≡ 59) × (post.heard ≡ []) × (is_asking c.role ≡ true)).
        let same : packet_bytes (first_packet c.role) ≡ took.brought.bytes =
        ap packet_bytes (first_is_sent c.role) ∙ ap (λ (heard : List PacketView). packet_bytes (end_packet (end_of c.role heard))) (sym r.1) ∙ sym post.bytes in
        record {
          serves = serves;
          asks = r.2;
          request = ap packet_in same ∙ took.brought.spells ∙ sym took.taken;
          are_bytes = subst IsBytes (sym same) took.brought.are_bytes;
        }) post.goes

-- ---- the other end

none_is_some : (A : Type 0) (peer : Option ℕ) (port : ℕ) → peer ≡ None → peer ≡ Some port → A
none_is_some A peer port none some = absurd (let wrong : None ≡ Some port = sym none ∙ some in cc)

port_of : (p q : ℕ) → Some p ≡ Some q → p ≡ q
port_of p q e = cc

true_is_false : (A : Type 0) (b : Bool) → b ≡ true → b ≡ false → A
true_is_false A b yes_it no_it = absurd (let wrong : true ≡ false = sym yes_it ∙ no_it in cc)

-- how one of two ends answered the other
pub data Answering (t u : Transfer) : Type 0 where
  answered_by_other : is_asking t.role ≡ true → is_asking u.role ≡ false → IsAnsweredBy t u → Answering t u
  answers_other : is_asking t.role ≡ false → is_asking u.role ≡ true → IsAnsweredBy u t → Answering t u

pub record Tie (t u : Transfer) : Type 0 where
  pub ends : AreEnds t u
  pub how : Answering t u

module _ (me them : Side) (mine theirs : List Transfer) (posted : List DatagramView) (fair : IsFair me them mine theirs posted) (other : IsFair them me theirs mine posted) where
  -- a transfer of the other side from which a packet came to the own port
  tie : (t u : Transfer) → Among t mine → Among u theirs → t.peer ≡ Some u.own → (d : DatagramView) → d.to ≡ t.own → IsPostOf u d → Tie t u
  tie t u a b port d to post = by (fair.begun t a)
    where
      back : (u.peer ≡ Some t.own)
      back = ⊎_elim (λ (e : u.peer ≡ Some d.to). e ∙ ap (λ (q : ℕ). Some q) to) (λ (r : (d.to ≡ 59) × (post.heard ≡ []) × (is_asking u.role ≡ true)). absurd (own_not_59 mine t fair.ports a (sym to ∙ r.0))) post.goes

      served_by : is_asking u.role ≡ false → TransferHasBegun posted me mine u → TookRequest posted me u
      served_by serves (served s took) = took
      served_by serves (unanswered asks unbound none) = true_is_false _ _ asks serves
      served_by serves (refused asks by_59) = true_is_false _ _ asks serves
      served_by serves (answered asks s c h) = true_is_false _ _ asks serves

      client : is_asking t.role ≡ true → is_asking u.role ≡ false → IsAnsweredBy t u → Tie t u
      client asks serves h = record {
        ends = record { port = port; back = back; request = inr (request_tie them me theirs mine posted u t other fair b a serves (served_by serves (other.begun u b)) back (own_not_59 theirs u other.ports b) (inr port)) };
        how = answered_by_other asks serves h;
      }

      server : is_asking t.role ≡ false → TookRequest posted them t → TransferHasBegun posted me mine u → Tie t u
      server serves took (served also_serves also_took) =
          let request = request_tie them me theirs mine posted u t other fair b a also_serves also_took back (own_not_59 theirs u other.ports b) (inr port) in
          true_is_false _ _ request.asks serves
      server serves took (unanswered asks unbound none) = none_is_some _ u.peer t.own unbound back
      server serves took (refused asks by_59) = absurd (own_not_59 mine t fair.ports a (port_of t.own 59 (sym back ∙ by_59)))
      server serves took (answered asks s c h) =
          let same : s ≡ t = own_is_one mine s t fair.ports c a (port_of s.own t.own (sym h.port ∙ back)) in
          record {
            ends = record { port = port; back = back; request = inl (request_tie me them mine theirs posted t u fair other a b serves took port (own_not_59 mine t fair.ports a) (inr back)) };
            how = answers_other serves asks (subst (λ (x : Transfer). IsAnsweredBy u x) same h);
          }

      by : TransferHasBegun posted them theirs t → Tie t u
      by (served serves took) = server serves took (other.begun u b)
      by (unanswered asks unbound none) = none_is_some _ t.peer u.own unbound port
      by (refused asks by_59) = absurd (own_not_59 theirs u other.ports b (port_of u.own 59 (sym port ∙ by_59)))
      by (answered asks s c h) =
          let same : s ≡ u = own_is_one theirs s u other.ports c b (port_of s.own u.own (sym h.port ∙ port)) in
          client asks (subst (λ (x : Transfer). is_asking x.role ≡ false) same h.serves) (subst (λ (x : Transfer). IsAnsweredBy t x) same h)

  -- acknowledgements that came have numbers of two bytes
  small_acks : (own : ℕ) (peer : Option ℕ) (got : List PacketView) → AllByRecursion (BroughtFrom posted them own peer) got → AllByRecursion IsSmallAck got
  small_acks own peer got all = all_mapped (BroughtFrom posted them own peer) IsSmallAck (by peer) got all
    where
      by : (peer : Option ℕ) (p : PacketView) → BroughtFrom posted them own peer p → IsSmallAck p
      by None p h = absurd h
      by (Some port) p h = spelled_small p h.bytes (read_is_spelled h.bytes p h.are_bytes h.spells)

-- ---- the blocks that came

-- the file that one end sends and the size in which the other takes it are those of all blocks that the one sends
pub record Sending (t u : Transfer) : Type 0 where
  pub file : List ℕ
  pub sent : file_sent u.role ≡ Some file
  pub blocks : TellsLength u.role → SendsBlocks file (end_block_size (end_of t.role t.got)) u.role u.got

-- the options of a request that was taken are in their range
abbrev OptionsInRange : Role → Type 0
OptionsInRange (ServesRead name o file) = AreInRange o
OptionsInRange (ServesWrite name o) = AreInRange o
OptionsInRange role = Unit {0}

taken_in_range : (role : Role) (p : PacketView) (bytes : List ℕ) → request_taken role ≡ Some p → PacketSpells p bytes → OptionsInRange role
taken_in_range (ServesRead name o file) p bytes e spells = spelled_in_range (Rrq name o) bytes (subst (λ (x : PacketView). PacketSpells x bytes) (sym (some_is (Rrq name o) p e)) spells)
taken_in_range (ServesWrite name o) p bytes e spells = spelled_in_range (Wrq name o) bytes (subst (λ (x : PacketView). PacketSpells x bytes) (sym (some_is (Wrq name o) p e)) spells)
taken_in_range (Reads name o) p bytes e spells = tt
taken_in_range (Writes name o file) p bytes e spells = tt

begun_in_range : (posted : List DatagramView) (side : Side) (theirs : List Transfer) (t : Transfer) → TransferHasBegun posted side theirs t → is_asking t.role ≡ false → OptionsInRange t.role
begun_in_range posted side theirs t (served serves took) e = taken_in_range t.role took.request took.brought.bytes took.taken (read_is_spelled took.brought.bytes took.request took.brought.are_bytes took.brought.spells)
begun_in_range posted side theirs t (unanswered asks unbound none) e = true_is_false _ _ asks e
begun_in_range posted side theirs t (refused asks by_59) e = true_is_false _ _ asks e
begun_in_range posted side theirs t (answered asks s c h) e = true_is_false _ _ asks e

abbrev transfer : Role → ℕ → Option ℕ → List PacketView → Transfer
transfer role own peer got = record { role = role; own = own; peer = peer; got = got }

-- of which end sends, where a block came
sending_by : (role urole : Role) (own uown : ℕ) (peer upeer : Option ℕ) (got ugot heard : List PacketView) (k : ℕ) (payload : List ℕ) → is_receiving role ≡ true → Answering (transfer role own peer got) (transfer urole uown upeer ugot)
    → (is_asking role ≡ false → OptionsInRange role) → (is_asking urole ≡ false → OptionsInRange urole) → AllByRecursion IsSmallAck ugot → IsThatData k payload (end_packet (end_of urole heard)) → Sending (transfer role own peer got) (transfer urole uown upeer ugot)
sending_by (Reads name o) (ServesRead uname uo file) own uown peer upeer got ugot heard k payload receives (answered_by_other asks serves h) range urange small that = record {
  file = file;
  sent = refl;
  blocks = λ few. subst (λ (size : ℕ). SendsBlocks file size (ServesRead uname uo file) ugot) (sym (read_sizes name uname o uo file own uown peer upeer got ugot few (urange refl) h)) (serves_blocks uname uo file ugot small);
}
sending_by (ServesWrite name asked) (Writes uname wanted file) own uown peer upeer got ugot heard k payload receives (answers_other serves asks h) range urange small that = record {
  file = file;
  sent = refl;
  blocks = λ few. subst (λ (size : ℕ). SendsBlocks file size (Writes uname wanted file) ugot) (sym (served_size name asked got))
      (writes_blocks uname wanted file (block_size_of asked) ugot h.first h.rest h.split (write_sizes uname name wanted asked file uown own upeer peer ugot got (range refl) h) small);
}
sending_by (Reads name o) (ServesWrite uname uo) own uown peer upeer got ugot heard k payload receives how range urange small that = absurd (served_no_data uname uo heard k payload that)
sending_by (ServesWrite name o) (Reads uname uo) own uown peer upeer got ugot heard k payload receives how range urange small that = absurd (reads_no_data uname uo heard k payload that)
sending_by (Reads name o) (Reads uname uo) own uown peer upeer got ugot heard k payload receives how range urange small that = absurd (reads_no_data uname uo heard k payload that)
sending_by (ServesWrite name o) (ServesWrite uname uo) own uown peer upeer got ugot heard k payload receives how range urange small that = absurd (served_no_data uname uo heard k payload that)
sending_by (Reads name o) (ServesRead uname uo file) own uown peer upeer got ugot heard k payload receives (answers_other serves asks h) range urange small that = absurd cc
sending_by (Reads name o) (Writes uname uo file) own uown peer upeer got ugot heard k payload receives (answered_by_other asks serves h) range urange small that = absurd cc
sending_by (Reads name o) (Writes uname uo file) own uown peer upeer got ugot heard k payload receives (answers_other serves asks h) range urange small that = absurd cc
sending_by (ServesWrite name o) (Writes uname uo file) own uown peer upeer got ugot heard k payload receives (answered_by_other asks serves h) range urange small that = absurd cc
sending_by (ServesWrite name o) (ServesRead uname uo file) own uown peer upeer got ugot heard k payload receives (answered_by_other asks serves h) range urange small that = absurd cc
sending_by (ServesWrite name o) (ServesRead uname uo file) own uown peer upeer got ugot heard k payload receives (answers_other serves asks h) range urange small that = absurd cc
sending_by (Writes name o file) urole own uown peer upeer got ugot heard k payload receives how range urange small that = absurd cc
sending_by (ServesRead name o file) urole own uown peer upeer got ugot heard k payload receives how range urange small that = absurd cc

-- ---- whole files

from_first_all : (P : PacketView → Type 0) (passes : PacketView → Bool) (got : List PacketView) → AllByRecursion P got → AllByRecursion P (from_first passes got)
from_first_all P passes [] all = tt
from_first_all P passes (p ∷ got) (one, all) = by (passes p) (from_first_all P passes got all)
  where
    by : (b : Bool) → AllByRecursion P (from_first passes got) → AllByRecursion P (cond b (p ∷ got) (from_first passes got))
    by true rest = (one, all)
    by false rest = rest

-- a receiver that is done has the file
whole_is_file : (begin : Receiver) (got : List PacketView) (size : ℕ) (packets : List PacketView) (file : List ℕ) → ReceivesArrived begin got size packets → AllByRecursion (IsOfFile file (receiver_after_all begin got).size) packets
    → (receiver_after_all begin got).phase ≡ Finished → concat (lent begin got) ≡ file
whole_is_file begin got size packets file h all finished =
    let (bytes, arrived) = h.whole.0 finished in
    let same : arrived.payloads ≡ h.arrived.payloads = one_stands size 1 packets arrived.payloads h.arrived.payloads arrived.stand h.arrived.stand in
    sym h.arrived.joined ∙ ap concat (sym same) ∙ arrived.joined ∙ arrives_whole file size packets bytes (subst (λ (n : ℕ). AllByRecursion (IsOfFile file n) packets) h.sized all) arrived

finished_is : (phase : Phase) → is_finished phase ≡ true → phase ≡ Finished
finished_is Waiting e = absurd cc
finished_is Running e = absurd cc
finished_is Finished e = refl
finished_is (Failed code) e = absurd cc

arrived_as : (role : Role) (r : Receiver) (got : List PacketView) → begin_of role ≡ Receives r → arrived_in role got ≡ concat (lent r got)
unfolding arrived_in
arrived_as role r got e = ap (λ (end : LinkEnd). concat (taken_from end got)) e ∙ ap concat (taken_is_lent r got)

received_file : (role : Role) (got : List PacketView) (file : List ℕ) → is_receiving role ≡ true → AllByRecursion (IsOfFile file (end_block_size (end_of role got))) got → is_received (end_of role got) ≡ true → arrived_in role got ≡ file
received_file (Reads name o) got file receives all whole =
    let end : end_of (Reads name o) got ≡ Receives (receiver_after_all (receiver_asking name o) got) = (end_is_of_link name [] o got).0 in
    arrived_as (Reads name o) (receiver_asking name o) got refl
    ∙ whole_is_file (receiver_asking name o) got _ (from_first (answers_read o) got) file (asked_read_arrives name o got)
    (from_first_all (IsOfFile file (receiver_after_all (receiver_asking name o) got).size) (answers_read o) got (subst (λ (x : LinkEnd). AllByRecursion (IsOfFile file (end_block_size x)) got) end all))
    (finished_is _ (subst (λ (x : LinkEnd). is_received x ≡ true) end whole))
received_file (ServesWrite name o) got file receives all whole =
    let end : end_of (ServesWrite name o) got ≡ Receives (receiver_after_all (receiver_serving o) got) = (end_is_of_link name [] o got).1 in
    arrived_as (ServesWrite name o) (receiver_serving o) got refl
    ∙ whole_is_file (receiver_serving o) got _ got file (served_write_arrives o got)
    (subst (λ (x : LinkEnd). AllByRecursion (IsOfFile file (end_block_size x)) got) end all)
    (finished_is _ (subst (λ (x : LinkEnd). is_received x ≡ true) end whole))
received_file (Writes name o f) got file receives all whole = absurd cc
received_file (ServesRead name o f) got file receives all whole = absurd cc

-- ---- no block came

abbrev NoBlock : List PacketView → Type 0
NoBlock got = (k : ℕ) → 1 ≤ k → HasData k got → ⊥

-- one of the packets is a block, or none is
pub data SomeBlock (got : List PacketView) : Type 0 where
  a_block : (k : ℕ) (payload : List ℕ) → 1 ≤ k → Among (Data k payload) got → SomeBlock got
  no_block : NoBlock got → SomeBlock got

some_block : (got : List PacketView) → SomeBlock got
some_block [] = no_block (λ k some h. absurd h)
some_block (p ∷ got) = by p (some_block got)
  where
    more : (p : PacketView) → ((k : ℕ) → 1 ≤ k → IsDataOf k p → ⊥) → SomeBlock got → SomeBlock (p ∷ got)
    more p other (a_block k payload some a) = a_block k payload some (inr a)
    more p other (no_block none) = no_block (λ k some h. ⊎_elim (λ x. other k some x) (λ y. none k some y) h)

    by : (p : PacketView) → SomeBlock got → SomeBlock (p ∷ got)
    by (Data zero payload) rest = more (Data zero payload) (λ k some e. omega (arith, some, e)) rest
    by (Data (suc k) payload) rest = a_block (suc k) payload (omega arith) (inl refl)
    by (Ack k) rest = more (Ack k) (λ k some e. absurd e) rest
    by (Oack o) rest = more (Oack o) (λ k some e. absurd e) rest
    by (Error code m) rest = more (Error code m) (λ k some e. absurd e) rest
    by (Rrq name o) rest = more (Rrq name o) (λ k some e. absurd e) rest
    by (Wrq name o) rest = more (Wrq name o) (λ k some e. absurd e) rest

data_among_right : (k : ℕ) (before : List PacketView) (payload : List ℕ) (rest : List PacketView) → HasData k (before ++ Data k payload ∷ rest)
data_among_right k [] payload rest = inl refl
data_among_right k (p ∷ before) payload rest = inr (data_among_right k before payload rest)

from_first_data : (k : ℕ) (passes : PacketView → Bool) (got : List PacketView) → HasData k (from_first passes got) → HasData k got
from_first_data k passes [] h = h
from_first_data k passes (p ∷ got) h = by (passes p) h (λ x. from_first_data k passes got x)
  where
    by : (b : Bool) → HasData k (cond b (p ∷ got) (from_first passes got)) → (HasData k (from_first passes got) → HasData k got) → IsDataOf k p ⊎ HasData k got
    by true x rest = x
    by false x rest = inr (rest x)

whole_has_block : (size : ℕ) (packets : List PacketView) (payloads : List (List ℕ)) → Stand size 1 packets payloads → EndsShort size payloads → HasData 1 packets
whole_has_block size packets [] stand short = absurd short
whole_has_block size packets (payload ∷ payloads) (before, rest, is, passes, block, then) short = subst (λ (x : List PacketView). HasData 1 x) (sym is) (data_among_right 1 before payload rest)

not_whole : (begin : Receiver) (got : List PacketView) (size : ℕ) (packets : List PacketView) → ReceivesArrived begin got size packets → (HasData 1 packets → ⊥) → (receiver_after_all begin got).phase ≡ Finished → ⊥
not_whole begin got size packets h none finished = let (bytes, arrived) = h.whole.0 finished in none (whole_has_block size packets arrived.payloads arrived.stand arrived.short)

none_received : (role : Role) (got : List PacketView) → NoBlock got → is_received (end_of role got) ≡ true → ⊥
none_received (Reads name o) got none whole =
    not_whole (receiver_asking name o) got _ (from_first (answers_read o) got) (asked_read_arrives name o got) (λ h. none 1 (omega arith) (from_first_data 1 (answers_read o) got h))
    (finished_is _ (subst (λ (x : LinkEnd). is_received x ≡ true) (end_is_of_link name [] o got).0 whole))
none_received (ServesWrite name o) got none whole =
    not_whole (receiver_serving o) got _ got (served_write_arrives o got) (λ h. none 1 (omega arith) h) (finished_is _ (subst (λ (x : LinkEnd). is_received x ≡ true) (end_is_of_link name [] o got).1 whole))
none_received (Writes name o f) got none whole = let wrong : false ≡ true = subst (λ (x : LinkEnd). is_received x ≡ true) (end_is_of_link name f o got).2 whole in cc
none_received (ServesRead name o f) got none whole = let wrong : false ≡ true = subst (λ (x : LinkEnd). is_received x ≡ true) (end_is_of_link name f o got).3 whole in cc

not_true : (b : Bool) → (b ≡ true → ⊥) → b ≡ false
not_true true f = absurd (f refl)
not_true false f = refl

-- ---- what is received

module _ (me them : Side) (mine theirs : List Transfer) (posted : List DatagramView) (t : Transfer) (fair : IsFair me them mine theirs posted) (other : IsFair them me theirs mine posted) (a : Among t mine) (receives : is_receiving t.role ≡ true) where
  -- each block that came is one that the other end sent
  each_block : (u : Transfer) (file : List ℕ) (size : ℕ) → Among u theirs → t.peer ≡ Some u.own → SendsBlocks file size u.role u.got → AllByRecursion (IsOfFile file size) t.got
  each_block u file size b port blocks = all_mapped (BroughtFrom posted them t.own t.peer) (IsOfFile file size) (λ p h. by p (subst (λ (peer : Option ℕ). BroughtFrom posted them t.own peer p) port h)) t.got (fair.got t a)
    where
      by : (p : PacketView) → Brought posted them u.own t.own p → IsOfFile file size p
      by (Data k payload) h = λ some.
          let post : IsPostOf u (record { side = them; from = u.own; to = t.own; bytes = h.bytes }) = posted_by them me theirs mine posted u _ other b h.among refl refl in
          blocks post.heard post.later k payload post.split (data_is_that (end_packet (end_of u.role post.heard)) k payload h.bytes post.bytes (read_is_spelled h.bytes (Data k payload) h.are_bytes h.spells)) some
      by (Ack k) h = tt
      by (Oack o) h = tt
      by (Error code m) h = tt
      by (Rrq name o) h = tt
      by (Wrq name o) h = tt

  brings : (u : Transfer) → Among u theirs → Tie t u → Sending t u → BringsFile t u
  brings u b how s =
      let all : TellsLength u.role → AllByRecursion (IsOfFile s.file (end_block_size (end_in t))) t.got = λ few. each_block u s.file (end_block_size (end_in t)) b how.ends.port (s.blocks few) in
      record {
        ends = how.ends;
        file = s.file;
        sent = s.sent;
        blocks = all;
        whole = λ few whole. received_file t.role t.got s.file receives (all few) whole;
      }

  from_block : (k : ℕ) (payload : List ℕ) (peer : Option ℕ) → t.peer ≡ peer → BroughtFrom posted them t.own peer (Data k payload) → ComesFromEnd theirs t
  from_block k payload None e h = absurd h
  from_block k payload (Some port) e h = by (other.posts (record { side = them; from = port; to = t.own; bytes = h.bytes }) h.among refl)
    where
      that : (q : PacketView) → h.bytes ≡ packet_bytes q → IsThatData k payload q
      that q is = data_is_that q k payload h.bytes is (read_is_spelled h.bytes (Data k payload) h.are_bytes h.spells)

      by : IsPostOfSide theirs (record { side = them; from = port; to = t.own; bytes = h.bytes }) → ComesFromEnd theirs t
      by (of_refusal at is) = absurd (that (Error 1 []) is)
      by (of_transfer u b post) =
          let bound : t.peer ≡ Some u.own = e ∙ ap (λ (p : ℕ). Some p) post.port in
          let how : Tie t u = tie me them mine theirs posted fair other t u a b bound (record { side = them; from = port; to = t.own; bytes = h.bytes }) refl post in
          of_end u b (brings u b how (sending_by t.role u.role t.own u.own t.peer u.peer t.got u.got post.heard k payload receives how.how (begun_in_range posted them theirs t (fair.begun t a)) (begun_in_range posted me mine u (other.begun u b))
          (small_acks them me theirs mine posted other fair u.own u.peer u.got (other.got u b)) (that (end_packet (end_of u.role post.heard)) post.bytes)))

  comes : SomeBlock t.got → ComesFromEnd theirs t
  comes (a_block k payload some b) = from_block k payload t.peer refl (all_at (BroughtFrom posted them t.own t.peer) t.got (Data k payload) (fair.got t a) b)
  comes (no_block none) = of_none none (not_true (is_received (end_in t)) (none_received t.role t.got none))

pub receives_what_was_sent : ReceivesWhatWasSent
receives_what_was_sent me them mine theirs posted t fair other a receives = comes me them mine theirs posted t fair other a receives (some_block t.got)
