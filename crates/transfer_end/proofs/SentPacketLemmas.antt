-- Proofs of what the ends of a transfer send, and of how it is read.
use Rattle.std.proofs.Common.{◌≡◌, ℕ, ◌/◌, ◌%◌, ◌<◌, ◌≤◌, Bool, true, false, cond, List, [], ◌∷◌, ◌++◌, Option, Some, None, Result, Ok, Err, refl, sym, ap, ◌∙◌, append-nil, arith}
use Rattle.std.specs.Prelude.{◌==◌}
use Rattle.std.specs.List.{AllByRecursion}
use Rattle.std.specs.Result.{result_ok}
use Rattle.std.proofs.lemmas.Bool.{eqb-true}
use Rattle.field_grammar.specs.Answers.{answer}
use Rattle.field_grammar.proofs.ExactLemmas.{answer_is_spelled, spelled_whole}
use Rattle.field_grammar.specs.Fields.{number_bytes}
use Rattle.field_grammar.specs.Grammar.{IsBytes}
use Rattle.tftp_packet.specs.declared.fault.PacketFault.{PacketFault}
use Rattle.tftp_packet.specs.declared.options.Options.{Options}
use Rattle.tftp_packet.proofs.PacketLemmas.{read_again, written_spells}
use Rattle.tftp_packet.specs.Packets.{Ack, Data, Error, IsInRange, IsTyped, Oack, PacketSpells, PacketView, Rrq, Wrq, packet, packet_bytes}
use Rattle.tftp_packet.proofs.SpelledLemmas.{ends-packet, packet_is}
use Rattle.tftp_link.specs.declared.phase.Phase.{Phase}
use Rattle.tftp_link.specs.declared.phase.Phase.TheVariants.{Waiting, Running, Finished, Failed}
use Rattle.tftp_link.specs.Answers.{Answer, Completes, Dropped, Proceeds, error_answer}
use Rattle.tftp_link.specs.Blocks.{block_of}
use Rattle.tftp_link.specs.Negotiation.{is_empty}
use Rattle.tftp_link.specs.Sender.{Sender, ack_answer, awaited_answer, data_of, last_of, sender_after, sender_after_all, sender_answer, sender_first, sender_moved, sender_oack_answer, sender_opens, sender_packet}
use Rattle.transfer_end.specs.Packets.{packet_in}

-- ---- how packets are read

read_as : (r : Result PacketView PacketFault) (p : PacketView) → result_ok r ≡ Some p → r ≡ Ok p
read_as (Ok x) p e = cc
read_as (Err fault) p e = absurd cc

-- bytes from which a packet is read spell it
pub read_is_spelled : (bytes : List ℕ) (p : PacketView) → IsBytes bytes → packet_in bytes ≡ Some p → PacketSpells p bytes
unfolding packet_in
read_is_spelled bytes p fit e = packet_is bytes p (spelled_whole packet bytes p ends-packet (answer_is_spelled packet bytes p fit (read_as (answer packet bytes) p e)))

-- a packet in its range is read again
pub written_is_read : (p : PacketView) → IsTyped p → IsInRange p → packet_in (packet_bytes p) ≡ Some p
unfolding packet_in
written_is_read p typed fits = ap result_ok (read_again p (packet_bytes p) (written_spells p typed fits))

-- ---- blocks

-- the packet is the DATA of this number, which it has in two bytes, with this payload
abbrev pub IsThatData : (k : ℕ) (payload : List ℕ) → PacketView → Type 0
IsThatData k payload (Data j b) = (b ≡ payload) × (j ≤ 65536 → 1 ≤ k → j ≡ k)
IsThatData k payload p = ⊥

same_number : (j k : ℕ) → k < 65536 → j / 256 % 256 ≡ k / 256 % 256 → j % 256 ≡ k % 256 → j ≤ 65536 → 1 ≤ k → j ≡ k
same_number j k small high low few some = omega (arith, small, high, low, few, some)

pub data_is_that : (q : PacketView) (k : ℕ) (payload bytes : List ℕ) → bytes ≡ packet_bytes q → PacketSpells (Data k payload) bytes → IsThatData k payload q
unfolding number_bytes
data_is_that (Data j b) k payload bytes e spells =
    let same : packet_bytes (Data j b) ≡ packet_bytes (Data k payload) = sym e ∙ spells.parts in
    let high : j / 256 % 256 ≡ k / 256 % 256 = cc in
    let low : j % 256 ≡ k % 256 = cc in
    let rest : b ++ [] ≡ payload ++ [] = cc in
    (sym (append-nil b) ∙ rest ∙ append-nil payload, same_number j k spells.number high low)
data_is_that (Ack j) k payload bytes e spells = let same : packet_bytes (Ack j) ≡ packet_bytes (Data k payload) = sym e ∙ spells.parts in absurd cc
data_is_that (Oack o) k payload bytes e spells = let same : packet_bytes (Oack o) ≡ packet_bytes (Data k payload) = sym e ∙ spells.parts in absurd cc
data_is_that (Error code m) k payload bytes e spells = let same : packet_bytes (Error code m) ≡ packet_bytes (Data k payload) = sym e ∙ spells.parts in absurd cc
data_is_that (Rrq name o) k payload bytes e spells = let same : packet_bytes (Rrq name o) ≡ packet_bytes (Data k payload) = sym e ∙ spells.parts in absurd cc
data_is_that (Wrq name o) k payload bytes e spells = let same : packet_bytes (Wrq name o) ≡ packet_bytes (Data k payload) = sym e ∙ spells.parts in absurd cc

-- a packet that a block spells is a block
abbrev pub IsSomeData : PacketView → Type 0
IsSomeData (Data k payload) = Unit {0}
IsSomeData p = ⊥

pub data_is_read : (p : PacketView) (j : ℕ) (b : List ℕ) → PacketSpells p (packet_bytes (Data j b)) → IsSomeData p
unfolding number_bytes
data_is_read (Data k payload) j b spells = tt
data_is_read (Ack k) j b spells = let same : packet_bytes (Data j b) ≡ packet_bytes (Ack k) = spells.parts in absurd cc
data_is_read (Oack o) j b spells = let same = spells.parts in absurd cc
data_is_read (Error code m) j b spells = let same = spells.parts in absurd cc
data_is_read (Rrq name o) j b spells = let same = spells.parts in absurd cc
data_is_read (Wrq name o) j b spells = let same = spells.parts in absurd cc

-- ---- a sending end

-- an acknowledgement has a number of two bytes
abbrev pub IsSmallAck : PacketView → Type 0
IsSmallAck (Ack k) = k < 65536
IsSmallAck p = Unit {0}

pub spelled_small : (p : PacketView) (bytes : List ℕ) → PacketSpells p bytes → IsSmallAck p
spelled_small (Ack k) bytes spells = spells.number
spelled_small (Data k b) bytes spells = tt
spelled_small (Oack o) bytes spells = tt
spelled_small (Error code m) bytes spells = tt
spelled_small (Rrq name o) bytes spells = tt
spelled_small (Wrq name o) bytes spells = tt

abbrev pub has_begun : Phase → Bool
has_begun Waiting = false
has_begun Running = true
has_begun Finished = true
has_begun (Failed code) = true

-- a sending end, once its request was answered, with the file and the block size that then stay
pub record IsSendingFile (file : List ℕ) (size : ℕ) (s : Sender) : Type 0 where
  pub same_file : s.file ≡ file
  pub same_size : s.size ≡ size
  pub begun : has_begun s.phase ≡ true
  pub few : s.sent ≤ 65536

module _ (file : List ℕ) (size : ℕ) (s : Sender) (h : IsSendingFile file size s) where
  abbrev Then : Answer → Type 0
  Then answer = IsSendingFile file size (sender_moved s answer)

  then_if : (b : Bool) (x y : Answer) → (b ≡ true → Then x) → Then y → Then (cond b x y)
  then_if true x y f g = f refl
  then_if false x y f g = g

  completes_then : Then Completes
  completes_then = record { same_file = h.same_file; same_size = h.same_size; begun = refl; few = h.few }

  proceeds_then : s.sent < 65536 → Then Proceeds
  proceeds_then small = record { same_file = h.same_file; same_size = h.same_size; begun = refl; few = omega (arith, small) }

  acks_then : (phase : Phase) (k : ℕ) → has_begun phase ≡ true → k < 65536 → Then (ack_answer phase s k)
  acks_then Waiting k begun small = absurd cc
  acks_then Running k begun small = then_if (k == s.sent) (awaited_answer s) Dropped
      (λ e. let sent : k ≡ s.sent = eqb-true k s.sent e in then_if (s.sent == last_of s) Completes Proceeds (λ f. completes_then) (proceeds_then (omega (arith, small, sent)))) h
  acks_then Finished k begun small = h
  acks_then (Failed code) k begun small = h

  oacks_then : (phase : Phase) (o : Options) → has_begun phase ≡ true → Then (sender_oack_answer phase s o)
  oacks_then Waiting o begun = absurd cc
  oacks_then Running o begun = h
  oacks_then Finished o begun = h
  oacks_then (Failed code) o begun = h

  errors_then : (phase : Phase) (code : ℕ) → Then (error_answer phase code)
  errors_then Waiting code = record { same_file = h.same_file; same_size = h.same_size; begun = refl; few = h.few }
  errors_then Running code = record { same_file = h.same_file; same_size = h.same_size; begun = refl; few = h.few }
  errors_then Finished code = h
  errors_then (Failed before) code = h

  packet_then : (p : PacketView) → IsSmallAck p → Then (sender_answer s p)
  packet_then (Ack k) small = acks_then s.phase k h.begun small
  packet_then (Oack o) small = oacks_then s.phase o h.begun
  packet_then (Error code m) small = errors_then s.phase code
  packet_then (Data k b) small = h
  packet_then (Rrq name o) small = h
  packet_then (Wrq name o) small = h

  -- a block that it sent last is a block of its file
  pub sent_is_block : (k : ℕ) (payload : List ℕ) → IsThatData k payload (sender_packet s) → 1 ≤ k → payload ≡ block_of file size k
  sent_is_block k payload = by (s.sent == 0)
    where
      block : (j : ℕ) → j ≤ 65536 → IsThatData k payload (data_of s.file s.size j) → 1 ≤ k → payload ≡ block_of file size k
      block j few (same, number) some =
          let is : j ≡ k = number few some in
          sym same ∙ ap (λ (f : List ℕ). block_of f s.size j) h.same_file ∙ ap (λ (n : ℕ). block_of file n j) h.same_size ∙ ap (λ (n : ℕ). block_of file size n) is

      one_or : (b : Bool) (o : Options) → IsThatData k payload (cond b (data_of s.file s.size 1) (Oack o)) → 1 ≤ k → payload ≡ block_of file size k
      one_or true o that some = block 1 (omega arith) that some
      one_or false o that some = absurd that

      opens : (name : Option (List ℕ)) → IsThatData k payload (sender_opens name s) → 1 ≤ k → payload ≡ block_of file size k
      opens None that some = one_or (is_empty s.options) s.options that some
      opens (Some name) that some = absurd that

      by : (b : Bool) → IsThatData k payload (cond b (sender_first s) (data_of s.file s.size s.sent)) → 1 ≤ k → payload ≡ block_of file size k
      by true that some = opens s.name that some
      by false that some = block s.sent h.few that some

pub all_sending : (file : List ℕ) (size : ℕ) (s : Sender) (packets : List PacketView) → IsSendingFile file size s → AllByRecursion IsSmallAck packets → IsSendingFile file size (sender_after_all s packets)
all_sending file size s [] h small = h
all_sending file size s (p ∷ packets) h (one, small) = all_sending file size (sender_after s p) packets (packet_then file size s h p one) small
