-- A packet on its way moves the end that gets it, and begins a transfer.
use Rattle.std.proofs.Common.{◌≡◌, ℕ, ◌+◌, ◌-◌, ◌*◌, ◌<◌, ◌≤◌, Bool, true, false, cond, List, length, drop, Option, Some, None, refl, subst, arith, ◌⊎◌, inl, inr}
use Rattle.std.specs.Prelude.{nat_le, ◌&&◌, ◌==◌, IfSome}
use Rattle.std.proofs.lemmas.Bool.{cases_lt, eqb-true}
use Rattle.std.proofs.lemmas.Bool.Decides.{nat_tests}
use Rattle.tftp_packet.specs.declared.options.Options.{Options}
use Rattle.tftp_packet.specs.Packets.{Ack, Data, Oack, packet_bytes, Rrq, Wrq}
use Rattle.tftp_link.specs.declared.phase.Phase.{Phase}
use Rattle.tftp_link.specs.declared.phase.Phase.TheVariants.{Waiting, Running, Finished}
use Rattle.tftp_link.specs.Negotiation.{no_options, block_size_of, block_count, fits, asked_by_writer}
use Rattle.tftp_link.specs.Blocks.{block_of}
use Rattle.tftp_link.specs.Answers.{Answer, Dropped, Again}
use Rattle.tftp_link.specs.Receiver.{Receiver, receiver_asking, receiver_serving, receiver_packet, is_next_block, is_last_block, taken_answer}
use Rattle.tftp_link.specs.Sender.{sender_asking, sender_serving, sender_answer, sender_packet}
use Rattle.transfer_completion.proofs.BlockLemmas.{lt_true, lt_false, eq_true, eq_false, full_block, short_block, take_block, take_none, take_whole, count_small, length_small, block_small}
use Rattle.transfer_completion.specs.Laws.{GoesOnAtReceiver, GoesOnAtSender, MovesReceiver, ReceiverGoesOn, SenderGoesOn, FinishedIsWhole, TakenIsSmall, TalkIsRead, ReadingBegins, WritingBegins, RequestsAreRead}
use Rattle.transfer_completion.specs.Talks.{sender, receiver, left_down, left_up, FitsBlocks, phase_at, is_opening, Talk, offers, first, grants, begins, up, down}
use Rattle.field_grammar.specs.Grammar.{IsBytes}
use Rattle.field_grammar.proofs.StepLemmas.{IsBytes-drop, IsBytes-take}
use Rattle.tftp_packet.specs.Options.{AreInRange}
use Rattle.transfer_end.specs.Packets.{packet_in, wanted_options}
use Rattle.transfer_end.proofs.SentPacketLemmas.{written_is_read}

-- ---- the packet that is on its way

going : (file : List ℕ) (size k : ℕ) → k < block_count (length file) size → phase_at file size k ≡ Running
going file size k h = rw (eq_false k (block_count (length file) size) (λ e. omega arith)) refl

over : (file : List ℕ) (size k : ℕ) → k ≡ block_count (length file) size → phase_at file size k ≡ Finished
over file size k h = rw (eq_true k (block_count (length file) size) h) refl

opened : (granted : Option Options) (k : ℕ) → is_opening granted (k + 1) ≡ false
opened granted k = rw (eq_false (k + 1) 0 (λ e. omega arith)) refl

is_next : (r : Receiver) (k : ℕ) (payload : List ℕ) → k ≡ r.taken + 1 → k ≤ 65535 → (length payload < r.size) ⊎ ((length payload ≡ r.size) × (k < 65535)) → is_next_block r k payload ≡ true
is_next r k payload e small (inl lt) = rw (eq_true k (r.taken + 1) e, lt_true (length payload) r.size lt) refl
is_next r k payload e small (inr full) = rw (eq_true k (r.taken + 1) e, lt_false (length payload) r.size (omega arith), eq_true (length payload) r.size full.0, lt_true k 65535 full.1) refl

up_with : (file : List ℕ) (of_sender of_receiver : Option (List ℕ)) (options asked : Options) (granted : Option Options) (size k : ℕ) (phase : Phase) → FitsBlocks file size → k ≤ block_count (length file) size → is_opening granted k ≡ false → phase_at file size k ≡ phase
    → Talk file (sender of_sender file options size k Running) (receiver of_receiver asked granted size k phase) false (receiver_packet (receiver of_receiver asked granted size k phase))
up_with file of_sender of_receiver options asked granted size k phase fits le opens e =
    rw opens (subst (λ (ph : Phase). Talk file (sender of_sender file options size k Running) (receiver of_receiver asked granted size k ph) false (Ack k)) e (up of_sender of_receiver options asked granted size k fits le opens))

-- a block that is on its way is taken
fewer : (count k : ℕ) → k + 1 ≤ count → 2 * (count - (k + 1)) + 1 < 2 * (count - k)
fewer count k le = omega arith

moves : (file : List ℕ) (of_sender of_receiver : Option (List ℕ)) (options asked : Options) (granted : Option Options) (size k : ℕ) (phase next : Phase) → FitsBlocks file size → k < block_count (length file) size → phase_at file size (k + 1) ≡ next
    → MovesReceiver file (sender of_sender file options size (k + 1) Running) (receiver of_receiver asked granted size k phase) (receiver of_receiver asked granted size (k + 1) next) (Data (k + 1) (block_of file size (k + 1))) (block_of file size (k + 1))
moves file of_sender of_receiver options asked granted size k phase next fits lt e = record {
  talk = up_with file of_sender of_receiver options asked granted size (k + 1) next fits (omega arith) (opened granted k) e;
  taken = take_block file size k fits.some lt;
  later = omega arith;
  behind = omega arith;
  left = fewer (block_count (length file) size) k (omega arith);
}

taken_on : (file : List ℕ) (of_sender of_receiver : Option (List ℕ)) (options asked : Options) (granted : Option Options) (size k : ℕ) (phase : Phase) (other : Answer) → FitsBlocks file size
    → (k + 1 < block_count (length file) size) ⊎ (k + 1 ≡ block_count (length file) size)
    → GoesOnAtReceiver file (sender of_sender file options size (k + 1) Running) (receiver of_receiver asked granted size k phase) (Data (k + 1) (block_of file size (k + 1)))
    (cond (is_next_block (receiver of_receiver asked granted size k phase) (k + 1) (block_of file size (k + 1))) (taken_answer (receiver of_receiver asked granted size k phase) (block_of file size (k + 1))) other)
taken_on file of_sender of_receiver options asked granted size k phase other fits (inl more) =
    let full = full_block file size k fits.some more in
    let few = fits.few in
    rw (is_next (receiver of_receiver asked granted size k phase) (k + 1) (block_of file size (k + 1)) refl (omega arith) (inr (full, omega arith)), lt_false (length (block_of file size (k + 1))) size (omega arith))
    (moves file of_sender of_receiver options asked granted size k phase Running fits (omega arith) (going file size (k + 1) more))
taken_on file of_sender of_receiver options asked granted size k phase other fits (inr last) =
    let short = short_block file size k fits.some last in
    let few = fits.few in
    rw (is_next (receiver of_receiver asked granted size k phase) (k + 1) (block_of file size (k + 1)) refl (omega arith) (inl short), lt_true (length (block_of file size (k + 1))) size short)
    (moves file of_sender of_receiver options asked granted size k phase Finished fits (omega arith) (over file size (k + 1) last))

last_or_not : (a b : ℕ) → a ≤ b → (a < b) ⊎ (a ≡ b)
last_or_not a b le = elim (cases_lt a b) [ inl lt ↦ inl lt | inr ge ↦ inr (omega arith) ]

all_left : (n : ℕ) → 2 * (n - 0) + 1 < 2 * n + 2
all_left n = omega arith

pub receiver_goes_on : ReceiverGoesOn
receiver_goes_on file s r p (offers name asked granted may range fits) = rw may (record {
  talk = up_with file None (Some name) granted asked (Some granted) (block_size_of granted) 0 Running fits (omega arith) refl (going file (block_size_of granted) 0 (omega arith));
  taken = take_none file (block_size_of granted);
  later = omega arith;
  behind = tt;
  left = all_left (block_count (length file) (block_size_of granted));
})
receiver_goes_on file s r p (first name options asked fits) = taken_on file None (Some name) options asked None 512 0 Waiting Dropped fits (last_or_not 1 (block_count (length file) 512) (omega arith))
receiver_goes_on file s r p (down of_sender of_receiver options asked granted size k fits more) =
    taken_on file of_sender of_receiver options asked granted size k Running
    (cond (is_last_block (receiver of_receiver asked granted size k Running) (k + 1) (block_of file size (k + 1))) Again Dropped) fits (last_or_not (k + 1) (block_count (length file) size) (omega arith))

same_left : (n : ℕ) → 2 * n < 2 * n + 1
same_left n = omega arith

acked : (file : List ℕ) (of_sender of_receiver : Option (List ℕ)) (options asked : Options) (granted : Option Options) (size k : ℕ) → FitsBlocks file size → (k < block_count (length file) size) ⊎ (k ≡ block_count (length file) size)
    → GoesOnAtSender file (sender of_sender file options size k Running) (receiver of_receiver asked granted size k (phase_at file size k)) (Ack k) (sender_answer (sender of_sender file options size k Running) (Ack k))
acked file of_sender of_receiver options asked granted size k fits (inl more) =
    rw (eq_true k k refl, eq_false k (block_count (length file) size) (λ e. omega arith)) (record {
      talk = rw (eq_false (k + 1) 0 (λ e. omega arith)) (down of_sender of_receiver options asked granted size k fits more);
      later = omega arith;
      behind = omega arith;
      left = rw (eq_false (k + 1) 0 (λ e. omega arith)) (same_left (block_count (length file) size - k));
    })
acked file of_sender of_receiver options asked granted size k fits (inr last) =
    rw (eq_true k k refl, eq_true k (block_count (length file) size) last) refl

first_down : (file : List ℕ) (name : List ℕ) (options asked : Options) (size : ℕ) → FitsBlocks file size → Talk file (sender (Some name) file options size 1 Running) (receiver None asked None size 0 Running) true (Data 1 (block_of file size 1))
first_down file name options asked size fits = down (Some name) None options asked None size 0 fits (omega arith)

pub sender_goes_on : SenderGoesOn
sender_goes_on file s r p (grants name options may range some said fits) = rw (may, said) (record {
  talk = first_down file name options options (block_size_of options) fits;
  later = omega arith;
  behind = tt;
  left = same_left (block_count (length file) (block_size_of options) - 0);
})
sender_goes_on file s r p (begins name fits) = record {
  talk = first_down file name no_options no_options 512 fits;
  later = omega arith;
  behind = omega arith;
  left = same_left (block_count (length file) 512 - 0);
}
sender_goes_on file s r p (up of_sender of_receiver options asked granted size k fits le opens) = acked file of_sender of_receiver options asked granted size k fits (last_or_not k (block_count (length file) size) le)

-- ---- where the transfer stands

finished_at : (file : List ℕ) (size k : ℕ) (b : Bool) → (k == block_count (length file) size) ≡ b → cond b Finished Running ≡ Finished → k ≡ block_count (length file) size
finished_at file size k true e h = eqb-true k (block_count (length file) size) e
finished_at file size k false e h = absurd cc

pub finished_is_whole : FinishedIsWhole
finished_is_whole file s r p (grants name options may range some said fits) e = absurd cc
finished_is_whole file s r p (begins name fits) e = absurd cc
finished_is_whole file s r p (up of_sender of_receiver options asked granted size k fits le opens) e =
    let last = finished_at file size k (k == block_count (length file) size) refl e in
    record {
      running = refl;
      of_file = refl;
      size = refl;
      fits = fits;
      sent = refl;
      last = last;
      packet = refl;
      taken = take_whole file size k fits.some last;
    }

pub taken_is_small : TakenIsSmall
taken_is_small file s r b p (offers name asked granted may range fits) = omega arith
taken_is_small file s r b p (first name options asked fits) = omega arith
taken_is_small file s r b p (grants name options may range some said fits) = omega arith
taken_is_small file s r b p (begins name fits) = omega arith
taken_is_small file s r b p (up of_sender of_receiver options asked granted size k fits le opens) = let few = fits.few in omega arith
taken_is_small file s r b p (down of_sender of_receiver options asked granted size k fits lt) = let few = fits.few in omega arith

pub data_read : (file : List ℕ) (size k : ℕ) → FitsBlocks file size → k ≤ 65535 → IsBytes file → packet_in (packet_bytes (Data k (block_of file size k))) ≡ Some (Data k (block_of file size k))
data_read file size k fits small bytes =
    let few = block_small file size k in
    let most = fits.most in
    written_is_read (Data k (block_of file size k)) (omega arith, IsBytes-take size (drop ((k - 1) * size) file) (IsBytes-drop ((k - 1) * size) file bytes)) (omega arith)

ack_read : (k : ℕ) → k ≤ 65535 → packet_in (packet_bytes (Ack k)) ≡ Some (Ack k)
ack_read k small = written_is_read (Ack k) (omega arith) tt

pub talk_is_read : TalkIsRead
talk_is_read file s r b p (offers name asked granted may range fits) bytes = written_is_read (Oack granted) tt range
talk_is_read file s r b p (first name options asked fits) bytes = data_read file 512 1 fits (omega arith) bytes
talk_is_read file s r b p (grants name options may range some said fits) bytes = written_is_read (Oack options) tt range
talk_is_read file s r b p (begins name fits) bytes = ack_read 0 (omega arith)
talk_is_read file s r b p (up of_sender of_receiver options asked granted size k fits le opens) bytes = let few = fits.few in ack_read k (omega arith)
talk_is_read file s r b p (down of_sender of_receiver options asked granted size k fits lt) bytes = let few = fits.few in data_read file size (k + 1) fits (omega arith) bytes

-- ---- how a transfer begins

le_itself : (n : ℕ) → nat_le n n ≡ true
le_itself n = grind (arith, nat_tests)

le_of : (a b : ℕ) → nat_le a b ≡ true → a ≤ b
le_of a b e = grind (arith, nat_tests)

both : (a b : Bool) → (a && b) ≡ true → (a ≡ true) × (b ≡ true)
both true b e = (refl, e)
both false b e = absurd cc

abbrev sized : Option ℕ → (length : ℕ) → Options
sized size length = record { blksize = size; timeout = None; tsize = Some length }

abbrev ReadBegins : (name file : List ℕ) → Options → Type 0
ReadBegins name file options = Talk file (sender_serving file options) (receiver_asking name options) true (sender_packet (sender_serving file options))
    × (left_down file (receiver_asking name options) (sender_packet (sender_serving file options)) < 2 * length file + 5)

abbrev WriteBegins : (name file : List ℕ) → Options → Type 0
WriteBegins name file options =
    Talk file (sender_asking name file options) (receiver_serving (sender_asking name file options).options) false (receiver_packet (receiver_serving (sender_asking name file options).options))
    × (left_up file (receiver_serving (sender_asking name file options).options) < 2 * length file + 5)

range_of : (size : Option ℕ) (n : ℕ) → IfSome size (λ n. (8 ≤ n) × (n ≤ 65464)) → n ≤ 4294967295 → AreInRange (sized size n)
range_of size n within small = record { blksize = within; timeout = tt; tsize = (omega arith, small) }

few_down : (n size k : ℕ) → 2 * (block_count n size - k) < 2 * n + 5
few_down n size k = let h = count_small n size in omega arith

few_offers : (n size : ℕ) → 2 * block_count n size + 2 < 2 * n + 5
few_offers n size = let h = count_small n size in omega arith

few_up : (n size k : ℕ) → 2 * (block_count n size - k) + 1 < 2 * n + 5
few_up n size k = let h = count_small n size in omega arith

fits_with : (file : List ℕ) (n : ℕ) → 8 ≤ n → n ≤ 65464 → fits (length file) n ≡ true → FitsBlocks file n
fits_with file n low high e = record { some = omega arith; most = high; few = le_of (block_count (length file) n) 65535 e }

-- where the file fits the size that is asked for, or not
read_sized : (name file : List ℕ) (n : ℕ) (b : Bool) → fits (length file) n ≡ b → 8 ≤ n → n ≤ 65464 → FitsBlocks file 512 → ReadBegins name file (sized (Some n) 0)
read_sized name file n true e low high fit = rw e (
  offers name (sized (Some n) 0) (sized (Some n) (length file)) (rw (le_itself n) refl) (range_of (Some n) (length file) (low, high) (length_small (length file) fit.few)) (fits_with file n low high e),
  few_offers (length file) n,
)
read_sized name file n false e low high fit = rw e (
  offers name (sized (Some n) 0) (sized None (length file)) refl (range_of None (length file) tt (length_small (length file) fit.few)) fit,
  few_offers (length file) 512,
)

write_sized : (name file : List ℕ) (n : ℕ) (b : Bool) → fits (length file) n ≡ b → 8 ≤ n → n ≤ 65464 → FitsBlocks file 512 → WriteBegins name file (sized (Some n) (length file))
write_sized name file n true e low high fit = rw e (
  grants name (sized (Some n) (length file)) (rw (le_itself n) refl) (range_of (Some n) (length file) (low, high) (length_small (length file) fit.few)) refl e (fits_with file n low high e),
  few_up (length file) n 0,
)
write_sized name file n false e low high fit = rw e (
  grants name (sized None (length file)) refl (range_of None (length file) tt (length_small (length file) fit.few)) refl refl fit,
  few_up (length file) 512 0,
)

by_range : (P : Options → Type 0) (n size : ℕ) (b : Bool) → (nat_le 8 n && nat_le n 65464) ≡ b → (8 ≤ n → n ≤ 65464 → P (sized (Some n) size)) → P no_options → P (cond b (sized (Some n) size) no_options)
by_range P n size true e within none = let (low, high) = both (nat_le 8 n) (nat_le n 65464) e in within (le_of 8 n low) (le_of n 65464 high)
by_range P n size false e within none = none

read_plain : (name file : List ℕ) → FitsBlocks file 512 → ReadBegins name file no_options
read_plain name file fit = (first name no_options no_options fit, few_down (length file) 512 0)

write_plain : (name file : List ℕ) → FitsBlocks file 512 → WriteBegins name file no_options
write_plain name file fit = (begins name fit, few_up (length file) 512 0)

pub reading_begins : ReadingBegins
reading_begins name file None fit = read_plain name file fit
reading_begins name file (Some n) fit =
    by_range (λ (o : Options). ReadBegins name file o) n 0 (nat_le 8 n && nat_le n 65464) refl (λ low high. read_sized name file n (fits (length file) n) refl low high fit) (read_plain name file fit)

pub writing_begins : WritingBegins
writing_begins name file None fit = write_plain name file fit
writing_begins name file (Some n) fit =
    by_range (λ (o : Options). WriteBegins name file o) n (length file) (nat_le 8 n && nat_le n 65464) refl (λ low high. write_sized name file n (fits (length file) n) refl low high fit) (write_plain name file fit)

-- ---- requests

no_range : AreInRange no_options
no_range = record { blksize = tt; timeout = tt; tsize = tt }

read_range : (told : Option ℕ) → AreInRange (wanted_options told 0)
read_range None = no_range
read_range (Some n) = by_range (λ (o : Options). AreInRange o) n 0 (nat_le 8 n && nat_le n 65464) refl (λ low high. range_of (Some n) 0 (low, high) (omega arith)) no_range

fitting_range : (n length : ℕ) (b : Bool) → 8 ≤ n → n ≤ 65464 → length ≤ 4294967295 → AreInRange (record { blksize = cond b (Some n) None; timeout = None; tsize = Some length })
fitting_range n length true low high small = range_of (Some n) length (low, high) small
fitting_range n length false low high small = range_of None length tt small

write_range : (file : List ℕ) (told : Option ℕ) → length file ≤ 4294967295 → AreInRange (asked_by_writer (length file) (wanted_options told (length file)))
write_range file None small = no_range
write_range file (Some n) small =
    by_range (λ (o : Options). AreInRange (asked_by_writer (length file) o)) n (length file) (nat_le 8 n && nat_le n 65464) refl
    (λ low high. fitting_range n (length file) (fits (length file) n) low high small) no_range

pub requests_are_read : RequestsAreRead
requests_are_read name file told named fit = (
  written_is_read (Rrq name (wanted_options told 0)) named (read_range told),
  written_is_read (Wrq name (asked_by_writer (length file) (wanted_options told (length file)))) named (write_range file told (length_small (length file) fit.few)),
)
