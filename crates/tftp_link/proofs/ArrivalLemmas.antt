-- What a receiving end lends is what arrived, and it knows how much that is.
use Rattle.std.proofs.Common.{◌≡◌, ℕ, suc, ◌+◌, Bool, true, false, cond, eqb, ◌&&◌, List, [], ◌∷◌, ◌++◌, length, Some, refl, sym, ap, subst, ◌∙◌, arith}
use Rattle.std.specs.Prelude.{nat_lt, ◌==◌, if◌then◌else◌, ◌↔◌, MatchBool}
use Rattle.std.specs.List.{AllByRecursion, concat}
use Rattle.std.proofs.lemmas.Bool.{eqb-true, eq-eqb, ltb-true, lt-ltb}
use Rattle.std.proofs.lemmas.List.Sums.{fold-append}
use Rattle.tftp_packet.specs.declared.options.Options.{Options}
use Rattle.tftp_packet.specs.Packets.{PacketView, Rrq, Wrq, Data, Ack, Error, Oack}
use Rattle.tftp_link.specs.declared.phase.Phase.{Phase}
use Rattle.tftp_link.specs.declared.phase.Phase.TheVariants.{Waiting, Running, Finished, Failed}
use Rattle.tftp_link.specs.Negotiation.{block_size_of, may_grant}
use Rattle.tftp_link.specs.Blocks.{is_block}
use Rattle.tftp_link.specs.Answers.{Answer, Dropped, Again, Grants, TakesBlock, TakesLast, Proceeds, Completes, Fails, lent_by, is_finished, error_answer}
use Rattle.tftp_link.specs.Receiver.{Receiver, receiver_asking, receiver_serving, receiver_answer, receiver_moved, receiver_after, receiver_after_all, receiver_packet, acceptance, is_next_block, is_last_block, taken_answer, were_granted, data_answer, receiver_oack_answer}
use Rattle.tftp_link.specs.Arrival.{answers_read, from_first, bound_size, Stand, PassesBlock, IsBlock, BeginsWithError, EndsShort, ArrivedSoFar}
use Rattle.tftp_link.specs.Laws.{lent, IsWholeFile, ReceivesArrived, ServedWriteArrives, AskedReadArrives, OneStands, BringsLastBlock, ServedLastMakesWhole, AskedLastMakesWhole, ServedWriteAcknowledges, AskedReadAcknowledges, asked_read_sent}

-- ---- what stands among packets, computed

-- the payloads from block k on
abbrev pub standing : (size k : ℕ) → List PacketView → List (List ℕ)
standing size k [] = []
standing size k (Data j payload ∷ packets) =
    if (j == k) && is_block size j payload
    then payload ∷ (if nat_lt (length payload) size then [] else standing size (k + 1) packets)
    else standing size k packets
standing size k (Error code message ∷ packets) = []
standing size k (Ack j ∷ packets) = standing size k packets
standing size k (Rrq name options ∷ packets) = standing size k packets
standing size k (Wrq name options ∷ packets) = standing size k packets
standing size k (Oack options ∷ packets) = standing size k packets

-- one more packet before, which is passed
prepend : (size k : ℕ) (p : PacketView) (ps : List PacketView) (bs : List (List ℕ)) → PassesBlock size k p → Stand size k ps bs → Stand size k (p ∷ ps) bs
prepend size k p ps [] pass (before, rest, e, all, ends) = (p ∷ before, rest, ap (λ (l : List PacketView). p ∷ l) e, (pass, all), ends)
prepend size k p ps (b ∷ bs) pass (before, rest, e, all, is, others) = (p ∷ before, rest, ap (λ (l : List PacketView). p ∷ l) e, (pass, all), is, others)

pub and_parts : (a b : Bool) → (a && b) ≡ true → (a ≡ true) × (b ≡ true)
and_parts true b e = (refl, e)
and_parts false b e = absurd cc

both_hold : (x y : ℕ) (b : Bool) → x ≡ y → b ≡ true → (eqb x y && b) ≡ true
both_hold x y b same holds =
    let one : eqb x y ≡ true = eq-eqb x y same in
    rw (one, holds) refl

is_true_false : (b : Bool) → b ≡ false → b ≡ true → ⊥
is_true_false b e f = let g : true ≡ false = sym f ∙ e in absurd cc

short_stands : (size k : ℕ) (s : Bool) (ps : List PacketView) (bs : List (List ℕ)) → Stand size (k + 1) ps bs
    → MatchBool s (cond s [] bs ≡ []) (Stand size (k + 1) ps (cond s [] bs))
short_stands size k true ps bs later = refl
short_stands size k false ps bs later = later

data_stands : (size k j : ℕ) (b : List ℕ) (ps : List PacketView) (t : Bool) → (eqb j k && is_block size j b) ≡ t
    → Stand size (k + 1) ps (standing size (k + 1) ps) → Stand size k ps (standing size k ps)
    → Stand size k (Data j b ∷ ps) (cond t (b ∷ cond (nat_lt (length b) size) [] (standing size (k + 1) ps)) (standing size k ps))
data_stands size k j b ps true e later here =
    let parts = and_parts (eqb j k) (is_block size j b) e in
    let same : j ≡ k = eqb-true _ _ parts.0 in
    ([], ps, rw same refl, tt, subst (λ (i : ℕ). is_block size i b ≡ true) same parts.1, short_stands size k (nat_lt (length b) size) ps (standing size (k + 1) ps) later)
data_stands size k j b ps false e later here =
    prepend size k (Data j b) ps (standing size k ps)
    (λ h. h, λ both. is_true_false _ e (both_hold j k (is_block size j b) both.0 (subst (λ (i : ℕ). is_block size i b ≡ true) (sym both.0) both.1)))
    here

pub stands : (size k : ℕ) (ps : List PacketView) → Stand size k ps (standing size k ps)
stands size k [] = ([], [], refl, tt, tt)
stands size k (Data j b ∷ ps) = data_stands size k j b ps ((j == k) && is_block size j b) refl (stands size (k + 1) ps) (stands size k ps)
stands size k (Error code m ∷ ps) = ([], Error code m ∷ ps, refl, tt, tt)
stands size k (Ack j ∷ ps) = prepend size k (Ack j) ps _ (λ h. h, λ h. h) (stands size k ps)
stands size k (Rrq name o ∷ ps) = prepend size k (Rrq name o) ps _ (λ h. h, λ h. h) (stands size k ps)
stands size k (Wrq name o ∷ ps) = prepend size k (Wrq name o) ps _ (λ h. h, λ h. h) (stands size k ps)
stands size k (Oack o ∷ ps) = prepend size k (Oack o) ps _ (λ h. h, λ h. h) (stands size k ps)

-- ---- nothing else stands there

data_passed : (size k j : ℕ) (b : List ℕ) (ps : List PacketView) (t : Bool) → (eqb j k && is_block size j b) ≡ t → (IsBlock size k (Data j b) → ⊥)
    → cond t (b ∷ cond (nat_lt (length b) size) [] (standing size (k + 1) ps)) (standing size k ps) ≡ standing size k ps
data_passed size k j b ps true e pass =
    let parts = and_parts (eqb j k) (is_block size j b) e in
    let same : j ≡ k = eqb-true _ _ parts.0 in
    absurd (pass (same, subst (λ (i : ℕ). is_block size i b ≡ true) same parts.1))
data_passed size k j b ps false e pass = refl

passed : (size k : ℕ) (before rest : List PacketView) → AllByRecursion (PassesBlock size k) before → standing size k (before ++ rest) ≡ standing size k rest
passed size k [] rest all = refl
passed size k (Data j b ∷ before) rest (pass, all) =
    data_passed size k j b (before ++ rest) ((j == k) && is_block size j b) refl pass.1 ∙ passed size k before rest all
passed size k (Error code m ∷ before) rest (pass, all) = absurd (pass.0 tt)
passed size k (Ack j ∷ before) rest (pass, all) = passed size k before rest all
passed size k (Rrq name o ∷ before) rest (pass, all) = passed size k before rest all
passed size k (Wrq name o ∷ before) rest (pass, all) = passed size k before rest all
passed size k (Oack o ∷ before) rest (pass, all) = passed size k before rest all

ended : (size k : ℕ) (rest : List PacketView) → BeginsWithError rest → standing size k rest ≡ []
ended size k [] ends = refl
ended size k (Error code m ∷ ps) ends = refl
ended size k (Data j b ∷ ps) ends = absurd ends
ended size k (Ack j ∷ ps) ends = absurd ends
ended size k (Rrq name o ∷ ps) ends = absurd ends
ended size k (Wrq name o ∷ ps) ends = absurd ends
ended size k (Oack o ∷ ps) ends = absurd ends

found : (size k : ℕ) (b : List ℕ) (rest : List PacketView) → is_block size k b ≡ true
    → standing size k (Data k b ∷ rest) ≡ b ∷ cond (nat_lt (length b) size) [] (standing size (k + 1) rest)
found size k b rest is = rw (both_hold k k (is_block size k b) refl is) refl

after_found : (size k : ℕ) (b : List ℕ) (rest : List PacketView) (bs : List (List ℕ)) (s : Bool) → nat_lt (length b) size ≡ s
    → MatchBool s (bs ≡ []) (Stand size (k + 1) rest bs) → (Stand size (k + 1) rest bs → bs ≡ standing size (k + 1) rest)
    → b ∷ bs ≡ b ∷ cond (nat_lt (length b) size) [] (standing size (k + 1) rest)
after_found size k b rest bs true short none later = rw (short, none) refl
after_found size k b rest bs false full more later = rw full (ap (λ (l : List (List ℕ)). b ∷ l) (later more))

pub only : (size k : ℕ) (ps : List PacketView) (bs : List (List ℕ)) → Stand size k ps bs → bs ≡ standing size k ps
only size k ps [] (before, rest, e, all, ends) = sym (ap (standing size k) e ∙ passed size k before rest all ∙ ended size k rest ends)
only size k ps (b ∷ bs) (before, rest, e, all, is, others) =
    after_found size k b rest bs (nat_lt (length b) size) refl others (λ more. only size (k + 1) rest bs more)
    ∙ sym (ap (standing size k) e ∙ passed size k before (Data k b ∷ rest) all ∙ found size k b rest is)

pub one_stands : OneStands
one_stands size k packets one other is also = only size k packets one is ∙ sym (only size k packets other also)

-- ---- what a receiving end lends, and what it knows then

-- the end with this many blocks taken, in this phase
abbrev pub stage : Receiver → ℕ → Phase → Receiver
stage r n phase = record { name = r.name; asked = r.asked; granted = r.granted; size = r.size; taken = n; phase = phase }

-- the last payload that stands is short
abbrev pub ends_short : (size : ℕ) → List (List ℕ) → Bool
ends_short size [] = false
ends_short size (b ∷ []) = nat_lt (length b) size
ends_short size (b ∷ c ∷ bs) = ends_short size (c ∷ bs)

-- the phase that packets lead to, where block k is next
abbrev pub phase_after : (size k : ℕ) → List PacketView → Phase
phase_after size k [] = Running
phase_after size k (Data j b ∷ ps) =
    if (j == k) && is_block size j b then (if nat_lt (length b) size then Finished else phase_after size (k + 1) ps) else phase_after size k ps
phase_after size k (Error code m ∷ ps) = Failed code
phase_after size k (Ack j ∷ ps) = phase_after size k ps
phase_after size k (Rrq name o ∷ ps) = phase_after size k ps
phase_after size k (Wrq name o ∷ ps) = phase_after size k ps
phase_after size k (Oack o ∷ ps) = phase_after size k ps

-- a packet that is dropped or answered again lends nothing, and leaves the end as it is
quiet_lends : (r : Receiver) (b : Bool) (ps : List PacketView) → lent_by (cond b Again Dropped) ++ lent (receiver_moved r (cond b Again Dropped)) ps ≡ lent r ps
quiet_lends r true ps = refl
quiet_lends r false ps = refl

quiet_stays : (r : Receiver) (b : Bool) → receiver_moved r (cond b Again Dropped) ≡ r
quiet_stays r true = refl
quiet_stays r false = refl

pub finished_lends : (r : Receiver) (n : ℕ) (ps : List PacketView) → lent (stage r n Finished) ps ≡ []
finished_lends r n [] = refl
finished_lends r n (Data k b ∷ ps) = quiet_lends (stage r n Finished) (is_last_block (stage r n Finished) k b) ps ∙ finished_lends r n ps
finished_lends r n (Ack k ∷ ps) = finished_lends r n ps
finished_lends r n (Error code m ∷ ps) = finished_lends r n ps
finished_lends r n (Rrq name o ∷ ps) = finished_lends r n ps
finished_lends r n (Wrq name o ∷ ps) = finished_lends r n ps
finished_lends r n (Oack o ∷ ps) = finished_lends r n ps

pub finished_stays : (r : Receiver) (n : ℕ) (ps : List PacketView) → receiver_after_all (stage r n Finished) ps ≡ stage r n Finished
finished_stays r n [] = refl
finished_stays r n (Data k b ∷ ps) =
    ap (λ (x : Receiver). receiver_after_all x ps) (quiet_stays (stage r n Finished) (is_last_block (stage r n Finished) k b)) ∙ finished_stays r n ps
finished_stays r n (Ack k ∷ ps) = finished_stays r n ps
finished_stays r n (Error code m ∷ ps) = finished_stays r n ps
finished_stays r n (Rrq name o ∷ ps) = finished_stays r n ps
finished_stays r n (Wrq name o ∷ ps) = finished_stays r n ps
finished_stays r n (Oack o ∷ ps) = finished_stays r n ps

pub failed_lends : (r : Receiver) (n code : ℕ) (ps : List PacketView) → lent (stage r n (Failed code)) ps ≡ []
failed_lends r n code [] = refl
failed_lends r n code (Data k b ∷ ps) = failed_lends r n code ps
failed_lends r n code (Ack k ∷ ps) = failed_lends r n code ps
failed_lends r n code (Error c m ∷ ps) = failed_lends r n code ps
failed_lends r n code (Rrq name o ∷ ps) = failed_lends r n code ps
failed_lends r n code (Wrq name o ∷ ps) = failed_lends r n code ps
failed_lends r n code (Oack o ∷ ps) = failed_lends r n code ps

pub failed_stays : (r : Receiver) (n code : ℕ) (ps : List PacketView) → receiver_after_all (stage r n (Failed code)) ps ≡ stage r n (Failed code)
failed_stays r n code [] = refl
failed_stays r n code (Data k b ∷ ps) = failed_stays r n code ps
failed_stays r n code (Ack k ∷ ps) = failed_stays r n code ps
failed_stays r n code (Error c m ∷ ps) = failed_stays r n code ps
failed_stays r n code (Rrq name o ∷ ps) = failed_stays r n code ps
failed_stays r n code (Wrq name o ∷ ps) = failed_stays r n code ps
failed_stays r n code (Oack o ∷ ps) = failed_stays r n code ps

-- what is left to come lends so
abbrev LendsFrom : Receiver → List PacketView → Type 0
LendsFrom r ps = (n : ℕ) → lent (stage r n Running) ps ≡ standing r.size (n + 1) ps

taken_lends : (r : Receiver) (n : ℕ) (b : List ℕ) (ps : List PacketView) (s : Bool) → LendsFrom r ps
    → lent_by (cond s (TakesLast b) (TakesBlock b)) ++ lent (receiver_moved (stage r n Running) (cond s (TakesLast b) (TakesBlock b))) ps ≡ b ∷ cond s [] (standing r.size (n + 1 + 1) ps)
taken_lends r n b ps true later = ap (λ (l : List (List ℕ)). b ∷ l) (finished_lends r (n + 1) ps)
taken_lends r n b ps false later = ap (λ (l : List (List ℕ)). b ∷ l) (later (n + 1))

data_lends : (r : Receiver) (n k : ℕ) (b : List ℕ) (ps : List PacketView) (t l : Bool) → LendsFrom r ps
    → lent_by (cond t (taken_answer (stage r n Running) b) (cond l Again Dropped)) ++ lent (receiver_moved (stage r n Running) (cond t (taken_answer (stage r n Running) b) (cond l Again Dropped))) ps
    ≡ cond t (b ∷ cond (nat_lt (length b) r.size) [] (standing r.size (n + 1 + 1) ps)) (standing r.size (n + 1) ps)
data_lends r n k b ps true l later = taken_lends r n b ps (nat_lt (length b) r.size) later
data_lends r n k b ps false l later = quiet_lends (stage r n Running) l ps ∙ later n

pub running_lends : (r : Receiver) (ps : List PacketView) → LendsFrom r ps
running_lends r [] n = refl
running_lends r (Data k b ∷ ps) n = data_lends r n k b ps (is_next_block (stage r n Running) k b) (is_last_block (stage r n Running) k b) (running_lends r ps)
running_lends r (Error code m ∷ ps) n = failed_lends r n code ps
running_lends r (Ack k ∷ ps) n = running_lends r ps n
running_lends r (Rrq name o ∷ ps) n = running_lends r ps n
running_lends r (Wrq name o ∷ ps) n = running_lends r ps n
running_lends r (Oack o ∷ ps) n = quiet_lends (stage r n Running) ((n == 0) && were_granted r.granted o) ps ∙ running_lends r ps n

-- what is left to come leads to this
abbrev LeadsTo : Receiver → List PacketView → Type 0
LeadsTo r ps = (n : ℕ) → receiver_after_all (stage r n Running) ps ≡ stage r (n + length (standing r.size (n + 1) ps)) (phase_after r.size (n + 1) ps)

stage_at : (r : Receiver) (m n : ℕ) (phase : Phase) → m ≡ n → stage r m phase ≡ stage r n phase
stage_at r m n phase e = ap (λ (i : ℕ). stage r i phase) e

taken_leads : (r : Receiver) (n : ℕ) (b : List ℕ) (ps : List PacketView) (s : Bool) → LeadsTo r ps
    → receiver_after_all (receiver_moved (stage r n Running) (cond s (TakesLast b) (TakesBlock b))) ps
    ≡ stage r (n + length (b ∷ cond s [] (standing r.size (n + 1 + 1) ps))) (cond s Finished (phase_after r.size (n + 1 + 1) ps))
taken_leads r n b ps true later = finished_stays r (n + 1) ps ∙ stage_at r _ _ Finished refl
taken_leads r n b ps false later = later (n + 1) ∙ stage_at r _ _ (phase_after r.size (n + 1 + 1) ps) (omega arith)

data_leads : (r : Receiver) (n k : ℕ) (b : List ℕ) (ps : List PacketView) (t l : Bool) → LeadsTo r ps
    → receiver_after_all (receiver_moved (stage r n Running) (cond t (taken_answer (stage r n Running) b) (cond l Again Dropped))) ps
    ≡ stage r (n + length (cond t (b ∷ cond (nat_lt (length b) r.size) [] (standing r.size (n + 1 + 1) ps)) (standing r.size (n + 1) ps)))
    (cond t (cond (nat_lt (length b) r.size) Finished (phase_after r.size (n + 1 + 1) ps)) (phase_after r.size (n + 1) ps))
data_leads r n k b ps true l later = taken_leads r n b ps (nat_lt (length b) r.size) later
data_leads r n k b ps false l later = ap (λ (x : Receiver). receiver_after_all x ps) (quiet_stays (stage r n Running) l) ∙ later n

pub running_leads : (r : Receiver) (ps : List PacketView) → LeadsTo r ps
running_leads r [] n = stage_at r n (n + 0) Running (omega arith)
running_leads r (Data k b ∷ ps) n = data_leads r n k b ps (is_next_block (stage r n Running) k b) (is_last_block (stage r n Running) k b) (running_leads r ps)
running_leads r (Error code m ∷ ps) n = failed_stays r n code ps ∙ stage_at r n (n + 0) (Failed code) (omega arith)
running_leads r (Ack k ∷ ps) n = running_leads r ps n
running_leads r (Rrq name o ∷ ps) n = running_leads r ps n
running_leads r (Wrq name o ∷ ps) n = running_leads r ps n
running_leads r (Oack o ∷ ps) n = ap (λ (x : Receiver). receiver_after_all x ps) (quiet_stays (stage r n Running) ((n == 0) && were_granted r.granted o)) ∙ running_leads r ps n

-- ---- the phase

pub more_short : (size : ℕ) (b : List ℕ) (bs : List (List ℕ)) → nat_lt (length b) size ≡ false → ends_short size bs ≡ ends_short size (b ∷ bs)
more_short size b [] full = sym full
more_short size b (c ∷ bs) full = refl

data_finishes : (size k : ℕ) (b : List ℕ) (ps : List PacketView) (t s : Bool) → nat_lt (length b) size ≡ s
    → is_finished (phase_after size (k + 1) ps) ≡ ends_short size (standing size (k + 1) ps)
    → is_finished (phase_after size k ps) ≡ ends_short size (standing size k ps)
    → is_finished (cond t (cond s Finished (phase_after size (k + 1) ps)) (phase_after size k ps))
    ≡ ends_short size (cond t (b ∷ cond s [] (standing size (k + 1) ps)) (standing size k ps))
data_finishes size k b ps true true short later here = sym short
data_finishes size k b ps true false full later here = later ∙ more_short size b (standing size (k + 1) ps) full
data_finishes size k b ps false s e later here = here

-- it is over without an ERROR where the last payload that stands is short
pub finishes : (size k : ℕ) (ps : List PacketView) → is_finished (phase_after size k ps) ≡ ends_short size (standing size k ps)
finishes size k [] = refl
finishes size k (Data j b ∷ ps) = data_finishes size k b ps ((j == k) && is_block size j b) (nat_lt (length b) size) refl (finishes size (k + 1) ps) (finishes size k ps)
finishes size k (Error code m ∷ ps) = refl
finishes size k (Ack j ∷ ps) = finishes size k ps
finishes size k (Rrq name o ∷ ps) = finishes size k ps
finishes size k (Wrq name o ∷ ps) = finishes size k ps
finishes size k (Oack o ∷ ps) = finishes size k ps

pub short_is : (size : ℕ) (bs : List (List ℕ)) → EndsShort size bs → ends_short size bs ≡ true
short_is size [] h = absurd h
short_is size (b ∷ []) h = lt-ltb (length b) size h
short_is size (b ∷ c ∷ bs) h = short_is size (c ∷ bs) h

is_short : (size : ℕ) (bs : List (List ℕ)) → ends_short size bs ≡ true → EndsShort size bs
is_short size [] e = absurd cc
is_short size (b ∷ []) e = ltb-true (length b) size e
is_short size (b ∷ c ∷ bs) e = is_short size (c ∷ bs) e

finished_is : (phase : Phase) → is_finished phase ≡ true → phase ≡ Finished
finished_is Waiting e = absurd cc
finished_is Running e = absurd cc
finished_is Finished e = refl
finished_is (Failed code) e = absurd cc

-- ---- an end that lends what stands, and knows it

receives : (begin : Receiver) (got : List PacketView) (size : ℕ) (packets : List PacketView) → lent begin got ≡ standing size 1 packets
    → (receiver_after_all begin got).taken ≡ length (standing size 1 packets) → (receiver_after_all begin got).size ≡ size
    → is_finished (receiver_after_all begin got).phase ≡ ends_short size (standing size 1 packets) → ReceivesArrived begin got size packets
receives begin got size packets lends takes sized ends = record {
  arrived = record { payloads = standing size 1 packets; stand = stands size 1 packets; joined = ap concat (sym lends) };
  counted = λ bs stand. takes ∙ ap length (sym (only size 1 packets bs stand));
  sized = sized;
  whole = (
    λ over. (
      concat (standing size 1 packets),
      record {
        payloads = standing size 1 packets;
        stand = stands size 1 packets;
        short = is_short size (standing size 1 packets) (sym ends ∙ ap is_finished over);
        joined = refl;
      },
    ),
    λ (bytes, file). finished_is _ (ends ∙ ap (ends_short size) (sym (only size 1 packets file.payloads file.stand)) ∙ short_is size file.payloads file.short),
  );
}

-- one whose transfer is running, with no block taken
from_running : (r : Receiver) (got : List PacketView) → ReceivesArrived (stage r 0 Running) got r.size got
from_running r got =
    let leads = running_leads r got 0 in
    receives (stage r 0 Running) got r.size got (running_lends r got 0)
    (ap (λ (x : Receiver). x.taken) leads ∙ omega arith)
    (ap (λ (x : Receiver). x.size) leads)
    (ap (λ (x : Receiver). is_finished x.phase) leads ∙ finishes r.size 1 got)

pub served_write_arrives : ServedWriteArrives
served_write_arrives asked got = from_running (receiver_serving asked) got

-- ---- one that asked to read

-- a packet that is dropped changes nothing
skips : (begin : Receiver) (p : PacketView) (got : List PacketView) (size : ℕ) (packets : List PacketView) → receiver_answer begin p ≡ Dropped
    → ReceivesArrived begin got size packets → ReceivesArrived begin (p ∷ got) size packets
skips begin p got size packets e h =
    let lends : lent begin (p ∷ got) ≡ lent begin got = ap (λ (a : Answer). lent_by a ++ lent (receiver_moved begin a) got) e in
    let after : receiver_after_all begin (p ∷ got) ≡ receiver_after_all begin got = ap (λ (a : Answer). receiver_after_all (receiver_moved begin a) got) e in
    record {
      arrived = subst (λ (bs : List (List ℕ)). ArrivedSoFar size packets (concat bs)) (sym lends) h.arrived;
      counted = λ bs stand. ap (λ (x : Receiver). x.taken) after ∙ h.counted bs stand;
      sized = ap (λ (x : Receiver). x.size) after ∙ h.sized;
      whole = (λ over. h.whole.0 (sym (ap (λ (x : Receiver). x.phase) after) ∙ over), λ w. ap (λ (x : Receiver). x.phase) after ∙ h.whole.1 w);
    }

-- where a packet leads on to a transfer that is running
leads_on : (begin r : Receiver) (p : PacketView) (ps : List PacketView) (n size : ℕ) → r.size ≡ size
    → lent begin (p ∷ ps) ≡ lent (stage r 0 Running) (p ∷ ps) → receiver_after_all begin (p ∷ ps) ≡ receiver_after_all (stage r 0 Running) (p ∷ ps)
    → ReceivesArrived begin (p ∷ ps) r.size (p ∷ ps)
leads_on begin r p ps n size e lends after =
    let leads = running_leads r (p ∷ ps) 0 in
    receives begin (p ∷ ps) r.size (p ∷ ps) (lends ∙ running_lends r (p ∷ ps) 0)
    (ap (λ (x : Receiver). x.taken) (after ∙ leads) ∙ omega arith)
    (ap (λ (x : Receiver). x.size) (after ∙ leads))
    (ap (λ (x : Receiver). is_finished x.phase) (after ∙ leads) ∙ finishes r.size 1 (p ∷ ps))

same_moved : (r : Receiver) (b : List ℕ) (s : Bool) → receiver_moved r (cond s (TakesLast b) (TakesBlock b)) ≡ receiver_moved (stage r r.taken Running) (cond s (TakesLast b) (TakesBlock b))
same_moved r b true = refl
same_moved r b false = refl

first_answer : (r : Receiver) (k : ℕ) (b : List ℕ) (x : Answer) → is_next_block r k b ≡ true → cond (is_next_block r k b) (taken_answer r b) x ≡ taken_answer r b
first_answer r k b x e = rw e refl

asked_data : (name : List ℕ) (asked : Options) (k : ℕ) (b : List ℕ) (ps : List PacketView) (t : Bool) → ((k == 1) && is_block 512 k b) ≡ t
    → ReceivesArrived (receiver_asking name asked) ps (bound_size (from_first (answers_read asked) ps)) (from_first (answers_read asked) ps)
    → ReceivesArrived (receiver_asking name asked) (Data k b ∷ ps) (bound_size (cond t (Data k b ∷ ps) (from_first (answers_read asked) ps))) (cond t (Data k b ∷ ps) (from_first (answers_read asked) ps))
asked_data name asked k b ps true e later =
    let r : Receiver = receiver_asking name asked in
    let s : Receiver = stage (receiver_asking name asked) 0 Running in
    let one : receiver_answer r (Data k b) ≡ taken_answer r b = first_answer r k b Dropped e in
    let other : receiver_answer s (Data k b) ≡ taken_answer r b = first_answer s k b (cond (is_last_block s k b) Again Dropped) e in
    let same = same_moved r b (nat_lt (length b) 512) in
    leads_on r r (Data k b) ps 0 512 refl
    (ap (λ (a : Answer). lent_by a ++ lent (receiver_moved r a) ps) one
    ∙ ap (λ (x : Receiver). lent_by (taken_answer r b) ++ lent x ps) same
    ∙ sym (ap (λ (a : Answer). lent_by a ++ lent (receiver_moved s a) ps) other))
    (ap (λ (a : Answer). receiver_after_all (receiver_moved r a) ps) one
    ∙ ap (λ (x : Receiver). receiver_after_all x ps) same
    ∙ sym (ap (λ (a : Answer). receiver_after_all (receiver_moved s a) ps) other))
asked_data name asked k b ps false e later =
    skips (receiver_asking name asked) (Data k b) ps _ _ (ap (λ (t : Bool). cond t (taken_answer (receiver_asking name asked) b) Dropped) e) later

-- the end whose request was answered with an OACK
abbrev bound_by : List ℕ → Options → Options → Receiver
bound_by name asked o = record { name = Some name; asked = asked; granted = Some o; size = block_size_of o; taken = 0; phase = Running }

asked_oack : (name : List ℕ) (asked o : Options) (ps : List PacketView) (t : Bool) → may_grant asked o ≡ t
    → ReceivesArrived (receiver_asking name asked) ps (bound_size (from_first (answers_read asked) ps)) (from_first (answers_read asked) ps)
    → ReceivesArrived (receiver_asking name asked) (Oack o ∷ ps) (bound_size (cond t (Oack o ∷ ps) (from_first (answers_read asked) ps))) (cond t (Oack o ∷ ps) (from_first (answers_read asked) ps))
asked_oack name asked o ps true e later =
    let r : Receiver = receiver_asking name asked in
    let s : Receiver = bound_by name asked o in
    let one : receiver_answer r (Oack o) ≡ Grants o = rw e refl in
    let leads = running_leads s ps 0 in
    let after : receiver_after_all r (Oack o ∷ ps) ≡ receiver_after_all s ps = ap (λ (a : Answer). receiver_after_all (receiver_moved r a) ps) one in
    receives r (Oack o ∷ ps) (block_size_of o) (Oack o ∷ ps)
    (ap (λ (a : Answer). lent_by a ++ lent (receiver_moved r a) ps) one ∙ running_lends s ps 0)
    (ap (λ (x : Receiver). x.taken) (after ∙ leads) ∙ omega arith)
    (ap (λ (x : Receiver). x.size) (after ∙ leads))
    (ap (λ (x : Receiver). is_finished x.phase) (after ∙ leads) ∙ finishes (block_size_of o) 1 ps)
asked_oack name asked o ps false e later =
    skips (receiver_asking name asked) (Oack o) ps _ _ (ap (λ (t : Bool). cond t (Grants o) Dropped) e) later

asked_error : (name : List ℕ) (asked : Options) (code : ℕ) (m : List ℕ) (ps : List PacketView)
    → ReceivesArrived (receiver_asking name asked) (Error code m ∷ ps) 512 (Error code m ∷ ps)
asked_error name asked code m ps =
    let r : Receiver = receiver_asking name asked in
    let leads = failed_stays r 0 code ps in
    receives r (Error code m ∷ ps) 512 (Error code m ∷ ps) (failed_lends r 0 code ps)
    (ap (λ (x : Receiver). x.taken) leads) (ap (λ (x : Receiver). x.size) leads) (ap (λ (x : Receiver). is_finished x.phase) leads)

pub asked_read_arrives : AskedReadArrives
asked_read_arrives name asked [] = receives (receiver_asking name asked) [] 512 [] refl refl refl refl
asked_read_arrives name asked (Data k b ∷ ps) = asked_data name asked k b ps ((k == 1) && is_block 512 k b) refl (asked_read_arrives name asked ps)
asked_read_arrives name asked (Oack o ∷ ps) = asked_oack name asked o ps (may_grant asked o) refl (asked_read_arrives name asked ps)
asked_read_arrives name asked (Error code m ∷ ps) = asked_error name asked code m ps
asked_read_arrives name asked (Ack k ∷ ps) = skips (receiver_asking name asked) (Ack k) ps _ _ refl (asked_read_arrives name asked ps)
asked_read_arrives name asked (Rrq file o ∷ ps) = skips (receiver_asking name asked) (Rrq file o) ps _ _ refl (asked_read_arrives name asked ps)
asked_read_arrives name asked (Wrq file o ∷ ps) = skips (receiver_asking name asked) (Wrq file o) ps _ _ refl (asked_read_arrives name asked ps)

-- ---- the last block

not_last : (l : Bool) → BringsLastBlock (cond l Again Dropped) → ⊥
not_last true h = h
not_last false h = h

last_of_live : (phase : Phase) (r : Receiver) (k : ℕ) (b : List ℕ) → BringsLastBlock (data_answer phase r k b) → phase ≡ Finished → ⊥
last_of_live Waiting r k b h e = absurd cc
last_of_live Running r k b h e = absurd cc
last_of_live Finished r k b h e = not_last (is_last_block r k b) h
last_of_live (Failed code) r k b h e = h

not_last_oack : (phase : Phase) (r : Receiver) (o : Options) → BringsLastBlock (receiver_oack_answer phase r o) → ⊥
not_last_oack Waiting r o h = by_grant (may_grant r.asked o) h
  where
    by_grant : (t : Bool) → BringsLastBlock (cond t (Grants o) Dropped) → ⊥
    by_grant true i = i
    by_grant false i = i
not_last_oack Running r o h = not_last ((r.taken == 0) && were_granted r.granted o) h
not_last_oack Finished r o h = h
not_last_oack (Failed code) r o h = h

not_last_error : (phase : Phase) (code : ℕ) → BringsLastBlock (error_answer phase code) → ⊥
not_last_error Waiting code h = h
not_last_error Running code h = h
not_last_error Finished code h = h
not_last_error (Failed before) code h = h

last_is_of_live : (r : Receiver) (p : PacketView) → BringsLastBlock (receiver_answer r p) → r.phase ≡ Finished → ⊥
last_is_of_live r (Data k b) h e = last_of_live r.phase r k b h e
last_is_of_live r (Oack o) h e = not_last_oack r.phase r o h
last_is_of_live r (Error code m) h e = not_last_error r.phase code h
last_is_of_live r (Ack k) h e = h
last_is_of_live r (Rrq name o) h e = h
last_is_of_live r (Wrq name o) h e = h

last_finishes : (r : Receiver) (a : Answer) → BringsLastBlock a → (receiver_moved r a).phase ≡ Finished
last_finishes r (TakesLast b) h = refl
last_finishes r (TakesBlock b) h = absurd h
last_finishes r Dropped h = absurd h
last_finishes r Again h = absurd h
last_finishes r (Grants o) h = absurd h
last_finishes r Proceeds h = absurd h
last_finishes r Completes h = absurd h
last_finishes r (Fails code) h = absurd h

finishes_by_last : (r : Receiver) (a : Answer) → (r.phase ≡ Finished → ⊥) → (receiver_moved r a).phase ≡ Finished → BringsLastBlock a
finishes_by_last r (TakesLast b) live e = tt
finishes_by_last r (TakesBlock b) live e = absurd cc
finishes_by_last r Dropped live e = absurd (live e)
finishes_by_last r Again live e = absurd (live e)
finishes_by_last r (Grants o) live e = absurd cc
finishes_by_last r Proceeds live e = absurd (live e)
finishes_by_last r Completes live e = absurd (live e)
finishes_by_last r (Fails code) live e = absurd cc

-- Last comes exactly with the packet that finishes the transfer.
abbrev LastFinishes : Receiver → List PacketView → PacketView → Type 0
LastFinishes begin got p =
    BringsLastBlock (receiver_answer (receiver_after_all begin got) p)
    ↔ (((receiver_after_all begin got).phase ≡ Finished → ⊥) × ((receiver_after_all begin (got ++ p ∷ [])).phase ≡ Finished))

pub last_finishes_it : (begin : Receiver) (got : List PacketView) (p : PacketView) → LastFinishes begin got p
last_finishes_it begin got p =
    let r = receiver_after_all begin got in
    let after : receiver_after_all begin (got ++ p ∷ []) ≡ receiver_after r p = fold-append receiver_after begin got (p ∷ []) in
    let over = ap (λ (x : Receiver). x.phase) after in (
      λ h. (last_is_of_live r p h, over ∙ last_finishes r (receiver_answer r p) h),
      λ (live, e). finishes_by_last r (receiver_answer r p) live (sym over ∙ e),
    )

last_of_both : (begin : Receiver) (got : List PacketView) (p : PacketView) (size_then size_now : ℕ) (then_got now_got : List PacketView)
    → ReceivesArrived begin got size_then then_got → ReceivesArrived begin (got ++ p ∷ []) size_now now_got
    → BringsLastBlock (receiver_answer (receiver_after_all begin got) p) ↔ ((IsWholeFile size_then then_got → ⊥) × IsWholeFile size_now now_got)
last_of_both begin got p size_then size_now then_got now_got before after =
    let both = last_finishes_it begin got p in (
      λ h. (λ w. (both.0 h).0 (before.whole.1 w), after.whole.0 (both.0 h).1),
      λ (part, w). both.1 (λ e. part (before.whole.0 e), after.whole.1 w),
    )

pub served_last_makes_whole : ServedLastMakesWhole
served_last_makes_whole asked got p =
    last_of_both (receiver_serving asked) got p _ _ _ _ (served_write_arrives asked got) (served_write_arrives asked (got ++ p ∷ []))

pub asked_last_makes_whole : AskedLastMakesWhole
asked_last_makes_whole name asked got p =
    last_of_both (receiver_asking name asked) got p _ _ _ _ (asked_read_arrives name asked got) (asked_read_arrives name asked (got ++ p ∷ []))

-- ---- what it acknowledged last

acknowledges : (b : Bool) (p q : PacketView) → cond (b && true) p q ≡ cond b p q
acknowledges true p q = refl
acknowledges false p q = refl

pub served_write_acknowledges : ServedWriteAcknowledges
served_write_acknowledges asked got payloads stand =
    let r : Receiver = receiver_serving asked in
    let n : ℕ = length (standing r.size 1 got) in
    ap receiver_packet (running_leads r got 0 ∙ stage_at r (0 + n) n (phase_after r.size 1 got) (omega arith))
    ∙ acknowledges (n == 0) (acceptance asked) (Ack n)
    ∙ ap (λ (bs : List (List ℕ)). cond (length bs == 0) (acceptance asked) (Ack (length bs))) (sym (only r.size 1 got payloads stand))

-- what is to be shown of packets that were got, and of those of the transfer among them
abbrev Acknowledges : List ℕ → Options → List PacketView → List PacketView → Type 0
Acknowledges name asked got packets =
    receiver_packet (receiver_after_all (receiver_asking name asked) got) ≡ asked_read_sent name asked packets (length (standing (bound_size packets) 1 packets))

not_zero : (m : ℕ) (t : Bool) → eqb (suc m) 0 ≡ t → t ≡ false
not_zero m true e = let zero_is : suc m ≡ 0 = eqb-true (suc m) 0 e in absurd cc
not_zero m false e = refl

some_taken : (name : List ℕ) (asked : Options) (m : ℕ) (phase : Phase) → receiver_packet (stage (receiver_asking name asked) (suc m) phase) ≡ Ack (suc m)
some_taken name asked m phase = ap (λ (t : Bool). cond (t && true) (Rrq name asked) (Ack (suc m))) (not_zero m (eqb (suc m) 0) refl)

acks_data : (name : List ℕ) (asked : Options) (k : ℕ) (b : List ℕ) (ps : List PacketView) (t : Bool) → ((k == 1) && is_block 512 k b) ≡ t
    → Acknowledges name asked ps (from_first (answers_read asked) ps)
    → receiver_packet (receiver_after_all (receiver_moved (receiver_asking name asked) (cond t (taken_answer (receiver_asking name asked) b) Dropped)) ps)
    ≡ asked_read_sent name asked (cond t (Data k b ∷ ps) (from_first (answers_read asked) ps)) (length (standing (bound_size (cond t (Data k b ∷ ps) (from_first (answers_read asked) ps))) 1 (cond t (Data k b ∷ ps) (from_first (answers_read asked) ps))))
acks_data name asked k b ps true e later = by_length (nat_lt (length b) 512) refl
  where
    by_length : (s : Bool) → nat_lt (length b) 512 ≡ s
        → receiver_packet (receiver_after_all (receiver_moved (receiver_asking name asked) (cond s (TakesLast b) (TakesBlock b))) ps)
        ≡ Ack (length (standing 512 1 (Data k b ∷ ps)))
    by_length true short =
        let only_it : standing 512 1 (Data k b ∷ ps) ≡ b ∷ [] = rw (e, short) refl in
        ap receiver_packet (finished_stays (receiver_asking name asked) 1 ps) ∙ sym (ap (λ (bs : List (List ℕ)). Ack (length bs)) only_it)
    by_length false full =
        let more : standing 512 1 (Data k b ∷ ps) ≡ b ∷ standing 512 2 ps = rw (e, full) refl in
        ap receiver_packet (running_leads (receiver_asking name asked) ps 1 ∙ stage_at (receiver_asking name asked) _ (suc (length (standing 512 2 ps))) (phase_after 512 2 ps) (omega arith))
        ∙ some_taken name asked (length (standing 512 2 ps)) (phase_after 512 2 ps)
        ∙ sym (ap (λ (bs : List (List ℕ)). Ack (length bs)) more)
acks_data name asked k b ps false e later = later

acks_oack : (name : List ℕ) (asked o : Options) (ps : List PacketView) (t : Bool)
    → Acknowledges name asked ps (from_first (answers_read asked) ps)
    → receiver_packet (receiver_after_all (receiver_moved (receiver_asking name asked) (cond t (Grants o) Dropped)) ps)
    ≡ asked_read_sent name asked (cond t (Oack o ∷ ps) (from_first (answers_read asked) ps)) (length (standing (bound_size (cond t (Oack o ∷ ps) (from_first (answers_read asked) ps))) 1 (cond t (Oack o ∷ ps) (from_first (answers_read asked) ps))))
acks_oack name asked o ps true later =
    let r : Receiver = bound_by name asked o in
    ap receiver_packet (running_leads r ps 0) ∙ by_count (0 + length (standing r.size 1 ps)) (omega arith)
  where
    by_count : (n : ℕ) → n ≡ length (standing (block_size_of o) 1 ps) → receiver_packet (stage (bound_by name asked o) n (phase_after (block_size_of o) 1 ps)) ≡ Ack (length (standing (block_size_of o) 1 ps))
    by_count n e = no_first (n == 0) ∙ ap Ack e
      where
        no_first : (b : Bool) → cond (b && false) (Rrq name asked) (Ack n) ≡ Ack n
        no_first true = refl
        no_first false = refl
acks_oack name asked o ps false later = later

acks_asked : (name : List ℕ) (asked : Options) (got : List PacketView) → Acknowledges name asked got (from_first (answers_read asked) got)
acks_asked name asked [] = refl
acks_asked name asked (Data k b ∷ ps) = acks_data name asked k b ps ((k == 1) && is_block 512 k b) refl (acks_asked name asked ps)
acks_asked name asked (Oack o ∷ ps) = acks_oack name asked o ps (may_grant asked o) (acks_asked name asked ps)
acks_asked name asked (Error code m ∷ ps) = ap receiver_packet (failed_stays (receiver_asking name asked) 0 code ps)
acks_asked name asked (Ack k ∷ ps) = acks_asked name asked ps
acks_asked name asked (Rrq file o ∷ ps) = acks_asked name asked ps
acks_asked name asked (Wrq file o ∷ ps) = acks_asked name asked ps

pub asked_read_acknowledges : AskedReadAcknowledges
asked_read_acknowledges name asked got payloads stand =
    let packets = from_first (answers_read asked) got in
    acks_asked name asked got
    ∙ ap (λ (bs : List (List ℕ)). asked_read_sent name asked packets (length bs)) (sym (only (bound_size packets) 1 packets payloads stand))
