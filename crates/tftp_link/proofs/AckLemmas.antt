-- What a sending end sent last is the block after those that were acknowledged.
use Rattle.std.proofs.Common.{◌≡◌, ℕ, zero, suc, ◌+◌, ◌/◌, ◌≤◌, Bool, true, false, cond, eqb, ◌&&◌, List, [], ◌∷◌, ◌++◌, length, Some, refl, sym, ap, ◌∙◌, arith, min, Option, None}
use Rattle.std.specs.List.{AllByRecursion}
use Rattle.std.specs.Prelude.{◌==◌, if◌then◌else◌, MatchBool}
use Rattle.std.proofs.lemmas.Bool.{eqb-true, eq-eqb}
use Rattle.std.proofs.lemmas.List.Sums.{fold-append}
use Rattle.tftp_packet.specs.declared.options.Options.{Options}
use Rattle.tftp_packet.specs.Packets.{PacketView, Rrq, Wrq, Data, Ack, Error, Oack}
use Rattle.tftp_link.specs.declared.phase.Phase.{Phase}
use Rattle.tftp_link.specs.declared.phase.Phase.TheVariants.{Waiting, Running, Finished, Failed}
use Rattle.tftp_link.specs.Negotiation.{block_size_of, may_grant, fits_said, is_empty, asked_by_writer}
use Rattle.tftp_link.specs.Answers.{Answer, Dropped, Again, Grants, TakesBlock, TakesLast, Proceeds, Completes, Fails, is_finished, error_answer}
use Rattle.tftp_link.specs.Sender.{Sender, sender_asking, sender_granting, sender_answer, sender_moved, sender_after, sender_after_all, last_of, ack_answer, awaited_answer, sender_oack_answer, data_of, sender_opens, sender_first}
use Rattle.tftp_link.specs.Arrival.{from_first, BeginsWithError}
use Rattle.tftp_link.specs.Acknowledged.{answers_write, AcksStand, PassesAck, AcknowledgesBlock}
use Rattle.tftp_link.specs.Blocks.{IsOfFile}
use Rattle.tftp_link.specs.Laws.{SendsAcknowledged, ServedReadSends, AfterAnswer, AskedWriteSends, IsLastAck, DoneWithTheLastAck, OneCountStands, SendsItsFile}

-- ---- what is acknowledged among packets, computed

-- how many blocks from block k on
abbrev pub acked : (last k : ℕ) → List PacketView → ℕ
acked last k [] = 0
acked last k (Ack j ∷ ps) = if j == k then suc (if k == last then 0 else acked last (k + 1) ps) else acked last k ps
acked last k (Error code m ∷ ps) = 0
acked last k (Data j b ∷ ps) = acked last k ps
acked last k (Rrq name o ∷ ps) = acked last k ps
acked last k (Wrq name o ∷ ps) = acked last k ps
acked last k (Oack o ∷ ps) = acked last k ps

-- one more packet before, which is passed
prepend : (last k : ℕ) (p : PacketView) (ps : List PacketView) (n : ℕ) → PassesAck k p → AcksStand last k ps n → AcksStand last k (p ∷ ps) n
prepend last k p ps zero pass (before, rest, e, all, ends) = (p ∷ before, rest, ap (λ (l : List PacketView). p ∷ l) e, (pass, all), ends)
prepend last k p ps (suc n) pass (before, rest, e, all, others) = (p ∷ before, rest, ap (λ (l : List PacketView). p ∷ l) e, (pass, all), others)

last_stands : (last k : ℕ) (s : Bool) (ps : List PacketView) (n : ℕ) → AcksStand last (k + 1) ps n
    → MatchBool s (cond s 0 n ≡ 0) (AcksStand last (k + 1) ps (cond s 0 n))
last_stands last k true ps n later = refl
last_stands last k false ps n later = later

differs : (x y : ℕ) → eqb x y ≡ false → x ≡ y → ⊥
differs x y e same = let t : eqb x y ≡ true = eq-eqb x y same in let f : true ≡ false = sym t ∙ e in absurd cc

ack_stands : (last k j : ℕ) (ps : List PacketView) (t : Bool) → eqb j k ≡ t → AcksStand last (k + 1) ps (acked last (k + 1) ps) → AcksStand last k ps (acked last k ps)
    → AcksStand last k (Ack j ∷ ps) (cond t (suc (cond (k == last) 0 (acked last (k + 1) ps))) (acked last k ps))
ack_stands last k j ps true e later here = ([], ps, ap (λ (i : ℕ). Ack i ∷ ps) (eqb-true j k e), tt, last_stands last k (k == last) ps (acked last (k + 1) ps) later)
ack_stands last k j ps false e later here = prepend last k (Ack j) ps (acked last k ps) (λ h. h, differs j k e) here

pub acks_stand : (last k : ℕ) (ps : List PacketView) → AcksStand last k ps (acked last k ps)
acks_stand last k [] = ([], [], refl, tt, tt)
acks_stand last k (Ack j ∷ ps) = ack_stands last k j ps (j == k) refl (acks_stand last (k + 1) ps) (acks_stand last k ps)
acks_stand last k (Error code m ∷ ps) = ([], Error code m ∷ ps, refl, tt, tt)
acks_stand last k (Data j b ∷ ps) = prepend last k (Data j b) ps _ (λ h. h, λ h. h) (acks_stand last k ps)
acks_stand last k (Rrq name o ∷ ps) = prepend last k (Rrq name o) ps _ (λ h. h, λ h. h) (acks_stand last k ps)
acks_stand last k (Wrq name o ∷ ps) = prepend last k (Wrq name o) ps _ (λ h. h, λ h. h) (acks_stand last k ps)
acks_stand last k (Oack o ∷ ps) = prepend last k (Oack o) ps _ (λ h. h, λ h. h) (acks_stand last k ps)

-- ---- nothing else stands there

ack_passed : (last k j : ℕ) (ps : List PacketView) (t : Bool) → eqb j k ≡ t → (AcknowledgesBlock k (Ack j) → ⊥)
    → cond t (suc (cond (k == last) 0 (acked last (k + 1) ps))) (acked last k ps) ≡ acked last k ps
ack_passed last k j ps true e pass = absurd (pass (eqb-true j k e))
ack_passed last k j ps false e pass = refl

passed : (last k : ℕ) (before rest : List PacketView) → AllByRecursion (PassesAck k) before → acked last k (before ++ rest) ≡ acked last k rest
passed last k [] rest all = refl
passed last k (Ack j ∷ before) rest (pass, all) = ack_passed last k j (before ++ rest) (j == k) refl pass.1 ∙ passed last k before rest all
passed last k (Error code m ∷ before) rest (pass, all) = absurd (pass.0 tt)
passed last k (Data j b ∷ before) rest (pass, all) = passed last k before rest all
passed last k (Rrq name o ∷ before) rest (pass, all) = passed last k before rest all
passed last k (Wrq name o ∷ before) rest (pass, all) = passed last k before rest all
passed last k (Oack o ∷ before) rest (pass, all) = passed last k before rest all

ended : (last k : ℕ) (rest : List PacketView) → BeginsWithError rest → acked last k rest ≡ 0
ended last k [] ends = refl
ended last k (Error code m ∷ ps) ends = refl
ended last k (Data j b ∷ ps) ends = absurd ends
ended last k (Ack j ∷ ps) ends = absurd ends
ended last k (Rrq name o ∷ ps) ends = absurd ends
ended last k (Wrq name o ∷ ps) ends = absurd ends
ended last k (Oack o ∷ ps) ends = absurd ends

found : (last k : ℕ) (rest : List PacketView) → acked last k (Ack k ∷ rest) ≡ suc (cond (k == last) 0 (acked last (k + 1) rest))
found last k rest = ap (λ (t : Bool). cond t (suc (cond (k == last) 0 (acked last (k + 1) rest))) (acked last k rest)) (eq-eqb k k refl)

after_found : (last k : ℕ) (rest : List PacketView) (n : ℕ) (s : Bool) → MatchBool s (n ≡ 0) (AcksStand last (k + 1) rest n)
    → (AcksStand last (k + 1) rest n → n ≡ acked last (k + 1) rest) → suc n ≡ suc (cond s 0 (acked last (k + 1) rest))
after_found last k rest n true none later = ap suc none
after_found last k rest n false more later = ap suc (later more)

pub acks_only : (last k : ℕ) (ps : List PacketView) (n : ℕ) → AcksStand last k ps n → n ≡ acked last k ps
acks_only last k ps zero (before, rest, e, all, ends) = sym (ap (acked last k) e ∙ passed last k before rest all ∙ ended last k rest ends)
acks_only last k ps (suc n) (before, rest, e, all, others) =
    after_found last k rest n (k == last) others (λ more. acks_only last (k + 1) rest n more)
    ∙ sym (ap (acked last k) e ∙ passed last k before (Ack k ∷ rest) all ∙ found last k rest)

pub one_count_stands : OneCountStands
one_count_stands last k packets one other is also = acks_only last k packets one is ∙ sym (acks_only last k packets other also)

-- ---- what a sending end sends

-- the end with this block sent last, in this phase
abbrev pub stage : Sender → ℕ → Phase → Sender
stage s n phase = record { name = s.name; file = s.file; options = s.options; size = s.size; sent = n; phase = phase }

-- the block that packets have sent last, where block k was before
abbrev pub sent_after : (last k : ℕ) → List PacketView → ℕ
sent_after last k [] = k
sent_after last k (Ack j ∷ ps) = if j == k then (if k == last then k else sent_after last (k + 1) ps) else sent_after last k ps
sent_after last k (Error code m ∷ ps) = k
sent_after last k (Data j b ∷ ps) = sent_after last k ps
sent_after last k (Rrq name o ∷ ps) = sent_after last k ps
sent_after last k (Wrq name o ∷ ps) = sent_after last k ps
sent_after last k (Oack o ∷ ps) = sent_after last k ps

-- the phase that they lead to
abbrev pub phase_after : (last k : ℕ) → List PacketView → Phase
phase_after last k [] = Running
phase_after last k (Ack j ∷ ps) = if j == k then (if k == last then Finished else phase_after last (k + 1) ps) else phase_after last k ps
phase_after last k (Error code m ∷ ps) = Failed code
phase_after last k (Data j b ∷ ps) = phase_after last k ps
phase_after last k (Rrq name o ∷ ps) = phase_after last k ps
phase_after last k (Wrq name o ∷ ps) = phase_after last k ps
phase_after last k (Oack o ∷ ps) = phase_after last k ps

pub finished_stays : (s : Sender) (n : ℕ) (ps : List PacketView) → sender_after_all (stage s n Finished) ps ≡ stage s n Finished
finished_stays s n [] = refl
finished_stays s n (Data k b ∷ ps) = finished_stays s n ps
finished_stays s n (Ack k ∷ ps) = finished_stays s n ps
finished_stays s n (Error code m ∷ ps) = finished_stays s n ps
finished_stays s n (Rrq name o ∷ ps) = finished_stays s n ps
finished_stays s n (Wrq name o ∷ ps) = finished_stays s n ps
finished_stays s n (Oack o ∷ ps) = finished_stays s n ps

pub failed_stays : (s : Sender) (n code : ℕ) (ps : List PacketView) → sender_after_all (stage s n (Failed code)) ps ≡ stage s n (Failed code)
failed_stays s n code [] = refl
failed_stays s n code (Data k b ∷ ps) = failed_stays s n code ps
failed_stays s n code (Ack k ∷ ps) = failed_stays s n code ps
failed_stays s n code (Error c m ∷ ps) = failed_stays s n code ps
failed_stays s n code (Rrq name o ∷ ps) = failed_stays s n code ps
failed_stays s n code (Wrq name o ∷ ps) = failed_stays s n code ps
failed_stays s n code (Oack o ∷ ps) = failed_stays s n code ps

abbrev LeadsTo : Sender → List PacketView → Type 0
LeadsTo s ps = (n : ℕ) → sender_after_all (stage s n Running) ps ≡ stage s (sent_after (last_of s) n ps) (phase_after (last_of s) n ps)

awaited_leads : (s : Sender) (n : ℕ) (ps : List PacketView) (b : Bool) → LeadsTo s ps
    → sender_after_all (sender_moved (stage s n Running) (cond b Completes Proceeds)) ps
    ≡ stage s (cond b n (sent_after (last_of s) (n + 1) ps)) (cond b Finished (phase_after (last_of s) (n + 1) ps))
awaited_leads s n ps true later = finished_stays s n ps
awaited_leads s n ps false later = later (n + 1)

ack_leads : (s : Sender) (n : ℕ) (ps : List PacketView) (t : Bool) → LeadsTo s ps
    → sender_after_all (sender_moved (stage s n Running) (cond t (awaited_answer (stage s n Running)) Dropped)) ps
    ≡ stage s (cond t (cond (n == last_of s) n (sent_after (last_of s) (n + 1) ps)) (sent_after (last_of s) n ps))
    (cond t (cond (n == last_of s) Finished (phase_after (last_of s) (n + 1) ps)) (phase_after (last_of s) n ps))
ack_leads s n ps true later = awaited_leads s n ps (n == last_of s) later
ack_leads s n ps false later = later n

pub running_leads : (s : Sender) (ps : List PacketView) → LeadsTo s ps
running_leads s [] n = refl
running_leads s (Ack k ∷ ps) n = ack_leads s n ps (k == n) (running_leads s ps)
running_leads s (Error code m ∷ ps) n = failed_stays s n code ps
running_leads s (Data k b ∷ ps) n = running_leads s ps n
running_leads s (Rrq name o ∷ ps) n = running_leads s ps n
running_leads s (Wrq name o ∷ ps) n = running_leads s ps n
running_leads s (Oack o ∷ ps) n = running_leads s ps n

-- ---- the two agree

ack_sent : (last k : ℕ) (ps : List PacketView) (t s : Bool) → eqb k last ≡ s → k ≤ last
    → (k + 1 ≤ last → sent_after last (k + 1) ps ≡ min (k + 1 + acked last (k + 1) ps) last) → sent_after last k ps ≡ min (k + acked last k ps) last
    → cond t (cond s k (sent_after last (k + 1) ps)) (sent_after last k ps) ≡ min (k + cond t (suc (cond s 0 (acked last (k + 1) ps))) (acked last k ps)) last
ack_sent last k ps true true e within later here = let same : k ≡ last = eqb-true k last e in omega arith
ack_sent last k ps true false e within later here =
    let other : k ≡ last → ⊥ = differs k last e in
    let more = later (omega (arith, other)) in
    omega arith
ack_sent last k ps false s e within later here = here

pub sent_is : (last k : ℕ) (ps : List PacketView) → k ≤ last → sent_after last k ps ≡ min (k + acked last k ps) last
sent_is last k [] within = omega arith
sent_is last k (Ack j ∷ ps) within = ack_sent last k ps (j == k) (k == last) refl within (λ more. sent_is last (k + 1) ps more) (sent_is last k ps within)
sent_is last k (Error code m ∷ ps) within = omega arith
sent_is last k (Data j b ∷ ps) within = sent_is last k ps within
sent_is last k (Rrq name o ∷ ps) within = sent_is last k ps within
sent_is last k (Wrq name o ∷ ps) within = sent_is last k ps within
sent_is last k (Oack o ∷ ps) within = sent_is last k ps within

-- all are acknowledged, where blocks k to the last were
abbrev AgreesOn : (last k acks : ℕ) → Bool → Type 0
AgreesOn last k acks done = (done ≡ true → k + acks ≡ last + 1) × (k + acks ≡ last + 1 → done ≡ true)

not_yet : (last k : ℕ) → k ≤ last → AgreesOn last k 0 false
not_yet last k within = (λ e. absurd cc, λ e. absurd (too_far e))
  where
    too_far : k + 0 ≡ last + 1 → ⊥
    too_far e = omega arith

ack_done : (last k : ℕ) (ps : List PacketView) (t s : Bool) → eqb k last ≡ s → k ≤ last
    → (k + 1 ≤ last → AgreesOn last (k + 1) (acked last (k + 1) ps) (is_finished (phase_after last (k + 1) ps)))
    → AgreesOn last k (acked last k ps) (is_finished (phase_after last k ps))
    → AgreesOn last k (cond t (suc (cond s 0 (acked last (k + 1) ps))) (acked last k ps)) (is_finished (cond t (cond s Finished (phase_after last (k + 1) ps)) (phase_after last k ps)))
ack_done last k ps true true e within later here = let same : k ≡ last = eqb-true k last e in (λ d. omega arith, λ d. refl)
ack_done last k ps true false e within later here =
    let other : k ≡ last → ⊥ = differs k last e in
    let more = later (omega (arith, other)) in
    (λ d. let h = more.0 d in omega arith, λ d. more.1 (omega arith))
ack_done last k ps false s e within later here = here

pub done_is : (last k : ℕ) (ps : List PacketView) → k ≤ last → AgreesOn last k (acked last k ps) (is_finished (phase_after last k ps))
done_is last k [] within = not_yet last k within
done_is last k (Ack j ∷ ps) within = ack_done last k ps (j == k) (k == last) refl within (λ more. done_is last (k + 1) ps more) (done_is last k ps within)
done_is last k (Error code m ∷ ps) within = not_yet last k within
done_is last k (Data j b ∷ ps) within = done_is last k ps within
done_is last k (Rrq name o ∷ ps) within = done_is last k ps within
done_is last k (Wrq name o ∷ ps) within = done_is last k ps within
done_is last k (Oack o ∷ ps) within = done_is last k ps within

finished_is : (phase : Phase) → is_finished phase ≡ true → phase ≡ Finished
finished_is Waiting e = absurd cc
finished_is Running e = absurd cc
finished_is Finished e = refl
finished_is (Failed code) e = absurd cc

-- ---- the laws

sends : (s : Sender) (last first : ℕ) (packets : List PacketView) → first ≤ last → s.sent ≡ sent_after last first packets → s.phase ≡ phase_after last first packets
    → SendsAcknowledged s last first packets
sends s last first packets within sent phase =
    let done = done_is last first packets within in
    record {
      count = acked last first packets;
      stand = acks_stand last first packets;
      sent = sent ∙ sent_is last first packets within;
      done = (λ over. done.0 (sym (ap is_finished phase) ∙ ap is_finished over), λ e. phase ∙ finished_is (phase_after last first packets) (done.1 e));
    }

first_within : (b : Bool) (n : ℕ) → cond b 1 0 ≤ n + 1
first_within true n = omega arith
first_within false n = omega arith

from_running : (s : Sender) (begin : Sender) (first : ℕ) (packets : List PacketView) → first ≤ last_of s → begin ≡ sender_after_all (stage s first Running) packets
    → SendsAcknowledged begin (last_of s) first packets
from_running s begin first packets within e =
    let leads = e ∙ running_leads s packets first in
    sends begin (last_of s) first packets within (ap (λ (x : Sender). x.sent) leads) (ap (λ (x : Sender). x.phase) leads)

pub served_read_sends : ServedReadSends
served_read_sends file granted got =
    from_running (sender_granting file granted) (sender_after_all (sender_granting file granted) got) (sender_granting file granted).sent got
    (first_within (is_empty granted) (length file / block_size_of granted)) refl

one_within : (n : ℕ) → 1 ≤ n + 1
one_within n = omega arith

-- the end whose request was answered: block 1 is sent, in this block size
abbrev answered : List ℕ → List ℕ → Options → ℕ → Sender
answered name file wanted size = record { name = Some name; file = file; options = asked_by_writer (length file) wanted; size = size; sent = 1; phase = Running }

asked_ack : (name file : List ℕ) (wanted : Options) (k : ℕ) (ps : List PacketView) (t : Bool) → eqb k 0 ≡ t
    → AfterAnswer (sender_after_all (sender_asking name file wanted) ps) file (from_first (answers_write (length file) (sender_asking name file wanted).options) ps)
    → AfterAnswer (sender_after_all (sender_moved (sender_asking name file wanted) (cond t Proceeds Dropped)) ps) file (cond t (Ack k ∷ ps) (from_first (answers_write (length file) (sender_asking name file wanted).options) ps))
asked_ack name file wanted k ps true e later =
    let s = answered name file wanted 512 in
    (ap (λ (x : Sender). x.size) (running_leads s ps 1), from_running s (sender_after_all s ps) 1 ps (one_within (length file / 512)) refl)
asked_ack name file wanted k ps false e later = later

asked_oack : (name file : List ℕ) (wanted o : Options) (ps : List PacketView) (t : Bool)
    → AfterAnswer (sender_after_all (sender_asking name file wanted) ps) file (from_first (answers_write (length file) (sender_asking name file wanted).options) ps)
    → AfterAnswer (sender_after_all (sender_moved (sender_asking name file wanted) (cond t (Grants o) Dropped)) ps) file (cond t (Oack o ∷ ps) (from_first (answers_write (length file) (sender_asking name file wanted).options) ps))
asked_oack name file wanted o ps true later =
    let s = answered name file wanted (block_size_of o) in
    (ap (λ (x : Sender). x.size) (running_leads s ps 1), from_running s (sender_after_all s ps) 1 ps (one_within (length file / block_size_of o)) refl)
asked_oack name file wanted o ps false later = later

pub asked_write_sends : AskedWriteSends
asked_write_sends name file wanted [] = refl
asked_write_sends name file wanted (Ack k ∷ ps) = asked_ack name file wanted k ps (k == 0) refl (asked_write_sends name file wanted ps)
asked_write_sends name file wanted (Oack o ∷ ps) =
    asked_oack name file wanted o ps (may_grant (sender_asking name file wanted).options o && fits_said (length file) o.blksize) (asked_write_sends name file wanted ps)
asked_write_sends name file wanted (Error code m ∷ ps) = ap (λ (x : Sender). x.sent) (failed_stays (sender_asking name file wanted) 0 code ps)
asked_write_sends name file wanted (Data k b ∷ ps) = asked_write_sends name file wanted ps
asked_write_sends name file wanted (Rrq other o ∷ ps) = asked_write_sends name file wanted ps
asked_write_sends name file wanted (Wrq other o ∷ ps) = asked_write_sends name file wanted ps

-- ---- the last ACK

not_done_awaited : (phase : Phase) (code : ℕ) → IsLastAck (error_answer phase code) → ⊥
not_done_awaited Waiting code h = h
not_done_awaited Running code h = h
not_done_awaited Finished code h = h
not_done_awaited (Failed before) code h = h

not_done_grant : (t : Bool) (o : Options) → IsLastAck (cond t (Grants o) Dropped) → ⊥
not_done_grant true o h = h
not_done_grant false o h = h

not_done_oack : (phase : Phase) (s : Sender) (o : Options) → IsLastAck (sender_oack_answer phase s o) → ⊥
not_done_oack Waiting s o h = not_done_grant (may_grant s.options o && fits_said (length s.file) o.blksize) o h
not_done_oack Running s o h = h
not_done_oack Finished s o h = h
not_done_oack (Failed code) s o h = h

done_of_live : (phase : Phase) (s : Sender) (k : ℕ) → IsLastAck (ack_answer phase s k) → phase ≡ Finished → ⊥
done_of_live Waiting s k h e = absurd cc
done_of_live Running s k h e = absurd cc
done_of_live Finished s k h e = h
done_of_live (Failed code) s k h e = h

done_is_of_live : (s : Sender) (p : PacketView) → IsLastAck (sender_answer s p) → s.phase ≡ Finished → ⊥
done_is_of_live s (Ack k) h e = done_of_live s.phase s k h e
done_is_of_live s (Oack o) h e = not_done_oack s.phase s o h
done_is_of_live s (Error code m) h e = not_done_awaited s.phase code h
done_is_of_live s (Data k b) h e = h
done_is_of_live s (Rrq name o) h e = h
done_is_of_live s (Wrq name o) h e = h

done_finishes : (s : Sender) (a : Answer) → IsLastAck a → (sender_moved s a).phase ≡ Finished
done_finishes s Completes h = refl
done_finishes s (TakesLast b) h = absurd h
done_finishes s (TakesBlock b) h = absurd h
done_finishes s Dropped h = absurd h
done_finishes s Again h = absurd h
done_finishes s (Grants o) h = absurd h
done_finishes s Proceeds h = absurd h
done_finishes s (Fails code) h = absurd h

finishes_by_done : (s : Sender) (a : Answer) → (s.phase ≡ Finished → ⊥) → (sender_moved s a).phase ≡ Finished → IsLastAck a
finishes_by_done s Completes live e = tt
finishes_by_done s (TakesLast b) live e = absurd (live e)
finishes_by_done s (TakesBlock b) live e = absurd (live e)
finishes_by_done s Dropped live e = absurd (live e)
finishes_by_done s Again live e = absurd (live e)
finishes_by_done s (Grants o) live e = absurd cc
finishes_by_done s Proceeds live e = absurd cc
finishes_by_done s (Fails code) live e = absurd cc

pub done_with_the_last_ack : DoneWithTheLastAck
done_with_the_last_ack begin got p =
    let s = sender_after_all begin got in
    let after : sender_after_all begin (got ++ p ∷ []) ≡ sender_after s p = fold-append sender_after begin got (p ∷ []) in
    let over = ap (λ (x : Sender). x.phase) after in (
      λ h. (done_is_of_live s p h, over ∙ done_finishes s (sender_answer s p) h),
      λ (live, e). finishes_by_done s (sender_answer s p) live (sym over ∙ e),
    )

-- ---- the file

opens_with : (s : Sender) (name : Option (List ℕ)) (none : Bool) → IsOfFile s.file s.size (cond none (data_of s.file s.size 1) (Oack s.options))
opens_with s name true = λ some. refl
opens_with s name false = tt

first_of_file : (s : Sender) (name : Option (List ℕ)) → IsOfFile s.file s.size (sender_opens name s)
first_of_file s None = opens_with s None (is_empty s.options)
first_of_file s (Some name) = tt

last_sent : (s : Sender) (first : Bool) → IsOfFile s.file s.size (cond first (sender_first s) (data_of s.file s.size s.sent))
last_sent s true = first_of_file s s.name
last_sent s false = λ some. refl

pub sends_its_file : SendsItsFile
sends_its_file s = last_sent s (s.sent == 0)
