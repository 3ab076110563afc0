-- The other end of a transfer that serves, where packets came in it.
use Rattle.std.proofs.Common.{◌≡◌, ⊎_elim, ℕ, true, false, List, [], ◌∷◌, Option, Some, refl, sym, ap, subst, ◌∙◌}
use Rattle.std.specs.Prelude.{take}
use Rattle.std.specs.List.{AllByRecursion}
use Rattle.field_grammar.specs.Fields.{number_bytes}
use Rattle.field_grammar.specs.Grammar.{IsBytes}
use Rattle.tftp_packet.specs.declared.options.Options.{Options}
use Rattle.tftp_packet.specs.Packets.{Error, PacketSpells, PacketView, Rrq, Wrq, packet_bytes}
use Rattle.exchange_trace.specs.declared.trace.Side.{Side}
use Rattle.exchange_trace.specs.Happenings.{DatagramView}
use Rattle.transfer_end.proofs.OtherEndLemmas.{first_is_sent, own_not_59, posted_by}
use Rattle.transfer_end.specs.OtherEnds.{Among, AnswersRequest, Brought, BroughtFrom, TransferHasBegun, IsFair, IsPostOf, IsPostOfSide, TookRequest, answered, is_asking, of_refusal, of_transfer, refused, request_taken, served, unanswered}
use Rattle.transfer_end.specs.Packets.{packet_in}
use Rattle.transfer_end.proofs.SentPacketLemmas.{read_is_spelled}
use Rattle.transfer_end.specs.Transfers.{Reads, Role, ServesRead, ServesWrite, Transfer, Writes, end_of, end_packet, first_packet}
use Rattle.replay_rules.proofs.NewestStart.{asks_not, error_is_read, some_is}
use Rattle.replay_rules.proofs.TargetRoles.{IsGiving, IsReading, IsTaking, IsWriting}

-- ---- the ports of both ends

-- it has the port of a transfer of the other side, which asked for it and has its port
pub record HasOther (theirs : List Transfer) (t : Transfer) : Type 0 where
  pub other : Transfer
  pub among : Among other theirs
  pub port : t.peer ≡ Some other.own
  pub back : other.peer ≡ Some t.own
  pub answers : AnswersRequest t other

module _ (me them : Side) (mine theirs : List Transfer) (posted : List DatagramView) (one : IsFair me them mine theirs posted) (other_one : IsFair them me theirs mine posted) (t : Transfer) (a : Among t mine) (serves : is_asking t.role ≡ false) where
  took : TookRequest posted them t
  took = by (one.begun t a)
    where
      by : TransferHasBegun posted them theirs t → TookRequest posted them t
      by (served also h) = h
      by (unanswered asks none got) = asks_not _ t.role asks serves
      by (refused asks is_59) = asks_not _ t.role asks serves
      by (answered asks s b is) = asks_not _ t.role asks serves

  abbrev request_posted : DatagramView
  request_posted = record { side = them; from = took.peer; to = 59; bytes = took.brought.bytes }

  not_59 : t.own ≡ 59 → ⊥
  not_59 e = own_not_59 mine t one.ports a e

  -- it serves the request of the transfer that has its port
  pub request_of : (x : Transfer) → Among x theirs → t.peer ≡ Some x.own → x.peer ≡ Some t.own → AnswersRequest t x
  request_of x b port back = by (posted_by them me theirs mine posted x request_posted other_one b took.brought.among refl (some_is took.peer x.own (sym took.bound ∙ port)))
    where
      by : IsPostOf x request_posted → AnswersRequest t x
      by post = ⊎_elim (λ (e : x.peer ≡ Some 59). absurd (not_59 (some_is t.own 59 (sym back ∙ e)))) (λ (r : (59 ≡ 59) × (post.heard ≡ []) × (is_asking x.role ≡ true)).
          let same : packet_bytes (first_packet x.role) ≡ took.brought.bytes =
          ap packet_bytes (first_is_sent x.role) ∙ ap (λ (heard : List PacketView). packet_bytes (end_packet (end_of x.role heard))) (sym r.1) ∙ sym post.bytes in
          record { serves = serves; asks = r.2; request = ap packet_in same ∙ took.brought.spells ∙ sym took.taken; are_bytes = subst IsBytes (sym same) took.brought.are_bytes }) post.goes

  -- no request comes from port 59
  error_not : (role : Role) (request : PacketView) → request_taken role ≡ Some request → Some (Error 1 []) ≡ Some request → ⊥
  error_not (ServesRead name o file) request taken e = let wrong : Rrq name o ≡ Error 1 [] = cc in cc
  error_not (ServesWrite name o) request taken e = let wrong : Wrq name o ≡ Error 1 [] = cc in cc
  error_not (Reads name o) request taken e = cc
  error_not (Writes name o file) request taken e = cc

  not_from_59 : took.peer ≡ 59 → ⊥
  not_from_59 e = by (other_one.posts request_posted took.brought.among refl)
    where
      by : IsPostOfSide theirs request_posted → ⊥
      by (of_transfer x b post) = own_not_59 theirs x other_one.ports b (sym post.port ∙ e)
      by (of_refusal port bytes) = error_not t.role took.request took.taken (sym error_is_read ∙ (ap packet_in (sym bytes) ∙ took.brought.spells))

  of_posted : (d : DatagramView) → d.from ≡ took.peer → d.to ≡ t.own → IsPostOfSide theirs d → HasOther theirs t
  of_posted d from to (of_transfer x b post) =
      let port : t.peer ≡ Some x.own = took.bound ∙ ap (λ (p : ℕ). Some p) (sym from ∙ post.port) in
      ⊎_elim (λ (e : x.peer ≡ Some d.to). let back : x.peer ≡ Some t.own = e ∙ ap (λ (p : ℕ). Some p) to in record { other = x; among = b; port = port; back = back; answers = request_of x b port back })
      (λ (r : (d.to ≡ 59) × (post.heard ≡ []) × (is_asking x.role ≡ true)). absurd (not_59 (sym to ∙ r.0))) post.goes
  of_posted d from to (of_refusal port bytes) = absurd (not_from_59 (sym from ∙ port))

  -- so it is where a packet came
  pub other_end : (t.got ≡ [] → ⊥) → HasOther theirs t
  other_end some = by t.got refl (one.got t a)
    where
      of_first : (p : PacketView) → BroughtFrom posted them t.own t.peer p → HasOther theirs t
      of_first p brought =
          let h : Brought posted them took.peer t.own p = subst (λ (peer : Option ℕ). BroughtFrom posted them t.own peer p) took.bound brought in
          of_posted (record { side = them; from = took.peer; to = t.own; bytes = h.bytes }) refl refl (other_one.posts (record { side = them; from = took.peer; to = t.own; bytes = h.bytes }) h.among refl)

      by : (got : List PacketView) → t.got ≡ got → AllByRecursion (BroughtFrom posted them t.own t.peer) got → HasOther theirs t
      by [] e all = absurd (some e)
      by (p ∷ got) e all = of_first p all.0

-- ---- what both ends do

-- who takes a file serves no request to read
read_not_written : (name uname : List ℕ) (o asked : Options) → PacketSpells (Rrq name o) (packet_bytes (Wrq uname asked)) → ⊥
unfolding number_bytes
read_not_written name uname o asked spells = let wrong : (◌≡◌ {A = List ℕ} (0 ∷ 2 ∷ []) (0 ∷ 1 ∷ [])) = ap (λ (x : List ℕ). take 2 x) spells.parts in cc

written_not_read : (name uname : List ℕ) (o asked : Options) → PacketSpells (Wrq name o) (packet_bytes (Rrq uname asked)) → ⊥
unfolding number_bytes
written_not_read name uname o asked spells = let wrong : (◌≡◌ {A = List ℕ} (0 ∷ 1 ∷ []) (0 ∷ 2 ∷ [])) = ap (λ (x : List ℕ). take 2 x) spells.parts in cc

-- a side that gives a file wasn't asked to take one
gives_not : (role urole : Role) → packet_in (packet_bytes (first_packet urole)) ≡ request_taken role → IsBytes (packet_bytes (first_packet urole)) → IsGiving role → IsWriting urole → ⊥
gives_not (ServesRead name o file) (Writes uname asked f) request fit gives writes = read_not_written name uname o _ (read_is_spelled (packet_bytes (first_packet (Writes uname asked f))) (Rrq name o) fit request)
gives_not (ServesRead name o file) (Reads uname asked) request fit gives writes = writes
gives_not (ServesRead name o file) (ServesRead uname asked f) request fit gives writes = writes
gives_not (ServesRead name o file) (ServesWrite uname asked) request fit gives writes = writes
gives_not (ServesWrite name o) urole request fit gives writes = gives
gives_not (Reads name o) urole request fit gives writes = gives
gives_not (Writes name o file) urole request fit gives writes = gives

takes_not : (role urole : Role) → packet_in (packet_bytes (first_packet urole)) ≡ request_taken role → IsBytes (packet_bytes (first_packet urole)) → IsTaking role → IsReading urole → ⊥
takes_not (ServesWrite name o) (Reads uname asked) request fit takes reads = written_not_read name uname o _ (read_is_spelled (packet_bytes (first_packet (Reads uname asked))) (Wrq name o) fit request)
takes_not (ServesWrite name o) (Writes uname asked f) request fit takes reads = reads
takes_not (ServesWrite name o) (ServesRead uname asked f) request fit takes reads = reads
takes_not (ServesWrite name o) (ServesWrite uname asked) request fit takes reads = reads
takes_not (ServesRead name o file) urole request fit takes reads = takes
takes_not (Reads name o) urole request fit takes reads = takes
takes_not (Writes name o file) urole request fit takes reads = takes

pub giving_not_written : (t x : Transfer) → AnswersRequest t x → IsGiving t.role → IsWriting x.role → ⊥
giving_not_written t x h gives writes = gives_not t.role x.role h.request h.are_bytes gives writes

pub taking_not_read : (t x : Transfer) → AnswersRequest t x → IsTaking t.role → IsReading x.role → ⊥
taking_not_read t x h takes reads = takes_not t.role x.role h.request h.are_bytes takes reads
