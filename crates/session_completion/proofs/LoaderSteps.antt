-- What the loader does at each step of a clean upload.
use Rattle.std.proofs.Common.{◌≡◌, ℕ, Bool, true, false, cond, List, [], ◌∷◌, ◌++◌, Option, Some, None, refl, sym, ap, subst, ◌∙◌}
use Rattle.std.specs.Prelude.{bytes_eq, ◌==◌}
use Rattle.std.proofs.lemmas.Slice.Eq.{bytes_eq-Decides}
use Rattle.exchange_trace.specs.declared.trace.Side.{Side}
use Rattle.exchange_trace.specs.declared.trace.Side.TheVariants as sides
use Rattle.exchange_trace.specs.Happenings.{DatagramView}
use Rattle.exchange_trace.specs.Logs.{Event, Gets}
use Rattle.tftp_packet.specs.declared.options.Options.{Options}
use Rattle.tftp_packet.specs.Packets.{PacketView, Rrq, Wrq}
use Rattle.tftp_link.specs.Answers.{Answer, Dropped, Again, Grants, TakesBlock, TakesLast, Proceeds, Completes, Fails}
use Rattle.transfer_end.specs.Moves.{Move, Hears, Asks, Serves, Stops, all_posts, views_after}
use Rattle.transfer_end.specs.Packets.{answer_of, belongs, is_busy, is_fresh, has_port, packet_in}
use Rattle.transfer_end.specs.Transfers.{Role, ServesRead, ServesWrite}
use Rattle.transfer_end.specs.Views.{EndView, TransferView}
use Rattle.session_rules.specs.declared.outcome.FileKind.{FileKind}
use Rattle.session_rules.specs.declared.outcome.Outcome.{Outcome}
use Rattle.session_rules.specs.Buffers.{buffered_more}
use Rattle.session_rules.specs.FileNames.{file_name}
use Rattle.session_rules.specs.Loader as loader
use Rattle.session_rules.specs.Loader.{LoaderChange, LoaderDecision, LoaderSession, LoaderView, loader_after, loader_changed, loader_decision, loader_posts}
use Rattle.session_rules.specs.LoaderRows.{Goes_on, Comes_to, file_turn, kind_taken, row_after, serves_files}
use Rattle.session_rules.specs.MediaFiles.{Media}
use Rattle.transfer_completion.specs.Positions.{Position, StandsIn}
use Rattle.transfer_completion.specs.Retries.{retries_after}
use Rattle.transfer_completion.specs.Steps.{IsGoing}
use Rattle.session_completion.specs.Retries.{loader_retries}
use Rattle.session_completion.specs.Stages.{IsPosted}
use Rattle.session_completion.proofs.Moved.{Moved}

-- what an end stands in after an event, and what it posted
pub record Reaches (side : Side) (posts : List DatagramView) (own peer i : ℕ) (position : Position) (new : List DatagramView) (end : EndView) (posted : List DatagramView) (retries : ℕ → ℕ) : Type 0 where
  pub stands : StandsIn side (posts ++ new) own peer i position end
  pub posted_is : posted ≡ new
  pub resets : (r : ℕ) → retries r ≡ 0
  pub last : IsPosted (posts ++ new) end.last

abbrev pub payload_of : Answer → List ℕ
payload_of (TakesBlock payload) = payload
payload_of a = []

change_end : (end : EndView) (v : LoaderView) (c : LoaderChange) → (loader_changed end v c).end ≡ end
change_end end v (loader.Continues more) = refl
change_end end v loader.Advances = refl
change_end end v (loader.Ends outcome more) = refl
change_end end v (loader.Begins s) = refl
change_end end v (loader.Begins_over kind outcome) = refl

-- by the decision
abbrev pub LoaderReaches : Media → LoaderView → Event → List DatagramView → (own peer i : ℕ) → Position → List DatagramView → Type 0
LoaderReaches media v e posts own peer i position new = Reaches sides.Loader posts own peer i position new (loader_after media v e).end (loader_posts media v e) (loader_retries media v e)

pub loader_reaches : (media : Media) (v : LoaderView) (e : Event) (moves : List Move) (change : LoaderChange) (posts : List DatagramView) (own peer i : ℕ) (position : Position) (new : List DatagramView)
    → loader_decision media v e ≡ record { moves = moves; change = change } → Moved sides.Loader v.end moves posts own peer i position new → LoaderReaches media v e posts own peer i position new
loader_reaches media v e moves change posts own peer i position new is m =
    subst (λ (d : LoaderDecision). Reaches sides.Loader posts own peer i position new (loader_changed (views_after sides.Loader v.end d.moves) v d.change).end (all_posts sides.Loader v.end d.moves) (λ r. retries_after sides.Loader v.end d.moves r)) (sym is)
    (subst (λ (x : EndView). Reaches sides.Loader posts own peer i position new x (all_posts sides.Loader v.end moves) (λ r. retries_after sides.Loader v.end moves r)) (sym (change_end (views_after sides.Loader v.end moves) v change))
    (record { stands = m.stands; posted_is = m.posted; resets = m.resets; last = m.last }))

pub loader_is : (media : Media) (v : LoaderView) (e : Event) (moves : List Move) (change : LoaderChange) → loader_decision media v e ≡ record { moves = moves; change = change }
    → loader_after media v e ≡ loader_changed (views_after sides.Loader v.end moves) v change
loader_is media v e moves change is = ap (λ (d : LoaderDecision). loader_changed (views_after sides.Loader v.end d.moves) v d.change) is

pub same_name : (name : List ℕ) → bytes_eq name name ≡ true
same_name name = (bytes_eq-Decides name name).1 refl

abbrev decides : List Move → LoaderChange → LoaderDecision
decides moves change = record { moves = moves; change = change }

module _ (media : Media) (v : LoaderView) (s : LoaderSession) (live : v.live ≡ Some s) (from to : ℕ) (bytes : List ℕ) (p : PacketView) (is : packet_in bytes ≡ Some p) where
  -- ---- a request

  asked : (to == 59) ≡ true → v.end.live ≡ None → loader_decision media v (Gets from to bytes) ≡ loader.request_decision media v.end s from p
  asked low free =
      ap (λ (o : Option PacketView). loader.got_decision media v from to o) is
      ∙ ap (λ (l : Option LoaderSession). loader.session_decision media v.end l from to p) live
      ∙ rw low (ap (λ (b : Bool). cond b loader.nothing (loader.request_decision media v.end s from p)) (free_end v.end free))
    where
      free_end : (end : EndView) → end.live ≡ None → is_busy end ≡ false
      free_end end e = ap (λ (o : Option TransferView). is_busy (record { next_port = end.next_port; mark = end.mark; live = o; kept = end.kept; retries = end.retries; last = end.last; asks_size = end.asks_size })) e

  taken : (role : Role) → is_fresh v.end from ≡ true → has_port v.end ≡ true → loader.take_request v.end from role ≡ loader.doing (Serves from role ∷ [])
  taken role fresh room = rw (fresh, room) refl

  -- to write a file of this kind
  pub serves_write : (kind : FileKind) (o : Options) → p ≡ Wrq (file_name s.start.hw s.start.pos kind) o → kind_taken s.row ≡ Some kind → (to == 59) ≡ true → v.end.live ≡ None → is_fresh v.end from ≡ true → has_port v.end ≡ true
      → loader_decision media v (Gets from to bytes) ≡ decides (Serves from (ServesWrite (file_name s.start.hw s.start.pos kind) o) ∷ []) (loader.Continues [])
  serves_write kind o asks kinds low free fresh room =
      let name = file_name s.start.hw s.start.pos kind in
      asked low free ∙ ap (λ (q : PacketView). loader.request_decision media v.end s from q) asks
      ∙ ap (λ (k : Option FileKind). loader.write_decision v.end s.start from name o k) kinds
      ∙ rw (same_name name) (taken (ServesWrite name o) fresh room)

  -- to read a file of the media set
  pub serves_read : (name : List ℕ) (o : Options) (file : List ℕ) → p ≡ Rrq name o → serves_files s.row ≡ true → media.file name ≡ Some file → (to == 59) ≡ true → v.end.live ≡ None → is_fresh v.end from ≡ true → has_port v.end ≡ true
      → loader_decision media v (Gets from to bytes) ≡ decides (Serves from (ServesRead name o file) ∷ []) (loader.Continues [])
  serves_read name o file asks row has low free fresh room =
      asked low free ∙ ap (λ (q : PacketView). loader.request_decision media v.end s from q) asks
      ∙ rw row (ap (λ (f : Option (List ℕ)). loader.read_decision v.end from name o f) has ∙ taken (ServesRead name o file) fresh room)

  -- ---- a packet of the live transfer

  hears : (a : Answer) → (to == 59) ≡ false → belongs v.end.live from to ≡ true → answer_of v.end.live p ≡ a → loader_decision media v (Gets from to bytes) ≡ loader.answer_decision v.end s (Hears from p ∷ []) a
  hears a high mine answers =
      ap (λ (o : Option PacketView). loader.got_decision media v from to o) is
      ∙ ap (λ (l : Option LoaderSession). loader.session_decision media v.end l from to p) live
      ∙ rw (high, mine) (ap (λ (x : Answer). loader.answer_decision v.end s (Hears from p ∷ []) x) answers)

  goes_so : (a : Answer) → IsGoing a → loader.answer_decision v.end s (Hears from p ∷ []) a ≡ decides (Hears from p ∷ []) (loader.Continues (payload_of a))
  goes_so (Grants o) going = refl
  goes_so (TakesBlock b) going = refl
  goes_so Proceeds going = refl
  goes_so Dropped going = absurd going
  goes_so Again going = absurd going
  goes_so (TakesLast b) going = absurd going
  goes_so Completes going = absurd going
  goes_so (Fails code) going = absurd going

  pub goes_on : (a : Answer) → IsGoing a → (to == 59) ≡ false → belongs v.end.live from to ≡ true → answer_of v.end.live p ≡ a
      → loader_decision media v (Gets from to bytes) ≡ decides (Hears from p ∷ []) (loader.Continues (payload_of a))
  goes_on a going high mine answers = hears a high mine answers ∙ goes_so a going

  -- the last block of a file: the loader waits, or asks, or is done
  pub takes_and_waits : (payload : List ℕ) → file_turn s.row (buffered_more s.arriving payload) ≡ Goes_on → loader.row_request v.end.asks_size s.start (row_after s.row) ≡ None → (to == 59) ≡ false → belongs v.end.live from to ≡ true
      → answer_of v.end.live p ≡ TakesLast payload → loader_decision media v (Gets from to bytes) ≡ decides (Hears from p ∷ []) loader.Advances
  takes_and_waits payload turn none high mine answers =
      hears (TakesLast payload) high mine answers ∙ ap (λ t. loader.turn_decision v.end s (Hears from p ∷ []) payload t) turn ∙ ap (λ (role : Option Role). loader.next_decision v.end (Hears from p ∷ []) payload role) none

  pub takes_and_asks : (payload : List ℕ) (role : Role) → file_turn s.row (buffered_more s.arriving payload) ≡ Goes_on → loader.row_request v.end.asks_size s.start (row_after s.row) ≡ Some role → has_port v.end ≡ true → (to == 59) ≡ false
      → belongs v.end.live from to ≡ true → answer_of v.end.live p ≡ TakesLast payload → loader_decision media v (Gets from to bytes) ≡ decides (Hears from p ∷ Asks role ∷ []) loader.Advances
  takes_and_asks payload role turn some room high mine answers =
      hears (TakesLast payload) high mine answers ∙ ap (λ t. loader.turn_decision v.end s (Hears from p ∷ []) payload t) turn
      ∙ ap (λ (r : Option Role). loader.next_decision v.end (Hears from p ∷ []) payload r) some ∙ rw room refl

  pub takes_and_ends : (payload : List ℕ) (outcome : Outcome) → file_turn s.row (buffered_more s.arriving payload) ≡ Comes_to outcome → (to == 59) ≡ false → belongs v.end.live from to ≡ true → answer_of v.end.live p ≡ TakesLast payload
      → loader_decision media v (Gets from to bytes) ≡ decides (Hears from p ∷ Stops ∷ []) (loader.Ends outcome payload)
  takes_and_ends payload outcome turn high mine answers =
      hears (TakesLast payload) high mine answers ∙ ap (λ t. loader.turn_decision v.end s (Hears from p ∷ []) payload t) turn

  -- the last acknowledgement: the loader waits
  pub sent_and_waits : loader.row_request v.end.asks_size s.start (row_after s.row) ≡ None → (to == 59) ≡ false → belongs v.end.live from to ≡ true → answer_of v.end.live p ≡ Completes
      → loader_decision media v (Gets from to bytes) ≡ decides (Hears from p ∷ []) loader.Advances
  sent_and_waits none high mine answers =
      hears Completes high mine answers ∙ ap (λ (role : Option Role). loader.next_decision v.end (Hears from p ∷ []) [] role) none

pub loader_end_is : (media : Media) (v : LoaderView) (e : Event) (moves : List Move) (change : LoaderChange) → loader_decision media v e ≡ record { moves = moves; change = change }
    → (loader_after media v e).end ≡ views_after sides.Loader v.end moves
loader_end_is media v e moves change is = ap (λ (x : LoaderView). x.end) (loader_is media v e moves change is) ∙ change_end (views_after sides.Loader v.end moves) v change
