-- What a packet is to an end of a transfer. All that the end does with it follows from this alone (docs/EXCHANGE.md).
use Rattle.std.specs.Prelude.{ℕ, List, [], ◌∷◌, Bool, true, false, Option, Some, None}
use Rattle.tftp_packet.specs.declared.options.Options.{Options}
use Rattle.tftp_link.specs.declared.step.News.{News}
use Rattle.tftp_link.specs.declared.step.News.TheVariants as news
use Rattle.tftp_link.specs.declared.phase.Phase.{Phase}
use Rattle.tftp_link.specs.declared.phase.Phase.TheVariants.{Waiting, Running, Finished, Failed}

pub data Answer : Type 0 where
  Dropped : Answer  -- it isn't answered, and changes nothing
  Again : Answer  -- what was acknowledged last comes again, and is acknowledged again
  Grants : Options → Answer  -- the OACK that answers the request
  TakesBlock : List ℕ → Answer  -- the next block, which is full, so that more are to come
  TakesLast : List ℕ → Answer  -- the next block, which is shorter, so that the file is whole
  Proceeds : Answer  -- an ACK, on which the next block is sent
  Completes : Answer  -- the ACK of the last block
  Fails : ℕ → Answer  -- an ERROR with this code

-- a packet is sent now
abbrev pub is_sent_by : Answer → Bool
is_sent_by Dropped = false
is_sent_by Again = true
is_sent_by (Grants options) = true
is_sent_by (TakesBlock payload) = true
is_sent_by (TakesLast payload) = true
is_sent_by Proceeds = true
is_sent_by Completes = false
is_sent_by (Fails code) = false

-- the packet was awaited: it is answered with something new, or ends the transfer
abbrev pub is_awaited_by : Answer → Bool
is_awaited_by Dropped = false
is_awaited_by Again = false
is_awaited_by answer = true

-- the transfer is over then
abbrev pub is_ended_by : Answer → Bool
is_ended_by (TakesLast payload) = true
is_ended_by Completes = true
is_ended_by (Fails code) = true
is_ended_by answer = false

-- the payload that is lent, if any
abbrev pub lent_by : Answer → List (List ℕ)
lent_by (TakesBlock payload) = payload ∷ []
lent_by (TakesLast payload) = payload ∷ []
lent_by answer = []

-- ---- news

-- what a packet brings, without where its bytes lie
pub data NewsView : Type 0 where
  Nothing : NewsView
  Block : List ℕ → NewsView
  Last : List ℕ → NewsView
  Done : NewsView
  PeerError : ℕ → NewsView

abbrev pub news_view : News → NewsView
news_view news.Nothing = Nothing
news_view (news.Block payload) = Block payload.now
news_view (news.Last payload) = Last payload.now
news_view news.Done = Done
news_view (news.PeerError code) = PeerError code

-- what is told of the packet
abbrev pub news_by : Answer → NewsView
news_by (TakesBlock payload) = Block payload
news_by (TakesLast payload) = Last payload
news_by Completes = Done
news_by (Fails code) = PeerError code
news_by answer = Nothing

-- ---- phases

-- the transfer isn't over
abbrev pub is_live : Phase → Bool
is_live Waiting = true
is_live Running = true
is_live Finished = false
is_live (Failed code) = false

-- the file was taken whole, or its last block was acknowledged
abbrev pub is_finished : Phase → Bool
is_finished Finished = true
is_finished phase = false

-- the code of the ERROR that ended the transfer
abbrev pub code_of : Phase → Option ℕ
code_of (Failed code) = Some code
code_of phase = None

-- what an ERROR is, to either end
abbrev pub error_answer : Phase → ℕ → Answer
error_answer Waiting code = Fails code
error_answer Running code = Fails code
error_answer Finished code = Dropped
error_answer (Failed before) code = Dropped
