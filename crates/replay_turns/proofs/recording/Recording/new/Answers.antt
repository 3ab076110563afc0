use Rattle.std.proofs.Common.{[], refl, arith}
use Rattle.std.proofs.lemmas.List.Elements.{All-nil}
use Rattle.exchange_trace.specs.Steps.{steps_of}
use Rattle.replay_turns.specs.Recordings.{IsRecorded}
use Rattle.replay_turns.proofs.recording.Recording.new.Goals as goal

nothing : IsRecorded [] [] 1024
unfolding steps_of
nothing = record { found = refl; within = All-nil _; port = refl; small = omega arith; ordered = refl }

pub invariant_of-result : goal.invariant_of-result
invariant_of-result c = rw (c.new.ensures.items, c.new-2.ensures.items) nothing

pub returns : goal.returns
unfolding steps_of
returns c = rw c.new.ensures.items refl
