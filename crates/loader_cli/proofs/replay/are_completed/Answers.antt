use Rattle.loader_machine.specs.Machine.{session_view}
use Rattle.std.proofs.lemmas.List.Elements.{All-map}
use Rattle.loader_cli.specs.Replays.{IsCompleted}
use Rattle.loader_cli.proofs.Replayed.{each_of_map}
use Rattle.loader_cli.proofs.replay.are_completed.Goals as goal

pub returns : goal.returns
returns c = (
  (λ is. All-map IsCompleted session_view c.args.sessions.now (c.is_each_completed.ensures.0 is)),
  (λ all. c.is_each_completed.ensures.1 (each_of_map IsCompleted session_view c.args.sessions.now all)),
)
