use Rattle.std.proofs.Common.{List, [], ◌∷◌, ◌++◌, ap, sym, subst, ◌∙◌}
use Rattle.exchange_trace.specs.Steps.{Step, steps_of, with_line}
use Rattle.replay_turns.specs.Recordings.{HasPlace}
use Rattle.replay_turns.proofs.Recorded.{steps_more, unposted}
use Rattle.replay_turns.proofs.recording.Recording.push.Goals as goal

pub invariant_of-self-2 : goal.invariant_of-self-2
invariant_of-self-2 c = rw (c.push_reserved.ensures.items, c.in_ok-reserve.ensures.items) (unposted c.self.inside.trace.items c.args.line c.self.inside.posts.items c.self.inside.first_port c.requires.no_post
    (subst (λ (steps : List Step). HasPlace steps c.args.line) (sym c.self.view_is) c.requires.place) c.self.invariant)

pub returns : goal.returns
returns c = ap steps_of (c.push_reserved.ensures.items ∙ ap (λ trace. trace ++ c.args.line ∷ []) c.in_ok-reserve.ensures.items) ∙ (steps_more c.self.inside.trace.items c.args.line ∙ ap (λ steps. with_line steps c.args.line) c.self.view_is)
