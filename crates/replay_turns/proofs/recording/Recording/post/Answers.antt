use Rattle.std.proofs.Common.{List, [], ◌∷◌, ◌++◌, sym, ap, subst, ◌∙◌}
use Rattle.exchange_trace.specs.declared.trace.TraceStep.TheVariants.{Posted}
use Rattle.exchange_trace.specs.Happenings.{datagram_view}
use Rattle.exchange_trace.specs.Steps.{Step, steps_of, with_post}
use Rattle.replay_turns.specs.Recordings.{StepHasBegun}
use Rattle.replay_turns.proofs.Recorded.{posted_on, steps_more, still_begun}
use Rattle.replay_turns.proofs.recording.Recording.post.Goals as goal

pub invariant_of-self-2 : goal.invariant_of-self-2
invariant_of-self-2 c =
    rw (c.push_reserved-2.ensures.items, c.push_reserved.ensures.items, c.as_slice.ensures.value, c.in_ok-reserve-2.ensures.items, c.in_ok-reserve.ensures.items)
    (posted_on c.self.inside.trace.items c.args.datagram c.self.inside.posts.items c.self.inside.first_port c.port_after-first_port.result
    (subst (λ (steps : List Step). StepHasBegun steps) (sym c.self.view_is) c.requires) c.port_after-first_port.ensures.is c.port_after-first_port.ensures.small c.self.invariant)

pub returns-clause-post : goal.returns-clause-post
returns-clause-post c =
    ap steps_of (c.push_reserved-2.ensures.items ∙ ap (λ trace. trace ++ Posted c.args.datagram ∷ []) c.in_ok-reserve-2.ensures.items)
    ∙ (steps_more c.self.inside.trace.items (Posted c.args.datagram)
    ∙ ap (λ (steps : List Step). with_post steps (datagram_view c.args.datagram)) c.self.view_is)

pub returns-clause-begun : goal.returns-clause-begun
returns-clause-begun c =
    subst (λ (steps : List Step). StepHasBegun steps) (sym (returns-clause-post c)) (still_begun c.args.self.now (datagram_view c.args.datagram) c.requires)
