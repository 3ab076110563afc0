use Rattle.std.proofs.Common.{◌≡◌, ◌-◌, ◌≤◌, List, ◌∙◌, Some, ℕ, ap, sym, arith}
use Rattle.std.specs.Prelude.{slice_get}
use Rattle.exchange_trace.specs.declared.trace.TraceStep.{TraceStep}
use Rattle.exchange_trace.specs.Posts.{numbered, posted_in}
use Rattle.exchange_trace.specs.Steps.{Step}
use Rattle.replay_turns.specs.Recordings.{post_of}
use Rattle.replay_turns.proofs.Recorded.{found_datagram}
use Rattle.replay_turns.proofs.recording.Recording.datagram.Goals as goal

pub returns-in-Some : goal.returns-in-Some
returns-in-Some c =
    let from_1 : 1 ≤ c.args.number = omega arith in
    let index : slice_get c.self.inside.posts.items (c.args.number - 1) ≡ Some c.in-Some.index =
    ap (λ (posts : List ℕ). slice_get posts (c.args.number - 1)) (sym c.as_slice.ensures.value) ∙ (sym c.index_of.ensures ∙ c.in-Some.is) in
    c.posted_at.ensures
    ∙ (ap (λ (trace : List TraceStep). post_of (slice_get trace c.in-Some.index)) c.as_slice-in-Some.ensures.value
    ∙ (found_datagram c.self.inside.trace.items c.self.inside.posts.items c.self.inside.first_port c.self.invariant c.args.number c.in-Some.index from_1 index
    ∙ ap (λ (steps : List Step). numbered (posted_in steps) c.args.number) c.self.view_is))
