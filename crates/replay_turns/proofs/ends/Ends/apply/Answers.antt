use Rattle.std.proofs.Common.{refl, ap, subst}
use Rattle.std.proofs.lemmas.Result.{on_ok_weaker}
use Rattle.exchange_trace.specs.Happenings.{happening_view}
use Rattle.exchange_trace.specs.Posts.{posted_in}
use Rattle.transfer_end.specs.Calls.{posts_view}
use Rattle.replay_turns.specs.Ends.{HasStepped}
use Rattle.replay_turns.specs.Turns.{notes_of}
use Rattle.replay_turns.proofs.Speaking.{one_is_silent}
use Rattle.replay_turns.proofs.ends.Ends.apply.Goals as goal

pub one_of-posts-requires : goal.one_of-posts-requires
one_of-posts-requires g c =
    one_is_silent (happening_view c.args.happening) (posted_in c.args.self.now.recording) c.args.self.now.loader c.loader_takes.new.loader (posts_view c.in-Ok-loader_takes.first) (posts_view c.in-Ok.reply.posts)
    c.in-Ok-loader_takes.ensures c.in-Ok.ensures.noted.silent

pub returns-clause-stepped : goal.returns-clause-stepped
returns-clause-stepped g c = on_ok_weaker c.record.result (λ step. rw step (record {
  notes = notes_of c.in-Ok.reply.note;
  recorded = refl;
  loader_posts = posts_view c.in-Ok-loader_takes.first;
  target_posts = posts_view c.in-Ok.reply.posts;
  both_post = c.one_of-posts.ensures;
  few = c.posts_carry_bytes.ensures.few;
  takes = c.in-Ok-loader_takes.ensures;
  noted = c.in-Ok.ensures.noted.noted;
  carries = c.posts_carry_bytes.ensures.carries;
  injects = c.carries_bytes.ensures;
  stops = c.in-Ok.ensures.noted.stops;
  running = c.in-Ok.ensures.noted.running;
})) c.record.ensures

pub returns-clause-said : goal.returns-clause-said
returns-clause-said g c = λ set state follows. on_ok_weaker c.record.result (λ step. rw step (record {
  stepped = record {
    notes = notes_of c.in-Ok.reply.note;
    recorded = refl;
    loader_posts = posts_view c.in-Ok-loader_takes.first;
    target_posts = posts_view c.in-Ok.reply.posts;
    both_post = c.one_of-posts.ensures;
    few = c.posts_carry_bytes.ensures.few;
    takes = c.in-Ok-loader_takes.ensures;
    noted = c.in-Ok.ensures.noted.noted;
    carries = c.posts_carry_bytes.ensures.carries;
    injects = c.carries_bytes.ensures;
    stops = c.in-Ok.ensures.noted.stops;
    running = c.in-Ok.ensures.noted.running;
  };
  lives = c.in-Ok.ensures.lives set.accepts follows;
  turns = λ may. c.in-Ok.ensures.turns set state follows may;
  holds = λ begins. let steps = c.in-Ok.ensures.steps set state begins in (steps.holds, steps.boots);
})) c.record.ensures
