use Rattle.std.proofs.Common.{None, ◌+◌, arith}
use Rattle.exchange_trace.specs.Posts.{posted_in}
use Rattle.replay_turns.proofs.Newest.{newest_two, none_past}
use Rattle.upload_replay.proofs.driver.Driver.posts_after.Goals as goal

pub returns-then-count-total-2 : goal.returns-then-count-total-2
returns-then-count-total-2 g c =
    let all = posted_in c.args.self.now.steps in
    newest_two all c.args.count c.in_ok-first.first None c.requires.few c.in_ok-first.ensures (none_past all (c.args.count + 2) (omega (arith, c.posted_count-total.ensures, c.if-count-total-2.true)))

pub returns-in-Ok : goal.returns-in-Ok
returns-in-Ok g c = newest_two (posted_in c.args.self.now.steps) c.args.count c.in_ok-first.first c.in-Ok.second c.requires.few c.in_ok-first.ensures c.in-Ok.ensures
