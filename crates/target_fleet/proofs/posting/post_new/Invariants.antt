use Rattle.std.proofs.Common.{◌≡◌}
use Rattle.exchange_trace.specs.Posts.{posted_in}
use Rattle.target_fleet.specs.Runs.{with_posts_at}
use Rattle.target_fleet.proofs.NewPosts.{sent_to}
use Rattle.target_fleet.proofs.posting.post_new.Given as goal

abbrev pub invariant-posts : goal.invariant-posts
invariant-posts g l = l.link ≡ with_posts_at l.fn.link l.fn.unit (sent_to (posted_in l.fn.driver.steps) l.fn.count l.number)
