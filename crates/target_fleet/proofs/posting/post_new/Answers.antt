use Rattle.std.proofs.Common.{◌≡◌, ◌+◌, ◌≤◌, Some, length, refl, sym, ap, ◌∙◌, arith}
use Rattle.std.specs.Prelude.{drop, option_map, slice_get}
use Rattle.exchange_trace.specs.Happenings.{datagram_view}
use Rattle.exchange_trace.specs.Posts.{posted_in}
use Rattle.fleet_link.specs.FleetLinks.{FleetLinkState, with_post_at}
use Rattle.replay_turns.proofs.Newest.{numbered_next}
use Rattle.target_fleet.specs.Runs.{with_posts_at}
use Rattle.target_fleet.proofs.NewPosts.{posts_one, sent_one, sent_part, sent_to}
use Rattle.target_fleet.proofs.TurnsLeave.{anyway}
use Rattle.target_fleet.proofs.posting.post_new.Goals as goal

pub returns-in_err-note_post-in-Some-clause-in_part : goal.returns-in_err-note_post-in-Some-clause-in_part
returns-in_err-note_post-in-Some-clause-in_part g c =
    let all = posted_in c.args.driver.now.steps in
    let from : c.args.count ≤ c.posts.number = c.posts.auto.number in
    let within : c.posts.number ≤ length all = let test = c.posts-test.true in omega (arith, test, c.posted_count-total.ensures) in
    anyway c.from_residual.result _ (record {
      sent = sent_to all c.args.count c.posts.number;
      left = drop c.posts.number all;
      parts = sent_part all c.args.count c.posts.number from within;
      linked = c.in_err-note_post-in-Some.ensures.err ∙ c.posts.invariant;
    })

pub posts-preserved : goal.posts-preserved
posts-preserved g c =
    let all = posted_in c.args.driver.now.steps in
    let d = datagram_view c.in-Some.datagram.now in
    let from : c.args.count ≤ c.posts.number = c.posts.auto.number in
    let is : slice_get all c.posts.number ≡ Some d =
    sym (numbered_next all c.posts.number (c.posts.number + 1) refl) ∙ (sym c.posted.ensures ∙ ap (option_map (λ d. datagram_view d.now)) c.in-Some.is) in
    c.in_ok-note_post-in-Some.ensures.ok
    ∙ (ap (λ (l : FleetLinkState). with_post_at l c.args.unit d) c.posts.invariant
    ∙ (posts_one c.args.link.now c.args.unit (sent_to all c.args.count c.posts.number) d
    ∙ ap (with_posts_at c.args.link.now c.args.unit) (sym (sent_one all c.args.count c.posts.number (c.posts.number + 1) d refl from is))))
