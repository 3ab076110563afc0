-- What a step posted, by the numbers of its datagrams.
use Rattle.std.proofs.Common.{◌≡◌, ◌+◌, ◌≤◌, ◌∷◌, List, length, arith}
use Rattle.std.specs.Prelude.{drop}
use Rattle.std.proofs.Math.Seq.{drop-append_seam}
use Rattle.std.proofs.lemmas.List.{length-append}
use Rattle.exchange_trace.specs.Posts.{posted_in}
use Rattle.exchange_trace.specs.Steps.{Step}
use Rattle.replay_turns.specs.Recordings.{posts_of_last}

module _ (before after : List Step) (step : Step) (is : after ≡ step ∷ before) where
  pub posts_since : drop (length (posted_in before)) (posted_in after) ≡ posts_of_last after
  posts_since = rw is (drop-append_seam (posted_in before) step.posts)

  pub none_lost : length (posted_in before) ≤ length (posted_in after)
  none_lost = rw is (let sum = length-append (posted_in before) step.posts in omega (arith, sum))

  pub few_since : length (posts_of_last after) ≤ 2 → length (posted_in after) ≤ length (posted_in before) + 2
  few_since few =
      let here : length step.posts ≤ 2 = rw is at few in
      rw is (let sum = length-append (posted_in before) step.posts in omega (arith, sum, here))
