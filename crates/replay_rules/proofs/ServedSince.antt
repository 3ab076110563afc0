-- What answers a request of a session began since the session's start.
use Rattle.std.proofs.Common.{◌≡◌, ⊎_elim, ℕ, ◌<◌, true, false, List, [], ◌∷◌, ◌++◌, Some, None, refl, sym, ap, ◌∙◌, arith}
use Rattle.exchange_trace.specs.declared.trace.Side.TheVariants as sides
use Rattle.exchange_trace.specs.Happenings.{DatagramView}
use Rattle.exchange_trace.specs.Posts.{posted_in}
use Rattle.exchange_trace.specs.Steps.{Step}
use Rattle.transfer_end.proofs.OtherEndLemmas.{among_left, posted_by}
use Rattle.transfer_end.specs.OtherEnds.{Among, TransferHasBegun, HasPosted, IsFair, IsPostOf, IsPostOfSide, answered, is_asking, of_refusal, of_transfer, refused, served, unanswered}
use Rattle.transfer_end.specs.Transfers.{Transfer}
use Rattle.replay_rules.proofs.NewestStart.{some_is}

-- what was posted stays so
pub posted_still : (since steps : List Step) (d : DatagramView) → Among d (posted_in steps) → Among d (posted_in (since ++ steps))
posted_still [] steps d a = a
posted_still (s ∷ since) steps d a = among_left d (posted_in (since ++ steps)) s.posts (posted_still since steps d a)

some_not : (port : ℕ) → None ≡ Some port → ⊥
some_not port e = cc

-- Of two moments, the later one has a transfer of the target that serves, and its other end a port above all that the loader had
-- drawn at the earlier one: then the target had none of its port.
module _ (mine theirs then_mine then_theirs : List Transfer) (posted then_posted : List DatagramView) (one : IsFair sides.Target sides.Loader mine theirs posted) (other_one : IsFair sides.Loader sides.Target theirs mine posted)
    (one_then : IsFair sides.Target sides.Loader then_mine then_theirs then_posted) (still : (d : DatagramView) → Among d posted → Among d then_posted) (t : Transfer) (a : Among t then_mine) (serves : is_asking t.role ≡ false) (peer : ℕ) (bound : t.peer ≡ Some peer) (above : 59 < peer)
    (newer : (x : Transfer) → Among x theirs → x.own < peer) where
  not_59 : peer ≡ 59 → ⊥
  not_59 e = omega (arith, above, e)

  none_has : (x : Transfer) → Among x theirs → x.own ≡ peer → ⊥
  none_has x b e = let less : x.own < peer = newer x b in omega (arith, less, e)

  module _ (u : Transfer) (b : Among u mine) (own : u.own ≡ t.own) where
    sent : HasPosted posted sides.Target u.own
    sent = one.sent u b

    abbrev d : DatagramView
    d = sent.datagram

    -- what it posted is of the later transfer
    goes : d.to ≡ peer
    goes = by (posted_by sides.Target sides.Loader then_mine then_theirs then_posted t d one_then a (still d sent.among) sent.poster (sent.port ∙ own))
      where
        by : IsPostOf t d → d.to ≡ peer
        by post = ⊎_elim (λ (e : t.peer ≡ Some d.to). sym (some_is peer d.to (sym bound ∙ e)))
            (λ (r : (d.to ≡ 59) × (post.heard ≡ []) × (is_asking t.role ≡ true)). absurd (let wrong : false ≡ true = sym serves ∙ r.2 in cc)) post.goes

    -- so both have the same other end
    same_end : u.peer ≡ Some peer
    same_end = by (posted_by sides.Target sides.Loader mine theirs posted u d one b sent.among sent.poster sent.port)
      where
        by : IsPostOf u d → u.peer ≡ Some peer
        by post = ⊎_elim (λ (e : u.peer ≡ Some d.to). e ∙ ap (λ (p : ℕ). Some p) goes)
            (λ (r : (d.to ≡ 59) × (post.heard ≡ []) × (is_asking u.role ≡ true)). absurd (not_59 (sym goes ∙ r.0))) post.goes

    by_post : (x : DatagramView) → x.from ≡ peer → IsPostOfSide theirs x → ⊥
    by_post x from (of_transfer y c post) = none_has y c (sym post.port ∙ from)
    by_post x from (of_refusal is_59 bytes) = not_59 (sym from ∙ is_59)

    by_begun : TransferHasBegun posted sides.Loader theirs u → ⊥
    by_begun (served also took) =
        by_post (record { side = sides.Loader; from = took.peer; to = 59; bytes = took.brought.bytes }) (some_is took.peer peer (sym took.bound ∙ same_end))
        (other_one.posts (record { side = sides.Loader; from = took.peer; to = 59; bytes = took.brought.bytes }) took.brought.among refl)
    by_begun (unanswered asks none got) = some_not peer (sym none ∙ same_end)
    by_begun (refused asks is_59) = not_59 (sym (some_is 59 peer (sym is_59 ∙ same_end)))
    by_begun (answered asks y c is) = none_has y c (some_is y.own peer (sym is.port ∙ same_end))

    pub not_there : ⊥
    not_there = by_begun (one.begun u b)
