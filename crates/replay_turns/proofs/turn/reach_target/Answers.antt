use Rattle.std.proofs.Common.{◌≡◌, Some, refl, subst}
use Rattle.exchange_trace.specs.declared.trace.Side.TheVariants as sides
use Rattle.exchange_trace.specs.Happenings.{happening_view}
use Rattle.exchange_trace.specs.Logs.{event_for}
use Rattle.exchange_trace.specs.Posts.{posted_in}
use Rattle.transfer_end.specs.Calls.{posts_view}
use Rattle.replay_turns.specs.Turns.{RuleFollows}
use Rattle.replay_turns.proofs.Taking.{took, took_alive, took_rule}
use Rattle.replay_turns.proofs.Stepping.{down_steps, next_of, took_steps, unmade_steps}
use Rattle.replay_turns.proofs.turn.reach_target.Goals as goal

pub returns-in-Ok-clause-turns : goal.returns-in-Ok-clause-turns
returns-in-Ok-clause-turns g c =
    λ set state follows.
    let slot : c.args.slot.now ≡ Some c.in-Some.target = c.in-Some.is in
    took set (event_for sides.Target (posted_in c.args.recording.now) (happening_view c.args.happening.now)) state c.args.slot.now c.in-Some.target c.target_takes.new.target
    (posts_view c.in-Ok.posts) slot (c.in-Ok.ensures.takes set.accepts (subst (λ o. RuleFollows g.R.Rule.may_say set.accepts o) slot follows))

pub returns-in-Ok-clause-lives : goal.returns-in-Ok-clause-lives
returns-in-Ok-clause-lives g c =
    λ accepts follows.
    let slot : c.args.slot.now ≡ Some c.in-Some.target = c.in-Some.is in
    took_alive accepts (event_for sides.Target (posted_in c.args.recording.now) (happening_view c.args.happening.now)) c.args.slot.now c.in-Some.target c.target_takes.new.target
    (posts_view c.in-Ok.posts) slot (c.in-Ok.ensures.takes accepts (subst (λ o. RuleFollows g.R.Rule.may_say accepts o) slot follows))

pub returns-in-Ok-clause-rule : goal.returns-in-Ok-clause-rule
returns-in-Ok-clause-rule g c =
    λ accepts follows.
    let slot : c.args.slot.now ≡ Some c.in-Some.target = c.in-Some.is in
    let rule = subst (λ o. RuleFollows g.R.Rule.may_say accepts o) slot follows in
    took_rule g.R.Rule.may_say accepts (event_for sides.Target (posted_in c.args.recording.now) (happening_view c.args.happening.now)) c.in-Some.target c.target_takes.new.target
    (posts_view c.in-Ok.posts) (c.in-Ok.ensures.takes accepts rule) rule

pub returns-in-Ok-clause-steps : goal.returns-in-Ok-clause-steps
returns-in-Ok-clause-steps g c =
    λ set state begins.
    let slot : c.args.slot.now ≡ Some c.in-Some.target = c.in-Some.is in
    let e = event_for sides.Target (posted_in c.args.recording.now) (happening_view c.args.happening.now) in
    let rule = subst (λ o. RuleFollows g.R.Rule.may_say set.accepts o) slot begins.rule in
    took_steps g.R.Rule.may_say set e c.args.slot.now c.in-Some.target c.target_takes.new.target (g.K.Disk.state c.args.disk.now) (g.K.Disk.state c.target_takes.new.disk) c.target_takes.result slot
    (g.met.K.Disk.reads_now c.args.disk.now) c.target_takes.ensures.writes.goes_on (λ x has. c.target_takes.ensures.keeps set.accepts rule x has) _ c.in-Ok.posts _ _ c.in-Ok.is
    (next_of set e c.in-Some.target c.target_takes.new.target (posts_view c.in-Ok.posts) (c.in-Ok.ensures.takes set.accepts rule)) refl state begins

pub returns-in-Err-DiskFailed-clause-steps : goal.returns-in-Err-DiskFailed-clause-steps
returns-in-Err-DiskFailed-clause-steps g c =
    λ set state begins.
    let slot : c.args.slot.now ≡ Some c.in-Some.target = c.in-Some.is in
    let e = event_for sides.Target (posted_in c.args.recording.now) (happening_view c.args.happening.now) in
    let rule = subst (λ o. RuleFollows g.R.Rule.may_say set.accepts o) slot begins.rule in
    down_steps g.R.Rule.may_say set e c.args.slot.now c.in-Some.target c.target_takes.new.target (g.K.Disk.state c.args.disk.now) (g.K.Disk.state c.target_takes.new.disk) c.target_takes.result slot
    (g.met.K.Disk.reads_now c.args.disk.now) c.target_takes.ensures.writes.goes_on (λ x has. c.target_takes.ensures.keeps set.accepts rule x has) _ c.go_down.new.slot _ _ c.go_down.ensures refl state begins

pub returns-in-Err-Memory-clause-steps : goal.returns-in-Err-Memory-clause-steps
returns-in-Err-Memory-clause-steps g c =
    λ set state begins.
    let slot : c.args.slot.now ≡ Some c.in-Some.target = c.in-Some.is in
    let e = event_for sides.Target (posted_in c.args.recording.now) (happening_view c.args.happening.now) in
    let rule = subst (λ o. RuleFollows g.R.Rule.may_say set.accepts o) slot begins.rule in
    unmade_steps g.R.Rule.may_say set e c.args.slot.now c.in-Some.target c.target_takes.new.target (g.K.Disk.state c.args.disk.now) (g.K.Disk.state c.target_takes.new.disk) c.target_takes.result slot
    (g.met.K.Disk.reads_now c.args.disk.now) c.target_takes.ensures.writes.goes_on (λ x has. c.target_takes.ensures.keeps set.accepts rule x has) (Some c.target_takes.new.target) _ _ state begins
