use Rattle.std.proofs.Common.{sym, ap, subst, ◌∙◌}
use Rattle.std.specs.Prelude.{drop}
use Rattle.std.proofs.lemmas.Result.{IfOk-weaker}
use Rattle.exchange_trace.specs.Happenings.{happening_view}
use Rattle.exchange_trace.specs.Posts.{posted_in}
use Rattle.upload_replay.specs.DriverSteps.{TakesStep}
use Rattle.upload_replay.proofs.Stepped.{posts_since}
use Rattle.upload_replay.proofs.driver.Driver.step.Goals as goal

pub returns-clause-takes : goal.returns-clause-takes
returns-clause-takes g c =
    let takes = c.in_ok-apply.ensures.takes in
    let before = c.args.self.now.steps in
    let after = c.apply.new.self.steps in
    IfOk-weaker c.posts_after.result _ _
    (λ posts is. subst (λ sent. TakesStep g.R.Rule.may_say (happening_view c.args.happening) sent c.args.self.now c.apply.new.self (g.K.Disk.state c.args.disk.now) (g.K.Disk.state c.apply.new.disk))
    (sym (is ∙ (ap (λ n. drop n (posted_in after)) c.posted_count-count.ensures ∙ posts_since before after takes.stepped.step takes.stepped.recorded))) takes)
    c.posts_after.ensures
