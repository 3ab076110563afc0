use Rattle.std.proofs.Common.{◌∷◌, ◌++◌, Err, Bool, List, sym, ap, subst, ◌∙◌}
use Rattle.exchange_trace.specs.Happenings.{DatagramView, HappeningView, happening_view}
use Rattle.exchange_trace.specs.Posts.{posted_in}
use Rattle.link_net.specs.Links.{LinkState}
use Rattle.transfer_end.specs.Calls.{posts_view}
use Rattle.upload_replay.specs.Turns.{IsPostedInPart}
use Rattle.upload_replay.proofs.Counted.{arms_end, arms_one}
use Rattle.upload_replay.proofs.History.{all_held, history_last, history_now, history_posted, if_err}
use Rattle.upload_replay.proofs.Turning.{end_on, is_the_end, turn_on}
use Rattle.upload_replay.proofs.running.turn.Goals as goal

pub returns-in_err-happening-clause-leaves : goal.returns-in_err-happening-clause-leaves
returns-in_err-happening-clause-leaves g c =
    λ set began since stands runs.
    let disk = g.K.Disk.state c.args.disk.now in
    if_err c.from_residual.result _ (λ fault. rw c.in_err-happening.ensures.err
    (history_now set began since c.args.driver.now disk c.requires.goes_on runs.goes_on.tied runs.clocks runs.held
    (all_held set disk (g.met.K.Disk.wider c.args.disk.now) (g.met.K.Disk.splits c.args.disk.now) (g.met.K.Disk.only_now c.args.disk.now) since runs.clocks c.args.driver.now.steps c.args.driver.now.target runs.held) (Err fault)
    (g.L.Link.state c.args.link.now) runs.goes_on.linked))

pub returns-then-is_end-clause-on_setting : goal.returns-then-is_end-clause-on_setting
returns-then-is_end-clause-on_setting g c =
    λ set stands.
    record {
      stands = stands;
      goes_on = λ began before never. end_on set began (g.L.Link.state c.args.link.now) (g.L.Link.state c.next.new.self) c.args.driver.now (happening_view c.in_ok-happening.happening) c.waits-waits.result.loader c.waits-waits.result.target
          (is_the_end (happening_view c.in_ok-happening.happening) (sym c.is_end.ensures ∙ c.if-is_end.true)) c.waits-waits.ensures.loader c.waits-waits.ensures.target c.in_ok-happening.ensures.ok (before never);
      held = λ began since runs. record {
        goes_on = end_on set began (g.L.Link.state c.args.link.now) (g.L.Link.state c.next.new.self) c.args.driver.now (happening_view c.in_ok-happening.happening) c.waits-waits.result.loader c.waits-waits.result.target
            (is_the_end (happening_view c.in_ok-happening.happening) (sym c.is_end.ensures ∙ c.if-is_end.true)) c.waits-waits.ensures.loader c.waits-waits.ensures.target c.in_ok-happening.ensures.ok runs.goes_on;
        clocks = runs.clocks;
        held = runs.held;
      };
    }

pub returns-then-is_end-clause-arms : goal.returns-then-is_end-clause-arms
returns-then-is_end-clause-arms g c =
    arms_end _ _ (happening_view c.in_ok-happening.happening) (g.K.Disk.state c.args.disk.now) (is_the_end (happening_view c.in_ok-happening.happening) (sym c.is_end.ensures ∙ c.if-is_end.true)) c.in_ok-happening.ensures.ok.given

pub returns-in-Err-clause-arms : goal.returns-in-Err-clause-arms
returns-in-Err-clause-arms g c =
    arms_one _ _ (happening_view c.in_ok-happening.happening) (g.K.Disk.state c.args.disk.now) (g.K.Disk.state c.step.new.disk) c.in_ok-happening.ensures.ok.given c.step.ensures.acts.arms

pub returns-in-Err-clause-leaves : goal.returns-in-Err-clause-leaves
returns-in-Err-clause-leaves g c =
    λ set began since stands runs.
    let disk = g.K.Disk.state c.args.disk.now in
    history_last {T = Bool} set began since c.args.driver.now disk c.requires.goes_on runs.goes_on.tied runs.clocks runs.held
    (all_held set disk (g.met.K.Disk.wider c.args.disk.now) (g.met.K.Disk.splits c.args.disk.now) (g.met.K.Disk.only_now c.args.disk.now) since runs.clocks c.args.driver.now.steps c.args.driver.now.target runs.held) _
    (g.K.Disk.state c.step.new.disk) (happening_view c.in_ok-happening.happening) (g.L.Link.state c.args.link.now) (g.L.Link.state c.next.new.self) (λ link. cc) c.step.ensures.acts.injects runs.goes_on.linked
    c.in_ok-happening.ensures.ok.posted c.in_ok-happening.ensures.ok.given (c.step.ensures.acts.adds set stands runs.held.holds)

pub returns-in-Ok-post_all-clause-arms : goal.returns-in-Ok-post_all-clause-arms
returns-in-Ok-post_all-clause-arms g c =
    arms_one _ _ (happening_view c.in_ok-happening.happening) (g.K.Disk.state c.args.disk.now) (g.K.Disk.state c.step.new.disk)
    (ap (λ (l : LinkState). l.given) c.post_all.ensures.in_part.linked ∙ c.in_ok-happening.ensures.ok.given) c.step.ensures.acts.arms

pub returns-in-Err-post_all-clause-arms : goal.returns-in-Err-post_all-clause-arms
returns-in-Err-post_all-clause-arms g c =
    arms_one _ _ (happening_view c.in_ok-happening.happening) (g.K.Disk.state c.args.disk.now) (g.K.Disk.state c.step.new.disk)
    (ap (λ (l : LinkState). l.given) c.post_all.ensures.in_part.linked ∙ c.in_ok-happening.ensures.ok.given) c.step.ensures.acts.arms

pub returns-in-Ok-post_all-clause-on_setting : goal.returns-in-Ok-post_all-clause-on_setting
returns-in-Ok-post_all-clause-on_setting g c =
    λ set stands.
    let stepped = c.in-Ok.ensures.takes.stepped in
    record {
      stands = c.in-Ok.ensures.takes.stands set stands;
      goes_on = λ began before all.
          let never = rw stepped.recorded at all in
          turn_on set began (g.L.Link.state c.args.link.now) (g.L.Link.state c.next.new.self) (g.L.Link.state c.post_all.new.link) c.args.driver.now c.step.new.self (happening_view c.in_ok-happening.happening) (posts_view c.in-Ok.posts)
          (g.K.Disk.state c.args.disk.now) (g.K.Disk.state c.step.new.disk) stepped c.waits-waits.result.loader c.waits-waits.result.target c.waits-waits.ensures.loader c.waits-waits.ensures.target c.in_ok-happening.ensures.ok
          c.in-Ok-post_all.ensures.posts (before never.1) (c.in-Ok.ensures.takes.tied set stands (λ none. (before none).tied) all);
      held = λ began since runs.
          let unit = c.in-Ok.ensures.takes.held set since runs.clocks stands (record { tied = runs.goes_on.tied; held = runs.held }) in
          record {
            goes_on = turn_on set began (g.L.Link.state c.args.link.now) (g.L.Link.state c.next.new.self) (g.L.Link.state c.post_all.new.link) c.args.driver.now c.step.new.self (happening_view c.in_ok-happening.happening) (posts_view c.in-Ok.posts)
                (g.K.Disk.state c.args.disk.now) (g.K.Disk.state c.step.new.disk) stepped c.waits-waits.result.loader c.waits-waits.result.target c.waits-waits.ensures.loader c.waits-waits.ensures.target c.in_ok-happening.ensures.ok
                c.in-Ok-post_all.ensures.posts runs.goes_on unit.tied;
            clocks = (g.K.Disk.state c.args.disk.now).clock ∷ runs.clocks;
            held = unit.held;
          };
    }

pub returns-in-Err-post_all-clause-leaves : goal.returns-in-Err-post_all-clause-leaves
returns-in-Err-post_all-clause-leaves g c =
    λ set began since stands runs.
    let new = g.K.Disk.state c.step.new.disk in
    let clocks = (g.K.Disk.state c.args.disk.now).clock ∷ runs.clocks in
    let stepped = c.in-Ok.ensures.takes.stepped in
    let unit = c.in-Ok.ensures.takes.held set since runs.clocks stands (record { tied = runs.goes_on.tied; held = runs.held }) in
    history_posted {T = Bool} set began since c.step.new.self new stepped.goes_on unit.tied clocks unit.held
    (all_held set new (g.met.K.Disk.wider c.step.new.disk) (g.met.K.Disk.splits c.step.new.disk) (g.met.K.Disk.only_now c.step.new.disk) since clocks c.step.new.self.steps c.step.new.self.target unit.held) _
    c.args.driver.now.steps stepped.step (g.L.Link.state c.args.link.now) (g.L.Link.state c.next.new.self) (g.L.Link.state c.post_all.new.link) stepped.recorded runs.goes_on.linked c.in_ok-happening.ensures.ok.posted
    (c.in_ok-happening.ensures.ok.given ∙ ap (λ (x : HappeningView). x ∷ (g.L.Link.state c.args.link.now).given) (sym stepped.given))
    (subst (λ posts. IsPostedInPart posts (g.L.Link.state c.next.new.self) (g.L.Link.state c.post_all.new.link)) (sym stepped.posted) c.post_all.ensures.in_part)

pub returns-in-Ok-post_all-clause-ready : goal.returns-in-Ok-post_all-clause-ready
returns-in-Ok-post_all-clause-ready g c =
    let stepped = c.in-Ok.ensures.takes.stepped in
    record {
      goes_on = stepped.goes_on;
      running = stepped.running;
      posted = rw stepped.recorded
          (ap (λ (l : LinkState). l.posted) c.in-Ok-post_all.ensures.posts
          ∙ (ap (λ (posts : List DatagramView). posts ++ posts_view c.in-Ok.posts) (c.in_ok-happening.ensures.ok.posted ∙ c.requires.posted)
          ∙ ap (λ (posts : List DatagramView). posted_in c.args.driver.now.steps ++ posts) (sym stepped.posted)));
    }
