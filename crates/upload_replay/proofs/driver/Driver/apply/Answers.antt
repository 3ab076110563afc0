use Rattle.std.proofs.Common.{◌∷◌, List, None, inl, inr, refl, sym, ap, subst, ◌∙◌}
use Rattle.exchange_trace.specs.Happenings.{happening_view}
use Rattle.exchange_trace.specs.Steps.{Step}
use Rattle.loader_machine.specs.Machine.{media_of}
use Rattle.replay_rules.specs.BothEnds.{Is_down, target_at}
use Rattle.replay_turns.specs.Recordings.{posts_of_last}
use Rattle.replay_turns.specs.StepsOnDisks.{BeginsStep}
use Rattle.replay_turns.specs.Turns.{target_kept}
use Rattle.upload_replay.specs.Drivers.{DriverState}
use Rattle.upload_replay.specs.Drives.{NeverBoots}
use Rattle.upload_replay.specs.Moments.{HeldSoFar}
use Rattle.upload_replay.proofs.Held.{held_on}
use Rattle.upload_replay.proofs.Living.{lived_on, some_setting}
use Rattle.upload_replay.proofs.Turning.{has_stepped, set_stays, tied_on, with_ok}
use Rattle.upload_replay.proofs.driver.Driver.apply.Goals as goal

pub returns-clause-takes : goal.returns-clause-takes
returns-clause-takes g c =
    let ends = c.self.inside.ends in
    let then = c.apply.new.self in
    let h = happening_view c.args.happening in
    let posts = posts_of_last then.recording in
    let steps = ends.recording in
    let old = g.K.Disk.state c.args.disk.now in
    let new = g.K.Disk.state c.apply.new.disk in
    let before : DriverState g.row.R.Denot = record { rule = ends.interlock.now; identity = c.self.inside.identity; steps = steps; loader = ends.loader; target = ends.target } in
    let after : DriverState g.row.R.Denot = record { rule = then.interlock.now; identity = c.self.inside.identity; steps = then.recording; loader = then.loader; target = then.target } in
    let can = rw (sym c.self.view_is) at c.requires in
    let interlock = c.apply.ensures.interlock in
    rw (sym c.self.view_is) (with_ok c.apply.result (λ ok.
    let moved = ok _ c.apply.ensures.stepped in
    record {
      stepped = has_stepped before after old new h posts moved c.both_ends_follow_their_logs.ensures.loader (ap (λ i. i.now) interlock) refl can.no_end can.honest can.goes_on;
      lives = λ accepts lives.
          let set = some_setting (media_of ends.loader.set) accepts c.self.inside.identity in
          let said = ok _ (c.apply.ensures.said set (Is_down set.start None) lives.up) in
          record {
            follows = rw interlock lives.follows;
            up = ok _ (c.apply.ensures.rule accepts lives.follows lives.up);
            lived = lived_on g.R.Rule.may_say set (Is_down set.start None) before after h posts old new said can.goes_on lives.lived;
          };
      stands = λ set stands. record {
        media = stands.media ∙ ap media_of (sym (set_stays h posts steps then.recording ends.loader then.loader ends.target then.target old new moved));
        accepts = rw interlock stands.accepts;
        up = ok _ (c.apply.ensures.rule set.accepts stands.accepts stands.up);
      };
      tied = λ set stands tied all.
          let said = ok _ (c.apply.ensures.said set (target_at set steps) stands.up) in
          let here : NeverBoots (record { given = h; posts = posts; notes = said.stepped.notes } ∷ steps) = subst (λ (list : List Step). NeverBoots list) said.stepped.recorded all in
          tied_on before after old new h posts said.stepped c.a_step_keeps_the_tie.ensures set stands.media (said.turns (inl here.0)) (tied here.1);
      held = λ set since clocks stands unit.
          let said = ok _ (c.apply.ensures.said set (target_at set steps) stands.up) in
          let follow = c.contents_follow_their_trace.ensures set steps in
          let begins : BeginsStep g.R.Rule.may_say set (target_at set steps) ends.target old = record { rule = stands.up; follow = follow; holds = unit.held.holds } in
          let turns = said.turns (inr begins) in
          let holds = said.holds begins in
          let step : Step = record { given = h; posts = posts; notes = said.stepped.notes } in
          record {
            tied = tied_on before after old new h posts said.stepped c.a_step_keeps_the_tie.ensures set stands.media turns unit.tied;
            held = subst (λ (list : List Step). HeldSoFar set since (old.clock ∷ clocks) list then.target new) (sym said.stepped.recorded)
                (held_on set old new c.an_image_holds_one_configuration.ensures.one_standing (g.met.K.Disk.counts_now c.args.disk.now) (g.met.K.Disk.only_now c.args.disk.now) (g.met.K.Disk.only_now c.apply.new.disk)
                since clocks steps step ends.target then.target (target_kept ends.target) (target_kept then.target) said.stepped.target_posts follow holds.1 turns (c.apply.ensures.adds set (target_at set steps) begins) holds.0 unit.held);
          };
    }))

pub returns-clause-acts : goal.returns-clause-acts
returns-clause-acts g c =
    let ends = c.self.inside.ends in
    rw (sym c.self.view_is) (record {
      arms = c.apply.ensures.acts.arms;
      reboots = c.apply.ensures.acts.reboots;
      injects = c.apply.ensures.injects;
      adds = λ set stands holds. c.apply.ensures.adds set (target_at set ends.recording) (record { rule = stands.up; follow = c.contents_follow_their_trace.ensures set ends.recording; holds = holds });
    })
