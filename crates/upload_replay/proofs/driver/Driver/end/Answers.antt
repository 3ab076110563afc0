use Rattle.std.proofs.Common.{◌≡◌, inr, ◌∷◌, List, refl, sym, ap, subst, ◌∙◌, arith}
use Rattle.std.specs.Prelude.{is_some, map, option_map}
use Rattle.disk_layout.specs.Holds.{standing_view}
use Rattle.exchange_trace.specs.Steps.{Step, steps_of}
use Rattle.loader_machine.specs.Machine.{media_of, session_view}
use Rattle.replay_turns.specs.Turns.{target_kept}
use Rattle.upload_replay.specs.Drivers.{end_step}
use Rattle.upload_replay.specs.Moments.{HoldsThroughout}
use Rattle.upload_replay.proofs.Begins.{unit_run}
use Rattle.upload_replay.proofs.Ended.{end_fault, stays}
use Rattle.upload_replay.proofs.Living.{lived_to_end}
use Rattle.upload_replay.proofs.Resting.{rests_on}
use Rattle.upload_replay.proofs.Throughout.{held_to_end, no_change, settled_if, throughout}
use Rattle.upload_replay.proofs.driver.Driver.end.Goals as goal

pub returns-in-Err-clause-leaves : goal.returns-in-Err-clause-leaves
returns-in-Err-clause-leaves g c = record {
  power = record { steady = refl; armings = refl; armed = refl };
  faults = omega arith;
  no_more = no_change (g.K.Disk.state c.args.disk.now);
}

pub returns-in-Err-clause-refused : goal.returns-in-Err-clause-refused
returns-in-Err-clause-refused g c = inr (stays (g.K.Disk.state c.args.disk.now))

pub returns-in-Err-standing_at_end-clause-refused : goal.returns-in-Err-standing_at_end-clause-refused
returns-in-Err-standing_at_end-clause-refused g c = end_fault c.in-Err-standing_at_end.fault (g.K.Disk.state c.args.disk.now) (g.K.Disk.state c.standing_at_end.new.disk) c.in-Err-standing_at_end.ensures.refused

pub returns-in-Ok-standing_at_end-clause-lives : goal.returns-in-Ok-standing_at_end-clause-lives
returns-in-Ok-standing_at_end-clause-lives g c =
    λ accepts lives.
    let steps : steps_of c.into_trace.result.items ≡ end_step ∷ c.args.self.steps = c.into_trace.ensures.steps ∙ (c.in-Ok.ensures.given ∙ ap (λ (list : List Step). end_step ∷ list) (ap (λ d. d.steps) c.self.view_is)) in
    lived_to_end (media_of c.args.self.loader.set) accepts (steps_of c.into_trace.result.items) c.args.self.steps (target_kept c.args.self.target) steps lives.lived

pub returns-in-Ok-standing_at_end-clause-run : goal.returns-in-Ok-standing_at_end-clause-run
returns-in-Ok-standing_at_end-clause-run g c =
    λ set stands tied.
    let steps : steps_of c.into_trace.result.items ≡ end_step ∷ c.args.self.steps = c.into_trace.ensures.steps ∙ (c.in-Ok.ensures.given ∙ ap (λ (list : List Step). end_step ∷ list) (ap (λ d. d.steps) c.self.view_is)) in
    unit_run c.args.self c.requires.goes_on (steps_of c.into_trace.result.items) steps (map session_view c.into_sessions-sessions.result.items) (rw (sym c.self.view_is) c.into_sessions-sessions.ensures)
    c.a_run_keeps_its_promises.ensures set (option_map standing_view c.in-Ok-standing_at_end.standing) tied

pub returns-in-Ok-standing_at_end-clause-held : goal.returns-in-Ok-standing_at_end-clause-held
returns-in-Ok-standing_at_end-clause-held g c =
    λ set since clocks unit.
    let old = g.K.Disk.state c.args.disk.now in
    let new = g.K.Disk.state c.standing_at_end.new.disk in
    let up = c.is_some-up.ensures ∙ ap (λ d. is_some d.target) c.self.view_is in
    let steps : steps_of c.into_trace.result.items ≡ end_step ∷ c.args.self.steps = c.into_trace.ensures.steps ∙ (c.in-Ok.ensures.given ∙ ap (λ (list : List Step). end_step ∷ list) (ap (λ d. d.steps) c.self.view_is)) in
    record {
      moments = subst (λ (list : List Step). HoldsThroughout set list (option_map standing_view c.in-Ok-standing_at_end.standing) since (old.clock ∷ clocks) new) (sym steps)
          (throughout c.an_image_holds_one_configuration.ensures.one_standing set since (old.clock ∷ clocks) (end_step ∷ c.args.self.steps) c.args.self.target old new c.in-Ok-standing_at_end.standing (g.met.K.Disk.counts_now c.args.disk.now)
          (g.met.K.Disk.only_now c.args.disk.now) (g.met.K.Disk.reads_now c.standing_at_end.new.disk) (held_to_end set since clocks c.args.self.steps c.args.self.target old (g.met.K.Disk.only_now c.args.disk.now) unit.held)
          c.standing_at_end.ensures.leaves.no_more c.in-Ok-standing_at_end.ensures.standing
          (settled_if (is_some c.args.self.target) new c.in-Ok-standing_at_end.standing (λ down. c.in-Ok-standing_at_end.ensures.settled (up ∙ down))));
      rests = λ known. rests_on set c.args.self.steps c.args.self.target old new c.in-Ok-standing_at_end.standing unit.held.holds c.standing_at_end.ensures.leaves.no_more known
          c.in-Ok-standing_at_end.ensures.standing (λ is. c.in-Ok-standing_at_end.ensures.same (up ∙ is)) (λ is. c.in-Ok-standing_at_end.ensures.settled (up ∙ is))
          (λ store image told works. c.a_power_loss_takes_only_work.ensures.works store c.args.disk.now image told works) (λ same none was. c.a_power_loss_takes_only_work.ensures.still c.args.disk.now c.standing_at_end.new.disk same none was)
          (λ image s told held settled. c.a_power_loss_takes_only_work.ensures.settled c.standing_at_end.new.disk image s told held settled);
    }
