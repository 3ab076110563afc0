use Rattle.std.proofs.Common.{Err, refl, sym, ap, subst, ◌∙◌}
use Rattle.accept_rules.specs.Interlocks.{FollowsAccepts}
use Rattle.loader_machine.specs.Machine.{LoaderState, media_of}
use Rattle.upload_replay.proofs.Begins.{begins_tied, comes_up_with, nothing_yet}
use Rattle.upload_replay.proofs.Ended.{first_refusal}
use Rattle.upload_replay.proofs.Living.{born}
use Rattle.upload_replay.proofs.Throughout.{begins_held}
use Rattle.upload_replay.proofs.driver.Driver.boot.Goals as goal

pub returns-in-Ok-clause-begins : goal.returns-in-Ok-clause-begins
returns-in-Ok-clause-begins g c = record {
  goes_on = nothing_yet _ c.new.ensures (ap (λ (l : LoaderState). l.view) c.new-in-Ok.ensures);
  nothing = c.new.ensures;
  rule_is = refl;
  loader_is = c.new-in-Ok.ensures;
  running = c.in-Ok.ensures.reads_disk.ok.running;
  target = c.in-Ok.target;
  target_is = refl;
  up = c.in-Ok.ensures.comes_up;
  identity = c.identity.ensures;
}

pub returns-in-Ok-clause-on_setting : goal.returns-in-Ok-clause-on_setting
returns-in-Ok-clause-on_setting g c = λ set image is told.
    let old = g.K.Disk.state c.args.disk.now in
    let one = c.an_image_holds_one_configuration.ensures.one_standing in
    record {
      stands = record {
        media = is.media ∙ ap (λ (l : LoaderState). media_of l.set) (sym c.new-in-Ok.ensures);
        accepts = is.accepts;
        up = subst (λ rule. FollowsAccepts g.R.Rule.may_say rule set.accepts) (sym c.in-Ok.ensures.comes_up.rule_is) is.accepts;
      };
      tied = begins_tied set _ c.in-Ok.target c.new.ensures (ap (λ (l : LoaderState). l.view) c.new-in-Ok.ensures) refl
          (comes_up_with one c.args.interlock.now c.in-Ok.target old image set.start c.in-Ok.ensures.comes_up told is.start);
      held = λ loses. record {
        tied = begins_tied set _ c.in-Ok.target c.new.ensures (ap (λ (l : LoaderState). l.view) c.new-in-Ok.ensures) refl
            (comes_up_with one c.args.interlock.now c.in-Ok.target old image set.start c.in-Ok.ensures.comes_up told is.start);
        held = rw c.new.ensures (begins_held one set c.args.interlock.now c.in-Ok.target old (g.K.Disk.state c.boot.new.disk) image (c.a_power_loss_takes_only_work.ensures.holds c.args.disk.now image set.start loses told is.start) told
            (g.met.K.Disk.reads_now c.args.disk.now image told) (c.in-Ok.ensures.starts loses image told) c.in-Ok.ensures.reads_disk.only_reads c.in-Ok.ensures.comes_up);
      };
    }

pub returns-in-Ok-clause-lives : goal.returns-in-Ok-clause-lives
returns-in-Ok-clause-lives g c = λ accepts follows. record {
  follows = follows;
  up = subst (λ rule. FollowsAccepts g.R.Rule.may_say rule accepts) (sym c.in-Ok.ensures.comes_up.rule_is) follows;
  lived = born accepts c.args.interlock.now (media_of c.new-in-Ok.result.set) c.new.result c.in-Ok.target (g.K.Disk.state c.args.disk.now) c.new.ensures c.in-Ok.ensures.comes_up;
}

pub returns-in-Err-clause-refused : goal.returns-in-Err-clause-refused
returns-in-Err-clause-refused g c =
    rw c.first_fault.ensures (first_refusal c.in-Err.fault (g.K.Disk.state c.args.disk.now) (g.K.Disk.state c.boot.new.disk) (Err c.in-Err.fault) refl c.in-Err.ensures.refused c.in-Err.ensures.reads_disk.only_reads
    c.in-Err.ensures.reads_disk.err c.in-Err.ensures.reads_disk.cause)
