use Rattle.std.proofs.Common.{Some, ap, sym, subst, rules}
use Rattle.accept_rules.specs.Interlocks.{FollowsAccepts}
use Rattle.replay_rules.specs.BothEnds.{Is_down}
use Rattle.replay_turns.specs.StepsOnDisks.{HoldsRun}
use Rattle.replay_turns.proofs.BootLemmas.{comes_up, comes_up_told, refused_told, stays_down}
use Rattle.replay_rules.specs.Histories.{may_be_active}
use Rattle.replay_turns.proofs.StepLemmas.{read_now, which}
use Rattle.replay_turns.proofs.powering.come_up.Goals as goal

pub returns-in-Ok-clause-rule : goal.returns-in-Ok-clause-rule
returns-in-Ok-clause-rule g c = λ accepts follows. rw c.replace.ensures.after (subst (λ rule. FollowsAccepts g.R.Rule.may_say rule accepts) (sym c.in-Ok.ensures.comes_up.rule_is) follows)

pub returns-in-Ok-clause-boots : goal.returns-in-Ok-clause-boots
returns-in-Ok-clause-boots g c =
    rw c.replace.ensures.after (record {
      noted = search rules;
      boots = record { found = c.in-Ok.target.view.active; is = ap (λ v. Some v) c.in-Ok.ensures.comes_up.view_is; numbered = sym c.sequence-sequence.ensures };
      running = search rules;
      stops = search rules;
    })

pub returns-in-Ok-clause-holds : goal.returns-in-Ok-clause-holds
returns-in-Ok-clause-holds g c = λ set active interrupted settled holds.
    let old = g.K.Disk.state c.args.disk.now in
    let one = c.an_image_holds_one_configuration.ensures.one_standing in
    let off = subst (λ o. HoldsRun set (Is_down active interrupted) o old) c.requires.down holds in
    let (image, told) = read_now old off.tells in
    let now = g.met.K.Disk.reads_now c.args.disk.now image told in
    let one_of = which image (may_be_active (Is_down active interrupted)) (off.leaves image now) in
    let starts = c.in-Ok.ensures.starts (c.a_power_loss_takes_only_work.ensures.settled c.args.disk.now image one_of.0 told one_of.1 settled) image told in
    rw c.replace.ensures.after (record {
      holds = comes_up one set (Is_down active interrupted) c.args.interlock.now c.in-Ok.target old (g.K.Disk.state c.boot.new.disk) image c.args.first_port _ off settled told
          now starts c.boot.ensures.reads_disk.only_reads c.in-Ok.ensures.comes_up c.sequence-sequence.ensures;
      boots = comes_up_told one set active interrupted c.in-Ok.target old (g.K.Disk.state c.boot.new.disk) image c.args.first_port _ off now starts c.sequence-sequence.ensures;
    })

pub returns-in-Err-Recover-clause-holds : goal.returns-in-Err-Recover-clause-holds
returns-in-Err-Recover-clause-holds g c = λ set active interrupted settled holds.
    let old = g.K.Disk.state c.args.disk.now in
    let off = subst (λ o. HoldsRun set (Is_down active interrupted) o old) c.requires.down holds in
    let (image, told) = read_now old off.tells in
    record {
      holds = subst (λ o. HoldsRun set (Is_down active interrupted) o (g.K.Disk.state c.boot.new.disk)) (sym c.requires.down) (stays_down set (Is_down active interrupted) old (g.K.Disk.state c.boot.new.disk) off c.boot.ensures.reads_disk.only_reads);
      boots = refused_told c.an_image_holds_one_configuration.ensures.not_both set (Is_down active interrupted) image _ (off.leaves image (g.met.K.Disk.reads_now c.args.disk.now image told)) (rw c.in-Err-Recover.field-0-is at (c.in-Err-Recover.ensures.refused image told));
    }
