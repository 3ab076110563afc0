use Rattle.std.proofs.Common.{◌≡◌, ◌≤◌, true, false, sym, ◌∙◌, subst, arith}
use Rattle.std.proofs.lemmas.Result.{IfErr-weaker}
use Rattle.disk_model.specs.State.{OnlyReads}
use Rattle.replay_turns.proofs.StepLemmas.{reboots_read}
use Rattle.upload_replay.proofs.Ended.{last_since}
use Rattle.upload_replay.proofs.ending.standing_at_end.Goals.{then-not-up+in-Ok, else-not-up}
use Rattle.upload_replay.proofs.ending.standing_at_end.Goals as goal

pub returns-clause-reboots : goal.returns-clause-reboots
returns-clause-reboots g c = λ down. elim c.if-not-up.branch [
  | then-not-up+in-Ok w ↦
      reboots_read (g.K.Disk.state c.args.disk.now) (g.K.Disk.state w.restart.new.self) (g.K.Disk.state c.recovered.new.disk) w.restart.result w.restart.ensures.elapses w.in-Ok.ensures.settled
      (subst (λ disk. OnlyReads (g.K.Disk.state disk) (g.K.Disk.state c.recovered.new.disk)) w.disk-is c.recovered.ensures.reads) (g.met.K.Disk.reads_now c.recovered.new.disk)
  | else-not-up w ↦ absurd (let wrong : true ≡ false = sym w.if-not-up.false ∙ down in cc)
]

pub returns-clause-refused : goal.returns-clause-refused
returns-clause-refused g c =
    let later : (g.K.Disk.state c.args.disk.now).refusals ≤ (g.K.Disk.state c.if-not-up.disk).refusals = elim c.if-not-up.branch [
      | then-not-up+in-Ok w ↦ subst (λ disk. (g.K.Disk.state c.args.disk.now).refusals ≤ (g.K.Disk.state disk).refusals) (sym w.disk-is) w.restart.ensures.elapses.refusals
      | else-not-up w ↦ subst (λ disk. (g.K.Disk.state c.args.disk.now).refusals ≤ (g.K.Disk.state disk).refusals) (sym w.disk-is) (omega arith)
    ] in
    IfErr-weaker c.recovered.result _ _ (λ fault is. last_since fault (g.K.Disk.state c.args.disk.now) (g.K.Disk.state c.if-not-up.disk) (g.K.Disk.state c.recovered.new.disk) later is) c.recovered.ensures.refused
