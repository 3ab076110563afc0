use Rattle.std.proofs.Common.{inr}
use Rattle.std.proofs.lemmas.Result.{err_from_is_err_and}
use Rattle.disk_model.proofs.MomentLemmas.{read_goes_on}
use Rattle.disk_layout.specs.Holds.{standing_view}
use Rattle.bank_rollback.specs.Rollbacks.{IsActiveOrFormer}
use Rattle.bank_rollback.proofs.Rolled.{look_goes_on, look_refused, rolled_on, rolls_back, still_reads, told_after, was_brought}
use Rattle.bank_rollback.proofs.rolling_back.rollback.Goals as goal

pub returns-in_err-recover-clause-any_moment : goal.returns-in_err-recover-clause-any_moment
returns-in_err-recover-clause-any_moment g c rests image active told holds =
    read_goes_on (g.K.Disk.state c.args.disk.now).clock (IsActiveOrFormer image active) (g.K.Disk.state c.make_former_active.new.disk) _
    (c.in_ok-make_former_active.ensures.any_moment rests image active told holds) c.recover.ensures.reads_disk.only_reads

pub returns-clause-any_moment : goal.returns-clause-any_moment
returns-clause-any_moment g c rests image active told holds =
    read_goes_on (g.K.Disk.state c.args.disk.now).clock (IsActiveOrFormer image active) (g.K.Disk.state c.make_former_active.new.disk) _
    (c.in_ok-make_former_active.ensures.any_moment rests image active told holds) c.recover.ensures.reads_disk.only_reads

pub returns-in_err-recover-clause-refused : goal.returns-in_err-recover-clause-refused
returns-in_err-recover-clause-refused g c =
    let rolled = c.in_ok-make_former_active.ensures.rolled_back in
    let p = err_from_is_err_and c.from_residual-in_err-recover.result c.from_residual-in_err-recover.ensures.1 in
    rw (p.1, p.2) (λ image told.
    let (now, there) = told_after (g.K.Disk.state c.args.disk.now).reads (g.K.Disk.state c.make_former_active.new.disk).reads image rolled.tells told in
    let (brought, brings, holds) = rolled.holds image told now there in
    look_refused c.an_image_holds_one_configuration.ensures.not_both image now brought _ holds (c.in_err-recover.ensures.refused now there))

pub returns-in_err-recover-clause-goes_on : goal.returns-in_err-recover-clause-goes_on
returns-in_err-recover-clause-goes_on g c =
    let made = c.in_ok-make_former_active.ensures in
    let p = err_from_is_err_and c.from_residual-in_err-recover.result c.from_residual-in_err-recover.ensures.1 in
    rw (p.1, p.2)
    (look_goes_on c.an_image_holds_one_configuration.ensures.not_both (g.K.Disk.state c.args.disk.now) (g.K.Disk.state c.make_former_active.new.disk) (g.K.Disk.state c.recover.new.disk) made.rolled_back made.goes_on.goes_on
    c.in_err-recover.field-0.0 c.in_err-recover.ensures.reads_disk c.in_err-recover.ensures.refused)

pub returns-in_err-recover-clause-rests : goal.returns-in_err-recover-clause-rests
returns-in_err-recover-clause-rests g c rests running =
    let made = c.in_ok-make_former_active.ensures in
    let read = c.in_err-recover.ensures.reads_disk in
    c.a_power_loss_takes_only_work.ensures.still c.make_former_active.new.disk c.recover.new.disk (still_reads (g.K.Disk.state c.make_former_active.new.disk) _ c.in_err-recover.field-0.0 read running) read.only_reads.now
    (made.rests rests made.rolled_back.running)

pub returns-clause-rests : goal.returns-clause-rests
returns-clause-rests g c rests running =
    let made = c.in_ok-make_former_active.ensures in
    let read = c.in_ok-recover.ensures.reads_disk in
    c.a_power_loss_takes_only_work.ensures.still c.make_former_active.new.disk c.recover.new.disk read.ok.reads read.only_reads.now (made.rests rests made.rolled_back.running)

pub returns-clause-rolls_back : goal.returns-clause-rolls_back
returns-clause-rolls_back g c =
    let old = g.K.Disk.state c.args.disk.now in
    let mid = g.K.Disk.state c.make_former_active.new.disk in
    let new = g.K.Disk.state c.recover.new.disk in
    let made = c.in_ok-make_former_active.ensures in
    let reads = c.in_ok-recover.ensures.reads_disk in
    rolls_back c.an_image_holds_one_configuration.ensures.one_standing old mid new (standing_view c.in_ok-recover.field-0) made.rolled_back
    (rolled_on c.an_image_holds_one_configuration.ensures.not_both old mid new made.rolled_back made.goes_on.goes_on reads.only_reads reads.ok) reads.ok.reads
    c.in_ok-recover.ensures.found c.in_ok-recover.ensures.in_range.0 c.in_ok-recover.ensures.in_range.1

pub returns-in_err-recover-clause-writes : goal.returns-in_err-recover-clause-writes
returns-in_err-recover-clause-writes g c = inr (was_brought (g.K.Disk.state c.args.disk.now) (g.K.Disk.state c.make_former_active.new.disk) c.in_ok-make_former_active.ensures.rolled_back)

pub returns-clause-writes : goal.returns-clause-writes
returns-clause-writes g c = inr (was_brought (g.K.Disk.state c.args.disk.now) (g.K.Disk.state c.make_former_active.new.disk) c.in_ok-make_former_active.ensures.rolled_back)
