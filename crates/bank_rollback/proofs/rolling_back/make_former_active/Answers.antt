use Rattle.std.proofs.Common.{inl, inr, sym, ◌∙◌}
use Rattle.disk_model.proofs.MomentLemmas.{read_goes_on, started}
use Rattle.bank_store.specs.Fits.{InstallsBeside}
use Rattle.bank_store.specs.Given.{configured}
use Rattle.bank_rollback.specs.Rollbacks.{IsActiveOrFormer}
use Rattle.bank_rollback.proofs.Rolled.{can_be_brought, leaves_since, rolled_back, told_after}
use Rattle.bank_rollback.proofs.rolling_back.make_former_active.Goals as goal

pub returns-in_err-beside-clause-any_moment : goal.returns-in_err-beside-clause-any_moment
returns-in_err-beside-clause-any_moment g c rests image active told holds =
    let disk = g.K.Disk.state c.args.disk.now in
    read_goes_on disk.clock (IsActiveOrFormer image active) disk _
    (started disk (IsActiveOrFormer image active) (g.met.K.Disk.only_now c.args.disk.now)
    (λ left may. inl (c.a_power_loss_takes_only_work.ensures.holds c.args.disk.now image active rests told holds left may))) c.find_beside.ensures.looks.only_reads

pub bring_back-requires-clause-manifest : goal.bring_back-requires-clause-manifest
bring_back-requires-clause-manifest g c = record {
  range = c.in_ok-beside.ensures.ready.range;
  manifest = λ image told.
      let stands = c.in_ok-beside.ensures.found image (sym c.in_ok-beside.ensures.looks.ok.reads ∙ told) in
      (stands.former.loads, stands.loads);
}

pub returns-in_err-bring_back-clause-any_moment : goal.returns-in_err-bring_back-clause-any_moment
returns-in_err-bring_back-clause-any_moment g c rests image active told holds =
    let beside = c.in_ok-beside.beside in
    let looks = c.in_ok-beside.ensures.looks in
    let stands = c.in_ok-beside.ensures.found image told in
    let next = configured stands.active stands.former.loads in
    let installs : InstallsBeside beside.store (g.K.Disk.state c.find_beside.new.disk) stands.active =
    record { works = c.in_ok-beside.ensures.works rests; image = image; told = looks.ok.reads ∙ told; holds = stands.holds } in
    leaves_since c.an_image_holds_one_configuration.ensures.one_standing (g.K.Disk.state c.args.disk.now) (g.K.Disk.state c.find_beside.new.disk) _ image active beside c.in_ok-beside.ensures.ready stands holds looks.only_reads.clock
    (c.an_idle_store_works.ensures.since_either beside.store c.find_beside.new.disk c.bring_back.new.disk stands.active next installs (c.bring_back.ensures.adds stands.active stands.former.loads installs stands.loads))

pub returns-clause-any_moment : goal.returns-clause-any_moment
returns-clause-any_moment g c rests image active told holds =
    let beside = c.in_ok-beside.beside in
    let looks = c.in_ok-beside.ensures.looks in
    let stands = c.in_ok-beside.ensures.found image told in
    let next = configured stands.active stands.former.loads in
    let installs : InstallsBeside beside.store (g.K.Disk.state c.find_beside.new.disk) stands.active =
    record { works = c.in_ok-beside.ensures.works rests; image = image; told = looks.ok.reads ∙ told; holds = stands.holds } in
    leaves_since c.an_image_holds_one_configuration.ensures.one_standing (g.K.Disk.state c.args.disk.now) (g.K.Disk.state c.find_beside.new.disk) _ image active beside c.in_ok-beside.ensures.ready stands holds looks.only_reads.clock
    (c.an_idle_store_works.ensures.since_either beside.store c.find_beside.new.disk c.bring_back.new.disk stands.active next installs (c.bring_back.ensures.adds stands.active stands.former.loads installs stands.loads))

pub returns-clause-rolled_back : goal.returns-clause-rolled_back
returns-clause-rolled_back g c =
    let looks = c.in_ok-beside.ensures.looks in
    let writes = c.in_ok-bring_back.ensures.writes_disk in
    rolled_back (g.K.Disk.state c.args.disk.now) (g.K.Disk.state c.find_beside.new.disk) (g.K.Disk.state c.bring_back.new.disk) c.in_ok-beside.beside c.in_ok-beside.ensures.ready c.in_ok-beside.ensures.found looks.ok
    c.in_ok-bring_back.ensures.makes_active.holds (writes.goes_on.tells ∙ looks.only_reads.tells) c.in_ok-bring_back.ensures.makes_active.settled writes.running

pub returns-clause-rests : goal.returns-clause-rests
returns-clause-rests g c rests running =
    let disk = g.K.Disk.state c.args.disk.now in
    let rolled = returns-clause-rolled_back g c in
    let (now, there) = told_after disk.reads (g.K.Disk.state c.bring_back.new.disk).reads rests.image rolled.tells rests.told in
    let (brought, brings, holds) = rolled.holds rests.image rests.told now there in
    c.a_power_loss_takes_only_work.ensures.settled c.bring_back.new.disk now brought there holds rolled.settled

pub returns-in_err-beside-clause-writes : goal.returns-in_err-beside-clause-writes
returns-in_err-beside-clause-writes g c = inl c.find_beside.ensures.looks.only_reads

pub returns-in_err-bring_back-clause-writes : goal.returns-in_err-bring_back-clause-writes
returns-in_err-bring_back-clause-writes g c = inr (can_be_brought (g.K.Disk.state c.args.disk.now) c.in_ok-beside.beside c.in_ok-beside.ensures.ready c.in_ok-beside.ensures.found)

pub returns-clause-writes : goal.returns-clause-writes
returns-clause-writes g c = inr (can_be_brought (g.K.Disk.state c.args.disk.now) c.in_ok-beside.beside c.in_ok-beside.ensures.ready c.in_ok-beside.ensures.found)
