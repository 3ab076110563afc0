use Rattle.std.proofs.Common.{sym, ◌∙◌}
use Rattle.bank_rollback.proofs.Finding.{holds_active, stands_found}
use Rattle.bank_rollback.proofs.rolling_back.find_beside.Goals as goal

pub returns-then-sequence-clause-refused : goal.returns-then-sequence-clause-refused
returns-then-sequence-clause-refused g c image told =
    let (former, at) = c.in_ok-place.ensures.found image told in
    let (s, was, outline) = c.in_ok-store.ensures.holds image (c.in_ok-place.ensures.reads_disk.ok.reads ∙ told) in
    record {
      active = s;
      former = former;
      holds = holds_active c.in_ok-store.field-0.store image s was;
      holds_former = at.holds;
      last = was.sequence ∙ sym c.sequence.ensures ∙ c.if-sequence.true;
    }

pub returns-in-Ok-clause-found : goal.returns-in-Ok-clause-found
returns-in-Ok-clause-found g c image told =
    let (former, at) = c.in_ok-place.ensures.found image told in
    let (s, was, outline) = c.in_ok-store.ensures.holds image (c.in_ok-place.ensures.reads_disk.ok.reads ∙ told) in
    stands_found c.a_former_configuration_stands_beside.ensures c.prepare.new.self image s former c.in_ok-place.place c.in_ok-place.length (c.in-Ok.ensures.continues.holds image s was) at

pub returns-in-Ok-clause-works : goal.returns-in-Ok-clause-works
returns-in-Ok-clause-works g c rests =
    let reads = c.in_ok-place.ensures.reads_disk in
    let still = c.a_power_loss_takes_only_work.ensures.still c.args.disk.now c.former_place.new.disk reads.ok.reads reads.only_reads.now rests in
    c.a_store_goes_on_fitting.ensures.continued_works c.in_ok-store.field-0.store c.prepare.new.self c.survey.new.disk c.in-Ok.ensures.continues (c.in_ok-store.ensures.works still)
