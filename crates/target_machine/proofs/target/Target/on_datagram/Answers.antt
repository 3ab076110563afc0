use Rattle.target_machine.proofs.Turning.{stays_too}
use Rattle.std.proofs.Common.{◌≡◌, ◌==◌, rules, [], None, Ok, Some, true, false, ap}
use Rattle.tftp_packet.specs.Packets.{packet_view}
use Rattle.transfer_end.specs.Packets.{packet_in}
use Rattle.session_rules.specs.Target.{Continues, TargetDecision, TargetView, request_decision, transfer_decision}
use Rattle.target_machine.proofs.Bringing.{drops, got_nothing, got_request, got_transfer, keeps_disk, quiet_brings, quiet_request, same_heard}
use Rattle.target_machine.proofs.Holding.{fails_here}
use Rattle.target_machine.proofs.target.Target.on_datagram.Goals as goal

pub returns-in_ok-on_request-in-Some-clause-stays_on : goal.returns-in_ok-on_request-in-Some-clause-stays_on
returns-in_ok-on_request-in-Some-clause-stays_on g c =
    stays_too c.args.self.now.store c.args.self.now.store c.on_request.new.self.store (g.K.Disk.state c.args.disk.now) (g.K.Disk.state c.args.disk.now)
    (record { running = c.requires; fits = λ x. x; works = λ x. x })
    (c.a_store_goes_on_fitting.ensures.continued_fits c.args.self.now.store c.on_request.new.self.store c.args.disk.now c.in_ok-on_request-in-Some.ensures.store)
    (c.a_store_goes_on_fitting.ensures.continued_works c.args.self.now.store c.on_request.new.self.store c.args.disk.now c.in_ok-on_request-in-Some.ensures.store)

pub returns-in_err-on_request-in-Some-clause-keeps_disk : goal.returns-in_err-on_request-in-Some-clause-keeps_disk
returns-in_err-on_request-in-Some-clause-keeps_disk g c = λ accepts follows x kept holds.
    keeps_disk c.args.self.now.store (g.K.Disk.state c.args.disk.now) c.on_request.new.self.store (g.K.Disk.state c.args.disk.now) x _ c.from_residual.result
    (λ left may. c.an_idle_store_works.ensures.now c.args.self.now.store c.args.disk.now x.active left holds.beside may) (λ s left beside may. c.an_idle_store_works.ensures.now c.on_request.new.self.store c.args.disk.now s left beside may)
    (fails_here c.on_request.new.self.store (g.K.Disk.state c.args.disk.now) x.active _ _ _ c.from_residual.result c.from_residual.ensures.0)

pub returns-in_ok-on_request-in-Some-clause-keeps_disk : goal.returns-in_ok-on_request-in-Some-clause-keeps_disk
returns-in_ok-on_request-in-Some-clause-keeps_disk g c = λ accepts follows x kept holds.
    let v = c.args.self.now.view in
    let p = packet_view c.in-Some.packet in
    let found : packet_in c.args.bytes.now ≡ Some p = search rules in
    let port : (c.args.to == 59) ≡ true = search rules in
    keeps_disk c.args.self.now.store (g.K.Disk.state c.args.disk.now) c.on_request.new.self.store (g.K.Disk.state c.args.disk.now) x _ (Ok c.in_ok-on_request-in-Some.field-0)
    (λ left may. c.an_idle_store_works.ensures.now c.args.self.now.store c.args.disk.now x.active left holds.beside may) (λ s left beside may. c.an_idle_store_works.ensures.now c.on_request.new.self.store c.args.disk.now s left beside may)
    (same_heard (g.K.Disk.state c.args.disk.now) c.on_request.new.self.store (g.K.Disk.state c.args.disk.now) x (request_decision v c.args.from p).change _ (Ok c.in_ok-on_request-in-Some.field-0) (ap (λ (d : TargetDecision). d.change) (got_request accepts v c.args.from c.args.to (packet_in c.args.bytes.now) p found port))
    (quiet_brings c.args.self.now.store c.on_request.new.self.store (g.K.Disk.state c.args.disk.now) v x c.on_request.new.self.view.live _ (request_decision v c.args.from p).change c.in_ok-on_request-in-Some.field-0 (quiet_request v c.args.from p) kept
    (ap (λ (y : TargetView). y.live) c.in_ok-on_request-in-Some.ensures.does.keeps) c.in_ok-on_request-in-Some.ensures.store c.in_ok-on_request-in-Some.ensures.work holds))

pub returns-in-Some-2-clause-keeps_disk : goal.returns-in-Some-2-clause-keeps_disk
returns-in-Some-2-clause-keeps_disk g c = λ accepts follows x kept holds.
    let v = c.args.self.now.view in
    let p = packet_view c.in-Some-2.packet in
    let found : packet_in c.args.bytes.now ≡ Some p = search rules in
    let port : (c.args.to == 59) ≡ false = search rules in
    keeps_disk c.args.self.now.store (g.K.Disk.state c.args.disk.now) c.on_transfer.new.self.store (g.K.Disk.state c.on_transfer.new.disk) x _ c.on_transfer.result
    (λ left may. c.an_idle_store_works.ensures.now c.args.self.now.store c.args.disk.now x.active left holds.beside may) (λ s left beside may. c.an_idle_store_works.ensures.now c.on_transfer.new.self.store c.on_transfer.new.disk s left beside may)
    (same_heard (g.K.Disk.state c.args.disk.now) c.on_transfer.new.self.store (g.K.Disk.state c.on_transfer.new.disk) x (transfer_decision accepts v v.live c.args.from c.args.to p).change _ c.on_transfer.result (ap (λ (d : TargetDecision). d.change) (got_transfer accepts v c.args.from c.args.to (packet_in c.args.bytes.now) p found port))
    (c.on_transfer.ensures.brings accepts follows x kept holds))

pub returns-in-None-clause-keeps_disk : goal.returns-in-None-clause-keeps_disk
returns-in-None-clause-keeps_disk g c = λ accepts follows x kept holds.
    let v = c.args.self.now.view in
    let found : packet_in c.args.bytes.now ≡ None = search rules in
    keeps_disk c.args.self.now.store (g.K.Disk.state c.args.disk.now) c.args.self.now.store (g.K.Disk.state c.args.disk.now) x _ (Ok _)
    (λ left may. c.an_idle_store_works.ensures.now c.args.self.now.store c.args.disk.now x.active left holds.beside may) (λ s left beside may. c.an_idle_store_works.ensures.now c.args.self.now.store c.args.disk.now s left beside may)
    (same_heard (g.K.Disk.state c.args.disk.now) c.args.self.now.store (g.K.Disk.state c.args.disk.now) x (Continues []) _ (Ok _) (got_nothing accepts v c.args.from c.args.to (packet_in c.args.bytes.now) found) (drops c.args.self.now.store (g.K.Disk.state c.args.disk.now) x _ holds))
