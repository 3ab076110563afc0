use Rattle.std.proofs.Common.{◌∙◌}
use Rattle.loader_cli.specs.Calls.{run_of}
use Rattle.loader_cli.specs.Commands.{disk_named}
use Rattle.loader_cli.proofs.FirstDisks.{get_taken}
use Rattle.loader_cli.proofs.Chained.{after_formatting, each_keeps, rests_again, rolled_back_then, stands_again, stands_then}
use Rattle.loader_cli.proofs.laws.commands_follow_one_another.Goals as goal

pub returns-clause-at_rest : goal.returns-clause-at_rest
returns-clause-at_rest g c = λ place disk disks calls there rests turn.
    each_keeps g.H.Host.files g.H.Host.faults g.O.Sink.content g.O.Sink.faults g.K.Disk.state
    (λ before after. record {
      settled = λ image s read holds is. c.a_power_loss_takes_only_work.ensures.settled after image s read holds is;
      still = λ same none rests. c.a_power_loss_takes_only_work.ensures.still before after same none rests;
    }) place disk disks calls there rests turn

pub returns-clause-after_format : goal.returns-clause-after_format
returns-clause-after_format g c = λ first id calls kept asked tells zero turn.
    returns-clause-at_rest g c (disk_named first.call.words) first.call.disk_after first.disks_after calls kept.named_after
    (after_formatting (run_of g.H.Host.files g.H.Host.faults g.O.Sink.content g.O.Sink.faults g.K.Disk.state first.call) first.ended
    (λ image s read holds is. c.a_power_loss_takes_only_work.ensures.settled first.call.disk_after image s read holds is) id asked tells zero kept.promised.ends.ends) turn

pub returns-clause-after_restart : goal.returns-clause-after_restart
returns-clause-after_restart g c = λ last disk promised other rests restarted.
    rests_again (run_of g.H.Host.files g.H.Host.faults g.O.Sink.content g.O.Sink.faults g.K.Disk.state last.call) last.ended (g.K.Disk.state disk)
    (λ image s read holds is. c.a_power_loss_takes_only_work.ensures.settled disk image s read holds is) (g.met.K.Disk.reads_now disk) promised rests restarted other

pub returns-clause-stands_then : goal.returns-clause-stands_then
returns-clause-stands_then g c = λ last disk set start image promised other rests read holds restarted.
    stands_then (run_of g.H.Host.files g.H.Host.faults g.O.Sink.content g.O.Sink.faults g.K.Disk.state last.call) last.ended (g.K.Disk.state disk)
    (λ left s is held settled. c.a_power_loss_takes_only_work.ensures.settled disk left s is held settled) (g.met.K.Disk.reads_now disk) promised rests restarted other set start image read holds

pub returns-clause-rolled_back_then : goal.returns-clause-rolled_back_then
returns-clause-rolled_back_then g c = λ last disk active image promised asked rests read holds restarted.
    rolled_back_then (run_of g.H.Host.files g.H.Host.faults g.O.Sink.content g.O.Sink.faults g.K.Disk.state last.call) last.ended (g.K.Disk.state disk)
    (λ left s is held settled. c.a_power_loss_takes_only_work.ensures.settled disk left s is held settled) (g.met.K.Disk.reads_now disk) promised rests restarted asked active image read holds

pub returns-clause-after_fleet : goal.returns-clause-after_fleet
returns-clause-after_fleet g c = λ last place before after disk kept few was is rests restarted.
    stands_again (g.K.Disk.state before) (g.K.Disk.state after) (g.K.Disk.state disk)
    (λ image s read holds settled. c.a_power_loss_takes_only_work.ensures.settled disk image s read holds settled) (g.met.K.Disk.reads_now disk)
    (kept.promised.leaves place before after (get_taken last.count last.disks place few ∙ was) (get_taken last.count last.disks_after place few ∙ is)) rests restarted
