use Rattle.std.proofs.Common.{◌≡◌, ◌≤◌, List, length, sym, subst, arith}
use Rattle.std.specs.List.{All}
use Rattle.std.proofs.lemmas.Grind.{common_steps}
use Rattle.load_protocol_files.specs.declared.lus.LoadStatus.{LoadStatus}
use Rattle.session_rules.specs.Reports.{load_statuses}
use Rattle.session_files.proofs.Statuses.{are_ratios, in_two, same_count}
use Rattle.session_files.proofs.status.statuses.Goals as goal

pub returns-clause-is : goal.returns-clause-is
returns-clause-is c = let two = in_two c.args.arrived c.args.status c.args.other c.args.request.now in grind (arith, common_steps, two)

pub returns-clause-ratios : goal.returns-clause-ratios
returns-clause-ratios c =
    let is : c.push_statuses-2.new.out.items ≡ load_statuses c.args.arrived c.args.status c.args.other c.args.request.now = returns-clause-is c in
    subst (λ (items : List LoadStatus). All (λ (load : LoadStatus). load.ratio ≤ 100) items) (sym is) (are_ratios c.args.arrived c.args.status c.args.other c.args.request.now)

pub returns-clause-count : goal.returns-clause-count
returns-clause-count c =
    let is : c.push_statuses-2.new.out.items ≡ load_statuses c.args.arrived c.args.status c.args.other c.args.request.now = returns-clause-is c in
    subst (λ (items : List LoadStatus). length items ≡ length c.args.request.now) (sym is) (same_count c.args.arrived c.args.status c.args.other c.args.request.now)
