use Rattle.std.proofs.Common.{◌≡◌, ◌∙◌, true, false, rules, Ok, OnOk, Some, sym, subst}
use Rattle.target_machine.specs.declared.row.Row.{Row}
use Rattle.target_machine.proofs.installed.Installed.turn.Goals.{in-Ok-Some, in_default, in_default-2}
use Rattle.target_machine.specs.Decisions.{row_then}
use Rattle.target_machine.specs.Disks.{TurnsDisk, whole_row_then}
use Rattle.target_machine.proofs.Holding.{no_failure, no_more, turn_abandons}
use Rattle.target_machine.specs.Machine.{seen_at}
use Rattle.target_machine.specs.Stages.{InstalledState, StaysOn}
use Rattle.target_machine.proofs.Turning.{stays_too_ok, turns_too_ok}
use Rattle.target_machine.proofs.installed.Installed.turn.Goals as goal

pub returns-then-not-matches-clause-row : goal.returns-then-not-matches-clause-row
returns-then-not-matches-clause-row g c = λ accepts follows.
    turns_too_ok c.args.self.now c.next_row-result.new.self c.self.inside.identity c.self.inside.manifest c.self.inside.store c.abandon.new.self
    (row_then accepts c.args.self.now.active (seen_at c.args.self.now.active.loads c.args.row c.args.arriving.now) c.args.error) c.next_row-result.result c.self.view_is c.abandon.ensures.continues.active
    (c.next_row-result.ensures.row accepts follows)

pub returns-then-not-matches-clause-goes_on : goal.returns-then-not-matches-clause-goes_on
returns-then-not-matches-clause-goes_on g c =
    stays_too_ok c.args.self.now.store c.self.inside.store c.abandon.new.self (g.K.Disk.state c.args.disk.now) (g.K.Disk.state c.next_row-result.new.disk) c.next_row-result.result
    (subst (λ (x : InstalledState). OnOk c.next_row-result.result (StaysOn c.args.self.now.store x.store (g.K.Disk.state c.args.disk.now) (g.K.Disk.state c.next_row-result.new.disk))) (sym c.self.view_is) c.next_row-result.ensures.goes_on)
    (c.a_store_goes_on_fitting.ensures.continued_fits c.self.inside.store c.abandon.new.self c.next_row-result.new.disk c.abandon.ensures.continues)
    (c.a_store_goes_on_fitting.ensures.continued_works c.self.inside.store c.abandon.new.self c.next_row-result.new.disk c.abandon.ensures.continues)

pub returns-then-not-matches-clause-brings : goal.returns-then-not-matches-clause-brings
returns-then-not-matches-clause-brings g c = λ accepts follows s x kept installs.
    let ended : (next : Row) → c.next_row-result.result ≡ Ok (Some next) → ⊥ = λ next is. elim c.match-matches.branch [
      | in-Ok-Some w ↦ absurd (let wrong : true ≡ false = sym w.matches-is ∙ c.if-not-matches.true in cc)
      | in_default w ↦ no_more next (w.in_default.field-0) (search rules) (sym w.in_default.is ∙ is)
      | in_default-2 w ↦ no_failure next (w.in_default.field-0) (sym w.in_default.is ∙ is)
    ] in
    turn_abandons (g.K.Disk.state c.args.disk.now) c.self.inside.store c.abandon.new.self (g.K.Disk.state c.next_row-result.new.disk) s (whole_row_then accepts c.args.self.now.active x c.args.error) c.next_row-result.result ended c.abandon.ensures.continues
    (subst (λ (i : InstalledState). TurnsDisk (g.K.Disk.state c.args.disk.now) i.store (g.K.Disk.state c.next_row-result.new.disk) s (whole_row_then accepts c.args.self.now.active x c.args.error) c.next_row-result.result) (sym c.self.view_is) (c.next_row-result.ensures.brings accepts follows s x kept installs))

pub returns-else-not-matches-clause-brings : goal.returns-else-not-matches-clause-brings
returns-else-not-matches-clause-brings g c = λ accepts follows s x kept installs. (c.next_row-result.ensures.brings accepts follows s x kept installs).brings
