use Rattle.std.proofs.Common.{◌≡◌, ◌++◌, List, [], ◌∷◌, length, ap, sym, subst, ◌∙◌, arith, rules, length-append}
use Rattle.session_rules.specs.KeptLoads.{types_of}
use Rattle.session_rules.specs.TargetRows.{Over, load_entry_of}
use Rattle.disk_layout.specs.Manifest.{LoadEntry}
use Rattle.load_intake.specs.Keeping.{entries}
use Rattle.load_intake.specs.States.{WholeView}
use Rattle.load_intake.specs.Stores.{InstallsLoads}
use Rattle.load_intake.proofs.Filling.{brings_fails, brings_so}
use Rattle.load_intake.proofs.Going.{installs_here}
use Rattle.load_intake.proofs.arriving.complete.Goals as goal

pub returns-in_err-install-clause-brings : goal.returns-in_err-install-clause-brings
returns-in_err-install-clause-brings g c = λ s given is same.
    let are : entries c.as_slice.result.now ≡ c.args.whole.loads ++ load_entry_of c.args.load ∷ [] = search rules in
    brings_fails (g.K.Disk.state c.args.disk.now) c.install.new.store c.install.new.store (g.K.Disk.state c.install.new.disk) s _ Over [] c.install.result c.from_residual-in_err-install.result c.from_residual-in_err-install.ensures.0
    (c.install.ensures.brings s given is (same ∙ ap types_of (sym are)))

pub returns-clause-brings : goal.returns-clause-brings
returns-clause-brings g c = λ s given is same.
    let are : entries c.as_slice.result.now ≡ c.args.whole.loads ++ load_entry_of c.args.load ∷ [] = search rules in
    brings_so (g.K.Disk.state c.args.disk.now) c.install.new.store (g.K.Disk.state c.install.new.disk) s _ Over [] _ _ (c.in_ok-install.ensures.brings s given is (same ∙ ap types_of (sym are)))

pub returns-clause-ends : goal.returns-clause-ends
returns-clause-ends g c =
    let w = c.args.whole in
    let new = entries c.in_ok-new.new.loads.items in
    let are : entries c.as_slice.result.now ≡ new = search rules in
    let said : new ≡ w.loads ++ load_entry_of c.args.load ∷ [] = search rules in
    let requested : length c.request.inside.request.items ≡ length w.request = ap (λ (x : WholeView). length x.request) (c.request.view_is ∙ c.in_ok-request.ensures) in
    let all : length c.request.inside.request.items ≡ length new = omega (arith, requested, c.requires.last, ap (λ (l : List LoadEntry). length l) said, length-append w.loads (load_entry_of c.args.load ∷ [])) in
    installs_here _ c.installed.result _ _ c.args.store.now c.install.new.store _ _ c.installed.ensures.row all (c.installed.ensures.spare (length c.args.active.now) c.in_ok-new.ensures.room)
    (subst (λ (l : List LoadEntry). InstallsLoads l c.args.store.now c.install.new.store (g.K.Disk.state c.args.disk.now) (g.K.Disk.state c.install.new.disk)) are c.in_ok-install.ensures.installs)
