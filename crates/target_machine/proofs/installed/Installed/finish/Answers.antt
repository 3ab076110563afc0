use Rattle.std.proofs.Common.{length, refl, sym, ap, subst, ◌∙◌}
use Rattle.disk_layout.specs.Holds.{Outline}
use Rattle.session_rules.specs.TargetRows.{Reads_file, Writes_progress, Writes_stop, done_move, view_moved}
use Rattle.load_intake.specs.Intakes.{end_view, row_seen}
use Rattle.load_intake.specs.Keeping.{entries}
use Rattle.load_intake.specs.Stores.{EndsFile}
use Rattle.target_machine.specs.declared.row.Row.{Row}
use Rattle.target_machine.specs.declared.row.Row.TheVariants as rows
use Rattle.target_machine.proofs.Turning.{turns_new, turns_same}
use Rattle.std.proofs.Common.{[], Ok}
use Rattle.session_rules.specs.TargetRows.{row_moved}
use Rattle.load_intake.specs.declared.down.Down.{Down}
use Rattle.load_intake.specs.Contents.{BringsRow, InstallsRow}
use Rattle.target_machine.specs.Stages.{InstalledState, outline_kept}
use Rattle.target_machine.proofs.Holding.{answers_so, fails_so}
use Rattle.target_machine.proofs.installed.Installed.finish.Goals as goal

pub returns-in-MoreFiles-clause-row : goal.returns-in-MoreFiles-clause-row
returns-in-MoreFiles-clause-row g c = λ accepts follows.
    turns_same c.args.self.now c.self.inside.identity c.self.inside.manifest c.self.inside.store c.finish.new.store (rows.ReadsFile c.in-MoreFiles.intake)
    (λ (x : Outline). view_moved (Reads_file c.args.intake.upload) c.args.intake.arriving (done_move accepts x (Reads_file c.args.intake.upload) c.args.intake.arriving))
    (Reads_file c.in-MoreFiles.intake.upload) c.self.view_is (subst (λ f. EndsFile (length c.as_slice-active.result.now) f c.self.inside.store c.finish.new.store (g.K.Disk.state c.args.disk.now) (g.K.Disk.state c.finish.new.disk)) c.in-MoreFiles.is c.in_ok-intake.ensures.ends).leaves.goes_on.active refl (λ o. refl) (subst (λ f. EndsFile (length c.as_slice-active.result.now) f c.self.inside.store c.finish.new.store (g.K.Disk.state c.args.disk.now) (g.K.Disk.state c.finish.new.disk)) c.in-MoreFiles.is c.in_ok-intake.ensures.ends).begins (ap row_seen (sym c.in-MoreFiles.is) ∙ c.in_ok-intake.ensures.row accepts follows (outline_kept c.self.inside.identity c.self.inside.manifest c.self.inside.store) (record { identity = refl; loads = ap entries (sym c.as_slice-active.ensures) }))

pub returns-in-NextLoad-clause-row : goal.returns-in-NextLoad-clause-row
returns-in-NextLoad-clause-row g c = λ accepts follows.
    turns_same c.args.self.now c.self.inside.identity c.self.inside.manifest c.self.inside.store c.finish.new.store (rows.WritesProgress c.in-NextLoad.intake)
    (λ (x : Outline). view_moved (Reads_file c.args.intake.upload) c.args.intake.arriving (done_move accepts x (Reads_file c.args.intake.upload) c.args.intake.arriving))
    (Writes_progress c.in-NextLoad.intake.upload) c.self.view_is (subst (λ f. EndsFile (length c.as_slice-active.result.now) f c.self.inside.store c.finish.new.store (g.K.Disk.state c.args.disk.now) (g.K.Disk.state c.finish.new.disk)) c.in-NextLoad.is c.in_ok-intake.ensures.ends).leaves.goes_on.active refl (λ o. refl) tt (ap row_seen (sym c.in-NextLoad.is) ∙ c.in_ok-intake.ensures.row accepts follows (outline_kept c.self.inside.identity c.self.inside.manifest c.self.inside.store) (record { identity = refl; loads = ap entries (sym c.as_slice-active.ensures) }))

pub returns-in-Stopped-clause-row : goal.returns-in-Stopped-clause-row
returns-in-Stopped-clause-row g c = λ accepts follows.
    turns_same c.args.self.now c.self.inside.identity c.self.inside.manifest c.self.inside.store c.finish.new.store (rows.WritesStop c.in-Stopped.end)
    (λ (x : Outline). view_moved (Reads_file c.args.intake.upload) c.args.intake.arriving (done_move accepts x (Reads_file c.args.intake.upload) c.args.intake.arriving))
    (Writes_stop (end_view c.in-Stopped.end)) c.self.view_is (subst (λ f. EndsFile (length c.as_slice-active.result.now) f c.self.inside.store c.finish.new.store (g.K.Disk.state c.args.disk.now) (g.K.Disk.state c.finish.new.disk)) c.in-Stopped.is c.in_ok-intake.ensures.ends).leaves.goes_on.active refl (λ o. refl) tt (ap row_seen (sym c.in-Stopped.is) ∙ c.in_ok-intake.ensures.row accepts follows (outline_kept c.self.inside.identity c.self.inside.manifest c.self.inside.store) (record { identity = refl; loads = ap entries (sym c.as_slice-active.ensures) }))

pub returns-in-Installed-clause-row : goal.returns-in-Installed-clause-row
returns-in-Installed-clause-row g c = λ accepts follows.
    turns_new c.args.self.now c.self.inside.identity c.self.inside.manifest (record { loads = c.with_kept-loads.result }) (entries c.in-Installed.new.loads.items) c.self.inside.store c.finish.new.store _ _ c.in-Installed.end
    (λ (x : Outline). view_moved (Reads_file c.args.intake.upload) c.args.intake.arriving (done_move accepts x (Reads_file c.args.intake.upload) c.args.intake.arriving))
    c.self.view_is (subst (λ f. EndsFile (length c.as_slice-active.result.now) f c.self.inside.store c.finish.new.store (g.K.Disk.state c.args.disk.now) (g.K.Disk.state c.finish.new.disk)) c.in-Installed.is c.in_ok-intake.ensures.ends).leaves c.with_kept-loads.ensures
    (ap row_seen (sym c.in-Installed.is) ∙ c.in_ok-intake.ensures.row accepts follows (outline_kept c.self.inside.identity c.self.inside.manifest c.self.inside.store) (record { identity = refl; loads = ap entries (sym c.as_slice-active.ensures) }))

pub returns-in_err-intake-clause-brings : goal.returns-in_err-intake-clause-brings
returns-in_err-intake-clause-brings g c = λ accepts follows s u arrived is installs.
    let inside = subst (λ (x : InstalledState). InstallsRow x.store (g.K.Disk.state c.args.disk.now) s (Reads_file u) arrived) (sym c.self.view_is) installs in
    subst (λ (x : InstalledState). BringsRow (g.K.Disk.state c.args.disk.now) c.finish.new.store (g.K.Disk.state c.finish.new.disk) s (row_moved (Reads_file u) arrived (done_move accepts x.active (Reads_file c.args.intake.upload) c.args.intake.arriving)) c.from_residual.result) c.self.view_is
    (fails_so (g.K.Disk.state c.args.disk.now) c.finish.new.store c.finish.new.store (g.K.Disk.state c.finish.new.disk) s _ _ [] c.finish.result c.from_residual.result c.from_residual.ensures.0 (c.finish.ensures.brings accepts follows (outline_kept c.self.inside.identity c.self.inside.manifest c.self.inside.store) (record { identity = refl; loads = ap entries (sym c.as_slice-active.ensures) }) s u arrived is inside))

pub returns-in-MoreFiles-clause-brings : goal.returns-in-MoreFiles-clause-brings
returns-in-MoreFiles-clause-brings g c = λ accepts follows s u arrived is installs.
    let inside = subst (λ (x : InstalledState). InstallsRow x.store (g.K.Disk.state c.args.disk.now) s (Reads_file u) arrived) (sym c.self.view_is) installs in
    subst (λ (x : InstalledState). BringsRow {T = Row} {E = Down} (g.K.Disk.state c.args.disk.now) c.finish.new.store (g.K.Disk.state c.finish.new.disk) s (row_moved (Reads_file u) arrived (done_move accepts x.active (Reads_file c.args.intake.upload) c.args.intake.arriving)) (Ok (rows.ReadsFile c.in-MoreFiles.intake))) c.self.view_is
    (answers_so (g.K.Disk.state c.args.disk.now) c.finish.new.store (g.K.Disk.state c.finish.new.disk) s _ _ [] _ _ (c.in_ok-intake.ensures.brings accepts follows (outline_kept c.self.inside.identity c.self.inside.manifest c.self.inside.store) (record { identity = refl; loads = ap entries (sym c.as_slice-active.ensures) }) s u arrived is inside))

pub returns-in-NextLoad-clause-brings : goal.returns-in-NextLoad-clause-brings
returns-in-NextLoad-clause-brings g c = λ accepts follows s u arrived is installs.
    let inside = subst (λ (x : InstalledState). InstallsRow x.store (g.K.Disk.state c.args.disk.now) s (Reads_file u) arrived) (sym c.self.view_is) installs in
    subst (λ (x : InstalledState). BringsRow {T = Row} {E = Down} (g.K.Disk.state c.args.disk.now) c.finish.new.store (g.K.Disk.state c.finish.new.disk) s (row_moved (Reads_file u) arrived (done_move accepts x.active (Reads_file c.args.intake.upload) c.args.intake.arriving)) (Ok (rows.WritesProgress c.in-NextLoad.intake))) c.self.view_is
    (answers_so (g.K.Disk.state c.args.disk.now) c.finish.new.store (g.K.Disk.state c.finish.new.disk) s _ _ [] _ _ (c.in_ok-intake.ensures.brings accepts follows (outline_kept c.self.inside.identity c.self.inside.manifest c.self.inside.store) (record { identity = refl; loads = ap entries (sym c.as_slice-active.ensures) }) s u arrived is inside))

pub returns-in-Stopped-clause-brings : goal.returns-in-Stopped-clause-brings
returns-in-Stopped-clause-brings g c = λ accepts follows s u arrived is installs.
    let inside = subst (λ (x : InstalledState). InstallsRow x.store (g.K.Disk.state c.args.disk.now) s (Reads_file u) arrived) (sym c.self.view_is) installs in
    subst (λ (x : InstalledState). BringsRow {T = Row} {E = Down} (g.K.Disk.state c.args.disk.now) c.finish.new.store (g.K.Disk.state c.finish.new.disk) s (row_moved (Reads_file u) arrived (done_move accepts x.active (Reads_file c.args.intake.upload) c.args.intake.arriving)) (Ok (rows.WritesStop c.in-Stopped.end))) c.self.view_is
    (answers_so (g.K.Disk.state c.args.disk.now) c.finish.new.store (g.K.Disk.state c.finish.new.disk) s _ _ [] _ _ (c.in_ok-intake.ensures.brings accepts follows (outline_kept c.self.inside.identity c.self.inside.manifest c.self.inside.store) (record { identity = refl; loads = ap entries (sym c.as_slice-active.ensures) }) s u arrived is inside))

pub returns-in-Installed-clause-brings : goal.returns-in-Installed-clause-brings
returns-in-Installed-clause-brings g c = λ accepts follows s u arrived is installs.
    let inside = subst (λ (x : InstalledState). InstallsRow x.store (g.K.Disk.state c.args.disk.now) s (Reads_file u) arrived) (sym c.self.view_is) installs in
    subst (λ (x : InstalledState). BringsRow {T = Row} {E = Down} (g.K.Disk.state c.args.disk.now) c.finish.new.store (g.K.Disk.state c.finish.new.disk) s (row_moved (Reads_file u) arrived (done_move accepts x.active (Reads_file c.args.intake.upload) c.args.intake.arriving)) (Ok (rows.WritesCompletion c.in-Installed.end))) c.self.view_is
    (answers_so (g.K.Disk.state c.args.disk.now) c.finish.new.store (g.K.Disk.state c.finish.new.disk) s _ _ [] _ _ (c.in_ok-intake.ensures.brings accepts follows (outline_kept c.self.inside.identity c.self.inside.manifest c.self.inside.store) (record { identity = refl; loads = ap entries (sym c.as_slice-active.ensures) }) s u arrived is inside))
