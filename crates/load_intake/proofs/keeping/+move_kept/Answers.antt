use Rattle.std.proofs.Common.{◌≡◌, ◌++◌, List, take, false, sym, ap, ◌∙◌}
use Rattle.disk_layout.specs.declared.manifest.ManifestLoad.{ManifestLoad}
use Rattle.disk_layout.specs.Manifest.{LoadEntry}
use Rattle.load_intake.specs.Keeping.{entries, kept_beside}
use Rattle.session_rules.specs.KeptLoads.{has_other_type, types_of}
use Rattle.load_intake.proofs.Kept.{kept_pass}
use Rattle.load_intake.proofs.keeping.+move_kept.Goals as goal

pub returns-else-is_kept_beside-clause-moved : goal.returns-else-is_kept_beside-clause-moved
returns-else-is_kept_beside-clause-moved t c =
    let first = take c.args.new c.args.to.now.items in
    let apart : has_other_type (types_of (entries first)) c.in-Some.load.type_id ≡ false =
    ap (λ (xs : List ManifestLoad). has_other_type (types_of (entries xs)) c.in-Some.load.type_id) (sym c.move_kept.ensures.first ∙ ap (λ (xs : List ManifestLoad). take c.args.new xs) (sym c.as_slice.ensures)) ∙ (sym c.is_kept_beside.ensures ∙ c.if-is_kept_beside.false) in
    c.move_kept.ensures.moved
    ∙ ap (λ (kept : List LoadEntry). entries c.args.to.now.items ++ kept) (sym (ap (λ (xs : List ManifestLoad). kept_beside (entries xs) (entries first)) c.in-Some.ensures.last ∙ kept_pass (types_of (entries first)) c.pop.new.self.items c.in-Some.load apart))
