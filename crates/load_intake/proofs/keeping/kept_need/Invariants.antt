use Rattle.std.proofs.Common.{◌≡◌, ◌*◌, ◌^◌, ◌≤◌, [], ◌∷◌, take}
use Rattle.std.specs.List.{sum_by}
use Rattle.disk_layout.specs.Manifest.{entry_view}
use Rattle.disk_layout.specs.declared.manifest.ManifestLoad.{ManifestLoad}
use Rattle.load_intake.specs.Keeping.{entries, kept_with, listed_needs}
use Rattle.load_intake.proofs.keeping.kept_need.Given as goal

abbrev pub invariant-loop-load : goal.invariant-loop-load
invariant-loop-load l =
    (l.need ≡ sum_by (λ (load : ManifestLoad). listed_needs (kept_with (entry_view load ∷ []) (entries l.new) l.type_id)) (take l.load-index l.active)) × (l.need ≤ l.load-index * 2 ^ 42)
