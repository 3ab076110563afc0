use Rattle.std.proofs.Common.{ℕ, List, map, sym, ap, ap₂, ◌∙◌}
use Rattle.load_base.specs.Config.{load_view}
use Rattle.disk_model.specs.Image.{range}
use Rattle.disk_layout.specs.Offsets.{bank_at}
use Rattle.disk_layout.specs.Manifest.{LoadEntry, entry_view, total_length}
use Rattle.recovery.proofs.Standings.{stands_for}
use Rattle.recovery.proofs.recovering.recover.Goals as goal

pub returns-clause-found : goal.returns-clause-found
returns-clause-found g c image told =
    let f = c.in_ok-found.found in
    let entries = ap (map entry_view) c.as_slice-entries.ensures in
    stands_for image f.identity f.manifest f.active f.other_is_open c.number.result (map load_view c.in_ok-loads.loads.items) c.number.ensures.value (c.in_ok-found.ensures.found image told)
    (c.in_ok-loads.ensures.entries ∙ entries) c.in_ok-loads.ensures.headers
    (c.in_ok-loads.ensures.bytes image (c.in_ok-found.ensures.reads_disk.ok.reads ∙ told)
    ∙ ap₂ (λ (p : ℕ) (l : List LoadEntry). range image p (total_length l)) (c.offset-start.ensures.value ∙ ap (λ (n : ℕ). bank_at f.identity.bank n) (sym c.number.ensures.value)) entries)
