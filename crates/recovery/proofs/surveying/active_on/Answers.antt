use Rattle.std.proofs.Common.{◌≡◌, ◌∙◌, List, ap, subst, arith}
use Rattle.disk_layout.specs.Manifest.{LoadEntry, manifest_view, total_length}
use Rattle.recovery.specs.Surveys.{FindsOutline}
use Rattle.recovery.proofs.surveying.active_on.Goals as goal

pub returns-clause-found : goal.returns-clause-found
returns-clause-found g c image told =
    let f = c.in_ok-found.found in
    let found = c.in_ok-found.ensures.found image told in
    let tells = c.in_ok-found.ensures.in_range.tells in
    let same : tells.loads ≡ manifest_view c.in_ok-manifest.manifest = c.in_ok-manifest.ensures.found tells.loads (rw c.as_slice-2.ensures tells.spelled) in
    let first : found.loads ≡ tells.loads = cc (found.read, tells.read) in
    subst (λ (l : List LoadEntry). FindsOutline image f.identity l f.active f.other_is_open) (first ∙ same) found.finds

pub returns-clause-in_range : goal.returns-clause-in_range
returns-clause-in_range g c =
    let f = c.in_ok-found.found in
    let range = c.in_ok-found.ensures.in_range in
    let tells = range.tells in
    let same : tells.loads ≡ manifest_view c.in_ok-manifest.manifest = c.in_ok-manifest.ensures.found tells.loads (rw c.as_slice-2.ensures tells.spelled) in
    record {
      size = range.size;
      range = range.range;
      manifest = c.in_ok-manifest.ensures.fits;
      within = omega (arith, ap total_length same, tells.lengths, range.range.within);
    }
