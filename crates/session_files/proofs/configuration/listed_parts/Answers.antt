use Rattle.std.proofs.Common.{◌≡◌, List, [], ◌∷◌, ◌++◌, sym, subst, arith}
use Rattle.std.specs.List.{All}
use Rattle.std.proofs.lemmas.Grind.{common_steps}
use Rattle.std.proofs.lemmas.List.Elements.{All-append, All-cons, All-nil}
use Rattle.load_protocol_files.specs.declared.lcl.Part.{Part}
use Rattle.load_protocol_files.specs.Lcl.{InstalledFits}
use Rattle.session_files.proofs.configuration.listed_parts.Goals as goal

-- one part more fits
fit_more : (parts : List Part) (part : Part) (more : List Part) → more ≡ parts ++ part ∷ [] → All (λ p. InstalledFits p) parts → InstalledFits part → All (λ p. InstalledFits p) more
fit_more parts part more is fit fits =
    subst (λ (list : List Part). All (λ p. InstalledFits p) list) (sym is)
    (All-append (λ p. InstalledFits p) parts (part ∷ []) fit (All-cons (λ p. InstalledFits p) part [] fits (All-nil (λ p. InstalledFits p))))

pub loop-load-preserved : goal.loop-load-preserved
loop-load-preserved c = record {
  is = grind (arith, common_steps);
  fit = fit_more c.loop-load.parts.items c.in_ok-part_of.field-0 c.push.new.self.items c.in_ok-push.ensures.ok c.loop-load.invariant.fit c.in_ok-part_of.ensures.fits;
}
