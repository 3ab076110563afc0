-- An image holds one thing, or fails at one.
use Rattle.std.proofs.Common.{◌≡◌, Result, Ok, Err, sym, ◌∙◌, ◌⊎◌}
use Rattle.disk_model.specs.Image.{Image, IsOfBytes}
use Rattle.disk_layout.specs.Holds.{StandingView, HoldsConfig, HasDiskFault}
use Rattle.disk_layout.specs.declared.fault.RecoverFault.{RecoverFault}
use Rattle.disk_layout.proofs.Verdict.{stands_verdict, fault_verdict, stands_or_not}

-- each image holds a configuration, or fails at a condition
pub one_or_other : (image : Image) → IsOfBytes image → ((s : StandingView) × HoldsConfig image s) ⊎ ((f : RecoverFault) × HasDiskFault image f)
one_or_other image fits = stands_or_not image fits

clash : (s : StandingView) (f : RecoverFault) → ◌≡◌ {A = Result StandingView RecoverFault} (Ok s) (Err f) → ⊥
clash s f e = cc

same_standing : (s t : StandingView) → ◌≡◌ {A = Result StandingView RecoverFault} (Ok s) (Ok t) → s ≡ t
same_standing s t e = cc

same_fault : (f g : RecoverFault) → ◌≡◌ {A = Result StandingView RecoverFault} (Err f) (Err g) → f ≡ g
same_fault f g e = cc

-- never both
pub not_both : (image : Image) (s : StandingView) (f : RecoverFault) → HoldsConfig image s → HasDiskFault image f → ⊥
not_both image s f stands faulty = clash s f (sym (stands_verdict image s stands) ∙ fault_verdict image f faulty)

-- it holds one configuration
pub one_standing : (image : Image) (s t : StandingView) → HoldsConfig image s → HoldsConfig image t → s ≡ t
one_standing image s t one two = same_standing s t (sym (stands_verdict image s one) ∙ stands_verdict image t two)

-- it fails at one condition
pub one_fault : (image : Image) (f g : RecoverFault) → HasDiskFault image f → HasDiskFault image g → f ≡ g
one_fault image f g one two = same_fault f g (sym (fault_verdict image f one) ∙ fault_verdict image g two)
