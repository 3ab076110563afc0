-- What is active in a run is small, where it began with what a disk can hold.
use Rattle.std.proofs.Common.{◌≡◌, List, [], ◌∷◌, length, sym, subst, arith}
use Rattle.std.specs.List.{AllByRecursion}
use Rattle.std.proofs.lemmas.List.{length-map}
use Rattle.std.proofs.lemmas.List.Elements.{recursion_from_All}
use Rattle.disk_layout.specs.Contents.{entries_of, entry_of}
use Rattle.disk_layout.specs.Holds.{StandingView}
use Rattle.disk_layout.specs.Manifest.{FileFits, LoadEntry, LoadFits}
use Rattle.disk_layout.specs.declared.manifest.Layout.{Layout}
use Rattle.disk_layout.specs.declared.manifest.ManifestFile.{ManifestFile}
use Rattle.exchange_trace.specs.Steps.{Step}
use Rattle.session_rules.proofs.KeptLemmas.{with_kept_same}
use Rattle.session_rules.specs.KeptLoads.{kept_entries, types_of}
use Rattle.replay_rules.specs.BothEnds.{Setting, target_at}
use Rattle.replay_rules.specs.Causes.{BeginsSmall, HasFewLoads}
use Rattle.replay_rules.specs.Changes.{AllStayOrAreNew}
use Rattle.replay_rules.specs.Histories.{active_in}
use Rattle.replay_rules.proofs.PlacedTraceLemmas.{all_append}
use Rattle.replay_rules.proofs.ActiveStays.{active_has}
use Rattle.replay_rules.proofs.Reasons.{FileSmall, HasText, LoadSmall, UploadSmall, all_kept}
use Rattle.replay_rules.proofs.SessionRows.{Installs}
use Rattle.replay_rules.proofs.StatusFiles.{AllWanted}

-- ---- at the start

files_small : (files : List ManifestFile) → AllByRecursion (λ (f : ManifestFile). FileFits f) files → AllByRecursion FileSmall files
files_small [] all = tt
files_small (f ∷ files) (one, all) = let size = one.length in let name = one.name.size.1 in (record { name = omega (arith, name); size = omega (arith, size) }, files_small files all)

loads_small : (layout : Layout) (loads : List LoadEntry) → AllByRecursion (λ (l : LoadEntry). LoadFits layout l) loads → AllByRecursion LoadSmall loads
loads_small layout [] all = tt
loads_small layout (l ∷ loads) (one, all) =
    let size = one.part.size in
    (record { part = omega (arith, size); count = one.count; files = files_small l.files (recursion_from_All (λ (f : ManifestFile). FileFits f) l.files one.files) }, loads_small layout loads all)

-- each load that is active is small
abbrev pub HasSmallLoads : StandingView → Type 0
HasSmallLoads s = AllByRecursion LoadSmall (entries_of s.loads)

pub begins_with_small : (s : StandingView) → BeginsSmall s → HasSmallLoads s
begins_with_small s begins = loads_small begins.loads.layout (entries_of s.loads) (recursion_from_All (λ (l : LoadEntry). LoadFits begins.loads.layout l) (entries_of s.loads) begins.loads.fits.each)

begins_with_few : (s : StandingView) → BeginsSmall s → HasFewLoads s
begins_with_few s begins = let count : length (entries_of s.loads) ≡ length s.loads = length-map s.loads entry_of in let few = begins.loads.fits.count in omega (arith, count, few)

-- ---- after an installation

pub installs_small : Installs AllWanted UploadSmall HasText HasSmallLoads
installs_small active e loads small new =
    subst (AllByRecursion LoadSmall) (sym (with_kept_same loads active.loads))
    (all_append LoadSmall (entries_of loads) (kept_entries (types_of (entries_of loads)) (entries_of active.loads)) new.loads (all_kept LoadSmall (types_of (entries_of loads)) (entries_of active.loads) small))

-- there are few, as a verdict is good
pub active_is_few : (set : Setting) → BeginsSmall set.start → (steps : List Step) → AllStayOrAreNew set steps → HasFewLoads (active_in (target_at set steps))
active_is_few set begins steps all =
    active_has set HasFewLoads (λ before after new id few. subst HasFewLoads (sym new.next) new.new.few) (begins_with_few set.start begins) steps all
