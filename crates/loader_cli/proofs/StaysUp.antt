-- A target stays up where power is left alone and its disk doesn't fail.
use Rattle.std.proofs.Common.{◌≡◌, inl, inr, ℕ, zero, suc, ◌+◌, Bool, true, false, List, [], ◌∷◌, ◌++◌, refl, sym, ap, subst, ◌∙◌, arith, append-nil}
use Rattle.std.specs.List.{AllByRecursion}
use Rattle.load_base.specs.Counts.{Rose}
use Rattle.exchange_trace.specs.Happenings.{Booted, Delivered, Ended, HappeningView, Info_started, Injected, Lost, Power_cut, Size_told, Ticked, Upload_started}
use Rattle.exchange_trace.specs.Posts.{first_port_after}
use Rattle.exchange_trace.specs.Steps.{Note, Step}
use Rattle.replay_rules.specs.BothEnds.{Setting, target_at}
use Rattle.replay_rules.specs.Due.{AllNoted, LeavesPower, MayBeNoted, MayGoDown, is_up}
use Rattle.replay_rules.specs.Promises.{NoneGoesDown}
use Rattle.replay_turns.specs.Powers.{RoseBy, disk_stops, stops_in, stops_noted}

-- ---- counts

pub rose_once : (n before now : ℕ) → RoseBy (n + 1) before now → Rose before now
rose_once n before now rose = grind (arith, rose)

pub none_stops : (n before now : ℕ) → ¬ Rose before now → RoseBy n before now → n ≡ 0
none_stops zero before now answers rose = refl
none_stops (suc n) before now answers rose = absurd (answers (rose_once n before now (let e : suc n ≡ n + 1 = omega arith in subst (λ (m : ℕ). RoseBy m before now) e rose)))

rose_more : (n m before now : ℕ) → RoseBy (suc n + m) before now → RoseBy (m + 1) before now
rose_more n m before now rose = grind (arith, rose)

-- where it rose by no more than the first ones, there are no later ones
none_later : (n m before now : ℕ) → ¬ RoseBy (m + 1) before now → RoseBy (n + m) before now → n ≡ 0
none_later zero m before now answers rose = refl
none_later (suc n) m before now answers rose = absurd (answers (rose_more n m before now rose))

stops_joined : (more steps : List Step) → disk_stops (more ++ steps) ≡ disk_stops more + disk_stops steps
stops_joined [] steps = omega arith
stops_joined (s ∷ more) steps = let rest = stops_joined more steps in omega (arith, rest)

pub none_since : (more steps whole : List Step) (before now : ℕ) → whole ≡ more ++ steps → ¬ RoseBy (disk_stops steps + 1) before now → RoseBy (disk_stops whole) before now → disk_stops more ≡ 0
none_since more steps whole before now split answers rose =
    none_later (disk_stops more) (disk_stops steps) before now answers (subst (λ (n : ℕ). RoseBy n before now) (ap disk_stops split ∙ stops_joined more steps) rose)

-- ---- what is noted then

not_down : (up : Bool) (notes : List Note) → MayGoDown up notes → stops_noted notes ≡ 0 → notes ≡ []
not_down true notes (inl none) still = none
not_down true notes (inr down) still = absurd (let one : 1 ≡ 0 = ap stops_noted (sym down) ∙ still in omega (arith, one))
not_down false notes none still = none

stays_up : (up : Bool) (port : ℕ) (h : HappeningView) (notes : List Note) → LeavesPower h → MayBeNoted up port h notes → stops_in h notes ≡ 0 → notes ≡ []
stays_up up port (Delivered side n) notes leaves may still = not_down up notes may still
stays_up up port (Lost n) notes leaves may still = not_down up notes may still
stays_up up port (Injected d) notes leaves may still = not_down up notes may still
stays_up up port (Ticked side) notes leaves may still = not_down up notes may still
stays_up up port (Size_told size) notes leaves may still = not_down up notes may still
stays_up up port (Power_cut calls pick) notes leaves may still = absurd leaves
stays_up up port Booted notes leaves may still = absurd leaves
stays_up up port (Info_started hw pos) notes leaves may still = not_down up notes may still
stays_up up port (Upload_started hw pos parts) notes leaves may still = not_down up notes may still
stays_up up port Ended notes leaves may still = not_down up notes may still

-- of the steps after these
pub none_down_since : (set : Setting) (more steps : List Step) → AllByRecursion (λ (s : Step). LeavesPower s.given) more → AllNoted set (more ++ steps) → disk_stops more ≡ 0 → NoneGoesDown more
none_down_since set [] steps all noted still = tt
none_down_since set (s ∷ more) steps (leaves, before) (may, noted) still = (
  stays_up (is_up (target_at set (more ++ steps))) (first_port_after (more ++ steps)) s.given s.notes leaves may (omega (arith, still)),
  none_down_since set more steps before noted (omega (arith, still)),
)

-- of a whole run
pub none_down : (set : Setting) (steps : List Step) → AllByRecursion (λ (s : Step). LeavesPower s.given) steps → AllNoted set steps → disk_stops steps ≡ 0 → NoneGoesDown steps
none_down set steps all noted still = none_down_since set steps [] all (subst (λ (list : List Step). AllNoted set list) (sym (append-nil steps)) noted) still
