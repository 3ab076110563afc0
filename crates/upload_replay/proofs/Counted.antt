-- Losses of power that are armed.
use Rattle.std.proofs.Common.{◌≡◌, ℕ, List, [], ◌∷◌, ◌++◌, refl, sym, ap, ◌∙◌}
use Rattle.std.proofs.lemmas.List.{append_assoc}
use Rattle.disk_model.specs.State.{DiskState, KeepsPower}
use Rattle.exchange_trace.specs.Happenings.{HappeningView, Ended}
use Rattle.replay_turns.specs.Powers.{ArmsBy, armed_with, armings_with}
use Rattle.upload_replay.specs.Armings.{ArmsAsGiven, armed_after, armings_after}

-- ---- losses that are armed

armings_joined : (more first : List HappeningView) (n : ℕ) → armings_after (more ++ first) n ≡ armings_after more (armings_after first n)
armings_joined [] first n = refl
armings_joined (h ∷ more) first n = ap (armings_with h) (armings_joined more first n)

armed_joined : (more first : List HappeningView) (before : ℕ × ℕ) → armed_after (more ++ first) before ≡ armed_after more (armed_after first before)
armed_joined [] first before = refl
armed_joined (h ∷ more) first before = ap (armed_with h) (armed_joined more first before)

-- nothing was given
pub arms_none : (before after : List HappeningView) (old new : DiskState) → after ≡ before → KeepsPower old new → ArmsAsGiven before after old new
arms_none before after old new same keeps = record { given = []; more = same; armings = keeps.armings; armed = keeps.armed }

-- this was given
pub arms_one : (before after : List HappeningView) (h : HappeningView) (old new : DiskState) → after ≡ h ∷ before → ArmsBy h old new → ArmsAsGiven before after old new
arms_one before after h old new more arms = record { given = h ∷ []; more = more; armings = arms.armings; armed = arms.armed }

pub arms_end : (before after : List HappeningView) (h : HappeningView) (disk : DiskState) → h ≡ Ended → after ≡ h ∷ before → ArmsAsGiven before after disk disk
arms_end before after h disk is more = record { given = h ∷ []; more = more; armings = rw is refl; armed = rw is refl }

pub arms_on : (x y z : List HappeningView) (a b c : DiskState) → ArmsAsGiven x y a b → ArmsAsGiven y z b c → ArmsAsGiven x z a c
arms_on x y z a b c first second = record {
  given = second.given ++ first.given;
  more = second.more ∙ (ap (λ (list : List HappeningView). second.given ++ list) first.more ∙ sym (append_assoc second.given first.given x));
  armings = second.armings ∙ (ap (armings_after second.given) first.armings ∙ sym (armings_joined second.given first.given a.armings));
  armed = second.armed ∙ (ap (armed_after second.given) first.armed ∙ sym (armed_joined second.given first.given a.armed));
}
