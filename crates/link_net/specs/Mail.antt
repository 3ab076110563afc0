-- The datagrams that a link was posted, and what became of them.
use Rattle.std.specs.Prelude.{◌≡◌, ℕ, ◌+◌, ◌-◌, ◌<◌, ◌≤◌, List, ◌∷◌, length, map, reverse, false, slice_set, Bool, if◌then◌else◌, ⊤}
use Rattle.std.specs.List.{slice_index_or}
use Rattle.exchange_trace.specs.declared.trace.Datagram.{Datagram}
use Rattle.exchange_trace.specs.declared.trace.Side.{Side}
use Rattle.exchange_trace.specs.declared.trace.Happening.{Happening}
use Rattle.exchange_trace.specs.Happenings as happenings
use Rattle.exchange_trace.specs.Happenings.{DatagramView, HappeningView, datagram_view, happening_view}
use Rattle.exchange_trace.specs.Posts.{is_undelivered, was_delivered, was_lost}
use Rattle.exchange_trace.specs.Following.{Scene}
use Rattle.link_net.specs.declared.mail.Fate.{Fate}
use Rattle.link_net.specs.declared.mail.Fate.TheVariants.{Undelivered, Lost, Delivered}

-- what was posted, the oldest first, and what was given, the newest first
pub record MailView : Type 0 where
  pub posted : List DatagramView
  pub given : List HappeningView

abbrev pub with_given : MailView → HappeningView → MailView
with_given mail h = record { posted = mail.posted; given = h ∷ mail.given }

-- what became of the datagram of this number
abbrev pub fate_of : List HappeningView → ℕ → Fate
fate_of given number =
    if was_delivered number given then Delivered
    else if was_lost number given then Lost
    else Undelivered

-- the fate of each datagram is kept, and which is the first undelivered one
pub record AreFatesKept (count : ℕ) (fates : List Fate) (least : ℕ) (given : List HappeningView) : Type 0 where
  pub counted : length fates ≡ count
  pub kept : (k : ℕ) → slice_index_or fates k Undelivered ≡ fate_of given (k + 1)
  pub within : least ≤ count
  pub before : (k : ℕ) → k < least → is_undelivered given (k + 1) ≡ false
  pub found : slice_index_or fates least Undelivered ≡ Undelivered

-- the datagrams of a log that proofs alone read
abbrev pub logged : List (Datagram × Unit {0}) → List DatagramView
logged log = map (λ entry. datagram_view entry.0) log

-- the happenings of such a log, the newest first
abbrev pub given_in : List (Happening × Unit {0}) → List HappeningView
given_in log = reverse (map (λ entry. happening_view entry.0) log)

-- The side of each datagram is kept, its fate, and which is the first undelivered one.
pub record KeepsMail (log : List (Datagram × Unit {0})) (sides : List Side) (fates : List Fate) (least : ℕ) (given : List HappeningView) : Type 0 where
  pub each_side : sides ≡ map (λ entry. entry.0.from_side) log
  pub each_fate : AreFatesKept (length sides) fates least given

-- what is given names a datagram that was posted, if it names one
abbrev pub NamesPosted : (count : ℕ) → HappeningView → Type 0
NamesPosted count (happenings.Delivered side number) = (1 ≤ number) × (number ≤ count)
NamesPosted count (happenings.Lost number) = (1 ≤ number) × (number ≤ count)
NamesPosted count given = ⊤

abbrev pub after_loss : Fate → Fate
after_loss Undelivered = Lost
after_loss fate = fate

-- the fates after what is given
abbrev pub fates_after : List Fate → HappeningView → List Fate
fates_after fates (happenings.Delivered side number) = slice_set fates (number - 1) Delivered
fates_after fates (happenings.Lost number) = slice_set fates (number - 1) (after_loss (slice_index_or fates (number - 1) Undelivered))
fates_after fates given = fates

-- what following the script sees of it
abbrev pub scene_in : MailView → (loader_waits target_waits : Bool) → Scene
scene_in mail loader_waits target_waits = record { posted = mail.posted; happenings = mail.given; loader_waits = loader_waits; target_waits = target_waits }
