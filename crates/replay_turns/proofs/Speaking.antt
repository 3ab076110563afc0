-- One end at most posts where something happens.
use Rattle.std.proofs.Common.{◌≡◌, ◌⊎◌, inl, inr, List, [], refl}
use Rattle.exchange_trace.specs.declared.trace.Side.{Side}
use Rattle.exchange_trace.specs.declared.trace.Side.TheVariants as sides
use Rattle.exchange_trace.specs.Happenings.{DatagramView, HappeningView, Booted, Delivered, Ended, Info_started, Injected, Lost, Power_cut, Size_told, Ticked, Upload_started}
use Rattle.exchange_trace.specs.Logs.{event_for}
use Rattle.loader_machine.specs.Machine.{LoaderState}
use Rattle.replay_turns.specs.Targets.{TargetSpeaks}
use Rattle.replay_turns.specs.Turns.{LoaderTakes}

speaks_or_not : (h : HappeningView) → TargetSpeaks h ⊎ (TargetSpeaks h → ⊥)
speaks_or_not (Delivered sides.Loader n) = inr (λ none. none)
speaks_or_not (Delivered sides.Target n) = inl tt
speaks_or_not (Lost n) = inr (λ none. none)
speaks_or_not (Injected d) = by d.side refl
  where
    by : (side : Side) → d.side ≡ side → (d.side ≡ sides.Loader) ⊎ ((d.side ≡ sides.Loader) → ⊥)
    by sides.Loader is = inl is
    by sides.Target is = inr (λ other. cc)
speaks_or_not (Ticked sides.Loader) = inr (λ none. none)
speaks_or_not (Ticked sides.Target) = inl tt
speaks_or_not (Size_told size) = inr (λ none. none)
speaks_or_not (Power_cut calls pick) = inr (λ none. none)
speaks_or_not Booted = inr (λ none. none)
speaks_or_not (Info_started hw pos) = inr (λ none. none)
speaks_or_not (Upload_started hw pos parts) = inr (λ none. none)
speaks_or_not Ended = inr (λ none. none)

loader_silent : (h : HappeningView) (posted : List DatagramView) (before after : LoaderState) (sent : List DatagramView) → TargetSpeaks h → LoaderTakes (event_for sides.Loader posted h) before after sent → sent ≡ []
loader_silent (Delivered sides.Loader n) posted before after sent speaks takes = absurd speaks
loader_silent (Delivered sides.Target n) posted before after sent speaks takes = takes.1
loader_silent (Lost n) posted before after sent speaks takes = absurd speaks
loader_silent (Injected d) posted before after sent speaks takes = (rw speaks at takes).1
loader_silent (Ticked sides.Loader) posted before after sent speaks takes = absurd speaks
loader_silent (Ticked sides.Target) posted before after sent speaks takes = takes.1
loader_silent (Size_told size) posted before after sent speaks takes = absurd speaks
loader_silent (Power_cut calls pick) posted before after sent speaks takes = absurd speaks
loader_silent Booted posted before after sent speaks takes = absurd speaks
loader_silent (Info_started hw pos) posted before after sent speaks takes = absurd speaks
loader_silent (Upload_started hw pos parts) posted before after sent speaks takes = absurd speaks
loader_silent Ended posted before after sent speaks takes = absurd speaks

pub one_is_silent : (h : HappeningView) (posted : List DatagramView) (before after : LoaderState) (first second : List DatagramView) → LoaderTakes (event_for sides.Loader posted h) before after first
    → ((TargetSpeaks h → ⊥) → second ≡ []) → (first ≡ []) ⊎ (second ≡ [])
one_is_silent h posted before after first second takes silent = elim (speaks_or_not h) [
  | inl speaks ↦ inl (loader_silent h posted before after first speaks takes)
  | inr not ↦ inr (silent not)
]
