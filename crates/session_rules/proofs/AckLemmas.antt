-- Proofs that what both sides acknowledge had come.
use Rattle.std.proofs.Common.{ℕ, List, [], ◌∷◌, sym, subst}
use Rattle.std.specs.List.{AllByRecursion}
use Rattle.disk_layout.specs.Holds.{StandingView}
use Rattle.exchange_trace.specs.declared.trace.Side.{Side}
use Rattle.exchange_trace.specs.declared.trace.Side.TheVariants as sides
use Rattle.exchange_trace.specs.Happenings.{DatagramView}
use Rattle.exchange_trace.specs.Logs.{Event}
use Rattle.transfer_end.proofs.AckLemmas.{last_stays_acked, posts_ack_what_came}
use Rattle.transfer_end.specs.Came.{AcksWhatCame, LastAcks, PacketsCame}
use Rattle.transfer_end.specs.Moves.{readings_after}
use Rattle.transfer_end.specs.Placed.{IsPlaced}
use Rattle.transfer_end.specs.Readings.{Reading}
use Rattle.transfer_end.specs.Views.{end_view}
use Rattle.accept_rules.specs.Permissions.{Accepts}
use Rattle.session_rules.proofs.HeardLemmas.{loader_moves_heard, loader_takes_what_came, target_moves_heard, target_takes_what_came}
use Rattle.session_rules.specs.Laws.{LoaderAcksWhatCame, TargetAcksWhatCame}
use Rattle.session_rules.specs.Loader as loader
use Rattle.session_rules.proofs.LoaderLemmas.{end_stays as loader_end_stays}
use Rattle.session_rules.specs.LoaderLog.{loader_reading, loader_view}
use Rattle.session_rules.specs.MediaFiles.{Media}
use Rattle.session_rules.proofs.PlacedLemmas.{loader_posts_placed, target_posts_placed}
use Rattle.session_rules.specs.Target as target
use Rattle.session_rules.proofs.TargetLemmas.{end_stays as target_end_stays}
use Rattle.session_rules.specs.TargetLog.{TargetReading, target_extended, target_reading, target_view}

all_ack : (side : Side) (log : List Event) (r : Reading) (e : Event) (posts : List DatagramView) → PacketsCame log r → LastAcks side log r.last
    → AllByRecursion (IsPlaced side (end_view r) e) posts → AllByRecursion (AcksWhatCame side (e ∷ log)) posts
all_ack side log r e [] packets last placed = tt
all_ack side log r e (d ∷ posts) packets last (one, all) = (posts_ack_what_came side log r e d packets last one, all_ack side log r e posts packets last all)

-- ---- the loader

pub loader_last : (media : Media) (log : List Event) → LastAcks sides.Loader log (loader_reading media log).end.last
loader_last media [] = tt
loader_last media (e ∷ log) =
    let r = loader_reading media log in
    let d = loader.loader_decision media (loader_view r) e in
    subst (λ (x : Reading). LastAcks sides.Loader (e ∷ log) x.last) (sym (loader_end_stays (readings_after sides.Loader r.end d.moves) r d.change))
    (last_stays_acked sides.Loader e log r.end d.moves (loader_moves_heard media (loader_view r) e) (loader_takes_what_came media log).0 (loader_last media log))

pub loader_acks_what_came : LoaderAcksWhatCame
loader_acks_what_came media log e =
    let r = loader_reading media log in
    all_ack sides.Loader log r.end e (loader.loader_posts media (loader_view r) e) (loader_takes_what_came media log).0 (loader_last media log) (loader_posts_placed media (loader_view r) e)

-- ---- the target

pub target_extended_last : (accepts : Accepts) (log : List Event) (r : TargetReading) (e : Event) → PacketsCame log r.end → LastAcks sides.Target log r.end.last → LastAcks sides.Target (e ∷ log) (target_extended accepts r e).end.last
target_extended_last accepts log r e packets last =
    let d = target.target_decision accepts (target_view r) e in
    subst (λ (x : Reading). LastAcks sides.Target (e ∷ log) x.last) (sym (target_end_stays accepts (readings_after sides.Target r.end d.moves) r d.change))
    (last_stays_acked sides.Target e log r.end d.moves (target_moves_heard accepts (target_view r) e) packets last)

pub target_extended_acks : (accepts : Accepts) (log : List Event) (r : TargetReading) (e : Event) → PacketsCame log r.end → LastAcks sides.Target log r.end.last
    → AllByRecursion (AcksWhatCame sides.Target (e ∷ log)) (target.target_posts accepts (target_view r) e)
target_extended_acks accepts log r e packets last =
    all_ack sides.Target log r.end e (target.target_posts accepts (target_view r) e) packets last (target_posts_placed accepts (target_view r) e)

target_last : (accepts : Accepts) (first_port : ℕ) (active : StandingView) (log : List Event) → LastAcks sides.Target log (target_reading accepts first_port active log).end.last
target_last accepts first_port active [] = tt
target_last accepts first_port active (e ∷ log) =
    target_extended_last accepts log (target_reading accepts first_port active log) e (target_takes_what_came accepts first_port active log).0 (target_last accepts first_port active log)

pub target_acks_what_came : TargetAcksWhatCame
target_acks_what_came accepts first_port active log e =
    target_extended_acks accepts log (target_reading accepts first_port active log) e (target_takes_what_came accepts first_port active log).0 (target_last accepts first_port active log)
