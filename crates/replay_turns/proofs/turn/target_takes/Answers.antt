use Rattle.std.proofs.Common.{◌≡◌, None, Some, sym, ap, ◌∙◌, rules}
use Rattle.std.specs.Prelude.{option_map}
use Rattle.exchange_trace.specs.declared.trace.Side.TheVariants as sides
use Rattle.exchange_trace.specs.Happenings.{datagram_view, happening_view}
use Rattle.exchange_trace.specs.Logs.{event_for}
use Rattle.exchange_trace.specs.Posts.{numbered, posted_in}
use Rattle.replay_turns.proofs.Stepping.{keeps_here, learns_keeps}
use Rattle.replay_turns.proofs.turn.target_takes.Goals as goal

pub returns-in-Some-clause-takes : goal.returns-in-Some-clause-takes
returns-in-Some-clause-takes g c =
    let found : numbered (posted_in c.args.recording.now) c.in-ToTarget.number ≡ Some (datagram_view c.in-Some.datagram.now) = sym c.datagram.ensures ∙ ap (option_map (λ d. datagram_view d.now)) c.in-Some.is in
    rw (c.in-ToTarget.is, found) (λ accepts follows. c.target_gets.ensures.takes accepts follows)

pub returns-in-Loader-clause-takes : goal.returns-in-Loader-clause-takes
returns-in-Loader-clause-takes g c = rw (c.in-Injected.is, c.in-Loader.is) (λ accepts follows. c.target_gets-in-Loader.ensures.takes accepts follows)

pub returns-in-TickTarget-clause-takes : goal.returns-in-TickTarget-clause-takes
returns-in-TickTarget-clause-takes g c = rw c.in-TickTarget.is (λ accepts follows. c.on_tick.ensures.takes accepts)

pub returns-in-BlockSize-clause-takes : goal.returns-in-BlockSize-clause-takes
returns-in-BlockSize-clause-takes g c = rw (c.in-BlockSize.is, c.none-in-BlockSize.ensures) (λ accepts follows. c.ask_blocks.ensures.takes accepts)

pub returns-in-Some-clause-keeps : goal.returns-in-Some-clause-keeps
returns-in-Some-clause-keeps g c =
    let found : numbered (posted_in c.args.recording.now) c.in-ToTarget.number ≡ Some (datagram_view c.in-Some.datagram.now) = sym c.datagram.ensures ∙ ap (option_map (λ d. datagram_view d.now)) c.in-Some.is in
    rw (c.in-ToTarget.is, found) (λ accepts follows x has. c.target_gets.ensures.keeps accepts follows x has)

pub returns-in-Loader-clause-keeps : goal.returns-in-Loader-clause-keeps
returns-in-Loader-clause-keeps g c = rw (c.in-Injected.is, c.in-Loader.is) (λ accepts follows x has. c.target_gets-in-Loader.ensures.keeps accepts follows x has)

pub returns-in-TickTarget-clause-keeps : goal.returns-in-TickTarget-clause-keeps
returns-in-TickTarget-clause-keeps g c = rw c.in-TickTarget.is (λ accepts follows x has. c.on_tick.ensures.keeps_disk accepts x has.kept has.holds)

pub returns-in-BlockSize-clause-keeps : goal.returns-in-BlockSize-clause-keeps
returns-in-BlockSize-clause-keeps g c = rw c.in-BlockSize.is (λ accepts follows x has. learns_keeps accepts c.in-BlockSize.size c.args.target.now c.ask_blocks.new.self (g.K.Disk.state c.args.disk.now) x _ c.ask_blocks.ensures.store has)

pub returns-in-Power-clause-keeps : goal.returns-in-Power-clause-keeps
returns-in-Power-clause-keeps g c =
    let none : event_for sides.Target (posted_in c.args.recording.now) (happening_view c.args.happening.now) ≡ None = search rules in
    λ accepts follows x has. rw none (keeps_here c.args.target.now (g.K.Disk.state c.args.disk.now) x _ has)

pub returns-in-StartInfo-clause-keeps : goal.returns-in-StartInfo-clause-keeps
returns-in-StartInfo-clause-keeps g c =
    let none : event_for sides.Target (posted_in c.args.recording.now) (happening_view c.args.happening.now) ≡ None = search rules in
    λ accepts follows x has. rw none (keeps_here c.args.target.now (g.K.Disk.state c.args.disk.now) x _ has)

pub returns-in-ToLoader-clause-keeps : goal.returns-in-ToLoader-clause-keeps
returns-in-ToLoader-clause-keeps g c =
    let none : event_for sides.Target (posted_in c.args.recording.now) (happening_view c.args.happening.now) ≡ None = search rules in
    λ accepts follows x has. rw none (keeps_here c.args.target.now (g.K.Disk.state c.args.disk.now) x _ has)
