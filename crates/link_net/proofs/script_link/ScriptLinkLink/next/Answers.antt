use Rattle.std.proofs.Common.{subst}
use Rattle.exchange_trace.specs.Happenings.{happening_view}
use Rattle.link_net.specs.Links.{LinkGives, LinkState, scene_of}
use Rattle.link_net.proofs.Gives.{gives_turn, link_of}
use Rattle.link_net.proofs.script_link.ScriptLinkLink.next.Goals as goal

pub returns-clause-ok : goal.returns-clause-ok
returns-clause-ok c =
    let before = c.self.inside.mail in
    let lines = c.self.inside.lines.items in
    let turn = c.in-Ok.turn in
    let later = c.in-Ok.next in
    let said = rw c.as_slice-lines.ensures at c.in-Ok.ensures.turn in
    let gives = gives_turn lines before c.note_given.new.self c.self.inside.rest c.self.inside.next later turn c.args.loader_waits c.args.target_waits said c.note_given.ensures in
    subst (λ (s : LinkState). LinkGives s (link_of lines c.note_given.new.self turn.rest later) (scene_of s c.args.loader_waits c.args.target_waits) (happening_view turn.given)) c.self.view_is gives
