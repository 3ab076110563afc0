-- A link that follows a script gives what that gives next.
use Rattle.std.proofs.Common.{◌≡◌, ℕ, List, Bool, Some, drop, sym, ap, subst}
use Rattle.exchange_trace.specs.Happenings.{happening_view}
use Rattle.exchange_trace.specs.Posts.{IsHonest}
use Rattle.exchange_trace.specs.Following as following
use Rattle.exchange_trace.proofs.FollowingLemmas.{turn_is_honest}
use Rattle.link_net.specs.declared.line.Line.{Line}
use Rattle.link_net.specs.declared.turn.Rest.{Rest}
use Rattle.link_net.specs.declared.turn.Turn.{Turn}
use Rattle.link_net.specs.Lines.{line_views}
use Rattle.link_net.specs.Links.{LinkGives, LinkState}
use Rattle.link_net.specs.Mail.{MailView, scene_in, with_given}
use Rattle.link_net.specs.Plans.{plan_at, turn_view}

abbrev pub link_of : List Line → MailView → Rest → ℕ → LinkState
link_of lines mail rest next = record { posted = mail.posted; given = mail.given; plan = Some (plan_at rest lines next) }

pub gives_turn : (lines : List Line) (before after : MailView) (rest : Rest) (next later : ℕ) (t : Turn) (loader target : Bool)
    → turn_view (line_views (drop later lines)) t ≡ following.next_turn (scene_in before loader target) (plan_at rest lines next)
    → after ≡ with_given before (happening_view t.given)
    → LinkGives (link_of lines before rest next) (link_of lines after t.rest later) (scene_in before loader target) (happening_view t.given)
gives_turn lines before after rest next later t loader target said kept =
    let given = ap (λ (x : following.Turn). x.given) said in
    record {
      posted = ap (λ (m : MailView). m.posted) kept;
      given = ap (λ (m : MailView). m.given) kept;
      honest = subst (λ x. IsHonest before.posted x) (sym given) (turn_is_honest (scene_in before loader target) (plan_at rest lines next));
      follows = (given, ap (λ (x : following.Turn). Some x.plan) said);
    }
