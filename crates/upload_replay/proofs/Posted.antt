-- Datagrams that are handed to the link one after the other.
use Rattle.std.proofs.Common.{◌≡◌, List, ◌++◌, sym, ap, ◌∙◌}
use Rattle.std.proofs.lemmas.List.{append_assoc}
use Rattle.exchange_trace.specs.Happenings.{DatagramView}
use Rattle.link_net.specs.Links.{LinkState}
use Rattle.upload_replay.specs.Turns.{IsPostedInPart, link_with}

-- the first of two were posted, and of the second some
pub parts_on : (first second : List DatagramView) (link there link_then : LinkState) → there ≡ link_with link first → IsPostedInPart second there link_then → IsPostedInPart (first ++ second) link link_then
parts_on first second link there link_then is part = record {
  sent = first ++ part.sent;
  left = part.left;
  parts = ap (λ (list : List DatagramView). first ++ list) part.parts ∙ sym (append_assoc first part.sent part.left);
  linked = part.linked ∙ (ap (λ (l : LinkState). link_with l part.sent) is ∙ ap (λ (list : List DatagramView). record { posted = list; given = link.given; plan = link.plan }) (append_assoc link.posted first part.sent));
}

-- of the first some, and none of the second
pub parts_of_first : (first second : List DatagramView) (link link_then : LinkState) → IsPostedInPart first link link_then → IsPostedInPart (first ++ second) link link_then
parts_of_first first second link link_then part = record {
  sent = part.sent;
  left = part.left ++ second;
  parts = ap (λ (list : List DatagramView). list ++ second) part.parts ∙ append_assoc part.sent part.left second;
  linked = part.linked;
}
