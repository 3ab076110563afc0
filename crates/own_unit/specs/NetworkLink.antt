-- What a link over a network was posted, the oldest first, and gave, the newest first. It follows no script.
use Rattle.std.specs.Prelude.{map, reverse, None}
use Rattle.exchange_trace.specs.Happenings.{datagram_view, happening_view}
use Rattle.link_net.specs.Links.{LinkState}
use Rattle.own_unit.specs.declared.network_link.NetworkLink.{NetworkLink}

abbrev pub link_of : {N : Type 0} → NetworkLink N → LinkState
link_of link = record {
  posted = map (λ entry. datagram_view entry.0) link.posted.items;
  given = reverse (map (λ entry. happening_view entry.0) link.given.items);
  plan = None;
}
