use Rattle.std.proofs.Common.{rules, ◌∙◌, sym}
use Rattle.transfer_end.specs.Calls.{posted, posts_view}
use Rattle.loader_machine.specs.Machine.{row_seen, start_view}
use Rattle.loader_machine.proofs.Closing.{starts, starts_over}
use Rattle.loader_machine.proofs.loader.Loader.start.Goals as goal

pub returns-then-not-has_port : goal.returns-then-not-has_port
returns-then-not-has_port c =
    starts_over c.args.self.now (start_view c.args.start) c.stop.new.self c.close.new.self c.end_at_once.new.self (posts_view c.none.result)
    c.stop.ensures c.in_ok-close.ensures (sym c.has_port.ensures ∙ search rules) c.in_ok-end_at_once.ensures c.none.ensures

pub returns : goal.returns
returns c =
    starts c.args.self.now (start_view c.args.start) (row_seen c.first-row.result) c.stop.new.self c.close.new.self c.ask.new.self c.open.new.self (posted c.in_ok-post.post) (posts_view c.of.result)
    c.stop.ensures c.in_ok-close.ensures (sym c.has_port.ensures ∙ search rules) c.first-row.ensures c.in_ok-post.ensures.makes c.in_ok-post.ensures.rest c.in_ok-open.ensures c.of.ensures
