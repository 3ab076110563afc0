use Rattle.std.proofs.Common.{sym, ◌∙◌}
use Rattle.load_header.proofs.Limits.{all_viewed}
use Rattle.load_header.proofs.measuring.few_positions_everywhere.Goals as goal

pub returns : goal.returns
returns c = c.few_positions_each.ensures ∙ sym (all_viewed c.args.list.now)
