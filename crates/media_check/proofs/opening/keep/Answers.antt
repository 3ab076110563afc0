use Rattle.std.proofs.Common.{◌∙◌}
use Rattle.indexmap.proofs.CallerLemmas.{insert_entry-new}
use Rattle.load_base.specs.Bytes.{same_bytes}
use Rattle.media_check.proofs.opening.keep.Goals as goal

pub returns : goal.returns
returns c = c.in_ok-insert.ensures.entries ∙ insert_entry-new same_bytes c.args.kept.now c.args.name c.args.file c.requires
