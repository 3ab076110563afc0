use Rattle.media_lists.proofs.Fits.{files_short}
use Rattle.media_lists.proofs.fitting.files_meet_limits.Goals as goal

pub returns-then-are_files : goal.returns-then-are_files
returns-then-are_files c =
    let each = c.are_files.ensures.0 c.if-are_files.true in (
      λ new. record { count = c.if-files-gt-MOST_ENTRIES.false; each = each; distances = files_short c.args.members c.args.files.now each; names = c.are_new.ensures.0 new },
      λ all. c.are_new.ensures.1 all.names,
    )
