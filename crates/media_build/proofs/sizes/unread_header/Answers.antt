use Rattle.std.proofs.Common.{sym, subst}
use Rattle.std.specs.Prelude.{All}
use Rattle.media_build.specs.Parts.{IsShortSource, LoadFilesView}
use Rattle.media_build.proofs.HeaderLimits.{unread_short}
use Rattle.media_build.proofs.sizes.unread_header.Goals as goal

pub header_of-requires-clause-data_files : goal.header_of-requires-clause-data_files
header_of-requires-clause-data_files c = subst (λ (files : LoadFilesView). All IsShortSource files.data_files) (sym c.in_ok-files.ensures) (unread_short _)

pub header_of-requires-clause-support_files : goal.header_of-requires-clause-support_files
header_of-requires-clause-support_files c = subst (λ (files : LoadFilesView). All IsShortSource files.support_files) (sym c.in_ok-files.ensures) (unread_short _)
