use Rattle.std.proofs.Common.{map}
use Rattle.media_lists.specs.Loads.{load_entry_view}
use Rattle.media_build.proofs.MemberLists.{loads_view}
use Rattle.media_build.proofs.lists.loads_list_with.Goals as goal

pub returns : goal.returns
returns c =
    loads_view c.args.lines.now c.args.set c.args.members (map load_entry_view c.in_ok-load_entries.field-0.items) c.new.result.items c.requires.recipe c.requires.start
    c.in_ok-load_entries.ensures c.new.ensures
