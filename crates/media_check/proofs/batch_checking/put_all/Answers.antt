use Rattle.std.specs.Prelude.{map}
use Rattle.std.proofs.lemmas.Result.{on_ok_weaker}
use Rattle.indexmap.specs.IndexSet.{contains}
use Rattle.load_base.specs.Bytes.{same_bytes}
use Rattle.media_lists.specs.Loads.{load_entry_view}
use Rattle.media_check.specs.Sets.{set_view}
use Rattle.media_check.proofs.BatchFindings.{batches_found}
use Rattle.media_check.proofs.batch_checking.put_all.Goals as goal

pub returns : goal.returns
returns c =
    on_ok_weaker c.put_entries.result
    (λ is. batches_found (set_view c.args.set.now) (map load_entry_view c.args.loads.now) (contains same_bytes c.in_ok-parts.parts) c.args.out.now.items c.put_list.new.out.items c.put_further.new.out.items
    c.put_entries.new.out.items c.in_ok-parts.ensures c.in_ok-put_list.ensures c.in_ok-put_further.ensures is) c.put_entries.ensures
