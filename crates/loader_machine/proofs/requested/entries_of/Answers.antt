use Rattle.std.proofs.Common.{◌≡◌, List, [], ◌∷◌, map, refl, ap, ◌∙◌}
use Rattle.load_protocol_files.specs.declared.lur.Wanted.{Wanted}
use Rattle.media_lists.specs.declared.lists.LoadEntry.{LoadEntry}
use Rattle.media_lists.specs.Loads.{load_entry_view}
use Rattle.loader_machine.specs.Machine.{loads_in, wanted_entry}
use Rattle.loader_machine.proofs.requested.entries_of.Goals as goal

abbrev wanted : LoadEntry → Wanted
wanted e = wanted_entry (load_entry_view e)

both : (entries : List LoadEntry) → map wanted entries ≡ map wanted_entry (map load_entry_view entries)
both [] = refl
both (entry ∷ entries) = ap (λ later. wanted entry ∷ later) (both entries)

pub returns-in-Some : goal.returns-in-Some
returns-in-Some c = ap (map wanted) c.as_slice.ensures ∙ both c.in-Some.list.now.loads.items ∙ ap loads_in c.in-Some.ensures
