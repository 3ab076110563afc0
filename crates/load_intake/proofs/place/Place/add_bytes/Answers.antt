use Rattle.std.proofs.Common.{ap, ◌∙◌}
use Rattle.load_intake.specs.Places.{arriving_at, open_load}
use Rattle.load_intake.proofs.Filling.{file_brings_more, header_brings_more}
use Rattle.load_intake.proofs.place.Place.add_bytes.Goals as goal

pub returns-in_ok-take-in-Header-clause-brings : goal.returns-in_ok-take-in-Header-clause-brings
returns-in_ok-take-in-Header-clause-brings g c = λ s u arrived current kept installs.
    header_brings_more c.args.store.now (g.K.Disk.state c.args.disk.now) s u arrived c.args.bytes.now _ (current ∙ ap open_load c.in-Header.is) installs

pub returns-in-File-clause-brings : goal.returns-in-File-clause-brings
returns-in-File-clause-brings g c = λ s u arrived current kept installs.
    file_brings_more c.args.store.now (g.K.Disk.state c.args.disk.now) c.write.new.store (g.K.Disk.state c.write.new.disk) s u arrived c.args.bytes.now _ c.write.result (kept ∙ ap arriving_at c.in-File.is) installs (λ given is. c.write.ensures.gives s given is)
