use Rattle.std.proofs.Common.{◌∙◌}
use Rattle.recovery.proofs.Stores.{found_by_store, store_holds}
use Rattle.recovery.proofs.surveying.survey.Goals as goal

pub returns-clause-found : goal.returns-clause-found
returns-clause-found g c image told =
    let f = c.in_ok-found.found in
    found_by_store image f.identity f.manifest f.active f.other_is_open c.new-store.result c.new-store.ensures.active c.new-store.ensures.other (c.in_ok-found.ensures.found image told)

pub returns-clause-holds : goal.returns-clause-holds
returns-clause-holds g c image told =
    let found = returns-clause-found g c image told in
    let (s, by, is) = c.an_outline_is_filled.ensures image _ _ found.outline in
    let f = c.in_ok-found.found in
    (s, store_holds image (record { identity = f.identity; manifest = f.manifest; store = c.new-store.result }) found c.new-store.ensures.size (c.new-store.ensures.known ∙ c.in_ok-found.ensures.known) s by is, is)

pub returns-clause-fits : goal.returns-clause-fits
returns-clause-fits g c =
    c.a_store_goes_on_fitting.ensures.read_fits c.new-store.result c.args.disk.now _ c.in_ok-found.ensures.reads_disk.ok
    (c.an_idle_store_works.ensures.fits c.new-store.result c.args.disk.now c.new-store.ensures.idle c.requires
    (λ image told. let (s, holds, is) = returns-clause-holds g c image told in (s, holds)))

pub returns-clause-works : goal.returns-clause-works
returns-clause-works g c settled =
    let fits = c.an_idle_store_works.ensures.fits c.new-store.result c.args.disk.now c.new-store.ensures.idle c.requires
    (λ image told. let (s, holds, is) = returns-clause-holds g c image told in (s, holds)) in
    c.a_store_goes_on_fitting.ensures.read_works c.new-store.result c.args.disk.now _ c.in_ok-found.ensures.reads_disk.ok c.in_ok-found.ensures.reads_disk.only_reads.now
    (c.an_idle_store_works.ensures.works c.new-store.result c.args.disk.now c.new-store.ensures.idle settled fits)
