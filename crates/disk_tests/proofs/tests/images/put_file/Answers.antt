use Rattle.disk_tests.proofs.tests.images.put_file.Goals as goal

pub returns-clause-goes_on : goal.returns-clause-goes_on
returns-clause-goes_on c progress is = c.end_file.ensures.filling _ (c.in_ok-append-2.ensures.appends.filling _ (c.in_ok-append.ensures.appends.filling progress is))
