use Rattle.std.proofs.Common.{List, subst}
use Rattle.std.specs.Prelude.{map}
use Rattle.media_build.specs.NoFindings.{body_view}
use Rattle.media_build.specs.Parts.{AreFiles, statements}
use Rattle.media_build.specs.declared.statements.Statement.{Statement}
use Rattle.media_build.proofs.AddedLoads.{still_fits, load_added, load_taken}
use Rattle.media_build.proofs.bodies.read_load.Goals as goal

pub add_load-requires-clause-header : goal.add_load-requires-clause-header
add_load-requires-clause-header g c =
    let files = c.in_ok-files.files in
    still_fits c.header_laws.ensures.still_header c.args.load.now files (subst (λ (own : List Statement). AreFiles own files) c.own.ensures c.in_ok-files.ensures.reads.are) c.requires.header

pub returns-clause-takes : goal.returns-clause-takes
returns-clause-takes g c =
    load_taken (g.H.Host.files c.args.host.now) c.args.load.now (statements c.own.result.now) c.args.others c.in_ok-files.total c.in_ok-files.files (map body_view c.args.bodies.items)
    c.in_ok-bodies.bodies c.own.ensures c.in_ok-bodies.ensures c.in_ok-files.ensures.takes

pub returns-clause-adds : goal.returns-clause-adds
returns-clause-adds g c =
    load_added c.header_laws.ensures.still_header c.header_laws.ensures.same_size c.header_laws.ensures.length c.args.load.now (statements c.own.result.now) c.args.others c.in_ok-files.total
    c.in_ok-files.files (map body_view c.args.bodies.items) (map body_view c.in_ok-bodies.bodies.items) c.requires.header c.own.ensures c.in_ok-files.ensures.reads c.in_ok-bodies.ensures
