use Rattle.std.proofs.Common.{◌+◌, ◌≤◌, List, ℕ, length, take, drop, sym, subst, ◌∙◌, arith}
use Rattle.std.specs.Option.{ForSome}
use Rattle.std.proofs.lemmas.Result.{err_from_is_err_and}
use Rattle.media_build.specs.Building.{ReadsFiles, TakesFiles}
use Rattle.media_build.specs.Parts.{LoadFilesView, statements}
use Rattle.media_build.specs.declared.statements.Statement.{Statement}
use Rattle.media_build.proofs.OwnLines.{statements_more}
use Rattle.media_build.proofs.ReadLines.{SourcesSoFar, all_lines, lines_at, files_more, sources_more, sources_stop, sources_all}
use Rattle.media_build.proofs.sources.read_files.Goals as goal

pub returns-in_err-read-clause-takes : goal.returns-in_err-read-clause-takes
returns-in_err-read-clause-takes g c =
    let p = err_from_is_err_and c.from_residual.result c.from_residual.ensures.1 in
    let own = c.args.own.now in
    let i = c.loop-line.line-index in
    let line = c.line-item.result in
    rw (p.1, p.2)
    (sources_stop {T = LoadFilesView × ℕ} (g.H.Host.files c.args.host.now) (statements (take i own)) (statements own) (statements (drop (i + 1) own)) line.statement c.args.others c.loop-line.total c.loop-line.files
    (TakesFiles (statements own) c.args.others) c.in_err-read.field-0.0 (lines_at own i line c.loop-line-test.true c.line-item.is)
    c.loop-line.invariant.so_far (rw c.loop-line.invariant.files at c.in_err-read.ensures.takes))

pub loop-line-preserved : goal.loop-line-preserved
loop-line-preserved g c =
    let o = g.H.Host.files c.args.host.now in
    let own = c.args.own.now in
    let i = c.loop-line.line-index in
    let line = c.line-item.result in
    let read = c.in_ok-read.read in
    let more = statements_more own i line c.loop-line-test.true c.line-item.is in
    record {
      files = c.in_ok-read.ensures.kept ∙ c.loop-line.invariant.files;
      same = omega (arith, c.loop-line.invariant.same, c.in_ok-read.ensures.cause.ok);
      reads = subst (λ (l : List Statement). ReadsFiles l c.args.others read.0 read.1) (sym more)
          (files_more (statements (take i own)) line.statement c.args.others c.loop-line.total read.1 c.loop-line.files read.0 c.loop-line.invariant.reads c.in_ok-read.ensures.reads);
      so_far = subst (λ (l : List Statement). ForSome o (SourcesSoFar l c.args.others read.0 read.1)) (sym more)
          (sources_more o (statements (take i own)) line.statement c.args.others c.loop-line.total read.1 c.loop-line.files read.0 c.loop-line.invariant.so_far
          (rw c.loop-line.invariant.files at c.in_ok-read.ensures.takes) c.in_ok-read.ensures.reads);
    }

pub returns-clause-takes : goal.returns-clause-takes
returns-clause-takes g c =
    let all : length c.args.own.now ≤ c.loop-line.line-index = omega arith in
    sources_all (g.H.Host.files c.args.host.now) (statements (take c.loop-line.line-index c.args.own.now)) (statements c.args.own.now) c.args.others c.loop-line.total c.loop-line.files
    (all_lines c.args.own.now c.loop-line.line-index all) c.loop-line.invariant.so_far
