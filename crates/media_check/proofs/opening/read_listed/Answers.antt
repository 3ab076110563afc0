use Rattle.std.proofs.Common.{◌+◌, ◌≤◌, ◌∷◌, ◌++◌, [], List, ℕ, length, take, drop, ap, sym, subst, ◌∙◌, arith}
use Rattle.std.specs.Option.{ForSome}
use Rattle.std.proofs.lemmas.Result.{err_from_is_err_and}
use Rattle.media_lists.specs.Files.{file_name}
use Rattle.media_lists.specs.declared.lists.ListedFile.{ListedFile}
use Rattle.media_check.proofs.FindingLists.{mapped_more}
use Rattle.media_check.proofs.KeptFiles.{KeptSoFar, kept_more, kept_all, listed_unread, new_at, no_key}
use Rattle.media_check.proofs.Taken.{taken_more, split_at, taken_all}
use Rattle.media_check.proofs.opening.read_listed.Goals as goal

pub keep_next-requires-clause-new : goal.keep_next-requires-clause-new
keep_next-requires-clause-new g c =
    let entries = c.args.entries.now in
    let i = c.loop-entry.entry-index in
    no_key (take i entries) c.entry-item.result.name c.loop-entry.kept.entries (new_at [] entries i c.entry-item.result c.loop-entry-test.true c.entry-item.is c.requires) c.loop-entry.invariant.names

pub returns-in_err-total-clause-keeps : goal.returns-in_err-total-clause-keeps
returns-in_err-total-clause-keeps g c =
    let p = err_from_is_err_and c.from_residual.result c.from_residual.ensures.1 in
    let entries = c.args.entries.now in
    let i = c.loop-entry.entry-index in
    rw (p.1, p.2)
    (listed_unread (g.H.Host.files c.args.host.now) c.keep_next.new.kept (λ kept. kept.entries) c.args.folder.now (take i entries) (drop (i + 1) entries) entries c.entry-item.result c.loop-entry.total c.loop-entry.kept.entries
    c.keep_next.new.kept.entries c.in_err-total.field-0.0 c.loop-entry.invariant.small (split_at entries i c.entry-item.result c.loop-entry-test.true c.entry-item.is)
    c.loop-entry.invariant.so_far (rw c.loop-entry.invariant.files at c.in_err-total.ensures.keeps))

pub loop-entry-preserved : goal.loop-entry-preserved
loop-entry-preserved g c =
    let o = g.H.Host.files c.args.host.now in
    let folder = c.args.folder.now in
    let entries = c.args.entries.now in
    let entry = c.entry-item.result in
    let i = c.loop-entry.entry-index in
    record {
      files = c.in_ok-total.ensures.kept ∙ c.loop-entry.invariant.files;
      same = omega (arith, c.loop-entry.invariant.same, c.in_ok-total.ensures.cause.ok);
      small = c.in_ok-total.ensures.in_range.together;
      short = c.in_ok-total.ensures.in_range.short;
      names =
          c.in_ok-total.ensures.keys ∙ ap (λ (l : List (List ℕ)). l ++ entry.name ∷ []) c.loop-entry.invariant.names
          ∙ sym (mapped_more file_name entries i entry c.loop-entry-test.true c.entry-item.is);
      so_far =
          subst (λ (l : List ListedFile). ForSome o (KeptSoFar folder l c.in_ok-total.total c.keep_next.new.kept.entries)) (sym (taken_more entries i entry c.loop-entry-test.true c.entry-item.is))
          (kept_more o folder (take i entries) entry c.loop-entry.total c.in_ok-total.total c.loop-entry.kept.entries c.keep_next.new.kept.entries c.loop-entry.invariant.so_far
          (rw c.loop-entry.invariant.files at c.in_ok-total.ensures.keeps));
    }

pub returns-clause-keeps : goal.returns-clause-keeps
returns-clause-keeps g c =
    let all : length c.args.entries.now ≤ c.loop-entry.entry-index = omega arith in
    kept_all (g.H.Host.files c.args.host.now) c.loop-entry.kept (λ kept. kept.entries) c.args.folder.now c.args.entries.now c.loop-entry.total c.loop-entry.invariant.small
    (subst (λ (l : List ListedFile). ForSome (g.H.Host.files c.args.host.now) (KeptSoFar c.args.folder.now l c.loop-entry.total c.loop-entry.kept.entries))
    (taken_all c.args.entries.now c.loop-entry.entry-index all) c.loop-entry.invariant.so_far)
