use Rattle.std.proofs.Common.{◌+◌, List, Ok, Err, refl, sym, subst, arith}
use Rattle.std.specs.Option.{ForSome}
use Rattle.std.proofs.lemmas.Result.{err_from_is_err_and}
use Rattle.media_lists.specs.Loads.{loads_list_view}
use Rattle.media_build.specs.Accepted.{IsRecipe}
use Rattle.media_build.specs.Building.{AnswersSizes, Builds}
use Rattle.media_build.specs.declared.statements.RecipeLine.{RecipeLine}
use Rattle.media_build.proofs.BuildAnswers.{sizes_are_right, later_fault, fixed_small, fixed_is, all_are, each_loads_list, each_files_list, each_batches_list, source_refused, set_built, built_is_small}
use Rattle.media_build.proofs.building.build.Goals as goal

-- all bytes that a recipe decides
pub overflow_add-headers : goal.overflow_add-headers
overflow_add-headers g c =
    let lines = c.lines-lines.result.now in
    let recipe = subst IsRecipe (sym c.lines-lines.ensures.lines) c.lines-lines.ensures.accepted in
    let small = fixed_small lines c.in_ok-headers.headers c.in_ok-batches.batches.1 recipe c.in_ok-headers.ensures.0 c.in_ok-headers.ensures.1 c.in_ok-batches.ensures.length in
    omega (arith, small)

pub read_bodies-requires-clause-others : goal.read_bodies-requires-clause-others
read_bodies-requires-clause-others g c =
    let lines = c.lines-lines.result.now in
    let recipe = subst IsRecipe (sym c.lines-lines.ensures.lines) c.lines-lines.ensures.accepted in
    fixed_small lines c.in_ok-headers.headers c.in_ok-batches.batches.1 recipe c.in_ok-headers.ensures.0 c.in_ok-headers.ensures.1 c.in_ok-batches.ensures.length

pub returns-in_err-bodies-clause-sizes : goal.returns-in_err-bodies-clause-sizes
returns-in_err-bodies-clause-sizes g c =
    let p = err_from_is_err_and c.from_residual-in_err-bodies.result c.from_residual-in_err-bodies.ensures.1 in
    let lines = c.lines-lines.result.now in
    let recipe = subst IsRecipe (sym c.lines-lines.ensures.lines) c.lines-lines.ensures.accepted in
    let sizes = sizes_are_right lines recipe c.in_ok-headers.ensures.0 c.in_ok-loads.ensures.1 in
    rw (p.1, p.2)
    (subst (λ (l : List RecipeLine). AnswersSizes l (Err c.in_err-bodies.field-0.0)) c.lines-lines.ensures.lines
    (later_fault lines c.in_err-bodies.field-0.0 sizes c.in_err-bodies.ensures.cause.after))

pub returns-in_err-bodies-clause-builds : goal.returns-in_err-bodies-clause-builds
returns-in_err-bodies-clause-builds g c =
    let p = err_from_is_err_and c.from_residual-in_err-bodies.result c.from_residual-in_err-bodies.ensures.1 in
    let lines = c.lines-lines.result.now in
    rw (p.1, p.2)
    (subst (λ (l : List RecipeLine). ForSome (g.H.Host.files c.args.host.now) (Builds l (Err c.in_err-bodies.field-0.0))) c.lines-lines.ensures.lines
    (source_refused (g.H.Host.files c.args.host.now) lines (c.in_ok-headers.headers + c.in_ok-batches.batches.1) c.in_err-bodies.field-0.0
    (fixed_is lines (c.in_ok-headers.headers + c.in_ok-batches.batches.1) c.in_ok-headers.headers c.in_ok-batches.batches.1 refl c.in_ok-headers.ensures.1 c.in_ok-batches.ensures.length)
    c.in_err-bodies.ensures.takes))

pub with_lists-requires-clause-loads : goal.with_lists-requires-clause-loads
with_lists-requires-clause-loads g c =
    let lines = c.lines-lines.result.now in
    let recipe = subst IsRecipe (sym c.lines-lines.ensures.lines) c.lines-lines.ensures.accepted in
    each_loads_list lines (loads_list_view c.in_ok-loads.loads) recipe c.in_ok-headers.ensures.0 c.in_ok-loads.ensures.0 c.in_ok-loads.ensures.1

pub with_lists-requires-clause-files : goal.with_lists-requires-clause-files
with_lists-requires-clause-files g c =
    let lines = c.lines-lines.result.now in
    let recipe = subst IsRecipe (sym c.lines-lines.ensures.lines) c.lines-lines.ensures.accepted in
    each_files_list lines (loads_list_view c.in_ok-loads.loads) c.in_ok-bodies-2.bodies.items recipe c.in_ok-loads.ensures.0
    (all_are lines (c.in_ok-headers.headers + c.in_ok-batches.batches.1) c.in_ok-headers.headers c.in_ok-batches.batches.1 c.in_ok-bodies.bodies.items c.in_ok-batches.batches.0.items
    c.in_ok-bodies-2.bodies.items recipe refl c.in_ok-headers.ensures.1 c.in_ok-batches.ensures.length c.in_ok-bodies-2.ensures c.in_ok-bodies.ensures.are c.in_ok-batches.ensures.files)

pub with_lists-requires-clause-batches : goal.with_lists-requires-clause-batches
with_lists-requires-clause-batches g c =
    let lines = c.lines-lines.result.now in
    let recipe = subst IsRecipe (sym c.lines-lines.ensures.lines) c.lines-lines.ensures.accepted in
    each_batches_list lines (loads_list_view c.in_ok-loads.loads) recipe c.in_ok-loads.ensures.0

pub returns-clause-sizes : goal.returns-clause-sizes
returns-clause-sizes g c =
    let lines = c.lines-lines.result.now in
    let recipe = subst IsRecipe (sym c.lines-lines.ensures.lines) c.lines-lines.ensures.accepted in
    subst (λ (l : List RecipeLine). AnswersSizes l (Ok c.in_ok-with_lists.field-0)) c.lines-lines.ensures.lines (sizes_are_right lines recipe c.in_ok-headers.ensures.0 c.in_ok-loads.ensures.1)

pub returns-clause-builds : goal.returns-clause-builds
returns-clause-builds g c =
    let lines = c.lines-lines.result.now in
    let built = c.in_ok-with_lists.field-0 in
    subst (λ (l : List RecipeLine). ForSome (g.H.Host.files c.args.host.now) (Builds l (Ok built))) c.lines-lines.ensures.lines
    (set_built (g.H.Host.files c.args.host.now) lines (c.in_ok-headers.headers + c.in_ok-batches.batches.1) (loads_list_view c.in_ok-loads.loads) c.in_ok-bodies.bodies.items
    c.in_ok-batches.batches.0.items c.in_ok-bodies-2.bodies.items built c.in_ok-loads.ensures.0
    (fixed_is lines (c.in_ok-headers.headers + c.in_ok-batches.batches.1) c.in_ok-headers.headers c.in_ok-batches.batches.1 refl c.in_ok-headers.ensures.1 c.in_ok-batches.ensures.length)
    c.in_ok-bodies-2.ensures c.in_ok-batches.ensures.files c.in_ok-with_lists.ensures c.in_ok-bodies.ensures.takes)

pub returns-clause-small : goal.returns-clause-small
returns-clause-small g c =
    let lines = c.lines-lines.result.now in
    let recipe = subst IsRecipe (sym c.lines-lines.ensures.lines) c.lines-lines.ensures.accepted in
    built_is_small lines (loads_list_view c.in_ok-loads.loads) c.in_ok-bodies-2.bodies.items c.in_ok-with_lists.field-0
    (all_are lines (c.in_ok-headers.headers + c.in_ok-batches.batches.1) c.in_ok-headers.headers c.in_ok-batches.batches.1 c.in_ok-bodies.bodies.items c.in_ok-batches.batches.0.items
    c.in_ok-bodies-2.bodies.items recipe refl c.in_ok-headers.ensures.1 c.in_ok-batches.ensures.length c.in_ok-bodies-2.ensures c.in_ok-bodies.ensures.are c.in_ok-batches.ensures.files)
    c.in_ok-with_lists.ensures

pub returns-clause-sound : goal.returns-clause-sound
returns-clause-sound g c =
    let built = c.in_ok-with_lists.field-0 in
    λ files told. c.what_is_built_has_no_finding.ensures c.args.recipe.now built files c.lines-lines.ensures.accepted (returns-clause-sizes g c) (returns-clause-builds g c files told)
