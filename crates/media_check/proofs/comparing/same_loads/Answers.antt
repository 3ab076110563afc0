use Rattle.std.proofs.Common.{◌<◌, length, sym, ◌∙◌, arith}
use Rattle.std.specs.Prelude.{map}
use Rattle.std.proofs.lemmas.List.{length-map}
use Rattle.media_lists.specs.Loads.{load_entry_view}
use Rattle.media_check.specs.Findings.{same_load as same_load_of}
use Rattle.media_check.proofs.Same.{differs_at, same_more, seen_at}
use Rattle.media_check.proofs.comparing.same_loads.Goals as goal

pub returns-then-not-same_load : goal.returns-then-not-same_load
returns-then-not-same_load c =
    let one = c.index-one-index.result in
    let other = c.index-other-index.result in
    let i = c.loop-index.index in
    let within : i < length (map load_entry_view c.args.one.now) = omega (arith, length-map c.args.one.now load_entry_view) in
    let beside : i < length (map load_entry_view c.args.other.now) = omega (arith, length-map c.args.other.now load_entry_view) in
    differs_at same_load_of (map load_entry_view c.args.one.now) (map load_entry_view c.args.other.now) i (load_entry_view one) (load_entry_view other) within beside
    (seen_at load_entry_view c.args.one.now i one c.index-one-index.is) (seen_at load_entry_view c.args.other.now i other c.index-other-index.is) c.loop-index.invariant
    (sym c.same_load.ensures ∙ c.if-not-same_load.true)

pub loop-index-preserved : goal.loop-index-preserved
loop-index-preserved c =
    let one = c.index-one-index.result in
    let other = c.index-other-index.result in
    let i = c.loop-index.index in
    let within : i < length (map load_entry_view c.args.one.now) = omega (arith, length-map c.args.one.now load_entry_view) in
    let beside : i < length (map load_entry_view c.args.other.now) = omega (arith, length-map c.args.other.now load_entry_view) in
    same_more same_load_of (map load_entry_view c.args.one.now) (map load_entry_view c.args.other.now) i (load_entry_view one) (load_entry_view other) within beside
    (seen_at load_entry_view c.args.one.now i one c.index-one-index.is) (seen_at load_entry_view c.args.other.now i other c.index-other-index.is) c.loop-index.invariant
    (sym c.same_load.ensures ∙ c.if-not-same_load.false)
