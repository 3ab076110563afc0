use Rattle.std.proofs.Common.{length, sym, ◌∙◌, arith}
use Rattle.std.proofs.lemmas.Bool.{eqb-true}
use Rattle.media_lists.specs.Paths.{path_fault_of}
use Rattle.media_lists.proofs.PathEnds.{begins, begins_empty, begins_wrong, at_backslash, at_empty_name, at_name_byte, at_other_byte, at_end, ends_in_name, are_some, are_not_none}
use Rattle.media_lists.proofs.paths.path_fault.Goals as goal
use Rattle.media_lists.proofs.paths.path_fault.Goals.{then-is_empty-via-then-is_empty, then-is_empty-via-else-is_empty+then-bytes-ne92, then-byte-eq92+else-size-eq0, else-byte-eq92+else-not-name_goes_on}

pub returns-then-is_empty : goal.returns-then-is_empty
returns-then-is_empty c =
    elim c.then-is_empty.branch [
      | then-is_empty-via-then-is_empty w ↦ sym (begins_empty c.args.bytes.now (eqb-true (length c.args.bytes.now) 0 (sym c.is_empty.ensures ∙ w.if-is_empty.true)))
      | then-is_empty-via-else-is_empty+then-bytes-ne92 w ↦ sym (begins_wrong c.args.bytes.now w.if-bytes-ne92.true)
    ]

pub loop-offset-init : goal.loop-offset-init
loop-offset-init c =
    let some = are_some (length c.args.bytes.now) c.is_empty.result c.is_empty.ensures c.if-is_empty.false in
    record { few = omega arith; within = some; yet = begins c.args.bytes.now (are_not_none (length c.args.bytes.now) some) c.if-bytes-ne92.false }

pub returns-then-size-eq0 : goal.returns-then-size-eq0
returns-then-size-eq0 c =
    at_empty_name c.args.bytes.now c.loop-offset.offset c.loop-offset.names c.loop-offset.size (path_fault_of c.args.bytes.now) c.loop-offset.invariant.yet
    (omega (arith, c.loop-offset-test.true)) c.if-byte-eq92.true c.if-size-eq0.true

pub returns-then-not-name_goes_on : goal.returns-then-not-name_goes_on
returns-then-not-name_goes_on c =
    at_other_byte c.args.bytes.now c.loop-offset.offset c.loop-offset.names c.loop-offset.size (path_fault_of c.args.bytes.now) c.loop-offset.invariant.yet
    (omega (arith, c.loop-offset-test.true)) c.if-byte-eq92.false (sym c.name_goes_on.ensures ∙ c.if-not-name_goes_on.true)

pub loop-offset-preserved : goal.loop-offset-preserved
loop-offset-preserved c =
    let within = c.loop-offset-test.true in
    elim c.if-byte-eq92.branch [
      | then-byte-eq92+else-size-eq0 w ↦ record {
        few = omega (arith, w.names-is, w.size-is, c.loop-offset.invariant.few, w.if-size-eq0.false);
        within = omega (arith, within);
        yet = rw (w.names-is, w.size-is) (at_backslash c.args.bytes.now c.loop-offset.offset c.loop-offset.names c.loop-offset.size (path_fault_of c.args.bytes.now) c.loop-offset.invariant.yet
            (omega (arith, within)) w.if-byte-eq92.true w.if-size-eq0.false);
      }
      | else-byte-eq92+else-not-name_goes_on w ↦ record {
        few = omega (arith, w.names-is, w.size-is, c.loop-offset.invariant.few);
        within = omega (arith, within);
        yet = rw (w.names-is, w.size-is) (at_name_byte c.args.bytes.now c.loop-offset.offset c.loop-offset.names c.loop-offset.size (path_fault_of c.args.bytes.now) c.loop-offset.invariant.yet
            (omega (arith, within)) w.if-byte-eq92.false (sym w.name_goes_on.ensures ∙ w.if-not-name_goes_on.false));
      }
    ]

pub returns-then-size-eq0-2 : goal.returns-then-size-eq0-2
returns-then-size-eq0-2 c =
    at_end c.args.bytes.now c.loop-offset.offset c.loop-offset.names c.loop-offset.size (path_fault_of c.args.bytes.now) c.loop-offset.invariant.yet
    (omega (arith, c.loop-offset-test.false)) c.if-size-eq0-2.true

pub returns-else-size-eq0-2 : goal.returns-else-size-eq0-2
returns-else-size-eq0-2 c =
    ends_in_name c.args.bytes.now c.loop-offset.offset c.loop-offset.names c.loop-offset.size (path_fault_of c.args.bytes.now) c.loop-offset.invariant.yet
    (omega (arith, c.loop-offset-test.false)) c.loop-offset.invariant.within c.if-size-eq0-2.false
