use Rattle.std.proofs.Common.{List, ℕ, subst}
use Rattle.part_number.specs.PartNumber.{IsPartFault, maker_of, product_of}
use Rattle.part_number.proofs.Faults.{no_fault}
use Rattle.part_number.proofs.Texts.{size_of_part}
use Rattle.part_number.proofs.PartNumber.read.Goals as goal

pub returns-in_default-clause-each_is_read : goal.returns-in_default-clause-each_is_read
returns-in_default-clause-each_is_read c = λ maker product is.
    absurd (c.in_default.ensures.1 (size_of_part c.args.bytes.now maker product is))

pub returns-in_default-clause-only : goal.returns-in_default-clause-only
returns-in_default-clause-only c =
    returns-in_default-clause-each_is_read c (maker_of c.args.bytes.now) (product_of c.args.bytes.now)

pub returns-in-Some-clause-each_is_read : goal.returns-in-Some-clause-each_is_read
returns-in-Some-clause-each_is_read c = λ maker product is.
    let same = c.in-Ok.ensures.1.same in
    let fault = subst (λ (text : List ℕ). IsPartFault text c.in-Some.fault) same c.in-Some.ensures.first in
    absurd (no_fault c.args.bytes.now maker product c.in-Some.fault is fault)

pub returns-in-Some-clause-only : goal.returns-in-Some-clause-only
returns-in-Some-clause-only c =
    returns-in-Some-clause-each_is_read c (maker_of c.args.bytes.now) (product_of c.args.bytes.now)
