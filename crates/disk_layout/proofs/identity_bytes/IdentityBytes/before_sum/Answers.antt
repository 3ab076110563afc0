use Rattle.std.proofs.Common.{◌≡◌, ◌≤◌, length, ap, arith}
use Rattle.disk_layout.proofs.Sizes.{number_more, short_more}
use Rattle.disk_layout.proofs.identity_bytes.IdentityBytes.before_sum.Goals as goal

pub put_short-requires-2-clause-fits : goal.put_short-requires-2-clause-fits
put_short-requires-2-clause-fits c =
    let one : length c.put.new.self ≡ 6 = ap length c.put.ensures in
    let two = number_more 4 c.args.identity.now.bank c.put.new.self c.put-2.new.self c.u32_bytes.result c.u32_bytes.ensures c.put-2.ensures in
    let three = short_more c.put-2.new.self c.put_short.new.self c.as_slice.result.now c.put_short.ensures in
    let hw : length c.as_slice.result.now ≤ 20 = rw c.as_slice.ensures.bytes c.as_slice.ensures.is_ident.size.1 in
    let pos : length c.as_slice-2.result.now ≤ 20 = rw c.as_slice-2.ensures.bytes c.as_slice-2.ensures.is_ident.size.1 in
    omega (arith, one, two, three, hw, pos)

pub put_short-requires-3-clause-fits : goal.put_short-requires-3-clause-fits
put_short-requires-3-clause-fits c =
    let one : length c.put.new.self ≡ 6 = ap length c.put.ensures in
    let two = number_more 4 c.args.identity.now.bank c.put.new.self c.put-2.new.self c.u32_bytes.result c.u32_bytes.ensures c.put-2.ensures in
    let three = short_more c.put-2.new.self c.put_short.new.self c.as_slice.result.now c.put_short.ensures in
    let four = short_more c.put_short.new.self c.put_short-2.new.self c.as_slice-2.result.now c.put_short-2.ensures in
    let hw : length c.as_slice.result.now ≤ 20 = rw c.as_slice.ensures.bytes c.as_slice.ensures.is_ident.size.1 in
    let pos : length c.as_slice-2.result.now ≤ 20 = rw c.as_slice-2.ensures.bytes c.as_slice-2.ensures.is_ident.size.1 in
    let serial : length c.as_slice-3.result.now ≤ 20 = rw c.as_slice-3.ensures.bytes c.as_slice-3.ensures.is_ident.size.1 in
    omega (arith, one, two, three, four, hw, pos, serial)

pub returns-clause-short : goal.returns-clause-short
returns-clause-short c =
    let one : length c.put.new.self ≡ 6 = ap length c.put.ensures in
    let two = number_more 4 c.args.identity.now.bank c.put.new.self c.put-2.new.self c.u32_bytes.result c.u32_bytes.ensures c.put-2.ensures in
    let three = short_more c.put-2.new.self c.put_short.new.self c.as_slice.result.now c.put_short.ensures in
    let four = short_more c.put_short.new.self c.put_short-2.new.self c.as_slice-2.result.now c.put_short-2.ensures in
    let five = short_more c.put_short-2.new.self c.put_short-3.new.self c.as_slice-3.result.now c.put_short-3.ensures in
    let hw : length c.as_slice.result.now ≤ 20 = rw c.as_slice.ensures.bytes c.as_slice.ensures.is_ident.size.1 in
    let pos : length c.as_slice-2.result.now ≤ 20 = rw c.as_slice-2.ensures.bytes c.as_slice-2.ensures.is_ident.size.1 in
    let serial : length c.as_slice-3.result.now ≤ 20 = rw c.as_slice-3.ensures.bytes c.as_slice-3.ensures.is_ident.size.1 in
    omega (arith, one, two, three, four, five, hw, pos, serial)
