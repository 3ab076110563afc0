use Rattle.std.proofs.Common.{length, ap, ◌∙◌, arith}
use Rattle.std.proofs.lemmas.Result.{IfOk-weaker}
use Rattle.load_header.specs.Header.{HeaderView, header_view}
use Rattle.media_build.specs.RecipeSets.{header_bytes}
use Rattle.media_build.proofs.WholeHeaders.{size_of_end, whole_is}
use Rattle.media_build.proofs.bodies.header_bytes.Goals as goal

pub load_crc-requires : goal.load_crc-requires
load_crc-requires c =
    let size = c.header_laws.ensures.length (header_view c.in_ok-header.header) c.in_ok-start.start.items c.in_ok-start.ensures in
    omega (arith, size, size_of_end (header_view c.in_ok-header.header), ap length c.as_slice.ensures)

pub returns : goal.returns
returns c =
    let whole = whole_is c.args.load.now c.args.files.now (header_view c.in_ok-header.header) c.in_ok-start.start.items c.as_slice.result.now c.load_crc.result c.in_ok-header.ensures
    c.in_ok-start.ensures.1 c.as_slice.ensures c.load_crc.ensures in
    IfOk-weaker c.encode-2.result _ _ (λ bytes spells. spells.1 ∙ ap (λ (h : HeaderView). header_bytes h) whole) c.encode-2.ensures
