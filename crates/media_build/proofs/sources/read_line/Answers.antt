use Rattle.std.proofs.Common.{◌≡◌, ◌∷◌, [], sym, ap, arith}
use Rattle.std.specs.Prelude.{option_to_list}
use Rattle.media_build.specs.Building.{source_in}
use Rattle.media_build.proofs.ReadLines.{one_taken}
use Rattle.media_build.proofs.sources.read_line.Goals as goal

pub returns-clause-takes : goal.returns-clause-takes
returns-clause-takes g c =
    let named : source_in c.args.statement.now ≡ c.in-Some.name.now ∷ [] = sym (ap option_to_list c.in-Some.ensures) in
    one_taken (g.H.Host.files c.args.host.now) c.args.statement.now c.in-Some.name.now c.args.files c.in_ok-files.files c.args.others _ c.in_ok-bytes.bytes named c.in_ok-files.ensures (omega (arith, c.len.ensures))
    c.in_ok-bytes.ensures.takes
