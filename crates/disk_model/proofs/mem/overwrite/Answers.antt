use Rattle.std.proofs.Common.{arith}
use Rattle.std.proofs.lemmas.Grind.{common_steps}
use Rattle.disk_model.specs.Image.{image_of}
use Rattle.disk_model.proofs.OverlayLemmas.{overlay_is}
use Rattle.disk_model.proofs.mem.overwrite.Goals as goal

pub returns-clause-ok : goal.returns-clause-ok
returns-clause-ok c = overlay_is (image_of c.args.to.now.items) _ c.args.at c.args.bytes.now (λ k within. grind (arith, common_steps)) (λ offset out. grind (arith, common_steps))
