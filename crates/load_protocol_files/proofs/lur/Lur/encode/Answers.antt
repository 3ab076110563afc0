use Rattle.std.proofs.Common.{ℕ, ◌+◌, ◌*◌, ◌≤◌, length, Result, Ok, Err, IfOk}
use Rattle.load_base.specs.Listed.{Listed}
use Rattle.load_protocol_files.specs.Lur.{LurSpells, LurView, lur_view}
use Rattle.load_protocol_files.specs.Laws.Lur.{file_size}
use Rattle.load_protocol_files.proofs.lur.Lur.encode.Goals as goal

sized : {E : Type 0} (v : LurView) (result : Result (Listed ℕ) E) → IfOk result (λ bytes. LurSpells v bytes.items) → IfOk result (λ bytes. length bytes.items ≤ 8 + length v.loads * 81)
sized v (Ok bytes) is = file_size v bytes.items is
sized v (Err e) is = tt

-- src/lur.rt:59:5
pub returns-clause-size : goal.returns-clause-size
returns-clause-size c = sized (lur_view c.args.self.now) c.encode.result c.encode.ensures
