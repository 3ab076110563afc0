use Rattle.std.proofs.Common.{ℕ, List, Some, sym, ap, ◌∙◌}
use Rattle.std.specs.Prelude.{option_map}
use Rattle.load_base.specs.Host.{Files}
use Rattle.load_base.specs.Bytes.{same_bytes}
use Rattle.load_base.proofs.WrittenFiles.{no_files_yet, found_same, found_other}
use Rattle.load_base.proofs.mem_host.last_of.Goals as goal
use Rattle.load_base.proofs.mem_host.last_of.Goals.{then-is_same, else-is_same}

pub loop-file-init : goal.loop-file-init
loop-file-init c = ap (λ (files : Files). files c.args.name.now) (sym no_files_yet)

pub loop-file-preserved : goal.loop-file-preserved
loop-file-preserved c =
    let file = c.file-item.result in
    let tested = sym (ap (λ (name : List ℕ). same_bytes name c.args.name.now) c.as_slice.ensures) ∙ sym c.is_same.ensures in
    elim c.if-is_same.branch [
      | then-is_same w ↦
          ap (λ o. option_map (λ bytes. bytes.now) o) w.last-is ∙ ap (λ (bytes : List ℕ). Some bytes) w.as_slice-then-is_same.ensures
          ∙ found_same c.args.written.now c.loop-file.file-index file c.args.name.now c.loop-file-test.true c.file-item.is (tested ∙ w.if-is_same.true)
      | else-is_same w ↦
          ap (λ o. option_map (λ bytes. bytes.now) o) w.last-is ∙ c.loop-file.invariant
          ∙ found_other c.args.written.now c.loop-file.file-index file c.args.name.now c.loop-file-test.true c.file-item.is (tested ∙ w.if-is_same.false)
    ]
