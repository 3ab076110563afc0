use Rattle.std.proofs.Common.{ap, ◌∙◌, arith}
use Rattle.disk_layout.proofs.SlotReads.{number_read, byte_read}
use Rattle.disk_layout.proofs.slot.SlotFields.decode.Goals as goal

pub returns : goal.returns
returns c image at is =
    let bytes = c.args.bytes.now in
    record {
      gate = byte_read bytes image at 29 0 is (omega arith) ∙ ap image (omega arith);
      sequence = c.read_u32.ensures ∙ number_read bytes image at 29 16 4 is (omega arith);
      bank = byte_read bytes image at 29 20 is (omega arith);
      offset = c.read_u32-2.ensures ∙ number_read bytes image at 29 21 4 is (omega arith);
      length = c.read_u32-3.ensures ∙ number_read bytes image at 29 25 4 is (omega arith);
    }
