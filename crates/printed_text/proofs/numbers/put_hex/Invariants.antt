use Rattle.std.proofs.Common.{◌≡◌, ◌+◌, ◌*◌, ◌≤◌, ◌++◌, take, length}
use Rattle.std.specs.List.{flat_map}
use Rattle.printed_text.specs.Lines.{hex_8}
use Rattle.printed_text.proofs.numbers.put_hex.Given as goal

abbrev pub invariant-loop-byte : goal.invariant-loop-byte
invariant-loop-byte l = record {
  put : l.out.items ≡ l.fn.out.items ++ flat_map hex_8 (take l.byte-index l.bytes);
  spare : 2 * length l.bytes ≤ l.out.spare + 2 * l.byte-index;
}
