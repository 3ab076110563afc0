-- The blocks of a file (RFC 1350, section 2; docs/EXCHANGE.md, "Blocks").
use Rattle.std.specs.Prelude.{◌≡◌, ℕ, ◌-◌, ◌*◌, ◌≤◌, List, length, take, drop, Bool, nat_lt, ◌==◌, ◌&&◌, ◌||◌}
use Rattle.tftp_packet.specs.Packets.{PacketView, Data}

-- block k of a file, from 1 on: its piece of the block size, and at the end a shorter one
abbrev pub block_of : List ℕ → (size k : ℕ) → List ℕ
block_of file size k = take size (drop ((k - 1) * size) file)

-- A payload may be block k: it isn't longer than the block size, and it is shorter where no number is left for a next block.
abbrev pub is_block : (size k : ℕ) → List ℕ → Bool
is_block size k payload = nat_lt (length payload) size || ((length payload == size) && nat_lt k 65535)

-- a DATA k, where the packet is one, is block k of this file
abbrev pub IsOfFile : List ℕ → (size : ℕ) → PacketView → Type 0
IsOfFile file size (Data k payload) = 1 ≤ k → payload ≡ block_of file size k
IsOfFile file size packet = Unit {0}
