-- What is kept of a file while it arrives (docs/EXCHANGE.md, "What an end keeps").
use Rattle.std.specs.Prelude.{ℕ, ◌+◌, ◌-◌, List, [], ◌++◌, length, take, Bool, nat_lt}
use Rattle.crc_fields.specs.CheckSums.{crc16_of, crc16_after, crc32_after}

-- the most bytes of a header and of a protocol file
abbrev pub buffer_size : ℕ
buffer_size = 65536

-- the first bytes of a file, at most as many as the buffer has, and the count of all its bytes
pub record Buffer : Type 0 where
  pub prefix : List ℕ
  pub count : ℕ

abbrev pub empty_buffer : Buffer
empty_buffer = record { prefix = []; count = 0 }

-- of a file that begins with these bytes
abbrev pub buffered : List ℕ → Buffer
buffered bytes = record { prefix = take buffer_size bytes; count = length bytes }

abbrev pub buffered_more : Buffer → List ℕ → Buffer
buffered_more b more = record { prefix = b.prefix ++ take (buffer_size - length b.prefix) more; count = b.count + length more }

abbrev pub is_too_long : Buffer → Bool
is_too_long b = nat_lt buffer_size b.count

-- Of a data or support file: its length as its header says it, the count of the bytes that came, and the check sums of
-- those up to that length: the CRC-16 of the file, and the CRC-32 of the load so far.
pub record Sums : Type 0 where
  pub said : ℕ
  pub count : ℕ
  pub crc16 : ℕ
  pub load_crc : ℕ

-- of a file that begins with these bytes, after a load with this CRC-32 so far
abbrev pub summed : (said load_crc : ℕ) → List ℕ → Sums
summed said load_crc bytes = record { said = said; count = length bytes; crc16 = crc16_of (take said bytes); load_crc = crc32_after load_crc (take said bytes) }

abbrev pub summed_more : Sums → List ℕ → Sums
summed_more s more = record {
  said = s.said;
  count = s.count + length more;
  crc16 = crc16_after s.crc16 (take (s.said - s.count) more);
  load_crc = crc32_after s.load_crc (take (s.said - s.count) more);
}
