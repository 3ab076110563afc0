-- Options that a request asks for and an OACK grants, and the block size that follows (RFC 2347, RFC 2348,
-- RFC 2349; docs/EXCHANGE.md, "Options").
use Rattle.std.specs.Prelude.{ℕ, ◌+◌, ◌/◌, Bool, true, false, not, nat_le, ◌==◌, ◌&&◌, Option, Some, None, is_none, unwrap_or, if◌then◌else◌}
use Rattle.tftp_packet.specs.declared.options.Options.{Options}

abbrev pub no_options : Options
no_options = record { blksize = None; timeout = None; tsize = None }

-- no option at all
abbrev pub is_empty : Options → Bool
is_empty options = is_none options.blksize && (is_none options.timeout && is_none options.tsize)

-- the block size that options say: 512 without one (RFC 1350, section 2; RFC 2348)
abbrev pub block_size_of : Options → ℕ
block_size_of options = unwrap_or options.blksize 512

-- how many blocks a file of this length has: the last is shorter than the block size, perhaps empty
abbrev pub block_count : (file_length size : ℕ) → ℕ
block_count file_length size = file_length / size + 1

-- each block of the file has a number of its own
abbrev pub fits : (file_length size : ℕ) → Bool
fits file_length size = nat_le (block_count file_length size) 65535

-- the file fits the block size that was said, where one was
abbrev pub fits_said : (file_length : ℕ) → Option ℕ → Bool
fits_said file_length None = true
fits_said file_length (Some size) = fits file_length size

-- the block size that was said, where the file fits it
abbrev pub fitting : (file_length : ℕ) → Option ℕ → Option ℕ
fitting file_length said = if fits_said file_length said then said else None

-- an option that is granted was asked
abbrev pub was_asked : (asked granted : Option ℕ) → Bool
was_asked asked None = true
was_asked None (Some n) = false
was_asked (Some m) (Some n) = true

-- a block size that is granted is no greater than the one asked
abbrev pub is_no_greater : (asked granted : Option ℕ) → Bool
is_no_greater asked None = true
is_no_greater None (Some n) = false
is_no_greater (Some m) (Some n) = nat_le n m

-- An OACK may grant these options where those were asked: some were, and it has no other, and no greater block size.
abbrev pub may_grant : (asked granted : Options) → Bool
may_grant asked granted =
    not (is_empty asked) && (is_no_greater asked.blksize granted.blksize && (was_asked asked.timeout granted.timeout && was_asked asked.tsize granted.tsize))

-- the length of the file, where it was asked
abbrev pub length_if_asked : (file_length : ℕ) → Option ℕ → Option ℕ
length_if_asked file_length None = None
length_if_asked file_length (Some n) = Some file_length

-- what is granted to a request to read a file of this length: the file's length, and no block size that it doesn't fit
abbrev pub granted_to_reader : (file_length : ℕ) → Options → Options
granted_to_reader file_length asked =
    record { blksize = fitting file_length asked.blksize; timeout = asked.timeout; tsize = length_if_asked file_length asked.tsize }

-- what a request to write a file of this length asks for, where these options are wanted
abbrev pub asked_by_writer : (file_length : ℕ) → Options → Options
asked_by_writer file_length wanted = record { blksize = fitting file_length wanted.blksize; timeout = wanted.timeout; tsize = wanted.tsize }

abbrev pub same_number : Option ℕ → Option ℕ → Bool
same_number None None = true
same_number None (Some n) = false
same_number (Some m) None = false
same_number (Some m) (Some n) = m == n

-- the same options with the same values
abbrev pub same_options : Options → Options → Bool
same_options one other = same_number one.blksize other.blksize && (same_number one.timeout other.timeout && same_number one.tsize other.tsize)
