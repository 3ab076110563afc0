-- Packets in their range, and how they are written.
use Rattle.std.proofs.Common.{◌≡◌, ◌≢◌, ℕ, ◌+◌, ◌<◌, ◌≤◌, ◌^◌, Bool, true, false, cond, List, [], ◌∷◌, ◌++◌, length, Option, Some, None, Ok, refl, subst, arith}
use Rattle.std.specs.Prelude.{nat_lt, nat_le, ◌&&◌, codes, count_by, IfSome}
use Rattle.std.specs.Char.{is_ascii_digit}
use Rattle.std.specs.Fmt.{decimal}
use Rattle.std.specs.List.{AllByRecursion, concat, list_all}
use Rattle.std.specs.Str.Parse.{digits_value}
use Rattle.std.proofs.lemmas.Bool.{and_parts, and_from, lt-ltb, leb-true}
use Rattle.std.proofs.lemmas.Fmt.{decimal_is_IsNumeral, length-decimal-le}
use Rattle.std.proofs.lemmas.List.{length-append}
use Rattle.std.proofs.lemmas.List.Concat.{flat_map-append}
use Rattle.std.proofs.lemmas.List.Folds.{concat-append}
use Rattle.std.proofs.lemmas.List.Sums.{sum_by-append}
use Rattle.field_grammar.specs.Answers.{answer}
use Rattle.field_grammar.proofs.NumberLemmas.{length_number_bytes}
use Rattle.load_base.specs.Name.{IsName}
use Rattle.field_grammar.proofs.ExactLemmas.{answer-spelled, spelled_at_start}
use Rattle.tftp_packet.specs.declared.options.Known.{Known}
use Rattle.tftp_packet.specs.declared.options.Known.TheVariants.{BlockSize, Timeout, TransferSize}
use Rattle.tftp_packet.specs.declared.options.Options.{Options}
use Rattle.tftp_packet.specs.declared.options.Others.{Others}
use Rattle.tftp_packet.specs.declared.options.Others.TheVariants.{PassedOver, Refused}
use Rattle.tftp_packet.specs.Options.{Pair, IsPacketText, IsPair, MayStand, AreOptions, AreInRange, IsWithin, is_named, lower_name, least, most, is_number, in_range, number_between, value_of, said_of, options_of, written, written_options, pairs_fields}
use Rattle.tftp_packet.specs.Packets.{PacketView, IsARequest, Rrq, Wrq, Data, Ack, Error, Oack, IsTyped, IsInRange, IsRequest, PacketSpells, packet_bytes, packet, is_octet, request_fields}
use Rattle.tftp_packet.proofs.CaseLemmas.{known_text, digits_are_text}
use Rattle.tftp_packet.proofs.NumberLemmas.{digits, within}
use Rattle.tftp_packet.proofs.SpelledLemmas.{packet_from}

-- ---- what is spelled is in its range

between_is_within : (low high : ℕ) (value : List ℕ) → IfSome (number_between low high value) (λ n. (low ≤ n) × (n ≤ high))
unfolding number_between
between_is_within low high value = tested (is_number value)
  where
    inner : (n : ℕ) (b : Bool) → (nat_le low n && nat_le n high) ≡ b → IfSome (cond b (Some n) None) (λ n. (low ≤ n) × (n ≤ high))
    inner n true is = let parts = and_parts (nat_le low n) (nat_le n high) is in (leb-true low n parts.0, leb-true n high parts.1)
    inner n false is = tt

    tested : (b : Bool) → IfSome (cond b (in_range low high (digits_value 10 value)) None) (λ n. (low ≤ n) × (n ≤ high))
    tested true = inner (digits_value 10 value) (nat_le low (digits_value 10 value) && nat_le (digits_value 10 value) high) refl
    tested false = tt

said_is_within : (known : Known) (pairs : List Pair) → IsWithin known (said_of known pairs)
said_is_within known [] = tt
said_is_within known (pair ∷ pairs) = go (is_named known pair.name) (said_is_within known pairs)
  where
    go : (b : Bool) → IsWithin known (said_of known pairs) → IsWithin known (cond b (value_of known pair.value) (said_of known pairs))
    go true later = between_is_within (least known) (most known) pair.value
    go false later = later

said_in_range : (pairs : List Pair) → AreInRange (options_of pairs)
unfolding options_of
said_in_range pairs = record { blksize = said_is_within BlockSize pairs; timeout = said_is_within Timeout pairs; tsize = said_is_within TransferSize pairs }

options_in_range : (pairs : List Pair) (options : Options) → options_of pairs ≡ options → AreInRange options
options_in_range pairs options say = subst (λ (o : Options). AreInRange o) say (said_in_range pairs)

pub spelled_in_range : (p : PacketView) (bytes : List ℕ) → PacketSpells p bytes → IsInRange p
spelled_in_range (Rrq name options) bytes is = options_in_range is.pairs options is.say
spelled_in_range (Wrq name options) bytes is = options_in_range is.pairs options is.say
spelled_in_range (Data block payload) bytes is = is.size
spelled_in_range (Ack block) bytes is = tt
spelled_in_range (Error code message) bytes is = is.is_text.no_zero
spelled_in_range (Oack options) bytes is = options_in_range is.pairs options is.say

pub spelled_typed : (p : PacketView) (bytes : List ℕ) → PacketSpells p bytes → IsTyped p
spelled_typed (Rrq name options) bytes is = is.is_name
spelled_typed (Wrq name options) bytes is = is.is_name
spelled_typed (Data block payload) bytes is = (is.number, is.are_bytes)
spelled_typed (Ack block) bytes is = is.number
spelled_typed (Error code message) bytes is = (is.number, is.is_text.bytes)
spelled_typed (Oack options) bytes is = tt

-- ---- one option as it is written

most_is_small : (known : Known) → most known < 2 ^ 64
most_is_small BlockSize = omega arith
most_is_small Timeout = omega arith
most_is_small TransferSize = omega arith

decimal_is_digits : (n : ℕ) → n < 2 ^ 64 → (list_all is_ascii_digit (decimal n) ≡ true) × (0 < length (decimal n)) × (digits_value 10 (decimal n) ≡ n)
decimal_is_digits n small = let is = decimal_is_IsNumeral n small in (digits.from (decimal n) is.0.1, is.0.0, is.1)

written_value : (known : Known) (n : ℕ) → (least known ≤ n) × (n ≤ most known) → value_of known (decimal n) ≡ Some n
unfolding number_between
written_value known n fits =
    let (all, some, is) = decimal_is_digits n (omega (arith, most_is_small known, fits.1)) in
    rw (and_from (nat_lt 0 (length (decimal n))) (list_all is_ascii_digit (decimal n)) (lt-ltb 0 (length (decimal n)) some) all, is) (within (least known) (most known) n fits.0 fits.1)

written_name : (known : Known) → IsPacketText (lower_name known)
written_name BlockSize = known_text (lower_name BlockSize) refl refl
written_name Timeout = known_text (lower_name Timeout) refl refl
written_name TransferSize = known_text (lower_name TransferSize) refl refl

some_name : (known : Known) → lower_name known ≢ []
some_name BlockSize e = cc
some_name Timeout e = cc
some_name TransferSize e = cc

named_itself : (known : Known) → is_named known (lower_name known) ≡ true
unfolding is_named
named_itself BlockSize = refl
named_itself Timeout = refl
named_itself TransferSize = refl

abbrev written_pair : Known → ℕ → Pair
written_pair known n = record { name = lower_name known; value = decimal n }

written_is_pair : (known : Known) (n : ℕ) → (least known ≤ n) × (n ≤ most known) → IsPair (written_pair known n)
written_is_pair known n fits = record {
  name = written_name known;
  named = some_name known;
  value = digits_are_text (decimal n) (decimal_is_digits n (omega (arith, most_is_small known, fits.1))).0;
}

written_may_stand : (others : Others) (known : Known) (n : ℕ) → (least known ≤ n) × (n ≤ most known) → MayStand others (written_pair known n)
written_may_stand PassedOver known n fits = tt
written_may_stand Refused known n fits = (known, n, named_itself known, written_value known n fits)

-- ---- all of them

all-append : {X : Type 0} (P : X → Type 0) (xs ys : List X) → AllByRecursion P xs → AllByRecursion P ys → AllByRecursion P (xs ++ ys)
all-append P [] ys one other = other
all-append P (x ∷ xs) ys one other = (one.0, all-append P xs ys one.1 other)

each_written : (P : Pair → Type 0) (known : Known) (said : Option ℕ) → ((n : ℕ) → (least known ≤ n) × (n ≤ most known) → P (written_pair known n)) → IsWithin known said → AllByRecursion P (written known said)
each_written P known None each fits = tt
each_written P known (Some n) each fits = (each n fits, tt)

all_written : (P : Pair → Type 0) (options : Options) → ((known : Known) (n : ℕ) → (least known ≤ n) × (n ≤ most known) → P (written_pair known n)) → AreInRange options
    → AllByRecursion P (written_options options)
unfolding written_options
all_written P options each fits =
    all-append P (written BlockSize options.blksize) (written Timeout options.timeout ++ written TransferSize options.tsize) (each_written P BlockSize options.blksize (each BlockSize) fits.blksize) (
    all-append P (written Timeout options.timeout) (written TransferSize options.tsize) (each_written P Timeout options.timeout (each Timeout) fits.timeout)
    (each_written P TransferSize options.tsize (each TransferSize) fits.tsize)
    )

abbrev is_same : Known → Known → Bool
is_same BlockSize BlockSize = true
is_same Timeout Timeout = true
is_same TransferSize TransferSize = true
is_same BlockSize Timeout = false
is_same BlockSize TransferSize = false
is_same Timeout BlockSize = false
is_same Timeout TransferSize = false
is_same TransferSize BlockSize = false
is_same TransferSize Timeout = false

named_as : (known other : Known) → is_named known (lower_name other) ≡ is_same known other
unfolding is_named
named_as BlockSize BlockSize = refl
named_as BlockSize Timeout = refl
named_as BlockSize TransferSize = refl
named_as Timeout BlockSize = refl
named_as Timeout Timeout = refl
named_as Timeout TransferSize = refl
named_as TransferSize BlockSize = refl
named_as TransferSize Timeout = refl
named_as TransferSize TransferSize = refl

abbrev times_named : Known → List Pair → ℕ
times_named known pairs = count_by (λ p. is_named known p.name) pairs

one_named : (known other : Known) (said : Option ℕ) → times_named known (written other said) ≤ cond (is_same known other) 1 0
one_named known other None = omega arith
one_named known other (Some n) = rw (named_as known other) (omega arith)

written_once : (options : Options) (known : Known) → times_named known (written_options options) ≤ 1
unfolding written_options
written_once options known =
    let f : Pair → ℕ = λ p. cond (is_named known p.name) 1 0 in
    let first = sum_by-append f (written BlockSize options.blksize) (written Timeout options.timeout ++ written TransferSize options.tsize) in
    let second = sum_by-append f (written Timeout options.timeout) (written TransferSize options.tsize) in
    let a = one_named known BlockSize options.blksize in
    let b = one_named known Timeout options.timeout in
    let c = one_named known TransferSize options.tsize in
    sum_of known (omega (arith, first, second, a, b, c))
  where
    sum_of : (known : Known) → times_named known (written BlockSize options.blksize ++ (written Timeout options.timeout ++ written TransferSize options.tsize))
        ≤ cond (is_same known BlockSize) 1 0 + (cond (is_same known Timeout) 1 0 + cond (is_same known TransferSize) 1 0)
        → times_named known (written BlockSize options.blksize ++ (written Timeout options.timeout ++ written TransferSize options.tsize)) ≤ 1
    sum_of BlockSize le = omega (arith, le)
    sum_of Timeout le = omega (arith, le)
    sum_of TransferSize le = omega (arith, le)

written_are_options : (others : Others) (options : Options) → AreInRange options → AreOptions others (written_options options)
written_are_options others options fits = record {
  texts = all_written (λ pair. IsPair pair) options written_is_pair fits;
  once = written_once options;
  allowed = all_written (λ pair. MayStand others pair) options (written_may_stand others) fits;
}

-- ---- what they say

written_say : (options : Options) → AreInRange options → options_of (written_options options) ≡ options
unfolding options_of written_options is_named
written_say options fits = go options.blksize options.timeout options.tsize fits.blksize fits.timeout fits.tsize
  where
    go : (a b c : Option ℕ) → IsWithin BlockSize a → IsWithin Timeout b → IsWithin TransferSize c
        → options_of (written BlockSize a ++ (written Timeout b ++ written TransferSize c)) ≡ record { blksize = a; timeout = b; tsize = c }
    go None None None x y z = refl
    go (Some l) None None x y z = rw (written_value BlockSize l x) refl
    go None (Some m) None x y z = rw (written_value Timeout m y) refl
    go None None (Some n) x y z = rw (written_value TransferSize n z) refl
    go (Some l) (Some m) None x y z = rw (written_value BlockSize l x, written_value Timeout m y) refl
    go (Some l) None (Some n) x y z = rw (written_value BlockSize l x, written_value TransferSize n z) refl
    go None (Some m) (Some n) x y z = rw (written_value Timeout m y, written_value TransferSize n z) refl
    go (Some l) (Some m) (Some n) x y z = rw (written_value BlockSize l x, written_value Timeout m y, written_value TransferSize n z) refl

-- ---- packets

octet_is_octet : is_octet (codes "octet") ≡ true
unfolding is_octet
octet_is_octet = refl

written_request : (opcode : ℕ) (name : List ℕ) (options : Options) → IsName name → AreInRange options → IsRequest opcode name options (concat (request_fields opcode name (codes "octet") (written_options options)))
written_request opcode name options is_name fits = record {
  mode = codes "octet";
  pairs = written_options options;
  is_name = is_name;
  octet = octet_is_octet;
  are_options = written_are_options PassedOver options fits;
  say = written_say options fits;
  parts = refl;
}

-- a packet in its range is spelled by the bytes that are written for it
pub written_spells : (p : PacketView) → IsTyped p → IsInRange p → PacketSpells p (packet_bytes p)
written_spells (Rrq name options) typed fits = written_request 1 name options typed fits
written_spells (Wrq name options) typed fits = written_request 2 name options typed fits
written_spells (Data block payload) typed fits = record { number = typed.0; size = fits; are_bytes = typed.1; parts = refl }
written_spells (Ack block) typed fits = record { number = typed; parts = refl }
written_spells (Error code message) typed fits = record { number = typed.0; is_text = record { no_zero = fits; bytes = typed.1 }; parts = refl }
written_spells (Oack options) typed fits = record { pairs = written_options options; are_options = written_are_options Refused options fits; say = written_say options fits; parts = refl }

-- and is read as what was written
pub read_again : (p : PacketView) (bytes : List ℕ) → PacketSpells p bytes → answer packet bytes ≡ Ok p
read_again p bytes spells = answer-spelled packet bytes p (spelled_at_start packet bytes p (packet_from bytes p spells))

-- ---- how long a request is

-- the longest value of an option, in digits
abbrev digits_of : Known → ℕ
digits_of BlockSize = 5
digits_of Timeout = 3
digits_of TransferSize = 10

few_digits : (known : Known) (n : ℕ) → n ≤ most known → length (decimal n) ≤ digits_of known
few_digits BlockSize n fits = length-decimal-le 5 n (omega arith) (omega (arith, fits)) (omega (arith, fits))
few_digits Timeout n fits = length-decimal-le 3 n (omega arith) (omega (arith, fits)) (omega (arith, fits))
few_digits TransferSize n fits = length-decimal-le 10 n (omega arith) (omega (arith, fits)) (omega (arith, fits))

-- the bytes of an option: its name, its value and two zeros
option_length : (known : Known) (said : Option ℕ) → IsWithin known said → length (concat (pairs_fields (written known said))) ≤ length (lower_name known) + digits_of known + 2
option_length known None fits = omega arith
option_length known (Some n) fits =
    let few = few_digits known n fits.1 in
    simp (length-append) (omega (arith, few))

options_length : (options : Options) → AreInRange options → length (concat (pairs_fields (written_options options))) ≤ 43
unfolding written_options
options_length options fits =
    let a = option_length BlockSize options.blksize fits.blksize in
    let b = option_length Timeout options.timeout fits.timeout in
    let c = option_length TransferSize options.tsize fits.tsize in
    simp (flat_map-append, concat-append, length-append) (omega (arith, a, b, c))

request_length : (opcode : ℕ) (name : List ℕ) (options : Options) → IsName name → AreInRange options
    → length (concat (request_fields opcode name (codes "octet") (written_options options))) ≤ 116
request_length opcode name options is fits =
    let more = options_length options fits in
    let short : length name ≤ 64 = is.size.1 in
    let two = length_number_bytes 2 opcode in
    simp (length-append, two) (omega (arith, more, short))

-- a request that is sent has at most 116 bytes
pub short_requests : (p : PacketView) → IsTyped p → IsInRange p → IsARequest p → length (packet_bytes p) ≤ 116
short_requests (Rrq name options) typed fits is = request_length 1 name options typed fits
short_requests (Wrq name options) typed fits is = request_length 2 name options typed fits
short_requests (Data block payload) typed fits is = absurd is
short_requests (Ack block) typed fits is = absurd is
short_requests (Error code message) typed fits is = absurd is
short_requests (Oack options) typed fits is = absurd is
