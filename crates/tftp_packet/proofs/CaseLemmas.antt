-- Texts in other letter cases, and bytes of which each is known.
use Rattle.std.proofs.Common.{◌≡◌, ℕ, zero, suc, ◌<◌, ◌≤◌, true, List, [], ◌∷◌, Option, Some, None, refl, ap, sym, subst, arith}
use Rattle.std.specs.Prelude.{map, codes, nat_lt, option_map}
use Rattle.std.specs.Char.{to_ascii_lowercase, is_ascii_digit}
use Rattle.std.specs.List.{list_all}
use Rattle.std.proofs.lemmas.Bool.{and_parts, ltb-true}
use Rattle.std.proofs.lemmas.Bool.Decides.{nat_tests}
use Rattle.std.proofs.lemmas.Slice.Eq.{bytes_eq-Decides}
use Rattle.field_grammar.specs.Grammar.{IsBytes, HasNoZero, before_zero}
use Rattle.tftp_packet.specs.Options.{IsPacketText}
use Rattle.tftp_packet.specs.Packets.{is_octet}

-- ---- known bytes

known_bytes : (bytes : List ℕ) → list_all (λ b. nat_lt b 256) bytes ≡ true → IsBytes bytes
known_bytes [] all i = omega arith
known_bytes (b ∷ bytes) all zero = ltb-true b 256 (and_parts (nat_lt b 256) (list_all (λ b. nat_lt b 256) bytes) all).0
known_bytes (b ∷ bytes) all (suc i) = known_bytes bytes (and_parts (nat_lt b 256) (list_all (λ b. nat_lt b 256) bytes) all).1 i

pub known_text : (text : List ℕ) → before_zero text ≡ None → list_all (λ b. nat_lt b 256) text ≡ true → IsPacketText text
known_text text none all = record { no_zero = none; bytes = known_bytes text all }

-- ---- digits

some_zero : {n : ℕ} → Some n ≡ None → ⊥
some_zero e = cc

digits_no_zero : (ds : List ℕ) → list_all is_ascii_digit ds ≡ true → HasNoZero ds
digits_no_zero [] all = refl
digits_no_zero (zero ∷ ds) all = absurd cc
digits_no_zero (suc d ∷ ds) all = ap (option_map suc) (digits_no_zero ds (and_parts (is_ascii_digit (suc d)) (list_all is_ascii_digit ds) all).1)

digit_small : (d : ℕ) → is_ascii_digit d ≡ true → d < 256
digit_small d is = grind (arith, nat_tests)

digits_small : (ds : List ℕ) → list_all is_ascii_digit ds ≡ true → IsBytes ds
digits_small [] all i = omega arith
digits_small (d ∷ ds) all zero = digit_small d (and_parts (is_ascii_digit d) (list_all is_ascii_digit ds) all).0
digits_small (d ∷ ds) all (suc i) = digits_small ds (and_parts (is_ascii_digit d) (list_all is_ascii_digit ds) all).1 i

pub digits_are_text : (ds : List ℕ) → list_all is_ascii_digit ds ≡ true → IsPacketText ds
digits_are_text ds all = record { no_zero = digits_no_zero ds all; bytes = digits_small ds all }

-- ---- lower case

not_above : (b : ℕ) → b ≤ to_ascii_lowercase b
not_above b = grind (arith, nat_tests)

one_less : (o : Option ℕ) → option_map suc o ≡ None → o ≡ None
one_less None e = refl
one_less (Some n) e = absurd cc

later_no_zero : (b : ℕ) (bytes : List ℕ) → HasNoZero (b ∷ bytes) → HasNoZero bytes
later_no_zero zero bytes none = absurd (some_zero none)
later_no_zero (suc b) bytes none = one_less (before_zero bytes) none

lower_no_zero : (bytes : List ℕ) → HasNoZero (map to_ascii_lowercase bytes) → HasNoZero bytes
lower_no_zero [] none = refl
lower_no_zero (zero ∷ bytes) none = absurd (some_zero none)
lower_no_zero (suc b ∷ bytes) none = ap (option_map suc) (lower_no_zero bytes (later_no_zero (to_ascii_lowercase (suc b)) (map to_ascii_lowercase bytes) none))

lower_small : (bytes : List ℕ) → IsBytes (map to_ascii_lowercase bytes) → IsBytes bytes
lower_small [] small i = omega arith
lower_small (b ∷ bytes) small zero = omega (arith, not_above b, small 0)
lower_small (b ∷ bytes) small (suc i) = lower_small bytes (λ k. small (suc k)) i

pub octet_is_text : (mode : List ℕ) → is_octet mode ≡ true → IsPacketText mode
unfolding is_octet
octet_is_text mode is =
    let lower : map to_ascii_lowercase mode ≡ codes "octet" = (bytes_eq-Decides (map to_ascii_lowercase mode) (map to_ascii_lowercase (codes "octet"))).0 is in
    let known : IsPacketText (codes "octet") = known_text (codes "octet") refl refl in
    record {
      no_zero = lower_no_zero mode (subst HasNoZero (sym lower) known.no_zero);
      bytes = lower_small mode (subst IsBytes (sym lower) known.bytes);
    }
