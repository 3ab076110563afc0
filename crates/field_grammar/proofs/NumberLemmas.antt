-- Numbers and raw bytes as fields.
use Rattle.std.proofs.Common.{◌≡◌, ℕ, zero, suc, ◌+◌, ◌*◌, ◌%◌, ◌<◌, ◌^◌, List, [], ◌∷◌, length, refl, sym, ap, subst, ◌∙◌, arith}
use Rattle.std.specs.Int.{byte_at}
use Rattle.std.proofs.lemmas.List.{append-nil}
use Rattle.std.proofs.lemmas.Nat.{be_bytes_2, be_bytes_4, be_bytes_8}
use Rattle.byteorder.specs.Endian.{big_number, big_bytes}
use Rattle.byteorder.specs.Numbers.{big_number-reads_back, big_from-lt, length-bytes_high_first}
use Rattle.field_grammar.specs.Grammar.{IsBytes}
use Rattle.field_grammar.specs.Spelling.{IsSpelledBy}
use Rattle.field_grammar.specs.Fields.{number, raw, number_in, number_bytes, number_fields}

-- n bytes and the numbers below 256 ^ n tell each other
pub record IsWide (n : ℕ) : Type 0 where
  pub size : (x : ℕ) → length (number_bytes n x) ≡ n
  pub bytes : (x : ℕ) → IsBytes (number_bytes n x)
  pub back : (b : List ℕ) → length b ≡ n → IsBytes b → number_bytes n (number_in n b) ≡ b
  pub again : (x : ℕ) → x < 256 ^ n → number_in n (number_bytes n x) ≡ x
  pub below : (b : List ℕ) → IsBytes b → number_in n b < 256 ^ n

byte_fits : (k x : ℕ) → byte_at k x < 256
byte_fits zero x = omega arith
byte_fits (suc k) x = omega arith

bytes_fit : (n x : ℕ) → IsBytes (big_bytes n x)
bytes_fit zero x i = omega arith
bytes_fit (suc n) x zero = byte_fits n x
bytes_fit (suc n) x (suc i) = bytes_fit n x i

pub length_number_bytes : (n x : ℕ) → length (number_bytes n x) ≡ n
unfolding number_bytes
length_number_bytes n x = length-bytes_high_first n x

-- a number that was written is read again
number_again : (n x : ℕ) → x < 256 ^ n → number_in n (number_bytes n x) ≡ x
unfolding number_in number_bytes
number_again n x lt = ap (big_number n) (sym (append-nil (big_bytes n x))) ∙ big_number-reads_back n x [] lt

-- all of it follows from the way back
wide_by : (n : ℕ) → ((b : List ℕ) → length b ≡ n → IsBytes b → big_bytes n (big_number n b) ≡ b) → IsWide n
unfolding number_in number_bytes
wide_by n back = record {
  size = length_number_bytes n;
  bytes = bytes_fit n;
  back = back;
  again = number_again n;
  below = λ b fit. big_from-lt 0 n b fit;
}

pub wide1 : IsWide 1
wide1 = wide_by 1 one_back
  where
    one_back : (b : List ℕ) → length b ≡ 1 → IsBytes b → big_bytes 1 (big_number 1 b) ≡ b
    one_back [] size fit = absurd (omega arith)
    one_back (x ∷ []) size fit = let e : (x * 1 + 0) % 256 ≡ x = omega (arith, fit 0) in rw e refl
    one_back (x ∷ y ∷ ys) size fit = absurd (omega arith)

pub wide2 : IsWide 2
wide2 = wide_by 2 (λ b size fit. be_bytes_2 b (big_number 2 b) size fit (omega arith))

pub wide4 : IsWide 4
wide4 = wide_by 4 (λ b size fit. be_bytes_4 b (big_number 4 b) size fit (omega arith))

pub wide8 : IsWide 8
wide8 = wide_by 8 (λ b size fit. be_bytes_8 b (big_number 8 b) size fit (omega arith))

-- a number of n bytes is spelled by its bytes, the highest first
pub spelled-number : (n : ℕ) → IsWide n → IsSpelledBy (number n) (number_fields n) (λ x. x < 256 ^ n)
unfolding number raw
spelled-number n wide = record {
  to = λ before fields after value follows.
      let (b, first, none, parts, fb, last) = follows in
      let whole : fields ≡ number_fields n (number_in n b) = rw (parts, last.0, fb.0, wide.back b fb.1 fb.2) refl in
      subst (λ (v : ℕ). (fields ≡ number_fields n v) × (v < 256 ^ n)) last.1 (whole, wide.below b fb.2);
  from = λ before after value fits.
      (number_bytes n value, number_fields n value, [], refl, (refl, wide.size value, wide.bytes value), (refl, wide.again value fits));
}

-- n raw bytes are spelled by themselves
pub spelled-raw : (n : ℕ) → IsSpelledBy (raw n) (λ b. b ∷ []) (λ b. (length b ≡ n) × IsBytes b)
unfolding raw
spelled-raw n = record {
  to = λ before fields after value follows. (follows.0, (follows.1, follows.2));
  from = λ before after value fits. (refl, fits.0, fits.1);
}
