-- What stands after the opcodes of packets: the fields that follow each format.
use Rattle.std.proofs.Common.{◌≡◌, ℕ, zero, suc, ◌+◌, ◌<◌, ◌≤◌, ◌^◌, true, false, List, [], ◌∷◌, ◌++◌, length, refl, ap, sym, subst, ◌∙◌, arith}
use Rattle.std.specs.Prelude.{min, option_map}
use Rattle.std.specs.List.{concat}
use Rattle.std.proofs.lemmas.List.{append-nil}
use Rattle.field_grammar.specs.Grammar.{Follows, check, left, renamed, ended, IsBytes, HasNoZero, EndsTheBytes, ◌>>=◌}
use Rattle.field_grammar.specs.Fields.{number, number_bytes, raw}
use Rattle.field_grammar.specs.Spelling.{IsSpelledBy}
use Rattle.field_grammar.proofs.NumberLemmas.{wide2}
use Rattle.field_grammar.proofs.NumberLemmas.{spelled-number}
use Rattle.field_grammar.proofs.PlacedLemmas.{placed, spelled, placed-prefix, placed-left, placed-renamed, placed-ended}
use Rattle.field_grammar.proofs.ExactLemmas.{ends_at_end, ends_last, ends_before}
use Rattle.load_base.specs.Bytes.{AllGood}
use Rattle.load_base.specs.Name.{IsName, is_name_byte}
use Rattle.load_base.specs.Verdicts.{name_fault_of}
use Rattle.load_base.proofs.VerdictLemmas.{name_faults, accepted}
use Rattle.tftp_packet.specs.declared.fault.PacketFault.TheVariants as faults
use Rattle.tftp_packet.specs.declared.options.Options.{Options}
use Rattle.tftp_packet.specs.declared.options.Others.{Others}
use Rattle.tftp_packet.specs.declared.options.Others.TheVariants.{PassedOver}
use Rattle.tftp_packet.specs.declared.options.Seen.{Seen}
use Rattle.tftp_packet.proofs.KeptLemmas.{seen_of, nothing_seen}
use Rattle.tftp_packet.specs.Options.{Pair, IsPacketText, AreOptions, ended_text, pairs_fields, options_of, zero_text, nothing, options_to_end, rest_of_options, all_options}
use Rattle.tftp_packet.specs.Packets.{is_octet, word, file_name, request_body, payload_bytes, data_body, ack_body, error_body}
use Rattle.tftp_packet.proofs.PairLemmas.{AreNext, pairs_to, pairs_from, at_end, are_next, all_next}

-- ---- numbers and texts

pub spelled-word : IsSpelledBy word (λ n. number_bytes 2 n ∷ []) (λ n. n < 2 ^ 16)
unfolding word
spelled-word =
    spelled word (λ n. number_bytes 2 n ∷ []) (λ n. n < 2 ^ 16) (
    placed-prefix (λ before. left >>= (λ size. renamed (λ _. faults.Short (length before + size)) (number 2))) (λ b before n. number_bytes 2 n ∷ []) (λ b before after n. n < 2 ^ 16) (
    λ b.
    placed-left (λ size. renamed (λ _. faults.Short (length b + size)) (number 2)) (λ before n. number_bytes 2 n ∷ []) (λ size before after n. n < 2 ^ 16) (
    λ size.
    placed-renamed (λ _. faults.Short (length b + size)) (number 2) (λ before n. number_bytes 2 n ∷ []) (λ before after n. n < 2 ^ 16) (
    placed (number 2) (λ n. number_bytes 2 n ∷ []) (λ n. n < 2 ^ 16) (spelled-number 2 wide2)
    )
    )
    )
    )

pub spelled-zero_text : IsSpelledBy zero_text (λ t. ended_text t ∷ []) (λ t. IsPacketText t)
spelled-zero_text = record {
  to = λ before fields after value h. (h.0, record { no_zero = h.1; bytes = h.2 });
  from = λ before after value is. (refl, is.no_zero, is.bytes);
}

-- a name has no zero
no_zero : (bytes : List ℕ) → AllGood is_name_byte bytes → HasNoZero bytes
no_zero [] good = refl
no_zero (zero ∷ bytes) good = absurd (never (good 0 (omega arith)))
  where
    never : false ≡ true → ⊥
    never e = cc
no_zero (suc b ∷ bytes) good = ap (option_map suc) (no_zero bytes (λ k lt. good (suc k) (omega (arith, lt))))

name_is_text : (bytes : List ℕ) → IsName bytes → IsPacketText bytes
name_is_text bytes is = record { no_zero = no_zero bytes is.good; bytes = name_faults.small bytes is }

pub spelled-file_name : IsSpelledBy file_name (λ t. ended_text t ∷ []) (λ t. IsName t)
unfolding file_name
spelled-file_name = record {
  to = λ before fields after value follows.
      let (bytes, f1, o1, parts1, h1, last) = follows in
      let a = accepted faults.Name (name_fault_of bytes) bytes value last.1 in
      let whole : fields ≡ ended_text bytes ∷ [] = rw (parts1, h1.0, last.0) refl in
      subst (λ (v : List ℕ). (fields ≡ ended_text v ∷ []) × IsName v) a.1 (whole, (name_faults.right bytes).1 a.0);
  from = λ before after value is.
      let text = name_is_text value is in
      (value, ended_text value ∷ [], [], refl, (refl, text.no_zero, text.bytes), (refl, rw ((name_faults.right value).0 is) refl));
}

-- ---- options

-- the fields are options that say these
pub record SayOptions (others : Others) (options : Options) (fields : List (List ℕ)) : Type 0 where
  pub pairs : List Pair
  pub are : AreOptions others pairs
  pub say : options_of pairs ≡ options
  pub parts : fields ≡ pairs_fields pairs

are_options : (others : Others) (pairs : List Pair) → AreNext others [] pairs → AreOptions others pairs
are_options others pairs are = record { texts = are.texts; once = λ known. omega (arith, are.once known); allowed = are.allowed }

next_options_are : (others : Others) (pairs : List Pair) → AreOptions others pairs → AreNext others [] pairs
next_options_are others pairs are = record { texts = are.texts; once = λ known. omega (arith, are.once known); allowed = are.allowed }

pub options_to : (others : Others) (before : List ℕ) (fields : List (List ℕ)) (after : ℕ) (options : Options) → Follows (all_options others) before fields after options → SayOptions others options fields
unfolding all_options rest_of_options
options_to others before fields after options follows =
    let (all, f1, o1, parts1, (size, f2, o2, parts2, h2, h3), last) = follows in
    let first = subst (λ (s : Seen). Follows (options_to_end size others s) (before ++ concat f2) o2 (length (concat o1) + after) all) (sym nothing_seen) h3 in
    let pairs = pairs_to size others [] (before ++ concat f2) o2 (length (concat o1) + after) all first in
    let whole : fields ≡ o2 = parts1 ∙ rw (parts2, h2.0, last.0, append-nil) refl in
    record {
      pairs = pairs.pairs;
      are = are_options others pairs.pairs (are_next others [] pairs.pairs pairs.next);
      say = sym (ap (λ (s : Seen). s.options) pairs.joined) ∙ last.1;
      parts = whole ∙ pairs.parts;
    }

pub options_from : (others : Others) (pairs : List Pair) (before : List ℕ) → AreOptions others pairs → Follows (all_options others) before (pairs_fields pairs) 0 (options_of pairs)
unfolding all_options rest_of_options
options_from others pairs before are =
    let size : ℕ = length (concat (pairs_fields pairs)) + 0 in
    let all = pairs_from size others [] pairs (before ++ []) (omega arith) (all_next others [] pairs (next_options_are others pairs are)) in (
      seen_of pairs,
      pairs_fields pairs,
      [],
      sym (append-nil (pairs_fields pairs)),
      (
        size,
        [],
        pairs_fields pairs,
        refl,
        (refl, refl),
        subst (λ (s : Seen). Follows (options_to_end size others s) (before ++ []) (pairs_fields pairs) 0 (seen_of pairs)) nothing_seen all,
      ),
      (refl, refl),
    )

pub ends-options : (others : Others) → EndsTheBytes (all_options others)
unfolding all_options rest_of_options
ends-options others =
    ends_before (rest_of_options others nothing) _ (record {
      at_end = λ before fields after all follows.
          let (size, f2, o2, parts2, h2, h3) = follows in
          let first = subst (λ (s : Seen). Follows (options_to_end size others s) (before ++ concat f2) o2 after all) (sym nothing_seen) h3 in
          at_end size others [] (before ++ concat f2) o2 after all (omega (arith, h2.1)) first;
    })

-- ---- requests

pub record RequestFields (name : List ℕ) (options : Options) (fields : List (List ℕ)) : Type 0 where
  pub mode : List ℕ
  pub others : List (List ℕ)
  pub is_name : IsName name
  pub octet : is_octet mode ≡ true
  pub is_text : IsPacketText mode
  pub say : SayOptions PassedOver options others
  pub parts : fields ≡ ended_text name ∷ ended_text mode ∷ others

pub request_to : (before : List ℕ) (fields : List (List ℕ)) (after : ℕ) (value : List ℕ × Options) → Follows request_body before fields after value → RequestFields value.0 value.1 fields
unfolding request_body
request_to before fields after value follows =
    let (file, f1, o1, parts1, h1, (mode, f2, o2, parts2, h2, (u, f3, o3, parts3, h3, (asked, f4, o4, parts4, h4, last)))) = follows in
    let one = spelled-file_name.to before f1 (length (concat o1) + after) file h1 in
    let two = spelled-zero_text.to (before ++ concat f1) f2 (length (concat o2) + after) mode h2 in
    let four = options_to PassedOver (((before ++ concat f1) ++ concat f2) ++ concat f3) f4 (length (concat o4) + after) asked h4 in
    let whole : fields ≡ ended_text file ∷ ended_text mode ∷ f4 = rw (parts1, one.0, parts2, two.0, parts3, h3.0, parts4, last.0, append-nil) refl in
    subst (λ (v : List ℕ × Options). RequestFields v.0 v.1 fields) last.1 (record { mode = mode; others = f4; is_name = one.1; octet = h3.1; is_text = two.1; say = four; parts = whole })

pub request_from : (before : List ℕ) (name mode : List ℕ) (pairs : List Pair) → IsName name → IsPacketText mode → is_octet mode ≡ true → AreOptions PassedOver pairs
    → Follows request_body before (ended_text name ∷ ended_text mode ∷ pairs_fields pairs) 0 (name, options_of pairs)
unfolding request_body
request_from before name mode pairs is_name is_text octet are = (
  name,
  ended_text name ∷ [],
  ended_text mode ∷ pairs_fields pairs,
  refl,
  spelled-file_name.from before (length (concat (ended_text mode ∷ pairs_fields pairs)) + 0) name is_name,
  (
    mode,
    ended_text mode ∷ [],
    pairs_fields pairs,
    refl,
    (refl, is_text.no_zero, is_text.bytes),
    (
      tt,
      [],
      pairs_fields pairs,
      refl,
      (refl, octet),
      (
        options_of pairs,
        pairs_fields pairs,
        [],
        sym (append-nil (pairs_fields pairs)),
        options_from PassedOver pairs (((before ++ concat (ended_text name ∷ [])) ++ concat (ended_text mode ∷ [])) ++ []) are,
        (refl, refl),
      ),
    ),
  ),
)

pub ends-request : EndsTheBytes request_body
unfolding request_body
ends-request = ends_last file_name _ (λ file. ends_last zero_text _ (λ mode. ends_last (check (is_octet mode) faults.Mode) _ (λ u. ends_before (all_options PassedOver) _ (ends-options PassedOver))))

-- ---- blocks

nothing_more : (before : List ℕ) → Follows (ended faults.Rest) before [] 0 tt
nothing_more before = (placed-ended faults.Rest).from before 0 tt refl

pub record DataFields (block : ℕ) (payload : List ℕ) (fields : List (List ℕ)) : Type 0 where
  pub number : block < 2 ^ 16
  pub size : length payload ≤ 65464
  pub are_bytes : IsBytes payload
  pub parts : fields ≡ number_bytes 2 block ∷ payload ∷ []

pub data_to : (before : List ℕ) (fields : List (List ℕ)) (after : ℕ) (value : ℕ × List ℕ) → Follows data_body before fields after value → DataFields value.0 value.1 fields
unfolding data_body payload_bytes raw
data_to before fields after value follows =
    let (number, f1, o1, parts1, h1, (bytes, f2, o2, parts2, (size, g1, q1, pieces, g2, g3), (u, f3, o3, parts3, h3, last))) = follows in
    let one = spelled-word.to before f1 (length (concat o1) + after) number h1 in
    let three = (placed-ended faults.Rest).to ((before ++ concat f1) ++ concat f2) f3 (length (concat o3) + after) u h3 in
    let whole : fields ≡ number_bytes 2 number ∷ bytes ∷ [] = rw (parts1, one.0, parts2, pieces, g2.0, g3.0, parts3, three.0, last.0) refl in
    let fits : length bytes ≤ 65464 = omega (arith, g3.1) in
    subst (λ (v : ℕ × List ℕ). DataFields v.0 v.1 fields) last.1 (record { number = one.1; size = fits; are_bytes = g3.2; parts = whole })

pub data_from : (before : List ℕ) (block : ℕ) (payload : List ℕ) → block < 2 ^ 16 → length payload ≤ 65464 → IsBytes payload
    → Follows data_body before (number_bytes 2 block ∷ payload ∷ []) 0 (block, payload)
unfolding data_body payload_bytes raw
data_from before block payload number fits are =
    let first : List ℕ = before ++ concat (number_bytes 2 block ∷ []) in
    let size : ℕ = length (concat (payload ∷ [])) + (length (concat []) + 0) in
    let is : length payload ≡ min size 65464 = omega (arith, ap length (append-nil payload), fits) in (
      block,
      number_bytes 2 block ∷ [],
      payload ∷ [],
      refl,
      spelled-word.from before (length (concat (payload ∷ [])) + 0) block number,
      (payload, payload ∷ [], [], refl, (size, [], payload ∷ [], refl, (refl, refl), (refl, is, are)), (tt, [], [], refl, nothing_more (first ++ concat (payload ∷ [])), (refl, refl))),
    )

pub ends-data : EndsTheBytes data_body
unfolding data_body
ends-data = ends_last word _ (λ number. ends_last payload_bytes _ (λ bytes. ends_before (ended faults.Rest) _ (ends_at_end faults.Rest)))

-- ---- acknowledgements

pub record AckFields (block : ℕ) (fields : List (List ℕ)) : Type 0 where
  pub number : block < 2 ^ 16
  pub parts : fields ≡ number_bytes 2 block ∷ []

pub ack_to : (before : List ℕ) (fields : List (List ℕ)) (after : ℕ) (value : ℕ) → Follows ack_body before fields after value → AckFields value fields
unfolding ack_body
ack_to before fields after value follows =
    let (number, f1, o1, parts1, h1, (u, f3, o3, parts3, h3, last)) = follows in
    let one = spelled-word.to before f1 (length (concat o1) + after) number h1 in
    let three = (placed-ended faults.Rest).to (before ++ concat f1) f3 (length (concat o3) + after) u h3 in
    let whole : fields ≡ number_bytes 2 number ∷ [] = rw (parts1, one.0, parts3, three.0, last.0) refl in
    subst (λ (v : ℕ). AckFields v fields) last.1 (record { number = one.1; parts = whole })

pub ack_from : (before : List ℕ) (block : ℕ) → block < 2 ^ 16 → Follows ack_body before (number_bytes 2 block ∷ []) 0 block
unfolding ack_body
ack_from before block number = (
  block,
  number_bytes 2 block ∷ [],
  [],
  refl,
  spelled-word.from before (length (concat []) + 0) block number,
  (tt, [], [], refl, nothing_more (before ++ concat (number_bytes 2 block ∷ [])), (refl, refl)),
)

pub ends-ack : EndsTheBytes ack_body
unfolding ack_body
ends-ack = ends_last word _ (λ number. ends_before (ended faults.Rest) _ (ends_at_end faults.Rest))

-- ---- errors

pub record ErrorFields (code : ℕ) (message : List ℕ) (fields : List (List ℕ)) : Type 0 where
  pub number : code < 2 ^ 16
  pub is_text : IsPacketText message
  pub parts : fields ≡ number_bytes 2 code ∷ ended_text message ∷ []

pub error_to : (before : List ℕ) (fields : List (List ℕ)) (after : ℕ) (value : ℕ × List ℕ) → Follows error_body before fields after value → ErrorFields value.0 value.1 fields
unfolding error_body
error_to before fields after value follows =
    let (code, f1, o1, parts1, h1, (message, f2, o2, parts2, h2, (u, f3, o3, parts3, h3, last))) = follows in
    let one = spelled-word.to before f1 (length (concat o1) + after) code h1 in
    let two = spelled-zero_text.to (before ++ concat f1) f2 (length (concat o2) + after) message h2 in
    let three = (placed-ended faults.Rest).to ((before ++ concat f1) ++ concat f2) f3 (length (concat o3) + after) u h3 in
    let whole : fields ≡ number_bytes 2 code ∷ ended_text message ∷ [] = rw (parts1, one.0, parts2, two.0, parts3, three.0, last.0) refl in
    subst (λ (v : ℕ × List ℕ). ErrorFields v.0 v.1 fields) last.1 (record { number = one.1; is_text = two.1; parts = whole })

pub error_from : (before : List ℕ) (code : ℕ) (message : List ℕ) → code < 2 ^ 16 → IsPacketText message → Follows error_body before (number_bytes 2 code ∷ ended_text message ∷ []) 0 (code, message)
unfolding error_body
error_from before code message number is = (
  code,
  number_bytes 2 code ∷ [],
  ended_text message ∷ [],
  refl,
  spelled-word.from before (length (concat (ended_text message ∷ [])) + 0) code number,
  (
    message,
    ended_text message ∷ [],
    [],
    refl,
    (refl, is.no_zero, is.bytes),
    (tt, [], [], refl, nothing_more ((before ++ concat (number_bytes 2 code ∷ [])) ++ concat (ended_text message ∷ [])), (refl, refl)),
  ),
)

pub ends-error : EndsTheBytes error_body
unfolding error_body
ends-error = ends_last word _ (λ number. ends_last zero_text _ (λ bytes. ends_before (ended faults.Rest) _ (ends_at_end faults.Rest)))
