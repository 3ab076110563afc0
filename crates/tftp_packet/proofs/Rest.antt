-- Options up to the end of the bytes, one after the other.
use Rattle.std.proofs.Common.{◌≡◌, ℕ, zero, suc, ◌-◌, ◌<◌, ◌≤◌, false, List, length, take, Option, Some, None, Result, Ok, Err, refl, ap, sym, subst, ◌∙◌, arith, inl, inr, length-drop, [], ◌∷◌}
use Rattle.std.specs.Prelude.{◌==◌}
use Rattle.std.proofs.lemmas.Bool.{ne_eqb, cases_lt}
use Rattle.field_grammar.specs.Cursor.{Cursor, advanced}
use Rattle.field_grammar.specs.Grammar.{Grammar, give, check, read, zero_ended_at, before_zero, ◌then◌, ◌>>=◌, ◌>>◌}
use Rattle.field_grammar.proofs.MoveLemmas.{fewer_left}
use Rattle.field_grammar.proofs.StepLemmas.{then_ok, same_value}
use Rattle.tftp_packet.specs.declared.fault.PacketFault.{PacketFault}
use Rattle.tftp_packet.specs.declared.fault.PacketFault.TheVariants as faults
use Rattle.tftp_packet.specs.declared.options.Options.{Options}
use Rattle.tftp_packet.specs.declared.options.Others.{Others}
use Rattle.tftp_packet.specs.declared.options.Seen.{Seen}
use Rattle.field_grammar.specs.declared.fault.FieldFault.TheVariants.{Short}
use Rattle.std.specs.Prelude.{option_map}
use Rattle.std.specs.Result.{result_map_both}
use Rattle.tftp_packet.specs.Options.{unended, zero_text, nothing, with_known, known_of, said_by, may_follow, may_have, one_option, options_to_end, rest_of_options, all_options}

-- ---- an option takes bytes

one_less : (n : ℕ) (o : Option ℕ) → option_map suc o ≡ Some n → (m : ℕ) × (o ≡ Some m) × (suc m ≡ n)
one_less n None e = absurd cc
one_less n (Some m) e = (m, refl, cc)

zero_within : (xs : List ℕ) (n : ℕ) → before_zero xs ≡ Some n → n < length xs
zero_within [] n e = absurd cc
zero_within (zero ∷ xs) n e = let is : 0 ≡ n = cc in omega arith
zero_within (suc b ∷ xs) n e =
    let (m, found, is) = one_less n (before_zero xs) e in
    let less = zero_within xs m found in
    omega arith

text_takes : (c d : Cursor) (text : List ℕ) (o : Option ℕ) → before_zero c.rest ≡ o → result_map_both (λ x. x) unended (zero_ended_at Short c o) ≡ Ok (text, d) → length d.rest < length c.rest
text_takes c d text None found e = absurd cc
text_takes c d text (Some n) found e =
    let is = same_value {F = PacketFault} (take n c.rest, advanced (suc n) c) (text, d) e in
    let less = zero_within c.rest n found in
    subst (λ (p : List ℕ × Cursor). length p.1.rest < length c.rest) is (omega (arith, less, length-drop (suc n) c.rest))

-- what stands after the name of an option
abbrev after_name : Others → Seen → ℕ → List ℕ → Grammar PacketFault Seen
after_name others seen offset name =
    check (may_follow others seen name) (faults.Option offset)
    >> (zero_text >>= (λ value. check (may_have others name value) (faults.Option offset) >> give (with_known seen (known_of name) (said_by (known_of name) value))))

shorter : (others : Others) (seen : Seen) (c d : Cursor) (more : Seen) → read (one_option others seen) c ≡ Ok (more, d) → length d.rest < length c.rest
unfolding one_option
shorter others seen c d more e =
    let (x, first, second) = then_ok (read zero_text c) (λ x. read (after_name others seen (length c.before) x.0) x.1) (more, d) e in
    let one = text_takes c x.1 x.0 (before_zero c.rest) refl first in
    let two = fewer_left (after_name others seen (length c.before) x.0) x.1 d more second in
    omega (arith, one, two)

-- ---- as many steps as there are bytes, or more

idle : (n : ℕ) (others : Others) (seen : Seen) (c : Cursor) → length c.rest ≡ 0 → read (options_to_end n others seen) c ≡ Ok (seen, c)
unfolding options_to_end
idle zero others seen c none = refl
idle (suc n) others seen c none = rw none refl

busy : (n : ℕ) (others : Others) (seen : Seen) (c : Cursor) → 0 < length c.rest
    → read (options_to_end (suc n) others seen) c ≡ (read (one_option others seen) c then (λ x. read (options_to_end n others x.0) x.1))
unfolding options_to_end
busy n others seen c some =
    let more : (length c.rest == 0) ≡ false = ne_eqb (length c.rest) 0 (λ e. omega (arith, e, some)) in
    rw more refl

enough : (n m : ℕ) (others : Others) (seen : Seen) (c : Cursor) → length c.rest ≤ n → length c.rest ≤ m → read (options_to_end n others seen) c ≡ read (options_to_end m others seen) c
enough zero m others seen c one two =
    let none : length c.rest ≡ 0 = omega (arith, one) in
    idle zero others seen c none ∙ sym (idle m others seen c none)
enough (suc n) zero others seen c one two =
    let none : length c.rest ≡ 0 = omega (arith, two) in
    idle (suc n) others seen c none ∙ sym (idle zero others seen c none)
enough (suc n) (suc m) others seen c one two =
    elim (cases_lt 0 (length c.rest)) [
      | inl some ↦ busy n others seen c some ∙ (each (enough n m others) (read (one_option others seen) c) refl ∙ sym (busy m others seen c some))
      | inr none ↦
          let empty : length c.rest ≡ 0 = omega (arith, none) in
          idle (suc n) others seen c empty ∙ sym (idle (suc m) others seen c empty)
    ]
  where
    each : ((more : Seen) (d : Cursor) → length d.rest ≤ n → length d.rest ≤ m → read (options_to_end n others more) d ≡ read (options_to_end m others more) d)
        → (r : Result (Seen × Cursor) PacketFault) → read (one_option others seen) c ≡ r
        → (r then (λ x. read (options_to_end n others x.0) x.1)) ≡ (r then (λ x. read (options_to_end m others x.0) x.1))
    each later (Err f) e = refl
    each later (Ok (more, d)) e =
        let less = shorter others seen c d more e in
        later more d (omega (arith, less, one)) (omega (arith, less, two))

-- ---- the loop

one_more : (others : Others) (seen : Seen) (c : Cursor) → 0 < length c.rest
    → read (rest_of_options others seen) c ≡ (read (one_option others seen) c then (λ x. read (options_to_end (length c.rest - 1) others x.0) x.1))
unfolding rest_of_options
one_more others seen c some =
    let size : length c.rest ≡ suc (length c.rest - 1) = omega (arith, some) in
    ap (λ (n : ℕ). read (options_to_end n others seen) c) size ∙ busy (length c.rest - 1) others seen c some

goes_on : (others : Others) (seen more : Seen) (c d : Cursor) → 0 < length c.rest → read (one_option others seen) c ≡ Ok (more, d) → read (rest_of_options others seen) c ≡ read (rest_of_options others more) d
unfolding rest_of_options
goes_on others seen more c d some here =
    let less = shorter others seen c d more here in
    one_more others seen c some ∙ (
    ap (λ (r : Result (Seen × Cursor) PacketFault). r then (λ x. read (options_to_end (length c.rest - 1) others x.0) x.1)) here
    ∙ enough (length c.rest - 1) (length d.rest) others more d (omega (arith, less)) (omega arith)
    )

stops : (others : Others) (seen : Seen) (c : Cursor) (f : PacketFault) → 0 < length c.rest → read (one_option others seen) c ≡ Err f → read (rest_of_options others seen) c ≡ Err f
stops others seen c f some here =
    one_more others seen c some ∙ ap (λ (r : Result (Seen × Cursor) PacketFault). r then (λ x. read (options_to_end (length c.rest - 1) others x.0) x.1)) here

is_done : (others : Others) (seen : Seen) (c : Cursor) → length c.rest ≡ 0 → read (rest_of_options others seen) c ≡ Ok (seen, c)
unfolding rest_of_options
is_done others seen c none = idle (length c.rest) others seen c none

abbrev options_seen : Result (Seen × Cursor) PacketFault → Result (Options × Cursor) PacketFault
options_seen r = r then (λ x. Ok (x.0.options, x.1))

-- what is kept of all options is what they say
options_are_read : (others : Others) (c : Cursor) → read (all_options others) c ≡ options_seen (read (rest_of_options others nothing) c)
unfolding all_options
options_are_read others c = refl

-- ---- the loop of the code

-- it goes on
pub options_go_on : (others : Others) (seen more : Seen) (c d first : Cursor) → 0 < length c.rest → read (one_option others seen) c ≡ Ok (more, d)
    → read (rest_of_options others seen) c ≡ read (rest_of_options others nothing) first
    → read (rest_of_options others more) d ≡ read (rest_of_options others nothing) first
options_go_on others seen more c d first some here yet = sym (goes_on others seen more c d some here) ∙ yet

-- it ends with a fault
pub options_refused : (others : Others) (seen : Seen) (c first : Cursor) (f : PacketFault) → 0 < length c.rest → read (one_option others seen) c ≡ Err f
    → read (rest_of_options others seen) c ≡ read (rest_of_options others nothing) first
    → read (all_options others) first ≡ Err f
options_refused others seen c first f some here yet =
    options_are_read others first ∙ ap options_seen (sym yet ∙ stops others seen c f some here)

-- it is done
pub options_done : (others : Others) (seen : Seen) (c first : Cursor) → length c.rest ≤ 0
    → read (rest_of_options others seen) c ≡ read (rest_of_options others nothing) first
    → read (all_options others) first ≡ Ok (seen.options, c)
options_done others seen c first none yet =
    options_are_read others first ∙ ap options_seen (sym yet ∙ is_done others seen c (omega (arith, none)))

-- an option takes bytes
pub option_takes : (others : Others) (seen more : Seen) (c d : Cursor) → read (one_option others seen) c ≡ Ok (more, d) → length d.rest < length c.rest
option_takes others seen more c d e = shorter others seen c d more e
