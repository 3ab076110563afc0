-- Pairs that stand back to back up to the end, and what is asked of all of them.
use Rattle.std.proofs.Common.{◌≡◌, ℕ, zero, suc, ◌+◌, ◌≤◌, Bool, true, false, cond, List, [], ◌∷◌, ◌++◌, length, Option, Some, None, refl, ap, sym, subst, ◌∙◌, append_assoc, arith, inl, inr}
use Rattle.std.specs.Prelude.{◌==◌, nat_lt, ◌&&◌, not, count_by, MatchBool, ⊤}
use Rattle.std.specs.Option.{is_some}
use Rattle.std.specs.List.{AllByRecursion, concat}
use Rattle.std.proofs.lemmas.Bool.{and_parts, and_from, lt-ltb, ltb-true, eqb-true, ne_eqb, cases_lt, not-true}
use Rattle.std.proofs.lemmas.List.{append-nil, length-append, nil_from_length}
use Rattle.std.proofs.lemmas.List.Folds.{concat-append}
use Rattle.std.proofs.lemmas.List.Sums.{sum_by-append}
use Rattle.field_grammar.specs.Grammar.{Follows}
use Rattle.tftp_packet.specs.declared.options.Known.{Known}
use Rattle.tftp_packet.specs.declared.options.Others.{Others}
use Rattle.tftp_packet.specs.declared.options.Others.TheVariants.{PassedOver, Refused}
use Rattle.tftp_packet.specs.declared.options.Seen.{Seen}
use Rattle.tftp_packet.specs.Options.{Pair, IsPacketText, IsPair, IsOfKind, MayStand, is_named, known_of, said_by, value_of, has, is_new, admits, may_follow, may_have, ended_text, pair_fields, pairs_fields, one_option, options_to_end}
use Rattle.tftp_packet.proofs.NameLemmas.{NamesAs, names_one, named_known, is_its_name}
use Rattle.tftp_packet.proofs.KeptLemmas.{is_among, among-other, among-same, seen_of, has_among, kept}

-- ---- one pair

-- what the format asks of a pair after those so far
pub record IsNext (others : Others) (so_far : List Pair) (pair : Pair) : Type 0 where
  pub name : IsPacketText pair.name
  pub follows : may_follow others (seen_of so_far) pair.name ≡ true
  pub value : IsPacketText pair.value
  pub has : may_have others pair.name pair.value ≡ true

-- what one option is: a pair after those so far, which is kept
pub record OneMore (others : Others) (so_far : List Pair) (fields : List (List ℕ)) (more : Seen) : Type 0 where
  pub pair : Pair
  pub parts : fields ≡ pair_fields pair
  pub next : IsNext others so_far pair
  pub kept : more ≡ seen_of (so_far ++ pair ∷ [])

next_to : (others : Others) (so_far : List Pair) (before : List ℕ) (fields : List (List ℕ)) (after : ℕ) (more : Seen)
    → Follows (one_option others (seen_of so_far)) before fields after more → OneMore others so_far fields more
unfolding one_option
next_to others so_far before fields after more follows =
    let (b, f1, o1, parts1, h1, (name, f2, o2, parts2, h2, (u, f3, o3, parts3, h3, (value, f4, o4, parts4, h4, (v, f5, o5, parts5, h5, last))))) = follows in
    let pair : Pair = record { name = name; value = value } in record {
      pair = pair;
      parts = rw (parts1, h1.0, parts2, h2.0, parts3, h3.0, parts4, h4.0, parts5, h5.0, last.0) refl;
      next = record {
        name = record { no_zero = h2.1; bytes = h2.2 };
        follows = h3.1;
        value = record { no_zero = h4.1; bytes = h4.2 };
        has = h5.1;
      };
      kept = sym last.1 ∙ sym (kept others so_far pair h3.1);
    }

next_from : (others : Others) (so_far : List Pair) (before : List ℕ) (after : ℕ) (pair : Pair) → IsNext others so_far pair
    → Follows (one_option others (seen_of so_far)) before (pair_fields pair) after (seen_of (so_far ++ pair ∷ []))
unfolding one_option
next_from others so_far before after pair is = (
  before,
  [],
  pair_fields pair,
  refl,
  (refl, refl),
  (
    pair.name,
    ended_text pair.name ∷ [],
    ended_text pair.value ∷ [],
    refl,
    (refl, is.name.no_zero, is.name.bytes),
    (
      tt,
      [],
      ended_text pair.value ∷ [],
      refl,
      (refl, is.follows),
      (pair.value, ended_text pair.value ∷ [], [], refl, (refl, is.value.no_zero, is.value.bytes), (tt, [], [], refl, (refl, is.has), (refl, sym (kept others so_far pair is.follows)))),
    ),
  ),
)

-- ---- all of them

abbrev pub AllNext : Others → List Pair → List Pair → Type 0
AllNext others so_far [] = ⊤
AllNext others so_far (pair ∷ pairs) = IsNext others so_far pair × AllNext others (so_far ++ pair ∷ []) pairs

-- the pairs after those so far that fields say
pub record PairsTo (others : Others) (so_far : List Pair) (fields : List (List ℕ)) (all : Seen) : Type 0 where
  pub pairs : List Pair
  pub joined : all ≡ seen_of (so_far ++ pairs)
  pub parts : fields ≡ pairs_fields pairs
  pub next : AllNext others so_far pairs

no_pairs_to : (others : Others) (so_far : List Pair) (fields : List (List ℕ)) (all : Seen) → fields ≡ [] → seen_of so_far ≡ all → PairsTo others so_far fields all
no_pairs_to others so_far fields all none same = record { pairs = []; joined = sym (ap seen_of (append-nil so_far) ∙ same); parts = none; next = tt }

-- what a test chooses
pub either : (b : Bool) (P Q R : Type 0) → (b ≡ true → P → R) → (b ≡ false → Q → R) → MatchBool b P Q → R
either true P Q R one other is = one refl is
either false P Q R one other is = other refl is

pub otherwise : (b : Bool) (P Q : Type 0) → b ≡ false → Q → MatchBool b P Q
otherwise true P Q e q = absurd cc
otherwise false P Q e q = q

pub pairs_to : (n : ℕ) (others : Others) (so_far : List Pair) (before : List ℕ) (fields : List (List ℕ)) (after : ℕ) (all : Seen)
    → Follows (options_to_end n others (seen_of so_far)) before fields after all → PairsTo others so_far fields all
unfolding options_to_end
pairs_to zero others so_far before fields after all follows = no_pairs_to others so_far fields all follows.0 follows.1
pairs_to (suc n) others so_far before fields after all follows =
    let (size, f1, o1, parts1, h1, rest) = follows in
    let whole : fields ≡ o1 = rw (parts1, h1.0) refl in
    subst (λ (f : List (List ℕ)). PairsTo others so_far f all) (sym whole) (
    either (size == 0) _ _ (PairsTo others so_far o1 all) (λ _ r. no_pairs_to others so_far o1 all r.0 r.1) (
    λ _ r.
    let (then, f2, o2, parts2, h2, later) = r in
    let one = next_to others so_far (before ++ concat f1) f2 (length (concat o2) + after) then h2 in
    let pair = one.pair in
    let after_it = subst (λ (s : Seen). Follows (options_to_end n others s) ((before ++ concat f1) ++ concat f2) o2 after all) one.kept later in
    let more = pairs_to n others (so_far ++ pair ∷ []) ((before ++ concat f1) ++ concat f2) o2 after all after_it in record {
      pairs = pair ∷ more.pairs;
      joined = more.joined ∙ ap seen_of (append_assoc so_far (pair ∷ []) more.pairs);
      parts = parts2 ∙ (ap (λ (f : List (List ℕ)). f ++ o2) one.parts ∙ ap (λ (f : List (List ℕ)). pair_fields pair ++ f) more.parts);
      next = (one.next, more.next);
    }
    ) rest
    )

size_of_pair : (pair : Pair) (pairs : List Pair) → length (concat (pairs_fields pairs)) + 2 ≤ length (concat (pairs_fields (pair ∷ pairs)))
size_of_pair pair pairs =
    simp (length-append) (omega arith)

pub pairs_from : (n : ℕ) (others : Others) (so_far pairs : List Pair) (before : List ℕ) → length (concat (pairs_fields pairs)) ≤ n → AllNext others so_far pairs
    → Follows (options_to_end n others (seen_of so_far)) before (pairs_fields pairs) 0 (seen_of (so_far ++ pairs))
unfolding options_to_end
pairs_from zero others so_far [] before fits next = (refl, sym (ap seen_of (append-nil so_far)))
pairs_from zero others so_far (pair ∷ pairs) before fits next = absurd (omega (arith, size_of_pair pair pairs, fits))
pairs_from (suc n) others so_far [] before fits next = (0, [], [], refl, (refl, refl), (refl, sym (ap seen_of (append-nil so_far))))
pairs_from (suc n) others so_far (pair ∷ pairs) before fits next =
    let more = size_of_pair pair pairs in
    let some : (length (concat (pairs_fields (pair ∷ pairs))) + 0 == 0) ≡ false = ne_eqb (length (concat (pairs_fields (pair ∷ pairs))) + 0) 0 (λ e. omega (arith, more, e)) in
    let later = pairs_from n others (so_far ++ pair ∷ []) pairs ((before ++ []) ++ concat (pair_fields pair)) (omega (arith, more, fits)) next.1 in (
      length (concat (pairs_fields (pair ∷ pairs))) + 0,
      [],
      pairs_fields (pair ∷ pairs),
      refl,
      (refl, refl),
      otherwise (length (concat (pairs_fields (pair ∷ pairs))) + 0 == 0) _ _ some (
        seen_of (so_far ++ pair ∷ []),
        pair_fields pair,
        pairs_fields pairs,
        refl,
        next_from others so_far (before ++ []) (length (concat (pairs_fields pairs)) + 0) pair next.0,
        subst (λ (v : List Pair). Follows (options_to_end n others (seen_of (so_far ++ pair ∷ []))) ((before ++ []) ++ concat (pair_fields pair)) (pairs_fields pairs) 0 (seen_of v)) (append_assoc so_far (pair ∷ []) pairs) later,
      ),
    )

-- ---- the end

size_of_one : (pair : Pair) → 2 ≤ length (concat (pair_fields pair))
size_of_one pair = simp (length-append) (omega arith)

-- this many bytes have no more pairs than bytes, so that nothing stands after all of them
pub at_end : (n : ℕ) (others : Others) (so_far : List Pair) (before : List ℕ) (fields : List (List ℕ)) (after : ℕ) (all : Seen)
    → length (concat fields) + after ≤ n → Follows (options_to_end n others (seen_of so_far)) before fields after all → after ≡ 0
unfolding options_to_end
at_end zero others so_far before fields after all fits follows = omega (arith, fits)
at_end (suc n) others so_far before fields after all fits follows =
    let (size, f1, o1, parts1, h1, rest) = follows in
    either (size == 0) _ _ (after ≡ 0) (λ none r. omega (arith, eqb-true _ _ none, h1.1)) (
    λ _ r.
    let (then, f2, o2, parts2, h2, later) = r in
    let one = next_to others so_far (before ++ concat f1) f2 (length (concat o2) + after) then h2 in
    let after_it = subst (λ (s : Seen). Follows (options_to_end n others s) ((before ++ concat f1) ++ concat f2) o2 after all) one.kept later in
    let whole : fields ≡ f2 ++ o2 = parts1 ∙ (ap (λ (f : List (List ℕ)). f ++ o1) h1.0 ∙ parts2) in
    let size : length (concat fields) ≡ length (concat f2) + length (concat o2) = ap (λ (f : List (List ℕ)). length (concat f)) whole ∙ (ap length (concat-append f2 o2) ∙ length-append (concat f2) (concat o2)) in
    let two : 2 ≤ length (concat f2) = subst (λ (f : List (List ℕ)). 2 ≤ length (concat f)) (sym one.parts) (size_of_one one.pair) in
    at_end n others (so_far ++ one.pair ∷ []) ((before ++ concat f1) ++ concat f2) o2 after all (omega (arith, size, two, fits)) after_it
    ) rest

-- ---- what is asked of all pairs

counted : (known : Known) (pair : Pair) (pairs : List Pair)
    → count_by (λ p. is_named known p.name) (pair ∷ pairs) ≡ 0 + cond (is_named known pair.name) 1 0 + count_by (λ p. is_named known p.name) pairs
counted known pair pairs = sum_by-append (λ p. cond (is_named known p.name) 1 0) (pair ∷ []) pairs

abbrev times_named : Known → List Pair → ℕ
times_named known pairs = count_by (λ p. is_named known p.name) pairs

abbrev said_already : Known → List Pair → ℕ
said_already known so_far = cond (is_among known so_far) 1 0

-- the same of pairs after others
pub record AreNext (others : Others) (so_far pairs : List Pair) : Type 0 where
  pub texts : AllByRecursion (λ pair. IsPair pair) pairs
  pub once : (known : Known) → times_named known pairs + said_already known so_far ≤ 1
  pub allowed : AllByRecursion (λ pair. MayStand others pair) pairs

of_kind : (known : Known) (pair : Pair) → is_named known pair.name ≡ true → is_some (value_of known pair.value) ≡ true → IsOfKind pair
of_kind known pair named is = go (value_of known pair.value) refl is
  where
    go : (said : Option ℕ) → value_of known pair.value ≡ said → is_some said ≡ true → IsOfKind pair
    go None e some = absurd cc
    go (Some n) e some = (known, n, named, e)

may_stand_to : (others : Others) (so_far : List Pair) (pair : Pair) → IsNext others so_far pair → MayStand others pair
unfolding may_have
may_stand_to PassedOver so_far pair next = tt
may_stand_to Refused so_far pair next = go (known_of pair.name) (names_one pair.name) next.has
  where
    go : (known : Option Known) → NamesAs pair.name known → is_some (said_by known pair.value) ≡ true → IsOfKind pair
    go None names some = absurd cc
    go (Some known) names some = of_kind known pair (is_its_name known pair.name names) some

is_pair_to : (others : Others) (so_far : List Pair) (pair : Pair) → IsNext others so_far pair → IsPair pair
unfolding may_follow
is_pair_to others so_far pair next =
    let (first, last) = and_parts (nat_lt 0 (length pair.name) && is_new (seen_of so_far) (known_of pair.name)) (admits others (is_some (known_of pair.name))) next.follows in
    let some = ltb-true 0 (length pair.name) (and_parts (nat_lt 0 (length pair.name)) (is_new (seen_of so_far) (known_of pair.name)) first).0 in
    record { name = next.name; named = λ e. omega (arith, some, ap length e); value = next.value }

-- a known option that may follow is new
is_new_to : (others : Others) (so_far : List Pair) (pair : Pair) (known : Known) → IsNext others so_far pair → is_named known pair.name ≡ true → is_among known so_far ≡ false
unfolding may_follow
is_new_to others so_far pair known next named =
    let (first, last) = and_parts (nat_lt 0 (length pair.name) && is_new (seen_of so_far) (known_of pair.name)) (admits others (is_some (known_of pair.name))) next.follows in
    let new = (and_parts (nat_lt 0 (length pair.name)) (is_new (seen_of so_far) (known_of pair.name)) first).1 in
    let unnamed = not-true (has (seen_of so_far) known) (subst (λ (o : Option Known). is_new (seen_of so_far) o ≡ true) (named_known known pair.name named) new) in
    sym (has_among so_far known) ∙ unnamed

next_then : (others : Others) (so_far : List Pair) (pair : Pair) (pairs : List Pair) → IsNext others so_far pair → AreNext others (so_far ++ pair ∷ []) pairs → AreNext others so_far (pair ∷ pairs)
next_then others so_far pair pairs next are = record {
  texts = (is_pair_to others so_far pair next, are.texts);
  once = λ known. once known (is_named known pair.name) refl;
  allowed = (may_stand_to others so_far pair next, are.allowed);
}
  where
    once : (known : Known) (b : Bool) → is_named known pair.name ≡ b → times_named known (pair ∷ pairs) + said_already known so_far ≤ 1
    once known true named =
        let new = is_new_to others so_far pair known next named in
        let later : times_named known pairs + 1 ≤ 1 = subst (λ (b : Bool). times_named known pairs + cond b 1 0 ≤ 1) (among-same known so_far pair named) (are.once known) in
        rw (counted known pair pairs, named, new) (omega (arith, later))
    once known false named =
        let later : times_named known pairs + said_already known so_far ≤ 1 = subst (λ (b : Bool). times_named known pairs + cond b 1 0 ≤ 1) (among-other known so_far pair named) (are.once known) in
        rw (counted known pair pairs, named) (omega (arith, later))

-- ---- the other way round

some_name : (pair : Pair) → IsPair pair → nat_lt 0 (length pair.name) ≡ true
some_name pair is =
    elim (cases_lt 0 (length pair.name)) [
      | inl some ↦ lt-ltb 0 (length pair.name) some
      | inr none ↦ absurd (is.named (nil_from_length pair.name (omega (arith, none))))
    ]

new_from : (others : Others) (so_far : List Pair) (pair : Pair) (pairs : List Pair) → AreNext others so_far (pair ∷ pairs) → is_new (seen_of so_far) (known_of pair.name) ≡ true
new_from others so_far pair pairs are = go (known_of pair.name) (names_one pair.name)
  where
    new : (known : Known) → is_named known pair.name ≡ true → (b : Bool) → times_named known (pair ∷ pairs) + cond b 1 0 ≤ 1 → not b ≡ true
    new known named false once = refl
    new known named true once = absurd (omega (arith, rw (counted known pair pairs, named) at once))

    go : (known : Option Known) → NamesAs pair.name known → is_new (seen_of so_far) known ≡ true
    go None names = refl
    go (Some known) names =
        new known (is_its_name known pair.name names) (has (seen_of so_far) known)
        (subst (λ (b : Bool). times_named known (pair ∷ pairs) + cond b 1 0 ≤ 1) (sym (has_among so_far known)) (are.once known))

admitted : (others : Others) (pair : Pair) → MayStand others pair → (admits others (is_some (known_of pair.name)) ≡ true) × (may_have others pair.name pair.value ≡ true)
unfolding may_have
admitted PassedOver pair may = (refl, refl)
admitted Refused pair (known, n, named, said) =
    let is = named_known known pair.name named in
    (rw is refl, rw (is, said) refl)

next_first : (others : Others) (so_far : List Pair) (pair : Pair) (pairs : List Pair) → AreNext others so_far (pair ∷ pairs) → IsNext others so_far pair
unfolding may_follow
next_first others so_far pair pairs are =
    let may = admitted others pair are.allowed.0 in record {
      name = are.texts.0.name;
      follows = and_from (nat_lt 0 (length pair.name) && is_new (seen_of so_far) (known_of pair.name)) (admits others (is_some (known_of pair.name))) (and_from (nat_lt 0 (length pair.name)) (is_new (seen_of so_far) (known_of pair.name)) (some_name pair are.texts.0) (new_from others so_far pair pairs are)) may.0;
      value = are.texts.0.value;
      has = may.1;
    }

next_others : (others : Others) (so_far : List Pair) (pair : Pair) (pairs : List Pair) → AreNext others so_far (pair ∷ pairs) → AreNext others (so_far ++ pair ∷ []) pairs
next_others others so_far pair pairs are = record { texts = are.texts.1; once = λ known. once known (is_named known pair.name) refl; allowed = are.allowed.1 }
  where
    once : (known : Known) (b : Bool) → is_named known pair.name ≡ b → times_named known pairs + said_already known (so_far ++ pair ∷ []) ≤ 1
    once known true named =
        let all = rw (counted known pair pairs, named) at (are.once known) in
        rw (among-same known so_far pair named) (omega (arith, all))
    once known false named =
        let all = rw (counted known pair pairs, named) at (are.once known) in
        rw (among-other known so_far pair named) (omega (arith, all))

at_most_one : (b : Bool) → 0 + cond b 1 0 ≤ 1
at_most_one true = omega arith
at_most_one false = omega arith

pub are_next : (others : Others) (so_far pairs : List Pair) → AllNext others so_far pairs → AreNext others so_far pairs
are_next others so_far [] all = record { texts = tt; once = λ known. at_most_one (is_among known so_far); allowed = tt }
are_next others so_far (pair ∷ pairs) all = next_then others so_far pair pairs all.0 (are_next others (so_far ++ pair ∷ []) pairs all.1)

pub all_next : (others : Others) (so_far pairs : List Pair) → AreNext others so_far pairs → AllNext others so_far pairs
all_next others so_far [] are = tt
all_next others so_far (pair ∷ pairs) are = (next_first others so_far pair pairs are, all_next others (so_far ++ pair ∷ []) pairs (next_others others so_far pair pairs are))
